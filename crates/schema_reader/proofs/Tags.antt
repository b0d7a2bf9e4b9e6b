-- The numbers of type tables.
use Rattle.std.proofs.Common.{◌≡◌, ℕ, zero, suc, ◌<◌, List, [], ◌∷◌, None, Err, Bool, true, false, refl, arith}
use Rattle.std.specs.Prelude.{nat_eq}
use Rattle.std.proofs.lemmas.Bool.{eqb-true}
use Rattle.arrow_spec.specs.declared.error.IpcError.TheVariants.{OutOfSpec}
use Rattle.arrow_spec.specs.declared.error.OutOfSpecKind.TheVariants.{InvalidFlatbufferSchema, MissingType}
use Rattle.arrow_spec.specs.declared.error.FlatError.TheVariants.{Number}
use Rattle.arrow_spec.specs.Schema.{Tag, tags, tag_of, one_of}

not_true : (x : Bool) → (x ≡ true → ⊥) → x ≡ false
not_true true h = absurd (h refl)
not_true false h = refl

ne : (n k : ℕ) → (n ≡ k → ⊥) → nat_eq n k ≡ false
ne n k h = not_true (nat_eq n k) (λ e. h (eqb-true n k e))

-- the numbers of some cases are below another
abbrev AreBelow : ℕ → List (ℕ × Tag) → Type 0
AreBelow n [] = Unit {0}
AreBelow n (x ∷ xs) = (x.0 < n) × AreBelow n xs

none_of : (n : ℕ) (xs : List (ℕ × Tag)) → AreBelow n xs → one_of n xs ≡ None
none_of n [] h = refl
none_of n (x ∷ xs) h = rw (ne n x.0 (λ e. absurd (omega (arith, e, h.0)))) (none_of n xs h.1)

pub tag_zero : tag_of 0 ≡ Err (OutOfSpec MissingType ∷ [])
tag_zero = refl

pub tag_large : (n : ℕ) → 26 < n → tag_of n ≡ Err (OutOfSpec (InvalidFlatbufferSchema Number) ∷ [])
tag_large zero large = absurd (omega (arith, large))
tag_large (suc m) large = rw (none_of (suc m) tags (omega arith, (omega arith, (omega arith, (omega arith, (omega arith, (omega arith, (omega arith, (omega arith, (omega arith, (omega arith, (omega arith, (omega arith, (omega arith, (omega arith, (omega arith, (omega arith, (omega arith, (omega arith, (omega arith, (omega arith, (omega arith, (omega arith, (omega arith, (omega arith, (omega arith, (omega arith, tt))))))))))))))))))))))))))) refl
