-- Steps of a walk over arrays.
use Rattle.std.proofs.Common.{◌≡◌, ◌∙◌, sym, refl, ap, ℕ, zero, suc, ◌+◌, ◌-◌, ◌<◌, ◌≤◌, List, [], ◌∷◌, length, drop, get_or, true, false, Result, Ok, Err, IfOk, arith, inl, inr, ◌⊎◌}
use Rattle.std.specs.Prelude.{nat_le}
use Rattle.std.proofs.lemmas.Bool.Decides.{leb_tells}
use Rattle.std.proofs.lemmas.List.{at_drop_all, at_drop_more}
use Rattle.arrow_spec.specs.Kinds.{dictionary_count}
use Rattle.arrow_arrays.specs.Parts.{Forest, also, kind_in, rows_in}
use Rattle.arrow_arrays.specs.PartsOf.{forest_of, parts_of}
use Rattle.arrow_arrays.specs.declared.array.Array.{Array}
use Rattle.arrow_arrays.specs.declared.array.Array.TheVariants as arrays
use Rattle.arrow_arrays.specs.declared.array.ListArray.{ListArray}
use Rattle.arrow_arrays.specs.declared.array.FixedSizeListArray.{FixedSizeListArray}
use Rattle.arrow_arrays.specs.declared.array.MapArray.{MapArray}
use Rattle.arrow_arrays.specs.declared.array.StructArray.{StructArray}
use Rattle.arrow_arrays.specs.declared.array.UnionArray.{UnionArray}
use Rattle.arrow_arrays.specs.declared.array.DictionaryArray.{DictionaryArray}
use Rattle.laws_unify.specs.Over.{Lists}
use Rattle.laws_unify.specs.United.{taken, taken_each, taken_parts}
use Rattle.laws_unify.proofs.Goes.{entered, passed}

-- what a step comes to, said otherwise
pub ok_as : {A E : Type 0} (r : Result A E) (new x y : Lists) → x ≡ y → IfOk r (λ _. new ≡ x) → IfOk r (λ _. new ≡ y)
ok_as (Ok a) new x y e h = h ∙ e
ok_as (Err a) new x y e h = tt

-- an array in which no arrays stand has no dictionaries
pub taken_leaf : (a : Array) (number : ℕ) (us : Lists) → ((x : ListArray) → a ≡ arrays.List x → ⊥) → ((x : FixedSizeListArray) → a ≡ arrays.FixedSizeList x → ⊥) → ((x : MapArray) → a ≡ arrays.Map x → ⊥) → ((x : StructArray) → a ≡ arrays.Struct x → ⊥)
    → ((x : UnionArray) → a ≡ arrays.Union x → ⊥) → ((x : DictionaryArray) → a ≡ arrays.Dictionary x → ⊥) → us ≡ taken (parts_of a) number us
taken_leaf (arrays.List x) number us f g h i j k = absurd (f x refl)
taken_leaf (arrays.FixedSizeList x) number us f g h i j k = absurd (g x refl)
taken_leaf (arrays.Map x) number us f g h i j k = absurd (h x refl)
taken_leaf (arrays.Struct x) number us f g h i j k = absurd (i x refl)
taken_leaf (arrays.Union x) number us f g h i j k = absurd (j x refl)
taken_leaf (arrays.Dictionary x) number us f g h i j k = absurd (k x refl)
taken_leaf a number us f g h i j k = refl

pub no_more : (a b : ℕ) → b < a → nat_le a b ≡ false
no_more a b h = by (leb_tells a b)
  where
    by : ((nat_le a b ≡ true) × (a ≤ b)) ⊎ ((nat_le a b ≡ false) × (b < a)) → nat_le a b ≡ false
    by (inl t) = absurd (omega (arith, t.1, h))
    by (inr f) = f.0

pub as_many : (a b : ℕ) → a ≤ b → nat_le a b ≡ true
as_many a b h = by (leb_tells a b)
  where
    by : ((nat_le a b ≡ true) × (a ≤ b)) ⊎ ((nat_le a b ≡ false) × (b < a)) → nat_le a b ≡ true
    by (inl t) = t.0
    by (inr f) = absurd (omega (arith, f.1, h))

-- one array more
pub taken_next : (xs : List Array) (i number next : ℕ) (x : Array) (us vs whole : Lists) → i < length xs → x ≡ get_or xs i x → vs ≡ taken (parts_of x) number us → next ≡ number + dictionary_count (kind_in (parts_of x))
    → taken_each (forest_of (drop i xs)) number us ≡ whole → taken_each (forest_of (drop (i + 1) xs)) next vs ≡ whole
taken_next xs i number next x us vs whole h e step n w =
    ap (taken_each (forest_of (drop (i + 1) xs)) next) step ∙ ap (λ m. taken_each (forest_of (drop (i + 1) xs)) m (taken (parts_of x) number us)) n
    ∙ sym (at_drop_more (λ ys. taken_each (forest_of ys) number us) xs i x h ∙ ap (λ y. taken_each (also (parts_of y) (forest_of (drop (i + 1) xs))) number us) (sym e)) ∙ w

pub taken_done : (xs : List Array) (i number : ℕ) (us whole : Lists) → length xs ≤ i → taken_each (forest_of (drop i xs)) number us ≡ whole → us ≡ whole
taken_done xs i number us whole h w = sym (at_drop_all (λ ys. taken_each (forest_of ys) number us) xs i h) ∙ w

-- one part more
pub part_passed : (xs : List Array) (i rest number : ℕ) (x : Array) (us whole : Lists) → i < length xs → x ≡ get_or xs i x → nat_le (rows_in (parts_of x)) rest ≡ true
    → taken_parts rest (forest_of (drop i xs)) number us ≡ whole → taken_parts (rest - rows_in (parts_of x)) (forest_of (drop (i + 1) xs)) number us ≡ whole
part_passed xs i rest number x us whole h e le w =
    sym (at_drop_more (λ ys. taken_parts rest (forest_of ys) number us) xs i x h ∙ ap (λ y. taken_parts rest (also (parts_of y) (forest_of (drop (i + 1) xs))) number us) (sym e)
    ∙ passed rest (parts_of x) (forest_of (drop (i + 1) xs)) number us le) ∙ w

pub part_entered : (xs : List Array) (i rest number : ℕ) (x : Array) (us vs whole : Lists) → i < length xs → x ≡ get_or xs i x → nat_le (rows_in (parts_of x)) rest ≡ false → vs ≡ taken (parts_of x) number us
    → taken_parts rest (forest_of (drop i xs)) number us ≡ whole → taken_parts 0 (forest_of (drop (i + 1) xs)) number vs ≡ whole
part_entered xs i rest number x us vs whole h e gt step w =
    ap (taken_parts 0 (forest_of (drop (i + 1) xs)) number) step
    ∙ sym (at_drop_more (λ ys. taken_parts rest (forest_of ys) number us) xs i x h ∙ ap (λ y. taken_parts rest (also (parts_of y) (forest_of (drop (i + 1) xs))) number us) (sym e)
    ∙ entered rest (parts_of x) (forest_of (drop (i + 1) xs)) number us gt) ∙ w

pub parts_done : (xs : List Array) (i rest number : ℕ) (us whole : Lists) → length xs ≤ i → taken_parts rest (forest_of (drop i xs)) number us ≡ whole → us ≡ whole
parts_done xs i rest number us whole h w = sym (at_drop_all (λ ys. taken_parts rest (forest_of ys) number us) xs i h) ∙ w
