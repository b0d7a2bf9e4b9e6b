-- What of fields is not written, field by field.
use Rattle.std.proofs.Common.{◌≡◌, ℕ, zero, suc, ◌+◌, ◌≤◌, List, [], ◌∷◌, ◌++◌, length, drop, Option, Some, None, true, false, inl, inr, sym, ap, ◌∙◌, subst, append-nil, arith}
use Rattle.std.specs.Prelude.{is_some, slice_get}
use Rattle.std.proofs.lemmas.List.{drop_all}
use Rattle.arrow_spec.specs.declared.error.Feature.{Feature}
use Rattle.arrow_spec.specs.declared.error.IpcError.{IpcError}
use Rattle.arrow_spec.specs.declared.error.IpcError.TheVariants.{Unsupported}
use Rattle.arrow_spec.specs.Features.{float_faults, floats_in}
use Rattle.arrow_spec.specs.Readings.{IsAmong}
use Rattle.arrow_types.specs.Child.{Child, fields_from}
use Rattle.ipc_messages.specs.Features.{IsOneOf}

-- the fields from one on
pub floats_left : (cs : List Child) (i : ℕ) (c : Child) → slice_get cs i ≡ Some c → floats_in (fields_from (drop i cs)) ≡ float_faults c.kind ++ floats_in (fields_from (drop (i + 1) cs))
floats_left [] i c h = cc
floats_left (x ∷ xs) zero c h = let e : x ≡ c = cc in ap (λ (y : Child). float_faults y.kind ++ floats_in (fields_from xs)) e
floats_left (x ∷ xs) (suc i) c h = let e : suc i + 1 ≡ suc (i + 1) = omega arith in rw e (floats_left xs i c h)

front : (xs ys : List IpcError) (e : IpcError) → IsAmong xs e → IsAmong (xs ++ ys) e
front [] ys e h = absurd h
front (x ∷ xs) ys e (inl h) = inl h
front (x ∷ xs) ys e (inr h) = inr (front xs ys e h)

-- one that a field has by itself
pub found_in : (o : Option Feature) (all left own rest : List IpcError) → all ≡ left → left ≡ own ++ rest → IsOneOf o (own ++ []) → true ≡ is_some o → IsOneOf o all
found_in None all left own rest h k i some = cc
found_in (Some f) all left own rest h k i some =
    subst (λ es. IsAmong es (Unsupported f)) (sym (h ∙ k)) (front own rest (Unsupported f) (subst (λ es. IsAmong es (Unsupported f)) (append-nil own) i))

-- a field has none
pub none_in : (o : Option Feature) (all left own rest : List IpcError) → all ≡ left → left ≡ own ++ rest → IsOneOf o (own ++ []) → false ≡ is_some o → all ≡ rest
none_in None all left own rest h k i none = h ∙ k ∙ ap (λ es. es ++ rest) (sym (append-nil own) ∙ i)
none_in (Some f) all left own rest h k i none = cc

-- none of them has
pub none_left : (cs : List Child) (i : ℕ) (all : List IpcError) → length cs ≤ i → all ≡ floats_in (fields_from (drop i cs)) → all ≡ []
none_left cs i all h e = e ∙ ap (λ xs. floats_in (fields_from xs)) (drop_all i cs h)

-- one field alone
pub one_alone : (o : Option Feature) (es : List IpcError) → IsOneOf o es → IsOneOf o (es ++ [])
one_alone o es h = subst (IsOneOf o) (sym (append-nil es)) h
