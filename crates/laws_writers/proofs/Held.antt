-- What a stream knows of the dictionaries in arrays is what their keys count into.
use Rattle.std.proofs.Common.{◌≡◌, ℤ, List, [], ◌∷◌, Bool, true, false, Option, Some, None, sym, ap, subst, ◌∙◌, append-nil}
use Rattle.arrow_spec.specs.Kinds as kind
use Rattle.arrow_spec.specs.Kinds.{Kind, Fields}
use Rattle.arrow_spec.specs.Cells.{Cell}
use Rattle.arrow_spec.specs.Arrays.{Dictionaries, found}
use Rattle.ipc_messages.specs.Below.{child_fields, indexed, joined, listed, mapped, sized, structured, tagged, Parts, Forest, leaf, nested, none, also, cells_each, forest, kind_in, Ids, fields_with, ids, kind_with, no_fields}
use Rattle.arrow_spec.proofs.Forms.{form}
use Rattle.ipc_messages.proofs.Below.{same_by_form}
use Rattle.laws_columns.specs.Below.{plain_kind, Begins, HoldsEachAt, HoldsValuesAt, dictionary_id, first_kind, is_alike, other_fields, AreAlike, HoldAllValues}
use Rattle.laws_columns.proofs.Below.{plain_with, plain_same}
use Rattle.laws_files.specs.Below.{IsKnown, Known}
use Rattle.laws_writers.specs.Heard.{AllHaveValuesAt, GoesOn, HasValuesAt}
use Rattle.laws_writers.proofs.Apart.{Under}

begins : (deltas : Bool) (xs : List Cell) (known read : Option (List Cell)) → read ≡ known → GoesOn (Some xs) deltas known → Begins xs read
begins true xs known read e h = (h.0, e ∙ h.1)
begins false xs known read e h = ([], e ∙ h ∙ ap (λ (z : List Cell). Some z) (sym (append-nil xs)))

module _ (deltas : Bool) (c : Known) (d : Dictionaries) (told : IsKnown c d) where
  mutual
    pub held_at : (p : Parts) (k : Kind) → HasValuesAt deltas c k p → HoldsValuesAt d k p
    held_at (leaf l) k h = tt
    held_at (nested (listed x) cs) k h = each_held cs (child_fields k) h
    held_at (nested (mapped x) cs) k h = each_held cs (child_fields k) h
    held_at (nested (sized x) cs) k h = each_held cs (child_fields k) h
    held_at (nested (structured x) cs) k h = each_held cs (child_fields k) h
    held_at (nested (tagged x) cs) k h = each_held cs (child_fields k) h
    held_at (nested (indexed x) cs) k h = begins deltas (joined (cells_each cs)) (c (dictionary_id k)) (found d (dictionary_id k)) (told (dictionary_id k)) h

    each_held : (ps : Forest) (fs : Fields) → AllHaveValuesAt deltas c fs ps → HoldsEachAt d fs ps
    each_held none fs h = tt
    each_held (also p ps) fs h = (held_at p (first_kind fs) h.0, each_held ps (other_fields fs) h.1)

  pub columns_held : (ps : List Parts) (fs : Fields) → AllHaveValuesAt deltas c fs (forest ps) → HoldAllValues d fs ps
  columns_held [] fs h = tt
  columns_held (p ∷ ps) fs h = (held_at p (first_kind fs) h.0, columns_held ps (other_fields fs) h.1)

-- ── kinds ──

alike_with : (k l : Kind) (id : Option ℤ) (below : Ids) → form k ≡ form l → is_alike l (kind_with k id below) ≡ true
alike_with k l id below e = subst (λ z. kind.is_same_kind (plain_kind l) z ≡ true) (sym (plain_with k id below)) (plain_same l k (same_by_form l k (sym e)))

-- columns of the fields' kinds are of them under whatever ids
pub columns_alike : (ps : List Parts) (fs : Fields) (below : Ids) → Under fs (forest ps) → AreAlike (fields_with fs below) ps
columns_alike [] kind.none below u = tt
columns_alike [] (kind.field name nullable metadata k fs) below u = absurd u
columns_alike (p ∷ ps) kind.none below u = absurd u
columns_alike (p ∷ ps) (kind.field name nullable metadata k fs) no_fields u = (alike_with k (kind_in p) None no_fields u.0, columns_alike ps fs no_fields u.1)
columns_alike (p ∷ ps) (kind.field name nullable metadata k fs) (ids id below others) u = (alike_with k (kind_in p) id below u.0, columns_alike ps fs others u.1)
