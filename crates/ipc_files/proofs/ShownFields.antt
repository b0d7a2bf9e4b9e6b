-- The columns of a batch are of the kinds of its fields, in the order asked.
use Rattle.std.proofs.Common.{◌≡◌, ◌∙◌, ℕ, suc, List, [], ◌∷◌, length, map, slice_get, Option, Some, None, Result, Ok, Err, IfOk, refl, sym, ap, subst}
use Rattle.std.specs.Option.{option_map}
use Rattle.std.specs.Rc.{rc_value}
use Rattle.std.proofs.lemmas.List.{length-map}
use Rattle.std.proofs.lemmas.Option.{slice_get-map}
use Rattle.arrow_spec.specs.declared.error.IpcError.{IpcError}
use Rattle.arrow_spec.specs.Kinds.{Kind}
use Rattle.arrow_types.specs.Schemas.{Keyed}
use Rattle.arrow_arrays.specs.Batches.{Batch}
use Rattle.arrow_arrays.specs.Parts.{kind_in}
use Rattle.ipc_read.specs.Batches.{kinds_of}
use Rattle.ipc_projection.specs.Below.{are_below, chosen}
use Rattle.ipc_projection.specs.Places.{StandAt}
use Rattle.ipc_projection.specs.Projections.{IsProjection, IsReordered, MayProject}
use Rattle.ipc_projection.specs.declared.projection.ProjectionInfo.{ProjectionInfo}
use Rattle.ipc_projection.proofs.Projected.{chosen_stand, stand_once}
use Rattle.ipc_files.specs.Selections.{HasFields, numbers_read, schema_shown}
use Rattle.ipc_files.proofs.InOrder.{all_shown, ordered_shown}

-- ── items and what is said of them ──

mapped_stand : {A B : Type 0} (f : A → B) (all : List A) (places : List ℕ) (items : List A) → StandAt all places items → StandAt (map f all) places (map f items)
mapped_stand f all places items s = record {
  count = length-map items f ∙ s.count;
  each = λ j c e. slice_get-map f items j ∙ ap (option_map f) (s.each j c e) ∙ sym (slice_get-map f all c);
}

-- items that are led where a map leads
led_kinds : (s : List Keyed) (cs : List ℕ) (p : ProjectionInfo) (x y : Batch) → IsProjection s cs p → IsReordered p.map x y → map kind_in x.arrays ≡ chosen (Some p.columns.items) 0 (kinds_of s) → StandAt (kinds_of s) cs (map kind_in y.arrays)
led_kinds s cs p x y is order h =
    let read = chosen_stand p.columns.items (kinds_of s) is.rising (ap (λ n. are_below n p.columns.items) (length-map s (λ q. q.1.kind)) ∙ is.below) in
    record {
      count = length-map y.arrays kind_in ∙ order.width ∙ sym (length-map x.arrays kind_in) ∙ ap length h ∙ read.count ∙ is.count;
      each = λ j c e. let i = is.places j c e in slice_get-map kind_in y.arrays j ∙ ap (option_map kind_in) (order.arrays i.0 j i.2) ∙ sym (slice_get-map kind_in x.arrays i.0) ∙ ap (λ ks. slice_get ks i.0) h ∙ read.each i.0 c i.1;
    }

-- ── batches ──

all_kinds : (ks : List Kind) (c : ℕ) → chosen None c ks ≡ ks
all_kinds [] c = refl
all_kinds (k ∷ ks) c = ap (λ xs. k ∷ xs) (all_kinds ks (suc c))

-- of all columns
pub all_fields : (s : List Keyed) (p : Option ProjectionInfo) (x : Batch) → p ≡ None → x.schema ≡ chosen (numbers_read p) 0 s → map kind_in x.arrays ≡ chosen (numbers_read p) 0 (kinds_of s) → HasFields x (schema_shown s p)
all_fields s p x is schema kinds = record {
  schema = all_shown s p (numbers_read p) x.schema is refl schema;
  kinds = kinds ∙ ap (λ o. chosen (numbers_read o) 0 (kinds_of s)) is ∙ all_kinds (kinds_of s) 0 ∙ ap (λ o. kinds_of (schema_shown s o)) (sym is);
}

-- and in the order asked
pub ordered_fields : (s : List Keyed) (columns : Option (List ℕ)) (o : Option ProjectionInfo) (p : ProjectionInfo) (x : Batch) (result : Result Batch IpcError) → o ≡ Some p → MayProject s columns o → x.schema ≡ chosen (numbers_read o) 0 s → map kind_in x.arrays ≡ chosen (numbers_read o) 0 (kinds_of s)
    → IfOk result (IsReordered p.map x) → IfOk result (λ y. HasFields y (schema_shown s o))
ordered_fields s columns o p x result is may schema kinds order =
    subst (λ q. IfOk result (λ y. HasFields y (schema_shown s q))) (sym is)
    (by columns result (subst (MayProject s columns) is may) (kinds ∙ ap (λ q. chosen (numbers_read q) 0 (kinds_of s)) is) order (ordered_shown s columns p (numbers_read o) x result (ap numbers_read is) (subst (MayProject s columns) is may) schema order))
  where
    by : (cs : Option (List ℕ)) (r : Result Batch IpcError) → MayProject s cs (Some p) → map kind_in x.arrays ≡ chosen (Some p.columns.items) 0 (kinds_of s) → IfOk r (IsReordered p.map x) → IfOk r (λ y. y.schema ≡ rc_value p.schema) → IfOk r (λ y. HasFields y (rc_value p.schema))
    by cs (Err e) m k i f = tt
    by None (Ok y) m k i f = absurd m
    by (Some cs) (Ok y) m k i f = record { schema = f; kinds = stand_once (kinds_of s) cs (map kind_in y.arrays) (kinds_of (rc_value p.schema)) (led_kinds s cs p x y m i k) (mapped_stand (λ q. q.1.kind) s cs (rc_value p.schema) m.fields) }

-- with pairs
pub with_pairs : (x y : Batch) (s : List Keyed) → y.schema ≡ x.schema → y.arrays ≡ x.arrays → HasFields x s → HasFields y s
with_pairs x y s same arrays h = record { schema = same ∙ h.schema; kinds = ap (map kind_in) arrays ∙ h.kinds }
