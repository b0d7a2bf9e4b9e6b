-- Rows of numbers of which some are null.
use Rattle.std.proofs.Common.{◌≡◌, List, Bool, true, Option, Some, None, Result, Ok, Err, IfErr, is_some, length, map, nat_eq, refl, sym, ap, ◌∙◌}
use Rattle.std.proofs.lemmas.Bool.{eq-eqb}
use Rattle.std.proofs.lemmas.List.{length-map}
use Rattle.arrow_types.specs.Physical.{physical_of}
use Rattle.arrow_types.specs.declared.physical.PrimitiveType.{PrimitiveType}
use Rattle.arrow_types.specs.declared.physical.PrimitiveType.TheVariants as primitive
use Rattle.arrow_buffers.specs.Layouts.{is_primitive, number_kind}
use Rattle.arrow_buffers.specs.Leaf.{leaf_fault}
use Rattle.arrow_buffers.specs.declared.error.ArrayError.{ArrayError}
use Rattle.arrow_buffers.specs.declared.error.ArrayError.TheVariants.{Memory}
use Rattle.arrow_spec.specs.Kinds.{Kind}
use Rattle.arrow_columns.specs.Optional.{held_or}

pub number_suits : (p : PrimitiveType) → is_primitive p (physical_of (number_kind p)) ≡ true
number_suits primitive.Int8 = refl
number_suits primitive.Int16 = refl
number_suits primitive.Int32 = refl
number_suits primitive.Int64 = refl
number_suits primitive.Int128 = refl
number_suits primitive.Int256 = refl
number_suits primitive.UInt8 = refl
number_suits primitive.UInt16 = refl
number_suits primitive.UInt32 = refl
number_suits primitive.UInt64 = refl
number_suits primitive.Float16 = refl
number_suits primitive.Float32 = refl
number_suits primitive.Float64 = refl
number_suits primitive.DaysMs = refl
number_suits primitive.MonthDayNano = refl

pub same_length : {A : Type 0} (other : A) (rows : List (Option A)) → length (map is_some rows) ≡ length (map (held_or other) rows)
same_length other rows = length-map rows is_some ∙ sym (length-map rows (held_or other))

-- bits of as many rows as there are numbers are not refused
pub not_refused : {A X : Type 0} (p : PrimitiveType) (k : Kind) (values : List A) (bits : List Bool) (r : Result X ArrayError) → k ≡ number_kind p → length bits ≡ length values
    → IfErr r (λ e. leaf_fault (is_primitive p (physical_of k)) (length values) (Some bits) ≡ Some e) → IfErr r (λ e. e ≡ Memory)
not_refused p k values bits (Ok x) s l h = h
not_refused p k values bits (Err e) s l h =
    let t : is_primitive p (physical_of k) ≡ true = ap (λ y. is_primitive p (physical_of y)) s ∙ number_suits p in
    let b : nat_eq (length bits) (length values) ≡ true = eq-eqb (length bits) (length values) l in
    let n : leaf_fault (is_primitive p (physical_of k)) (length values) (Some bits) ≡ None = rw (t, b) refl in
    absurd (cc (sym n ∙ h))
