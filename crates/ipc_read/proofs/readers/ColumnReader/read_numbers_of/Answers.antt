use Rattle.std.proofs.Common.{refl, ap, ◌∙◌}
use Rattle.std.specs.Int.{w8, w16, w32, w64, w128}
use Rattle.arrow_spec.specs.Flat.{little}
use Rattle.arrow_types.specs.KindOf.{kind_of}
use Rattle.arrow_types.specs.Numbers.{signed_to_bytes, signed_from_bytes, unsigned_to_bytes, unsigned_from_bytes, days_ms_to_bytes, days_ms_from_bytes, months_days_ns_to_bytes, months_days_ns_from_bytes}
use Rattle.arrow_types.specs.declared.physical.PhysicalType.TheVariants.{Primitive}
use Rattle.arrow_types.specs.declared.physical.PrimitiveType.TheVariants as primitive
use Rattle.arrow_arrays.specs.LeafParts.{numbers, as_bytes}
use Rattle.arrow_arrays.specs.Parts.{leaf}
use Rattle.ipc_read.proofs.Arrays.{answers_as, number_parts}
use Rattle.ipc_read.proofs.readers.ColumnReader.read_numbers_of.Goals as goal

pub returns-in_ok-array-in-Int8-clause-parts : goal.returns-in_ok-array-in-Int8-clause-parts
returns-in_ok-array-in-Int8-clause-parts g c = λ m p a known. answers_as (λ f. leaf (numbers (as_bytes (signed_to_bytes w8 little) f))) _ _ _ _ _ _ _ (c.in_ok-array-in-Int8.ensures.gives m p a known) refl (number_parts (signed_to_bytes w8 little) (signed_from_bytes w8) primitive.Int8 m (kind_of c.args.dtype.now) p c.args.rows (c.requires.kind ∙ ap Primitive c.in-Int8.is) (λ o bytes. refl))

pub returns-in_ok-array-in-Int16-clause-parts : goal.returns-in_ok-array-in-Int16-clause-parts
returns-in_ok-array-in-Int16-clause-parts g c = λ m p a known. answers_as (λ f. leaf (numbers (as_bytes (signed_to_bytes w16 little) f))) _ _ _ _ _ _ _ (c.in_ok-array-in-Int16.ensures.gives m p a known) refl (number_parts (signed_to_bytes w16 little) (signed_from_bytes w16) primitive.Int16 m (kind_of c.args.dtype.now) p c.args.rows (c.requires.kind ∙ ap Primitive c.in-Int16.is) (λ o bytes. refl))

pub returns-in_ok-array-in-Int32-clause-parts : goal.returns-in_ok-array-in-Int32-clause-parts
returns-in_ok-array-in-Int32-clause-parts g c = λ m p a known. answers_as (λ f. leaf (numbers (as_bytes (signed_to_bytes w32 little) f))) _ _ _ _ _ _ _ (c.in_ok-array-in-Int32.ensures.gives m p a known) refl (number_parts (signed_to_bytes w32 little) (signed_from_bytes w32) primitive.Int32 m (kind_of c.args.dtype.now) p c.args.rows (c.requires.kind ∙ ap Primitive c.in-Int32.is) (λ o bytes. refl))

pub returns-in_ok-array-in-Int64-clause-parts : goal.returns-in_ok-array-in-Int64-clause-parts
returns-in_ok-array-in-Int64-clause-parts g c = λ m p a known. answers_as (λ f. leaf (numbers (as_bytes (signed_to_bytes w64 little) f))) _ _ _ _ _ _ _ (c.in_ok-array-in-Int64.ensures.gives m p a known) refl (number_parts (signed_to_bytes w64 little) (signed_from_bytes w64) primitive.Int64 m (kind_of c.args.dtype.now) p c.args.rows (c.requires.kind ∙ ap Primitive c.in-Int64.is) (λ o bytes. refl))

pub returns-in_ok-array-in-Int128-clause-parts : goal.returns-in_ok-array-in-Int128-clause-parts
returns-in_ok-array-in-Int128-clause-parts g c = λ m p a known. answers_as (λ f. leaf (numbers (as_bytes (signed_to_bytes w128 little) f))) _ _ _ _ _ _ _ (c.in_ok-array-in-Int128.ensures.gives m p a known) refl (number_parts (signed_to_bytes w128 little) (signed_from_bytes w128) primitive.Int128 m (kind_of c.args.dtype.now) p c.args.rows (c.requires.kind ∙ ap Primitive c.in-Int128.is) (λ o bytes. refl))

pub returns-in_ok-array-in-UInt8-clause-parts : goal.returns-in_ok-array-in-UInt8-clause-parts
returns-in_ok-array-in-UInt8-clause-parts g c = λ m p a known. answers_as (λ f. leaf (numbers (as_bytes (unsigned_to_bytes w8 little) f))) _ _ _ _ _ _ _ (c.in_ok-array-in-UInt8.ensures.gives m p a known) refl (number_parts (unsigned_to_bytes w8 little) (unsigned_from_bytes w8) primitive.UInt8 m (kind_of c.args.dtype.now) p c.args.rows (c.requires.kind ∙ ap Primitive c.in-UInt8.is) (λ o bytes. refl))

pub returns-in_ok-array-in-UInt16-clause-parts : goal.returns-in_ok-array-in-UInt16-clause-parts
returns-in_ok-array-in-UInt16-clause-parts g c = λ m p a known. answers_as (λ f. leaf (numbers (as_bytes (unsigned_to_bytes w16 little) f))) _ _ _ _ _ _ _ (c.in_ok-array-in-UInt16.ensures.gives m p a known) refl (number_parts (unsigned_to_bytes w16 little) (unsigned_from_bytes w16) primitive.UInt16 m (kind_of c.args.dtype.now) p c.args.rows (c.requires.kind ∙ ap Primitive c.in-UInt16.is) (λ o bytes. refl))

pub returns-in_ok-array-in-UInt32-clause-parts : goal.returns-in_ok-array-in-UInt32-clause-parts
returns-in_ok-array-in-UInt32-clause-parts g c = λ m p a known. answers_as (λ f. leaf (numbers (as_bytes (unsigned_to_bytes w32 little) f))) _ _ _ _ _ _ _ (c.in_ok-array-in-UInt32.ensures.gives m p a known) refl (number_parts (unsigned_to_bytes w32 little) (unsigned_from_bytes w32) primitive.UInt32 m (kind_of c.args.dtype.now) p c.args.rows (c.requires.kind ∙ ap Primitive c.in-UInt32.is) (λ o bytes. refl))

pub returns-in_ok-array-in-UInt64-clause-parts : goal.returns-in_ok-array-in-UInt64-clause-parts
returns-in_ok-array-in-UInt64-clause-parts g c = λ m p a known. answers_as (λ f. leaf (numbers (as_bytes (unsigned_to_bytes w64 little) f))) _ _ _ _ _ _ _ (c.in_ok-array-in-UInt64.ensures.gives m p a known) refl (number_parts (unsigned_to_bytes w64 little) (unsigned_from_bytes w64) primitive.UInt64 m (kind_of c.args.dtype.now) p c.args.rows (c.requires.kind ∙ ap Primitive c.in-UInt64.is) (λ o bytes. refl))

pub returns-in_ok-array-in-DaysMs-clause-parts : goal.returns-in_ok-array-in-DaysMs-clause-parts
returns-in_ok-array-in-DaysMs-clause-parts g c = λ m p a known. answers_as (λ f. leaf (numbers (as_bytes (days_ms_to_bytes little) f))) _ _ _ _ _ _ _ (c.in_ok-array-in-DaysMs.ensures.gives m p a known) refl (number_parts (days_ms_to_bytes little) (days_ms_from_bytes) primitive.DaysMs m (kind_of c.args.dtype.now) p c.args.rows (c.requires.kind ∙ ap Primitive c.in-DaysMs.is) (λ o bytes. refl))

pub returns-in_ok-array-in-MonthDayNano-clause-parts : goal.returns-in_ok-array-in-MonthDayNano-clause-parts
returns-in_ok-array-in-MonthDayNano-clause-parts g c = λ m p a known. answers_as (λ f. leaf (numbers (as_bytes (months_days_ns_to_bytes little) f))) _ _ _ _ _ _ _ (c.in_ok-array-in-MonthDayNano.ensures.gives m p a known) refl (number_parts (months_days_ns_to_bytes little) (months_days_ns_from_bytes) primitive.MonthDayNano m (kind_of c.args.dtype.now) p c.args.rows (c.requires.kind ∙ ap Primitive c.in-MonthDayNano.is) (λ o bytes. refl))
