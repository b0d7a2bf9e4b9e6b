use Rattle.std.proofs.Common.{refl, sym, ap, ◌∙◌}
use Rattle.arrow_types.specs.KindOf.{kind_of}
use Rattle.arrow_arrays.specs.LeafParts.{number_size}
use Rattle.ipc_read.proofs.Arrays.{no_views, all_queues, all_shortened, values_layout, views_no_numbers, no_numbers, if_any}
use Rattle.ipc_read.proofs.ReaderSteps.{if_ok}
use Rattle.ipc_read.proofs.Passing.{at_all}
use Rattle.ipc_read.proofs.readers.ColumnReader.read_plain.Goals as goal

pub returns-in-Primitive-clause-takes : goal.returns-in-Primitive-clause-takes
returns-in-Primitive-clause-takes g c = all_queues c.read_numbers_of.result (kind_of c.args.dtype.now) _ _ _ _ c.args.self.now.variadic.now.items _ (no_views (kind_of c.args.dtype.now) _ c.requires.leaf (sym c.to_physical_type-layout.ensures ∙ c.in-Primitive.is) refl) c.read_numbers_of.ensures.counts c.read_numbers_of.ensures.takes

pub returns-in-Primitive-clause-parts : goal.returns-in-Primitive-clause-parts
returns-in-Primitive-clause-parts g c = λ m p a known. c.read_numbers_of.ensures.parts m p (at_all a) known

pub returns-in-Primitive-clause-bytes : goal.returns-in-Primitive-clause-bytes
returns-in-Primitive-clause-bytes g c = if_ok c.read_numbers_of.result _ _ c.read_numbers_of.ensures.bytes (λ x h m p a known. h m p (at_all a) known)

pub returns-in-Primitive-clause-shortened : goal.returns-in-Primitive-clause-shortened
returns-in-Primitive-clause-shortened g c = all_shortened (kind_of c.args.dtype.now) _ _ _ _ _ _ c.read_numbers_of.ensures.counts c.read_numbers_of.ensures.shortened

pub returns-in-Primitive-clause-fetched : goal.returns-in-Primitive-clause-fetched
returns-in-Primitive-clause-fetched g c = λ m p a. c.read_numbers_of.ensures.fetched m p (at_all a)

pub returns-in-Null-clause-takes : goal.returns-in-Null-clause-takes
returns-in-Null-clause-takes g c = all_queues c.read_values_of.result (kind_of c.args.dtype.now) _ _ _ _ c.args.self.now.variadic.now.items _ (no_views (kind_of c.args.dtype.now) c.to_physical_type-layout.result c.requires.leaf (sym c.to_physical_type-layout.ensures) (values_layout c.to_physical_type-layout.result c.in-Null.is).0) c.read_values_of.ensures.counts c.read_values_of.ensures.takes

pub returns-in-Null-clause-parts : goal.returns-in-Null-clause-parts
returns-in-Null-clause-parts g c = λ m p a known. c.read_values_of.ensures.parts m p (at_all a) known

pub returns-in-Null-clause-bytes : goal.returns-in-Null-clause-bytes
returns-in-Null-clause-bytes g c = if_any c.read_values_of.result _ (λ m p a known. no_numbers m (kind_of c.args.dtype.now) p c.args.rows (ap number_size (sym c.to_physical_type-layout.ensures) ∙ (values_layout c.to_physical_type-layout.result c.in-Null.is).1))

pub returns-in-Null-clause-shortened : goal.returns-in-Null-clause-shortened
returns-in-Null-clause-shortened g c = all_shortened (kind_of c.args.dtype.now) _ _ _ _ _ _ c.read_values_of.ensures.counts c.read_values_of.ensures.shortened

pub returns-in-Null-clause-fetched : goal.returns-in-Null-clause-fetched
returns-in-Null-clause-fetched g c = λ m p a. c.read_values_of.ensures.fetched m p (at_all a)

pub returns-in-BinaryView-clause-bytes : goal.returns-in-BinaryView-clause-bytes
returns-in-BinaryView-clause-bytes g c = if_any c.read_views_of.result _ (λ m p a known. no_numbers m (kind_of c.args.dtype.now) p c.args.rows (views_no_numbers (kind_of c.args.dtype.now) c.to_physical_type-layout.result c.to_physical_type-layout.ensures c.in-BinaryView.is))
