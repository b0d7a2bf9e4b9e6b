use Rattle.std.proofs.Common.{refl, sym, ap}
use Rattle.arrow_types.specs.KindOf.{kind_of}
use Rattle.arrow_arrays.specs.LeafParts.{nulls}
use Rattle.arrow_arrays.specs.Parts.{leaf}
use Rattle.ipc_read_laws.specs.PartsRead.{parts_in}
use Rattle.ipc_read.proofs.Refusals.{err_from}
use Rattle.ipc_read.proofs.Arrays.{answers_as, null_at}
use Rattle.ipc_read.proofs.Passing.{nodes_at}
use Rattle.ipc_read.proofs.readers.ColumnReader.read_nulls.Goals as goal

pub returns-in_err-array-clause-parts : goal.returns-in_err-array-clause-parts
returns-in_err-array-clause-parts g c = λ m p a t. err_from _ _ c.in_err-array.field-0.0 _ _ _ c.from_residual.ensures.0 c.from_residual.ensures.1 (λ x e. e) (c.in_err-array.ensures.gives m p (nodes_at a)).err

pub returns-clause-takes : goal.returns-clause-takes
returns-clause-takes g c = λ m p a. null_at m (kind_of c.args.dtype.now) p _ _ _ c.requires.kind a (c.in_ok-array.ensures.queue m p (nodes_at a))

pub returns-clause-parts : goal.returns-clause-parts
returns-clause-parts g c = λ m p a t. answers_as (λ n. leaf (nulls n)) _ _ _ _ _ _ _ (c.in_ok-array.ensures.gives m p (nodes_at a)) refl (ap (λ layout. leaf (parts_in layout m (kind_of c.args.dtype.now) p c.args.rows)) (sym c.requires.kind))

pub returns-in_err-array-clause-shortened : goal.returns-in_err-array-clause-shortened
returns-in_err-array-clause-shortened g c = λ version vs. c.in_err-array.ensures.shortened version _ vs

pub returns-clause-shortened : goal.returns-clause-shortened
returns-clause-shortened g c = λ version vs. c.in_ok-array.ensures.shortened version _ vs
