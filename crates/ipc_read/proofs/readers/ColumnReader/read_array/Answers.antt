use Rattle.std.proofs.Common.{◌∙◌}
use Rattle.arrow_types.specs.KindOf.{kind_of}
use Rattle.ipc_fields.specs.IpcFields.{ids_of}
use Rattle.ipc_read.specs.Held.{held_in, column_kind}
use Rattle.ipc_read.proofs.ColumnIds.{carried_with}
use Rattle.ipc_read.proofs.Nested.{tree_cells_of}
use Rattle.ipc_read.proofs.ReaderSteps.{if_ok}
use Rattle.ipc_read.proofs.readers.ColumnReader.read_array.Goals as goal

pub returns-clause-cells : goal.returns-clause-cells
returns-clause-cells g c = λ m d p a known holds. tree_cells_of c.read_tree.result m d (held_in c.args.dictionaries.now) (column_kind c.args.dtype.now c.args.id c.args.fields.now) p c.args.rows (carried_with (kind_of c.args.dtype.now) c.args.id (ids_of c.args.fields.now) ∙ c.requires.held) holds c.read_tree.ensures.sound (if_ok c.read_tree.result _ _ c.read_tree.ensures.bytes (λ x h. h m p a known)) (c.read_tree.ensures.parts m d p a known holds)
