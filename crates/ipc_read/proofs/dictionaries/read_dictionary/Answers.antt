use Rattle.std.proofs.Common.{to_z, of_z, w64, rules}
use Rattle.std.proofs.lemmas.Int.{to_z-of_z}
use Rattle.arrow_types.specs.KindOf.{kind_of}
use Rattle.ipc_fields.specs.IpcFields.{no_fields}
use Rattle.ipc_read.specs.Held.{held_in}
use Rattle.ipc_read.proofs.KeysRead.{keys_cells_as}
use Rattle.ipc_read.proofs.Shortened.{leaf_shortened_as}
use Rattle.ipc_read.proofs.dictionaries.read_dictionary.Goals as goal

pub returns-clause-shortened : goal.returns-clause-shortened
returns-clause-shortened g c = leaf_shortened_as _ _ _ _ _ _ _ (search rules) (search rules) c.read_dictionary.ensures.shortened

pub returns-clause-cells : goal.returns-clause-cells
returns-clause-cells g c = λ m d p a known holds.
    keys_cells_as c.read_dictionary.result m d (held_in c.args.dictionaries.now) (kind_of c.args.dtype.now) (to_z w64 (of_z w64 c.args.id)) c.args.id no_fields p c.args.rows (to_z-of_z w64 c.args.id c.ranges.id) c.requires.held c.requires.kind holds c.read_dictionary.ensures.sound (c.read_dictionary.ensures.parts m d p a known holds)
