use Rattle.std.proofs.Common.{◌∙◌, sym, true, false}
use Rattle.ipc_streams.proofs.HeadsRead.{expected_by}
use Rattle.ipc_streams.proofs.head.expected_in.Goals as goal

pub returns-then-is_dictionary : goal.returns-then-is_dictionary
returns-then-is_dictionary c = expected_by c.args.bytes.now true (sym c.if-is_dictionary.true ∙ c.is_dictionary.ensures)

pub returns-else-is_dictionary : goal.returns-else-is_dictionary
returns-else-is_dictionary c = expected_by c.args.bytes.now false (sym c.if-is_dictionary.false ∙ c.is_dictionary.ensures)
