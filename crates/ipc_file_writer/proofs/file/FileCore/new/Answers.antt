use Rattle.std.proofs.Common.{refl, subst}
use Rattle.arrow_types.specs.Schemas.{fields_in}
use Rattle.ipc_fields.specs.IpcFields.{ids_of}
use Rattle.ipc_messages.specs.Fields.{AreIdsFor}
use Rattle.ipc_file_writer.specs.Fields.{own_ids}
use Rattle.ipc_file_writer.proofs.file.FileCore.new.Goals as goal

pub returns-clause-fresh : goal.returns-clause-fresh
returns-clause-fresh c = record {
  options = refl;
  state = refl;
  schema = refl;
  ids = subst (λ s. AreIdsFor (fields_in s) (own_ids c.args.ipc_fields) (ids_of c.in_ok-fields.fields.items)) c.deref.ensures c.in_ok-fields.ensures;
  pairs = refl;
  held = c.new.ensures.nothing;
  dictionaries = c.new-2.ensures.dictionaries;
  records = c.new-2.ensures.records;
  unwritten = refl;
}
