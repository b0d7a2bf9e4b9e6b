use Rattle.std.proofs.Common.{◌∙◌, [], ap, sym, subst}
use Rattle.arrow_spec.specs.WrittenSchemas.{Ascend}
use Rattle.ipc_fields.specs.IpcFields.{metadata_in}
use Rattle.ipc_schema.proofs.Below.{map_ascends}
use Rattle.ipc_write.proofs.encode.is_whole.Goals as goal

pub returns-in-None : goal.returns-in-None
returns-in-None c = record {
  sound = c.height.ensures.sound;
  custom = record { ascend = subst (Ascend []) (ap metadata_in (sym c.in-None.is) ∙ c.custom_metadata.ensures.pairs) tt; few = c.custom_metadata.ensures.few };
}

pub returns-in-Some : goal.returns-in-Some
returns-in-Some c = record {
  sound = c.height.ensures.sound;
  custom = record {
    ascend = subst (Ascend []) (ap metadata_in (sym c.in-Some.is) ∙ c.custom_metadata.ensures.pairs) (map_ascends c.in-Some.pairs.now.entries c.len.ensures.ordered).ascend;
    few = c.custom_metadata.ensures.few;
  };
}
