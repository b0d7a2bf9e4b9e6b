use Rattle.std.proofs.Common.{◌∙◌, sym, ap}
use Rattle.std.specs.Rc.{rc_value}
use Rattle.ipc_read_laws.specs.Projection.{columns_of, chosen}
use Rattle.ipc_read.proofs.Chosen.{all_chosen}
use Rattle.ipc_read.proofs.projection.chosen_schema.Goals as goal

pub returns-in_ok-clone-in-None-clause-schema : goal.returns-in_ok-clone-in-None-clause-schema
returns-in_ok-clone-in-None-clause-schema c =
    c.in_ok-clone-in-None.ensures.cases ∙ sym (all_chosen 0 (rc_value c.args.schema.now)) ∙ ap (λ p. chosen (columns_of p) 0 (rc_value c.args.schema.now)) (sym c.in-None.is)
