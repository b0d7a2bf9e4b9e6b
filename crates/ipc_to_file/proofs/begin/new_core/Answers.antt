use Rattle.std.proofs.Common.{◌∙◌, None, ap, subst}
use Rattle.std.specs.Rc.{rc_value}
use Rattle.laws_walk.specs.Below.{is_new}
use Rattle.ipc_append.specs.Below.{IsFresh, FilePairs}
use Rattle.ipc_to_file.proofs.Puts.{new_of}
use Rattle.ipc_to_file.proofs.begin.new_core.Goals as goal

pub with_schema_pairs-core-requires : goal.with_schema_pairs-core-requires
with_schema_pairs-core-requires c = ap (λ (p : FilePairs). p.schema) c.in_ok-core.ensures.fresh.pairs

pub with_footer_pairs-requires-clause-new : goal.with_footer_pairs-requires-clause-new
with_footer_pairs-requires-clause-new c = ap is_new (c.with_schema_pairs-core.ensures.only.state ∙ c.in_ok-core.ensures.fresh.state)

pub with_footer_pairs-requires-clause-none : goal.with_footer_pairs-requires-clause-none
with_footer_pairs-requires-clause-none c = c.with_schema_pairs-core.ensures.footer ∙ ap (λ (p : FilePairs). p.footer) c.in_ok-core.ensures.fresh.pairs

pub with_footer_pairs-requires-clause-few : goal.with_footer_pairs-requires-clause-few
with_footer_pairs-requires-clause-few c = c.requires.custom.few

pub returns-clause-new : goal.returns-clause-new
returns-clause-new c =
    new_of c.args.metadata _ _ _ (subst (λ o. IsFresh o (rc_value c.args.metadata.schema) None c.in_ok-core.core) c.file_options.ensures c.in_ok-core.ensures.fresh) c.with_schema_pairs-core.ensures.only c.with_footer_pairs.ensures.only c.with_schema_pairs-core.ensures.pairs c.with_footer_pairs.ensures.schema c.with_footer_pairs.ensures.pairs
