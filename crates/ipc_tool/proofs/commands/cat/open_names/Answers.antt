use Rattle.std.proofs.Common.{◌∙◌, arith, refl}
use Rattle.ipc_tool.proofs.CatNames.{all_opened, next_sound, one_lacks, opened_more, why_one}
use Rattle.ipc_tool.proofs.commands.cat.open_names.Goals as goal

pub loop-name-init : goal.loop-name-init
loop-name-init g c = record { opened = rw c.new-files.ensures.items tt; sound = rw c.new-files.ensures.items tt; held = refl; later = omega arith }

pub returns-in-Err-clause-refused : goal.returns-in-Err-clause-refused
returns-in-Err-clause-refused g c =
    why_one c.in-Err.refusal _ _ _ _ c.loop-name.invariant.later c.close_files.ensures.later (λ lacks. one_lacks _ _ c.args.names.now c.loop-name.name-index _ c.loop-name.invariant.held c.loop-name-test.true lacks) c.in-Err.ensures.refused

pub loop-name-preserved : goal.loop-name-preserved
loop-name-preserved g c = record {
  opened = opened_more g.H.File.Source.content g.H.File.Source.faults _ _ c.args.names.now c.loop-name.name-index _ c.loop-name.files.items _ c.loop-name.invariant.held c.loop-name-test.true c.in_default.ensures.opened c.loop-name.invariant.opened;
  sound = next_sound g.H.File.Source.content g.H.File.Source.faults _ _ c.loop-name.files.items _ c.in_default.ensures.opened c.loop-name.invariant.sound;
  held = c.open_next.ensures.held ∙ c.loop-name.invariant.held;
  later = omega (arith, c.loop-name.invariant.later, c.open_next.ensures.later);
}

pub returns-clause-opened : goal.returns-clause-opened
returns-clause-opened g c = all_opened _ c.args.names.now c.loop-name.name-index _ c.loop-name-test.false c.loop-name.invariant.opened
