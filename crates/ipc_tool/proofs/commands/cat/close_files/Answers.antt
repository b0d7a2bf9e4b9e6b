use Rattle.std.proofs.Common.{◌∙◌, arith, inl, refl}
use Rattle.ipc_tool.proofs.CatNames.{closed_last, none_left}
use Rattle.ipc_tool.proofs.commands.cat.close_files.Goals as goal

pub loop-file-init : goal.loop-file-init
loop-file-init g c = record { held = refl; later = omega arith; rose = λ one. inl one }

pub loop-file-preserved : goal.loop-file-preserved
loop-file-preserved g c = record {
  held = c.close_file.ensures.held ∙ c.loop-file.invariant.held;
  later = omega (arith, c.loop-file.invariant.later, c.close_file.ensures.cause.later);
  rose = λ one. closed_last g.H.File.Source.faults c.loop-file.files.items c.pop.new.self.items c.in-Some.file _ _ _ c.in-Some.ensures.items c.loop-file.invariant.later c.close_file.ensures.cause (c.loop-file.invariant.rose one);
}

pub returns-clause-rose : goal.returns-clause-rose
returns-clause-rose g c = λ one. none_left g.H.File.Source.faults c.loop-file.files.items c.pop.new.self.items _ c.in_default.ensures.cases.0 c.in_default.ensures.items c.in_default.ensures.rest (c.loop-file.invariant.rose one)
