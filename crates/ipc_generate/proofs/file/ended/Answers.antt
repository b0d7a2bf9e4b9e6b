use Rattle.std.proofs.Common.{refl, ap, ◌∙◌}
use Rattle.arrow_spec.specs.Files.{«all»}
use Rattle.arrow_spec.specs.Meaning.{file_table}
use Rattle.ipc_generate.specs.Written.{IsSmall}
use Rattle.ipc_generate.proofs.Writing.{ended_table, finish_small, handed}
use Rattle.ipc_generate.proofs.file.ended.Goals as goal

pub returns-clause-table : goal.returns-clause-table
returns-clause-table c = λ bs h.
    ap (λ v. file_table v.items «all») (c.into_bytes.ensures ∙ ap (λ s. s.bytes) c.into_inner.ensures)
    ∙ ended_table _ c.args.writer.core c.finish.new.self.core c.args.writer.sink.bytes.items c.finish.new.self.sink.bytes.items c.requires c.in_ok-finish.ensures.finishes refl refl bs h

pub returns-in_err-finish-clause-err : goal.returns-in_err-finish-clause-err
returns-in_err-finish-clause-err c =
    handed IsSmall c.from_residual.result c.in_err-finish.field-0.0 c.from_residual.ensures.1 (finish_small _ _ c.args.writer.core c.finish.new.self.core c.requires refl c.in_err-finish.ensures.finishes)
