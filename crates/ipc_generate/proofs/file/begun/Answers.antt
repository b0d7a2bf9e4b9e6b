use Rattle.std.proofs.Common.{refl, ap}
use Rattle.std.specs.Prelude.{Some}
use Rattle.ipc_generate.proofs.Writing.{begin_small, begun_ready, begun_written, default_options, handed}
use Rattle.ipc_generate.specs.Written.{IsSmall}
use Rattle.ipc_generate.proofs.file.begun.Goals as goal

pub returns-clause-ready : goal.returns-clause-ready
returns-clause-ready c = begun_ready _ _ _ c.in_ok-writer.writer.core (default_options _ c.default.ensures) c.requires c.in_ok-writer.ensures.begun

pub returns-clause-written : goal.returns-clause-written
returns-clause-written c = begun_written _ _ _ c.in_ok-writer.writer.core c.in_ok-writer.writer.sink.bytes.items c.requires (ap Some c.new-sink.ensures.bytes) refl c.in_ok-writer.ensures.begun

pub returns-in_err-writer-clause-err : goal.returns-in_err-writer-clause-err
returns-in_err-writer-clause-err c =
    handed IsSmall c.from_residual.result c.in_err-writer.field-0.0.error c.from_residual.ensures.1 (begin_small _ _ _ _ (default_options _ c.default.ensures) c.requires refl c.in_err-writer.ensures.err)
