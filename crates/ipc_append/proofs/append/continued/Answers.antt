use Rattle.ipc_append.proofs.Appending.{dictionaries_refusal, end_refusal, holds_file}
use Rattle.ipc_append.proofs.append.continued.Goals as goal

pub returns-in_err-dictionaries-clause-err : goal.returns-in_err-dictionaries-clause-err
returns-in_err-dictionaries-clause-err g c =
    dictionaries_refusal c.from_residual-in_err-dictionaries.result c.in_err-dictionaries.field-0.0 (g.D.Source.content c.args.disk.now) c.args.options c.args.metadata c.in_ok-place.place (g.D.Source.faults c.args.disk.now) _ c.from_residual-in_err-dictionaries.ensures.1
    c.in_ok-place.ensures c.in_err-dictionaries.ensures.reads c.in_err-dictionaries.ensures.cause

pub returns-in_err-check_end-clause-err : goal.returns-in_err-check_end-clause-err
returns-in_err-check_end-clause-err g c =
    let content = g.D.Source.content c.args.disk.now in
    end_refusal c.from_residual-in_err-check_end.result c.in_err-check_end.field-0.0 content c.args.options c.args.metadata c.in_ok-place.place (g.D.Source.faults c.args.disk.now) _ c.in_ok-core.core c.from_residual-in_err-check_end.ensures.1
    c.in_ok-place.ensures c.in_ok-core.ensures.continues (holds_file content c.args.metadata c.in_ok-core.core c.in_ok-dictionaries.dictionaries c.in_ok-core.ensures.held c.in_ok-dictionaries.ensures.reads) c.in_err-check_end.ensures
