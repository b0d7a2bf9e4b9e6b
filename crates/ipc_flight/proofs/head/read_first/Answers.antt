use Rattle.std.proofs.Common.{◌≡◌, Err}
use Rattle.ipc_files.proofs.Errors.{is_err}
use Rattle.ipc_streams.specs.Starts.{head_view}
use Rattle.ipc_flight.proofs.FirstsRead.{refused, said}
use Rattle.ipc_flight.proofs.head.read_first.Goals as goal

pub returns-in_err-beginning-clause-gives : goal.returns-in_err-beginning-clause-gives
returns-in_err-beginning-clause-gives c =
    let x = c.in_err-beginning.field-0.0 in
    let e : c.from_residual.result ≡ Err x = is_err _ _ _ c.from_residual.ensures.0 c.from_residual.ensures.1 (λ f h. h) in
    refused c.args.bytes.now c.from_residual.result x e c.in_err-beginning.ensures.gives

pub returns-clause-gives : goal.returns-clause-gives
returns-clause-gives c = said c.args.bytes.now (head_view c.in_ok-beginning.beginning) c.in_ok-beginning.ensures.gives
