use Rattle.std.proofs.Common.{◌≡◌}
use Rattle.std.proofs.KnownBytes.{Appends-trans}
use Rattle.ipc_io.proofs.Known.{AppendsPrefix-within, AppendsPrefix-after, Puts-err, PutsFront-of_put, PutsFront-after, PutsFront-stopped}
use Rattle.ipc_tool.specs.Refusal.{name_of}
use Rattle.ipc_tool.proofs.note.put_line.Goals as goal

pub returns-in_err-put-clause-bytes : goal.returns-in_err-put-clause-bytes
returns-in_err-put-clause-bytes g c =
    let first = Puts-err _ _ _ _ c.in_err-put.ensures.bytes in
    rw (← c.front.ensures) (PutsFront-stopped _ _ _ _ _ c.from_residual.ensures.0 (AppendsPrefix-within _ _ _ _ first))

pub returns-in_err-put-2-clause-bytes : goal.returns-in_err-put-2-clause-bytes
returns-in_err-put-2-clause-bytes g c =
    let second = Puts-err _ _ _ _ c.in_err-put-2.ensures.bytes in
    let name : name_of c.args.refusal.now ≡ c.as_bytes.result.now = cc in
    rw (← c.front.ensures, name) (PutsFront-stopped _ _ _ _ _ c.from_residual-in_err-put-2.ensures.0 (AppendsPrefix-after _ _ _ _ _ c.in_ok-put.ensures.bytes second))

pub returns-clause-bytes : goal.returns-clause-bytes
returns-clause-bytes g c =
    let name : name_of c.args.refusal.now ≡ c.as_bytes.result.now = cc in
    rw (← c.front.ensures, name) (PutsFront-after _ _ _ _ _ _ (Appends-trans _ _ _ _ _ c.in_ok-put.ensures.bytes c.in_ok-put-2.ensures.bytes) (PutsFront-of_put _ _ _ _ c.put-3.ensures.bytes))
