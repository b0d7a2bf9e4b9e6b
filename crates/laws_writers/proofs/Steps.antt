-- One step of a walk after another.
use Rattle.std.proofs.Common.{◌≡◌, ◌||◌, Bool, true, false, Result, Ok, Err, refl}
use Rattle.std.specs.Prelude.{if◌then◌else◌}
use Rattle.arrow_spec.specs.declared.error.IpcError.{IpcError}
use Rattle.ipc_messages.specs.Below.{Sending, then_by}

pub stepped : (r : Result Sending IpcError) (f : Sending → Result Sending IpcError) (t : Sending) → then_by r f ≡ Ok t → (s : Sending) × (r ≡ Ok s) × (f s ≡ Ok t)
stepped (Ok s) f t e = (s, refl, e)
stepped (Err x) f t e = cc

pub unless_err : (b : Bool) (x : IpcError) (r : Result Sending IpcError) (t : Sending) → (if b then Err x else r) ≡ Ok t → r ≡ Ok t
unless_err true x r t e = cc
unless_err false x r t e = e

pub either_left : (a b : Bool) → a ≡ true → (a || b) ≡ true
either_left a b e = rw e refl

pub either_right : (a b : Bool) → b ≡ true → (a || b) ≡ true
either_right true b e = refl
either_right false b e = e
