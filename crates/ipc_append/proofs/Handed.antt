-- An error that is handed on.
use Rattle.std.proofs.Common.{◌≡◌, Result, Ok, Err, IfErr, sym, subst}
use Rattle.std.specs.Result.{IsErrAnd}
use Rattle.arrow_spec.specs.declared.error.IpcError.{IpcError}

pub handed : {X : Type 0} (P : Result X IpcError → Type 0) (r : Result X IpcError) (e : IpcError) → IsErrAnd r (λ f. f ≡ e) → P (Err e) → P r
handed P (Ok x) e h k = absurd h
handed P (Err f) e h k = subst (λ g. P (Err g)) (sym h) k

pub refused : {X : Type 0} (P : IpcError → Type 0) (r : Result X IpcError) (e : IpcError) → IsErrAnd r (λ f. f ≡ e) → P e → IfErr r P
refused P (Ok x) e h k = tt
refused P (Err f) e h k = subst P (sym h) k
