-- What a refusal that is handed on says.
use Rattle.std.proofs.Common.{◌≡◌, ◌∙◌, Result, Ok, Err, IfErr, sym}
use Rattle.std.specs.Result.{IsErrAnd}

-- an error that is handed on keeps what it says
pub handed_on : {T E : Type 0} (r : Result T E) (e f : E) (P : Type 0) → IsErrAnd r (λ x. x ≡ e) → (e ≡ f → P) → IfErr r (λ x. x ≡ f → P)
handed_on (Ok x) e f P same h = tt
handed_on (Err x) e f P same h = λ is. h (sym same ∙ is)
