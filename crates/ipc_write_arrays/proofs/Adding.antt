-- Results that say more, or that are of one kind.
use Rattle.std.proofs.Common.{Result, Ok, Err}
use Rattle.std.specs.Prelude.{IsErr, IfOk, IfErr}

pub if_ok : {T E A B : Type 0} (r : Result T E) → (A → B) → IfOk r (λ _. A) → IfOk r (λ _. B)
if_ok (Ok x) f a = f a
if_ok (Err e) f a = tt

pub if_any : {T E A : Type 0} (r : Result T E) → A → IfOk r (λ _. A)
if_any (Ok x) a = a
if_any (Err e) a = tt

pub if_err : {T E A : Type 0} (r : Result T E) → IsErr r → A → IfErr r (λ _. A)
if_err (Ok x) h a = tt
if_err (Err e) h a = a
