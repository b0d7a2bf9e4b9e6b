-- The size of a file, where its bytes are told.
use Rattle.std.proofs.Common.{◌≡◌, ℕ, List, length, Option, Some, None, refl}
use Rattle.std.specs.Option.{ForSome}
use Rattle.ipc_io.specs.Outside.{IsSize}

pub size_told : (o : Option (List ℕ)) (n : ℕ) → ForSome o (λ b. n ≡ length b) → IsSize o n
size_told None n h = tt
size_told (Some b) n h = h b refl

pub told_size : (o : Option (List ℕ)) (n : ℕ) → IsSize o n → ForSome o (λ b. n ≡ length b)
told_size None n h = λ b is. cc
told_size (Some c) n h = λ b is. let same : c ≡ b = cc in cc
