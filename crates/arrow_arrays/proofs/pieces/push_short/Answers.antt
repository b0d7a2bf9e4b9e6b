use Rattle.std.proofs.Common.{◌≡◌, ℕ, ◌-◌, length, drop, replicate, arith}
use Rattle.std.proofs.lemmas.Grind.{common_steps}
use Rattle.std.proofs.lemmas.List.{drop-replicate}
use Rattle.arrow_arrays.proofs.pieces.push_short.Goals as goal

zeros : (n : ℕ) → drop n (replicate {A = ℕ} 12 0) ≡ replicate {A = ℕ} (12 - n) 0
zeros n = let z : ℕ = 0 in drop-replicate n 12 z

pub returns : goal.returns
returns c = grind (arith, common_steps, zeros (length c.args.piece.now))
