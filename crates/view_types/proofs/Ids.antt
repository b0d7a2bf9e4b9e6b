-- Where an id stands among some.
use Rattle.std.proofs.Common.{ℕ, ◌+◌, Option, Some, None}

-- a place behind so many others
abbrev pub behind : ℕ → Option ℕ → Option ℕ
behind n None = None
behind n (Some i) = Some (n + i)
