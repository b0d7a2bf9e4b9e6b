-- The prefix of a message, read from its four or eight bytes.
use Rattle.std.specs.Prelude.{◌≡◌, ℕ, ◌+◌, ◌-◌, ◌≤◌, List, take, drop, Ok, nat_le, if◌then◌else◌}
use Rattle.std.specs.Int.{w32}
use Rattle.arrow_spec.specs.declared.error.OutOfSpecKind.TheVariants as kinds
use Rattle.arrow_spec.specs.Readings.{Reading, ◌>>=◌, only_if, as_kind, natural}
use Rattle.arrow_spec.specs.Flat.{signed_at}
use Rattle.arrow_spec.specs.Messages.{is_mark}

-- the metadata's length in four bytes, where it lies inside so many bytes from the prefix on; the metadata begins at start
unfoldable pub length_in : List ℕ → ℕ → ℕ → Reading (ℕ × ℕ)
length_in four start size = do
  n ← as_kind (λ f. kinds.MessageRange) (signed_at w32 four 0)
  length ← natural n
  inside ← only_if (nat_le (start + length) size) kinds.MessageRange
  Ok (start, length)

-- four bytes tell the length of the metadata of bytes that begin with a message: behind the mark, or at the front
pub record TellsLength (four : List ℕ) (start : ℕ) (b : List ℕ) : Type 0 where
  pub long : 4 ≤ Rattle.std.specs.Prelude.length b
  pub begins : start ≡ (if is_mark (take 4 b) then 8 else 4)
  pub stands : four ≡ take 4 (drop (start - 4) b)
