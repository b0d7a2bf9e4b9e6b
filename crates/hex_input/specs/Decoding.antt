-- Hex digits that are decoded as they come: what is held of those that came.
use Rattle.std.specs.Prelude.{◌≡◌, ℕ, List, ◌++◌, Bool, true, false, not, Option, Ok, option_to_list}
use Rattle.std.specs.List.{AllPass, filter}
use Rattle.arrow_spec.specs.Words.{is_white}
use Rattle.hex.specs.Hex.{decode_of, is_hex_digit}
use Rattle.hex_input.specs.declared.decoder.Decoder.{Decoder}

-- a text without its white space
abbrev pub no_white : List ℕ → List ℕ
no_white text = filter (λ c. not (is_white c)) text

-- bytes that decoded, a digit that waits, and whether something came that is no digit, of the digits that came
pub record Held (bytes : List ℕ) (waiting : Option ℕ) (spoiled : Bool) (digits : List ℕ) : Type 0 where
  pub no_digits : spoiled ≡ true → AllPass is_hex_digit digits → ⊥
  pub decoded : spoiled ≡ false → (pairs : List ℕ) × (decode_of pairs ≡ Ok bytes) × (digits ≡ pairs ++ option_to_list waiting)

-- the decoder holds these digits
abbrev pub Follows : Decoder → List ℕ → Type 0
Follows decoder digits = Held decoder.bytes.items decoder.waiting decoder.spoiled digits

-- the decoder holds these digits behind those that it held
abbrev pub Adds : Decoder → Decoder → List ℕ → Type 0
Adds old new more = (digits : List ℕ) → Follows old digits → Follows new (digits ++ more)
