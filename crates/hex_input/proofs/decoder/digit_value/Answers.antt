use Rattle.std.proofs.Common.{◌≡◌, ℕ, ◌<◌, map, get_or, unwrap_or, refl, ap, ◌∙◌, arith}
use Rattle.std.proofs.lemmas.List.FromFn.{get_or-map-range_with_len}
use Rattle.std.specs.List.{range_with_len}
use Rattle.hex.specs.Hex.{hex_digit_value}
use Rattle.hex_input.specs.declared.decoder.TheConstants.{VALUES}
use Rattle.hex_input.proofs.decoder.digit_value.Goals as goal

abbrev value : ℕ → ℕ
value c = unwrap_or (hex_digit_value c) 256

-- the table has the value of each byte
table_is : VALUES ≡ map value (range_with_len 0 256)
table_is = refl

value_at : (c : ℕ) → c < 256 → get_or VALUES c 0 ≡ value c
value_at c h = ap (λ t. get_or t c 0) table_is ∙ get_or-map-range_with_len value 0 256 c c 0 h (omega arith)

pub returns : goal.returns
returns c = rw c.from.ensures (value_at c.args.c (omega arith))
