use Rattle.std.proofs.Common.{◌≡◌, ◌++◌, ◌-◌, ◌<◌, take, drop, length, length-drop, length-take, refl, ap, ◌∙◌, arith}
use Rattle.std.proofs.lemmas.List.{take-append-drop, take_all}
use Rattle.ipc_write.specs.Below.{HexText, text_of}
use Rattle.ipc_messages.proofs.Putting.{piece_wants, text_put, text_some, text_stops, wants_as, whole_wants}
use Rattle.ipc_messages.proofs.puts.put_hex_text.Goals as goal

pub returns-in_err-put_digits-clause-puts : goal.returns-in_err-put_digits-clause-puts
returns-in_err-put_digits-clause-puts g c =
    text_stops HexText _ c.in_err-put_digits.field-0.0 c.from_residual.result _ _ _ c.args.bytes.now refl (take-append-drop c.min-count.result c.args.bytes.now) c.from_residual.ensures.1 c.in_err-put_digits.ensures.puts

pub returns-in_err-put_digits-clause-wants : goal.returns-in_err-put_digits-clause-wants
returns-in_err-put_digits-clause-wants g c = λ some. wants_as c.from_residual.result c.in_err-put_digits.field-0.0 _ _ c.from_residual.ensures.1 (whole_wants c.in_err-put_digits.field-0.0 _ _ c.in_err-put_digits.ensures.whole)

pub returns-clause-wants : goal.returns-clause-wants
returns-clause-wants g c = λ some.
    let bytes = c.args.bytes.now in
    let n = c.min-count.result in
    let first : 0 < length (take n bytes) = omega (arith, some, length-take n bytes) in
    piece_wants _ _ _ _ _ _ _ c.behind_begun.result (text_of HexText (take n bytes)) _ (text_some HexText (take n bytes) first) c.in_ok-put_digits.ensures.puts.0 (c.behind_begun.ensures _ _ c.put_bytes_as.ensures.puts)

pub returns-clause-puts : goal.returns-clause-puts
returns-clause-puts g c =
    let bytes = c.args.bytes.now in
    let n = c.min-count.result in
    let rest = take (length bytes - n) (drop n bytes) in
    let all : take n bytes ++ rest ≡ bytes = ap (λ l. take n bytes ++ l) (take_all (length bytes - n) (drop n bytes) (omega (arith, length-drop n bytes))) ∙ take-append-drop n bytes in
    text_put HexText _ _ _ _ _ _ _ _ _ c.behind_begun.result (take n bytes) (take n bytes) rest bytes refl all c.in_ok-put_digits.ensures.puts (c.behind_begun.ensures _ _ c.put_bytes_as.ensures.puts)
