-- A feed that is taken in pieces.
use Rattle.std.proofs.Common.{◌≡◌, ◌+◌, ◌≤◌, ◌<◌, ℕ, List, [], ◌++◌, length, take, not, Option, IfSome, refl, ap, ◌∙◌, sym, subst, arith, append-nil, length-append}
use Rattle.std.specs.Io.KnownBytes.{Consumes, IsAtEnd}
use Rattle.std.proofs.KnownBytes.{Consumes-nil, Consumes-trans, Consumes-whole}
use Rattle.std.proofs.lemmas.List.Elements.{filter-append}
use Rattle.arrow_spec.specs.Words.{is_white}
use Rattle.hex_input.specs.declared.decoder.Decoder.{Decoder}
use Rattle.hex_input.specs.Decoding.{Adds, Follows, no_white}

-- so many bytes were taken, and a decoder holds those that are no white space
pub record Taken (old new : Option (List ℕ)) (taken : ℕ) (decoder : Decoder) : Type 0 where
  pub text : List ℕ
  pub consumed : Consumes old new text
  pub count : taken ≡ length text
  pub held : Follows decoder (no_white text)

-- nothing yet
pub taken_nothing : (rest : Option (List ℕ)) (decoder : Decoder) → Follows decoder [] → Taken rest rest 0 decoder
taken_nothing rest decoder h = record { text = []; consumed = Consumes-nil rest; count = refl; held = h }

-- a piece more
pub taken_more : (old mid new : Option (List ℕ)) (taken n : ℕ) (piece : List ℕ) (decoder decoder' : Decoder) → Taken old mid taken decoder → Consumes mid new piece → length piece ≡ n → Adds decoder decoder' (no_white piece) → Taken old new (taken + n) decoder'
taken_more old mid new taken n piece decoder decoder' t c size add = record {
  text = t.text ++ piece;
  consumed = Consumes-trans old mid new t.text piece t.consumed c;
  count = ap (λ x. x + n) t.count ∙ ap (λ x. length t.text + x) (sym size) ∙ sym (length-append t.text piece);
  held = subst (Follows decoder') (sym (filter-append (λ c. not (is_white c)) t.text piece)) (add (no_white t.text) t.held);
}

-- the whole text was taken
pub taken_whole : (old mid new : Option (List ℕ)) (taken most n : ℕ) (out : List ℕ) (decoder : Decoder) → Taken old mid taken decoder → Consumes mid new (take n out) → n ≡ 0 → IsAtEnd new → taken ≤ most → IfSome old (λ text. (length text ≤ most) × Follows decoder (no_white text))
taken_whole old mid new taken most n out decoder t c none end few =
    let nothing : Consumes mid new [] = subst (λ m. Consumes mid new (take m out)) none c in
    let all : Consumes old new t.text = subst (Consumes old new) (append-nil t.text) (Consumes-trans old mid new t.text [] t.consumed nothing) in
    let short : length t.text ≤ most = omega (arith, t.count) in
    Consumes-whole old new t.text (λ text. (length text ≤ most) × Follows decoder (no_white text)) all end (short, t.held)

-- more were taken than may be
pub taken_too_many : (old mid new : Option (List ℕ)) (taken most n : ℕ) (piece : List ℕ) (decoder : Decoder) → Taken old mid taken decoder → Consumes mid new piece → length piece ≡ n → most < taken + n → (text : List ℕ) × Consumes old new text × (most < length text)
taken_too_many old mid new taken most n piece decoder t c size many =
    (t.text ++ piece, Consumes-trans old mid new t.text piece t.consumed c, omega (arith, t.count, length-append t.text piece))
