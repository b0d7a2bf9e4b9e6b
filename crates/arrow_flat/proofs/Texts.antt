-- Bytes that are UTF-8 are their own text, and no others are one.
use Rattle.std.proofs.Common.{◌≡◌, ℕ, List, Bool, true, false, refl}
use Rattle.std.specs.Str.{IsUtf8, is_utf8}
use Rattle.std.proofs.lemmas.Str.{IsUtf8-from_is_utf8, is_utf8-from_IsUtf8}

pub text_is_utf8 : (text : List ℕ) → IsUtf8 text → is_utf8 text ≡ true
text_is_utf8 text h = is_utf8-from_IsUtf8 text h

not_true : (b : Bool) → (b ≡ true → ⊥) → b ≡ false
not_true true h = absurd (h refl)
not_true false h = refl

pub other_is_not : (text : List ℕ) → (IsUtf8 text → ⊥) → is_utf8 text ≡ false
other_is_not text h = not_true (is_utf8 text) (λ e. h (IsUtf8-from_is_utf8 text e))

pub ruleset texts = (text_is_utf8, other_is_not)
