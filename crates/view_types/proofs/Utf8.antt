-- Bytes that are UTF-8.
use Rattle.std.proofs.Common.{◌≡◌, ℕ, List, true}
use Rattle.std.specs.Str.{IsUtf8, is_utf8}
use Rattle.std.proofs.lemmas.Str.{IsUtf8-from_is_utf8}

pub text_there : (bytes : List ℕ) → is_utf8 bytes ≡ true → IsUtf8 bytes
text_there bytes h = IsUtf8-from_is_utf8 bytes h

pub ruleset texts = (text_there)
