-- The head of a message in a stream: whether it is a dictionary, and how long its body is. (Message.fbs, Message.)
use Rattle.std.specs.Prelude.{ℕ, List, Bool, false, Result, Ok, Err, nat_eq, ◌||◌}
use Rattle.std.specs.Int.{w8}
use Rattle.arrow_spec.specs.declared.error.FlatError.{FlatError}
use Rattle.arrow_spec.specs.Flat.{root, slot_unsigned}
use Rattle.arrow_spec.specs.Messages.{message_of}
use Rattle.arrow_spec.specs.Readings.{◌>>=◌, Reading}
use Rattle.ipc_streams.specs.declared.head.Head.{Head}

-- dictionaries and batches
abbrev pub is_taken : ℕ → Bool
is_taken tag = nat_eq tag 2 || nat_eq tag 3

unfoldable pub head_of_message : List ℕ → Reading Head
head_of_message b = message_of b is_taken >>= λ m. Ok (record { is_dictionary = nat_eq m.tag 2; body = m.body })

-- the tag of a message's header
abbrev pub tag_of : List ℕ → Result ℕ FlatError
tag_of b = root b >>= λ t. slot_unsigned w8 0 b t 1

-- it is a dictionary's
abbrev pub is_dictionary_tag : Result ℕ FlatError → Bool
is_dictionary_tag (Ok tag) = nat_eq tag 2
is_dictionary_tag (Err e) = false
