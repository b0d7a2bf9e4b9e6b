-- Messages that are given: their bytes, and how many these are. (Arrow Columnar Format, "Encapsulated message format".)
use Rattle.std.specs.Prelude.{◌≡◌, ◌⊎◌, ◌+◌, ◌-◌, ℕ, List, [], ◌∷◌, ◌++◌, ◌&&◌, Bool, true, false, length, map, min, nat_le, Result, Ok, Err}
use Rattle.std.specs.List.{flat_map}
use Rattle.std.specs.declared.alloc.Global.{Global}
use Rattle.std.specs.declared.vec.Vec.{Vec}
use Rattle.arrow_spec.specs.declared.error.IpcError.{IpcError}
use Rattle.arrow_spec.specs.declared.error.IpcError.TheVariants.{Memory, TooLarge}
use Rattle.arrow_spec.specs.Layout.{up_to, zeros}
use Rattle.ipc_write.specs.Outcomes.{message_frame}
use Rattle.ipc_write.specs.declared.encoded.EncodedData.{EncodedData}
use Rattle.ipc_messages.specs.Messages.{Sizes}
use Rattle.ipc_messages.specs.declared.framed_message.FramedMessage.{FramedMessage}

-- a message's bytes, and how many stand before its body and in it
abbrev pub given_text : EncodedData → List ℕ
given_text m = message_frame m.ipc_message.items m.arrow_data.items

abbrev pub given_sizes : EncodedData → Sizes
given_sizes m = record { front = 8 + up_to 8 (length m.ipc_message.items); body = up_to 64 (length m.arrow_data.items) }

-- its padded metadata passes neither a limit nor 2^31 - 1
abbrev pub is_short : ℕ → EncodedData → Bool
is_short limit m = nat_le (up_to 8 (length m.ipc_message.items)) (min limit 2147483647)

-- that of none does
abbrev pub are_short : ℕ → List EncodedData → Bool
are_short limit [] = true
are_short limit (m ∷ ms) = is_short limit m && are_short limit ms

-- a body with zeros up to a multiple of 64
abbrev pub padded_body : List ℕ → List ℕ
padded_body body = body ++ zeros (up_to 64 (length body) - length body)

-- the bytes of a message with its front, and how many they are
abbrev pub framed_text : FramedMessage → List ℕ
framed_text m = m.front.items ++ padded_body m.body.now

abbrev pub framed_sizes : FramedMessage → Sizes
framed_sizes m = record { front = length m.front.items; body = up_to 64 (length m.body.now) }

-- a message was framed
pub record IsFramed (limit : ℕ) (x : EncodedData) (m : FramedMessage) : Type 0 where
  pub short : is_short limit x ≡ true
  pub text : framed_text m ≡ given_text x
  pub sizes : framed_sizes m ≡ given_sizes x

-- or its metadata is too large, or memory was wanted
abbrev pub FramesOne : Result FramedMessage IpcError → ℕ → EncodedData → Type 0
FramesOne (Ok m) limit x = IsFramed limit x m
FramesOne (Err e) limit x = (e ≡ Memory) ⊎ ((e ≡ TooLarge) × (is_short limit x ≡ false))

-- messages were framed, in order
pub record AreFramed (limit : ℕ) (xs : List EncodedData) (ms : List FramedMessage) : Type 0 where
  pub short : are_short limit xs ≡ true
  pub text : flat_map framed_text ms ≡ flat_map given_text xs
  pub sizes : map framed_sizes ms ≡ map given_sizes xs

-- or the metadata of one is too large, or memory was wanted
abbrev pub FramesEach : Result (Vec FramedMessage Global) IpcError → ℕ → List EncodedData → Type 0
FramesEach (Ok v) limit xs = AreFramed limit xs v.items
FramesEach (Err e) limit xs = (e ≡ Memory) ⊎ ((e ≡ TooLarge) × (are_short limit xs ≡ false))
