-- What the calls of this crate do to what they are lent.
use Rattle.std.specs.Prelude.{◌≡◌, ◌⊎◌, ℕ, ◌-◌, List, [], ◌∷◌, ◌++◌, length, Bool, true, false, not, ◌&&◌, None, Result, Ok, Err, IsSome, ℤ}
use Rattle.std.specs.Int.{w32, to_le_bytes, cast_unsigned}
use Rattle.arrow_spec.specs.declared.error.IpcError.{IpcError}
use Rattle.arrow_spec.specs.declared.error.IpcError.TheVariants as errors
use Rattle.arrow_spec.specs.declared.error.Feature.TheVariants as features
use Rattle.arrow_spec.specs.Layout.{layout, up_to, zeros}
use Rattle.arrow_spec.specs.Framing.{prefixed}
use Rattle.arrow_spec.specs.Readings.{is_absent}
use Rattle.arrow_arrays.specs.Batches.{Batch}
use Rattle.ipc_write.specs.Batches.{batch_message, batch_body, columns_pieces, is_within}
use Rattle.ipc_write.specs.declared.encoded.BodyPlan.{BodyPlan}
use Rattle.ipc_write.specs.declared.encoded.EncodedData.{EncodedData}
use Rattle.ipc_write.specs.declared.options.WriteOptions.{WriteOptions}

-- mark and length, and the metadata with zeros up to a multiple of 8
abbrev pub metadata_frame : List ℕ → List ℕ
metadata_frame metadata = prefixed (up_to 8 (length metadata)) (metadata ++ zeros (up_to 8 (length metadata) - length metadata))

-- the bytes of a message: these, and the body with zeros up to a multiple of 64
unfoldable pub message_frame : List ℕ → List ℕ → List ℕ
message_frame metadata body = metadata_frame metadata ++ body ++ zeros (up_to 64 (length body) - length body)

-- the mark and a length
abbrev pub continuation : ℤ → List ℕ
continuation n = (255 ∷ 255 ∷ 255 ∷ 255 ∷ []) ++ to_le_bytes w32 (cast_unsigned w32 n)

-- two messages are the same bytes
pub record Same (old new : EncodedData) : Type 0 where
  pub message : new.ipc_message.items ≡ old.ipc_message.items
  pub body : new.arrow_data.items ≡ old.arrow_data.items

-- types that the tables of a schema cannot say are refused, where no compression is asked for, which is told before
abbrev pub refuses_types : WriteOptions → Bool → Bool
refuses_types options representable = is_absent options.compression && not representable

-- a call does one thing where a test holds, and another where it does not
abbrev pub Either : Bool → Type 0 → Type 0 → Type 0
Either test does otherwise = ((test ≡ true) × does) ⊎ ((test ≡ false) × otherwise)

-- a batch has been planned: its message and the buffers of its body; or it is refused
abbrev pub Plans : Result BodyPlan IpcError → WriteOptions → Batch → Type 0
Plans (Ok p) options b = (options.compression ≡ None) × (is_within options.metadata_limit b ≡ true) × (p.ipc_message.items ≡ layout (batch_message b).node)
    × (p.buffers.items ≡ columns_pieces b.arrays) × (p.body_length ≡ length (batch_body b))
Plans (Err (errors.Unsupported features.Compression)) options b = IsSome options.compression
Plans (Err errors.TooLarge) options b = (options.compression ≡ None) × (is_within options.metadata_limit b ≡ false)
Plans (Err errors.Memory) options b = options.compression ≡ None
Plans (Err e) options b = ⊥

-- a batch has been encoded, or is refused, and then what was there is left
abbrev pub Encodes : Result (Unit {0}) IpcError → WriteOptions → Batch → EncodedData → EncodedData → Type 0
Encodes (Ok done) options b old new = (options.compression ≡ None) × (is_within options.metadata_limit b ≡ true)
    × (new.ipc_message.items ≡ layout (batch_message b).node) × (new.arrow_data.items ≡ batch_body b)
Encodes (Err (errors.Unsupported features.Compression)) options b old new = IsSome options.compression × Same old new
Encodes (Err errors.TooLarge) options b old new = (options.compression ≡ None) × (is_within options.metadata_limit b ≡ false) × Same old new
Encodes (Err errors.Memory) options b old new = (options.compression ≡ None) × Same old new
Encodes (Err e) options b old new = ⊥
