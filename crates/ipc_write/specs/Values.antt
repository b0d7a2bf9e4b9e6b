-- The message of a dictionary's values. (Arrow Columnar Format, "Dictionary Messages".)
use Rattle.std.specs.Prelude.{◌≡◌, [], ◌∷◌, Bool, true, false, None, ℤ, Result, Ok, Err, IsSome}
use Rattle.arrow_spec.specs.declared.error.IpcError.{IpcError}
use Rattle.arrow_spec.specs.declared.error.IpcError.TheVariants as errors
use Rattle.arrow_spec.specs.declared.error.Feature.TheVariants as features
use Rattle.arrow_spec.specs.Flat.{little}
use Rattle.arrow_spec.specs.Layout.{layout}
use Rattle.arrow_spec.specs.Framing.{body_bytes}
use Rattle.arrow_spec.specs.Sent.{SentMessage}
use Rattle.arrow_arrays.specs.Parts.{Parts, rows_in}
use Rattle.ipc_write_arrays.specs.Below.{written_of, message_of_values}
use Rattle.ipc_write_arrays.specs.Pieces.{IsMeant, column_in, pieces_in}
use Rattle.ipc_write.specs.Planned.{NodesFit, is_short}
use Rattle.ipc_write.specs.declared.encoded.BodyPlan.{BodyPlan}
use Rattle.ipc_write.specs.declared.encoded.EncodedData.{EncodedData}
use Rattle.ipc_write.specs.declared.options.WriteOptions.{WriteOptions}

-- the message of an array as values under an id
abbrev pub values_message : ℤ → Bool → Parts → SentMessage
values_message id is_delta p = message_of_values id is_delta (written_of (column_in little p ∷ []))

-- the message of an array as values means its cells, under any ids of dictionaries under which their values were read, and can say its nodes
pub record MayBeValues (p : Parts) : Type 0 where
  pub means : IsMeant little p
  pub nodes : NodesFit (written_of (column_in little p ∷ []))

-- it was planned: its flatbuffer and the buffers of its body; or it is refused
abbrev pub PlansValues : Result BodyPlan IpcError → WriteOptions → ℤ → Bool → Parts → Type 0
PlansValues (Ok p) options id is_delta x = (options.compression ≡ None) × (is_short options.metadata_limit (rows_in x) (values_message id is_delta x) ≡ true)
    × (p.ipc_message.items ≡ layout (values_message id is_delta x).node) × (p.buffers.items ≡ pieces_in little x)
    × (p.body_length ≡ (values_message id is_delta x).body)
PlansValues (Err (errors.Unsupported features.Compression)) options id is_delta x = IsSome options.compression
PlansValues (Err errors.TooLarge) options id is_delta x =
    (options.compression ≡ None) × (is_short options.metadata_limit (rows_in x) (values_message id is_delta x) ≡ false)
PlansValues (Err errors.Memory) options id is_delta x = options.compression ≡ None
PlansValues (Err e) options id is_delta x = ⊥

-- a message is that of an array as values under an id
pub record IsOfValues (options : WriteOptions) (id : ℤ) (is_delta : Bool) (x : Parts) (m : EncodedData) : Type 0 where
  pub uncompressed : options.compression ≡ None
  pub short : is_short options.metadata_limit (rows_in x) (values_message id is_delta x) ≡ true
  pub message : m.ipc_message.items ≡ layout (values_message id is_delta x).node
  pub body : m.arrow_data.items ≡ body_bytes 0 (pieces_in little x)

-- it was encoded: its flatbuffer and its body; or it is refused as its plan is
abbrev pub EncodesValues : Result EncodedData IpcError → WriteOptions → ℤ → Bool → Parts → Type 0
EncodesValues (Ok m) options id is_delta x = IsOfValues options id is_delta x m
EncodesValues (Err e) options id is_delta x = PlansValues (Err e) options id is_delta x
