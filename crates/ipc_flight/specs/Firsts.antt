-- The schema's message with which a flight begins. (Arrow Columnar Format, "Schema message".)
use Rattle.std.specs.Prelude.{◌≡◌, ◌<◌, ℕ, List, [], Result, Ok, Err}
use Rattle.arrow_spec.specs.declared.error.IpcError.{IpcError}
use Rattle.arrow_spec.specs.declared.error.IpcError.TheVariants.{Memory, TooLarge}
use Rattle.arrow_spec.specs.declared.message.MetadataVersion.TheVariants.{V5}
use Rattle.arrow_spec.specs.Kinds.{Metadata}
use Rattle.arrow_spec.specs.Layout.{size}
use Rattle.arrow_spec.specs.Readings.{◌>>=◌, Reading}
use Rattle.arrow_spec.specs.Schema.{Schema}
use Rattle.arrow_spec.specs.Sent.{schema_message}
use Rattle.ipc_streams.specs.Starts.{Start, head_in}
use Rattle.ipc_write.specs.declared.encoded.EncodedData.{EncodedData}

-- what the metadata of a schema's message says; its body is passed over
unfoldable pub first_in : List ℕ → Reading Start
first_in bytes = head_in bytes >>= λ h. Ok h.0

-- A message says a schema, with these pairs of its own, and has no body; or there is none, for want of memory or where its metadata passes 2^31 - 1 bytes.
pub data GivesFirst (s : Schema) (custom : Metadata) : Result EncodedData IpcError → Type 0 where
  says : {x : EncodedData} → x.arrow_data.items ≡ [] → first_in x.ipc_message.items ≡ Ok (record { schema = s; custom = custom; version = V5 }) → GivesFirst s custom (Ok x)
  memory : GivesFirst s custom (Err Memory)
  too_large : 2147483647 < size (schema_message s.order s.fields s.metadata custom).node → GivesFirst s custom (Err TooLarge)
