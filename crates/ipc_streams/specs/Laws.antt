-- What follows from the definitions of what a stream means.
use Rattle.std.specs.Prelude.{◌≡◌, ◌⊎◌, ℕ, List, [], ◌∷◌, length, Option, Some, Ok, Err}
use Rattle.arrow_spec.specs.declared.error.IpcError.TheVariants.{TooMany}
use Rattle.arrow_spec.specs.declared.error.Counted.TheVariants as counted
use Rattle.arrow_spec.specs.Arrays.{Dictionaries}
use Rattle.arrow_spec.specs.Files.{TableBatch, columns_right, fields_as_asked}
use Rattle.arrow_spec.specs.Kinds.{bare, width}
use Rattle.arrow_spec.specs.Readings.{◌>>=◌, Reading}
use Rattle.arrow_spec.specs.Streams.{Reader, stream_batches, stream_table}
use Rattle.arrow_arrays.specs.Parts.{Parts}
use Rattle.ipc_files.specs.Below.{Held}
use Rattle.ipc_streams.specs.Arrays.{StreamArrays}
use Rattle.ipc_streams.specs.Starts.{Start, start_in}
use Rattle.ipc_streams.specs.Steps.{Found, Next, Nexts, a_batch, ended, most_dictionaries, next_in, waiting}

-- what the batches of a stream are by what stands next: it and those behind it, or none
abbrev pub AreBehind : Reader → Found → Dictionaries → List ℕ → Reading (List TableBatch) → Type 0
AreBehind s (a_batch x) d rest batches = batches ≡ (stream_batches (length rest) s d rest >>= λ others. Ok (x ∷ others))
AreBehind s ended d rest batches = batches ≡ Ok []
AreBehind s waiting d rest batches = batches ≡ Ok []

-- the same where it may be refused: for too many dictionaries, which the stream's meaning allows, or as the stream is
abbrev pub AreOf : Reader → Reading Next → Reading (List TableBatch) → Type 0
AreOf s (Ok n) batches = AreBehind s n.found n.dictionaries n.rest batches
AreOf s (Err es) batches = (es ≡ TooMany counted.Dictionaries ∷ []) ⊎ (batches ≡ Err es)

abbrev pub NextIsOfTheStream : Type 0
NextIsOfTheStream = (s : Reader) (d : Dictionaries) (b : List ℕ) → AreOf s (next_in most_dictionaries s d b) (stream_batches (length b) s d b)

abbrev pub NextsAreTheStream : Type 0
NextsAreTheStream = (b : List ℕ) (columns : Option (List ℕ)) (start : Start) (rest : List ℕ) (xs : List TableBatch) → start_in b ≡ Ok (start, rest)
    → columns_right columns (width start.schema.fields) ≡ Ok tt
    → Nexts (record { schema = start.schema; columns = columns }) [] rest xs
    → stream_table b columns ≡ Some (record {
      metadata = start.schema.metadata;
      custom = start.custom;
      fields = bare (fields_as_asked columns start.schema.fields);
      batches = xs;
    })

-- the arrays of a stream's batches are told by its bytes and by what is held before them
abbrev pub ArraysAreOfTheStream : Type 0
ArraysAreOfTheStream = (s : Reader) (h : Held) (b : List ℕ) (xs ys : List (List Parts)) → StreamArrays s h b xs → StreamArrays s h b ys → xs ≡ ys
