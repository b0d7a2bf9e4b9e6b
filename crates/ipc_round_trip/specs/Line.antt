-- The line that is said of a generated table.
use Rattle.std.specs.Prelude.{◌≡◌, ◌⊎◌, ◌/◌, ◌++◌, ℕ, List, [], ◌∷◌, length, None, Some, codes}
use Rattle.std.specs.Fmt.{decimal}
use Rattle.arrow_spec.specs.declared.error.IpcError.{IpcError}
use Rattle.arrow_spec.specs.declared.error.IpcError.TheVariants.{Memory, TooLarge}
use Rattle.arrow_spec.specs.Files.{«all»}
use Rattle.arrow_spec.specs.Meaning.{file_table}
use Rattle.arrow_spec.specs.Streams.{closed, stream_table}
use Rattle.ipc_append.specs.Wholes.{HasTooMany}
use Rattle.ipc_generate.specs.Table.{generated_table, state}

-- so many batches and rows, the bytes of a file and of a stream, and the number in row 1
unfoldable pub line_of : ℕ → ℕ → ℕ → ℕ → ℕ → List ℕ
line_of batches rows source stream first =
    codes "batches " ++ decimal batches ++ codes " rows " ++ decimal rows ++ codes " source " ++ decimal source ++ codes " stream " ++ decimal stream
    ++ codes " first " ++ decimal first ++ 10 ∷ []

-- the line of a file and of a stream of the table that is generated from a number
abbrev pub generated_line : ℕ → ℕ → ℕ → List ℕ
generated_line seed source stream = line_of 16 65536 source stream (state seed 2 / 2)

-- a text is the line of a file of the generated table, and of the stream that means the same
pub record IsLineOf (seed : ℕ) (text : List ℕ) : Type 0 where
  pub file : List ℕ
  pub means : file_table file «all» ≡ Some (generated_table seed)
  pub stream : List ℕ
  pub is_closed : closed stream
  pub says : stream_table stream None ≡ Some (generated_table seed)
  pub line : text ≡ generated_line seed (length file) (length stream)

-- more dictionaries stand before a batch of the stream than a reader takes
pub record HasTooManyDictionaries (seed : ℕ) (e : IpcError) : Type 0 where
  pub stream : List ℕ
  pub says : stream_table stream None ≡ Some (generated_table seed)
  pub too_many : HasTooMany e stream

-- why there is none: memory was wanted, the file or a message of its stream is too large, or there are too many dictionaries
abbrev pub RefusesLine : ℕ → IpcError → Type 0
RefusesLine seed e = ((e ≡ Memory) ⊎ (e ≡ TooLarge)) ⊎ HasTooManyDictionaries seed e
