-- What the bytes of a stream tell of what is read of them.
use Rattle.std.specs.Prelude.{◌≡◌, ℕ, List, Option}
use Rattle.laws_walk.specs.declared.summary.Summary.{Summary}
use Rattle.ipc_append.specs.Below.{arrays_of}
use Rattle.ipc_append.specs.Wholes.{IsWhole}
use Rattle.ipc_append.specs.declared.stream.WholeStream.{WholeStream}
use Rattle.ipc_unify.specs.Below.{has_large_keys}
use Rattle.ipc_to_file.specs.Files.{MakesFile}
use Rattle.ipc_to_file.specs.Streams.{HasLargeKey, schema_of}

-- whatever is read whole of a stream's bytes has the same arrays
abbrev pub ArraysAreOfTheBytes : Type 0
ArraysAreOfTheBytes = (b : List ℕ) (s t : WholeStream) → IsWhole b s → IsWhole b t → arrays_of s.batches.items ≡ arrays_of t.batches.items

-- so it has a key that is too large, or it has none
abbrev pub LargeKeysAreOfTheBytes : Type 0
LargeKeysAreOfTheBytes = (b : List ℕ) (s t : WholeStream) → IsWhole b s → IsWhole b t
    → has_large_keys (schema_of s) s.batches.items ≡ has_large_keys (schema_of t) t.batches.items

-- and of a stream that has one no file is made
abbrev pub FilesHaveNoLargeKey : Type 0
FilesHaveNoLargeKey = (s : Summary) (b : List ℕ) (text : List ℕ → List ℕ) (old new : Option (List ℕ)) → MakesFile s b text old new → HasLargeKey b → ⊥
