-- A stream of several files that is begun, and ended.
use Rattle.std.specs.Prelude.{◌≡◌, ◌⊎◌, ℕ, List, [], Option, Result, Ok, Err}
use Rattle.std.specs.Io.KnownBytes.{Keeps}
use Rattle.arrow_spec.specs.declared.error.IpcError.{IpcError}
use Rattle.arrow_spec.specs.Files.{TableBatch, «all»}
use Rattle.ipc_io.specs.Outside.{AppendsPrefix}
use Rattle.ipc_bodies.specs.Encodings.{text_of}
use Rattle.ipc_bodies.specs.declared.encoding.Encoding.{Encoding}
use Rattle.laws_walk.specs.Below.{IsOpened, file_custom, meta_view, FileCursor}
use Rattle.laws_walk.specs.declared.summary.Summary.{Summary}
use Rattle.ipc_concat.specs.Concat.{AddsPart, Concatenates, IsOfPut}
use Rattle.ipc_concat.specs.Files.{Holds, IsPut, Start, head_of}
use Rattle.ipc_concat.specs.Opening.{RefusesStart}
use Rattle.ipc_concat.specs.declared.stream.JoinedStream.{JoinedStream}

-- a stream of a first file's schema and pairs
abbrev pub start_of : FileCursor → Encoding → Option (List ℕ) → Start
start_of c encoding before = record { head = head_of c.metadata; encoding = encoding; before = before }

-- The schema is refused, and nothing was put; or a put of its message failed.
pub data NotBegun (e : IpcError) (b : List ℕ) (c : FileCursor) (encoding : Encoding) (old new : Option (List ℕ)) (wants wants' : ℕ) : Type 0 where
  refused : RefusesStart e (meta_view c.metadata) (file_custom c.metadata) → Keeps old new → NotBegun e b c encoding old new wants wants'
  in_put : {bytes : List ℕ} → IsPut (start_of c encoding old) b c.metadata [] [] bytes → IsOfPut e wants wants' → AppendsPrefix old new (text_of encoding bytes) → NotBegun e b c encoding old new wants wants'

-- a stream was begun, or not
abbrev pub Begins : Result JoinedStream IpcError → List ℕ → FileCursor → Encoding → Option (List ℕ) → Option (List ℕ) → ℕ → ℕ → Type 0
Begins (Ok s) b c encoding old new wants wants' = IsOpened b «all» (meta_view c.metadata) (file_custom c.metadata) × Holds (start_of c encoding old) s new []
Begins (Err e) b c encoding old new wants wants' = NotBegun e b c encoding old new wants wants'

-- all files were put into one stream, or a part of it
abbrev pub Joins : Result Summary IpcError → List (List ℕ) → Encoding → Option (List ℕ) → Option (List ℕ) → ℕ → ℕ → Type 0
Joins (Ok s) bs encoding old new wants wants' = Concatenates s bs (text_of encoding) old new
Joins (Err e) bs encoding old new wants wants' = AddsPart e bs (text_of encoding) old new wants wants'
