-- A shelf over memory as clauses see it: what stands under names, and which of its calls fail.
use Rattle.std.specs.Prelude.{◌≡◌, ℕ, List, [], ◌∷◌, nat_lt, Option, Some, None, Vec, if◌then◌else◌, string_bytes, bytes_eq, All}
use Rattle.std.specs.declared.alloc.Global.{Global}
use Rattle.arrow_spec.specs.Words.{Held}
use Rattle.ipc_io.specs.Memory.{Calls, SourceState, counted, new_source, one_if}
use Rattle.ipc_disk.specs.Memory.{DiskState}
use Rattle.ipc_disk.specs.declared.shelf.Entry.{Entry}

pub record ShelfState : Type 0 where
  pub entries : List Entry
  pub calls : Calls

-- after a file was closed that counted so many calls: that it failed is one fault more, and no call
abbrev pub after_close : Calls → Calls → Calls
after_close calls file = record calls { faults = counted calls.faults (one_if (nat_lt 0 file.faults)) }

-- the first entry of a name
abbrev pub entry_of : List Entry → List ℕ → Option Entry
entry_of [] name = None
entry_of (entry ∷ entries) name = if bytes_eq (string_bytes entry.name) name then Some entry else entry_of entries name

abbrev pub bytes_of : Option Entry → Option (List ℕ)
bytes_of None = None
bytes_of (Some entry) = Some entry.bytes.items

-- what stands under each name
abbrev pub held_in : List Entry → Held
held_in entries name = bytes_of (entry_of entries name)

-- what is opened where an entry stands
abbrev pub opened : Entry → SourceState
opened entry = new_source entry.bytes.items entry.failing.items entry.places.items

-- the same as a place
abbrev pub opened_place : Entry → DiskState
opened_place entry = record { source = opened entry; wants = 0 }

-- other bytes in the first entry of a name
abbrev pub with_bytes : List Entry → List ℕ → Vec ℕ Global → List Entry
with_bytes [] name bytes = []
with_bytes (entry ∷ entries) name bytes = if bytes_eq (string_bytes entry.name) name then record entry { bytes = bytes } ∷ entries else entry ∷ with_bytes entries name bytes

-- these bytes are in the first entry of a name now, and nothing else has changed
pub record IsStored (entries entries' : List Entry) (name content : List ℕ) : Type 0 where
  pub bytes : Vec ℕ Global
  pub are : bytes.items ≡ content
  pub stored : entries' ≡ with_bytes entries name bytes

-- reading and writing what stands under a name never fails
pub record EntryNeverFails (entry : Entry) : Type 0 where
  pub calls : entry.failing.items ≡ []
  pub places : entry.places.items ≡ []

pub record ShelfNeverFails (shelf : ShelfState) : Type 0 where
  pub calls : shelf.calls.failing ≡ []
  pub entries : All EntryNeverFails shelf.entries
