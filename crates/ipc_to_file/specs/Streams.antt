-- A stream that is read whole, and whose dictionaries become one list each. (Arrow Columnar Format, "IPC Streaming Format", "Dictionary Messages".)
use Rattle.std.specs.Prelude.{◌≡◌, ◌⊎◌, ℕ, List, map, All, ⊤, true, false, Option, IfSome}
use Rattle.std.specs.Rc.{rc_value}
use Rattle.arrow_spec.specs.declared.error.IpcError.{IpcError}
use Rattle.arrow_spec.specs.declared.error.IpcError.TheVariants as errors
use Rattle.arrow_types.specs.Schemas.{Keyed}
use Rattle.arrow_arrays.specs.Parts.{forest}
use Rattle.arrow_arrays.specs.SameBatches.{holding_of}
use Rattle.laws_walk.specs.Below.{FileCause}
use Rattle.ipc_append.specs.Below.{IsReadable, MayBeWritten}
use Rattle.ipc_append.specs.Wholes.{IsWhole, RefusesStream}
use Rattle.ipc_append.specs.declared.stream.WholeStream.{WholeStream}
use Rattle.ipc_unify.specs.Below.{AreOver, Lists, has_large_keys, unified, united}

-- the fields of a stream's schema
abbrev pub schema_of : WholeStream → List Keyed
schema_of s = rc_value s.metadata.schema

-- some key that is not null would pass the type of its keys
abbrev pub has_large : WholeStream → Type 0
has_large s = has_large_keys (schema_of s) s.batches.items ≡ true

-- the lists of a stream's dictionaries
abbrev pub lists_of : WholeStream → Lists
lists_of s = united (schema_of s) s.batches.items

-- a stream over the lists of another's dictionaries: the same rows, cells and pairs, and no key passes its type
pub record IsMadeOf (s u : WholeStream) : Type 0 where
  pub metadata : u.metadata ≡ s.metadata
  pub batches : u.batches.items ≡ unified (schema_of s) s.batches.items
  pub same : map holding_of u.batches.items ≡ map holding_of s.batches.items
  pub over : All (λ b. AreOver (lists_of s) (forest b.arrays) 0) u.batches.items
  pub fits : has_large_keys (schema_of s) s.batches.items ≡ false

-- a stream that was read whole, over such lists
pub record IsUnited (rest : Option (List ℕ)) (u : WholeStream) : Type 0 where
  pub stream : WholeStream
  pub whole : IfSome rest (λ b. IsWhole b stream)
  pub readable : IsReadable stream.metadata
  pub may : MayBeWritten stream.metadata
  pub made : IsMadeOf stream u

-- a key of a stream that was read is too large
pub record HasLargeKey (b : List ℕ) : Type 0 where
  pub stream : WholeStream
  pub whole : IsWhole b stream
  pub large : has_large stream

-- why a stream is not read, or its dictionaries are no lists
abbrev pub RefusesUnited : IpcError → List ℕ → Type 0
RefusesUnited e b = RefusesStream e b ⊎ ((e ≡ errors.NotRepresentable) × HasLargeKey b)

abbrev pub UnitedCause : IpcError → ℕ → ℕ → Type 0
UnitedCause errors.NotRepresentable faults faults' = ⊤
UnitedCause e faults faults' = FileCause e faults faults'
