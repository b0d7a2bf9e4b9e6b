-- Metadata of several files, which is read before any of their batches.
use Rattle.std.specs.Prelude.{◌≡◌, ◌⊎◌, ◌<◌, ℕ, List, [], ◌∷◌, ◌++◌, None, Ok, false, length}
use Rattle.std.specs.List.{AllByRecursion}
use Rattle.arrow_spec.specs.declared.error.IpcError.{IpcError}
use Rattle.arrow_spec.specs.declared.error.IpcError.TheVariants.{SchemaMismatch, TooLarge}
use Rattle.arrow_spec.specs.Features.{chosen_floats}
use Rattle.arrow_spec.specs.Files.{Meta, custom_of, meta_of}
use Rattle.arrow_spec.specs.Kinds.{Fields, Metadata, bare}
use Rattle.arrow_spec.specs.Readings.{◌>>=◌, Reading, Refuses, refusals}
use Rattle.arrow_spec.specs.Sent.{may_be_sent, stream_schema}

-- what is read of a file before its dictionaries: what its footer says, with the footer's pairs
unfoldable pub opening : List ℕ → Reading (Meta × Metadata)
opening b = meta_of b >>= λ meta. custom_of b >>= λ custom. Ok (meta, custom)

-- it was read
pub record IsOpen (b : List ℕ) (meta : Meta) (custom : Metadata) : Type 0 where
  pub read : meta_of b ≡ Ok meta
  pub pairs : custom_of b ≡ Ok custom

-- it was, of a file with these fields, ids aside
pub record IsOpenWith (fields : Fields) (b : List ℕ) : Type 0 where
  pub meta : Meta
  pub custom : Metadata
  pub opened : IsOpen b meta custom
  pub same : bare meta.schema.fields ≡ fields

-- or with others
pub record IsOpenWithOthers (fields : Fields) (b : List ℕ) : Type 0 where
  pub meta : Meta
  pub custom : Metadata
  pub opened : IsOpen b meta custom
  pub other : bare meta.schema.fields ≡ fields → ⊥

-- it was read of each of several files of the same fields
pub record AreOpen (bs : List (List ℕ)) : Type 0 where
  pub fields : Fields
  pub each : AllByRecursion (IsOpenWith fields) bs

-- Behind files of the same fields stands one whose metadata is refused, or whose fields are others.
pub record StopsOpening (e : IpcError) (bs : List (List ℕ)) : Type 0 where
  pub before : List (List ℕ)
  pub file : List ℕ
  pub behind : List (List ℕ)
  pub are : bs ≡ before ++ file ∷ behind
  pub opened : AreOpen before
  pub why : Refuses e (refusals (opening file)) ⊎ ((e ≡ SchemaMismatch) × (0 < length before) × IsOpenWithOthers opened.fields file)

-- a schema is refused: a kind is never read, or the schema's message is too large
abbrev pub RefusesStart : IpcError → Meta → Metadata → Type 0
RefusesStart e meta custom = Refuses e (chosen_floats None meta.schema.fields 0)
    ⊎ ((e ≡ TooLarge) × (chosen_floats None meta.schema.fields 0 ≡ []) × (may_be_sent (stream_schema meta.schema.fields meta.schema.metadata custom) ≡ false))

-- The first file's schema is refused.
pub record StopsStart (e : IpcError) (bs : List (List ℕ)) : Type 0 where
  pub first : List ℕ
  pub others : List (List ℕ)
  pub are : bs ≡ first ∷ others
  pub meta : Meta
  pub custom : Metadata
  pub opened : IsOpen first meta custom
  pub why : RefusesStart e meta custom
