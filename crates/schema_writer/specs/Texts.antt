-- The texts of a schema are texts, and its pairs ascend by their keys, since texts are texts and maps are in order.
use Rattle.std.specs.Prelude.{◌≡◌, ℕ, List, [], ◌++◌, true, Ok}
use Rattle.arrow_spec.specs.Flat.{Order}
use Rattle.arrow_spec.specs.Kinds.{Kind, Fields, Metadata}
use Rattle.arrow_spec.specs.Messages.{Message}
use Rattle.arrow_spec.specs.Regular.{regular}
use Rattle.arrow_spec.specs.Streams.{schema_message_of}
use Rattle.arrow_spec.specs.WrittenSchemas.{Ascend, HaveTexts, KindHasTexts, own_fields}

-- pairs of texts in the order of their keys
pub record PairsAscend (pairs : Metadata) : Type 0 where
  pub ascend : Ascend [] pairs

-- the texts of a kind, and of fields
pub record KindSaysTexts (k : Kind) : Type 0 where
  pub texts : KindHasTexts k

pub record FieldsSayTexts (fs : Fields) : Type 0 where
  pub texts : HaveTexts fs

-- those of a schema
pub record SchemaSaysTexts (fs : Fields) (pairs : Metadata) : Type 0 where
  pub texts : HaveTexts fs
  pub ascend : Ascend [] pairs

-- Bytes in which a regular schema is read back, whatever stands behind them: all but the reserved keys among its fields' own pairs.
abbrev pub ReadsBackAs : Order → Fields → Metadata → List ℕ → Type 0
ReadsBackAs order fs pairs b = regular fs pairs ≡ true → (rest : List ℕ)
    → (m : Message) × (schema_message_of (b ++ rest) ≡ Ok (m, record { order = order; fields = own_fields fs; metadata = pairs }))
