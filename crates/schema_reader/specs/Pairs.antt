-- The pairs of schemas, footers and messages as they are read one after another. (Schema.fbs, KeyValue.)
use Rattle.std.specs.Prelude.{ℕ, List, Option, Ok}
use Rattle.arrow_spec.specs.declared.error.FlatError.{FlatError}
use Rattle.arrow_spec.specs.declared.error.OutOfSpecKind.{OutOfSpecKind}
use Rattle.arrow_spec.specs.declared.error.OutOfSpecKind.TheVariants as kinds
use Rattle.arrow_spec.specs.Readings.{◌>>=◌, Reading, as_kind}
use Rattle.arrow_spec.specs.Flat.{Table, slot_text, target, table_at}
use Rattle.arrow_spec.specs.Kinds.{Metadata}
use Rattle.arrow_spec.specs.Schema.{with_read_pair}
use Rattle.schema_reader.specs.declared.pairs.PairsOwner.{PairsOwner}
use Rattle.schema_reader.specs.declared.pairs.PairsOwner.TheVariants as owners

-- the kind of a fault in them
abbrev pub pairs_kind : PairsOwner → FlatError → OutOfSpecKind
pairs_kind owners.Schema = kinds.InvalidFlatbufferSchema
pairs_kind owners.Footer = kinds.InvalidFlatbufferFooter
pairs_kind owners.Message = kinds.InvalidFlatbufferMessage

-- a text of a table
abbrev pub owner_text : PairsOwner → List ℕ → Table → ℕ → Reading (Option (List ℕ))
owner_text owner b t slot = as_kind (pairs_kind owner) (slot_text b t slot)

-- a pair that is put to those before it
unfoldable pub pair_put : (FlatError → OutOfSpecKind) → List ℕ → ℕ → Metadata → Reading Metadata
pair_put kind b at m = do
  t ← as_kind kind (target b at >>= λ p. table_at b p)
  key ← as_kind kind (slot_text b t 0)
  value ← as_kind kind (slot_text b t 1)
  Ok (with_read_pair key value m)
