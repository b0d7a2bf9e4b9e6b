use Rattle.std.proofs.Common.{◌≡◌, [], ◌∷◌, take, drop, refl, true}
use Rattle.std.specs.Prelude.{pos}
use Rattle.laws_worked.proofs.Vectors.{int32_stream}
use Rattle.arrow_spec.specs.declared.types.IntegerType.TheVariants.{Int32}
use Rattle.arrow_spec.specs.Flat.{little}
use Rattle.arrow_spec.specs.Kinds.{field, none, integer}
use Rattle.arrow_spec.specs.Layout.{layout, size, table_head}
use Rattle.arrow_spec.specs.Sent.{schema_message, message, batch_node}

pub schema_laid : layout (schema_message little (field (97 ∷ []) true [] (integer Int32) none) [] []).node ≡ take 128 (drop 8 int32_stream)
unfolding layout table_head schema_message
schema_laid = refl

pub schema_laid-size : size (schema_message little (field (97 ∷ []) true [] (integer Int32) none) [] []).node ≡ 128
unfolding size schema_message
schema_laid-size = refl

pub batch_laid : layout (message 3 (batch_node 3 (record { nodes = record { length = pos 3; null_count = pos 1 } ∷ []; lengths = 1 ∷ 12 ∷ []; views = [] })) 128 []).node ≡ take 144 (drop 144 int32_stream)
unfolding layout table_head schema_message
batch_laid = refl
