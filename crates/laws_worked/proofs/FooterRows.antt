-- The footer of the worked file, and the parts of the file.
use Rattle.std.proofs.Common.{◌≡◌, [], ◌∷◌, ◌++◌, take, drop, refl, true}
use Rattle.std.specs.Prelude.{codes}
use Rattle.laws_worked.proofs.Vectors.{int32_file, int32_stream}
use Rattle.arrow_spec.specs.declared.types.IntegerType.TheVariants.{Int32}
use Rattle.arrow_spec.specs.Kinds.{field, none, integer}
use Rattle.arrow_spec.specs.Layout.{layout, table_head, zeros}
use Rattle.arrow_spec.specs.Footers.{footer_node}

pub footer_laid : layout (footer_node (field (97 ∷ []) true [] (integer Int32) none) [] [] [] (record { offset = 144; metadata = 152; body = 128 } ∷ [])) ≡ take 176 (drop 432 int32_file)
unfolding layout table_head
footer_laid = refl

pub parts : int32_file ≡ codes "ARROW1" ++ zeros 2 ++ int32_stream ++ take 176 (drop 432 int32_file) ++ (176 ∷ 0 ∷ 0 ∷ 0 ∷ []) ++ codes "ARROW1"
parts = refl
