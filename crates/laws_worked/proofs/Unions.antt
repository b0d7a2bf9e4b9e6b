use Rattle.std.proofs.Common.{◌≡◌, [], ◌∷◌, Some, refl}
use Rattle.std.specs.Prelude.{pos}
use Rattle.laws_worked.proofs.MoreFiles.{big_endian_file, dense_union_file, older_dense_union_file, older_union_nulls_file, unknown_union_type_file}
use Rattle.laws_worked.proofs.Int32Table.{computed, int32_table}
use Rattle.arrow_spec.specs.Meaning.{file_table}
use Rattle.laws_worked.proofs.Rows.{batches, why, txt, int}
use Rattle.arrow_spec.specs.declared.error.IpcError.TheVariants.{OutOfSpec, Unsupported}
use Rattle.arrow_spec.specs.declared.error.Feature.TheVariants as features
use Rattle.arrow_spec.specs.declared.error.OutOfSpecKind.TheVariants as kinds
use Rattle.arrow_spec.specs.Cells as cells
use Rattle.arrow_spec.specs.Files.{«all»}

pub big_endian : file_table big_endian_file «all» ≡ Some int32_table
unfolding computed
big_endian = refl

pub dense : batches (file_table dense_union_file «all») ≡ ((cells.tagged (pos 5) (int 1) ∷ cells.tagged (pos 7) (txt 120) ∷ cells.tagged (pos 5) (int 2) ∷ []) ∷ []) ∷ []
unfolding computed
dense = refl

pub dense_v4 : batches (file_table older_dense_union_file «all») ≡ batches (file_table dense_union_file «all»)
unfolding computed
dense_v4 = refl

pub nulls_v4 : why older_union_nulls_file «all» ≡ Unsupported features.UnionNulls ∷ []
unfolding computed
nulls_v4 = refl

pub no_id : why unknown_union_type_file «all» ≡ OutOfSpec kinds.InvalidUnion ∷ []
unfolding computed
no_id = refl
