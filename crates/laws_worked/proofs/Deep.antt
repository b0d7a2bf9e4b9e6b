use Rattle.std.specs.Prelude.{◌∷◌}
use Rattle.arrow_spec.specs.declared.error.IpcError.TheVariants.{TooDeep}
use Rattle.arrow_spec.specs.Files.{«all»}
use Rattle.std.proofs.Common.{◌≡◌, [], Some, None, refl}
use Rattle.laws_worked.proofs.DeepFiles.{levels_64_file, levels_65_file}
use Rattle.laws_worked.proofs.Rows.{why}
use Rattle.laws_worked.proofs.Int32Table.{computed}

pub deep_63 : why levels_64_file (record { columns = None; limit = Some 7 }) ≡ []
unfolding computed
deep_63 = refl

pub deep_64 : why levels_65_file «all» ≡ TooDeep ∷ []
unfolding computed
deep_64 = refl
