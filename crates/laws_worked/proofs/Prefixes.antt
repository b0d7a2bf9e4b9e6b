use Rattle.std.proofs.Common.{◌≡◌, ℕ, zero, suc, List, [], ◌∷◌, take, refl}
use Rattle.laws_worked.proofs.Vectors.{int32_file}
use Rattle.laws_worked.proofs.Rows.{why}
use Rattle.laws_worked.proofs.Int32Table.{computed}
use Rattle.arrow_spec.specs.declared.error.IpcError.{IpcError}
use Rattle.arrow_spec.specs.declared.error.IpcError.TheVariants.{OutOfSpec}
use Rattle.arrow_spec.specs.declared.error.OutOfSpecKind.TheVariants as kinds
use Rattle.arrow_spec.specs.Files.{«all»}

abbrev pub whys : ℕ → ℕ → List (List IpcError)
whys i zero = []
whys i (suc n) = why (take i int32_file) «all» ∷ whys (suc i) n

abbrev pub copies : ℕ → List (List IpcError)
copies zero = []
copies (suc n) = (OutOfSpec kinds.InvalidFooter ∷ []) ∷ copies n

pub prefixes : whys 11 607 ≡ copies 607
unfolding computed
prefixes = refl
