-- A file in which a float and a decimal of 256 bits stand below other kinds: such a column refuses the file by its own name where it is asked for, and nowhere else.
use Rattle.std.proofs.Common.{◌≡◌, List, [], ◌∷◌, ◌++◌, Some, None, refl, true, ℕ}
use Rattle.std.specs.Prelude.{codes}
use Rattle.arrow_spec.specs.declared.error.IpcError.TheVariants.{Unsupported}
use Rattle.arrow_spec.specs.declared.error.Feature.TheVariants.{Float, Decimal256}
use Rattle.arrow_spec.specs.declared.types.IntegerType.TheVariants.{Int32}
use Rattle.arrow_spec.specs.Kinds.{Fields, none, field, small, double, integer, float, decimal256, «list», struct}
use Rattle.arrow_spec.specs.Layout.{layout, table_head, u32, zeros}
use Rattle.arrow_spec.specs.Framing.{message_bytes}
use Rattle.arrow_spec.specs.Files.{«all»}
use Rattle.arrow_spec.specs.Meaning.{file_table}
use Rattle.laws_worked.proofs.Int32Table.{computed}
use Rattle.laws_worked.proofs.Rows.{batches, why, int, request}
use Rattle.laws_worked.proofs.DeltaRows.{Whole, batch, file_of, node}

-- a list of floats of 64 bits, a struct of a decimal of 256 bits, and an integer
abbrev columns : Fields
columns = field (codes "l") true [] («list» small (field (codes "item") true [] (float double) none)) (field (codes "s") true [] (struct (field (codes "d") true [] (decimal256 50 2) none)) (field (codes "a") true [] (integer Int32) none))

-- one row: a list of one float, a struct, and 7
abbrev row : Whole
row = batch 1 (node 1 ∷ node 1 ∷ node 1 ∷ node 1 ∷ node 1 ∷ []) ([] ∷ (u32 0 ++ u32 1) ∷ [] ∷ zeros 8 ∷ [] ∷ [] ∷ zeros 32 ∷ [] ∷ u32 7 ∷ [])

abbrev nested_file : List ℕ
nested_file = file_of columns [] (row ∷ [])

pub list_of_floats : why nested_file (request (Some (0 ∷ [])) None) ≡ Unsupported Float ∷ []
unfolding computed message_bytes layout table_head
list_of_floats = refl

pub struct_of_decimals : why nested_file (request (Some (2 ∷ 1 ∷ [])) None) ≡ Unsupported Decimal256 ∷ []
unfolding computed message_bytes layout table_head
struct_of_decimals = refl

-- either may be told
pub both : why nested_file «all» ≡ Unsupported Float ∷ Unsupported Decimal256 ∷ []
unfolding computed message_bytes layout table_head
both = refl

pub passed_over : batches (file_table nested_file (request (Some (2 ∷ [])) None)) ≡ ((int 7 ∷ []) ∷ []) ∷ []
unfolding computed message_bytes layout table_head
passed_over = refl
