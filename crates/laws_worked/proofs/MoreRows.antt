-- Defaults of absent slots, features, missing dictionaries and views.
use Rattle.std.proofs.Common.{◌≡◌, [], ◌∷◌, take, Some, None, refl, true, false}
use Rattle.std.specs.Prelude.{pos, codes}
use Rattle.laws_worked.proofs.Vectors.{int32_file}
use Rattle.laws_worked.proofs.WorkedFiles.{empty_file_far_dictionary, three_columns_file, two_batches_file}
use Rattle.laws_worked.proofs.MoreFiles.{defaults_file, delta_file, no_dictionary_file, missing_dictionary_file, float_file, compressed_file, views_file, wrong_prefix_file}
use Rattle.laws_worked.proofs.Int32Table.{computed, int32_table}
use Rattle.arrow_spec.specs.Meaning.{file_table}
use Rattle.laws_worked.proofs.Damage.{int32_file_with}
use Rattle.laws_worked.proofs.Rows.{batches, option_fields, why, int, request}
use Rattle.arrow_spec.specs.declared.types.IntegerType.TheVariants.{Int32}
use Rattle.arrow_spec.specs.declared.types.TimeUnit.TheVariants.{Millisecond}
use Rattle.arrow_spec.specs.declared.error.IpcError.TheVariants.{OutOfSpec, Unsupported, Projection}
use Rattle.arrow_spec.specs.declared.error.Feature.TheVariants as features
use Rattle.arrow_spec.specs.declared.error.OutOfSpecKind.TheVariants as kinds
use Rattle.arrow_spec.specs.Kinds as kind
use Rattle.arrow_spec.specs.Kinds.{Fields, none, field, small}
use Rattle.arrow_spec.specs.Cells as cells
use Rattle.arrow_spec.specs.Files.{«all»}

-- no dictionary is read where there is no batch
pub far_dictionary : batches (file_table empty_file_far_dictionary «all») ≡ []
unfolding computed
far_dictionary = refl

pub no_columns : batches (file_table two_batches_file (request (Some []) None)) ≡ [] ∷ [] ∷ []
unfolding computed
no_columns = refl

pub defaults : option_fields (file_table defaults_file «all») ≡ field (codes "d") true [] kind.date64 (field (codes "t") true [] (kind.time32 Millisecond) (field (codes "k") true [] (kind.dictionary Int32 false (pos 0) (kind.utf8 small)) none))
unfolding computed
defaults = refl

-- a delta begins a dictionary that there is none of
pub delta : batches (file_table delta_file «all») ≡ ((cells.text (codes "x") ∷ []) ∷ []) ∷ []
unfolding computed
delta = refl

pub no_dictionary : batches (file_table no_dictionary_file «all») ≡ ((cells.null ∷ cells.null ∷ []) ∷ []) ∷ []
unfolding computed
no_dictionary = refl

pub missing_dictionary : why missing_dictionary_file «all» ≡ OutOfSpec (kinds.InvalidId (pos 0)) ∷ []
unfolding computed
missing_dictionary = refl

pub float_passed_over : batches (file_table float_file (request (Some (1 ∷ [])) None)) ≡ ((int 7 ∷ []) ∷ []) ∷ []
unfolding computed
float_passed_over = refl

pub float_chosen : why float_file «all» ≡ Unsupported features.Float ∷ []
unfolding computed
float_chosen = refl

pub compressed : why compressed_file «all» ≡ Unsupported features.Compression ∷ []
unfolding computed
compressed = refl

pub views : batches (file_table views_file «all») ≡ ((cells.text (codes "abcdefghijkl") ∷ cells.text (codes "abcdefghijklm") ∷ cells.null ∷ []) ∷ []) ∷ []
unfolding computed
views = refl

pub wrong_prefix : why wrong_prefix_file «all» ≡ OutOfSpec kinds.InvalidView ∷ []
unfolding computed
wrong_prefix = refl

pub no_such_column : why three_columns_file (request (Some (3 ∷ [])) None) ≡ Projection 3 ∷ []
unfolding computed
no_such_column = refl

-- null bits are passed over where no null is counted
pub no_nulls : batches (file_table (int32_file_with 248 (0 ∷ [])) «all») ≡ ((int 1 ∷ int 0 ∷ int 3 ∷ []) ∷ []) ∷ []
unfolding computed
no_nulls = refl

-- a padded length of a buffer
pub padded_length : file_table (int32_file_with 288 (64 ∷ [])) «all» ≡ Some int32_table
unfolding computed
padded_length = refl

pub feather : why (codes "123456FEA1") «all» ≡ Unsupported features.FeatherV1 ∷ []
unfolding computed
feather = refl

pub other_magic : why (0 ∷ 0 ∷ 0 ∷ 0 ∷ codes "ARROW2") «all» ≡ OutOfSpec kinds.InvalidFooter ∷ []
unfolding computed
other_magic = refl

pub negative_footer : why (255 ∷ 255 ∷ 255 ∷ 255 ∷ codes "ARROW1") «all» ≡ OutOfSpec kinds.NegativeFooterLength ∷ []
unfolding computed
negative_footer = refl

pub empty : why [] «all» ≡ OutOfSpec kinds.Truncated ∷ []
unfolding computed
empty = refl

pub nine_bytes : why (take 9 int32_file) «all» ≡ OutOfSpec kinds.Truncated ∷ []
unfolding computed
nine_bytes = refl
