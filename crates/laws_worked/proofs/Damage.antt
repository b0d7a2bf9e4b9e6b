use Rattle.std.proofs.Common.{◌≡◌, ◌^◌, ◌+◌, ◌-◌, ℕ, List, [], ◌∷◌, ◌++◌, length, take, drop, Some, None, refl}
use Rattle.std.specs.Int.{to_le_bytes, w32, w64}
use Rattle.laws_worked.proofs.Vectors.{int32_file}
use Rattle.laws_worked.proofs.Int32Table.{computed, int32_table}
use Rattle.arrow_spec.specs.Meaning.{file_table}
use Rattle.arrow_spec.specs.declared.error.IpcError.{IpcError}
use Rattle.arrow_spec.specs.declared.error.IpcError.TheVariants.{OutOfSpec, Unsupported}
use Rattle.arrow_spec.specs.declared.error.FlatError.TheVariants.{Number}
use Rattle.arrow_spec.specs.declared.error.Feature.TheVariants as features
use Rattle.arrow_spec.specs.declared.error.OutOfSpecKind.TheVariants as kinds
use Rattle.arrow_spec.specs.Readings.{refusals}
use Rattle.arrow_spec.specs.Files.{file_reading, «all», to_send}

-- int32_file with these bytes from a place on
abbrev pub int32_file_with : ℕ → List ℕ → List ℕ
int32_file_with p bytes = take p int32_file ++ bytes ++ drop (p + length bytes) int32_file

abbrev pub why : List ℕ → List IpcError
why b = refusals (file_reading to_send b «all» None)

pub version_3 : why (int32_file_with 172 (2 ∷ 0 ∷ [])) ≡ Unsupported features.Version ∷ []
unfolding computed
version_3 = refl

pub version_6 : why (int32_file_with 172 (5 ∷ 0 ∷ [])) ≡ OutOfSpec (kinds.InvalidFlatbufferVersion Number) ∷ []
unfolding computed
version_6 = refl

pub version_4 : file_table (int32_file_with 172 (3 ∷ 0 ∷ [])) «all» ≡ Some int32_table
unfolding computed
version_4 = refl

pub no_header : why (int32_file_with 174 (0 ∷ [])) ≡ OutOfSpec kinds.MissingMessageHeader ∷ []
unfolding computed
no_header = refl

pub dictionary : why (int32_file_with 174 (2 ∷ [])) ≡ OutOfSpec kinds.UnexpectedMessageType ∷ []
unfolding computed
dictionary = refl

pub header_9 : why (int32_file_with 174 (9 ∷ [])) ≡ OutOfSpec (kinds.InvalidFlatbufferHeader Number) ∷ []
unfolding computed
header_9 = refl

pub node_4 : why (int32_file_with 240 (to_le_bytes w64 4)) ≡ OutOfSpec kinds.NodeLength ∷ []
unfolding computed
node_4 = refl

pub node_negative : why (int32_file_with 240 (to_le_bytes w64 (2 ^ 64 - 1))) ≡ OutOfSpec kinds.UnexpectedNegativeInteger ∷ []
unfolding computed
node_negative = refl

pub bitmap_0 : why (int32_file_with 272 (to_le_bytes w64 0)) ≡ OutOfSpec (kinds.InvalidBitmap 3 0) ∷ []
unfolding computed
bitmap_0 = refl

pub buffer_far : why (int32_file_with 280 (to_le_bytes w64 (2 ^ 63 - 1))) ≡ OutOfSpec kinds.BufferRange ∷ []
unfolding computed
buffer_far = refl

pub buffer_11 : why (int32_file_with 288 (to_le_bytes w64 11)) ≡ OutOfSpec (kinds.InvalidBuffer 3 12 11) ∷ []
unfolding computed
buffer_11 = refl

pub buffer_1000 : why (int32_file_with 288 (to_le_bytes w64 1000)) ≡ OutOfSpec (kinds.InvalidBuffersLength 1001 618) ∷ []
unfolding computed
buffer_1000 = refl

pub block_1000 : why (int32_file_with 584 (to_le_bytes w64 1000)) ≡ OutOfSpec kinds.BlockRange ∷ []
unfolding computed
block_1000 = refl

pub block_negative : why (int32_file_with 584 (to_le_bytes w64 (2 ^ 64 - 1))) ≡ OutOfSpec kinds.UnexpectedNegativeInteger ∷ []
unfolding computed
block_negative = refl

pub metadata_151 : why (int32_file_with 592 (to_le_bytes w32 151)) ≡ OutOfSpec kinds.MessageRange ∷ []
unfolding computed
metadata_151 = refl

pub body_64 : why (int32_file_with 600 (to_le_bytes w64 64)) ≡ OutOfSpec kinds.BufferRange ∷ []
unfolding computed
body_64 = refl

pub footer_far : why (int32_file_with 608 (255 ∷ 255 ∷ 255 ∷ 127 ∷ [])) ≡ OutOfSpec kinds.Truncated ∷ []
unfolding computed
footer_far = refl

pub tag_0 : why (int32_file_with 521 (0 ∷ [])) ≡ OutOfSpec kinds.MissingType ∷ []
unfolding computed
tag_0 = refl

pub tag_3 : why (int32_file_with 521 (3 ∷ [])) ≡ OutOfSpec (kinds.InvalidFlatbufferSchema Number) ∷ []
unfolding computed
tag_3 = refl

pub tag_22 : why (int32_file_with 521 (22 ∷ [])) ≡ Unsupported features.RunEnd ∷ []
unfolding computed
tag_22 = refl

pub tag_99 : why (int32_file_with 521 (99 ∷ [])) ≡ OutOfSpec (kinds.InvalidFlatbufferSchema Number) ∷ []
unfolding computed
tag_99 = refl

pub width_33 : why (int32_file_with 556 (33 ∷ 0 ∷ 0 ∷ 0 ∷ [])) ≡ OutOfSpec kinds.InvalidDataType ∷ []
unfolding computed
width_33 = refl
