-- How long the streams of worked files are, and one of them message by message.
use Rattle.std.proofs.Common.{◌≡◌, ℕ, ◌+◌, List, [], ◌∷◌, Some, None, Ok, Err, refl, false}
use Rattle.std.specs.Prelude.{pos, codes, sum_by}
use Rattle.laws_worked.proofs.Vectors.{int32_file}
use Rattle.laws_worked.proofs.WorkedFiles.{empty_file, empty_file_far_dictionary, three_columns_file, two_batches_file}
use Rattle.laws_worked.proofs.Int32Table.{computed}
use Rattle.laws_worked.proofs.Damage.{int32_file_with}
use Rattle.laws_worked.proofs.Rows.{request}
use Rattle.arrow_spec.specs.declared.types.IntegerType.TheVariants.{Int32, Int64}
use Rattle.arrow_spec.specs.Readings.{Reading}
use Rattle.arrow_spec.specs.Kinds.{field, none, integer}
use Rattle.arrow_spec.specs.Layout.{size, up_to}
use Rattle.arrow_spec.specs.Sent.{SentMessage, stream_schema, message, batch_node}
use Rattle.arrow_spec.specs.Files.{Request, «all», sent, batch_sent, batches_sent}

-- each message with its prefix and its body, and the end mark
abbrev pub length_of : Reading (List SentMessage) → ℕ
length_of (Ok messages) = sum_by (λ x. 8 + up_to 8 (size x.node) + x.body) messages + 8
length_of (Err es) = 0

abbrev pub stream_length : List ℕ → Request → ℕ
stream_length b r = length_of (sent b r None)

pub whole : stream_length int32_file «all» ≡ 424
unfolding computed sent batch_sent batches_sent
whole = refl

pub no_nulls : stream_length (int32_file_with 248 (0 ∷ [])) «all» ≡ 360
unfolding computed sent batch_sent batches_sent
no_nulls = refl

pub no_batch : stream_length empty_file «all» ≡ 144
unfolding computed sent batch_sent batches_sent
no_batch = refl

pub far_dictionary : stream_length empty_file_far_dictionary «all» ≡ 144
unfolding computed sent batch_sent batches_sent
far_dictionary = refl

pub no_columns : stream_length two_batches_file (request (Some []) None) ≡ 248
unfolding computed sent batch_sent batches_sent
no_columns = refl

pub limit_5 : stream_length two_batches_file (request None (Some 5)) ≡ 576
unfolding computed sent batch_sent batches_sent
limit_5 = refl

pub limit_0 : stream_length two_batches_file (request None (Some 0)) ≡ 384
unfolding computed sent batch_sent batches_sent
limit_0 = refl

pub limit_3 : stream_length two_batches_file (request None (Some 3)) ≡ 480
unfolding computed sent batch_sent batches_sent
limit_3 = refl

pub columns_as_asked : sent three_columns_file (request (Some (2 ∷ 0 ∷ [])) None) None ≡ Ok (stream_schema (field (codes "c") false [] (integer Int64) (field (codes "a") false [] (integer Int32) none)) [] [] ∷ message 3 (batch_node 2 (record { nodes = record { length = pos 2; null_count = pos 0 } ∷ record { length = pos 2; null_count = pos 0 } ∷ []; lengths = 0 ∷ 16 ∷ 0 ∷ 8 ∷ []; views = [] })) 128 [] ∷ [])
unfolding computed sent batch_sent batches_sent
columns_as_asked = refl
