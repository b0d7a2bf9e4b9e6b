use Rattle.std.proofs.Common.{◌≡◌, ℕ, [], ◌∷◌, take, Some, None, refl}
use Rattle.laws_worked.proofs.Vectors.{int32_stream}
use Rattle.laws_worked.proofs.WorkedStreams.{dictionaries_stream, replaced_dictionary_stream, older_framing_stream}
use Rattle.laws_worked.proofs.Int32Table.{computed, int32_table}
use Rattle.laws_worked.proofs.Rows.{batches, txt}
use Rattle.arrow_spec.specs.declared.error.IpcError.TheVariants.{OutOfSpec}
use Rattle.arrow_spec.specs.declared.error.OutOfSpecKind.TheVariants as kinds
use Rattle.arrow_spec.specs.Cells as cells
use Rattle.arrow_spec.specs.Cells.{Cell, cells_of}
use Rattle.arrow_spec.specs.Readings.{refusals}
use Rattle.arrow_spec.specs.Streams.{stream_table, stream_reading, closed}

abbrev pub struct_of : ℕ → Cell
struct_of c = cells.struct (cells_of (txt c ∷ []))

pub inner_dictionary : batches (stream_table dictionaries_stream None) ≡ ((struct_of 121 ∷ struct_of 120 ∷ []) ∷ []) ∷ []
unfolding computed
inner_dictionary = refl

pub inner_dictionary-closed : closed dictionaries_stream
unfolding computed
inner_dictionary-closed = refl

-- an inner dictionary that is replaced counts from the next outer one on
pub replaced : batches (stream_table replaced_dictionary_stream None) ≡ ((struct_of 121 ∷ struct_of 120 ∷ []) ∷ []) ∷ ((struct_of 121 ∷ struct_of 120 ∷ []) ∷ []) ∷ ((struct_of 119 ∷ struct_of 122 ∷ []) ∷ []) ∷ []
unfolding computed
replaced = refl

pub older_framing : stream_table older_framing_stream None ≡ Some int32_table
unfolding computed
older_framing = refl

pub no_end_mark : stream_table (take 416 int32_stream) None ≡ Some int32_table
unfolding computed
no_end_mark = refl

pub cut_421 : refusals (stream_reading (take 421 int32_stream) None) ≡ OutOfSpec kinds.Truncated ∷ []
unfolding computed
cut_421 = refl

pub cut_3 : refusals (stream_reading (take 3 int32_stream) None) ≡ OutOfSpec kinds.MissingSchema ∷ []
unfolding computed
cut_3 = refl
