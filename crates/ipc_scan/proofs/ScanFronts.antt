-- What a walk that scans a file leaves is what a scan does.
use Rattle.std.proofs.Common.{◌≡◌, ◌∙◌, inl, inr, sym, ap, ℕ, List, length, Option, Some}
use Rattle.std.specs.Prelude.{sum_by}
use Rattle.std.specs.Io.KnownBytes.{Keeps}
use Rattle.arrow_spec.specs.declared.error.IpcError.{IpcError}
use Rattle.arrow_spec.specs.declared.error.IpcError.TheVariants as errors
use Rattle.arrow_spec.specs.Files.{ArrowTable, TableBatch, project, «all»}
use Rattle.arrow_spec.specs.Meaning.{file_table}
use Rattle.arrow_spec.specs.Readings.{meaning}
use Rattle.ipc_bodies.specs.Encodings.{text_of}
use Rattle.laws_walk.specs.Below.{StreamCore}
use Rattle.laws_walk.specs.Places.{Sending, meta_in, table_sent}
use Rattle.laws_walk.specs.Sends.{IsFront as IsWalkFront, IsOfPut, IsOfSink, IsWhole, LeavesPart, Refused}
use Rattle.laws_walk.specs.declared.summary.Summary.{Summary}
use Rattle.laws_walk.proofs.Ends.{HasEnded}
use Rattle.filter_types.specs.declared.filter.Filter.{Filter}
use Rattle.laws_scan.specs.Filtered.{filtered}
use Rattle.laws_scan.specs.Scan.{scan_table}
use Rattle.laws_scan.specs.Scans.{AddsFront, AddsFrontOrNone, AddsPart, AddsPiece, IsFront, IsScan, Scanned, Scans, scanned}
use Rattle.laws_scan.proofs.FilteredScans.{scan_is_filtered}
use Rattle.ipc_scan.specs.Sends.{IsUnscanned, ScanRefused, scanning}
use Rattle.ipc_scan.specs.declared.scanner.Scanner.{Scanner}

module _ (b : List ℕ) (q : Scanned) (text : List ℕ → List ℕ) (old new : Option (List ℕ)) (wants wants' : ℕ) where
  as_part : (e : IpcError) → (IsOfSink e → ⊥) → AddsFrontOrNone e b q text old new → AddsPart e wants wants' b q text old new
  as_part errors.WriteFault n a = absurd (n tt)
  as_part errors.Memory n a = inl a
  as_part e n a = a

  -- nothing was put
  pub none_put : (e : IpcError) → (IsOfSink e → ⊥) → Keeps old new → AddsPart e wants wants' b q text old new
  none_put e n kept = as_part e n (inl kept)

  -- a front was
  pub front_put : (e : IpcError) → (IsOfSink e → ⊥) → AddsFront e b q text old new → AddsPart e wants wants' b q text old new
  front_put e n front = as_part e n (inr front)

  -- a part of a stream
  pub in_piece : (e : IpcError) → IsOfPut e wants wants' → AddsPiece b q text text old new → AddsPart e wants wants' b q text old new
  in_piece errors.WriteFault put piece = piece
  in_piece errors.Memory put piece = inr (put, piece)
  in_piece e put piece = absurd put

module _ (x : Sending) (f : Filter) where
  front_of : (n : ℕ) (bytes : List ℕ) (bs : List TableBatch) → IsWalkFront (scanning f x) n bytes bs → IsFront x.bytes (scanned f x.request.columns) n bytes (table_sent (scanning f x) bs)
  front_of n bytes bs h = record { not_ended = h.not_ended; stream = h.stream; file = h.file }

  scan_of : (bytes : List ℕ) (bs : List TableBatch) → IsWhole (scanning f x) bytes bs → IsScan x.bytes (scanned f x.request.columns) bytes (table_sent (scanning f x) bs)
  unfolding scan_table
  scan_of bytes bs h = record { is_closed = h.is_closed; stream = h.stream; file = ap meaning h.file }

  part_of : (e : IpcError) (new : Option (List ℕ)) (wants wants' : ℕ) → LeavesPart e (scanning f x) new wants wants' → AddsPart e wants wants' x.bytes (scanned f x.request.columns) (text_of x.encoding) x.start new
  part_of e new wants wants' (LeavesPart.before never kept) = none_put x.bytes (scanned f x.request.columns) (text_of x.encoding) x.start new wants wants' e never kept
  part_of e new wants wants' (LeavesPart.behind {n = n} {bytes = bytes} {bs = bs} never front added stops) =
      front_put x.bytes (scanned f x.request.columns) (text_of x.encoding) x.start new wants wants' e never (record { blocks = n; bytes = bytes; table = table_sent (scanning f x) bs; stream = front_of n bytes bs front; added = added; stops = stops })
  part_of e new wants wants' (LeavesPart.in_front {n = n} {bytes = bytes} {bs = bs} put front part) =
      in_piece x.bytes (scanned f x.request.columns) (text_of x.encoding) x.start new wants wants' e put (record { blocks = n; bytes = bytes; table = table_sent (scanning f x) bs; piece = inr (front_of n bytes bs front, part) })
  part_of e new wants wants' (LeavesPart.in_whole {bytes = bytes} {bs = bs} put whole part) =
      in_piece x.bytes (scanned f x.request.columns) (text_of x.encoding) x.start new wants wants' e put (record { blocks = 0; bytes = bytes; table = table_sent (scanning f x) bs; piece = inl (scan_of bytes bs whole, part) })

  -- a refusal is one of the scan
  pub refused_of : (e : IpcError) (new : Option (List ℕ)) (wants wants' : ℕ) → Refused e (scanning f x) new wants wants' → ScanRefused e x.bytes (scanned f x.request.columns) x.encoding x.start new wants wants'
  refused_of e new wants wants' r = record { refused = r.refused; part = part_of e new wants wants' r.part }

-- a stream that was ended is the scan's
pub scans : (s : Scanner) (x : Sending) → IsUnscanned s x → (w : StreamCore) (new : Option (List ℕ)) (bs : List TableBatch) → HasEnded (scanning s.filter x) w new bs → (summary : Summary) → summary.batches ≡ length bs → summary.rows ≡ sum_by (λ (b : TableBatch). b.rows) bs → summary.bytes ≡ w.byte_count
    → Scans summary x.bytes (scanned s.filter x.request.columns) (text_of x.encoding) x.start new
scans s x is w new bs h summary batches rows bytes =
    let scan = scan_of x s.filter h.bytes bs h.whole in
    let table = table_sent (scanning s.filter x) bs in
    let left : (t : ArrowTable) → file_table x.bytes «all» ≡ Some t → table ≡ project (filtered s.filter t) x.request.columns
    = λ t means. let e = sym scan.file ∙ scan_is_filtered x.bytes s.filter x.request.columns (meta_in x) t is.says.read means is.scanner.right in cc in
    record {
      stream = record { bytes = h.bytes; table = table; stream = scan; added = h.added };
      summary = record { batches = batches; rows = rows; bytes = bytes ∙ h.count };
      rows = left;
    }
