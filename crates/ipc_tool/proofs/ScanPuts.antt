-- What a refused scan adds to its output, by what scanning and the line feed's put added, and why it is refused.
use Rattle.std.proofs.Common.{ℕ, ◌≤◌, ◌⊎◌, arith, inl, inr, true, false, List, [], ◌∷◌, ◌++◌, Option, Err, IfSome, refl}
use Rattle.arrow_spec.specs.declared.error.IpcError.{IpcError}
use Rattle.arrow_spec.specs.declared.error.IpcError.TheVariants as errors
use Rattle.ipc_io.specs.declared.outside.PutError.{PutError}
use Rattle.ipc_io.specs.declared.outside.PutError.TheVariants as put
use Rattle.ipc_io.specs.Faults.{put_error}
use Rattle.ipc_io.specs.Outside.{AppendsPrefix, PutHasCause, Puts}
use Rattle.ipc_io.proofs.Known.{Appends-kept_nil, AppendsPrefix-after, AppendsPrefix-within}
use Rattle.ipc_bodies.specs.Encodings.{text_of}
use Rattle.ipc_bodies.specs.declared.encoding.Encoding.TheVariants.{Bytes, HexText}
use Rattle.ipc_round_trip.specs.Below.{Summary}
use Rattle.ipc_round_trip.proofs.Below.{told}
use Rattle.ipc_scan.specs.Below.{AddsPart, AddsPiece, AddsStream, ScanCause, Scanned, Scans}
use Rattle.ipc_words.specs.Requests.{Scan}
use Rattle.ipc_tool.specs.Commands.Scan.{AddsScanPart, scan_asked, scan_job}
use Rattle.ipc_tool.specs.Commands.Stream.{shown_as}
use Rattle.ipc_tool.specs.FileTasks.{IsStatusOf, PutCause}
use Rattle.ipc_tool.specs.Refusal.{error_status}
use Rattle.ipc_tool.proofs.Adding.{rose_later}

-- a part of a stream's text is a part of that text and a line feed
with_line_feed : (b : List ℕ) (q : Scanned) (old new : Option (List ℕ)) → AddsPiece b q (text_of HexText) (text_of HexText) old new → AddsPiece b q (shown_as false) (text_of HexText) old new
with_line_feed b q old new p = record { blocks = p.blocks; bytes = p.bytes; table = p.table; piece = longer p.piece }
  where
    longer : {Whole Front : Type 0} → (Whole × AppendsPrefix old new (text_of HexText p.bytes)) ⊎ Front → (Whole × AppendsPrefix old new (text_of HexText p.bytes ++ 10 ∷ [])) ⊎ Front
    longer (inl w) = inl (w.0, AppendsPrefix-within old new (text_of HexText p.bytes) (10 ∷ []) w.1)
    longer (inr f) = inr f

hex_part : (e : IpcError) (wants wants' : ℕ) (b : List ℕ) (q : Scanned) (old new : Option (List ℕ)) → AddsPart e wants wants' b q (text_of HexText) old new → AddsScanPart e wants wants' b q false old new
hex_part errors.WriteFault wants wants' b q old new p = with_line_feed b q old new p
hex_part errors.Memory wants wants' b q old new (inl p) = inl p
hex_part errors.Memory wants wants' b q old new (inr p) = inr (p.0, with_line_feed b q old new p.1)
hex_part e wants wants' b q old new p = p

raw_part : (e : IpcError) (wants wants' : ℕ) (b : List ℕ) (q : Scanned) (old new : Option (List ℕ)) → AddsPart e wants wants' b q (text_of Bytes) old new → AddsScanPart e wants wants' b q true old new
raw_part errors.WriteFault wants wants' b q old new p = p
raw_part errors.Memory wants wants' b q old new p = p
raw_part e wants wants' b q old new p = p

-- a scan that was refused
pub hex_refused : (e : IpcError) (wants wants' : ℕ) (content : Option (List ℕ)) (q : Scanned) (old new : Option (List ℕ)) → IfSome content (λ b. AddsPart e wants wants' b q (text_of HexText) old new) → IfSome content (λ b. AddsScanPart e wants wants' b q false old new)
hex_refused e wants wants' content q old new h = told content _ _ (λ b s p. hex_part e wants wants' b q old new p) h

pub raw_refused : (e : IpcError) (wants wants' : ℕ) (content : Option (List ℕ)) (q : Scanned) (old new : Option (List ℕ)) → IfSome content (λ b. AddsPart e wants wants' b q (text_of Bytes) old new) → IfSome content (λ b. AddsScanPart e wants wants' b q true old new)
raw_refused e wants wants' content q old new h = told content _ _ (λ b s p. raw_part e wants wants' b q old new p) h

-- a whole stream of which a part of the text and the line feed were put
whole_in_part : (b : List ℕ) (q : Scanned) (old mid new : Option (List ℕ)) (s : AddsStream b q (text_of HexText) old mid) → AppendsPrefix old new (text_of HexText s.bytes ++ 10 ∷ []) → AddsPiece b q (shown_as false) (text_of HexText) old new
whole_in_part b q old mid new s p = record { blocks = 0; bytes = s.bytes; table = s.table; piece = inl (s.stream, p) }

after_stream : (e : PutError) (faults faults' before wants wants' : ℕ) (b : List ℕ) (q : Scanned) (old mid new : Option (List ℕ)) → before ≤ wants → PutHasCause faults faults' wants wants' (Err e) → AddsStream b q (text_of HexText) old mid → Puts mid new (Err e) (10 ∷ []) → AddsScanPart (put_error e) before wants' b q false old new
after_stream put.Failed faults faults' before wants wants' b q old mid new later c s p = whole_in_part b q old mid new s (AppendsPrefix-after old mid new (text_of HexText s.bytes) (10 ∷ []) s.added p)
after_stream put.Memory faults faults' before wants wants' b q old mid new later c s p =
    inr (rose_later before wants wants' later (c.wanted refl), whole_in_part b q old mid new s (AppendsPrefix-after old mid new (text_of HexText s.bytes) (10 ∷ []) s.added (0, Appends-kept_nil mid new p)))

-- a line feed that could not be put
pub line_feed_refused : (e : PutError) (faults faults' before wants wants' : ℕ) (s : Summary) (content : Option (List ℕ)) (q : Scanned) (old mid new : Option (List ℕ)) → before ≤ wants → PutHasCause faults faults' wants wants' (Err e) → IfSome content (λ b. Scans s b q (text_of HexText) old mid) → Puts mid new (Err e) (10 ∷ [])
    → IfSome content (λ b. AddsScanPart (put_error e) before wants' b q false old new)
line_feed_refused e faults faults' before wants wants' s content q old mid new later c whole p = told content _ _ (λ b _ t. after_stream e faults faults' before wants wants' b q old mid new later c t.stream p) whole

-- ── why ──

pub scan_cause : (s : Scan) (e : IpcError) (content : Option (List ℕ)) (reads reads' writes writes' : ℕ) → ScanCause e content (scan_asked s) reads reads' writes writes' → PutCause (scan_job s) e content reads reads' writes writes'
scan_cause s errors.SchemaMismatch content reads reads' writes writes' c = absurd c
scan_cause s (errors.DictionaryReplaced id) content reads reads' writes writes' c = absurd c
scan_cause s errors.NotRepresentable content reads reads' writes writes' c = absurd c
scan_cause s errors.State content reads reads' writes writes' c = absurd c
scan_cause s errors.ReadFault content reads reads' writes writes' c = c
scan_cause s errors.WriteFault content reads reads' writes writes' c = c
scan_cause s errors.Memory content reads reads' writes writes' c = c
scan_cause s e content reads reads' writes writes' c = c

pub scan_status : (s : Scan) (e : IpcError) (content : Option (List ℕ)) (reads reads' writes writes' : ℕ) → ScanCause e content (scan_asked s) reads reads' writes writes' → IsStatusOf (scan_job s) (error_status e)
scan_status s errors.SchemaMismatch content reads reads' writes writes' c = absurd c
scan_status s (errors.DictionaryReplaced id) content reads reads' writes writes' c = absurd c
scan_status s errors.NotRepresentable content reads reads' writes writes' c = absurd c
scan_status s errors.State content reads reads' writes writes' c = absurd c
scan_status s errors.ReadFault content reads reads' writes writes' c = inr (omega arith)
scan_status s errors.WriteFault content reads reads' writes writes' c = inr (omega arith)
scan_status s errors.Memory content reads reads' writes writes' c = inr (omega arith)
scan_status s e content reads reads' writes writes' c = inl (omega arith)
