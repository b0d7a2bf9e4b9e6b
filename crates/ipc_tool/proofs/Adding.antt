-- What a refused stream adds to its output, by what transcoding and the line feed's put added, and why it is refused.
use Rattle.std.proofs.Common.{◌≡◌, ℕ, ◌≤◌, arith, Bool, true, false, List, [], ◌∷◌, ◌++◌, ◌⊎◌, inl, inr, Option, None, Some, Result, Ok, Err, IfErr, IfSome, IsErrAnd, MatchOption, option_map, refl, sym, subst}
use Rattle.arrow_spec.specs.declared.error.IpcError.{IpcError}
use Rattle.arrow_spec.specs.declared.error.IpcError.TheVariants as errors
use Rattle.arrow_spec.specs.Files.{Request}
use Rattle.arrow_spec.specs.Words.{Held, bytes_of_hex}
use Rattle.ipc_io.specs.declared.outside.PutError.{PutError}
use Rattle.ipc_io.specs.declared.outside.PutError.TheVariants as put
use Rattle.ipc_io.specs.declared.outside.ShelfError.{ShelfError}
use Rattle.ipc_io.specs.declared.outside.ShelfError.TheVariants as shelf
use Rattle.ipc_io.specs.Faults.{put_error}
use Rattle.ipc_io.specs.Outside.{AppendsPrefix, IsHeld, Puts, PutHasCause, Rose}
use Rattle.ipc_io.proofs.Known.{AppendsPrefix-within, AppendsPrefix-after, Appends-kept_nil}
use Rattle.ipc_round_trip.specs.Below.{Summary}
use Rattle.ipc_bodies.specs.declared.encoding.Encoding.TheVariants.{Bytes, HexText}
use Rattle.ipc_round_trip.proofs.Below.{told}
use Rattle.std.proofs.KnownBytes.{Keeps-refl}
use Rattle.ipc_tool.specs.Commands.Stream.{AddsStreamPart, shown_as, stream_job, table_asked}
use Rattle.laws_transcode.specs.Files.{IsFrontOf, IsStreamOf}
use Rattle.ipc_bodies.specs.Encodings.{text_of}
use Rattle.ipc_round_trip.specs.Below.{AddsStream, AddsPiece, AddsPart, TranscodeCause, Transcodes}
use Rattle.ipc_tool.specs.FileTasks.{IsStatusOf, PutCause}
use Rattle.ipc_tool.specs.Refusal.{error_status}
use Rattle.ipc_words.specs.Requests.{Stream}

-- what `?` makes of an error
pub IfErr-at : {T E : Type 0} → (r : Result T E) (P : E → Type 0) (e : E) → IsErrAnd r (λ f. f ≡ e) → P e → IfErr r P
IfErr-at (Ok x) P e h p = tt
IfErr-at (Err f) P e h p = subst P (sym h) p

-- a part of a stream's text is a part of that text and a line feed
with_line_feed : (b : List ℕ) (r : Request) (old new : Option (List ℕ)) → AddsPiece b r (text_of HexText) (text_of HexText) old new → AddsPiece b r (shown_as false) (text_of HexText) old new
with_line_feed b r old new p = record {
  bytes = p.bytes;
  table = p.table;
  piece = longer p.piece;
}
  where
    longer : (IsStreamOf b r p.bytes p.table × AppendsPrefix old new (text_of HexText p.bytes)) ⊎ (IsFrontOf b r p.bytes p.table × AppendsPrefix old new (text_of HexText p.bytes))
        → (IsStreamOf b r p.bytes p.table × AppendsPrefix old new (text_of HexText p.bytes ++ 10 ∷ [])) ⊎ (IsFrontOf b r p.bytes p.table × AppendsPrefix old new (text_of HexText p.bytes))
    longer (inl q) = inl (q.0, AppendsPrefix-within old new (text_of HexText p.bytes) (10 ∷ []) q.1)
    longer (inr q) = inr q

hex_part : (e : IpcError) (wants wants' : ℕ) (b : List ℕ) (r : Request) (old new : Option (List ℕ)) → AddsPart e wants wants' b r (text_of HexText) old new → AddsStreamPart e wants wants' b r false old new
hex_part errors.WriteFault wants wants' b r old new p = with_line_feed b r old new p
hex_part errors.Memory wants wants' b r old new (inl p) = inl p
hex_part errors.Memory wants wants' b r old new (inr p) = inr (p.0, with_line_feed b r old new p.1)
hex_part e wants wants' b r old new p = p

raw_part : (e : IpcError) (wants wants' : ℕ) (b : List ℕ) (r : Request) (old new : Option (List ℕ)) → AddsPart e wants wants' b r (text_of Bytes) old new → AddsStreamPart e wants wants' b r true old new
raw_part errors.WriteFault wants wants' b r old new p = p
raw_part errors.Memory wants wants' b r old new p = p
raw_part e wants wants' b r old new p = p

-- a transcoding that was refused
pub hex_refused : (e : IpcError) (wants wants' : ℕ) (content : Option (List ℕ)) (r : Request) (old new : Option (List ℕ)) → IfSome content (λ b. AddsPart e wants wants' b r (text_of HexText) old new) → IfSome content (λ b. AddsStreamPart e wants wants' b r false old new)
hex_refused e wants wants' content r old new h = told content _ _ (λ b s p. hex_part e wants wants' b r old new p) h

pub raw_refused : (e : IpcError) (wants wants' : ℕ) (content : Option (List ℕ)) (r : Request) (old new : Option (List ℕ)) → IfSome content (λ b. AddsPart e wants wants' b r (text_of Bytes) old new) → IfSome content (λ b. AddsStreamPart e wants wants' b r true old new)
raw_refused e wants wants' content r old new h = told content _ _ (λ b s p. raw_part e wants wants' b r old new p) h

pub rose_later : (a b c : ℕ) → a ≤ b → Rose b c → Rose a c
rose_later a b c h r = omega arith

after_stream : (e : PutError) (faults faults' before wants wants' : ℕ) (b : List ℕ) (r : Request) (old mid new : Option (List ℕ)) → before ≤ wants → PutHasCause faults faults' wants wants' (Err e) → AddsStream b r (text_of HexText) old mid → Puts mid new (Err e) (10 ∷ []) → AddsStreamPart (put_error e) before wants' b r false old new
after_stream put.Failed faults faults' before wants wants' b r old mid new later c s p = record {
  bytes = s.bytes;
  table = s.table;
  piece = inl (s.stream, AppendsPrefix-after old mid new (text_of HexText s.bytes) (10 ∷ []) s.added p);
}
after_stream put.Memory faults faults' before wants wants' b r old mid new later c s p = inr (
  rose_later before wants wants' later (c.wanted refl),
  record {
    bytes = s.bytes;
    table = s.table;
    piece = inl (s.stream, AppendsPrefix-after old mid new (text_of HexText s.bytes) (10 ∷ []) s.added (0, Appends-kept_nil mid new p));
  },
)

-- a line feed that could not be put
pub line_feed_refused : (e : PutError) (faults faults' before wants wants' : ℕ) (s : Summary) (content : Option (List ℕ)) (r : Request) (old mid new : Option (List ℕ)) → before ≤ wants → PutHasCause faults faults' wants wants' (Err e) → IfSome content (λ b. Transcodes s b r (text_of HexText) old mid) → Puts mid new (Err e) (10 ∷ [])
    → IfSome content (λ b. AddsStreamPart (put_error e) before wants' b r false old new)
line_feed_refused e faults faults' before wants wants' s content r old mid new later c whole p = told content _ _ (λ b _ t. after_stream e faults faults' before wants wants' b r old mid new later c t.stream p) whole

-- ── why ──

pub stream_cause : (s : Stream) (e : IpcError) (content : Option (List ℕ)) (reads reads' writes writes' : ℕ) → TranscodeCause e content (table_asked s) reads reads' writes writes' → PutCause (stream_job s) e content reads reads' writes writes'
stream_cause s errors.SchemaMismatch content reads reads' writes writes' c = absurd c
stream_cause s (errors.DictionaryReplaced id) content reads reads' writes writes' c = absurd c
stream_cause s errors.NotRepresentable content reads reads' writes writes' c = absurd c
stream_cause s errors.State content reads reads' writes writes' c = absurd c
stream_cause s errors.ReadFault content reads reads' writes writes' c = c
stream_cause s errors.WriteFault content reads reads' writes writes' c = c
stream_cause s errors.Memory content reads reads' writes writes' c = c
stream_cause s e content reads reads' writes writes' c = c

pub stream_status : (s : Stream) (e : IpcError) (content : Option (List ℕ)) (reads reads' writes writes' : ℕ) → TranscodeCause e content (table_asked s) reads reads' writes writes' → IsStatusOf (stream_job s) (error_status e)
stream_status s errors.SchemaMismatch content reads reads' writes writes' c = absurd c
stream_status s (errors.DictionaryReplaced id) content reads reads' writes writes' c = absurd c
stream_status s errors.NotRepresentable content reads reads' writes writes' c = absurd c
stream_status s errors.State content reads reads' writes writes' c = absurd c
stream_status s errors.ReadFault content reads reads' writes writes' c = inr (omega arith)
stream_status s errors.WriteFault content reads reads' writes writes' c = inr (omega arith)
stream_status s errors.Memory content reads reads' writes writes' c = inr (omega arith)
stream_status s e content reads reads' writes writes' c = inl (omega arith)
