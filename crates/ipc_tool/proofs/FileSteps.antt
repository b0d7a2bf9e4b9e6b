-- What a stream that becomes a file adds to its output, and why it is refused.
use Rattle.std.proofs.Common.{◌≡◌, ℕ, ◌≤◌, arith, List, [], ◌∷◌, ◌++◌, ◌⊎◌, inl, inr, true, false, Option, None, Some, Result, IfErr, IfSome, IsErrAnd, IsSome, refl}
use Rattle.std.specs.Io.KnownBytes.{Appends}
use Rattle.std.proofs.KnownBytes.{Appends-trans}
use Rattle.arrow_spec.specs.declared.error.IpcError.{IpcError}
use Rattle.arrow_spec.specs.declared.error.IpcError.TheVariants as errors
use Rattle.arrow_spec.specs.Streams.{stream_table}
use Rattle.ipc_io.specs.declared.outside.PutError.{PutError}
use Rattle.ipc_io.specs.declared.outside.PutError.TheVariants as put
use Rattle.ipc_io.specs.Faults.{put_error}
use Rattle.ipc_io.specs.Outside.{Stands}
use Rattle.ipc_bodies.specs.Encodings.{text_of}
use Rattle.ipc_bodies.specs.declared.encoding.Encoding.TheVariants.{Bytes, HexText}
use Rattle.ipc_to_file.specs.Files.{IsFileRefusal, IsRareRefusal, LeavesNone, MakesFile, RefusesFile, ToFileCause}
use Rattle.ipc_round_trip.specs.Below.{Summary}
use Rattle.ipc_words.specs.Requests.{File}
use Rattle.ipc_tool.specs.Commands.File.{AddsFile, file_job}
use Rattle.ipc_tool.specs.FileTasks.{IsStatusOf, PutCause}
use Rattle.ipc_tool.specs.Refusal.{error_status}
use Rattle.ipc_tool.proofs.Adding.{IfErr-at}

-- ── done ──

pub raw_added : (s : Summary) (content old new : Option (List ℕ)) → IfSome content (λ b. MakesFile s b (text_of Bytes) old new) → IfSome content (λ b. AddsFile b true old new)
raw_added s None old new h = tt
raw_added s (Some b) old new h = record { bytes = h.bytes; table = h.table; stream = h.stream; file = h.file; added = h.added }

pub hex_added : (s : Summary) (content old mid new : Option (List ℕ)) → IfSome content (λ b. MakesFile s b (text_of HexText) old mid) → Appends mid new (10 ∷ []) → IfSome content (λ b. AddsFile b false old new)
hex_added s None old mid new h a = tt
hex_added s (Some b) old mid new h a = record { bytes = h.bytes; table = h.table; stream = h.stream; file = h.file; added = Appends-trans old mid new (text_of HexText h.bytes) (10 ∷ []) h.added a }

-- a line feed that could not be put
pub line_left : (e : PutError) (old new : Option (List ℕ)) → LeavesNone (put_error e) old new
line_left put.Failed old new = tt
line_left put.Memory old new = tt

-- ── why ──

pub file_put_cause : (s : File) (e : IpcError) (content : Option (List ℕ)) (reads reads' writes writes' : ℕ) → ToFileCause e reads reads' writes writes' → IfSome content (λ b. RefusesFile e b) → PutCause (file_job s) e content reads reads' writes writes'
file_put_cause s errors.ReadFault content reads reads' writes writes' c h = c
file_put_cause s errors.WriteFault content reads reads' writes writes' c h = c
file_put_cause s errors.Memory content reads reads' writes writes' c h = tt
file_put_cause s e content reads reads' writes writes' c h = h

pub file_status : (s : File) (e : IpcError) (reads reads' writes writes' : ℕ) → ToFileCause e reads reads' writes writes' → IsStatusOf (file_job s) (error_status e)
file_status s (errors.Projection index) reads reads' writes writes' c = absurd c
file_status s errors.SchemaMismatch reads reads' writes writes' c = absurd c
file_status s (errors.DictionaryReplaced id) reads reads' writes writes' c = absurd c
file_status s errors.State reads reads' writes writes' c = absurd c
file_status s errors.ReadFault reads reads' writes writes' c = inr (omega arith)
file_status s errors.WriteFault reads reads' writes writes' c = inr (omega arith)
file_status s errors.Memory reads reads' writes writes' c = inr (omega arith)
file_status s errors.TooLarge reads reads' writes writes' c = inl (inr (inl refl))
file_status s errors.NotRepresentable reads reads' writes writes' c = inl (inr (inr refl))
file_status s e reads reads' writes writes' c = inl (inl (omega arith))

-- what a stream that means a table is refused for
pub file_rare : {T : Type 0} (s : File) (r : Result T IpcError) (e : IpcError) (content : Option (List ℕ)) (reads reads' writes writes' : ℕ) → IsErrAnd r (λ f. f ≡ e)
    → IfSome content (λ b. IsSome (stream_table b None) → Stands reads reads' → Stands writes writes' → IsRareRefusal e b)
    → IfSome content (λ b. (file_job s).must b → Stands reads reads' → Stands writes writes' → IfErr r (λ f. (f ≡ errors.Memory) ⊎ (file_job s).still f b))
file_rare s r e None reads reads' writes writes' is h = tt
file_rare s r e (Some b) reads reads' writes writes' is h = λ must sources sinks. IfErr-at r (λ f. (f ≡ errors.Memory) ⊎ IsFileRefusal f b) e is (h must sources sinks)
