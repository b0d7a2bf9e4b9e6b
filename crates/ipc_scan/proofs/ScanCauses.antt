-- Why a scan is refused.
use Rattle.std.proofs.Common.{inl, inr, refl, arith, ℕ, List, Option, None, Some, Result, Ok, Err, IfErr, IfOk, IfSome, IsSome}
use Rattle.arrow_spec.specs.declared.error.IpcError.{IpcError}
use Rattle.arrow_spec.specs.declared.error.IpcError.TheVariants as errors
use Rattle.ipc_bodies.specs.Encodings.{text_of}
use Rattle.ipc_bodies.specs.declared.encoding.Encoding.{Encoding}
use Rattle.ipc_io.specs.Outside.{Rose, Stands}
use Rattle.ipc_files.proofs.ReadFiles.{told}
use Rattle.laws_walk.specs.Sends.{SendCause}
use Rattle.laws_walk.specs.declared.summary.Summary.{Summary}
use Rattle.laws_scan.specs.Scan.{scan_table}
use Rattle.laws_scan.specs.Scans.{AddsPart, IsSmallRefusal, ScanCause, Scanned, Scans}
use Rattle.ipc_scan.specs.Sends.{ScanRefused, ScansFile}
use Rattle.ipc_scan.proofs.SentScans.{may_only}

module _ (q : Scanned) (encoding : Encoding) (old new : Option (List ℕ)) (wants wants' : ℕ) where
  -- the cause of a refusal, by what it says of the bytes
  cause_told : (e : IpcError) (content : Option (List ℕ)) (reads reads' writes writes' : ℕ) → IfSome content (λ b. ScanRefused e b q encoding old new wants wants') → SendCause e reads reads' writes writes' → ScanCause e content q reads reads' writes writes'
  cause_told errors.ReadFault content reads reads' writes writes' h c = c
  cause_told errors.WriteFault content reads reads' writes writes' h c = c
  cause_told errors.Memory content reads reads' writes writes' h c = tt
  cause_told errors.State content reads reads' writes writes' h c = absurd c
  cause_told errors.SchemaMismatch content reads reads' writes writes' h c = absurd c
  cause_told (errors.DictionaryReplaced id) content reads reads' writes writes' h c = absurd c
  cause_told errors.NotRepresentable content reads reads' writes writes' h c = absurd c
  cause_told e content reads reads' writes writes' h c = told content _ _ (λ b s r. r.refused) h

  pub cause_of : (result : Result Summary IpcError) (content : Option (List ℕ)) (reads reads' writes writes' : ℕ) → IfSome content (λ b. ScansFile result b q encoding old new wants wants') → IfErr result (λ e. SendCause e reads reads' writes writes')
      → IfErr result (λ e. ScanCause e content q reads reads' writes writes')
  cause_of (Ok x) content reads reads' writes writes' h c = tt
  cause_of (Err e) content reads reads' writes writes' h c = cause_told e content reads reads' writes writes' h c

  pub whole_of : (result : Result Summary IpcError) (content : Option (List ℕ)) → IfSome content (λ b. ScansFile result b q encoding old new wants wants') → IfOk result (λ s. IfSome content (λ b. Scans s b q (text_of encoding) old new))
  whole_of (Ok s) content h = h
  whole_of (Err e) content h = tt

  pub part_of : (result : Result Summary IpcError) (content : Option (List ℕ)) → IfSome content (λ b. ScansFile result b q encoding old new wants wants') → IfErr result (λ e. IfSome content (λ b. AddsPart e wants wants' b q (text_of encoding) old new))
  part_of (Ok s) content h = tt
  part_of (Err e) content h = told content _ _ (λ b s r. r.part) h

-- ── completeness ──

stood : (a b : ℕ) → Stands a b → Rose a b → ⊥
stood a b s r = omega (arith, s.same, s.below)

small : (e : IpcError) (b : List ℕ) (q : Scanned) (reads reads' writes writes' : ℕ) → ScanCause e (Some b) q reads reads' writes writes' → IsSome (scan_table b q.filter q.columns) → Stands reads reads' → Stands writes writes' → IsSmallRefusal b q e
small errors.ReadFault b q reads reads' writes writes' c h s t = absurd (stood _ _ s c)
small errors.WriteFault b q reads reads' writes writes' c h s t = absurd (stood _ _ t c)
small errors.Memory b q reads reads' writes writes' c h s t = inl refl
small errors.SchemaMismatch b q reads reads' writes writes' c h s t = absurd c
small (errors.DictionaryReplaced id) b q reads reads' writes writes' c h s t = absurd c
small errors.NotRepresentable b q reads reads' writes writes' c h s t = absurd c
small errors.State b q reads reads' writes writes' c h s t = absurd c
small errors.TooLarge b q reads reads' writes writes' c h s t = inr (refl, c)
small k b q reads reads' writes writes' c h s t = let e = may_only b q.filter q.columns k h c in cc

-- that a scan is complete follows from its causes
pub complete_by_cause : {T : Type 0} (result : Result T IpcError) (content : Option (List ℕ)) (q : Scanned) (reads reads' writes writes' : ℕ) → IfErr result (λ e. ScanCause e content q reads reads' writes writes')
    → IfSome content (λ b. IsSome (scan_table b q.filter q.columns) → Stands reads reads' → Stands writes writes' → IfErr result (IsSmallRefusal b q))
complete_by_cause (Ok x) None q reads reads' writes writes' c = tt
complete_by_cause (Ok x) (Some b) q reads reads' writes writes' c = λ h s t. tt
complete_by_cause (Err e) None q reads reads' writes writes' c = tt
complete_by_cause (Err e) (Some b) q reads reads' writes writes' c = λ h s t. small e b q reads reads' writes writes' c h s t
