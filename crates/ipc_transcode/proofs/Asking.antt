-- Why a file that is sent is refused.
use Rattle.std.proofs.Common.{ℕ, List, Option, Result, Ok, Err, IfErr, IfOk, IfSome}
use Rattle.arrow_spec.specs.declared.error.IpcError.{IpcError}
use Rattle.arrow_spec.specs.declared.error.IpcError.TheVariants as errors
use Rattle.arrow_spec.specs.Files.{Request}
use Rattle.ipc_bodies.specs.declared.encoding.Encoding.{Encoding}
use Rattle.ipc_reader.proofs.Below.{told}
use Rattle.laws_walk.specs.declared.summary.Summary.{Summary}
use Rattle.laws_walk.specs.Sends.{SendCause}
use Rattle.ipc_transcode.specs.Sends.{FileRefused, SendsFile}
use Rattle.ipc_transcode.specs.Transcode.{AddsPart, TranscodeCause, Transcodes}
use Rattle.ipc_bodies.specs.Encodings.{text_of}

module _ (r : Request) (encoding : Encoding) (old new : Option (List ℕ)) (wants wants' : ℕ) where
  -- the cause of a refusal, by what it says of the bytes
  cause_told : (e : IpcError) (content : Option (List ℕ)) (reads reads' writes writes' : ℕ) → IfSome content (λ b. FileRefused e b r encoding old new wants wants') → SendCause e reads reads' writes writes' → TranscodeCause e content r reads reads' writes writes'
  cause_told errors.ReadFault content reads reads' writes writes' h c = c
  cause_told errors.WriteFault content reads reads' writes writes' h c = c
  cause_told errors.Memory content reads reads' writes writes' h c = tt
  cause_told errors.State content reads reads' writes writes' h c = absurd c
  cause_told errors.SchemaMismatch content reads reads' writes writes' h c = absurd c
  cause_told (errors.DictionaryReplaced id) content reads reads' writes writes' h c = absurd c
  cause_told errors.NotRepresentable content reads reads' writes writes' h c = absurd c
  cause_told e content reads reads' writes writes' h c = told content _ _ (λ b s r. r.refused) h

  pub cause_of : (result : Result Summary IpcError) (content : Option (List ℕ)) (reads reads' writes writes' : ℕ) → IfSome content (λ b. SendsFile result b r encoding old new wants wants') → IfErr result (λ e. SendCause e reads reads' writes writes')
      → IfErr result (λ e. TranscodeCause e content r reads reads' writes writes')
  cause_of (Ok x) content reads reads' writes writes' h c = tt
  cause_of (Err e) content reads reads' writes writes' h c = cause_told e content reads reads' writes writes' h c

  pub whole_of : (result : Result Summary IpcError) (content : Option (List ℕ)) → IfSome content (λ b. SendsFile result b r encoding old new wants wants') → IfOk result (λ s. IfSome content (λ b. Transcodes s b r (text_of encoding) old new))
  whole_of (Ok s) content h = h
  whole_of (Err e) content h = tt

  pub part_of : (result : Result Summary IpcError) (content : Option (List ℕ)) → IfSome content (λ b. SendsFile result b r encoding old new wants wants') → IfErr result (λ e. IfSome content (λ b. AddsPart e wants wants' b r (text_of encoding) old new))
  part_of (Ok s) content h = tt
  part_of (Err e) content h = told content _ _ (λ b s r. r.part) h
