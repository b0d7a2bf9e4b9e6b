-- A refusal that has its cause, where the file means a table and no device failed.
use Rattle.std.proofs.Common.{◌≡◌, ℕ, List, [], ◌∷◌, ◌⊎◌, inl, inr, Option, None, Some, Result, Ok, Err, IfErr, IfSome, IsSome, refl, subst, arith}
use Rattle.arrow_spec.specs.declared.error.IpcError.{IpcError}
use Rattle.arrow_spec.specs.declared.error.IpcError.TheVariants as errors
use Rattle.arrow_spec.specs.Readings.{Reading, IsAmong, refusals}
use Rattle.arrow_spec.specs.Files.{Request, ArrowTable, file_reading, to_send}
use Rattle.arrow_spec.specs.Meaning.{file_table, may}
use Rattle.laws_transcode.proofs.Sent.{sent_or_too_large}
use Rattle.ipc_io.specs.Outside.{Stands, Rose}
use Rattle.ipc_transcode.specs.Transcode.{TranscodeCause, IsSmallRefusal}

pub stood : (a b : ℕ) → Stands a b → Rose a b → ⊥
stood a b s r = omega (arith, s.same, s.below)

among_one : (x e : IpcError) → IsAmong (x ∷ []) e → x ≡ e
among_one x e (inl h) = h
among_one x e (inr h) = absurd h

refused_or : {A : Type 0} (r : Reading A) (t : A) (e : IpcError) → (r ≡ Ok t) ⊎ (r ≡ Err (errors.TooLarge ∷ [])) → IsAmong (refusals r) e → errors.TooLarge ≡ e
refused_or (Ok x) t e h m = absurd m
refused_or (Err es) t e (inl h) m = cc
refused_or (Err es) t e (inr h) m =
    let is : es ≡ errors.TooLarge ∷ [] = cc in
    among_one errors.TooLarge e (subst (λ xs. IsAmong xs e) is m)

-- a file that means a table is refused as too large alone
may_only : (b : List ℕ) (r : Request) (found : Option ArrowTable) (e : IpcError) → file_table b r ≡ found → IsSome found → may b r e → errors.TooLarge ≡ e
may_only b r None e is h m = cc
may_only b r (Some t) e is h m = refused_or (file_reading to_send b r None) t e (sent_or_too_large b r t is) m

small : (e : IpcError) (b : List ℕ) (r : Request) (reads reads' writes writes' : ℕ) → TranscodeCause e (Some b) r reads reads' writes writes' → IsSome (file_table b r) → Stands reads reads' → Stands writes writes' → IsSmallRefusal b r e
small errors.ReadFault b r reads reads' writes writes' c h s t = absurd (stood _ _ s c)
small errors.WriteFault b r reads reads' writes writes' c h s t = absurd (stood _ _ t c)
small errors.Memory b r reads reads' writes writes' c h s t = inl refl
small errors.SchemaMismatch b r reads reads' writes writes' c h s t = absurd c
small (errors.DictionaryReplaced id) b r reads reads' writes writes' c h s t = absurd c
small errors.NotRepresentable b r reads reads' writes writes' c h s t = absurd c
small errors.State b r reads reads' writes writes' c h s t = absurd c
small errors.TooLarge b r reads reads' writes writes' c h s t = inr (refl, c)
small k b r reads reads' writes writes' c h s t = let e = may_only b r (file_table b r) k refl h c in cc

-- the completeness of a transcoding follows from its causes
pub complete_by_cause : {T : Type 0} (result : Result T IpcError) (content : Option (List ℕ)) (r : Request) (reads reads' writes writes' : ℕ) → IfErr result (λ e. TranscodeCause e content r reads reads' writes writes')
    → IfSome content (λ b. IsSome (file_table b r) → Stands reads reads' → Stands writes writes' → IfErr result (IsSmallRefusal b r))
complete_by_cause (Ok x) None r reads reads' writes writes' c = tt
complete_by_cause (Ok x) (Some b) r reads reads' writes writes' c = λ h s t. tt
complete_by_cause (Err e) None r reads reads' writes writes' c = tt
complete_by_cause (Err e) (Some b) r reads reads' writes writes' c = λ h s t. small e b r reads reads' writes writes' c h s t
