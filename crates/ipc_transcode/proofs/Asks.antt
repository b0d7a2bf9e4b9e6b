-- A file whose metadata or whose columns are refused, and a file that is sent.
use Rattle.std.proofs.Common.{◌≡◌, inl, inr, ℕ, List, [], ◌∷◌, ◌⊎◌, Bool, true, false, Option, Some, None, Result, Err, sym, subst}
use Rattle.std.specs.Prelude.{IfErr, IfSome, nat_lt, not, ◌&&◌}
use Rattle.std.proofs.KnownBytes.{Keeps-refl}
use Rattle.arrow_spec.specs.declared.error.IpcError.{IpcError}
use Rattle.arrow_spec.specs.declared.error.IpcError.TheVariants as errors
use Rattle.arrow_spec.specs.Columns.{stands_in}
use Rattle.arrow_spec.specs.Files.{Request, columns_right, file_reading, to_send, wrong_columns}
use Rattle.arrow_spec.specs.Kinds.{width}
use Rattle.arrow_spec.specs.Readings.{◌>>=◌, Reading, Refuses, bind, refusals, unless}
use Rattle.ipc_bodies.specs.Encodings.{text_of}
use Rattle.ipc_bodies.specs.declared.encoding.Encoding.{Encoding}
use Rattle.ipc_reader.specs.Below.{FileCause, FileSays, file_custom, meta_view, FileMetadata}
use Rattle.laws_transcode.proofs.Readings.{columns_refused}
use Rattle.laws_walk.specs.declared.summary.Summary.{Summary}
use Rattle.laws_walk.specs.Sends.{IsOfSink, SendCause}
use Rattle.ipc_transcode.specs.Sends.{FileRefused, SendsFile}
use Rattle.laws_walk.proofs.Causes.{never_of_sink, wrong_is}
use Rattle.ipc_transcode.proofs.Fronts.{none_put}

-- what is read is refused
pub file_refused : (result : Result Summary IpcError) (e : IpcError) (content : Option (List ℕ)) (r : Request) (encoding : Encoding) (o : Option (List ℕ)) (faults faults' wants wants' : ℕ) → result ≡ Err e → FileCause e faults faults'
    → IfSome content (λ b. (r : Request) → Refuses e (refusals (file_reading to_send b r None))) → IfSome content (λ b. SendsFile result b r encoding o o wants wants')
file_refused result e None r encoding o faults faults' wants wants' is cause h = tt
file_refused result e (Some b) r encoding o faults faults' wants wants' is cause h =
    let refused : FileRefused e b r encoding o o wants wants' = record { refused = h r; part = none_put e b r (text_of encoding) o o wants wants' (never_of_sink e faults faults' cause) (Keeps-refl o) } in
    subst (λ z. SendsFile z b r encoding o o wants wants') (sym is) refused

-- columns that are none, or want of memory
pub columns_not_right : (result : Result Summary IpcError) (e : IpcError) (content : Option (List ℕ)) (file : FileMetadata) (r : Request) (count : ℕ) (encoding : Encoding) (o : Option (List ℕ)) (wants wants' : ℕ) → result ≡ Err e → count ≡ width (meta_view file).schema.fields
    → (e ≡ errors.Memory) ⊎ (columns_right r.columns count ≡ Err (e ∷ [])) → IfSome content (λ b. FileSays b (meta_view file) (file_custom file)) → IfSome content (λ b. SendsFile result b r encoding o o wants wants')
columns_not_right result e None file r count encoding o wants wants' is same h says = tt
columns_not_right result e (Some b) file r count encoding o wants wants' is same h says = subst (λ z. SendsFile z b r encoding o o wants wants') (sym is) (by h)
  where
    by : (e ≡ errors.Memory) ⊎ (columns_right r.columns count ≡ Err (e ∷ [])) → FileRefused e b r encoding o o wants wants'
    by (inl memory) = rw memory (record { refused = tt; part = none_put errors.Memory b r (text_of encoding) o o wants wants' (λ z. z) (Keeps-refl o) })
    by (inr wrong) =
        let number = wrong_is r.columns count e wrong in
        let place : columns_right r.columns (width (meta_view file).schema.fields) ≡ Err (e ∷ []) = subst (λ n. columns_right r.columns n ≡ Err (e ∷ [])) same wrong in
        rw number.1 (record {
          refused = rw (columns_refused to_send b r None (meta_view file) (file_custom file) (e ∷ []) says.read says.pairs place) (inl number.1);
          part = none_put (errors.Projection number.0) b r (text_of encoding) o o wants wants' (λ z. z) (Keeps-refl o);
        })

-- why columns are not right
pub numbers_cause : {T : Type 0} (result : Result T IpcError) (e : IpcError) (columns : Option (List ℕ)) (count reads reads' writes writes' : ℕ) → result ≡ Err e → (e ≡ errors.Memory) ⊎ (columns_right columns count ≡ Err (e ∷ [])) → IfErr result (λ e. SendCause e reads reads' writes writes')
numbers_cause result e columns count reads reads' writes writes' is h = subst (λ z. IfErr z (λ e. SendCause e reads reads' writes writes')) (sym is) (by h)
  where
    by : (e ≡ errors.Memory) ⊎ (columns_right columns count ≡ Err (e ∷ [])) → SendCause e reads reads' writes writes'
    by (inl memory) = rw memory tt
    by (inr wrong) = let number = wrong_is columns count e wrong in rw number.1 tt

-- of the same columns
pub wrong_as : (e : IpcError) (count : ℕ) (columns given : Option (List ℕ)) → columns ≡ given → (e ≡ errors.Memory) ⊎ (columns_right columns count ≡ Err (e ∷ [])) → (e ≡ errors.Memory) ⊎ (columns_right given count ≡ Err (e ∷ []))
wrong_as e count columns given same h = subst (λ cs. (e ≡ errors.Memory) ⊎ (columns_right cs count ≡ Err (e ∷ []))) same h
