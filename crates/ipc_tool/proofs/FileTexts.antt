-- The texts of a file that are printed, or that are not.
use Rattle.std.proofs.Common.{◌≡◌, ◌⊎◌, ℕ, ℤ, List, Option, None, Some, Ok, Err, IfSome, inl, refl, sym, ◌∙◌, ap, subst}
use Rattle.std.specs.Prelude.{IsOk}
use Rattle.std.specs.Rc.{rc_value}
use Rattle.arrow_spec.specs.declared.error.IpcError.{IpcError}
use Rattle.arrow_spec.specs.declared.error.IpcError.TheVariants as errors
use Rattle.arrow_spec.specs.Files.{Meta, meta_of}
use Rattle.arrow_spec.specs.Kinds.{Metadata}
use Rattle.arrow_spec.specs.Readings.{IsAmong, Reading, Refuses, bind, ◌>>=◌, refusals}
use Rattle.arrow_spec.specs.SchemaText.{schema_text, schema_text_of}
use Rattle.arrow_types.specs.Schemas.{Keyed}
use Rattle.ipc_fields.specs.IpcFields.{ids_of, schema_with}
use Rattle.ipc_io.specs.Faults.{put_error}
use Rattle.ipc_io.specs.Outside.{Puts, Stands}
use Rattle.ipc_io.specs.declared.outside.PutError.{PutError}
use Rattle.ipc_io.specs.declared.outside.PutError.TheVariants as put
use Rattle.ipc_round_trip.specs.Below.{meta_view, FileCause, CountCause, file_row_count, FileMetadata}
use Rattle.ipc_tool.specs.Commands.Rows.{row_count_text, rows_job, rows_text_of}
use Rattle.ipc_tool.specs.Commands.Schema.{schema_job}
use Rattle.ipc_tool.specs.FileTasks.{PutCause}
use Rattle.ipc_tool.specs.Texts.{AddsText, AddsTextPart, TextOf, text_job}
use Rattle.ipc_tool.proofs.FileTasks.{stood}
use Rattle.ipc_round_trip.proofs.Below.{file_cause, told}

-- what is made of a reading's value is refused where the reading is
same_refusals : {A B : Type 0} (r : Reading A) (f : A → B) → refusals (r >>= λ x. Ok (f x)) ≡ refusals r
unfolding bind
same_refusals (Ok x) f = refl
same_refusals (Err es) f = refl

text_said : (b : List ℕ) (meta : Meta) → meta_of b ≡ Ok meta → schema_text_of b ≡ Ok (schema_text meta.schema)
unfolding schema_text_of bind
text_said b meta h = rw h refl

refuses_text : (b : List ℕ) (e : IpcError) → Refuses e (refusals (meta_of b)) → Refuses e (refusals (schema_text_of b))
unfolding schema_text_of
refuses_text b e h = subst (Refuses e) (sym (same_refusals (meta_of b) (λ meta. schema_text meta.schema))) h

rows_said : (b : List ℕ) (rows : ℤ) → file_row_count b ≡ Ok rows → rows_text_of b ≡ Ok (row_count_text rows)
unfolding rows_text_of bind
rows_said b rows h = rw h refl

refuses_rows : (b : List ℕ) (e : IpcError) → Refuses e (refusals (file_row_count b)) → Refuses e (refusals (rows_text_of b))
unfolding rows_text_of
refuses_rows b e h = subst (Refuses e) (sym (same_refusals (file_row_count b) row_count_text)) h

-- a reading that was refused
text_refused : (said_of : TextOf) (most : ℕ) (e : IpcError) (content : Option (List ℕ)) (reads reads' : ℕ) → IfSome content (λ b. Refuses e (refusals (said_of b))) → FileCause e reads reads' → PutCause (text_job said_of most) e content reads reads' 0 0
text_refused said_of most errors.ReadFault content reads reads' h c = c
text_refused said_of most errors.WriteFault content reads reads' h c = absurd c
text_refused said_of most errors.Memory content reads reads' h c = tt
text_refused said_of most e content reads reads' h c = h

-- a text that is said is not refused
no_refusal : (r : Reading (List ℕ)) (e : IpcError) → IsOk r → IsAmong (refusals r) e → ⊥
no_refusal (Ok text) e is m = absurd m
no_refusal (Err es) e is m = cc

pub text_complete : (said_of : TextOf) (most : ℕ) (e : IpcError) (content : Option (List ℕ)) (reads reads' writes writes' : ℕ) → PutCause (text_job said_of most) e content reads reads' writes writes'
    → IfSome content (λ b. IsOk (said_of b) → Stands reads reads' → Stands writes writes' → (e ≡ errors.Memory) ⊎ ⊥)
text_complete said_of most e None reads reads' writes writes' c = tt
text_complete said_of most e (Some b) reads reads' writes writes' c = λ is s t. by e c is s t
  where
    by : (x : IpcError) → PutCause (text_job said_of most) x (Some b) reads reads' writes writes' → IsOk (said_of b) → Stands reads reads' → Stands writes writes' → (x ≡ errors.Memory) ⊎ ⊥
    by errors.ReadFault c is s t = absurd (stood reads reads' s c)
    by errors.WriteFault c is s t = absurd (stood writes writes' t c)
    by errors.Memory c is s t = inl refl
    by x c is s t = absurd (no_refusal (said_of b) x is c)

pub schema_refused : (e : IpcError) (content : Option (List ℕ)) (reads reads' : ℕ) → IfSome content (λ b. Refuses e (refusals (meta_of b))) → FileCause e reads reads' → PutCause schema_job e content reads reads' 0 0
schema_refused e content reads reads' h c = text_refused schema_text_of 4 e content reads reads' (told content _ _ (λ b s r. refuses_text b e r) h) c

pub rows_refused : (e : IpcError) (content : Option (List ℕ)) (reads reads' : ℕ) → IfSome content (λ b. Refuses e (refusals (file_row_count b))) → CountCause e reads reads' → PutCause rows_job e content reads reads' 0 0
rows_refused e content reads reads' h c = text_refused rows_text_of 2 e content reads reads' (told content _ _ (λ b s r. refuses_rows b e r) h) (file_cause e reads reads' c)

-- the text of a number of rows
pub rows_made : (content : Option (List ℕ)) (rows : ℤ) (text : List ℕ) → IfSome content (λ b. file_row_count b ≡ Ok rows) → text ≡ row_count_text rows → IfSome content (λ b. rows_text_of b ≡ Ok text)
rows_made content rows text h is = told content _ _ (λ b s m. rows_said b rows m ∙ ap Ok (sym is)) h

-- the text that was made is the schema's
pub text_made : (content : Option (List ℕ)) (file : FileMetadata) (schema : List Keyed) (pairs : Metadata) (text : List ℕ) → IfSome content (λ b. meta_of b ≡ Ok (meta_view file)) → schema ≡ rc_value file.schema → pairs ≡ (meta_view file).schema.metadata
    → text ≡ schema_text (schema_with schema (ids_of file.ipc_schema.fields.items) file.ipc_schema.is_little_endian pairs) → IfSome content (λ b. schema_text_of b ≡ Ok text)
text_made content file schema pairs text h shared same is =
    let ids = ids_of file.ipc_schema.fields.items in
    let order = file.ipc_schema.is_little_endian in
    let made : text ≡ schema_text (meta_view file).schema = is ∙ ap (λ s. schema_text (schema_with s ids order pairs)) shared ∙ ap (λ ps. schema_text (schema_with (rc_value file.schema) ids order ps)) same in
    told content _ _ (λ b s m. text_said b (meta_view file) m ∙ ap Ok (sym made)) h

-- a text that was put
pub text_put : (said_of : TextOf) (content old new : Option (List ℕ)) (text : List ℕ) → IfSome content (λ b. said_of b ≡ Ok text) → Puts old new (Ok tt) text → IfSome content (λ b. AddsText said_of b old new)
text_put said_of content old new text h p = told content _ _ (λ b s is. record { text = text; said = is; added = p }) h

-- a text that could not be put
pub text_not_put : (said_of : TextOf) (e : PutError) (content old new : Option (List ℕ)) (text : List ℕ) → IfSome content (λ b. said_of b ≡ Ok text) → Puts old new (Err e) text → AddsTextPart said_of (put_error e) content old new
text_not_put said_of put.Failed content old new text h p = told content _ _ (λ b s is. record { text = text; said = is; added = p }) h
text_not_put said_of put.Memory content old new text h p = p

-- the bytes that are put are the text's
pub same_text : (said_of : TextOf) (content : Option (List ℕ)) (text bytes : List ℕ) → IfSome content (λ b. said_of b ≡ Ok text) → bytes ≡ text → IfSome content (λ b. said_of b ≡ Ok bytes)
same_text said_of content text bytes h is = subst (λ t. IfSome content (λ b. said_of b ≡ Ok t)) (sym is) h
