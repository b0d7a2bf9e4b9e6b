-- How a file is read under a request to be sent before its first block: its footer, the columns asked for, their kinds, the schema's size, the dictionaries.
use Rattle.std.proofs.Common.{◌≡◌, ℕ, zero, suc, List, [], ◌∷◌, take, Option, Some, None, Ok, Err, refl, sym, ◌∙◌, true, false, Bool}
use Rattle.arrow_spec.specs.declared.error.IpcError.{IpcError}
use Rattle.arrow_spec.specs.declared.error.IpcError.TheVariants.{TooLarge}
use Rattle.arrow_spec.specs.Readings.{◌>>=◌, Reading, free_of}
use Rattle.arrow_spec.specs.declared.error.OutOfSpecKind.TheVariants.{InvalidFlatbufferFooter}
use Rattle.arrow_spec.specs.WrittenSchemas.{CustomMayBeWritten}
use Rattle.arrow_spec.specs.Kinds.{Metadata, bare, width}
use Rattle.arrow_spec.specs.Arrays.{Dictionaries}
use Rattle.arrow_spec.specs.Features.{chosen_floats}
use Rattle.arrow_spec.specs.Sent.{stream_schema, may_be_sent}
use Rattle.arrow_spec.specs.Files.{ArrowTable, FileBlock, Meta, Purpose, Request, batches_of, columns_right, dictionaries_of, dictionaries_read, fields_as_asked, file_reading, if_sent, custom_of, meta_of, taken, to_read, to_send}
pub use Rattle.arrow_spec.proofs.SentMessages.{on_err}
use Rattle.arrow_spec.proofs.Projection.{on, ok-place}
use Rattle.arrow_spec.proofs.ReadPairs.{through}
use Rattle.arrow_spec.proofs.ReadPairs.{custom_may as pairs_may}
use Rattle.laws_transcode.specs.Files.{HasRead, IsSendable, IsSentFile, asked_of, asked_schema, table_of}
use Rattle.laws_transcode.specs.Laws.{DictionariesRefuseTheirFile}

-- ── what is refused ──

-- a footer that is refused
pub meta_refused : (purpose : Purpose) (b : List ℕ) (r : Request) (j : Option ℕ) (es : List IpcError) → meta_of b ≡ Err es → file_reading purpose b r j ≡ Err es
unfolding file_reading
meta_refused purpose b r j es h = on_err _ _ es h

-- a footer's pairs that are refused
pub custom_refused : (purpose : Purpose) (b : List ℕ) (r : Request) (j : Option ℕ) (meta : Meta) (es : List IpcError) → meta_of b ≡ Ok meta → custom_of b ≡ Err es → file_reading purpose b r j ≡ Err es
unfolding file_reading
custom_refused purpose b r j meta es h none = on _ _ meta h ∙ on_err _ _ es none

-- a footer's pairs that are read may be written
pub custom_may : (b : List ℕ) (custom : Metadata) → custom_of b ≡ Ok custom → CustomMayBeWritten custom
unfolding custom_of
custom_may b custom h = through _ _ custom h λ f f_is h1. pairs_may InvalidFlatbufferFooter f custom h1

-- columns that are refused: one that is none, or stands there twice
pub columns_refused : (purpose : Purpose) (b : List ℕ) (r : Request) (j : Option ℕ) (meta : Meta) (custom : Metadata) (es : List IpcError) → meta_of b ≡ Ok meta → custom_of b ≡ Ok custom → columns_right r.columns (width meta.schema.fields) ≡ Err es → file_reading purpose b r j ≡ Err es
unfolding file_reading
columns_refused purpose b r j meta custom es h pairs wrong = on _ _ meta h ∙ on _ _ custom pairs ∙ on_err _ _ es wrong

-- floats that are refused
pub features_refused : (purpose : Purpose) (b : List ℕ) (r : Request) (j : Option ℕ) (meta : Meta) (custom : Metadata) (es : List IpcError) → meta_of b ≡ Ok meta → custom_of b ≡ Ok custom → columns_right r.columns (width meta.schema.fields) ≡ Ok tt
    → free_of (chosen_floats r.columns meta.schema.fields 0) ≡ Err es → file_reading purpose b r j ≡ Err es
unfolding file_reading
features_refused purpose b r j meta custom es h pairs right refused =
    on _ _ meta h ∙ on _ _ custom pairs ∙ on _ _ tt right ∙ on_err _ _ es refused

-- ── behind the kinds ──

-- the table of batches that are read of some blocks with some dictionaries
blocks_read : Purpose → List ℕ → Request → Meta → Metadata → List FileBlock → Dictionaries → Reading ArrowTable
blocks_read purpose b r meta custom blocks d =
    batches_of purpose b (asked_of b meta r d) true blocks r.limit >>= λ batches. Ok (table_of (bare (fields_as_asked r.columns meta.schema.fields)) meta.schema.metadata custom batches)

-- the reading of a file behind the schema's size: the dictionaries, and some blocks
behind_size : Purpose → List ℕ → Request → Meta → Metadata → List FileBlock → Reading ArrowTable
behind_size purpose b r meta custom blocks =
    dictionaries_of b meta [] (dictionaries_read blocks meta.dictionaries) >>= λ d. blocks_read purpose b r meta custom blocks d

sendable_reading : (purpose : Purpose) (b : List ℕ) (r : Request) (j : Option ℕ) (meta : Meta) (custom : Metadata) → meta_of b ≡ Ok meta → custom_of b ≡ Ok custom → columns_right r.columns (width meta.schema.fields) ≡ Ok tt
    → chosen_floats r.columns meta.schema.fields 0 ≡ [] → IsSendable (asked_schema meta.schema r.columns)
    → file_reading purpose b r j ≡ (if_sent purpose (may_be_sent (stream_schema (fields_as_asked r.columns meta.schema.fields) meta.schema.metadata custom)) >>= λ size. behind_size purpose b r meta custom (taken j meta.blocks))
unfolding file_reading behind_size blocks_read
sendable_reading purpose b r j meta custom h pairs right readable is =
    let kinds : free_of (chosen_floats r.columns meta.schema.fields 0) ≡ Ok tt =
    ok-place _ readable in
    on _ _ meta h ∙ on _ _ custom pairs ∙ on _ _ tt right ∙ on _ _ tt kinds

-- a schema message that is too large
pub schema_refused : (b : List ℕ) (r : Request) (meta : Meta) (custom : Metadata) → meta_of b ≡ Ok meta → custom_of b ≡ Ok custom → columns_right r.columns (width meta.schema.fields) ≡ Ok tt
    → chosen_floats r.columns meta.schema.fields 0 ≡ [] → IsSendable (asked_schema meta.schema r.columns) → may_be_sent (stream_schema (fields_as_asked r.columns meta.schema.fields) meta.schema.metadata custom) ≡ false → file_reading to_send b r None ≡ Err (TooLarge ∷ [])
schema_refused b r meta custom h pairs right readable is large =
    sendable_reading to_send b r None meta custom h pairs right readable is ∙ on_err _ _ (TooLarge ∷ []) (rw large refl)

schema_fits : (purpose : Purpose) (b : Bool) → b ≡ true → if_sent purpose b ≡ Ok tt
schema_fits to_read b h = refl
schema_fits to_send b h = rw h refl

-- a file whose schema may be sent is read behind the schema's size
sent_reading : (purpose : Purpose) (b : List ℕ) (r : Request) (j : Option ℕ) (meta : Meta) (custom : Metadata) → IsSentFile b r meta custom → file_reading purpose b r j ≡ behind_size purpose b r meta custom (taken j meta.blocks)
sent_reading purpose b r j meta custom file =
    sendable_reading purpose b r j meta custom file.read file.pairs file.columns file.readable file.schema ∙ on _ _ tt (schema_fits purpose _ file.small)

-- ── dictionaries and blocks ──

nothing_read : (b : List ℕ) (meta : Meta) → dictionaries_of b meta [] [] ≡ Ok []
unfolding dictionaries_of
nothing_read b meta = refl

-- where no block is read no dictionary counts
no_blocks : (purpose : Purpose) (b : List ℕ) (r : Request) (meta : Meta) (custom : Metadata) → behind_size purpose b r meta custom [] ≡ Ok (table_of (bare (fields_as_asked r.columns meta.schema.fields)) meta.schema.metadata custom [])
unfolding behind_size blocks_read batches_of
no_blocks purpose b r meta custom = on _ _ [] (nothing_read b meta) ∙ on _ _ [] refl

-- where the first of some blocks is read, so are the dictionaries
pub front_dictionaries : (n : ℕ) (blocks dictionaries : List FileBlock) → dictionaries_read (take (suc n) blocks) dictionaries ≡ dictionaries_read blocks dictionaries
front_dictionaries n [] ds = refl
front_dictionaries n (x ∷ xs) ds = refl

some_taken : (j : Option ℕ) (blocks dictionaries : List FileBlock) (x : FileBlock) (xs : List FileBlock) → taken j blocks ≡ x ∷ xs → dictionaries_read blocks dictionaries ≡ dictionaries
some_taken j (y ∷ ys) ds x xs h = refl
some_taken None [] ds x xs h = cc
some_taken (Some zero) [] ds x xs h = cc
some_taken (Some (suc n)) [] ds x xs h = cc

-- a file whose dictionaries were read is read block by block
pub first_batches : (purpose : Purpose) (b : List ℕ) (r : Request) (j : Option ℕ) (meta : Meta) (custom : Metadata) (d : Dictionaries) → IsSentFile b r meta custom → HasRead b meta d
    → file_reading purpose b r j ≡ (batches_of purpose b (asked_of b meta r d) true (taken j meta.blocks) r.limit >>= λ batches. Ok (table_of (bare (fields_as_asked r.columns meta.schema.fields)) meta.schema.metadata custom batches))
unfolding behind_size blocks_read batches_of
first_batches purpose b r j meta custom d file has = sent_reading purpose b r j meta custom file ∙ by_blocks (taken j meta.blocks) refl
  where
    by_blocks : (blocks : List FileBlock) → taken j meta.blocks ≡ blocks → behind_size purpose b r meta custom blocks ≡ blocks_read purpose b r meta custom blocks d
    by_blocks [] e = no_blocks purpose b r meta custom ∙ sym (on _ _ [] refl)
    by_blocks (x ∷ xs) e =
        let all : dictionaries_read meta.blocks meta.dictionaries ≡ meta.dictionaries = some_taken j meta.blocks meta.dictionaries x xs e in
        let read = rw all at has.read in
        on _ _ d read

-- its schema alone is read whatever its dictionaries are
pub no_batches : (purpose : Purpose) (b : List ℕ) (r : Request) (meta : Meta) (custom : Metadata) → IsSentFile b r meta custom
    → file_reading purpose b r (Some 0) ≡ Ok (table_of (bare (fields_as_asked r.columns meta.schema.fields)) meta.schema.metadata custom [])
no_batches purpose b r meta custom file = sent_reading purpose b r (Some 0) meta custom file ∙ no_blocks purpose b r meta custom

-- dictionaries that are refused before some blocks
dictionaries_refused : (purpose : Purpose) (b : List ℕ) (r : Request) (meta : Meta) (custom : Metadata) (es : List IpcError) (blocks : List FileBlock)
    → dictionaries_of b meta [] (dictionaries_read blocks meta.dictionaries) ≡ Err es → behind_size purpose b r meta custom blocks ≡ Err es
unfolding behind_size
dictionaries_refused purpose b r meta custom es blocks h = on_err _ _ es h

pub dictionaries_refuse : DictionariesRefuseTheirFile
dictionaries_refuse b r meta custom es file h =
    let same = front_dictionaries 0 meta.blocks meta.dictionaries in (
      sent_reading to_send b r None meta custom file ∙ dictionaries_refused to_send b r meta custom es meta.blocks h,
      sent_reading to_send b r (Some 1) meta custom file ∙ dictionaries_refused to_send b r meta custom es (take 1 meta.blocks) (rw same h),
    )
