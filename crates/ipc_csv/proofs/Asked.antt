-- A file whose metadata, whose columns or whose kinds are refused, and a file that is printed.
use Rattle.std.proofs.Common.{◌≡◌, ◌∙◌, sym, refl, ap, subst, inl, inr, ◌⊎◌, ℕ, List, [], ◌∷◌, length, true, false, Option, Some, None, Result, Ok, Err, arith}
use Rattle.std.specs.Prelude.{IfErr, IfOk, IfSome, IsSome, nat_lt}
use Rattle.std.specs.Rc.{rc_value}
use Rattle.arrow_spec.specs.declared.error.IpcError.{IpcError}
use Rattle.arrow_spec.specs.declared.error.IpcError.TheVariants as errors
use Rattle.arrow_spec.specs.declared.error.Feature.TheVariants as features
use Rattle.arrow_spec.specs.Features.{chosen_floats}
use Rattle.arrow_spec.specs.Files.{ArrowTable, Meta, Request, columns_right, custom_of, fields_as_asked, file_reading, meta_of, to_send}
use Rattle.arrow_spec.specs.Kinds.{Metadata, width}
use Rattle.arrow_spec.specs.Meaning.{file_table}
use Rattle.arrow_spec.specs.Readings.{IsAmong, Reading, Refuses, bind, free_of, refusals}
use Rattle.arrow_spec.proofs.Projection.{ok-place, on}
use Rattle.arrow_types.specs.Schemas.{Keyed, fields_in}
use Rattle.csv_texts.specs.Texts.{are_nested, printable, printed}
use Rattle.csv_texts.proofs.Text.{text_of_read}
use Rattle.ipc_bodies.specs.declared.encoding.Encoding.TheVariants.{Bytes}
use Rattle.laws_walk.specs.Below.{IsRefusal, FileCause, FileMetadata, FileSays, FooterFetched, MayProject, ProjectionInfo, WasRead, file_custom, meta_view, FileCursor, NotRead}
use Rattle.ipc_io.specs.Outside.{Rose, Stands}
use Rattle.laws_walk.proofs.Below.{file_width}
use Rattle.laws_transcode.proofs.Readings.{columns_refused as columns_refuse, custom_refused, meta_refused, on_err}
use Rattle.laws_walk.specs.Fetching.{FetchesSome, FileFetched}
use Rattle.laws_walk.specs.Places.{Sending, fields_in_request, schema_of_reader, walking}
use Rattle.laws_walk.proofs.Causes.{wrong_is}
use Rattle.laws_walk.proofs.FetchedFiles.{file_by_blocks}
use Rattle.laws_walk.specs.declared.summary.Summary.{Summary}
use Rattle.ipc_csv.specs.Printing.{CallCause, FileRefused, IsUnprinted, NotSelected, PrintsFile, Selected}
use Rattle.ipc_csv.specs.Prints.{AddsPart, PrintCause, Prints}
use Rattle.ipc_csv.proofs.Forms.{nested_is}
use Rattle.ipc_csv.proofs.Refusals.{NotOfSink, not_of_sink, refused_before}
use Rattle.ipc_csv.proofs.Tables.{OfFile}

-- ── what refuses a printing before its header ──

printed_err : (b : List ℕ) (r : Request) (es : List IpcError) → printable b r ≡ Err es → printed b r None ≡ Err es
unfolding printed
printed_err b r es h = on_err _ _ es h

meta_stops : (b : List ℕ) (r : Request) (es : List IpcError) → meta_of b ≡ Err es → printable b r ≡ Err es
unfolding printable
meta_stops b r es h = on_err _ _ es h

custom_stops : (b : List ℕ) (r : Request) (meta : Meta) (es : List IpcError) → meta_of b ≡ Ok meta → custom_of b ≡ Err es → printable b r ≡ Err es
unfolding printable
custom_stops b r meta es read h = on _ _ meta read ∙ on_err _ _ es h

module _ (b : List ℕ) (r : Request) (meta : Meta) (custom : Metadata) (says : FileSays b meta custom) where
  columns_stop : (es : List IpcError) → columns_right r.columns (width meta.schema.fields) ≡ Err es → printable b r ≡ Err es
  unfolding printable
  columns_stop es h = on _ _ meta says.read ∙ on _ _ custom says.pairs ∙ on_err _ _ es h

  floats_stop : (es : List IpcError) → columns_right r.columns (width meta.schema.fields) ≡ Ok tt → free_of (chosen_floats r.columns meta.schema.fields 0) ≡ Err es → printable b r ≡ Err es
  unfolding printable
  floats_stop es right h = on _ _ meta says.read ∙ on _ _ custom says.pairs ∙ on _ _ tt right ∙ on_err _ _ es h

  nested_stops : columns_right r.columns (width meta.schema.fields) ≡ Ok tt → chosen_floats r.columns meta.schema.fields 0 ≡ [] → are_nested (fields_as_asked r.columns meta.schema.fields) ≡ true → printable b r ≡ Err (errors.Unsupported features.Nested ∷ [])
  unfolding printable
  nested_stops right readable nested = on _ _ meta says.read ∙ on _ _ custom says.pairs ∙ on _ _ tt right ∙ on _ _ tt (ok-place _ readable) ∙ rw nested refl

-- ── the metadata ──

-- columns past the last are refused behind the metadata alone
past_the_last : ℕ → Request
past_the_last n = record { columns = Some (n ∷ []); limit = None }

none_past : (n : ℕ) → columns_right (Some (n ∷ [])) n ≡ Err (errors.Projection n ∷ [])
unfolding bind
none_past n = let e : nat_lt n n ≡ false = not_less n in rw e refl
  where
    not_less : (k : ℕ) → nat_lt k k ≡ false
    not_less k = grind arith

no_projection : (e : IpcError) (n faults faults' : ℕ) → FileCause e faults faults' → Refuses e (errors.Projection n ∷ []) → (es : List IpcError) → Refuses e es
no_projection errors.Memory n faults faults' cause h es = tt
no_projection errors.ReadFault n faults faults' cause h es = tt
no_projection errors.WriteFault n faults faults' cause h es = absurd cause
no_projection (errors.Projection i) n faults faults' cause h es = absurd cause
no_projection e n faults faults' cause (inl same) es = cc
no_projection e n faults faults' cause (inr never) es = absurd never

metadata_stops : (b : List ℕ) (r : Request) (e : IpcError) (faults faults' : ℕ) → FileCause e faults faults' → ((q : Request) → Refuses e (refusals (file_reading to_send b q None))) → Refuses e (refusals (printed b r None))
unfolding past_the_last
metadata_stops b r e faults faults' cause h = by_meta (meta_of b) refl
  where
    as_read : (es : List IpcError) → file_reading to_send b r None ≡ Err es → printable b r ≡ Err es → Refuses e (refusals (printed b r None))
    as_read es read stops = subst (λ z. Refuses e (refusals z)) (sym (printed_err b r es stops)) (subst (λ z. Refuses e (refusals z)) read (h r))

    by_custom : (meta : Meta) → meta_of b ≡ Ok meta → (z : Reading Metadata) → custom_of b ≡ z → Refuses e (refusals (printed b r None))
    by_custom meta read (Err es) pairs = as_read es (custom_refused to_send b r None meta es read pairs) (custom_stops b r meta es read pairs)
    by_custom meta read (Ok custom) pairs =
        let n = width meta.schema.fields in
        let wrong = columns_refuse to_send b (past_the_last n) None meta custom (errors.Projection n ∷ []) read pairs (none_past n) in
        no_projection e n faults faults' cause (subst (λ z. Refuses e (refusals z)) wrong (h (past_the_last n))) (refusals (printed b r None))

    by_meta : (z : Reading Meta) → meta_of b ≡ z → Refuses e (refusals (printed b r None))
    by_meta (Err es) read = as_read es (meta_refused to_send b r None es read) (meta_stops b r es read)
    by_meta (Ok meta) read = by_custom meta read (custom_of b) refl

pub metadata_refused : (result : Result Summary IpcError) (e : IpcError) (content : Option (List ℕ)) (r : Request) (o : Option (List ℕ)) (faults faults' : ℕ) → result ≡ Err e → FileCause e faults faults' → IfSome content (λ b. (q : Request) → Refuses e (refusals (file_reading to_send b q None)))
    → IfSome content (λ b. PrintsFile result b r o o)
metadata_refused result e None r o faults faults' is cause h = tt
metadata_refused result e (Some b) r o faults faults' is cause h = subst (λ z. PrintsFile z b r o o) (sym is) (refused_before e b r o (not_of_sink e faults faults' cause) (metadata_stops b r e faults faults' cause h))

-- ── the columns and their kinds ──

not_of_sink_refusal : (e : IpcError) → IsRefusal e → NotOfSink e
not_of_sink_refusal errors.WriteFault h = h
not_of_sink_refusal e h = tt

pub refusal_cause : (e : IpcError) (reads reads' writes writes' : ℕ) → IsRefusal e → CallCause e reads reads' writes writes'
refusal_cause (errors.OutOfSpec kind) reads reads' writes writes' h = tt
refusal_cause (errors.Unsupported feature) reads reads' writes writes' h = tt
refusal_cause e reads reads' writes writes' h = absurd h

-- what nothing refuses is answered of a device alone
of_none : (e : IpcError) → Refuses e [] → (es : List IpcError) → Refuses e es
of_none errors.Memory h es = tt
of_none errors.ReadFault h es = tt
of_none errors.WriteFault h es = tt
of_none e h es = absurd h

-- columns that are not selected
not_selected : (b : List ℕ) (e : IpcError) (file : FileMetadata) (r : Request) (o : Option (List ℕ)) → FileSays b (meta_view file) (file_custom file) → NotSelected e file r.columns → FileRefused e b r o o
not_selected b e file r o says (NotSelected.no_memory memory) = rw memory (refused_before errors.Memory b r o tt tt)
not_selected b e file r o says (NotSelected.no_column wrong) =
    let number = wrong_is r.columns (width (meta_view file).schema.fields) e wrong in
    let place : columns_right r.columns (width (meta_view file).schema.fields) ≡ Err (errors.Projection number.0 ∷ []) = subst (λ z. columns_right r.columns (width (meta_view file).schema.fields) ≡ Err (z ∷ [])) number.1 wrong in
    let whole : printed b r None ≡ Err (errors.Projection number.0 ∷ []) = printed_err b r _ (columns_stop b r (meta_view file) (file_custom file) says (errors.Projection number.0 ∷ []) place) in
    subst (λ z. FileRefused z b r o o) (sym number.1) (refused_before (errors.Projection number.0) b r o tt (subst (λ z. Refuses (errors.Projection number.0) (refusals z)) (sym whole) (inl refl)))
not_selected b e file r o says (NotSelected.never_read right refusal h) = refused_before e b r o (not_of_sink_refusal e refusal) (by (chosen_floats r.columns (meta_view file).schema.fields 0) refl h)
  where
    by : (es : List IpcError) → chosen_floats r.columns (meta_view file).schema.fields 0 ≡ es → Refuses e es → Refuses e (refusals (printed b r None))
    by [] floats k = of_none e k (refusals (printed b r None))
    by (x ∷ xs) floats k =
        let place : free_of (chosen_floats r.columns (meta_view file).schema.fields 0) ≡ Err (x ∷ xs) = ap free_of floats in
        let whole : printed b r None ≡ Err (x ∷ xs) = printed_err b r (x ∷ xs) (floats_stop b r (meta_view file) (file_custom file) says (x ∷ xs) right place) in
        subst (λ z. Refuses e (refusals z)) (sym whole) k

pub columns_refused : (result : Result Summary IpcError) (e : IpcError) (content : Option (List ℕ)) (file : FileMetadata) (r : Request) (o : Option (List ℕ)) → result ≡ Err e → NotSelected e file r.columns → IfSome content (λ b. FileSays b (meta_view file) (file_custom file))
    → IfSome content (λ b. PrintsFile result b r o o)
columns_refused result e None file r o is h says = tt
columns_refused result e (Some b) file r o is h says = subst (λ z. PrintsFile z b r o o) (sym is) (not_selected b e file r o says h)

pub columns_cause : (e : IpcError) (file : FileMetadata) (columns : Option (List ℕ)) (reads reads' writes writes' : ℕ) → NotSelected e file columns → CallCause e reads reads' writes writes'
columns_cause e file columns reads reads' writes writes' (NotSelected.no_memory memory) = rw memory tt
columns_cause e file columns reads reads' writes writes' (NotSelected.no_column wrong) = let number = wrong_is columns (width (meta_view file).schema.fields) e wrong in rw number.1 tt
columns_cause e file columns reads reads' writes writes' (NotSelected.never_read right refusal h) = refusal_cause e reads reads' writes writes' refusal

pub selected_of : (file : FileMetadata) (given columns : Option (List ℕ)) (s : List Keyed) (p q : Option ProjectionInfo) → s ≡ rc_value file.schema → given ≡ columns → MayProject s given p → q ≡ p → MayProject (rc_value file.schema) columns q
selected_of file given columns s p q same asked may is = subst (MayProject (rc_value file.schema) columns) (sym is) (subst (λ z. MayProject (rc_value file.schema) z p) asked (subst (λ z. MayProject z given p) same may))

-- columns that are none, or want of memory
pub wrong_columns_of : (e : IpcError) (file : FileMetadata) (given columns : Option (List ℕ)) (s : List Keyed) → s ≡ rc_value file.schema → given ≡ columns → (e ≡ errors.Memory) ⊎ (columns_right given (length s) ≡ Err (e ∷ [])) → NotSelected e file columns
wrong_columns_of e file given columns s same asked (inl memory) = NotSelected.no_memory memory
wrong_columns_of e file given columns s same asked (inr wrong) =
    let here : columns_right columns (length (rc_value file.schema)) ≡ Err (e ∷ []) = subst (λ z. columns_right z (length (rc_value file.schema)) ≡ Err (e ∷ [])) asked (subst (λ z. columns_right given (length z) ≡ Err (e ∷ [])) same wrong) in
    NotSelected.no_column (subst (λ n. columns_right columns n ≡ Err (e ∷ [])) (sym (file_width file)) here)

-- a reader of a file at its first block
pub record Reader (file : FileMetadata) (r : Request) (c : FileCursor) : Type 0 where
  pub metadata : c.metadata ≡ file
  pub selected : Selected file r.columns c.projection
  pub read : WasRead file
  pub block : c.block ≡ 0
  pub dictionaries : c.dictionaries ≡ NotRead
  pub left : c.left ≡ r.limit

-- what is printed by it
abbrev pub printing : List ℕ → FileMetadata → Request → Option (List ℕ) → Sending
printing b file r old = record { bytes = b; file = file; request = r; encoding = Bytes; start = old }

pub nested_refused : (content : Option (List ℕ)) (file : FileMetadata) (r : Request) (c : FileCursor) (o : Option (List ℕ)) → Reader file r c → are_nested (fields_in (schema_of_reader c)) ≡ true → IfSome content (λ b. FileSays b (meta_view file) (file_custom file))
    → IfSome content (λ b. PrintsFile (Err (errors.Unsupported features.Nested)) b r o o)
nested_refused None file r c o reader nested says = tt
nested_refused (Some b) file r c o reader nested says =
    let x = printing b file r o in
    let e = errors.Unsupported features.Nested in
    let same : are_nested (fields_in_request x) ≡ true = sym (nested_is x c reader.metadata reader.selected.may) ∙ nested in
    let whole : printed b r None ≡ Err (e ∷ []) = printed_err b r (e ∷ []) (nested_stops b r (meta_view file) (file_custom file) says reader.selected.right reader.selected.readable same) in
    refused_before e b r o tt (subst (λ z. Refuses e (refusals z)) (sym whole) (inl refl))

-- ── a file ──

unprinted : (b : List ℕ) (file : FileMetadata) (r : Request) (c : FileCursor) (old : Option (List ℕ)) → Reader file r c → are_nested (fields_in (schema_of_reader c)) ≡ false → FileSays b (meta_view file) (file_custom file) → IsUnprinted c (printing b file r old)
unprinted b file r c old reader flat says =
    let x = printing b file r old in
    record {
      by = record {
        by = record {
          metadata = reader.metadata;
          columns = reader.selected.may;
          file = record { read = says.read; pairs = says.pairs; columns = reader.selected.right; readable = reader.selected.readable };
          read = reader.read;
        };
        flat = sym (nested_is x c reader.metadata reader.selected.may) ∙ flat;
      };
      block = reader.block;
      dictionaries = reader.dictionaries;
      left = reader.left;
    }

pub file_printed : (content after : Option (List ℕ)) (file : FileMetadata) (r : Request) (c : FileCursor) (old new : Option (List ℕ)) (result : Result Summary IpcError) → after ≡ content → Reader file r c → are_nested (fields_in (schema_of_reader c)) ≡ false
    → IfSome content (λ b. FileSays b (meta_view file) (file_custom file)) → OfFile after c old (λ b x. PrintsFile result b x.request old new) → IfSome content (λ b. PrintsFile result b r old new)
file_printed None after file r c old new result same reader flat says h = tt
file_printed (Some b) after file r c old new result same reader flat says h =
    let here : OfFile (Some b) c old (λ b x. PrintsFile result b x.request old new) = subst (λ z. OfFile z c old (λ b x. PrintsFile result b x.request old new)) same h in
    here (printing b file r old) refl refl (unprinted b file r c old reader flat says)

pub file_fetched : (content after : Option (List ℕ)) (file : FileMetadata) (r : Request) (c : FileCursor) (old : Option (List ℕ)) (f mid f' : ℕ) → after ≡ content → Reader file r c → are_nested (fields_in (schema_of_reader c)) ≡ false
    → IfSome content (λ b. FileSays b (meta_view file) (file_custom file)) → FooterFetched content f mid → OfFile after c old (λ b x. FetchesSome (walking x) mid f') → FileFetched content r f f'
file_fetched None after file r c old f mid f' same reader flat says footer h = tt
file_fetched (Some b) after file r c old f mid f' same reader flat says footer h =
    let here : OfFile (Some b) c old (λ b x. FetchesSome (walking x) mid f') = subst (λ z. OfFile z c old (λ b x. FetchesSome (walking x) mid f')) same h in
    file_by_blocks (printing b file r old) f mid f' says footer (here (printing b file r old) refl refl (unprinted b file r c old reader flat says))

-- ── what is said of it ──

module _ (r : Request) (old new : Option (List ℕ)) where
  cause_told : (e : IpcError) (content : Option (List ℕ)) (reads reads' writes writes' : ℕ) → IfSome content (λ b. FileRefused e b r old new) → CallCause e reads reads' writes writes' → PrintCause e content r reads reads' writes writes'
  cause_told errors.ReadFault content reads reads' writes writes' h c = c
  cause_told errors.WriteFault content reads reads' writes writes' h c = c
  cause_told errors.Memory content reads reads' writes writes' h c = tt
  cause_told errors.TooLarge content reads reads' writes writes' h c = absurd c
  cause_told errors.State content reads reads' writes writes' h c = absurd c
  cause_told errors.SchemaMismatch content reads reads' writes writes' h c = absurd c
  cause_told (errors.DictionaryReplaced id) content reads reads' writes writes' h c = absurd c
  cause_told errors.NotRepresentable content reads reads' writes writes' h c = absurd c
  cause_told e None reads reads' writes writes' h c = tt
  cause_told e (Some b) reads reads' writes writes' h c = h.refused

  pub cause_of : (result : Result Summary IpcError) (content : Option (List ℕ)) (reads reads' writes writes' : ℕ) → IfSome content (λ b. PrintsFile result b r old new) → IfErr result (λ e. CallCause e reads reads' writes writes')
      → IfErr result (λ e. PrintCause e content r reads reads' writes writes')
  cause_of (Ok x) content reads reads' writes writes' h c = tt
  cause_of (Err e) content reads reads' writes writes' h c = cause_told e content reads reads' writes writes' h c

  pub whole_of : (result : Result Summary IpcError) (content : Option (List ℕ)) → IfSome content (λ b. PrintsFile result b r old new) → IfOk result (λ s. IfSome content (λ b. Prints s b r old new))
  whole_of (Ok s) content h = h
  whole_of (Err e) content h = tt

  pub part_of : (result : Result Summary IpcError) (content : Option (List ℕ)) → IfSome content (λ b. PrintsFile result b r old new) → IfErr result (λ e. IfSome content (λ b. AddsPart e b r old new))
  part_of (Ok s) content h = tt
  part_of (Err e) None h = tt
  part_of (Err e) (Some b) h = h.part

stood : (a b : ℕ) → Stands a b → Rose a b → ⊥
stood a b s r = omega (arith, s.same, s.below)

none_refused : (b : List ℕ) (r : Request) (found : Option ArrowTable) (e : IpcError) → file_table b r ≡ found → IsSome found → printable b r ≡ Ok tt → IsAmong (refusals (printed b r None)) e → ⊥
none_refused b r None e is h flat m = cc
none_refused b r (Some t) e is h flat m = absurd (subst (λ z. IsAmong (refusals z) e) (text_of_read b r t flat is) m)

memory_alone : (e : IpcError) (b : List ℕ) (r : Request) (reads reads' writes writes' : ℕ) → PrintCause e (Some b) r reads reads' writes writes' → IsSome (file_table b r) → printable b r ≡ Ok tt → Stands reads reads' → Stands writes writes' → e ≡ errors.Memory
memory_alone errors.ReadFault b r reads reads' writes writes' c h flat s t = absurd (stood reads reads' s c)
memory_alone errors.WriteFault b r reads reads' writes writes' c h flat s t = absurd (stood writes writes' t c)
memory_alone errors.Memory b r reads reads' writes writes' c h flat s t = refl
memory_alone errors.TooLarge b r reads reads' writes writes' c h flat s t = absurd c
memory_alone errors.State b r reads reads' writes writes' c h flat s t = absurd c
memory_alone errors.SchemaMismatch b r reads reads' writes writes' c h flat s t = absurd c
memory_alone (errors.DictionaryReplaced id) b r reads reads' writes writes' c h flat s t = absurd c
memory_alone errors.NotRepresentable b r reads reads' writes writes' c h flat s t = absurd c
memory_alone e b r reads reads' writes writes' c h flat s t = absurd (none_refused b r (file_table b r) e refl h flat c)

pub complete_by_cause : {T : Type 0} (result : Result T IpcError) (content : Option (List ℕ)) (r : Request) (reads reads' writes writes' : ℕ) → IfErr result (λ e. PrintCause e content r reads reads' writes writes')
    → IfSome content (λ b. IsSome (file_table b r) → printable b r ≡ Ok tt → Stands reads reads' → Stands writes writes' → IfErr result (λ e. e ≡ errors.Memory))
complete_by_cause (Ok x) None r reads reads' writes writes' c = tt
complete_by_cause (Ok x) (Some b) r reads reads' writes writes' c = λ h flat s t. tt
complete_by_cause (Err e) None r reads reads' writes writes' c = tt
complete_by_cause (Err e) (Some b) r reads reads' writes writes' c = λ h flat s t. memory_alone e b r reads reads' writes writes' c h flat s t
