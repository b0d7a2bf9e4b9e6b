-- Batches and dictionaries of a stream: columns that are read by rising numbers, and put in the order asked.
use Rattle.std.proofs.Common.{◌≡◌, ◌∙◌, ℕ, List, [], length, map, Option, Some, None, Result, Ok, Err, IfOk, IfErr, IfSome, Bool, true, false, ℤ, refl, sym, ap, subst}
use Rattle.std.proofs.Math.Seq.{take-length}
use Rattle.std.specs.Rc.{rc_value}
use Rattle.arrow_spec.specs.declared.error.IpcError.{IpcError}
use Rattle.arrow_spec.specs.declared.error.IpcError.TheVariants as errors
use Rattle.arrow_spec.specs.declared.message.MetadataVersion.{MetadataVersion}
use Rattle.arrow_spec.specs.Arrays.{Dictionaries}
use Rattle.arrow_spec.specs.Counts.{first_place}
use Rattle.arrow_spec.specs.Features.{chosen_floats}
use Rattle.arrow_spec.specs.Files.{Asked, TableBatch, batch_of_tables, columns_right, dictionary_of, record_batch_of, to_read}
use Rattle.arrow_spec.specs.Flat.{order_by}
use Rattle.arrow_spec.specs.Kinds.{Fields, Metadata, same, width}
use Rattle.arrow_spec.specs.Messages.{BatchHeader, RecordMessage}
use Rattle.arrow_spec.specs.Readings.{Gives, Refuses, refusals}
use Rattle.arrow_spec.specs.Schema.{Schema}
use Rattle.arrow_spec.specs.Streams.{Reader}
use Rattle.arrow_arrays.specs.Batches.{Batch}
use Rattle.arrow_arrays.specs.Parts.{Parts, cells_in}
use Rattle.arrow_types.specs.Schemas.{Keyed}
use Rattle.ipc_files.proofs.Below.{rising_asked, rising_refuses}
use Rattle.ipc_fields.specs.IpcFields.{Ids, ids_of, metadata_of, schema_with}
use Rattle.ipc_files.specs.Below.{dictionary_message_of, header_of, DictionaryMessage, ArePicked, AreAsked, batch_reading, chosen_read, columns_asked, table_of, AddsDictionary, dictionary_reading, message_of, bytes_in, Body, IsReordered, MayProject, ProjectionInfo, columns_read, Held, HasKind, HoldsCells, HasKindOf, values_of_id, are_columns, are_rising}
use Rattle.ipc_files.specs.Selections.{numbers_read}
use Rattle.ipc_files.proofs.FileDictionaries.{uses_kept}
use Rattle.ipc_files.proofs.InOrder.{right_of_projection}
use Rattle.ipc_files.proofs.Picked.{all_picked, as_many, reordered_picked}
use Rattle.ipc_files.proofs.ReadBlocks.{follows, reading_sent}
use Rattle.ipc_files.proofs.Selected.{asked_below}
use Rattle.ipc_streams.specs.Readers.{ReadsRising, batch_read}
use Rattle.ipc_streams.specs.Starts.{stream_schema}
use Rattle.ipc_streams.specs.declared.metadata.StreamMetadata.{StreamMetadata}

-- the whole of a body
pub whole_body : (bytes : List ℕ) (place : Body) → place ≡ record { offset = 0; length = length bytes } → bytes_in place bytes ≡ bytes
whole_body bytes place is = ap (λ p. bytes_in p bytes) is ∙ take-length bytes

-- ── columns in the schema's order ──

abbrev GivesBy : Result Batch IpcError → Dictionaries → Bool → MetadataVersion → BatchHeader → Option (List ℕ) → Fields → ℕ → List ℕ → Type 0
GivesBy result d le v tables columns fs size body = Gives table_of result (batch_reading columns None le fs d size v tables body)

abbrev PartsBy : Result Batch IpcError → Held → Bool → MetadataVersion → BatchHeader → Option (List ℕ) → Fields → List ℕ → Type 0
PartsBy result h le v tables columns fs body = IfOk result (λ x. x.arrays ≡ chosen_read (record_batch_of (order_by le) v tables body) h columns fs 0 first_place x.height)

columns_picked : (s : Reader) (h : Held) (le : Bool) (v : MetadataVersion) (tables : BatchHeader) (bytes : List ℕ) (result : Result Batch IpcError) → order_by le ≡ s.schema.order → are_rising s.columns ≡ true → are_columns s.columns (width s.schema.fields) ≡ true
    → PartsBy result h le v tables s.columns s.schema.fields bytes → IfOk result (λ x. AreAsked (columns_read (record_batch_of s.schema.order v tables bytes) h s.schema.fields first_place x.height) s.columns x.arrays)
columns_picked s h le v tables bytes (Ok x) order rising range parts =
    let here : x.arrays ≡ chosen_read (record_batch_of s.schema.order v tables bytes) h s.columns s.schema.fields 0 first_place x.height = subst (λ o. x.arrays ≡ chosen_read (record_batch_of o v tables bytes) h s.columns s.schema.fields 0 first_place x.height) order parts in
    subst (λ xs. AreAsked (columns_read (record_batch_of s.schema.order v tables bytes) h s.schema.fields first_place x.height) s.columns xs) (sym here) (all_picked (record_batch_of s.schema.order v tables bytes) h s.columns s.schema.fields x.height rising range)
columns_picked s h le v tables bytes (Err e) order rising range parts = tt

rising_given : (s : Reader) (d : Dictionaries) (h : Held) (le : Bool) (v : MetadataVersion) (tables : BatchHeader) (bytes : List ℕ) (result : Result Batch IpcError) → order_by le ≡ s.schema.order → chosen_floats s.columns s.schema.fields 0 ≡ [] → are_rising s.columns ≡ true → are_columns s.columns (width s.schema.fields) ≡ true
    → GivesBy result d le v tables s.columns s.schema.fields (length bytes) bytes → PartsBy result h le v tables s.columns s.schema.fields bytes → ReadsRising s d h (record { tables = tables; version = v }) bytes result
rising_given s d h le v tables bytes result order floats rising range gives parts =
    let read = reading_sent s.columns None le s.schema.fields d (length bytes) v tables bytes floats ∙ ap (λ o. batch_of_tables to_read (columns_asked s.columns o s.schema.fields d (length bytes)) v [] tables bytes None) order in
    record {
      gives = subst (λ r. Gives table_of result r) read gives;
      columns = columns_picked s h le v tables bytes result order rising range parts;
    }

-- what is read of a body that is held
pub record IsHeldBody (place : Body) (size : ℕ) (bytes : List ℕ) : Type 0 where
  pub whole : place ≡ record { offset = 0; length = length bytes }
  pub most : size ≡ length bytes

pub rising_read : (s : Reader) (d : Dictionaries) (h : Held) (le : Bool) (v : MetadataVersion) (tables : BatchHeader) (columns : Option (List ℕ)) (fs : Fields) (place : Body) (size : ℕ) (bytes : List ℕ) (result : Result Batch IpcError) → columns ≡ s.columns → fs ≡ s.schema.fields → order_by le ≡ s.schema.order → chosen_floats s.columns s.schema.fields 0 ≡ []
    → are_rising columns ≡ true → are_columns columns (width fs) ≡ true → IsHeldBody place size bytes
    → GivesBy result d le v tables columns fs size (bytes_in place bytes) → PartsBy result h le v tables columns fs (bytes_in place bytes) → ReadsRising s d h (record { tables = tables; version = v }) bytes result
rising_read s d h le v tables columns fs place size bytes result cs same order floats rising range held gives parts =
    let whole = whole_body bytes place held.whole in
    let g1 : GivesBy result d le v tables columns fs (length bytes) (bytes_in place bytes) = subst (λ n. GivesBy result d le v tables columns fs n (bytes_in place bytes)) held.most gives in
    let g2 : GivesBy result d le v tables columns fs (length bytes) bytes = subst (λ b. GivesBy result d le v tables columns fs (length bytes) b) whole g1 in
    let g3 : GivesBy result d le v tables columns s.schema.fields (length bytes) bytes = subst (λ f. GivesBy result d le v tables columns f (length bytes) bytes) same g2 in
    let g4 : GivesBy result d le v tables s.columns s.schema.fields (length bytes) bytes = subst (λ c. GivesBy result d le v tables c s.schema.fields (length bytes) bytes) cs g3 in
    let p1 : PartsBy result h le v tables columns fs bytes = subst (λ b. PartsBy result h le v tables columns fs b) whole parts in
    let p2 : PartsBy result h le v tables columns s.schema.fields bytes = subst (λ f. PartsBy result h le v tables columns f bytes) same p1 in
    let p3 : PartsBy result h le v tables s.columns s.schema.fields bytes = subst (λ c. PartsBy result h le v tables c s.schema.fields bytes) cs p2 in
    let r1 : are_columns columns (width s.schema.fields) ≡ true = subst (λ f. are_columns columns (width f) ≡ true) same range in
    rising_given s d h le v tables bytes result order floats (subst (λ c. are_rising c ≡ true) cs rising) (subst (λ c. are_columns c (width s.schema.fields) ≡ true) cs r1) g4 p3

-- ── columns in the order asked ──

-- the columns of a reader in the schema's order
abbrev pub in_order : Reader → Option ProjectionInfo → Reader
in_order s p = record { schema = s.schema; columns = numbers_read p }

abbrev asked_by : Schema → Dictionaries → Option (List ℕ) → ℕ → Asked
asked_by schema d columns most = record { order = schema.order; fields = schema.fields; columns = columns; dictionaries = d; most = most }

abbrev RefusesBy : Schema → Option (List ℕ) → Dictionaries → RecordMessage → List ℕ → IpcError → Type 0
RefusesBy schema columns d m body e = Refuses e (refusals (batch_read (record { schema = schema; columns = columns }) d m.version [] m.tables body))

refused_by : (k : List Keyed) (p : Option ProjectionInfo) (schema : Schema) (columns : Option (List ℕ)) (d : Dictionaries) (m : RecordMessage) (body : List ℕ) (e : IpcError) → MayProject k columns p → RefusesBy schema (numbers_read p) d m body e → RefusesBy schema columns d m body e
refused_by k None schema None d m body e may h = h
refused_by k None schema (Some cs) d m body e may h = absurd may
refused_by k (Some p) schema None d m body e may h = absurd may
refused_by k (Some p) schema (Some cs) d m body e may h =
    follows e _ _ (λ es is. rising_refuses (asked_by schema d (Some cs) (length body)) p.columns.items cs m.version [] m.tables body None es may.same is) h

pub refused_asked : (k : List Keyed) (p : Option ProjectionInfo) (s : Reader) (d : Dictionaries) (h : Held) (m : RecordMessage) (body : List ℕ) (result : Result Batch IpcError) (e : IpcError) → result ≡ Err e → MayProject k s.columns p → ReadsRising (in_order s p) d h m body (Err e) → Gives table_of result (batch_read s d m.version [] m.tables body)
refused_asked k p s d h m body result e is may read =
    subst (λ q. Gives table_of q (batch_read s d m.version [] m.tables body)) (sym is) (refused_by k p s.schema s.columns d m body e may read.gives)

-- all columns
all_by : (k : List Keyed) (schema : Schema) (columns : Option (List ℕ)) (d : Dictionaries) (m : RecordMessage) (body : List ℕ) (x : Batch) → MayProject k columns None → batch_read (record { schema = schema; columns = None }) d m.version [] m.tables body ≡ Ok (table_of x) → batch_read (record { schema = schema; columns = columns }) d m.version [] m.tables body ≡ Ok (table_of x)
all_by k schema None d m body x may h = h
all_by k schema (Some cs) d m body x may h = absurd may

pub all_asked : (k : List Keyed) (p : Option ProjectionInfo) (s : Reader) (d : Dictionaries) (h : Held) (m : RecordMessage) (body : List ℕ) (x : Batch) → p ≡ None → MayProject k s.columns p → ReadsRising (in_order s p) d h m body (Ok x) → Gives table_of (Ok x) (batch_read s d m.version [] m.tables body)
all_asked k p s d h m body x is may read =
    let gives : batch_read (in_order s None) d m.version [] m.tables body ≡ Ok (table_of x) = subst (λ q. batch_read (in_order s q) d m.version [] m.tables body ≡ Ok (table_of x)) is read.gives in
    all_by k s.schema s.columns d m body x (subst (λ q. MayProject k s.columns q) is may) gives

-- columns of a projection
abbrev ColumnsRead : Schema → Held → RecordMessage → List ℕ → ℕ → List Parts
ColumnsRead schema h m body rows = columns_read (record_batch_of schema.order m.version m.tables body) h schema.fields first_place rows

ordered_by : (k : List Keyed) (p : ProjectionInfo) (schema : Schema) (columns : Option (List ℕ)) (d : Dictionaries) (h : Held) (m : RecordMessage) (body : List ℕ) (x y : Batch) → width schema.fields ≡ length k → x.custom ≡ [] → MayProject k columns (Some p) → IsReordered p.map x y
    → batch_read (record { schema = schema; columns = Some p.columns.items }) d m.version [] m.tables body ≡ Ok (table_of x) → ArePicked (ColumnsRead schema h m body x.height) p.columns.items x.arrays
    → batch_read (record { schema = schema; columns = columns }) d m.version [] m.tables body ≡ Ok (table_of y)
ordered_by k p schema None d h m body x y count plain may order read picked = absurd may
ordered_by k p schema (Some cs) d h m body x y count plain may order read picked =
    let right : columns_right (Some cs) (width schema.fields) ≡ Ok tt = subst (λ n. columns_right (Some cs) n ≡ Ok tt) (sym count) (right_of_projection k (Some cs) p may) in
    let given : ArePicked (ColumnsRead schema h m body x.height) cs y.arrays =
    reordered_picked k cs p x y may order (asked_below k cs p may) (ColumnsRead schema h m body x.height) (as_many (record_batch_of schema.order m.version m.tables body) h schema.fields first_place x.height ∙ count) picked in
    let table : ℕ → Metadata → TableBatch = λ n pairs. record { rows = n; columns = map cells_in y.arrays; custom = pairs } in
    let here : batch_read (record { schema = schema; columns = Some p.columns.items }) d m.version [] m.tables body ≡ Ok (record { rows = x.height; columns = map cells_in x.arrays; custom = [] }) =
    read ∙ ap (λ pairs. Ok (record { rows = x.height; columns = map cells_in x.arrays; custom = pairs })) plain in
    rising_asked (asked_by schema d (Some cs) (length body)) p.columns.items cs m.version [] m.tables body None h x.height x.arrays y.arrays may.same right here picked given ∙ ap (λ n. Ok (table n [])) (sym order.height) ∙ ap (λ pairs. Ok (table y.height pairs)) (sym (order.custom ∙ plain))

pub ordered_asked : (k : List Keyed) (o : Option ProjectionInfo) (p : ProjectionInfo) (s : Reader) (d : Dictionaries) (h : Held) (m : RecordMessage) (body : List ℕ) (x : Batch) (result : Result Batch IpcError) → o ≡ Some p → width s.schema.fields ≡ length k → x.custom ≡ [] → MayProject k s.columns o → IfOk result (IsReordered p.map x) → IfErr result (λ e. e ≡ errors.Memory)
    → ReadsRising (in_order s o) d h m body (Ok x) → Gives table_of result (batch_read s d m.version [] m.tables body)
ordered_asked k o p s d h m body x (Ok y) is count plain may order memory read =
    let here : ReadsRising (in_order s (Some p)) d h m body (Ok x) = subst (λ q. ReadsRising (in_order s q) d h m body (Ok x)) is read in
    ordered_by k p s.schema s.columns d h m body x y count plain (subst (λ q. MayProject k s.columns q) is may) order here.gives here.columns
ordered_asked k o p s d h m body x (Err e) is count plain may order memory read = rw memory tt

-- ── dictionaries ──

-- the pairs of a schema change nothing
same_schema : (s : List Keyed) (below : Ids) (order : Bool) (pairs : Metadata) (d : Dictionaries) (most : ℕ) (m : DictionaryMessage) (body : List ℕ)
    → dictionary_reading s below order d most (message_of m.id m.is_delta (header_of m.header)) m.version body true ≡ dictionary_of (schema_with s below order pairs) d most (dictionary_message_of m).dictionary m.version body true
unfolding dictionary_of
same_schema s below order pairs d most m body = refl

abbrev AddsBy : StreamMetadata → Dictionaries → Held → Result (Unit {0}) IpcError → DictionaryMessage → ℤ → ℕ → List ℕ → Type 0
AddsBy m d h' result x id size body =
    AddsDictionary d h' result (dictionary_reading (rc_value m.schema) (ids_of m.ipc_schema.fields.items) m.ipc_schema.is_little_endian d size (message_of id x.is_delta (header_of x.header)) x.version body true)

pub dictionary_added : (m : StreamMetadata) (d : Dictionaries) (h' : Held) (result : Result (Unit {0}) IpcError) (x : DictionaryMessage) (id : ℤ) (place : Body) (size : ℕ) (bytes : List ℕ) → id ≡ x.id → IsHeldBody place size bytes → AddsBy m d h' result x id size (bytes_in place bytes)
    → AddsDictionary d h' result (dictionary_of (stream_schema m) d (length bytes) (dictionary_message_of x).dictionary x.version bytes true)
dictionary_added m d h' result x id place size bytes one held adds =
    let a1 : AddsBy m d h' result x x.id size (bytes_in place bytes) = subst (λ i. AddsBy m d h' result x i size (bytes_in place bytes)) one adds in
    let a2 : AddsBy m d h' result x x.id (length bytes) (bytes_in place bytes) = subst (λ n. AddsBy m d h' result x x.id n (bytes_in place bytes)) held.most a1 in
    let a3 : AddsBy m d h' result x x.id (length bytes) bytes = subst (λ b. AddsBy m d h' result x x.id (length bytes) b) (whole_body bytes place held.whole) a2 in
    subst (λ r. AddsDictionary d h' result r) (same_schema (rc_value m.schema) (ids_of m.ipc_schema.fields.items) m.ipc_schema.is_little_endian (metadata_of m.custom_schema_metadata) d (length bytes) x bytes) a3

-- the parts under each id are of its values' kind behind a call, refused or not
pub values_kept : (fs : Fields) (h h' : Held) (id : ℤ) (result : Result (Unit {0}) IpcError) → ((q : ℤ) → HasKindOf fs h q) → (HasKindOf fs h id → IfOk result (λ u. HasKindOf fs h' id)) → ((q : ℤ) → same id q ≡ false → h' q ≡ h q) → IfErr result (λ e. (q : ℤ) → h' q ≡ h q) → (q : ℤ) → HasKindOf fs h' q
values_kept fs h h' id (Ok u) all here others refused = uses_kept fs h h' id (Ok u) all here others
values_kept fs h h' id (Err e) all here others refused = λ q. subst (λ o. IfSome (values_of_id fs q) (λ k. IfSome o (HasKind k))) (sym (refused q)) (all q)

-- what is said under any dictionaries whose cells are held is said
pub under_held : (h : Held) (d : Dictionaries) (P : Batch → Type 0) (result : Result Batch IpcError) → IfOk result (λ x. (e : Dictionaries) → HoldsCells e h → P x) → HoldsCells d h → IfOk result P
under_held h d P (Ok x) parts holds = parts d holds
under_held h d P (Err e) parts holds = tt
