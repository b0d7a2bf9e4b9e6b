-- The arrays of batches and dictionaries that were read: those that their tables and their bodies say.
use Rattle.std.proofs.Common.{◌≡◌, ◌∙◌, ℕ, List, length, Option, Some, None, Result, Ok, Err, IfOk, Bool, true, false, ℤ, refl, sym, ap, subst}
use Rattle.std.proofs.Math.Path.{fun_ext}
use Rattle.std.specs.Prelude.{if◌then◌else◌}
use Rattle.arrow_spec.specs.declared.error.IpcError.{IpcError}
use Rattle.arrow_spec.specs.declared.error.IpcError.TheVariants.{OutOfSpec}
use Rattle.arrow_spec.specs.declared.error.OutOfSpecKind.TheVariants.{InvalidId}
use Rattle.arrow_spec.specs.Arrays.{Dictionaries, HeldDictionary}
use Rattle.arrow_spec.specs.Counts.{first_place, magnitude}
use Rattle.arrow_spec.specs.Files.{dictionary_of, record_batch_of}
use Rattle.arrow_spec.specs.Flat.{order_by}
use Rattle.arrow_spec.specs.Kinds.{Kind, same, uses_in, values_under, width}
use Rattle.arrow_spec.specs.Messages.{RecordMessage}
use Rattle.arrow_spec.specs.Readings.{required}
use Rattle.arrow_spec.specs.Schema.{Schema}
use Rattle.arrow_spec.specs.Streams.{Reader}
use Rattle.arrow_spec.proofs.ReadPairs.{through}
use Rattle.arrow_spec.proofs.SameIds.{id_true}
use Rattle.arrow_arrays.specs.Batches.{Batch}
use Rattle.arrow_arrays.specs.Parts.{Parts}
use Rattle.arrow_types.specs.Schemas.{Keyed}
use Rattle.ipc_files.specs.Below.{dictionary_message_of, header_of, DictionaryMessage, DictionaryTables, ArePicked, AreAsked, AddsDictionary, HoldsPart, bytes_in, Body, IsReordered, MayProject, ProjectionInfo, columns_read, Held, HoldsCells, values_of_id}
use Rattle.ipc_files.specs.Selections.{numbers_read}
use Rattle.ipc_files.proofs.Picked.{as_many, reordered_picked}
use Rattle.ipc_files.proofs.Selected.{asked_below}
use Rattle.ipc_streams.specs.Arrays.{arrays_read, held_behind, parts_with, values_of}
use Rattle.ipc_streams.specs.Readers.{ReadsRising}
use Rattle.ipc_streams.specs.Starts.{stream_schema}
use Rattle.ipc_streams.specs.declared.metadata.StreamMetadata.{StreamMetadata}
use Rattle.ipc_streams.proofs.ReadBatches.{in_order, whole_body}
use Rattle.ipc_streams.proofs.StreamSchemas.{same_order}

-- ── batches ──

-- all rows of its length are read
rows_read : (s : Reader) (d : Dictionaries) (h : Held) (m : RecordMessage) (body : List ℕ) (x : Batch) → x.height ≡ magnitude m.tables.length → ReadsRising s d h m body (Ok x) → AreAsked (arrays_read s.schema h m body) s.columns x.arrays
rows_read s d h m body x height read = subst (λ n. AreAsked (columns_read (record_batch_of s.schema.order m.version m.tables body) h s.schema.fields first_place n) s.columns x.arrays) height read.columns

all_by : (k : List Keyed) (all : List Parts) (columns : Option (List ℕ)) (x : Batch) → MayProject k columns None → x.arrays ≡ all → AreAsked all columns x.arrays
all_by k all None x may h = h
all_by k all (Some cs) x may h = absurd may

pub all_arrays : (k : List Keyed) (p : Option ProjectionInfo) (s : Reader) (d : Dictionaries) (h : Held) (m : RecordMessage) (body : List ℕ) (x : Batch) → p ≡ None → MayProject k s.columns p → x.height ≡ magnitude m.tables.length → ReadsRising (in_order s p) d h m body (Ok x) → AreAsked (arrays_read s.schema h m body) s.columns x.arrays
all_arrays k p s d h m body x is may height read =
    let here : AreAsked (arrays_read s.schema h m body) (numbers_read None) x.arrays = subst (λ q. AreAsked (arrays_read s.schema h m body) (numbers_read q) x.arrays) is (rows_read (in_order s p) d h m body x height read) in
    all_by k (arrays_read s.schema h m body) s.columns x (subst (λ q. MayProject k s.columns q) is may) here

ordered_by : (k : List Keyed) (p : ProjectionInfo) (schema : Schema) (columns : Option (List ℕ)) (h : Held) (m : RecordMessage) (body : List ℕ) (x y : Batch) → width schema.fields ≡ length k → MayProject k columns (Some p) → IsReordered p.map x y
    → ArePicked (arrays_read schema h m body) p.columns.items x.arrays → AreAsked (arrays_read schema h m body) columns y.arrays
ordered_by k p schema None h m body x y count may order picked = absurd may
ordered_by k p schema (Some cs) h m body x y count may order picked =
    reordered_picked k cs p x y may order (asked_below k cs p may) (arrays_read schema h m body) (as_many (record_batch_of schema.order m.version m.tables body) h schema.fields first_place (magnitude m.tables.length) ∙ count) picked

pub ordered_arrays : (k : List Keyed) (o : Option ProjectionInfo) (p : ProjectionInfo) (s : Reader) (d : Dictionaries) (h : Held) (m : RecordMessage) (body : List ℕ) (x : Batch) (result : Result Batch IpcError) → o ≡ Some p → width s.schema.fields ≡ length k → MayProject k s.columns o → IfOk result (IsReordered p.map x)
    → x.height ≡ magnitude m.tables.length → ReadsRising (in_order s o) d h m body (Ok x) → IfOk result (λ y. AreAsked (arrays_read s.schema h m body) s.columns y.arrays)
ordered_arrays k o p s d h m body x (Err e) is count may order height read = tt
ordered_arrays k o p s d h m body x (Ok y) is count may order height read =
    let here : AreAsked (arrays_read s.schema h m body) (numbers_read (Some p)) x.arrays = subst (λ q. AreAsked (arrays_read s.schema h m body) (numbers_read q) x.arrays) is (rows_read (in_order s o) d h m body x height read) in
    ordered_by k p s.schema s.columns h m body x y count (subst (λ q. MayProject k s.columns q) is may) order here

-- ── dictionaries ──

required_some : (e : IpcError) (o : Option Kind) (k : Kind) → required e o ≡ Ok k → o ≡ Some k
required_some e None k h = cc
required_some e (Some l) k h = cc

-- a dictionary that was read is one of a column's
column_of : (schema : Schema) (d : Dictionaries) (x : DictionaryTables) (body : List ℕ) (y : HeldDictionary) → dictionary_of schema d (length body) x.dictionary x.version body true ≡ Ok y → (k : Kind) × (values_of_id schema.fields x.dictionary.id ≡ Some k)
unfolding dictionary_of
column_of schema d x body y h = through _ _ y h λ k k_is rest. (k, required_some (OutOfSpec (InvalidId x.dictionary.id)) (values_under x.dictionary.id (uses_in schema.fields)) k k_is)

part_under : (schema : Schema) (h h' : Held) (x : DictionaryTables) (body : List ℕ) (o : Option Kind) (k : Kind) → o ≡ Some k → HoldsPart h h' x.dictionary.id x.dictionary.is_delta o (record_batch_of schema.order x.version x.dictionary.values body) (magnitude x.dictionary.values.length)
    → h' x.dictionary.id ≡ parts_with x.dictionary.is_delta (h x.dictionary.id) (values_of schema h x body o)
part_under schema h h' x body None k is part = cc
part_under schema h h' x body (Some l) k is part = part

-- its part is held under its id, and under each other id what was held before
held_as : (schema : Schema) (d : Dictionaries) (h h' : Held) (x : DictionaryTables) (body : List ℕ) (y : HeldDictionary) → dictionary_of schema d (length body) x.dictionary x.version body true ≡ Ok y
    → HoldsPart h h' x.dictionary.id x.dictionary.is_delta (values_of_id schema.fields x.dictionary.id) (record_batch_of schema.order x.version x.dictionary.values body) (magnitude x.dictionary.values.length)
    → ((q : ℤ) → same x.dictionary.id q ≡ false → h' q ≡ h q) → h' ≡ held_behind schema h x body
held_as schema d h h' x body y read part others = fun_ext (λ q. by q (same x.dictionary.id q) refl)
  where
    by : (q : ℤ) (t : Bool) → same x.dictionary.id q ≡ t → h' q ≡ (if same x.dictionary.id q then parts_with x.dictionary.is_delta (h x.dictionary.id) (values_of schema h x body (values_of_id schema.fields x.dictionary.id)) else h q)
    by q true e = ap h' (sym (id_true x.dictionary.id q e)) ∙ part_under schema h h' x body (values_of_id schema.fields x.dictionary.id) (column_of schema d x body y read).0 (column_of schema d x body y read).1 part
        ∙ ap (λ (t : Bool). if t then parts_with x.dictionary.is_delta (h x.dictionary.id) (values_of schema h x body (values_of_id schema.fields x.dictionary.id)) else h q) (sym e)
    by q false e = others q e ∙ ap (λ (t : Bool). if t then parts_with x.dictionary.is_delta (h x.dictionary.id) (values_of schema h x body (values_of_id schema.fields x.dictionary.id)) else h q) (sym e)

abbrev PartBy : StreamMetadata → Held → Held → DictionaryMessage → ℤ → List ℕ → Type 0
PartBy m h h' x id body = HoldsPart h h' id x.is_delta (values_of_id (stream_schema m).fields id) (record_batch_of (stream_schema m).order x.version (header_of x.header) body) (magnitude (header_of x.header).length)

pub dictionary_held : (m : StreamMetadata) (d : Dictionaries) (h h' : Held) (result : Result (Unit {0}) IpcError) (x : DictionaryMessage) (id : ℤ) (place : Body) (bytes : List ℕ) → id ≡ x.id → place ≡ record { offset = 0; length = length bytes }
    → IfOk result (λ u. (e : Dictionaries) → HoldsCells e h → HoldsPart h h' id x.is_delta (values_of_id (stream_schema m).fields id) (record_batch_of (order_by m.ipc_schema.is_little_endian) x.version (header_of x.header) (bytes_in place bytes)) (magnitude x.header.length))
    → ((q : ℤ) → same id q ≡ false → h' q ≡ h q) → HoldsCells d h → AddsDictionary d h' result (dictionary_of (stream_schema m) d (length bytes) (dictionary_message_of x).dictionary x.version bytes true)
    → IfOk result (λ u. h' ≡ held_behind (stream_schema m) h (dictionary_message_of x) bytes)
dictionary_held m d h h' (Err e) x id place bytes one whole part others holds adds = tt
dictionary_held m d h h' (Ok u) x id place bytes one whole part others holds adds =
    let p1 : HoldsPart h h' id x.is_delta (values_of_id (stream_schema m).fields id) (record_batch_of (order_by m.ipc_schema.is_little_endian) x.version (header_of x.header) bytes) (magnitude x.header.length) =
    subst (λ b. HoldsPart h h' id x.is_delta (values_of_id (stream_schema m).fields id) (record_batch_of (order_by m.ipc_schema.is_little_endian) x.version (header_of x.header) b) (magnitude x.header.length)) (whole_body bytes place whole) (part d holds) in
    let p2 : PartBy m h h' x id bytes = subst (λ o. HoldsPart h h' id x.is_delta (values_of_id (stream_schema m).fields id) (record_batch_of o x.version (header_of x.header) bytes) (magnitude x.header.length)) (same_order m) p1 in
    let p3 : PartBy m h h' x x.id bytes = subst (λ i. PartBy m h h' x i bytes) one p2 in
    let added = adds.ok in
    held_as (stream_schema m) d h h' (dictionary_message_of x) bytes added.0 added.1 p3 (subst (λ i. (q : ℤ) → same i q ≡ false → h' q ≡ h q) one others)
