-- The schema's message of a flight is read as the schema of its file.
use Rattle.std.proofs.Common.{◌≡◌, ◌∙◌, ℕ, ◌<◌, ◌^◌, List, [], Bool, true, false, inl, inr, Result, Ok, Err, append-nil, refl, sym, ap, subst, arith}
use Rattle.std.specs.Prelude.{nat_eq, nat_le}
use Rattle.std.specs.Rc.{rc_value}
use Rattle.std.proofs.lemmas.Bool.{leb-false, leb-true}
use Rattle.arrow_spec.specs.declared.error.IpcError.{IpcError}
use Rattle.arrow_spec.specs.declared.error.IpcError.TheVariants as errors
use Rattle.arrow_spec.specs.declared.error.OutOfSpecKind.TheVariants as kinds
use Rattle.arrow_spec.specs.declared.message.MetadataVersion.TheVariants.{V5}
use Rattle.arrow_spec.specs.Flat.{Order, order_by}
use Rattle.arrow_spec.specs.Kinds.{Fields, Metadata, uses_in}
use Rattle.arrow_spec.specs.Layout as layout
use Rattle.arrow_spec.specs.Layout.{size}
use Rattle.arrow_spec.specs.Messages.{message_pairs}
use Rattle.arrow_spec.specs.Readings.{Reading, Refuses, bind, refusals, unless}
use Rattle.arrow_spec.specs.Regular.{representable}
use Rattle.arrow_spec.specs.Schema.{Schema, uses_agree}
use Rattle.arrow_spec.specs.Sent.{message_slots, schema_message, schema_slots}
use Rattle.arrow_spec.specs.Streams.{stream_head}
use Rattle.arrow_spec.specs.WrittenSchemas.{CustomMayBeWritten, IdsMayBeWritten, SchemaMayBeWritten}
use Rattle.arrow_spec.proofs.Back.{layout_back}
use Rattle.arrow_spec.proofs.MessageTables.{message_back}
use Rattle.arrow_spec.proofs.MessagesFit.{message_fits}
use Rattle.arrow_spec.proofs.NestedSchemas.{schema_back, stream_head_read}
use Rattle.arrow_spec.proofs.Projection.{on}
use Rattle.arrow_spec.proofs.ReadPairs.{is_true, same_read, through}
use Rattle.arrow_spec.proofs.SchemaPairs.{custom_back}
use Rattle.arrow_spec.proofs.SchemasFit.{schema_fits}
use Rattle.arrow_types.specs.Schemas.{Keyed, fields_in}
use Rattle.ipc_fields.specs.IpcFields.{Ids, fields_with, have_shapes, ids_of, metadata_of}
use Rattle.ipc_files.specs.FileViews.{WasRead, file_custom, meta_view}
use Rattle.ipc_files.specs.declared.metadata.FileMetadata.{FileMetadata}
use Rattle.ipc_files.proofs.ReadFiles.{same_order}
use Rattle.ipc_streams.specs.Starts.{head_in}
use Rattle.ipc_write.specs.Below.{IsOfMessage, belong_to, serialized, written}
use Rattle.ipc_write.specs.declared.encoded.EncodedData.{EncodedData}
use Rattle.laws_sent.proofs.SayableFields.{may_be_said}
use Rattle.ipc_flight.specs.Firsts.{GivesFirst, first_in, memory, says, too_large}

-- the flatbuffer of a schema's message that may be written is read as the schema, and the message's pairs
first_back : (order : Order) (fs : Fields) (pairs custom : Metadata) → SchemaMayBeWritten fs pairs → IdsMayBeWritten fs → CustomMayBeWritten custom → size (schema_message order fs pairs custom).node < 2 ^ 31
    → first_in (layout.layout (schema_message order fs pairs custom).node) ≡ Ok (record { schema = record { order = order; fields = fs; metadata = pairs }; custom = custom; version = V5 })
unfolding schema_message first_in head_in
first_back order fs pairs custom w ids may short =
    let s = schema_slots order fs pairs in
    let b = layout.layout (layout.table (message_slots 1 (layout.table s) 0 custom)) in
    let fits = message_fits 1 0 (layout.table s) custom (omega arith) (omega arith) (schema_fits order fs pairs w.fit ids.within) in
    let rooted = subst (λ x. Rattle.arrow_spec.specs.Held.Rooted (message_slots 1 (layout.table s) 0 custom) x) (append-nil b) (layout_back (message_slots 1 (layout.table s) 0 custom) [] fits short) in
    let back = message_back (λ tag. nat_eq tag 1) 1 0 custom s b refl refl refl (omega arith) rooted in
    let m = back.found in
    let k : Schema = record { order = order; fields = fs; metadata = pairs } in
    let pairs_read : message_pairs b ≡ Ok custom = custom_back kinds.InvalidFlatbufferMessage custom b m.table may back.root_is back.last in
    let head : stream_head b ≡ Ok (m, custom, k) = stream_head_read b m custom k back.read back.version pairs_read (schema_back order fs pairs b m.header w ids back.header) in
    on (head_in b) _ (record { schema = k; custom = custom; version = V5 }, m.body) (on (stream_head b) _ (m, custom, k) head ∙ on _ _ V5 back.version)

-- what is written of a schema that may be
written_by : (order : Order) (fs : Fields) (below : Ids) (pairs custom : Metadata) → belong_to below fs ≡ true → representable (fields_with fs below) ≡ true
    → written order fs below pairs custom ≡ bind (unless (nat_le (size (schema_message order (fields_with fs below) pairs custom).node) 2147483647) errors.TooLarge) (λ small. Ok (layout.layout (schema_message order (fields_with fs below) pairs custom).node))
unfolding written serialized bind
written_by order fs below pairs custom own sayable = rw (own, sayable) refl

refused_by : (s : Schema) (custom : Metadata) (small : Bool) (bytes : List ℕ) (e : IpcError) → nat_le (size (schema_message s.order s.fields s.metadata custom).node) 2147483647 ≡ small → IsOfMessage e → Refuses e (refusals (bind (unless small errors.TooLarge) (λ u. Ok bytes))) → GivesFirst s custom (Err e)
unfolding bind
refused_by s custom small bytes errors.Memory is of refused = memory
refused_by s custom true bytes errors.TooLarge is of refused = absurd refused
refused_by s custom false bytes errors.TooLarge is of refused = too_large (leb-false _ _ is)
refused_by s custom true bytes errors.SchemaMismatch is of refused = absurd refused
refused_by s custom false bytes errors.SchemaMismatch is of refused = elim refused [ inl h ↦ cc | inr h ↦ absurd h ]
refused_by s custom true bytes errors.NotRepresentable is of refused = absurd refused
refused_by s custom false bytes errors.NotRepresentable is of refused = elim refused [ inl h ↦ cc | inr h ↦ absurd h ]
refused_by s custom small bytes e is of refused = absurd of

abbrev pub file_written : FileMetadata → Reading (List ℕ)
file_written m = written (order_by m.ipc_schema.is_little_endian) (fields_in (rc_value m.schema)) (ids_of m.ipc_schema.fields.items) (metadata_of m.custom_schema_metadata) (file_custom m)

written_of : (m : FileMetadata) → WasRead m → file_written m ≡ bind (unless (nat_le (size (schema_message (meta_view m).schema.order (meta_view m).schema.fields (meta_view m).schema.metadata (file_custom m)).node) 2147483647) errors.TooLarge) (λ small. Ok (layout.layout (schema_message (meta_view m).schema.order (meta_view m).schema.fields (meta_view m).schema.metadata (file_custom m)).node))
written_of m read =
    let fs = fields_in (rc_value m.schema) in
    let below = ids_of m.ipc_schema.fields.items in
    let own : belong_to below fs ≡ true = own_by fs below read.readable.shapes read.ids.agree in
    ap (λ o. written o fs below (metadata_of m.custom_schema_metadata) (file_custom m)) (same_order m) ∙ written_by (meta_view m).schema.order fs below (metadata_of m.custom_schema_metadata) (file_custom m) own (may_be_said (meta_view m).schema.fields (meta_view m).schema.metadata read.may read.ids)
  where
    own_by : (fs : Fields) (below : Ids) → have_shapes fs below ≡ true → uses_agree [] (uses_in (fields_with fs below)) ≡ Ok tt → belong_to below fs ≡ true
    own_by fs below shapes agree = rw (shapes, agree) refl

-- what is written of what is lent of a file's metadata is what is written of the metadata
pub of_file : (P : Reading (List ℕ) → Type 0) (m : FileMetadata) (k : List Keyed) (own custom : Metadata) → k ≡ rc_value m.schema → own ≡ (meta_view m).schema.metadata → custom ≡ file_custom m → P (written (order_by m.ipc_schema.is_little_endian) (fields_in k) (ids_of m.ipc_schema.fields.items) own custom) → P (file_written m)
of_file P m k own custom is_k is_own is_custom h =
    let le = order_by m.ipc_schema.is_little_endian in
    let below = ids_of m.ipc_schema.fields.items in
    subst (λ q. P (written le (fields_in (rc_value m.schema)) below (metadata_of m.custom_schema_metadata) q)) is_custom (subst (λ q. P (written le (fields_in (rc_value m.schema)) below q custom)) is_own (subst (λ q. P (written le (fields_in q) below own custom)) is_k h))

-- the message of a file's schema
pub first_refused : (m : FileMetadata) (result : Result EncodedData IpcError) (e : IpcError) → result ≡ Err e → WasRead m → IsOfMessage e → Refuses e (refusals (file_written m)) → GivesFirst (meta_view m).schema (file_custom m) result
first_refused m result e is read of refused =
    subst (GivesFirst (meta_view m).schema (file_custom m)) (sym is) (refused_by (meta_view m).schema (file_custom m) _ _ e refl of (subst (λ r. Refuses e (refusals r)) (written_of m read) refused))

pub first_said : (m : FileMetadata) (x : EncodedData) (bytes : List ℕ) → WasRead m → x.ipc_message.items ≡ bytes → x.arrow_data.items ≡ [] → file_written m ≡ Ok bytes → GivesFirst (meta_view m).schema (file_custom m) (Ok x)
first_said m x bytes read is empty h =
    let s = (meta_view m).schema in
    through _ _ bytes (sym (written_of m read) ∙ h) λ u small rest.
    let few : size (schema_message s.order s.fields s.metadata (file_custom m)).node < 2 ^ 31 = omega (arith, leb-true _ 2147483647 (is_true _ _ u small)) in
    says empty (ap first_in is ∙ ap first_in (sym (same_read _ bytes rest)) ∙ first_back s.order s.fields s.metadata (file_custom m) read.may read.ids read.custom few)
