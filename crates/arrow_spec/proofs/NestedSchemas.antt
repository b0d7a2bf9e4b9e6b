-- A schema of nested kinds is read back from its message.
use Rattle.std.proofs.Common.{ap, ◌≡◌, ℕ, ◌+◌, ◌*◌, ◌^◌, ◌<◌, ◌≤◌, List, [], ◌++◌, length, Some, Ok, refl, ◌∙◌, arith}
use Rattle.std.specs.Prelude.{nat_eq}
use Rattle.std.specs.Int.{w16}
use Rattle.arrow_spec.specs.declared.error.IpcError.TheVariants.{Unsupported}
use Rattle.arrow_spec.specs.declared.error.Feature.TheVariants as features
use Rattle.arrow_spec.specs.Readings.{bind, unless}
use Rattle.arrow_spec.specs.Flat.{Table, Vector, Order, little, big, slot_unsigned, slot_vector}
use Rattle.arrow_spec.specs.Kinds.{Fields, Metadata}
use Rattle.arrow_spec.specs.Schema.{Schema, pairs_of, schema_of, schema_part, order_of, has_distinct_names}
use Rattle.arrow_spec.specs.Layout as layout
use Rattle.arrow_spec.specs.Layout.{Slots, node_count}
use Rattle.arrow_spec.specs.Held.{HoldsSlots}
use Rattle.arrow_spec.specs.Framing.{message_bytes, padded_size}
use Rattle.arrow_spec.specs.declared.message.MetadataVersion.TheVariants.{V5}
use Rattle.arrow_spec.specs.Messages.{Message, message_of, message_pairs, version_of}
use Rattle.arrow_spec.specs.Streams.{schema_message_of, stream_head}
use Rattle.arrow_spec.specs.Laws.{IsNextMessage, SchemaBytesReadBack}
use Rattle.arrow_spec.proofs.Back.{layout_back}
use Rattle.arrow_spec.proofs.MessageTables.{message_back}
use Rattle.arrow_spec.specs.Sent.{field_nodes, message_slots, order_slot, pair_nodes, pairs_slot, schema_slots, schema_message}
use Rattle.arrow_spec.specs.WrittenSchemas.{CustomMayBeWritten, IdsMayBeWritten, SchemaMayBeWritten, after_fields}
use Rattle.arrow_spec.proofs.Slots.{unsigned_absent, unsigned_there, vector_there}
use Rattle.arrow_spec.proofs.SchemaPairs.{ascend_texts, pairs_slot_back}
use Rattle.arrow_spec.proofs.PairMaps.{all_ascend, all_pairs}
use Rattle.arrow_spec.proofs.NumberedFields.{fields_more}
use Rattle.arrow_spec.proofs.Projection.{on}
use Rattle.arrow_spec.proofs.NestedFields.{fields_back}
use Rattle.arrow_spec.proofs.NextMessages.{framed_message_is_next}
use Rattle.arrow_spec.proofs.MessagesFit.{message_fits}
use Rattle.arrow_spec.proofs.SchemasFit.{schema_fits}

order_back : (order : Order) (s : Slots) (b : List ℕ) (t : Table) → HoldsSlots (order_slot order s) b t 0 → (bind (schema_part (slot_unsigned w16 0 b t 0)) order_of ≡ Ok order) × HoldsSlots s b t 1
unfolding bind
order_back little s b t h = (rw (unsigned_absent w16 0 b t 0 h.0) refl, h.1)
order_back big s b t h = (rw (unsigned_there w16 0 b t 0 h.0.0 1 h.0.1 h.0.2) refl, h.1)

pub schema_back : (order : Order) (fs : Fields) (pairs : Metadata) (b : List ℕ) (t : Table) → SchemaMayBeWritten fs pairs → IdsMayBeWritten fs → HoldsSlots (schema_slots order fs pairs) b t 0
    → schema_of b t ≡ Ok (record { order = order; fields = fs; metadata = pairs })
unfolding schema_of
schema_back order fs pairs b t w ids h =
    let first = order_back order (layout.child (layout.tables (field_nodes fs)) (pairs_slot (pair_nodes pairs) layout.no_more)) b t h in
    let c = first.1.0 in
    let n = node_count (field_nodes fs) in
    let v : Vector = record { first = c.1 + 4; count = n } in
    let inside : c.1 + 4 + n * 4 ≤ length b = omega (arith, c.4.1) in
    let there : slot_vector 4 b t 1 ≡ Ok (Some v) = vector_there 4 b t 1 c.0 c.1 n c.2 c.3 c.4.0 inside in
    let required' : schema_part (slot_vector 4 b t 1) ≡ Ok (Some v) = rw there refl in
    let room : 0 + length pairs ≤ 1048576 = omega (arith, w.few_pairs, (fields_more fs (record { fields = 0; pairs = length pairs })).1) in
    let start : 0 + length pairs ≡ length pairs = omega arith in
    let map : all_pairs [] pairs ≡ pairs = all_ascend pairs [] w.ascend in
    let read = (pairs_slot_back pairs layout.no_more b t 2 0 (ascend_texts pairs [] w.ascend) room first.1.1).0 in
    let pairs' : pairs_of b t 2 0 ≡ Ok (pairs, length pairs) = read ∙ ap (λ m. Ok (m, 0 + length pairs)) map ∙ ap (λ k. Ok (pairs, k)) start in
    let fields = fields_back fs 64 b (c.1 + 4) (record { fields = 0; pairs = length pairs }) w.fit w.few_fields w.few_pairs ids.within c.4.2 in
    let distinct : unless (has_distinct_names fs) (Unsupported features.DuplicateField) ≡ Ok tt = rw (w.distinct) refl in
    on _ _ order first.0 ∙ on _ _ (pairs, length pairs) pairs' ∙ on _ _ v (on _ _ (Some v) required') ∙ on _ _ (fs, after_fields fs (record { fields = 0; pairs = length pairs })) fields ∙ on _ _ tt distinct ∙ on _ _ tt ids.agree

-- a schema message by its header, its version and its schema
pub schema_message_read : (md : List ℕ) (m : Message) (s : Schema) → message_of md (λ tag. nat_eq tag 1) ≡ Ok m → version_of md m ≡ Ok V5 → schema_of md m.header ≡ Ok s → schema_message_of md ≡ Ok (m, s)
unfolding schema_message_of
schema_message_read md m s e f g = on _ _ m e ∙ on _ _ V5 f ∙ on _ _ s g

-- the first message of a stream, by its pairs too
pub stream_head_read : (md : List ℕ) (m : Message) (custom : Metadata) (s : Schema) → message_of md (λ tag. nat_eq tag 1) ≡ Ok m → version_of md m ≡ Ok V5 → message_pairs md ≡ Ok custom → schema_of md m.header ≡ Ok s → stream_head md ≡ Ok (m, custom, s)
unfolding stream_head
stream_head_read md m custom s e f p g = on _ _ m e ∙ on _ _ V5 f ∙ on _ _ custom p ∙ on _ _ s g

-- the bytes of a schema message by themselves
pub schema_bytes_back : SchemaBytesReadBack
unfolding schema_message
schema_bytes_back order fs pairs custom rest w ids short =
    let s = schema_slots order fs pairs in
    let b = layout.layout (layout.table (message_slots 1 (layout.table s) 0 custom)) ++ rest in
    let fits = message_fits 1 0 (layout.table s) custom (omega arith) (omega arith) (schema_fits order fs pairs w.fit ids.within) in
    let back = message_back (λ tag. nat_eq tag 1) 1 0 custom s b refl refl refl (omega arith) (layout_back (message_slots 1 (layout.table s) 0 custom) rest fits short) in
    let m = back.found in
    (m, schema_message_read b m (record { order = order; fields = fs; metadata = pairs }) back.read back.version (schema_back order fs pairs b m.header w ids back.header))

-- the message of a schema is the next one, and is read as the schema
pub schema_message_back : (order : Order) (fs : Fields) (pairs custom : Metadata) (rest : List ℕ) → SchemaMayBeWritten fs pairs → IdsMayBeWritten fs → CustomMayBeWritten custom → padded_size (schema_message order fs pairs custom).node < 2 ^ 31
    → (next : IsNextMessage (λ tag. nat_eq tag 1) 1 (schema_slots order fs pairs) [] custom rest (message_bytes (schema_message order fs pairs custom).node [] ++ rest)) × (schema_of next.framed.metadata next.found.header ≡ Ok (record { order = order; fields = fs; metadata = pairs }))
unfolding schema_message
schema_message_back order fs pairs custom rest w ids may short =
    let next = framed_message_is_next (λ tag. nat_eq tag 1) 1 (schema_slots order fs pairs) [] custom rest (omega arith) (omega arith) refl (omega arith) may (message_fits 1 0 (layout.table (schema_slots order fs pairs)) custom (omega arith) (omega arith) (schema_fits order fs pairs w.fit ids.within)) short in
    (next, schema_back order fs pairs next.framed.metadata next.found.header w ids next.header)
