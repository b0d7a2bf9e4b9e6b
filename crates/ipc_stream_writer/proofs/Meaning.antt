-- What a stream means since it was begun.
use Rattle.std.proofs.Common.{◌≡◌, ◌++◌, ◌∷◌, ◌+◌, ℕ, ℤ, List, [], length, None, Some, Ok, Option, Result, true, refl, sym, ap, ◌∙◌, subst, arith, append_assoc, length-append}
use Rattle.std.specs.List.{flat_map}
use Rattle.std.specs.declared.alloc.Global.{Global}
use Rattle.std.specs.declared.vec.Vec.{Vec}
use Rattle.std.proofs.lemmas.Grind.{flat_map-append}
use Rattle.arrow_spec.specs.declared.error.IpcError.{IpcError}
use Rattle.arrow_spec.specs.Files.{ArrowTable, TableBatch}
use Rattle.arrow_spec.specs.Flat.{little}
use Rattle.arrow_spec.specs.Framing.{message_bytes}
use Rattle.arrow_spec.specs.Kinds.{Fields, bare, have_same_kinds}
use Rattle.arrow_spec.specs.WrittenSchemas.{CustomMayBeWritten}
use Rattle.arrow_spec.specs.Sent.{schema_message}
use Rattle.arrow_spec.specs.Streams.{closed, end_mark, stream_table, unended}
use Rattle.arrow_types.specs.Schemas.{Keyed, fields_in}
use Rattle.ipc_messages.specs.Below.{Batch, forest, begun, columns_fault, columns_of, unless_fault, Sending, IsKept, held_by, options_of, WriteOptions}
use Rattle.ipc_fields.specs.IpcFields.{fields_with, ids_of, metadata_of}
use Rattle.ipc_fields.specs.declared.ipc_field.IpcField.{IpcField}
use Rattle.ipc_bodies.specs.Puts.{Moved}
use Rattle.ipc_write_laws.specs.Messages.{WrittenMessage, bytes_of, ended_stream, stream_so_far}
use Rattle.ipc_write_laws.proofs.Messages.{messages_front_means, messages_stream_means}
use Rattle.ipc_messages.specs.Messages.{chunk_text}
use Rattle.ipc_messages.specs.Puts.{counted}
use Rattle.ipc_messages.specs.Schemas.{SchemaIsSaid, stream_text}
use Rattle.ipc_messages.specs.declared.pairs.StreamPairs.{StreamPairs}
use Rattle.laws_writers.specs.Heard.{cells_held}
use Rattle.laws_writers.specs.Chunks.{chunk_of}
use Rattle.laws_writers.specs.Written.{ArePut, cells_of, said_fields}
use Rattle.laws_writers.proofs.Written.{chunk_is_put, schema_is_put}
use Rattle.ipc_stream_writer.specs.declared.stream.StreamCore.{StreamCore}
use Rattle.ipc_stream_writer.specs.Calls.{HasSent, Stays}
use Rattle.ipc_stream_writer.specs.Written.{IsEnded, IsWritten, stream_fields}

-- ── counts ──

-- bytes more are counted behind those before them
pub more_counted : (old new n : ℕ) (x y : List ℕ) → old ≡ counted (length x) → length y ≡ n → new ≡ counted (old + n) → new ≡ counted (length (x ++ y))
more_counted old new n x y h e k = omega (arith, h, e, k, length-append x y)

-- ── bytes that are written ──

abbrev table_by : Fields → StreamPairs → List TableBatch → ArrowTable
table_by fs pairs bs = record { metadata = metadata_of pairs.schema; custom = metadata_of pairs.message; fields = bare fs; batches = bs }

-- those of messages that may be written
pub written_by : (pairs : StreamPairs) (c : StreamCore) (x : List ℕ) (bs : List TableBatch) (ms : List WrittenMessage) → c.byte_count ≡ counted (length x)
    → ArePut (stream_fields c) (metadata_of pairs.schema) (metadata_of pairs.message) (held_by c.tracker) bs ms → x ≡ stream_so_far (stream_fields c) (metadata_of pairs.schema) (metadata_of pairs.message) ms → IsWritten pairs c x bs
written_by pairs c x bs ms n put e =
    let front = messages_front_means (stream_fields c) (metadata_of pairs.schema) (metadata_of pairs.message) ms put.may in
    record {
      count = n;
      not_ended = subst unended (sym e) front.0;
      means = ap (λ z. stream_table z None) e ∙ front.1 ∙ ap (λ ys. Some (table_by (stream_fields c) pairs ys)) put.batches;
      messages = ms;
      put = put;
      bytes = e;
    }

-- ── begin ──

-- those with which a stream is begun
pub begun_written : (options : WriteOptions) (pairs : StreamPairs) (c : StreamCore) (x : List ℕ) → stream_text options (fields_in c.schema) (ids_of c.fields.items) pairs ≡ Ok x
    → CustomMayBeWritten (metadata_of pairs.message) → ((id : ℤ) → held_by c.tracker id ≡ None) → c.byte_count ≡ counted (length x)
    → SchemaIsSaid (fields_with (fields_in c.schema) (ids_of c.fields.items)) (metadata_of pairs.schema) → IsWritten pairs c x []
begun_written options pairs c x text message none n said =
    let put = schema_is_put options (fields_in c.schema) (ids_of c.fields.items) pairs (held_by c.tracker) x text said message none in
    written_by pairs c x [] [] n put.0 put.1

-- ── batches ──

pub found_so : (f : Option IpcError) (r : Result Sending IpcError) (t : Sending) → unless_fault f r ≡ Ok t → r ≡ Ok t
found_so None r t h = h
found_so (Some e) r t h = cc

fields_stay : (s t : List Keyed) (v w : Vec IpcField Global) → t ≡ s → w ≡ v → said_fields (fields_in t) (ids_of w.items) ≡ said_fields (fields_in s) (ids_of v.items)
fields_stay s t v w e f = rw (e, f) refl

-- the bytes of messages, and of others behind them
pub joined : (fs : Fields) (pairs : StreamPairs) (x y : List ℕ) (ms ns : List WrittenMessage) → x ≡ stream_so_far fs (metadata_of pairs.schema) (metadata_of pairs.message) ms → flat_map bytes_of ns ≡ y
    → x ++ y ≡ stream_so_far fs (metadata_of pairs.schema) (metadata_of pairs.message) (ms ++ ns)
joined fs pairs x y ms ns e f =
    let start = message_bytes (schema_message little fs (metadata_of pairs.schema) (metadata_of pairs.message)).node [] in
    ap (λ z. z ++ y) e ∙ ap (λ z. (start ++ flat_map bytes_of ms) ++ z) (sym f) ∙ append_assoc start (flat_map bytes_of ms) (flat_map bytes_of ns) ∙ ap (λ z. start ++ z) (sym (flat_map-append bytes_of ms ns))

-- those of a batch behind them
pub sent_written : (encode : List ℕ → List ℕ) (m : Moved) (old new : StreamCore) (b : Batch) (h : HasSent encode m old new b) → have_same_kinds (fields_in old.schema) (columns_of (forest b.arrays)) ≡ true
    → (pairs : StreamPairs) (x : List ℕ) (bs : List TableBatch) → IsWritten pairs old x bs → IsWritten pairs new (x ++ chunk_text h.sent b) (bs ++ cells_of b ∷ [])
sent_written encode m old new b h types pairs x bs w =
    let fs = fields_in old.schema in
    let below = ids_of old.fields.items in
    let own = metadata_of pairs.schema in
    let custom = metadata_of pairs.message in
    let t : Sending = record { held = held_by new.tracker; used = h.used; sent = h.sent } in
    let found = found_so (columns_fault (columns_of (forest b.arrays)) below) _ t h.is_found in
    let put = chunk_is_put old.options (options_of old.tracker) fs below b (begun old.tracker) t h.sent own custom bs w.messages found refl h.may types w.put in
    let stay : stream_fields old ≡ stream_fields new = sym (fields_stay old.schema new.schema old.fields new.fields h.stays.schema h.stays.fields) in
    let ms = w.messages ++ chunk_of (stream_fields old) h.sent b in
    written_by pairs new (x ++ chunk_text h.sent b) (bs ++ cells_of b ∷ []) ms (more_counted old.byte_count new.byte_count (length (chunk_text h.sent b)) x (chunk_text h.sent b) w.count refl h.count)
    (subst (λ gs. ArePut gs own custom (held_by new.tracker) (bs ++ cells_of b ∷ []) ms) stay put.0)
    (subst (λ gs. x ++ chunk_text h.sent b ≡ stream_so_far gs own custom ms) stay (joined (stream_fields old) pairs x (chunk_text h.sent b) w.messages (chunk_of (stream_fields old) h.sent b) w.bytes put.1))

-- ── refusals ──

-- what is held, the fields and the count stay
pub still_written : (old new : StreamCore) → IsKept (held_by old.tracker) (held_by new.tracker) → new.byte_count ≡ old.byte_count → Stays old new
    → (pairs : StreamPairs) (x : List ℕ) (bs : List TableBatch) → IsWritten pairs old x bs → IsWritten pairs new x bs
still_written old new held n stays pairs x bs w =
    let own = metadata_of pairs.schema in
    let custom = metadata_of pairs.message in
    let stay : stream_fields old ≡ stream_fields new = sym (fields_stay old.schema new.schema old.fields new.fields stays.schema stays.fields) in
    let put : ArePut (stream_fields old) own custom (held_by new.tracker) bs w.messages = record { may = w.put.may; known = λ id. w.put.known id ∙ ap cells_held (sym (held id)); batches = w.put.batches } in
    written_by pairs new x bs w.messages (n ∙ w.count) (subst (λ gs. ArePut gs own custom (held_by new.tracker) bs w.messages) stay put) (subst (λ gs. x ≡ stream_so_far gs own custom w.messages) stay w.bytes)

-- ── end ──

pub ended_written : (old new : StreamCore) → new.schema ≡ old.schema → new.fields ≡ old.fields → new.byte_count ≡ counted (old.byte_count + 8)
    → (pairs : StreamPairs) (x : List ℕ) (bs : List TableBatch) → IsWritten pairs old x bs → IsEnded pairs new (x ++ end_mark) bs
ended_written old new schema fields n pairs x bs w =
    let own = metadata_of pairs.schema in
    let custom = metadata_of pairs.message in
    let gs = stream_fields old in
    let stay : gs ≡ stream_fields new = sym (fields_stay old.schema new.schema old.fields new.fields schema fields) in
    let end = messages_stream_means gs own custom w.messages w.put.may in
    let e : x ++ end_mark ≡ ended_stream gs own custom w.messages = ap (λ z. z ++ end_mark) w.bytes in
    record {
      count = more_counted old.byte_count new.byte_count 8 x end_mark w.count refl n;
      ended = subst closed (sym e) end.0;
      means = ap (λ z. stream_table z None) e ∙ end.1 ∙ ap (λ ys. Some (table_by gs pairs ys)) w.put.batches ∙ ap (λ fs. Some (table_by fs pairs bs)) stay;
    }
