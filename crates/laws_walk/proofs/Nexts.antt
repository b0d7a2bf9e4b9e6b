-- What a stream would mean with a batch more, or with its end mark.
use Rattle.std.proofs.Common.{◌≡◌, ℕ, ◌++◌, ◌∷◌, List, [], None, Some, Ok, true, refl, sym, ap, ◌∙◌, subst}
use Rattle.arrow_spec.specs.Files.{TableBatch}
use Rattle.arrow_spec.specs.Kinds.{have_same_kinds}
use Rattle.arrow_spec.specs.Streams.{closed, end_mark, stream_table, unended}
use Rattle.arrow_types.specs.Schemas.{fields_in}
use Rattle.arrow_arrays.specs.Batches.{Batch}
use Rattle.arrow_arrays.specs.Parts.{forest}
use Rattle.ipc_fields.specs.IpcFields.{ids_of, metadata_of}
use Rattle.ipc_stream_writer.specs.Below.{begun, columns_fault, columns_of, Sending, options_of, MayBeSent, chunk_text, StreamPairs, chunk_of, cells_of}
use Rattle.ipc_write_laws.specs.Messages.{ended_stream, stream_so_far}
use Rattle.ipc_write_laws.proofs.Messages.{messages_front_means, messages_stream_means}
use Rattle.ipc_stream_writer.proofs.Below.{chunk_is_put}
use Rattle.ipc_stream_writer.specs.Calls.{found_before}
use Rattle.ipc_stream_writer.specs.Written.{IsWritten, stream_fields, table_with}
use Rattle.ipc_stream_writer.specs.declared.stream.StreamCore.{StreamCore}
use Rattle.ipc_stream_writer.proofs.Meaning.{found_so, joined}

-- bytes that go on, and mean a table
pub record GoesOn (pairs : StreamPairs) (w : StreamCore) (x : List ℕ) (bs : List TableBatch) : Type 0 where
  pub going : unended x
  pub means : stream_table x None ≡ Some (table_with pairs w bs)

-- with a batch more
pub with_batch : (pairs : StreamPairs) (w : StreamCore) (b : Batch) (t : Sending) (x : List ℕ) (bs : List TableBatch) → found_before w b ≡ Ok t → MayBeSent w.options t.sent b → have_same_kinds (fields_in w.schema) (columns_of (forest b.arrays)) ≡ true
    → IsWritten pairs w x bs → GoesOn pairs w (x ++ chunk_text t.sent b) (bs ++ cells_of b ∷ [])
with_batch pairs w b t x bs is may types written =
    let fs = fields_in w.schema in
    let below = ids_of w.fields.items in
    let own = metadata_of pairs.schema in
    let custom = metadata_of pairs.message in
    let gs = stream_fields w in
    let found = found_so (columns_fault (columns_of (forest b.arrays)) below) _ t is in
    let put = chunk_is_put w.options (options_of w.tracker) fs below b (begun w.tracker) t t.sent own custom bs written.messages found refl may types written.put in
    let ms = written.messages ++ chunk_of gs t.sent b in
    let e : x ++ chunk_text t.sent b ≡ stream_so_far gs own custom ms = joined gs pairs x (chunk_text t.sent b) written.messages (chunk_of gs t.sent b) written.bytes put.1 in
    let front = messages_front_means gs own custom ms put.0.may in
    record { going = subst unended (sym e) front.0; means = ap (λ z. stream_table z None) e ∙ front.1 ∙ ap (λ ys. Some (table_with pairs w ys)) put.0.batches }

-- with its end mark it is closed
pub with_end : (pairs : StreamPairs) (w : StreamCore) (x : List ℕ) (bs : List TableBatch) → IsWritten pairs w x bs → closed (x ++ end_mark) × (stream_table (x ++ end_mark) None ≡ Some (table_with pairs w bs))
with_end pairs w x bs written =
    let own = metadata_of pairs.schema in
    let custom = metadata_of pairs.message in
    let end = messages_stream_means (stream_fields w) own custom written.messages written.put.may in
    let e : x ++ end_mark ≡ ended_stream (stream_fields w) own custom written.messages = ap (λ z. z ++ end_mark) written.bytes in
    (subst closed (sym e) end.0, ap (λ z. stream_table z None) e ∙ end.1 ∙ ap (λ ys. Some (table_with pairs w ys)) written.put.batches)
