-- A stream that is refused for too many dictionaries is no record.
use Rattle.std.proofs.Common.{◌≡◌, ℕ, ◌<◌, ◌≤◌, List, [], ◌∷◌, length, drop, nat_eq, nat_le, None, Some, Ok, Err, refl, sym, ◌∙◌, ap, subst, arith}
use Rattle.arrow_spec.specs.declared.error.IpcError.{IpcError}
use Rattle.arrow_spec.specs.declared.error.IpcError.TheVariants.{TooMany}
use Rattle.arrow_spec.specs.declared.error.Counted.TheVariants as counted
use Rattle.arrow_spec.specs.Arrays.{Dictionaries}
use Rattle.arrow_spec.specs.Files.{TableBatch, columns_right}
use Rattle.arrow_spec.specs.Kinds.{width}
use Rattle.arrow_spec.specs.Messages.{Message, message_of}
use Rattle.arrow_spec.specs.Readings.{Reading, Refuses, refusals}
use Rattle.arrow_spec.specs.Streams.{Framed, Reader, next_message, stream_batches, stream_reading, stream_table}
use Rattle.arrow_spec.proofs.Projection.{some_meaning}
use Rattle.arrow_spec.proofs.ReadPairs.{same_read, through}
use Rattle.ipc_append.specs.Wholes.{HasTooMany, StopsBehind, reader_of, stops_here, stops_later}
use Rattle.ipc_append.specs.Below.{Start, start_in, Next, most_dictionaries, next_in}
use Rattle.ipc_append.proofs.Below.{begins_so}
use Rattle.laws_logs.specs.Tables.{dictionaries_from}
use Rattle.ipc_log_records.specs.Decoded.{IsNoRecord}
use Rattle.ipc_log_records.proofs.Counted.{head_taken}
use Rattle.ipc_log_records.proofs.Schemas.{first_is}
use Rattle.ipc_log_records.proofs.Stepped.{counted_behind}
use Rattle.ipc_log_records.proofs.TooMany.{no_more, read_behind, too_many}

refused_next : (e : IpcError) (s : Reader) (d : Dictionaries) (b : List ℕ) (x : Next) → e ≡ TooMany counted.Dictionaries → Refuses e (refusals (next_in most_dictionaries s d b)) → next_in most_dictionaries s d b ≡ Ok x → ⊥
refused_next e s d b x is h k = subst (λ (r : Reading Next). Refuses (TooMany counted.Dictionaries) (refusals r)) k (subst (λ (f : IpcError). Refuses f (refusals (next_in most_dictionaries s d b))) is h)

stops_many : (s : Reader) (e : IpcError) (d : Dictionaries) (b : List ℕ) (xs : List TableBatch) → StopsBehind s e d b xs → e ≡ TooMany counted.Dictionaries → (ys : List TableBatch) (most n : ℕ) → stream_batches (length b) s d b ≡ Ok ys → length b ≤ most
    → dictionaries_from most b ≡ Ok n → 1048576 < n
stops_many s e d b [] (stops_here h) is ys most n read few counts = by (next_in most_dictionaries s d b) refl
  where
    by : (r : Reading Next) → next_in most_dictionaries s d b ≡ r → 1048576 < n
    by (Ok x) k = absurd (refused_next e s d b x is h k)
    by (Err es) k = too_many most_dictionaries s d b es ys most n k read few counts
stops_many s e d b (x ∷ xs) (stops_later {d' = d'} {rest = rest} h more) is ys most n read few counts =
    let behind = read_behind most_dictionaries s d d' b rest x ys most n h read few counts in
    let less = stops_many s e d' rest xs more is behind.others behind.left behind.behind behind.read behind.enough behind.counted in
    omega (arith, less, behind.fewer)

-- where a stream begins
record Begins (b : List ℕ) (rest : List ℕ) : Type 0 where
  frame : Framed
  message : Message
  next : next_message b ≡ Ok (Some frame)
  taken : message_of frame.metadata (λ tag. nat_le tag 3) ≡ Ok message
  behind : rest ≡ drop message.body frame.behind

begins : (b : List ℕ) (start : Start) (rest : List ℕ) → start_in b ≡ Ok (start, rest) → Begins b rest
unfolding start_in
begins b start rest h =
    through _ _ (start, rest) h λ f f_is h1. through _ _ (start, rest) h1 λ first first_found h2. through _ _ (start, rest) h2 λ version _ h3. through _ _ (start, rest) h3 λ body _ h4.
    let left : drop first.0.body f.behind ≡ rest = ap (λ (p : Start × List ℕ). p.1) (same_read _ (start, rest) h4) in
    record { frame = f; message = first.0; next = first_is b f f_is; taken = head_taken f.metadata first first_found; behind = sym left }

pub too_many_none : (e : IpcError) (b : List ℕ) → HasTooMany e b → IsNoRecord b
unfolding stream_table
too_many_none e b h fields xs r =
    let reading = sym (begins_so b None h.start h.rest h.begun) ∙ some_meaning (stream_reading b None) r.table r.means in
    through (columns_right None (width h.start.schema.fields)) _ r.table reading λ right _ h1. through (stream_batches (length h.rest) (reader_of h.start.schema) [] h.rest) _ r.table h1 λ ys read _.
    let g = begins b h.start h.rest h.begun in
    let c = counted_behind b h.rest g.frame g.message (length b) r.count g.next g.taken g.behind (omega arith) r.counted in
    let less = stops_many (reader_of h.start.schema) e [] h.rest h.batches h.stops h.is ys c.left c.behind read c.enough c.counted in
    omega (arith, less, no_more r.count c.behind (nat_eq g.message.tag 2) c.is, r.few)
