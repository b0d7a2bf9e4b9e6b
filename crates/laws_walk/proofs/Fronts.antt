-- Fronts of the stream of a file, and what a put that failed leaves of one.
use Rattle.std.proofs.Common.{◌≡◌, ◌∙◌, sym, refl, ap, subst, arith, ℕ, ◌≤◌, List, ◌++◌, Option, Some}
use Rattle.std.specs.Io.KnownBytes.{Appends, Keeps}
use Rattle.std.proofs.KnownBytes.{Appends-kept, Appends-trans}
use Rattle.arrow_spec.specs.declared.error.IpcError.{IpcError}
use Rattle.arrow_spec.specs.declared.error.IpcError.TheVariants as errors
use Rattle.arrow_spec.specs.Files.{TableBatch, to_read, to_send}
use Rattle.arrow_spec.specs.Kinds.{bare}
use Rattle.arrow_spec.specs.Readings.{Refuses}
use Rattle.arrow_types.specs.Schemas.{Keyed, fields_in}
use Rattle.ipc_bodies.specs.Encodings.{text_of}
use Rattle.ipc_bodies.specs.Puts.{Moved, PutsPart}
use Rattle.ipc_bodies.specs.declared.encoding.Encoding.{Encoding}
use Rattle.ipc_bodies.proofs.Encoded.{text_of-append}
use Rattle.ipc_fields.specs.IpcFields.{ids_of, metadata_of}
use Rattle.ipc_io.specs.Outside.{AppendsPrefix}
use Rattle.ipc_io.proofs.Known.{AppendsPrefix-after}
use Rattle.ipc_reader.specs.Below.{file_custom}
use Rattle.ipc_stream_writer.specs.Below.{StreamPairs, said_fields}
use Rattle.ipc_stream_writer.specs.Written.{stream_fields, table_with}
use Rattle.ipc_stream_writer.specs.declared.stream.StreamCore.{StreamCore}
use Rattle.laws_sent.specs.SentFields.{AreSentFields}
use Rattle.laws_walk.specs.Places.{Place, Walking, fields_walked, meta_walked, table_sent}
use Rattle.laws_walk.specs.Sends.{IsFront, IsOfPut, IsOfSink, IsWriter, LeavesPart, Refused, SentSoFar}
use Rattle.laws_walk.specs.Walks.{IsOpenFor}
use Rattle.laws_walk.proofs.Places.{AreRefused, first_mean, open_to_read}

-- ── tables ──

-- a writer's pairs and fields are the file's
pub record SaysFile (x : Walking) (pairs : StreamPairs) (w : StreamCore) : Type 0 where
  pub own : metadata_of pairs.schema ≡ (meta_walked x).schema.metadata
  pub custom : metadata_of pairs.message ≡ file_custom x.file
  pub fields : bare (stream_fields w) ≡ bare (fields_walked x)

-- so its table is the file's
pub same_table : (x : Walking) (pairs : StreamPairs) (w : StreamCore) (bs : List TableBatch) → SaysFile x pairs w → table_with pairs w bs ≡ table_sent x bs
same_table x pairs w bs says = rw (says.own, says.custom, says.fields) refl

pub says : (x : Walking) (s : List Keyed) (p : Place) (w : StreamCore) (now : Option (List ℕ)) (bytes : List ℕ) (bs : List TableBatch) → IsWriter s x.encoding w → AreSentFields x.file x.walk.columns s (ids_of w.fields.items) → (so_far : SentSoFar x p w now bytes bs) → SaysFile x so_far.pairs w
says x s p w now bytes bs writer f so_far = record { own = so_far.own; custom = so_far.custom; fields = ap (λ t. bare (said_fields (fields_in t) (ids_of w.fields.items))) writer.schema ∙ f.fields }

-- ── fronts ──

-- the bytes that were put are one
pub front_there : (x : Walking) (s : List Keyed) (p : Place) (w : StreamCore) (now : Option (List ℕ)) (bytes : List ℕ) (bs : List TableBatch) → IsOpenFor to_send x.bytes x.walk (meta_walked x) (file_custom x.file) → IsWriter s x.encoding w
    → AreSentFields x.file x.walk.columns s (ids_of w.fields.items) → SentSoFar x p w now bytes bs → IsFront x p.block bytes bs
front_there x s p w now bytes bs open_for writer f so_far = record {
  within = so_far.walked.within;
  not_ended = so_far.written.not_ended;
  stream = so_far.written.means ∙ ap Some (same_table x so_far.pairs w bs (says x s p w now bytes bs writer f so_far));
  file = first_mean to_read x (open_to_read x.bytes x.walk (meta_walked x) (file_custom x.file) open_for) p bs so_far.walked.read so_far.walked.none so_far.walked.kept so_far.walked.within;
}

-- ── pieces ──

-- a piece that was put
pub Appends-text : (encoding : Encoding) (old mid new : Option (List ℕ)) (xs ys : List ℕ) → Appends old mid (text_of encoding xs) → Appends mid new (text_of encoding ys) → Appends old new (text_of encoding (xs ++ ys))
Appends-text encoding old mid new xs ys p q = subst (Appends old new) (sym (text_of-append encoding xs ys)) (Appends-trans old mid new (text_of encoding xs) (text_of encoding ys) p q)

-- a piece of which a part was put: the sink failed, or wanted memory
pub of_put : (e : IpcError) (m : Moved) (bs : List ℕ) → PutsPart m e bs → IsOfPut e m.wants m.wants_now
of_put errors.WriteFault m bs p = tt
of_put errors.Memory m bs p = p.2
of_put e m bs p = absurd p

pub part_of_put : (e : IpcError) (m : Moved) (bs : List ℕ) → PutsPart m e bs → AppendsPrefix m.old m.new bs
part_of_put errors.WriteFault m bs p = p.0
part_of_put errors.Memory m bs p = p.0
part_of_put e m bs p = absurd p

-- behind what stands there
pub part_behind : (encoding : Encoding) (before : Option (List ℕ)) (e : IpcError) (m : Moved) (bytes more : List ℕ) → Appends before m.old (text_of encoding bytes) → PutsPart m e (text_of encoding more) → AppendsPrefix before m.new (text_of encoding (bytes ++ more))
part_behind encoding before e m bytes more added put =
    subst (AppendsPrefix before m.new) (sym (text_of-append encoding bytes more)) (AppendsPrefix-after before m.old m.new (text_of encoding bytes) (text_of encoding more) added (part_of_put e m (text_of encoding more) put))

-- a sink's answers say nothing of the file
pub put_refuses : (e : IpcError) (m : Moved) (bs : List ℕ) (es : List IpcError) → PutsPart m e bs → Refuses e es
put_refuses errors.WriteFault m bs es p = tt
put_refuses errors.Memory m bs es p = tt
put_refuses e m bs es p = absurd p

-- ── refusals before a put ──

-- nothing was put behind a front, which stops at what is refused
pub front_stands : (e : IpcError) (x : Walking) (n : ℕ) (bytes : List ℕ) (bs : List TableBatch) (mid new : Option (List ℕ)) (wants wants' : ℕ) → (open_for : IsOpenFor to_send x.bytes x.walk (meta_walked x) (file_custom x.file)) → (IsOfSink e → ⊥) → IsFront x n bytes bs → Appends x.start mid (text_of x.encoding bytes)
    → Keeps mid new → AreRefused to_send x open_for e n → Refused e x new wants wants'
front_stands e x n bytes bs mid new wants wants' open_for never front added kept both =
    record { refused = both.0; part = LeavesPart.behind {n = n} {bytes = bytes} {bs = bs} never front (Appends-kept x.start mid new (text_of x.encoding bytes) added kept) both.1 }

-- want of memory comes anywhere
pub memory_stands : (x : Walking) (n : ℕ) (bytes : List ℕ) (bs : List TableBatch) (mid new : Option (List ℕ)) (wants wants' : ℕ) → (open_for : IsOpenFor to_send x.bytes x.walk (meta_walked x) (file_custom x.file)) → IsFront x n bytes bs → Appends x.start mid (text_of x.encoding bytes) → Keeps mid new
    → Refused errors.Memory x new wants wants'
memory_stands x n bytes bs mid new wants wants' open_for front added kept = front_stands errors.Memory x n bytes bs mid new wants wants' open_for (λ z. z) front added kept (tt, tt)

-- ── counts ──

-- a put that failed, seen from further before
pub put_before : (e : IpcError) (wants mid wants' : ℕ) → wants ≤ mid → IsOfPut e mid wants' → IsOfPut e wants wants'
put_before errors.WriteFault wants mid wants' less h = tt
put_before errors.Memory wants mid wants' less h = omega (arith, less, h)
put_before e wants mid wants' less h = absurd h

in_part : (e : IpcError) (x : Walking) (new : Option (List ℕ)) (wants mid wants' : ℕ) → wants ≤ mid → LeavesPart e x new mid wants' → LeavesPart e x new wants wants'
in_part e x new wants mid wants' less (LeavesPart.before never kept) = LeavesPart.before never kept
in_part e x new wants mid wants' less (LeavesPart.behind {n = n} {bytes = bytes} {bs = bs} never front added stops) = LeavesPart.behind {n = n} {bytes = bytes} {bs = bs} never front added stops
in_part e x new wants mid wants' less (LeavesPart.in_front {n = n} {bytes = bytes} {bs = bs} put front part) = LeavesPart.in_front {n = n} {bytes = bytes} {bs = bs} (put_before e wants mid wants' less put) front part
in_part e x new wants mid wants' less (LeavesPart.in_whole {bytes = bytes} {bs = bs} put whole part) = LeavesPart.in_whole {bytes = bytes} {bs = bs} (put_before e wants mid wants' less put) whole part

-- a refusal, seen from further before
pub refused_before : (e : IpcError) (x : Walking) (new : Option (List ℕ)) (wants mid wants' : ℕ) → wants ≤ mid → Refused e x new mid wants' → Refused e x new wants wants'
refused_before e x new wants mid wants' less r = record { refused = r.refused; part = in_part e x new wants mid wants' less r.part }
