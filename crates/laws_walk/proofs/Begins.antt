-- A stream of a file's columns that is begun, or not.
use Rattle.std.proofs.Common.{◌≡◌, ◌∙◌, inl, inr, ◌⊎◌, sym, refl, ap, subst, arith, ℕ, ◌^◌, ◌≤◌, List, [], ◌∷◌, length, true, false, Option, Some, None, Ok, Err}
use Rattle.std.specs.Prelude.{nat_le}
use Rattle.std.specs.Io.KnownBytes.{Appends, Keeps}
use Rattle.std.specs.Rc.{rc_value}
use Rattle.std.proofs.lemmas.Bool.{and_parts, leb-true}
use Rattle.std.proofs.lemmas.List.{length-append}
use Rattle.arrow_spec.specs.declared.error.IpcError.{IpcError}
use Rattle.arrow_spec.specs.declared.error.IpcError.TheVariants as errors
use Rattle.arrow_spec.specs.Features.{chosen_floats}
use Rattle.arrow_spec.specs.Files.{Purpose, Request, columns_right, if_sent, to_read, to_send}
use Rattle.arrow_spec.specs.Framing.{message_bytes}
use Rattle.arrow_spec.specs.Kinds.{width}
use Rattle.arrow_spec.specs.Layout.{size, up_to}
use Rattle.arrow_spec.specs.Readings.{IsAmong, Refuses, refusals}
use Rattle.arrow_spec.specs.Sent.{SentMessage, may_be_sent}
use Rattle.arrow_spec.specs.Streams.{stream_table, unended}
use Rattle.arrow_spec.specs.WrittenSchemas.{CustomMayBeWritten}
use Rattle.arrow_spec.proofs.Projection.{on}
use Rattle.arrow_types.specs.Schemas.{Keyed, fields_in}
use Rattle.ipc_fields.specs.IpcFields.{Ids, fields_with, ids_of, metadata_of}
use Rattle.ipc_bodies.specs.Encodings.{text_of}
use Rattle.ipc_bodies.specs.Puts.{Moved, PutsPart}
use Rattle.ipc_bodies.specs.declared.encoding.Encoding.{Encoding}
use Rattle.ipc_bodies.proofs.Encoded.{text_of-append}
use Rattle.ipc_io.specs.Outside.{AppendsPrefix}
use Rattle.ipc_reader.specs.Below.{FileMetadata, FileSays, WasRead, file_custom}
use Rattle.ipc_reader.specs.declared.kept.KeptDictionaries.TheVariants.{NotRead}
use Rattle.ipc_stream_writer.specs.Below.{SchemaIsSaid, held_by, is_new, said_fields, stream_text}
use Rattle.ipc_stream_writer.specs.Calls.{HasBegun, LeavesAll, StartCause, StartFailed}
use Rattle.ipc_stream_writer.specs.declared.stream.StreamCore.{StreamCore}
use Rattle.ipc_stream_writer.proofs.Below.{length-message, schema_is_put}
use Rattle.ipc_write_laws.proofs.Messages.{messages_front_means}
use Rattle.laws_sent.specs.Below.{IsNumbered}
use Rattle.laws_sent.specs.SchemaLaws.{AreStarted, file_message}
use Rattle.laws_sent.specs.SentFields.{AreReadable, AreSentFields}
use Rattle.laws_sent.proofs.SentFields.{are_sent_fields}
use Rattle.laws_sent.proofs.Starts.{begun_sent, why_refused}
use Rattle.laws_transcode.specs.Files.{AreAsked}
use Rattle.laws_transcode.proofs.Readings.{on_err}
use Rattle.laws_walk.specs.Places.{GivesUpTo, KeptSoFar, Place, Walked, Walking, asked_walked, meta_walked}
use Rattle.laws_walk.specs.Sends.{IsFront, IsNewWriter, IsOfSink, LeavesPart, Refused, SentRows, SentSoFar}
use Rattle.laws_walk.specs.Walks.{IsOpenFor, walk_reading}
use Rattle.laws_walk.proofs.Fronts.{of_put, part_of_put, put_refuses}
use Rattle.laws_walk.proofs.Places.{first_mean, open_to_read, open_to_send}
use Rattle.laws_walk.proofs.StartCauses.{schema_refused_as, started_by}
use Rattle.laws_walk.proofs.Walks.{none_walked}

-- the text of no bytes
none_of : {A : Type 0} (xs : List A) → length xs ≡ 0 → xs ≡ []
none_of [] h = refl
none_of (x ∷ xs) h = absurd (omega (arith, h))

nothing_text : (encoding : Encoding) → text_of encoding [] ≡ []
nothing_text encoding = none_of (text_of encoding []) (omega (arith, ap length (text_of-append encoding [] []), length-append (text_of encoding []) (text_of encoding [])))

-- the message of a schema is short
short_message : (m : SentMessage) → may_be_sent m ≡ true → length (message_bytes m.node []) ≤ 2 ^ 32
unfolding may_be_sent
short_message m h =
    let node = and_parts (nat_le (up_to 8 (size m.node)) 2147483647) (nat_le m.body 9223372036854775807) h in
    let small = leb-true (up_to 8 (size m.node)) 2147483647 node.0 in
    omega (arith, small, length-message m.node [])

-- a refusal that is told by name is one of a reading's
pub among_refuses : (e : IpcError) (es : List IpcError) → IsAmong es e → Refuses e es
among_refuses errors.ReadFault es m = tt
among_refuses errors.WriteFault es m = tt
among_refuses errors.Memory es m = tt
among_refuses e es m = m

-- nothing was walked yet
pub none_so_far : (purpose : Purpose) (x : Walking) (p : Place) → p.block ≡ 0 → p.dictionaries ≡ NotRead → p.left ≡ x.walk.limit → Walked purpose x p []
none_so_far purpose x p none not_read left = record {
  kept = KeptSoFar.none_yet none not_read;
  read = gives to_read;
  done = gives purpose;
  none = λ e. refl;
  within = omega (arith, none);
  left = left;
}
  where
    gives : (other : Purpose) → GivesUpTo other x p.block []
    gives other = λ d has. rw none (none_walked other x.bytes x.walk (asked_walked x d) true x.walk.limit)

-- a new writer of a file's
pub new_of : (x : Walking) (file : FileMetadata) (encoded : Encoding) (w : StreamCore) → file ≡ x.file → x.encoding ≡ encoded → IsNewWriter file encoded w → IsNewWriter x.file x.encoding w
new_of x file encoded w same encoding new = subst (λ e. IsNewWriter x.file e w) (sym encoding) (subst (λ f. IsNewWriter f encoded w) same new)

-- What a beginning stands on: the columns are some of the file's, in whose kinds the walk finds what the schema's writer does.
pub record IsUnbegun (x : Walking) (s : List Keyed) (p : Place) : Type 0 where
  pub says : FileSays x.bytes (meta_walked x) (file_custom x.file)
  pub read : WasRead x.file
  pub right : columns_right x.walk.columns (width (meta_walked x).schema.fields) ≡ Ok tt
  pub shown : AreAsked (rc_value x.file.schema) x.walk.columns s
  pub opens : AreReadable (meta_walked x) x.walk.columns → x.walk.right (meta_walked x).schema.fields ≡ Ok tt
  pub floats : (e : IpcError) → IsAmong (chosen_floats x.walk.columns (meta_walked x).schema.fields 0) e → Refuses e (refusals (walk_reading to_send x.bytes x.walk None))
  pub block : p.block ≡ 0
  pub dictionaries : p.dictionaries ≡ NotRead
  pub left : p.left ≡ x.walk.limit

-- a stream was begun, of a file that may be sent
pub record HasStarted (x : Walking) (p : Place) (w : StreamCore) (now : Option (List ℕ)) : Type 0 where
  pub readable : AreReadable (meta_walked x) x.walk.columns
  pub may : may_be_sent (file_message x.file x.walk.columns) ≡ true
  pub opened : IsOpenFor to_send x.bytes x.walk (meta_walked x) (file_custom x.file)
  pub sent : SentRows x p w now 0 0

module _ (x : Walking) (s : List Keyed) (p : Place) (w w' : StreamCore) (m : Moved) (is : IsUnbegun x s p) (new : IsNewWriter x.file x.encoding w) (old : m.old ≡ x.start) where
  started : (own : Ids) → IsNumbered (fields_in s) own → AreStarted w.options x.file x.walk.columns s own w.pairs
  started own numbered = started_by x.file x.walk.columns s x.encoding w own new is.read is.right is.shown numbered

  open_read : AreReadable (meta_walked x) x.walk.columns → IsOpenFor to_read x.bytes x.walk (meta_walked x) (file_custom x.file)
  open_read readable = record { read = is.says.read; pairs = is.says.pairs; right = is.opens readable; small = refl }

  -- the text is one of a file that may be sent
  module _ (own : Ids) (numbered : IsNumbered (fields_in s) own) (bytes : List ℕ) (text : stream_text w.options (fields_in s) own w.pairs ≡ Ok bytes) where
    abbrev alone : Request
    alone = record { columns = x.walk.columns; limit = None }

    file : AreReadable (meta_walked x) x.walk.columns × (may_be_sent (file_message x.file x.walk.columns) ≡ true) × (bytes ≡ message_bytes (file_message x.file x.walk.columns).node [])
    unfolding started
    file = let sent = begun_sent x.bytes alone w.options x.file s own w.pairs bytes is.says (started own numbered) text in (sent.0.readable, sent.0.small, sent.1)

    opened : IsOpenFor to_send x.bytes x.walk (meta_walked x) (file_custom x.file)
    unfolding file open_read
    opened = open_to_send x.bytes x.walk (meta_walked x) (file_custom x.file) (open_read file.0) file.1

    fields : AreSentFields x.file x.walk.columns s own
    unfolding file
    fields = are_sent_fields x.file x.walk.columns s own is.read is.right file.0 is.shown numbered

    said : SchemaIsSaid (fields_with (fields_in s) own) (metadata_of w.pairs.schema)
    unfolding fields
    said = subst (SchemaIsSaid (fields_with (fields_in s) own)) (sym new.own) fields.said

    short : length bytes ≤ 2 ^ 32
    unfolding file
    short = subst (λ y. length y ≤ 2 ^ 32) (sym file.2) (short_message (file_message x.file x.walk.columns) file.1)

    -- with it a front would stand there
    next : IsFront x p.block bytes []
    unfolding fields said opened
    next =
        let put = schema_is_put w.options (fields_in s) own w.pairs (held_by w.tracker) bytes text said (subst CustomMayBeWritten (sym new.custom) is.read.custom) new.held in
        let gs = said_fields (fields_in s) own in
        let front = messages_front_means gs (metadata_of w.pairs.schema) (metadata_of w.pairs.message) [] put.0.may in
        let none = none_so_far to_send x p is.block is.dictionaries is.left in
        record {
          within = none.within;
          not_ended = subst unended (sym put.1) front.0;
          stream = ap (λ z. stream_table z None) put.1 ∙ front.1 ∙ ap Some (rw (new.own, new.custom, fields.fields) refl);
          file = first_mean to_read x (open_to_read x.bytes x.walk (meta_walked x) (file_custom x.file) opened) p [] none.read none.none none.kept none.within;
        }

  -- it was put
  pub begun : HasBegun (text_of w.encoding) m w w' s None → HasStarted x p w' m.new
  unfolding file said short opened none_so_far
  begun h =
      let own = ids_of w'.fields.items in
      let put : Appends x.start m.new (text_of x.encoding h.bytes) = subst (λ e. Appends x.start m.new (text_of e h.bytes)) new.encoding (subst (λ o. Appends o m.new (text_of w.encoding h.bytes)) old h.appended) in
      let few : length h.bytes ≤ 2 ^ 32 = short own h.ids h.bytes h.text in
      let none : SentSoFar x p w' m.new h.bytes [] = record {
        pairs = w.pairs;
        own = new.own;
        custom = new.custom;
        written = h.said (said own h.ids h.bytes h.text);
        added = put;
        walked = none_so_far to_send x p is.block is.dictionaries is.left;
        knows = λ id. ap (λ t. held_by t id) h.tracker ∙ new.held id;
        first = λ e. few;
        few = omega (arith, few);
      } in
      record { readable = (file own h.ids h.bytes h.text).0; may = (file own h.ids h.bytes h.text).1; opened = opened own h.ids h.bytes h.text; sent = record { bytes = h.bytes; sent = []; so_far = none; batches_are = refl; rows_are = refl } }

  -- the schema is refused
  schema_refused : (e : IpcError) (own : Ids) → IsNumbered (fields_in s) own → IsAmong (refusals (stream_text w.options (fields_in s) own w.pairs)) e → Keeps x.start m.new → Refused e x m.new m.wants m.wants_now
  unfolding started walk_reading
  schema_refused e own numbered among kept =
      let start = started own numbered in
      let never : IsOfSink e → ⊥ = schema_refused_as (λ z. IsOfSink z → ⊥) (λ z. z) (λ feature z. z) w.options x.file x.walk.columns s own w.pairs start e among in
      record { refused = by (why_refused w.options x.file x.walk.columns s own w.pairs start e (chosen_floats x.walk.columns (meta_walked x).schema.fields 0) refl among); part = LeavesPart.before never kept }
    where
      by : ((chosen_floats x.walk.columns (meta_walked x).schema.fields 0 ≡ []) × (may_be_sent (file_message x.file x.walk.columns) ≡ false) × (errors.TooLarge ≡ e)) ⊎ IsAmong (chosen_floats x.walk.columns (meta_walked x).schema.fields 0) e → Refuses e (refusals (walk_reading to_send x.bytes x.walk None))
      by (inr floats) = is.floats e floats
      by (inl large) =
          let all : walk_reading to_send x.bytes x.walk None ≡ Err (errors.TooLarge ∷ []) = on _ _ (meta_walked x) is.says.read ∙ on _ _ (file_custom x.file) is.says.pairs ∙ on _ _ tt (is.opens large.0) ∙ on_err _ _ (errors.TooLarge ∷ []) (ap (if_sent to_send) large.1) in
          subst (λ f. Refuses f (refusals (walk_reading to_send x.bytes x.walk None))) large.2 (subst (λ r. Refuses errors.TooLarge (refusals r)) (sym all) (inl refl))

  -- a part of it was put
  part_put : (e : IpcError) → StartFailed (text_of w.encoding) m e w w' s None → Refused e x m.new m.wants m.wants_now
  unfolding next
  part_put e f =
      let put : PutsPart m e (text_of x.encoding f.bytes) = subst (λ n. PutsPart m e (text_of n f.bytes)) new.encoding f.failed.put in
      record {
        refused = put_refuses e m (text_of x.encoding f.bytes) _ put;
        part = LeavesPart.in_front {n = p.block} {bytes = f.bytes} {bs = []} (of_put e m (text_of x.encoding f.bytes) put) (next f.below f.ids f.bytes f.text) (subst (λ o. AppendsPrefix o m.new (text_of x.encoding f.bytes)) old (part_of_put e m (text_of x.encoding f.bytes) put));
      }

  pub not_begun : (e : IpcError) → (StartCause e w s None × LeavesAll m w w') ⊎ StartFailed (text_of w.encoding) m e w w' s None → Refused e x m.new m.wants m.wants_now
  unfolding schema_refused part_put
  not_begun e (inr failed) = part_put e failed
  not_begun e (inl (cause, leaves)) = by cause
    where
      kept : Keeps x.start m.new
      kept = subst (λ o. Keeps o m.new) old leaves.untouched.bytes

      by : StartCause e w s None → Refused e x m.new m.wants m.wants_now
      by (inl never) = let clash : true ≡ false = sym (ap is_new new.state) ∙ never.1 in cc
      by (inr (_, inl memory)) = subst (λ f. Refused f x m.new m.wants m.wants_now) (sym memory) (record { refused = tt; part = LeavesPart.before (λ z. z) kept })
      by (inr (_, inr none)) = schema_refused e none.below none.ids none.refused kept
