-- A batch that a file's block gives is written to the stream, or not.
use Rattle.std.proofs.Common.{◌≡◌, ◌∙◌, inl, inr, ◌⊎◌, sym, refl, ap, subst, arith, ℕ, ◌+◌, ◌*◌, ◌^◌, ◌<◌, ◌≤◌, List, [], ◌∷◌, ◌++◌, length, length-append, Bool, true, false, Option, Some, None, Ok, Err, slice_get}
use Rattle.std.specs.Prelude.{not, ◌&&◌}
use Rattle.std.specs.Io.KnownBytes.{Appends, Keeps}
use Rattle.arrow_spec.specs.declared.error.IpcError.{IpcError}
use Rattle.arrow_spec.specs.declared.error.IpcError.TheVariants as errors
use Rattle.arrow_spec.specs.declared.error.Feature.TheVariants as features
use Rattle.arrow_spec.specs.Files.{FileBlock, TableBatch, dictionaries_sent, if_sent, to_read, to_send, what_is_left}
use Rattle.arrow_spec.specs.Kinds.{have_same_kinds}
use Rattle.arrow_spec.specs.Readings.{Refuses, bind, is_absent, refusals}
use Rattle.arrow_spec.specs.Sent.{all_may_be_sent, dictionary_messages, may_be_sent}
use Rattle.arrow_types.specs.Schemas.{Keyed, fields_in}
use Rattle.arrow_arrays.specs.Batches.{Batch}
use Rattle.arrow_arrays.specs.Parts.{forest}
use Rattle.ipc_bodies.specs.Encodings.{text_of}
use Rattle.ipc_bodies.specs.Puts.{Moved, PutsPart}
use Rattle.ipc_fields.specs.IpcFields.{ids_of}
use Rattle.ipc_reader.specs.Below.{Plans, file_custom, is_within, table_of, written_batch_of}
use Rattle.ipc_reader.proofs.Below.{beyond_is_not_sent, same_message, within_is_sent}
use Rattle.ipc_stream_writer.specs.Below.{MayBeSent, RefusesChunk, Sending as Sent, Stops, all_fit, cells_of, chunk_text, columns_of, held_by, is_started}
use Rattle.ipc_stream_writer.specs.Calls.{HasWritten, LeavesAll, WriteCause, WriteFailed, found_before}
use Rattle.ipc_stream_writer.specs.declared.stream.StreamCore.{StreamCore}
use Rattle.ipc_write_laws.specs.Streams.{written_batch}
use Rattle.laws_sent.specs.DictionaryLaws.{ColumnsAreRight, FileDictionariesAreSent, SendsNoMore}
use Rattle.laws_sent.specs.SentFields.{AreSentFields}
use Rattle.laws_walk.specs.Places.{DictionariesRead, KeptSoFar, Place, Walked, Walking, asked_walked, fields_walked, meta_walked}
use Rattle.laws_walk.specs.Sends.{IsFront, IsOfSink, IsWriter, Knows, LeavesPart, Refused, SendsOne, SentSoFar, send_options}
use Rattle.laws_walk.specs.Walks.{IsOpenFor}
use Rattle.laws_walk.proofs.Columns.{IsBatch, faultless, suits}
use Rattle.laws_walk.proofs.Finds.{Finds, finds_first, finds_none}
use Rattle.laws_walk.proofs.Fronts.{Appends-text, front_stands, front_there, memory_stands, of_put, part_behind, put_refuses, same_table, says}
use Rattle.laws_walk.proofs.Nexts.{GoesOn, with_batch}
use Rattle.laws_walk.proofs.Places.{AreRefused, block_refuses, first_mean, open_to_read, values_refuse, walked_more}
use Rattle.laws_walk.proofs.Sizes.{later_length}
use Rattle.laws_walk.proofs.Walks.{is_first_behind}

-- ── the dictionaries before it ──

-- dictionaries that were held before are those that are held behind
abbrev pub IsBehind : (x : Walking) (p p' : Place) → KeptSoFar x p → DictionariesRead x p' → Type 0
IsBehind x p p' (KeptSoFar.none_yet none not_read) behind = Unit {0}
IsBehind x p p' (KeptSoFar.all_read r some) behind = (behind.dictionaries ≡ r.dictionaries) × (behind.parts ≡ r.parts)

-- so what is found to be sent of them is all before the first batch, and nothing behind it
pub finds_so : FileDictionariesAreSent → ColumnsAreRight → (x : Walking) (s : List Keyed) (p p' : Place) (w : StreamCore) (y : Batch) (bs : List TableBatch) (kept : KeptSoFar x p) (behind : DictionariesRead x p') (block : FileBlock) (left : Option ℕ) → IsWriter s x.encoding w
    → AreSentFields x.file x.walk.columns s (ids_of w.fields.items) → IsBatch x behind.dictionaries behind.parts (ids_of w.fields.items) block left y → IsBehind x p p' kept behind → Knows x p kept w bs
    → Finds (is_first_behind true bs) (fields_walked x) behind.dictionaries behind.parts w.tracker (forest y.arrays) (ids_of w.fields.items)
finds_so law right x s p p' w y [] kept behind block left writer f is same knows =
    finds_first law (fields_walked x) behind.dictionaries behind.parts w.tracker (forest y.arrays) (ids_of w.fields.items) writer.tracker (faultless right x behind.dictionaries behind.parts s (ids_of w.fields.items) y writer.plain f is.columns) is.columns knows
finds_so law right x s p p' w y (b ∷ bs) (KeptSoFar.none_yet none not_read) behind block left writer f is same knows = absurd knows
finds_so law right x s p p' w y (b ∷ bs) (KeptSoFar.all_read r some) behind block left writer f is same knows =
    let no_more : SendsNoMore (fields_walked x) behind.dictionaries behind.parts (ids_of w.fields.items) (held_by w.tracker) = rw (same.0, same.1) knows in
    finds_none (fields_walked x) behind.dictionaries behind.parts w.tracker (forest y.arrays) (ids_of w.fields.items) writer.tracker (faultless right x behind.dictionaries behind.parts s (ids_of w.fields.items) y writer.plain f is.columns) is.columns no_more

-- ── a step ──

-- A batch that is to be written: the block at a place gives it, behind those before it, by dictionaries that are held behind it.
pub record Step (x : Walking) (s : List Keyed) (p p' : Place) (w : StreamCore) (now : Option (List ℕ)) (y : Batch) (bytes : List ℕ) (bs : List TableBatch) : Type 0 where
  pub opened : IsOpenFor to_send x.bytes x.walk (meta_walked x) (file_custom x.file)
  pub writer : IsWriter s x.encoding w
  pub fields : AreSentFields x.file x.walk.columns s (ids_of w.fields.items)
  pub so_far : SentSoFar x p w now bytes bs
  pub behind : DictionariesRead x p'
  pub block : FileBlock
  pub at : slice_get (meta_walked x).blocks p.block ≡ Some block
  pub is : IsBatch x behind.dictionaries behind.parts (ids_of w.fields.items) block p.left y
  pub next : p'.block ≡ p.block + 1
  pub left : p'.left ≡ what_is_left p.left y.height
  pub finds : Finds (is_first_behind true bs) (fields_walked x) behind.dictionaries behind.parts w.tracker (forest y.arrays) (ids_of w.fields.items)

-- only where there is no batch before is it the first
first_of : (bs : List TableBatch) → is_first_behind true bs ≡ true → bs ≡ []
first_of [] h = refl
first_of (b ∷ bs) h = cc

-- ── the step is done ──

module _ (x : Walking) (s : List Keyed) (p p' : Place) (w : StreamCore) (now : Option (List ℕ)) (y : Batch) (bytes : List ℕ) (bs : List TableBatch) (st : Step x s p p' w now y bytes bs) where
  -- the batch is one of the stream's
  types : have_same_kinds (fields_in w.schema) (columns_of (forest y.arrays)) ≡ true
  types = ap (λ t. have_same_kinds (fields_in t) (columns_of (forest y.arrays))) st.writer.schema ∙ suits x st.behind.dictionaries st.behind.parts s (ids_of w.fields.items) y st.writer.plain st.fields st.is.columns

  -- a batch within the limits may be sent
  small : is_within w.options.metadata_limit y ≡ true → may_be_sent (written_batch (written_batch_of y)) ≡ true
  small h = ap may_be_sent (sym (same_message y)) ∙ within_is_sent y (subst (λ o. is_within o.metadata_limit y ≡ true) st.writer.options h)

  -- then it is given where it is to be sent
  given : may_be_sent (written_batch (written_batch_of y)) ≡ true → x.walk.batch to_send x.bytes (asked_walked x st.behind.dictionaries) st.block p.left ≡ Ok (Some (table_of y))
  unfolding bind
  given h = st.is.sent ∙ rw h refl

  not_given : may_be_sent (written_batch (written_batch_of y)) ≡ false → Refuses errors.TooLarge (refusals (x.walk.batch to_send x.bytes (asked_walked x st.behind.dictionaries) st.block p.left))
  unfolding bind
  not_given h = rw (st.is.sent, h) (inl refl)

  -- the dictionaries are sent with the first batch
  fits : (cs : List TableBatch) → (is_first_behind true cs ≡ true → all_may_be_sent (dictionary_messages st.behind.dictionaries (fields_walked x)) ≡ true) → dictionaries_sent (is_first_behind true cs && not (is_absent (Some (table_of y)))) to_send (asked_walked x st.behind.dictionaries) ≡ Ok tt
  fits [] h = ap (if_sent to_send) (h refl)
  fits (c ∷ cs) h = refl

  some_behind : 0 < p'.block
  some_behind = let e = st.next in omega (arith, e)

  -- one batch more was walked then
  walked_behind : (t : Sent) → found_before w y ≡ Ok t → MayBeSent w.options t.sent y → Walked to_send x p' (bs ++ table_of y ∷ [])
  unfolding small given fits some_behind
  walked_behind t is may =
      let same : st.finds.behind ≡ t = let e = sym st.finds.is ∙ is in cc in
      let all : all_fit send_options st.finds.behind.sent ≡ true = subst (λ (z : Sent). all_fit send_options z.sent ≡ true) (sym same) (subst (λ o. all_fit o t.sent ≡ true) st.writer.options may.fit) in
      walked_more to_send x p p' st.block st.at st.next st.behind.dictionaries st.behind.has bs (Some (table_of y)) st.so_far.walked (KeptSoFar.all_read st.behind some_behind) st.left st.is.read (given (small may.within)) (fits bs (st.finds.fits all))

  -- how long the messages are
  few_more : (t : Sent) → found_before w y ≡ Ok t → MayBeSent w.options t.sent y → length (chunk_text t.sent y) < 2 ^ 127 + 2 ^ 96 → length (bytes ++ chunk_text t.sent y) ≤ 2 ^ 127 + 2 ^ 98 + (p.block + 1) * (2 ^ 63 + 2 ^ 33)
  few_more t is may few = by (is_first_behind true bs) refl
    where
      same : st.finds.behind ≡ t
      same = let e = sym st.finds.is ∙ is in cc

      by : (f : Bool) → is_first_behind true bs ≡ f → length (bytes ++ chunk_text t.sent y) ≤ 2 ^ 127 + 2 ^ 98 + (p.block + 1) * (2 ^ 63 + 2 ^ 33)
      by true e = omega (arith, length-append bytes (chunk_text t.sent y), few, st.so_far.first (first_of bs e))
      by false e =
          let none : t.sent ≡ [] = ap (λ (z : Sent). z.sent) (sym same) ∙ st.finds.none e in
          let short = later_length t.sent y none (subst (λ o. is_within o.metadata_limit y ≡ true) st.writer.options may.within) in
          omega (arith, length-append bytes (chunk_text t.sent y), short, st.so_far.few)

  -- what the writer knows then
  no_more_behind : (w' : StreamCore) {m : Moved} → (h : HasWritten (text_of w.encoding) m w w' y None) → SendsNoMore (fields_walked x) st.behind.dictionaries st.behind.parts (ids_of w'.fields.items) (held_by w'.tracker)
  no_more_behind w' h =
      let same : st.finds.behind ≡ record { held = held_by w'.tracker; used = h.sends.used; sent = h.sends.sent } = let e = sym st.finds.is ∙ h.sends.is_found in cc in
      let held : st.finds.behind.held ≡ held_by w'.tracker = ap (λ (z : Sent). z.held) same in
      subst (λ v. SendsNoMore (fields_walked x) st.behind.dictionaries st.behind.parts (ids_of v.items) (held_by w'.tracker)) (sym h.sends.stays.fields) (subst (SendsNoMore (fields_walked x) st.behind.dictionaries st.behind.parts (ids_of w.fields.items)) held st.finds.no_more)

  knows_behind : (w' : StreamCore) (cs : List TableBatch) → SendsNoMore (fields_walked x) st.behind.dictionaries st.behind.parts (ids_of w'.fields.items) (held_by w'.tracker) → Knows x p' (KeptSoFar.all_read st.behind some_behind) w' (cs ++ table_of y ∷ [])
  unfolding some_behind
  knows_behind w' [] h = h
  knows_behind w' (c ∷ cs) h = h

  never_empty : (cs : List TableBatch) → cs ++ table_of y ∷ [] ≡ [] → ⊥
  never_empty [] h = cc
  never_empty (c ∷ cs) h = cc

  -- it was written
  pub written : (w' : StreamCore) (m : Moved) → m.old ≡ now → HasWritten (text_of w.encoding) m w w' y None → SendsOne x p' w' m.new bytes bs y.height
  unfolding walked_behind walked_more knows_behind some_behind
  written w' m old h =
      let t : Sent = record { held = held_by w'.tracker; used = h.sends.used; sent = h.sends.sent } in
      let more = chunk_text h.sends.sent y in
      let added : Appends now m.new (text_of x.encoding more) = subst (λ o. Appends o m.new (text_of x.encoding more)) old (subst (λ e. Appends m.old m.new (text_of e more)) st.writer.encoding h.sends.appended) in
      let few = few_more t h.sends.is_found h.sends.may h.sends.few in
      record {
        batch = table_of y;
        height = refl;
        more = more;
        so_far = record {
          pairs = st.so_far.pairs;
          own = st.so_far.own;
          custom = st.so_far.custom;
          written = h.written st.so_far.pairs bytes bs st.so_far.written;
          added = Appends-text x.encoding x.start now m.new bytes more st.so_far.added added;
          walked = walked_behind t h.sends.is_found h.sends.may;
          knows = knows_behind w' bs (no_more_behind w' h);
          first = λ none. absurd (never_empty bs none);
          few = subst (λ n. length (bytes ++ more) ≤ 2 ^ 127 + 2 ^ 98 + n * (2 ^ 63 + 2 ^ 33)) (sym st.next) few;
        };
      }

  -- ── the step is refused ──

  front : IsFront x p.block bytes bs
  front = front_there x s p w now bytes bs st.opened st.writer st.fields st.so_far

  none_put : (e : IpcError) (new : Option (List ℕ)) (wants wants' : ℕ) → (IsOfSink e → ⊥) → AreRefused to_send x st.opened e p.block → Keeps now new → Refused e x new wants wants'
  unfolding front
  none_put e new wants wants' never both kept = front_stands e x p.block bytes bs now new wants wants' st.opened never front st.so_far.added kept both

  memory_wanted : (new : Option (List ℕ)) (wants wants' : ℕ) → Keeps now new → Refused errors.Memory x new wants wants'
  unfolding front
  memory_wanted new wants wants' kept = memory_stands x p.block bytes bs now new wants wants' st.opened front st.so_far.added kept

  -- its own message is too large
  batch_too_large : (new : Option (List ℕ)) (wants wants' : ℕ) → may_be_sent (written_batch (written_batch_of y)) ≡ false → Keeps now new → Refused errors.TooLarge x new wants wants'
  unfolding none_put not_given
  batch_too_large new wants wants' large kept =
      none_put errors.TooLarge new wants wants' (λ z. z) (block_refuses to_send x st.opened p.block st.block st.at st.behind.dictionaries st.behind.has bs st.so_far.walked.done p.left st.so_far.walked.left errors.TooLarge (not_given large)) kept

  -- a message of its dictionaries is
  values_too_large : (new : Option (List ℕ)) (wants wants' : ℕ) → is_first_behind true bs ≡ true → all_may_be_sent (dictionary_messages st.behind.dictionaries (fields_walked x)) ≡ false → Keeps now new → Refused errors.TooLarge x new wants wants'
  unfolding none_put given
  values_too_large new wants wants' first large kept = by (may_be_sent (written_batch (written_batch_of y))) refl
    where
      refused : (cs : List TableBatch) → is_first_behind true cs ≡ true → dictionaries_sent (is_first_behind true cs && not (is_absent (Some (table_of y)))) to_send (asked_walked x st.behind.dictionaries) ≡ Err (errors.TooLarge ∷ [])
      refused [] h = ap (if_sent to_send) large
      refused (c ∷ cs) h = cc

      by : (b : Bool) → may_be_sent (written_batch (written_batch_of y)) ≡ b → Refused errors.TooLarge x new wants wants'
      by false e = batch_too_large new wants wants' e kept
      by true e =
          none_put errors.TooLarge new wants wants' (λ z. z)
          (values_refuse to_send x st.opened p.block st.block st.at st.behind.dictionaries st.behind.has bs st.so_far.walked.done p.left st.so_far.walked.left errors.TooLarge (Some (table_of y)) (errors.TooLarge ∷ []) (given e) (refused bs first) (inl refl)) kept

  -- the message of the batch is refused
  batch_refused : (e : IpcError) (new : Option (List ℕ)) (wants wants' : ℕ) → Plans (Err e) send_options y → Keeps now new → Refused e x new wants wants'
  batch_refused errors.Memory new wants wants' q kept = memory_wanted new wants wants' kept
  batch_refused errors.TooLarge new wants wants' q kept = batch_too_large new wants wants' (ap may_be_sent (sym (same_message y)) ∙ beyond_is_not_sent y st.is.few q.1) kept
  batch_refused (errors.Unsupported features.Compression) new wants wants' q kept = let never : false ≡ true = q in cc
  batch_refused e new wants wants' q kept = absurd q

  chunk_refused : (e : IpcError) (new : Option (List ℕ)) (wants wants' : ℕ) (t : Sent) → found_before w y ≡ Ok t → RefusesChunk e w.options t.sent y → Keeps now new → Refused e x new wants wants'
  chunk_refused e new wants wants' t is r kept =
      let same : t ≡ st.finds.behind = let e = sym is ∙ st.finds.is in cc in
      let here : RefusesChunk e send_options st.finds.behind.sent y = subst (λ (z : Sent). RefusesChunk e send_options z.sent y) same (subst (λ o. RefusesChunk e o t.sent y) st.writer.options r) in
      elim here [ inl values ↦ by (st.finds.refuses e values) | inr batch ↦ batch_refused e new wants wants' batch.1 kept ]
    where
      by : (e ≡ errors.Memory) ⊎ ((e ≡ errors.TooLarge) × (is_first_behind true bs ≡ true) × (all_may_be_sent (dictionary_messages st.behind.dictionaries (fields_walked x)) ≡ false)) → Refused e x new wants wants'
      by (inl memory) = subst (λ f. Refused f x new wants wants') (sym memory) (memory_wanted new wants wants' kept)
      by (inr large) = subst (λ f. Refused f x new wants wants') (sym large.0) (values_too_large new wants wants' large.1 large.2 kept)

  -- a put failed
  part_put : (e : IpcError) (m : Moved) → m.old ≡ now → (t : Sent) → found_before w y ≡ Ok t → MayBeSent w.options t.sent y → PutsPart m e (text_of x.encoding (chunk_text t.sent y)) → Refused e x m.new m.wants m.wants_now
  unfolding types walked_behind
  part_put e m old t is may put =
      let on : GoesOn st.so_far.pairs w (bytes ++ chunk_text t.sent y) (bs ++ cells_of y ∷ []) = with_batch st.so_far.pairs w y t bytes bs is may types st.so_far.written in
      let more = walked_behind t is may in
      let next : IsFront x p'.block (bytes ++ chunk_text t.sent y) (bs ++ table_of y ∷ []) = record {
        within = more.within;
        not_ended = on.going;
        stream = on.means ∙ ap Some (same_table x st.so_far.pairs w (bs ++ table_of y ∷ []) (says x s p w now bytes bs st.writer st.fields st.so_far));
        file = first_mean to_read x (open_to_read x.bytes x.walk (meta_walked x) (file_custom x.file) st.opened) p' (bs ++ table_of y ∷ []) more.read more.none more.kept more.within;
      } in
      let added : Appends x.start m.old (text_of x.encoding bytes) = subst (λ o. Appends x.start o (text_of x.encoding bytes)) (sym old) st.so_far.added in
      record {
        refused = put_refuses e m (text_of x.encoding (chunk_text t.sent y)) _ put;
        part = LeavesPart.in_front {n = p'.block} {bytes = bytes ++ chunk_text t.sent y} {bs = bs ++ table_of y ∷ []} (of_put e m (text_of x.encoding (chunk_text t.sent y)) put) next (part_behind x.encoding x.start e m bytes (chunk_text t.sent y) added put);
      }

  pub refused : (w' : StreamCore) (m : Moved) (e : IpcError) → m.old ≡ now → (WriteCause e w y None × LeavesAll m w w') ⊎ WriteFailed (text_of w.encoding) m e w w' y None → Refused e x m.new m.wants m.wants_now
  refused w' m e old (inr failed) =
      part_put e m old failed.sends.sending failed.sends.is_found failed.sends.may (subst (λ f. PutsPart m e (text_of f (chunk_text failed.sends.sending.sent y))) st.writer.encoding failed.sends.failed.put)
  refused w' m e old (inl cause) = by cause.0
    where
      kept : Keeps now m.new
      kept = subst (λ o. Keeps o m.new) old cause.1.untouched.bytes

      started : is_started w.state ≡ true
      started = ap is_started st.writer.state

      why : Stops e (found_before w y) (λ sent. RefusesChunk e w.options sent y) → Refused e x m.new m.wants m.wants_now
      why (inl memory) = subst (λ f. Refused f x m.new m.wants m.wants_now) (sym memory) (memory_wanted m.new m.wants m.wants_now kept)
      why (inr (inl never)) = let clash = sym never ∙ st.finds.is in cc
      why (inr (inr chunk)) = chunk_refused e m.new m.wants m.wants_now chunk.0 chunk.1 chunk.2 kept

      by : WriteCause e w y None → Refused e x m.new m.wants m.wants_now
      by (inl never) = let clash : false ≡ true = sym never.1 ∙ started in cc
      by (inr (_, inl never)) = absurd (never.1 (record { types = types; own = tt }))
      by (inr (_, inr why_not)) = why why_not.1
