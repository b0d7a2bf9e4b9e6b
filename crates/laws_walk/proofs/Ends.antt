-- A stream whose batches were all sent, and its end mark.
use Rattle.std.proofs.Common.{◌≡◌, ◌∙◌, inl, inr, sym, ap, subst, arith, ℕ, ◌+◌, ◌^◌, ◌<◌, ◌≤◌, List, ◌++◌, length, true, false, Option, Some, Err}
use Rattle.std.specs.Io.KnownBytes.{Appends, Keeps}
use Rattle.std.proofs.lemmas.List.{length-append}
use Rattle.arrow_spec.specs.declared.error.IpcError.{IpcError}
use Rattle.arrow_spec.specs.declared.error.IpcError.TheVariants as errors
use Rattle.arrow_spec.specs.Files.{TableBatch, to_read, to_send}
use Rattle.arrow_spec.specs.Streams.{end_mark}
use Rattle.arrow_types.specs.Schemas.{Keyed}
use Rattle.ipc_bodies.specs.Encodings.{text_of}
use Rattle.ipc_bodies.specs.Puts.{Moved, PutsPart}
use Rattle.ipc_fields.specs.IpcFields.{ids_of}
use Rattle.ipc_reader.specs.Below.{file_custom}
use Rattle.ipc_stream_writer.specs.Below.{counted, is_started}
use Rattle.ipc_stream_writer.specs.Calls.{HasFinished, Finishes}
use Rattle.ipc_stream_writer.specs.declared.stream.StreamCore.{StreamCore}
use Rattle.laws_sent.specs.SentFields.{AreSentFields}
use Rattle.laws_walk.specs.Places.{Place, Walking, meta_walked}
use Rattle.laws_walk.specs.Sends.{IsWhole, IsWriter, LeavesPart, Refused, SentSoFar}
use Rattle.laws_walk.specs.Walks.{IsOpenFor}
use Rattle.laws_walk.proofs.Fronts.{Appends-text, front_there, memory_stands, of_put, part_behind, put_refuses, same_table, says}
use Rattle.laws_walk.proofs.Nexts.{with_end}
use Rattle.laws_walk.proofs.Places.{open_to_read, whole_mean}

-- it was ended: so many bytes are the whole stream
pub record HasEnded (x : Walking) (w : StreamCore) (new : Option (List ℕ)) (bs : List TableBatch) : Type 0 where
  pub bytes : List ℕ
  pub whole : IsWhole x bytes bs
  pub added : Appends x.start new (text_of x.encoding bytes)
  pub count : w.byte_count ≡ length bytes

module _ (x : Walking) (s : List Keyed) (p : Place) (w : StreamCore) (now : Option (List ℕ)) (bytes : List ℕ) (bs : List TableBatch) (open_for : IsOpenFor to_send x.bytes x.walk (meta_walked x) (file_custom x.file)) (writer : IsWriter s x.encoding w) (f : AreSentFields x.file x.walk.columns s (ids_of w.fields.items))
    (so_far : SentSoFar x p w now bytes bs) where
  -- with the end mark it is the whole stream
  whole : length (meta_walked x).blocks ≤ p.block → IsWhole x (bytes ++ end_mark) bs
  whole done =
      let end = with_end so_far.pairs w bytes bs so_far.written in
      record {
        is_closed = end.0;
        stream = end.1 ∙ ap Some (same_table x so_far.pairs w bs (says x s p w now bytes bs writer f so_far));
        file = whole_mean to_read x (open_to_read x.bytes x.walk (meta_walked x) (file_custom x.file) open_for) p bs so_far.walked.read so_far.walked.none so_far.walked.kept done;
      }

  -- its length is counted
  counts : length (meta_walked x).blocks < 2 ^ 63 → (w' : StreamCore) → w'.byte_count ≡ counted (w.byte_count + 8) → w'.byte_count ≡ length (bytes ++ end_mark)
  counts few w' h =
      let n = length-append bytes end_mark in
      let within : p.block < 2 ^ 63 = omega (arith, so_far.walked.within, few) in
      let small : length bytes + 8 < 2 ^ 128 = omega (arith, so_far.few, within) in
      omega (arith, h, so_far.written.count, small, n)

  module _ (done : length (meta_walked x).blocks ≤ p.block) where
    pub ended : length (meta_walked x).blocks < 2 ^ 63 → (w' : StreamCore) (m : Moved) → m.old ≡ now → HasFinished (text_of w.encoding) m w w' → HasEnded x w' m.new bs
    unfolding whole counts
    ended few w' m old h =
        let put : Appends now m.new (text_of x.encoding end_mark) = subst (λ e. Appends now m.new (text_of e end_mark)) writer.encoding (subst (λ o. Appends o m.new (text_of w.encoding end_mark)) old h.appended) in
        record { bytes = bytes ++ end_mark; whole = whole done; added = Appends-text x.encoding x.start now m.new bytes end_mark so_far.added put; count = counts few w' h.count }

    -- its end mark is not put, or in part
    pub not_ended : (e : IpcError) (w' : StreamCore) (m : Moved) → m.old ≡ now → Finishes (text_of w.encoding) m (Err e) w w' → Refused e x m.new m.wants m.wants_now
    unfolding whole
    not_ended e w' m old (inl (inl never, leaves)) = let clash : true ≡ false = sym (ap is_started writer.state) ∙ never.1 in cc
    not_ended e w' m old (inl (inr memory, leaves)) =
        let kept : Keeps now m.new = subst (λ o. Keeps o m.new) old leaves.untouched.bytes in
        let wanted : Refused errors.Memory x m.new m.wants m.wants_now = memory_stands x p.block bytes bs now m.new m.wants m.wants_now open_for (front_there x s p w now bytes bs open_for writer f so_far) so_far.added kept in
        subst (λ f. Refused f x m.new m.wants m.wants_now) (sym memory.1) wanted
    not_ended e w' m old (inr failed) =
        let put : PutsPart m e (text_of x.encoding end_mark) = subst (λ n. PutsPart m e (text_of n end_mark)) writer.encoding failed.1.put in
        let added : Appends x.start m.old (text_of x.encoding bytes) = subst (λ o. Appends x.start o (text_of x.encoding bytes)) (sym old) so_far.added in
        record {
          refused = put_refuses e m (text_of x.encoding end_mark) _ put;
          part = LeavesPart.in_whole {bytes = bytes ++ end_mark} {bs = bs} (of_put e m (text_of x.encoding end_mark) put) (whole done) (part_behind x.encoding x.start e m bytes end_mark added put);
        }
