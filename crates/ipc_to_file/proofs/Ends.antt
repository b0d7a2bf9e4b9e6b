-- A file of a stream that is ended, or not.
use Rattle.std.proofs.Common.{◌≡◌, inl, inr, ℕ, ◌+◌, List, ◌++◌, map, length, true, false, Option, Some, Ok, Err, Result, refl, sym, ap, subst, ◌∙◌, length-append}
use Rattle.std.specs.Rc.{rc_value}
use Rattle.std.proofs.KnownBytes.{Appends-trans}
use Rattle.arrow_spec.specs.declared.error.IpcError.{IpcError}
use Rattle.arrow_spec.specs.declared.error.IpcError.TheVariants as errors
use Rattle.arrow_spec.specs.Files.{ArrowTable, TableBatch}
use Rattle.arrow_spec.specs.Kinds.{Fields, Metadata, bare}
use Rattle.arrow_spec.specs.Readings.{IsAmong, refusals}
use Rattle.arrow_types.specs.Schemas.{fields_in}
use Rattle.arrow_arrays.specs.Batches.{Batch}
use Rattle.ipc_fields.specs.IpcFields.{fields_with, metadata_of}
use Rattle.ipc_bodies.specs.Puts.{Moved, NoneFalls}
use Rattle.laws_walk.specs.Below.{SchemaIsSaid, cells_of, said_fields, table_of}
use Rattle.ipc_append.specs.Below.Calls as writer
use Rattle.ipc_append.specs.Below.{Finishes, ending_of, file_ids, file_schema, file_ending, cells_by, table_by, FileCore, MayBeWritten, stream_schema, StreamMetadata}
use Rattle.ipc_append.proofs.Below.{end_too_large}
use Rattle.ipc_to_file.specs.Writing.{HasPut, IsEnded, IsFront, StopsFile, in_footer, table_of_stream}
use Rattle.ipc_to_file.proofs.Fields.{are_file_fields, serialized_is}
use Rattle.ipc_to_file.proofs.Puts.{part_counts, part_stops}

pub finish_counts : (v : Moved) (r : Result (Unit {0}) IpcError) (old new : FileCore) → Finishes v r old new → NoneFalls v
finish_counts v (Ok u) old new h = h.counts
finish_counts v (Err e) old new (inl h) = h.1.untouched.counts
finish_counts v (Err e) old new (inr h) = part_counts v e h.bytes h.failed.put

same_table : (fs gs : Fields) (own custom own' custom' : Metadata) (bs cs : List TableBatch) → bare fs ≡ bare gs → own ≡ own' → custom ≡ custom' → bs ≡ cs
    → record { metadata = own; custom = custom; fields = bare fs; batches = bs } ≡ (let t : ArrowTable = record { metadata = own'; custom = custom'; fields = bare gs; batches = cs } in t)
same_table fs gs own custom own' custom' bs cs h k l n = rw (h, k, l, n) refl

module _ (m : StreamMetadata) (w : MayBeWritten m) (old new : FileCore) (start : Option (List ℕ)) (v : Moved) (bs : List Batch) (put : HasPut m old start v.old bs) where
  abbrev front : IsFront m old put.bytes bs
  front = put.front

  own_table : table_by old (map cells_of bs) ≡ table_of_stream m (map table_of bs)
  own_table =
      let fields = are_file_fields m (file_ids old) w front.file.ids in
      let said : bare (said_fields (fields_in (file_schema old)) (file_ids old)) ≡ bare (stream_schema m).fields = ap (λ s. bare (said_fields (fields_in s) (file_ids old))) front.file.schema ∙ fields.fields in
      same_table (said_fields (fields_in (file_schema old)) (file_ids old)) (stream_schema m).fields _ _ _ _ _ _ said front.file.own front.file.custom refl

  pub ended : (n : ℕ) → n ≡ new.blocks.end → writer.HasFinished v old new → IsEnded n m start v.new bs
  ended n count h =
      let x = put.bytes in
      let fields = are_file_fields m (file_ids old) w front.file.ids in
      let pairs : SchemaIsSaid (fields_with (fields_in (rc_value m.schema)) (file_ids old)) (metadata_of old.pairs.schema) = subst (SchemaIsSaid (fields_with (fields_in (rc_value m.schema)) (file_ids old))) (sym front.file.own) fields.said in
      let said = subst (λ s. SchemaIsSaid (fields_with (fields_in s) (file_ids old)) (metadata_of old.pairs.schema)) (sym front.file.schema) pairs in
      record {
        bytes = x ++ h.bytes;
        file = h.means.said said (cells_by old) x (map cells_of bs) front.means ∙ ap (λ (t : ArrowTable). Some t) own_table;
        added = Appends-trans start v.old v.new x h.bytes put.added h.appended;
        count = count ∙ h.end ∙ ap (λ k. k + length h.bytes) front.means.end ∙ sym (length-append x h.bytes);
      }

  footer_stops : (e : IpcError) → IsAmong (refusals (ending_of old)) e → StopsFile e m bs start v.new v.faults v.faults_now
  footer_stops e among =
      let fs = fields_in (rc_value m.schema) in
      let fields = are_file_fields m (file_ids old) w front.file.ids in
      let there = subst (λ s. IsAmong (refusals (file_ending old.options (fields_in s) (file_ids old) old.pairs old.blocks)) e) front.file.schema among in
      let large : e ≡ errors.TooLarge = end_too_large old.options fs (file_ids old) old.pairs old.blocks _ e (serialized_is fs (file_ids old) (metadata_of old.pairs.schema) fields.shapes fields.agree fields.sayable) there in
      subst (λ z. StopsFile z m bs start v.new v.faults v.faults_now) (sym large) (in_footer front (subst (IsAmong (refusals (ending_of old))) large among))

  pub not_ended : (e : IpcError) → Finishes v (Err e) old new → StopsFile e m bs start v.new v.faults v.faults_now
  not_ended e (inr failed) = part_stops m bs start v e failed.bytes failed.failed.put
  not_ended e (inl (inl never, leaves)) = let clash : true ≡ false = sym front.started ∙ never.1 in cc
  not_ended e (inl (inr (_, inl memory), leaves)) = subst (λ z. StopsFile z m bs start v.new v.faults v.faults_now) (sym memory) tt
  not_ended e (inl (inr (_, inr among), leaves)) = footer_stops e among
