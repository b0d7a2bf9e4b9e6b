-- A file of a stream that is begun, or not, and what its writer keeps.
use Rattle.std.proofs.Common.{◌≡◌, ◌⊎◌, inl, inr, ℕ, ◌≤◌, List, true, false, ◌&&◌, ◌||◌, not, Option, None, Ok, Err, Result, refl, sym, ap, subst, ◌∙◌, arith}
use Rattle.std.specs.Io.KnownBytes.{Keeps}
use Rattle.std.specs.Rc.{rc_value}
use Rattle.arrow_spec.specs.declared.error.IpcError.{IpcError}
use Rattle.arrow_spec.specs.declared.error.IpcError.TheVariants as errors
use Rattle.arrow_spec.specs.Features.{chosen_floats}
use Rattle.arrow_spec.specs.Readings.{IsAmong, refusals}
use Rattle.arrow_types.specs.Schemas.{fields_in}
use Rattle.arrow_arrays.specs.Batches.{Batch}
use Rattle.ipc_fields.specs.IpcFields.{fields_with, ids_of, metadata_of}
use Rattle.ipc_fields.specs.declared.ipc_field.IpcSchema.{IpcSchema}
use Rattle.ipc_io.specs.Outside.{SinkKept}
use Rattle.schema_writer.specs.Defaults.{IsNumbered}
use Rattle.ipc_bodies.specs.Puts.{Moved, NoneFalls, PutsPart}
use Rattle.ipc_append.specs.Below.{DictionaryTracker, held_by, IsFresh, Starts, Stays, file_ids, file_schema, start_of, takes_pairs, FileBlocks, FileCore, FilePairs, file_start, no_pairs, WriteOptions, MayBeWritten, stream_schema, StreamMetadata}
use Rattle.laws_walk.specs.Below.{SchemaIsSaid, is_new, is_started}
use Rattle.ipc_append.specs.Below.Calls as writer
use Rattle.ipc_append.proofs.Below.{refused_chosen, start_cause}
use Rattle.ipc_to_file.specs.Writing.{HasBegun, IsFileOf, IsNewOf, OnlyPairs, StopsFile, file_options, in_schema}
use Rattle.ipc_to_file.proofs.Fields.{are_file_fields, floats_are, message_cause}

-- ── what stays ──

pub file_stays : (m : StreamMetadata) (old new : FileCore) → IsFileOf m old → Stays old new → IsFileOf m new
file_stays m old new f s = record {
  options = s.options ∙ f.options;
  schema = ap rc_value s.schema ∙ f.schema;
  ids = subst (IsNumbered (fields_in (rc_value m.schema))) (sym (ap (λ (x : IpcSchema). ids_of x.fields.items) s.ipc_schema)) f.ids;
  own = ap (λ (p : FilePairs). metadata_of p.schema) s.pairs ∙ f.own;
  custom = ap (λ (p : FilePairs). metadata_of p.footer) s.pairs ∙ f.custom;
}

-- ── a new writer ──

pub new_of : (m : StreamMetadata) (c c1 c2 : FileCore) → IsFresh file_options (rc_value m.schema) None c → OnlyPairs c c1 → OnlyPairs c1 c2 → metadata_of c1.pairs.schema ≡ metadata_of m.custom_schema_metadata → c2.pairs.schema ≡ c1.pairs.schema
    → metadata_of c2.pairs.footer ≡ metadata_of m.custom_metadata → IsNewOf m c2
new_of m c c1 c2 f first second own same custom =
    let tracker = second.tracker ∙ first.tracker in
    let blocks = second.blocks ∙ first.blocks in
    record {
      file = record {
        options = second.options ∙ first.options ∙ f.options;
        schema = ap rc_value (second.schema ∙ first.schema) ∙ f.schema;
        ids = subst (IsNumbered (fields_in (rc_value m.schema))) (sym (ap (λ (x : IpcSchema). ids_of x.fields.items) (second.ipc_schema ∙ first.ipc_schema))) f.ids;
        own = ap metadata_of same ∙ own;
        custom = custom;
      };
      state = ap is_new (second.state ∙ first.state ∙ f.state);
      nothing = record {
        held = λ q. ap (λ (t : DictionaryTracker). held_by t q) tracker ∙ f.held q;
        dictionaries = ap (λ (x : FileBlocks). x.dictionaries.items) blocks ∙ f.dictionaries;
        records = ap (λ (x : FileBlocks). x.records.items) blocks ∙ f.records;
      };
    }

-- a writer that has written nothing takes the pairs of a footer
pub takes_them : (c : FileCore) → is_new c.state ≡ true → takes_pairs c ≡ false → ⊥
takes_them c new late = let clash : true ≡ false = sym (ap (λ b. b || (is_started c.state && not c.has_written)) new) ∙ late in cc

-- ── what a sink keeps ──

pub sink_same : {W : Type 0} (faults_of wants_of : W → ℕ) (references_of : W → List ℕ) (w : W) → SinkKept faults_of wants_of references_of w w
sink_same faults_of wants_of references_of w = record { faults = omega arith; wants = omega arith; references = refl }

pub sink_since : {W : Type 0} (faults_of wants_of : W → ℕ) (references_of : W → List ℕ) (u v w : W) → SinkKept faults_of wants_of references_of u v → SinkKept faults_of wants_of references_of v w → SinkKept faults_of wants_of references_of u w
sink_since faults_of wants_of references_of u v w k l = record { faults = omega (arith, k.faults, l.faults); wants = omega (arith, k.wants, l.wants); references = l.references ∙ k.references }

-- ── puts that fail ──

pub memory_stops : (m : StreamMetadata) (bs : List Batch) (old new : Option (List ℕ)) (f g : ℕ) (e : IpcError) → e ≡ errors.Memory → StopsFile e m bs old new f g
memory_stops m bs old new f g e is = subst (λ z. StopsFile z m bs old new f g) (sym is) tt

-- from a count of faults that was lower
pub stops_since : (e : IpcError) (m : StreamMetadata) (bs : List Batch) (old new : Option (List ℕ)) (k f g : ℕ) → k ≤ f → StopsFile e m bs old new f g → StopsFile e m bs old new k g
stops_since errors.Memory m bs old new k f g less h = tt
stops_since errors.WriteFault m bs old new k f g less h = omega (arith, less, h)
stops_since errors.TooLarge m bs old new k f g less h = h
stops_since (errors.Unsupported feature) m bs old new k f g less h = h
stops_since e m bs old new k f g less h = absurd h

pub part_stops : (m : StreamMetadata) (bs : List Batch) (start : Option (List ℕ)) (v : Moved) (e : IpcError) (bytes : List ℕ) → PutsPart v e bytes → StopsFile e m bs start v.new v.faults v.faults_now
part_stops m bs start v errors.WriteFault bytes h = h.2
part_stops m bs start v errors.Memory bytes h = tt
part_stops m bs start v e bytes h = absurd h

pub part_counts : (v : Moved) (e : IpcError) (bytes : List ℕ) → PutsPart v e bytes → NoneFalls v
part_counts v errors.WriteFault bytes h = h.1
part_counts v errors.Memory bytes h = h.1
part_counts v e bytes h = absurd h

pub start_counts : (v : Moved) (r : Result (Unit {0}) IpcError) (old new : FileCore) → Starts v r old new → NoneFalls v
start_counts v (Ok u) old new h = h.counts
start_counts v (Err e) old new (inl h) = h.1.untouched.counts
start_counts v (Err e) old new (inr h) = part_counts v e h.bytes h.failed.put

-- ── begin ──

module _ (m : StreamMetadata) (w : MayBeWritten m) (old new : FileCore) (v : Moved) (is : IsNewOf m old) where
  pub begun : writer.HasBegun v old new → HasBegun m new v.old v.new
  begun h =
      let pairs = (stream_schema m).metadata in
      let said : SchemaIsSaid (fields_with (fields_in (file_schema old)) (file_ids old)) pairs
      = subst (λ s. SchemaIsSaid (fields_with (fields_in s) (file_ids old)) pairs) (sym is.file.schema) (are_file_fields m (file_ids old) w is.file.ids).said in
      record {
        put = record {
          bytes = h.bytes;
          front = record { file = file_stays m old new is.file h.stays; started = ap is_started h.state; means = h.said is.nothing pairs said };
          added = h.appended;
        };
        none = λ q. ap (λ (t : DictionaryTracker). held_by t q) h.tracker ∙ is.nothing.held q;
      }

  schema_stops : (e : IpcError) (bs : List Batch) → IsAmong (refusals (start_of old)) e → Keeps v.old v.new → StopsFile e m bs v.old v.new v.faults v.faults_now
  schema_stops e bs among kept =
      let fs = fields_in (rc_value m.schema) in
      let own = file_ids old in
      let fields = are_file_fields m own w is.file.ids in
      let there : IsAmong (refusals (file_start old.options fs own)) e = subst (λ s. IsAmong (refusals (file_start old.options (fields_in s) own)) e) is.file.schema among in
      let cause = message_cause old.options fs own no_pairs e (ap (λ (o : WriteOptions). o.compression) is.file.options) fields.shapes fields.agree fields.sayable (start_cause old.options fs own e there) in
      by (subst (λ es. IsAmong es e ⊎ (e ≡ errors.TooLarge)) (floats_are m) cause)
    where
      by : IsAmong (chosen_floats None (stream_schema m).fields 0) e ⊎ (e ≡ errors.TooLarge) → StopsFile e m bs v.old v.new v.faults v.faults_now
      by (inl floats) = refused_chosen (λ z. IsAmong (chosen_floats None (stream_schema m).fields 0) z → StopsFile z m bs v.old v.new v.faults v.faults_now) (λ feature f. (f, kept)) None (stream_schema m).fields 0 e floats floats
      by (inr large) = subst (λ z. StopsFile z m bs v.old v.new v.faults v.faults_now) (sym large) (in_schema is (subst (IsAmong (refusals (start_of old))) large among))

  pub not_begun : (e : IpcError) (bs : List Batch) → Starts v (Err e) old new → StopsFile e m bs v.old v.new v.faults v.faults_now
  not_begun e bs (inr failed) = part_stops m bs v.old v e failed.bytes failed.failed.put
  not_begun e bs (inl (inl never, leaves)) = let clash : true ≡ false = sym is.state ∙ never.1 in cc
  not_begun e bs (inl (inr (_, inl memory), leaves)) = subst (λ z. StopsFile z m bs v.old v.new v.faults v.faults_now) (sym memory) tt
  not_begun e bs (inl (inr (_, inr among), leaves)) = schema_stops e bs among leaves.untouched.bytes
