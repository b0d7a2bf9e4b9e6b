-- A file of generated batches as it is written: what a writer refuses of them, and what it holds behind them.
use Rattle.std.proofs.Common.{◌≡◌, ℕ, inl, inr, List, [], ◌∷◌, ◌++◌, Bool, true, false, Option, None, Some, Result, Ok, Err, refl, sym, ap, ◌∙◌, subst, arith, ◌+◌, length, nat_le, min}
use Rattle.std.specs.Prelude.{ℤ, pos, IfErr, IfOk, IsErrAnd, OnOk}
use Rattle.std.specs.Io.KnownBytes.{Appends}
use Rattle.std.specs.Rc.{rc_value}
use Rattle.std.specs.declared.alloc.Global.{Global}
use Rattle.std.specs.declared.vec.Vec.{Vec}
use Rattle.arrow_spec.specs.declared.error.IpcError.{IpcError}
use Rattle.arrow_spec.specs.declared.error.IpcError.TheVariants.{Memory, WriteFault}
use Rattle.arrow_spec.specs.Files.{TableBatch, «all»}
use Rattle.arrow_spec.specs.Kinds.{have_same_kinds}
use Rattle.arrow_spec.specs.Layout.{layout, size, table_head}
use Rattle.arrow_spec.specs.Meaning.{file_table}
use Rattle.arrow_spec.specs.Readings.{bind, IsAmong, refusals}
use Rattle.arrow_spec.specs.Regular.{regular}
use Rattle.arrow_spec.specs.Sent.{schema_message}
use Rattle.arrow_types.specs.Schemas.{Keyed, fields_in}
use Rattle.arrow_arrays.specs.Batches.{Batch}
use Rattle.arrow_arrays.specs.CellCode.{content_eq}
use Rattle.arrow_arrays.specs.Columns.{columns_of}
use Rattle.arrow_arrays.specs.Parts.{Forest, forest, none, also}
use Rattle.ipc_fields.specs.IpcFields.{fields_with, ids_of, metadata_of}
use Rattle.schema_writer.specs.Serialized.{serialized, written}
use Rattle.ipc_file_writer.specs.Below.{Moved, PutsPart, Sending, WriteOptions, columns_sent, held_by, found, chunk_text, IsRefusedAs, stream_text, is_new, is_started, said_fields}
use Rattle.laws_files.specs.Files.{file_end, table_of}
use Rattle.ipc_file_writer.specs.Calls.{HasFinished, HasWritten as WritesBatch, IsBegun, IsFresh, IsNotBegun, Starts, Finishes, RefusesMore, SuitsFile, Writes, ending_of, file_ids, file_schema, found_before, start_of}
use Rattle.ipc_file_writer.specs.Ends.{file_ending, file_footer, file_start}
use Rattle.ipc_file_writer.specs.Written.{HasNothing, cells_by, own_fields, table_by}
use Rattle.ipc_file_writer.specs.declared.blocks.FileBlocks.{FileBlocks}
use Rattle.ipc_file_writer.specs.declared.file.FileCore.{FileCore}
use Rattle.ipc_generate.specs.Arrays.{arrays_of, batch_of, dictionary_values, generated_schema, keys_array, lists_array, numbers_array, table_batch, texts_array}
use Rattle.ipc_generate.specs.Table.{batch_count, first_batches, generated_fields, generated_table, table_with}
use Rattle.ipc_generate.specs.Written.{HasWritten, HoldsNoOther, IsReady, IsSmall, generate_options, generated_ids}
use Rattle.ipc_file_writer.proofs.Causes.{limits_too_large, more_limit, stops_limit}
use Rattle.ipc_generate.proofs.Ids.{numbered_ids}

-- ── what is sent before a batch ──

-- nothing is refused, and no other dictionary is held behind it
abbrev SendsWell : Result Sending IpcError → Type 0
SendsWell (Ok s) = HoldsNoOther (s.held (pos 0))
SendsWell (Err e) = ⊥

abbrev from_held : (ℤ → Option Forest) → Sending
from_held held = record { held = held; used = λ q. false; sent = [] }

first_sent : (fixed deltas : Bool) (held : ℤ → Option Forest) (states : List ℕ) → held (pos 0) ≡ None
    → SendsWell (columns_sent (record { cannot_replace = fixed; deltas = deltas }) (forest (arrays_of states)) generated_ids (from_held held))
unfolding numbers_array texts_array keys_array lists_array dictionary_values bind
first_sent fixed true held states e = rw e refl
first_sent fixed false held states e = rw e refl

again_sent : (fixed deltas : Bool) (held : ℤ → Option Forest) (states : List ℕ) → held (pos 0) ≡ Some (also dictionary_values none)
    → SendsWell (columns_sent (record { cannot_replace = fixed; deltas = deltas }) (forest (arrays_of states)) generated_ids (from_held held))
unfolding content_eq numbers_array texts_array keys_array lists_array dictionary_values bind
again_sent fixed true held states e = rw e (subst HoldsNoOther (sym e) refl)
again_sent fixed false held states e = rw e (subst HoldsNoOther (sym e) refl)

held_sent : (fixed deltas : Bool) (held : ℤ → Option Forest) (states : List ℕ) (h : Option Forest) → held (pos 0) ≡ h → HoldsNoOther h
    → SendsWell (columns_sent (record { cannot_replace = fixed; deltas = deltas }) (forest (arrays_of states)) generated_ids (from_held held))
held_sent fixed deltas held states None e h = first_sent fixed deltas held states e
held_sent fixed deltas held states (Some parts) e h = again_sent fixed deltas held states (e ∙ ap Some h)

sent_well : (c : FileCore) (states : List ℕ) → IsReady c → SendsWell (found_before c (batch_of states))
sent_well c states r =
    subst (λ below. SendsWell (found c.tracker (forest (arrays_of states)) below)) (sym r.ids)
    (held_sent c.tracker.cannot_replace c.tracker.deltas (held_by c.tracker) states (held_by c.tracker (pos 0)) refl r.held)

-- ── what is refused ──

-- a put fails for want of memory alone, where the sink has no fault
put_small : (m : Moved) (e : IpcError) (bytes : List ℕ) → m.faults_now ≡ 0 → PutsPart m e bytes → IsSmall e
put_small m WriteFault bytes z h = absurd (omega (arith, h.2))
put_small m Memory bytes z h = inl refl
put_small m e bytes z h = absurd h

-- ── a batch ──

suits : (c : FileCore) (states : List ℕ) → IsReady c → SuitsFile c (batch_of states) None
unfolding numbers_array texts_array keys_array lists_array
suits c states r = record {
  types = ap (λ s. have_same_kinds (fields_in s) (columns_of (forest (arrays_of states)))) r.schema;
  own = tt;
}

started : (c : FileCore) → IsReady c → is_started c.state ≡ true
started c r = ap is_started r.state

uncompressed : (c : FileCore) → IsReady c → c.options.compression ≡ None
uncompressed c r = ap (λ o. o.compression) r.options

pub write_small : (m : Moved) (e : IpcError) (c new : FileCore) (states : List ℕ) → IsReady c → m.faults_now ≡ 0 → Writes m (Err e) c new (batch_of states) None → IsSmall e
write_small m e c new states r z (inl (inl p, left)) = absurd (cc (started c r, p.1))
write_small m e c new states r z (inl (inr (s, inl p), left)) = absurd (p.1 (suits c states r))
write_small m e c new states r z (inl (inr (s, inr p), left)) =
    stops_limit e (found_before c (batch_of states)) (λ sent. RefusesMore e c sent (batch_of states)) (λ is. subst SendsWell is (sent_well c states r))
    (λ sent h. more_limit e c sent (batch_of states) (uncompressed c r) h) p.1
write_small m e c new states r z (inr f) = put_small m e _ z f.sends.failed.put

-- a writer is ready for more behind a batch
pub ready_behind : (m : Moved) (c new : FileCore) (states : List ℕ) → IsReady c → WritesBatch m c new (batch_of states) None → IsReady new
ready_behind m c new states r w =
    let s = w.sends in
    record {
      options = s.stays.options ∙ r.options;
      state = s.state ∙ r.state;
      schema = ap rc_value s.stays.schema ∙ r.schema;
      ids = ap (λ x. ids_of x.fields.items) s.stays.ipc_schema ∙ r.ids;
      pairs = s.stays.pairs ∙ r.pairs;
      held = subst SendsWell s.is_found (sent_well c states r);
    }

pub written_behind : (m : Moved) (c new : FileCore) (states x y : List ℕ) (w : WritesBatch m c new (batch_of states) None) → m.old ≡ Some x → m.new ≡ Some y
    → (bs : List TableBatch) → HasWritten c x bs → HasWritten new y (bs ++ table_batch states ∷ [])
written_behind m c new states x y w o n bs h =
    let added : Appends (Some x) (Some y) (chunk_text w.sends.sent (batch_of states)) =
    subst (λ p. Appends (Some x) p (chunk_text w.sends.sent (batch_of states))) n (subst (λ p. Appends p m.new (chunk_text w.sends.sent (batch_of states))) o w.sends.appended) in
    subst (λ bytes. HasWritten new bytes (bs ++ table_batch states ∷ [])) (sym added) (w.means x bs h)

-- ── begin ──

nothing_refused : refusals (file_start generate_options generated_fields generated_ids) ≡ []
unfolding bind file_start stream_text serialized written size schema_message layout table_head
nothing_refused = refl

start_small : (e : IpcError) (c : FileCore) → c.options ≡ generate_options → file_schema c ≡ generated_schema → file_ids c ≡ generated_ids → IsRefusedAs e (start_of c) → IsSmall e
start_small e c o s i (inl m) = inl m
start_small e c o s i (inr h) =
    let same : start_of c ≡ file_start generate_options generated_fields generated_ids =
    ap (λ x. file_start x (fields_in (file_schema c)) (file_ids c)) o ∙ ap (λ x. file_start generate_options (fields_in x) (file_ids c)) s
    ∙ ap (file_start generate_options generated_fields) i in
    absurd (subst (λ es. IsAmong es e) (ap refusals same ∙ nothing_refused) h)

fresh_ids : (c : FileCore) (asked : WriteOptions) (s : List Keyed) → s ≡ generated_schema → IsFresh asked s None c → file_ids c ≡ generated_ids
fresh_ids c asked s e f =
    let n = subst (λ x. IsFresh asked x None c) e f in
    numbered_ids (file_ids c) n.ids.shaped (n.ids.ids refl)

pub begin_small : (m : Moved) (e : IpcError) (asked : WriteOptions) (s : List Keyed) → asked ≡ generate_options → s ≡ generated_schema → m.faults_now ≡ 0 → IsNotBegun m e asked s None → IsSmall e
begin_small m e asked s o k z (inl p) = inl p.0
begin_small m e asked s o k z (inr u) = by u.starts
  where
    by : Starts m (Err e) u.fresh u.left → IsSmall e
    by (inl (inl p, left)) = absurd (cc (ap is_new u.made.state, p.1))
    by (inl (inr p, left)) = start_small e u.fresh (u.made.options ∙ o) (u.made.schema ∙ k) (fresh_ids u.fresh asked s k u.made) p.1
    by (inr f) = put_small m e f.bytes z f.failed.put

pub begun_ready : (m : Moved) (asked : WriteOptions) (s : List Keyed) (c : FileCore) → asked ≡ generate_options → s ≡ generated_schema → IsBegun m asked s None c → IsReady c
begun_ready m asked s c o k b =
    let f = b.made in
    let g = b.begun in
    record {
      options = g.stays.options ∙ f.options ∙ o;
      state = g.state;
      schema = ap rc_value g.stays.schema ∙ f.schema ∙ k;
      ids = ap (λ x. ids_of x.fields.items) g.stays.ipc_schema ∙ fresh_ids b.fresh asked s k f;
      pairs = g.stays.pairs ∙ f.pairs;
      held = subst HoldsNoOther (sym (ap (λ t. held_by t (pos 0)) g.tracker ∙ f.held (pos 0))) tt;
    }

is_regular : (c : FileCore) (s : file_schema c ≡ generated_schema) (i : file_ids c ≡ generated_ids) → regular (own_fields c) [] ≡ true
is_regular c s i = ap (λ x. regular (fields_with (fields_in x) (file_ids c)) []) s ∙ ap (λ x. regular (fields_with generated_fields x) []) i

pub begun_written : (m : Moved) (asked : WriteOptions) (s : List Keyed) (c : FileCore) (y : List ℕ) → s ≡ generated_schema → m.old ≡ Some [] → m.new ≡ Some y → IsBegun m asked s None c → HasWritten c y []
begun_written m asked s c y k o n b =
    let f = b.made in
    let g = b.begun in
    let added : Appends (Some []) (Some y) g.bytes = subst (λ p. Appends (Some []) p g.bytes) n (subst (λ p. Appends p m.new g.bytes) o g.appended) in
    let none : HasNothing b.fresh = record { held = f.held; dictionaries = f.dictionaries; records = f.records } in
    subst (λ bytes. HasWritten c bytes []) (sym added) (g.means none [] (is_regular b.fresh (f.schema ∙ k) (fresh_ids b.fresh asked s k f)))

-- ── end ──

end_refused : (blocks : FileBlocks) (e : IpcError) → IsAmong (refusals (file_ending generate_options generated_fields generated_ids (record { schema = None; footer = None }) blocks)) e → IsSmall e
unfolding bind file_ending serialized
end_refused blocks e h =
    let footer = file_footer generated_fields generated_ids (record { schema = None; footer = None }) blocks in
    inr (limits_too_large {A = List ℕ} (nat_le (size footer) (min generate_options.metadata_limit 2147483647)) (nat_le (blocks.end + length (file_end (layout footer))) 9223372036854775807)
    (file_end (layout footer)) e h)

end_small : (e : IpcError) (c : FileCore) → IsReady c → IsRefusedAs e (ending_of c) → IsSmall e
end_small e c r (inl m) = inl m
end_small e c r (inr h) =
    let same : ending_of c ≡ file_ending generate_options generated_fields generated_ids (record { schema = None; footer = None }) c.blocks =
    ap (λ x. file_ending x (fields_in (file_schema c)) (file_ids c) c.pairs c.blocks) r.options
    ∙ ap (λ x. file_ending generate_options (fields_in x) (file_ids c) c.pairs c.blocks) r.schema
    ∙ ap (λ x. file_ending generate_options generated_fields x c.pairs c.blocks) r.ids
    ∙ ap (λ x. file_ending generate_options generated_fields generated_ids x c.blocks) r.pairs in
    end_refused c.blocks e (subst (λ es. IsAmong es e) (ap refusals same) h)

pub finish_small : (m : Moved) (e : IpcError) (c new : FileCore) → IsReady c → m.faults_now ≡ 0 → Finishes m (Err e) c new → IsSmall e
finish_small m e c new r z (inl (inl p, left)) = absurd (cc (started c r, p.1))
finish_small m e c new r z (inl (inr p, left)) = end_small e c r p.1
finish_small m e c new r z (inr f) = put_small m e f.bytes z f.failed.put

own_table : (c : FileCore) (bs : List TableBatch) → IsReady c → table_by c bs ≡ table_with bs
own_table c bs r =
    ap (λ x. table_of (said_fields (fields_in x) (file_ids c)) (metadata_of c.pairs.schema) (metadata_of c.pairs.footer) bs) r.schema
    ∙ ap (λ x. table_of (said_fields generated_fields x) (metadata_of c.pairs.schema) (metadata_of c.pairs.footer) bs) r.ids
    ∙ ap (λ x. table_of (said_fields generated_fields generated_ids) (metadata_of x.schema) (metadata_of x.footer) bs) r.pairs

pub ended_table : (m : Moved) (c new : FileCore) (x y : List ℕ) → IsReady c → HasFinished m c new → m.old ≡ Some x → m.new ≡ Some y
    → (bs : List TableBatch) → HasWritten c x bs → file_table y «all» ≡ Some (table_with bs)
ended_table m c new x y r f o n bs h =
    let added : Appends (Some x) (Some y) f.bytes = subst (λ p. Appends (Some x) p f.bytes) n (subst (λ p. Appends p m.new f.bytes) o f.appended) in
    let good : regular (own_fields c) (metadata_of c.pairs.schema) ≡ true = ap (λ p. regular (own_fields c) (metadata_of p.schema)) r.pairs ∙ is_regular c r.schema r.ids in
    ap (λ b. file_table b «all») added ∙ f.means.written good (cells_by c) x bs h ∙ ap Some (own_table c bs r)

-- ── what calls answer ──

pub default_options : (o : WriteOptions) → (o.compression ≡ None) × (o.metadata_limit ≡ 2147483647) × (o.deltas ≡ false) → o ≡ generate_options
default_options o h =
    ap (λ x. let w : WriteOptions = record { compression = x; metadata_limit = o.metadata_limit; deltas = o.deltas } in w) h.0
    ∙ ap (λ n. let w : WriteOptions = record { compression = None; metadata_limit = n; deltas = o.deltas } in w) h.1
    ∙ ap (λ d. let w : WriteOptions = record { compression = None; metadata_limit = 2147483647; deltas = d } in w) h.2

-- a batch was written, or is refused
pub write_ready : (r : Result (Unit {0}) IpcError) (m : Moved) (c new : FileCore) (b : Batch) (states : List ℕ) → IsReady c → b ≡ batch_of states → Writes m r c new b None → OnOk r (IsReady new)
write_ready (Ok u) m c new b states r e w = ready_behind m c new states r (subst (λ x. WritesBatch m c new x None) e w)
write_ready (Err f) m c new b states r e w = tt

pub write_means : (r : Result (Unit {0}) IpcError) (m : Moved) (c new : FileCore) (b : Batch) (states x y : List ℕ) → b ≡ batch_of states → m.old ≡ Some x → m.new ≡ Some y → Writes m r c new b None
    → OnOk r ((bs : List TableBatch) → HasWritten c x bs → HasWritten new y (bs ++ table_batch states ∷ []))
write_means (Ok u) m c new b states x y e o n w = written_behind m c new states x y (subst (λ z. WritesBatch m c new z None) e w) o n
write_means (Err f) m c new b states x y e o n w = tt

pub write_err : (r : Result (Unit {0}) IpcError) (m : Moved) (c new : FileCore) (b : Batch) (states : List ℕ) → IsReady c → m.faults_now ≡ 0 → b ≡ batch_of states → Writes m r c new b None → IfErr r IsSmall
write_err (Ok u) m c new b states r z e w = tt
write_err (Err f) m c new b states r z e w = write_small m f c new states r z (subst (λ x. Writes m (Err f) c new x None) e w)

pub handed : {X : Type 0} (P : IpcError → Type 0) (r : Result X IpcError) (e : IpcError) → IsErrAnd r (λ f. f ≡ e) → P e → IfErr r P
handed P (Ok x) e h p = absurd h
handed P (Err f) e h p = subst P (sym h) p

-- the bytes that end a file of all batches mean the generated table
pub whole_table : (r : Result (Vec ℕ Global) IpcError) (c : FileCore) (x : List ℕ) (seed : ℕ)
    → IfOk r (λ v. (bs : List TableBatch) → HasWritten c x bs → file_table v.items «all» ≡ Some (table_with bs)) → HasWritten c x (first_batches seed batch_count)
    → IfOk r (λ v. file_table v.items «all» ≡ Some (generated_table seed))
unfolding generated_table
whole_table (Ok v) c x seed h w = h (first_batches seed batch_count) w
whole_table (Err e) c x seed h w = h
