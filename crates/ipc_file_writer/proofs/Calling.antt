-- What calls of a writer of files come to.
use Rattle.std.proofs.Common.{◌≡◌, inl, inr, ℕ, List, Bool, true, false, Option, Result, Ok, Err, refl, sym, ap, ◌∙◌, subst}
use Rattle.std.specs.Result.{IsErrAnd}
use Rattle.arrow_spec.specs.declared.error.IpcError.{IpcError}
use Rattle.arrow_spec.specs.declared.error.IpcError.TheVariants.{Memory, WriteFault}
use Rattle.arrow_arrays.specs.Batches.{Batch}
use Rattle.arrow_types.specs.Schemas.{Keyed}
use Rattle.ipc_fields.specs.IpcFields.{Ids, ids_of}
use Rattle.ipc_fields.specs.declared.ipc_field.IpcField.{IpcField}
use Rattle.ipc_messages.specs.Below.{Moved, IsKept, held_by, DictionaryTracker}
use Rattle.ipc_messages.specs.declared.puts.Stop.{Stop}
use Rattle.ipc_messages.specs.Batches.{Suits}
use Rattle.ipc_messages.specs.Puts.{Grew, StopsIn, Untouched}
use Rattle.ipc_messages.specs.Schemas.{IsRefusedAs}
use Rattle.ipc_messages.specs.States.{is_new, is_started, state_behind}
use Rattle.ipc_file_writer.proofs.Meaning.{sent_file}
use Rattle.ipc_file_writer.specs.declared.file.FileCore.{FileCore}
use Rattle.ipc_file_writer.specs.Calls.{Finishes, HasNoMore, LeavesAll, Sends, Starts, Stays, SuitsFile, Writes, ending_of, file_schema, start_of}

pub stays : (c : FileCore) → Stays c c
stays c = record { options = refl; schema = refl; ipc_schema = refl; pairs = refl; tracker = refl }

pub no_more : (c : FileCore) → HasNoMore c c
no_more c = record { held = λ q. refl; blocks = record { dictionaries = refl; records = refl; end = refl }; written = refl; stays = stays c }

-- a call that does nothing
pub leaves : (m : Moved) (c : FileCore) → Untouched m → LeavesAll m c c
leaves m c u = record { untouched = u; state = refl; same = no_more c }

pub same_held : (old new : DictionaryTracker) → new ≡ old → IsKept (held_by old) (held_by new)
same_held old new e q = ap (λ (t : DictionaryTracker). held_by t q) e

-- a fault is no want of memory
by_fault : (e : IpcError) (old new : Option (List ℕ)) → e ≡ WriteFault → e ≡ Memory → Grew old new
by_fault e old new f k = let both : WriteFault ≡ Memory = sym f ∙ k in absurd (cc)

-- ── begin ──

pub not_begun : (r : Result (Unit {0}) IpcError) (e : IpcError) (m : Moved) (c : FileCore) → IsErrAnd r (λ f. f ≡ e) → is_new c.state ≡ true → IsRefusedAs e (start_of c) → Untouched m → Starts m r c c
not_begun (Ok u) e m c f n h t = absurd f
not_begun (Err x) e m c f n h t = inl (inr (n, subst (λ y. IsRefusedAs y (start_of c)) (sym f) h), leaves m c t)

start_stops : (b : Bool) (e : IpcError) (m : Moved) (old new : FileCore) (text : List ℕ) → is_new old.state ≡ true → start_of old ≡ Ok text → StopsIn b m e text → (b ≡ true → e ≡ WriteFault) → new.state ≡ state_behind b old.state → HasNoMore old new → Starts m (Err e) old new
start_stops true e m old new text n h q f k s = inr (record { new_before = n; bytes = text; text = h; failed = record { put = q; behind = by_fault e m.old m.new (f refl); state = k; same = s }; whole = f refl })
start_stops false e m old new text n h q f k s = inl (inr (n, inl q.0), record { untouched = q.1; state = k; same = s })

pub start_stopped : (x : IpcError) (stop : Stop) (m : Moved) (old new : FileCore) (text put : List ℕ) → x ≡ stop.error → is_new old.state ≡ true → start_of old ≡ Ok text → put ≡ text → StopsIn stop.has_begun m stop.error put → (stop.has_begun ≡ true → stop.error ≡ WriteFault)
    → new.state ≡ state_behind stop.has_begun old.state → HasNoMore old new → Starts m (Err x) old new
start_stopped x stop m old new text put e n h t q f k s =
    subst (λ z. Starts m (Err z) old new) (sym e) (start_stops stop.has_begun stop.error m old new text n h (subst (StopsIn stop.has_begun m stop.error) t q) f k s)

-- ── end ──

pub not_ended : (r : Result (Unit {0}) IpcError) (e : IpcError) (m : Moved) (c : FileCore) → IsErrAnd r (λ f. f ≡ e) → is_started c.state ≡ true → IsRefusedAs e (ending_of c) → Untouched m → Finishes m r c c
not_ended (Ok u) e m c f n h t = absurd f
not_ended (Err x) e m c f n h t = inl (inr (n, subst (λ y. IsRefusedAs y (ending_of c)) (sym f) h), leaves m c t)

end_stops : (b : Bool) (e : IpcError) (m : Moved) (old new : FileCore) (text : List ℕ) → is_started old.state ≡ true → ending_of old ≡ Ok text → StopsIn b m e text → (b ≡ true → e ≡ WriteFault) → new.state ≡ state_behind b old.state → HasNoMore old new → Finishes m (Err e) old new
end_stops true e m old new text n h q f k s = inr (record { started = n; bytes = text; text = h; failed = record { put = q; behind = by_fault e m.old m.new (f refl); state = k; same = s }; whole = f refl })
end_stops false e m old new text n h q f k s = inl (inr (n, inl q.0), record { untouched = q.1; state = k; same = s })

pub end_stopped : (x : IpcError) (stop : Stop) (m : Moved) (old new : FileCore) (text put : List ℕ) → x ≡ stop.error → is_started old.state ≡ true → ending_of old ≡ Ok text → put ≡ text → StopsIn stop.has_begun m stop.error put → (stop.has_begun ≡ true → stop.error ≡ WriteFault)
    → new.state ≡ state_behind stop.has_begun old.state → HasNoMore old new → Finishes m (Err x) old new
end_stopped x stop m old new text put e n h t q f k s =
    subst (λ z. Finishes m (Err z) old new) (sym e) (end_stops stop.has_begun stop.error m old new text n h (subst (StopsIn stop.has_begun m stop.error) t q) f k s)

-- ── batches ──

pub as_written : (m : Moved) (r : Result (Unit {0}) IpcError) (old new : FileCore) (b : Batch) (given : Option Ids) → is_started old.state ≡ true → SuitsFile old b given → old.tracker.cannot_replace ≡ true → Sends m r old new b → Writes m r old new b given
as_written m (Ok u) old new b given n s kept h = record { started = n; suits = s; sends = h; means = sent_file m old new b h s.types kept }
as_written m (Err e) old new b given n s kept (inl h) = inl (inr (n, inr (s, h.0)), h.1)
as_written m (Err e) old new b given n s kept (inr h) = inr (record { started = n; suits = s; sends = h })

-- a batch is a file's by the schema and the IPC fields that are lent
pub suits_as : (c : FileCore) (s : List Keyed) (fields : List IpcField) (b : Batch) (given : Option Ids) → s ≡ file_schema c → fields ≡ c.ipc_schema.fields.items
    → (Suits s (ids_of fields) b given → SuitsFile c b given) × (SuitsFile c b given → Suits s (ids_of fields) b given)
suits_as c s fields b given e f =
    (λ h. subst (λ x. Suits (file_schema c) (ids_of x) b given) f (subst (λ x. Suits x (ids_of fields) b given) e h), λ h. subst (λ x. Suits x (ids_of fields) b given) (sym e) (subst (λ x. Suits (file_schema c) (ids_of x) b given) (sym f) h))
