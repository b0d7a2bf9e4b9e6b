-- Dictionary messages whose values are lent, put under their ids.
use Rattle.std.proofs.Common.{◌≡◌, ℕ, List, [], ◌∷◌, ◌++◌, map, Bool, true, false, Option, Some, None, Result, Ok, Err, IfOk, IfErr, ℤ, refl, sym, ap, subst, ◌∙◌, append_assoc, append-nil}
use Rattle.std.specs.Prelude.{not, is_some, ◌||◌, if◌then◌else◌}
use Rattle.std.specs.Option.{option_map}
use Rattle.std.specs.Ordering.{int_cmp}
use Rattle.std.specs.Result.{IsErr, IsErrAnd}
use Rattle.std.specs.BTreeMap.{BTreeMap, get}
use Rattle.std.specs.declared.alloc.Global.{Global}
use Rattle.std.specs.declared.vec.Vec.{Vec}
use Rattle.arrow_spec.specs.declared.error.IpcError.{IpcError}
use Rattle.arrow_spec.specs.declared.error.IpcError.TheVariants.{Memory}
use Rattle.arrow_spec.specs.declared.message.MetadataVersion.{MetadataVersion}
use Rattle.arrow_spec.specs.Readings.{Reading, Refuses, bind, is_absent, refusals, ◌>>=◌}
use Rattle.arrow_spec.specs.Kinds.{Kind, same}
use Rattle.arrow_spec.specs.Cells.{Cell}
use Rattle.arrow_spec.specs.Files.{TableBatch, first_column}
use Rattle.arrow_spec.specs.Messages.{DictionaryBatch}
use Rattle.arrow_spec.specs.Arrays.{Dictionaries, HeldDictionary, cells_before, found}
use Rattle.arrow_types.specs.Schemas.{Keyed, fields_in}
use Rattle.arrow_arrays.specs.Heads.{joined}
use Rattle.ipc_fields.specs.IpcFields.{Ids, fields_with}
use Rattle.ipc_read.specs.Batches.{batch_reading}
use Rattle.ipc_read.specs.DictionaryBatches.{dictionary_reading, one_column}
use Rattle.ipc_read.proofs.DictionaryReads.{message_is, message_read}
use Rattle.ipc_read.proofs.Refusals.{memory_refuses}
use Rattle.ipc_read_laws.specs.Held.{values_of_id}
use Rattle.view_types.specs.Views.{View, cells_in}
use Rattle.ipc_view.specs.Batches.{AddsViews, views_before}
use Rattle.ipc_view.specs.Dictionaries.{Shown, ShowsCells, shown_in}
use Rattle.ipc_view.proofs.HeldViews.{same_is}

-- ── what is shown ──

cells_with : (vs : List View) (v : View) → joined (map cells_in (vs ++ v ∷ [])) ≡ joined (map cells_in vs) ++ cells_in v
cells_with [] v = append-nil (cells_in v)
cells_with (w ∷ vs) v = ap (λ cs. cells_in w ++ cs) (cells_with vs v) ∙ sym (append_assoc (cells_in w) (joined (map cells_in vs)) (cells_in v))

-- parts behind others have the cells of all
before_cells : (is_delta : Bool) (o : Option (List View)) (v : View) → joined (map cells_in (views_before is_delta o v)) ≡ cells_before is_delta (option_map (λ vs. joined (map cells_in vs)) o) ++ cells_in v
before_cells false o v = append-nil (cells_in v)
before_cells true None v = append-nil (cells_in v)
before_cells true (Some vs) v = cells_with vs v

-- a message's view put under its id shows its cells
pub shows_more : (d : Dictionaries) (h h' : Shown) (x : HeldDictionary) (v : View) → x.cells ≡ cells_in v → h' x.id ≡ Some (views_before x.is_delta (h x.id) v) → ((q : ℤ) → same x.id q ≡ false → h' q ≡ h q) → ShowsCells d h → ShowsCells (x ∷ d) h'
shows_more d h h' x v cells here others shows q = by (same x.id q) refl
  where
    seen : List View → List Cell
    seen vs = joined (map cells_in vs)

    by : (b : Bool) → same x.id q ≡ b → (if b then Some (cells_before x.is_delta (found d q) ++ x.cells) else found d q) ≡ option_map seen (h' q)
    by false e = shows q ∙ ap (option_map seen) (sym (others q e))
    by true e =
        let i : x.id ≡ q = same_is x.id q e in
        ap (λ o. Some (cells_before x.is_delta o ++ x.cells)) (shows q) ∙ ap (λ cs. Some (cells_before x.is_delta (option_map seen (h q)) ++ cs)) cells
        ∙ ap Some (sym (before_cells x.is_delta (h q) v))
        ∙ ap (λ z. Some (seen (views_before x.is_delta (h z) v))) (sym i) ∙ ap (option_map seen) (sym here) ∙ ap (λ z. option_map seen (h' z)) i

pub appended : (m n : BTreeMap ℤ (Vec View Global)) (i : ℤ) (v w : Vec View Global) (p : View) → Some v ≡ get int_cmp m i → get int_cmp n i ≡ Some w → w.items ≡ v.items ++ p ∷ [] → shown_in n i ≡ Some (views_before true (shown_in m i) p)
appended m n i v w p a b e = ap (option_map (λ (x : Vec View Global). x.items)) b ∙ ap Some e ∙ ap (λ o. Some (views_before true (option_map (λ (x : Vec View Global). x.items) o) p)) a

nor_false : (a b : Bool) → (a || b) ≡ (a || false || b)
nor_false true b = refl
nor_false false b = refl

-- a message may be held where it says so
pub free_as : (d : Dictionaries) (m : BTreeMap ℤ (Vec View Global)) (id : ℤ) (is_delta : Bool) → ShowsCells d (shown_in m) → (is_delta || not (is_some (get int_cmp m id))) ≡ (is_delta || false || is_absent (found d id))
free_as d m id is_delta shows = ap (λ b. is_delta || b) (by (get int_cmp m id) ∙ ap is_absent (sym (shows id))) ∙ nor_false is_delta (is_absent (found d id))
  where
    by : (o : Option (Vec View Global)) → not (is_some o) ≡ is_absent (option_map (λ vs. joined (map cells_in vs)) (option_map (λ (v : Vec View Global). v.items) o))
    by None = refl
    by (Some v) = refl

-- ── what the message says ──

-- what it means is shown, where the view of its cells is put behind the parts before it
pub message_shown : (s : List Keyed) (below : Ids) (is_little_endian : Bool) (d : Dictionaries) (h h' : Shown) (most : ℕ) (x : DictionaryBatch) (version : MetadataVersion) (body : List ℕ) (k : Kind) (values : TableBatch) (v : View) → values_of_id (fields_with (fields_in s) below) x.id ≡ Some k → (x.is_delta || false || is_absent (found d x.id)) ≡ true
    → batch_reading None None is_little_endian (one_column k) d most version x.values body ≡ Ok values → first_column values.columns ≡ cells_in v
    → h' x.id ≡ Some (views_before x.is_delta (h x.id) v) → ((q : ℤ) → same x.id q ≡ false → h' q ≡ h q) → ShowsCells d h → AddsViews d h' (Ok tt) (dictionary_reading s below is_little_endian d most x version body false)
unfolding bind
message_shown s below is_little_endian d h h' most x version body k values v u free read cells here others shows = record {
  ok = (
    message_read is_little_endian x version body k values,
    message_is s below is_little_endian d most x version body false k u free ∙ ap (λ r. r >>= λ values. Ok (message_read is_little_endian x version body k values)) read,
    shows_more d h h' (message_read is_little_endian x version body k values) v cells here others shows,
  );
  err = tt;
}

-- what is refused of a call
pub adds_err : (r : Result (Unit {0}) IpcError) (e : IpcError) (d : Dictionaries) (h : Shown) (read : Reading HeldDictionary) → IsErr r → IsErrAnd r (λ f. f ≡ e) → Refuses e (refusals read) → AddsViews d h r read
adds_err (Ok u) e d h read a b r = cc
adds_err (Err f) e d h read a b r = record { ok = tt; err = subst (λ g. Refuses g (refusals read)) (sym b) r }

-- a view of a batch that is read is held, or there is no memory for it
pub adds_held : (r : Result (Unit {0}) IpcError) (d : Dictionaries) (h' : Shown) (read : Reading HeldDictionary) (Here : Type 0) → IfErr r (λ e. e ≡ Memory) → IfOk r (λ _. Here) → (Here → AddsViews d h' (Ok tt) read) → AddsViews d h' r read
adds_held (Ok u) d h' read Here memory here f = f here
adds_held (Err e) d h' read Here memory here f = record { ok = tt; err = memory_refuses e _ memory }
