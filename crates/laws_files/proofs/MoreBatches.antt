-- A batch that was read, or that may be written, is read and may be written where more is known.
use Rattle.std.proofs.Common.{◌≡◌, ℕ, suc, List, [], ◌∷◌, ◌++◌, Option, Some, None, Ok, Bool, true, false, refl, sym, ◌∙◌, ap, arith, cond, ℤ}
use Rattle.std.specs.List.{AllByRecursion}
use Rattle.arrow_spec.specs.Flat.{Order, little}
use Rattle.arrow_spec.specs.declared.message.MetadataVersion.{MetadataVersion}
use Rattle.arrow_spec.specs.Kinds.{Fields, Kind, Metadata, none, field, same}
use Rattle.arrow_spec.specs.Cells.{Cell}
use Rattle.arrow_spec.specs.Counts.{RecordBatch, Place, after}
use Rattle.arrow_spec.specs.Arrays.{Dictionaries, HeldDictionary, cells_before, found, from_on}
use Rattle.arrow_spec.specs.ArrayCells.{cell}
use Rattle.arrow_spec.specs.Columns.{columns_at}
use Rattle.arrow_spec.specs.Faults.{column_faults}
use Rattle.arrow_spec.specs.Messages.{BatchHeader}
use Rattle.arrow_spec.specs.Files.{TableBatch, batch_of_tables, record_batch_of, to_read}
use Rattle.arrow_spec.proofs.Fewer.{along, none_second}
use Rattle.arrow_spec.proofs.Projection.{ok-place, on, place-ok}
use Rattle.arrow_spec.proofs.ReadPairs.{through}
use Rattle.ipc_write_laws.specs.Columns.{Means, WrittenColumn}
use Rattle.ipc_write_laws.specs.Messages.{AllMayBeWritten, BatchMayBeWritten, IsKnown, Known, WrittenMessage, batch, values, with_messages, with_values}
use Rattle.ipc_write_laws.specs.Streams.{WrittenBatch}
use Rattle.laws_files.specs.Files.{AllBatchesMayBeWritten, AllValuesMayBeWritten, AreDeltasOrFirst, GoesOn, MayBeAdded, all_of}
use Rattle.laws_files.proofs.Lists.{all_go_on, same_is}
use Rattle.laws_files.proofs.MoreKnown.{array_faults-more, cell-more, from_on-same}

-- ── what is read ──

module _ (d d' : Dictionaries) (goes : GoesOn (λ id. found d id) (λ id. found d' id)) where
  column_faults-more : (m : RecordBatch) (k : Kind) (p : Place) (rows few : ℕ) → column_faults m d k p rows few ≡ [] → column_faults m d' k p rows few ≡ []
  unfolding column_faults
  column_faults-more m k p rows few h = along _ _ _ _ (λ x. x) (array_faults-more m d d' goes k p few) h

  cells-more : (m : RecordBatch) (k : Kind) (p : Place) (rows few : ℕ) → column_faults m d k p rows few ≡ [] → from_on (cell m d' k p) 0 few ≡ from_on (cell m d k p) 0 few
  unfolding column_faults
  cells-more m k p rows few h = from_on-same _ _ 0 few (λ j above below. cell-more m d d' goes k p few j (omega (arith, below)) (none_second _ _ h))

  columns_at-more : (fs : Fields) (m : RecordBatch) (c : ℕ) (p : Place) (rows few : ℕ) (cols : List (List Cell)) → columns_at m d None fs c p rows few ≡ Ok cols → columns_at m d' None fs c p rows few ≡ Ok cols
  unfolding columns_at
  columns_at-more none m c p rows few cols h = h
  columns_at-more (field name nullable metadata k others) m c p rows few cols h =
      through _ _ cols h λ u u_is h1. through _ _ cols h1 λ rest rest_is h2.
      let fits = place-ok _ u_is in
      on _ _ tt (ok-place _ (column_faults-more m k p rows few fits)) ∙ on _ _ rest (columns_at-more others m (suc c) (after m k p) rows few rest rest_is) ∙ ap (λ xs. Ok (xs ∷ rest)) (cells-more m k p rows few fits) ∙ h2

  -- a batch that was read is read where more is known
  pub batch_of_tables-more : (fs : Fields) (most : ℕ) (v : MetadataVersion) (custom : Metadata) (tables : BatchHeader) (body : List ℕ) (x : TableBatch) → batch_of_tables to_read (all_of fs d most) v custom tables body None ≡ Ok x → batch_of_tables to_read (all_of fs d' most) v custom tables body None ≡ Ok x
  unfolding batch_of_tables
  batch_of_tables-more fs most v custom tables body x h =
      through _ _ x h λ u u_is h1. through _ _ x h1 λ rows rows_are h2. through _ _ x h2 λ u' u'_is h3. through _ _ x h3 λ room room_is h4. through _ _ x h4 λ cols cols_are h5.
      on _ _ u u_is ∙ on _ _ rows rows_are ∙ on _ _ u' u'_is ∙ on _ _ room room_is ∙ on _ _ cols (columns_at-more fs (record_batch_of little v tables body) 0 _ rows rows cols cols_are) ∙ h5

  -- a column that means its cells means them where more is known
  means-more : (order : Order) (rows : ℕ) (c : WrittenColumn) → Means order d rows c → Means order d' rows c
  means-more order rows c w = record {
    node_count = w.node_count;
    view_count = w.view_count;
    buffer_count = w.buffer_count;
    right = λ m p o v s. column_faults-more m c.kind p rows rows (w.right m p o v s);
    cells_read = λ m p o v s. cells-more m c.kind p rows rows (w.right m p o v s) ∙ w.cells_read m p o v s;
  }

  all_mean-more : (rows : ℕ) (cs : List WrittenColumn) → AllByRecursion (λ c. Means little d rows c) cs → AllByRecursion (λ c. Means little d' rows c) cs
  all_mean-more rows [] h = tt
  all_mean-more rows (c ∷ cs) h = (means-more little rows c h.0, all_mean-more rows cs h.1)

-- ── what is known alone ──

-- the dictionaries that are known among those read, with the cells that are
with_known : Option (List Cell) → HeldDictionary → Dictionaries → Dictionaries
with_known None x d = d
with_known (Some cells) x d = record { id = x.id; is_delta = false; cells = cells; written = x.written } ∷ d

only_known : Known → Dictionaries → Dictionaries
only_known c [] = []
only_known c (x ∷ d) = with_known (c x.id) x (only_known c d)

-- one under another id is passed over
other_with : (old : Option (List Cell)) (x : HeldDictionary) (d : Dictionaries) (id : ℤ) → same x.id id ≡ false → found (with_known old x d) id ≡ found d id
unfolding with_known
other_with None x d id e = refl
other_with (Some cells) x d id e = rw e refl

own_with : (old : Option (List Cell)) (cells : List Cell) (x : HeldDictionary) (d : Dictionaries) (id : ℤ) → same x.id id ≡ true → old ≡ Some cells → found (with_known old x d) id ≡ Some cells
unfolding with_known
own_with None cells x d id e h = cc
own_with (Some xs) cells x d id e h = rw e h

none_with : (old : Option (List Cell)) (x : HeldDictionary) (d : Dictionaries) (id : ℤ) → old ≡ None → found (with_known old x d) id ≡ found d id
unfolding with_known
none_with None x d id h = refl
none_with (Some xs) x d id h = cc

none_there : (d : Dictionaries) (c : Known) (id : ℤ) → c id ≡ None → found (only_known c d) id ≡ None
unfolding only_known
none_there [] c id e = refl
none_there (x ∷ d) c id e = by (none_there d c id e) (same x.id id) refl
  where
    by : found (only_known c d) id ≡ None → (t : Bool) → same x.id id ≡ t → found (with_known (c x.id) x (only_known c d)) id ≡ None
    by others true s = none_with (c x.id) x (only_known c d) id (ap c (same_is x.id id s) ∙ e) ∙ others
    by others false s = other_with (c x.id) x (only_known c d) id s ∙ others

some_there : (d : Dictionaries) (c : Known) (id : ℤ) (cells xs : List Cell) → c id ≡ Some cells → found d id ≡ Some xs → found (only_known c d) id ≡ Some cells
unfolding only_known
some_there [] c id cells xs e h = cc
some_there (x ∷ d) c id cells xs e h = by (λ g. some_there d c id cells xs e g) (same x.id id) refl h
  where
    by : (found d id ≡ Some xs → found (only_known c d) id ≡ Some cells) → (t : Bool) → same x.id id ≡ t → cond t (Some (cells_before x.is_delta (found d id) ++ x.cells)) (found d id) ≡ Some xs → found (with_known (c x.id) x (only_known c d)) id ≡ Some cells
    by others true s g = own_with (c x.id) cells x (only_known c d) id s (ap c (same_is x.id id s) ∙ e)
    by others false s g = other_with (c x.id) x (only_known c d) id s ∙ others g

only_known-known : (c : Known) (d : Dictionaries) → GoesOn c (λ id. found d id) → IsKnown c (only_known c d)
only_known-known c d goes id = by (c id) refl
  where
    by : (old : Option (List Cell)) → c id ≡ old → found (only_known c d) id ≡ c id
    by None e = none_there d c id e ∙ sym e
    by (Some cells) e = let g = goes id cells e in some_there d c id cells (cells ++ g.0) e g.1 ∙ sym e

-- ── what may be written ──

batch_may-more : (fs : Fields) (c c' : Known) (x : WrittenBatch) → GoesOn c c' → BatchMayBeWritten fs c x → BatchMayBeWritten fs c' x
batch_may-more fs c c' x goes w = record {
  kinds = w.kinds;
  good = λ d known.
      let g : GoesOn c (λ id. found d id) = λ id cells e. (let a = goes id cells e in (a.0, known id ∙ a.1)) in
      let old = only_known-known c d g in
      all_mean-more (only_known c d) d (λ id cells e. g id cells (sym (old id) ∙ e)) x.rows x.columns (w.good (only_known c d) old);
  few = w.few;
  nodes = w.nodes;
  views = w.views;
  custom = w.custom;
  size = w.size;
}

pub batches_may-more : (ms : List WrittenMessage) (fs : Fields) (c c' : Known) → GoesOn c c' → AllBatchesMayBeWritten fs c ms → AllBatchesMayBeWritten fs c' ms
batches_may-more [] fs c c' goes w = tt
batches_may-more (values x ∷ ms) fs c c' goes w = batches_may-more ms fs c c' goes w
batches_may-more (batch x ∷ ms) fs c c' goes w = (batch_may-more fs c c' x goes w.0, batches_may-more ms fs c c' goes w.1)

-- messages of a stream that are deltas or the first of their ids may be put into a file
values_may : (ms : List WrittenMessage) (fs : Fields) (c : Known) → AllMayBeWritten fs c ms → AreDeltasOrFirst c ms → AllValuesMayBeWritten fs c ms
values_may [] fs c w f = tt
values_may (values x ∷ ms) fs c w f = (w.0, f.0, values_may ms fs (with_values x c) w.1 f.1)
values_may (batch x ∷ ms) fs c w f = values_may ms fs c w.1 f

batches_may : (ms : List WrittenMessage) (fs : Fields) (c : Known) → AllMayBeWritten fs c ms → AreDeltasOrFirst c ms → AllBatchesMayBeWritten fs (with_messages ms c) ms
batches_may [] fs c w f = tt
batches_may (values x ∷ ms) fs c w f = batches_may ms fs (with_values x c) w.1 f.1
batches_may (batch x ∷ ms) fs c w f = (batch_may-more fs c (with_messages ms c) x (all_go_on ms fs c (values_may ms fs c w.1 f)) w.0, batches_may ms fs c w.1 f)

pub may_be_added : (fs : Fields) (c : Known) (ms : List WrittenMessage) → AllMayBeWritten fs c ms → AreDeltasOrFirst c ms → MayBeAdded fs c ms
may_be_added fs c ms w f = record { values = values_may ms fs c w f; batches = batches_may ms fs c w f }
