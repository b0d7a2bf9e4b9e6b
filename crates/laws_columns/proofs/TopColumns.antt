-- What is to be written of a top column that was read is what its parts are written with.
use Rattle.std.proofs.Common.{◌≡◌, ℕ, zero, suc, ◌+◌, ◌*◌, List, [], ◌∷◌, ◌++◌, Bool, true, false, Option, None, length, map, cond, pos, refl, sym, ap, subst, ◌∙◌, arith, inl, inr}
use Rattle.std.specs.Prelude.{◌||◌}
use Rattle.std.proofs.lemmas.Bool.{cases_Bool}
use Rattle.std.proofs.lemmas.List.{length-map}
use Rattle.arrow_spec.specs.Kinds as kinds
use Rattle.arrow_spec.specs.Kinds.{Kind, small, large}
use Rattle.arrow_spec.specs.Counts.{RecordBatch, Place, Written, count_at}
use Rattle.arrow_spec.specs.Arrays.{Dictionaries}
use Rattle.arrow_spec.specs.Faults.{array_faults, node_faults, view_parts_faults, view_text_faults, views_faults}
use Rattle.arrow_spec.specs.Sent as sent
use Rattle.arrow_spec.specs.Sent.{compacted_written, lengths_on, own, top_views_written, top_written, views_written, with_views, written}
use Rattle.arrow_spec.proofs.Fewer.{none_second, sound_first}
use Rattle.arrow_types.specs.Physical.{physical_of}
use Rattle.arrow_types.specs.declared.physical.PhysicalType.{PhysicalType}
use Rattle.arrow_types.specs.declared.physical.PhysicalType.TheVariants as physical
use Rattle.ipc_write.specs.Below.{binary_size, is_view, null_rows, Views, view_fault, view_rows, is_leaf_kind, is_leaf_layout, binary_views, text_views, leaf_fault_in, Parts, leaf, nested, fault_in, is_carried, Held, HoldsCells, HoldsKinds, contents_of, parts_in, parts_read, validity_read, views_read, plain_kind, validity_bytes, written_in}
use Rattle.ipc_write.proofs.Below.{quotient, faults_by_layout, like_itself, sound_under, parts_sound, read_plain, all_written, is_nested, nested_under, nulls-read, length-rows, views_held, validity_bytes-read}
use Rattle.laws_transcode.specs.Below.{written_of}
use Rattle.ipc_write.specs.Compaction.{compacted, views_need_compaction, laid_anew, top, top_views}
use Rattle.ipc_write.specs.Batches.{top_column}
use Rattle.laws_columns.specs.Laws.{TopIsSent}
use Rattle.laws_columns.proofs.Pieces.{by_lengths, length-validity}
use Rattle.laws_columns.proofs.TreeLengths.{column_written}
use Rattle.laws_columns.proofs.LaidRows.{AreRead, anew_lengths, anew_views, are_read, compacted_same}

-- ── views ──

one_more : (a b : ℕ) (xs ys : List ℕ) → a ≡ b → xs ≡ ys → a ∷ xs ≡ b ∷ ys
one_more a b xs ys e f = rw (e, f) refl

-- what a node, a validity and lengths are written with
views_held_so : (m : RecordBatch) (p : Place) (rows n : ℕ) (v : Option (List Bool)) (lengths held counts counted : List ℕ) → v ≡ validity_read m p rows → n ≡ rows → held ≡ lengths → counted ≡ counts
    → with_views counts (own m p rows 0 rows lengths) ≡ record { nodes = record { length = pos n; null_count = pos (null_rows v) } ∷ []; lengths = validity_bytes v ∷ held; views = counted }
views_held_so m p rows n v lengths held counts counted h e f g = rw (h, e, f, g, nulls-read m p rows, validity_bytes-read m p rows) refl

-- views of so many rows, and buffers of some lengths
views_as : (m : RecordBatch) (p : Place) (rows count : ℕ) (q : Views) (lengths : List ℕ) → q.validity ≡ validity_read m p rows → length q.views ≡ 16 * rows → map length q.buffers ≡ lengths → count ≡ length lengths
    → with_views (count ∷ []) (own m p rows 0 rows (16 * rows ∷ lengths)) ≡ written_in (leaf (binary_views q))
views_as m p rows count q lengths h e f g =
    let many : length q.buffers ≡ count = sym (length-map q.buffers length) ∙ ap length f ∙ sym g in
    views_held_so m p rows (view_rows q.views) q.validity _ _ _ _ h (quotient 16 rows (length q.views) (omega arith) e) (one_more _ _ _ _ e f) (one_more _ _ [] [] many refl)

count_on : (m : RecordBatch) (i n : ℕ) → n ≡ length (lengths_on m i n)
count_on m i zero = refl
count_on m i (suc n) = omega (arith, count_on m (suc i) n)

-- one of two ways, on both sides
either_way : (a b : Bool) (x y : Written) (f : Views → Written) (q r : Views) → a ≡ b → x ≡ f q → y ≡ f r → cond a x y ≡ f (cond b q r)
either_way true true x y f q r e h k = h
either_way false false x y f q r e h k = k
either_way true false x y f q r e h k = cc
either_way false true x y f q r e h k = cc

views_sent : (is_text s : Bool) (m : RecordBatch) (k : Kind) (p : Place) (n : ℕ) → view_parts_faults m p (suc n) ≡ [] → view_fault is_text s (views_read m k p (suc n)) ≡ None
    → top_views_written m p (suc n) ≡ written_in (leaf (binary_views (top_views (views_read m k p (suc n)))))
views_sent is_text s m k p n parts fine =
    let q = views_read m k p (suc n) in
    let is : AreRead m p (suc n) q = are_read is_text s m k p n parts fine in
    let new = sent.compacted m p 0 0 (suc n) in
    either_way (sent.needs_compaction m p (suc n)) (views_need_compaction q) (compacted_written m p (suc n)) (views_written m p (suc n) 0 (suc n)) (λ v. written_in (leaf (binary_views v))) (compacted q) q (compacted_same m p (suc n) q is)
    (views_as m p (suc n) (length new) (compacted q) new refl (anew_views m p (suc n) q is) (anew_lengths m p (suc n) q is) refl)
    (views_as m p (suc n) (count_at m p.view) q (lengths_on m (p.buffer + 2) (count_at m p.view)) refl (length-rows m 16 (p.buffer + 1) (suc n) (views_held m p (suc n) parts)) is.buffers (count_on m (p.buffer + 2) (count_at m p.view)))

no_views_sent : (m : RecordBatch) (k : Kind) (p : Place) → top_views_written m p 0 ≡ written_in (leaf (binary_views (top_views (views_read m k p 0))))
unfolding views_need_compaction laid_anew
no_views_sent m k p = refl

-- ── by the layout ──

-- a top column by its layout
abbrev top_in : PhysicalType → RecordBatch → Kind → Place → ℕ → Written
top_in physical.BinaryView m k p rows = top_views_written m p rows
top_in physical.Utf8View m k p rows = top_views_written m p rows
top_in layout m k p rows = written m k p rows 0 rows

extended : (m : RecordBatch) (name : List ℕ) (metadata : Option (List ℕ)) (k : Kind) (p : Place) (rows : ℕ) (l : PhysicalType) → top_in l m k p rows ≡ top_in l m (kinds.extension name metadata k) p rows
unfolding written
extended m name metadata k p rows physical.BinaryView = refl
extended m name metadata k p rows physical.Utf8View = refl
extended m name metadata k p rows l = refl

top_by_layout : (m : RecordBatch) (k : Kind) (p : Place) (rows : ℕ) → top_written m k p rows ≡ top_in (physical_of k) m k p rows
top_by_layout m (kinds.binary small) p rows = refl
top_by_layout m (kinds.binary large) p rows = refl
top_by_layout m (kinds.utf8 small) p rows = refl
top_by_layout m (kinds.utf8 large) p rows = refl
top_by_layout m (kinds.«list» small fs) p rows = refl
top_by_layout m (kinds.«list» large fs) p rows = refl
top_by_layout m (kinds.extension name metadata k) p rows = top_by_layout m k p rows ∙ extended m name metadata k p rows (physical_of k)
top_by_layout m k p rows = refl

module _ (m : RecordBatch) (d : Dictionaries) (k : Kind) (p : Place) (rows : ℕ) (childless : is_leaf_kind k ≡ true) where
  -- what is wrong by the layout is nothing
  nothing_wrong : (l : PhysicalType) → physical_of k ≡ l → array_faults m d k p rows ≡ [] → contents_of l (binary_size k) m p rows ≡ []
  nothing_wrong l e h = none_second (node_faults m p rows) _ (subst (λ x. node_faults m p rows ++ contents_of x (binary_size k) m p rows ≡ []) e (sym (faults_by_layout m d k p rows childless) ∙ h))

  -- nor with the parts
  parts_fine : (l : PhysicalType) → physical_of k ≡ l → array_faults m d k p rows ≡ [] → leaf_fault_in (parts_in l m k p rows) ≡ None
  parts_fine l e h = subst (λ x. leaf_fault_in (parts_in x m k p rows) ≡ None) e (sound_under m d k k p rows childless (like_itself k) h)

binary_parts : (m : RecordBatch) (p : Place) (n : ℕ) → views_faults m p (suc n) ≡ [] → view_parts_faults m p (suc n) ≡ []
unfolding views_faults
binary_parts m p n h = sound_first _ _ h

text_parts : (m : RecordBatch) (p : Place) (n : ℕ) → view_text_faults m p (suc n) ≡ [] → view_parts_faults m p (suc n) ≡ []
unfolding view_text_faults
text_parts m p n h = sound_first _ _ h

-- ── parts of a layout ──

-- an array without children is read by its layout
as_leaf : (m : RecordBatch) (h : Held) (k : Kind) (p : Place) (rows : ℕ) (l : PhysicalType) → physical_of k ≡ l → is_leaf_kind k ≡ true → leaf (parts_in l m k p rows) ≡ parts_read m h k p rows
as_leaf m h k p rows l e is = ap (λ x. leaf (parts_in x m k p rows)) (sym e) ∙ read_plain m h k p rows is

leaf_by : (k : Kind) (l : PhysicalType) → physical_of k ≡ l → is_leaf_layout l (binary_size k) ≡ true → is_leaf_kind k ≡ true
leaf_by k l e is = ap (λ x. is_leaf_layout x (binary_size k)) e ∙ is

-- only views are laid anew
top_plain : (l : PhysicalType) (m : RecordBatch) (k : Kind) (p : Place) (rows : ℕ) → (is_view false l || is_view true l) ≡ false → top (leaf (parts_in l m k p rows)) ≡ leaf (parts_in l m k p rows)
top_plain physical.BinaryView m k p rows none = cc
top_plain physical.Utf8View m k p rows none = cc
top_plain l m k p rows none = refl

top_nested : (q : Parts) → is_nested q ≡ true → top q ≡ q
top_nested (leaf l) is = cc
top_nested (nested h cs) is = refl

top_kept : (m : RecordBatch) (h : Held) (k : Kind) (p : Place) (rows : ℕ) (l : PhysicalType) → physical_of k ≡ l → (is_view false l || is_view true l) ≡ false → is_carried k ≡ true → top (parts_read m h k p rows) ≡ parts_read m h k p rows
top_kept m h k p rows l e none carried = elim (cases_Bool (is_leaf_kind k)) [
  | inl is ↦ subst (λ q. top q ≡ q) (as_leaf m h k p rows l e is) (top_plain l m k p rows none)
  | inr other ↦ top_nested (parts_read m h k p rows) (nested_under k carried other (plain_kind k) m h p rows)
]

by_layout : (m : RecordBatch) (d : Dictionaries) (h : Held) (k : Kind) (p : Place) (rows : ℕ) (l : PhysicalType) → physical_of k ≡ l → HoldsCells d h → HoldsKinds h k → is_carried k ≡ true → array_faults m d k p rows ≡ [] → top_in l m k p rows ≡ written_in (top (parts_read m h k p rows))
by_layout m d h k p zero physical.BinaryView e c v carried fine = no_views_sent m k p ∙ ap (λ q. written_in (top q)) (as_leaf m h k p 0 physical.BinaryView e (leaf_by k physical.BinaryView e refl))
by_layout m d h k p zero physical.Utf8View e c v carried fine = no_views_sent m k p ∙ ap (λ q. written_in (top q)) (as_leaf m h k p 0 physical.Utf8View e (leaf_by k physical.Utf8View e refl))
by_layout m d h k p (suc n) physical.BinaryView e c v carried fine =
    let is = leaf_by k physical.BinaryView e refl in
    let sound = parts_fine m d k p (suc n) is physical.BinaryView e fine in
    views_sent false (is_view false (physical_of k)) m k p n (binary_parts m p n (nothing_wrong m d k p (suc n) is physical.BinaryView e fine)) sound
    ∙ ap (λ q. written_in (top q)) (as_leaf m h k p (suc n) physical.BinaryView e is)
by_layout m d h k p (suc n) physical.Utf8View e c v carried fine =
    let is = leaf_by k physical.Utf8View e refl in
    let sound = parts_fine m d k p (suc n) is physical.Utf8View e fine in
    views_sent true (is_view true (physical_of k)) m k p n (text_parts m p n (nothing_wrong m d k p (suc n) is physical.Utf8View e fine)) sound
    ∙ ap (λ q. written_in (top q)) (as_leaf m h k p (suc n) physical.Utf8View e is)
by_layout m d h k p rows l e c v carried fine = all_written m d h k p rows c v carried fine ∙ ap written_in (sym (top_kept m h k p rows l e refl carried))

-- ── as a column ──

-- sound parts as a top column
top_column_written : (q : Parts) → fault_in q ≡ None → written_in (top q) ≡ written_of (top_column q ∷ [])
top_column_written (leaf (binary_views q)) h = let r = top_views q in by_lengths (binary_views r) (ap (λ n. n ∷ length r.views ∷ map length r.buffers) (length-validity r.validity))
top_column_written (leaf (text_views q)) h = let r = top_views q in by_lengths (text_views r) (ap (λ n. n ∷ length r.views ∷ map length r.buffers) (length-validity r.validity))
top_column_written q h = column_written q h

pub top_sent : TopIsSent
top_sent m d h k p rows c v carried fine = top_by_layout m k p rows ∙ by_layout m d h k p rows (physical_of k) refl c v carried fine ∙ top_column_written (parts_read m h k p rows) (parts_sound m d h k p rows c v carried fine).no_fault
