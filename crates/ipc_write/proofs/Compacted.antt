-- A view array that is laid anew has the same cells, and is sound.
use Rattle.std.proofs.Common.{◌≡◌, ℕ, zero, suc, ◌+◌, ◌*◌, ◌%◌, ◌^◌, ◌≤◌, ◌<◌, ◌&&◌, List, [], ◌∷◌, Bool, true, false, Option, Some, None, length, nat_eq, refl, sym, ap, subst, ◌∙◌, arith, inl, inr}
use Rattle.std.specs.Prelude.{not, slice_index_or}
use Rattle.std.specs.Str.{is_utf8}
use Rattle.std.proofs.lemmas.Bool.{and_left, eq-eqb, cases_Bool}
use Rattle.std.proofs.Math.Nat.{mul-mod_right}
use Rattle.arrow_spec.specs.Kinds.{Kind}
use Rattle.arrow_spec.specs.Cells.{Cell, null}
use Rattle.arrow_spec.specs.Arrays.{Dictionaries, from_on, u32_of}
use Rattle.arrow_spec.specs.Faults.{some_row}
use Rattle.arrow_types.specs.Physical.{physical_of}
use Rattle.arrow_buffers.specs.declared.error.ArrayError.{ArrayError}
use Rattle.arrow_buffers.specs.Layouts.{is_view}
use Rattle.arrow_buffers.specs.Rows.{has_rows, is_valid, bytes_cell, masked, masked_by}
use Rattle.arrow_buffers.specs.Views.{Views, view_rows, view_at, view_bytes, is_good_view, is_no_text_view, has_bad_view, has_bad_view_text, view_cells, view_fault}
use Rattle.arrow_buffers.proofs.Parts.{shift-from_on}
use Rattle.arrow_buffers.proofs.Fixed.{quotient}
use Rattle.arrow_buffers.proofs.Rows.{none_below, none_from, fine_here, null_here}
use Rattle.arrow_buffers.proofs.ViewParts.{Seen, view_sound, good_row}
use Rattle.arrow_arrays.specs.LeafParts.{nulls, bits, numbers, fixed, binary, text, binary_views, text_views}
use Rattle.ipc_write_arrays.specs.Dictionaries.{HoldsValuesAt}
use Rattle.arrow_arrays.specs.Parts.{Parts, leaf, nested, kind_in, rows_in, cells_in, fault_in}
use Rattle.arrow_arrays.proofs.PieceLaws.{Viewed}
use Rattle.ipc_write.specs.Compaction.{laid_from, laid_anew, compacted, views_need_compaction, top, top_views, value_at, value_length}
use Rattle.ipc_write.specs.Laying.{LaidFits, ColumnFits}
use Rattle.ipc_write.proofs.CompactedRows.{LongValue, RowViewed, length-laid, laid_rows}
use Rattle.ipc_write.proofs.Laying.{value_size}

-- ── cells of rows that are not null ──

masked_by-same : (marks : List Bool) (f g : ℕ → Cell) (at n : ℕ) → ((k : ℕ) → k < n → slice_index_or marks k true ≡ true → f (at + k) ≡ g (at + k)) → masked_by marks (from_on f at n) ≡ masked_by marks (from_on g at n)
masked_by-same [] f g at n h = refl
masked_by-same (b ∷ marks) f g at zero h = refl
masked_by-same (true ∷ marks) f g at (suc n) h =
    let here : at ≡ at + 0 = omega arith in
    let first : f at ≡ g at = ap f here ∙ h 0 (omega arith) refl ∙ ap g (sym here) in
    let rest : masked_by marks (from_on f (suc at) n) ≡ masked_by marks (from_on g (suc at) n) = masked_by-same marks f g (suc at) n (λ k l e. ap f (omega arith) ∙ h (suc k) (omega arith) e ∙ ap g (omega arith)) in
    ap (λ x. x ∷ masked_by marks (from_on f (suc at) n)) first ∙ ap (λ r. g at ∷ r) rest
masked_by-same (false ∷ marks) f g at (suc n) h =
    let rest : masked_by marks (from_on f (suc at) n) ≡ masked_by marks (from_on g (suc at) n) = masked_by-same marks f g (suc at) n (λ k l e. ap f (omega arith) ∙ h (suc k) (omega arith) e ∙ ap g (omega arith)) in
    ap (λ r. null ∷ r) rest

masked-same : (v : Option (List Bool)) (f g : ℕ → Cell) (n : ℕ) → ((k : ℕ) → k < n → is_valid v k ≡ true → f k ≡ g k) → masked v (from_on f 0 n) ≡ masked v (from_on g 0 n)
masked-same None f g n h =
    shift-from_on f g 0 0 n (λ k l.
    let e : 0 + k ≡ k = omega arith in
    ap f e ∙ h k l refl ∙ ap g (sym e))
masked-same (Some marks) f g n h =
    masked_by-same marks f g 0 n (λ k l v.
    let e : 0 + k ≡ k = omega arith in
    ap f e ∙ h k l v ∙ ap g (sym e))

-- ── tests of a view array ──

-- no text in a row that is the same elsewhere
none_bad : (v g h : Bool) (a b : List ℕ) → g ≡ h → a ≡ b → (v && (h && not (is_utf8 b))) ≡ false → (v && (g && not (is_utf8 a))) ≡ false
none_bad v g h a b e f k = rw (e, f) k

long_value : (is_text s : Bool) (p : Views) → view_fault is_text s p ≡ None → LaidFits p → (row : ℕ) → row < view_rows p.views → is_valid p.validity row ≡ true → 12 < u32_of (view_at p.views row) 0 → LongValue p row
long_value is_text s p e fits row h v long =
    let size : length (value_at p row) ≡ u32_of (view_at p.views row) 0 = value_size is_text s p row e h v long in
    let small : u32_of (view_at p.views row) 0 < 2 ^ 32 = rw v at (fits.lengths row h) in
    record { long = rw size long; small = rw size small }

-- what holds of each row of what is laid anew
pub record Anew (p : Views) : Type 0 where
  pub size : length (compacted p).views ≡ 16 * view_rows p.views
  pub rows : view_rows (compacted p).views ≡ view_rows p.views
  pub viewed : (k : ℕ) → k < view_rows p.views → is_valid p.validity k ≡ true → Viewed (compacted p).buffers (view_at (compacted p).views k) (value_at p k)

pub anew : (is_text s : Bool) (p : Views) → view_fault is_text s p ≡ None → LaidFits p → Anew p
unfolding laid_anew
anew is_text s p e fits =
    let seen = (view_sound is_text s p e).seen in
    let values = long_value is_text s p e fits in
    let all = view_rows p.views in
    let size : length (laid_from p 0 0 [] all).views ≡ 16 * all = length-laid p (λ row lt v long. (values row lt v long).long) all 0 0 [] (omega arith) in
    let few : 0 + length (laid_from p 0 0 [] all).buffers ≤ 2 ^ 32 = omega (arith, fits.buffers) in
    record {
      size = size;
      rows = quotient 16 all _ (omega arith) size;
      viewed = λ k l.
          let e : 0 + k ≡ k = omega arith in
          subst (λ r. RowViewed p (laid_from p 0 0 [] all).buffers (view_at (laid_from p 0 0 [] all).views k) r) e (laid_rows p seen values all 0 0 [] [] refl (omega arith) few k l);
    }

-- ── the laws ──

-- the cells are the same
pub compacted_cells : (is_text suits : Bool) (p : Views) → view_fault is_text suits p ≡ None → LaidFits p → view_cells is_text (compacted p) ≡ view_cells is_text p
compacted_cells is_text suits p e fits =
    let q = compacted p in
    let a = anew is_text suits p e fits in
    let old : ℕ → Cell = λ row. bytes_cell is_text (view_bytes p.buffers (view_at p.views row)) in
    let new : ℕ → Cell = λ row. bytes_cell is_text (view_bytes q.buffers (view_at q.views row)) in
    ap (λ n. masked p.validity (from_on new 0 n)) a.rows ∙ masked-same p.validity new old (view_rows p.views) (λ k l v. ap (bytes_cell is_text) (a.viewed k l v).same)

good_anew : (p : Views) → Anew p → has_bad_view (compacted p).views (compacted p).buffers p.validity ≡ false
unfolding has_bad_view
good_anew p a =
    let q = compacted p in
    let bad : ℕ → Bool = λ row. is_valid p.validity row && not (is_good_view q.buffers (view_at q.views row)) in
    ap (some_row bad) a.rows ∙ none_from bad (view_rows p.views) (λ k l.
    elim (cases_Bool (is_valid p.validity k)) [
      | inl v ↦ fine_here (is_valid p.validity k) (is_good_view q.buffers (view_at q.views k)) (a.viewed k l v).good
      | inr v ↦ null_here (is_valid p.validity k) (is_good_view q.buffers (view_at q.views k)) v
    ])

text_anew : (p : Views) → Seen p → Anew p → has_bad_view_text p.views p.buffers p.validity ≡ false → has_bad_view_text (compacted p).views (compacted p).buffers p.validity ≡ false
unfolding has_bad_view_text
text_anew p seen a e =
    let q = compacted p in
    let bad : ℕ → Bool = λ row. is_valid p.validity row && is_no_text_view q.buffers (view_at q.views row) in
    let before : ℕ → Bool = λ row. is_valid p.validity row && is_no_text_view p.buffers (view_at p.views row) in
    ap (some_row bad) a.rows ∙ none_from bad (view_rows p.views) (λ k l.
    elim (cases_Bool (is_valid p.validity k)) [
      | inl v ↦
          none_bad (is_valid p.validity k) (is_good_view q.buffers (view_at q.views k)) (is_good_view p.buffers (view_at p.views k)) (view_bytes q.buffers (view_at q.views k)) (view_bytes p.buffers (view_at p.views k))
          ((a.viewed k l v).good ∙ sym (good_row p k seen l v)) (a.viewed k l v).same (none_below before (view_rows p.views) e k l)
      | inr v ↦ and_left (is_valid p.validity k) (is_no_text_view q.buffers (view_at q.views k)) v
    ])

texts_anew : (is_text : Bool) (p : Views) → Seen p → Anew p → (is_text && has_bad_view_text p.views p.buffers p.validity) ≡ false → (is_text && has_bad_view_text (compacted p).views (compacted p).buffers p.validity) ≡ false
texts_anew true p seen a e = text_anew p seen a e
texts_anew false p seen a e = refl

-- and no test fails
pub compacted_sound : (is_text suits : Bool) (p : Views) → view_fault is_text suits p ≡ None → LaidFits p → view_fault is_text suits (compacted p) ≡ None
compacted_sound is_text suits p e fits =
    let q = compacted p in
    let a = anew is_text suits p e fits in
    let sound = view_sound is_text suits p e in
    let whole : nat_eq (length q.views % 16) 0 ≡ true = eq-eqb (length q.views % 16) 0 (rw a.size (mul-mod_right 16 (view_rows p.views))) in
    let rows : has_rows p.validity (view_rows q.views) ≡ true = rw a.rows sound.seen.rows in
    rw (sound.suits, whole, rows, texts_anew is_text p sound.seen a sound.texts, good_anew p a) refl

-- so such parts are an array
pub never_refused : (is_text : Bool) (p : Views) (k : Kind) (views : List ℕ) (buffers : List (List ℕ)) (validity : Option (List Bool)) (e : ArrayError) → view_fault is_text (is_view is_text (physical_of p.kind)) p ≡ None
    → ((row : ℕ) → row < view_rows p.views → value_length p row < 2 ^ 32) → laid_anew p ≡ record { views = views; buffers = buffers } → length buffers ≤ 2 ^ 32 → k ≡ p.kind → validity ≡ p.validity
    → view_fault is_text (is_view is_text (physical_of k)) (record { kind = k; views = views; buffers = buffers; validity = validity }) ≡ Some e → ⊥
never_refused is_text p k views buffers validity e sound lengths laid few kinds valid refused =
    let fine : view_fault is_text (is_view is_text (physical_of p.kind)) (compacted p) ≡ None = compacted_sound is_text (is_view is_text (physical_of p.kind)) p sound (record { lengths = lengths; buffers = rw laid few }) in
    let here : view_fault is_text (is_view is_text (physical_of p.kind)) (record { kind = p.kind; views = views; buffers = buffers; validity = p.validity }) ≡ None = rw laid at fine in
    let same : view_fault is_text (is_view is_text (physical_of p.kind)) (record { kind = p.kind; views = views; buffers = buffers; validity = p.validity }) ≡ Some e = rw (kinds, valid) at refused in
    let both : None ≡ Some e = sym here ∙ same in
    cc

-- ── columns ──

top_views_cells : (is_text suits : Bool) (p : Views) → view_fault is_text suits p ≡ None → (views_need_compaction p ≡ true → LaidFits p) → view_cells is_text (top_views p) ≡ view_cells is_text p
top_views_cells is_text suits p e fits =
    elim (cases_Bool (views_need_compaction p)) [
      | inl c ↦ rw c (compacted_cells is_text suits p e (fits c))
      | inr c ↦ rw c refl
    ]

kind_kept : (p : Views) → (top_views p).kind ≡ p.kind
kind_kept p =
    elim (cases_Bool (views_need_compaction p)) [
      | inl c ↦ rw c refl
      | inr c ↦ rw c refl
    ]

-- a top column has the same cells
pub top_cells : (p : Parts) → fault_in p ≡ None → ColumnFits p → cells_in (top p) ≡ cells_in p
top_cells (leaf (binary_views p)) e fits = top_views_cells false (is_view false (physical_of p.kind)) p e fits
top_cells (leaf (text_views p)) e fits = top_views_cells true (is_view true (physical_of p.kind)) p e fits
top_cells (leaf (nulls n)) e fits = refl
top_cells (leaf (bits f)) e fits = refl
top_cells (leaf (numbers f)) e fits = refl
top_cells (leaf (fixed f)) e fits = refl
top_cells (leaf (binary p)) e fits = refl
top_cells (leaf (text p)) e fits = refl
top_cells (nested h cs) e fits = refl

top_views_rows : (is_text suits : Bool) (p : Views) → view_fault is_text suits p ≡ None → (views_need_compaction p ≡ true → LaidFits p) → view_rows (top_views p).views ≡ view_rows p.views
top_views_rows is_text suits p e fits =
    elim (cases_Bool (views_need_compaction p)) [
      | inl c ↦ rw c (anew is_text suits p e (fits c)).rows
      | inr c ↦ rw c refl
    ]

-- and has as many rows
pub top_rows : (p : Parts) → fault_in p ≡ None → ColumnFits p → rows_in (top p) ≡ rows_in p
top_rows (leaf (binary_views p)) e fits = top_views_rows false (is_view false (physical_of p.kind)) p e fits
top_rows (leaf (text_views p)) e fits = top_views_rows true (is_view true (physical_of p.kind)) p e fits
top_rows (leaf (nulls n)) e fits = refl
top_rows (leaf (bits f)) e fits = refl
top_rows (leaf (numbers f)) e fits = refl
top_rows (leaf (fixed f)) e fits = refl
top_rows (leaf (binary p)) e fits = refl
top_rows (leaf (text p)) e fits = refl
top_rows (nested h cs) e fits = refl

-- the same kind
pub top_kind : (p : Parts) → kind_in (top p) ≡ kind_in p
top_kind (leaf (binary_views p)) = kind_kept p
top_kind (leaf (text_views p)) = kind_kept p
top_kind p = refl

-- and the same dictionaries
pub top_held : (d : Dictionaries) (k : Kind) (p : Parts) → HoldsValuesAt d k p → HoldsValuesAt d k (top p)
top_held d k (leaf (binary_views p)) h = tt
top_held d k (leaf (text_views p)) h = tt
top_held d k p h = h
