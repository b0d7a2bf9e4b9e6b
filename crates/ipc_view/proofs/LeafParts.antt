-- The parts of views of arrays without children, and what is wrong with these.
use Rattle.std.proofs.Common.{◌≡◌, ℕ, zero, suc, ◌*◌, List, [], ◌++◌, inl, Bool, true, false, refl, sym, ap, ◌∙◌, arith, subst}
use Rattle.std.specs.Prelude.{drop, not, take, ◌&&◌}
use Rattle.arrow_spec.specs.declared.error.IpcError.{IpcError}
use Rattle.arrow_spec.specs.declared.error.IpcError.TheVariants.{OutOfSpec}
use Rattle.arrow_spec.specs.declared.error.OutOfSpecKind.TheVariants.{InvalidUtf8, InvalidView}
use Rattle.arrow_spec.specs.Readings.{Refuses}
use Rattle.arrow_spec.specs.Kinds.{Kind}
use Rattle.arrow_spec.specs.Counts.{RecordBatch, Place}
use Rattle.arrow_spec.specs.Arrays.{Dictionaries}
use Rattle.arrow_spec.specs.Faults.{array_faults, bad_view_faults, cause, data_faults, fixed_faults, if_sound, is_no_text_view, node_faults, numbers_faults, range_faults, some_row, some_valid_row, validity_faults, view_parts_faults}
use Rattle.arrow_spec.specs.Faults as refused
use Rattle.arrow_spec.specs.Arrays.{view_of}
use Rattle.arrow_buffers.specs.Views as held
use Rattle.ipc_read.proofs.Refusals.{both_none, refuses_left, refuses_right, refuses_sound}
use Rattle.ipc_read_laws.proofs.Buffers.{some_row-same}
use Rattle.ipc_read_laws.proofs.ViewsRead.{good-view, no_text-view}
use Rattle.view_types.specs.declared.layout.Layout.{Layout}
use Rattle.view_types.specs.declared.layout.Layout.TheVariants.{Null, Boolean, Number, DayTime, MonthDayNano, Bytes, Views as Viewed, FixedBytes, Dictionary}
use Rattle.view_types.specs.Sound.{IsSound, Stands}
use Rattle.view_types.specs.Views.{Top, array, none, is_keys, view_in}
use Rattle.ipc_view.specs.Built.{IsViewOf}
use Rattle.ipc_view.specs.Layouts.{AreGood, IsLeafOf, ShowsData, buffers_told, contents_faults, empty_top, is_bad_text_view, is_bad_view, is_leaf, is_leaf_layout, kind_layout, view_causes, viewed_faults}
use Rattle.ipc_view.proofs.LeafFaults.{leaf_none, leaf_told}
use Rattle.ipc_view.proofs.Strings.{whole_parts}
use Rattle.ipc_view.proofs.Viewed.{row_good, views_stand}

-- ── refusals ──

pub leaf_node_refused : (m : RecordBatch) (d : Dictionaries) (k : Kind) (p : Place) (rows : ℕ) (e : IpcError) → is_leaf k ≡ true → Refuses e (node_faults m p rows) → Refuses e (array_faults m d k p rows)
leaf_node_refused m d k p zero e l h = subst (λ es. Refuses e es) (sym (leaf_none m d k p l)) (refuses_left (node_faults m p 0) [] e h)
leaf_node_refused m d k p (suc n) e l h = subst (λ es. Refuses e es) (sym (leaf_told m d k p n l)) (refuses_left (node_faults m p (suc n)) _ e h)

pub leaf_refused : (m : RecordBatch) (d : Dictionaries) (k : Kind) (l : Layout) (p : Place) (rows : ℕ) (e : IpcError) → is_leaf k ≡ true → kind_layout k ≡ l → (rows ≡ 0 → ⊥) → Refuses e (contents_faults m l p rows) → Refuses e (array_faults m d k p rows)
leaf_refused m d k l p zero e f is some h = absurd (some refl)
leaf_refused m d k l p (suc n) e f is some h =
    subst (λ es. Refuses e es) (sym (leaf_told m d k p n f)) (refuses_right (node_faults m p (suc n)) _ e (subst (λ x. Refuses e (contents_faults m x p (suc n))) (sym is) h))

pub leaf_fits : (m : RecordBatch) (d : Dictionaries) (k : Kind) (l : Layout) (p : Place) (rows : ℕ) → is_leaf k ≡ true → kind_layout k ≡ l → (rows ≡ 0 → ⊥) → node_faults m p rows ≡ [] → contents_faults m l p rows ≡ [] → array_faults m d k p rows ≡ []
leaf_fits m d k l p zero f is some node h = absurd (some refl)
leaf_fits m d k l p (suc n) f is some node h = leaf_told m d k p n f ∙ both_none (node_faults m p (suc n)) _ node (ap (λ x. contents_faults m x p (suc n)) is ∙ h)

pub none_fits : (m : RecordBatch) (d : Dictionaries) (k : Kind) (p : Place) (rows : ℕ) → is_leaf k ≡ true → rows ≡ 0 → node_faults m p rows ≡ [] → array_faults m d k p rows ≡ []
none_fits m d k p zero f few node = leaf_none m d k p f ∙ both_none (node_faults m p 0) [] node refl
none_fits m d k p (suc n) f few node = cc

-- the parts of a view of no rows show anything
pub none_shown : (m : RecordBatch) (d : Dictionaries) (k : Kind) (p : Place) (rows : ℕ) (t : Top) → rows ≡ 0 → t.rows ≡ 0 → IsViewOf m d k p rows (array t none)
none_shown m d k p rows t few e = record { all_rows = e ∙ sym few; cells = λ row h. absurd (omega (arith, h, few)) }

-- ── views ──

pub viewed_refused : (m : RecordBatch) (is_text : Bool) (p : Place) (rows : ℕ) (e : IpcError) → Refuses e (view_parts_faults m p rows) → Refuses e (viewed_faults m is_text p rows)
unfolding refused.views_faults refused.view_text_faults
viewed_refused m false p rows e h = refuses_sound (view_parts_faults m p rows) _ e h
viewed_refused m true p rows e h = refuses_sound (view_parts_faults m p rows) _ e h

same_and : (a b c d : Bool) → a ≡ b → c ≡ d → (a && c) ≡ (b && d)
same_and a b c d h k = rw (h, k) refl

view_told : (m : RecordBatch) (l : Layout) (p : Place) (rows : ℕ) (t : Top) (row : ℕ) → ShowsData m l p rows t → view_in t row ≡ view_of m p row
view_told m l p rows t row s = ap (λ b. take 16 (drop (16 * row) b)) s.views

bad_told : (m : RecordBatch) (l : Layout) (p : Place) (rows : ℕ) (t : Top) → ShowsData m l p rows t
    → some_valid_row m p (λ row. not (refused.is_good_view m p (view_of m p row))) rows ≡ some_row (is_bad_view t) t.rows
bad_told m l p rows t s =
    sym (some_row-same (is_bad_view t) _ rows (λ row h. same_and _ _ _ _ (s.bits row h)
    (ap not (ap (λ b. held.is_good_view b (view_in t row)) s.buffers ∙ ap (held.is_good_view (buffers_told m p)) (view_told m l p rows t row s) ∙ good-view m p (view_of m p row)))))
    ∙ ap (some_row (is_bad_view t)) (sym s.all_rows)

no_text_told : (m : RecordBatch) (l : Layout) (p : Place) (rows : ℕ) (t : Top) → ShowsData m l p rows t
    → some_valid_row m p (λ row. is_no_text_view m p (view_of m p row)) rows ≡ some_row (is_bad_text_view t) t.rows
no_text_told m l p rows t s =
    sym (some_row-same (is_bad_text_view t) _ rows (λ row h. same_and _ _ _ _ (s.bits row h)
    (ap (λ b. held.is_no_text_view b (view_in t row)) s.buffers ∙ ap (held.is_no_text_view (buffers_told m p)) (view_told m l p rows t row s) ∙ no_text-view m p (view_of m p row))))
    ∙ ap (some_row (is_bad_text_view t)) (sym s.all_rows)

pub viewed_told : (m : RecordBatch) (l : Layout) (is_text : Bool) (p : Place) (rows : ℕ) (t : Top) → ShowsData m l p rows t → view_parts_faults m p rows ≡ [] → viewed_faults m is_text p rows ≡ view_causes t is_text
unfolding refused.views_faults refused.view_text_faults
viewed_told m l false p rows t s fine =
    ap (λ es. if_sound es (bad_view_faults m p rows)) fine ∙ ap (λ b. cause b (OutOfSpec InvalidView)) (bad_told m l p rows t s)
viewed_told m l true p rows t s fine =
    ap (λ es. if_sound es (bad_view_faults m p rows ++ cause (some_valid_row m p (λ row. is_no_text_view m p (view_of m p row)) rows) (OutOfSpec InvalidUtf8))) fine
    ∙ ap (λ b. cause b (OutOfSpec InvalidView) ++ cause (some_valid_row m p (λ row. is_no_text_view m p (view_of m p row)) rows) (OutOfSpec InvalidUtf8)) (bad_told m l p rows t s)
    ∙ ap (λ b. cause (some_row (is_bad_view t) t.rows) (OutOfSpec InvalidView) ++ cause b (OutOfSpec InvalidUtf8)) (no_text_told m l p rows t s)

pub viewed_leaf : (m : RecordBatch) (is_text : Bool) (p : Place) (rows : ℕ) (t : Top) → ShowsData m (Viewed is_text) p rows t → AreGood t is_text → IsLeafOf m (Viewed is_text) p rows t
viewed_leaf m is_text p rows t s g = record {
  all_rows = s.all_rows;
  layout_is = s.layout_is;
  order = s.order;
  bits = λ _. s.bits;
  buffers = record { views = s.views; buffers = s.buffers; lie = s.buffers_lie; good = λ row h v. row_good t is_text row g (omega (arith, h, s.all_rows)) v };
  sound = whole_parts t (Viewed is_text) none s.layout_is s.has_bits (views_stand t is_text s.stand s.buffers_lie g);
}

view_bad : (b : Bool) (es : List IpcError) → b ≡ true → Refuses (OutOfSpec InvalidView) (cause b (OutOfSpec InvalidView) ++ es)
view_bad b es h = rw h (inl refl)

view_only : (b : Bool) → b ≡ true → Refuses (OutOfSpec InvalidView) (cause b (OutOfSpec InvalidView))
view_only b h = rw h (inl refl)

pub views_refused : (t : Top) (is_text : Bool) → some_row (is_bad_view t) t.rows ≡ true → Refuses (OutOfSpec InvalidView) (view_causes t is_text)
views_refused t false h = view_only _ h
views_refused t true h = view_bad _ _ h

text_bad : (b c : Bool) → b ≡ false → c ≡ true → Refuses (OutOfSpec InvalidUtf8) (cause b (OutOfSpec InvalidView) ++ cause c (OutOfSpec InvalidUtf8))
text_bad b c h k = rw (h, k) (inl refl)

pub view_texts_refused : (t : Top) (is_text : Bool) → some_row (is_bad_view t) t.rows ≡ false → is_text ≡ true → some_row (is_bad_text_view t) t.rows ≡ true → Refuses (OutOfSpec InvalidUtf8) (view_causes t is_text)
view_texts_refused t false h x k = cc
view_texts_refused t true h x k = text_bad _ _ h k

pub views_fine : (t : Top) (is_text : Bool) → AreGood t is_text → view_causes t is_text ≡ []
views_fine t false g = ap (λ b. cause b (OutOfSpec InvalidView)) g.views
views_fine t true g = ap (λ b. cause b (OutOfSpec InvalidView) ++ cause (some_row (is_bad_text_view t) t.rows) (OutOfSpec InvalidUtf8)) g.views ∙ ap (λ b. cause b (OutOfSpec InvalidUtf8)) (g.texts refl)

-- ── no rows ──

pub empty_stands : (input : List ℕ) (is_big : Bool) (l : Layout) → is_leaf_layout l ≡ true → Stands l (empty_top input is_big l 0) none
empty_stands input is_big Null h = tt
empty_stands input is_big Boolean h = record { lies = omega arith; room = omega arith }
empty_stands input is_big (Number i) h = record { lies = omega arith; room = omega arith }
empty_stands input is_big DayTime h = record { lies = omega arith; room = omega arith }
empty_stands input is_big MonthDayNano h = record { lies = omega arith; room = omega arith }
empty_stands input is_big (Bytes is_large is_text) h = record { offsets = omega arith; values = omega arith; rows = λ row l. absurd (omega (arith, l)); texts = λ x row l. absurd (omega (arith, l)) }
empty_stands input is_big (Viewed is_text) h = record { views = record { lies = omega arith; room = omega arith }; buffers = λ i l. absurd (omega (arith, l)); leads = λ row l. absurd (omega (arith, l)); texts = λ x row l. absurd (omega (arith, l)) }
empty_stands input is_big (FixedBytes n) h = record { lies = omega arith; room = omega arith }
empty_stands input is_big l h = cc

pub empty_sound : (input : List ℕ) (is_big : Bool) (l : Layout) (rows : ℕ) → rows ≡ 0 → is_leaf_layout l ≡ true → IsSound (empty_top input is_big l rows) none
empty_sound input is_big l rows e h = subst (λ n. IsSound (empty_top input is_big l n) none) (sym e) (record { validity = tt; stands = empty_stands input is_big l h })

pub no_keys : (l : Layout) → is_leaf_layout l ≡ true → is_keys l ≡ false
no_keys (Dictionary i) h = cc
no_keys l h = refl
