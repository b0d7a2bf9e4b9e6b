-- Children that are read one behind another.
use Rattle.std.proofs.Common.{◌≡◌, ℕ, suc, ◌+◌, ◌≤◌, List, [], ◌∷◌, ◌++◌, length, refl, sym, ap, subst, ◌∙◌, arith, append_assoc, append-nil}
use Rattle.arrow_spec.specs.declared.error.IpcError.{IpcError}
use Rattle.arrow_spec.specs.Readings.{Refuses}
use Rattle.arrow_spec.specs.Kinds.{Fields, width}
use Rattle.arrow_spec.specs.Counts.{RecordBatch, Place, after}
use Rattle.arrow_spec.specs.Arrays.{Dictionaries}
use Rattle.arrow_spec.specs.Faults.{array_faults, child_faults, if_sound, place_in, view_count_faults}
use Rattle.arrow_spec.proofs.Fewer.{none_first, none_second}
use Rattle.arrow_types.specs.Child.{Child}
use Rattle.ipc_read.proofs.LeftFields.{StandsIn, dropped, dropped_end, last_in, next_in}
use Rattle.ipc_read.proofs.Places.{first_place_in}
use Rattle.ipc_read.proofs.Refusals.{refuses_by, refuses_left, refuses_right, refuses_sound}
use Rattle.view_types.specs.Views.{View, views}
use Rattle.ipc_view.specs.declared.batch.ChildRows.{ChildRows}
use Rattle.ipc_view.specs.Nested.{AreSeen, AreViewsOf, CountsAre, IsSeen, rows_by, seen_faults}
use Rattle.ipc_view.proofs.Places.{counts_here, counts_then}

-- the first i of some fields have their views, and what is wrong with all is wrong with those that are left
pub record ChildrenDone (m : RecordBatch) (d : Dictionaries) (fs : Fields) (p : Place) (rows : ChildRows) (i : ℕ) (vs : List View) (q : Place) : Type 0 where
  pub at : q ≡ place_in m fs i p
  pub counts : CountsAre m p q
  pub left : child_faults m d fs p (rows_by rows m) ≡ child_faults m d (dropped i fs) q (rows_by rows m)
  pub shown : (ws : List View) → AreViewsOf m d (dropped i fs) q (rows_by rows m) (views ws) → AreViewsOf m d fs p (rows_by rows m) (views (vs ++ ws))

pub none_done : (m : RecordBatch) (d : Dictionaries) (fs : Fields) (p : Place) (rows : ChildRows) → p.view ≤ length m.variadic → ChildrenDone m d fs p rows 0 [] p
none_done m d fs p rows h = record { at = sym (first_place_in m fs p); counts = counts_here m p h; left = refl; shown = λ ws a. a }

-- the faults of the fields that are left, by the first of them
left_is : (m : RecordBatch) (d : Dictionaries) (fs : Fields) (i : ℕ) (c : Child) (q : Place) (rows : Place → ℕ) → StandsIn fs i c
    → child_faults m d (dropped i fs) q rows ≡ array_faults m d c.kind q (rows q) ++ if_sound (view_count_faults m c.kind q) (child_faults m d (dropped (suc i) fs) (after m c.kind q) rows)
left_is m d fs i c q rows s = ap (λ xs. child_faults m d xs q rows) s

sound_is : (xs ys : List IpcError) → xs ≡ [] → if_sound xs ys ≡ ys
sound_is xs ys h = rw h refl

-- a refusal of the next is one of all
pub next_refused : (m : RecordBatch) (d : Dictionaries) (fs : Fields) (p : Place) (rows : ChildRows) (i : ℕ) (vs : List View) (q : Place) (c : Child) (e : IpcError) → ChildrenDone m d fs p rows i vs q → StandsIn fs i c
    → Refuses e (seen_faults m d c.kind q (rows_by rows m q)) → Refuses e (child_faults m d fs p (rows_by rows m))
next_refused m d fs p rows i vs q c e done s h =
    let need = rows_by rows m in
    let one = array_faults m d c.kind q (need q) in
    let rest = if_sound (view_count_faults m c.kind q) (child_faults m d (dropped (suc i) fs) (after m c.kind q) need) in
    subst (λ es. Refuses e es) (sym (done.left ∙ left_is m d fs i c q need s))
    (refuses_by one (view_count_faults m c.kind q) (one ++ rest) e (λ r. refuses_left one rest e r) (λ r. refuses_right one rest e (refuses_sound (view_count_faults m c.kind q) _ e r)) h)

-- and one that is seen is one more
pub one_done : (m : RecordBatch) (d : Dictionaries) (fs : Fields) (p : Place) (rows : ChildRows) (i : ℕ) (vs : List View) (q r : Place) (c : Child) (v : View) → ChildrenDone m d fs p rows i vs q → StandsIn fs i c
    → seen_faults m d c.kind q (rows_by rows m q) ≡ [] → IsSeen m d c.kind q (rows_by rows m q) v r → ChildrenDone m d fs p rows (i + 1) (vs ++ v ∷ []) r
one_done m d fs p rows i vs q r c v done s fine seen =
    let need = rows_by rows m in
    let j : suc i ≡ i + 1 = omega arith in
    let own = none_first (array_faults m d c.kind q (need q)) (view_count_faults m c.kind q) fine in
    let counted = none_second (array_faults m d c.kind q (need q)) (view_count_faults m c.kind q) fine in
    subst (λ n. ChildrenDone m d fs p rows n (vs ++ v ∷ []) r) j (record {
      at = seen.next ∙ ap (after m c.kind) done.at ∙ sym (next_in m fs i c p s);
      counts = counts_then m p q r done.counts seen.counts;
      left = done.left ∙ left_is m d fs i c q need s
          ∙ ap (λ es. es ++ if_sound (view_count_faults m c.kind q) (child_faults m d (dropped (suc i) fs) (after m c.kind q) need)) own
          ∙ sound_is (view_count_faults m c.kind q) _ counted
          ∙ ap (λ x. child_faults m d (dropped (suc i) fs) x need) (sym seen.next);
      shown = λ ws a. subst (λ xs. AreViewsOf m d fs p need (views xs)) (sym (append_assoc vs (v ∷ []) ws))
          (done.shown (v ∷ ws) (subst (λ xs. AreViewsOf m d xs q need (views (v ∷ ws))) (sym s) (seen.view, subst (λ x. AreViewsOf m d (dropped (suc i) fs) x need (views ws)) seen.next a)));
    })

-- where none is left
pub all_done : (m : RecordBatch) (d : Dictionaries) (fs : Fields) (p : Place) (rows : ChildRows) (i : ℕ) (vs : List View) (q : Place) → ChildrenDone m d fs p rows i vs q → width fs ≤ i → i ≤ width fs
    → (child_faults m d fs p (rows_by rows m) ≡ []) × AreSeen m d fs p rows vs q
all_done m d fs p rows i vs q done h g =
    let need = rows_by rows m in
    let none = dropped_end fs i h in (
      done.left ∙ ap (λ xs. child_faults m d xs q need) none,
      record {
        children = subst (λ xs. AreViewsOf m d fs p need (views xs)) (append-nil vs) (done.shown [] (subst (λ xs. AreViewsOf m d xs q need (views [])) (sym none) tt));
        next = done.at ∙ last_in m fs i p h g;
        counts = done.counts;
      },
    )
