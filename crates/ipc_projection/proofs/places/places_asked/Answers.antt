use Rattle.std.proofs.Common.{◌≡◌, ◌∙◌, [], ◌∷◌, ◌<◌, ◌≤◌, ◌⊎◌, sym, ap, subst, arith, inl, inr, refl, get_or, replicate, length, None, true}
use Rattle.std.specs.Prelude.{is_some}
use Rattle.std.proofs.lemmas.List.{get_or_default}
use Rattle.std.proofs.lemmas.Option.{slice_get-get_or}
use Rattle.arrow_spec.specs.Columns.{stands_in}
use Rattle.ipc_projection.specs.Places.{ArePlacesOf}
use Rattle.ipc_projection.proofs.Asked.{AreEarlier, none_earlier, one_earlier, next_right, next_wrong, not_some, only_none, none_placed, one_placed}
use Rattle.ipc_projection.proofs.places.places_asked.Goals as goal
use Rattle.ipc_projection.proofs.places.places_asked.Goals.{then-column-width-via-then-column-width, then-column-width-via-else-column-width+then-is_some}

pub loop-i-init : goal.loop-i-init
loop-i-init c =
    let n = c.args.width in
    let all : c.in_ok-places.places.items ≡ replicate n None = c.in_ok-places.ensures.items_if_clones_equal (only_none _ (λ x h. h)) in
    record {
      walked = ([], subst (AreEarlier []) (sym all) (none_earlier n), refl);
      placed = subst (λ ps. ArePlacesOf c.args.columns.now 0 ps n) (sym all) (none_placed c.args.columns.now n);
    }

pub returns-then-column-width-clause-err : goal.returns-then-column-width-clause-err
returns-then-column-width-clause-err c =
    let v = c.loop-i.invariant in
    let column = get_or c.args.columns.now c.loop-i.i 0 in
    let inside : (l : column < c.args.width) → column < length c.loop-i.places.items = let w : length c.loop-i.places.items ≡ c.args.width = v.placed.width in λ l. omega arith in
    let refused = λ (h : (c.args.width ≤ column) ⊎ (stands_in v.walked.0 column ≡ true)). sym v.walked.2 ∙ next_wrong c.args.width v.walked.0 c.args.columns.now c.loop-i.i c.loop-i-test.true h in
    elim c.then-column-width.branch [
      | then-column-width-via-then-column-width w ↦ inr (refused (inl w.if-column-width.true))
      | then-column-width-via-else-column-width+then-is_some w ↦ inr (refused (inr (v.walked.1 column
          ∙ sym (ap is_some (w.index.ensures ∙ get_or_default c.loop-i.places.items column w.index.result.now None (inside w.if-column-width.false))) ∙ sym w.is_some.ensures ∙ w.if-is_some.true)))
    ]

pub loop-i-preserved : goal.loop-i-preserved
loop-i-preserved c =
    let cs = c.args.columns.now in
    let i = c.loop-i.i in
    let column = get_or cs i 0 in
    let v = c.loop-i.invariant in
    let inside : column < length c.loop-i.places.items = let w : length c.loop-i.places.items ≡ c.args.width = v.placed.width in omega arith in
    let free : get_or c.loop-i.places.items column None ≡ None = not_some _ (sym (ap is_some (c.index.ensures ∙ get_or_default c.loop-i.places.items column c.index.result.now None inside)) ∙ sym c.is_some.ensures ∙ c.if-is_some.false) in
    record {
      walked = (
        column ∷ v.walked.0,
        one_earlier v.walked.0 c.loop-i.places.items column i inside v.walked.1,
        next_right c.args.width v.walked.0 cs i c.loop-i-test.true c.if-column-width.false (v.walked.1 column ∙ ap is_some free) ∙ v.walked.2,
      );
      placed = one_placed cs i c.loop-i.places.items c.args.width v.placed column (slice_get-get_or cs i 0 c.loop-i-test.true) c.if-column-width.false free;
    }

pub returns-clause-placed : goal.returns-clause-placed
returns-clause-placed c =
    let e : c.loop-i.i ≡ length c.args.columns.now = omega arith in
    subst (λ i. ArePlacesOf c.args.columns.now i c.loop-i.places.items c.args.width) e c.loop-i.invariant.placed
