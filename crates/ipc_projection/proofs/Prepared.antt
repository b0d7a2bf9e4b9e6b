-- What is prepared for columns that are asked for is a projection to them.
use Rattle.std.proofs.Common.{◌≡◌, ℕ, ◌<◌, ◌≤◌, List, length, get_or, Option, Some, arith, sym, ap, ◌∙◌, inl, inr, ◌⊎◌}
use Rattle.std.specs.Prelude.{slice_get, is_some}
use Rattle.std.specs.List.{count_by}
use Rattle.std.specs.Rc.{rc_value}
use Rattle.std.proofs.lemmas.Bool.{cases_lt}
use Rattle.std.proofs.lemmas.List.{take_all}
use Rattle.std.proofs.lemmas.Option.{slice_get_within, slice_get-get_or, same_Some, none-some}
use Rattle.arrow_types.specs.Schemas.{Keyed}
use Rattle.ipc_read_laws.specs.Projection.{are_below}
use Rattle.ipc_projection.specs.declared.projection.ProjectionInfo.{ProjectionInfo}
use Rattle.ipc_projection.specs.Places.{ArePlaces, ArePlacesOf, AreRising, StandAt, entry}
use Rattle.ipc_projection.specs.Projections.{IsProjection}
use Rattle.ipc_projection.proofs.Numbers.{same_numbers, stands_once}

-- each number asked for is a column's, and stands there once
pub asked_places : (asked : List ℕ) (places : List (Option ℕ)) (n : ℕ) → ArePlacesOf asked (length asked) places n → ArePlaces asked n
asked_places asked places n p = record {
  below = λ j c e. let l : c < length places = slice_get_within places c (Some j) (placed j c e) in let w : length places ≡ n = p.width in omega arith;
  once = λ j k c e f. same_Some _ _ (same_Some _ _ (sym (placed j c e) ∙ placed k c f));
}
  where
    placed : (j c : ℕ) → slice_get asked j ≡ Some c → slice_get places c ≡ Some (Some j)
    placed j c e = p.placed j c (slice_get_within asked j c e) e

pub prepared : (schema : List Keyed) (asked : List ℕ) (places : List (Option ℕ)) (p : ProjectionInfo) → ArePlacesOf asked (length asked) places (length schema)
    → AreRising places (length places) p.columns.items p.map → StandAt schema asked (rc_value p.schema) → IsProjection schema asked p
prepared schema asked places p a r fields = record {
  rising = r.rising;
  below = ap (λ n. are_below n columns) (sym a.width) ∙ r.below;
  same = same_numbers columns asked (λ i c e. let j = r.each i c e in (j.0, (a.found c j.0 j.1).1)) (λ j c e. let i = from j c e in (i.0, i.1));
  count = count;
  places = from;
  permutes = record {
    inside = λ i j e. let c = column i j e in let l : i < length columns = slice_get_within columns i c.0 c.1 in (omega (arith, count), (a.found c.0 j c.2).0);
    led = λ i l. let j = r.each i (get_or columns i 0) (slice_get-get_or columns i 0 (omega (arith, count))) in (j.0, j.2);
    reached = λ j l. let i = from j (get_or asked j 0) (slice_get-get_or asked j 0 l) in (i.0, i.2);
    once = λ i k j e f.
        let c = column i j e in
        let d = column k j f in
        let s : c.0 ≡ d.0 = same_Some _ _ (sym (a.found c.0 j c.2).1 ∙ (a.found d.0 j d.2).1) in
        stands_once columns r.rising i k d.0 (c.1 ∙ ap Some s) d.1;
  };
  fields = fields;
}
  where
    columns : List ℕ
    columns = p.columns.items

    count : length p.columns.items ≡ length asked
    count = r.count ∙ ap (count_by is_some) (take_all (length places) places (omega arith)) ∙ a.count

    -- where a column asked for is read
    from : (j c : ℕ) → slice_get asked j ≡ Some c → (i : ℕ) × (slice_get p.columns.items i ≡ Some c) × (entry p.map i ≡ Some j)
    from j c e =
        let placed = a.placed j c (slice_get_within asked j c e) e in
        let i = r.found c j (slice_get_within places c (Some j) placed) placed in
        let k = r.each i.0 c i.1 in
        (i.0, i.1, k.2 ∙ ap Some (same_Some _ _ (same_Some _ _ (sym k.1 ∙ placed))))

    -- the column of an entry
    column : (i j : ℕ) → entry p.map i ≡ Some j → (c : ℕ) × (slice_get p.columns.items i ≡ Some c) × (slice_get places c ≡ Some (Some j))
    column i j e = by (cases_lt i (length p.columns.items))
      where
        by : (i < length p.columns.items) ⊎ (length p.columns.items ≤ i) → (c : ℕ) × (slice_get p.columns.items i ≡ Some c) × (slice_get places c ≡ Some (Some j))
        by (inl l) =
            let c = get_or p.columns.items i 0 in
            let at = slice_get-get_or p.columns.items i 0 l in
            let k = r.each i c at in
            (c, at, k.1 ∙ ap (λ o. Some o) (sym k.2 ∙ e))
        by (inr l) = absurd (none-some j (sym (r.ends i l) ∙ e))
