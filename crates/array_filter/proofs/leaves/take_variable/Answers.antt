use Rattle.std.proofs.Common.{◌≡◌, ◌∙◌, sym, ap, subst, length, arith}
use Rattle.std.specs.Option.{option_map}
use Rattle.arrow_types.specs.KindOf.{kind_of}
use Rattle.arrow_types.specs.Physical.{physical_of}
use Rattle.std.specs.List.{flat_map}
use Rattle.std.proofs.Common.{map}
use Rattle.arrow_buffers.specs.Layouts.{is_variable}
use Rattle.arrow_buffers.specs.Variable.{are_offsets, place_at, row_bytes, variable_fault, variable_rows}
use Rattle.arrow_buffers.proofs.VariableParts.{variable_sound}
use Rattle.arrow_buffers.specs.Leaf.{fixed_row}
use Rattle.array_filter.specs.Offsets.{items_taken, offsets_taken, row_length}
use Rattle.array_filter.specs.Rows.{taken}
use Rattle.array_filter.specs.Runs.{Climb, rows_in_runs}
use Rattle.array_filter.specs.Taken.{variable_taken}
use Rattle.array_filter.proofs.Kept.{if_kept}
use Rattle.array_filter.proofs.LeafTaken.{variable_fault-taken}
use Rattle.array_filter.proofs.Made.{refused, variable_of, variable_same}
use Rattle.array_filter.proofs.RunLaws.{climb_below, climb_within}
use Rattle.array_filter.proofs.RunSteps.{bytes_of_items, climb_as}
use Rattle.array_filter.proofs.Whole.{whole, whole_variable}
use Rattle.array_filter.proofs.leaves.take_variable.Goals as goal

pub returns-then-are_all : goal.returns-then-are_all
returns-then-are_all g c =
    let p = c.args.array.now in
    let runs = c.args.runs.now in
    let s = (variable_sound g.V.ViewType.IS_TEXT (is_variable g.V.ViewType.IS_TEXT g.O.Offset.IS_LARGE (physical_of p.kind)) p c.len-held.ensures.sound).spanned in
    let rows : runs ≡ whole (variable_rows p.offsets) = c.are_all.ensures.rows c.if-are_all.true ∙ ap (λ os. whole (variable_rows os)) c.offsets.ensures in
    let first : place_at p.offsets 0 ≡ 0 = ap (λ os. place_at os 0) (sym c.offsets.ensures) ∙ c.are_all.ensures.first c.if-are_all.true in
    let last : place_at p.offsets (variable_rows p.offsets) ≡ length p.values = ap (λ os. place_at os (variable_rows os)) (sym c.offsets.ensures) ∙ c.are_all.ensures.last c.if-are_all.true ∙ c.len-limit.ensures ∙ ap length c.values.ensures in
    if_kept c.try_clone.result (λ a. a ≡ p) (λ a. a ≡ variable_taken (rows_in_runs runs) p) (λ a e. e ∙ sym (whole_variable p runs s rows first last)) c.try_clone.ensures

pub take_offsets-requires-clause-rise : goal.take_offsets-requires-clause-rise
take_offsets-requires-clause-rise g c =
    let p = c.args.array.now in
    let s = (variable_sound g.V.ViewType.IS_TEXT (is_variable g.V.ViewType.IS_TEXT g.O.Offset.IS_LARGE (physical_of p.kind)) p c.len-held.ensures.sound).spanned in
    ap (λ os. are_offsets os c.len-limit.result) c.offsets-2.ensures ∙ ap (are_offsets p.offsets) (c.len-limit.ensures ∙ ap length c.values.ensures) ∙ s.rise

pub take_offsets-requires-clause-climb : goal.take_offsets-requires-clause-climb
take_offsets-requires-clause-climb g c = subst (λ os. Climb 0 c.args.runs.now (variable_rows os)) (sym c.offsets-2.ensures) c.requires

pub take_rows-requires : goal.take_rows-requires
take_rows-requires g c =
    let n = c.len-limit.result in
    climb_within 1 0 c.as_slice.result.now n (length c.values-2.result.now) (subst (λ runs. Climb 0 runs n) (sym c.as_slice.ensures.value) c.in_ok-offsets.ensures.climb) (omega (arith, c.len-limit.ensures, ap length c.values.ensures, ap length c.values-2.ensures))

pub take_validity-requires-clause-climb : goal.take_validity-requires-clause-climb
take_validity-requires-clause-climb g c = climb_as c.args.runs.now (variable_rows c.args.array.now.offsets) c.len-held.result c.len-held.ensures.rows c.requires

pub unreachable-requires : goal.unreachable-requires
unreachable-requires g c =
    let p = c.args.array.now in
    let rows = rows_in_runs c.args.runs.now in
    let held = c.values-2.result.now in
    let is_text = g.V.ViewType.IS_TEXT in
    let is_large = g.O.Offset.IS_LARGE in
    refused (λ x. variable_fault is_text (is_variable is_text is_large (physical_of x.kind)) x) (variable_of (kind_of c.in_ok-dtype.dtype) (map g.O.Offset.number c.in_ok-offsets.offsets) c.in_ok-values.values c.in_ok-validity.validity) (variable_taken rows p) c.in-Err.field-0
    (variable_same (kind_of c.in_ok-dtype.dtype) p.kind (map g.O.Offset.number c.in_ok-offsets.offsets) (offsets_taken rows p.offsets) c.in_ok-values.values (flat_map (row_bytes p.offsets p.values) rows) c.in_ok-validity.validity (option_map (taken rows) p.validity)
    (c.in_ok-dtype.ensures ∙ c.dtype.ensures)
    (c.in_ok-offsets.ensures.offsets ∙ ap (offsets_taken rows) c.offsets-2.ensures)
    (c.in_ok-values.ensures ∙ ap (λ rs. flat_map (fixed_row 1 held) (rows_in_runs rs)) c.as_slice.ensures.value
    ∙ ap (flat_map (fixed_row 1 held)) (c.in_ok-offsets.ensures.items ∙ ap (items_taken rows) c.offsets-2.ensures) ∙ bytes_of_items (place_at p.offsets) (row_length p.offsets) held rows
    ∙ ap (λ bs. flat_map (row_bytes p.offsets bs) rows) c.values-2.ensures)
    (c.in_ok-validity.ensures ∙ ap (option_map (taken rows)) c.validity.ensures.bits))
    (variable_fault-taken is_text (is_variable is_text is_large (physical_of p.kind)) rows p c.len-held.ensures.sound (climb_below 0 c.args.runs.now (variable_rows p.offsets) c.requires))
    c.in-Err.ensures.err

pub returns : goal.returns
returns g c =
    let p = c.args.array.now in
    let rows = rows_in_runs c.args.runs.now in
    let held = c.values-2.result.now in
    c.in-Ok.ensures.ok ∙ (variable_same (kind_of c.in_ok-dtype.dtype) p.kind (map g.O.Offset.number c.in_ok-offsets.offsets) (offsets_taken rows p.offsets) c.in_ok-values.values (flat_map (row_bytes p.offsets p.values) rows) c.in_ok-validity.validity (option_map (taken rows) p.validity)
    (c.in_ok-dtype.ensures ∙ c.dtype.ensures)
    (c.in_ok-offsets.ensures.offsets ∙ ap (offsets_taken rows) c.offsets-2.ensures)
    (c.in_ok-values.ensures ∙ ap (λ rs. flat_map (fixed_row 1 held) (rows_in_runs rs)) c.as_slice.ensures.value
    ∙ ap (flat_map (fixed_row 1 held)) (c.in_ok-offsets.ensures.items ∙ ap (items_taken rows) c.offsets-2.ensures) ∙ bytes_of_items (place_at p.offsets) (row_length p.offsets) held rows
    ∙ ap (λ bs. flat_map (row_bytes p.offsets bs) rows) c.values-2.ensures)
    (c.in_ok-validity.ensures ∙ ap (option_map (taken rows)) c.validity.ensures.bits))
