use Rattle.std.proofs.Common.{sym, ap, ◌∙◌, arith}
use Rattle.std.proofs.lemmas.Int.{to_z-of_z}
use Rattle.std.specs.Int.{w8}
use Rattle.arrow_spec.specs.Arrays.{id_place}
use Rattle.arrow_arrays.proofs.UnionPlaces.{id_below}
use Rattle.view_types.specs.Tops.{top_in}
use Rattle.view_types.specs.Views.{rows_each, type_in, views}
use Rattle.ipc_view.proofs.UnionFaults.{misplaced_refused, placed_as, row_fine, row_typed, untyped_refused}
use Rattle.ipc_view.proofs.unions.check_row.Goals as goal

pub returns-in_default-clause-gives : goal.returns-in_default-clause-gives
returns-in_default-clause-gives c =
    let t = top_in c.args.parts.now in
    let none = ap (id_place t.ids) c.tag.ensures ∙ ap (λ xs. id_place xs c.tag.result) (sym c.as_slice.ensures.value) ∙ ap (id_place c.as_slice.result.now) (sym (to_z-of_z w8 c.tag.result (record { sfits = c.tag.type_inv }))) ∙ sym c.place_of_id.ensures ∙ c.in_default.is in
    record { ok = tt; err = untyped_refused t c.args.mode (rows_each (views c.args.children.now)) c.args.row none }

pub child_len-requires : goal.child_len-requires
child_len-requires c =
    let t = top_in c.args.parts.now in
    let found = ap (id_place t.ids) c.tag.ensures ∙ ap (λ xs. id_place xs c.tag.result) (sym c.as_slice.ensures.value) ∙ ap (id_place c.as_slice.result.now) (sym (to_z-of_z w8 c.tag.result (record { sfits = c.tag.type_inv }))) ∙ sym c.place_of_id.ensures ∙ c.in-Some.is in
    omega (arith, id_below t.ids (type_in t c.args.row) c.in-Some.child found, c.requires.many)

pub returns-then-is_misplaced-clause-gives : goal.returns-then-is_misplaced-clause-gives
returns-then-is_misplaced-clause-gives c =
    let t = top_in c.args.parts.now in
    let ns = rows_each (views c.args.children.now) in
    let found = ap (id_place t.ids) c.tag.ensures ∙ ap (λ xs. id_place xs c.tag.result) (sym c.as_slice.ensures.value) ∙ ap (id_place c.as_slice.result.now) (sym (to_z-of_z w8 c.tag.result (record { sfits = c.tag.type_inv }))) ∙ sym c.place_of_id.ensures ∙ c.in-Some.is in
    let bad = placed_as t c.args.mode ns c.args.row c.in-Some.child c.child_len.result found c.child_len.ensures ∙ sym c.is_misplaced.ensures ∙ c.if-is_misplaced.true in
    record { ok = tt; err = misplaced_refused t c.args.mode ns c.args.row bad }

pub returns-clause-gives : goal.returns-clause-gives
returns-clause-gives c =
    let t = top_in c.args.parts.now in
    let ns = rows_each (views c.args.children.now) in
    let found = ap (id_place t.ids) c.tag.ensures ∙ ap (λ xs. id_place xs c.tag.result) (sym c.as_slice.ensures.value) ∙ ap (id_place c.as_slice.result.now) (sym (to_z-of_z w8 c.tag.result (record { sfits = c.tag.type_inv }))) ∙ sym c.place_of_id.ensures ∙ c.in-Some.is in
    let fine = placed_as t c.args.mode ns c.args.row c.in-Some.child c.child_len.result found c.child_len.ensures ∙ sym c.is_misplaced.ensures ∙ c.if-is_misplaced.false in
    let h = row_typed t c.args.mode ns c.args.row c.in-Some.child found fine in
    record { ok = (row_fine t c.args.mode ns c.args.row h, h); err = tt }
