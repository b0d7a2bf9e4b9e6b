use Rattle.std.proofs.Common.{◌≡◌, ◌∙◌, ap, sym, subst, sum_by, to_z, of_z, w64}
use Rattle.std.proofs.lemmas.Int.{to_z-of_z}
use Rattle.arrow_spec.specs.Kinds.{dictionary}
use Rattle.arrow_spec.specs.Readings.{Refuses, is_absent}
use Rattle.ipc_read.proofs.Refusals.{memory_refuses}
use Rattle.view_types.specs.Tops.{top_in}
use Rattle.view_types.specs.Views.{rows_of, views}
use Rattle.ipc_view.specs.Built.{batch_of, place_of}
use Rattle.ipc_view.specs.Dictionaries.{IsKeysTop, key_top_faults, parts_or_none, shown_in}
use Rattle.ipc_view.specs.Lent.{AreLentOf, IsLentOf}
use Rattle.ipc_view.specs.Nested.{IsSeen}
use Rattle.ipc_view.proofs.Answered.{err_from}
use Rattle.ipc_view.proofs.Keys.{keyed_done, keyed_node, keyed_sound, keyed_top}
use Rattle.ipc_view.proofs.LentViews.{lent_parts}
use Rattle.ipc_view.proofs.batch.BatchTables.keyed.Goals as goal

pub returns-in_err-node-clause-seen : goal.returns-in_err-node-clause-seen
returns-in_err-node-clause-seen c = λ ordered k d shows. err_from c.from_residual.result c.in_err-node.field-0.0 _ _ c.from_residual.ensures.0 c.from_residual.ensures.1
    (keyed_node (batch_of c.args.self.now) d c.args.keys ordered c.args.id k (place_of c.args.place) c.args.rows c.in_err-node.field-0.0 c.in_err-node.ensures.gives.err)

pub returns-in_err-children-clause-seen : goal.returns-in_err-children-clause-seen
returns-in_err-children-clause-seen c = λ ordered k d shows. err_from c.from_residual-in_err-children.result c.in_err-children.field-0.0 _ _ c.from_residual-in_err-children.ensures.0 c.from_residual-in_err-children.ensures.1 (memory_refuses c.in_err-children.field-0.0 _ c.in_err-children.ensures.memory)

pub returns-in_err-parts-clause-seen : goal.returns-in_err-parts-clause-seen
returns-in_err-parts-clause-seen c = λ ordered k d shows.
    let t = c.args.self.now in
    let h = shown_in t.dictionaries.now in
    let e : to_z w64 (of_z w64 c.args.id) ≡ c.args.id = to_z-of_z w64 c.args.id c.ranges.id in
    let vs = c.in_ok-children.children.items in
    let parts : vs ≡ parts_or_none (h c.args.id) = c.in_ok-children.ensures.parts ∙ ap (λ z. parts_or_none (h z)) e in
    let n = c.rows_among-held.ensures ∙ ap (sum_by rows_of) (c.as_slice.ensures.value ∙ parts) in
    let f = c.in_err-parts.field-0.0 in
    err_from c.from_residual-in_err-parts.result f _ _ c.from_residual-in_err-parts.ensures.0 c.from_residual-in_err-parts.ensures.1
    (keyed_top (batch_of t) d h c.args.keys ordered c.args.id k (place_of c.args.place) c.args.rows c.rows_among-held.result f shows n
    (subst (λ z. Refuses f (key_top_faults (batch_of t) c.args.keys c.rows_among-held.result (is_absent (h z)) z (place_of c.args.place) c.args.rows)) e c.in_err-parts.ensures.gives.err))

pub keyed-requires : goal.keyed-requires
keyed-requires c =
    let m = batch_of c.args.self.now in
    let p = place_of c.args.place in
    let vs = c.in_ok-children.children.items in
    let n = c.rows_among-held.ensures ∙ ap (sum_by rows_of) c.as_slice.ensures.value in
    record { sound = keyed_sound m c.args.keys p c.args.rows (top_in c.in_ok-parts.parts) vs (subst (λ x. IsKeysTop m c.args.keys x p c.args.rows (top_in c.in_ok-parts.parts)) n c.in_ok-parts.ensures.gives.ok.1) }

pub returns-clause-seen : goal.returns-clause-seen
returns-clause-seen c = λ ordered k d shows.
    let t = c.args.self.now in
    let m = batch_of t in
    let p = place_of c.args.place in
    let h = shown_in t.dictionaries.now in
    let e : to_z w64 (of_z w64 c.args.id) ≡ c.args.id = to_z-of_z w64 c.args.id c.ranges.id in
    let vs = c.in_ok-children.children.items in
    let parts : vs ≡ parts_or_none (h c.args.id) = c.in_ok-children.ensures.parts ∙ ap (λ z. parts_or_none (h z)) e in
    let n = c.rows_among-held.ensures ∙ ap (sum_by rows_of) c.as_slice.ensures.value in
    let q = place_of c.inside.result in
    let g = c.in_ok-parts.ensures.gives.ok in
    let done = keyed_done m d h c.args.keys ordered c.args.id k p q c.args.rows c.rows_among-held.result (top_in c.in_ok-parts.parts) vs shows parts n c.requires.place.views c.inside.ensures.place c.in_ok-node.ensures.gives.ok.0
    (ap (λ z. key_top_faults m c.args.keys c.rows_among-held.result (is_absent (h z)) z p c.args.rows) (sym e) ∙ g.0) g.1 in
    record { ok = (done.0, subst (λ w. IsSeen m d (dictionary c.args.keys ordered c.args.id k) p c.args.rows w q) (sym c.in_ok-view.ensures) done.1); err = tt }

pub returns-clause-lent : goal.returns-clause-lent
returns-clause-lent c = λ holds.
    let input = c.args.self.now.input.now in
    let h = shown_in c.args.self.now.dictionaries.now in
    let i = to_z w64 (of_z w64 c.args.id) in
    subst (IsLentOf input) (sym c.in_ok-view.ensures) (c.in_ok-parts.ensures.input, subst (λ vs. AreLentOf input (views vs)) (sym c.in_ok-children.ensures.parts) (lent_parts input (h i) (holds i)))
