use Rattle.std.proofs.Common.{◌≡◌, ◌∙◌, ◌+◌, ◌<◌, suc, length, sym, ap, arith}
use Rattle.arrow_types.specs.KindOf.{kind_of}
use Rattle.arrow_arrays.specs.Parts.{fault_each}
use Rattle.arrow_arrays.specs.PartsOf.{forest_of}
use Rattle.laws_unify.specs.Over.{Lists}
use Rattle.ipc_unify.specs.Steps.{lists_of}
use Rattle.ipc_unify.proofs.Finishing.{fills, places_stay, puts}
use Rattle.ipc_unify.proofs.ListSteps.{kept_at, kept_set, lists_put}
use Rattle.ipc_unify.proofs.OverSteps.{refused_by}
use Rattle.ipc_unify.proofs.finished.finish_list.Goals as goal

pub parts_over-requires-clause-stands : goal.parts_over-requires-clause-stands
parts_over-requires-clause-stands c =
    let us : Lists = lists_of c.args.lists.now.items in
    let mid = c.grow.new.lists.items in
    let k = kind_of c.args.dtype.now in
    let ps = forest_of c.as_slice.result.now in
    let f = fills us mid k c.args.number c.in-Some.inner c.index.result.now c.parts.result.now c.in_ok-filled.filled.items c.as_slice.result.now c.in_ok-grow.ensures.same c.in_ok-grow.ensures.there c.index.ensures c.parts.ensures c.in_ok-filled.ensures c.as_slice.ensures.value (omega (arith, c.in-Some.ensures)) in
    let p = puts us (lists_of mid) k c.args.number c.in-Some.inner ps f c.requires.may in
    p.stands

pub parts_over-requires-clause-sound : goal.parts_over-requires-clause-sound
parts_over-requires-clause-sound c =
    let us : Lists = lists_of c.args.lists.now.items in
    let mid = c.grow.new.lists.items in
    let k = kind_of c.args.dtype.now in
    let ps = forest_of c.as_slice.result.now in
    let f = fills us mid k c.args.number c.in-Some.inner c.index.result.now c.parts.result.now c.in_ok-filled.filled.items c.as_slice.result.now c.in_ok-grow.ensures.same c.in_ok-grow.ensures.there c.index.ensures c.parts.ensures c.in_ok-filled.ensures c.as_slice.ensures.value (omega (arith, c.in-Some.ensures)) in
    let p = puts us (lists_of mid) k c.args.number c.in-Some.inner ps f c.requires.may in
    p.sound

pub returns-in_err-over-in-Some-clause-refused : goal.returns-in_err-over-in-Some-clause-refused
returns-in_err-over-in-Some-clause-refused c =
    let us : Lists = lists_of c.args.lists.now.items in
    let mid = c.grow.new.lists.items in
    let k = kind_of c.args.dtype.now in
    let ps = forest_of c.as_slice.result.now in
    let f = fills us mid k c.args.number c.in-Some.inner c.index.result.now c.parts.result.now c.in_ok-filled.filled.items c.as_slice.result.now c.in_ok-grow.ensures.same c.in_ok-grow.ensures.there c.index.ensures c.parts.ensures c.in_ok-filled.ensures c.as_slice.ensures.value (omega (arith, c.in-Some.ensures)) in
    let p = puts us (lists_of mid) k c.args.number c.in-Some.inner ps f c.requires.may in
    refused_by c.from_residual-in_err-over-in-Some.result c.in_err-over-in-Some.field-0.0 _ _ c.from_residual-in_err-over-in-Some.ensures.1 (λ t. sym p.large ∙ t) c.in_err-over-in-Some.ensures.refused

pub index_mut-requires : goal.index_mut-requires
index_mut-requires c =
    let same = c.in_ok-over-in-Some.ensures.same in
    let now = c.parts_over.new.lists.items in
    let there : c.args.number < length now = omega (arith, same.count, c.in_ok-grow.ensures.there) in
    omega (arith, there, c.parts_over.new.lists.ok.0)

pub set_parts-requires-clause-rows : goal.set_parts-requires-clause-rows
set_parts-requires-clause-rows c =
    let same = c.in_ok-over-in-Some.ensures.same in
    let now = c.parts_over.new.lists.items in
    let there : c.args.number < length now = omega (arith, same.count, c.in_ok-grow.ensures.there) in
    (kept_at now c.args.number c.index_mut.result.now there c.index_mut.ensures.value same.kept).rows

pub set_parts-requires-clause-same : goal.set_parts-requires-clause-same
set_parts-requires-clause-same c =
    let us : Lists = lists_of c.args.lists.now.items in
    let mid = c.grow.new.lists.items in
    let k = kind_of c.args.dtype.now in
    let ps = forest_of c.as_slice.result.now in
    let f = fills us mid k c.args.number c.in-Some.inner c.index.result.now c.parts.result.now c.in_ok-filled.filled.items c.as_slice.result.now c.in_ok-grow.ensures.same c.in_ok-grow.ensures.there c.index.ensures c.parts.ensures c.in_ok-filled.ensures c.as_slice.ensures.value (omega (arith, c.in-Some.ensures)) in
    let p = puts us (lists_of mid) k c.args.number c.in-Some.inner ps f c.requires.may in
    let same = c.in_ok-over-in-Some.ensures.same in
    let now = c.parts_over.new.lists.items in
    let there : c.args.number < length now = omega (arith, same.count, c.in_ok-grow.ensures.there) in
    places_stay us now k c.args.number c.index_mut.result.now c.in_ok-over-in-Some.over.items (same.lists ∙ c.in_ok-grow.ensures.same) there c.index_mut.ensures.value (c.in_ok-over-in-Some.ensures.parts ∙ p.parts)

pub set_parts-requires-clause-sound : goal.set_parts-requires-clause-sound
set_parts-requires-clause-sound c =
    let us : Lists = lists_of c.args.lists.now.items in
    let mid = c.grow.new.lists.items in
    let k = kind_of c.args.dtype.now in
    let ps = forest_of c.as_slice.result.now in
    let f = fills us mid k c.args.number c.in-Some.inner c.index.result.now c.parts.result.now c.in_ok-filled.filled.items c.as_slice.result.now c.in_ok-grow.ensures.same c.in_ok-grow.ensures.there c.index.ensures c.parts.ensures c.in_ok-filled.ensures c.as_slice.ensures.value (omega (arith, c.in-Some.ensures)) in
    let p = puts us (lists_of mid) k c.args.number c.in-Some.inner ps f c.requires.may in
    ap fault_each (c.in_ok-over-in-Some.ensures.parts) ∙ p.sound

pub returns-in-Some-clause-lists : goal.returns-in-Some-clause-lists
returns-in-Some-clause-lists c =
    let us : Lists = lists_of c.args.lists.now.items in
    let mid = c.grow.new.lists.items in
    let k = kind_of c.args.dtype.now in
    let ps = forest_of c.as_slice.result.now in
    let f = fills us mid k c.args.number c.in-Some.inner c.index.result.now c.parts.result.now c.in_ok-filled.filled.items c.as_slice.result.now c.in_ok-grow.ensures.same c.in_ok-grow.ensures.there c.index.ensures c.parts.ensures c.in_ok-filled.ensures c.as_slice.ensures.value (omega (arith, c.in-Some.ensures)) in
    let p = puts us (lists_of mid) k c.args.number c.in-Some.inner ps f c.requires.may in
    let same = c.in_ok-over-in-Some.ensures.same in
    let now = c.parts_over.new.lists.items in
    let there : c.args.number < length now = omega (arith, same.count, c.in_ok-grow.ensures.there) in
    lists_put now c.args.number c.set_parts.new.self _ us there (c.set_parts.ensures.parts ∙ c.in_ok-over-in-Some.ensures.parts ∙ p.parts) (same.lists ∙ c.in_ok-grow.ensures.same)

pub returns-in-Some-clause-kept : goal.returns-in-Some-clause-kept
returns-in-Some-clause-kept c =
    let same = c.in_ok-over-in-Some.ensures.same in
    let now = c.parts_over.new.lists.items in
    let there : c.args.number < length now = omega (arith, same.count, c.in_ok-grow.ensures.there) in
    kept_set now c.args.number c.set_parts.new.self same.kept c.set_parts.ensures.kept

pub returns-in-Some-clause-fits : goal.returns-in-Some-clause-fits
returns-in-Some-clause-fits c =
    let us : Lists = lists_of c.args.lists.now.items in
    let mid = c.grow.new.lists.items in
    let k = kind_of c.args.dtype.now in
    let ps = forest_of c.as_slice.result.now in
    let f = fills us mid k c.args.number c.in-Some.inner c.index.result.now c.parts.result.now c.in_ok-filled.filled.items c.as_slice.result.now c.in_ok-grow.ensures.same c.in_ok-grow.ensures.there c.index.ensures c.parts.ensures c.in_ok-filled.ensures c.as_slice.ensures.value (omega (arith, c.in-Some.ensures)) in
    let p = puts us (lists_of mid) k c.args.number c.in-Some.inner ps f c.requires.may in
    sym p.large ∙ c.in_ok-over-in-Some.ensures.fits
