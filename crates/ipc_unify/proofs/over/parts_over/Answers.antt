use Rattle.std.proofs.Common.{◌≡◌, ◌≤◌, ◌+◌, ◌++◌, ◌∷◌, [], length, arith, rules}
use Rattle.laws_unify.specs.Over.{Lists}
use Rattle.ipc_unify.specs.Steps.{lists_of}
use Rattle.ipc_unify.proofs.OverSteps.{part_next, parts_begin, parts_done, parts_more, refused_by, same_itself, same_through}
use Rattle.ipc_unify.proofs.over.parts_over.Goals as goal

pub loop-part-init : goal.loop-part-init
loop-part-init c =
    record { over = parts_begin _ _ _ _ c.new-over.ensures.items c.requires.stands c.requires.sound; same = same_itself c.args.lists.now.items c.requires.kept }

pub array_over-requires-clause-stands : goal.array_over-requires-clause-stands
array_over-requires-clause-stands c =
    let xs = c.args.parts.now in
    let x = c.part-item.result in
    let i = c.loop-part.part-index in
    let inv = c.loop-part.invariant in
    let us : Lists = lists_of c.args.lists.now.items in
    let ws : Lists = lists_of c.loop-part.lists.items in
    let n = part_next us ws xs c.loop-part.over.items c.args.number i x inv.same.lists inv.over c.loop-part-test.true c.part-item.is in
    n.stands

pub array_over-requires-clause-sound : goal.array_over-requires-clause-sound
array_over-requires-clause-sound c =
    let xs = c.args.parts.now in
    let x = c.part-item.result in
    let i = c.loop-part.part-index in
    let inv = c.loop-part.invariant in
    let us : Lists = lists_of c.args.lists.now.items in
    let ws : Lists = lists_of c.loop-part.lists.items in
    let n = part_next us ws xs c.loop-part.over.items c.args.number i x inv.same.lists inv.over c.loop-part-test.true c.part-item.is in
    n.sound

pub returns-in_err-array_over-clause-refused : goal.returns-in_err-array_over-clause-refused
returns-in_err-array_over-clause-refused c =
    let xs = c.args.parts.now in
    let x = c.part-item.result in
    let i = c.loop-part.part-index in
    let inv = c.loop-part.invariant in
    let us : Lists = lists_of c.args.lists.now.items in
    let ws : Lists = lists_of c.loop-part.lists.items in
    let n = part_next us ws xs c.loop-part.over.items c.args.number i x inv.same.lists inv.over c.loop-part-test.true c.part-item.is in
    refused_by c.from_residual.result c.in_err-array_over.field-0.0 _ _ c.from_residual.ensures.1 n.large c.in_err-array_over.ensures.refused

pub loop-part-preserved : goal.loop-part-preserved
loop-part-preserved c =
    let xs = c.args.parts.now in
    let x = c.part-item.result in
    let i = c.loop-part.part-index in
    let inv = c.loop-part.invariant in
    let us : Lists = lists_of c.args.lists.now.items in
    let ws : Lists = lists_of c.loop-part.lists.items in
    let y = c.in_ok-array_over.field-0 in
    let grown : c.push.new.self.items ≡ c.loop-part.over.items ++ y ∷ [] = search (rules, c.in_ok-push.ensures.items) in
    record {
      over = parts_more us ws xs c.loop-part.over.items c.push.new.self.items c.args.number i x y inv.same.lists inv.over c.loop-part-test.true c.part-item.is c.in_ok-array_over.ensures.parts c.in_ok-array_over.ensures.fits grown;
      same = same_through c.args.lists.now.items c.loop-part.lists.items c.array_over.new.lists.items inv.same c.in_ok-array_over.ensures.same;
    }

pub returns-clause-parts : goal.returns-clause-parts
returns-clause-parts c =
    let d = parts_done (lists_of c.args.lists.now.items) c.args.parts.now c.loop-part.over.items c.args.number c.loop-part.part-index c.loop-part.invariant.over (omega (arith, c.loop-part-test.false)) in
    d.parts

pub returns-clause-fits : goal.returns-clause-fits
returns-clause-fits c =
    let d = parts_done (lists_of c.args.lists.now.items) c.args.parts.now c.loop-part.over.items c.args.number c.loop-part.part-index c.loop-part.invariant.over (omega (arith, c.loop-part-test.false)) in
    d.large
