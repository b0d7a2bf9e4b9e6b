use Rattle.std.proofs.Common.{◌≡◌, length, ap, sym, subst, ◌∙◌, arith}
use Rattle.arrow_buffers.specs.Rows.{part}
use Rattle.ipc_bodies.specs.Pieces.{turned, AreNumbers}
use Rattle.ipc_bodies.proofs.Turning.{length_turned, copied_part, piece_of, piece_numbers, turned_piece}
use Rattle.ipc_bodies.proofs.numbers.TurnedNumbers.fill.Goals as goal

pub overflow_add-at : goal.overflow_add-at
overflow_add-at c = omega (arith, c.requires.within, c.requires.small)

pub slice_bounds-copy_from_slice-end : goal.slice_bounds-copy_from_slice-end
slice_bounds-copy_from_slice-end c =
    let n : length c.args.self.now ≡ length c.as_slice-bytes.result.now = ap length (sym c.self.view_is) ∙ length_turned c.self.inside.primitive c.self.inside.bytes c.self.invariant.1 ∙ ap length (sym c.as_slice-bytes.ensures) in
    omega (arith, n, c.requires.within)

pub turn_each-requires-clause-whole : goal.turn_each-requires-clause-whole
turn_each-requires-clause-whole c =
    let b = c.self.inside in
    let copied = copied_part b.bytes c.as_slice-bytes.result.now c.copy_from_slice.new.self c.args.at (length c.args.out.now) c.copy_from_slice.ensures.after c.as_slice-bytes.ensures in
    subst (AreNumbers b.primitive) (sym copied) (piece_numbers b.primitive b.bytes c.args.at (length c.args.out.now) c.self.invariant.1 (piece_of b.primitive b.bytes c.args.self.now c.args.at (length c.args.out.now) c.self.view_is c.requires))

pub returns : goal.returns
returns c =
    let b = c.self.inside in
    let n = length c.args.out.now in
    let copied = copied_part b.bytes c.as_slice-bytes.result.now c.copy_from_slice.new.self c.args.at n c.copy_from_slice.ensures.after c.as_slice-bytes.ensures in
    c.turn_each.ensures
    ∙ ap (turned b.primitive) copied
    ∙ turned_piece b.primitive b.bytes c.args.at n c.self.invariant.1 (piece_of b.primitive b.bytes c.args.self.now c.args.at n c.self.view_is c.requires)
    ∙ ap (part c.args.at n) c.self.view_is
