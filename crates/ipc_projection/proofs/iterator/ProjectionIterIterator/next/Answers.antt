use Rattle.std.proofs.Common.{◌∙◌, sym, true, false}
use Rattle.ipc_projection.proofs.Marks.{counted, is_marked, marked_later}
use Rattle.ipc_projection.proofs.iterator.ProjectionIterIterator.next.Goals as goal

pub invariant_of-self-2 : goal.invariant_of-self-2
invariant_of-self-2 g c =
    let t = c.take_number-is_selected in
    record { rising = (counted c.args.self.now.count c.saturating_add-self.result t.result.1.now t.ensures.rising t.ensures.last c.saturating_add-self.ensures).0 }

pub returns-then-is_selected-clause-steps : goal.returns-then-is_selected-clause-steps
returns-then-is_selected-clause-steps g c =
    let s = c.args.self.now in
    let t = c.take_number-is_selected in
    let now = sym t.ensures.first ∙ c.if-is_selected.true in (
      c.in_ok-item.item,
      is_marked s.projection.now s.count true c.in_ok-item.item now,
      c.in_ok-item.ensures.steps,
      marked_later s.count c.saturating_add-self.result s.projection.now t.result.1.now t.ensures.rising t.ensures.last c.saturating_add-self.ensures t.ensures.others,
    )

pub returns-else-is_selected-clause-steps : goal.returns-else-is_selected-clause-steps
returns-else-is_selected-clause-steps g c =
    let s = c.args.self.now in
    let t = c.take_number-is_selected in
    let now = sym t.ensures.first ∙ c.if-is_selected.false in (
      c.in_ok-item.item,
      is_marked s.projection.now s.count false c.in_ok-item.item now,
      c.in_ok-item.ensures.steps,
      marked_later s.count c.saturating_add-self.result s.projection.now t.result.1.now t.ensures.rising t.ensures.last c.saturating_add-self.ensures t.ensures.others,
    )
