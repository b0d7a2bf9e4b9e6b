-- What is known of the first of some slots, or of some tables.
use Rattle.std.proofs.Common.{◌≡◌, ℕ, ◌≤◌, sym, ap, subst, ◌∙◌, arith}
use Rattle.arrow_spec.specs.Layout.{Node, Slots, Nodes, also, end_of, end_of_children, end_of_nodes}
use Rattle.arrow_spec.proofs.Ends.{children_above, nodes_above}
use Rattle.arrow_flat.specs.Nodes.{SlotValue, nothing, number, leads_to, in_front, value_end, KeepsSlotLimit, ValueKeepsSlotLimit, ChildrenKeepSlotLimit, NodesKeepSlotLimit, NumbersFit, ValueFits, SlotNumbersFit, NodeNumbersFit}
use Rattle.arrow_flat.proofs.Fronts.{children_in_front}

pub record NextChild (v : SlotValue) (s : Slots) (c e : ℕ) : Type 0 where
  pub slot_limit : ValueKeepsSlotLimit v
  pub others : ChildrenKeepSlotLimit s
  pub rest : end_of_children s (value_end v c) ≡ e
  pub within : value_end v c ≤ e

limit_here : (v : SlotValue) (s : Slots) → ChildrenKeepSlotLimit (in_front v s) → ValueKeepsSlotLimit v × ChildrenKeepSlotLimit s
limit_here nothing s h = (tt, h)
limit_here (number w x) s h = (tt, h)
limit_here (leads_to n) s h = h

pub next_child : (v : SlotValue) (s t : Slots) (c e : ℕ) → t ≡ in_front v s → ChildrenKeepSlotLimit t → end_of_children t c ≡ e → NextChild v s c e
next_child v s t c e ht slot_limit ends =
    let here = limit_here v s (subst ChildrenKeepSlotLimit ht slot_limit) in
    let rest : end_of_children s (value_end v c) ≡ e = sym (ap (λ u. end_of_children u c) ht ∙ children_in_front v s c) ∙ ends in
    record { slot_limit = here.0; others = here.1; rest = rest; within = omega (arith, children_above s (value_end v c)) }

fits_here : (v : SlotValue) (s : Slots) → ValueFits v → SlotNumbersFit s → SlotNumbersFit (in_front v s)
fits_here nothing s hv hs = hs
fits_here (number w x) s hv hs = (hv, hs)
fits_here (leads_to n) s hv hs = (hv, hs)

pub slot_fits : (v : SlotValue) (s t : Slots) → t ≡ in_front v s → ValueFits v → SlotNumbersFit s → SlotNumbersFit t
slot_fits v s t ht hv hs = subst SlotNumbersFit (sym ht) (fits_here v s hv hs)

pub record NextNode (n : Node) (ns : Nodes) (c e : ℕ) : Type 0 where
  pub slot_limit : KeepsSlotLimit n
  pub others : NodesKeepSlotLimit ns
  pub rest : end_of_nodes ns (end_of n c) ≡ e
  pub within : end_of n c ≤ e

pub next_table : (n : Node) (ns ms : Nodes) (c e : ℕ) → ms ≡ also n ns → NodesKeepSlotLimit ms → end_of_nodes ms c ≡ e → NextNode n ns c e
next_table n ns ms c e hms slot_limit ends =
    let here : NodesKeepSlotLimit (also n ns) = subst NodesKeepSlotLimit hms slot_limit in
    let rest : end_of_nodes ns (end_of n c) ≡ e = sym (ap (λ us. end_of_nodes us c) hms) ∙ ends in
    record { slot_limit = here.0; others = here.1; rest = rest; within = omega (arith, nodes_above ns (end_of n c)) }

pub node_fits : (n : Node) (ns ms : Nodes) → ms ≡ also n ns → NumbersFit n → NodeNumbersFit ns → NodeNumbersFit ms
node_fits n ns ms hms hn hns = let both : NodeNumbersFit (also n ns) = (hn, hns) in subst NodeNumbersFit (sym hms) both
