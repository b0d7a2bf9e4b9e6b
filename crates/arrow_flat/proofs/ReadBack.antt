-- What is laid reads back.
use Rattle.std.proofs.Common.{◌≡◌, ℕ, ◌^◌, ◌<◌, List, [], sym, subst, ◌∙◌, append-nil}
use Rattle.arrow_spec.specs.Layout.{Node, Slots, Nodes, table, text, structs, numbers32, numbers64, tables, no_more, absent, value, child, none, also, layout, size}
use Rattle.arrow_spec.specs.Held.{Fits, AllFit, NodesFit, Rooted}
use Rattle.arrow_spec.proofs.Back.{layout_back}
use Rattle.arrow_flat.specs.Nodes.{IsTable, KeepsSlotLimit, ChildrenKeepSlotLimit, NodesKeepSlotLimit, NumbersFit, SlotNumbersFit, NodeNumbersFit, ReadsBack}

mutual
  pub node_fits : (n : Node) → KeepsSlotLimit n → NumbersFit n → Fits n
  node_fits (table s) slot_limit fits = (slot_limit.0, slots_fit s slot_limit.1 fits)
  node_fits (text x) slot_limit fits = tt
  node_fits (structs n xs) slot_limit fits = fits
  node_fits (numbers32 xs) slot_limit fits = tt
  node_fits (numbers64 xs) slot_limit fits = tt
  node_fits (tables ns) slot_limit fits = nodes_fit ns slot_limit fits

  slots_fit : (s : Slots) → ChildrenKeepSlotLimit s → SlotNumbersFit s → AllFit s
  slots_fit no_more slot_limit fits = tt
  slots_fit (absent s) slot_limit fits = slots_fit s slot_limit fits
  slots_fit (value w x s) slot_limit fits = (fits.0, slots_fit s slot_limit fits.1)
  slots_fit (child n s) slot_limit fits = (node_fits n slot_limit.0 fits.0, slots_fit s slot_limit.1 fits.1)

  nodes_fit : (ns : Nodes) → NodesKeepSlotLimit ns → NodeNumbersFit ns → NodesFit ns
  nodes_fit none slot_limit fits = tt
  nodes_fit (also n ns) slot_limit fits = (node_fits n slot_limit.0 fits.0, nodes_fit ns slot_limit.1 fits.1)

pub reads_back : (n : Node) (b : List ℕ) → IsTable n → Fits n → size n < 2 ^ 31 → b ≡ layout n → ReadsBack n b
reads_back (table s) b root fits short h = subst (λ (xs : List ℕ). Rooted s xs) (append-nil (layout (table s)) ∙ sym h) (layout_back s [] fits short)
reads_back n b root fits short h = root

pub ruleset reads = (node_fits, reads_back)
