-- A list of slots or of nodes, seen from an index on.
use Rattle.std.proofs.Common.{◌≡◌, ℕ, ◌+◌, ◌<◌, ◌≤◌, List, [], ◌∷◌, length, get_or, drop, refl, sym, ap, ◌∙◌, arith}
use Rattle.std.proofs.lemmas.List.{drop_more, drop_all}
use Rattle.arrow_spec.specs.Layout.{no_more, none, also, node_count}
use Rattle.arrow_flat.specs.Nodes.{in_front, node_of, slot_of, slots_of, nodes_of}
use Rattle.arrow_flat.specs.declared.node.Node.{Node}
use Rattle.arrow_flat.specs.declared.node.Slot.{Slot}

pub next_slot : (xs : List Slot) (i : ℕ) (x : Slot) → x ≡ get_or xs i x → i < length xs → slots_of (drop i xs) ≡ in_front (slot_of x) (slots_of (drop (i + 1) xs))
next_slot xs i x e h = ap slots_of (drop_more xs i x h ∙ ap (λ y. y ∷ drop (i + 1) xs) (sym e))

pub no_slot : (xs : List Slot) (i : ℕ) → length xs ≤ i → slots_of (drop i xs) ≡ no_more
no_slot xs i h = ap slots_of (drop_all i xs h)

pub next_node : (xs : List Node) (i : ℕ) (x : Node) → x ≡ get_or xs i x → i < length xs → nodes_of (drop i xs) ≡ also (node_of x) (nodes_of (drop (i + 1) xs))
next_node xs i x e h = ap nodes_of (drop_more xs i x h ∙ ap (λ y. y ∷ drop (i + 1) xs) (sym e))

pub no_node : (xs : List Node) (i : ℕ) → length xs ≤ i → nodes_of (drop i xs) ≡ none
no_node xs i h = ap nodes_of (drop_all i xs h)

pub ruleset steps = (next_slot, no_slot, next_node, no_node)

pub count_of_nodes : (xs : List Node) → node_count (nodes_of xs) ≡ length xs
count_of_nodes [] = refl
count_of_nodes (x ∷ xs) = omega (arith, count_of_nodes xs)
