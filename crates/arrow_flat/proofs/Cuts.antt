-- No part ends before it begins, so a cursor that passes the greatest u128 stays there.
use Rattle.std.proofs.Common.{◌≡◌, ℕ, ◌+◌, ◌-◌, ◌*◌, ◌^◌, ◌≤◌, min, ap, sym, ◌∙◌, arith, inl, inr}
use Rattle.std.proofs.lemmas.Bool.{cases_lt}
use Rattle.arrow_spec.specs.Layout.{Slots, Nodes, table, tables, up_to, vtable_size, table_place, inline_end, node_count, end_of, end_of_children, end_of_nodes}
use Rattle.arrow_spec.proofs.Ends.{inline_above, children_above, nodes_above}
use Rattle.arrow_flat.specs.Nodes.{SlotValue, in_front, value_next, value_end}
use Rattle.arrow_flat.proofs.Fronts.{inline_in_front, children_in_front}

-- a number of places, cut to the greatest u128, as far as a function that doesn't fall sees it
cut_by : (f : ℕ → ℕ) → ((x : ℕ) → x ≤ f x) → (c : ℕ) → min (f (min c (2 ^ 128 - 1))) (2 ^ 128 - 1) ≡ min (f c) (2 ^ 128 - 1)
cut_by f above c =
    elim (cases_lt c (2 ^ 128)) [
      | inl lt ↦ let same : min c (2 ^ 128 - 1) ≡ c = omega arith in ap (λ x. min (f x) (2 ^ 128 - 1)) same
      | inr le ↦ omega (arith, above c, above (min c (2 ^ 128 - 1)))
    ]

pub inline_cut : (s : Slots) (q : ℕ) → min (inline_end s (min q (2 ^ 128 - 1))) (2 ^ 128 - 1) ≡ min (inline_end s q) (2 ^ 128 - 1)
inline_cut s q = cut_by (inline_end s) (inline_above s) q

pub children_cut : (s : Slots) (c : ℕ) → min (end_of_children s (min c (2 ^ 128 - 1))) (2 ^ 128 - 1) ≡ min (end_of_children s c) (2 ^ 128 - 1)
children_cut s c = cut_by (end_of_children s) (children_above s) c

pub nodes_cut : (ns : Nodes) (c : ℕ) → min (end_of_nodes ns (min c (2 ^ 128 - 1))) (2 ^ 128 - 1) ≡ min (end_of_nodes ns c) (2 ^ 128 - 1)
nodes_cut ns c = cut_by (end_of_nodes ns) (nodes_above ns) c

pub inline_step : (v : SlotValue) (s t : Slots) (at next r : ℕ) → t ≡ in_front v s → next ≡ min (value_next v at) (2 ^ 128 - 1) → min (inline_end t at) (2 ^ 128 - 1) ≡ r → min (inline_end s next) (2 ^ 128 - 1) ≡ r
inline_step v s t at next r ht hn h =
    ap (λ x. min (inline_end s x) (2 ^ 128 - 1)) hn ∙ inline_cut s (value_next v at) ∙ sym (ap (λ n. min n (2 ^ 128 - 1)) (ap (λ u. inline_end u at) ht ∙ inline_in_front v s at)) ∙ h

pub children_step : (v : SlotValue) (s t : Slots) (c next r : ℕ) → t ≡ in_front v s → next ≡ min (value_end v c) (2 ^ 128 - 1) → min (end_of_children t c) (2 ^ 128 - 1) ≡ r → min (end_of_children s next) (2 ^ 128 - 1) ≡ r
children_step v s t c next r ht hn h =
    ap (λ x. min (end_of_children s x) (2 ^ 128 - 1)) hn ∙ children_cut s (value_end v c) ∙ sym (ap (λ n. min n (2 ^ 128 - 1)) (ap (λ u. end_of_children u c) ht ∙ children_in_front v s c)) ∙ h

pub ruleset cuts = (nodes_cut)

up_cut : (w c : ℕ) → min (up_to w (min c (2 ^ 128 - 1))) (2 ^ 128 - 1) ≡ min (up_to w c) (2 ^ 128 - 1)
up_cut w c = cut_by (λ x. up_to w x) (λ x. omega arith) c

pub table_cut : (s : Slots) (c b p a e r : ℕ) → b ≡ min (c + vtable_size s) (2 ^ 128 - 1) → p ≡ min (up_to 8 b) (2 ^ 128 - 1) → a ≡ min (p + 4) (2 ^ 128 - 1)
    → e ≡ min (inline_end s a) (2 ^ 128 - 1) → r ≡ min (end_of_children s e) (2 ^ 128 - 1) → r ≡ min (end_of (table s) c) (2 ^ 128 - 1)
table_cut s c b p a e r hb hp ha he hr =
    let place : p ≡ min (table_place s c) (2 ^ 128 - 1) = hp ∙ ap (λ x. min (up_to 8 x) (2 ^ 128 - 1)) hb ∙ up_cut 8 (c + vtable_size s) in
    let start : a ≡ min (table_place s c + 4) (2 ^ 128 - 1) = omega arith in
    let inline : e ≡ min (inline_end s (table_place s c + 4)) (2 ^ 128 - 1) = he ∙ ap (λ x. min (inline_end s x) (2 ^ 128 - 1)) start ∙ inline_cut s (table_place s c + 4) in
    hr ∙ ap (λ x. min (end_of_children s x) (2 ^ 128 - 1)) inline ∙ children_cut s (inline_end s (table_place s c + 4))

pub tables_cut : (ns : Nodes) (c n p b r : ℕ) → n ≡ node_count ns → p ≡ min (up_to 4 c) (2 ^ 128 - 1) → b ≡ min (p + (4 + 4 * n)) (2 ^ 128 - 1) → r ≡ min (end_of_nodes ns b) (2 ^ 128 - 1) → r ≡ min (end_of (tables ns) c) (2 ^ 128 - 1)
tables_cut ns c n p b r hn hp hb hr =
    let start : b ≡ min (up_to 4 c + 4 + 4 * node_count ns) (2 ^ 128 - 1) = omega arith in
    hr ∙ ap (λ x. min (end_of_nodes ns x) (2 ^ 128 - 1)) start ∙ nodes_cut ns (up_to 4 c + 4 + 4 * node_count ns)
