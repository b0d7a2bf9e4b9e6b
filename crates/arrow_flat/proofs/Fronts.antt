-- A slot in front of others.
use Rattle.std.proofs.Common.{◌≡◌, ℕ, suc, ◌≤◌, List, ◌++◌, refl, sym, ap, ◌∙◌, arith, append_assoc}
use Rattle.arrow_spec.specs.Layout.{Slots, inline_end, end_of_children, entries, u16}
use Rattle.arrow_spec.proofs.Ends.{inline_above, inline_near, eight_above, end_above, children_above, nodes_above, place_above, place_below}
use Rattle.arrow_flat.specs.Nodes.{SlotValue, nothing, number, leads_to, in_front, value_place, value_next, value_end, value_entry}

pub inline_in_front : (v : SlotValue) (s : Slots) (q : ℕ) → inline_end (in_front v s) q ≡ inline_end s (value_next v q)
inline_in_front nothing s q = let e : value_next nothing q ≡ q = omega arith in rw e refl
inline_in_front (number w x) s q = refl
inline_in_front (leads_to n) s q = refl

pub children_in_front : (v : SlotValue) (s : Slots) (c : ℕ) → end_of_children (in_front v s) c ≡ end_of_children s (value_end v c)
children_in_front nothing s c = refl
children_in_front (number w x) s c = refl
children_in_front (leads_to n) s c = refl

entries_in_front : (v : SlotValue) (s : Slots) (p q n : ℕ) → entries (in_front v s) p q (suc n) ≡ u16 (value_entry v p q) ++ entries s p (value_next v q) n
entries_in_front nothing s p q n = let e : value_next nothing q ≡ q = omega arith in rw e refl
entries_in_front (number w x) s p q n = refl
entries_in_front (leads_to m) s p q n = refl

pub entries_step : (v : SlotValue) (s t : Slots) (old new all : List ℕ) (p at next n m : ℕ) → t ≡ in_front v s → n ≡ suc m → new ≡ old ++ u16 (value_entry v p at) → next ≡ value_next v at
    → old ++ entries t p at n ≡ all → new ++ entries s p next m ≡ all
entries_step v s t old new all p at next n m ht hm hnew hnext h =
    ap (λ x. new ++ entries s p x m) hnext ∙ ap (λ xs. xs ++ entries s p (value_next v at) m) hnew
    ∙ append_assoc old (u16 (value_entry v p at)) (entries s p (value_next v at) m)
    ∙ sym (ap (λ xs. old ++ xs) (ap (λ u. entries u p at n) ht ∙ ap (λ k. entries (in_front v s) p at k) hm ∙ entries_in_front v s p at m)) ∙ h

pub place_behind : (v : SlotValue) (q : ℕ) → q ≤ value_place v q
place_behind nothing q = omega arith
place_behind (number w x) q = omega arith
place_behind (leads_to n) q = omega arith

pub end_behind : (v : SlotValue) (c : ℕ) → c ≤ value_end v c
end_behind nothing c = omega arith
end_behind (number w x) c = omega arith
end_behind (leads_to n) c = end_above n c

-- no part ends before it begins
pub ruleset places = (inline_above, inline_near, eight_above, end_above, children_above, nodes_above, place_above, place_below, place_behind, end_behind)

-- what the first of some slots is known to keep to
pub record First (v : SlotValue) (s : Slots) (q e : ℕ) : Type 0 where
  pub next : value_next v q ≤ e
  pub rest : inline_end s (value_next v q) ≡ e

pub first_slot : (v : SlotValue) (s t : Slots) (q e : ℕ) → t ≡ in_front v s → inline_end t q ≡ e → First v s q e
first_slot v s t q e ht h =
    let rest : inline_end s (value_next v q) ≡ e = sym (ap (λ u. inline_end u q) ht ∙ inline_in_front v s q) ∙ h in
    record { next = omega (arith, inline_above s (value_next v q)); rest = rest }
