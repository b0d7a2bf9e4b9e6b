-- A table's head, and what is laid behind it.
use Rattle.std.proofs.Common.{◌≡◌, ℕ, ◌+◌, ◌-◌, ◌*◌, List, ◌++◌, length, refl, sym, ap, ◌∙◌, append_assoc}
use Rattle.arrow_spec.specs.Layout.{Slots, Nodes, table, tables, table_place, inline_end, table_head, inline_values, laid, laid_children, laid_nodes, offsets, node_count, up_to, zeros, u32}
use Rattle.arrow_flat.specs.Nodes.{table_front}

head_is : (s : Slots) (c : ℕ) → table_head s c ≡ table_front s c ++ inline_values s (table_place s c + 4) (inline_end s (table_place s c + 4))
unfolding table_head table_front
head_is s c = refl

pub table_laid : (s : Slots) (old front new : List ℕ) → front ≡ old ++ table_front s (length old) → length front ≡ table_place s (length old) + 4
    → new ≡ front ++ (inline_values s (length front) (inline_end s (length front)) ++ laid_children s (inline_end s (length front))) → new ≡ old ++ laid (table s) (length old)
table_laid s old front new hfront hlen hnew =
    let p = table_place s (length old) + 4 in
    let e = inline_end s p in
    let here : new ≡ front ++ (inline_values s p e ++ laid_children s e) = hnew ∙ ap (λ k. front ++ (inline_values s k (inline_end s k) ++ laid_children s (inline_end s k))) hlen in
    let joined : (old ++ table_front s (length old)) ++ (inline_values s p e ++ laid_children s e) ≡ old ++ ((table_front s (length old) ++ inline_values s p e) ++ laid_children s e) = simp append_assoc in
    here ∙ ap (λ xs. xs ++ (inline_values s p e ++ laid_children s e)) hfront ∙ joined ∙ ap (λ xs. old ++ (xs ++ laid_children s e)) (sym (head_is s (length old)))

pub tables_laid : (ns : Nodes) (old gap counted new : List ℕ) (n p e : ℕ) → node_count ns ≡ n → p ≡ up_to 4 (length old) → gap ≡ old ++ zeros (p - length old) → counted ≡ gap ++ u32 n → length counted ≡ p + 4 → e ≡ p + 4 + 4 * n
    → new ≡ counted ++ (offsets ns (length counted) e ++ laid_nodes ns e) → new ≡ old ++ laid (tables ns) (length old)
tables_laid ns old gap counted new n p e hn hp hgap hcounted hlen he hnew = rw (hnew, hlen, hcounted, hgap, he, ← hn, hp) (simp append_assoc)

pub ruleset heads = (table_laid, tables_laid)
