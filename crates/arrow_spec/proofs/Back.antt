-- What is laid is read again, wherever it stands.
use Rattle.std.proofs.Common.{◌≡◌, ℕ, suc, zero, ◌+◌, ◌-◌, ◌*◌, ◌^◌, ◌<◌, ◌≤◌, List, [], ◌∷◌, ◌++◌, length, Ok, refl, sym, ap, subst, arith, length-append}
use Rattle.std.specs.Int.{w32, w64, byte_len, to_le_bytes, cast_unsigned}
use Rattle.std.specs.List.{flat_map}
use Rattle.arrow_spec.specs.Readings.{bind}
use Rattle.arrow_spec.specs.Flat.{Table, unsigned_at, root}
use Rattle.arrow_spec.specs.Layout.{Node, Slots, Nodes, table, text, structs, numbers32, numbers64, tables, no_more, absent, value, child, none, also, node_count, slot_count, one_more, up_to, before_eight, inline_end, table_place, vtable_size, place_of, end_of, end_of_children, end_of_nodes, entries, inline_values, offsets, table_head, laid, laid_children, laid_nodes, zeros, u16, u32, layout, size}
use Rattle.arrow_spec.proofs.Standing.{stands_left}
use Rattle.arrow_spec.proofs.Found.{right_at, within, number_stands, target_stands, table_stands, slot_past, slot_none, slot_some}
use Rattle.arrow_spec.proofs.Ends.{inline_above, inline_near, eight_above, end_above, children_above, nodes_above, place_above, place_below}
use Rattle.arrow_spec.proofs.Lengths.{length-gap, length-value, length-piece, length-offsets, head_parts, length-head, length-plain, length-laid}
use Rattle.arrow_spec.specs.Held.{Stands, Fits, AllFit, NodesFit, Holds, HoldsSlots, HoldsNodes, Rooted}

one_more-zero : (k : ℕ) → zero ≡ one_more k → k ≡ 0
one_more-zero zero h = refl
one_more-zero (suc k) h = omega (arith, h)

one_more-suc : (n k : ℕ) → suc n ≡ one_more k → n ≡ k
one_more-suc n zero h = omega (arith, h)
one_more-suc n (suc k) h = omega (arith, h)

-- slots behind the last one that is present
past_back : (s : Slots) (b : List ℕ) (t : Table) (i : ℕ) → t.size ≤ 4 + 2 * i → slot_count s ≡ 0 → HoldsSlots s b t i
past_back no_more b t i past all_absent = past
past_back (absent s) b t i past all_absent = (slot_past b t i (omega (arith, past)), past_back s b t (i + 1) (omega (arith, past)) (one_more-zero (slot_count s) (sym all_absent)))
past_back (value w x s) b t i past all_absent = absurd (omega (arith, all_absent))
past_back (child n s) b t i past all_absent = absurd (omega (arith, all_absent))

-- what stands behind zeros, and behind that
plain : (b : List ℕ) (c p : ℕ) (n xs : List ℕ) → c ≤ p → length n ≡ 4 → Stands b c ((zeros (p - c) ++ n) ++ xs) → Stands b p n × Stands b (p + 4) xs
plain b c p n xs h hn has =
    let g = zeros (p - c) in
    let lg : c + length g ≡ p = length-gap c p h in
    (right_at b c g n p (sym lg) (stands_left b c (g ++ n) xs has), right_at b c (g ++ n) xs (p + 4) (omega (arith, length-append g n, lg, hn)) has)

mutual
  pub node_back : (n : Node) (b : List ℕ) (c : ℕ) → Stands b c (laid n c) → Fits n → end_of n c < 2 ^ 31 → Holds n b (place_of n c)
  node_back (table s) b c h fits short =
      let p = table_place s c in
      let e = inline_end s (p + 4) in
      let parts = head_parts b s c (stands_left b c (table_head s c) (laid_children s e) h) in
      let children : Stands b e (laid_children s e) = right_at b c (table_head s c) (laid_children s e) e (sym (length-head s c)) h in
      let start : p - vtable_size s + 4 ≡ p - vtable_size s + 4 + 2 * 0 = omega arith in
      let slots = subst (λ k. Stands b k (entries s p (p + 4) (slot_count s))) start parts.slots in
      let t : Table = record { place = p; vtable = p - vtable_size s; size = vtable_size s } in (
        t,
        table_stands b p (vtable_size s) (omega arith) (omega (arith, fits.0)) (omega arith) parts.back parts.size,
        slots_back s b t 0 (p + 4) e (slot_count s) refl (omega arith) slots parts.values children fits.1 (omega arith) (omega (arith, inline_near s (p + 4), fits.0)) (omega arith) short,
      )
  node_back (text x) b c h fits short =
      let p = up_to 4 c in
      let n = u32 (length x) in
      let parts = plain b c p n x (omega arith) refl (stands_left b c ((zeros (p - c) ++ n) ++ x) (0 ∷ []) h) in
      (number_stands w32 b p (length x) (omega (arith, short)) parts.0, parts.1)
  node_back (structs n xs) b c h fits short =
      let parts = plain b c (before_eight c) (u32 n) xs (eight_above c) refl h in
      (number_stands w32 b (before_eight c) n fits parts.0, parts.1)
  node_back (numbers32 zs) b c h fits short =
      let p = up_to 4 c in
      let parts = plain b c p (u32 (length zs)) (flat_map (λ x. to_le_bytes w32 (cast_unsigned w32 x)) zs) (omega arith) refl h in
      (number_stands w32 b p (length zs) (omega (arith, short)) parts.0, parts.1)
  node_back (numbers64 zs) b c h fits short =
      let p = before_eight c in
      let parts = plain b c p (u32 (length zs)) (flat_map (λ x. to_le_bytes w64 (cast_unsigned w64 x)) zs) (eight_above c) refl h in
      (number_stands w32 b p (length zs) (omega (arith, short)) parts.0, parts.1)
  node_back (tables ns) b c h fits short =
      let p = up_to 4 c in
      let e = p + 4 + 4 * node_count ns in
      let n = u32 (node_count ns) in
      let os = offsets ns (p + 4) e in
      let head : Stands b c ((zeros (p - c) ++ n) ++ os) = stands_left b c ((zeros (p - c) ++ n) ++ os) (laid_nodes ns e) h in
      let parts = plain b c p n os (omega arith) refl head in
      let length-here : c + length ((zeros (p - c) ++ n) ++ os) ≡ e = length-plain c p e n os (omega arith) refl (omega (arith, length-offsets ns (p + 4) e)) in
      let below : e ≤ end_of_nodes ns e = nodes_above ns e in (
        number_stands w32 b p (node_count ns) (omega (arith, below, short)) parts.0,
        omega (arith, within b (p + 4) os parts.1, length-offsets ns (p + 4) e),
        nodes_back ns b (p + 4) e parts.1 (right_at b c ((zeros (p - c) ++ n) ++ os) (laid_nodes ns e) e (sym length-here) h) fits (omega arith) short,
      )

  -- n slots are left in the vtable, the next inline value stands at q or behind, and the next child is laid at c
  pub slots_back : (s : Slots) (b : List ℕ) (t : Table) (i q c n : ℕ) → n ≡ slot_count s → t.size ≡ 4 + 2 * (i + n) → Stands b (t.vtable + 4 + 2 * i) (entries s t.place q n) → Stands b q (inline_values s q c)
      → Stands b c (laid_children s c) → AllFit s → inline_end s q ≤ c → inline_end s q < t.place + 2 ^ 16 → t.place + 4 ≤ q → end_of_children s c < 2 ^ 31 → HoldsSlots s b t i
  slots_back no_more b t i q c n count size slots values children fits behind near low short = omega (arith, count, size)
  slots_back (absent s) b t i q c zero count size slots values children fits behind near low short = past_back (absent s) b t i (omega (arith, size)) (sym count)
  slots_back (absent s) b t i q c (suc n) count size slots values children fits behind near low short =
      let v = t.vtable + 4 + 2 * i in
      let others = entries s t.place q n in (
        slot_none b t i (omega (arith, size)) (stands_left b v (u16 0) others slots),
        slots_back s b t (i + 1) q c n (one_more-suc n (slot_count s) count) (omega (arith, size)) (right_at b v (u16 0) others (t.vtable + 4 + 2 * (i + 1)) (omega arith) slots) values children fits behind near low short,
      )
  slots_back (value w x s) b t i q c zero count size slots values children fits behind near low short = absurd (omega (arith, count))
  slots_back (value w x s) b t i q c (suc n) count size slots values children fits behind near low short =
      let at = up_to (byte_len w) q in
      let next = at + byte_len w in
      let v = t.vtable + 4 + 2 * i in
      let first = u16 (at - t.place) in
      let others = entries s t.place next n in
      let g = zeros (at - q) in
      let bytes = to_le_bytes w (cast_unsigned w x) in
      let rest = inline_values s next c in
      let above : q ≤ at = omega arith in
      let end : next ≤ inline_end s next = inline_above s next in
      let lg : q + length g ≡ at = length-gap q at above in
      let lv : q + length (g ++ bytes) ≡ next = length-piece q at next bytes above (ap (λ k. at + k) (sym (length-value w (cast_unsigned w x)))) in (
        (
          at,
          slot_some b t i at (omega (arith, size)) (omega (arith, above, low)) (omega (arith, near, end)) (stands_left b v first others slots),
          number_stands w b at (cast_unsigned w x) fits.0 (right_at b q g bytes at (sym lg) (stands_left b q (g ++ bytes) rest values)),
        ),
        slots_back s b t (i + 1) next c n (omega (arith, count)) (omega (arith, size)) (right_at b v first others (t.vtable + 4 + 2 * (i + 1)) (omega arith) slots) (right_at b q (g ++ bytes) rest next (sym lv) values) children fits.1 behind near
            (omega (arith, above, low)) short,
      )
  slots_back (child m s) b t i q c zero count size slots values children fits behind near low short = absurd (omega (arith, count))
  slots_back (child m s) b t i q c (suc n) count size slots values children fits behind near low short =
      let at = up_to 4 q in
      let next = at + 4 in
      let to = place_of m c in
      let e = end_of m c in
      let v = t.vtable + 4 + 2 * i in
      let first = u16 (at - t.place) in
      let others = entries s t.place next n in
      let g = zeros (at - q) in
      let bytes = u32 (to - at) in
      let rest = inline_values s next e in
      let above : q ≤ at = omega arith in
      let end : next ≤ inline_end s next = inline_above s next in
      let later : e ≤ end_of_children s e = children_above s e in
      let lg : q + length g ≡ at = length-gap q at above in
      let lv : q + length (g ++ bytes) ≡ next = length-piece q at next bytes above refl in (
        (
          at,
          to,
          slot_some b t i at (omega (arith, size)) (omega (arith, above, low)) (omega (arith, near, end)) (stands_left b v first others slots),
          target_stands b at to (omega (arith, behind, end, place_above m c)) (omega (arith, short, later, place_below m c)) (right_at b q g bytes at (sym lg) (stands_left b q (g ++ bytes) rest values)),
          node_back m b c (stands_left b c (laid m c) (laid_children s e) children) fits.0 (omega (arith, short, later)),
        ),
        slots_back s b t (i + 1) next e n (omega (arith, count)) (omega (arith, size)) (right_at b v first others (t.vtable + 4 + 2 * (i + 1)) (omega arith) slots) (right_at b q (g ++ bytes) rest next (sym lv) values)
            (right_at b c (laid m c) (laid_children s e) e (sym (length-laid m c)) children) fits.1 (omega (arith, behind, end_above m c)) near (omega (arith, above, low)) short,
      )

  pub nodes_back : (ns : Nodes) (b : List ℕ) (at c : ℕ) → Stands b at (offsets ns at c) → Stands b c (laid_nodes ns c) → NodesFit ns → at + 4 * node_count ns ≤ c → end_of_nodes ns c < 2 ^ 31 → HoldsNodes ns b at
  nodes_back none b at c places laids fits behind short = tt
  nodes_back (also n ns) b at c places laids fits behind short =
      let to = place_of n c in
      let e = end_of n c in
      let first = u32 (to - at) in
      let later : e ≤ end_of_nodes ns e = nodes_above ns e in (
        (
          to,
          target_stands b at to (omega (arith, behind, place_above n c)) (omega (arith, short, later, place_below n c)) (stands_left b at first (offsets ns (at + 4) e) places),
          node_back n b c (stands_left b c (laid n c) (laid_nodes ns e) laids) fits.0 (omega (arith, short, later)),
        ),
        nodes_back ns b (at + 4) e (right_at b at first (offsets ns (at + 4) e) (at + 4) (omega arith) places) (right_at b c (laid n c) (laid_nodes ns e) e (sym (length-laid n c)) laids)
            fits.1 (omega (arith, behind, end_above n c)) short,
      )

pub layout_back : (s : Slots) (rest : List ℕ) → Fits (table s) → size (table s) < 2 ^ 31 → Rooted s (layout (table s) ++ rest)
unfolding root bind layout size
layout_back s rest fits short =
    let n = table s in
    let b = layout n ++ rest in
    let p = place_of n 4 in
    let whole : Stands b 0 ((u32 p ++ laid n 4)) = record { front = []; back = rest; whole = refl; place = refl } in
    let first : Stands b 0 (u32 p) = stands_left b 0 (u32 p) (laid n 4) whole in
    let behind : Stands b 4 (laid n 4) = right_at b 0 (u32 p) (laid n 4) 4 refl whole in
    let held : Holds n b p = node_back n b 4 behind fits short in
    let small : p < 2 ^ 32 = omega (arith, short, place_below n 4) in
    let start : unsigned_at w32 b 0 ≡ Ok p = number_stands w32 b 0 p small first in
    record { root_table = held.0; found = rw (root, start) held.1; slots = held.2 }
