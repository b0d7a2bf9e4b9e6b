-- How long each laid part is.
use Rattle.std.proofs.Common.{◌≡◌, ℕ, ◌+◌, ◌-◌, ◌*◌, ◌≤◌, List, [], ◌∷◌, ◌++◌, length, refl, ap, sym, arith, ℤ, length-append}
use Rattle.std.specs.Int.{Width, w8, w16, w32, w64, w128, byte_len, to_le_bytes, cast_unsigned}
use Rattle.std.specs.List.{flat_map}
use Rattle.std.proofs.lemmas.List.{length-replicate}
use Rattle.std.proofs.lemmas.List.Concat.{flat_map-cons}
use Rattle.arrow_spec.specs.Layout.{Node, Slots, Nodes, table, text, structs, numbers32, numbers64, tables, no_more, absent, value, child, none, also, node_count, slot_count, up_to, before_eight, inline_end, table_place, vtable_size, place_of, end_of, end_of_children, end_of_nodes, entries, inline_values, offsets, table_head, laid, laid_children, laid_nodes, zeros, u16, u32}
use Rattle.arrow_spec.specs.Held.{Stands}
use Rattle.arrow_spec.proofs.Standing.{stands_left, length-entries}
use Rattle.arrow_spec.proofs.Found.{right_at}
use Rattle.arrow_spec.proofs.Ends.{eight_above}

pub length-gap : (c p : ℕ) → c ≤ p → c + length (zeros (p - c)) ≡ p
length-gap c p h = omega (arith, length-replicate {A = ℕ} (p - c) 0)

pub length-value : (w : Width) (n : ℕ) → length (to_le_bytes w n) ≡ byte_len w
length-value w8 n = refl
length-value w16 n = refl
length-value w32 n = refl
length-value w64 n = refl
length-value w128 n = refl

-- a value behind zeros, and what follows
pub length-piece : (q at e : ℕ) (xs : List ℕ) → q ≤ at → e ≡ at + length xs → q + length (zeros (at - q) ++ xs) ≡ e
length-piece q at e xs h he = omega (arith, length-append (zeros (at - q)) xs, length-gap q at h)

pub length-inline : (s : Slots) (q c : ℕ) → q + length (inline_values s q c) ≡ inline_end s q
length-inline no_more q c = omega arith
length-inline (absent s) q c = length-inline s q c
length-inline (value w x s) q c =
    let at = up_to (byte_len w) q in
    let bytes = to_le_bytes w (cast_unsigned w x) in
    let first : q + length (zeros (at - q) ++ bytes) ≡ at + byte_len w = length-piece q at (at + byte_len w) bytes (omega arith) (omega (arith, length-value w (cast_unsigned w x))) in
    omega (arith, length-append (zeros (at - q) ++ bytes) (inline_values s (at + byte_len w) c), first, length-inline s (at + byte_len w) c)
length-inline (child n s) q c =
    let at = up_to 4 q in
    let bytes = u32 (place_of n c - at) in
    let first : q + length (zeros (at - q) ++ bytes) ≡ at + 4 = length-piece q at (at + 4) bytes (omega arith) refl in
    omega (arith, length-append (zeros (at - q) ++ bytes) (inline_values s (at + 4) (end_of n c)), first, length-inline s (at + 4) (end_of n c))

pub length-offsets : (ns : Nodes) (q c : ℕ) → length (offsets ns q c) ≡ 4 * node_count ns
length-offsets none q c = omega arith
length-offsets (also n ns) q c = omega (arith, length-append (u32 (place_of n c - q)) (offsets ns (q + 4) (end_of n c)), length-offsets ns (q + 4) (end_of n c))

pub length-numbers32 : (zs : List ℤ) → length (flat_map (λ x. to_le_bytes w32 (cast_unsigned w32 x)) zs) ≡ 4 * length zs
length-numbers32 [] = omega arith
length-numbers32 (z ∷ zs) = omega (arith, ap length (flat_map-cons (λ z. to_le_bytes w32 (cast_unsigned w32 z)) z zs), length-append (to_le_bytes w32 (cast_unsigned w32 z)) (flat_map (λ x. to_le_bytes w32 (cast_unsigned w32 x)) zs), length-numbers32 zs)

pub length-numbers64 : (zs : List ℤ) → length (flat_map (λ x. to_le_bytes w64 (cast_unsigned w64 x)) zs) ≡ 8 * length zs
length-numbers64 [] = omega arith
length-numbers64 (z ∷ zs) = omega (arith, ap length (flat_map-cons (λ z. to_le_bytes w64 (cast_unsigned w64 z)) z zs), length-append (to_le_bytes w64 (cast_unsigned w64 z)) (flat_map (λ x. to_le_bytes w64 (cast_unsigned w64 x)) zs), length-numbers64 zs)

-- the parts of a table without its children, for a table at p with a vtable of v bytes whose inline values end at e
pub record HeadParts (b : List ℕ) (s : Slots) (p v e : ℕ) : Type 0 where
  pub size : Stands b (p - v) (to_le_bytes w16 v)
  pub slots : Stands b (p - v + 4) (entries s p (p + 4) (slot_count s))
  pub back : Stands b p (to_le_bytes w32 v)
  pub values : Stands b (p + 4) (inline_values s (p + 4) e)

pub head_parts : (b : List ℕ) (s : Slots) (c : ℕ) → Stands b c (table_head s c) → HeadParts b s (table_place s c) (vtable_size s) (inline_end s (table_place s c + 4))
unfolding table_head
head_parts b s c h =
    let p = table_place s c in
    let v = vtable_size s in
    let e = inline_end s (p + 4) in
    let g = zeros (p - v - c) in
    let s1 = u16 v in
    let s2 = u16 (e - p) in
    let es = entries s p (p + 4) (slot_count s) in
    let s3 = u32 v in
    let vs = inline_values s (p + 4) e in
    let h5 : Stands b c (((((g ++ s1) ++ s2) ++ es) ++ s3) ++ vs) = h in
    let h4 : Stands b c ((((g ++ s1) ++ s2) ++ es) ++ s3) = stands_left b c _ vs h5 in
    let h3 : Stands b c (((g ++ s1) ++ s2) ++ es) = stands_left b c _ s3 h4 in
    let h2 : Stands b c ((g ++ s1) ++ s2) = stands_left b c _ es h3 in
    let h1 : Stands b c (g ++ s1) = stands_left b c _ s2 h2 in
    let lg : c + length g ≡ p - v = length-gap c (p - v) (omega arith) in
    let l1 : c + length (g ++ s1) ≡ p - v + 2 = omega (arith, length-append g s1, lg) in
    let l2 : c + length ((g ++ s1) ++ s2) ≡ p - v + 4 = omega (arith, length-append (g ++ s1) s2, l1) in
    let l3 : c + length (((g ++ s1) ++ s2) ++ es) ≡ p = omega (arith, length-append ((g ++ s1) ++ s2) es, l2, length-entries s p (p + 4) (slot_count s) (omega arith)) in
    let l4 : c + length ((((g ++ s1) ++ s2) ++ es) ++ s3) ≡ p + 4 = omega (arith, length-append (((g ++ s1) ++ s2) ++ es) s3, l3) in
    record {
      size = right_at b c g s1 (p - v) (sym lg) h1;
      slots = right_at b c ((g ++ s1) ++ s2) es (p - v + 4) (sym l2) h3;
      back = right_at b c (((g ++ s1) ++ s2) ++ es) s3 p (sym l3) h4;
      values = right_at b c ((((g ++ s1) ++ s2) ++ es) ++ s3) vs (p + 4) (sym l4) h5;
    }

pub length-head : (s : Slots) (c : ℕ) → c + length (table_head s c) ≡ inline_end s (table_place s c + 4)
unfolding table_head
length-head s c =
    let p = table_place s c in
    let v = vtable_size s in
    let e = inline_end s (p + 4) in
    let g = zeros (p - v - c) in
    let s1 = u16 v in
    let s2 = u16 (e - p) in
    let es = entries s p (p + 4) (slot_count s) in
    let s3 = u32 v in
    let vs = inline_values s (p + 4) e in
    let lg : c + length g ≡ p - v = length-gap c (p - v) (omega arith) in
    let l1 : c + length (g ++ s1) ≡ p - v + 2 = omega (arith, length-append g s1, lg) in
    let l2 : c + length ((g ++ s1) ++ s2) ≡ p - v + 4 = omega (arith, length-append (g ++ s1) s2, l1) in
    let l3 : c + length (((g ++ s1) ++ s2) ++ es) ≡ p = omega (arith, length-append ((g ++ s1) ++ s2) es, l2, length-entries s p (p + 4) (slot_count s) (omega arith)) in
    let l4 : c + length ((((g ++ s1) ++ s2) ++ es) ++ s3) ≡ p + 4 = omega (arith, length-append (((g ++ s1) ++ s2) ++ es) s3, l3) in
    let l5 : c + length (((((g ++ s1) ++ s2) ++ es) ++ s3) ++ vs) ≡ e = omega (arith, length-append ((((g ++ s1) ++ s2) ++ es) ++ s3) vs, l4, length-inline s (p + 4) e) in
    l5

pub length-plain : (c p e : ℕ) (n xs : List ℕ) → c ≤ p → length n ≡ 4 → e ≡ p + 4 + length xs → c + length ((zeros (p - c) ++ n) ++ xs) ≡ e
length-plain c p e n xs h hn he = omega (arith, length-append (zeros (p - c) ++ n) xs, length-append (zeros (p - c)) n, length-gap c p h)

mutual
  pub length-laid : (n : Node) (c : ℕ) → c + length (laid n c) ≡ end_of n c
  length-laid (table s) c =
      let e = inline_end s (table_place s c + 4) in
      omega (arith, length-append (table_head s c) (laid_children s e), length-head s c, length-children s e)
  length-laid (text x) c =
      let p = up_to 4 c in
      let n = u32 (length x) in
      omega (arith, length-append ((zeros (p - c) ++ n) ++ x) (0 ∷ []), length-plain c p (p + 4 + length x) n x (omega arith) refl refl)
  length-laid (structs n xs) c = length-plain c (before_eight c) (end_of (structs n xs) c) (u32 n) xs (eight_above c) refl refl
  length-laid (numbers32 zs) c = length-plain c (up_to 4 c) (end_of (numbers32 zs) c) (u32 (length zs)) (flat_map (λ x. to_le_bytes w32 (cast_unsigned w32 x)) zs) (omega arith) refl (omega (arith, length-numbers32 zs))
  length-laid (numbers64 zs) c = length-plain c (before_eight c) (end_of (numbers64 zs) c) (u32 (length zs)) (flat_map (λ x. to_le_bytes w64 (cast_unsigned w64 x)) zs) (eight_above c) refl (omega (arith, length-numbers64 zs))
  length-laid (tables ns) c =
      let p = up_to 4 c in
      let e = p + 4 + 4 * node_count ns in
      let n = u32 (node_count ns) in
      let os = offsets ns (p + 4) e in
      omega (arith, length-append ((zeros (p - c) ++ n) ++ os) (laid_nodes ns e), length-plain c p e n os (omega arith) refl (omega (arith, length-offsets ns (p + 4) e)), length-nodes ns e)

  pub length-children : (s : Slots) (c : ℕ) → c + length (laid_children s c) ≡ end_of_children s c
  length-children no_more c = omega arith
  length-children (absent s) c = length-children s c
  length-children (value w x s) c = length-children s c
  length-children (child n s) c = omega (arith, length-append (laid n c) (laid_children s (end_of n c)), length-laid n c, length-children s (end_of n c))

  pub length-nodes : (ns : Nodes) (c : ℕ) → c + length (laid_nodes ns c) ≡ end_of_nodes ns c
  length-nodes none c = omega arith
  length-nodes (also n ns) c = omega (arith, length-append (laid n c) (laid_nodes ns (end_of n c)), length-laid n c, length-nodes ns (end_of n c))
