-- What is written of an array with children is what its column is written with.
use Rattle.std.proofs.Common.{◌≡◌, ℕ, ◌+◌, ◌*◌, ◌-◌, ◌≤◌, List, [], ◌∷◌, Option, Some, None, length, map, pos, ℤ, refl, sym, ap, ◌∙◌, arith, length-append}
use Rattle.std.specs.Option.{option_map}
use Rattle.std.specs.Int.{w8, w32, byte_len, cast_unsigned}
use Rattle.std.specs.List.{flat_map}
use Rattle.std.proofs.lemmas.List.{length-map, map-append}
use Rattle.std.proofs.lemmas.List.Concat.{flat_map-cons}
use Rattle.arrow_spec.specs.Flat.{little}
use Rattle.arrow_spec.specs.Kinds.{Offsets, small, large}
use Rattle.arrow_spec.specs.Counts.{Written, magnitude}
use Rattle.arrow_spec.specs.Arrays.{offset_width}
use Rattle.arrow_spec.specs.Sent.{also_written}
use Rattle.arrow_types.specs.Numbers.{signed_to_bytes}
use Rattle.arrow_types.specs.NumberLaws.{unsigned_width}
use Rattle.ipc_write.specs.Below.{part, place_at, leaf_part_of, Head, listed, mapped, sized, structured, tagged, indexed, indexed_part, tagged_cut, Cut, whole, run, head_rows, head_validity, head_part, Reaches, Parts, Forest, leaf, nested, none, also, rows_in, rows_each, fault_in, fault_each, node_in, leaf_counts_in, counts_in, counts_each, width_bytes, places_length, head_lengths, head_written, written_on, written_each, place_pieces, head_pieces, tree_nodes, trees_nodes, tree_pieces, trees_pieces, column_in, counted_from, head_trim, held_by, trim, trim_each}
use Rattle.ipc_write.proofs.Below.LeafSliced as leaves
use Rattle.ipc_write.proofs.Below.HeadSliced as heads
use Rattle.ipc_write.proofs.Below.{top_sound, neither, whole_on, head_holds, rows-trim, length-keys, length-offset_bytes}
use Rattle.laws_transcode.proofs.Below.{written_of_one}
use Rattle.ipc_write.specs.Below.WrittenParts as read
use Rattle.laws_columns.specs.Laws.{WrittenAsColumn}
use Rattle.laws_columns.proofs.Pieces.{length-validity, lengths_are, by_lengths}

-- ── the buffers of a top ──

-- numbers of one width
length-numbers : {A : Type 0} (f : A → List ℕ) (w : ℕ) (xs : List A) → ((x : A) → length (f x) ≡ w) → w * length xs ≡ length (flat_map f xs)
length-numbers f w [] h = omega arith
length-numbers f w (x ∷ xs) h = omega (arith, h x, length-numbers f w xs h, length-append (f x) (flat_map f xs), ap length (flat_map-cons f x xs))

wide : (o : Offsets) → width_bytes o ≡ byte_len (offset_width o)
wide small = refl
wide large = refl

-- offsets that are counted from another place
lists_are : (o : Offsets) (first : ℕ) (xs : List ℤ) → width_bytes o * length xs ≡ byte_len (offset_width o) * length (counted_from first xs)
lists_are o first xs = rw (wide o, length-map xs (λ x. pos (magnitude x - first))) refl

one_byte : (x : ℤ) → length (signed_to_bytes w8 little x) ≡ 1
one_byte x = unsigned_width w8 little (cast_unsigned w8 x)

four_bytes : (x : ℤ) → length (signed_to_bytes w32 little x) ≡ 4
four_bytes x = unsigned_width w32 little (cast_unsigned w32 x)

places_are : (o : Option (List ℤ)) → places_length o ≡ map length (place_pieces little o)
places_are None = refl
places_are (Some xs) = ap (λ n. n ∷ []) (length-numbers (signed_to_bytes w32 little) 4 xs four_bytes)

types_are : (xs : List ℤ) → length xs ≡ length (flat_map (signed_to_bytes w8 little) xs)
types_are xs = omega (arith, length-numbers (signed_to_bytes w8 little) 1 xs one_byte)

two_same : (a b : ℕ) (c d : List ℕ) → a ≡ b → c ≡ d → a ∷ c ≡ b ∷ d
two_same a b c d e f = rw (e, f) refl

head_lengths_are : (o n : ℕ) (h : Head) → head_lengths (head_part o n h) ≡ map length (head_pieces little (head_trim o n h))
head_lengths_are o n (listed l) =
    let first = place_at l.offsets o in
    let xs = part o (n + 1) l.offsets in
    two_same _ _ _ _ (length-validity (option_map (part o n) l.validity)) (ap (λ m. m ∷ []) (lists_are l.width first xs ∙ sym (length-offset_bytes little l.width (counted_from first xs))))
head_lengths_are o n (mapped l) =
    let first = place_at l.offsets o in
    let xs = part o (n + 1) l.offsets in
    two_same _ _ _ _ (length-validity (option_map (part o n) l.validity)) (ap (λ m. m ∷ []) (lists_are l.width first xs ∙ sym (length-offset_bytes little l.width (counted_from first xs))))
head_lengths_are o n (sized c) = ap (λ m. m ∷ []) (length-validity (option_map (part o n) c.validity))
head_lengths_are o n (structured c) = ap (λ m. m ∷ []) (length-validity (option_map (part o n) c.validity))
head_lengths_are o n (tagged t) = two_same _ _ _ _ (types_are (part o n t.types)) (places_are (option_map (part o n) t.offsets))
head_lengths_are o n (indexed d) = two_same _ _ _ _ (length-validity (option_map (part o n) d.validity)) (ap (λ m. m ∷ []) (sym (length-keys little d.index (part o n d.keys))))

validity_same : (o n : ℕ) (h : Head) → head_validity (head_part o n h) ≡ head_validity (head_trim o n h)
validity_same o n (listed l) = refl
validity_same o n h = refl

-- ── trees ──

-- what a tree is written with
abbrev tree_as : Parts → Written
tree_as q = record { nodes = tree_nodes q; lengths = map length (tree_pieces little q); views = counts_in q }

abbrev trees_as : Forest → Written
trees_as cs = record { nodes = trees_nodes cs; lengths = map length (trees_pieces little cs); views = counts_each cs }

nested_as : (h : Head) (cs : Forest)
    → also_written (record { nodes = node_in (nested h cs) ∷ []; lengths = map length (head_pieces little h); views = [] }) (trees_as cs) ≡ tree_as (nested h cs)
nested_as h cs = ap (λ l. record { nodes = tree_nodes (nested h cs); lengths = l; views = counts_each cs }) (sym (map-append length (head_pieces little h) (trees_pieces little cs)))

also_as : (q : Parts) (cs : Forest) → also_written (tree_as q) (trees_as cs) ≡ trees_as (also q cs)
also_as q cs = ap (λ l. record { nodes = trees_nodes (also q cs); lengths = l; views = counts_each (also q cs) }) (sym (map-append length (tree_pieces little q) (trees_pieces little cs)))

tagged_same : (o n : ℕ) (offsets : Option (List ℤ)) → read.tagged_held o n offsets ≡ tagged_cut o n offsets
tagged_same o n None = refl
tagged_same o n (Some offsets) = refl

held_same : (o n : ℕ) (h : Head) → read.held_by o n h ≡ held_by o n h
held_same o n (tagged t) = tagged_same o n t.offsets
held_same o n h = refl

-- the top of some rows
top_as : (o n : ℕ) (h : Head) (cs : Forest) → head_rows (head_part o n h) ≡ head_rows (head_trim o n h)
    → head_written (head_part o n h) ≡ record { nodes = node_in (nested (head_trim o n h) cs) ∷ []; lengths = map length (head_pieces little (head_trim o n h)); views = [] }
top_as o n h cs e = rw (e, validity_same o n h, head_lengths_are o n h) refl

mutual
  tree_written : (o n : ℕ) (p : Parts) → fault_in p ≡ None → o + n ≤ rows_in p → written_on o n p ≡ tree_as (trim o n p)
  tree_written o n (leaf l) e le =
      let q = leaf_part_of o n l in
      ap (λ lengths. record { nodes = node_in (leaf q) ∷ []; lengths = lengths; views = leaf_counts_in q }) (lengths_are q (leaves.fault-part o n l e le))
  tree_written o n (nested (indexed d) cs) e le =
      ap (λ w. also_written w (trees_as none)) (top_as o n (indexed d) none refl) ∙ nested_as (indexed (indexed_part o n d)) none
  tree_written o n (nested h cs) e le =
      let t = top_sound h cs e in
      let below = trim_each (held_by o n h) cs in
      let rows : head_rows (head_part o n h) ≡ head_rows (head_trim o n h) = heads.rows-part o n h (rows_each cs) t.0.offsets le ∙ sym (rows-trim o n h (rows_each cs) t.0.offsets le) in
      ap (also_written (head_written (head_part o n h))) (ap (λ c. written_each c cs) (held_same o n h) ∙ trees_written (held_by o n h) cs t.1 (head_holds o n h (rows_each cs) t.0.rows t.0.offsets le))
      ∙ ap (λ w. also_written w (trees_as below)) (top_as o n h below rows) ∙ nested_as (head_trim o n h) below

  trees_written : (c : Cut) (cs : Forest) → fault_each cs ≡ None → Reaches c (rows_each cs) → written_each c cs ≡ trees_as (trim_each c cs)
  trees_written whole none e r = refl
  trees_written (run o n) none e r = refl
  trees_written whole (also p cs) e r =
      let b = neither (fault_in p) (fault_each cs) e in
      let q = trim 0 (rows_in p) p in
      ap (λ w. also_written w (written_each whole cs)) (tree_written 0 (rows_in p) p b.0 (omega arith)) ∙ ap (also_written (tree_as q)) (trees_written whole cs b.1 tt) ∙ also_as q (trim_each whole cs)
  trees_written (run o n) (also p cs) e r =
      let b = neither (fault_in p) (fault_each cs) e in
      let q = trim o n p in
      ap (λ w. also_written w (written_each (run o n) cs)) (tree_written o n p b.0 r.0) ∙ ap (also_written (tree_as q)) (trees_written (run o n) cs b.1 r.1) ∙ also_as q (trim_each (run o n) cs)

-- ── all rows ──

pub column_written : WrittenAsColumn
column_written (leaf l) h = by_lengths l (lengths_are l h)
column_written (nested top cs) h =
    sym (whole_on (nested top cs) refl h) ∙ tree_written 0 (head_rows top) (nested top cs) h (omega arith)
    ∙ sym (written_of_one (column_in little (nested top cs)))
