-- What an array is written as means its cells.
use Rattle.std.proofs.Common.{◌≡◌, ℕ, suc, ◌+◌, ◌-◌, ◌≤◌, ◌<◌, List, [], ◌∷◌, Bool, true, false, Option, Some, None, map, length, ℤ, pos, refl, sym, ap, subst, ◌∙◌, arith, length-append}
use Rattle.std.specs.List.{flat_map, sum, AllByRecursion}
use Rattle.std.specs.Option.{option_map}
use Rattle.std.specs.Prelude.{not}
use Rattle.std.proofs.lemmas.Bool.{and_parts, eqb-true}
use Rattle.std.proofs.lemmas.List.{length-map}
use Rattle.std.proofs.lemmas.List.Sums.{sum_by-cons}
use Rattle.arrow_spec.specs.declared.message.FieldNode.{FieldNode}
use Rattle.arrow_spec.specs.Flat.{Order, order_by}
use Rattle.arrow_spec.specs.Kinds.{Kind, Fields, none as no_fields, field}
use Rattle.arrow_spec.specs.Cells.{Cell}
use Rattle.arrow_spec.specs.Counts.{magnitude}
use Rattle.arrow_spec.specs.Arrays.{Dictionaries, found}
use Rattle.arrow_spec.specs.Framing.{validity_bytes}
use Rattle.arrow_buffers.specs.Rows.{part, has_rows, null_rows}
use Rattle.arrow_buffers.specs.Variable.{place_at, are_offsets, variable_rows}
use Rattle.arrow_buffers.proofs.Parts.{length-part}
use Rattle.arrow_buffers.proofs.Masks.{has_rows-part}
use Rattle.arrow_buffers.proofs.Rising.{some_offset, offset_between}
use Rattle.arrow_arrays.specs.LeafParts.{LeafParts, nulls, bits, numbers, fixed, binary, text, binary_views, text_views, leaf_kind_in, leaf_rows_in, leaf_fault_in, leaf_part_of}
use Rattle.arrow_arrays.specs.Heads.{Head, Listed, Counted, Indexed, indexed_part, is_dictionary, have_keys, joined, are_under, listed, mapped, sized, structured, tagged, indexed, Cut, whole, run, Reaches, head_kind, head_rows, head_cells, suits, are_of, child_fields, first_or_0, is_list, is_map, is_sized, is_struct, is_union, tagged_cut, fits_places, ids_in, head_part, cut_of}
use Rattle.arrow_arrays.specs.Nodes.{counts_in}
use Rattle.arrow_arrays.specs.NoDictionaries.{is_indexed, has_no_dictionary, have_no_dictionary}
use Rattle.arrow_arrays.specs.Parts.{Parts, Forest, leaf, nested, none, also, kind_in, rows_in, null_rows_in, kinds_each, rows_each, cells_in, cells_each, fault_in, fault_each}
use Rattle.arrow_arrays.proofs.LeafSliced as leaves
use Rattle.arrow_arrays.proofs.HeadSliced.{Sound, place_at-part, fault-part, head_sound, cut_counts}
use Rattle.arrow_arrays.proofs.Sliced.{top_sound, neither, length-cells}
use Rattle.ipc_write_laws.specs.Columns.{WrittenColumn, Means}
use Rattle.ipc_write_laws.specs.Streams.{AreOf}
use Rattle.ipc_write_arrays.specs.Dictionaries.{Begins, KeyFits, dictionary_id, is_alike, first_kind, other_fields, HoldsValues, HoldsValuesAt, HoldsEachAt}
use Rattle.ipc_bodies.specs.Fitting.{offset_limit}
use Rattle.ipc_write_arrays.specs.Pieces.{HeadFit, TagsFit, LeafFit, Fit, FitEach, column_in, with_kind, key_written, tree_nodes, tree_pieces}
use Rattle.ipc_write_arrays.specs.Trims.{counted_from, listed_trim, head_trim, held_between, held_by, trim, trim_each, sent}
use Rattle.ipc_write_arrays.specs.Outputs.{LeafMayHaveOrder, MayHaveOrder, MayHaveOrderEach}
use Rattle.ipc_write_arrays.proofs.TrimLaws.{place_from, head_holds, head_cells-trim, all_of, all_rows-trim}
use Rattle.ipc_write_arrays.proofs.Alike.{shape, one_shape, same_fields, leaf_kind, same_leaf, head_under, kinds_under, sound_under, AreAlike, children_alike}
use Rattle.ipc_write_arrays.proofs.TreeColumns.{sent_column, sent_columns, trimmed, nodes_below, own_node, nested_is, trimmed_under, held_under, columns_are_of, length-columns}
use Rattle.ipc_write_arrays.proofs.RoundTripUnions.{sparse_mean, dense_mean}
use Rattle.ipc_write_arrays.proofs.RoundTripHeads.{one_column}
use Rattle.ipc_write_arrays.proofs.RoundTripKeys.{keys_mean}
use Rattle.ipc_write_arrays.proofs.RoundTripNested.{MeansOwn, own_rows, first_rows, Climbing, list_column, list_mean, map_mean, sized_mean, struct_mean}
use Rattle.ipc_write_arrays.proofs.RoundTripPlain as plain
use Rattle.ipc_write_arrays.proofs.RoundTripNumbers as numbered
use Rattle.ipc_write_arrays.proofs.RoundTripOffsets as between
use Rattle.ipc_write_arrays.proofs.RoundTripViews as viewed

-- the column of an array without children, in any order that it may have, reads back as the array's cells
pub leaf_means : (is_little_endian : Bool) (d : Dictionaries) (l : LeafParts) → leaf_fault_in l ≡ None → LeafFit l → LeafMayHaveOrder l is_little_endian
    → Means (order_by is_little_endian) d (leaf_rows_in l) (column_in (order_by is_little_endian) (leaf l))
leaf_means le d (nulls x) e fit may = plain.nulls_mean (order_by le) d x e
leaf_means le d (bits f) e fit may = plain.bits_mean (order_by le) d f e
leaf_means le d (numbers f) e fit may = numbered.numbers_mean (order_by le) d f e
leaf_means le d (fixed f) e fit may = plain.fixed_mean (order_by le) d f e
leaf_means le d (binary x) e fit may = between.variable_mean false (order_by le) d x e fit
leaf_means le d (text x) e fit may = between.variable_mean true (order_by le) d x e fit
leaf_means true d (binary_views x) e fit may = viewed.views_mean false d x e
leaf_means true d (text_views x) e fit may = viewed.views_mean true d x e
leaf_means false d (binary_views x) e fit may = cc
leaf_means false d (text_views x) e fit may = cc

-- ── tops ──

-- children of which a cut is sent mean their cells
abbrev AreCut : Order → Dictionaries → Cut → List WrittenColumn → Type 0
AreCut order d whole cs = AllByRecursion (λ x. MeansOwn order d (own_rows x) x) cs
AreCut order d (run o n) cs = AllByRecursion (λ x. MeansOwn order d n x) cs

-- and their rows are those of the children that are held whole
abbrev CutRows : Cut → List ℕ → List WrittenColumn → Type 0
CutRows whole ns cs = map own_rows cs ≡ ns
CutRows (run o n) ns cs = Unit {0}

-- lists' offsets climb once they are laid anew
climbing : (o n limit : ℕ) (os : List ℤ) → are_offsets os limit ≡ true → o + n ≤ variable_rows os → Climbing (counted_from (place_at os o) (part o (n + 1) os)) n (place_at os (o + n) - place_at os o)
climbing o n limit os e le =
    let some = some_offset os limit e in
    let f = place_at os o in
    let l = length-part os o (n + 1) (omega arith) in
    let at : (j : ℕ) → j < n + 1 → place_at (counted_from f (part o (n + 1) os)) j ≡ place_at os (o + j) - f =
    λ j lt. place_from f (part o (n + 1) os) j (omega (arith, l)) ∙ ap (λ m. m - f) (place_at-part o (n + 1) j os lt) in
    let up : (i j : ℕ) → i ≤ j → j ≤ n → place_at os (o + i) ≤ place_at os (o + j) = λ i j a b. offset_between os limit (o + i) e (o + j) (omega arith) (omega arith) in
    let z : place_at os (o + 0) ≡ f = ap (place_at os) (omega arith) in
    record {
      long = length-map (part o (n + 1) os) (λ x. pos (magnitude x - f)) ∙ l ∙ omega arith;
      first = omega (arith, at 0 (omega arith), z);
      climbs = λ j lt. omega (arith, at j (omega arith), at (suc j) (omega arith), up j (suc j) (omega arith) (omega arith));
      below = λ j lt. omega (arith, at j (omega arith), up j n (omega arith) (omega arith));
      end = at n (omega arith);
    }

module _ (order : Order) (d : Dictionaries) (o n : ℕ) where
  between_means : (make : Listed → Head) (l : Listed) (cs : List WrittenColumn) → length cs ≡ 1
      → ((x : WrittenColumn) → MeansOwn order d (place_at l.offsets (o + n) - place_at l.offsets o) x → AreOf (child_fields l.kind) (x ∷ []) → Means order d n (trimmed order o n (make l) (x ∷ [])))
      → AreOf (child_fields l.kind) cs → AreCut order d (held_between o n l.offsets) cs → Means order d n (trimmed order o n (make l) cs)
  between_means make l [] one means kinds good = absurd (omega arith)
  between_means make l (x ∷ []) one means kinds good = means x good.0 kinds
  between_means make l (x ∷ y ∷ cs) one means kinds good = absurd (omega arith)

  lists_mean : (l : Listed) (ks : List Kind) (ns : List ℕ) (x : WrittenColumn) → Sound (listed l) ks ns → o + n ≤ variable_rows l.offsets → AllByRecursion (λ y. magnitude y < offset_limit l.width) (listed_trim o n l).offsets
      → MeansOwn order d (place_at l.offsets (o + n) - place_at l.offsets o) x → AreOf (child_fields l.kind) (x ∷ []) → Means order d n (trimmed order o n (listed l) (x ∷ []))
  lists_mean l ks ns x s le fit good kinds =
      let c = climbing o n (first_or_0 ns) l.offsets s.offsets le in
      let rows : n ≡ variable_rows (listed_trim o n l).offsets = omega (arith, c.long) in
      let v = option_map (part o n) l.validity in
      subst (λ r. Means order d n (list_column order l.kind l.width r v (listed_trim o n l).offsets x)) rows
      (list_mean order d l.kind l.width n (place_at l.offsets (o + n) - place_at l.offsets o) v (listed_trim o n l).offsets x (and_parts (is_list l.width l.kind) (are_of (child_fields l.kind) ks) s.suits).0
      (has_rows-part o n (variable_rows l.offsets) l.validity s.valid le) kinds good c fit)

  maps_mean : (l : Listed) (ks : List Kind) (ns : List ℕ) (x : WrittenColumn) → Sound (mapped l) ks ns → o + n ≤ variable_rows l.offsets → AllByRecursion (λ y. magnitude y < offset_limit l.width) (listed_trim o n l).offsets
      → MeansOwn order d (place_at l.offsets (o + n) - place_at l.offsets o) x → AreOf (child_fields l.kind) (x ∷ []) → Means order d n (trimmed order o n (mapped l) (x ∷ []))
  maps_mean l ks ns x s le fit good kinds =
      let c = climbing o n (first_or_0 ns) l.offsets s.offsets le in
      let rows : n ≡ variable_rows (listed_trim o n l).offsets = omega (arith, c.long) in
      let v = option_map (part o n) l.validity in
      subst (λ r. Means order d n (list_column order l.kind l.width r v (listed_trim o n l).offsets x)) rows
      (map_mean order d l.kind l.width n (place_at l.offsets (o + n) - place_at l.offsets o) v (listed_trim o n l).offsets x (and_parts (is_map l.width l.kind) (are_of (child_fields l.kind) ks) s.suits).0
      (has_rows-part o n (variable_rows l.offsets) l.validity s.valid le) kinds good c fit)

  sizes_mean : (c : Counted) (ks : List Kind) (ns : List ℕ) (cs : List WrittenColumn) → Sound (sized c) ks ns → o + n ≤ c.rows → length cs ≡ 1 → AreOf (child_fields c.kind) cs → AreCut order d (held_by o n (sized c)) cs
      → Means order d n (trimmed order o n (sized c) cs)
  sizes_mean c ks ns [] s le one kinds good = absurd (omega arith)
  sizes_mean c ks ns (x ∷ []) s le one kinds good =
      sized_mean order d c.kind n (option_map (part o n) c.validity) x (and_parts (is_sized c.kind) (are_of (child_fields c.kind) ks) s.suits).0 (has_rows-part o n c.rows c.validity s.valid le) kinds good.0
  sizes_mean c ks ns (x ∷ y ∷ cs) s le one kinds good = absurd (omega arith)

  tags_mean : (k : Kind) (types : List ℤ) (offsets : Option (List ℤ)) (ks : List Kind) (ns : List ℕ) (cs : List WrittenColumn) → Sound (tagged (record { kind = k; types = types; offsets = offsets })) ks ns → o + n ≤ length types
      → TagsFit (option_map (part o n) offsets) (part o n types) → AreOf (child_fields k) cs → AreCut order d (tagged_cut o n offsets) cs → CutRows (tagged_cut o n offsets) ns cs
      → Means order d n (trimmed order o n (tagged (record { kind = k; types = types; offsets = offsets })) cs)
  tags_mean k types None ks ns cs s le fit kinds good own =
      let h : Head = tagged (record { kind = k; types = types; offsets = None }) in
      let rows : length (part o n types) ≡ n = length-part types o n le in
      let sound = head_sound (head_part o n h) ks (cut_counts (cut_of o n h) ns) (fault-part o n h ks ns s le) in
      subst (λ r. Means order d r (trimmed order o n h cs)) rows
      (sparse_mean order d k (part o n types) cs (and_parts (is_union false k) (are_of (child_fields k) ks) s.suits).0 sound.types fit kinds (subst (λ r. AllByRecursion (λ x. MeansOwn order d r x) cs) (sym rows) good))
  tags_mean k types (Some offsets) ks ns cs s le fit kinds good own =
      let h : Head = tagged (record { kind = k; types = types; offsets = Some offsets }) in
      let rows : length (part o n types) ≡ n = length-part types o n le in
      let all : length offsets ≡ length types = eqb-true (length offsets) (length types) s.rows in
      let long : length (part o n offsets) ≡ n = length-part offsets o n (omega (arith, all)) in
      let sound = head_sound (head_part o n h) ks (cut_counts (cut_of o n h) ns) (fault-part o n h ks ns s le) in
      let there : fits_places (ids_in k) (part o n types) (Some (part o n offsets)) (map own_rows cs) ≡ true = ap (fits_places (ids_in k) (part o n types) (Some (part o n offsets))) own ∙ sound.offsets in
      subst (λ r. Means order d r (trimmed order o n h cs)) rows
      (dense_mean order d k (part o n types) (part o n offsets) cs (and_parts (is_union true k) (are_of (child_fields k) ks) s.suits).0 (long ∙ sym rows) sound.types there fit.0 fit.1 kinds good)

  indexed_mean : (x : Indexed) (ks : List Kind) (ns : List ℕ) (css : List (List Cell)) → Sound (indexed x) ks ns → o + n ≤ length x.keys → AllByRecursion (λ key. KeyFits x.index key) (part o n x.keys) → length (joined css) ≡ sum ns → Begins (joined css) (found d (dictionary_id x.kind))
      → Means order d n (one_column x.kind (length (part o n x.keys)) (null_rows (option_map (part o n) x.validity)) (validity_bytes (option_map (part o n) x.validity) ∷ flat_map (key_written order x.index) (part o n x.keys) ∷ []) [] (part o n (head_cells (indexed x) css)))
  indexed_mean x ks ns css s le fit long held =
      let rows : length (part o n x.keys) ≡ n = length-part x.keys o n le in
      let v = option_map (part o n) x.validity in
      let h : Head = indexed x in
      let sound = head_sound (head_part o n h) ks (cut_counts (cut_of o n h) ns) (fault-part o n h ks ns s le) in
      let known : have_keys (length (joined css)) (part o n x.keys) v ≡ true = ap (λ size. have_keys size (part o n x.keys) v) long ∙ sound.keys in
      let there : has_rows v (length (part o n x.keys)) ≡ true = ap (has_rows v) rows ∙ has_rows-part o n (length x.keys) x.validity s.valid le in
      let suits = (and_parts (is_dictionary x.index x.kind) (are_under h ks) s.suits).0 in
      subst (λ xs. Means order d n (one_column x.kind (length (part o n x.keys)) (null_rows v) (validity_bytes v ∷ flat_map (key_written order x.index) (part o n x.keys) ∷ []) [] xs)) (head_cells-trim o n h ns css s.offsets le)
      (subst (λ r. Means order d r (one_column x.kind (length (part o n x.keys)) (null_rows v) (validity_bytes v ∷ flat_map (key_written order x.index) (part o n x.keys) ∷ []) [] (head_cells (indexed (indexed_part o n x)) css))) rows
      (keys_mean order d x.kind x.index (part o n x.keys) v css suits there fit known held.0 held.1))

  head_mean : (h : Head) (ks : List Kind) (ns ms : List ℕ) (cs : List WrittenColumn) → not (is_indexed h) ≡ true → Sound h ks ns → o + n ≤ head_rows h → HeadFit (head_trim o n h) ms → length cs ≡ length ms → length ms ≡ length ns → AreOf (child_fields (head_kind h)) cs
      → AreCut order d (held_by o n h) cs → CutRows (held_by o n h) ns cs → Means order d n (trimmed order o n h cs)
  head_mean (listed l) ks ns ms cs plain s le fit count same kinds good own = between_means listed l cs (count ∙ same ∙ eqb-true (length ns) 1 s.rows) (λ x mine of. lists_mean l ks ns x s le fit mine of) kinds good
  head_mean (mapped l) ks ns ms cs plain s le fit count same kinds good own = between_means mapped l cs (count ∙ same ∙ eqb-true (length ns) 1 s.rows) (λ x mine of. maps_mean l ks ns x s le fit mine of) kinds good
  head_mean (sized c) ks ns ms cs plain s le fit count same kinds good own = sizes_mean c ks ns cs s le (count ∙ fit) kinds good
  head_mean (structured c) ks ns ms cs plain s le fit count same kinds good own =
      struct_mean order d c.kind n (option_map (part o n) c.validity) cs (and_parts (is_struct c.kind) (are_of (child_fields c.kind) ks) s.suits).0 (has_rows-part o n c.rows c.validity s.valid le) kinds good
  head_mean (tagged t) ks ns ms cs plain s le fit count same kinds good own = tags_mean t.kind t.types t.offsets ks ns cs s le fit kinds good own
  head_mean (indexed x) ks ns ms cs plain s le fit count same kinds good own = cc

-- ── trees ──

may_part : (o n : ℕ) (l : LeafParts) (is_little_endian : Bool) → LeafMayHaveOrder l is_little_endian → LeafMayHaveOrder (leaf_part_of o n l) is_little_endian
may_part o n (nulls x) le may = may
may_part o n l le may = may

length-trim : (c : Cut) (cs : Forest) → length (rows_each (trim_each c cs)) ≡ length (rows_each cs)
length-trim whole none = refl
length-trim whole (also p cs) = ap suc (length-trim whole cs)
length-trim (run o n) none = refl
length-trim (run o n) (also p cs) = ap suc (length-trim (run o n) cs)

meant : (order : Order) (d : Dictionaries) (k : Kind) (o n : ℕ) (p : Parts) → rows_in (trim o n p) ≡ n → Means order d n (sent_column order k o n p) → MeansOwn order d n (sent_column order k o n p)
meant order d k o n p e means =
    let q = trim o n p in
    record {
      means = means;
      nulls = null_rows_in q;
      others = nodes_below q;
      own = own_node q ∙ ap (λ r. record { length = pos r; null_count = pos (null_rows_in q) } ∷ nodes_below q) e;
    }

own_rows_are : (q : Parts) → rows_in q ≡ first_rows (tree_nodes q)
own_rows_are q = ap first_rows (sym (own_node q))

cut_rows : (order : Order) (fs : Fields) (c : Cut) (cs : Forest) → fault_each cs ≡ None → CutRows c (rows_each cs) (sent_columns order fs c cs)
cut_rows order fs whole none e = refl
cut_rows order fs whole (also p cs) e =
    let f = neither (fault_in p) (fault_each cs) e in
    let q = trim 0 (rows_in p) p in
    let rows : first_rows (tree_nodes q) ≡ rows_in p = sym (own_rows_are q) ∙ all_rows-trim 0 (rows_in p) p f.0 (omega arith) in
    ap (λ r. r ∷ map own_rows (sent_columns order (other_fields fs) whole cs)) rows ∙ ap (λ ns. rows_in p ∷ ns) (cut_rows order (other_fields fs) whole cs f.1)
cut_rows order fs (run o n) cs e = tt

-- the cells of all children
length-joined : (cs : Forest) → fault_each cs ≡ None → length (joined (cells_each cs)) ≡ sum (rows_each cs)
length-joined none e = refl
length-joined (also p cs) e =
    let f = neither (fault_in p) (fault_each cs) e in
    length-append (cells_in p) (joined (cells_each cs)) ∙ ap (λ k. k + length (joined (cells_each cs))) (length-cells p f.0) ∙ ap (λ k. rows_in p + k) (length-joined cs f.1) ∙ sym (sum_by-cons (λ n. n) (rows_in p) (rows_each cs))

abbrev column_of : Kind → List FieldNode → List (List ℕ) → List ℕ → List Cell → WrittenColumn
column_of k nodes pieces ns xs = record { kind = k; nodes = nodes; pieces = pieces; views = ns; cells = xs }

same_column : {k l : Kind} (nodes : List FieldNode) (pieces : List (List ℕ)) (ns : List ℕ) {xs ys : List Cell} → k ≡ l → xs ≡ ys → column_of k nodes pieces ns xs ≡ column_of l nodes pieces ns ys
same_column nodes pieces ns p q = rw (p, q) refl

-- what is sent of some rows means their cells under any kind that is alike, where the values of its dictionaries were read under the kind's ids
mutual
  pub tree_means : (is_little_endian : Bool) (d : Dictionaries) (o n : ℕ) (k : Kind) (p : Parts) → shape (kind_in p) ≡ shape k → HoldsValuesAt d k p → fault_in p ≡ None → o + n ≤ rows_in p → Fit (trim o n p) → MayHaveOrder p is_little_endian
      → Means (order_by is_little_endian) d n (sent_column (order_by is_little_endian) k o n p)
  tree_means le d o n k (leaf l) alike held e within fit may =
      let order = order_by le in
      let q = leaf_part_of o n l in
      let kind : leaf_kind_in q ≡ k = leaves.kind-part o n l ∙ same_leaf (leaf_kind_in l) k (leaf_kind l e) alike in
      let same : column_in order (leaf q) ≡ sent_column order k o n (leaf l) = same_column (tree_nodes (leaf q)) (tree_pieces order (leaf q)) (counts_in (leaf q)) kind (leaves.cells-part o n l e within) in
      subst (Means order d n) same
      (subst (λ r. Means order d r (column_in order (leaf q))) (leaves.rows-part o n l e within)
      (leaf_means le d q (leaves.fault-part o n l e within) fit (may_part o n l le may)))
  tree_means le d o n k (nested (indexed x) cs) alike held e within fit may =
      let t = top_sound (indexed x) cs e in
      let y : Indexed = record { kind = k; index = x.index; keys = x.keys; validity = x.validity } in
      indexed_mean (order_by le) d o n y (kinds_under k (indexed x)) (rows_each cs) (cells_each cs) (sound_under k (indexed x) (kinds_each cs) (rows_each cs) alike t.0) within fit.0 (length-joined cs t.1) held
  tree_means le d o n k (nested h cs) alike held e within fit may =
      let order = order_by le in
      let t = top_sound h cs e in
      let c = held_by o n h in
      let fs = child_fields k in
      let sent = trim_each c cs in
      let columns = sent_columns order fs c cs in
      let children = children_alike (child_fields (head_kind h)) fs cs (same_fields (head_kind h) k alike) (and_parts (suits h) (are_of (child_fields (head_kind h)) (kinds_each cs)) t.0.suits).1 in
      let good = each_means le d fs c cs children held t.1 (head_holds o n h (rows_each cs) t.0.rows t.0.offsets within) fit.1 may in
      let cut : c ≡ held_by o n (head_under k h) = sym (held_under o n k h alike) in
      subst (Means order d n) (trimmed_under order o n k h columns alike ∙ ap (with_kind k) (sym (nested_is order fs o n h cs t.1 t.0.offsets within)))
      (head_mean order d o n (head_under k h) (kinds_under k h) (rows_each cs) (rows_each sent) columns refl (sound_under k h (kinds_each cs) (rows_each cs) alike t.0) within fit.0 (length-columns order fs c cs ∙ sym (length-trim c cs)) (length-trim c cs)
      (columns_are_of order c fs cs children) (subst (λ x. AreCut order d x columns) cut good) (subst (λ x. CutRows x (rows_each cs) columns) cut (cut_rows order fs c cs t.1)))

  each_means : (is_little_endian : Bool) (d : Dictionaries) (fs : Fields) (c : Cut) (cs : Forest) → AreAlike fs cs → HoldsEachAt d fs cs → fault_each cs ≡ None → Reaches c (rows_each cs) → FitEach (trim_each c cs) → MayHaveOrderEach cs is_little_endian
      → AreCut (order_by is_little_endian) d c (sent_columns (order_by is_little_endian) fs c cs)
  each_means le d fs whole none a held e r fit may = tt
  each_means le d fs (run o n) none a held e r fit may = tt
  each_means le d no_fields whole (also p cs) a held e r fit may = absurd a
  each_means le d no_fields (run o n) (also p cs) a held e r fit may = absurd a
  each_means le d (field name nullable metadata k fs) whole (also p cs) a held e r fit may =
      let f = neither (fault_in p) (fault_each cs) e in
      let order = order_by le in
      let q = trim 0 (rows_in p) p in
      let rows : rows_in q ≡ rows_in p = all_rows-trim 0 (rows_in p) p f.0 (omega arith) in
      let own : rows_in p ≡ first_rows (tree_nodes q) = sym rows ∙ own_rows_are q in
      (subst (λ n. MeansOwn order d n (sent_column order k 0 (rows_in p) p)) own (meant order d k 0 (rows_in p) p rows (tree_means le d 0 (rows_in p) k p a.0 held.0 f.0 (omega arith) fit.0 may.0)), each_means le d fs whole cs a.1 held.1 f.1 tt fit.1 may.1)
  each_means le d (field name nullable metadata k fs) (run o n) (also p cs) a held e r fit may =
      let f = neither (fault_in p) (fault_each cs) e in
      (meant (order_by le) d k o n p (all_rows-trim o n p f.0 r.0) (tree_means le d o n k p a.0 held.0 f.0 r.0 fit.0 may.0), each_means le d fs (run o n) cs a.1 held.1 f.1 r.1 fit.1 may.1)

-- so does any such array's column
pub means_under : (is_little_endian : Bool) (k : Kind) (d : Dictionaries) (p : Parts) → is_alike (kind_in p) k ≡ true → HoldsValuesAt d k p → fault_in p ≡ None → Fit (sent p) → MayHaveOrder p is_little_endian
    → Means (order_by is_little_endian) d (rows_in p) (with_kind k (column_in (order_by is_little_endian) p))
means_under le k d (leaf l) alike held e fit may =
    let column = column_in (order_by le) (leaf l) in
    let same : leaf_kind_in l ≡ k = same_leaf (leaf_kind_in l) k (leaf_kind l e) (one_shape (leaf_kind_in l) k alike) in
    subst (λ x. Means (order_by le) d (leaf_rows_in l) (with_kind x column)) same (leaf_means le d l e fit may)
means_under le k d (nested h cs) alike held e fit may =
    let order = order_by le in
    let p = nested h cs in
    let q = trim 0 (head_rows h) p in
    let same : sent_column order k 0 (head_rows h) p ≡ with_kind k (column_in order p) = same_column (tree_nodes q) (tree_pieces order q) (counts_in q) refl (all_of (head_rows h) (cells_in p) (length-cells p e)) in
    subst (Means order d (head_rows h)) same (tree_means le d 0 (head_rows h) k p (one_shape (head_kind h) k alike) held e (omega arith) fit may)

-- an array without dictionaries needs no values
mutual
  pub none_held_at : (d : Dictionaries) (k : Kind) (p : Parts) → has_no_dictionary p ≡ true → HoldsValuesAt d k p
  none_held_at d k (leaf l) plain = tt
  none_held_at d k (nested (indexed x) cs) plain = cc
  none_held_at d k (nested h cs) plain = none_held_each d (child_fields k) cs (and_parts (not (is_indexed h)) (have_no_dictionary cs) plain).1

  none_held_each : (d : Dictionaries) (fs : Fields) (cs : Forest) → have_no_dictionary cs ≡ true → HoldsEachAt d fs cs
  none_held_each d fs none plain = tt
  none_held_each d fs (also p cs) plain =
      let k = and_parts (has_no_dictionary p) (have_no_dictionary cs) plain in
      (none_held_at d (first_kind fs) p k.0, none_held_each d (other_fields fs) cs k.1)

pub none_held : (d : Dictionaries) (p : Parts) → has_no_dictionary p ≡ true → HoldsValues d p
none_held d p = none_held_at d (kind_in p) p
