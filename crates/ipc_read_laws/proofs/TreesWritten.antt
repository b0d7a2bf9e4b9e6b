-- What is written of the parts that are read, of all their rows or of some, is what the record batch says, with children as without.
use Rattle.std.proofs.Common.{◌≡◌, ℕ, zero, suc, ◌+◌, ◌-◌, ◌*◌, ◌/◌, ◌≤◌, List, [], ◌∷◌, Bool, true, false, Option, Some, None, length, map, cond, refl, sym, ap, ◌∙◌, subst, arith, pos, ℤ, inl, inr}
use Rattle.std.specs.Prelude.{nat_lt, not}
use Rattle.std.specs.List.{count_by}
use Rattle.std.specs.Option.{option_map}
use Rattle.std.specs.Int.{byte_len}
use Rattle.std.proofs.Math.Nat.{mul-le-mul_left}
use Rattle.std.proofs.lemmas.Bool.{cases_Bool, ltb-true, eqb-true}
use Rattle.std.proofs.lemmas.List.{take_all, append-nil}
use Rattle.std.proofs.lemmas.List.Sums.{sum_by-cons}
use Rattle.arrow_spec.specs.declared.types.IntegerType.{IntegerType}
use Rattle.arrow_spec.specs.declared.types.IntegerType.TheVariants.{Int8}
use Rattle.arrow_spec.specs.declared.types.IntervalUnit.TheVariants.{YearMonth}
use Rattle.arrow_spec.specs.declared.types.UnionMode.{UnionMode}
use Rattle.arrow_spec.specs.declared.types.UnionMode.TheVariants.{Dense, Sparse}
use Rattle.arrow_spec.specs.Kinds as kind
use Rattle.arrow_spec.specs.Kinds.{Kind, Fields, Metadata, Offsets, small, large, half, single, double, width, none, field}
use Rattle.arrow_spec.specs.Counts.{RecordBatch, Place, Written, after, inside, union_buffers}
use Rattle.arrow_spec.specs.Arrays.{Dictionaries, buf, bit, has_nulls, valid, signed_in, integer_in, offset, offset_width, integer_width, from_on}
use Rattle.arrow_spec.specs.Faults.{array_faults, child_faults, end_of, offsets_faults, node_faults, view_count_faults, view_parts_faults, views_faults, view_text_faults}
use Rattle.arrow_spec.specs.Sent.{own, with_views, nothing_written, also_written, validity_length, null_count, views_written, offset_read, dense_rows, written_part, parts_written, written}
use Rattle.arrow_spec.proofs.Fewer.{none_first, none_second, sound_first, sound_second, offset-fewer}
use Rattle.arrow_types.specs.Physical.{primitive_size, physical_of}
use Rattle.arrow_types.specs.UnionIds.{are_right}
use Rattle.arrow_types.specs.declared.physical.PhysicalType.TheVariants as physical
use Rattle.arrow_types.specs.declared.physical.PrimitiveType.{PrimitiveType}
use Rattle.arrow_buffers.specs.Rows.{part, null_rows, has_rows}
use Rattle.arrow_buffers.specs.Layouts.{is_variable}
use Rattle.arrow_buffers.specs.Variable.{Variable, place_at, are_offsets, variable_rows, variable_part}
use Rattle.arrow_buffers.specs.Views.{Views, view_part}
use Rattle.arrow_buffers.proofs.Fixed.{quotient}
use Rattle.arrow_buffers.proofs.Parts.{length-part, length-from_on, part-from_on}
use Rattle.arrow_buffers.proofs.Rising.{some_offset}
use Rattle.arrow_arrays.specs.LeafParts.{number_size, leaf_part_of}
use Rattle.arrow_arrays.specs.LeafKinds.{is_leaf_kind}
use Rattle.arrow_arrays.specs.Heads.{Head, Listed, Cut, whole, run, Reaches, listed_part, tagged_rows, listed, mapped, sized, structured, tagged, indexed, head_rows, head_part, first_or_0}
use Rattle.arrow_arrays.specs.Parts.{Parts, Forest, leaf, nested, fault_in, rows_in, kinds_each, rows_each}
use Rattle.arrow_arrays.proofs.HeadSliced.{Sound, place_at-part}
use Rattle.arrow_arrays.proofs.Sliced.{top_sound}
use Rattle.arrow_arrays.specs.Carried.{is_carried}
use Rattle.ipc_read_laws.specs.Held.{Held, HoldsCells, HoldsKinds, HoldsFields}
use Rattle.ipc_read_laws.specs.PlainKinds.{plain_kind}
use Rattle.ipc_read_laws.specs.PartsRead.{parts_in, parts_under, parts_read, forest_read, bits_read, bytes_of_rows, validity_read, variable_read, views_read, listed_read, indexed_read, number_read, item_bytes}
use Rattle.ipc_read_laws.specs.WrittenParts.{bits_length, validity_bytes, offset_bytes, width_bytes, variable_lengths, leaf_written_in, head_written, held_by, written_on, written_each, written_in, written_under}
use Rattle.ipc_read_laws.specs.Laws.{WrittenAsSent}
use Rattle.ipc_read_laws.proofs.KindCases.{IsNumbers, by_kind, Like}
use Rattle.ipc_read_laws.proofs.FaultLaws.{fixed_held}
use Rattle.ipc_read_laws.proofs.OffsetsRead.{offsets_told, place-told}
use Rattle.ipc_read_laws.proofs.ViewsRead.{length-rows, count-buffers, lengths-buffers}
use Rattle.ipc_read_laws.proofs.Sound.{views_held, buffers_held}
use Rattle.ipc_read_laws.proofs.Labels.{Label, label_plain, label_like, label_size}
use Rattle.ipc_read_laws.proofs.Trees.{TreeCases, by_tree, rows_told}
use Rattle.ipc_read_laws.proofs.WrittenLaws.{written_read}
use Rattle.ipc_read_laws.proofs.Unions.{children_at, union_children, union_top}
use Rattle.ipc_read_laws.proofs.TreesSound.{plain_under, read_plain, list_children, map_is_list, tree_sound}

-- ── the validity of some rows ──

nulls_last : (b : ℕ → Bool) (i n : ℕ) → count_by not (from_on b i (suc n)) ≡ count_by not (from_on b i n) + cond (b (i + n)) 0 1
nulls_last b i zero = let e : i + 0 ≡ i = omega arith in rw e (one (b i))
  where
    one : (x : Bool) → count_by not (x ∷ []) ≡ count_by not [] + cond x 0 1
    one true = refl
    one false = refl
nulls_last b i (suc n) =
    let count : Bool → ℕ = λ x. cond (not x) 1 0 in
    let e : suc i + n ≡ i + suc n = omega arith in
    let rest : count_by not (from_on b (suc i) (suc n)) ≡ count_by not (from_on b (suc i) n) + cond (b (i + suc n)) 0 1 = nulls_last b (suc i) n ∙ ap (λ k. count_by not (from_on b (suc i) n) + cond (b k) 0 1) e in
    omega (arith, sum_by-cons count (b i) (from_on b (suc i) (suc n)), sum_by-cons count (b i) (from_on b (suc i) n), rest)

nulls_if : (c : Bool) (b : ℕ → Bool) (i n : ℕ) → null_rows (cond c (Some (from_on b i (suc n))) None) ≡ null_rows (cond c (Some (from_on b i n)) None) + cond (cond c (b (i + n)) true) 0 1
nulls_if true b i n = nulls_last b i n
nulls_if false b i n = refl

nulls_from : (m : RecordBatch) (p : Place) (from n : ℕ) → null_rows (cond (has_nulls m p) (Some (from_on (bit (buf m p.buffer)) from n)) None) ≡ null_count m p from n
unfolding valid
nulls_from m p from zero = no_rows (has_nulls m p)
  where
    no_rows : (c : Bool) → null_rows (cond c (Some []) None) ≡ 0
    no_rows true = refl
    no_rows false = refl
nulls_from m p from (suc n) =
    nulls_if (has_nulls m p) (bit (buf m p.buffer)) from n ∙ ap (λ k. k + cond (cond (has_nulls m p) (bit (buf m p.buffer) (from + n)) true) 0 1) (nulls_from m p from n)

-- the validity of the rows from a place on
abbrev validity_on : RecordBatch → Place → ℕ → ℕ → ℕ → Option (List Bool)
validity_on m p read from n = option_map (part from n) (validity_read m p read)

nulls_part : (c : Bool) (b : ℕ → Bool) (read from n : ℕ) → from + n ≤ read → null_rows (option_map (part from n) (cond c (Some (from_on b 0 read)) None)) ≡ null_rows (cond c (Some (from_on b from n)) None)
nulls_part true b read from n h =
    let e : 0 + from ≡ from = omega arith in
    ap (λ xs. count_by not xs) (sym (part-from_on b 0 read from n h) ∙ ap (λ i. from_on b i n) e)
nulls_part false b read from n h = refl

nulls_on : (m : RecordBatch) (p : Place) (read from n : ℕ) → from + n ≤ read → null_rows (validity_on m p read from n) ≡ null_count m p from n
nulls_on m p zero from zero h = refl
nulls_on m p zero from (suc n) h = absurd (omega (arith, h))
nulls_on m p (suc r) from n h = nulls_part (has_nulls m p) (bit (buf m p.buffer)) (suc r) from n h ∙ nulls_from m p from n

bytes_part : (c : Bool) (xs : List Bool) (from n : ℕ) → from + n ≤ length xs → validity_bytes (option_map (part from n) (cond c (Some xs) None)) ≡ cond c ((n + 7) / 8) 0
bytes_part true xs from n h = ap bits_length (length-part xs from n h)
bytes_part false xs from n h = refl

bytes_on : (m : RecordBatch) (p : Place) (read from n : ℕ) → from + n ≤ read → validity_bytes (validity_on m p read from n) ≡ validity_length m p read n
bytes_on m p zero from n h = refl
bytes_on m p (suc r) from n h = bytes_part (has_nulls m p) (bits_read m p.buffer (suc r)) from n (omega (arith, h, length-from_on (bit (buf m p.buffer)) 0 (suc r)))

-- ── a node and its own buffers ──

abbrev own_on : RecordBatch → Place → ℕ → ℕ → ℕ → ℕ → List ℕ → List ℕ → Written
own_on m p read from n rows lengths counts = record { nodes = record { length = pos rows; null_count = pos (null_rows (validity_on m p read from n)) } ∷ []; lengths = validity_bytes (validity_on m p read from n) ∷ lengths; views = counts }

own_part : (m : RecordBatch) (p : Place) (read from n rows : ℕ) (lengths held counts counted : List ℕ) → from + n ≤ read → rows ≡ n → held ≡ lengths → counted ≡ counts → with_views counts (own m p read from n lengths) ≡ own_on m p read from n rows held counted
own_part m p read from n rows lengths held counts counted h e f g = rw (e, f, g, nulls_on m p read from n h, bytes_on m p read from n h) refl

both : (a b c d : Written) → a ≡ c → b ≡ d → also_written a b ≡ also_written c d
both a b c d e f = rw (e, f) refl

one_more : (a b : ℕ) (xs ys : List ℕ) → a ≡ b → xs ≡ ys → a ∷ xs ≡ b ∷ ys
one_more a b xs ys e f = rw (e, f) refl

length-on : {A : Type 0} (f : ℕ → A) (read from n : ℕ) → from + n ≤ read → length (part from n (from_on f 0 read)) ≡ n
length-on f read from n h = length-part (from_on f 0 read) from n (omega (arith, h, length-from_on f 0 read))

-- so many items of a size lie among those that are read
room : (size read from n : ℕ) → from + n ≤ read → size * from + size * n ≤ size * read
room size read from n h = omega (arith, mul-le-mul_left size h)

-- ── offsets ──

offsets_part : (m : RecordBatch) (o : Offsets) (i read from n : ℕ) → from + n ≤ read → length (part from (n + 1) (offsets_told m o i read)) ≡ suc n
offsets_part m o i read from n h = omega (arith, length-on (λ j. signed_in m (offset_width o) i j) (suc read) from (n + 1) (omega (arith, h)))

place_part : (m : RecordBatch) (o : Offsets) (i read from n j : ℕ) → from + n ≤ read → j ≤ n → place_at (part from (n + 1) (offsets_told m o i read)) j ≡ offset m o i (from + j)
place_part m o i read from n j h le = place_at-part from (n + 1) j (offsets_told m o i read) (omega (arith, le)) ∙ place-told m o i read (from + j) (omega (arith, h, le))

between_part : (m : RecordBatch) (o : Offsets) (i read from n : ℕ) → from + n ≤ read
    → place_at (part from (n + 1) (offsets_told m o i read)) (variable_rows (part from (n + 1) (offsets_told m o i read))) - place_at (part from (n + 1) (offsets_told m o i read)) 0 ≡ offset m o i (from + n) - offset m o i from
between_part m o i read from n h =
    let xs = part from (n + 1) (offsets_told m o i read) in
    let rows : variable_rows xs ≡ n = omega (arith, offsets_part m o i read from n h) in
    let last : place_at xs (variable_rows xs) ≡ offset m o i (from + n) = ap (place_at xs) rows ∙ place_part m o i read from n n h (omega arith) in
    let first : place_at xs 0 ≡ offset m o i from = place_part m o i read from n 0 h (omega arith) ∙ ap (offset m o i) (omega arith) in
    rw (last, first) refl

-- ── an array without children ──

abbrev PartWritten : RecordBatch → Dictionaries → Place → (read from n : ℕ) → from + n ≤ read → Kind → Type 0
PartWritten m d p read from n within k = is_leaf_kind k ≡ true → (l : Kind) → Like l k → array_faults m d k p read ≡ [] → written_part m k p read from n ≡ leaf_written_in (leaf_part_of from n (parts_in (physical_of k) m l p read))

integer_size : (t : IntegerType) → byte_len (integer_width t) ≡ number_size (physical_of (kind.integer t))
integer_size Int8 = refl
integer_size t = refl

-- numbers, by the size of their layout
numbers_part : (m : RecordBatch) (p : Place) (read from n : ℕ) (k : Kind) (t : PrimitiveType) → physical_of k ≡ physical.Primitive t → is_leaf_kind k ≡ true → written_part m k p read from n ≡ own m p read from n (number_size (physical_of k) * n ∷ [])
numbers_part m p read from n (kind.integer t) s e is = ap (λ size. own m p read from n (size * n ∷ [])) (integer_size t)
numbers_part m p read from n (kind.interval YearMonth) s e is = refl
numbers_part m p read from n (kind.float half) s e is = cc
numbers_part m p read from n (kind.float single) s e is = cc
numbers_part m p read from n (kind.float double) s e is = cc
numbers_part m p read from n (kind.binary small) s e is = cc
numbers_part m p read from n (kind.binary large) s e is = cc
numbers_part m p read from n (kind.utf8 small) s e is = cc
numbers_part m p read from n (kind.utf8 large) s e is = cc
numbers_part m p read from n (kind.«list» small fs) s e is = cc
numbers_part m p read from n (kind.«list» large fs) s e is = cc
numbers_part m p read from n (kind.extension name metadata k) s e is = numbers_part m p read from n k s e is
numbers_part m p read from n k s e is = cc

module _ (m : RecordBatch) (d : Dictionaries) (p : Place) where
  part_of_bits : (read from n : ℕ) (h : from + n ≤ read) → PartWritten m d p read from n h kind.boolean
  part_of_bits read from n h childless l like fine =
      let e = length-on (bit (buf m (p.buffer + 1))) read from n h in
      own_part m p read from n _ _ _ [] [] h e (ap (λ k. bits_length k ∷ []) e) refl

  part_of_numbers : (read from n : ℕ) (h : from + n ≤ read) (t : PrimitiveType) (k : Kind) → IsNumbers t k → PartWritten m d p read from n h k
  part_of_numbers read from n h t k is childless l like fine =
      let e = length-on (λ j. number_read t m.order (item_bytes m (p.buffer + 1) (primitive_size t) j)) read from n h in
      let size : number_size (physical_of l) ≡ number_size (physical_of k) = ap number_size like.layout in
      numbers_part m p read from n k t is.layout childless
      ∙ own_part m p read from n _ _ _ [] [] h e (rw (size, e) refl) refl
      ∙ ap (λ x. leaf_written_in (leaf_part_of from n (parts_in x m l p read))) (sym is.layout)

  part_of_fixed : (read from n : ℕ) (h : from + n ≤ read) (size : ℕ) → nat_lt 0 size ≡ true → PartWritten m d p read from n h (kind.fixed_size_binary size)
  part_of_fixed read from n h size above childless l like fine =
      let held : length (bytes_of_rows m size (p.buffer + 1) read) ≡ size * read = length-rows m size (p.buffer + 1) read (fixed_held m d p size read fine) in
      let e : length (part (size * from) (size * n) (bytes_of_rows m size (p.buffer + 1) read)) ≡ size * n = length-part _ (size * from) (size * n) (omega (arith, held, room size read from n h)) in
      rw (like.size) (own_part m p read from n _ _ _ [] [] h (quotient size n _ (ltb-true 0 size above) e) (one_more _ _ [] [] e refl) refl)

  -- what is written of a part of what is between offsets
  abbrev variable_on : Bool → Variable → Written
  variable_on is_text v = record { nodes = record { length = pos (variable_rows v.offsets); null_count = pos (null_rows v.validity) } ∷ []; lengths = variable_lengths is_text v; views = [] }

  part_between : (is_text : Bool) (l : Kind) (o : Offsets) (read from n : ℕ) → from + n ≤ read → offset_bytes (is_variable is_text true (physical_of l)) ≡ byte_len (offset_width o)
      → own m p read from n (byte_len (offset_width o) * suc n ∷ (offset m o (p.buffer + 1) (from + n) - offset m o (p.buffer + 1) from) ∷ []) ≡ variable_on is_text (variable_part from n (variable_read m l o p read))
  part_between is_text l o zero zero zero h e =
      let same : 0 ≡ offset m o (p.buffer + 1) (0 + 0) - offset m o (p.buffer + 1) 0 = omega arith in
      own_part m p 0 0 0 _ _ _ [] [] h refl (one_more _ _ _ _ (ap (λ b. b * 1) e) (one_more _ _ [] [] same refl)) refl
  part_between is_text l o zero zero (suc n) h e = absurd (omega (arith, h))
  part_between is_text l o zero (suc from) n h e = absurd (omega (arith, h))
  part_between is_text l o (suc r) from n h e =
      let i = p.buffer + 1 in
      let count = offsets_part m o i (suc r) from n h in
      own_part m p (suc r) from n _ _ _ [] [] h (omega (arith, count)) (one_more _ _ _ _ (rw (e, count) refl) (one_more _ _ [] [] (between_part m o i (suc r) from n h) refl)) refl

  part_of_binary : (read from n : ℕ) (h : from + n ≤ read) (o : Offsets) → PartWritten m d p read from n h (kind.binary o)
  part_of_binary read from n h small childless l like fine = part_between false l small read from n h (rw like.layout refl)
  part_of_binary read from n h large childless l like fine = part_between false l large read from n h (rw like.layout refl)

  part_of_text : (read from n : ℕ) (h : from + n ≤ read) (o : Offsets) → PartWritten m d p read from n h (kind.utf8 o)
  part_of_text read from n h small childless l like fine = part_between true l small read from n h (rw like.layout refl)
  part_of_text read from n h large childless l like fine = part_between true l large read from n h (rw like.layout refl)

  -- what is written of a part of views
  abbrev views_on : Views → Written
  views_on v = record { nodes = record { length = pos (length v.views / 16); null_count = pos (null_rows v.validity) } ∷ []; lengths = validity_bytes v.validity ∷ length v.views ∷ map length v.buffers; views = length v.buffers ∷ [] }

  part_of_views : (l : Kind) (read from n : ℕ) → from + n ≤ read → ((r : ℕ) → read ≡ suc r → view_parts_faults m p read ≡ []) → views_written m p read from n ≡ views_on (view_part from n (views_read m l p read))
  part_of_views l zero zero zero h fine = refl
  part_of_views l zero zero (suc n) h fine = absurd (omega (arith, h))
  part_of_views l zero (suc from) n h fine = absurd (omega (arith, h))
  part_of_views l (suc r) from n h fine =
      let parts = fine r refl in
      let held : length (bytes_of_rows m 16 (p.buffer + 1) (suc r)) ≡ 16 * suc r = length-rows m 16 (p.buffer + 1) (suc r) (views_held m p (suc r) parts) in
      let e : length (part (16 * from) (16 * n) (bytes_of_rows m 16 (p.buffer + 1) (suc r))) ≡ 16 * n = length-part _ (16 * from) (16 * n) (omega (arith, held, h)) in
      own_part m p (suc r) from n _ _ _ _ _ h (quotient 16 n _ (omega arith) e) (one_more _ _ _ _ e (lengths-buffers m p (buffers_held m p (suc r) parts))) (one_more _ _ [] [] (count-buffers m p) refl)

  part_of_binary_views : (read from n : ℕ) (h : from + n ≤ read) → PartWritten m d p read from n h kind.binary_view
  unfolding views_faults
  part_of_binary_views read from n h childless l like fine = part_of_views l read from n h (λ r e. let faults = subst (λ x. array_faults m d kind.binary_view p x ≡ []) e fine in subst (λ x. view_parts_faults m p x ≡ []) (sym e) (sound_first _ _ (none_second (node_faults m p (suc r)) _ faults)))

  part_of_text_views : (read from n : ℕ) (h : from + n ≤ read) → PartWritten m d p read from n h kind.utf8_view
  unfolding view_text_faults
  part_of_text_views read from n h childless l like fine = part_of_views l read from n h (λ r e. let faults = subst (λ x. array_faults m d kind.utf8_view p x ≡ []) e fine in subst (λ x. view_parts_faults m p x ≡ []) (sym e) (sound_first _ _ (none_second (node_faults m p (suc r)) _ faults)))

  -- the rows of an array without children, from a place on
  part_of_leaf : (read from n : ℕ) (h : from + n ≤ read) (k : Kind) → is_leaf_kind k ≡ true → PartWritten m d p read from n h k
  part_of_leaf read from n h k childless = by_kind (PartWritten m d p read from n h) (record {
    on_null = λ childless l like fine. refl;
    on_bits = part_of_bits read from n h;
    on_numbers = part_of_numbers read from n h;
    on_fixed = part_of_fixed read from n h;
    on_binary = part_of_binary read from n h;
    on_text = part_of_text read from n h;
    on_binary_view = part_of_binary_views read from n h;
    on_text_view = part_of_text_views read from n h;
    on_extension = λ name metadata k f childless l like fine. f childless l (record { layout = like.layout; size = like.size }) fine;
  }) k childless

-- ── no rows ──

no_views : (m : RecordBatch) (p : Place) (read from : ℕ) → views_written m p read from 0 ≡ views_written m p read 0 0
no_views m p zero from = refl
no_views m p (suc r) from = refl

none_between : (a b : ℕ) → a ≡ b → a - b ≡ 0
none_between a b e = omega (arith, e)

-- what is written of no rows is the same from any place on
-- lists of no rows, where no rows of their child are the same from any place on
list_of_none : (m : RecordBatch) (o : Offsets) (fs : Fields) (p : Place) (read from : ℕ)
    → ((other : ℕ) → parts_written m fs (inside 2 p) (λ q. offset_read m o p read) (offset m o (p.buffer + 1) from) (λ q. 0) ≡ parts_written m fs (inside 2 p) (λ q. offset_read m o p read) other (λ q. 0))
    → parts_written m fs (inside 2 p) (λ q. offset_read m o p read) (offset m o (p.buffer + 1) from) (λ q. offset m o (p.buffer + 1) (from + 0) - offset m o (p.buffer + 1) from)
    ≡ parts_written m fs (inside 2 p) (λ q. offset_read m o p read) (offset m o (p.buffer + 1) 0) (λ q. offset m o (p.buffer + 1) (0 + 0) - offset m o (p.buffer + 1) 0)
list_of_none m o fs p read from fine =
    let i = p.buffer + 1 in
    let a : offset m o i (from + 0) - offset m o i from ≡ 0 = none_between _ _ (ap (offset m o i) (omega arith)) in
    let b : offset m o i (0 + 0) - offset m o i 0 ≡ 0 = none_between _ _ (ap (offset m o i) (omega arith)) in
    ap (λ n. parts_written m fs (inside 2 p) (λ q. offset_read m o p read) (offset m o i from) (λ q. n)) a
    ∙ fine (offset m o i 0)
    ∙ ap (λ n. parts_written m fs (inside 2 p) (λ q. offset_read m o p read) (offset m o i 0) (λ q. n)) (sym b)

-- the same of what is between offsets
between_none : (m : RecordBatch) (o : Offsets) (p : Place) (read from : ℕ) → own m p read from 0 (byte_len (offset_width o) * 1 ∷ (offset m o (p.buffer + 1) (from + 0) - offset m o (p.buffer + 1) from) ∷ [])
    ≡ own m p read 0 0 (byte_len (offset_width o) * 1 ∷ (offset m o (p.buffer + 1) (0 + 0) - offset m o (p.buffer + 1) 0) ∷ [])
between_none m o p read from =
    let i = p.buffer + 1 in
    let a : offset m o i (from + 0) - offset m o i from ≡ 0 = none_between _ _ (ap (offset m o i) (omega arith)) in
    let b : offset m o i (0 + 0) - offset m o i 0 ≡ 0 = none_between _ _ (ap (offset m o i) (omega arith)) in
    ap (λ n. own m p read 0 0 (byte_len (offset_width o) * 1 ∷ n ∷ [])) (a ∙ sym b)

-- what is written of no rows is the same from any place on
mutual
  part_of_none : (m : RecordBatch) (k : Kind) (p : Place) (read from : ℕ) → written_part m k p read from 0 ≡ written_part m k p read 0 0
  part_of_none m (kind.binary o) p read from = between_none m o p read from
  part_of_none m (kind.utf8 o) p read from = between_none m o p read from
  part_of_none m kind.binary_view p read from = no_views m p read from
  part_of_none m kind.utf8_view p read from = no_views m p read from
  part_of_none m (kind.interval YearMonth) p read from = refl
  part_of_none m (kind.«list» o fs) p read from =
      ap (also_written (own m p read 0 0 (byte_len (offset_width o) * 1 ∷ []))) (list_of_none m o fs p read from (parts_of_none m fs (inside 2 p) (λ q. offset_read m o p read) (offset m o (p.buffer + 1) from)))
  part_of_none m (kind.map sorted fs) p read from =
      ap (also_written (own m p read 0 0 (4 * 1 ∷ []))) (list_of_none m small fs p read from (parts_of_none m fs (inside 2 p) (λ q. offset_read m small p read) (offset m small (p.buffer + 1) from)))
  part_of_none m (kind.fixed_size_list size fs) p read from =
      let e : size * 0 ≡ 0 = omega arith in
      let below : ℕ → ℕ → Written = λ at n. parts_written m fs (inside 1 p) (λ q. size * read) at (λ q. n) in
      ap (also_written (own m p read 0 0 [])) (ap (below (size * from)) e ∙ parts_of_none m fs (inside 1 p) (λ q. size * read) (size * from) (size * 0) ∙ ap (below (size * 0)) (sym e))
  part_of_none m (kind.struct fs) p read from = ap (also_written (own m p read 0 0 [])) (parts_of_none m fs (inside 1 p) (λ q. read) from 0)
  part_of_none m (kind.union Sparse stated ids fs) p read from =
      ap (also_written (record { nodes = record { length = pos 0; null_count = pos 0 } ∷ []; lengths = 0 ∷ []; views = [] })) (parts_of_none m fs (inside (union_buffers m.version Sparse) p) (λ q. read) from 0)
  part_of_none m (kind.union Dense stated ids fs) p read from = refl
  part_of_none m (kind.extension name metadata k) p read from = part_of_none m k p read from
  part_of_none m k p read from = refl

  parts_of_none : (m : RecordBatch) (fs : Fields) (p : Place) (read : Place → ℕ) (from other : ℕ) → parts_written m fs p read from (λ q. 0) ≡ parts_written m fs p read other (λ q. 0)
  parts_of_none m none p read from other = refl
  parts_of_none m (field name nullable metadata k others) p read from other =
      both _ _ _ _ (part_of_none m k p (read p) from ∙ sym (part_of_none m k p (read p) other)) (parts_of_none m others (after m k p) read from other)

-- ── every kind ──

abbrev KindWritten : Kind → Type 0
KindWritten k = (l : Kind) → Label l k → (m : RecordBatch) (d : Dictionaries) (h : Held) (p : Place) (read : ℕ) → HoldsCells d h → HoldsKinds h k → array_faults m d k p read ≡ [] → (from n : ℕ) → from + n ≤ read
    → written_part m k p read from n ≡ written_on from n (parts_under l m h k p read)

-- from which row on a child is written, and how many of its rows
abbrev first_row : Cut → ℕ
first_row whole = 0
first_row (run from n) = from

abbrev cut_rows : Cut → ℕ → ℕ
cut_rows whole rows = rows
cut_rows (run from n) rows = n

abbrev FieldsWritten : Fields → Type 0
FieldsWritten fs = (m : RecordBatch) (d : Dictionaries) (h : Held) (p : Place) (read : Place → ℕ) → HoldsCells d h → HoldsFields h fs → child_faults m d fs p read ≡ [] → (c : Cut) → Reaches c (rows_told m fs p read)
    → parts_written m fs p read (first_row c) (λ q. cut_rows c (read q)) ≡ written_each c (forest_read m h fs p read)

reaches_all : (m : RecordBatch) (fs : Fields) (p : Place) (read from n : ℕ) → from + n ≤ read → Reaches (run from n) (rows_told m fs p (λ q. read))
reaches_all m none p read from n h = tt
reaches_all m (field name nullable metadata k others) p read from n h = (h, reaches_all m others (after m k p) read from n h)

-- ── lists and maps ──

-- the node and the buffers of a part of lists, or of maps
abbrev lists_on : Listed → Written
lists_on l = record { nodes = record { length = pos (variable_rows l.offsets); null_count = pos (null_rows l.validity) } ∷ []; lengths = validity_bytes l.validity ∷ (width_bytes l.width * length l.offsets) ∷ []; views = [] }

wide : (o : Offsets) → byte_len (offset_width o) ≡ width_bytes o
wide small = refl
wide large = refl

list_top : (m : RecordBatch) (l : Kind) (o : Offsets) (p : Place) (read from n : ℕ) → from + n ≤ read → own m p read from n (width_bytes o * suc n ∷ []) ≡ lists_on (listed_part from n (listed_read m l o p read))
list_top m l o p zero zero zero h = own_part m p 0 0 0 _ _ _ [] [] h refl refl refl
list_top m l o p zero zero (suc n) h = absurd (omega (arith, h))
list_top m l o p zero (suc from) n h = absurd (omega (arith, h))
list_top m l o p (suc r) from n h =
    let count = offsets_part m o (p.buffer + 1) (suc r) from n h in
    own_part m p (suc r) from n _ _ _ [] [] h (omega (arith, count)) (ap (λ c. width_bytes o * c ∷ []) count) refl

runs_same : (cs : Forest) (x a y b : ℕ) → x ≡ a → y ≡ b → written_each (run a (b - a)) cs ≡ written_each (run x (y - x)) cs
runs_same cs x a y b e f = rw (e, f) refl

-- what some rows hold of the child
list_below : (m : RecordBatch) (d : Dictionaries) (held : Held) (l : Kind) (o : Offsets) (fs : Fields) (p : Place) (read from n : ℕ) → HoldsCells d held → HoldsFields held fs → from + n ≤ read → array_faults m d (kind.«list» o fs) p read ≡ [] → FieldsWritten fs
    → parts_written m fs (inside 2 p) (λ q. offset_read m o p read) (offset m o (p.buffer + 1) from) (λ q. offset m o (p.buffer + 1) (from + n) - offset m o (p.buffer + 1) from)
    ≡ written_each (held_by from n (listed (listed_read m l o p read))) (forest_read m held fs (inside 2 p) (λ q. offset_read m o p read))
list_below m d held l o fs p zero zero zero c v h fine below =
    let i = p.buffer + 1 in
    let a : offset m o i (0 + 0) - offset m o i 0 ≡ 0 = none_between _ _ (ap (offset m o i) (omega arith)) in
    ap (λ k. parts_written m fs (inside 2 p) (λ q. 0) (offset m o i 0) (λ q. k)) a
    ∙ parts_of_none m fs (inside 2 p) (λ q. 0) (offset m o i 0) 0
    ∙ below m d held (inside 2 p) (λ q. 0) c v (list_children m d o fs p 0 fine) (run 0 0) (reaches_all m fs (inside 2 p) 0 0 0 h)
list_below m d held l o fs p zero zero (suc n) c v h fine below = absurd (omega (arith, h))
list_below m d held l o fs p zero (suc from) n c v h fine below = absurd (omega (arith, h))
list_below m d held l o fs p (suc r) from n c v h fine below =
    let i = p.buffer + 1 in
    let most = end_of m (suc p.node) in
    let well : offsets_faults m o i (suc r) most ≡ [] = none_first _ _ (sound_second _ _ (none_second _ _ fine)) in
    let first : offset m o i from ≤ offset m o i (suc r) = offset-fewer m o i (suc r) from most (omega (arith, h)) well in
    let last : offset m o i (from + n) ≤ offset m o i (suc r) = offset-fewer m o i (suc r) (from + n) most h well in
    let reach : offset m o i from + (offset m o i (from + n) - offset m o i from) ≤ offset m o i (suc r) = omega (arith, first, last) in
    below m d held (inside 2 p) (λ q. offset m o i (suc r)) c v (list_children m d o fs p (suc r) fine) (run (offset m o i from) (offset m o i (from + n) - offset m o i from)) (reaches_all m fs (inside 2 p) (offset m o i (suc r)) _ _ reach)
    ∙ runs_same _ _ _ _ _ (place-told m o i (suc r) from (omega (arith, h))) (place-told m o i (suc r) (from + n) (omega (arith, h)))

-- ── by the kind ──

leaf_cases : (k : Kind) → is_leaf_kind k ≡ true → KindWritten k
leaf_cases k is l e m d held p read c v fine from n h = part_of_leaf m d p read from n h k is is l (label_like l k e) fine ∙ ap (written_on from n) (plain_under l m held k p read is)

-- unions: a sparse one holds the same rows of each child, a dense one each child whole
union_cases : (mode : UnionMode) (stated : Bool) (ids : List ℤ) (fs : Fields) → are_right ids (width fs) ≡ true → FieldsWritten fs → KindWritten (kind.union mode stated ids fs)
union_cases Sparse stated ids fs right g l e m d held p read c v fine from n h =
    both _ _ _ _ (union_top m l Sparse p read from n h)
    (g m d held (children_at m Sparse p) (λ q. read) c v (union_children m d Sparse stated ids fs p read fine) (run from n) (reaches_all m fs (children_at m Sparse p) read from n h))
union_cases Dense stated ids fs right g l e m d held p read c v fine from n h =
    both _ _ _ _ (union_top m l Dense p read from n h)
    (g m d held (children_at m Dense p) (λ q. dense_rows m q read) c v (union_children m d Dense stated ids fs p read fine) whole tt)

-- dictionaries: the keys alone
also_nothing : (w : Written) → also_written w nothing_written ≡ w
also_nothing w = rw (append-nil w.nodes, append-nil w.lengths, append-nil w.views) refl

dictionary_cases : (t : IntegerType) (ordered : Bool) (id : ℤ) (k : Kind) → is_carried k ≡ true → KindWritten k → KindWritten (kind.dictionary t ordered id k)
dictionary_cases t ordered id k carried f l e m d held p read c v fine from n h =
    let size = byte_len (integer_width t) in
    let count = length-on (λ j. integer_in m t (p.buffer + 1) j) read from n h in
    own_part m p read from n _ _ _ [] [] h count (ap (λ x. size * x ∷ []) count) refl
    ∙ sym (also_nothing (head_written (head_part from n (indexed (indexed_read m l t p read)))))

none_cases : FieldsWritten none
none_cases m d held p read c v fine whole reach = refl
none_cases m d held p read c v fine (run from n) reach = refl

field_cases : (name : List ℕ) (nullable : Bool) (metadata : Metadata) (k : Kind) (others : Fields) → is_carried k ≡ true → KindWritten k → FieldsWritten others → FieldsWritten (field name nullable metadata k others)
field_cases name nullable metadata k others carried f g m d held p read c v fine whole reach =
    let first = v.0 in
    let s = tree_sound k carried (plain_kind k) (label_plain k) m d held p (read p) c first (none_first _ _ fine) in
    both _ _ _ _ (f (plain_kind k) (label_plain k) m d held p (read p) c first (none_first _ _ fine) 0 (read p) (omega arith) ∙ ap (λ n. written_on 0 n (parts_read m held k p (read p))) (sym s.rows_are))
    (g m d held (after m k p) read c v.1 (sound_second (view_count_faults m k p) _ (none_second (array_faults m d k p (read p)) _ fine)) whole tt)
field_cases name nullable metadata k others carried f g m d held p read c v fine (run from n) reach =
    both _ _ _ _ (f (plain_kind k) (label_plain k) m d held p (read p) c v.0 (none_first _ _ fine) from n reach.0)
    (g m d held (after m k p) read c v.1 (sound_second (view_count_faults m k p) _ (none_second (array_faults m d k p (read p)) _ fine)) (run from n) reach.1)

written_cases : TreeCases KindWritten FieldsWritten
written_cases = record {
  on_leaf = leaf_cases;
  on_list = λ o fs w g l e m d held p read c v fine from n h.
      both _ _ _ _ (ap (λ b. own m p read from n (b * suc n ∷ [])) (wide o) ∙ list_top m l o p read from n h) (list_below m d held l o fs p read from n c v h fine g);
  on_map = λ sorted fs w two g l e m d held p read c v fine from n h.
      both _ _ _ _ (list_top m l small p read from n h) (list_below m d held l small fs p read from n c v h (sym (map_is_list m d sorted fs p read) ∙ fine) g);
  on_sized = λ size fs w s g l e m d held p read c v fine from n h.
      both _ _ _ _ (own_part m p read from n n [] [] [] [] h refl refl refl)
      (g m d held (inside 1 p) (λ q. size * read) c v (none_second _ _ fine) (run (size * from) (size * n)) (reaches_all m fs (inside 1 p) (size * read) _ _ (room size read from n h))
      ∙ ap (λ z. written_each (run (z * from) (z * n)) (forest_read m held fs (inside 1 p) (λ q. size * read))) (sym (label_size l (kind.fixed_size_list size fs) e)));
  on_struct = λ fs g l e m d held p read c v fine from n h.
      both _ _ _ _ (own_part m p read from n n [] [] [] [] h refl refl refl) (g m d held (inside 1 p) (λ q. read) c v (none_second _ _ fine) (run from n) (reaches_all m fs (inside 1 p) read from n h));
  on_union = union_cases;
  on_dictionary = dictionary_cases;
  on_extension = λ name metadata k f l e m d held p read c v fine from n h. f l (record { under = e.under }) m d held p read c v fine from n h;
  on_none = none_cases;
  on_field = field_cases;
}

-- ── all rows ──

all_of : {A : Type 0} (n : ℕ) (xs : List A) → length xs ≡ n → part 0 n xs ≡ xs
all_of n xs e = take_all n xs (omega arith)

all_marks : (n : ℕ) (v : Option (List Bool)) → has_rows v n ≡ true → option_map (part 0 n) v ≡ v
all_marks n None h = refl
all_marks n (Some marks) h = ap Some (all_of n marks (eqb-true (length marks) n h))

all_offsets : (limit : ℕ) (os : List ℤ) → are_offsets os limit ≡ true → part 0 (variable_rows os + 1) os ≡ os
all_offsets limit os good = let some = some_offset os limit good in all_of (variable_rows os + 1) os (omega arith)

all_places : (n : ℕ) (o : Option (List ℤ)) (ns : List ℕ) → tagged_rows o n ns ≡ true → option_map (part 0 n) o ≡ o
all_places n None ns h = refl
all_places n (Some xs) ns h = ap Some (all_of n xs (eqb-true (length xs) n h))

-- all rows of a sound top are the top
whole_head : (h : Head) (ks : List Kind) (ns : List ℕ) → Sound h ks ns → head_part 0 (head_rows h) h ≡ h
whole_head (listed l) ks ns s = rw (all_offsets (first_or_0 ns) l.offsets s.offsets, all_marks (variable_rows l.offsets) l.validity s.valid) refl
whole_head (mapped l) ks ns s = rw (all_offsets (first_or_0 ns) l.offsets s.offsets, all_marks (variable_rows l.offsets) l.validity s.valid) refl
whole_head (sized c) ks ns s = rw (all_marks c.rows c.validity s.valid) refl
whole_head (structured c) ks ns s = rw (all_marks c.rows c.validity s.valid) refl
whole_head (tagged t) ks ns s = rw (all_of (length t.types) t.types refl, all_places (length t.types) t.offsets ns s.rows) refl
whole_head (indexed d) ks ns s = rw (all_of (length d.keys) d.keys refl, all_marks (length d.keys) d.validity s.valid) refl

abbrev pub is_nested : Parts → Bool
is_nested (leaf l) = false
is_nested (nested h cs) = true

-- what is written of all rows of an array with children is what is written of the array
pub whole_on : (q : Parts) → is_nested q ≡ true → fault_in q ≡ None → written_on 0 (rows_in q) q ≡ written_in q
whole_on (leaf l) s e = cc
whole_on (nested h cs) s e = ap (λ x. also_written (head_written x) (written_under h (written_each (held_by 0 (head_rows h) h) cs))) (whole_head h (kinds_each cs) (rows_each cs) (top_sound h cs e).0)

pub nested_under : (k : Kind) → is_carried k ≡ true → is_leaf_kind k ≡ false → (l : Kind) (m : RecordBatch) (h : Held) (p : Place) (rows : ℕ) → is_nested (parts_under l m h k p rows) ≡ true
nested_under (kind.«list» o fs) c other l m h p rows = refl
nested_under (kind.map sorted fs) c other l m h p rows = refl
nested_under (kind.fixed_size_list size fs) c other l m h p rows = refl
nested_under (kind.struct fs) c other l m h p rows = refl
nested_under (kind.union Sparse stated ids fs) c other l m h p rows = refl
nested_under (kind.union Dense stated ids fs) c other l m h p rows = refl
nested_under (kind.dictionary t ordered id k) c other l m h p rows = refl
nested_under (kind.extension name metadata k) c other l m h p rows = nested_under k c other l m h p rows
nested_under k c other l m h p rows = cc

-- what is written of an array that is not refused is what is written of the parts that are read
pub all_written : WrittenAsSent
unfolding written
all_written m d h k p rows c v carried fine = elim (cases_Bool (is_leaf_kind k)) [
  | inl is ↦ written_read m d k p rows is fine ∙ ap written_in (read_plain m h k p rows is)
  | inr other ↦
      let l = plain_kind k in
      let s = tree_sound k carried l (label_plain k) m d h p rows c v fine in
      by_tree KindWritten FieldsWritten written_cases k carried l (label_plain k) m d h p rows c v fine 0 rows (omega arith)
      ∙ ap (λ n. written_on 0 n (parts_read m h k p rows)) (sym s.rows_are)
      ∙ whole_on (parts_read m h k p rows) (nested_under k carried other l m h p rows) s.none
]
