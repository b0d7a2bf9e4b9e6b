-- What is written of the parts that are read is what the record batch says.
use Rattle.std.proofs.Common.{◌≡◌, ℕ, zero, suc, ◌+◌, ◌-◌, ◌*◌, ◌/◌, List, [], ◌∷◌, Bool, true, false, Some, None, length, map, cond, refl, sym, ap, ◌∙◌, arith, pos}
use Rattle.std.specs.Prelude.{nat_lt}
use Rattle.std.specs.Int.{byte_len}
use Rattle.std.proofs.lemmas.Bool.{ltb-true}
use Rattle.arrow_spec.specs.Kinds as kinds
use Rattle.arrow_spec.specs.Kinds.{Kind, Offsets, small, large}
use Rattle.arrow_spec.specs.Counts.{RecordBatch, Place, Written, count_at}
use Rattle.arrow_spec.specs.Arrays.{Dictionaries, buf, bit, has_nulls, signed_in, offset, offset_width}
use Rattle.arrow_spec.specs.Faults.{node_faults, view_parts_faults, views_faults, view_text_faults, array_faults}
use Rattle.arrow_spec.specs.Sent.{own, with_views, lengths_on, validity_length, written_part, written}
use Rattle.arrow_spec.proofs.Fewer.{none_second, sound_first}
use Rattle.arrow_types.specs.Physical.{primitive_size, physical_of}
use Rattle.arrow_types.specs.declared.physical.PrimitiveType.{PrimitiveType}
use Rattle.arrow_buffers.specs.Rows.{null_rows}
use Rattle.arrow_buffers.specs.Layouts.{is_variable}
use Rattle.arrow_buffers.specs.Variable.{Variable, place_at, variable_rows}
use Rattle.arrow_buffers.proofs.Parts.{length-from_on}
use Rattle.arrow_arrays.specs.LeafParts.{number_size}
use Rattle.arrow_arrays.specs.LeafKinds.{is_leaf_kind}
use Rattle.ipc_read_laws.specs.PartsRead.{parts_in, plain_read, bits_read, validity_read, variable_read, number_read, item_bytes}
use Rattle.ipc_read_laws.specs.WrittenParts.{bits_length, validity_bytes, offset_bytes, variable_lengths, leaf_written_in, written_in}
use Rattle.ipc_read_laws.proofs.Validities.{nulls-read}
use Rattle.ipc_read_laws.proofs.KindCases.{IsNumbers, by_kind, Like, like_itself}
use Rattle.ipc_read_laws.proofs.OffsetsRead.{offsets_told, rows-told, place-told}
use Rattle.ipc_read_laws.proofs.ViewsRead.{length-rows, count-rows, views_told, buffers_told, count-buffers, lengths-buffers}
use Rattle.ipc_read_laws.proofs.Sound.{views_held, buffers_held}
use Rattle.ipc_read_laws.proofs.FaultLaws.{fixed_held}

-- ── a node and its own buffers ──

bytes_if : (b : Bool) (xs : List Bool) (n : ℕ) → length xs ≡ n → validity_bytes (cond b (Some xs) None) ≡ cond b ((n + 7) / 8) 0
bytes_if true xs n h = ap bits_length h
bytes_if false xs n h = refl

-- a validity is held where one is read
pub validity_bytes-read : (m : RecordBatch) (p : Place) (rows : ℕ) → validity_bytes (validity_read m p rows) ≡ validity_length m p rows rows
validity_bytes-read m p zero = refl
validity_bytes-read m p (suc n) = bytes_if (has_nulls m p) (bits_read m p.buffer (suc n)) (suc n) (length-from_on (bit (buf m p.buffer)) 0 (suc n))

-- what is written of so many rows with such lengths
abbrev held_own : RecordBatch → Place → ℕ → ℕ → List ℕ → List ℕ → Written
held_own m p rows n lengths counts = record { nodes = record { length = pos n; null_count = pos (null_rows (validity_read m p rows)) } ∷ []; lengths = validity_bytes (validity_read m p rows) ∷ lengths; views = counts }

own_held : (m : RecordBatch) (p : Place) (rows n : ℕ) (lengths held counts counted : List ℕ) → n ≡ rows → held ≡ lengths → counted ≡ counts → with_views counts (own m p rows 0 rows lengths) ≡ held_own m p rows n held counted
own_held m p rows n lengths held counts counted e f g = rw (e, f, g, nulls-read m p rows, validity_bytes-read m p rows) refl

one_more : (a b : ℕ) (xs ys : List ℕ) → a ≡ b → xs ≡ ys → a ∷ xs ≡ b ∷ ys
one_more a b xs ys e f = rw (e, f) refl

-- ── kind by kind ──

abbrev WrittenRead : RecordBatch → Dictionaries → Place → ℕ → Kind → Type 0
WrittenRead m d p rows k = (l : Kind) → Like l k → array_faults m d k p rows ≡ [] → written_part m k p rows 0 rows ≡ leaf_written_in (parts_in (physical_of k) m l p rows)

written_bits : (m : RecordBatch) (d : Dictionaries) (p : Place) (rows : ℕ) → WrittenRead m d p rows kinds.boolean
written_bits m d p rows l like h =
    let n = length-from_on (bit (buf m (p.buffer + 1))) 0 rows in
    own_held m p rows _ _ _ [] [] n (ap (λ k. bits_length k ∷ []) n) refl

written_numbers : (m : RecordBatch) (d : Dictionaries) (p : Place) (rows : ℕ) (t : PrimitiveType) (k : Kind) → IsNumbers t k → WrittenRead m d p rows k
written_numbers m d p rows t k is l like h =
    let n = length-from_on (λ j. number_read t m.order (item_bytes m (p.buffer + 1) (primitive_size t) j)) 0 rows in
    let size : number_size (physical_of l) ≡ primitive_size t = ap number_size (like.layout ∙ is.layout) in
    is.written m p rows
    ∙ own_held m p rows _ _ _ [] [] n (rw (size, n) refl) refl
    ∙ ap (λ x. leaf_written_in (parts_in x m l p rows)) (sym is.layout)

written_fixed : (m : RecordBatch) (d : Dictionaries) (p : Place) (rows size : ℕ) → nat_lt 0 size ≡ true → WrittenRead m d p rows (kinds.fixed_size_binary size)
written_fixed m d p rows size above l like h =
    let held = fixed_held m d p size rows h in
    rw (like.size) (own_held m p rows _ _ _ [] [] (count-rows m size (p.buffer + 1) rows (ltb-true 0 size above) held) (one_more _ _ [] [] (length-rows m size (p.buffer + 1) rows held) refl) refl)

between_none : (m : RecordBatch) (o : Offsets) (i : ℕ) → 0 ≡ offset m o i (0 + 0) - offset m o i 0
between_none m o i = omega arith

-- the bytes between the first and the last offset
between-read : (m : RecordBatch) (o : Offsets) (i rows : ℕ) → place_at (offsets_told m o i rows) (variable_rows (offsets_told m o i rows)) - place_at (offsets_told m o i rows) 0 ≡ offset m o i (0 + rows) - offset m o i 0
between-read m o i rows =
    let last : place_at (offsets_told m o i rows) (variable_rows (offsets_told m o i rows)) ≡ offset m o i (0 + rows) = ap (place_at (offsets_told m o i rows)) (rows-told m o i rows) ∙ place-told m o i rows rows (omega arith) ∙ ap (λ j. offset m o i j) (omega arith) in
    let first : place_at (offsets_told m o i rows) 0 ≡ offset m o i 0 = place-told m o i rows 0 (omega arith) in
    rw (last, first) refl

offsets-length : (m : RecordBatch) (o : Offsets) (i rows width bytes : ℕ) → width ≡ bytes → width * length (offsets_told m o i rows) ≡ bytes * suc rows
offsets-length m o i rows width bytes e = rw (e, length-from_on (λ j. signed_in m (offset_width o) i j) 0 (suc rows)) refl

-- what is written of the parts that are read between offsets
abbrev variable_held : Bool → Variable → Written
variable_held is_text v = record { nodes = record { length = pos (variable_rows v.offsets); null_count = pos (null_rows v.validity) } ∷ []; lengths = variable_lengths is_text v; views = [] }

written_between : (is_text : Bool) (m : RecordBatch) (l : Kind) (o : Offsets) (p : Place) (rows : ℕ) → offset_bytes (is_variable is_text true (physical_of l)) ≡ byte_len (offset_width o)
    → own m p rows 0 rows (byte_len (offset_width o) * suc rows ∷ (offset m o (p.buffer + 1) (0 + rows) - offset m o (p.buffer + 1) 0) ∷ []) ≡ variable_held is_text (variable_read m l o p rows)
written_between is_text m l o p zero e = own_held m p 0 _ _ _ [] [] refl (one_more _ _ _ _ (ap (λ b. b * 1) e) (one_more _ _ [] [] (between_none m o (p.buffer + 1)) refl)) refl
written_between is_text m l o p (suc n) e =
    own_held m p (suc n) _ _ _ [] [] (rows-told m o (p.buffer + 1) (suc n)) (one_more _ _ _ _ (offsets-length m o (p.buffer + 1) (suc n) _ (byte_len (offset_width o)) e) (one_more _ _ [] [] (between-read m o (p.buffer + 1) (suc n)) refl)) refl

written_binary : (m : RecordBatch) (d : Dictionaries) (p : Place) (rows : ℕ) (o : Offsets) → WrittenRead m d p rows (kinds.binary o)
written_binary m d p rows small l like h = written_between false m l small p rows (rw like.layout refl)
written_binary m d p rows large l like h = written_between false m l large p rows (rw like.layout refl)

written_text : (m : RecordBatch) (d : Dictionaries) (p : Place) (rows : ℕ) (o : Offsets) → WrittenRead m d p rows (kinds.utf8 o)
written_text m d p rows small l like h = written_between true m l small p rows (rw like.layout refl)
written_text m d p rows large l like h = written_between true m l large p rows (rw like.layout refl)

views_written-read : (m : RecordBatch) (p : Place) (n : ℕ) → view_parts_faults m p (suc n) ≡ []
    → with_views (count_at m p.view ∷ []) (own m p (suc n) 0 (suc n) (16 * suc n ∷ lengths_on m (p.buffer + 2) (count_at m p.view))) ≡ held_own m p (suc n) (length (views_told m p (suc n)) / 16) (length (views_told m p (suc n)) ∷ map length (buffers_told m p)) (length (buffers_told m p) ∷ [])
views_written-read m p n parts =
    let held = views_held m p (suc n) parts in
    own_held m p (suc n) _ _ _ _ _ (count-rows m 16 (p.buffer + 1) (suc n) (omega arith) held)
    (one_more _ _ _ _ (length-rows m 16 (p.buffer + 1) (suc n) held) (lengths-buffers m p (buffers_held m p (suc n) parts)))
    (one_more _ _ [] [] (count-buffers m p) refl)

written_views : (m : RecordBatch) (d : Dictionaries) (p : Place) (rows : ℕ) → WrittenRead m d p rows kinds.binary_view
unfolding views_faults
written_views m d p zero l like h = refl
written_views m d p (suc n) l like h = views_written-read m p n (sound_first _ _ (none_second (node_faults m p (suc n)) _ h))

written_text_views : (m : RecordBatch) (d : Dictionaries) (p : Place) (rows : ℕ) → WrittenRead m d p rows kinds.utf8_view
unfolding view_text_faults
written_text_views m d p zero l like h = refl
written_text_views m d p (suc n) l like h = views_written-read m p n (sound_first _ _ (none_second (node_faults m p (suc n)) _ h))

-- what is written of an array that is not refused is written of the parts that are read
pub written_read : (m : RecordBatch) (d : Dictionaries) (k : Kind) (p : Place) (rows : ℕ) → is_leaf_kind k ≡ true → array_faults m d k p rows ≡ [] → written m k p rows 0 rows ≡ written_in (plain_read m k p rows)
unfolding written
written_read m d k p rows leaf h = by_kind (WrittenRead m d p rows) (record {
  on_null = λ l like h. refl;
  on_bits = written_bits m d p rows;
  on_numbers = written_numbers m d p rows;
  on_fixed = written_fixed m d p rows;
  on_binary = written_binary m d p rows;
  on_text = written_text m d p rows;
  on_binary_view = written_views m d p rows;
  on_text_view = written_text_views m d p rows;
  on_extension = λ name metadata k f l like h. f l (record { layout = like.layout; size = like.size }) h;
}) k leaf k (like_itself k) h
