-- The lengths of the buffers that parts are written with.
use Rattle.std.proofs.Common.{◌≡◌, ℕ, ◌+◌, ◌-◌, ◌*◌, ◌≤◌, List, [], ◌∷◌, Bool, true, false, Option, Some, None, ℤ, length, drop, map, refl, sym, ap, ◌∙◌, arith, inl, inr, length-append, length-drop, length-take}
use Rattle.std.specs.Prelude.{nat_eq, nat_lt, ◌||◌}
use Rattle.std.specs.List.{flat_map, list_all}
use Rattle.std.specs.Int.{byte_len}
use Rattle.std.proofs.lemmas.Bool.{and_parts, cases_Bool, eqb-true}
use Rattle.std.proofs.lemmas.List.Concat.{flat_map-cons}
use Rattle.arrow_spec.specs.Flat.{little}
use Rattle.arrow_spec.specs.Kinds.{Kind}
use Rattle.arrow_spec.specs.Arrays.{offset_width}
use Rattle.arrow_spec.specs.Framing as framing
use Rattle.arrow_spec.proofs.PackedBits.{length-packed}
use Rattle.arrow_types.specs.Numbers.{offsets_by}
use Rattle.arrow_types.specs.Physical.{physical_of}
use Rattle.arrow_types.specs.declared.physical.PhysicalType.{PhysicalType}
use Rattle.arrow_types.specs.declared.physical.PhysicalType.TheVariants as physical
use Rattle.ipc_write.specs.Below.{is_variable, is_variable_any, Variable, are_offsets, place_at, variable_fault, variable_rows, LeafParts, nulls, bits, numbers, fixed, binary as binaries, text, binary_views, text_views, number_size, are_numbers, leaf, node_in, leaf_counts_in, validity_bytes, variable_lengths, leaf_lengths_in, written_in, layout_in_order, width_of_kind, bytes_between, variable_pieces, leaf_pieces, column_in}
use Rattle.ipc_write.proofs.Below.{some_offset, offset_risen, variable_sound, leaf_suits, variable_offsets, length-offset_bytes}
use Rattle.laws_transcode.specs.Below.{written_of}
use Rattle.laws_transcode.proofs.Below.{written_of_one}
use Rattle.ipc_write.specs.BelowWrittenParts.{offset_bytes}
use Rattle.laws_columns.specs.Laws.{LengthsAreOfPieces}

-- ── buffer by buffer ──

-- a validity
pub length-validity : (v : Option (List Bool)) → validity_bytes v ≡ length (framing.validity_bytes v)
length-validity None = refl
length-validity (Some marks) = sym (length-packed marks)

-- numbers
in_little : (l : PhysicalType) (bytes : List ℕ) → layout_in_order little l bytes ≡ bytes
in_little (physical.Primitive p) bytes = refl
in_little l bytes = refl

length-numbers : (l : PhysicalType) (size : ℕ) (values : List (List ℕ)) → list_all (λ bytes. nat_eq (length bytes) size) values ≡ true → size * length values ≡ length (flat_map (layout_in_order little l) values)
length-numbers l size [] h = omega arith
length-numbers l size (x ∷ values) h =
    let sized = and_parts (nat_eq (length x) size) (list_all (λ bytes. nat_eq (length bytes) size) values) h in
    let first : length (layout_in_order little l x) ≡ size = ap length (in_little l x) ∙ eqb-true (length x) size sized.0 in
    let rest : size * length values ≡ length (flat_map (layout_in_order little l) values) = length-numbers l size values sized.1 in
    let all : length (flat_map (layout_in_order little l) (x ∷ values)) ≡ length (layout_in_order little l x) + length (flat_map (layout_in_order little l) values) = ap length (flat_map-cons (layout_in_order little l) x values) ∙ length-append (layout_in_order little l x) (flat_map (layout_in_order little l) values) in
    omega (arith, all, first, rest)

-- how wide offsets are
abbrev width_by : Bool → ℕ
width_by large = byte_len (offset_width (offsets_by large))

wide : (large : Bool) → offset_bytes large ≡ width_by large
wide true = refl
wide false = refl

one_of : (a b : Bool) → (a || b) ≡ true → b ≡ false → a ≡ true
one_of true b h e = refl
one_of false true h e = cc
one_of false false h e = cc

variable_wide : (is_text : Bool) (k : Kind) → is_variable_any is_text (physical_of k) ≡ true → offset_bytes (is_variable is_text true (physical_of k)) ≡ byte_len (offset_width (width_of_kind k))
variable_wide is_text k h =
    elim (cases_Bool (is_variable is_text true (physical_of k))) [
      | inl e ↦ ap offset_bytes e ∙ wide true ∙ ap (λ o. byte_len (offset_width o)) (sym (variable_offsets is_text true k e))
      | inr e ↦ ap offset_bytes e ∙ wide false ∙ ap (λ o. byte_len (offset_width o)) (sym (variable_offsets is_text false k (one_of _ _ h e)))
    ]

-- ── parts by parts ──

two_same : (a b c d : ℕ) → a ≡ b → c ≡ d → a ∷ c ∷ [] ≡ b ∷ d ∷ []
two_same a b c d e f = rw (e, f) refl

length-between : (offsets : List ℤ) (values : List ℕ) → are_offsets offsets (length values) ≡ true → length (bytes_between offsets values) ≡ place_at offsets (variable_rows offsets) - place_at offsets 0
length-between offsets values h =
    let some = some_offset offsets (length values) h in
    let last = offset_risen offsets (length values) (variable_rows offsets) h (omega arith) in
    let from = place_at offsets 0 in
    let to = place_at offsets (variable_rows offsets) in
    let within : to ≤ length values = last.within in
    omega (arith, length-take (to - from) (drop from values), length-drop from values, within)

three_same : (a b c d x y : ℕ) → a ≡ b → c ≡ d → x ≡ y → a ∷ c ∷ x ∷ [] ≡ b ∷ d ∷ y ∷ []
three_same a b c d x y e f g = rw (e, f, g) refl

variable_are : (is_text : Bool) (p : Variable) → variable_fault is_text (is_variable_any is_text (physical_of p.kind)) p ≡ None → variable_lengths is_text p ≡ map length (variable_pieces little p)
variable_are is_text p h =
    let sound = variable_sound is_text (is_variable_any is_text (physical_of p.kind)) p h in
    three_same _ _ _ _ _ _ (length-validity p.validity) (ap (λ w. w * length p.offsets) (variable_wide is_text p.kind sound.suits) ∙ sym (length-offset_bytes little (width_of_kind p.kind) p.offsets)) (sym (length-between p.offsets p.values sound.spanned.rise))

pub lengths_are : LengthsAreOfPieces
lengths_are (nulls n) h = refl
lengths_are (bits f) h = two_same _ _ _ _ (length-validity f.validity) (sym (length-packed f.values))
lengths_are (numbers f) h =
    let size = number_size (physical_of f.kind) in
    let tests = and_parts (nat_lt 0 size) (list_all (λ bytes. nat_eq (length bytes) size) f.values) (leaf_suits (are_numbers size f.values) (length f.values) f.validity h) in
    two_same _ _ _ _ (length-validity f.validity) (length-numbers (physical_of f.kind) size f.values tests.1)
lengths_are (fixed f) h = two_same _ _ _ _ (length-validity f.validity) refl
lengths_are (binaries p) h = variable_are false p h
lengths_are (text p) h = variable_are true p h
lengths_are (binary_views p) h = ap (λ n. n ∷ length p.views ∷ map length p.buffers) (length-validity p.validity)
lengths_are (text_views p) h = ap (λ n. n ∷ length p.views ∷ map length p.buffers) (length-validity p.validity)

-- ── a column ──

-- parts whose lengths are those of their buffers are written as a column
pub by_lengths : (l : LeafParts) → leaf_lengths_in l ≡ map length (leaf_pieces little l) → written_in (leaf l) ≡ written_of (column_in little (leaf l) ∷ [])
by_lengths l h = ap (λ lengths. record { nodes = node_in (leaf l) ∷ []; lengths = lengths; views = leaf_counts_in l }) h ∙ sym (written_of_one (column_in little (leaf l)))
