-- The footer of a file is read behind whatever stands before its end.
use Rattle.std.proofs.Common.{◌≡◌, ℕ, ◌+◌, ◌-◌, ◌*◌, ◌^◌, ◌<◌, ◌≤◌, List, [], ◌∷◌, ◌++◌, length, take, drop, Ok, refl, sym, ap, ◌∙◌, arith, true, length-append, append_assoc, append-nil, pos}
use Rattle.std.specs.Prelude.{nat_le}
use Rattle.std.specs.Int.{w16, w32, cast_signed}
use Rattle.std.specs.List.{flat_map, AllByRecursion}
use Rattle.std.proofs.lemmas.Int.{to_z_pos}
use Rattle.std.proofs.lemmas.Bool.{le-leb}
use Rattle.std.proofs.lemmas.List.{drop_at}
use Rattle.std.proofs.lemmas.List.Concat.{flat_map-cons}
use Rattle.arrow_spec.specs.Readings.{bind}
use Rattle.arrow_spec.specs.Flat.{little, unsigned_at}
use Rattle.arrow_spec.specs.Held.{Stands}
use Rattle.arrow_spec.specs.Kinds.{Fields, Metadata}
use Rattle.arrow_spec.specs.Layout as layout
use Rattle.arrow_spec.specs.Layout.{Slots, inline_end, end_of, end_of_children, size, table_place, u32}
use Rattle.arrow_spec.specs.Files.{FileBlock, arrow_1, footer_of, last}
use Rattle.arrow_spec.specs.Footers.{block_bytes, blocks_node, footer_node}
use Rattle.arrow_spec.specs.Sent.{custom_slot, schema_node}
use Rattle.arrow_spec.specs.Streams.{end_mark}
use Rattle.arrow_spec.proofs.Ends.{children_above}
use Rattle.arrow_spec.proofs.Found.{number_stands, right_at}
use Rattle.arrow_spec.proofs.Slots.{taken}
use Rattle.arrow_spec.proofs.Standing.{stands_left}
use Rattle.laws_files.specs.FileLaws.{BlockFits, BlocksFit}
use Rattle.laws_files.specs.Files.{file_end}

-- ── the trailer ──

-- bytes that end in others
last_of : (n : ℕ) (front back : List ℕ) → length back ≡ n → last n (front ++ back) ≡ back
last_of n front back e = drop_at front back (length (front ++ back) - n) (omega (arith, length-append front back, e))

module _ (b footer : List ℕ) (at : ℕ) (long : length b ≡ at + (length footer + 10)) (short : length footer < 2 ^ 31) (there : Stands b at footer) (number : Stands b (at + length footer) (u32 (length footer))) (six : last 6 b ≡ arrow_1) (four : last 4 b ≡ 82 ∷ 79 ∷ 87 ∷ 49 ∷ []) where
  pub footer_there : footer_of b ≡ Ok footer
  unfolding footer_of bind
  footer_there =
      let size : nat_le 10 (length b) ≡ true = le-leb _ _ (omega (arith, long)) in
      let place : length b - 10 ≡ at + length footer = omega (arith, long) in
      let start : at + length footer - length footer ≡ at = omega arith in
      let n : unsigned_at w32 b (at + length footer) ≡ Ok (length footer) = number_stands w32 b (at + length footer) (length footer) (omega (arith, short)) number in
      let signed : cast_signed w32 (length footer) ≡ pos (length footer) = to_z_pos w32 (length footer) short in
      let room : nat_le (length footer + 10) (length b) ≡ true = le-leb _ _ (omega (arith, long)) in
      let found : take (length footer) (drop at b) ≡ footer = taken b at footer there in
      rw (size, four, six, place, n, signed, room, start, found) refl

pub footer_back : (before footer : List ℕ) → length footer < 2 ^ 31 → footer_of (before ++ file_end footer) ≡ Ok footer
footer_back before footer short =
    let b = before ++ file_end footer in
    let head = end_mark ++ footer in
    let all : Stands b (length before) (file_end footer) = record { front = before; back = []; whole = ap (λ t. before ++ t) (sym (append-nil (file_end footer))); place = refl } in
    let up_to_number : Stands b (length before) (head ++ u32 (length footer)) = stands_left b (length before) (head ++ u32 (length footer)) arrow_1 all in
    let there : Stands b (length before + 8) footer = right_at b (length before) end_mark footer (length before + 8) refl (stands_left b (length before) head (u32 (length footer)) up_to_number) in
    let number : Stands b (length before + 8 + length footer) (u32 (length footer)) = right_at b (length before) head (u32 (length footer)) (length before + 8 + length footer) (omega (arith, length-append end_mark footer)) up_to_number in
    let six : last 6 b ≡ arrow_1 = ap (λ t. last 6 t) (sym (append_assoc before (head ++ u32 (length footer)) arrow_1)) ∙ last_of 6 (before ++ (head ++ u32 (length footer))) arrow_1 refl in
    let two : file_end footer ≡ ((head ++ u32 (length footer)) ++ 65 ∷ 82 ∷ []) ++ 82 ∷ 79 ∷ 87 ∷ 49 ∷ [] = sym (append_assoc (head ++ u32 (length footer)) (65 ∷ 82 ∷ []) (82 ∷ 79 ∷ 87 ∷ 49 ∷ [])) in
    let four : last 4 b ≡ 82 ∷ 79 ∷ 87 ∷ 49 ∷ [] = ap (λ t. last 4 (before ++ t)) two ∙ ap (λ t. last 4 t) (sym (append_assoc before ((head ++ u32 (length footer)) ++ 65 ∷ 82 ∷ []) (82 ∷ 79 ∷ 87 ∷ 49 ∷ []))) ∙ last_of 4 (before ++ ((head ++ u32 (length footer)) ++ 65 ∷ 82 ∷ [])) (82 ∷ 79 ∷ 87 ∷ 49 ∷ []) refl in
    let long : length b ≡ length before + 8 + (length footer + 10) = omega (arith, length-append before (file_end footer), length-append (head ++ u32 (length footer)) arrow_1, length-append head (u32 (length footer)), length-append end_mark footer) in
    footer_there b footer (length before + 8) long short there number six four

-- ── how many blocks it has ──

length-blocks : (xs : List FileBlock) → length (flat_map block_bytes xs) ≡ 24 * length xs
length-blocks [] = omega arith
length-blocks (x ∷ xs) = omega (arith, ap length (flat_map-cons block_bytes x xs), length-append (block_bytes x) (flat_map block_bytes xs), length-blocks xs)

blocks_end : (xs : List FileBlock) (c : ℕ) → c + 24 * length xs ≤ end_of (blocks_node xs) c
blocks_end xs c = omega (arith, length-blocks xs)

-- a footer is longer than its blocks
footer_end : (fs : Fields) (pairs custom : Metadata) (ds rs : List FileBlock) → 24 * length ds + 24 * length rs ≤ size (footer_node fs pairs custom ds rs)
unfolding size
footer_end fs pairs custom ds rs =
    let s : Slots = layout.value w16 (pos 4) (layout.child (schema_node little fs pairs) (layout.child (blocks_node ds) (layout.child (blocks_node rs) (custom_slot custom)))) in
    let q = end_of (schema_node little fs pairs) (inline_end s (table_place s 4 + 4)) in
    omega (arith, blocks_end ds q, blocks_end rs (end_of (blocks_node ds) q), children_above (custom_slot custom) (end_of (blocks_node rs) (end_of (blocks_node ds) q)))

pub blocks_fit : (fs : Fields) (pairs custom : Metadata) (ds rs : List FileBlock) → size (footer_node fs pairs custom ds rs) < 2 ^ 31 → AllByRecursion BlockFits ds → AllByRecursion BlockFits rs → BlocksFit ds × BlocksFit rs
blocks_fit fs pairs custom ds rs small d r =
    let least = footer_end fs pairs custom ds rs in
    (record { numbers = d; count = omega (arith, least, small) }, record { numbers = r; count = omega (arith, least, small) })
