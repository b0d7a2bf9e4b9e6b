-- The table of a footer: its slots, and how large it is.
use Rattle.std.proofs.Common.{◌≡◌, ℕ, zero, suc, ◌+◌, ◌*◌, ◌^◌, ◌<◌, ◌≤◌, List, [], ◌∷◌, ◌++◌, Bool, true, false, length, map, drop, Option, Some, None, refl, sym, ap, ◌∙◌, arith, length-append, true≢false, pos}
use Rattle.std.specs.Prelude.{IsSome}
use Rattle.std.specs.Option.{option_map, option_to_list}
use Rattle.std.specs.List.{flat_map}
use Rattle.std.specs.Int.{w8, w16}
use Rattle.std.proofs.Math.Seq.{drop-append_seam}
use Rattle.std.proofs.lemmas.List.{length-drop, length-map, map-append}
use Rattle.arrow_spec.specs.Files.{FileBlock}
use Rattle.arrow_spec.specs.Footers.{block_bytes, blocks_node}
use Rattle.arrow_spec.specs.Kinds.{Metadata}
use Rattle.arrow_spec.specs.Layout.{Node, Slots, absent, child, end_of, end_of_children, inline_end, no_more, size, slot_count, table, table_place, tables, value}
use Rattle.arrow_spec.specs.Sent.{custom_slot, message_slots, pair_nodes}
use Rattle.arrow_spec.proofs.Ends.{end_above}
use Rattle.arrow_flat.specs.Nodes.{ChildrenKeepSlotLimit, KeepsSlotLimit, SlotValue, in_front, leads_to, nothing, number, slot_of, slots_from}
use Rattle.arrow_flat.specs.declared.node.Slot.{Slot}
use Rattle.schema_writer.proofs.Limits.{message_keeps}
use Rattle.ipc_file_writer.specs.Footers.{footer_table, optional_slots}

-- ── the slots ──

pub no_more_table : (schema : Node) (custom : Metadata) (dictionaries records : List FileBlock) (o : Option Slot) → optional_slots (option_map slot_of o) ≡ custom_slot custom → o ≡ None
    → table (value w16 (pos 4) (child schema (child (blocks_node dictionaries) (child (blocks_node records) no_more)))) ≡ footer_table schema custom dictionaries records
no_more_table schema custom dictionaries records o e n =
    ap (λ s. table (value w16 (pos 4) (child schema (child (blocks_node dictionaries) (child (blocks_node records) s))))) (ap (λ x. optional_slots (option_map slot_of x)) (sym n) ∙ e)

-- ── few slots ──

count_custom : (custom : Metadata) → slot_count (custom_slot custom) ≤ 1
count_custom [] = omega arith
count_custom (x ∷ xs) = omega arith

second : {A B : Type 0} → A × B → B
second p = p.1

pub footer_keeps : (schema : Node) (custom : Metadata) (dictionaries records : List FileBlock) → KeepsSlotLimit schema → KeepsSlotLimit (footer_table schema custom dictionaries records)
footer_keeps schema custom dictionaries records k =
    let slots : ChildrenKeepSlotLimit (message_slots 0 schema 0 custom) = second (message_keeps 0 schema 0 custom k) in
    let pairs : ChildrenKeepSlotLimit (custom_slot custom) = second slots in
    (omega (arith, count_custom custom), (k, (tt, (tt, pairs))))

-- ── many blocks ──

length-blocks : (xs : List FileBlock) → length (flat_map block_bytes xs) ≡ 24 * length xs
length-blocks [] = refl
length-blocks (x ∷ xs) = omega (arith, length-append (block_bytes x) (flat_map block_bytes xs), length-blocks xs)

custom_above : (custom : Metadata) (c : ℕ) → c ≤ end_of_children (custom_slot custom) c
custom_above [] c = omega arith
custom_above (x ∷ xs) c = end_above (tables (pair_nodes (x ∷ xs))) c

blocks_below : (schema : Node) (custom : Metadata) (dictionaries records : List FileBlock)
    → (24 * length dictionaries ≤ size (footer_table schema custom dictionaries records)) × (24 * length records ≤ size (footer_table schema custom dictionaries records))
unfolding size
blocks_below schema custom dictionaries records =
    let s = value w16 (pos 4) (child schema (child (blocks_node dictionaries) (child (blocks_node records) (custom_slot custom)))) in
    let e = end_of schema (inline_end s (table_place s 4 + 4)) in
    let one = end_of (blocks_node dictionaries) e in
    let two = end_of (blocks_node records) one in
    let whole : end_of (table s) 4 ≡ end_of_children (custom_slot custom) two = refl in
    let last : two ≤ end_of_children (custom_slot custom) two = custom_above custom two in
    let later : one ≤ two = end_above (blocks_node records) one in
    let first : length (flat_map block_bytes dictionaries) ≤ one = omega arith in
    let second : length (flat_map block_bytes records) ≤ two = omega arith in
    (omega (arith, whole, last, later, first, length-blocks dictionaries), omega (arith, whole, last, second, length-blocks records))

pub many_dictionaries : (schema : Node) (custom : Metadata) (dictionaries records : List FileBlock) → 2 ^ 27 ≤ length dictionaries → 2 ^ 31 ≤ size (footer_table schema custom dictionaries records)
many_dictionaries schema custom dictionaries records h = omega (arith, (blocks_below schema custom dictionaries records).0, h)

pub many_records : (schema : Node) (custom : Metadata) (dictionaries records : List FileBlock) → 2 ^ 27 ≤ length records → 2 ^ 31 ≤ size (footer_table schema custom dictionaries records)
many_records schema custom dictionaries records h = omega (arith, (blocks_below schema custom dictionaries records).1, h)
