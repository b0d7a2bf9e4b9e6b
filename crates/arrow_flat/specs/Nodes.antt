-- What is built, as the nodes of a layout.
use Rattle.std.specs.Prelude.{ℕ, ◌+◌, ◌-◌, ◌^◌, ◌<◌, ◌≤◌, List, [], ◌∷◌, ◌++◌, length, take, drop, ℤ, pos, map, string_bytes, Bool, true, false}
use Rattle.std.specs.Int.{Width, w8, w16, w32, w64, byte_len, to_le_bytes, cast_unsigned, from_bool}
use Rattle.arrow_spec.specs.Layout.{Node as LaidNode, Slots, Nodes, table, text, structs, numbers32, numbers64, tables, no_more, absent, value, child, none, also, up_to, slot_count, vtable_size, table_place, inline_end, entries, place_of, end_of, laid, zeros, u16, u32}
use Rattle.arrow_spec.specs.Held.{IsSmall, Rooted}
use Rattle.arrow_flat.specs.declared.node.Node.{Node, fold-Node}
use Rattle.arrow_flat.specs.declared.node.Slot.{Slot, fold-Slot}
use Rattle.arrow_flat.specs.declared.node.Node.TheOpen.{Node-F, Slot-F}

-- what one slot has
pub data SlotValue : Type 0 where
  nothing : SlotValue
  number : Width → ℤ → SlotValue
  leads_to : LaidNode → SlotValue

abbrev pub in_front : SlotValue → Slots → Slots
in_front nothing s = absent s
in_front (number w x) s = value w x s
in_front (leads_to n) s = child n s

abbrev pub slots_from : List SlotValue → Slots
slots_from [] = no_more
slots_from (v ∷ vs) = in_front v (slots_from vs)

abbrev pub nodes_from : List LaidNode → Nodes
nodes_from [] = none
nodes_from (n ∷ ns) = also n (nodes_from ns)

-- one level, with what is inside already seen
abbrev pub node_step : Node-F LaidNode SlotValue → LaidNode
node_step (Node-F.Table v) = table (slots_from v.items)
node_step (Node-F.Text s) = text (string_bytes s)
node_step (Node-F.Structs n v) = structs n v.items
node_step (Node-F.I32s v) = numbers32 v.items
node_step (Node-F.I64s v) = numbers64 v.items
node_step (Node-F.Tables v) = tables (nodes_from v.items)

abbrev pub slot_step : Slot-F LaidNode SlotValue → SlotValue
slot_step Slot-F.Absent = nothing
slot_step (Slot-F.U8 n) = number w8 (pos n)
slot_step (Slot-F.I8 z) = number w8 z
slot_step (Slot-F.Bool b) = number w8 (pos (from_bool b))
slot_step (Slot-F.I16 z) = number w16 z
slot_step (Slot-F.I32 z) = number w32 z
slot_step (Slot-F.I64 z) = number w64 z
slot_step (Slot-F.Child n) = leads_to n

abbrev pub node_of : Node → LaidNode
node_of = fold-Node LaidNode SlotValue node_step slot_step

abbrev pub slot_of : Slot → SlotValue
slot_of = fold-Slot LaidNode SlotValue node_step slot_step

abbrev pub slots_of : List Slot → Slots
slots_of slots = slots_from (map slot_of slots)

abbrev pub nodes_of : List Node → Nodes
nodes_of nodes = nodes_from (map node_of nodes)

-- ── where one slot's value stands ──

abbrev pub is_nothing : SlotValue → Bool
is_nothing nothing = true
is_nothing (number w x) = false
is_nothing (leads_to n) = false

abbrev pub value_width : SlotValue → ℕ
value_width nothing = 0
value_width (number w x) = byte_len w
value_width (leads_to n) = 4

-- the place of the inline value, from the place behind the one before it
abbrev pub value_place : SlotValue → ℕ → ℕ
value_place nothing q = q
value_place (number w x) q = up_to (byte_len w) q
value_place (leads_to n) q = up_to 4 q

abbrev pub value_next : SlotValue → ℕ → ℕ
value_next v q = value_place v q + value_width v

-- where its child ends that is laid from a cursor on
abbrev pub value_end : SlotValue → ℕ → ℕ
value_end nothing c = c
value_end (number w x) c = c
value_end (leads_to n) c = end_of n c

abbrev pub value_laid : SlotValue → ℕ → List ℕ
value_laid nothing c = []
value_laid (number w x) c = []
value_laid (leads_to n) c = laid n c

-- what the vtable of a table at p has for it
abbrev pub value_entry : SlotValue → ℕ → ℕ → ℕ
value_entry nothing p q = 0
value_entry (number w x) p q = value_place (number w x) q - p
value_entry (leads_to n) p q = value_place (leads_to n) q - p

-- a table's bytes before its inline values
unfoldable pub table_front : Slots → ℕ → List ℕ
table_front s c =
    let p = table_place s c in
    let v = vtable_size s in
    let e = inline_end s (p + 4) in
    zeros (p - v - c) ++ u16 v ++ u16 (e - p) ++ entries s p (p + 4) (slot_count s) ++ u32 v

-- bytes that are written over others from a place on
abbrev pub over : List ℕ → ℕ → List ℕ → List ℕ
over out at bytes = take at out ++ (bytes ++ drop (at + length bytes) out)

-- a number that is written over what stands behind q
abbrev pub with_number : SlotValue → ℕ → List ℕ → List ℕ
with_number nothing q out = out
with_number (number w x) q out = over out (up_to (byte_len w) q) (to_le_bytes w (cast_unsigned w x))
with_number (leads_to n) q out = out

-- the same, or an offset to a child that is then laid at the end
abbrev pub with_value : SlotValue → ℕ → List ℕ → List ℕ
with_value nothing q out = out
with_value (number w x) q out = over out (up_to (byte_len w) q) (to_le_bytes w (cast_unsigned w x))
with_value (leads_to n) q out = over out (up_to 4 q) (u32 (place_of n (length out) - up_to 4 q))

-- ── what is asked of a tree, and what is known of it ──

-- each table has at most 16 slots
abbrev mutual
  pub KeepsSlotLimit : LaidNode → Type 0
  KeepsSlotLimit (table s) = (slot_count s ≤ 16) × ChildrenKeepSlotLimit s
  KeepsSlotLimit (text x) = Unit {0}
  KeepsSlotLimit (structs n xs) = Unit {0}
  KeepsSlotLimit (numbers32 xs) = Unit {0}
  KeepsSlotLimit (numbers64 xs) = Unit {0}
  KeepsSlotLimit (tables ns) = NodesKeepSlotLimit ns

  pub ChildrenKeepSlotLimit : Slots → Type 0
  ChildrenKeepSlotLimit no_more = Unit {0}
  ChildrenKeepSlotLimit (absent s) = ChildrenKeepSlotLimit s
  ChildrenKeepSlotLimit (value w x s) = ChildrenKeepSlotLimit s
  ChildrenKeepSlotLimit (child n s) = KeepsSlotLimit n × ChildrenKeepSlotLimit s

  pub NodesKeepSlotLimit : Nodes → Type 0
  NodesKeepSlotLimit none = Unit {0}
  NodesKeepSlotLimit (also n ns) = KeepsSlotLimit n × NodesKeepSlotLimit ns

abbrev pub ValueKeepsSlotLimit : SlotValue → Type 0
ValueKeepsSlotLimit nothing = Unit {0}
ValueKeepsSlotLimit (number w x) = Unit {0}
ValueKeepsSlotLimit (leads_to n) = KeepsSlotLimit n

-- each number fits its width
abbrev mutual
  pub NumbersFit : LaidNode → Type 0
  NumbersFit (table s) = SlotNumbersFit s
  NumbersFit (text x) = Unit {0}
  NumbersFit (structs n xs) = n < 2 ^ 32
  NumbersFit (numbers32 xs) = Unit {0}
  NumbersFit (numbers64 xs) = Unit {0}
  NumbersFit (tables ns) = NodeNumbersFit ns

  pub SlotNumbersFit : Slots → Type 0
  SlotNumbersFit no_more = Unit {0}
  SlotNumbersFit (absent s) = SlotNumbersFit s
  SlotNumbersFit (value w x s) = IsSmall w (cast_unsigned w x) × SlotNumbersFit s
  SlotNumbersFit (child n s) = NumbersFit n × SlotNumbersFit s

  pub NodeNumbersFit : Nodes → Type 0
  NodeNumbersFit none = Unit {0}
  NodeNumbersFit (also n ns) = NumbersFit n × NodeNumbersFit ns

abbrev pub NumberFits : SlotValue → Type 0
NumberFits nothing = Unit {0}
NumberFits (number w x) = IsSmall w (cast_unsigned w x)
NumberFits (leads_to n) = Unit {0}

abbrev pub ValueFits : SlotValue → Type 0
ValueFits nothing = Unit {0}
ValueFits (number w x) = IsSmall w (cast_unsigned w x)
ValueFits (leads_to n) = NumbersFit n

abbrev pub IsTable : LaidNode → Type 0
IsTable (table s) = Unit {0}
IsTable (text x) = ⊥
IsTable (structs n xs) = ⊥
IsTable (numbers32 xs) = ⊥
IsTable (numbers64 xs) = ⊥
IsTable (tables ns) = ⊥

-- the root table of the bytes holds the slots of the node
abbrev pub ReadsBack : LaidNode → List ℕ → Type 0
ReadsBack (table s) b = Rooted s b
ReadsBack (text x) b = ⊥
ReadsBack (structs n xs) b = ⊥
ReadsBack (numbers32 xs) b = ⊥
ReadsBack (numbers64 xs) b = ⊥
ReadsBack (tables ns) b = ⊥
