-- How a tree of tables, texts and vectors is laid out as a flatbuffer. (FlatBuffers, "Internals"; the order and the padding are a choice of this writer.)
use Rattle.std.specs.Prelude.{ℕ, zero, suc, ◌+◌, ◌-◌, ◌*◌, ◌%◌, List, [], ◌∷◌, ◌++◌, length, replicate, ℤ}
use Rattle.std.specs.List.{flat_map}
use Rattle.std.specs.Int.{Width, w16, w32, w64, byte_len, to_le_bytes, cast_unsigned}

-- a tree of tables, texts and vectors
mutual
  pub data Node : Type 0 where
    table : Slots → Node
    text : List ℕ → Node
    -- so many structs of 8 byte alignment, by all their bytes
    structs : ℕ → List ℕ → Node
    numbers32 : List ℤ → Node
    numbers64 : List ℤ → Node
    tables : Nodes → Node

  -- the slots of a table in order: a value of its own, or a node that it points to
  pub data Slots : Type 0 where
    no_more : Slots
    absent : Slots → Slots
    value : Width → ℤ → Slots → Slots
    child : Node → Slots → Slots

  pub data Nodes : Type 0 where
    none : Nodes
    also : Node → Nodes → Nodes

-- the next multiple of n
abbrev pub up_to : ℕ → ℕ → ℕ
up_to n place = place + (n - place % n) % n

-- the next place that is 4 more than a multiple of 8
abbrev pub before_eight : ℕ → ℕ
before_eight place = up_to 8 (place + 4) - 4

-- padding
abbrev pub zeros : ℕ → List ℕ
zeros n = replicate n 0

-- a number of two bytes
abbrev pub u16 : ℕ → List ℕ
u16 n = to_le_bytes w16 n

-- a number of four bytes
abbrev pub u32 : ℕ → List ℕ
u32 n = to_le_bytes w32 n

-- one slot more, and none where no slot is present
abbrev pub one_more : ℕ → ℕ
one_more zero = zero
one_more (suc n) = suc (suc n)

-- slots up to the last one that is present
abbrev pub slot_count : Slots → ℕ
slot_count no_more = 0
slot_count (absent s) = one_more (slot_count s)
slot_count (value w x s) = suc (slot_count s)
slot_count (child n s) = suc (slot_count s)

-- a vtable has its own size, the table's, and an entry a slot
abbrev pub vtable_size : Slots → ℕ
vtable_size s = 4 + 2 * slot_count s

-- a table's vtable ends where the table begins, at a multiple of 8
abbrev pub table_place : Slots → ℕ → ℕ
table_place s cursor = up_to 8 (cursor + vtable_size s)

-- where a node stands that is laid at a cursor
abbrev pub place_of : Node → ℕ → ℕ
place_of (table s) c = table_place s c
place_of (text t) c = up_to 4 c
place_of (structs n xs) c = before_eight c
place_of (numbers32 xs) c = up_to 4 c
place_of (numbers64 xs) c = before_eight c
place_of (tables ns) c = up_to 4 c

-- where the inline values end that begin at a place
abbrev pub inline_end : Slots → ℕ → ℕ
inline_end no_more q = q
inline_end (absent s) q = inline_end s q
inline_end (value w x s) q = inline_end s (up_to (byte_len w) q + byte_len w)
inline_end (child n s) q = inline_end s (up_to 4 q + 4)

-- how many nodes
abbrev pub node_count : Nodes → ℕ
node_count none = 0
node_count (also n ns) = suc (node_count ns)

-- where a node ends, and the children of slots, and tables, each laid whole before the next
abbrev mutual
  pub end_of : Node → ℕ → ℕ
  end_of (table s) c = end_of_children s (inline_end s (table_place s c + 4))
  end_of (text t) c = up_to 4 c + 4 + length t + 1
  end_of (structs n xs) c = before_eight c + 4 + length xs
  end_of (numbers32 xs) c = up_to 4 c + 4 + 4 * length xs
  end_of (numbers64 xs) c = before_eight c + 4 + 8 * length xs
  end_of (tables ns) c = end_of_nodes ns (up_to 4 c + 4 + 4 * node_count ns)

  pub end_of_children : Slots → ℕ → ℕ
  end_of_children no_more c = c
  end_of_children (absent s) c = end_of_children s c
  end_of_children (value w x s) c = end_of_children s c
  end_of_children (child n s) c = end_of_children s (end_of n c)

  pub end_of_nodes : Nodes → ℕ → ℕ
  end_of_nodes none c = c
  end_of_nodes (also n ns) c = end_of_nodes ns (end_of n c)

-- the vtable's entries of a table at p, whose next inline value stands at q or behind
abbrev pub entries : Slots → ℕ → ℕ → ℕ → List ℕ
entries s p q zero = []
entries no_more p q (suc n) = []
entries (absent s) p q (suc n) = u16 0 ++ entries s p q n
entries (value w x s) p q (suc n) = u16 (up_to (byte_len w) q - p) ++ entries s p (up_to (byte_len w) q + byte_len w) n
entries (child m s) p q (suc n) = u16 (up_to 4 q - p) ++ entries s p (up_to 4 q + 4) n

-- the inline values from q on, where the next child is laid at c
abbrev pub inline_values : Slots → ℕ → ℕ → List ℕ
inline_values no_more q c = []
inline_values (absent s) q c = inline_values s q c
inline_values (value w x s) q c = zeros (up_to (byte_len w) q - q) ++ to_le_bytes w (cast_unsigned w x) ++ inline_values s (up_to (byte_len w) q + byte_len w) c
inline_values (child n s) q c = zeros (up_to 4 q - q) ++ u32 (place_of n c - up_to 4 q) ++ inline_values s (up_to 4 q + 4) (end_of n c)

-- the offsets to tables from q on, where the next table is laid at c
abbrev pub offsets : Nodes → ℕ → ℕ → List ℕ
offsets none q c = []
offsets (also n ns) q c = u32 (place_of n c - q) ++ offsets ns (q + 4) (end_of n c)

-- a table's bytes before its children
unfoldable pub table_head : Slots → ℕ → List ℕ
table_head s c =
    let p = table_place s c in
    let v = vtable_size s in
    let e = inline_end s (p + 4) in
    zeros (p - v - c) ++ u16 v ++ u16 (e - p) ++ entries s p (p + 4) (slot_count s) ++ u32 v ++ inline_values s (p + 4) e

-- the bytes from the cursor on
abbrev mutual
  pub laid : Node → ℕ → List ℕ
  laid (table s) c = table_head s c ++ laid_children s (inline_end s (table_place s c + 4))
  laid (text t) c = zeros (up_to 4 c - c) ++ u32 (length t) ++ t ++ 0 ∷ []
  laid (structs n xs) c = zeros (before_eight c - c) ++ u32 n ++ xs
  laid (numbers32 xs) c = zeros (up_to 4 c - c) ++ u32 (length xs) ++ flat_map (λ x. to_le_bytes w32 (cast_unsigned w32 x)) xs
  laid (numbers64 xs) c = zeros (before_eight c - c) ++ u32 (length xs) ++ flat_map (λ x. to_le_bytes w64 (cast_unsigned w64 x)) xs
  laid (tables ns) c = zeros (up_to 4 c - c) ++ u32 (node_count ns) ++ offsets ns (up_to 4 c + 4) (up_to 4 c + 4 + 4 * node_count ns)
      ++ laid_nodes ns (up_to 4 c + 4 + 4 * node_count ns)

  pub laid_children : Slots → ℕ → List ℕ
  laid_children no_more c = []
  laid_children (absent s) c = laid_children s c
  laid_children (value w x s) c = laid_children s c
  laid_children (child n s) c = laid n c ++ laid_children s (end_of n c)

  pub laid_nodes : Nodes → ℕ → List ℕ
  laid_nodes none c = []
  laid_nodes (also n ns) c = laid n c ++ laid_nodes ns (end_of n c)

-- the root's place, and the root from place 4 on
unfoldable pub layout : Node → List ℕ
layout n = u32 (place_of n 4) ++ laid n 4

-- the layout's length
unfoldable pub size : Node → ℕ
size n = end_of n 4
