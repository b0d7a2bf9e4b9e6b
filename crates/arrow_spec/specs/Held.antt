-- What is read where a tree is laid: the law of the layout reads it back. (FlatBuffers, "Internals".)
use Rattle.std.specs.Prelude.{◌≡◌, ℕ, ◌+◌, ◌*◌, ◌^◌, ◌<◌, ◌≤◌, List, ◌++◌, length, Some, None, Ok}
use Rattle.std.specs.List.{flat_map}
use Rattle.std.specs.Int.{Width, w8, w16, w32, w64, w128, to_le_bytes, cast_unsigned}
use Rattle.arrow_spec.specs.Flat.{Table, root, unsigned_at, table_at, slot, target}
use Rattle.arrow_spec.specs.Layout.{Node, Slots, Nodes, table, text, structs, numbers32, numbers64, tables, no_more, absent, value, child, none, also, node_count, slot_count}

-- bytes that stand at a place of others
pub record Stands (b : List ℕ) (x : ℕ) (bytes : List ℕ) : Type 0 where
  pub front : List ℕ
  pub back : List ℕ
  pub whole : b ≡ front ++ (bytes ++ back)
  pub place : length front ≡ x

-- a number of this width
abbrev pub IsSmall : Width → ℕ → Type 0
IsSmall w8 n = n < 2 ^ 8
IsSmall w16 n = n < 2 ^ 16
IsSmall w32 n = n < 2 ^ 32
IsSmall w64 n = n < 2 ^ 64
IsSmall w128 n = ⊥

-- each table has at most 16 slots, and each number fits its width
abbrev mutual
  pub Fits : Node → Type 0
  Fits (table s) = (slot_count s ≤ 16) × AllFit s
  Fits (text x) = Unit {0}
  Fits (structs n xs) = n < 2 ^ 32
  Fits (numbers32 xs) = Unit {0}
  Fits (numbers64 xs) = Unit {0}
  Fits (tables ns) = NodesFit ns

  pub AllFit : Slots → Type 0
  AllFit no_more = Unit {0}
  AllFit (absent s) = AllFit s
  AllFit (value w x s) = IsSmall w (cast_unsigned w x) × AllFit s
  AllFit (child n s) = Fits n × AllFit s

  pub NodesFit : Nodes → Type 0
  NodesFit none = Unit {0}
  NodesFit (also n ns) = Fits n × NodesFit ns

-- a node stands at a place
abbrev mutual
  pub Holds : Node → List ℕ → ℕ → Type 0
  Holds (table s) b q = (t : Table) × (table_at b q ≡ Ok t) × HoldsSlots s b t 0
  Holds (text x) b q = (unsigned_at w32 b q ≡ Ok (length x)) × Stands b (q + 4) x
  Holds (structs n xs) b q = (unsigned_at w32 b q ≡ Ok n) × Stands b (q + 4) xs
  Holds (numbers32 xs) b q = (unsigned_at w32 b q ≡ Ok (length xs)) × Stands b (q + 4) (flat_map (λ x. to_le_bytes w32 (cast_unsigned w32 x)) xs)
  Holds (numbers64 xs) b q = (unsigned_at w32 b q ≡ Ok (length xs)) × Stands b (q + 4) (flat_map (λ x. to_le_bytes w64 (cast_unsigned w64 x)) xs)
  Holds (tables ns) b q = (unsigned_at w32 b q ≡ Ok (node_count ns)) × (q + 4 + 4 * node_count ns ≤ length b) × HoldsNodes ns b (q + 4)

  -- the slots of a table from number i on
  pub HoldsSlots : Slots → List ℕ → Table → ℕ → Type 0
  HoldsSlots no_more b t i = t.size ≤ 4 + 2 * i
  HoldsSlots (absent s) b t i = (slot b t i ≡ Ok None) × HoldsSlots s b t (i + 1)
  HoldsSlots (value w x s) b t i = ((at : ℕ) × (slot b t i ≡ Ok (Some at)) × (unsigned_at w b at ≡ Ok (cast_unsigned w x))) × HoldsSlots s b t (i + 1)
  HoldsSlots (child n s) b t i = ((at : ℕ) × (q : ℕ) × (slot b t i ≡ Ok (Some at)) × (target b at ≡ Ok q) × Holds n b q) × HoldsSlots s b t (i + 1)

  -- the offsets to tables from a place on
  pub HoldsNodes : Nodes → List ℕ → ℕ → Type 0
  HoldsNodes none b at = Unit {0}
  HoldsNodes (also n ns) b at = ((q : ℕ) × (target b at ≡ Ok q) × Holds n b q) × HoldsNodes ns b (at + 4)

-- the root table of bytes, and what it holds
pub record Rooted (s : Slots) (b : List ℕ) : Type 0 where
  pub root_table : Table
  pub found : root b ≡ Ok root_table
  pub slots : HoldsSlots s b root_table 0
