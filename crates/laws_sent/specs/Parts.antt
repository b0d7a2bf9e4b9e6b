-- The parts of a file's dictionaries, one a message, the oldest first. (Arrow Columnar Format, "Dictionary Messages".)
use Rattle.std.specs.Prelude.{◌≡◌, ℕ, zero, suc, ◌^◌, ◌<◌, ◌≤◌, List, [], ◌∷◌, length, map, None, ◌⊎◌, true, ℤ, pos}
use Rattle.std.specs.List.{AllByRecursion}
use Rattle.arrow_spec.specs.Flat.{little}
use Rattle.arrow_spec.specs.Kinds as kind
use Rattle.arrow_spec.specs.Kinds.{Kind, Fields, numbered_kind, same, uses_in}
use Rattle.arrow_spec.specs.Arrays.{Dictionaries, HeldDictionary}
use Rattle.arrow_spec.specs.Bodies.{NodeFits}
use Rattle.ipc_files.specs.Below.{empty_parts, counts_in, Parts, cells_in, fault_in, kind_in, rows_in, HoldsValuesAt, is_alike, column_in, nodes_in, with_kind, sent}
use Rattle.laws_writers.specs.Below.{plain_kind}
use Rattle.laws_transcode.specs.Below.{IsKnown, Known, written_of}
use Rattle.laws_transcode.specs.Sending.{AreKnown, Columns, NoneReplaced}

-- a part: its dictionary's id in the file, and its values
pub record PartTree : Type 0 where
  pub id : ℤ
  pub tree : Parts

-- the part behind so many others; one of no rows where there is none
abbrev pub part_behind : List PartTree → ℕ → PartTree
part_behind [] n = record { id = pos 0; tree = empty_parts kind.null }
part_behind (p ∷ ps) zero = p
part_behind (p ∷ ps) (suc n) = part_behind ps n

-- the values of the last of so many parts; of none an array of a kind without rows
abbrev pub last_tree : List PartTree → Kind → ℕ → Parts
last_tree ps k zero = empty_parts k
last_tree ps k (suc n) = (part_behind ps n).tree

-- ── a history and its parts ──

-- A part is of a kind of values, ids, names, nullability and metadata aside, and under that kind's ids its own dictionaries hold what was read before it.
pub record IsOfValues (e : Dictionaries) (p : PartTree) (k : Kind) : Type 0 where
  pub alike : is_alike (kind_in p.tree) k ≡ true
  pub holds : (i : ℕ) (c : Known) (s : Dictionaries) → AreKnown e k i c → IsKnown c s → HoldsValuesAt s (numbered_kind k i) p.tree

-- The part of a message that was read under some: it has its cells, and is of the values of each use of the dictionary in fields.
pub record IsFilePart (fs : Fields) (x : HeldDictionary) (e : Dictionaries) (p : PartTree) : Type 0 where
  pub id : p.id ≡ x.id
  pub sound : fault_in p.tree ≡ None
  pub cells : cells_in p.tree ≡ x.cells
  pub written : x.written ≡ written_of (column_in little p.tree ∷ [])
  pub few : rows_in p.tree < 2 ^ 63
  pub nodes : AllByRecursion NodeFits (nodes_in p.tree)
  pub views : AllByRecursion (λ n. n < 2 ^ 63) (counts_in (sent p.tree))
  pub kinds : AllByRecursion (λ u. same u.id x.id ≡ true → IsOfValues e p u.values) (uses_in fs)

abbrev pub EachFilePart : Fields → Dictionaries → List PartTree → Type 0
EachFilePart fs [] ps = Unit {0}
EachFilePart fs (x ∷ e) ps = IsFilePart fs x e (part_behind ps (length e)) × EachFilePart fs e ps

-- the parts of the dictionary messages of a file, of which none replaces another
pub record AreFileParts (fs : Fields) (d : Dictionaries) (ps : List PartTree) : Type 0 where
  pub count : length ps ≡ length d
  pub each : EachFilePart fs d ps
  pub unreplaced : NoneReplaced d

-- ── columns ──

-- what the last of some messages is written as, under a kind whose ids count from a number on
abbrev pub columns_in : List PartTree → Columns
columns_in ps h k id = with_kind (numbered_kind k id) (column_in little (last_tree ps (plain_kind k) (length h)))
