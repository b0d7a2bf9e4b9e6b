-- What holds of the parts of a file's dictionaries as they are read. Each statement is the contract of a public function without a body (src/lib.rt).
use Rattle.std.specs.Prelude.{◌≡◌, ℕ, List, [], ◌∷◌, ◌++◌, Option, None, Ok, IfSome, true, ℤ}
use Rattle.arrow_spec.specs.Kinds.{Fields, uses_in, have_same_kinds}
use Rattle.arrow_spec.specs.Schema.{uses_agree}
use Rattle.arrow_spec.specs.Arrays.{Dictionaries, HeldDictionary}
use Rattle.arrow_spec.specs.Files.{FileBlock, Meta, fields_as_asked}
use Rattle.ipc_files.specs.Below.Parts as parts
use Rattle.ipc_files.specs.Below.{Parts, Forest, also, fault_each, Held, HoldsCells, are_column_fields, are_carried, forest}
use Rattle.laws_writers.specs.Below.{none_held, columns_of, columns_read, plain_fields}
use Rattle.laws_sent.specs.Parts.{AreFileParts, PartTree}
use Rattle.ipc_files.specs.FileDictionaries.{AreHeld, HoldsBlock, HoldsUses, block_values}
use Rattle.arrow_spec.specs.Counts.{RecordBatch, first_place}
use Rattle.laws_transcode.specs.Files.{AreAsked}
use Rattle.laws_sent.specs.ReadUnder.{AreReadInOrder, AreReadUnder, held_of}

-- what was read of the first dictionary messages of a file: their history, what is held under each id, and the parts in the file's order
pub record ArePartsRead (fs : Fields) (d : Dictionaries) (h : Held) (ps : List PartTree) : Type 0 where
  pub parts : AreFileParts fs d ps
  pub cells : HoldsCells d h
  pub sound : (id : ℤ) → IfSome (h id) (λ held. fault_each held ≡ None)

-- the last of some parts
abbrev pub IsLast : Forest → Parts → Type 0
IsLast parts.none p = ⊥
IsLast (also x parts.none) p = x ≡ p
IsLast (also x (also y xs)) p = IsLast (also y xs) p

-- Before the first message there are none.
abbrev pub NoPartsAreRead : Type 0
NoPartsAreRead = (fs : Fields) → ArePartsRead fs [] none_held []

-- The values of a dictionary block are one part more: the last one that is held under their id.
abbrev pub OneMorePartIsRead : Type 0
OneMorePartIsRead = (b : List ℕ) (meta : Meta) (block : FileBlock) (d : Dictionaries) (h h' : Held) (x : HeldDictionary) (ps : List PartTree)
    (id : ℤ) (p : Parts)
    → are_column_fields meta.schema.fields ≡ true → uses_agree [] (uses_in meta.schema.fields) ≡ Ok tt → HoldsUses meta h
    → ArePartsRead meta.schema.fields d h ps
    → block_values b meta d block ≡ Ok x → HoldsCells (x ∷ d) h' → HoldsBlock b meta block h h' id → IfSome (h' id) (λ held. IsLast held p)
    → ArePartsRead meta.schema.fields (x ∷ d) h' (ps ++ record { id = id; tree = p } ∷ [])

-- Parts of the dictionaries in fields are parts of those in the fields that are asked for.
abbrev pub PartsAreOfAsked : Type 0
PartsAreOfAsked = (fs : Fields) (columns : Option (List ℕ)) (d : Dictionaries) (ps : List PartTree) → AreFileParts fs d ps
    → AreFileParts (fields_as_asked columns fs) d ps

-- ── what was read before it ──

-- what was read of a file's dictionary blocks, each part under those before it; what is held under each id are its parts
pub record AreReadParts (fs : Fields) (d : Dictionaries) (h : Held) (ps : List PartTree) : Type 0 where
  pub read : ArePartsRead fs d h ps
  pub order : AreReadInOrder fs ps
  pub held : (id : ℤ) → h id ≡ held_of ps id

-- Before the first block there are none.
abbrev pub NothingIsRead : Type 0
NothingIsRead = (fs : Fields) → AreReadParts fs [] none_held []

-- The values of a dictionary block are one part more, which was read under those before it.
abbrev pub NextPartIsRead : Type 0
NextPartIsRead = (b : List ℕ) (meta : Meta) (block : FileBlock) (d : Dictionaries) (h h' : Held) (x : HeldDictionary) (ps : List PartTree) (id : ℤ)
    → are_column_fields meta.schema.fields ≡ true → uses_agree [] (uses_in meta.schema.fields) ≡ Ok tt → HoldsUses meta h
    → AreReadParts meta.schema.fields d h ps
    → block_values b meta d block ≡ Ok x → HoldsCells (x ∷ d) h' → HoldsBlock b meta block h h' id
    → (p : Parts) × AreReadParts meta.schema.fields (x ∷ d) h' (ps ++ record { id = id; tree = p } ∷ [])

-- What is held behind dictionary blocks are parts that were read in order.
abbrev pub HeldPartsAreRead : Type 0
HeldPartsAreRead = (b : List ℕ) (meta : Meta) (d : Dictionaries) (h : Held) → are_column_fields meta.schema.fields ≡ true
    → uses_agree [] (uses_in meta.schema.fields) ≡ Ok tt → AreHeld b meta d h
    → (ps : List PartTree) × AreReadParts meta.schema.fields d h ps

-- Parts that were read in order under the uses in fields were so under those of the fields that are asked for.
abbrev pub OrderIsOfAsked : Type 0
OrderIsOfAsked = (fs : Fields) (columns : Option (List ℕ)) (ps : List PartTree) → AreReadInOrder fs ps → AreReadInOrder (fields_as_asked columns fs) ps

-- Columns that are asked for were read under the dictionaries that are held, as their fields have them.
abbrev pub ColumnsAreReadUnder : Type 0
ColumnsAreReadUnder = (m : RecordBatch) (h : Held) (fs : Fields) (columns : Option (List ℕ)) (rows : ℕ) (xs : List Parts)
    → AreAsked (columns_read m h fs first_place rows) columns xs → AreReadUnder h (fields_as_asked columns fs) (forest xs)

-- They are of their fields' kinds, ids aside.
abbrev pub ColumnsAreOfFields : Type 0
ColumnsAreOfFields = (m : RecordBatch) (h : Held) (fs : Fields) (columns : Option (List ℕ)) (rows : ℕ) (xs : List Parts)
    → are_carried (fields_as_asked columns fs) ≡ true → AreAsked (columns_read m h fs first_place rows) columns xs
    → have_same_kinds (plain_fields (fields_as_asked columns fs)) (columns_of (forest xs)) ≡ true
