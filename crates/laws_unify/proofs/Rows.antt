-- Worked dictionaries that replace each other, go on, overlap, stand in one another, and have no values.
use Rattle.std.proofs.Common.{◌≡◌, ℕ, suc, List, [], ◌∷◌, Bool, refl, true, false, Option, None, Some, length}
use Rattle.std.specs.Prelude.{map, nat_eq, pos}
use Rattle.arrow_spec.specs.declared.types.IntegerType.TheVariants.{Int8}
use Rattle.arrow_spec.specs.Arrays.{from_on}
use Rattle.arrow_spec.specs.Kinds as kind
use Rattle.arrow_spec.specs.Kinds.{Kind, small}
use Rattle.arrow_types.specs.Schemas.{Keyed}
use Rattle.arrow_arrays.specs.Batches.{Batch}
use Rattle.arrow_arrays.specs.Heads.{indexed, structured}
use Rattle.arrow_arrays.specs.LeafParts.{text}
use Rattle.arrow_arrays.specs.Parts.{Forest, Parts, also, leaf, nested, none, part_of}
use Rattle.laws_unify.specs.Lists.{fit, with_all, with_values}
use Rattle.laws_unify.specs.Over.{has_large_key, is_same_cell}
use Rattle.laws_unify.specs.United.{has_large_keys, unified}

-- ── lists ──

-- ("x", "y"), then ("z"), then ("y", "z"): the second stands at 2, the third at 1
pub three : with_all nat_eq [] ((1 ∷ 2 ∷ []) ∷ (3 ∷ []) ∷ (2 ∷ 3 ∷ []) ∷ []) ≡ 1 ∷ 2 ∷ 3 ∷ []
three = refl

pub second : fit nat_eq (1 ∷ 2 ∷ []) (3 ∷ []) ≡ 2
second = refl

pub third : fit nat_eq (1 ∷ 2 ∷ 3 ∷ []) (2 ∷ 3 ∷ []) ≡ 1
third = refl

-- an end of the list that the next one begins with
pub overlap : with_values nat_eq (1 ∷ 2 ∷ 1 ∷ 2 ∷ []) (1 ∷ 2 ∷ 3 ∷ []) ≡ 1 ∷ 2 ∷ 1 ∷ 2 ∷ 3 ∷ []
overlap = refl

pub nothing : fit nat_eq (1 ∷ 2 ∷ []) [] ≡ 0
nothing = refl

-- ── columns ──

abbrev pub letters : List ℕ → Parts
letters xs = leaf (text (record { kind = kind.utf8 small; offsets = from_on pos 0 (suc (length xs)); values = xs; validity = None }))

abbrev pub keyed_by : Kind → List ℕ → Option (List Bool) → Forest → Parts
keyed_by values keys validity parts = nested (indexed (record { kind = kind.dictionary Int8 false (pos 0) values; index = Int8; keys = map pos keys; validity = validity })) parts

abbrev pub of_letters : List ℕ → Forest → Parts
of_letters keys parts = keyed_by (kind.utf8 small) keys None parts

abbrev pub one : Parts → Forest
one p = also p none

abbrev pub two : Parts → Parts → Forest
two p q = also p (one q)

abbrev pub letters_schema : List Keyed
letters_schema = (99 ∷ [], record { name = 99 ∷ []; kind = kind.dictionary Int8 false (pos 0) (kind.utf8 small); nullable = true; metadata = [] }) ∷ []

abbrev pub batch : List Keyed → ℕ → Parts → Batch
batch s rows p = record { height = rows; schema = s; arrays = p ∷ []; custom = [] }

abbrev pub columns : List Batch → List (List Parts)
columns bs = map (λ b. b.arrays) bs

-- ("x", "y") keys 1, 0; replaced by ("z") key 0; replaced by ("y", "z") keys 0, 1
abbrev pub replaced : List Batch
replaced = batch letters_schema 2 (of_letters (1 ∷ 0 ∷ []) (one (letters (120 ∷ 121 ∷ [])))) ∷ batch letters_schema 1 (of_letters (0 ∷ []) (one (letters (122 ∷ []))))
    ∷ batch letters_schema 2 (of_letters (0 ∷ 1 ∷ []) (one (letters (121 ∷ 122 ∷ [])))) ∷ []

pub one_list : columns (unified letters_schema replaced)
    ≡ (of_letters (1 ∷ 0 ∷ []) (two (letters (120 ∷ 121 ∷ [])) (letters (122 ∷ []))) ∷ []) ∷ (of_letters (2 ∷ []) (two (letters (120 ∷ 121 ∷ [])) (letters (122 ∷ []))) ∷ [])
    ∷ (of_letters (1 ∷ 2 ∷ []) (two (letters (120 ∷ 121 ∷ [])) (letters (122 ∷ []))) ∷ []) ∷ []
unfolding is_same_cell
one_list = refl

pub none_large : has_large_keys letters_schema replaced ≡ false
unfolding is_same_cell
none_large = refl

-- a delta, and the same again: nothing is added the second time; a null row's key becomes 0
pub went_on : columns (unified letters_schema (batch letters_schema 1 (of_letters (0 ∷ []) (one (letters (120 ∷ [])))) ∷ batch letters_schema 1 (of_letters (1 ∷ []) (two (letters (120 ∷ [])) (letters (121 ∷ []))))
    ∷ batch letters_schema 2 (keyed_by (kind.utf8 small) (5 ∷ 0 ∷ []) (Some (false ∷ true ∷ [])) (one (letters (121 ∷ [])))) ∷ []))
    ≡ (of_letters (0 ∷ []) (two (letters (120 ∷ [])) (letters (121 ∷ []))) ∷ []) ∷ (of_letters (1 ∷ []) (two (letters (120 ∷ [])) (letters (121 ∷ []))) ∷ [])
    ∷ (keyed_by (kind.utf8 small) (0 ∷ 1 ∷ []) (Some (false ∷ true ∷ [])) (two (letters (120 ∷ [])) (letters (121 ∷ []))) ∷ []) ∷ []
unfolding is_same_cell
went_on = refl

-- a part of which a row is held already is appended from the next row on
abbrev pub grown : Forest
grown = two (letters (120 ∷ 121 ∷ [])) (part_of 1 1 (letters (121 ∷ 122 ∷ [])))

pub cut_part : columns (unified letters_schema (batch letters_schema 1 (of_letters (0 ∷ []) (one (letters (120 ∷ 121 ∷ [])))) ∷ batch letters_schema 1 (of_letters (1 ∷ []) (one (letters (121 ∷ 122 ∷ [])))) ∷ []))
    ≡ (of_letters (0 ∷ []) grown ∷ []) ∷ (of_letters (2 ∷ []) grown ∷ []) ∷ []
unfolding is_same_cell
cut_part = refl

-- all rows null over no values: one part without rows
pub no_values : columns (unified letters_schema (batch letters_schema 1 (keyed_by (kind.utf8 small) (7 ∷ []) (Some (false ∷ [])) (two (letters []) (letters []))) ∷ []))
    ≡ (keyed_by (kind.utf8 small) (0 ∷ []) (Some (false ∷ [])) (one (letters [])) ∷ []) ∷ []
no_values = refl

-- ── dictionaries in a dictionary's values ──

abbrev pub struct_kind : Kind
struct_kind = kind.struct (kind.field (105 ∷ []) true [] (kind.dictionary Int8 false (pos 0) (kind.utf8 small)) kind.none)

abbrev pub structs : ℕ → Parts → Parts
structs rows p = nested (structured (record { kind = struct_kind; rows = rows; validity = None })) (one p)

abbrev pub outer_schema : List Keyed
outer_schema = (99 ∷ [], record { name = 99 ∷ []; kind = kind.dictionary Int8 false (pos 0) struct_kind; nullable = true; metadata = [] }) ∷ []

-- an inner dictionary that is replaced between two parts: its list has both, and the second part's keys are moved inside the list
abbrev pub inner : Forest
inner = two (letters (120 ∷ [])) (letters (121 ∷ []))

pub inside : columns (unified outer_schema (batch outer_schema 2 (keyed_by struct_kind (0 ∷ 1 ∷ []) None (two (structs 1 (of_letters (0 ∷ []) (one (letters (120 ∷ []))))) (structs 1 (of_letters (0 ∷ []) (one (letters (121 ∷ []))))))) ∷ []))
    ≡ (keyed_by struct_kind (0 ∷ 1 ∷ []) None (two (structs 1 (of_letters (0 ∷ []) inner)) (structs 1 (of_letters (1 ∷ []) inner))) ∷ []) ∷ []
unfolding is_same_cell
inside = refl

-- an inner dictionary of values of which nothing is appended is not taken
pub not_taken : columns (unified outer_schema (batch outer_schema 1 (keyed_by struct_kind (0 ∷ []) None (one (structs 1 (of_letters (0 ∷ []) (one (letters (120 ∷ []))))))) ∷ batch outer_schema 1 (keyed_by struct_kind (0 ∷ []) None (one (structs 1 (of_letters (1 ∷ []) (one (letters (122 ∷ 120 ∷ []))))))) ∷ []))
    ≡ (keyed_by struct_kind (0 ∷ []) None (one (structs 1 (of_letters (0 ∷ []) (one (letters (120 ∷ [])))))) ∷ []) ∷ (keyed_by struct_kind (0 ∷ []) None (one (structs 1 (of_letters (0 ∷ []) (one (letters (120 ∷ [])))))) ∷ []) ∷ []
unfolding is_same_cell
not_taken = refl

-- ── keys ──

-- of 127 values and one more the key becomes 127; of 128 it passes its type, where its row is not null
pub last_key : has_large_key 127 (record { kind = kind.dictionary Int8 false (pos 0) (kind.utf8 small); index = Int8; keys = pos 0 ∷ []; validity = None }) ≡ false
last_key = refl

pub no_key : has_large_key 128 (record { kind = kind.dictionary Int8 false (pos 0) (kind.utf8 small); index = Int8; keys = pos 0 ∷ []; validity = None }) ≡ true
no_key = refl

pub null_row : has_large_key 128 (record { kind = kind.dictionary Int8 false (pos 0) (kind.utf8 small); index = Int8; keys = pos 0 ∷ []; validity = Some (false ∷ []) }) ≡ false
null_row = refl
