-- What holds of every kind that arrays are read of, by one induction over kinds and fields.
use Rattle.std.proofs.Common.{◌≡◌, ℕ, zero, suc, ◌+◌, ◌<◌, ◌&&◌, List, [], ◌∷◌, length, Bool, true, Option, None, ℤ, nat_eq, nat_lt, refl, sym, ap, ◌∙◌, arith}
use Rattle.std.specs.Prelude.{slice_index_or}
use Rattle.std.proofs.lemmas.Bool.{and_parts, and_from, eqb-true, eq-eqb}
use Rattle.arrow_spec.specs.declared.types.IntegerType.{IntegerType}
use Rattle.arrow_spec.specs.declared.types.UnionMode.{UnionMode}
use Rattle.arrow_spec.specs.Kinds as kind
use Rattle.arrow_spec.specs.Kinds.{Kind, Fields, Metadata, Offsets, width, none, field}
use Rattle.arrow_spec.specs.Schema.{first_is_struct_of_two}
use Rattle.arrow_spec.specs.Cells as cells
use Rattle.arrow_spec.specs.Cells.{Cell}
use Rattle.arrow_spec.specs.Counts.{RecordBatch, Place, after}
use Rattle.arrow_spec.specs.Arrays.{Dictionaries, from_on}
use Rattle.arrow_spec.specs.ArrayCells.{cell, cell_in}
use Rattle.arrow_spec.specs.Faults.{place_in}
use Rattle.arrow_types.specs.KindCode.{kind_eq, kind_eq_is}
use Rattle.arrow_types.specs.UnionIds.{are_right}
use Rattle.arrow_buffers.specs.declared.error.ArrayError.{ArrayError}
use Rattle.arrow_arrays.specs.Heads.{Head, head_kind, child_fields, are_of, are_all, first_or_0}
use Rattle.arrow_arrays.specs.LeafKinds.{is_leaf_kind}
use Rattle.arrow_arrays.specs.Parts.{Parts, Forest, kind_in, rows_in, fault_in, kinds_each, rows_each, fault_each, either}
use Rattle.arrow_arrays.specs.Carried.{is_carried, are_carried}
use Rattle.ipc_read_laws.proofs.Buffers.{get-told}

-- what holds of kinds without children, of each top over fields of which it holds, and of a dictionary and an extension where it holds of the kind below
pub record TreeCases (P : Kind → Type 0) (Q : Fields → Type 0) : Type 0 where
  pub on_leaf : (k : Kind) → is_leaf_kind k ≡ true → P k
  pub on_list : (o : Offsets) (fs : Fields) → width fs ≡ 1 → Q fs → P (kind.«list» o fs)
  pub on_map : (sorted : Bool) (fs : Fields) → width fs ≡ 1 → first_is_struct_of_two fs ≡ true → Q fs → P (kind.map sorted fs)
  pub on_sized : (size : ℕ) (fs : Fields) → width fs ≡ 1 → nat_lt 0 size ≡ true → Q fs → P (kind.fixed_size_list size fs)
  pub on_struct : (fs : Fields) → Q fs → P (kind.struct fs)
  pub on_union : (mode : UnionMode) (stated : Bool) (ids : List ℤ) (fs : Fields) → are_right ids (width fs) ≡ true → Q fs → P (kind.union mode stated ids fs)
  pub on_dictionary : (t : IntegerType) (ordered : Bool) (id : ℤ) (k : Kind) → is_carried k ≡ true → P k → P (kind.dictionary t ordered id k)
  pub on_extension : (name : List ℕ) (metadata : Option (List ℕ)) (k : Kind) → P k → P (kind.extension name metadata k)
  pub on_none : Q none
  pub on_field : (name : List ℕ) (nullable : Bool) (metadata : Metadata) (k : Kind) (others : Fields) → is_carried k ≡ true → P k → Q others → Q (field name nullable metadata k others)

mutual
  pub by_tree : (P : Kind → Type 0) (Q : Fields → Type 0) → TreeCases P Q → (k : Kind) → is_carried k ≡ true → P k
  by_tree P Q c (kind.«list» o fs) h =
      let a = and_parts (nat_eq (width fs) 1) (are_carried fs) h in
      c.on_list o fs (eqb-true (width fs) 1 a.0) (by_fields P Q c fs a.1)
  by_tree P Q c (kind.map sorted fs) h =
      let a = and_parts (nat_eq (width fs) 1 && first_is_struct_of_two fs) (are_carried fs) h in
      let b = and_parts (nat_eq (width fs) 1) (first_is_struct_of_two fs) a.0 in
      c.on_map sorted fs (eqb-true (width fs) 1 b.0) b.1 (by_fields P Q c fs a.1)
  by_tree P Q c (kind.fixed_size_list size fs) h =
      let a = and_parts (nat_eq (width fs) 1 && nat_lt 0 size) (are_carried fs) h in
      let b = and_parts (nat_eq (width fs) 1) (nat_lt 0 size) a.0 in
      c.on_sized size fs (eqb-true (width fs) 1 b.0) b.1 (by_fields P Q c fs a.1)
  by_tree P Q c (kind.struct fs) h = c.on_struct fs (by_fields P Q c fs h)
  by_tree P Q c (kind.union mode stated ids fs) h =
      let a = and_parts (are_right ids (width fs)) (are_carried fs) h in
      c.on_union mode stated ids fs a.0 (by_fields P Q c fs a.1)
  by_tree P Q c (kind.dictionary t ordered id k) h = c.on_dictionary t ordered id k h (by_tree P Q c k h)
  by_tree P Q c (kind.extension name metadata k) h = c.on_extension name metadata k (by_tree P Q c k h)
  by_tree P Q c k h = c.on_leaf k h

  pub by_fields : (P : Kind → Type 0) (Q : Fields → Type 0) → TreeCases P Q → (fs : Fields) → are_carried fs ≡ true → Q fs
  by_fields P Q c none h = c.on_none
  by_fields P Q c (field name nullable metadata k others) h =
      let a = and_parts (is_carried k) (are_carried others) h in
      c.on_field name nullable metadata k others a.0 (by_tree P Q c k a.0) (by_fields P Q c others a.1)

-- ── the rows for which children are read ──

abbrev pub rows_told : RecordBatch → Fields → Place → (Place → ℕ) → List ℕ
rows_told m none p rows = []
rows_told m (field name nullable metadata k others) p rows = rows p ∷ rows_told m others (after m k p) rows

pub told_all : (m : RecordBatch) (fs : Fields) (p : Place) (n : ℕ) → are_all n (rows_told m fs p (λ q. n)) ≡ true
told_all m none p n = refl
told_all m (field name nullable metadata k others) p n = and_from (nat_eq n n) _ (eq-eqb n n refl) (told_all m others (after m k p) n)

pub told_length : (m : RecordBatch) (fs : Fields) (p : Place) (rows : Place → ℕ) → length (rows_told m fs p rows) ≡ width fs
told_length m none p rows = refl
told_length m (field name nullable metadata k others) p rows = ap suc (told_length m others (after m k p) rows)

pub told_first : (m : RecordBatch) (fs : Fields) (p : Place) (n : ℕ) → width fs ≡ 1 → first_or_0 (rows_told m fs p (λ q. n)) ≡ n
told_first m none p n h = cc
told_first m (field name nullable metadata k others) p n h = refl

-- the rows of the i-th child
pub told_at : (m : RecordBatch) (fs : Fields) (p : Place) (rows : Place → ℕ) (i : ℕ) → i < width fs → slice_index_or (rows_told m fs p rows) i 0 ≡ rows (place_in m fs i p)
told_at m none p rows i h = absurd (omega (arith, h))
told_at m (field name nullable metadata k others) p rows zero h = refl
told_at m (field name nullable metadata k others) p rows (suc i) h = told_at m others (after m k p) rows i (omega (arith, h))

-- ── the cells of children ──

-- of children that stand from a place on
abbrev pub cells_told : RecordBatch → Dictionaries → Fields → Place → (Place → ℕ) → List (List Cell)
cells_told m d none p rows = []
cells_told m d (field name nullable metadata k others) p rows = from_on (cell m d k p) 0 (rows p) ∷ cells_told m d others (after m k p) rows

-- a cell of the i-th child
pub child_told : (m : RecordBatch) (d : Dictionaries) (fs : Fields) (q : Place) (rows : Place → ℕ) (i row : ℕ) → row < rows (place_in m fs i q)
    → slice_index_or (slice_index_or (cells_told m d fs q rows) i []) row cells.null ≡ cell_in m d fs i q row
child_told m d none q rows zero row lt = refl
child_told m d none q rows (suc i) row lt = refl
child_told m d (field name nullable metadata k others) q rows zero row lt = let e : 0 + row ≡ row = omega arith in get-told (cell m d k q) 0 (rows q) row cells.null lt ∙ ap (cell m d k q) e
child_told m d (field name nullable metadata k others) q rows (suc i) row lt = child_told m d others (after m k q) rows i row lt

-- ── sound parts ──

-- sound parts of a kind and of so many rows, and sound children under fields
pub record SoundAs (l : Kind) (rows : ℕ) (x : Parts) : Type 0 where
  pub kind_is : kind_in x ≡ l
  pub rows_are : rows_in x ≡ rows
  pub none : fault_in x ≡ None

pub record ForestSound (fs : Fields) (ns : List ℕ) (cs : Forest) : Type 0 where
  pub kinds : are_of fs (kinds_each cs) ≡ true
  pub rows : rows_each cs ≡ ns
  pub none : fault_each cs ≡ None

pub both_none : (e f : Option ArrayError) → e ≡ None → f ≡ None → either e f ≡ None
both_none e f h k = rw h k

-- a top of a layout of its own over children under its fields
pub suited : (h : Head) (suits : Bool) (l : Kind) (fs : Fields) (ks : List Kind) → head_kind h ≡ l → suits ≡ true → child_fields l ≡ fs → are_of fs ks ≡ true → (suits && are_of (child_fields (head_kind h)) ks) ≡ true
suited h suits l fs ks e s f a = and_from suits _ s (ap (λ k. are_of (child_fields k) ks) e ∙ ap (λ g. are_of g ks) f ∙ a)

pub same_kind : (k l : Kind) → l ≡ k → kind_eq k l ≡ true
same_kind k l h = (kind_eq_is k l).1 (sym h)
