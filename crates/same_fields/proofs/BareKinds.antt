-- Kinds and fields without dictionary ids.
use Rattle.std.proofs.Common.{◌≡◌, ◌∙◌, ℕ, zero, suc, ◌+◌, ◌≤◌, List, [], ◌∷◌, map, length, take, slice_get, Bool, true, Option, None, Vec, Global, ℤ, pos, IsTrue, ◌↔◌, refl, sym, ap, rules, arith, add-one}
use Rattle.std.proofs.lemmas.List.{length-map, take_all}
use Rattle.std.proofs.lemmas.Option.{slice_get-map}
use Rattle.std.specs.Option.{option_map}
use Rattle.arrow_spec.specs.declared.types.UnionMode.{UnionMode}
use Rattle.arrow_spec.specs.Kinds as kind
use Rattle.arrow_spec.specs.Kinds.{Kind, Fields, are_same_ids, bare, bare_kind, same}
use Rattle.arrow_types.proofs.Sameness.{fields_from_same, union_kind_of_is}
use Rattle.arrow_types.specs.Child.{Child, fields_from}
use Rattle.arrow_types.specs.KindOf.{child_of, fields_of, ids_of, kind_of, union_kind_of}
use Rattle.arrow_types.specs.Schemas.{Keyed, fields_in}
use Rattle.arrow_types.specs.declared.data_type.ArrowDataType.{Struct, the_lemmas}
use Rattle.arrow_types.specs.declared.data_type.UnionType.{UnionType, out-UnionType}
use Rattle.arrow_types.specs.declared.data_type.Field.{Field}
use Rattle.ipc_fields.specs.IpcFields.{Ids, fields_with, ids, kind_with, no_fields}
use Rattle.arrow_types.specs.Leaves.{is_leaf}
use Rattle.arrow_spec.proofs.SameIds.{ids_self, ids_true}
use Rattle.same_fields.specs.Bare.{bare_child, bare_entry}

-- ── fields ──

pub bare_fields_are : (xs : List Field) → bare (fields_of xs) ≡ fields_from (map (λ f. bare_child (child_of f)) xs)
bare_fields_are [] = refl
bare_fields_are (x ∷ xs) = ap (kind.field (child_of x).name (child_of x).nullable (child_of x).metadata (bare_kind (child_of x).kind)) (bare_fields_are xs)

pub bare_in : (s : List Keyed) → bare (fields_in s) ≡ fields_from (map bare_entry s)
bare_in [] = refl
bare_in (p ∷ ps) = ap (kind.field p.1.name p.1.nullable p.1.metadata (bare_kind p.1.kind)) (bare_in ps)

-- ── kinds ──

-- a kind without parts is bare
pub leaf_bare : (k : Kind) → is_leaf k ≡ true → bare_kind k ≡ k
leaf_bare (kind.«list» o fs) h = cc
leaf_bare (kind.fixed_size_list n fs) h = cc
leaf_bare (kind.struct fs) h = cc
leaf_bare (kind.map sorted fs) h = cc
leaf_bare (kind.union mode stated types fs) h = cc
leaf_bare (kind.dictionary index ordered id k) h = cc
leaf_bare (kind.extension name metadata k) h = cc
leaf_bare k h = refl

pub bare_leaf : (k : Kind) → is_leaf (bare_kind k) ≡ true → bare_kind k ≡ k
bare_leaf (kind.«list» o fs) h = cc
bare_leaf (kind.fixed_size_list n fs) h = cc
bare_leaf (kind.struct fs) h = cc
bare_leaf (kind.map sorted fs) h = cc
bare_leaf (kind.union mode stated types fs) h = cc
bare_leaf (kind.dictionary index ordered id k) h = cc
bare_leaf (kind.extension name metadata k) h = cc
bare_leaf k h = refl

pub leaves_same : (k l : Kind) → is_leaf k ≡ true → bare_kind k ≡ bare_kind l → k ≡ l
leaves_same k l h e =
    let first : bare_kind k ≡ k = leaf_bare k h in
    let other : is_leaf (bare_kind l) ≡ true = ap is_leaf (sym e) ∙ ap is_leaf first ∙ h in
    sym first ∙ e ∙ bare_leaf l other

pub kind_of_Struct : (v : Vec Field Global) → bare_kind (kind_of (Struct v)) ≡ kind.struct (fields_from (map (λ f. bare_child (child_of f)) v.items))
kind_of_Struct v = let is : kind_of (Struct v) ≡ kind.struct (fields_of v.items) = search (rules, the_lemmas) in ap bare_kind is ∙ ap kind.struct (bare_fields_are v.items)

abbrev pub bare_field : Field → Child
bare_field f = bare_child (child_of f)

abbrev bare_union : UnionMode → Option (Vec ℤ Global) → ℕ → List Field → Kind
bare_union m x n fs = kind.union m true (ids_of x n) (fields_from (map bare_field fs))

union_bare : (u : UnionType) → bare_kind (union_kind_of u) ≡ bare_union (out-UnionType u).mode (out-UnionType u).ids (length (out-UnionType u).fields.items) (out-UnionType u).fields.items
union_bare u =
    let fs = (out-UnionType u).fields.items in
    ap bare_kind (union_kind_of_is u)
    ∙ ap (λ n. kind.union (out-UnionType u).mode true (ids_of (out-UnionType u).ids n) (bare (fields_of fs))) (length-map fs child_of)
    ∙ ap (kind.union (out-UnionType u).mode true (ids_of (out-UnionType u).ids (length fs))) (bare_fields_are fs)

-- the parts of two unions that are the same
record UnionParts (m n : UnionMode) (is js : List ℤ) (xs ys : List Child) : Type 0 where
  mode : m ≡ n
  ids : is ≡ js
  fields : xs ≡ ys

union_parts : (m n : UnionMode) (is js : List ℤ) (xs ys : List Child) → kind.union m true is (fields_from xs) ≡ kind.union n true js (fields_from ys) → UnionParts m n is js xs ys
union_parts m n is js xs ys e =
    let p : m ≡ n = cc in
    let q : is ≡ js = cc in
    let f : fields_from xs ≡ fields_from ys = cc in
    record { mode = p; ids = q; fields = fields_from_same xs ys f }

union_whole : (m n : UnionMode) (is js : List ℤ) (xs ys : List Child) → m ≡ n → is ≡ js → xs ≡ ys → kind.union m true is (fields_from xs) ≡ kind.union n true js (fields_from ys)
union_whole m n is js xs ys p q f = rw (p, q, f) refl

parts_of_unions : (u v : UnionType) → bare_kind (union_kind_of u) ≡ bare_kind (union_kind_of v)
    → UnionParts (out-UnionType u).mode (out-UnionType v).mode (ids_of (out-UnionType u).ids (length (out-UnionType u).fields.items)) (ids_of (out-UnionType v).ids (length (out-UnionType v).fields.items))
    (map bare_field (out-UnionType u).fields.items) (map bare_field (out-UnionType v).fields.items)
parts_of_unions u v h = union_parts _ _ _ _ _ _ (sym (union_bare u) ∙ h ∙ union_bare v)

pub other_mode : (u v : UnionType) → ((out-UnionType u).mode ≡ (out-UnionType v).mode → ⊥) → bare_kind (union_kind_of u) ≡ bare_kind (union_kind_of v) → ⊥
other_mode u v k h = k (parts_of_unions u v h).mode

pub other_fields : (u v : UnionType) → (map bare_field (out-UnionType u).fields.items ≡ map bare_field (out-UnionType v).fields.items → ⊥) → bare_kind (union_kind_of u) ≡ bare_kind (union_kind_of v) → ⊥
other_fields u v k h = k (parts_of_unions u v h).fields

pub unions_same : (u v : UnionType) (n : ℕ) (r : Bool) → n ≡ length (out-UnionType u).fields.items → (out-UnionType u).mode ≡ (out-UnionType v).mode → map bare_field (out-UnionType u).fields.items ≡ map bare_field (out-UnionType v).fields.items
    → r ≡ are_same_ids (ids_of (out-UnionType u).ids n) (ids_of (out-UnionType v).ids n) → IsTrue r ↔ (bare_kind (union_kind_of u) ≡ bare_kind (union_kind_of v))
unions_same u v n r count mode fields is =
    let x = (out-UnionType u).ids in
    let y = (out-UnionType v).ids in
    let fs = (out-UnionType u).fields.items in
    let gs = (out-UnionType v).fields.items in
    let lengths : length fs ≡ length gs = sym (length-map fs bare_field) ∙ ap length fields ∙ length-map gs bare_field in (
      λ h. let same : ids_of x n ≡ ids_of y n = ids_true _ _ (sym is ∙ h) in
          union_bare u ∙ union_whole _ _ _ _ _ _ mode (ap (ids_of x) (sym count) ∙ same ∙ ap (ids_of y) (count ∙ lengths)) fields ∙ sym (union_bare v),
      λ h. is ∙ ap (are_same_ids (ids_of x n)) (sym (ap (ids_of x) count ∙ (parts_of_unions u v h).ids ∙ ap (ids_of y) (sym (count ∙ lengths)))) ∙ ids_self (ids_of x n),
    )

-- ── fields at places ──

one_more : {A : Type 0} (xs ys : List A) (i : ℕ) → take i xs ≡ take i ys → slice_get xs i ≡ slice_get ys i → take (suc i) xs ≡ take (suc i) ys
one_more [] [] i e h = refl
one_more [] (y ∷ ys) zero e h = cc
one_more [] (y ∷ ys) (suc i) e h = cc
one_more (x ∷ xs) [] zero e h = cc
one_more (x ∷ xs) [] (suc i) e h = cc
one_more (x ∷ xs) (y ∷ ys) zero e h = let k : x ≡ y = cc in cc
one_more (x ∷ xs) (y ∷ ys) (suc i) e h =
    let k : x ≡ y = cc in
    let t : take i xs ≡ take i ys = cc in
    let r : take (suc i) xs ≡ take (suc i) ys = one_more xs ys i t h in
    cc

pub entries_more : (a b : List Keyed) (i : ℕ) → take i (map bare_entry a) ≡ take i (map bare_entry b) → option_map bare_entry (slice_get a i) ≡ option_map bare_entry (slice_get b i) → take (i + 1) (map bare_entry a) ≡ take (i + 1) (map bare_entry b)
entries_more a b i e h = rw add-one (one_more (map bare_entry a) (map bare_entry b) i e (slice_get-map bare_entry a i ∙ h ∙ sym (slice_get-map bare_entry b i)))

pub entries_whole : (a b : List Keyed) (i : ℕ) → length a ≤ i → length b ≤ i → take i (map bare_entry a) ≡ take i (map bare_entry b) → bare (fields_in a) ≡ bare (fields_in b)
entries_whole a b i h k e =
    let x : take i (map bare_entry a) ≡ map bare_entry a = take_all i (map bare_entry a) (omega (arith, length-map a bare_entry)) in
    let y : take i (map bare_entry b) ≡ map bare_entry b = take_all i (map bare_entry b) (omega (arith, length-map b bare_entry)) in
    bare_in a ∙ ap fields_from (sym x ∙ e ∙ y) ∙ sym (bare_in b)

entries_of : (a b : List Keyed) → bare (fields_in a) ≡ bare (fields_in b) → map bare_entry a ≡ map bare_entry b
entries_of a b h = fields_from_same _ _ (sym (bare_in a) ∙ h ∙ bare_in b)

pub entries_at : (a b : List Keyed) (i : ℕ) → bare (fields_in a) ≡ bare (fields_in b) → option_map bare_entry (slice_get a i) ≡ option_map bare_entry (slice_get b i)
entries_at a b i h = sym (slice_get-map bare_entry a i) ∙ ap (λ xs. slice_get xs i) (entries_of a b h) ∙ slice_get-map bare_entry b i

pub entries_count : (a b : List Keyed) → bare (fields_in a) ≡ bare (fields_in b) → length a ≡ length b
entries_count a b h = sym (length-map a bare_entry) ∙ ap length (entries_of a b h) ∙ length-map b bare_entry

-- ── with ids ──

mutual
  pub kind_with_bare : (k : Kind) (id : Option ℤ) (below : Ids) → bare_kind (kind_with k id below) ≡ bare_kind k
  kind_with_bare (kind.«list» o fs) id below = ap (kind.«list» o) (fields_with_bare fs below)
  kind_with_bare (kind.fixed_size_list n fs) id below = ap (kind.fixed_size_list n) (fields_with_bare fs below)
  kind_with_bare (kind.struct fs) id below = ap kind.struct (fields_with_bare fs below)
  kind_with_bare (kind.map sorted fs) id below = ap (kind.map sorted) (fields_with_bare fs below)
  kind_with_bare (kind.union mode stated types fs) id below = ap (kind.union mode true types) (fields_with_bare fs below)
  kind_with_bare (kind.dictionary index ordered old k) id below = ap (kind.dictionary index ordered (pos 0)) (kind_with_bare k None below)
  kind_with_bare (kind.extension name metadata k) id below = ap (kind.extension name metadata) (kind_with_bare k id below)
  kind_with_bare k id below = refl

  pub fields_with_bare : (fs : Fields) (below : Ids) → bare (fields_with fs below) ≡ bare fs
  fields_with_bare kind.none below = refl
  fields_with_bare (kind.field name nullable metadata k fs) no_fields = let a = kind_with_bare k None no_fields in let b = fields_with_bare fs no_fields in rw (a, b) refl
  fields_with_bare (kind.field name nullable metadata k fs) (ids id below others) = let a = kind_with_bare k id below in let b = fields_with_bare fs others in rw (a, b) refl
