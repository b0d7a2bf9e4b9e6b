-- A field of its head and its children.
use Rattle.std.proofs.Common.{◌≡◌, ℕ, suc, ◌+◌, List, [], ◌∷◌, ◌++◌, length, map, true, false, Option, Some, None, Ok, ℤ, refl, sym, ◌∙◌, ap, arith, subst}
use Rattle.std.specs.Option.{option_map}
use Rattle.std.specs.Prelude.{nat_eq, IfSome}
use Rattle.arrow_spec.specs.declared.error.OutOfSpecKind.TheVariants.{InvalidDataType}
use Rattle.arrow_spec.specs.Readings.{bind, damaged}
use Rattle.arrow_spec.specs.Kinds as kind
use Rattle.arrow_spec.specs.Kinds.{Kind, Fields, width}
use Rattle.arrow_spec.specs.Schema.{Before, Head, with_encoding, is_whole, is_struct_of_two, first_is_struct_of_two}
use Rattle.arrow_flat.specs.Read.{VectorIn}
use Rattle.arrow_types.specs.Child.{Child, fields_from}
use Rattle.arrow_types.specs.KindOf.{kind_of}
use Rattle.ipc_fields.proofs.Widths.{leaf_with, width_with}
use Rattle.ipc_fields.specs.IpcFields.{Ids, Tree, no_fields, ids, has_no_fields, has_shape, have_shapes, is_encoded, kind_with, fields_with}
use Rattle.schema_reader.specs.Parts.{child_by, entry_by}
use Rattle.schema_reader.specs.ReadViews.{child_with, Takes, Named, shape_kind, extended, encoded, encoding_in, is_whole_shape}
use Rattle.arrow_types.specs.Leaves.{is_leaf}
use Rattle.schema_reader.specs.declared.data_type.Shape.{Shape}
use Rattle.schema_reader.specs.declared.data_type.Shape.TheVariants as shape
use Rattle.schema_reader.specs.declared.head.Encoding.{Encoding}

-- ── kinds without children ──

leaf_whole : (k : Kind) → is_leaf k ≡ true → is_whole k ≡ true
leaf_whole (kind.map sorted fs) h = cc
leaf_whole (kind.dictionary index ordered old k) h = cc
leaf_whole (kind.extension name metadata k) h = cc
leaf_whole k h = refl

leaf_shape : (k : Kind) (below : Ids) → is_leaf k ≡ true → has_no_fields below ≡ true → has_shape k None below ≡ true
leaf_shape (kind.«list» o fs) below h none = cc
leaf_shape (kind.fixed_size_list n fs) below h none = cc
leaf_shape (kind.struct fs) below h none = cc
leaf_shape (kind.map sorted fs) below h none = cc
leaf_shape (kind.union mode stated types fs) below h none = cc
leaf_shape (kind.dictionary index ordered old k) below h none = cc
leaf_shape (kind.extension name metadata k) below h none = cc
leaf_shape k below h none = none

-- ── what a shape makes ──

pub shape_with : (n : ℕ) (s : Shape) (fs : Fields) (below : Ids) → Takes n s → kind_with (shape_kind n s fs) None below ≡ shape_kind n s (fields_with fs below)
shape_with n (shape.Flat t) fs below h = leaf_with (kind_of t) None below h.1
shape_with n s fs below h = refl

no_child : (cs : List Child) (below : Ids) → length cs ≡ 0 → have_shapes (fields_from cs) below ≡ true → has_no_fields below ≡ true
no_child [] below none h = h
no_child (c ∷ cs) below none h = absurd (omega (arith, none))

shape_has : (s : Shape) (cs : List Child) (below : Ids) → Takes (length cs) s → have_shapes (fields_from cs) below ≡ true → has_shape (shape_kind (length cs) s (fields_from cs)) None below ≡ true
shape_has (shape.Flat t) cs below h f = leaf_shape (kind_of t) below h.1 (no_child cs below h.0 f)
shape_has s cs below h f = f

extended_with : (x : Option Named) (k : Kind) (id : Option ℤ) (below : Ids) → kind_with (extended x k) id below ≡ extended x (kind_with k id below)
extended_with None k id below = refl
extended_with (Some x) k id below = refl

extended_shape : (x : Option Named) (k : Kind) (id : Option ℤ) (below : Ids) → has_shape (extended x k) id below ≡ has_shape k id below
extended_shape None k id below = refl
extended_shape (Some x) k id below = refl

abbrev pub id_in : Option Encoding → Option ℤ
id_in = option_map (λ e. e.id)

encoded_with : (e : Option Encoding) (k : Kind) (below : Ids) → kind_with (encoded e k) (id_in e) below ≡ with_encoding (option_map encoding_in e) (kind_with k None below)
encoded_with None k below = refl
encoded_with (Some e) k below = refl

-- without an id it is no dictionary
plain : (k : Kind) (below : Ids) → has_shape k None below ≡ true → is_encoded k ≡ false
plain (kind.dictionary index ordered old k) below h = cc
plain (kind.extension name metadata k) below h = plain k below h
plain k below h = refl

encoded_shape : (e : Option Encoding) (k : Kind) (below : Ids) → has_shape k None below ≡ true → has_shape (encoded e k) (id_in e) below ≡ true
encoded_shape None k below h = h
encoded_shape (Some e) k below h = rw (plain k below h) h

abbrev pub made_kind : Option Encoding → Option Named → ℕ → Shape → Fields → Kind
made_kind e x n s fs = encoded e (extended x (shape_kind n s fs))

abbrev pub read_kind : Option Encoding → Option Named → ℕ → Shape → Fields → Kind
read_kind e x n s fs = with_encoding (option_map encoding_in e) (extended x (shape_kind n s fs))

pub made_with : (e : Option Encoding) (x : Option Named) (n : ℕ) (s : Shape) (fs : Fields) (below : Ids) → Takes n s → kind_with (made_kind e x n s fs) (id_in e) below ≡ read_kind e x n s (fields_with fs below)
made_with e x n s fs below h = encoded_with e (extended x (shape_kind n s fs)) below ∙ ap (with_encoding (option_map encoding_in e)) (extended_with x (shape_kind n s fs) None below ∙ ap (extended x) (shape_with n s fs below h))

pub made_shape : (e : Option Encoding) (x : Option Named) (n : ℕ) (s : Shape) (cs : List Child) (below : Ids) → length cs ≡ n → Takes n s → have_shapes (fields_from cs) below ≡ true → has_shape (made_kind e x n s (fields_from cs)) (id_in e) below ≡ true
made_shape e x n s cs below h t f =
    let takes : Takes (length cs) s = subst (λ k. Takes k s) (sym h) t in
    let all : has_shape (made_kind e x (length cs) s (fields_from cs)) (id_in e) below ≡ true = encoded_shape e (extended x (shape_kind (length cs) s (fields_from cs))) below (extended_shape x (shape_kind (length cs) s (fields_from cs)) None below ∙ shape_has s cs below takes f) in
    subst (λ k. has_shape (made_kind e x k s (fields_from cs)) (id_in e) below ≡ true) h all

-- ── what is asked of children ──

two_with : (k : Kind) (id : Option ℤ) (below : Ids) → is_struct_of_two (kind_with k id below) ≡ is_struct_of_two k
two_with (kind.struct fs) id below = ap (λ n. nat_eq n 2) (width_with fs below)
two_with (kind.extension name metadata k) id below = two_with k id below
two_with k id below = refl

first_with : (fs : Fields) (below : Ids) → first_is_struct_of_two (fields_with fs below) ≡ first_is_struct_of_two fs
first_with kind.none below = refl
first_with (kind.field name nullable metadata k fs) no_fields = two_with k None no_fields
first_with (kind.field name nullable metadata k fs) (ids id below others) = two_with k id below

shape_whole : (n : ℕ) (s : Shape) (fs : Fields) → Takes n s → is_whole (shape_kind n s fs) ≡ is_whole_shape s fs
shape_whole n (shape.Flat t) fs h = leaf_whole (kind_of t) h.1
shape_whole n s fs h = refl

whole_with : (s : Shape) (fs : Fields) (below : Ids) → is_whole_shape s (fields_with fs below) ≡ is_whole_shape s fs
whole_with (shape.Map sorted) fs below = first_with fs below
whole_with s fs below = refl

through_extension : (x : Option Named) (k : Kind) → is_whole (extended x k) ≡ is_whole k
through_extension None k = refl
through_extension (Some x) k = refl

through_encoding : (e : Option Encoding) (k : Kind) → is_whole (with_encoding (option_map encoding_in e) k) ≡ is_whole k
through_encoding None k = refl
through_encoding (Some e) k = refl

pub read_whole : (e : Option Encoding) (x : Option Named) (n : ℕ) (s : Shape) (fs : Fields) (below : Ids) → Takes n s → is_whole (read_kind e x n s (fields_with fs below)) ≡ is_whole_shape s fs
read_whole e x n s fs below h = through_encoding e (extended x (shape_kind n s (fields_with fs below))) ∙ through_extension x (shape_kind n s (fields_with fs below)) ∙ shape_whole n s (fields_with fs below) h ∙ whole_with s fs below

-- ── the field ──

pub whole_entry : (h : Head) (below : Fields × Before) → is_whole (h.of_children below.0) ≡ true → entry_by h below ≡ Ok (child_by h (h.of_children below.0), below.1)
unfolding entry_by bind
whole_entry h below e = rw e refl

pub broken_entry : (h : Head) (below : Fields × Before) → is_whole (h.of_children below.0) ≡ false → entry_by h below ≡ damaged InvalidDataType
unfolding entry_by bind
broken_entry h below e = rw e refl

pub length_from : {A B : Type 0} (f : A → B) (xs : List A) → length (map f xs) ≡ length xs
length_from f [] = refl
length_from f (x ∷ xs) = ap suc (length_from f xs)

abbrev child_as : Child → Kind → Child
child_as d k = record { name = d.name; kind = k; nullable = d.nullable; metadata = d.metadata }

pub entry_is : (c d : Child) (t : Tree) (k : Kind) (id : Option ℤ) (below : Ids) → c ≡ record { name = d.name; kind = k; nullable = d.nullable; metadata = d.metadata } → t ≡ record { id = id; children = below } → kind_with k id below ≡ d.kind → child_with c t ≡ d
entry_is c d t k id below h g e = rw (h, g) (ap (λ z. child_as d z) e)

pub entry_shape : (c : Child) (t : Tree) (k : Kind) (id : Option ℤ) (below : Ids) → c.kind ≡ k → t ≡ record { id = id; children = below } → has_shape k id below ≡ true → has_shape c.kind t.id t.children ≡ true
entry_shape c t k id below h g e = rw (h, g) e

pub first_part : (b : List ℕ) (o : Option VectorIn) → IfSome o (λ v. (v.bytes ≡ b) × (v.width ≡ 4)) → IfSome o (λ v. v.bytes ≡ b)
first_part b None h = tt
first_part b (Some v) h = h.0

pub length-one : {A : Type 0} (xs : List A) (x : A) → length (xs ++ x ∷ []) ≡ length xs + 1
length-one [] x = refl
length-one (y ∷ xs) x = ap suc (length-one xs x) ∙ plus_one (length xs)
  where
    plus_one : (n : ℕ) → suc (n + 1) ≡ suc n + 1
    plus_one n = omega arith
