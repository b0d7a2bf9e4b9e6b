-- The parts of an array without rows: of its kind, without rows, and what arrays have.
use Rattle.std.proofs.Common.{◌≡◌, ℕ, zero, suc, ◌+◌, ◌*◌, ◌%◌, ◌&&◌, List, [], ◌∷◌, Bool, true, false, Option, Some, None, ℤ, pos, length, nat_eq, refl, sym, ap, ◌∙◌, subst, arith}
use Rattle.std.specs.Prelude.{nat_lt}
use Rattle.std.specs.Option.{IfSome}
use Rattle.std.proofs.Math.Nat.{zero-div}
use Rattle.std.proofs.lemmas.Bool.{and_parts, and_from, eqb-true, eq-eqb}
use Rattle.arrow_spec.specs.declared.types.IntegerType.{IntegerType}
use Rattle.arrow_spec.specs.declared.types.UnionMode.TheVariants.{Dense, Sparse}
use Rattle.arrow_spec.specs.Kinds as kind
use Rattle.arrow_spec.specs.Kinds.{Kind, Fields, Offsets, none, field, small, large, width, integer_number}
use Rattle.arrow_spec.specs.Schema.{first_is_struct_of_two}
use Rattle.arrow_spec.specs.Cells.{Cell}
use Rattle.arrow_types.specs.KindCode.{kind_eq, kind_eq_is}
use Rattle.arrow_spec.specs.Kinds.{is_same_kind}
use Rattle.ipc_fields.proofs.SameKinds.{same_itself}
use Rattle.arrow_types.specs.Physical.{primitive_size, physical_of, under_extensions}
use Rattle.arrow_types.specs.UnionIds.{are_right}
use Rattle.arrow_types.specs.declared.physical.PhysicalType.{PhysicalType}
use Rattle.arrow_types.specs.declared.physical.PhysicalType.TheVariants as physical
use Rattle.arrow_buffers.specs.Layouts.{binary_size, is_variable_any, is_view}
use Rattle.arrow_buffers.specs.Variable.{are_offsets}
use Rattle.arrow_arrays.specs.Carried.{is_carried, are_carried}
use Rattle.arrow_arrays.specs.Heads.{Head, listed, mapped, sized, structured, tagged, indexed, is_list, is_map, is_sized, is_struct, is_union, is_dictionary, has_offsets, ids_in, list_size, child_fields, values_kind, are_of, are_all, each_of, first_or_0, fits_places, have_ids, head_fault}
use Rattle.arrow_arrays.specs.LeafKinds.{is_leaf_layout}
use Rattle.arrow_arrays.specs.LeafParts.{leaf_kind_in, leaf_rows_in, leaf_fault_in}
use Rattle.arrow_arrays.specs.Parts.{Parts, Forest, nested, also, kind_in, rows_in, cells_in, kinds_each, rows_each, fault_in, fault_each}
use Rattle.arrow_arrays.specs.Parts as parts
use Rattle.arrow_arrays.specs.EmptyParts.{empty_leaf, empty_listed, empty_counted, empty_under, empty_forest, empty_parts}
use Rattle.arrow_arrays.specs.EmptyTops.{EmptyUnder, ValuesUnder, empty_indexed}
use Rattle.arrow_arrays.proofs.HeadSliced.{sound_head}
use Rattle.arrow_arrays.proofs.Labels.{layout_under, size_under, fields_under, list_size_under, is_list_under, is_map_under, is_sized_under, is_struct_under, is_union_under, is_dictionary_under, values_under, by_under}
use Rattle.arrow_arrays.proofs.NoRows.{variable_sound, view_sound}
use Rattle.arrow_arrays.proofs.Sliced.{both, length-cells}

-- ── without children ──

leaf_kind : (p : PhysicalType) (k : Kind) → leaf_kind_in (empty_leaf p k) ≡ k
leaf_kind physical.Boolean k = refl
leaf_kind (physical.Primitive t) k = refl
leaf_kind physical.FixedSizeBinary k = refl
leaf_kind physical.Binary k = refl
leaf_kind physical.LargeBinary k = refl
leaf_kind physical.Utf8 k = refl
leaf_kind physical.LargeUtf8 k = refl
leaf_kind physical.BinaryView k = refl
leaf_kind physical.Utf8View k = refl
leaf_kind p k = refl

leaf_rows : (p : PhysicalType) (k : Kind) → leaf_rows_in (empty_leaf p k) ≡ 0
leaf_rows physical.Boolean k = refl
leaf_rows (physical.Primitive t) k = refl
leaf_rows physical.FixedSizeBinary k = zero-div (binary_size k)
leaf_rows physical.Binary k = refl
leaf_rows physical.LargeBinary k = refl
leaf_rows physical.Utf8 k = refl
leaf_rows physical.LargeUtf8 k = refl
leaf_rows physical.BinaryView k = refl
leaf_rows physical.Utf8View k = refl
leaf_rows p k = refl

variable_suits : (is_text : Bool) (k : Kind) (p : PhysicalType) → physical_of k ≡ p → is_variable_any is_text p ≡ true → is_variable_any is_text (physical_of k) ≡ true
variable_suits is_text k p e h = rw e h

view_suits : (is_text : Bool) (k : Kind) (p : PhysicalType) → physical_of k ≡ p → is_view is_text p ≡ true → is_view is_text (physical_of k) ≡ true
view_suits is_text k p e h = rw e h

leaf_sound : (p : PhysicalType) (k : Kind) → physical_of k ≡ p → is_leaf_layout p (binary_size k) ≡ true → leaf_fault_in (empty_leaf p k) ≡ None
leaf_sound physical.Null k e h = rw e refl
leaf_sound physical.Boolean k e h = rw e refl
leaf_sound (physical.Primitive t) k e h = rw (e, h) refl
leaf_sound physical.FixedSizeBinary k e h = let z : 0 % binary_size k ≡ 0 = omega arith in rw (h, z) refl
leaf_sound physical.Binary k e h = variable_sound false _ k (variable_suits false k physical.Binary e refl)
leaf_sound physical.LargeBinary k e h = variable_sound false _ k (variable_suits false k physical.LargeBinary e refl)
leaf_sound physical.Utf8 k e h = variable_sound true _ k (variable_suits true k physical.Utf8 e refl)
leaf_sound physical.LargeUtf8 k e h = variable_sound true _ k (variable_suits true k physical.LargeUtf8 e refl)
leaf_sound physical.BinaryView k e h = view_sound false _ k (view_suits false k physical.BinaryView e refl)
leaf_sound physical.Utf8View k e h = view_sound true _ k (view_suits true k physical.Utf8View e refl)
leaf_sound p k e h = cc

-- ── its kind and its rows ──

pub kind-empty : (l k : Kind) → kind_in (empty_under l k) ≡ l
kind-empty l (kind.«list» o fs) = refl
kind-empty l (kind.map sorted fs) = refl
kind-empty l (kind.fixed_size_list size fs) = refl
kind-empty l (kind.struct fs) = refl
kind-empty l (kind.union Sparse stated ids fs) = refl
kind-empty l (kind.union Dense stated ids fs) = refl
kind-empty l (kind.dictionary t ordered id k) = refl
kind-empty l (kind.extension name metadata k) = kind-empty l k
kind-empty l k = leaf_kind (physical_of k) l

pub rows-empty : (l k : Kind) → rows_in (empty_under l k) ≡ 0
rows-empty l (kind.«list» o fs) = refl
rows-empty l (kind.map sorted fs) = refl
rows-empty l (kind.fixed_size_list size fs) = refl
rows-empty l (kind.struct fs) = refl
rows-empty l (kind.union Sparse stated ids fs) = refl
rows-empty l (kind.union Dense stated ids fs) = refl
rows-empty l (kind.dictionary t ordered id k) = refl
rows-empty l (kind.extension name metadata k) = rows-empty l k
rows-empty l k = leaf_rows (physical_of k) l

pub kinds-empty : (fs : Fields) → are_of fs (kinds_each (empty_forest fs)) ≡ true
kinds-empty none = refl
kinds-empty (field name nullable metadata k others) = and_from (kind_eq k _) _ ((kind_eq_is k _).1 (sym (kind-empty k k))) (kinds-empty others)

pub counts-empty : (fs : Fields) → are_all 0 (rows_each (empty_forest fs)) ≡ true
counts-empty none = refl
counts-empty (field name nullable metadata k others) = and_from (nat_eq (rows_in (empty_under k k)) 0) _ (eq-eqb _ 0 (rows-empty k k)) (counts-empty others)

many : (fs : Fields) → length (rows_each (empty_forest fs)) ≡ width fs
many none = refl
many (field name nullable metadata k others) = ap suc (many others)

first_none : (fs : Fields) → first_or_0 (rows_each (empty_forest fs)) ≡ 0
first_none none = refl
first_none (field name nullable metadata k others) = rows-empty k k

-- ── over children ──

pub list_itself : (o : Offsets) (fs : Fields) → is_list o (kind.«list» o fs) ≡ true
list_itself small fs = refl
list_itself large fs = refl

pub sized_itself : (size : ℕ) (fs : Fields) → nat_lt 0 size ≡ true → is_sized (kind.fixed_size_list size fs) ≡ true
sized_itself zero fs s = cc
sized_itself (suc n) fs s = refl

pub dictionary_itself : (t : IntegerType) (ordered : Bool) (id : ℤ) (k : Kind) → is_dictionary t (kind.dictionary t ordered id k) ≡ true
dictionary_itself t ordered id k = eq-eqb (integer_number t) (integer_number t) refl

pub each_itself : (k : Kind) → each_of k (k ∷ []) ≡ true
each_itself k = and_from (is_same_kind k k) true (same_itself k) refl

-- a top whose fields are of its children's kinds
under : (suits : Bool) (l : Kind) (fs : Fields) (cs : Forest) → suits ≡ true → child_fields l ≡ fs → are_of fs (kinds_each cs) ≡ true → (suits && are_of (child_fields l) (kinds_each cs)) ≡ true
under suits l fs cs s f h = and_from suits _ s (ap (λ g. are_of g (kinds_each cs)) f ∙ h)

-- offsets of no rows rise within a child without rows
offsets_fit : (fs : Fields) → are_offsets (pos 0 ∷ []) (first_or_0 (rows_each (empty_forest fs))) ≡ true
offsets_fit fs = rw (first_none fs) refl

pub union_sound : (k : Kind) (os : Option (List ℤ)) (cs : Forest) → is_union (has_offsets os) k ≡ true → IfSome os (λ o. o ≡ []) → EmptyUnder (child_fields k) cs → fault_in (nested (tagged (record { kind = k; types = []; offsets = os })) cs) ≡ None
union_sound k None cs l o u =
    let h : Head = tagged (record { kind = k; types = []; offsets = None }) in
    both (head_fault h (kinds_each cs) (rows_each cs)) _ (sound_head h (kinds_each cs) (rows_each cs) (record { suits = and_from (is_union false k) _ l u.kinds; valid = refl; rows = u.rows; offsets = refl; types = refl; keys = refl })) u.sound
union_sound k (Some xs) cs l o u =
    let h : Head = tagged (record { kind = k; types = []; offsets = Some xs }) in
    both (head_fault h (kinds_each cs) (rows_each cs)) _ (sound_head h (kinds_each cs) (rows_each cs) (record { suits = and_from (is_union true k) _ l u.kinds; valid = refl; rows = ap (λ ys. nat_eq (length ys) 0) o; offsets = refl; types = refl; keys = refl })) u.sound

pub dictionary_sound : (k : Kind) (t : IntegerType) (cs : Forest) → is_dictionary t k ≡ true → ValuesUnder k cs → fault_in (nested (indexed (empty_indexed k t)) cs) ≡ None
dictionary_sound k t cs d u =
    let h : Head = indexed (empty_indexed k t) in
    both (head_fault h (kinds_each cs) (rows_each cs)) _ (sound_head h (kinds_each cs) (rows_each cs) (record { suits = and_from (is_dictionary t k) _ d u.kinds; valid = refl; rows = refl; offsets = refl; types = refl; keys = refl })) u.sound

mutual
  -- they are what arrays have, also under a label
  pub sound-empty : (l k : Kind) → under_extensions l ≡ under_extensions k → is_carried k ≡ true → fault_in (empty_under l k) ≡ None
  sound-empty l (kind.«list» o fs) e c =
      let a = and_parts (nat_eq (width fs) 1) (are_carried fs) c in
      let u = forest-empty fs a.1 in
      let h : Head = listed (empty_listed l o) in
      let cs = empty_forest fs in
      both (head_fault h (kinds_each cs) (rows_each cs)) _ (sound_head h (kinds_each cs) (rows_each cs) (record {
        suits = under (is_list o l) l fs cs (by_under (is_list o) (is_list_under o) l (kind.«list» o fs) e ∙ list_itself o fs) (by_under child_fields fields_under l (kind.«list» o fs) e) u.kinds;
        valid = refl;
        rows = eq-eqb _ 1 (many fs ∙ eqb-true (width fs) 1 a.0);
        offsets = offsets_fit fs;
        types = refl;
        keys = refl;
      })) u.sound
  sound-empty l (kind.map sorted fs) e c =
      let a = and_parts (nat_eq (width fs) 1 && first_is_struct_of_two fs) (are_carried fs) c in
      let b = and_parts (nat_eq (width fs) 1) (first_is_struct_of_two fs) a.0 in
      let u = forest-empty fs a.1 in
      let h : Head = mapped (empty_listed l small) in
      let cs = empty_forest fs in
      both (head_fault h (kinds_each cs) (rows_each cs)) _ (sound_head h (kinds_each cs) (rows_each cs) (record {
        suits = under (is_map small l) l fs cs (by_under (is_map small) (is_map_under small) l (kind.map sorted fs) e ∙ b.1) (by_under child_fields fields_under l (kind.map sorted fs) e) u.kinds;
        valid = refl;
        rows = eq-eqb _ 1 (many fs ∙ eqb-true (width fs) 1 b.0);
        offsets = offsets_fit fs;
        types = refl;
        keys = refl;
      })) u.sound
  sound-empty l (kind.fixed_size_list size fs) e c =
      let a = and_parts (nat_eq (width fs) 1 && nat_lt 0 size) (are_carried fs) c in
      let b = and_parts (nat_eq (width fs) 1) (nat_lt 0 size) a.0 in
      let u = forest-empty fs a.1 in
      let h : Head = sized (empty_counted l) in
      let cs = empty_forest fs in
      let z : list_size l * 0 ≡ 0 = omega arith in
      both (head_fault h (kinds_each cs) (rows_each cs)) _ (sound_head h (kinds_each cs) (rows_each cs) (record {
        suits = under (is_sized l) l fs cs (by_under is_sized is_sized_under l (kind.fixed_size_list size fs) e ∙ sized_itself size fs b.1) (by_under child_fields fields_under l (kind.fixed_size_list size fs) e) u.kinds;
        valid = refl;
        rows = ap (λ n. are_all n (rows_each cs)) z ∙ u.rows;
        offsets = refl;
        types = refl;
        keys = refl;
      })) u.sound
  sound-empty l (kind.struct fs) e c =
      let u = forest-empty fs c in
      let h : Head = structured (empty_counted l) in
      let cs = empty_forest fs in
      both (head_fault h (kinds_each cs) (rows_each cs)) _ (sound_head h (kinds_each cs) (rows_each cs) (record {
        suits = under (is_struct l) l fs cs (by_under is_struct is_struct_under l (kind.struct fs) e) (by_under child_fields fields_under l (kind.struct fs) e) u.kinds;
        valid = refl;
        rows = u.rows;
        offsets = refl;
        types = refl;
        keys = refl;
      })) u.sound
  sound-empty l (kind.union Sparse stated ids fs) e c =
      let a = and_parts (are_right ids (width fs)) (are_carried fs) c in
      union_sound l None (empty_forest fs) (by_under (is_union false) (is_union_under false) l (kind.union Sparse stated ids fs) e ∙ a.0) tt
      (subst (λ g. EmptyUnder g (empty_forest fs)) (sym (by_under child_fields fields_under l (kind.union Sparse stated ids fs) e)) (forest-empty fs a.1))
  sound-empty l (kind.union Dense stated ids fs) e c =
      let a = and_parts (are_right ids (width fs)) (are_carried fs) c in
      union_sound l (Some []) (empty_forest fs) (by_under (is_union true) (is_union_under true) l (kind.union Dense stated ids fs) e ∙ a.0) refl
      (subst (λ g. EmptyUnder g (empty_forest fs)) (sym (by_under child_fields fields_under l (kind.union Dense stated ids fs) e)) (forest-empty fs a.1))
  sound-empty l (kind.dictionary t ordered id k) e c =
      let d = kind.dictionary t ordered id k in
      dictionary_sound l t (also (empty_under k k) parts.none) (by_under (is_dictionary t) (is_dictionary_under t) l d e ∙ dictionary_itself t ordered id k) (record {
        kinds = ap (λ v. each_of v (kind_in (empty_under k k) ∷ [])) (by_under values_kind values_under l d e) ∙ ap (λ v. each_of k (v ∷ [])) (kind-empty k k) ∙ each_itself k;
        sound = both (fault_in (empty_under k k)) None (sound-empty k k refl c) refl;
      })
  sound-empty l (kind.extension name metadata k) e c = sound-empty l k e c
  sound-empty l k e c = leaf_sound (physical_of k) l (by_under physical_of layout_under l k e) (ap (is_leaf_layout (physical_of k)) (by_under binary_size size_under l k e) ∙ c)

  pub forest-empty : (fs : Fields) → are_carried fs ≡ true → EmptyUnder fs (empty_forest fs)
  forest-empty none c = record { kinds = refl; rows = refl; sound = refl }
  forest-empty (field name nullable metadata k others) c =
      let a = and_parts (is_carried k) (are_carried others) c in
      let u = forest-empty others a.1 in
      record { kinds = kinds-empty (field name nullable metadata k others); rows = counts-empty (field name nullable metadata k others); sound = both (fault_in (empty_under k k)) (fault_each (empty_forest others)) (sound-empty k k refl a.0) u.sound }

-- no cells stand in them
no_items : {A : Type 0} (xs : List A) → length xs ≡ 0 → xs ≡ []
no_items [] h = refl
no_items (x ∷ xs) h = cc

pub cells-empty : (k : Kind) → is_carried k ≡ true → cells_in (empty_parts k) ≡ []
cells-empty k c = no_items _ (length-cells (empty_parts k) (sound-empty k k refl c) ∙ rows-empty k k)
