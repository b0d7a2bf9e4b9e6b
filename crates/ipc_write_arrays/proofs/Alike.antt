-- What a top takes of its kind is the same of kinds that are alike.
use Rattle.std.proofs.Common.{◌≡◌, ◌&&◌, ℕ, zero, suc, ◌*◌, List, [], ◌∷◌, Bool, true, false, Option, None, Some, length, nat_eq, refl, sym, ap, ◌∙◌}
use Rattle.std.specs.Prelude.{not, nat_lt, if◌then◌else◌}
use Rattle.std.proofs.lemmas.Bool.{and_parts, and_from}
use Rattle.arrow_spec.specs.declared.types.IntegerType.{IntegerType}
use Rattle.arrow_spec.specs.Kinds as kind
use Rattle.arrow_spec.specs.Kinds.{Kind, Fields, Offsets, small, large, width, is_same_kind}
use Rattle.arrow_spec.specs.Schema.{is_struct_of_two, first_is_struct_of_two}
use Rattle.arrow_spec.specs.Cells as cells
use Rattle.arrow_spec.specs.Cells.{Cell, cells_of}
use Rattle.arrow_spec.specs.Arrays.{from_on}
use Rattle.arrow_types.specs.KindCode.{kind_eq, kind_eq_is}
use Rattle.arrow_types.specs.Physical.{physical_of, primitive_size}
use Rattle.arrow_types.specs.UnionIds.{are_right}
use Rattle.arrow_types.specs.declared.physical.PhysicalType.{PhysicalType}
use Rattle.arrow_types.specs.declared.physical.PhysicalType.TheVariants as physical
use Rattle.arrow_buffers.specs.declared.error.ArrayError.{ArrayError}
use Rattle.arrow_buffers.specs.declared.error.ArrayError.TheVariants.{DataType}
use Rattle.arrow_buffers.specs.Layouts.{binary_size, is_null, is_boolean, is_variable_any, is_view}
use Rattle.arrow_buffers.specs.Rows.{part, has_rows, masked}
use Rattle.arrow_arrays.specs.Heads.{Head, listed, mapped, sized, structured, tagged, indexed, head_kind, head_rows, head_validity, head_cells, first_of, tagged_cell, is_list, is_map, is_sized, is_struct, is_union, is_mode, is_dictionary, has_offsets, ids_in, list_size, child_fields, values_kind, are_of, are_all, are_under, suits, fits_rows, fits_offsets, fits_types, fits_keys, fits_places, have_ids}
use Rattle.arrow_arrays.specs.LeafKinds.{is_leaf_kind, is_leaf_layout}
use Rattle.arrow_arrays.specs.LeafParts.{LeafParts, nulls, bits, numbers, fixed, binary, text, binary_views, text_views, leaf_kind_in, leaf_fault_in, number_size, are_numbers}
use Rattle.arrow_arrays.specs.Parts.{Forest, none, also, kind_in, kinds_each}
use Rattle.arrow_arrays.proofs.EmptyParts.{each_itself}
use Rattle.arrow_arrays.proofs.HeadSliced.{Sound}
use Rattle.arrow_spec.proofs.Forms.{form, forms}
use Rattle.ipc_fields.proofs.SameKinds.{form_is_same, same_by_form}
use Rattle.ipc_read_laws.proofs.PlainTypes.{form_plain, plain_twice}
use Rattle.ipc_read_laws.specs.PlainKinds.{plain_kind, plain_fields}
use Rattle.ipc_write_arrays.specs.Dictionaries.{is_alike}

-- a kind without ids, names, nullability and metadata
abbrev pub shape : Kind → Kind
shape k = form (plain_kind k)

abbrev pub shapes : Fields → Fields
shapes fs = forms (plain_fields fs)

pub one_shape : (k l : Kind) → is_alike k l ≡ true → shape k ≡ shape l
one_shape k l = form_is_same (plain_kind k) (plain_kind l)

-- ── a kind that is one with another's kind without ids ──

pub alike_by : (k l : Kind) → is_same_kind k (plain_kind l) ≡ true → is_alike k l ≡ true
alike_by k l h = same_by_form (plain_kind k) (plain_kind l) (form_plain k ∙ ap plain_kind (form_is_same k (plain_kind l) h) ∙ sym (form_plain (plain_kind l)) ∙ ap form (plain_twice l))

-- ── what kinds of one shape have in common ──

-- what a shape keeps is the same of kinds of one shape
pub by_shape : {A : Type 0} (f : Kind → A) → ((k : Kind) → f (shape k) ≡ f k) → (k l : Kind) → shape k ≡ shape l → f k ≡ f l
by_shape f h k l e = sym (h k) ∙ ap f e ∙ h l

width_kept : (fs : Fields) → width (shapes fs) ≡ width fs
width_kept kind.none = refl
width_kept (kind.field name nullable metadata k others) = ap suc (width_kept others)

pair_kept : (k : Kind) → is_struct_of_two (shape k) ≡ is_struct_of_two k
pair_kept (kind.struct fs) = ap (λ n. nat_eq n 2) (width_kept fs)
pair_kept (kind.extension name metadata k) = pair_kept k
pair_kept k = refl

first_kept : (fs : Fields) → first_is_struct_of_two (shapes fs) ≡ first_is_struct_of_two fs
first_kept kind.none = refl
first_kept (kind.field name nullable metadata k others) = pair_kept k

list_kept : (o : Offsets) (k : Kind) → is_list o (shape k) ≡ is_list o k
list_kept small (kind.«list» small fs) = refl
list_kept small (kind.«list» large fs) = refl
list_kept large (kind.«list» small fs) = refl
list_kept large (kind.«list» large fs) = refl
list_kept small (kind.extension name metadata k) = list_kept small k
list_kept large (kind.extension name metadata k) = list_kept large k
list_kept o k = refl

map_kept : (o : Offsets) (k : Kind) → is_map o (shape k) ≡ is_map o k
map_kept small (kind.map sorted fs) = first_kept fs
map_kept small (kind.extension name metadata k) = map_kept small k
map_kept large (kind.extension name metadata k) = map_kept large k
map_kept o k = refl

sized_kept : (k : Kind) → is_sized (shape k) ≡ is_sized k
sized_kept (kind.fixed_size_list zero fs) = refl
sized_kept (kind.fixed_size_list (suc n) fs) = refl
sized_kept (kind.extension name metadata k) = sized_kept k
sized_kept k = refl

struct_kept : (k : Kind) → is_struct (shape k) ≡ is_struct k
struct_kept (kind.extension name metadata k) = struct_kept k
struct_kept k = refl

union_kept : (dense : Bool) (k : Kind) → is_union dense (shape k) ≡ is_union dense k
union_kept dense (kind.union mode stated ids fs) = ap (λ n. is_mode dense mode && are_right ids n) (width_kept fs)
union_kept dense (kind.extension name metadata k) = union_kept dense k
union_kept dense k = refl

dictionary_kept : (t : IntegerType) (k : Kind) → is_dictionary t (shape k) ≡ is_dictionary t k
dictionary_kept t (kind.extension name metadata k) = dictionary_kept t k
dictionary_kept t k = refl

size_kept : (k : Kind) → list_size (shape k) ≡ list_size k
size_kept (kind.extension name metadata k) = size_kept k
size_kept k = refl

ids_kept : (k : Kind) → ids_in (shape k) ≡ ids_in k
ids_kept (kind.extension name metadata k) = ids_kept k
ids_kept k = refl

fields_kept : (k : Kind) → child_fields (shape k) ≡ shapes (child_fields k)
fields_kept (kind.extension name metadata k) = fields_kept k
fields_kept k = refl

pub same_size : (k l : Kind) → shape k ≡ shape l → list_size k ≡ list_size l
same_size = by_shape list_size size_kept

pub same_ids : (k l : Kind) → shape k ≡ shape l → ids_in k ≡ ids_in l
same_ids = by_shape ids_in ids_kept

pub same_fields : (k l : Kind) → shape k ≡ shape l → shapes (child_fields k) ≡ shapes (child_fields l)
same_fields k l e = sym (fields_kept k) ∙ ap child_fields e ∙ fields_kept l

-- ── arrays without children ──

first_test : (s : Bool) (e : Option ArrayError) → (if not s then Some DataType else e) ≡ None → s ≡ true
first_test true e h = refl
first_test false e h = cc

null_leaf : (p : PhysicalType) (size : ℕ) → is_null p ≡ true → is_leaf_layout p size ≡ true
null_leaf physical.Null size h = refl
null_leaf p size h = cc

boolean_leaf : (p : PhysicalType) (size : ℕ) → is_boolean p ≡ true → is_leaf_layout p size ≡ true
boolean_leaf physical.Boolean size h = refl
boolean_leaf p size h = cc

number_leaf : (p : PhysicalType) (size : ℕ) (values : List (List ℕ)) → are_numbers (number_size p) values ≡ true → is_leaf_layout p size ≡ true
number_leaf (physical.Primitive t) size values h = (and_parts (nat_lt 0 (primitive_size t)) _ h).0
number_leaf p size values h = cc

variable_leaf : (is_text : Bool) (p : PhysicalType) (size : ℕ) → is_variable_any is_text p ≡ true → is_leaf_layout p size ≡ true
variable_leaf is_text physical.Binary size h = refl
variable_leaf is_text physical.LargeBinary size h = refl
variable_leaf is_text physical.Utf8 size h = refl
variable_leaf is_text physical.LargeUtf8 size h = refl
variable_leaf is_text p size h = cc

view_leaf : (is_text : Bool) (p : PhysicalType) (size : ℕ) → is_view is_text p ≡ true → is_leaf_layout p size ≡ true
view_leaf is_text physical.BinaryView size h = refl
view_leaf is_text physical.Utf8View size h = refl
view_leaf is_text p size h = cc

fixed_leaf : (k : Kind) → nat_lt 0 (binary_size k) ≡ true → is_leaf_kind k ≡ true
fixed_leaf (kind.fixed_size_binary n) h = h
fixed_leaf (kind.extension name metadata k) h = fixed_leaf k h
fixed_leaf k h = cc

pub leaf_kind : (l : LeafParts) → leaf_fault_in l ≡ None → is_leaf_kind (leaf_kind_in l) ≡ true
leaf_kind (nulls x) e = null_leaf (physical_of x.kind) (binary_size x.kind) (first_test _ _ e)
leaf_kind (bits f) e = boolean_leaf (physical_of f.kind) (binary_size f.kind) (first_test _ _ e)
leaf_kind (numbers f) e = number_leaf (physical_of f.kind) (binary_size f.kind) f.values (first_test _ _ e)
leaf_kind (fixed f) e = fixed_leaf f.kind (first_test _ _ e)
leaf_kind (binary x) e = variable_leaf false (physical_of x.kind) (binary_size x.kind) (first_test _ _ e)
leaf_kind (text x) e = variable_leaf true (physical_of x.kind) (binary_size x.kind) (first_test _ _ e)
leaf_kind (binary_views x) e = view_leaf false (physical_of x.kind) (binary_size x.kind) (first_test _ _ e)
leaf_kind (text_views x) e = view_leaf true (physical_of x.kind) (binary_size x.kind) (first_test _ _ e)

leaf_kept : (k : Kind) → is_leaf_kind (shape k) ≡ is_leaf_kind k
leaf_kept (kind.extension name metadata k) = leaf_kept k
leaf_kept k = refl

-- a kind without children has nothing aside
leaf_itself : (k : Kind) → is_leaf_kind k ≡ true → shape k ≡ k
leaf_itself (kind.«list» small fs) h = cc
leaf_itself (kind.«list» large fs) h = cc
leaf_itself (kind.fixed_size_list size fs) h = cc
leaf_itself (kind.struct fs) h = cc
leaf_itself (kind.map sorted fs) h = cc
leaf_itself (kind.union mode stated ids fs) h = cc
leaf_itself (kind.dictionary t ordered id k) h = cc
leaf_itself (kind.extension name metadata k) h = ap (kind.extension name metadata) (leaf_itself k h)
leaf_itself k h = refl

pub same_leaf : (k l : Kind) → is_leaf_kind k ≡ true → shape k ≡ shape l → k ≡ l
same_leaf k l h e = sym (leaf_itself k h) ∙ e ∙ leaf_itself l (sym (by_shape is_leaf_kind leaf_kept k l e) ∙ h)

-- ── tops ──

-- the same top under another kind
abbrev pub head_under : Kind → Head → Head
head_under k (listed l) = listed (record { kind = k; width = l.width; offsets = l.offsets; validity = l.validity })
head_under k (mapped l) = mapped (record { kind = k; width = l.width; offsets = l.offsets; validity = l.validity })
head_under k (sized c) = sized (record { kind = k; rows = c.rows; validity = c.validity })
head_under k (structured c) = structured (record { kind = k; rows = c.rows; validity = c.validity })
head_under k (tagged t) = tagged (record { kind = k; types = t.types; offsets = t.offsets })
head_under k (indexed d) = indexed (record { kind = k; index = d.index; keys = d.keys; validity = d.validity })

-- children's kinds that it asks for
abbrev kinds_of : Fields → List Kind
kinds_of kind.none = []
kinds_of (kind.field name nullable metadata k others) = k ∷ kinds_of others

abbrev pub kinds_under : Kind → Head → List Kind
kinds_under k (indexed d) = values_kind k ∷ []
kinds_under k h = kinds_of (child_fields k)

are_themselves : (fs : Fields) → are_of fs (kinds_of fs) ≡ true
are_themselves kind.none = refl
are_themselves (kind.field name nullable metadata k others) = and_from (kind_eq k k) _ ((kind_eq_is k k).1 refl) (are_themselves others)

module _ (k : Kind) where
  suits_under : (h : Head) → shape (head_kind h) ≡ shape k → suits (head_under k h) ≡ suits h
  suits_under (listed l) e = by_shape (is_list l.width) (list_kept l.width) k l.kind (sym e)
  suits_under (mapped l) e = by_shape (is_map l.width) (map_kept l.width) k l.kind (sym e)
  suits_under (sized c) e = by_shape is_sized sized_kept k c.kind (sym e)
  suits_under (structured c) e = by_shape is_struct struct_kept k c.kind (sym e)
  suits_under (tagged t) e = by_shape (is_union (has_offsets t.offsets)) (union_kept (has_offsets t.offsets)) k t.kind (sym e)
  suits_under (indexed d) e = by_shape (is_dictionary d.index) (dictionary_kept d.index) k d.kind (sym e)

  kinds_fit : (h : Head) → are_under (head_under k h) (kinds_under k h) ≡ true
  kinds_fit (indexed d) = each_itself (values_kind k)
  kinds_fit h = are_themselves (child_fields k)

  valid_under : (h : Head) → has_rows (head_validity (head_under k h)) (head_rows (head_under k h)) ≡ has_rows (head_validity h) (head_rows h)
  valid_under (indexed d) = refl
  valid_under h = refl

  rows_under : (h : Head) (ns : List ℕ) → shape (head_kind h) ≡ shape k → fits_rows (head_under k h) ns ≡ fits_rows h ns
  rows_under (sized c) ns e = ap (λ s. are_all (s * c.rows) ns) (same_size k c.kind (sym e))
  rows_under h ns e = refl

  offsets_under : (h : Head) (ns : List ℕ) → shape (head_kind h) ≡ shape k → fits_offsets (head_under k h) ns ≡ fits_offsets h ns
  offsets_under (tagged t) ns e = ap (λ ids. fits_places ids t.types t.offsets ns) (same_ids k t.kind (sym e))
  offsets_under h ns e = refl

  types_under : (h : Head) → shape (head_kind h) ≡ shape k → fits_types (head_under k h) ≡ fits_types h
  types_under (tagged t) e = ap (λ ids. have_ids ids t.types) (same_ids k t.kind (sym e))
  types_under h e = refl

  keys_under : (h : Head) (ns : List ℕ) → fits_keys (head_under k h) ns ≡ fits_keys h ns
  keys_under (indexed d) ns = refl
  keys_under h ns = refl

  -- what holds of a top holds of it under another kind
  pub sound_under : (h : Head) (ks : List Kind) (ns : List ℕ) → shape (head_kind h) ≡ shape k → Sound h ks ns → Sound (head_under k h) (kinds_under k h) ns
  sound_under h ks ns e s = record {
    suits = and_from (suits (head_under k h)) _ (suits_under h e ∙ (and_parts (suits h) (are_under h ks) s.suits).0) (kinds_fit h);
    valid = valid_under h ∙ s.valid;
    rows = rows_under h ns e ∙ s.rows;
    offsets = offsets_under h ns e ∙ s.offsets;
    types = types_under h e ∙ s.types;
    keys = keys_under h ns ∙ s.keys;
  }

  -- its cells are the same
  pub cells_under : (h : Head) (css : List (List Cell)) → shape (head_kind h) ≡ shape k → head_cells (head_under k h) css ≡ head_cells h css
  cells_under (sized c) css e = ap (λ s. masked c.validity (from_on (λ row. cells.«list» (cells_of (part (s * row) s (first_of css)))) 0 c.rows)) (same_size k c.kind (sym e))
  cells_under (tagged t) css e = ap (λ ids. from_on (tagged_cell ids t.types t.offsets css) 0 (length t.types)) (same_ids k t.kind (sym e))
  cells_under h css e = refl

-- ── children ──

-- each child's kind is alike to its field's
abbrev pub AreAlike : Fields → Forest → Type 0
AreAlike kind.none none = Unit {0}
AreAlike kind.none (also p cs) = ⊥
AreAlike (kind.field name nullable metadata k others) none = ⊥
AreAlike (kind.field name nullable metadata k others) (also p cs) = (shape (kind_in p) ≡ shape k) × AreAlike others cs

pub children_alike : (fs gs : Fields) (cs : Forest) → shapes fs ≡ shapes gs → are_of fs (kinds_each cs) ≡ true → AreAlike gs cs
children_alike kind.none kind.none none e of = tt
children_alike kind.none kind.none (also p cs) e of = cc
children_alike kind.none (kind.field n c y l gs) cs e of = cc
children_alike (kind.field m b x k fs) kind.none cs e of = cc
children_alike (kind.field m b x k fs) (kind.field n c y l gs) none e of = cc
children_alike (kind.field m b x k fs) (kind.field n c y l gs) (also p cs) e of =
    let a = and_parts (kind_eq k (kind_in p)) (are_of fs (kinds_each cs)) of in
    let first : shape k ≡ shape l = cc in
    let rest : shapes fs ≡ shapes gs = cc in
    (ap shape (sym ((kind_eq_is k (kind_in p)).0 a.0)) ∙ first, children_alike fs gs cs rest a.1)
