-- Numbers as their bytes: a part of them, and that they suit their layout.
use Rattle.std.proofs.Common.{◌≡◌, ℕ, ◌<◌, List, [], ◌∷◌, Bool, true, false, Option, None, map, length, get_or, nat_eq, refl, sym, ap, ◌∙◌}
use Rattle.std.specs.List.{list_all}
use Rattle.std.proofs.lemmas.List.{length-map}
use Rattle.std.proofs.lemmas.Bool.{eqb-true, eq-eqb, lt-ltb}
use Rattle.arrow_types.specs.Physical.{primitive_size, physical_of}
use Rattle.arrow_types.specs.declared.physical.PhysicalType.{PhysicalType}
use Rattle.arrow_types.specs.declared.physical.PhysicalType.TheVariants as physical
use Rattle.arrow_types.specs.declared.physical.PrimitiveType.{PrimitiveType}
use Rattle.arrow_types.specs.declared.physical.PrimitiveType.TheVariants as primitive
use Rattle.arrow_buffers.specs.Rows.{part, has_rows}
use Rattle.arrow_buffers.specs.Layouts.{is_primitive, primitive_number}
use Rattle.arrow_buffers.specs.Leaf.{Leaf, leaf_cells, leaf_part, leaf_fault}
use Rattle.arrow_buffers.proofs.Sound.{leaf_sound}
use Rattle.arrow_buffers.proofs.Masks.{length-leaf, leaf_cells-part}
use Rattle.arrow_buffers.proofs.Parts.{map-part}
use Rattle.arrow_arrays.specs.LeafParts.{numbers, as_bytes, number_cell, number_size, leaf_fault_in}

-- the size of a primitive type by its number
abbrev size_by : ℕ → ℕ
size_by n = get_or (1 ∷ 2 ∷ 4 ∷ 8 ∷ 16 ∷ 0 ∷ 1 ∷ 2 ∷ 4 ∷ 8 ∷ 0 ∷ 0 ∷ 0 ∷ 8 ∷ 16 ∷ []) n 0

size_by-number : (p : PrimitiveType) → size_by (primitive_number p) ≡ primitive_size p
size_by-number primitive.Int8 = refl
size_by-number p = refl

-- a layout of a primitive type has its size
pub layout_size : (p : PrimitiveType) (l : PhysicalType) → is_primitive p l ≡ true → number_size l ≡ primitive_size p
layout_size p (physical.Primitive q) e = sym (size_by-number q) ∙ ap size_by (eqb-true (primitive_number q) (primitive_number p) e) ∙ size_by-number p
layout_size p l e = cc

-- parts that are not refused have the layout
pub leaf_suits : (s : Bool) (n : ℕ) (v : Option (List Bool)) → leaf_fault s n v ≡ None → s ≡ true
leaf_suits true n v e = refl
leaf_suits false n v e = cc

all_wide : {A : Type 0} (write : A → List ℕ) (size : ℕ) → ((x : A) → length (write x) ≡ size) → (xs : List A) → list_all (λ bytes. nat_eq (length bytes) size) (map write xs) ≡ true
all_wide write size wide [] = refl
all_wide write size wide (x ∷ xs) = rw (eq-eqb (length (write x)) size (wide x), all_wide write size wide xs) refl

pub numbers_sound : {A : Type 0} (write : A → List ℕ) (p : PrimitiveType) (size : ℕ) (f : Leaf A) → primitive_size p ≡ size → 0 < size → ((x : A) → length (write x) ≡ size) → leaf_fault (is_primitive p (physical_of f.kind)) (length f.values) f.validity ≡ None → leaf_fault_in (numbers (as_bytes write f)) ≡ None
numbers_sound write p size f e above wide fine =
    let s : number_size (physical_of f.kind) ≡ size = layout_size p (physical_of f.kind) (leaf_suits (is_primitive p (physical_of f.kind)) (length f.values) f.validity fine) ∙ e in
    let rows : has_rows f.validity (length f.values) ≡ true = leaf_sound (is_primitive p (physical_of f.kind)) (length f.values) f.validity fine in
    rw (s, lt-ltb 0 size above, all_wide write size wide f.values, length-map f.values write, rows) refl

pub number_cells-length : {A : Type 0} (write : A → List ℕ) (s : Bool) (f : Leaf A) → leaf_fault s (length f.values) f.validity ≡ None → length (leaf_cells (number_cell f.kind) (as_bytes write f)) ≡ length f.values
number_cells-length write s f fine =
    let l : length (map write f.values) ≡ length f.values = length-map f.values write in
    let rows : has_rows f.validity (length (map write f.values)) ≡ true = ap (has_rows f.validity) l ∙ leaf_sound s (length f.values) f.validity fine in
    length-leaf (number_cell f.kind) (map write f.values) f.validity rows ∙ l

pub as_bytes-part : {A : Type 0} (write : A → List ℕ) (o n : ℕ) (f : Leaf A) → as_bytes write (leaf_part o n f) ≡ leaf_part o n (as_bytes write f)
as_bytes-part write o n f = rw (map-part write o n f.values) refl

pub number_cells-part : {A : Type 0} (write : A → List ℕ) (o n : ℕ) (f : Leaf A) → leaf_cells (number_cell f.kind) (as_bytes write (leaf_part o n f)) ≡ part o n (leaf_cells (number_cell f.kind) (as_bytes write f))
number_cells-part write o n f = ap (leaf_cells (number_cell f.kind)) (as_bytes-part write o n f) ∙ leaf_cells-part (number_cell f.kind) o n (map write f.values) f.validity
