-- What each layout's buffers are, by its kind.
use Rattle.std.proofs.Common.{◌≡◌, ℕ, ◌<◌, List, [], ◌∷◌, ◌++◌, Bool, true, false, Option, map, refl, sym, ap, subst, ◌∙◌}
use Rattle.std.specs.Prelude.{ℤ, None, not, ◌&&◌}
use Rattle.std.specs.List.{flat_map, AllByRecursion}
use Rattle.arrow_spec.specs.Counts.{magnitude}
use Rattle.arrow_spec.specs.Flat.{Order, little}
use Rattle.arrow_spec.specs.Kinds.{Kind, Offsets, small, large, binary, utf8, «list», extension}
use Rattle.arrow_spec.specs.Framing.{validity_bytes}
use Rattle.arrow_types.specs.Numbers.{offsets_by}
use Rattle.arrow_types.specs.Physical.{physical_of}
use Rattle.arrow_types.specs.declared.physical.PhysicalType.TheVariants as physical
use Rattle.arrow_types.specs.declared.physical.PrimitiveType.{PrimitiveType}
use Rattle.arrow_arrays.specs.RowLaws.{layout_is}
use Rattle.arrow_buffers.specs.Layouts.{is_primitive, is_variable}
use Rattle.arrow_buffers.specs.Variable.{Variable, variable_fault}
use Rattle.arrow_buffers.proofs.VariableParts.{variable_sound}
use Rattle.ipc_bodies.specs.Fitting.{offset_limit, AllBelow}
use Rattle.ipc_bodies.specs.Pieces.{in_order, offset_bytes}
use Rattle.ipc_write_arrays.specs.Pieces.{layout_in_order, width_of_kind, bytes_between, variable_pieces, OffsetsFit}

-- ── numbers ──

all_turned : {A : Type 0} (f : List ℕ → List ℕ) (g h : A → List ℕ) → ((x : A) → f (g x) ≡ h x) → (xs : List A) → flat_map f (map g xs) ≡ flat_map h xs
all_turned f g h e [] = refl
all_turned f g h e (x ∷ xs) = ap (λ l. l ++ flat_map f (map g xs)) (e x) ∙ ap (λ l. h x ++ l) (all_turned f g h e xs)

-- numbers that are written in an order are those that were written in the other, turned
pub numbers_turned : {A : Type 0} (write : Order → A → List ℕ) (p : PrimitiveType) (order : Order) (k : Kind) (xs : List A) → ((o : Order) (x : A) → in_order o p (write little x) ≡ write o x) → is_primitive p (physical_of k) ≡ true → flat_map (layout_in_order order (physical_of k)) (map (write little) xs) ≡ flat_map (write order) xs
numbers_turned write p order k xs turned e =
    all_turned (layout_in_order order (physical_of k)) (write little) (write order) (λ x. ap (λ l. layout_in_order order l (write little x)) (layout_is p (physical_of k) e) ∙ turned order x) xs

-- ── offsets ──

of_small : (a is_large : Bool) → (a && not is_large) ≡ true → small ≡ offsets_by is_large
of_small true false e = refl
of_small true true e = cc
of_small false is_large e = cc

of_large : (a is_large : Bool) → (a && is_large) ≡ true → large ≡ offsets_by is_large
of_large true true e = refl
of_large true false e = cc
of_large false is_large e = cc

-- the offsets of large layouts are large, those of others small
pub variable_offsets : (is_text is_large : Bool) (k : Kind) → is_variable is_text is_large (physical_of k) ≡ true → width_of_kind k ≡ offsets_by is_large
variable_offsets is_text is_large (binary small) e = of_small (not is_text) is_large e
variable_offsets is_text is_large (binary large) e = of_large (not is_text) is_large e
variable_offsets is_text is_large (utf8 small) e = of_small is_text is_large e
variable_offsets is_text is_large (utf8 large) e = of_large is_text is_large e
variable_offsets is_text is_large (extension name metadata k) e = variable_offsets is_text is_large k e
variable_offsets is_text is_large («list» small fs) e = cc
variable_offsets is_text is_large («list» large fs) e = cc
variable_offsets is_text is_large k e = cc

-- the width of the offsets is that of their layout
pub variable_width : (is_text l : Bool) (p : Variable) → variable_fault is_text (is_variable is_text l (physical_of p.kind)) p ≡ None → width_of_kind p.kind ≡ offsets_by l
variable_width is_text l p e = variable_offsets is_text l p.kind (variable_sound is_text (is_variable is_text l (physical_of p.kind)) p e).suits

-- what is put is what the parts are written as
pub variable_same : (order : Order) (o : Offsets) (p : Variable) (v : Option (List Bool)) (offsets : List ℤ) (values : List ℕ) → v ≡ p.validity → offsets ≡ p.offsets → values ≡ p.values → width_of_kind p.kind ≡ o → validity_bytes v ∷ offset_bytes order o offsets ∷ bytes_between offsets values ∷ [] ≡ variable_pieces order p
variable_same order o p v offsets values ev eo ex ew =
    ap (λ w. validity_bytes w ∷ offset_bytes order o offsets ∷ bytes_between offsets values ∷ []) ev
    ∙ ap (λ w. validity_bytes p.validity ∷ offset_bytes order o w ∷ bytes_between w values ∷ []) eo
    ∙ ap (λ w. validity_bytes p.validity ∷ offset_bytes order o p.offsets ∷ bytes_between p.offsets w ∷ []) ex
    ∙ ap (λ w. validity_bytes p.validity ∷ offset_bytes order w p.offsets ∷ bytes_between p.offsets p.values ∷ []) (sym ew)

-- no offset passes the width of its kind
pub offsets_fit : (l : Bool) (k : Kind) (xs offsets : List ℤ) → width_of_kind k ≡ offsets_by l → xs ≡ offsets → AllBelow (offset_limit (offsets_by l)) xs → OffsetsFit k offsets
offsets_fit l k xs offsets ew ex h =
    subst (λ o. AllByRecursion (λ x. magnitude x < offset_limit o) offsets) (sym ew) (subst (λ ys. AllByRecursion (λ x. magnitude x < offset_limit (offsets_by l)) ys) ex h.each)

pub leaf_same : (v w : Option (List Bool)) (xs ys : List ℕ) → v ≡ w → xs ≡ ys → validity_bytes v ∷ xs ∷ [] ≡ validity_bytes w ∷ ys ∷ []
leaf_same v w xs ys e f = ap (λ u. validity_bytes u ∷ xs ∷ []) e ∙ ap (λ u. validity_bytes w ∷ u ∷ []) f

pub views_same : (v w : Option (List Bool)) (xs ys : List ℕ) (bs cs : List (List ℕ)) → v ≡ w → xs ≡ ys → bs ≡ cs → validity_bytes v ∷ xs ∷ bs ≡ validity_bytes w ∷ ys ∷ cs
views_same v w xs ys bs cs e f h = ap (λ u. validity_bytes u ∷ xs ∷ bs) e ∙ ap (λ u. validity_bytes w ∷ u ∷ bs) f ∙ ap (λ u. validity_bytes w ∷ ys ∷ u) h
