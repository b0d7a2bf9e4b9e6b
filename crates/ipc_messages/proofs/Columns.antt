-- The types of columns beside those of fields, one by one.
use Rattle.std.proofs.Common.{◌≡◌, ℕ, zero, suc, ◌+◌, ◌<◌, List, [], ◌∷◌, length, drop, get_or, map, Some, Bool, true, false, refl, sym, ap, ◌∙◌, arith, rules}
use Rattle.std.specs.Prelude.{◌&&◌, slice_get}
use Rattle.std.proofs.lemmas.Option.{slice_get-get_or, slice_get-map}
use Rattle.arrow_spec.specs.Kinds.{have_same_kinds, is_same_kind}
use Rattle.arrow_types.specs.Child.{Child, fields_from}
use Rattle.arrow_types.specs.KindOf.{child_of, kind_of}
use Rattle.arrow_types.specs.Schemas.{Keyed}
use Rattle.arrow_types.specs.declared.data_type.Field.{Field, the_lemmas}
use Rattle.arrow_arrays.specs.Parts.{kind_in}
use Rattle.arrow_arrays.specs.PartsOf.{forest_of, parts_of}
use Rattle.arrow_arrays.specs.declared.array.Array.{Array}
use Rattle.arrow_arrays.specs.Columns.{columns_of}

pub kind_of_field : (f : Field) → (child_of f).kind ≡ kind_of f.dtype
kind_of_field f = search (rules, the_lemmas)

abbrev pub child_in : Keyed → Child
child_in p = p.1

-- the field at a place
pub field_item : (fs : List Field) (i : ℕ) (x : Field) → i < length fs → x ≡ get_or fs i x → slice_get (map child_of fs) i ≡ Some (child_of x)
field_item fs i x within h =
    let e = slice_get-map child_of fs i in
    let found = slice_get-get_or fs i x within in
    cc

-- a field and a column, and those behind them
pub kinds_left : (cs : List Child) (xs : List Array) (i : ℕ) (c : Child) (x : Array) → slice_get cs i ≡ Some c → i < length xs → x ≡ get_or xs i x
    → have_same_kinds (fields_from (drop i cs)) (columns_of (forest_of (drop i xs))) ≡ (is_same_kind c.kind (kind_in (parts_of x)) && have_same_kinds (fields_from (drop (i + 1) cs)) (columns_of (forest_of (drop (i + 1) xs))))
kinds_left [] xs i c x h k e = cc
kinds_left (d ∷ cs) [] i c x h k e = absurd (omega (arith, k))
kinds_left (d ∷ cs) (y ∷ xs) zero c x h k e =
    let f : d ≡ c = cc in
    ap (λ (z : Child). is_same_kind z.kind (kind_in (parts_of y)) && have_same_kinds (fields_from cs) (columns_of (forest_of xs))) f
    ∙ ap (λ z. is_same_kind c.kind (kind_in (parts_of z)) && have_same_kinds (fields_from cs) (columns_of (forest_of xs))) (sym e)
kinds_left (d ∷ cs) (y ∷ xs) (suc i) c x h k e =
    let n : suc i + 1 ≡ suc (i + 1) = omega arith in
    rw n (kinds_left cs xs i c x h (omega (arith, k)) e)

pub one_differs : (all left rest : Bool) (here : Bool) → all ≡ left → left ≡ (here && rest) → here ≡ false → false ≡ all
one_differs all left rest here h k is = sym (h ∙ k ∙ ap (λ x. x && rest) is)

pub one_agrees : (all left rest : Bool) (here : Bool) → all ≡ left → left ≡ (here && rest) → here ≡ true → all ≡ rest
one_agrees all left rest here h k is = h ∙ k ∙ ap (λ x. x && rest) is

-- there are not as many
pub widths_differ : (cs : List Child) (xs : List Array) → (length cs ≡ length xs → ⊥) → have_same_kinds (fields_from cs) (columns_of (forest_of xs)) ≡ false
widths_differ [] [] h = absurd (h refl)
widths_differ [] (x ∷ xs) h = refl
widths_differ (c ∷ cs) [] h = refl
widths_differ (c ∷ cs) (x ∷ xs) h =
    rw (widths_differ cs xs (λ e. h (omega (arith, e)))) (never (is_same_kind c.kind (kind_in (parts_of x))))
  where
    never : (b : Bool) → (b && false) ≡ false
    never true = refl
    never false = refl
