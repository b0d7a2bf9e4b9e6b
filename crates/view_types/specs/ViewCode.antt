-- A view as a value that is stored, which tells one view from another.
use Rattle.std.specs.Prelude.{◌≡◌, ℕ, zero, suc, List, Bool, true, false, Option, ℤ, refl}
use Rattle.std.proofs.Common.{ap, ◌∙◌}
use Rattle.std.specs.Coded.{Coded, code_by, coded×, coded_ℕ, coded_ℤ, coded_list, coded_option, coded_bool}
use base.Stored.{Gv, gnil, gnum, gcons}
use Rattle.arrow_spec.specs.declared.types.IntegerType.{IntegerType}
use Rattle.arrow_spec.specs.declared.types.IntegerType.TheVariants.{Int8, Int16, Int32, Int64, Int128, UInt8, UInt16, UInt32, UInt64}
use Rattle.arrow_spec.specs.declared.types.UnionMode.{UnionMode}
use Rattle.arrow_spec.specs.declared.types.UnionMode.TheVariants.{Dense, Sparse}
use Rattle.view_types.specs.declared.layout.Range.{Range}
use Rattle.view_types.specs.declared.layout.Layout.{Layout}
use Rattle.view_types.specs.declared.layout.Layout.TheVariants.{Null, Boolean, Number, DayTime, MonthDayNano, Bytes, Views as Viewed, FixedBytes, Lists, FixedLists, Struct, Union, Dictionary}
use Rattle.view_types.specs.Views.{Top, View, Views, array, none, also}

abbrev pub head : Gv → Gv
head gnil = gnil
head (gnum n) = gnum n
head (gcons a b) = a

abbrev pub tail : Gv → Gv
tail gnil = gnil
tail (gnum n) = gnil
tail (gcons a b) = b

abbrev pub flag_to : Bool → ℕ
flag_to false = 0
flag_to true = 1

abbrev pub flag_from : ℕ → Bool
flag_from zero = false
flag_from (suc n) = true

pub flag_back : (b : Bool) → flag_from (flag_to b) ≡ b
flag_back false = refl
flag_back true = refl

abbrev pub integer_to : IntegerType → ℕ
integer_to Int8 = 0
integer_to Int16 = 1
integer_to Int32 = 2
integer_to Int64 = 3
integer_to Int128 = 4
integer_to UInt8 = 5
integer_to UInt16 = 6
integer_to UInt32 = 7
integer_to UInt64 = 8

abbrev pub integer_from : ℕ → IntegerType
integer_from zero = Int8
integer_from (suc zero) = Int16
integer_from (suc (suc zero)) = Int32
integer_from (suc (suc (suc zero))) = Int64
integer_from (suc (suc (suc (suc zero)))) = Int128
integer_from (suc (suc (suc (suc (suc zero))))) = UInt8
integer_from (suc (suc (suc (suc (suc (suc zero)))))) = UInt16
integer_from (suc (suc (suc (suc (suc (suc (suc zero))))))) = UInt32
integer_from (suc (suc (suc (suc (suc (suc (suc (suc n)))))))) = UInt64

pub integer_back : (t : IntegerType) → integer_from (integer_to t) ≡ t
integer_back Int8 = refl
integer_back Int16 = refl
integer_back Int32 = refl
integer_back Int64 = refl
integer_back Int128 = refl
integer_back UInt8 = refl
integer_back UInt16 = refl
integer_back UInt32 = refl
integer_back UInt64 = refl

abbrev pub mode_to : UnionMode → ℕ
mode_to Dense = 0
mode_to Sparse = 1

abbrev pub mode_from : ℕ → UnionMode
mode_from zero = Dense
mode_from (suc n) = Sparse

pub mode_back : (m : UnionMode) → mode_from (mode_to m) ≡ m
mode_back Dense = refl
mode_back Sparse = refl

-- a number for the variant, and what stands in it
abbrev pub layout_to : Layout → ℕ × (ℕ × ℕ)
layout_to Null = (0, (0, 0))
layout_to Boolean = (1, (0, 0))
layout_to (Number t) = (2, (integer_to t, 0))
layout_to DayTime = (3, (0, 0))
layout_to MonthDayNano = (4, (0, 0))
layout_to (Bytes l x) = (5, (flag_to l, flag_to x))
layout_to (Viewed x) = (6, (flag_to x, 0))
layout_to (FixedBytes n) = (7, (n, 0))
layout_to (Lists l) = (8, (flag_to l, 0))
layout_to (FixedLists n) = (9, (n, 0))
layout_to Struct = (10, (0, 0))
layout_to (Union m) = (11, (mode_to m, 0))
layout_to (Dictionary t) = (12, (integer_to t, 0))

abbrev pub layout_by : ℕ → ℕ → ℕ → Layout
layout_by zero a b = Null
layout_by (suc zero) a b = Boolean
layout_by (suc (suc zero)) a b = Number (integer_from a)
layout_by (suc (suc (suc zero))) a b = DayTime
layout_by (suc (suc (suc (suc zero)))) a b = MonthDayNano
layout_by (suc (suc (suc (suc (suc zero))))) a b = Bytes (flag_from a) (flag_from b)
layout_by (suc (suc (suc (suc (suc (suc zero)))))) a b = Viewed (flag_from a)
layout_by (suc (suc (suc (suc (suc (suc (suc zero))))))) a b = FixedBytes a
layout_by (suc (suc (suc (suc (suc (suc (suc (suc zero)))))))) a b = Lists (flag_from a)
layout_by (suc (suc (suc (suc (suc (suc (suc (suc (suc zero))))))))) a b = FixedLists a
layout_by (suc (suc (suc (suc (suc (suc (suc (suc (suc (suc zero)))))))))) a b = Struct
layout_by (suc (suc (suc (suc (suc (suc (suc (suc (suc (suc (suc zero))))))))))) a b = Union (mode_from a)
layout_by (suc (suc (suc (suc (suc (suc (suc (suc (suc (suc (suc (suc n)))))))))))) a b = Dictionary (integer_from a)

abbrev pub layout_from : ℕ × (ℕ × ℕ) → Layout
layout_from p = layout_by p.0 p.1.0 p.1.1

pub layout_back : (l : Layout) → layout_from (layout_to l) ≡ l
layout_back Null = refl
layout_back Boolean = refl
layout_back (Number t) = ap Number (integer_back t)
layout_back DayTime = refl
layout_back MonthDayNano = refl
layout_back (Bytes l x) = ap (λ b. Bytes b (flag_from (flag_to x))) (flag_back l) ∙ ap (λ b. Bytes l b) (flag_back x)
layout_back (Viewed x) = ap Viewed (flag_back x)
layout_back (FixedBytes n) = refl
layout_back (Lists l) = ap Lists (flag_back l)
layout_back (FixedLists n) = refl
layout_back Struct = refl
layout_back (Union m) = ap Union (mode_back m)
layout_back (Dictionary t) = ap Dictionary (integer_back t)

abbrev pub layout_code : Coded Layout
layout_code = code_by (ℕ × (ℕ × ℕ)) (coded× coded_ℕ (coded× coded_ℕ coded_ℕ)) layout_to layout_from layout_back

abbrev pub range_code : Coded Range
range_code = code_by (ℕ × ℕ) (coded× coded_ℕ coded_ℕ) (λ r. (r.at, r.length)) (λ p. record { at = p.0; length = p.1 }) (λ _. refl)

abbrev pub top_code : Coded Top
top_code =
    code_by (List ℕ × (Bool × (Layout × (ℕ × (List ℤ × (Option Range × (Range × (Range × List Range))))))))
    (coded× (coded_list coded_ℕ) (coded× coded_bool (coded× layout_code (coded× coded_ℕ (coded× (coded_list coded_ℤ)
    (coded× (coded_option range_code) (coded× range_code (coded× range_code (coded_list range_code)))))))))
    (λ t. (t.input, (t.is_big, (t.layout, (t.rows, (t.ids, (t.validity, (t.first, (t.second, t.buffers)))))))))
    (λ p. record {
      input = p.0;
      is_big = p.1.0;
      layout = p.1.1.0;
      rows = p.1.1.1.0;
      ids = p.1.1.1.1.0;
      validity = p.1.1.1.1.1.0;
      first = p.1.1.1.1.1.1.0;
      second = p.1.1.1.1.1.1.1.0;
      buffers = p.1.1.1.1.1.1.1.1;
    }) (λ _. refl)

abbrev mutual
  pub view_to : View → Gv
  view_to (array t cs) = gcons (top_code.code t) (views_to cs)

  pub views_to : Views → Gv
  views_to none = gnil
  views_to (also v vs) = gcons (view_to v) (views_to vs)

mutual
  pub view_inj : (v w : View) → view_to v ≡ view_to w → v ≡ w
  view_inj (array t cs) (array u ds) e = ap (λ x. array x cs) (top_code.inj t u (ap head e)) ∙ ap (array u) (views_inj cs ds (ap tail e))

  pub views_inj : (cs ds : Views) → views_to cs ≡ views_to ds → cs ≡ ds
  views_inj none none e = refl
  views_inj none (also w ds) e = cc
  views_inj (also v cs) none e = cc
  views_inj (also v cs) (also w ds) e = ap (λ x. also x cs) (view_inj v w (ap head e)) ∙ ap (also w) (views_inj cs ds (ap tail e))

abbrev pub view_code : Coded View
view_code = record { code = view_to; inj = view_inj }
