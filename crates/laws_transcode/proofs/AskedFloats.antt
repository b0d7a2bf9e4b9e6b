-- Where no column that is asked for has a float, none stands in the fields in the order asked.
use Rattle.std.proofs.Common.{◌≡◌, ℕ, zero, suc, ◌+◌, List, [], ◌∷◌, ◌++◌, Bool, true, false, Option, Some, None, refl, ◌∙◌, arith, cond}
use Rattle.arrow_spec.specs.declared.error.IpcError.{IpcError}
use Rattle.arrow_spec.specs.Kinds.{Fields, none, field}
use Rattle.arrow_spec.specs.Columns.{is_chosen, stands_in}
use Rattle.arrow_spec.specs.Features.{chosen_floats, float_faults, floats_in}
use Rattle.arrow_spec.specs.Files.{fields_as_asked, fields_asked, with_field_at}
use Rattle.arrow_spec.proofs.Fewer.{none_both, none_first, none_second}
use Rattle.laws_transcode.proofs.ChosenColumns.{stands_first, stands_later}

-- those of one column
abbrev floats_at : Fields → ℕ → List IpcError
floats_at none i = []
floats_at (field name nullable metadata k others) zero = float_faults k
floats_at (field name nullable metadata k others) (suc i) = floats_at others i

with_floats : (fs : Fields) (i : ℕ) (others : Fields) → floats_in (with_field_at fs i others) ≡ floats_at fs i ++ floats_in others
with_floats none i others = refl
with_floats (field name nullable metadata k fs) zero others = refl
with_floats (field name nullable metadata k fs) (suc i) others = with_floats fs i others

chosen_column : (b : Bool) (es : List IpcError) → cond b es [] ≡ [] → b ≡ true → es ≡ []
chosen_column true es h is = h
chosen_column false es h is = cc

floats_there : (asked : Option (List ℕ)) (fs : Fields) (c i j : ℕ) → c + i ≡ j → is_chosen asked j ≡ true → chosen_floats asked fs c ≡ [] → floats_at fs i ≡ []
floats_there asked none c i j at is h = refl
floats_there asked (field name nullable metadata k others) c zero j at is h =
    let same : j ≡ c = omega (arith, at) in chosen_column (is_chosen asked c) (float_faults k) (none_first _ _ h) (rw same at is)
floats_there asked (field name nullable metadata k others) c (suc i) j at is h = floats_there asked others (suc c) i j (omega (arith, at)) is (none_second _ _ h)

floats_in_order : (fs : Fields) (cs : List ℕ) → ((c : ℕ) → stands_in cs c ≡ true → floats_at fs c ≡ []) → floats_in (fields_asked fs cs) ≡ []
floats_in_order fs [] h = refl
floats_in_order fs (c ∷ cs) h = with_floats fs c (fields_asked fs cs) ∙ none_both _ _ (h c (stands_first c cs)) (floats_in_order fs cs (λ x is. h x (stands_later c x cs is)))

all_floats : (fs : Fields) (c : ℕ) → chosen_floats None fs c ≡ [] → floats_in fs ≡ []
all_floats none c h = refl
all_floats (field name nullable metadata k others) c h = none_both (float_faults k) _ (none_first (float_faults k) _ h) (all_floats others (suc c) (none_second (float_faults k) _ h))

pub floats_asked : (fs : Fields) (columns : Option (List ℕ)) → chosen_floats columns fs 0 ≡ [] → floats_in (fields_as_asked columns fs) ≡ []
floats_asked fs None h = all_floats fs 0 h
floats_asked fs (Some cs) h = floats_in_order fs cs (λ c is. floats_there (Some cs) fs 0 c c (omega arith) is h)

-- the same of all of them
pub no_floats : (fs : Fields) (c : ℕ) → floats_in fs ≡ [] → chosen_floats None fs c ≡ []
no_floats none c h = refl
no_floats (field name nullable metadata k others) c h = none_both (float_faults k) _ (none_first (float_faults k) _ h) (no_floats others (suc c) (none_second (float_faults k) _ h))
