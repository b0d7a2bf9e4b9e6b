-- The kinds that are never read, in the fields that are asked for: they are those of the columns, in another order.
use Rattle.std.proofs.Common.{◌≡◌, ◌⊎◌, inl, inr, ℕ, zero, suc, ◌+◌, List, [], ◌∷◌, ◌++◌, Bool, true, false, Option, Some, None, refl, sym, ap, subst, ◌∙◌, arith, cond}
use Rattle.arrow_spec.specs.declared.error.IpcError.{IpcError}
use Rattle.arrow_spec.specs.Columns.{is_chosen, stands_in}
use Rattle.arrow_spec.specs.Features.{chosen_floats, float_faults, floats_in}
use Rattle.arrow_spec.specs.Files.{fields_as_asked, fields_asked, with_field_at}
use Rattle.arrow_spec.specs.Kinds.{Kind, Fields, Metadata, none, field}
use Rattle.arrow_spec.specs.Readings.{IsAmong}
use Rattle.laws_writers.proofs.Uses.{all_floats}
use Rattle.ipc_files.proofs.Below.{among_left, among_right, among_split}
use Rattle.laws_transcode.proofs.ChosenColumns.{stands_either, stands_first, stands_later}

-- ── from the columns to the fields ──

put_later : (fs : Fields) (i : ℕ) (others : Fields) (e : IpcError) → IsAmong (floats_in others) e → IsAmong (floats_in (with_field_at fs i others)) e
put_later none i others e h = h
put_later (field name nullable metadata k fs) zero others e h = among_right (float_faults k) (floats_in others) e h
put_later (field name nullable metadata k fs) (suc i) others e h = put_later fs i others e h

-- a column that is asked for has it, at whatever place its field is put
abbrev IsOfColumn : Option (List ℕ) → Fields → ℕ → IpcError → Type 0
IsOfColumn asked fs c e = (i : ℕ) × (is_chosen asked (c + i) ≡ true) × ((others : Fields) → IsAmong (floats_in (with_field_at fs i others)) e)

among_either : (xs ys : List IpcError) (e : IpcError) → IsAmong (xs ++ ys) e → IsAmong xs e ⊎ IsAmong ys e
among_either [] ys e h = inr h
among_either (x ∷ xs) ys e (inl h) = inl (inl h)
among_either (x ∷ xs) ys e (inr h) = elim (among_either xs ys e h) [ inl g ↦ inl (inr g) | inr g ↦ inr g ]

module _ (asked : Option (List ℕ)) (name : List ℕ) (nullable : Bool) (metadata : Metadata) (k : Kind) (fs : Fields) (c : ℕ) (e : IpcError) where
  first_column : (b : Bool) → is_chosen asked c ≡ b → IsAmong (cond b (float_faults k) []) e → IsOfColumn asked (field name nullable metadata k fs) c e
  first_column true is h =
      let same : c + 0 ≡ c = omega arith in
      (0, ap (is_chosen asked) same ∙ is, λ others. among_left (float_faults k) (floats_in others) e h)
  first_column false is h = absurd h

  later_column : IsOfColumn asked fs (suc c) e → IsOfColumn asked (field name nullable metadata k fs) c e
  later_column h =
      let same : c + suc h.0 ≡ suc c + h.0 = omega arith in
      (suc h.0, ap (is_chosen asked) same ∙ h.1, h.2)

of_column : (asked : Option (List ℕ)) (fs : Fields) (c : ℕ) (e : IpcError) → IsAmong (chosen_floats asked fs c) e → IsOfColumn asked fs c e
of_column asked none c e h = absurd h
of_column asked (field name nullable metadata k fs) c e h = elim (among_either (cond (is_chosen asked c) (float_faults k) []) (chosen_floats asked fs (suc c)) e h) [
  | inl g ↦ first_column asked name nullable metadata k fs c e (is_chosen asked c) refl g
  | inr g ↦ later_column asked name nullable metadata k fs c e (of_column asked fs (suc c) e g)
]

there_asked : (fs : Fields) (cs : List ℕ) (i : ℕ) (e : IpcError) → stands_in cs i ≡ true → ((others : Fields) → IsAmong (floats_in (with_field_at fs i others)) e) → IsAmong (floats_in (fields_asked fs cs)) e
there_asked fs [] i e is h = cc
there_asked fs (c ∷ cs) i e is h = elim (stands_either c i cs is) [
  | inl here ↦ subst (λ j. IsAmong (floats_in (with_field_at fs j (fields_asked fs cs))) e) (sym here) (h (fields_asked fs cs))
  | inr later ↦ put_later fs c (fields_asked fs cs) e (there_asked fs cs i e later h)
]

pub chosen_asked : (fs : Fields) (columns : Option (List ℕ)) (e : IpcError) → IsAmong (chosen_floats columns fs 0) e → IsAmong (floats_in (fields_as_asked columns fs)) e
chosen_asked fs None e h = subst (λ es. IsAmong es e) (all_floats fs 0) h
chosen_asked fs (Some cs) e h =
    let there = of_column (Some cs) fs 0 e h in
    let same : there.0 ≡ 0 + there.0 = omega arith in
    there_asked fs cs there.0 e (ap (stands_in cs) same ∙ there.1) there.2

-- ── and back ──

put_chosen : (asked : Option (List ℕ)) (fs : Fields) (c i j : ℕ) (others : Fields) (all : List IpcError) (e : IpcError) → c + i ≡ j → is_chosen asked j ≡ true → ((x : IpcError) → IsAmong (chosen_floats asked fs c) x → IsAmong all x)
    → ((x : IpcError) → IsAmong (floats_in others) x → IsAmong all x) → IsAmong (floats_in (with_field_at fs i others)) e → IsAmong all e
put_chosen asked none c i j others all e at is l r h = r e h
put_chosen asked (field name nullable metadata k fs) c zero j others all e at is l r h =
    let same : j ≡ c = omega (arith, at) in
    let here : is_chosen asked c ≡ true = rw same at is in
    among_split (float_faults k) (floats_in others) all e (λ x m. l x (among_left _ (chosen_floats asked fs (suc c)) x (subst (λ b. IsAmong (cond b (float_faults k) []) x) (sym here) m))) r h
put_chosen asked (field name nullable metadata k fs) c (suc i) j others all e at is l r h = put_chosen asked fs (suc c) i j others all e (omega (arith, at)) is (λ x m. l x (among_right _ (chosen_floats asked fs (suc c)) x m)) r h

those_chosen : (asked : List ℕ) (fs : Fields) (cs : List ℕ) (e : IpcError) → ((c : ℕ) → stands_in cs c ≡ true → stands_in asked c ≡ true) → IsAmong (floats_in (fields_asked fs cs)) e → IsAmong (chosen_floats (Some asked) fs 0) e
those_chosen asked fs [] e within h = absurd h
those_chosen asked fs (c ∷ cs) e within h =
    put_chosen (Some asked) fs 0 c c (fields_asked fs cs) (chosen_floats (Some asked) fs 0) e (omega arith) (within c (stands_first c cs)) (λ x m. m) (λ x m. those_chosen asked fs cs x (λ d is. within d (stands_later c d cs is)) m) h

pub asked_chosen : (fs : Fields) (columns : Option (List ℕ)) (e : IpcError) → IsAmong (floats_in (fields_as_asked columns fs)) e → IsAmong (chosen_floats columns fs 0) e
asked_chosen fs None e h = subst (λ es. IsAmong es e) (sym (all_floats fs 0)) h
asked_chosen fs (Some cs) e h = those_chosen cs fs cs e (λ c is. is) h

-- so there are none in both, or in neither
pub none_chosen : (fs : Fields) (columns : Option (List ℕ)) → floats_in (fields_as_asked columns fs) ≡ [] → chosen_floats columns fs 0 ≡ []
none_chosen fs columns h = by (chosen_floats columns fs 0) (λ e m. subst (λ es. IsAmong es e) h (chosen_asked fs columns e m))
  where
    by : (es : List IpcError) → ((e : IpcError) → IsAmong es e → ⊥) → es ≡ []
    by [] n = refl
    by (e ∷ es) n = absurd (n e (inl refl))
