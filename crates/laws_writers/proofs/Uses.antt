-- What holds of each use of a dictionary holds of the kind that fields have under an id.
use Rattle.std.proofs.Common.{◌≡◌, ◌++◌, ℕ, suc, ℤ, List, [], ◌∷◌, Bool, true, false, Some, None, refl, sym, ap, subst, ◌∙◌}
use Rattle.std.specs.Prelude.{if◌then◌else◌}
use Rattle.std.specs.List.{AllByRecursion}
use Rattle.arrow_spec.specs.Features.{chosen_floats, float_faults, floats_in}
use Rattle.arrow_spec.specs.Kinds as kind
use Rattle.arrow_spec.specs.Kinds.{Kind, Fields, Use, same, uses_in, uses_of, values_under}
use Rattle.arrow_spec.proofs.Fewer.{none_first, none_second}
use Rattle.arrow_spec.proofs.SameIds.{id_true}
use Rattle.laws_columns.proofs.Below.{join}

pub under_has : (Q : ℤ → Kind → Type 0) (us : List Use) (id : ℤ) (k : Kind) → AllByRecursion (λ u. Q u.id u.values) us → values_under id us ≡ Some k → Q id k
under_has Q [] id k all e = cc
under_has Q (u ∷ us) id k all e = by (same u.id id) refl (under_has Q us id k all.1) e
  where
    by : (b : Bool) → same u.id id ≡ b → (values_under id us ≡ Some k → Q id k) → (if b then Some u.values else values_under id us) ≡ Some k → Q id k
    by true s rest g = let is : u.values ≡ k = cc in subst (λ z. Q z k) (id_true u.id id s) (subst (λ z. Q u.id z) is all.0)
    by false s rest g = rest g

-- where no floats stand in fields, none do in the values of a dictionary
mutual
  free_kind : (k : Kind) → float_faults k ≡ [] → AllByRecursion (λ u. float_faults u.values ≡ []) (uses_of k)
  free_kind (kind.«list» o fs) h = free_fields fs h
  free_kind (kind.fixed_size_list n fs) h = free_fields fs h
  free_kind (kind.struct fs) h = free_fields fs h
  free_kind (kind.map sorted fs) h = free_fields fs h
  free_kind (kind.union mode stated types fs) h = free_fields fs h
  free_kind (kind.dictionary t ordered id k) h = (h, free_kind k h)
  free_kind (kind.extension name metadata k) h = free_kind k h
  free_kind k h = tt

  free_fields : (fs : Fields) → floats_in fs ≡ [] → AllByRecursion (λ u. float_faults u.values ≡ []) (uses_in fs)
  free_fields kind.none h = tt
  free_fields (kind.field name nullable metadata k fs) h =
      join (λ u. float_faults u.values ≡ []) (uses_of k) (uses_in fs) (free_kind k (none_first (float_faults k) (floats_in fs) h)) (free_fields fs (none_second (float_faults k) (floats_in fs) h))

pub all_floats : (fs : Fields) (c : ℕ) → chosen_floats None fs c ≡ floats_in fs
all_floats kind.none c = refl
all_floats (kind.field name nullable metadata k fs) c = ap (λ es. float_faults k ++ es) (all_floats fs (suc c))

pub free_under : (fs : Fields) (id : ℤ) (k : Kind) → chosen_floats None fs 0 ≡ [] → values_under id (uses_in fs) ≡ Some k → float_faults k ≡ []
free_under fs id k h e = under_has (λ i l. float_faults l ≡ []) (uses_in fs) id k (free_fields fs (sym (all_floats fs 0) ∙ h)) e
