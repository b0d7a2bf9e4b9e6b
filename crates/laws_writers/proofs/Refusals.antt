-- What readings are refused for, by what holds of each of their refusals.
use Rattle.std.proofs.Common.{◌≡◌, inl, inr, ℕ, suc, List, [], ◌∷◌, ◌++◌, Bool, true, false, Option, Ok, Err, subst}
use Rattle.std.specs.Prelude.{if◌then◌else◌}
use Rattle.arrow_spec.specs.declared.error.Feature.{Feature}
use Rattle.arrow_spec.specs.declared.error.IpcError.{IpcError}
use Rattle.arrow_spec.specs.declared.error.IpcError.TheVariants as errors
use Rattle.arrow_spec.specs.Columns.{is_chosen}
use Rattle.arrow_spec.specs.Features.{chosen_floats, float_faults, floats_in}
use Rattle.arrow_spec.specs.Kinds as kind
use Rattle.arrow_spec.specs.Kinds.{Fields, Kind}
use Rattle.arrow_spec.specs.Readings.{◌>>=◌, IsAmong, Reading, bind, free_of, refusals, unless}

among_both : (P : IpcError → Type 0) (xs ys : List IpcError) (e : IpcError) → (IsAmong xs e → P e) → (IsAmong ys e → P e) → IsAmong (xs ++ ys) e → P e
among_both P [] ys e f g m = g m
among_both P (x ∷ xs) ys e f g (inl h) = f (inl h)
among_both P (x ∷ xs) ys e f g (inr m) = among_both P xs ys e (λ n. f (inr n)) g m

-- ── readings ──

-- two places, one behind the other
pub refused_behind : {A B : Type 0} (P : IpcError → Type 0) (r : Reading A) (k : A → Reading B) (e : IpcError) → (IsAmong (refusals r) e → P e) → ((x : A) → IsAmong (refusals (k x)) e → P e) → IsAmong (refusals (r >>= k)) e → P e
unfolding bind
refused_behind P (Ok x) k e f g m = g x m
refused_behind P (Err es) k e f g m = f m

pub refused_unless : (P : IpcError → Type 0) (b : Bool) (x e : IpcError) → P x → IsAmong (refusals (unless b x)) e → P e
refused_unless P true x e h m = absurd m
refused_unless P false x e h (inl same) = subst P same h
refused_unless P false x e h (inr m) = absurd m

pub refused_of : (es : List IpcError) (e : IpcError) → IsAmong (refusals (free_of es)) e → IsAmong es e
refused_of [] e m = absurd m
refused_of (x ∷ xs) e m = m

-- ── kinds that no array is of ──

module _ (P : IpcError → Type 0) (of_feature : (feature : Feature) → P (errors.Unsupported feature)) where
  among_one : (x e : IpcError) → P x → IsAmong (x ∷ []) e → P e
  among_one x e h (inl same) = subst P same h
  among_one x e h (inr m) = absurd m

  mutual
    kind_floats : (k : Kind) (e : IpcError) → IsAmong (float_faults k) e → P e
    kind_floats (kind.float t) e m = among_one _ e (of_feature _) m
    kind_floats (kind.decimal256 precision scale) e m = among_one _ e (of_feature _) m
    kind_floats (kind.«list» o fs) e m = refused_floats fs e m
    kind_floats (kind.fixed_size_list n fs) e m = refused_floats fs e m
    kind_floats (kind.struct fs) e m = refused_floats fs e m
    kind_floats (kind.map sorted fs) e m = refused_floats fs e m
    kind_floats (kind.union mode stated ids fs) e m = refused_floats fs e m
    kind_floats (kind.extension name metadata k) e m = kind_floats k e m
    kind_floats (kind.dictionary t ordered id k) e m = kind_floats k e m
    kind_floats k e m = absurd m

    pub refused_floats : (fs : Fields) (e : IpcError) → IsAmong (floats_in fs) e → P e
    refused_floats kind.none e m = absurd m
    refused_floats (kind.field name nullable metadata k others) e m = among_both P (float_faults k) (floats_in others) e (kind_floats k e) (refused_floats others e) m

  chosen_kind : (b : Bool) (k : Kind) (e : IpcError) → IsAmong (if b then float_faults k else []) e → P e
  chosen_kind true k e m = kind_floats k e m
  chosen_kind false k e m = absurd m

  pub refused_chosen : (asked : Option (List ℕ)) (fs : Fields) (c : ℕ) (e : IpcError) → IsAmong (chosen_floats asked fs c) e → P e
  refused_chosen asked kind.none c e m = absurd m
  refused_chosen asked (kind.field name nullable metadata k others) c e m =
      among_both P (if is_chosen asked c then float_faults k else []) (chosen_floats asked others (suc c)) e (chosen_kind (is_chosen asked c) k e) (refused_chosen asked others (suc c) e) m
