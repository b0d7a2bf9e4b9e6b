-- Fields that are put under their names, one after another.
use Rattle.std.proofs.Common.{◌≡◌, ℕ, List, [], ◌∷◌, ◌++◌, map, Option, Some, None, Ok, Err, Bool, true, false, not, ◌&&◌, ◌||◌, refl, sym, ◌∙◌, ap, subst, append-nil, append_assoc, cond}
use Rattle.std.specs.Prelude.{is_some}
use Rattle.std.specs.Str.{bytes_eq}
use Rattle.std.proofs.lemmas.Slice.Eq.{bytes_eq-Decides}
use Rattle.arrow_spec.specs.declared.error.IpcError.{IpcError}
use Rattle.arrow_spec.specs.declared.error.IpcError.TheVariants.{Unsupported}
use Rattle.arrow_spec.specs.declared.error.Feature.TheVariants as features
use Rattle.arrow_spec.specs.Readings.{bind, Reading, unless, refusals}
use Rattle.ipc_fields.specs.Causes.{RefusesBytes}
use Rattle.arrow_spec.specs.Schema.{has_name, has_distinct_names}
use Rattle.arrow_types.specs.Child.{Child, fields_from}
use Rattle.arrow_types.specs.Schemas.{Keyed, field_under, with_field}
use Rattle.schema_reader.specs.Keyed.{keyed_by, keyed_distinct, put_keyed}
use Rattle.ipc_fields.proofs.Steps.{none_refused}

abbrev are_distinct : List Child → Bool
are_distinct xs = has_distinct_names (fields_from xs)

-- ── one field ──

no_field : (b : Bool) (c : Child) (r : Option Child) → cond b (Some c) r ≡ None → (b ≡ false) × (r ≡ None)
no_field true c r h = cc
no_field false c r h = (refl, h)

with_field-new : (key : List ℕ) (c : Child) (s : List Keyed) → field_under key s ≡ None → with_field key c s ≡ s ++ (key, c) ∷ []
with_field-new key c [] h = refl
with_field-new key c (p ∷ ps) h =
    let n = no_field (bytes_eq key p.0) p.1 (field_under key ps) h in
    rw (n.0, with_field-new key c ps n.1) refl

none_there : (o : Option Child) → is_some o ≡ false → o ≡ None
none_there None h = refl
none_there (Some c) h = cc

pub put_new : (x : Child) (s new : List Keyed) → is_some (field_under x.name s) ≡ false → new ≡ with_field x.name x s → put_keyed x s ≡ Ok new
unfolding put_keyed bind
put_new x s new none put =
    let o : field_under x.name s ≡ None = none_there (field_under x.name s) none in
    let e : new ≡ s ++ (x.name, x) ∷ [] = put ∙ with_field-new x.name x s o in
    rw (o, e) refl

pub put_there : (x : Child) (s : List Keyed) → is_some (field_under x.name s) ≡ true → put_keyed x s ≡ Err (Unsupported features.DuplicateField ∷ [])
unfolding put_keyed bind
put_there x s there = rw there refl

-- ── all fields ──

-- the fields that are left, put behind those that are there
unfoldable pub keyed_left : List Keyed → List Child → Reading (List Keyed)
keyed_left s [] = Ok s
keyed_left s (x ∷ xs) = bind (put_keyed x s) (λ t. keyed_left t xs)

-- none of the names is there
abbrev all_new : List Keyed → List Child → Bool
all_new s [] = true
all_new s (x ∷ xs) = not (is_some (field_under x.name s)) && all_new s xs

under-more : (key k : List ℕ) (c : Child) (s : List Keyed) → is_some (field_under key (s ++ (k, c) ∷ [])) ≡ (is_some (field_under key s) || bytes_eq key k)
under-more key k c [] = by_test (bytes_eq key k)
  where
    by_test : (b : Bool) → is_some (cond b (Some c) None) ≡ b
    by_test true = refl
    by_test false = refl
under-more key k c (p ∷ ps) = by_test (bytes_eq key p.0) p.1 (field_under key (ps ++ (k, c) ∷ [])) (field_under key ps) (under-more key k c ps)
  where
    by_test : (b : Bool) (d : Child) (r r' : Option Child) → is_some r ≡ (is_some r' || bytes_eq key k) → is_some (cond b (Some d) r) ≡ (is_some (cond b (Some d) r') || bytes_eq key k)
    by_test true d r r' h = refl
    by_test false d r r' h = h

same_bool : (b c : Bool) → (b ≡ true → c ≡ true) → (c ≡ true → b ≡ true) → b ≡ c
same_bool true true f g = refl
same_bool true false f g = sym (f refl)
same_bool false true f g = g refl
same_bool false false f g = refl

turned : (xs ys : List ℕ) → bytes_eq xs ys ≡ bytes_eq ys xs
turned xs ys = same_bool _ _ (λ h. (bytes_eq-Decides ys xs).1 (sym ((bytes_eq-Decides xs ys).0 h))) (λ h. (bytes_eq-Decides xs ys).1 (sym ((bytes_eq-Decides ys xs).0 h)))

arranged : (a e n h : Bool) → (not (a || e) && (n && not h)) ≡ ((not a && n) && not (e || h))
arranged true e n h = refl
arranged false true true h = refl
arranged false true false h = refl
arranged false false n h = refl

all_new-more : (s : List Keyed) (x : Child) (xs : List Child) → all_new (s ++ keyed_by x ∷ []) xs ≡ (all_new s xs && not (has_name x.name (fields_from xs)))
all_new-more s x [] = refl
all_new-more s x (y ∷ ys) =
    rw (under-more y.name x.name x s, all_new-more s x ys, turned y.name x.name) (arranged (is_some (field_under y.name s)) (bytes_eq x.name y.name) (all_new s ys) (has_name x.name (fields_from ys)))

both : (n h d : Bool) → ((n && not h) && d) ≡ (n && (not h && d))
both true h d = refl
both false h d = refl

abbrev Duplicate : IpcError
Duplicate = Unsupported features.DuplicateField

left-step : (f : Option Child) (s : List Keyed) (x : Child) (xs : List Child)
    → keyed_left (s ++ keyed_by x ∷ []) xs ≡ bind (unless (all_new (s ++ keyed_by x ∷ []) xs && are_distinct xs) Duplicate) (λ u. Ok ((s ++ keyed_by x ∷ []) ++ map keyed_by xs))
    → bind (bind (unless (not (is_some f)) Duplicate) (λ new. Ok (s ++ keyed_by x ∷ []))) (λ t. keyed_left t xs)
    ≡ bind (unless ((not (is_some f) && all_new s xs) && (not (has_name x.name (fields_from xs)) && are_distinct xs)) Duplicate) (λ u. Ok (s ++ keyed_by x ∷ map keyed_by xs))
unfolding bind
left-step (Some c) s x xs h = refl
left-step None s x xs h =
    let joined : (s ++ keyed_by x ∷ []) ++ map keyed_by xs ≡ s ++ keyed_by x ∷ map keyed_by xs = append_assoc s (keyed_by x ∷ []) (map keyed_by xs) in
    let test : (all_new (s ++ keyed_by x ∷ []) xs && are_distinct xs) ≡ (all_new s xs && (not (has_name x.name (fields_from xs)) && are_distinct xs)) = ap (λ n. n && are_distinct xs) (all_new-more s x xs) ∙ both (all_new s xs) (has_name x.name (fields_from xs)) (are_distinct xs) in
    h ∙ ap (λ ys. bind (unless (all_new (s ++ keyed_by x ∷ []) xs && are_distinct xs) Duplicate) (λ u. Ok ys)) joined ∙ ap (λ ok. bind (unless ok Duplicate) (λ u. Ok (s ++ keyed_by x ∷ map keyed_by xs))) test

left-all : (s : List Keyed) (xs : List Child) → keyed_left s xs ≡ bind (unless (all_new s xs && are_distinct xs) Duplicate) (λ u. Ok (s ++ map keyed_by xs))
unfolding keyed_left bind put_keyed
left-all s [] = ap Ok (sym (append-nil s))
left-all s (x ∷ xs) = left-step (field_under x.name s) s x xs (left-all (s ++ keyed_by x ∷ []) xs)

new_to_none : (xs : List Child) → all_new [] xs ≡ true
new_to_none [] = refl
new_to_none (x ∷ xs) = new_to_none xs

pub keyed_begun : (xs : List Child) (s : List Keyed) → s ≡ [] → keyed_left s xs ≡ keyed_distinct xs
unfolding keyed_distinct
keyed_begun xs s h = rw h (left-all [] xs ∙ ap (λ n. bind (unless (n && are_distinct xs) Duplicate) (λ u. Ok (map keyed_by xs))) (new_to_none xs))

pub keyed_more : (x : Child) (xs : List Child) (s t : List Keyed) (whole : Reading (List Keyed)) → keyed_left s (x ∷ xs) ≡ whole → put_keyed x s ≡ Ok t → keyed_left t xs ≡ whole
unfolding keyed_left bind
keyed_more x xs s t whole h put = sym (ap (λ r. bind r (λ t. keyed_left t xs)) put) ∙ h

pub keyed_done : (s : List Keyed) (xs : List Child) (whole : Reading (List Keyed)) → xs ≡ [] → keyed_left s xs ≡ whole → whole ≡ Ok s
unfolding keyed_left
keyed_done s xs whole none h = sym h ∙ ap (keyed_left s) none

pub put_there_new : (x : Child) (key : List ℕ) (c : Child) (s new : List Keyed) → key ≡ x.name → c ≡ x → is_some (field_under x.name s) ≡ false → new ≡ with_field key c s → put_keyed x s ≡ Ok new
put_there_new x key c s new k e none put = put_new x s new none (put ∙ ap (λ k. with_field k c s) k ∙ ap (λ d. with_field x.name d s) e)

refused_by : (e : IpcError) (r : Reading (List Keyed)) (x : Child) (xs : List Child) (s : List Keyed) (whole : Reading (List Keyed)) → keyed_left s (x ∷ xs) ≡ whole → put_keyed x s ≡ r → RefusesBytes e (refusals r) → RefusesBytes e (refusals whole)
unfolding keyed_left bind
refused_by e (Ok t) x xs s whole h put told = none_refused e (refusals whole) told
refused_by e (Err es) x xs s whole h put told =
    let all : whole ≡ Err es = sym h ∙ ap (λ r. bind r (λ t. keyed_left t xs)) put in
    subst (λ r. RefusesBytes e (refusals r)) (sym all) told

pub keyed_refused : (e : IpcError) (x : Child) (xs : List Child) (s : List Keyed) (whole : Reading (List Keyed)) → keyed_left s (x ∷ xs) ≡ whole → RefusesBytes e (refusals (put_keyed x s)) → RefusesBytes e (refusals whole)
keyed_refused e x xs s whole h told = refused_by e (put_keyed x s) x xs s whole h refl told
