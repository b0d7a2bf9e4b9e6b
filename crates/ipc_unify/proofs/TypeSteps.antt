-- Counting dictionaries, and gathering the kinds of their values, type by type.
use Rattle.std.proofs.Common.{◌≡◌, ◌∙◌, sym, refl, ap, ℕ, zero, suc, ◌+◌, ◌<◌, List, [], ◌∷◌, ◌++◌, Option, Some, None, Result, Ok, Err, IfOk, IfSome, map, drop, length, get_or, arith, append-nil, append_assoc}
use Rattle.std.proofs.lemmas.List.{map-append}
use Rattle.std.proofs.Math.Seq.{drop-cons}
use Rattle.arrow_spec.specs.Kinds as kind
use Rattle.arrow_spec.specs.Kinds.{Fields, Kind, dictionary_count, dictionary_counts, uses_in, uses_of}
use Rattle.arrow_types.specs.Child.{Child, one_field}
use Rattle.arrow_types.specs.KindOf.{child_of, fields_of, kind_of}
use Rattle.arrow_types.specs.Schemas.{Keyed, fields_in}
use Rattle.arrow_types.specs.declared.data_type.Field.{Field}
use Rattle.arrow_types.proofs.DataTypes.{kind_of_child}
use Rattle.laws_unify.specs.United.{kinds_of, values_kinds}

pub some_as : (r : Option ℕ) (m n : ℕ) → m ≡ n → IfSome r (λ x. x ≡ m) → IfSome r (λ x. x ≡ n)
some_as (Some x) m n e h = h ∙ e
some_as None m n e h = tt

-- the dictionaries of one field
pub one_count : (f : Field) → dictionary_count (kind_of f.dtype) ≡ dictionary_counts (one_field (child_of f))
one_count f = let e = ap dictionary_count (kind_of_child f) in omega (arith, e)

-- and of one field more
pub next_count : (fs : List Field) (i count more total : ℕ) (f : Field) → i < length fs → f ≡ get_or fs i f → more ≡ dictionary_count (kind_of f.dtype) → count + dictionary_counts (fields_of (drop i fs)) ≡ total
    → (count + more) + dictionary_counts (fields_of (drop (i + 1) fs)) ≡ total
next_count fs i count more total f h e m t =
    let n : suc i ≡ i + 1 = omega arith in
    let here : drop i fs ≡ f ∷ drop (i + 1) fs = drop-cons fs i f h ∙ ap (λ y. y ∷ drop (suc i) fs) (sym e) ∙ ap (λ k. f ∷ drop k fs) n in
    let counts : dictionary_counts (fields_of (drop i fs)) ≡ dictionary_count (child_of f).kind + dictionary_counts (fields_of (drop (i + 1) fs)) = ap (λ gs. dictionary_counts (fields_of gs)) here in
    let own = ap dictionary_count (kind_of_child f) in
    omega (arith, counts, own, m, t)

-- ── values ──

pub grown_as : {E : Type 0} (r : Result (Unit {0}) E) (new old more others : List Kind) → more ≡ others → IfOk r (λ x. new ≡ old ++ more) → IfOk r (λ x. new ≡ old ++ others)
grown_as (Ok x) new old more others h g = g ∙ ap (λ ks. old ++ ks) h
grown_as (Err e) new old more others h g = tt

pub grown_twice : {E : Type 0} (r : Result (Unit {0}) E) (new mid old : List Kind) (k : Kind) (more : List Kind) → mid ≡ old ++ k ∷ [] → IfOk r (λ x. new ≡ mid ++ more) → IfOk r (λ x. new ≡ old ++ (k ∷ more))
grown_twice (Ok x) new mid old k more h g = g ∙ ap (λ ks. ks ++ more) h ∙ append_assoc old (k ∷ []) more
grown_twice (Err e) new mid old k more h g = tt

first_kinds : (c : Child) (fs : Fields) → values_kinds (kind.field c.name c.nullable c.metadata c.kind fs) ≡ kinds_of c.kind ++ values_kinds fs
first_kinds c fs = map-append (λ u. u.values) (uses_of c.kind) (uses_in fs)

pub one_values : (f : Field) → kinds_of (kind_of f.dtype) ≡ values_kinds (one_field (child_of f))
one_values f = ap kinds_of (sym (kind_of_child f)) ∙ sym (append-nil (kinds_of (child_of f).kind)) ∙ sym (first_kinds (child_of f) kind.none)

pub next_values : (fs : List Field) (i : ℕ) (old new total : List Kind) (f : Field) → i < length fs → f ≡ get_or fs i f → new ≡ old ++ kinds_of (kind_of f.dtype) → old ++ values_kinds (fields_of (drop i fs)) ≡ total
    → new ++ values_kinds (fields_of (drop (i + 1) fs)) ≡ total
next_values fs i old new total f h e g t =
    let n : suc i ≡ i + 1 = omega arith in
    let rest = values_kinds (fields_of (drop (i + 1) fs)) in
    let here : drop i fs ≡ f ∷ drop (i + 1) fs = drop-cons fs i f h ∙ ap (λ y. y ∷ drop (suc i) fs) (sym e) ∙ ap (λ k. f ∷ drop k fs) n in
    let all : values_kinds (fields_of (drop i fs)) ≡ kinds_of (kind_of f.dtype) ++ rest = ap (λ gs. values_kinds (fields_of gs)) here ∙ first_kinds (child_of f) (fields_of (drop (i + 1) fs)) ∙ ap (λ k. kinds_of k ++ rest) (kind_of_child f) in
    ap (λ ks. ks ++ rest) g ∙ append_assoc old (kinds_of (kind_of f.dtype)) rest ∙ ap (λ ks. old ++ ks) (sym all) ∙ t

pub next_entry : (old new total : List Kind) (p : Keyed) (f : Field) (left : List Keyed) → p.1 ≡ child_of f → new ≡ old ++ kinds_of (kind_of f.dtype) → old ++ values_kinds (fields_in (p ∷ left)) ≡ total → new ++ values_kinds (fields_in left) ≡ total
next_entry old new total p f left e g t =
    let rest = values_kinds (fields_in left) in
    let own : p.1.kind ≡ kind_of f.dtype = ap (λ c. c.kind) e ∙ kind_of_child f in
    let all : values_kinds (fields_in (p ∷ left)) ≡ kinds_of (kind_of f.dtype) ++ rest = first_kinds p.1 (fields_in left) ∙ ap (λ k. kinds_of k ++ rest) own in
    ap (λ ks. ks ++ rest) g ∙ append_assoc old (kinds_of (kind_of f.dtype)) rest ∙ ap (λ ks. old ++ ks) (sym all) ∙ t
