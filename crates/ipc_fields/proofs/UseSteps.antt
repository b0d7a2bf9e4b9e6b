-- Uses of dictionaries, one after another.
use Rattle.std.proofs.Common.{◌≡◌, ℕ, zero, suc, ◌+◌, List, [], ◌∷◌, ◌++◌, drop, Result, Ok, Err, refl, sym, ◌∙◌, ap, append_assoc, append-nil, add-one}
use Rattle.std.specs.Prelude.{IfOk}
use Rattle.arrow_spec.specs.Kinds as kind
use Rattle.arrow_spec.specs.Kinds.{Fields, Use, uses_of, uses_in}
use Rattle.arrow_types.specs.Child.{Child, fields_from, one_field}
use Rattle.ipc_fields.specs.IpcFields.{Ids, no_fields, ids, ids_of, kind_with, fields_with}
use Rattle.ipc_fields.specs.Uses.{first_id, first_ids, other_ids}
use Rattle.ipc_fields.specs.declared.ipc_field.IpcField.{IpcField}

-- the uses of fields are those of the first one and of the others
pub first_uses : (c : Child) (fs : Fields) (below : Ids) → uses_in (fields_with (kind.field c.name c.nullable c.metadata c.kind fs) below) ≡ uses_of (kind_with c.kind (first_id below) (first_ids below)) ++ uses_in (fields_with fs (other_ids below))
first_uses c fs no_fields = refl
first_uses c fs (ids id below others) = refl

pub one_use : (c : Child) (below : Ids) → uses_of (kind_with c.kind (first_id below) (first_ids below)) ≡ uses_in (fields_with (one_field c) below)
one_use c below = sym (first_uses c kind.none below ∙ append-nil (uses_of (kind_with c.kind (first_id below) (first_ids below))))

abbrev pub Grown : List Use → List Use → List Use → Type 0
Grown new old more = new ≡ old ++ more

pub grown_as : {E : Type 0} (r : Result (Unit {0}) E) (new old more others : List Use) → more ≡ others → IfOk r (λ x. Grown new old more) → IfOk r (λ x. Grown new old others)
grown_as (Ok x) new old more others h g = g ∙ ap (λ us. old ++ us) h
grown_as (Err e) new old more others h g = tt

pub grown_twice : {E : Type 0} (r : Result (Unit {0}) E) (new mid old : List Use) (u : Use) (more : List Use) → mid ≡ old ++ u ∷ [] → IfOk r (λ x. Grown new mid more) → IfOk r (λ x. Grown new old (u ∷ more))
grown_twice (Ok x) new mid old u more h g = g ∙ ap (λ us. us ++ more) h ∙ append_assoc old (u ∷ []) more
grown_twice (Err e) new mid old u more h g = tt

pub next_ids : (fs : List IpcField) (i : ℕ) → other_ids (ids_of (drop i fs)) ≡ ids_of (drop (suc i) fs)
next_ids [] zero = refl
next_ids [] (suc i) = refl
next_ids (f ∷ fs) zero = refl
next_ids (f ∷ fs) (suc i) = next_ids fs i

pub others_at : (fs : List IpcField) (i : ℕ) → other_ids (ids_of (drop i fs)) ≡ ids_of (drop (i + 1) fs)
others_at fs i = next_ids fs i ∙ ap (λ n. ids_of (drop n fs)) (sym (add-one i))

-- the uses in the fields that are left, of which the first stands at a place, and in those behind it
pub next_uses : (here behind : List Child) (c : Child) (fs : List IpcField) (i : ℕ) (old new whole : List Use) → here ≡ c ∷ behind
    → old ++ uses_in (fields_with (fields_from here) (ids_of (drop i fs))) ≡ whole
    → new ≡ old ++ uses_of (kind_with c.kind (first_id (ids_of (drop i fs))) (first_ids (ids_of (drop i fs))))
    → new ++ uses_in (fields_with (fields_from behind) (ids_of (drop (i + 1) fs))) ≡ whole
next_uses here behind c fs i old new whole e h g =
    let below = ids_of (drop i fs) in
    let first = uses_of (kind_with c.kind (first_id below) (first_ids below)) in
    let rest = uses_in (fields_with (fields_from behind) (ids_of (drop (i + 1) fs))) in
    let all : uses_in (fields_with (fields_from here) below) ≡ first ++ rest =
    ap (λ cs. uses_in (fields_with (fields_from cs) below)) e ∙ first_uses c (fields_from behind) below ∙ ap (λ b. first ++ uses_in (fields_with (fields_from behind) b)) (others_at fs i) in
    ap (λ us. us ++ rest) g ∙ append_assoc old first rest ∙ ap (λ us. old ++ us) (sym all) ∙ h

pub uses_done : (here : List Child) (below : Ids) (us whole : List Use) → here ≡ [] → us ++ uses_in (fields_with (fields_from here) below) ≡ whole → us ≡ whole
uses_done here below us whole e h = sym (append-nil us) ∙ ap (λ cs. us ++ uses_in (fields_with (fields_from cs) below)) (sym e) ∙ h
