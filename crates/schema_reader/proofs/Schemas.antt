-- A schema by its parts.
use Rattle.std.proofs.Common.{◌≡◌, ℕ, List, [], ◌∷◌, map, Result, Ok, Err, Bool, true, false, ◌||◌, cond, refl, sym, ◌∙◌, ap, subst}
use Rattle.std.specs.Str.{bytes_eq}
use Rattle.arrow_spec.specs.declared.error.IpcError.{IpcError}
use Rattle.arrow_spec.specs.declared.error.IpcError.TheVariants.{Unsupported}
use Rattle.arrow_spec.specs.declared.error.Feature.TheVariants as features
use Rattle.arrow_spec.specs.Readings.{bind, Reading, unless, refusals}
use Rattle.ipc_fields.specs.Causes.{Decodes, RefusesBytes}
use Rattle.arrow_spec.specs.Flat.{Table, Order, little, big}
use Rattle.arrow_spec.specs.Kinds as kind
use Rattle.arrow_spec.specs.Kinds.{Fields, Use, uses_in}
use Rattle.arrow_spec.specs.Schema.{Schema, schema_of, has_name, has_distinct_names, uses_agree, is_little}
use Rattle.arrow_types.specs.Child.{Child, fields_from}
use Rattle.arrow_types.specs.Schemas.{Keyed, fields_in}
use Rattle.ipc_fields.specs.IpcFields.{Ids, no_fields, ids, fields_with, have_shapes, AreNamed}
use Rattle.schema_reader.specs.Keyed.{keyed_by, keyed_distinct, checked, schema_by}
use Rattle.schema_reader.specs.Parts.{order_part, fields_part, entries_at}
use Rattle.ipc_fields.proofs.Steps.{bind_twice, none_refused}
use Rattle.schema_reader.proofs.Fields.{ok_bind}

-- ── the whole ──

order_is : (o : Order) → cond (is_little o) little big ≡ o
order_is little = refl
order_is big = refl

schema_same : (b : List ℕ) (t : Table) → schema_of b t ≡ schema_by b t
unfolding schema_of schema_by order_part fields_part entries_at checked
schema_same b t = simp (bind_twice, ok_bind, order_is)

pub schema_given : {X : Type 0} (view : X → Schema) (b : List ℕ) (t : Table) (r : Result X IpcError) → Decodes view r (schema_by b t) → Decodes view r (schema_of b t)
schema_given view b t r h = subst (Decodes view r) (sym (schema_same b t)) h

-- ── names ──

name_with : (name : List ℕ) (fs : Fields) (below : Ids) → has_name name (fields_with fs below) ≡ has_name name fs
name_with name kind.none below = refl
name_with name (kind.field n x m k fs) no_fields = ap (λ b. bytes_eq name n || b) (name_with name fs no_fields)
name_with name (kind.field n x m k fs) (ids id below others) = ap (λ b. bytes_eq name n || b) (name_with name fs others)

names_with : (fs : Fields) (below : Ids) → has_distinct_names (fields_with fs below) ≡ has_distinct_names fs
names_with kind.none below = refl
names_with (kind.field n x m k fs) no_fields = rw (name_with n fs no_fields, names_with fs no_fields) refl
names_with (kind.field n x m k fs) (ids id below others) = rw (name_with n fs others, names_with fs others) refl

keyed_fields : (cs : List Child) → fields_in (map keyed_by cs) ≡ fields_from cs
keyed_fields [] = refl
keyed_fields (c ∷ cs) = ap (λ fs. kind.field c.name c.nullable c.metadata c.kind fs) (keyed_fields cs)

keyed_named : (cs : List Child) → AreNamed (map keyed_by cs)
keyed_named [] = tt
keyed_named (c ∷ cs) = (refl, keyed_named cs)

-- what was put: the names differ, and the fields are those under their names
pub record Put (cs : List Child) (s : List Keyed) : Type 0 where
  pub distinct : has_distinct_names (fields_from cs) ≡ true
  pub all : map keyed_by cs ≡ s

put_by : (d : Bool) (cs : List Child) (s : List Keyed) → has_distinct_names (fields_from cs) ≡ d → bind (unless d (Unsupported features.DuplicateField)) (λ x. Ok (map keyed_by cs)) ≡ Ok s → Put cs s
unfolding bind
put_by true cs s e h = record { distinct = e; all = cc }
put_by false cs s e h = cc

pub put : (cs : List Child) (s : List Keyed) → keyed_distinct cs ≡ Ok s → Put cs s
unfolding keyed_distinct
put cs s h = put_by (has_distinct_names (fields_from cs)) cs s refl h

pub put_named : (cs : List Child) (s : List Keyed) → keyed_distinct cs ≡ Ok s → AreNamed s
put_named cs s h = subst AreNamed (put cs s h).all (keyed_named cs)

pub put_fields_in : (cs : List Child) (s : List Keyed) → keyed_distinct cs ≡ Ok s → fields_in s ≡ fields_from cs
put_fields_in cs s h = ap fields_in (sym (put cs s h).all) ∙ keyed_fields cs

-- ── fields that are checked ──

pub checked_ok : (cs : List Child) (below : Ids) (s : List Keyed) (us : List Use) → keyed_distinct cs ≡ Ok s → us ≡ uses_in (fields_with (fields_from cs) below) → uses_agree [] us ≡ Ok tt → checked (fields_with (fields_from cs) below) ≡ Ok (fields_with (fields_in s) below)
unfolding checked bind
checked_ok cs below s us h u a =
    let d : has_distinct_names (fields_with (fields_from cs) below) ≡ true = names_with (fields_from cs) below ∙ (put cs s h).distinct in
    let g : uses_agree [] (uses_in (fields_with (fields_from cs) below)) ≡ Ok tt = ap (uses_agree []) (sym u) ∙ a in
    let f : fields_with (fields_from cs) below ≡ fields_with (fields_in s) below = ap (λ fs. fields_with fs below) (sym (put_fields_in cs s h)) in
    rw (d, g) (ap Ok f)

not_put : (d : Bool) (e : IpcError) (cs : List Child) (f : Reading Fields) → RefusesBytes e (refusals (bind (unless d (Unsupported features.DuplicateField)) (λ x. Ok (map keyed_by cs)))) → RefusesBytes e (refusals (bind (unless d (Unsupported features.DuplicateField)) (λ x. f)))
unfolding bind
not_put true e cs f h = none_refused e (refusals f) h
not_put false e cs f h = h

pub checked_twice : (cs : List Child) (below : Ids) (e : IpcError) → RefusesBytes e (refusals (keyed_distinct cs)) → RefusesBytes e (refusals (checked (fields_with (fields_from cs) below)))
unfolding keyed_distinct checked
checked_twice cs below e h = subst (λ d. RefusesBytes e (refusals (bind (unless d (Unsupported features.DuplicateField)) (λ x. bind (uses_agree [] (uses_in (fields_with (fields_from cs) below))) (λ uses. Ok (fields_with (fields_from cs) below)))))) (sym (names_with (fields_from cs) below)) (not_put (has_distinct_names (fields_from cs)) e cs _ h)

not_agreed : (r : Reading (Unit {0})) (e : IpcError) (fs : Fields) → RefusesBytes e (refusals r) → RefusesBytes e (refusals (bind r (λ uses. Ok fs)))
unfolding bind
not_agreed (Ok x) e fs h = none_refused e (refusals (bind (Ok x) (λ uses. Ok fs))) h
not_agreed (Err es) e fs h = h

pub checked_apart : (cs : List Child) (below : Ids) (s : List Keyed) (us : List Use) (e : IpcError) → keyed_distinct cs ≡ Ok s → us ≡ uses_in (fields_with (fields_from cs) below) → RefusesBytes e (refusals (uses_agree [] us)) → RefusesBytes e (refusals (checked (fields_with (fields_from cs) below)))
unfolding checked
checked_apart cs below s us e h u told =
    let d : has_distinct_names (fields_with (fields_from cs) below) ≡ true = names_with (fields_from cs) below ∙ (put cs s h).distinct in
    let g : RefusesBytes e (refusals (uses_agree [] (uses_in (fields_with (fields_from cs) below)))) = subst (λ x. RefusesBytes e (refusals (uses_agree [] x))) u told in
    rw (d, ok_bind) (not_agreed (uses_agree [] (uses_in (fields_with (fields_from cs) below))) e (fields_with (fields_from cs) below) g)

-- ── shapes ──

pub put_shapes : (cs : List Child) (s : List Keyed) (below : Ids) → keyed_distinct cs ≡ Ok s → have_shapes (fields_from cs) below ≡ true → have_shapes (fields_in s) below ≡ true
put_shapes cs s below h f = subst (λ fs. have_shapes fs below ≡ true) (sym (put_fields_in cs s h)) f
