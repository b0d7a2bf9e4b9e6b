-- The ids of the generated schema's dictionaries.
use Rattle.std.proofs.Common.{◌≡◌, ℕ, List, [], ◌∷◌, Bool, true, false, ◌&&◌, Option, None, Some, refl, sym, ap, ◌∙◌}
use Rattle.std.specs.Prelude.{ℤ, codes, pos}
use Rattle.std.proofs.lemmas.Bool.{and_parts}
use Rattle.arrow_spec.specs.declared.types.IntegerType.TheVariants.{Int32}
use Rattle.arrow_spec.specs.Kinds.{Fields, Kind, numbered}
use Rattle.arrow_spec.specs.Kinds as kinds
use Rattle.ipc_fields.specs.IpcFields.{Ids, ids, no_fields, fields_with, has_shape, have_shapes}
use Rattle.ipc_generate.specs.Table.{generated_fields, kind_of_d, kind_of_n, kind_of_p, kind_of_t}
use Rattle.ipc_generate.specs.Written.{generated_ids}

plain : (id : Option ℤ) (below : Ids) → has_shape kind_of_n id below ≡ true → (id ≡ None) × (below ≡ no_fields)
plain None no_fields h = (refl, refl)
plain None (ids a b c) h = absurd (cc)
plain (Some z) no_fields h = absurd (cc)
plain (Some z) (ids a b c) h = absurd (cc)

none_left : (own : Ids) → have_shapes kinds.none own ≡ true → own ≡ no_fields
none_left no_fields h = refl
none_left (ids a b c) h = absurd (cc)

-- one field that has no id, and others
one_more : (k : Kind) (name : List ℕ) (nullable : Bool) (others : Fields) (own : Ids) → ((id : Option ℤ) (below : Ids) → has_shape k id below ≡ has_shape kind_of_n id below)
    → have_shapes (kinds.field name nullable [] k others) own ≡ true → (rest : Ids) × (own ≡ ids None no_fields rest) × (have_shapes others rest ≡ true)
one_more k name nullable others no_fields same h = absurd (cc)
one_more k name nullable others (ids id below rest) same h =
    let p = and_parts (has_shape k id below) (have_shapes others rest) h in
    let q = plain id below (sym (same id below) ∙ p.0) in
    (rest, ap (λ i. ids i below rest) q.0 ∙ ap (λ b. ids None b rest) q.1, p.1)

-- lists of one field that has none
of_lists : (own : Ids) → have_shapes (kinds.field (codes "p") false [] kind_of_p kinds.none) own ≡ true → own ≡ ids None (ids None no_fields no_fields) no_fields
of_lists no_fields h = absurd (cc)
of_lists (ids (Some z) below rest) h = absurd (cc)
of_lists (ids None below rest) h =
    let p = and_parts (has_shape kind_of_p None below) (have_shapes kinds.none rest) h in
    let q = one_more (kinds.integer Int32) (codes "item") false kinds.none below (λ id b. refl) p.0 in
    let r = none_left q.0 q.2 in
    ap (λ b. ids None b rest) (q.1 ∙ ap (ids None no_fields) r) ∙ ap (ids None (ids None no_fields no_fields)) (none_left rest p.1)

-- a dictionary's id
of_keys : (id : Option ℤ) (below : Ids) → has_shape kind_of_d id below ≡ true → (z : ℤ) × (id ≡ Some z) × (below ≡ no_fields)
of_keys None below h = absurd (cc)
of_keys (Some z) no_fields h = (z, refl, refl)
of_keys (Some z) (ids a b c) h = absurd (cc)

-- the id of the third field
abbrev third_id : Fields → ℤ
third_id (kinds.field a b c d (kinds.field e f g h (kinds.field i j k (kinds.dictionary t o id v) rest))) = id
third_id fs = pos 0

abbrev last_fields : Fields
last_fields = kinds.field (codes "p") false [] kind_of_p kinds.none

abbrev keyed_fields : Fields
keyed_fields = kinds.field (codes "d") false [] kind_of_d last_fields

behind_two : (own : Ids) → have_shapes generated_fields own ≡ true → (z : ℤ) × (own ≡ ids None no_fields (ids None no_fields (ids (Some z) no_fields (ids None (ids None no_fields no_fields) no_fields))))
behind_two own h =
    let n = one_more kind_of_n (codes "n") true (kinds.field (codes "t") false [] kind_of_t keyed_fields) own (λ id b. refl) h in
    let t = one_more kind_of_t (codes "t") false keyed_fields n.0 (λ id b. refl) n.2 in
    let d = by t.0 t.2 in
    (d.0, n.1 ∙ ap (ids None no_fields) (t.1 ∙ ap (ids None no_fields) d.1))
  where
    by : (rest : Ids) → have_shapes (kinds.field (codes "d") false [] kind_of_d (kinds.field (codes "p") false [] kind_of_p kinds.none)) rest ≡ true
        → (z : ℤ) × (rest ≡ ids (Some z) no_fields (ids None (ids None no_fields no_fields) no_fields))
    by no_fields e = absurd (cc)
    by (ids id below rest) e =
        let p = and_parts (has_shape kind_of_d id below) (have_shapes (kinds.field (codes "p") false [] kind_of_p kinds.none) rest) e in
        let q = of_keys id below p.0 in
        (q.0, ap (λ i. ids i below rest) q.1 ∙ ap (λ b. ids (Some q.0) b rest) q.2 ∙ ap (ids (Some q.0) no_fields) (of_lists rest p.1))

-- ids that count from 0
pub numbered_ids : (own : Ids) → have_shapes generated_fields own ≡ true → fields_with generated_fields own ≡ numbered generated_fields 0 → own ≡ generated_ids
numbered_ids own h e =
    let d = behind_two own h in
    let id : d.0 ≡ pos 0 = sym (ap (λ o. third_id (fields_with generated_fields o)) d.1) ∙ ap third_id e in
    d.1 ∙ ap (λ z. ids None no_fields (ids None no_fields (ids (Some z) no_fields (ids None (ids None no_fields no_fields) no_fields)))) id
