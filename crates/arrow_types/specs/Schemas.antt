-- What a schema is seen as: its keys and fields, in order.
use Rattle.std.specs.Prelude.{◌≡◌, ℕ, List, [], ◌∷◌, map, Bool, true, Option, Some, None, String, string_bytes, if◌then◌else◌, refl}
use Rattle.std.proofs.Common.{ap, ◌∙◌, Bor}
use Rattle.std.specs.Str.{bytes_eq}
use Rattle.std.specs.Cmp.{IsEquivalence}
use Rattle.std.specs.Coded.{Coded, code_by}
use Rattle.std.specs.declared.alloc.Global.{Global}
use denote.Struct.Codes.{itself}
use base.Stored.{Gv, gnil, gnum, gcons}
use Rattle.arrow_spec.specs.Kinds.{Fields}
use Rattle.arrow_types.specs.Child.{Child, fields_from}
use Rattle.arrow_types.specs.ChildCode.{child_to, child_from, child_from-child_to}
use Rattle.arrow_types.specs.KindCode.{head, tail, bytes_to, bytes_from, bytes_from-bytes_to, by_tree, by_tree_told, by_tree_equiv, by_tree_sound, by_tree_itself}
use Rattle.arrow_types.specs.KindOf.{child_of}
use Rattle.arrow_types.specs.declared.data_type.Field.{Field}

-- a field under its key
abbrev pub Keyed : Type 0
Keyed = List ℕ × Child

abbrev pub keyed : List (String Global × Field) → List Keyed
keyed = map (λ p. (string_bytes p.0, child_of p.1))

-- what a key and a field stand for behind their references
abbrev pub entry_of : Bor (String Global) × Bor Field → Keyed
entry_of p = (string_bytes p.0.now, child_of p.1.now)

abbrev pub keys_in : List Keyed → List (List ℕ)
keys_in = map (λ p. p.0)

-- the fields in order, without their keys
abbrev pub fields_in : List Keyed → Fields
fields_in s = fields_from (map (λ p. p.1) s)

-- the field under a key
abbrev pub field_under : List ℕ → List Keyed → Option Child
field_under key [] = None
field_under key (p ∷ ps) = if bytes_eq key p.0 then Some p.1 else field_under key ps

-- the schema with this field under this key: a key that is there keeps its place, and a new one goes last
abbrev pub with_field : List ℕ → Child → List Keyed → List Keyed
with_field key c [] = (key, c) ∷ []
with_field key c (p ∷ ps) = if bytes_eq key p.0 then (p.0, c) ∷ ps else p ∷ with_field key c ps

-- a schema with further fields, each under its name
abbrev pub with_fields : List Keyed → List Child → List Keyed
with_fields s [] = s
with_fields s (c ∷ cs) = with_fields (with_field c.name c s) cs

abbrev pub keyed_to : List Keyed → Gv
keyed_to [] = gnil
keyed_to (p ∷ ps) = gcons (gcons (bytes_to p.0) (child_to p.1)) (keyed_to ps)

abbrev pub keyed_from : Gv → List Keyed
keyed_from gnil = []
keyed_from (gnum n) = []
keyed_from (gcons a b) = (bytes_from (head a), child_from (tail a)) ∷ keyed_from b

pub keyed_from-keyed_to : (s : List Keyed) → keyed_from (keyed_to s) ≡ s
keyed_from-keyed_to [] = refl
keyed_from-keyed_to (p ∷ ps) =
    let k : bytes_from (bytes_to p.0) ≡ p.0 = bytes_from-bytes_to p.0 in
    let c : child_from (child_to p.1) ≡ p.1 = child_from-child_to p.1 in
    let r : keyed_from (keyed_to ps) ≡ ps = keyed_from-keyed_to ps in
    ap (λ x. (x, child_from (child_to p.1)) ∷ keyed_from (keyed_to ps)) k ∙ ap (λ x. (p.0, x) ∷ keyed_from (keyed_to ps)) c ∙ ap (λ x. p ∷ x) r

abbrev pub schema_code : Coded (List Keyed)
schema_code = code_by Gv itself keyed_to keyed_from keyed_from-keyed_to

-- whether two schemas are the same
unfoldable pub schema_eq : List Keyed → List Keyed → Bool
schema_eq = by_tree keyed_to

pub schema_eq_told : (r : Bool) (s t : List Keyed) → (r ≡ true → s ≡ t) × (s ≡ t → r ≡ true) → r ≡ schema_eq s t
unfolding schema_eq
schema_eq_told = by_tree_told keyed_to keyed_from keyed_from-keyed_to

pub schema_eq_equiv : IsEquivalence schema_eq
unfolding schema_eq
schema_eq_equiv = by_tree_equiv keyed_to keyed_from keyed_from-keyed_to

pub schema_eq_is : (s t : List Keyed) → (schema_eq s t ≡ true → s ≡ t) × (s ≡ t → schema_eq s t ≡ true)
unfolding schema_eq
schema_eq_is s t = (λ h. by_tree_sound keyed_to keyed_from keyed_from-keyed_to s t h, λ e. by_tree_itself keyed_to s t e)
