-- Ids that count from a number on.
use Rattle.std.proofs.Common.{◌≡◌, ℕ, zero, suc, ◌+◌, Bool, true, false, ◌&&◌, not, List, [], ◌∷◌, ◌++◌, Option, Some, None, ℤ, pos, refl, sym, ap, subst, ◌∙◌, arith, add-one}
use Rattle.std.specs.Prelude.{if◌then◌else◌, is_some}
use Rattle.std.proofs.lemmas.Bool.{and_parts}
use Rattle.arrow_spec.specs.declared.types.IntegerType.{IntegerType}
use Rattle.arrow_spec.specs.Kinds as kind
use Rattle.arrow_spec.specs.Kinds.{Kind, Fields, dictionary_count, dictionary_counts, numbered_kind, numbered}
use Rattle.std.proofs.Common.{◌<◌, length, map, take, get_or}
use Rattle.std.specs.Prelude.{slice_get}
use Rattle.arrow_types.specs.Schemas.{Keyed}
use Rattle.std.proofs.lemmas.List.{take_more}
use Rattle.arrow_types.specs.Child.{Child, fields_from}
use Rattle.ipc_fields.specs.IpcFields.{Ids, Tree, ids_from, is_encoded, has_shape, have_shapes, kind_with, fields_with}
use Rattle.schema_writer.specs.Defaults.{is_apart, are_apart, IsDefault, AreDefault}

-- ── kinds with fields ──

pub fixed_default : (m : ℕ) (fs : Fields) (s n : ℕ) (own : Ids) → AreDefault fs s n own → IsDefault (kind.fixed_size_list m fs) s n None own
fixed_default m fs s n own h = record { counted = h.counted; shaped = h.shaped; ids = λ a. ap (kind.fixed_size_list m) (h.ids a) }

pub map_default : (sorted : Bool) (fs : Fields) (s n : ℕ) (own : Ids) → AreDefault fs s n own → IsDefault (kind.map sorted fs) s n None own
map_default sorted fs s n own h = record { counted = h.counted; shaped = h.shaped; ids = λ a. ap (kind.map sorted) (h.ids a) }

-- ── dictionaries ──

not_parts : (b : Bool) → not b ≡ true → b ≡ false
not_parts true h = cc
not_parts false h = refl

-- what is no dictionary has no id
unencoded : (k : Kind) (id : Option ℤ) (own : Ids) → is_encoded k ≡ false → kind_with k None own ≡ kind_with k id own
unencoded (kind.dictionary index ordered old k) id own h = cc
unencoded (kind.extension name m k) id own h = ap (kind.extension name m) (unencoded k id own h)
unencoded k id own h = refl

none_shaped : (k : Kind) (id : Option ℤ) (own : Ids) → is_encoded k ≡ false → has_shape k id own ≡ true → has_shape k None own ≡ true
none_shaped (kind.dictionary index ordered old k) id own e h = cc
none_shaped (kind.extension name m k) id own e h = none_shaped k id own e h
none_shaped k id own e h = (and_parts _ _ h).1

values_shaped : (k : Kind) (b : Bool) (id : Option ℤ) (x : ℤ) (own : Ids) → (is_encoded k ≡ true → has_shape k id own ≡ true → has_shape k (Some x) own ≡ true) → is_encoded k ≡ b → has_shape k (if b then id else None) own ≡ true → has_shape k (if b then Some x else None) own ≡ true
values_shaped k true id x own f e h = f e h
values_shaped k false id x own f e h = h

some_shaped : (k : Kind) (id : Option ℤ) (x : ℤ) (own : Ids) → is_encoded k ≡ true → has_shape k id own ≡ true → has_shape k (Some x) own ≡ true
some_shaped (kind.dictionary index ordered old k) id x own e h =
    values_shaped k (is_encoded k) id x own (λ f g. some_shaped k id x own f g) refl (and_parts (is_some id) (has_shape k (if is_encoded k then id else None) own) h).1
some_shaped (kind.extension name m k) id x own e h = some_shaped k id x own e h
some_shaped k id x own e h = cc

inner_shaped : (k : Kind) (b : Bool) (id : Option ℤ) (x : ℤ) (own : Ids) → is_encoded k ≡ b → has_shape k id own ≡ true → has_shape k (if b then Some x else None) own ≡ true
inner_shaped k true id x own e h = some_shaped k id x own e h
inner_shaped k false id x own e h = none_shaped k id own e h

pub dictionary_default : (index : IntegerType) (ordered : Bool) (old : ℤ) (k : Kind) (s n : ℕ) (id : Option ℤ) (own : Ids) → IsDefault k (s + 1) n id own → IsDefault (kind.dictionary index ordered old k) s n (Some (pos s)) own
dictionary_default index ordered old k s n id own h = record {
  counted = omega (arith, h.counted);
  shaped = inner_shaped k (is_encoded k) id (pos s) own refl h.shaped;
  ids = λ a.
      let parts = and_parts (not (is_encoded k)) (is_apart k) a in
      ap (kind.dictionary index ordered (pos s)) (unencoded k id own (not_parts _ parts.0) ∙ h.ids parts.1 ∙ ap (numbered_kind k) (add-one s));
}

-- ── fields ──

counts_more : (xs : List Child) (c : Child) → dictionary_counts (fields_from (xs ++ c ∷ [])) ≡ dictionary_counts (fields_from xs) + dictionary_count c.kind
counts_more [] c = omega arith
counts_more (x ∷ xs) c = omega (arith, counts_more xs c)

and_assoc : (a b c : Bool) → (a && (b && c)) ≡ ((a && b) && c)
and_assoc true b c = refl
and_assoc false b c = refl

apart_more : (xs : List Child) (c : Child) → are_apart (fields_from (xs ++ c ∷ [])) ≡ (are_apart (fields_from xs) && is_apart c.kind)
apart_more [] c = one (is_apart c.kind)
  where
    one : (b : Bool) → (b && true) ≡ b
    one true = refl
    one false = refl
apart_more (x ∷ xs) c = ap (λ b. is_apart x.kind && b) (apart_more xs c) ∙ and_assoc (is_apart x.kind) (are_apart (fields_from xs)) (is_apart c.kind)

shapes_more : (xs : List Child) (ts : List Tree) (c : Child) (t : Tree) → have_shapes (fields_from xs) (ids_from ts) ≡ true → has_shape c.kind t.id t.children ≡ true → have_shapes (fields_from (xs ++ c ∷ [])) (ids_from (ts ++ t ∷ [])) ≡ true
shapes_more [] [] c t h g = ap (λ b. b && true) g
shapes_more [] (u ∷ ts) c t h g = cc
shapes_more (x ∷ xs) [] c t h g = cc
shapes_more (x ∷ xs) (u ∷ ts) c t h g =
    let p = and_parts (has_shape x.kind u.id u.children) (have_shapes (fields_from xs) (ids_from ts)) h in
    rw (p.0, shapes_more xs ts c t p.1 g) refl

ids_more : (xs : List Child) (ts : List Tree) (c : Child) (t : Tree) (s : ℕ) → have_shapes (fields_from xs) (ids_from ts) ≡ true → fields_with (fields_from xs) (ids_from ts) ≡ numbered (fields_from xs) s
    → kind_with c.kind t.id t.children ≡ numbered_kind c.kind (s + dictionary_counts (fields_from xs)) → fields_with (fields_from (xs ++ c ∷ [])) (ids_from (ts ++ t ∷ [])) ≡ numbered (fields_from (xs ++ c ∷ [])) s
ids_more [] [] c t s h e g =
    let z : s + 0 ≡ s = omega arith in
    ap (λ k. kind.field c.name c.nullable c.metadata k kind.none) (g ∙ ap (numbered_kind c.kind) z)
ids_more [] (u ∷ ts) c t s h e g = cc
ids_more (x ∷ xs) [] c t s h e g = cc
ids_more (x ∷ xs) (u ∷ ts) c t s h e g =
    let p = and_parts (has_shape x.kind u.id u.children) (have_shapes (fields_from xs) (ids_from ts)) h in
    let k : kind_with x.kind u.id u.children ≡ numbered_kind x.kind s = cc in
    let r : fields_with (fields_from xs) (ids_from ts) ≡ numbered (fields_from xs) (s + dictionary_count x.kind) = cc in
    let z : s + (dictionary_count x.kind + dictionary_counts (fields_from xs)) ≡ (s + dictionary_count x.kind) + dictionary_counts (fields_from xs) = omega arith in
    let rest = ids_more xs ts c t (s + dictionary_count x.kind) p.1 r (g ∙ ap (numbered_kind c.kind) z) in
    ap (λ y. kind.field x.name x.nullable x.metadata y (fields_with (fields_from (xs ++ c ∷ [])) (ids_from (ts ++ t ∷ [])))) k
    ∙ ap (λ y. kind.field x.name x.nullable x.metadata (numbered_kind x.kind s) y) rest

pub default_step : (xs ys : List Child) (ts us : List Tree) (c : Child) (t : Tree) (s m n : ℕ) → ys ≡ xs ++ c ∷ [] → us ≡ ts ++ t ∷ [] → AreDefault (fields_from xs) s m (ids_from ts) → IsDefault c.kind m n t.id t.children → AreDefault (fields_from ys) s n (ids_from us)
default_step xs ys ts us c t s m n hy hu h g =
    let counts = counts_more xs c in
    let whole : AreDefault (fields_from (xs ++ c ∷ [])) s n (ids_from (ts ++ t ∷ [])) = record {
      counted = omega (arith, h.counted, g.counted, counts);
      shaped = shapes_more xs ts c t h.shaped g.shaped;
      ids = λ a.
          let parts = and_parts _ _ (sym (apart_more xs c) ∙ a) in
          ids_more xs ts c t s h.shaped (h.ids parts.0) (g.ids parts.1 ∙ ap (numbered_kind c.kind) h.counted);
    } in
    subst (λ us. AreDefault (fields_from ys) s n (ids_from us)) (sym hu) (subst (λ ys. AreDefault (fields_from ys) s n (ids_from (ts ++ t ∷ []))) (sym hy) whole)

-- ── kinds of types ──

abbrev pub tree_at : Option ℤ → Ids → Tree
tree_at id own = record { id = id; children = own }

pub at_kind : (k l : Kind) (s n : ℕ) (t : Tree) (id : Option ℤ) (own : Ids) → l ≡ k → t ≡ tree_at id own → IsDefault k s n id own → IsDefault l s n t.id t.children
at_kind k l s n t id own e g h = subst (λ x. IsDefault x s n t.id t.children) (sym e) (subst (λ (x : Tree). IsDefault k s n x.id x.children) (sym g) h)

pub one_more : {A : Type 0} (xs : List A) (i : ℕ) (x : A) → i < length xs → x ≡ get_or xs i x → take (i + 1) xs ≡ take i xs ++ x ∷ []
one_more xs i x h e = take_more xs i x h ∙ ap (λ y. take i xs ++ y ∷ []) (sym e)

-- the fields of a schema up to one at a place, and with it
pub one_taken : (s : List Keyed) (i : ℕ) (c : Child) → slice_get (map (λ p. p.1) s) i ≡ Some c → map (λ p. p.1) (take (i + 1) s) ≡ map (λ p. p.1) (take i s) ++ c ∷ []
one_taken [] i c h = cc
one_taken (p ∷ s) zero c h = ap (λ d. d ∷ []) cc
one_taken (p ∷ s) (suc i) c h = let e : suc i + 1 ≡ suc (i + 1) = omega arith in rw e (ap (λ cs. p.1 ∷ cs) (one_taken s i c h))
