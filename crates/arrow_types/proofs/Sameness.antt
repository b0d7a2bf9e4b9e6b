-- When lists of fields, pairs of texts and unions are the same.
use Rattle.std.proofs.Common.{◌≡◌, ℕ, zero, suc, ◌<◌, Bool, true, false, ◌&&◌, IsTrue, List, [], ◌∷◌, map, length, get_or, Vec, Global, Option, Some, None, ℤ, string_bytes, nat_eq, refl, sym, ◌∙◌, ap, arith, rules, true≢false}
use Rattle.std.specs.Option.{option_map}
use Rattle.std.proofs.lemmas.Slice.Eq.{bytes_eq-Decides}
use Rattle.std.specs.Cmp.Lexicographic.{pointwise}
use Rattle.arrow_spec.specs.declared.types.UnionMode.{UnionMode}
use Rattle.arrow_spec.specs.Kinds as kind
use Rattle.arrow_spec.specs.Kinds.{Kind, Fields}
use Rattle.arrow_types.specs.Child.{Child, fields_from, one_field}
use Rattle.arrow_types.specs.KindOf.{kind_of, union_kind_of, child_of, fields_of, texts_of, ids_of, are_stated}
use Rattle.arrow_types.specs.declared.data_type.ArrowDataType.{Struct, the_lemmas}
use Rattle.arrow_types.specs.declared.data_type.UnionType.{UnionType, out-UnionType}
use Rattle.arrow_types.specs.declared.data_type.Field.{Field}
use Rattle.arrow_types.proofs.Metadata.{Entry, Pair}

pub one_field_same : (c d : Child) → one_field c ≡ one_field d → c ≡ d
one_field_same c d e =
    let n : c.name ≡ d.name = cc in
    let k : c.kind ≡ d.kind = cc in
    let b : c.nullable ≡ d.nullable = cc in
    let m : c.metadata ≡ d.metadata = cc in
    rw (n, k, b, m) refl

pub fields_from_same : (xs ys : List Child) → fields_from xs ≡ fields_from ys → xs ≡ ys
fields_from_same [] [] e = refl
fields_from_same [] (y ∷ ys) e = cc
fields_from_same (x ∷ xs) [] e = cc
fields_from_same (x ∷ xs) (y ∷ ys) e =
    let rest : fields_from xs ≡ fields_from ys = cc in
    let tails : xs ≡ ys = fields_from_same xs ys rest in
    let n : x.name ≡ y.name = cc in
    let k : x.kind ≡ y.kind = cc in
    let b : x.nullable ≡ y.nullable = cc in
    let m : x.metadata ≡ y.metadata = cc in
    let first : x ≡ y = rw (n, k, b, m) refl in
    cc

pub kind_of_Struct : (v : Vec Field Global) → kind_of (Struct v) ≡ kind.struct (fields_of v.items)
kind_of_Struct v = search (rules, the_lemmas)

pub same_at : {A B : Type 0} (f : A → B) (xs ys : List A) (i : ℕ) (x y : A) → i < length xs → i < length ys → x ≡ get_or xs i x → y ≡ get_or ys i y → map f xs ≡ map f ys → f x ≡ f y
same_at f [] ys i x y p q e d h = absurd (omega arith)
same_at f (a ∷ xs) [] i x y p q e d h = absurd (omega arith)
same_at f (a ∷ xs) (b ∷ ys) zero x y p q e d h = let k : f a ≡ f b = cc in ap f e ∙ k ∙ ap f (sym d)
same_at f (a ∷ xs) (b ∷ ys) (suc i) x y p q e d h = let k : map f xs ≡ map f ys = cc in same_at f xs ys i x y (omega arith) (omega arith) e d k

and_parts : (a b c : Bool) → IsTrue (a && b && c) → IsTrue a × IsTrue b × IsTrue c
and_parts true true true h = (refl, refl, refl)
and_parts false b c h = absurd (true≢false (sym h))
and_parts true false c h = absurd (true≢false (sym h))
and_parts true true false h = absurd (true≢false (sym h))

and_whole : (a b c : Bool) → IsTrue a → IsTrue b → IsTrue c → IsTrue (a && b && c)
and_whole a b c p q r = rw (p, q, r) refl

pub texts_decided : (xs ys : List Entry) → (IsTrue (pointwise (λ p q. pointwise nat_eq (string_bytes p.0) (string_bytes q.0) && pointwise nat_eq (string_bytes p.1) (string_bytes q.1)) xs ys) → texts_of xs ≡ texts_of ys) × (texts_of xs ≡ texts_of ys → IsTrue (pointwise (λ p q. pointwise nat_eq (string_bytes p.0) (string_bytes q.0) && pointwise nat_eq (string_bytes p.1) (string_bytes q.1)) xs ys))
texts_decided [] [] = (λ h. refl, λ h. refl)
texts_decided [] (y ∷ ys) = (λ h. absurd (true≢false (sym h)), λ h. cc)
texts_decided (x ∷ xs) [] = (λ h. absurd (true≢false (sym h)), λ h. cc)
texts_decided (x ∷ xs) (y ∷ ys) = (
  λ h. let p = and_parts _ _ _ h in
      let a : string_bytes x.0 ≡ string_bytes y.0 = (bytes_eq-Decides (string_bytes x.0) (string_bytes y.0)).0 p.0 in
      let b : string_bytes x.1 ≡ string_bytes y.1 = (bytes_eq-Decides (string_bytes x.1) (string_bytes y.1)).0 p.1 in
      let r : texts_of xs ≡ texts_of ys = (texts_decided xs ys).0 p.2 in
      rw (a, b, r) refl,
  λ h. let q : (string_bytes x.0, string_bytes x.1) ≡ (string_bytes y.0, string_bytes y.1) = cc in
      let a : string_bytes x.0 ≡ string_bytes y.0 = ap (λ (p : Pair). p.0) q in
      let b : string_bytes x.1 ≡ string_bytes y.1 = ap (λ (p : Pair). p.1) q in
      let r : texts_of xs ≡ texts_of ys = cc in
      and_whole _ _ _ ((bytes_eq-Decides (string_bytes x.0) (string_bytes y.0)).1 a) ((bytes_eq-Decides (string_bytes x.1) (string_bytes y.1)).1 b) ((texts_decided xs ys).1 r),
)

abbrev pub Ids : Type 0
Ids = Option (Vec ℤ Global)

abbrev pub items_of : Ids → Option (List ℤ)
items_of = option_map (λ v. v.items)

-- equal ids as held are equal ids as seen, and the other way round
pub stated_from : (x y : Ids) → items_of x ≡ items_of y → are_stated x ≡ are_stated y
stated_from None None e = refl
stated_from None (Some w) e = cc
stated_from (Some v) None e = cc
stated_from (Some v) (Some w) e = refl

pub ids_from : (x y : Ids) (n : ℕ) → items_of x ≡ items_of y → ids_of x n ≡ ids_of y n
ids_from None None n e = refl
ids_from None (Some w) n e = cc
ids_from (Some v) None n e = cc
ids_from (Some v) (Some w) n e = cc

pub items_back : (x y : Ids) (m n : ℕ) → are_stated x ≡ are_stated y → ids_of x m ≡ ids_of y n → items_of x ≡ items_of y
items_back None None m n s e = refl
items_back None (Some w) m n s e = cc
items_back (Some v) None m n s e = cc
items_back (Some v) (Some w) m n s e = ap Some e

abbrev pub union_of : UnionMode → Ids → List Child → Kind
union_of m ids cs = kind.union m (are_stated ids) (ids_of ids (length cs)) (fields_from cs)

pub union_same : (m n : UnionMode) (x y : Ids) (cs ds : List Child) → m ≡ n → items_of x ≡ items_of y → cs ≡ ds → union_of m x cs ≡ union_of n y ds
union_same m n x y cs ds p q r =
    let s : are_stated x ≡ are_stated y = stated_from x y q in
    let t : ids_of x (length ds) ≡ ids_of y (length ds) = ids_from x y (length ds) q in
    rw (p, r, s, t) refl

pub union_parts : (m n : UnionMode) (x y : Ids) (cs ds : List Child) → union_of m x cs ≡ union_of n y ds → (m ≡ n) × (items_of x ≡ items_of y) × (cs ≡ ds)
union_parts m n x y cs ds e =
    let p : m ≡ n = cc in
    let s : are_stated x ≡ are_stated y = cc in
    let t : ids_of x (length cs) ≡ ids_of y (length ds) = cc in
    let f : fields_from cs ≡ fields_from ds = cc in
    (p, items_back x y (length cs) (length ds) s t, fields_from_same cs ds f)

pub union_kind_of_is : (u : UnionType) → union_kind_of u ≡ union_of (out-UnionType u).mode (out-UnionType u).ids (map child_of (out-UnionType u).fields.items)
union_kind_of_is u = search (rules, the_lemmas)
