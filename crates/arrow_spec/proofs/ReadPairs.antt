-- Pairs that are read ascend, and so do a field's own pairs, which have no reserved key.
use Rattle.std.proofs.Common.{append_assoc, ◌≡◌, ℕ, zero, suc, ◌+◌, ◌≤◌, List, [], ◌∷◌, ◌++◌, length, Option, Some, None, Result, Ok, Err, refl, sym, ◌∙◌, subst, arith, true, false, Bool, cond, inl, inr}
use Rattle.std.specs.List.{AllByRecursion}
use Rattle.std.specs.Str.{is_utf8, bytes_eq}
use Rattle.std.proofs.lemmas.Bool.{leb-true}
use Rattle.arrow_spec.specs.declared.error.IpcError.{IpcError}
use Rattle.arrow_spec.specs.declared.error.FlatError.{FlatError}
use Rattle.arrow_spec.specs.Readings.{bind, ◌>>=◌, Reading, unless, as_kind}
use Rattle.arrow_spec.specs.Flat.{Table, slot, text, items, if_present, slot_text}
use Rattle.arrow_spec.specs.Kinds.{Metadata}
use Rattle.arrow_spec.specs.declared.error.OutOfSpecKind.{OutOfSpecKind}
use Rattle.arrow_spec.specs.declared.error.OutOfSpecKind.TheVariants.{InvalidFlatbufferSchema}
use Rattle.arrow_spec.specs.Messages.{custom_pairs}
use Rattle.arrow_spec.specs.Schema.{schema_part, empty_vector, stands_before, with_pair, without_key, value_of, with_read_pair, pairs_from, pairs_of, extension_name, extension_metadata, own_pairs}
use Rattle.arrow_spec.specs.WrittenSchemas.{AreFieldPairs, Ascend, CustomMayBeWritten, IsBehind, IsText}
use Rattle.arrow_spec.proofs.PairOrder.{before_never, before_or_behind, before_then, key_same}
use Rattle.arrow_spec.proofs.PairMaps.{AllBefore, IsSorted, bool_cases, clash, other_key, sorted_with, sorted_without}
use Rattle.arrow_spec.proofs.SchemaPairs.{AreTexts}

-- ── readings ──

pub is_true : (t : Bool) (e : IpcError) (u : Unit {0}) → unless t e ≡ Ok u → t ≡ true
is_true true e u h = refl
is_true false e u h = cc

-- a reading that went on to an end, and what follows from its first part and from its rest
pub through : {A B P : Type 0} (r : Reading A) (f : A → Reading B) (y : B) → (r >>= f) ≡ Ok y → ((x : A) → r ≡ Ok x → f x ≡ Ok y → P) → P
unfolding bind
through (Ok x) f y h k = k x refl h
through (Err es) f y h k = cc

abbrev read : {A : Type 0} → A → Reading A
read x = Ok x

pub same_read : {A : Type 0} (x y : A) → read x ≡ read y → x ≡ y
same_read x y h = cc

-- what a result gave that went on to an end
pub record Goes {A B E : Type 0} (r : Result A E) (f : A → Result B E) (y : B) : Type 0 where
  pub got : A
  pub first : r ≡ Ok got
  pub rest : f got ≡ Ok y

pub goes : {A B E : Type 0} (r : Result A E) (f : A → Result B E) (y : B) → (r >>= f) ≡ Ok y → Goes r f y
unfolding bind
goes (Ok x) f y h = record { got = x; first = refl; rest = h }
goes (Err e) f y h = cc

-- ── texts ──

tested : (t : Bool) (x y : List ℕ) (e : FlatError) → cond t (Ok x) (Err e) ≡ Ok y → (t ≡ true) × (x ≡ y)
tested true x y e h = (refl, cc)
tested false x y e h = cc

-- a text that is read is one
text_utf8 : (b : List ℕ) (p : ℕ) (x : List ℕ) → text b p ≡ Ok x → is_utf8 x ≡ true
unfolding text
text_utf8 b p x h =
    let v = goes (items b p 1) _ x h in
    let t = tested _ _ x _ v.rest in
    subst (λ y. is_utf8 y ≡ true) t.1 t.0

if_text : (b : List ℕ) (p : Option ℕ) (x : Option (List ℕ)) → if_present (text b) p ≡ Ok x → IsText x
if_text b None x h = let e : None ≡ x = cc in subst (λ y. IsText y) e tt
if_text b (Some p) x h =
    let t = goes (text b p) _ x h in
    let e : Some t.got ≡ x = cc (t.rest) in
    subst (λ y. IsText y) e (text_utf8 b p t.got t.first)

pub in_schema : {A : Type 0} (r : Result A FlatError) (x : A) → schema_part r ≡ Ok x → r ≡ Ok x
in_schema (Ok y) x h = cc
in_schema (Err e) x h = cc

in_part : {A : Type 0} (kind : FlatError → OutOfSpecKind) (r : Result A FlatError) (x : A) → as_kind kind r ≡ Ok x → r ≡ Ok x
in_part kind (Ok y) x h = cc
in_part kind (Err e) x h = cc

slot_text_in : (kind : FlatError → OutOfSpecKind) (b : List ℕ) (t : Table) (i : ℕ) (x : Option (List ℕ)) → as_kind kind (slot_text b t i) ≡ Ok x → IsText x
slot_text_in kind b t i x h =
    let p = goes (slot b t i) _ x (in_part kind _ x h) in
    if_text b p.got x p.rest

pub slot_text_is : (b : List ℕ) (t : Table) (i : ℕ) (x : Option (List ℕ)) → schema_part (slot_text b t i) ≡ Ok x → IsText x
slot_text_is b t i x h =
    let p = goes (slot b t i) _ x (in_schema _ x h) in
    if_text b p.got x p.rest

-- ── maps that are read ──

texts_with : (k v : List ℕ) (m : Metadata) → is_utf8 k ≡ true → is_utf8 v ≡ true → AreTexts m → AreTexts (with_pair k v m)
texts_with k v [] p q h = ((p, q), tt)
texts_with k v (x ∷ m) p q h = elim (bool_cases (bytes_eq k x.0)) [
  | inl e ↦ rw e ((p, q), h.1)
  | inr n ↦ elim (bool_cases (stands_before k x.0)) [
    | inl b ↦ rw (n, b) ((p, q), h)
    | inr b ↦ rw (n, b) (h.0, texts_with k v m p q h.1)
  ]
]

length_with : (k v : List ℕ) (m : Metadata) → length (with_pair k v m) ≤ suc (length m)
length_with k v [] = omega arith
length_with k v (x ∷ m) = elim (bool_cases (bytes_eq k x.0)) [
  | inl e ↦ rw e (omega arith)
  | inr n ↦ elim (bool_cases (stands_before k x.0)) [
    | inl b ↦ rw (n, b) (omega arith)
    | inr b ↦ rw (n, b) (omega (arith, length_with k v m))
  ]
]

texts_without : (key : List ℕ) (m : Metadata) → AreTexts m → AreTexts (without_key key m)
texts_without key [] h = tt
texts_without key (x ∷ m) h = elim (bool_cases (bytes_eq key x.0)) [
  | inl e ↦ rw e h.1
  | inr n ↦ rw n (h.0, texts_without key m h.1)
]

-- pairs of texts in order, at most so many
pub record ArePairs (m : Metadata) (most : ℕ) : Type 0 where
  pub texts : AreTexts m
  pub sorted : IsSorted m
  pub few : length m ≤ most

with_read : (key value : Option (List ℕ)) (m : Metadata) (most : ℕ) → IsText key → IsText value → ArePairs m most → ArePairs (with_read_pair key value m) (suc most)
with_read (Some k) (Some v) m most p q r = record { texts = texts_with k v m p q r.texts; sorted = sorted_with k v m r.sorted; few = omega (arith, length_with k v m, r.few) }
with_read None v m most p q r = record { texts = r.texts; sorted = r.sorted; few = omega (arith, r.few) }
with_read (Some k) None m most p q r = record { texts = r.texts; sorted = r.sorted; few = omega (arith, r.few) }

from_read : (kind : FlatError → OutOfSpecKind) (b : List ℕ) (n at : ℕ) (m r : Metadata) (most : ℕ) → pairs_from kind b at n m ≡ Ok r → ArePairs m most → ArePairs r (most + n)
unfolding pairs_from
from_read kind b zero at m r most h p =
    let e : m ≡ r = same_read m r h in
    subst (λ x. ArePairs x (most + 0)) e (record { texts = p.texts; sorted = p.sorted; few = omega (arith, p.few) })
from_read kind b (suc n) at m r most h p =
    through _ _ r h λ t t_is h1. through _ _ r h1 λ key key_is h2. through _ _ r h2 λ value value_is h3.
    let next = with_read key value m most (slot_text_in kind b t 0 key key_is) (slot_text_in kind b t 1 value value_is) p in
    let rest = from_read kind b n (at + 4) (with_read_pair key value m) r (suc most) h3 next in
    record { texts = rest.texts; sorted = rest.sorted; few = omega (arith, rest.few) }

-- what is read of the pairs in a slot: the map, and how many pairs there are up to their end
pub record ReadPairs (before : ℕ) (p : Metadata × ℕ) : Type 0 where
  pub texts : AreTexts p.0
  pub sorted : IsSorted p.0
  pub more : before + length p.0 ≤ p.1
  pub few : p.1 ≤ 1048576

pub pairs_are_read : (b : List ℕ) (t : Table) (slot before : ℕ) (p : Metadata × ℕ) → pairs_of b t slot before ≡ Ok p → ReadPairs before p
unfolding pairs_of
pairs_are_read b t slot before p h =
    through _ _ p h λ v v_is h1. through _ _ p h1 λ u room h2. through _ _ p h2 λ m m_is h3.
    let n = (empty_vector v).count in
    let read' = from_read InvalidFlatbufferSchema b n (empty_vector v).first [] m 0 m_is (record { texts = tt; sorted = tt; few = omega arith }) in
    let most : before + n ≤ 1048576 = leb-true (before + n) 1048576 (is_true _ _ _ room) in
    subst (λ x. ReadPairs before x) (same_read _ p h3) (record { texts = read'.texts; sorted = read'.sorted; more = omega (arith, read'.few); few = most })

-- ── sorted maps ascend ──

behind_last : (acc : Metadata) (x : List ℕ × List ℕ) (key : List ℕ) → IsBehind acc key → bytes_eq key x.0 ≡ false → stands_before key x.0 ≡ false → IsBehind (acc ++ x ∷ []) key
behind_last [] x key h p q = (p, q, tt)
behind_last (y ∷ acc) x key h p q = (h.0, h.1, behind_last acc x key h.2 p q)

-- a key that stands behind another is no other, and does not stand before it
not_before : (x y : List ℕ) → stands_before x y ≡ true → (bytes_eq y x ≡ false) × (stands_before y x ≡ false)
not_before x y h = (by_equal (bytes_eq y x) refl, by_order (stands_before y x) refl)
  where
    by_equal : (t : Bool) → bytes_eq y x ≡ t → t ≡ false
    by_equal false e = refl
    by_equal true e = clash (stands_before x y) h (subst (λ z. stands_before z y ≡ false) (key_same y x e) (before_never y))

    by_order : (t : Bool) → stands_before y x ≡ t → t ≡ false
    by_order false e = refl
    by_order true e = clash (stands_before x x) (before_then x y x h e) (before_never x)

-- each key stands behind some pairs
abbrev AllBehind : Metadata → Metadata → Type 0
AllBehind acc xs = AllByRecursion (λ x. IsBehind acc x.0) xs

all_behind_last : (acc : Metadata) (x : List ℕ × List ℕ) (xs : Metadata) → AllBehind acc xs → AllBefore x.0 xs → AllBehind (acc ++ x ∷ []) xs
all_behind_last acc x [] h g = tt
all_behind_last acc x (y ∷ xs) h g = let n = not_before x.0 y.0 g.0 in (behind_last acc x y.0 h.0 n.0 n.1, all_behind_last acc x xs h.1 g.1)

ascend_from : (acc xs : Metadata) → AreTexts xs → IsSorted xs → AllBehind acc xs → Ascend acc xs
ascend_from acc [] texts sorted behind = tt
ascend_from acc (x ∷ xs) texts sorted behind = (texts.0.0, texts.0.1, behind.0, ascend_from (acc ++ x ∷ []) xs texts.1 sorted.1 (all_behind_last acc x xs behind.1 sorted.0))

none_before : (xs : Metadata) → AllBehind [] xs
none_before [] = tt
none_before (x ∷ xs) = (tt, none_before xs)

pub sorted_ascend : (xs : Metadata) → AreTexts xs → IsSorted xs → Ascend [] xs
sorted_ascend xs texts sorted = ascend_from [] xs texts sorted (none_before xs)

-- pairs of a footer or of a message that are read may be written
pub custom_may : (kind : FlatError → OutOfSpecKind) (b : List ℕ) (m : Metadata) → custom_pairs kind b ≡ Ok m → CustomMayBeWritten m
unfolding custom_pairs
custom_may kind b m h =
    through _ _ m h λ t t_is h1. through _ _ m h1 λ v v_is h2. through _ _ m h2 λ u room h3.
    let n = (empty_vector v).count in
    let read' = from_read kind b n (empty_vector v).first [] m 0 h3 (record { texts = tt; sorted = tt; few = omega arith }) in
    let most : n ≤ 1048576 = leb-true n 1048576 (is_true _ _ _ room) in
    record { ascend = sorted_ascend m read'.texts read'.sorted; few = omega (arith, read'.few, most) }

-- a key behind one pair of a list
behind_one : (front back : Metadata) (x : List ℕ × List ℕ) (key : List ℕ) → IsBehind (front ++ x ∷ back) key → stands_before x.0 key ≡ true
behind_one [] back x key h = before_or_behind key x.0 h.0 h.1
behind_one (y ∷ front) back x key h = behind_one front back x key h.2

before_others : (x : List ℕ × List ℕ) (front back xs : Metadata) → Ascend (front ++ x ∷ back) xs → AllBefore x.0 xs
before_others x front back [] up = tt
before_others x front back (y ∷ xs) up =
    let same : (front ++ x ∷ back) ++ y ∷ [] ≡ front ++ x ∷ (back ++ y ∷ []) = append_assoc front (x ∷ back) (y ∷ []) in
    (behind_one front back x y.0 up.2, before_others x front (back ++ y ∷ []) xs (subst (λ m. Ascend m xs) same up.3))

sorted_behind : (acc xs : Metadata) → Ascend acc xs → IsSorted xs
sorted_behind acc [] up = tt
sorted_behind acc (x ∷ xs) up = (before_others x acc [] xs up.3, sorted_behind (acc ++ x ∷ []) xs up.3)

pub ascend_sorted : (xs : Metadata) → Ascend [] xs → IsSorted xs
ascend_sorted xs up = sorted_behind [] xs up

-- ── a field's own pairs ──

-- no key of a map stands before each of its keys
pub none_behind : (key : List ℕ) (m : Metadata) → AllBefore key m → value_of key m ≡ None
none_behind key [] h = refl
none_behind key (x ∷ m) h = rw (other_key key x.0 h.0) (none_behind key m h.1)

left_out : (key : List ℕ) (m : Metadata) → IsSorted m → value_of key (without_key key m) ≡ None
left_out key [] h = refl
left_out key (x ∷ m) h = elim (bool_cases (bytes_eq key x.0)) [
  | inl e ↦ rw e (none_behind key m (subst (λ k. AllBefore k m) (sym (key_same key x.0 e)) h.0))
  | inr n ↦ rw (n, n) (left_out key m h.1)
]

-- a key that is left out changes nothing under another
pub other_left : (key other : List ℕ) (m : Metadata) → bytes_eq key other ≡ false → value_of key (without_key other m) ≡ value_of key m
other_left key other [] h = refl
other_left key other (x ∷ m) h = elim (bool_cases (bytes_eq other x.0)) [
  | inl e ↦ let no : bytes_eq key x.0 ≡ false = subst (λ y. bytes_eq key y ≡ false) (key_same other x.0 e) h in rw (e, no) refl
  | inr n ↦ elim (bool_cases (bytes_eq key x.0)) [
    | inl e ↦ rw (n, e) refl
    | inr o ↦ rw (n, o) (other_left key other m h)
  ]
]

some_same : (x y : List ℕ) → Some x ≡ Some y → x ≡ y
some_same x y h = cc

value_text : (key : List ℕ) (m : Metadata) (v : List ℕ) → AreTexts m → value_of key m ≡ Some v → is_utf8 v ≡ true
value_text key [] v texts h = cc
value_text key (x ∷ m) v texts h = elim (bool_cases (bytes_eq key x.0)) [
  | inl e ↦ let first : Some (x.1) ≡ Some v = rw e at h in subst (λ y. is_utf8 y ≡ true) (some_same x.1 v first) texts.0.1
  | inr n ↦ let rest : value_of key m ≡ Some v = rw n at h in value_text key m v texts.1 rest
]

pub value_is_text : (key : List ℕ) (m : Metadata) (v : Option (List ℕ)) → AreTexts m → value_of key m ≡ v → IsText v
value_is_text key m None texts h = tt
value_is_text key m (Some v) texts h = value_text key m v texts h

length_without : (key : List ℕ) (m : Metadata) → length (without_key key m) ≤ length m
length_without key [] = omega arith
length_without key (x ∷ m) = elim (bool_cases (bytes_eq key x.0)) [
  | inl e ↦ rw e (omega arith)
  | inr n ↦ rw n (omega (arith, length_without key m))
]

one_left_out : (key : List ℕ) (m : Metadata) (v : List ℕ) → value_of key m ≡ Some v → suc (length (without_key key m)) ≤ length m
one_left_out key [] v h = cc
one_left_out key (x ∷ m) v h = elim (bool_cases (bytes_eq key x.0)) [
  | inl e ↦ rw e (omega arith)
  | inr n ↦ let rest : value_of key m ≡ Some v = rw n at h in rw n (omega (arith, one_left_out key m v rest))
]

pub length_own : (m : Metadata) → length (own_pairs m) ≤ length m
length_own m = omega (arith, length_without extension_name (without_key extension_metadata m), length_without extension_metadata m)

-- how many pairs an extension has
abbrev pub extension_count : Option (List ℕ) → Option (List ℕ) → ℕ
extension_count None metadata = 0
extension_count (Some name) None = 1
extension_count (Some name) (Some metadata) = 2

pub own_few : (m : Metadata) (name metadata : Option (List ℕ)) → value_of extension_name m ≡ name → value_of extension_metadata m ≡ metadata → extension_count name metadata + length (own_pairs m) ≤ length m
own_few m None metadata n e = omega (arith, length_without extension_name (without_key extension_metadata m), length_without extension_metadata m)
own_few m (Some name) None n e =
    let still : value_of extension_name (without_key extension_metadata m) ≡ Some name = other_left extension_name extension_metadata m refl ∙ n in
    omega (arith, one_left_out extension_name (without_key extension_metadata m) name still, length_without extension_metadata m)
own_few m (Some name) (Some metadata) n e =
    let still : value_of extension_name (without_key extension_metadata m) ≡ Some name = other_left extension_name extension_metadata m refl ∙ n in
    omega (arith, one_left_out extension_name (without_key extension_metadata m) name still, one_left_out extension_metadata m metadata e)

pub own_may : (m : Metadata) → AreTexts m → IsSorted m → AreFieldPairs (own_pairs m)
own_may m texts sorted =
    let first = without_key extension_metadata m in
    let sorted1 = sorted_without extension_metadata m sorted in
    record {
      ascend = sorted_ascend (own_pairs m) (texts_without extension_name first (texts_without extension_metadata m texts)) (sorted_without extension_name first sorted1);
      no_name = left_out extension_name first sorted1;
      no_metadata = other_left extension_metadata extension_name first refl ∙ left_out extension_metadata m sorted;
    }
