-- Maps of pairs: what stands under other keys, and a key that is left out.
use Rattle.std.proofs.Common.{◌≡◌, List, [], ◌∷◌, ◌++◌, Option, Some, None, refl, sym, ap, subst, ◌∙◌, true, false, Bool, ◌⊎◌, inl, inr, append_assoc, append-nil}
use Rattle.std.specs.Prelude.{ℕ}
use Rattle.std.specs.Str.{bytes_eq}
use Rattle.std.specs.List.{AllByRecursion}
use Rattle.arrow_spec.specs.Kinds.{Metadata}
use Rattle.arrow_spec.specs.Schema.{stands_before, with_pair, without_key, value_of}
use Rattle.arrow_spec.specs.WrittenSchemas.{Ascend, IsBehind}
use Rattle.arrow_spec.proofs.PairOrder.{before_never, before_or_behind, before_then, key_same}

pub bool_cases : (b : Bool) → (b ≡ true) ⊎ (b ≡ false)
bool_cases true = inl refl
bool_cases false = inr refl

pub clash : {A : Type 0} (t : Bool) → t ≡ true → t ≡ false → A
clash t p q = cc

-- ── what stands under other keys ──

pub value_other : (key k v : List ℕ) (m : Metadata) → bytes_eq key k ≡ false → value_of key (with_pair k v m) ≡ value_of key m
value_other key k v [] h = rw h refl
value_other key k v (x ∷ m) h =
    elim (bool_cases (bytes_eq k x.0)) [
      | inl e ↦ let other : bytes_eq key x.0 ≡ false = subst (λ y. bytes_eq key y ≡ false) (key_same k x.0 e) h in rw (e, h, other) refl
      | inr n ↦ elim (bool_cases (stands_before k x.0)) [
        | inl b ↦ rw (n, b, h) refl
        | inr b ↦ rw (n, b, value_other key k v m h) refl
      ]
    ]

-- a key that is not in a map
pub no_key_parts : (key : List ℕ) (x : List ℕ × List ℕ) (m : Metadata) → value_of key (x ∷ m) ≡ None → (bytes_eq key x.0 ≡ false) × (value_of key m ≡ None)
no_key_parts key x m h = by_test (bytes_eq key x.0) h
  where
    by_test : (t : Bool) → Rattle.std.proofs.Common.cond t (Some x.1) (value_of key m) ≡ None → (t ≡ false) × (value_of key m ≡ None)
    by_test true h = cc
    by_test false h = (refl, h)

-- pairs put into a map one after another
abbrev pub all_pairs : Metadata → Metadata → Metadata
all_pairs m [] = m
all_pairs m (x ∷ xs) = all_pairs (with_pair x.0 x.1 m) xs

pub value_kept : (key : List ℕ) (xs m : Metadata) → value_of key xs ≡ None → value_of key (all_pairs m xs) ≡ value_of key m
value_kept key [] m h = refl
value_kept key (x ∷ xs) m h = let parts = no_key_parts key x xs h in value_kept key xs (with_pair x.0 x.1 m) parts.1 ∙ value_other key x.0 x.1 m parts.0

pair_last : (m : Metadata) (key value : List ℕ) → IsBehind m key → with_pair key value m ≡ m ++ (key, value) ∷ []
pair_last [] key value h = refl
pair_last (x ∷ m) key value h = rw (h.0, h.1, pair_last m key value h.2) refl

pub all_ascend : (xs m : Metadata) → Ascend m xs → all_pairs m xs ≡ m ++ xs
all_ascend [] m up = sym (append-nil m)
all_ascend (x ∷ xs) m up = ap (λ n. all_pairs n xs) (pair_last m x.0 x.1 up.2) ∙ all_ascend xs (m ++ x ∷ []) up.3 ∙ append_assoc m (x ∷ []) xs

-- ── sorted maps ──

abbrev pub AllBefore : List ℕ → Metadata → Type 0
AllBefore key m = AllByRecursion (λ x. stands_before key x.0 ≡ true) m

abbrev pub IsSorted : Metadata → Type 0
IsSorted [] = Unit {0}
IsSorted (x ∷ m) = AllBefore x.0 m × IsSorted m

all_behind : (a b : List ℕ) (m : Metadata) → stands_before a b ≡ true → AllBefore b m → AllBefore a m
all_behind a b [] h g = tt
all_behind a b (x ∷ m) h g = (before_then a b x.0 h g.0, all_behind a b m h g.1)

pub other_key : (k y : List ℕ) → stands_before k y ≡ true → bytes_eq k y ≡ false
other_key k y h = elim (bool_cases (bytes_eq k y)) [
  | inl e ↦ clash (stands_before k y) h (subst (λ z. stands_before k z ≡ false) (key_same k y e) (before_never k))
  | inr n ↦ n
]

first_pair : (k v : List ℕ) (m : Metadata) → AllBefore k m → with_pair k v m ≡ (k, v) ∷ m
first_pair k v [] h = refl
first_pair k v (x ∷ m) h = rw (other_key k x.0 h.0, h.0) refl

before_with : (a k v : List ℕ) (m : Metadata) → stands_before a k ≡ true → AllBefore a m → AllBefore a (with_pair k v m)
before_with a k v [] h g = (h, tt)
before_with a k v (x ∷ m) h g =
    elim (bool_cases (bytes_eq k x.0)) [
      | inl e ↦ rw e (h, g.1)
      | inr n ↦ elim (bool_cases (stands_before k x.0)) [
        | inl b ↦ rw (n, b) (h, g)
        | inr b ↦ rw (n, b) (g.0, before_with a k v m h g.1)
      ]
    ]

pub sorted_with : (k v : List ℕ) (m : Metadata) → IsSorted m → IsSorted (with_pair k v m)
sorted_with k v [] g = (tt, tt)
sorted_with k v (x ∷ m) g =
    elim (bool_cases (bytes_eq k x.0)) [
      | inl e ↦ rw e (subst (λ y. AllBefore y m) (sym (key_same k x.0 e)) g.0, g.1)
      | inr n ↦ elim (bool_cases (stands_before k x.0)) [
        | inl b ↦ rw (n, b) ((b, all_behind k x.0 m b g.0), g)
        | inr b ↦ rw (n, b) (before_with x.0 k v m (before_or_behind k x.0 n b) g.0, sorted_with k v m g.1)
      ]
    ]

before_without : (a key : List ℕ) (m : Metadata) → AllBefore a m → AllBefore a (without_key key m)
before_without a key [] g = tt
before_without a key (x ∷ m) g = elim (bool_cases (bytes_eq key x.0)) [
  | inl e ↦ rw e g.1
  | inr n ↦ rw n (g.0, before_without a key m g.1)
]

pub sorted_without : (key : List ℕ) (m : Metadata) → IsSorted m → IsSorted (without_key key m)
sorted_without key [] g = tt
sorted_without key (x ∷ m) g = elim (bool_cases (bytes_eq key x.0)) [
  | inl e ↦ rw e g.1
  | inr n ↦ rw n (before_without x.0 key m g.0, sorted_without key m g.1)
]

-- a pair of another key is put in, and a key left out, in either order
without_with : (key k v : List ℕ) (m : Metadata) → IsSorted m → bytes_eq key k ≡ false → without_key key (with_pair k v m) ≡ with_pair k v (without_key key m)
without_with key k v [] g h = rw h refl
without_with key k v (x ∷ m) g h =
    elim (bool_cases (bytes_eq k x.0)) [
      | inl e ↦ let other : bytes_eq key x.0 ≡ false = subst (λ y. bytes_eq key y ≡ false) (key_same k x.0 e) h in rw (e, h, other, e) refl
      | inr n ↦ elim (bool_cases (stands_before k x.0)) [
        | inl b ↦ elim (bool_cases (bytes_eq key x.0)) [
          | inl e ↦ rw (n, b, h, e) (sym (first_pair k v m (all_behind k x.0 m b g.0)))
          | inr o ↦ rw (n, b, h, o, n, b) refl
        ]
        | inr b ↦ elim (bool_cases (bytes_eq key x.0)) [
          | inl e ↦ rw (n, b, e) refl
          | inr o ↦ rw (n, b, o, n, b, without_with key k v m g.1 h) refl
        ]
      ]
    ]

pub without_all : (key : List ℕ) (xs m : Metadata) → IsSorted m → value_of key xs ≡ None → without_key key (all_pairs m xs) ≡ all_pairs (without_key key m) xs
without_all key [] m g h = refl
without_all key (x ∷ xs) m g h =
    let parts = no_key_parts key x xs h in
    without_all key xs (with_pair x.0 x.1 m) (sorted_with x.0 x.1 m g) parts.1 ∙ ap (λ n. all_pairs n xs) (without_with key x.0 x.1 m g parts.0)

-- a key that is not in a map
pub without_absent : (key : List ℕ) (m : Metadata) → value_of key m ≡ None → without_key key m ≡ m
without_absent key [] h = refl
without_absent key (x ∷ m) h = let parts = no_key_parts key x m h in rw (parts.0, without_absent key m parts.1) refl
