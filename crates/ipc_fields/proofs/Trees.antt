-- Trees of dictionary ids.
use Rattle.std.proofs.Common.{◌≡◌, ℕ, zero, suc, ◌+◌, ◌<◌, Bool, true, false, List, [], ◌∷◌, map, drop, length, get_or, Option, ℤ, refl, sym, ◌∙◌, ap, arith, ◌||◌}
use Rattle.std.specs.Prelude.{is_some}
use Rattle.std.proofs.Common.{rules}
use Rattle.ipc_fields.specs.IpcFields.{Tree, ids_from, tree_of}
use Rattle.ipc_fields.specs.declared.ipc_field.IpcField.{IpcField, out-IpcField, the_lemmas}
use Rattle.ipc_fields.specs.Contains.{have_id}
use Rattle.ipc_fields.proofs.Steps.{drop_item}

abbrev pub have_left : {A : Type 0} → (A → Tree) → List A → Bool
have_left f xs = have_id (ids_from (map f xs))

pub left_at : {A : Type 0} (f : A → Tree) (xs : List A) (i : ℕ) (x : A) (whole : Bool) → i < length xs → x ≡ get_or xs i x → have_left f (drop i xs) ≡ whole → have_left f (x ∷ drop (i + 1) xs) ≡ whole
left_at f xs i x whole h e g =
    sym (ap (have_left f) (drop_item xs i x x h e)) ∙ g

or_true : (a b c : Bool) → (a || b) ≡ true → ((a || b) || c) ≡ true
or_true true b c h = refl
or_true false true c h = refl
or_true false false c h = cc

or_false : (a b : Bool) → (a || b) ≡ false → (a ≡ false) × (b ≡ false)
or_false true b h = cc
or_false false b h = (refl, h)

-- one that is left has an id
pub one_has_id : {A : Type 0} (f : A → Tree) (xs : List A) (i : ℕ) (x : A) (whole : Bool) → i < length xs → x ≡ get_or xs i x → have_left f (drop i xs) ≡ whole → (is_some (f x).id || have_id (f x).children) ≡ true → whole ≡ true
one_has_id f xs i x whole h e g t = sym (left_at f xs i x whole h e g) ∙ or_true (is_some (f x).id) (have_id (f x).children) (have_left f (drop (i + 1) xs)) t

-- the next one has none
pub one_has_none : {A : Type 0} (f : A → Tree) (xs : List A) (i : ℕ) (x : A) (whole : Bool) → i < length xs → x ≡ get_or xs i x → have_left f (drop i xs) ≡ whole → (is_some (f x).id || have_id (f x).children) ≡ false → have_left f (drop (i + 1) xs) ≡ whole
one_has_none f xs i x whole h e g t =
    let k : have_left f (x ∷ drop (i + 1) xs) ≡ whole = left_at f xs i x whole h e g in
    sym (ap (λ b. b || have_left f (drop (i + 1) xs)) t) ∙ k

pub none_left : {A : Type 0} (f : A → Tree) (xs : List A) (i : ℕ) (whole : Bool) → length xs < suc i → have_left f (drop i xs) ≡ whole → whole ≡ false
none_left f [] zero whole h g = sym g
none_left f [] (suc i) whole h g = sym g
none_left f (x ∷ xs) zero whole h g = absurd (omega (arith, h))
none_left f (x ∷ xs) (suc i) whole h g = none_left f xs i whole (omega (arith, h)) g

pub ids_from_same : (xs ys : List Tree) → ids_from xs ≡ ids_from ys → xs ≡ ys
ids_from_same [] [] e = refl
ids_from_same [] (y ∷ ys) e = cc
ids_from_same (x ∷ xs) [] e = cc
ids_from_same (x ∷ xs) (y ∷ ys) e =
    let i : x.id ≡ y.id = cc in
    let c : x.children ≡ y.children = cc in
    let rest : ids_from xs ≡ ids_from ys = cc in
    let first : x ≡ y = rw (i, c) refl in
    let tails : xs ≡ ys = ids_from_same xs ys rest in
    cc

abbrev pub tree_by : Option ℤ → List Tree → Tree
tree_by id ts = record { id = id; children = ids_from ts }

pub tree_parts : (i j : Option ℤ) (xs ys : List Tree) → tree_by i xs ≡ tree_by j ys → (i ≡ j) × (xs ≡ ys)
tree_parts i j xs ys e = (ap (λ (t : Tree). t.id) e, ids_from_same xs ys (ap (λ (t : Tree). t.children) e))

pub tree_of_is : (f : IpcField) → tree_of f ≡ tree_by (out-IpcField f).dictionary_id (map tree_of (out-IpcField f).fields.items)
tree_of_is f = search (rules, the_lemmas)
