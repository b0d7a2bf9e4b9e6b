-- Where an id stands among a union's ids, and the rows of its children.
use Rattle.std.proofs.Common.{◌≡◌, ℕ, zero, suc, ◌+◌, ◌<◌, ◌≤◌, ◌&&◌, List, [], ◌∷◌, length, map, get_or, Bool, true, false, Option, Some, None, ℤ, pos, nat_eq, refl, sym, ◌∙◌, ap, arith}
use Rattle.std.specs.Prelude.{nat_le, nat_lt}
use Rattle.std.proofs.lemmas.Bool.{and_parts, eqb-true, leb-false, or_parts}
use Rattle.std.proofs.lemmas.List.{length-map}
use Rattle.arrow_spec.specs.Kinds as kind
use Rattle.arrow_spec.specs.Kinds.{Kind, Fields, same, width}
use Rattle.arrow_spec.specs.Schema.{counted_ids, are_ids}
use Rattle.arrow_spec.specs.Counts.{magnitude, is_negative}
use Rattle.arrow_spec.specs.Arrays.{id_place, or_0}
use Rattle.arrow_spec.specs.Faults.{some_row, is_no_id}
use Rattle.arrow_types.specs.KindOf.{child_of, union_kind_of, fields_of, ids_of}
use Rattle.arrow_types.specs.UnionIds.{are_right}
use Rattle.arrow_types.specs.declared.data_type.UnionType.{UnionType, out-UnionType}
use Rattle.arrow_types.proofs.Children.{width_from}
use Rattle.arrow_types.proofs.Sameness.{union_kind_of_is}
use Rattle.arrow_buffers.proofs.Rows.{none_below}
use Rattle.arrow_arrays.specs.declared.array.Array.{Array}
use Rattle.arrow_arrays.specs.Heads.{Tagged, tagged, is_mode, is_union, is_bad_place, fits_places, has_offsets, tagged_rows, are_all, are_of, child_fields, ids_in, number_at, child_place}
use Rattle.arrow_arrays.specs.Parts.{nested, rows_in, cells_in, kinds_each, rows_each, cells_each, fault_in}
use Rattle.arrow_arrays.specs.PartsOf.{parts_of, forest_of}
use Rattle.arrow_arrays.proofs.HeadSliced.{not_true}
use Rattle.arrow_arrays.proofs.Sliced.{top_sound}

-- a place behind so many others
abbrev pub behind : ℕ → Option ℕ → Option ℕ
behind n None = None
behind n (Some i) = Some (n + i)

id_first : (x : ℤ) (xs : List ℤ) (t : ℤ) → same x t ≡ true → id_place (x ∷ xs) t ≡ Some 0
id_first x xs t s = rw s refl

id_next : (x : ℤ) (xs : List ℤ) (t : ℤ) (r : Option ℕ) → same x t ≡ false → id_place xs t ≡ r → id_place (x ∷ xs) t ≡ behind 1 r
id_next x xs t None s e = rw (s, e) refl
id_next x xs t (Some i) s e = rw (s, e) (ap Some (let q : suc i ≡ 1 + i = omega arith in q))

behind-behind : (n : ℕ) (r : Option ℕ) → behind n (behind 1 r) ≡ behind (n + 1) r
behind-behind n None = refl
behind-behind n (Some i) = ap Some (let q : n + (1 + i) ≡ (n + 1) + i = omega arith in q)

-- ids that are counted
pub counted_at : (from n i : ℕ) → i < n → pos (from + i) ≡ get_or (counted_ids from n) i (pos 0)
counted_at from zero i h = absurd (omega arith)
counted_at from (suc n) zero h = ap pos (let q : from + 0 ≡ from = omega arith in q)
counted_at from (suc n) (suc i) h = ap pos (let q : from + suc i ≡ suc from + i = omega arith in q) ∙ counted_at (suc from) n i (omega arith)

-- an id that stands there is one of so many
below_next : (n : ℕ) (r : Option ℕ) (i : ℕ) → ((k : ℕ) → r ≡ Some k → k < n) → behind 1 r ≡ Some i → i < suc n
below_next n None i h e = cc
below_next n (Some k) i h e = let q : 1 + k ≡ i = cc in omega (arith, h k refl)

below_by : (x : ℤ) (xs : List ℤ) (t : ℤ) (i : ℕ) (b : Bool) → same x t ≡ b → ((k : ℕ) → id_place xs t ≡ Some k → k < length xs) → id_place (x ∷ xs) t ≡ Some i → i < suc (length xs)
below_by x xs t i true s h e = let z : Some 0 ≡ Some i = sym (id_first x xs t s) ∙ e in let q : 0 ≡ i = cc in omega arith
below_by x xs t i false s h e = below_next (length xs) (id_place xs t) i h (sym (id_next x xs t (id_place xs t) s refl) ∙ e)

pub id_below : (xs : List ℤ) (t : ℤ) (i : ℕ) → id_place xs t ≡ Some i → i < length xs
id_below [] t i e = cc
id_below (x ∷ xs) t i e = below_by x xs t i (same x t) refl (λ k q. id_below xs t k q) e

-- ── children, one by one ──

pub rows_under_at : (xs : List Array) (i : ℕ) (d : Array) → i < length xs → rows_in (parts_of (get_or xs i d)) ≡ get_or (rows_each (forest_of xs)) i 0
rows_under_at [] i d h = absurd (omega arith)
rows_under_at (x ∷ xs) zero d h = refl
rows_under_at (x ∷ xs) (suc i) d h = rows_under_at xs i d (omega arith)

pub rows_under_none : (xs : List Array) (i : ℕ) → length xs ≤ i → 0 ≡ get_or (rows_each (forest_of xs)) i 0
rows_under_none [] zero h = refl
rows_under_none [] (suc i) h = refl
rows_under_none (x ∷ xs) zero h = absurd (omega arith)
rows_under_none (x ∷ xs) (suc i) h = rows_under_none xs i (omega arith)

pub length-rows_each : (xs : List Array) → length (rows_each (forest_of xs)) ≡ length xs
length-rows_each [] = refl
length-rows_each (x ∷ xs) = ap suc (length-rows_each xs)

pub cells_under_at : (xs : List Array) (i : ℕ) (d : Array) → i < length xs → get_or (cells_each (forest_of xs)) i [] ≡ cells_in (parts_of (get_or xs i d))
cells_under_at [] i d h = absurd (omega arith)
cells_under_at (x ∷ xs) zero d h = refl
cells_under_at (x ∷ xs) (suc i) d h = cells_under_at xs i d (omega arith)

pub length-kinds_each : (xs : List Array) → length (kinds_each (forest_of xs)) ≡ length xs
length-kinds_each [] = refl
length-kinds_each (x ∷ xs) = ap suc (length-kinds_each xs)

-- ── the type of a union ──

pub union_is : (u : UnionType) (d : Bool) (ks : List Kind) → (is_union d (union_kind_of u) && are_of (child_fields (union_kind_of u)) ks)
    ≡ ((is_mode d (out-UnionType u).mode && are_right (ids_of (out-UnionType u).ids (length (out-UnionType u).fields.items)) (length (out-UnionType u).fields.items)) && are_of (fields_of (out-UnionType u).fields.items) ks)
union_is u d ks =
    let m = (out-UnionType u).mode in
    let ids = (out-UnionType u).ids in
    let fs = (out-UnionType u).fields.items in
    ap (λ k. is_union d k && are_of (child_fields k) ks) (union_kind_of_is u)
    ∙ ap (λ n. (is_mode d m && are_right (ids_of ids (length (map child_of fs))) n) && are_of (fields_of fs) ks) (width_from child_of fs)
    ∙ ap (λ n. (is_mode d m && are_right (ids_of ids n) (length fs)) && are_of (fields_of fs) ks) (length-map fs child_of)

-- there are as many ids as children
ids_many : (d : Bool) (k : Kind) → is_union d k ≡ true → length (ids_in k) ≡ width (child_fields k)
ids_many d (kind.extension name metadata k) e = ids_many d k e
ids_many d (kind.union mode stated ids fs) e =
    let r : are_right ids (width fs) ≡ true = (and_parts (is_mode d mode) (are_right ids (width fs)) e).1 in
    let l : (are_ids ids && nat_eq (length ids) (width fs)) ≡ true = (and_parts (are_ids ids && nat_eq (length ids) (width fs)) (nat_lt 0 (width fs)) r).0 in
    eqb-true (length ids) (width fs) (and_parts (are_ids ids) (nat_eq (length ids) (width fs)) l).1
ids_many d k e = cc

as_many : (fs : Fields) (ks : List Kind) → are_of fs ks ≡ true → width fs ≡ length ks
as_many kind.none [] e = refl
as_many kind.none (k ∷ ks) e = cc
as_many (kind.field name nullable metadata k others) [] e = cc
as_many (kind.field name nullable metadata k others) (l ∷ ks) e = ap suc (as_many others ks (and_parts _ (are_of others ks) e).1)

-- ── the child of a row ──

all_at : (rows : ℕ) (ns : List ℕ) (i : ℕ) → are_all rows ns ≡ true → i < length ns → get_or ns i 0 ≡ rows
all_at rows [] i e h = absurd (omega arith)
all_at rows (n ∷ ns) zero e h = eqb-true n rows (and_parts (nat_eq n rows) (are_all rows ns) e).0
all_at rows (n ∷ ns) (suc i) e h = all_at rows ns i (and_parts (nat_eq n rows) (are_all rows ns) e).1 (omega arith)

place_there : (ids types : List ℤ) (offsets : Option (List ℤ)) (ns : List ℕ) (row i : ℕ) → tagged_rows offsets (length types) ns ≡ true → fits_places ids types offsets ns ≡ true → row < length types
    → id_place ids (number_at types row) ≡ Some i → i < length ns → child_place offsets row < get_or ns i 0
place_there ids types None ns row i r f lt q h = let a = all_at (length types) ns i r h in omega arith
place_there ids types (Some os) ns row i r f lt q h =
    let bad : ℕ → Bool = λ row. is_bad_place ns (id_place ids (number_at types row)) (number_at os row) in
    let here : bad row ≡ false = none_below bad (length types) (not_true (some_row bad (length types)) f) row lt in
    let fine : is_bad_place ns (Some i) (number_at os row) ≡ false = ap (λ r. is_bad_place ns r (number_at os row)) (sym q) ∙ here in
    leb-false (get_or ns i 0) (magnitude (number_at os row)) (or_parts (is_negative (number_at os row)) (nat_le (get_or ns i 0) (magnitude (number_at os row))) fine).1

is_there : (ids : List ℤ) (t : ℤ) (r : Option ℕ) → id_place ids t ≡ r → is_no_id r ≡ false → id_place ids t ≡ Some (or_0 r)
is_there ids t None e h = cc
is_there ids t (Some i) e h = e

-- a row's type stands for a child, which has the row
pub child_there : (t : Tagged) (xs : List Array) (row : ℕ) → fault_in (nested (tagged t) (forest_of xs)) ≡ None → row < length t.types
    → (or_0 (id_place (ids_in t.kind) (number_at t.types row)) < length (rows_each (forest_of xs)))
    × (child_place t.offsets row < get_or (rows_each (forest_of xs)) (or_0 (id_place (ids_in t.kind) (number_at t.types row))) 0)
child_there t xs row e lt =
    let cs = forest_of xs in
    let s = (top_sound (tagged t) cs e).0 in
    let ids = ids_in t.kind in
    let ty = number_at t.types row in
    let suits = and_parts (is_union (has_offsets t.offsets) t.kind) (are_of (child_fields t.kind) (kinds_each cs)) s.suits in
    let bad : ℕ → Bool = λ row. is_no_id (id_place ids (number_at t.types row)) in
    let known : bad row ≡ false = none_below bad (length t.types) (not_true (some_row bad (length t.types)) s.types) row lt in
    let stands : id_place ids ty ≡ Some (or_0 (id_place ids ty)) = is_there ids ty (id_place ids ty) refl known in
    let below : or_0 (id_place ids ty) < length ids = id_below ids ty (or_0 (id_place ids ty)) stands in
    let many : length ids ≡ length xs = ids_many (has_offsets t.offsets) t.kind suits.0 ∙ as_many (child_fields t.kind) (kinds_each cs) suits.1 ∙ length-kinds_each xs in
    let there : or_0 (id_place ids ty) < length (rows_each cs) = omega (arith, length-rows_each xs) in
    (there, place_there ids t.types t.offsets (rows_each cs) row (or_0 (id_place ids ty)) s.rows s.offsets lt stands there)
