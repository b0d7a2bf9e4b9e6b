-- The ids of unions as they are read, one after another.
use Rattle.std.proofs.Common.{◌≡◌, ℕ, suc, ◌+◌, ◌-◌, ◌*◌, ◌<◌, ◌≤◌, List, [], ◌∷◌, ◌++◌, length, take, drop, not, ◌&&◌, Option, Some, None, Result, Ok, Err, ℤ, refl, sym, ◌∙◌, ap, arith, subst, append_assoc, append-nil, le-leb}
use Rattle.std.specs.Prelude.{nat_eq, nat_lt}
use Rattle.std.specs.Int.{w32, from_le_bytes, cast_signed}
use Rattle.arrow_spec.specs.declared.error.IpcError.{IpcError}
use Rattle.arrow_spec.specs.declared.error.FlatError.{FlatError}
use Rattle.arrow_spec.specs.Readings.{bind, Reading, each, only_if, is_absent}
use Rattle.ipc_fields.specs.Causes.{Decodes}
use Rattle.arrow_spec.specs.declared.error.OutOfSpecKind.TheVariants.{InvalidDataType}
use Rattle.std.specs.declared.alloc.Global.{Global}
use Rattle.std.specs.declared.vec.Vec.{Vec}
use Rattle.arrow_spec.specs.Flat.{Table, Vector, part, signed_at, slot_vector}
use Rattle.arrow_spec.specs.Schema.{schema_part, ids_at, counted_ids, are_ids}
use Rattle.arrow_flat.specs.Read.{VectorIn, item}
use Rattle.ipc_fields.specs.UnionIds.{numbers_in, stated_at, ids_of_vector, ids_by, ids_in}

-- ── numbers of a vector ──

part_there : (b : List ℕ) (at n : ℕ) → at + n ≤ length b → part b at n ≡ Some (take n (drop at b))
part_there b at n h = rw (le-leb _ _ h) refl

pub number_in : (v : VectorIn) (i : ℕ) (bytes : List ℕ) → v.width ≡ 4 → v.vector.first + i * v.width + v.width ≤ length v.bytes → bytes ≡ item v i → signed_at w32 v.bytes (v.vector.first + 4 * i) ≡ Ok (cast_signed w32 (from_le_bytes w32 bytes))
unfolding bind
number_in v i bytes wide h e =
    let p : v.vector.first + i * 4 ≡ v.vector.first + 4 * i = omega arith in
    let q : v.vector.first + i * v.width ≡ v.vector.first + 4 * i = ap (λ w. v.vector.first + i * w) wide ∙ p in
    let r : (v.vector.first + 4 * i) + 4 ≤ length v.bytes = subst (λ x. x ≤ length v.bytes) (ap (λ x. x + v.width) q ∙ ap (λ w. (v.vector.first + 4 * i) + w) wide) h in
    let f : bytes ≡ take 4 (drop (v.vector.first + 4 * i) v.bytes) = e ∙ ap (λ w. take w (drop (v.vector.first + i * v.width) v.bytes)) wide ∙ ap (λ x. take 4 (drop x v.bytes)) q in
    rw (part_there v.bytes (v.vector.first + 4 * i) 4 r, f) refl

-- those that were read before those that are left
unfoldable pub with_front : {A E : Type 0} → List A → Result (List A) E → Result (List A) E
with_front front (Ok xs) = Ok (front ++ xs)
with_front front (Err e) = Err e

with_front-nil : {A E : Type 0} (r : Result (List A) E) → with_front [] r ≡ r
unfolding with_front
with_front-nil (Ok xs) = refl
with_front-nil (Err e) = refl

with_front-one : {A E : Type 0} (front : List A) (x : A) (r : Result (List A) E) → with_front (front ++ x ∷ []) r ≡ with_front front (bind r (λ xs. Ok (x ∷ xs)))
unfolding with_front bind
with_front-one front x (Ok xs) = ap Ok (append_assoc front (x ∷ []) xs)
with_front-one front x (Err e) = refl

abbrev pub number_of : VectorIn → ℕ → Result ℤ FlatError
number_of v i = signed_at w32 v.bytes (v.vector.first + 4 * i)

-- the numbers that are left behind those that were read
unfoldable pub numbers_left : VectorIn → List ℤ → ℕ → Reading (List ℤ)
numbers_left v front i = schema_part (with_front front (each (number_of v) i (v.vector.count - i)))

pub numbers_begun : (v : VectorIn) (front : List ℤ) → front ≡ [] → numbers_left v front 0 ≡ numbers_in v
unfolding numbers_left
numbers_begun v front h =
    let n : v.vector.count - 0 ≡ v.vector.count = omega arith in
    rw (h, n) (ap schema_part (with_front-nil (each (number_of v) 0 v.vector.count)))

each-ok : (v : VectorIn) (i n : ℕ) (x : ℤ) → number_of v i ≡ Ok x → each (number_of v) i (suc n) ≡ bind (each (number_of v) (suc i) n) (λ xs. Ok (x ∷ xs))
unfolding bind
each-ok v i n x h = rw h refl

pub numbers_more : (v : VectorIn) (i : ℕ) (front all : List ℤ) (x : ℤ) (whole : Reading (List ℤ)) → i < v.vector.count → numbers_left v front i ≡ whole → number_of v i ≡ Ok x → all ≡ front ++ x ∷ [] → numbers_left v all (i + 1) ≡ whole
unfolding numbers_left
numbers_more v i front all x whole less h got grown =
    let left : v.vector.count - i ≡ suc (v.vector.count - (i + 1)) = omega arith in
    let next : i + 1 ≡ suc i = omega arith in
    let s : each (number_of v) i (v.vector.count - i) ≡ bind (each (number_of v) (i + 1) (v.vector.count - (i + 1))) (λ xs. Ok (x ∷ xs)) = rw (left, next) (each-ok v i (v.vector.count - suc i) x got) in
    ap (λ xs. schema_part (with_front xs (each (number_of v) (i + 1) (v.vector.count - (i + 1))))) grown
    ∙ ap schema_part (with_front-one front x (each (number_of v) (i + 1) (v.vector.count - (i + 1))) ∙ ap (with_front front) (sym s)) ∙ h

pub numbers_done : (v : VectorIn) (i : ℕ) (front : List ℤ) (whole : Reading (List ℤ)) → v.vector.count ≤ i → numbers_left v front i ≡ whole → whole ≡ Ok front
unfolding numbers_left with_front
numbers_done v i front whole less h =
    let left : v.vector.count - i ≡ 0 = omega arith in
    let s : schema_part (with_front front (each (number_of v) i (v.vector.count - i))) ≡ Ok (front ++ []) = ap (λ k. schema_part (with_front front (each (number_of v) i k))) left in
    sym h ∙ s ∙ ap Ok (append-nil front)

-- ── both ──

by_vector : (V : Reading (Option Vector)) (b : List ℕ) (n : ℕ) → bind V (λ v. bind (elim v [ None ↦ Ok (counted_ids 0 n) | Some w ↦ schema_part (each (λ i. signed_at w32 b (w.first + 4 * i)) 0 w.count) ]) (λ ids. bind (only_if (are_ids ids && nat_eq (length ids) n && nat_lt 0 n) InvalidDataType) (λ right. Ok (not (is_absent v), ids)))) ≡ bind V (ids_of_vector b n)
unfolding bind stated_at
by_vector (Ok None) b n = refl
by_vector (Ok (Some w)) b n = refl
by_vector (Err es) b n = refl

ids_same : (b : List ℕ) (t : Table) (n : ℕ) → ids_at b t n ≡ ids_by b t n
unfolding ids_at ids_by
ids_same b t n = by_vector (schema_part (slot_vector 4 b t 1)) b n

pub ids_given : (b : List ℕ) (t : Table) (n : ℕ) (r : Result (Option (Vec ℤ Global)) IpcError) → Decodes (ids_in n) r (ids_by b t n) → Decodes (ids_in n) r (ids_at b t n)
ids_given b t n r h = subst (Decodes (ids_in n) r) (sym (ids_same b t n)) h
