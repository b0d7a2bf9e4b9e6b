-- A type's table with children is read back as the type.
use Rattle.std.proofs.Common.{◌≡◌, ℕ, suc, zero, ◌+◌, ◌*◌, ◌^◌, ◌<◌, ◌≤◌, List, [], ◌∷◌, ◌++◌, length, Some, None, Ok, refl, sym, ap, subst, arith, true, false, Bool, ℤ, pos, negsuc, SFits}
use Rattle.std.specs.Prelude.{nat_lt, nat_eq, ◌&&◌}
use Rattle.std.specs.List.{flat_map}
use Rattle.std.specs.Int.{w16, w32, cast_unsigned, to_le_bytes}
use Rattle.std.proofs.lemmas.Int.{to_z-of_z}
use Rattle.std.proofs.lemmas.Bool.{leb-true, and_parts}
use Rattle.std.proofs.Math.Facts.{Fits-of_z, Fits-lt-pow}
use Rattle.std.proofs.lemmas.List.Concat.{flat_map-cons}
use Rattle.arrow_spec.specs.declared.types.UnionMode.{UnionMode}
use Rattle.arrow_spec.specs.declared.types.UnionMode.TheVariants.{Dense, Sparse}
use Rattle.arrow_spec.specs.Readings.{bind, each}
use Rattle.arrow_spec.specs.Flat.{Table, signed_at}
use Rattle.arrow_spec.specs.Kinds as kind
use Rattle.arrow_spec.specs.Kinds.{Kind, Fields, small, large}
use Rattle.arrow_spec.specs.Schema as schema
use Rattle.arrow_spec.specs.Schema.{are_ids, choice, counted_ids, ids_at, is_id, is_id_behind, type_at, union_at}
use Rattle.arrow_spec.specs.Layout as layout
use Rattle.arrow_spec.specs.Layout.{Slots}
use Rattle.arrow_spec.specs.Sent.{flag, ids_slot, unless_zero}
use Rattle.arrow_spec.specs.Held.{Stands, HoldsSlots}
use Rattle.arrow_spec.specs.WrittenSchemas.{AreStated}
use Rattle.arrow_spec.proofs.Standing.{stands_left}
use Rattle.arrow_spec.proofs.Found.{right_at, within, number_stands}
use Rattle.arrow_spec.proofs.Lengths.{length-numbers32}
use Rattle.arrow_spec.proofs.Slots.{unsigned_absent, unsigned_there, vector_absent, vector_there, zero_back, flag_back}
use Rattle.arrow_spec.proofs.TypeTables.{choice_of, past}

pub small_list_type : (n : ℕ) (b : List ℕ) (t : Table) → n ≡ 1 → type_at b t n schema.«list» ≡ Ok (λ fs. kind.«list» small fs)
unfolding type_at bind
small_list_type n b t e = rw e refl

pub large_list_type : (n : ℕ) (b : List ℕ) (t : Table) → n ≡ 1 → type_at b t n schema.large_list ≡ Ok (λ fs. kind.«list» large fs)
unfolding type_at bind
large_list_type n b t e = rw e refl

pub fixed_size_list_type : (m n : ℕ) (b : List ℕ) (t : Table) → n ≡ 1 → suc m < 2 ^ 31 → HoldsSlots (unless_zero w32 (pos (suc m)) layout.no_more) b t 0 → type_at b t n schema.fixed_size_list ≡ Ok (λ fs. kind.fixed_size_list (suc m) fs)
unfolding type_at bind
fixed_size_list_type m n b t e few h = rw (e, type_at, (zero_back w32 (pos (suc m)) layout.no_more b t 0 (record { sfits = few }) h).0) refl

pub struct_type : (n : ℕ) (b : List ℕ) (t : Table) → type_at b t n schema.struct ≡ Ok (λ fs. kind.struct fs)
unfolding type_at
struct_type n b t = refl

pub map_type : (sorted : Bool) (n : ℕ) (b : List ℕ) (t : Table) → n ≡ 1 → HoldsSlots (flag sorted layout.no_more) b t 0 → type_at b t n schema.map_of ≡ Ok (λ fs. kind.map sorted fs)
unfolding type_at bind
map_type sorted n b t e h = rw (e, type_at, (flag_back sorted layout.no_more b t 0 h).0) refl

-- ── unions ──

abbrev AreSmall : List ℤ → Type 0
AreSmall [] = Unit {0}
AreSmall (z ∷ zs) = SFits w32 z × AreSmall zs

id_small : (z : ℤ) → is_id z ≡ true → SFits w32 z
id_small (pos n) h = record { sfits = omega (arith, leb-true n 127 h) }
id_small (negsuc n) h = cc

ids_small : (zs : List ℤ) → are_ids zs ≡ true → AreSmall zs
ids_small [] h = tt
ids_small (z ∷ zs) h =
    let first = and_parts _ _ h in
    let second = and_parts _ _ first.0 in
    (id_small z second.0, ids_small zs first.1)

signed32_stands : (b : List ℕ) (k : ℕ) (z : ℤ) → SFits w32 z → Stands b k (to_le_bytes w32 (cast_unsigned w32 z)) → signed_at w32 b k ≡ Ok z
unfolding bind
signed32_stands b k z fits h = rw (number_stands w32 b k (cast_unsigned w32 z) (Fits-lt-pow (Fits-of_z fits)) h) (ap Ok (to_z-of_z w32 z fits))

numbers_from : (zs : List ℤ) (b : List ℕ) (first i : ℕ) → AreSmall zs → Stands b (first + 4 * i) (flat_map (λ x. to_le_bytes w32 (cast_unsigned w32 x)) zs) → each (λ j. signed_at w32 b (first + 4 * j)) i (length zs) ≡ Ok zs
unfolding bind
numbers_from [] b first i fits h = refl
numbers_from (z ∷ zs) b first i fits h =
    let u = to_le_bytes w32 (cast_unsigned w32 z) in
    let v = flat_map (λ x. to_le_bytes w32 (cast_unsigned w32 x)) zs in
    let both : Stands b (first + 4 * i) (u ++ v) = subst (λ t. Stands b (first + 4 * i) t) (flat_map-cons (λ x. to_le_bytes w32 (cast_unsigned w32 x)) z zs) h in
    let here : signed_at w32 b (first + 4 * i) ≡ Ok z = signed32_stands b (first + 4 * i) z fits.0 (stands_left b (first + 4 * i) u v both) in
    let others : each (λ j. signed_at w32 b (first + 4 * j)) (suc i) (length zs) ≡ Ok zs = numbers_from zs b first (suc i) fits.1 (right_at b (first + 4 * i) u v (first + 4 * suc i) (omega arith) both) in
    rw (here, others) refl

ids_back : (stated : Bool) (ids : List ℤ) (n : ℕ) (b : List ℕ) (t : Table) → (are_ids ids && nat_eq (length ids) n && nat_lt 0 n) ≡ true → AreStated stated ids n → HoldsSlots (ids_slot stated ids) b t 1 → ids_at b t n ≡ Ok (stated, ids)
unfolding ids_at bind
ids_back true ids n b t right said h =
    let q = h.0.1 in
    let bytes : Stands b (q + 4) (flat_map (λ x. to_le_bytes w32 (cast_unsigned w32 x)) ids) = h.0.4.1 in
    let inside : q + 4 + length ids * 4 ≤ length b = omega (arith, within b (q + 4) (flat_map (λ x. to_le_bytes w32 (cast_unsigned w32 x)) ids) bytes, length-numbers32 ids) in
    let v = vector_there 4 b t 1 h.0.0 q (length ids) h.0.2 h.0.3 h.0.4.0 inside in
    let first = and_parts _ _ right in
    let fits = ids_small ids (and_parts _ _ first.0).0 in
    let start : q + 4 ≡ q + 4 + 4 * 0 = omega arith in
    let numbers = numbers_from ids b (q + 4) 0 fits (subst (λ k. Stands b k (flat_map (λ x. to_le_bytes w32 (cast_unsigned w32 x)) ids)) start bytes) in
    rw (ids_at, v, numbers, right) refl
ids_back false ids n b t right said h =
    let v = vector_absent 4 b t 1 (past b t 1 h) in
    let right' : (are_ids (counted_ids 0 n) && nat_eq (length (counted_ids 0 n)) n && nat_lt 0 n) ≡ true = subst (λ zs. (are_ids zs && nat_eq (length zs) n && nat_lt 0 n) ≡ true) said right in
    rw (ids_at, v, right') (rw said refl)

union_by : (mode : ℕ) (stated : Bool) (ids : List ℤ) (n : ℕ) (b : List ℕ) (t : Table) → choice 2 0 b t 0 ≡ Ok mode → ids_at b t n ≡ Ok (stated, ids) → type_at b t n schema.union ≡ Ok (λ fs. kind.union (Rattle.std.proofs.Common.cond (nat_eq mode 0) Sparse Dense) stated ids fs)
unfolding type_at union_at bind
union_by mode stated ids n b t e f = rw (type_at, e, f) refl

abbrev mode_slots : UnionMode → Bool → List ℤ → Slots
mode_slots Dense stated ids = layout.value w16 (pos 1) (ids_slot stated ids)
mode_slots Sparse stated ids = layout.absent (ids_slot stated ids)

pub union_type : (mode : UnionMode) (stated : Bool) (ids : List ℤ) (n m : ℕ) (b : List ℕ) (t : Table) → n ≡ m → (are_ids ids && nat_eq (length ids) m && nat_lt 0 m) ≡ true → AreStated stated ids m → HoldsSlots (mode_slots mode stated ids) b t 0
    → type_at b t n schema.union ≡ Ok (λ fs. kind.union mode stated ids fs)
union_type Dense stated ids n m b t e right said h =
    rw e (union_by 1 stated ids m b t (choice_of 2 0 b t 0 1 refl (unsigned_there w16 0 b t 0 h.0.0 1 h.0.1 h.0.2)) (ids_back stated ids m b t right said h.1))
union_type Sparse stated ids n m b t e right said h =
    rw e (union_by 0 stated ids m b t (choice_of 2 0 b t 0 0 refl (unsigned_absent w16 0 b t 0 h.0)) (ids_back stated ids m b t right said h.1))
