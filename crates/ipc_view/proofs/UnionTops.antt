-- The ranges of unions, their children aside.
use Rattle.std.proofs.Common.{◌≡◌, ℕ, zero, suc, ◌+◌, ◌*◌, ◌≤◌, List, [], Result, Some, Bool, true, false, ◌&&◌, ℤ, refl, sym, ap, subst, ◌∙◌, arith}
use Rattle.std.specs.Prelude.{nat_lt, slice_get}
use Rattle.std.specs.Int.{cast_signed, w8, w32}
use Rattle.arrow_spec.specs.declared.error.IpcError.{IpcError}
use Rattle.arrow_spec.specs.declared.error.IpcError.TheVariants.{Unsupported}
use Rattle.arrow_spec.specs.declared.error.Feature.TheVariants.{UnionNulls}
use Rattle.arrow_spec.specs.declared.message.FieldNode.{FieldNode}
use Rattle.arrow_spec.specs.declared.types.UnionMode.{UnionMode}
use Rattle.arrow_spec.specs.declared.types.UnionMode.TheVariants.{Dense, Sparse}
use Rattle.arrow_spec.specs.Readings.{Refuses}
use Rattle.arrow_spec.specs.Flat.{num}
use Rattle.arrow_spec.specs.Counts.{RecordBatch, Place, magnitude}
use Rattle.arrow_spec.specs.Arrays.{buf, has_nulls, or_0, signed_in, types_buffer, unsigned_in}
use Rattle.arrow_spec.specs.Faults.{cause, dense_buffer_faults, numbers_faults}
use Rattle.ipc_read.proofs.Parts.{nulls_of}
use Rattle.ipc_read.proofs.Refusals.{among_cause, both_none, no_cause, refuses_left, refuses_right}
use Rattle.view_types.specs.declared.layout.Range.{Range}
use Rattle.view_types.specs.declared.parts.ViewParts.{ViewParts}
use Rattle.view_types.specs.Ranges.{Lies}
use Rattle.view_types.specs.Sound.{HasPlaces}
use Rattle.view_types.specs.Tops.{top_in}
use Rattle.view_types.specs.Views.{Top, order_of, part_in, type_in}
use Rattle.ipc_view.specs.Answers.{Answers}
use Rattle.ipc_view.specs.Unions.{IsUnionTop, ShowsPlaces, place_number, places_faults, union_buffers_faults, union_part, union_top_faults}

abbrev nulls_bad : RecordBatch → Place → List IpcError
nulls_bad m p = cause (nat_lt p.buffer (types_buffer m p) && has_nulls m p) (Unsupported UnionNulls)

-- ── what is wrong ──

nulls_told : (m : RecordBatch) (p : Place) (number : ℕ) (node : FieldNode) → slice_get m.nodes p.node ≡ Some node → number ≡ types_buffer m p → (nat_lt p.buffer number && nat_lt 0 (magnitude node.null_count)) ≡ (nat_lt p.buffer (types_buffer m p) && has_nulls m p)
nulls_told m p number node stands e = ap (λ n. nat_lt p.buffer n && nat_lt 0 (magnitude node.null_count)) e ∙ ap (λ b. nat_lt p.buffer (types_buffer m p) && b) (sym (nulls_of m p node stands))

pub nulls_refused : (m : RecordBatch) (mode : UnionMode) (p : Place) (rows number : ℕ) (node : FieldNode) → slice_get m.nodes p.node ≡ Some node → number ≡ types_buffer m p → (nat_lt p.buffer number && nat_lt 0 (magnitude node.null_count)) ≡ true → Refuses (Unsupported UnionNulls) (union_buffers_faults m mode p rows)
nulls_refused m mode p rows number node stands e h = refuses_left (nulls_bad m p) _ (Unsupported UnionNulls) (among_cause _ (Unsupported UnionNulls) (sym (nulls_told m p number node stands e) ∙ h))

pub types_refused : (m : RecordBatch) (mode : UnionMode) (p : Place) (rows number : ℕ) (e : IpcError) → number ≡ types_buffer m p → Refuses e (numbers_faults m number 1 rows) → Refuses e (union_buffers_faults m mode p rows)
types_refused m mode p rows number e i h =
    refuses_right (nulls_bad m p) _ e (refuses_left (numbers_faults m (types_buffer m p) 1 rows) (dense_buffer_faults m mode p rows) e (subst (λ n. Refuses e (numbers_faults m n 1 rows)) i h))

dense_by : (m : RecordBatch) (mode : UnionMode) (p : Place) (rows number : ℕ) → number ≡ types_buffer m p → places_faults m mode (number + 1) rows ≡ dense_buffer_faults m mode p rows
dense_by m Sparse p rows number i = refl
dense_by m Dense p rows number i = let q : number + 1 ≡ suc (types_buffer m p) = omega (arith, i) in ap (λ n. numbers_faults m n 4 rows) q

pub places_refused : (m : RecordBatch) (mode : UnionMode) (p : Place) (rows number : ℕ) (e : IpcError) → number ≡ types_buffer m p → Refuses e (places_faults m mode (number + 1) rows) → Refuses e (union_buffers_faults m mode p rows)
places_refused m mode p rows number e i h =
    refuses_right (nulls_bad m p) _ e (refuses_right (numbers_faults m (types_buffer m p) 1 rows) (dense_buffer_faults m mode p rows) e (subst (λ es. Refuses e es) (dense_by m mode p rows number i) h))

pub ranges_fine : (m : RecordBatch) (mode : UnionMode) (p : Place) (rows number : ℕ) (node : FieldNode) → slice_get m.nodes p.node ≡ Some node → number ≡ types_buffer m p → (nat_lt p.buffer number && nat_lt 0 (magnitude node.null_count)) ≡ false → numbers_faults m number 1 rows ≡ [] → places_faults m mode (number + 1) rows ≡ [] → union_buffers_faults m mode p rows ≡ []
ranges_fine m mode p rows number node stands i few types places =
    both_none (nulls_bad m p) _ (no_cause _ (Unsupported UnionNulls) (sym (nulls_told m p number node stands i) ∙ few))
    (both_none (numbers_faults m (types_buffer m p) 1 rows) _ (ap (λ n. numbers_faults m n 1 rows) (sym i) ∙ types) (sym (dense_by m mode p rows number i) ∙ places))

-- ── what is seen ──

type_seen : (m : RecordBatch) (i row : ℕ) (t : Top) → m.order ≡ order_of t.is_big → part_in t.input t.first ≡ buf m i → type_in t row ≡ signed_in m w8 i row
unfolding unsigned_in
type_seen m i row t o h = let e : row ≡ 1 * row = omega arith in
    ap (λ b. cast_signed w8 (or_0 (num b row w8 (order_of t.is_big)))) h ∙ ap (λ x. cast_signed w8 (or_0 (num (buf m i) row w8 x))) (sym o) ∙ ap (λ n. cast_signed w8 (or_0 (num (buf m i) n w8 m.order))) e

place_seen : (m : RecordBatch) (i row : ℕ) (t : Top) → m.order ≡ order_of t.is_big → part_in t.input t.second ≡ buf m i → place_number t row ≡ signed_in m w32 i row
unfolding unsigned_in
place_seen m i row t o h = ap (λ b. cast_signed w32 (or_0 (num b (4 * row) w32 (order_of t.is_big)))) h ∙ ap (λ x. cast_signed w32 (or_0 (num (buf m i) (4 * row) w32 x))) (sym o)

have_places : (m : RecordBatch) (mode : UnionMode) (i rows : ℕ) (t : Top) → t.rows ≡ rows → ShowsPlaces t.input m mode i rows t.second → HasPlaces t mode
have_places m Sparse i rows t e s = tt
have_places m Dense i rows t e s = (s.1.0, omega (arith, s.1.1, e))

places_seen : (m : RecordBatch) (mode : UnionMode) (p : Place) (number rows row : ℕ) (t : Top) → number ≡ types_buffer m p → m.order ≡ order_of t.is_big → ShowsPlaces t.input m mode (number + 1) rows t.second → mode ≡ Dense → place_number t row ≡ signed_in m w32 (suc (types_buffer m p)) row
places_seen m Sparse p number rows row t i o s e = cc
places_seen m Dense p number rows row t i o s e = let q : number + 1 ≡ suc (types_buffer m p) = omega (arith, i) in place_seen m (number + 1) row t o s.0 ∙ ap (λ n. signed_in m w32 n row) q

pub ranges_shown : (m : RecordBatch) (mode : UnionMode) (ids : List ℤ) (p : Place) (rows : ℕ) (input : List ℕ) (is_big : Bool) (number : ℕ) (types places : Range) → m.order ≡ order_of is_big → number ≡ types_buffer m p → part_in input types ≡ buf m number → Lies input types → 1 * rows ≤ types.length
    → ShowsPlaces input m mode (number + 1) rows places → IsUnionTop m mode ids p rows (union_part input is_big mode ids rows types places)
ranges_shown m mode ids p rows input is_big number types places o i shows lies room s =
    let t = union_part input is_big mode ids rows types places in
    record {
      all_rows = refl;
      layout_is = refl;
      ids_are = refl;
      no_validity = refl;
      stand = record { lies = lies; room = room };
      have_places = have_places m mode (number + 1) rows t refl s;
      types = λ row l. type_seen m number row t o shows ∙ ap (λ n. signed_in m w8 n row) i;
      places = λ e row l. places_seen m mode p number rows row t i o s e;
    }

no_places : (mode : UnionMode) (t : Top) → t.rows ≡ 0 → t.second ≡ record { at = 0; length = 0 } → HasPlaces t mode
no_places Sparse t e h = tt
no_places Dense t e h = let a : t.second.at ≡ 0 = ap (λ (r : Range). r.at) h in let n : t.second.length ≡ 0 = ap (λ (r : Range). r.length) h in (omega (arith, a, n), omega (arith, e))

-- those of no rows
pub empty_union : (m : RecordBatch) (mode : UnionMode) (ids : List ℤ) (p : Place) (rows : ℕ) (input : List ℕ) (is_big : Bool) → rows ≡ 0 → IsUnionTop m mode ids p rows (union_part input is_big mode ids 0 (record { at = 0; length = 0 }) (record { at = 0; length = 0 }))
empty_union m mode ids p rows input is_big few = record {
  all_rows = sym few;
  layout_is = refl;
  ids_are = refl;
  no_validity = refl;
  stand = record { lies = omega arith; room = omega arith };
  have_places = no_places mode (union_part input is_big mode ids 0 (record { at = 0; length = 0 }) (record { at = 0; length = 0 })) refl refl;
  types = λ row l. absurd (omega (arith, l, few));
  places = λ e row l. absurd (omega (arith, l, few));
}

pub top_answered : (m : RecordBatch) (mode : UnionMode) (ids : List ℤ) (p : Place) (rows : ℕ) (r : Result ViewParts IpcError) → (rows ≡ 0 → ⊥) → Answers r (union_buffers_faults m mode p rows) (λ v. IsUnionTop m mode ids p rows (top_in v)) → Answers r (union_top_faults m mode p rows) (λ v. IsUnionTop m mode ids p rows (top_in v))
top_answered m mode ids p zero r some a = absurd (some refl)
top_answered m mode ids p (suc n) r some a = a
