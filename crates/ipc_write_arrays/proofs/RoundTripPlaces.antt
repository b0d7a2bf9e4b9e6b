-- Offsets are read back, counted from the first.
use Rattle.std.proofs.Common.{◌≡◌, ℕ, suc, ◌+◌, ◌-◌, ◌*◌, ◌<◌, ◌≤◌, List, [], length, get_or, false, ℤ, pos, ap, subst, refl, ◌∙◌, arith}
use Rattle.std.specs.Prelude.{nat_lt}
use Rattle.std.specs.List.{AllByRecursion}
use Rattle.std.specs.Int.{Width, w32, w64, byte_len, cast_signed}
use Rattle.std.proofs.lemmas.Bool.{le-ltb}
use Rattle.std.proofs.lemmas.Int.{to_z_pos}
use Rattle.std.proofs.lemmas.List.{get_or-map, length-map}
use Rattle.std.proofs.lemmas.List.Elements.{All-from_recursion}
use Rattle.arrow_spec.specs.Flat.{Order, fold_number, from_bytes}
use Rattle.arrow_spec.specs.Kinds.{Offsets, small, large}
use Rattle.arrow_spec.specs.Held.{Stands}
use Rattle.arrow_spec.specs.Counts.{RecordBatch, magnitude, is_negative}
use Rattle.arrow_spec.specs.Arrays.{buf, signed_in, unsigned_in, offset, offset_width, or_0}
use Rattle.arrow_spec.specs.Faults.{some_row, offsets_faults}
use Rattle.arrow_spec.proofs.Bodies.{held_bytes}
use Rattle.arrow_spec.specs.Bodies.{BufferHeld}
use Rattle.arrow_types.specs.Numbers.{to_bytes}
use Rattle.arrow_types.specs.NumberLaws.{unsigned_back, unsigned_width}
use Rattle.arrow_buffers.specs.Variable.{place_at}
use Rattle.arrow_buffers.proofs.Rows.{none_from}
use Rattle.ipc_bodies.specs.Fitting.{offset_limit}
use Rattle.ipc_bodies.specs.Pieces.{rebased, offset_bytes}
use Rattle.ipc_write_arrays.proofs.RoundTripTurned.{itself, part_there}
use Rattle.ipc_write_arrays.proofs.RoundTripNumbers.{item_stands, length-items}

-- offsets in a buffer of a record batch
pub record OffsetsHeld (order : Order) (o : Offsets) (offsets : List ℤ) (m : RecordBatch) (i : ℕ) : Type 0 where
  pub in_it : m.order ≡ order
  pub fit : AllByRecursion (λ x. magnitude x < offset_limit o) offsets
  pub held : BufferHeld m i (offset_bytes order o offsets)

-- an offset that fits is read back
offset_back : (o : Offsets) (order : Order) (n : ℕ) → n < offset_limit o → cast_signed (offset_width o) (from_bytes order (offset_width o) (to_bytes order (offset_width o) n)) ≡ pos n
offset_back small order n h = ap (cast_signed w32) (unsigned_back w32 order n (omega arith)) ∙ to_z_pos w32 n (omega arith)
offset_back large order n h = ap (cast_signed w64) (unsigned_back w64 order n (omega arith)) ∙ to_z_pos w64 n (omega arith)

rebased_at : (offsets : List ℤ) (j : ℕ) → j < length offsets → get_or (rebased offsets) j 0 ≡ place_at offsets j - place_at offsets 0
rebased_at offsets j h = get_or-map (λ x. magnitude x - place_at offsets 0) offsets j (pos 0) 0 h

length-rebased : (offsets : List ℤ) → length (rebased offsets) ≡ length offsets
length-rebased offsets = length-map offsets (λ x. magnitude x - place_at offsets 0)

pub offset_fits : (o : Offsets) (offsets : List ℤ) (j : ℕ) → AllByRecursion (λ x. magnitude x < offset_limit o) offsets → j < length offsets → place_at offsets j < offset_limit o
offset_fits o offsets j fit h = All-from_recursion (λ x. magnitude x < offset_limit o) offsets fit j (pos 0) h

pub length-offset_bytes : (order : Order) (o : Offsets) (offsets : List ℤ) → length (offset_bytes order o offsets) ≡ byte_len (offset_width o) * length offsets
length-offset_bytes order o offsets =
    let w = offset_width o in
    length-items (λ n. to_bytes order w n) (byte_len w) (rebased offsets) 0 (λ i lt. unsigned_width w order (get_or (rebased offsets) i 0)) ∙ ap (λ n. byte_len w * n) (length-rebased offsets)

pub unsigned_by : (w : Width) (order : Order) (m : RecordBatch) (i j : ℕ) (b x : List ℕ) → m.order ≡ order → buf m i ≡ b → length x ≡ byte_len w → Stands b (byte_len w * j) x → unsigned_in m w i j ≡ from_bytes order w x
unfolding unsigned_in
unsigned_by w order m i j b x o held e s = rw (held, o) (ap (λ r. or_0 (fold_number order w r)) (part_there b (byte_len w * j) (byte_len w) x e s))

pub signed_by : (w : Width) (order : Order) (m : RecordBatch) (i j : ℕ) (b x : List ℕ) → m.order ≡ order → buf m i ≡ b → length x ≡ byte_len w → Stands b (byte_len w * j) x → signed_in m w i j ≡ cast_signed w (from_bytes order w x)
signed_by w order m i j b x o held e s = ap (cast_signed w) (unsigned_by w order m i j b x o held e s)

module _ (order : Order) (o : Offsets) (offsets : List ℤ) (m : RecordBatch) (i : ℕ) (b : OffsetsHeld order o offsets m i) where
  signed_read : (j : ℕ) → j < length offsets → signed_in m (offset_width o) i j ≡ pos (place_at offsets j - place_at offsets 0)
  signed_read j h =
      let w = offset_width o in
      let all = offset_bytes order o offsets in
      let n = get_or (rebased offsets) j 0 in
      let l : length (rebased offsets) ≡ length offsets = length-rebased offsets in
      let at : 0 + byte_len w * j ≡ byte_len w * j = omega arith in
      let there : Stands all (byte_len w * j) (to_bytes order w n) = subst (λ k. Stands all k (to_bytes order w n)) at (item_stands (λ k. to_bytes order w k) (byte_len w) (rebased offsets) 0 all 0 j (λ i lt. unsigned_width w order (get_or (rebased offsets) i 0)) (omega arith) (itself all)) in
      let e : n ≡ place_at offsets j - place_at offsets 0 = rebased_at offsets j h in
      let fits : place_at offsets j < offset_limit o = offset_fits o offsets j b.fit h in
      signed_by w order m i j all (to_bytes order w n) b.in_it (held_bytes m i all b.held) (unsigned_width w order n) there ∙ offset_back o order n (omega arith) ∙ ap pos e

  pub offset_read : (j : ℕ) → j < length offsets → offset m o i j ≡ place_at offsets j - place_at offsets 0
  offset_read j h = ap magnitude (signed_read j h)

  no_negative : (rows : ℕ) → length offsets ≡ suc rows → some_row (λ j. is_negative (signed_in m (offset_width o) i j)) (suc rows) ≡ false
  no_negative rows l = none_from (λ j. is_negative (signed_in m (offset_width o) i j)) (suc rows) (λ k lt. ap is_negative (signed_read k (omega arith)))

  none_falls : (rows : ℕ) → length offsets ≡ suc rows → ((j : ℕ) → j < rows → place_at offsets j ≤ place_at offsets (suc j)) → some_row (λ j. nat_lt (offset m o i (suc j)) (offset m o i j)) rows ≡ false
  none_falls rows l climbs =
      none_from (λ j. nat_lt (offset m o i (suc j)) (offset m o i j)) rows (λ k lt.
      let e : offset m o i (suc k) ≡ place_at offsets (suc k) - place_at offsets 0 = offset_read (suc k) (omega arith) in
      let f : offset m o i k ≡ place_at offsets k - place_at offsets 0 = offset_read k (omega arith) in
      let c : place_at offsets k ≤ place_at offsets (suc k) = climbs k lt in
      le-ltb (offset m o i (suc k)) (offset m o i k) (omega arith))

  -- offsets that rise up to a length are right
  pub offsets_right : (rows most : ℕ) → length offsets ≡ suc rows → ((j : ℕ) → j < rows → place_at offsets j ≤ place_at offsets (suc j)) → place_at offsets rows - place_at offsets 0 ≤ most → offsets_faults m o i rows most ≡ []
  unfolding offsets_faults
  offsets_right rows most l climbs le =
      let e : offset m o i rows ≡ place_at offsets rows - place_at offsets 0 = offset_read rows (omega arith) in
      let inside : nat_lt most (offset m o i rows) ≡ false = le-ltb _ _ (omega arith) in
      rw (no_negative rows l, none_falls rows l climbs, inside) refl
