-- Offsets of lists that rise within the rows of the items.
use Rattle.std.proofs.Common.{◌≡◌, ℕ, zero, suc, ◌+◌, ◌*◌, ◌≤◌, ◌<◌, List, [], ◌++◌, Bool, true, false, None, refl, sym, ap, subst, ◌∙◌, arith}
use Rattle.std.specs.Prelude.{nat_lt, ◌||◌}
use Rattle.std.proofs.lemmas.Bool.{le-ltb, or_from, or_parts}
use Rattle.arrow_spec.specs.declared.error.IpcError.{IpcError}
use Rattle.arrow_spec.specs.declared.error.IpcError.TheVariants.{OutOfSpec}
use Rattle.arrow_spec.specs.declared.error.OutOfSpecKind.TheVariants.{InvalidOffsets}
use Rattle.arrow_spec.specs.Readings.{Refuses}
use Rattle.arrow_spec.specs.Flat.{Order}
use Rattle.arrow_spec.specs.Counts.{RecordBatch, Place}
use Rattle.arrow_spec.specs.Arrays.{buf, offset, unsigned_in}
use Rattle.arrow_spec.specs.Faults.{cause, end_of, if_sound, numbers_faults, offsets_buffer_faults, offsets_faults, some_row, validity_faults}
use Rattle.arrow_spec.proofs.Fewer.{none_first, none_second}
use Rattle.ipc_read.proofs.Refusals.{refuses_by, refuses_left, refuses_right, refuses_sound}
use Rattle.view_types.specs.declared.layout.Layout.TheVariants.{Lists}
use Rattle.view_types.specs.Views.{Top, offset_bytes, offset_in, offsets_by, order_of, part_in}
use Rattle.ipc_view.specs.Lists.{IsListTop, Rises, ShowsLists, are_bad, list_buffers_faults, list_causes, list_last, list_top_faults}
use Rattle.ipc_view.specs.Nested.{nested_top}
use Rattle.ipc_view.specs.Tests.{has_bad_offsets, has_fallen, is_below_zero, offset_place}
use Rattle.ipc_view.proofs.Rising.{good}
use Rattle.ipc_view.proofs.Strings.{offsets_same, room_of}

-- offsets that rise within a number rise within the last of them
to_last : (bytes : List ℕ) (is_large : Bool) (order : Order) (rows most : ℕ) → has_bad_offsets bytes is_large order rows most ≡ false → has_bad_offsets bytes is_large order rows (offset_place bytes is_large order rows) ≡ false
to_last bytes is_large order rows most e =
    let front = some_row (is_below_zero bytes is_large order) (suc rows) || some_row (has_fallen bytes is_large order) rows in
    let p = or_parts front (nat_lt most (offset_place bytes is_large order rows)) e in
    or_from front (nat_lt (offset_place bytes is_large order rows) (offset_place bytes is_large order rows)) p.0 (le-ltb _ _ (omega arith))

rise_of : (t : Top) (is_large : Bool) (most row : ℕ) → offset_bytes is_large * (t.rows + 1) ≤ t.first.length → are_bad t is_large most ≡ false → row < t.rows → Rises t is_large (offset_in t is_large t.rows) row
rise_of t is_large most row room fine h =
    let g = good (part_in t.input t.first) is_large (order_of t.is_big) t.rows (offset_in t is_large t.rows) row (to_last (part_in t.input t.first) is_large (order_of t.is_big) t.rows most fine) h in
    record { room = room_of is_large t.rows row t.first.length room h; rise = g.rise; within = g.within }

offsets_seen : (m : RecordBatch) (is_large : Bool) (i j : ℕ) (t : Top) → m.order ≡ order_of t.is_big → part_in t.input t.first ≡ buf m i → offset_in t is_large j ≡ offset m (offsets_by is_large) i j
unfolding unsigned_in
offsets_seen m false i j t o h = rw (h, o) refl
offsets_seen m true i j t o h = rw (h, o) refl

buffer_is : (m : RecordBatch) (is_large : Bool) (i rows : ℕ) → offsets_buffer_faults m (offsets_by is_large) i rows ≡ numbers_faults m i (offset_bytes is_large) (suc rows)
buffer_is m false i rows = refl
buffer_is m true i rows = refl

-- ── what is wrong ──

pub lists_refused : (m : RecordBatch) (is_large : Bool) (p : Place) (rows : ℕ) (e : IpcError) → (rows ≡ 0 → ⊥) → Refuses e (list_buffers_faults m is_large p rows) → Refuses e (list_top_faults m (offsets_by is_large) p rows)
lists_refused m is_large p zero e some h = absurd (some refl)
lists_refused m is_large p (suc n) e some h =
    let bits = validity_faults m p (suc n) in
    let rest = if_sound (offsets_buffer_faults m (offsets_by is_large) (p.buffer + 1) (suc n)) (offsets_faults m (offsets_by is_large) (p.buffer + 1) (suc n) (end_of m (suc p.node))) in
    refuses_by bits (numbers_faults m (p.buffer + 1) (offset_bytes is_large) (suc (suc n))) (bits ++ rest) e (λ r. refuses_left bits rest e r)
    (λ r. refuses_right bits rest e (refuses_sound (offsets_buffer_faults m (offsets_by is_large) (p.buffer + 1) (suc n)) _ e (subst (λ es. Refuses e es) (sym (buffer_is m is_large (p.buffer + 1) (suc n))) r))) h

causes_told : (m : RecordBatch) (is_large : Bool) (p : Place) (rows most : ℕ) (t : Top) → ShowsLists m is_large p rows t → offsets_faults m (offsets_by is_large) (p.buffer + 1) rows most ≡ list_causes t is_large most
causes_told m is_large p rows most t s =
    offsets_same m is_large (p.buffer + 1) rows most
    ∙ ap (λ b. cause (has_bad_offsets b is_large m.order rows most) (OutOfSpec InvalidOffsets)) (sym s.offsets)
    ∙ ap (λ o. cause (has_bad_offsets (part_in t.input t.first) is_large o rows most) (OutOfSpec InvalidOffsets)) s.order
    ∙ ap (λ n. cause (has_bad_offsets (part_in t.input t.first) is_large (order_of t.is_big) n most) (OutOfSpec InvalidOffsets)) (sym s.all_rows)

sound_is : (xs ys : List IpcError) → xs ≡ [] → if_sound xs ys ≡ ys
sound_is xs ys h = rw h refl

pub lists_told : (m : RecordBatch) (is_large : Bool) (p : Place) (rows most : ℕ) (t : Top) → (rows ≡ 0 → ⊥) → most ≡ end_of m (p.node + 1) → ShowsLists m is_large p rows t → list_buffers_faults m is_large p rows ≡ [] → list_top_faults m (offsets_by is_large) p rows ≡ list_causes t is_large most
lists_told m is_large p zero most t some e s fine = absurd (some refl)
lists_told m is_large p (suc n) most t some e s fine =
    let bits = validity_faults m p (suc n) in
    let q : p.node + 1 ≡ suc p.node = omega arith in
    let rest = if_sound (offsets_buffer_faults m (offsets_by is_large) (p.buffer + 1) (suc n)) (offsets_faults m (offsets_by is_large) (p.buffer + 1) (suc n) (end_of m (suc p.node))) in
    ap (λ es. es ++ rest) (none_first bits (numbers_faults m (p.buffer + 1) (offset_bytes is_large) (suc (suc n))) fine)
    ∙ sound_is (offsets_buffer_faults m (offsets_by is_large) (p.buffer + 1) (suc n)) _ (buffer_is m is_large (p.buffer + 1) (suc n) ∙ none_second bits (numbers_faults m (p.buffer + 1) (offset_bytes is_large) (suc (suc n))) fine)
    ∙ ap (offsets_faults m (offsets_by is_large) (p.buffer + 1) (suc n)) (ap (end_of m) (sym q) ∙ sym e)
    ∙ causes_told m is_large p (suc n) most t s

-- ── the parts ──

pub listed : (m : RecordBatch) (is_large : Bool) (p : Place) (rows most last : ℕ) (t : Top) → (rows ≡ 0 → ⊥) → ShowsLists m is_large p rows t → are_bad t is_large most ≡ false → last ≡ offset_in t is_large t.rows → IsListTop m is_large p rows t last
listed m is_large p zero most last t some s fine l = absurd (some refl)
listed m is_large p (suc n) most last t some s fine l = record {
  all_rows = s.all_rows;
  layout_is = s.layout_is;
  order = s.order;
  bits = s.bits;
  has_bits = s.has_bits;
  offsets_lie = s.offsets_lie;
  places = λ j h k. offsets_seen m is_large (p.buffer + 1) j t s.order s.offsets;
  rises = λ row h. subst (λ x. Rises t is_large x row) (sym l) (rise_of t is_large most row s.room fine (omega (arith, h, s.all_rows)));
  last_is = l ∙ ap (offset_in t is_large) s.all_rows ∙ offsets_seen m is_large (p.buffer + 1) (suc n) t s.order s.offsets;
}

-- lists of no rows
pub empty_list : (m : RecordBatch) (is_large : Bool) (p : Place) (rows : ℕ) (t : Top) (input : List ℕ) (is_big : Bool) → rows ≡ 0 → m.order ≡ order_of is_big → t ≡ nested_top input is_big (Lists is_large) 0 None (record { at = 0; length = 0 }) → IsListTop m is_large p rows t 0
empty_list m is_large p rows t input is_big few o e =
    subst (λ x. IsListTop m is_large p rows x 0) (sym e) (record {
      all_rows = sym few;
      layout_is = refl;
      order = o;
      bits = λ row h. absurd (omega (arith, h, few));
      has_bits = tt;
      offsets_lie = omega arith;
      places = λ j h k. absurd (omega (arith, k, few));
      rises = λ row h. absurd (omega (arith, h, few));
      last_is = sym (ap (list_last m (offsets_by is_large) p) few);
    })
