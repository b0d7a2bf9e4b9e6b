-- Byte strings and texts between offsets.
use Rattle.std.proofs.Common.{◌≡◌, ℕ, suc, ◌+◌, ◌*◌, ◌≤◌, ◌<◌, List, [], ◌∷◌, Option, Some, None, IfSome, inl, Bool, true, false, refl, sym, ap, ◌∙◌, arith, subst}
use Rattle.std.specs.Prelude.{not, ◌&&◌}
use Rattle.std.specs.Str.{is_utf8}
use Rattle.arrow_spec.specs.declared.error.IpcError.{IpcError}
use Rattle.arrow_spec.specs.declared.error.IpcError.TheVariants.{OutOfSpec}
use Rattle.arrow_spec.specs.declared.error.OutOfSpecKind.TheVariants.{InvalidOffsets, InvalidUtf8}
use Rattle.arrow_spec.specs.Readings.{Refuses}
use Rattle.arrow_spec.specs.Flat.{Order}
use Rattle.arrow_spec.specs.Counts.{RecordBatch, Place, magnitude}
use Rattle.arrow_spec.specs.Arrays.{buf, range_of, slice, unsigned_in, valid}
use Rattle.arrow_spec.specs.Faults.{bytes_faults, cause, if_sound, numbers_faults, offsets_faults, some_row, utf8_faults}
use Rattle.arrow_buffers.proofs.Rows.{none_below}
use Rattle.ipc_read.proofs.Refusals.{refuses_sound}
use Rattle.ipc_read_laws.proofs.Buffers.{some_row-same}
use Rattle.view_types.specs.declared.layout.Range.{Range}
use Rattle.view_types.specs.declared.layout.Layout.{Layout}
use Rattle.view_types.specs.declared.layout.Layout.TheVariants.{Bytes}
use Rattle.view_types.specs.Ranges.{Lies}
use Rattle.view_types.specs.Sound.{AreBytes, Between, HasBits, IsSound, Stands}
use Rattle.view_types.specs.Views.{Top, Views, none, bits_in, is_set, offset_bytes, offsets_by, order_of, part_in}
use Rattle.ipc_view.specs.Built.{HasBitsIn}
use Rattle.ipc_view.specs.Layouts.{IsLeafOf, ShowsStrings, string_buffers_faults, string_causes, strings_faults, text_causes}
use Rattle.ipc_view.specs.Tests.{has_bad_offsets, is_no_text, offset_place}
use Rattle.ipc_view.proofs.Rising.{good}

-- ── what is wrong ──

bytes_are : (m : RecordBatch) (is_large : Bool) (p : Place) (rows : ℕ)
    → bytes_faults m (offsets_by is_large) p rows ≡ if_sound (string_buffers_faults m is_large p rows) (offsets_faults m (offsets_by is_large) (p.buffer + 1) rows (magnitude (range_of m (p.buffer + 2)).length))
unfolding bytes_faults
bytes_are m false p rows = refl
bytes_are m true p rows = refl

pub offsets_same : (m : RecordBatch) (is_large : Bool) (i rows most : ℕ) → offsets_faults m (offsets_by is_large) i rows most ≡ cause (has_bad_offsets (buf m i) is_large m.order rows most) (OutOfSpec InvalidOffsets)
unfolding offsets_faults unsigned_in
offsets_same m false i rows most = refl
offsets_same m true i rows most = refl

texts_same : (m : RecordBatch) (p : Place) (is_large : Bool) (rows : ℕ) (bits : Option (List ℕ)) → ((row : ℕ) → row < rows → is_set bits row ≡ valid m p row)
    → utf8_faults m (offsets_by is_large) p rows ≡ cause (some_row (is_no_text (buf m (p.buffer + 1)) (buf m (p.buffer + 2)) bits is_large m.order) rows) (OutOfSpec InvalidUtf8)
unfolding utf8_faults unsigned_in
texts_same m p false rows bits h = ap (λ b. cause b (OutOfSpec InvalidUtf8)) (sym (some_row-same _ _ rows (λ row l. ap (λ v. v && not (is_utf8 (slice (buf m (p.buffer + 2)) (offset_place (buf m (p.buffer + 1)) false m.order row) (offset_place (buf m (p.buffer + 1)) false m.order (suc row))))) (h row l))))
texts_same m p true rows bits h = ap (λ b. cause b (OutOfSpec InvalidUtf8)) (sym (some_row-same _ _ rows (λ row l. ap (λ v. v && not (is_utf8 (slice (buf m (p.buffer + 2)) (offset_place (buf m (p.buffer + 1)) true m.order row) (offset_place (buf m (p.buffer + 1)) true m.order (suc row))))) (h row l))))

-- where nothing is wrong with the buffers themselves, it is told by the ranges that show them
offsets_told : (m : RecordBatch) (l : Layout) (is_large : Bool) (p : Place) (rows : ℕ) (t : Top) → ShowsStrings m l is_large p rows t
    → has_bad_offsets (buf m (p.buffer + 1)) is_large m.order rows (magnitude (range_of m (p.buffer + 2)).length) ≡ has_bad_offsets (part_in t.input t.first) is_large (order_of t.is_big) t.rows t.second.length
offsets_told m l is_large p rows t s =
    ap (λ b. has_bad_offsets b is_large m.order rows (magnitude (range_of m (p.buffer + 2)).length)) (sym s.offsets)
    ∙ ap (λ o. has_bad_offsets (part_in t.input t.first) is_large o rows (magnitude (range_of m (p.buffer + 2)).length)) s.order
    ∙ ap (λ n. has_bad_offsets (part_in t.input t.first) is_large (order_of t.is_big) rows n) (sym s.stated)
    ∙ ap (λ n. has_bad_offsets (part_in t.input t.first) is_large (order_of t.is_big) n t.second.length) (sym s.all_rows)

texts_told : (m : RecordBatch) (l : Layout) (is_large : Bool) (p : Place) (rows : ℕ) (t : Top) → ShowsStrings m l is_large p rows t
    → some_row (is_no_text (buf m (p.buffer + 1)) (buf m (p.buffer + 2)) (bits_in t.input t.validity) is_large m.order) rows
    ≡ some_row (is_no_text (part_in t.input t.first) (part_in t.input t.second) (bits_in t.input t.validity) is_large (order_of t.is_big)) t.rows
texts_told m l is_large p rows t s =
    ap (λ b. some_row (is_no_text b (buf m (p.buffer + 2)) (bits_in t.input t.validity) is_large m.order) rows) (sym s.offsets)
    ∙ ap (λ b. some_row (is_no_text (part_in t.input t.first) b (bits_in t.input t.validity) is_large m.order) rows) (sym s.values)
    ∙ ap (λ o. some_row (is_no_text (part_in t.input t.first) (part_in t.input t.second) (bits_in t.input t.validity) is_large o) rows) s.order
    ∙ ap (λ n. some_row (is_no_text (part_in t.input t.first) (part_in t.input t.second) (bits_in t.input t.validity) is_large (order_of t.is_big)) n) (sym s.all_rows)

bytes_told : (m : RecordBatch) (l : Layout) (is_large : Bool) (p : Place) (rows : ℕ) (t : Top) → ShowsStrings m l is_large p rows t → string_buffers_faults m is_large p rows ≡ []
    → bytes_faults m (offsets_by is_large) p rows ≡ cause (has_bad_offsets (part_in t.input t.first) is_large (order_of t.is_big) t.rows t.second.length) (OutOfSpec InvalidOffsets)
bytes_told m l is_large p rows t s fine =
    bytes_are m is_large p rows
    ∙ ap (λ es. if_sound es (offsets_faults m (offsets_by is_large) (p.buffer + 1) rows (magnitude (range_of m (p.buffer + 2)).length))) fine
    ∙ offsets_same m is_large (p.buffer + 1) rows (magnitude (range_of m (p.buffer + 2)).length)
    ∙ ap (λ b. cause b (OutOfSpec InvalidOffsets)) (offsets_told m l is_large p rows t s)

pub strings_told : (m : RecordBatch) (l : Layout) (is_large is_text : Bool) (p : Place) (rows : ℕ) (t : Top) → ShowsStrings m l is_large p rows t → string_buffers_faults m is_large p rows ≡ []
    → strings_faults m is_large is_text p rows ≡ string_causes t is_large is_text
strings_told m l is_large false p rows t s fine = bytes_told m l is_large p rows t s fine ∙ sound_none (cause (has_bad_offsets (part_in t.input t.first) is_large (order_of t.is_big) t.rows t.second.length) (OutOfSpec InvalidOffsets))
  where
    sound_none : (es : List IpcError) → es ≡ if_sound es []
    sound_none [] = refl
    sound_none (e ∷ es) = refl
strings_told m l is_large true p rows t s fine =
    ap (λ es. if_sound es (utf8_faults m (offsets_by is_large) p rows)) (bytes_told m l is_large p rows t s fine)
    ∙ ap (if_sound (cause (has_bad_offsets (part_in t.input t.first) is_large (order_of t.is_big) t.rows t.second.length) (OutOfSpec InvalidOffsets)))
    (texts_same m p is_large rows (bits_in t.input t.validity) s.bits ∙ ap (λ b. cause b (OutOfSpec InvalidUtf8)) (texts_told m l is_large p rows t s))

-- and what is wrong with the buffers themselves is wrong with the array
pub strings_refused : (m : RecordBatch) (is_large is_text : Bool) (p : Place) (rows : ℕ) (e : IpcError) → Refuses e (string_buffers_faults m is_large p rows) → Refuses e (strings_faults m is_large is_text p rows)
strings_refused m is_large false p rows e h = subst (λ es. Refuses e es) (sym (bytes_are m is_large p rows)) (refuses_sound (string_buffers_faults m is_large p rows) _ e h)
strings_refused m is_large true p rows e h = refuses_sound (bytes_faults m (offsets_by is_large) p rows) _ e (subst (λ es. Refuses e es) (sym (bytes_are m is_large p rows)) (refuses_sound (string_buffers_faults m is_large p rows) _ e h))

-- a buffer of offsets, by the number of its bytes and by that of its offsets
pub offsets_as_stated : (m : RecordBatch) (i w v rows : ℕ) → w ≡ v → numbers_faults m i w (rows + 1) ≡ numbers_faults m i v (suc rows)
offsets_as_stated m i w v rows e = let q : rows + 1 ≡ suc rows = omega arith in ap (λ n. numbers_faults m i n (rows + 1)) e ∙ ap (numbers_faults m i v) q

pub no_text_same : (o o2 v v2 : List ℕ) (b b2 : Option (List ℕ)) (is_large : Bool) (order : Order) (rows : ℕ) → o ≡ o2 → v ≡ v2 → b ≡ b2 → some_row (is_no_text o v b is_large order) rows ≡ some_row (is_no_text o2 v2 b2 is_large order) rows
no_text_same o o2 v v2 b b2 is_large order rows h k l = rw (h, k, l) refl

-- ── what stands there ──

utf8_of : (s u : Bool) → s && not u ≡ false → s ≡ true → u ≡ true
utf8_of s true h k = refl
utf8_of false false h k = cc
utf8_of true false h k = let e : true ≡ false = h in cc

pub room_of : (is_large : Bool) (rows row n : ℕ) → offset_bytes is_large * (rows + 1) ≤ n → row < rows → offset_bytes is_large * (row + 2) ≤ n
room_of false rows row n h l = let h4 : 4 * (rows + 1) ≤ n = h in let g : 4 * (row + 2) ≤ n = omega (arith, h4, l) in g
room_of true rows row n h l = let h8 : 8 * (rows + 1) ≤ n = h in let g : 8 * (row + 2) ≤ n = omega (arith, h8, l) in g

-- offsets that fit, each between its neighbours
pub between : (t : Top) (is_large : Bool) (limit row : ℕ) → offset_bytes is_large * (t.rows + 1) ≤ t.first.length → has_bad_offsets (part_in t.input t.first) is_large (order_of t.is_big) t.rows limit ≡ false → row < t.rows → Between t is_large limit row
between t is_large limit row room fine h =
    let g = good (part_in t.input t.first) is_large (order_of t.is_big) t.rows limit row fine h in
    record { room = room_of is_large t.rows row t.first.length room h; rise = g.rise; within = g.within }

pub strings_stand : (t : Top) (is_large is_text : Bool) → Lies t.input t.first → Lies t.input t.second → offset_bytes is_large * (t.rows + 1) ≤ t.first.length
    → has_bad_offsets (part_in t.input t.first) is_large (order_of t.is_big) t.rows t.second.length ≡ false
    → (is_text ≡ true → some_row (is_no_text (part_in t.input t.first) (part_in t.input t.second) (bits_in t.input t.validity) is_large (order_of t.is_big)) t.rows ≡ false) → AreBytes t is_large is_text
strings_stand t is_large is_text here there room fine texts = record {
  offsets = here;
  values = there;
  rows = λ row h. between t is_large t.second.length row room fine h;
  texts = λ x row h v. utf8_of (is_set (bits_in t.input t.validity) row) _ (none_below (is_no_text (part_in t.input t.first) (part_in t.input t.second) (bits_in t.input t.validity) is_large (order_of t.is_big)) t.rows (texts x) row h) v;
}

bad_refused : (b : Bool) (es : List IpcError) → b ≡ true → Refuses (OutOfSpec InvalidOffsets) (if_sound (cause b (OutOfSpec InvalidOffsets)) es)
bad_refused b es h = rw h (inl refl)

pub offsets_refused : (t : Top) (is_large is_text : Bool) → has_bad_offsets (part_in t.input t.first) is_large (order_of t.is_big) t.rows t.second.length ≡ true → Refuses (OutOfSpec InvalidOffsets) (string_causes t is_large is_text)
offsets_refused t is_large is_text h = bad_refused _ (text_causes t is_large is_text) h

texts_bad : (b c : Bool) → b ≡ false → c ≡ true → Refuses (OutOfSpec InvalidUtf8) (if_sound (cause b (OutOfSpec InvalidOffsets)) (cause c (OutOfSpec InvalidUtf8)))
texts_bad b c h k = rw (h, k) (inl refl)

pub texts_refused : (t : Top) (is_large is_text : Bool) → has_bad_offsets (part_in t.input t.first) is_large (order_of t.is_big) t.rows t.second.length ≡ false → is_text ≡ true
    → some_row (is_no_text (part_in t.input t.first) (part_in t.input t.second) (bits_in t.input t.validity) is_large (order_of t.is_big)) t.rows ≡ true → Refuses (OutOfSpec InvalidUtf8) (string_causes t is_large is_text)
texts_refused t is_large false h x k = cc
texts_refused t is_large true h x k = texts_bad _ _ h k

none_by : (b c : Bool) → b ≡ false → c ≡ false → if_sound (cause b (OutOfSpec InvalidOffsets)) (cause c (OutOfSpec InvalidUtf8)) ≡ []
none_by b c h k = rw (h, k) refl

none_at_all : (b : Bool) → b ≡ false → if_sound (cause b (OutOfSpec InvalidOffsets)) [] ≡ []
none_at_all b h = rw h refl

pub strings_fine : (t : Top) (is_large is_text : Bool) → has_bad_offsets (part_in t.input t.first) is_large (order_of t.is_big) t.rows t.second.length ≡ false
    → (is_text ≡ true → some_row (is_no_text (part_in t.input t.first) (part_in t.input t.second) (bits_in t.input t.validity) is_large (order_of t.is_big)) t.rows ≡ false) → string_causes t is_large is_text ≡ []
strings_fine t is_large false h k = none_at_all _ h
strings_fine t is_large true h k = none_by _ _ h (k refl)

-- ── the parts of a view ──

bits_hold : (t : Top) (v : Option Range) → IfSome v (HasBitsIn t.input t.rows) → IfSome v (HasBits t)
bits_hold t None h = tt
bits_hold t (Some r) h = record { lies = h.0; room = h.1 }

pub whole_parts : (t : Top) (l : Layout) (cs : Views) → t.layout ≡ l → IfSome t.validity (HasBitsIn t.input t.rows) → Stands l t cs → IsSound t cs
whole_parts t l cs is bits stands = record { validity = bits_hold t t.validity bits; stands = subst (λ x. Stands x t cs) (sym is) stands }

pub strings_leaf : (m : RecordBatch) (is_large is_text : Bool) (p : Place) (rows : ℕ) (t : Top) → ShowsStrings m (Bytes is_large is_text) is_large p rows t → AreBytes t is_large is_text → IsLeafOf m (Bytes is_large is_text) p rows t
strings_leaf m is_large is_text p rows t s b = record {
  all_rows = s.all_rows;
  layout_is = s.layout_is;
  order = s.order;
  bits = λ _. s.bits;
  buffers = (s.offsets, s.values);
  sound = whole_parts t (Bytes is_large is_text) none s.layout_is s.has_bits b;
}
