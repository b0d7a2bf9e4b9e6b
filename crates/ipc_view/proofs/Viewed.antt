-- Views that are lent, and what they lead to.
use Rattle.std.proofs.Common.{◌≡◌, ℕ, zero, suc, ◌*◌, ◌<◌, List, [], ◌∷◌, Bool, true, false, length, map, take, drop, get_or, refl, sym, ap, ◌∙◌, arith}
use Rattle.std.specs.Prelude.{nat_le, not, ◌&&◌}
use Rattle.std.specs.Str.{is_utf8}
use Rattle.std.proofs.lemmas.Bool.{leb-true, leb-false}
use Rattle.std.proofs.lemmas.List.{get_or_read}
use Rattle.arrow_spec.specs.Counts.{RecordBatch, Place}
use Rattle.arrow_spec.specs.Arrays as spec
use Rattle.arrow_spec.specs.Arrays.{buf, u32_of, view_of}
use Rattle.arrow_buffers.specs.Views.{buffer_at, is_good_view, view_bytes}
use Rattle.arrow_buffers.proofs.Rows.{none_below}
use Rattle.arrow_buffers.proofs.Views.{leads, long_view, short_view}
use Rattle.ipc_read_laws.proofs.ViewsRead.{bytes-view, good-view}
use Rattle.view_types.specs.declared.layout.Range.{Range}
use Rattle.view_types.specs.Sound.{AreRanges, AreViews, IsSet, LeadsIn, Values}
use Rattle.view_types.specs.Views.{Top, bits_in, is_set, part_in, range_at, view_in, viewed}
use Rattle.view_types.proofs.Ranged.{part_length}
use Rattle.ipc_view.specs.Layouts.{AreGood, ShowsViews, buffers_in, buffers_told, is_bad_text_view, is_bad_view}

-- the buffer of a number
pub buffer_seen : (input : List ℕ) (rs : List Range) (i : ℕ) → i < length rs → buffer_at (map (part_in input) rs) i ≡ part_in input (range_at rs i)
buffer_seen input [] i h = absurd (omega (arith, h))
buffer_seen input (r ∷ rs) zero h = refl
buffer_seen input (r ∷ rs) (suc i) h = buffer_seen input rs i (omega (arith, h))

pub count_seen : (input : List ℕ) (rs : List Range) → length (map (part_in input) rs) ≡ length rs
count_seen input [] = refl
count_seen input (r ∷ rs) = ap suc (count_seen input rs)

-- a good long view leads into a range
pub leads_seen : (t : Top) (row : ℕ) → AreRanges t.input t.buffers → is_good_view (buffers_in t) (view_in t row) ≡ true → LeadsIn t row
leads_seen t row lie good long =
    let l = leads (buffers_in t) (view_in t row) good (leb-false (u32_of (view_in t row) 0) 12 long) in
    let there : u32_of (view_in t row) 8 < length t.buffers = omega (arith, l.number, count_seen t.input t.buffers) in
    let size = ap length (buffer_seen t.input t.buffers (u32_of (view_in t row) 8) there) ∙ part_length t.input (range_at t.buffers (u32_of (view_in t row) 8)) (lie (u32_of (view_in t row) 8) there) in
    record { there = there; within = omega (arith, l.inside, size) }

bytes_if : (t : Top) (view : List ℕ) (short : Bool) → nat_le (u32_of view 0) 12 ≡ short → (short ≡ false → u32_of view 8 < length t.buffers) → viewed t view ≡ view_bytes (buffers_in t) view
bytes_if t view true e h = rw e (sym (short_view (buffers_in t) view (leb-true (u32_of view 0) 12 e)))
bytes_if t view false e h =
    rw e (sym (long_view (buffers_in t) view (leb-false (u32_of view 0) 12 e)
    ∙ ap (λ bs. take (u32_of view 0) (drop (u32_of view 12) bs)) (buffer_seen t.input t.buffers (u32_of view 8) (h refl))))

-- its bytes are those of the buffers
pub bytes_seen : (t : Top) (row : ℕ) → AreRanges t.input t.buffers → is_good_view (buffers_in t) (view_in t row) ≡ true → viewed t (view_in t row) ≡ view_bytes (buffers_in t) (view_in t row)
bytes_seen t row lie good = bytes_if t (view_in t row) (nat_le (u32_of (view_in t row) 0) 12) refl (λ long. (leads_seen t row lie good long).there)

view_same : (m : RecordBatch) (p : Place) (rows : ℕ) (t : Top) (row : ℕ) → ShowsViews m p rows t → view_in t row ≡ view_of m p row
view_same m p rows t row s = ap (λ b. take 16 (drop (16 * row) b)) s.views

-- of a row that is not null they are those of the record batch
pub viewed_same : (m : RecordBatch) (p : Place) (rows : ℕ) (t : Top) (row : ℕ) → ShowsViews m p rows t → row < rows → IsSet t row → viewed t (view_in t row) ≡ spec.view_bytes m p (view_of m p row)
viewed_same m p rows t row s h v =
    let good = s.good row h v in
    let told : is_good_view (buffers_told m p) (view_of m p row) ≡ true = ap (λ b. is_good_view b (view_of m p row)) (sym s.buffers) ∙ ap (is_good_view (buffers_in t)) (sym (view_same m p rows t row s)) ∙ good in
    bytes_seen t row s.lie good
    ∙ ap (λ b. view_bytes b (view_in t row)) s.buffers
    ∙ ap (view_bytes (buffers_told m p)) (view_same m p rows t row s)
    ∙ bytes-view m p (view_of m p row) (sym (good-view m p (view_of m p row)) ∙ told)

fine_of : (s g : Bool) → s && not g ≡ false → s ≡ true → g ≡ true
fine_of s true h k = refl
fine_of false false h k = cc
fine_of true false h k = let e : true ≡ false = h in cc

fine_both : (s g u : Bool) → s && (g && not u) ≡ false → s ≡ true → g ≡ true → u ≡ true
fine_both s g true h k l = refl
fine_both true true false h k l = let e : true ≡ false = h in cc
fine_both false g false h k l = cc
fine_both true false false h k l = cc

-- what good views say of a row
pub row_good : (t : Top) (is_text : Bool) (row : ℕ) → AreGood t is_text → row < t.rows → IsSet t row → is_good_view (buffers_in t) (view_in t row) ≡ true
row_good t is_text row g h v = fine_of (is_set (bits_in t.input t.validity) row) _ (none_below (is_bad_view t) t.rows g.views row h) v

-- and of all
pub views_stand : (t : Top) (is_text : Bool) → Values t 16 → AreRanges t.input t.buffers → AreGood t is_text → AreViews t is_text
views_stand t is_text stand lie g = record {
  views = stand;
  buffers = lie;
  leads = λ row h v. leads_seen t row lie (row_good t is_text row g h v);
  texts = λ x row h v. ap is_utf8 (bytes_seen t row lie (row_good t is_text row g h v))
      ∙ fine_both (is_set (bits_in t.input t.validity) row) (is_good_view (buffers_in t) (view_in t row)) _ (none_below (is_bad_text_view t) t.rows (g.texts x) row h) v (row_good t is_text row g h v);
}

-- a buffer that was lent is the one of its number
pub buffer_lent : (input : List ℕ) (rs : List Range) (i n : ℕ) (r : Range) (found : List ℕ) → i ≡ n → i < length rs → r ≡ get_or rs i r → found ≡ part_in input r → found ≡ buffer_at (map (part_in input) rs) n
buffer_lent input rs i n r found e h g f =
    f ∙ ap (part_in input) (get_or_read rs i r h g (record { at = 0; length = 0 })) ∙ sym (buffer_seen input rs i h) ∙ ap (buffer_at (map (part_in input) rs)) e
