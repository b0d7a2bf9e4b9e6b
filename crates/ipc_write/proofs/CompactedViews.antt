-- Views that are laid anew: each leads to its value.
use Rattle.std.proofs.Common.{◌≡◌, ℕ, zero, suc, ◌+◌, ◌*◌, ◌^◌, ◌≤◌, ◌<◌, List, [], ◌∷◌, ◌++◌, true, length, take, drop, refl, sym, ap, ◌∙◌, arith}
use Rattle.std.specs.Int.{w32}
use Rattle.std.specs.Str.{bytes_eq}
use Rattle.std.proofs.lemmas.Slice.Eq.{bytes_eq-Decides}
use Rattle.std.proofs.Math.Seq.{take-append_seam, drop-append-add}
use Rattle.arrow_spec.specs.Flat.{little}
use Rattle.arrow_spec.specs.Arrays.{u32_of, or_0}
use Rattle.arrow_types.specs.NumberLaws.{unsigned_agrees, unsigned_back}
use Rattle.arrow_buffers.specs.Rows.{part}
use Rattle.arrow_buffers.specs.Views.{Views, view_rows, view_at, view_bytes, buffer_at, long_bytes, is_good_view}
use Rattle.arrow_buffers.proofs.Parts.{length-part}
use Rattle.arrow_buffers.proofs.Views.{short_view, short_good, long_good, by_prefix, long_view as long_is}
use Rattle.arrow_arrays.proofs.PieceLaws.{Viewed}
use Rattle.ipc_write.specs.Compaction.{long_view}

same_bytes : (xs : List ℕ) → bytes_eq xs xs ≡ true
same_bytes xs = (bytes_eq-Decides xs xs).1 refl

-- a long view leads to its value, where that stands in its buffer
pub long_viewed : (buffers : List (List ℕ)) (value buffer : List ℕ) (number at : ℕ) → 12 < length value → length value < 2 ^ 32 → number < 2 ^ 32 → at < 2 ^ 32
    → number < length buffers → buffer_at buffers number ≡ buffer → at + length value ≤ length buffer → part at (length value) buffer ≡ value → Viewed buffers (long_view value number at) value
long_viewed buffers [] buffer number at long small few near there is inside same = absurd (omega arith)
long_viewed buffers (a ∷ []) buffer number at long small few near there is inside same = absurd (omega arith)
long_viewed buffers (a ∷ b ∷ []) buffer number at long small few near there is inside same = absurd (omega arith)
long_viewed buffers (a ∷ b ∷ c ∷ []) buffer number at long small few near there is inside same = absurd (omega arith)
long_viewed buffers (a ∷ b ∷ c ∷ d ∷ rest) buffer number at long small few near there is inside same =
    let value = a ∷ b ∷ c ∷ d ∷ rest in
    let n = length value in
    let view = long_view value number at in
    let size : 16 ≤ length view = omega arith in
    let counted : u32_of view 0 ≡ n = ap or_0 (unsigned_agrees w32 view 0 little (omega arith)) ∙ unsigned_back w32 little n small in
    let numbered : u32_of view 8 ≡ number = ap or_0 (unsigned_agrees w32 view 8 little (omega arith)) ∙ unsigned_back w32 little number few in
    let placed : u32_of view 12 ≡ at = ap or_0 (unsigned_agrees w32 view 12 little (omega arith)) ∙ unsigned_back w32 little at near in
    let found : buffer_at buffers (u32_of view 8) ≡ buffer = ap (buffer_at buffers) numbered ∙ is in
    let bytes : long_bytes buffers view ≡ value = rw (counted, placed, found) same in
    let much : 12 < u32_of view 0 = rw counted long in
    let held : u32_of view 8 < length buffers = rw numbered there in
    let fits : u32_of view 12 + u32_of view 0 ≤ length (buffer_at buffers (u32_of view 8)) = rw (placed, counted, found) inside in
    record {
      good = long_good buffers view much ∙ by_prefix buffers view held fits ∙ ap (λ x. bytes_eq (a ∷ b ∷ c ∷ d ∷ []) (take 4 x)) bytes ∙ same_bytes (a ∷ b ∷ c ∷ d ∷ []);
      same = long_is buffers view much ∙ bytes;
    }

-- a short view holds its value whatever the buffers are
pub short_viewed : (old new : List (List ℕ)) (view : List ℕ) → u32_of view 0 ≤ 12 → is_good_view old view ≡ true → Viewed new view (view_bytes old view)
short_viewed old new view h e = record {
  good = short_good new view h ∙ sym (short_good old view h) ∙ e;
  same = short_view new view h ∙ sym (short_view old view h);
}

-- ── where buffers and bytes stand ──

buffer_behind : (front others : List (List ℕ)) (buffer : List ℕ) (number : ℕ) → length front ≡ number → buffer_at (front ++ buffer ∷ others) number ≡ buffer
buffer_behind [] others buffer zero e = refl
buffer_behind [] others buffer (suc n) e = absurd (omega arith)
buffer_behind (x ∷ xs) others buffer zero e = absurd (omega arith)
buffer_behind (x ∷ xs) others buffer (suc n) e = buffer_behind xs others buffer n (omega arith)

number_inside : (front others : List (List ℕ)) (buffer : List ℕ) (number : ℕ) → length front ≡ number → number < length (front ++ buffer ∷ others)
number_inside [] others buffer zero e = omega arith
number_inside [] others buffer (suc n) e = absurd (omega arith)
number_inside (x ∷ xs) others buffer zero e = absurd (omega arith)
number_inside (x ∷ xs) others buffer (suc n) e = let h = number_inside xs others buffer n (omega arith) in omega arith

length_among : (before value more : List ℕ) → length before + length value ≤ length ((before ++ value) ++ more)
length_among [] [] more = omega arith
length_among [] (x ∷ xs) more = let h = length_among [] xs more in omega arith
length_among (x ∷ xs) value more = let h = length_among xs value more in omega arith

part_among : (before value more : List ℕ) → part (length before) (length value) ((before ++ value) ++ more) ≡ value
part_among [] value more = take-append_seam value more
part_among (x ∷ xs) value more = part_among xs value more

-- a value behind what was begun, in the buffer that is behind as many others as its number says
pub value_viewed : (front others : List (List ℕ)) (begun value more : List ℕ) (number : ℕ) → length front ≡ number → 12 < length value → length value < 2 ^ 32 → number < 2 ^ 32 → length begun < 2 ^ 32
    → Viewed (front ++ ((begun ++ value) ++ more) ∷ others) (long_view value number (length begun)) value
value_viewed front others begun value more number e long small few near =
    let buffer = (begun ++ value) ++ more in
    long_viewed (front ++ buffer ∷ others) value buffer number (length begun) long small few near (number_inside front others buffer number e) (buffer_behind front others buffer number e) (length_among begun value more) (part_among begun value more)

-- ── views one after another ──

pub length-long_view : (value : List ℕ) (number at : ℕ) → 12 < length value → length (long_view value number at) ≡ 16
length-long_view [] number at h = absurd (omega arith)
length-long_view (a ∷ []) number at h = absurd (omega arith)
length-long_view (a ∷ b ∷ []) number at h = absurd (omega arith)
length-long_view (a ∷ b ∷ c ∷ []) number at h = absurd (omega arith)
length-long_view (a ∷ b ∷ c ∷ d ∷ rest) number at h = refl

pub length-view : (p : Views) (row : ℕ) → row < view_rows p.views → length (view_at p.views row) ≡ 16
length-view p row h = length-part p.views (16 * row) 16 (omega arith)

pub first_view : (view rest : List ℕ) → length view ≡ 16 → view_at (view ++ rest) 0 ≡ view
first_view view rest e = ap (λ n. take n (view ++ rest)) (sym e) ∙ take-append_seam view rest

pub next_view : (view rest : List ℕ) (j : ℕ) → length view ≡ 16 → view_at (view ++ rest) (suc j) ≡ view_at rest j
next_view view rest j e =
    let at : 16 * suc j ≡ length view + 16 * j = omega arith in
    ap (λ n. take 16 (drop n (view ++ rest))) at ∙ ap (take 16) (drop-append-add view rest (16 * j))
