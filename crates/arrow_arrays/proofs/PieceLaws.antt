-- The views of pieces: each leads to its piece.
use Rattle.std.proofs.Common.{◌≡◌, ℕ, zero, suc, ◌+◌, ◌-◌, ◌*◌, ◌/◌, ◌%◌, ◌^◌, ◌≤◌, ◌<◌, List, [], ◌∷◌, ◌++◌, Bool, true, false, None, length, take, drop, replicate, map, nat_le, ◌&&◌, refl, sym, ap, ◌∙◌, arith, length-append}
use Rattle.std.specs.Prelude.{min, sum, All, not}
use Rattle.std.specs.Int.{w32, to_le_bytes}
use Rattle.std.specs.Str.{bytes_eq}
use Rattle.std.proofs.lemmas.Bool.{leb-true, leb-false}
use Rattle.std.proofs.lemmas.List.{drop-drop, length-replicate}
use Rattle.std.proofs.lemmas.List.Elements.{All-head, All-tail}
use Rattle.std.proofs.lemmas.List.Sums.{sum_by-cons}
use Rattle.std.proofs.lemmas.Option.{get_or_from_slice_get}
use Rattle.std.proofs.lemmas.Slice.Eq.{bytes_eq-Decides}
use Rattle.std.proofs.Math.Nat.{mul-mod_right}
use Rattle.std.proofs.Math.Seq.{take-append_seam, drop-append_seam, drop-append-add}
use Rattle.arrow_spec.specs.Flat.{little}
use Rattle.arrow_spec.specs.Cells.{Cell, bytes}
use Rattle.arrow_spec.specs.Arrays.{from_on, u32_of, or_0}
use Rattle.arrow_spec.specs.Faults.{all_zero}
use Rattle.arrow_types.specs.NumberLaws.{unsigned_agrees, unsigned_back}
use Rattle.arrow_spec.specs.Kinds.{Kind, binary_view}
use Rattle.arrow_types.specs.Physical.{physical_of}
use Rattle.arrow_buffers.specs.Layouts.{is_view}
use Rattle.arrow_buffers.specs.Rows.{part, is_valid}
use Rattle.arrow_buffers.specs.Views.{view_rows, view_at, view_bytes, buffer_at, long_bytes, is_good_view, has_bad_view, view_cells, view_fault}
use Rattle.arrow_buffers.proofs.Parts.{part-part, length-part, length-from_on, get-from_on, shift-from_on}
use Rattle.arrow_buffers.proofs.Fixed.{quotient}
use Rattle.arrow_buffers.proofs.Rows.{none_from, fine_here}
use Rattle.arrow_buffers.proofs.Views.{short_view, long_view, short_good, long_good, by_prefix}
use Rattle.arrow_arrays.specs.PieceViews.{pieces, stride, share, shares, short_view_of, long_view_of, view_of, views_from}

-- one more, told row by row
from_on-more : {A : Type 0} (f : ℕ → A) (at n : ℕ) → from_on f at (suc n) ≡ from_on f at n ++ f (at + n) ∷ []
from_on-more f at zero = ap (λ k. f k ∷ []) (let e : at ≡ at + 0 = omega arith in e)
from_on-more f at (suc n) =
    let e : suc at + n ≡ at + suc n = omega arith in
    ap (λ r. f at ∷ r) (from_on-more f (suc at) n ∙ ap (λ k. from_on f (suc at) n ++ f k ∷ []) e)

pub shares-more : (held : List ℕ) (n : ℕ) (last : List ℕ) → last ≡ share held n → from_on (share held) 0 n ++ last ∷ [] ≡ from_on (share held) 0 (n + 1)
shares-more held n last e =
    let f = share held in
    let z : n ≡ 0 + n = omega arith in
    let o : suc n ≡ n + 1 = omega arith in
    ap (λ x. from_on f 0 n ++ x ∷ []) (e ∙ ap f z) ∙ sym (from_on-more f 0 n) ∙ ap (from_on f 0) o

-- a view's bytes are good and are the piece's
pub record Viewed (buffers : List (List ℕ)) (view piece : List ℕ) : Type 0 where
  pub good : is_good_view buffers view ≡ true
  pub same : view_bytes buffers view ≡ piece

-- the number that some bytes begin with
first_number : (n : ℕ) (rest : List ℕ) → n < 2 ^ 32 → u32_of (to_le_bytes w32 n ++ rest) 0 ≡ n
first_number n rest h =
    let l : length (to_le_bytes w32 n ++ rest) ≡ 4 + length rest = length-append (to_le_bytes w32 n) rest in
    ap or_0 (unsigned_agrees w32 (to_le_bytes w32 n ++ rest) 0 little (omega arith)) ∙ unsigned_back w32 little n h

all_zeros : (n : ℕ) → all_zero (replicate n 0) ≡ true
all_zeros zero = refl
all_zeros (suc n) = all_zeros n

short_viewed : (buffers : List (List ℕ)) (piece : List ℕ) → length piece ≤ 12 → Viewed buffers (short_view_of piece) piece
short_viewed buffers piece h =
    let zeros = replicate (12 - length piece) 0 in
    let rest = piece ++ zeros in
    let number : u32_of (to_le_bytes w32 (length piece) ++ rest) 0 ≡ length piece = first_number (length piece) rest (omega arith) in
    let few : u32_of (short_view_of piece) 0 ≤ 12 = rw number h in
    let past : drop (4 + length piece) (to_le_bytes w32 (length piece) ++ rest) ≡ drop (length piece) rest = drop-append-add (to_le_bytes w32 (length piece)) rest (length piece) in
    record {
      good = short_good buffers (short_view_of piece) few ∙ ap (λ n. all_zero (drop (4 + n) (short_view_of piece))) number ∙ ap all_zero past ∙ ap all_zero (drop-append_seam piece zeros) ∙ all_zeros (12 - length piece);
      same = short_view buffers (short_view_of piece) few ∙ ap (λ n. take n rest) number ∙ take-append_seam piece zeros;
    }

-- the buffer in which a place is looked up
buffer_of : (held : List ℕ) (at : ℕ) → at ≤ length held → buffer_at (shares held) (at / stride) ≡ share held (at / stride)
buffer_of held at h =
    let below : at / stride < length held / stride + 1 = omega arith in
    get_or_from_slice_get (shares held) (at / stride) (share held (0 + at / stride)) [] (get-from_on (share held) 0 (length held / stride + 1) (at / stride) below) ∙ ap (share held) (let e : 0 + at / stride ≡ at / stride = omega arith in e)

-- how many bytes it has from the place on
room : (held at n : ℕ) → n < 2 ^ 32 → at + n ≤ held → at % stride + n ≤ min (held - stride * (at / stride)) (2 * stride)
room held at n h le = omega arith

inside : (held at : ℕ) → at ≤ held → stride * (at / stride) + min (held - stride * (at / stride)) (2 * stride) ≤ held
inside held at h = omega arith

-- the bytes at a place of its buffer
shared : (held : List ℕ) (at n : ℕ) → n < 2 ^ 32 → at + n ≤ length held → take n (drop (at % stride) (share held (at / stride))) ≡ part at n held
shared held at n h le =
    let e : stride * (at / stride) + at % stride ≡ at = omega arith in
    sym (part-part held (stride * (at / stride)) (min (length held - stride * (at / stride)) (2 * stride)) (at % stride) n (room (length held) at n h le)) ∙ ap (λ k. part k n held) e

same_bytes : (xs : List ℕ) → bytes_eq xs xs ≡ true
same_bytes xs = (bytes_eq-Decides xs xs).1 refl

long_viewed : (held piece : List ℕ) (at : ℕ) → 12 < length piece → length piece < 2 ^ 32 → length held < 2 ^ 64 → at + length piece ≤ length held → part at (length piece) held ≡ piece → Viewed (shares held) (long_view_of piece at) piece
long_viewed held [] at long small big le is = absurd (omega arith)
long_viewed held (a ∷ []) at long small big le is = absurd (omega arith)
long_viewed held (a ∷ b ∷ []) at long small big le is = absurd (omega arith)
long_viewed held (a ∷ b ∷ c ∷ []) at long small big le is = absurd (omega arith)
long_viewed held (a ∷ b ∷ c ∷ d ∷ rest) at long small big le is =
    let piece = a ∷ b ∷ c ∷ d ∷ rest in
    let n = length piece in
    let view = long_view_of piece at in
    let size : 16 ≤ length view = omega arith in
    let count : u32_of view 0 ≡ n = ap or_0 (unsigned_agrees w32 view 0 little (omega arith)) ∙ unsigned_back w32 little n small in
    let number : u32_of view 8 ≡ at / stride = ap or_0 (unsigned_agrees w32 view 8 little (omega arith)) ∙ unsigned_back w32 little (at / stride) (omega arith) in
    let place : u32_of view 12 ≡ at % stride = ap or_0 (unsigned_agrees w32 view 12 little (omega arith)) ∙ unsigned_back w32 little (at % stride) (omega arith) in
    let buffer : buffer_at (shares held) (u32_of view 8) ≡ share held (at / stride) = ap (buffer_at (shares held)) number ∙ buffer_of held at (omega arith) in
    let bytes : long_bytes (shares held) view ≡ piece = rw (count, place, buffer) (shared held at n small le ∙ is) in
    let much : 12 < u32_of view 0 = rw count long in
    let held_here : u32_of view 8 < length (shares held) = rw (number, length-from_on (share held) 0 (length held / stride + 1)) (omega arith) in
    let l : length (share held (at / stride)) ≡ min (length held - stride * (at / stride)) (2 * stride) = length-part held (stride * (at / stride)) (min (length held - stride * (at / stride)) (2 * stride)) (inside (length held) at (omega arith)) in
    let fits : u32_of view 12 + u32_of view 0 ≤ length (buffer_at (shares held) (u32_of view 8)) = rw (place, count, buffer, l) (room (length held) at n small le) in
    record {
      good = long_good (shares held) view much ∙ by_prefix (shares held) view held_here fits ∙ ap (λ x. bytes_eq (a ∷ b ∷ c ∷ d ∷ []) (take 4 x)) bytes ∙ same_bytes (a ∷ b ∷ c ∷ d ∷ []);
      same = long_view (shares held) view much ∙ bytes;
    }

viewed_by : (held piece : List ℕ) (at : ℕ) (short : Bool) → nat_le (length piece) 12 ≡ short → length piece < 2 ^ 32 → length held < 2 ^ 64 → at + length piece ≤ length held → part at (length piece) held ≡ piece → Viewed (shares held) (view_of piece at) piece
viewed_by held piece at true e small big le is = rw e (short_viewed (shares held) piece (leb-true (length piece) 12 e))
viewed_by held piece at false e small big le is = rw e (long_viewed held piece at (leb-false (length piece) 12 e) small big le is)

viewed : (held : List ℕ) (at n : ℕ) → n < 2 ^ 32 → length held < 2 ^ 64 → at + n ≤ length held → Viewed (shares held) (view_of (part at n held) at) (part at n held)
viewed held at n small big le =
    let l : length (part at n held) ≡ n = length-part held at n le in
    viewed_by held (part at n held) at (nat_le (length (part at n held)) 12) refl (rw l small) big (rw l le) (ap (λ k. part at k held) l)

length-view_by : (piece : List ℕ) (at : ℕ) (short : Bool) → nat_le (length piece) 12 ≡ short → length (view_of piece at) ≡ 16
length-view_by piece at true e =
    let h : length piece ≤ 12 = leb-true (length piece) 12 e in
    rw e (omega (arith, length-append piece (replicate (12 - length piece) 0), length-replicate {A = ℕ} (12 - length piece) 0))
length-view_by [] at false e = cc
length-view_by (a ∷ []) at false e = cc
length-view_by (a ∷ b ∷ []) at false e = cc
length-view_by (a ∷ b ∷ c ∷ []) at false e = cc
length-view_by (a ∷ b ∷ c ∷ d ∷ rest) at false e = rw e refl

length-view : (piece : List ℕ) (at : ℕ) → length (view_of piece at) ≡ 16
length-view piece at = length-view_by piece at (nat_le (length piece) 12) refl

first_view : (view rest : List ℕ) → length view ≡ 16 → view_at (view ++ rest) 0 ≡ view
first_view view rest e = ap (λ n. take n (view ++ rest)) (sym e) ∙ take-append_seam view rest

next_view : (view rest : List ℕ) (i j : ℕ) → length view ≡ 16 → i ≡ suc j → view_at (view ++ rest) i ≡ view_at rest j
next_view view rest i j e s =
    let at : 16 * i ≡ length view + 16 * j = omega arith in
    ap (λ n. take 16 (drop n (view ++ rest))) at ∙ ap (take 16) (drop-append-add view rest (16 * j))

length-views : (held : List ℕ) (at : ℕ) (lengths : List ℕ) → length (views_from held at lengths) ≡ 16 * length lengths
length-views held at [] = refl
length-views held at (n ∷ ns) =
    let v = view_of (part at n held) at in
    let rest = views_from held (at + n) ns in
    let a : length (v ++ rest) ≡ length v + length rest = length-append v rest in
    let l : length v ≡ 16 = length-view (part at n held) at in
    let r : length rest ≡ 16 * length ns = length-views held (at + n) ns in
    omega arith

-- lengths that stand one after another from a place on
record Fits (held : List ℕ) (at : ℕ) (lengths : List ℕ) : Type 0 where
  small : All (λ n. n < 2 ^ 32) lengths
  inside : at + sum lengths ≤ length held

fits_first : (held : List ℕ) (at n : ℕ) (ns : List ℕ) → length held < 2 ^ 64 → Fits held at (n ∷ ns) → Viewed (shares held) (view_of (part at n held) at) (part at n held)
fits_first held at n ns big f =
    let i : at + sum (n ∷ ns) ≤ length held = f.inside in
    let s : sum (n ∷ ns) ≡ n + sum ns = sum_by-cons (λ m. m) n ns in
    viewed held at n (All-head (λ m. m < 2 ^ 32) n ns f.small) big (omega arith)

fits_rest : (held : List ℕ) (at n : ℕ) (ns : List ℕ) → Fits held at (n ∷ ns) → Fits held (at + n) ns
fits_rest held at n ns f =
    let i : at + sum (n ∷ ns) ≤ length held = f.inside in
    let s : sum (n ∷ ns) ≡ n + sum ns = sum_by-cons (λ m. m) n ns in
    record { small = All-tail (λ m. m < 2 ^ 32) n ns f.small; inside = omega arith }

good_at : (held : List ℕ) (at : ℕ) (lengths : List ℕ) → length held < 2 ^ 64 → Fits held at lengths → (k : ℕ) → k < length lengths → is_good_view (shares held) (view_at (views_from held at lengths) k) ≡ true
good_at held at [] big f k h = absurd (omega arith)
good_at held at (n ∷ ns) big f zero h =
    ap (is_good_view (shares held)) (first_view (view_of (part at n held) at) (views_from held (at + n) ns) (length-view (part at n held) at)) ∙ (fits_first held at n ns big f).good
good_at held at (n ∷ ns) big f (suc k) h =
    ap (is_good_view (shares held)) (next_view (view_of (part at n held) at) (views_from held (at + n) ns) (suc k) k (length-view (part at n held) at) refl) ∙ good_at held (at + n) ns big (fits_rest held at n ns f) k (omega arith)

abbrev row_cell : List ℕ → ℕ → List ℕ → ℕ → Cell
row_cell held at lengths row = bytes (view_bytes (shares held) (view_at (views_from held at lengths) row))

cells_from : (held : List ℕ) (at : ℕ) (lengths : List ℕ) → length held < 2 ^ 64 → Fits held at lengths → from_on (row_cell held at lengths) 0 (length lengths) ≡ map bytes (pieces lengths (drop at held))
cells_from held at [] big f = refl
cells_from held at (n ∷ ns) big f =
    let view = view_of (part at n held) at in
    let rest = views_from held (at + n) ns in
    let l : length view ≡ 16 = length-view (part at n held) at in
    let first : row_cell held at (n ∷ ns) 0 ≡ bytes (part at n held) = ap (λ v. bytes (view_bytes (shares held) v)) (first_view view rest l) ∙ ap bytes (fits_first held at n ns big f).same in
    let others : from_on (row_cell held at (n ∷ ns)) 1 (length ns) ≡ from_on (row_cell held (at + n) ns) 0 (length ns) = shift-from_on (row_cell held at (n ∷ ns)) (row_cell held (at + n) ns) 1 0 (length ns) (λ k h. ap (λ v. bytes (view_bytes (shares held) v)) (next_view view rest (1 + k) (0 + k) l (omega arith))) in
    let there : pieces ns (drop (at + n) held) ≡ pieces ns (drop n (drop at held)) = ap (pieces ns) (sym (drop-drop n at held)) in
    ap (λ x. x ∷ from_on (row_cell held at (n ∷ ns)) 1 (length ns)) first ∙ ap (λ r. bytes (part at n held) ∷ r) (others ∙ cells_from held (at + n) ns big (fits_rest held at n ns f) ∙ ap (map bytes) there)

fits_all : (held lengths : List ℕ) → All (λ n. n < 2 ^ 32) lengths → sum lengths ≤ length held → Fits held 0 lengths
fits_all held lengths small inside = record { small = small; inside = omega arith }

rows_of : (held lengths : List ℕ) → view_rows (views_from held 0 lengths) ≡ length lengths
rows_of held lengths = quotient 16 (length lengths) (length (views_from held 0 lengths)) (omega arith) (length-views held 0 lengths)

none_bad : (held lengths : List ℕ) → length held < 2 ^ 64 → Fits held 0 lengths → has_bad_view (views_from held 0 lengths) (shares held) None ≡ false
unfolding has_bad_view
none_bad held lengths big f =
    none_from (λ row. is_valid None row && not (is_good_view (shares held) (view_at (views_from held 0 lengths) row))) (view_rows (views_from held 0 lengths))
    (λ k h. fine_here true (is_good_view (shares held) (view_at (views_from held 0 lengths) k)) (good_at held 0 lengths big f k (rw (rows_of held lengths) at h)))

-- such views are not refused
pub pieces_fine : (held lengths views : List ℕ) (buffers : List (List ℕ)) (k : Kind) → length held < 2 ^ 64 → All (λ n. n < 2 ^ 32) lengths → sum lengths ≤ length held → k ≡ binary_view → views ≡ views_from held 0 lengths → buffers ≡ shares held → view_fault false (is_view false (physical_of k)) (record { kind = k; views = views; buffers = buffers; validity = None }) ≡ None
pieces_fine held lengths views buffers k big small inside e v b =
    let whole : length (views_from held 0 lengths) % 16 ≡ 0 = rw (length-views held 0 lengths) (mul-mod_right 16 (length lengths)) in
    rw (e, v, b, whole, none_bad held lengths big (fits_all held lengths small inside)) refl

-- and their cells are the pieces
pub pieces_cells : (held lengths views : List ℕ) (buffers : List (List ℕ)) (k : Kind) → length held < 2 ^ 64 → All (λ n. n < 2 ^ 32) lengths → sum lengths ≤ length held → views ≡ views_from held 0 lengths → buffers ≡ shares held → view_cells false (record { kind = k; views = views; buffers = buffers; validity = None }) ≡ map bytes (pieces lengths held)
pieces_cells held lengths views buffers k big small inside v b =
    rw (v, b) (ap (from_on (row_cell held 0 lengths) 0) (rows_of held lengths) ∙ cells_from held 0 lengths big (fits_all held lengths small inside))
