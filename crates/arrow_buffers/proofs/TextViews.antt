-- Views that are to be text: bytes of ASCII, ranges of a text, and rows that pass both tests of a view.
use Rattle.std.proofs.Common.{◌≡◌, ℕ, zero, suc, ◌+◌, ◌-◌, ◌%◌, ◌^◌, ◌≤◌, ◌<◌, ◌&&◌, ◌||◌, List, [], ◌∷◌, Bool, true, false, Option, cond, eqb, leb, length, get_or, map, take, drop, replicate, refl, sym, ap, ◌∙◌, arith, w8}
use Rattle.std.specs.Prelude.{not}
use Rattle.std.specs.Str.{IsUtf8, is_utf8, IsAscii, IsCharBoundary}
use Rattle.std.proofs.lemmas.Bool.{leb-false, eqb-true}
use Rattle.std.proofs.lemmas.List.{length-map}
use Rattle.std.proofs.lemmas.Str.{IsUtf8-from_is_utf8, is_utf8-from_IsUtf8, IsUtf8-from_ascii, IsAscii-take, IsAscii-drop, IsUtf8-between}
use Rattle.std.proofs.lemmas.Simd.{length-zip2, mask_l-mod}
use lib.Lanes.{zip2, mask_l, top}
use Rattle.arrow_spec.specs.Arrays.{u32_of}
use Rattle.arrow_spec.specs.Faults.{some_row}
use Rattle.arrow_buffers.specs.Rows.{is_valid}
use Rattle.arrow_buffers.specs.Views.{view_rows, view_at, view_bytes, buffer_at, short_bytes, is_good_view, is_text_view, is_no_text_view, has_bad_view, has_bad_view_text}
use Rattle.arrow_buffers.proofs.Views.{short_view, long_view, range_bytes}

-- 255 where a is at most b, as the lanes of a comparison
abbrev pub at_most : ℕ → ℕ → ℕ
at_most a b = cond (leb a b) 255 0

none_high : (xs : List ℕ) → mask_l (map (top 7) (zip2 at_most (replicate (length xs) 128) xs)) ≡ 0 → (i : ℕ) → get_or xs i 0 < 128
none_high [] e i = omega arith
none_high (x ∷ xs) e zero = go (leb 128 x) refl (omega arith)
  where
    go : (t : Bool) → leb 128 x ≡ t → ◌≡◌ {A = ℕ} (cond (top 7 (cond t 255 0)) 1 0) 0 → x < 128
    go true p q = absurd (omega arith)
    go false p q = leb-false _ _ p
none_high (x ∷ xs) e (suc i) = none_high xs (omega arith) i

-- where no lane of 16 bytes is 128 or more, they are ASCII
pub ascii_from_mask : (xs : List ℕ) → length xs ≡ 16 → eqb (mask_l (map (top 7) (zip2 at_most (replicate 16 128) xs)) % 2 ^ 64) 0 ≡ true → IsAscii xs
ascii_from_mask xs long e =
    let lanes : List ℕ = zip2 at_most (replicate 16 128) xs in
    let l : length (map (top 7) lanes) ≤ 64 = omega (arith, length-map lanes (top 7), length-zip2 at_most (replicate 16 128) xs (sym long)) in
    none_high xs (ap (λ n. mask_l (map (top 7) (zip2 at_most (replicate n 128) xs))) long ∙ sym (mask_l-mod (map (top 7) lanes) 64 l) ∙ eqb-true _ _ e)

-- a short view of ASCII is text
pub short_ascii : (buffers : List (List ℕ)) (view : List ℕ) → u32_of view 0 ≤ 12 → IsAscii view → is_utf8 (view_bytes buffers view) ≡ true
short_ascii buffers view h a =
    ap is_utf8 (short_view buffers view h) ∙ is_utf8-from_IsUtf8 (short_bytes view) (IsUtf8-from_ascii (short_bytes view) (IsAscii-take (drop 4 view) (u32_of view 0) (IsAscii-drop view 4 a)))

-- a long view between two characters of a text is text
pub long_text : (buffers : List (List ℕ)) (view text : List ℕ) (from to : ℕ) → 12 < u32_of view 0 → text ≡ buffer_at buffers (u32_of view 8) → from ≡ u32_of view 12 → to ≡ u32_of view 12 + u32_of view 0 → is_utf8 (buffer_at buffers (u32_of view 8)) ≡ true
    → IsCharBoundary text from → IsCharBoundary text to → is_utf8 (view_bytes buffers view) ≡ true
long_text buffers view text from to h e f g u p q =
    let r : IsUtf8 (take (to - from) (drop from text)) = IsUtf8-between text from to (IsUtf8-from_is_utf8 text (ap is_utf8 e ∙ u)) (omega arith) p q in
    let s : take (to - from) (drop from text) ≡ view_bytes buffers view = range_bytes text (buffer_at buffers (u32_of view 8)) from (u32_of view 12) (to - from) (u32_of view 0) e f (omega arith) ∙ sym (long_view buffers view h) in
    ap is_utf8 (sym s) ∙ is_utf8-from_IsUtf8 _ r

-- what the two tests of a view say together
pub no_good : (good text : Bool) → good ≡ false → false ≡ (good && text)
no_good good text e = rw e refl

pub good_text : (good text told : Bool) → good ≡ true → told ≡ text → told ≡ (good && text)
good_text good text told e f = rw e f

four_or : (a b c d : Bool) → ((a || b) || (c || d)) ≡ ((a || c) || (b || d))
four_or true b c d = refl
four_or false true true d = refl
four_or false true false d = refl
four_or false false c d = refl

-- rows at which one of two tests fails
some_either : (bad p q : ℕ → Bool) (n : ℕ) → ((row : ℕ) → bad row ≡ (p row || q row)) → some_row bad n ≡ (some_row p n || some_row q n)
some_either bad p q zero h = refl
some_either bad p q (suc n) h = rw (some_either bad p q n h, h n) (four_or (some_row p n) (some_row q n) (p n) (q n))

no_text_or_bad : (valid good text : Bool) → (valid && not (good && text)) ≡ ((valid && not good) || (valid && (good && not text)))
no_text_or_bad false good text = refl
no_text_or_bad true false text = refl
no_text_or_bad true true text = refl

not_either : (a b : Bool) → not (a || b) ≡ (not a && not b)
not_either true b = refl
not_either false b = refl

-- one test at each row tells whether some view is bad or no text
pub both_tests : (views : List ℕ) (buffers : List (List ℕ)) (validity : Option (List Bool)) (found : Bool) → some_row (λ row. is_valid validity row && not (is_text_view buffers (view_at views row))) (view_rows views) ≡ found
    → not found ≡ (not (has_bad_view views buffers validity) && not (has_bad_view_text views buffers validity))
unfolding has_bad_view has_bad_view_text
both_tests views buffers validity found e =
    let bad : ℕ → Bool = λ row. is_valid validity row && not (is_text_view buffers (view_at views row)) in
    let p : ℕ → Bool = λ row. is_valid validity row && not (is_good_view buffers (view_at views row)) in
    let q : ℕ → Bool = λ row. is_valid validity row && is_no_text_view buffers (view_at views row) in
    let here : (row : ℕ) → bad row ≡ (p row || q row) = λ row. no_text_or_bad (is_valid validity row) (is_good_view buffers (view_at views row)) (is_utf8 (view_bytes buffers (view_at views row))) in
    ap not (sym e ∙ some_either bad p q (view_rows views) here) ∙ not_either (some_row p (view_rows views)) (some_row q (view_rows views))

-- where neither test fails at a row
pub neither : (a b : Bool) → true ≡ (not a && not b) → (a ≡ false) × (b ≡ false)
neither false false e = (refl, refl)
neither false true e = cc
neither true b e = cc
