-- Buffers one after another.
use Rattle.std.proofs.Common.{◌≡◌, ℕ, ◌+◌, ◌-◌, ◌%◌, ◌^◌, ◌≤◌, ◌<◌, List, [], ◌∷◌, ◌++◌, length, take, drop, map, get_or, refl, sym, ap, subst, ◌∙◌, arith, append_assoc, append-nil, length-append, pos, Option, None}
use Rattle.std.proofs.lemmas.List.{take_more, drop_more, take-append-drop, map-append}
use Rattle.arrow_spec.specs.Layout.{up_to, zeros}
use Rattle.arrow_spec.specs.Framing.{body_bytes}
use Rattle.arrow_spec.specs.Sent.{placed, body_of}
use Rattle.arrow_spec.proofs.Bodies.{length-body, body_above}
use Rattle.std.specs.Io.KnownBytes.{Appends}
use Rattle.ipc_bodies.specs.Places.{IsPlace}
use Rattle.ipc_bodies.specs.Puts.{moved, NoneFalls}
use Rattle.ipc_bodies.specs.declared.encoding.Encoding.{Encoding}
use Rattle.ipc_bodies.specs.Encodings.{text_of}
use Rattle.ipc_bodies.proofs.Encoded.{text_all}

-- a buffer with its zeros
abbrev pub padded_at : ℕ → List ℕ → List ℕ
padded_at at x = x ++ zeros (up_to 64 (at + length x) - (at + length x))

abbrev pub padded : List ℕ → List ℕ
padded x = x ++ zeros (up_to 64 (length x) - length x)

body-append : (at : ℕ) (xs ys : List (List ℕ)) → body_bytes at (xs ++ ys) ≡ body_bytes at xs ++ body_bytes (body_of at (map length xs)) ys
body-append at [] ys = refl
body-append at (x ∷ xs) ys =
    let next = up_to 64 (at + length x) in
    ap (λ l. padded_at at x ++ l) (body-append next xs ys) ∙ sym (append_assoc (padded_at at x) (body_bytes next xs) (body_bytes (body_of next (map length xs)) ys))

-- one buffer more
pub body_more : (at : ℕ) (xs : List (List ℕ)) (i : ℕ) (x : List ℕ) → i < length xs → x ≡ get_or xs i x → body_bytes at (take (i + 1) xs) ≡ body_bytes at (take i xs) ++ padded_at (body_of at (map length (take i xs))) x
body_more at xs i x h e =
    let one : take (i + 1) xs ≡ take i xs ++ x ∷ [] = take_more xs i x h ∙ ap (λ y. take i xs ++ y ∷ []) (sym e) in
    ap (body_bytes at) one ∙ body-append at (take i xs) (x ∷ []) ∙ ap (λ l. body_bytes at (take i xs) ++ l) (append-nil (padded_at (body_of at (map length (take i xs))) x))

-- a body is that of some buffers, and more
pub body_front : (at : ℕ) (xs : List (List ℕ)) (i : ℕ) → body_bytes at (take i xs) ++ body_bytes (body_of at (map length (take i xs))) (drop i xs) ≡ body_bytes at xs
body_front at xs i = sym (body-append at (take i xs) (drop i xs)) ∙ ap (body_bytes at) (take-append-drop i xs)

-- a body that begins at a multiple of 64 ends at one
pub body_whole : (at : ℕ) (ns : List ℕ) → at % 64 ≡ 0 → body_of at ns % 64 ≡ 0
body_whole at [] h = h
body_whole at (n ∷ ns) h = body_whole (up_to 64 (at + n)) ns (omega arith)

padding_there : (at n : ℕ) → at % 64 ≡ 0 → up_to 64 (at + n) - (at + n) ≡ up_to 64 n - n
padding_there at n h = omega (arith, h)

pub padded_there : (at : ℕ) (x : List ℕ) → at % 64 ≡ 0 → padded_at at x ≡ padded x
padded_there at x h = ap (λ n. x ++ zeros n) (padding_there at (length x) h)

pub body_step : (xs : List (List ℕ)) (i : ℕ) (x : List ℕ) → i < length xs → x ≡ get_or xs i x → body_bytes 0 (take i xs) ++ padded x ≡ body_bytes 0 (take (i + 1) xs)
body_step xs i x h e =
    let at = body_of 0 (map length (take i xs)) in
    ap (λ l. body_bytes 0 (take i xs) ++ l) (sym (padded_there at x (body_whole 0 (map length (take i xs)) refl))) ∙ sym (body_more 0 xs i x h e)

-- the buffers behind the next
pub body_rest : (xs : List (List ℕ)) (i : ℕ) (x : List ℕ) → i < length xs → x ≡ get_or xs i x → (body_bytes 0 (take i xs) ++ padded x) ++ body_bytes (body_of 0 (map length (take (i + 1) xs))) (drop (i + 1) xs) ≡ body_bytes 0 xs
body_rest xs i x h e = ap (λ l. l ++ body_bytes (body_of 0 (map length (take (i + 1) xs))) (drop (i + 1) xs)) (body_step xs i x h e) ∙ body_front 0 xs (i + 1)

pub body_put : (encoding : Encoding) (old mid new : Option (List ℕ)) (f g h w y z : ℕ) (xs : List (List ℕ)) (i : ℕ) (x : List ℕ) → i < length xs → x ≡ get_or xs i x → Appends old mid (text_of encoding (body_bytes 0 (take i xs))) × NoneFalls (moved old mid f g w y) → Appends mid new (text_of encoding (padded x)) × NoneFalls (moved mid new g h y z)
    → Appends old new (text_of encoding (body_bytes 0 (take (i + 1) xs))) × NoneFalls (moved old new f h w z)
body_put encoding old mid new f g h w y z xs i x below e p q = text_all encoding old mid new f g h w y z (body_bytes 0 (take i xs)) (padded x) (body_bytes 0 (take (i + 1) xs)) (body_step xs i x below e) p q

-- where the next buffer begins
pub body_next : (xs : List (List ℕ)) (i : ℕ) (old out : List ℕ) → out ≡ old ++ body_bytes (length old) (take i xs) → length out ≡ body_of (length old) (map length (take i xs))
body_next xs i old out e = ap length e ∙ length-append old (body_bytes (length old) (take i xs)) ∙ length-body (take i xs) (length old)

-- ── places ──

pub no_place : (r : Option ℕ) (n : ℕ) → r ≡ None → 2 ^ 63 ≤ n → IsPlace r n
no_place r n e h = subst (λ x. IsPlace x n) (sym e) h

-- one buffer more
pub next_end : (buffers : List (List ℕ)) (i at next all : ℕ) (buffer : List ℕ) → buffer ≡ get_or buffers i buffer → i < length buffers → next ≡ up_to 64 (at + length buffer) → body_of at (map length (drop i buffers)) ≡ all → body_of next (map length (drop (i + 1) buffers)) ≡ all
next_end buffers i at next all buffer e h hn ha = ap (λ n. body_of n (map length (drop (i + 1) buffers))) hn ∙ sym (ap (λ bs. body_of at (map length bs)) (drop_more buffers i buffer h ∙ ap (λ y. y ∷ drop (i + 1) buffers) (sym e))) ∙ ha

-- a place that is passed is passed at the end
pub passed_end : (buffers : List (List ℕ)) (i at all : ℕ) (buffer : List ℕ) → buffer ≡ get_or buffers i buffer → i < length buffers → (count : ℕ) → count ≡ length buffer → 2 ^ 63 ≤ up_to 64 (at + count) → body_of at (map length (drop i buffers)) ≡ all → 2 ^ 63 ≤ all
passed_end buffers i at all buffer e h count hc hp ha =
    let next = next_end buffers i at (up_to 64 (at + count)) all buffer e h (ap (λ n. up_to 64 (at + n)) hc) ha in
    omega (arith, next, body_above (map length (drop (i + 1) buffers)) (up_to 64 (at + count)), hp)

-- the next buffer ends below what all end below
pub near_end : (buffers : List (List ℕ)) (i at all : ℕ) (buffer : List ℕ) → buffer ≡ get_or buffers i buffer → i < length buffers → body_of at (map length (drop i buffers)) ≡ all → up_to 64 (at + length buffer) ≤ all
near_end buffers i at all buffer e h ha =
    let next = next_end buffers i at (up_to 64 (at + length buffer)) all buffer e h refl ha in
    omega (arith, next, body_above (map length (drop (i + 1) buffers)) (up_to 64 (at + length buffer)))

placed-append : (at : ℕ) (xs ys : List ℕ) → placed at (xs ++ ys) ≡ placed at xs ++ placed (body_of at xs) ys
placed-append at [] ys = refl
placed-append at (x ∷ xs) ys = ap (λ l. record { offset = pos at; length = pos x } ∷ l) (placed-append (up_to 64 (at + x)) xs ys)

body_of-append : (at : ℕ) (xs ys : List ℕ) → body_of at (xs ++ ys) ≡ body_of (body_of at xs) ys
body_of-append at [] ys = refl
body_of-append at (x ∷ xs) ys = body_of-append (up_to 64 (at + x)) xs ys

take_lengths : (xs : List (List ℕ)) (i : ℕ) (x : List ℕ) → i < length xs → x ≡ get_or xs i x → map length (take (i + 1) xs) ≡ map length (take i xs) ++ length x ∷ []
take_lengths xs i x h e = ap (map length) (take_more xs i x h ∙ ap (λ y. take i xs ++ y ∷ []) (sym e)) ∙ map-append length (take i xs) (x ∷ [])

-- one place more, and where the next begins
pub placed_more : (at : ℕ) (xs : List (List ℕ)) (i : ℕ) (x : List ℕ) → i < length xs → x ≡ get_or xs i x → placed at (map length (take (i + 1) xs)) ≡ placed at (map length (take i xs)) ++ record { offset = pos (body_of at (map length (take i xs))); length = pos (length x) } ∷ []
placed_more at xs i x h e = ap (placed at) (take_lengths xs i x h e) ∙ placed-append at (map length (take i xs)) (length x ∷ [])

pub body_of_more : (at : ℕ) (xs : List (List ℕ)) (i : ℕ) (x : List ℕ) → i < length xs → x ≡ get_or xs i x → body_of at (map length (take (i + 1) xs)) ≡ up_to 64 (body_of at (map length (take i xs)) + length x)
body_of_more at xs i x h e = ap (body_of at) (take_lengths xs i x h e) ∙ body_of-append at (map length (take i xs)) (length x ∷ [])
