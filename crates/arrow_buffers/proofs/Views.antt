-- What a good view says of its bytes.
use Rattle.std.proofs.Common.{◌≡◌, ℕ, ◌+◌, ◌≤◌, ◌<◌, ◌&&◌, List, [], true, false, length, take, drop, get_or, nat_le, nat_lt, refl, sym, ap, ◌∙◌}
use Rattle.std.specs.Str.{bytes_eq}
use Rattle.std.proofs.lemmas.Bool.{and_parts, ltb-true, leb-true, lt-ltb, le-ltb, le-leb, lt-leb}
use Rattle.std.proofs.lemmas.List.{get_or_read}
use Rattle.arrow_spec.specs.Arrays.{u32_of}
use Rattle.arrow_spec.specs.Faults.{all_zero}
use Rattle.arrow_buffers.specs.Views.{buffer_at, short_bytes, long_bytes, view_bytes, leads_right, is_good_view}

pub short_view : (buffers : List (List ℕ)) (view : List ℕ) → u32_of view 0 ≤ 12 → view_bytes buffers view ≡ short_bytes view
unfolding view_bytes
short_view buffers view h = rw (le-leb (u32_of view 0) 12 h) refl

pub long_view : (buffers : List (List ℕ)) (view : List ℕ) → 12 < u32_of view 0 → view_bytes buffers view ≡ long_bytes buffers view
unfolding view_bytes
long_view buffers view h = rw (lt-leb (u32_of view 0) 12 h) refl

pub short_good : (buffers : List (List ℕ)) (view : List ℕ) → u32_of view 0 ≤ 12 → is_good_view buffers view ≡ all_zero (drop (4 + u32_of view 0) view)
unfolding is_good_view
short_good buffers view h = rw (le-leb (u32_of view 0) 12 h) refl

pub long_good : (buffers : List (List ℕ)) (view : List ℕ) → 12 < u32_of view 0 → is_good_view buffers view ≡ leads_right buffers view
unfolding is_good_view
long_good buffers view h = rw (lt-leb (u32_of view 0) 12 h) refl

pub no_buffer : (buffers : List (List ℕ)) (view : List ℕ) → length buffers ≤ u32_of view 8 → leads_right buffers view ≡ false
unfolding leads_right
no_buffer buffers view h = rw (le-ltb (u32_of view 8) (length buffers) h) refl

pub past_buffer : (buffers : List (List ℕ)) (view : List ℕ) → u32_of view 8 < length buffers → length (buffer_at buffers (u32_of view 8)) < u32_of view 12 + u32_of view 0 → leads_right buffers view ≡ false
unfolding leads_right
past_buffer buffers view n h =
    rw (lt-ltb (u32_of view 8) (length buffers) n, lt-leb (u32_of view 12 + u32_of view 0) (length (buffer_at buffers (u32_of view 8))) h) refl

pub by_prefix : (buffers : List (List ℕ)) (view : List ℕ) → u32_of view 8 < length buffers → u32_of view 12 + u32_of view 0 ≤ length (buffer_at buffers (u32_of view 8)) → leads_right buffers view ≡ bytes_eq (take 4 (drop 4 view)) (take 4 (long_bytes buffers view))
unfolding leads_right
by_prefix buffers view n h =
    rw (lt-ltb (u32_of view 8) (length buffers) n, le-leb (u32_of view 12 + u32_of view 0) (length (buffer_at buffers (u32_of view 8))) h) refl

-- a good long view leads into one of the buffers
pub record Leads (buffers : List (List ℕ)) (view : List ℕ) : Type 0 where
  pub number : u32_of view 8 < length buffers
  pub inside : u32_of view 12 + u32_of view 0 ≤ length (buffer_at buffers (u32_of view 8))

leads_of : (buffers : List (List ℕ)) (view : List ℕ) → leads_right buffers view ≡ true → Leads buffers view
unfolding leads_right
leads_of buffers view e =
    let n = nat_lt (u32_of view 8) (length buffers) in
    let i = nat_le (u32_of view 12 + u32_of view 0) (length (buffer_at buffers (u32_of view 8))) in
    let p = and_parts (n && i) (bytes_eq (take 4 (drop 4 view)) (take 4 (long_bytes buffers view))) e in
    let q = and_parts n i p.0 in
    record { number = ltb-true (u32_of view 8) (length buffers) q.0; inside = leb-true (u32_of view 12 + u32_of view 0) (length (buffer_at buffers (u32_of view 8))) q.1 }

pub leads : (buffers : List (List ℕ)) (view : List ℕ) → is_good_view buffers view ≡ true → 12 < u32_of view 0 → Leads buffers view
leads buffers view e h = leads_of buffers view (sym (long_good buffers view h) ∙ e)

-- a buffer that was read is the one of its number
pub buffer_read : (buffers : List (List ℕ)) (i n : ℕ) (buffer found : List ℕ) → i ≡ n → i < length buffers → buffer ≡ get_or buffers i buffer → found ≡ buffer → found ≡ buffer_at buffers n
buffer_read buffers i n buffer found e h r s = s ∙ get_or_read buffers i buffer h r [] ∙ ap (buffer_at buffers) e

-- bytes from one place on, at places that are the same
pub range_bytes : (bytes more : List ℕ) (from at count n : ℕ) → bytes ≡ more → from ≡ at → count ≡ n → take count (drop from bytes) ≡ take n (drop at more)
range_bytes bytes more from at count n e f g = rw (e, f, g) refl
