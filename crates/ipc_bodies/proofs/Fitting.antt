-- What is read of bytes fits.
use Rattle.std.proofs.Common.{◌≡◌, ℕ, zero, suc, ◌+◌, ◌-◌, ◌*◌, ◌/◌, ◌^◌, ◌<◌, List, length, take, drop, get_or, Bool, true, false, inl, inr, sym, ap, subst, ◌∙◌, arith}
use Rattle.std.specs.Prelude.{ℤ}
use Rattle.std.specs.Int.{w32, w64, cast_signed}
use Rattle.std.specs.List.{AllByRecursion}
use Rattle.std.proofs.lemmas.Bool.{cases_lt}
use Rattle.std.proofs.lemmas.Int.{to_z_pos}
use Rattle.std.proofs.Math.Facts.{to_z-neg}
use Rattle.arrow_spec.specs.Flat.{Order, from_bytes}
use Rattle.arrow_spec.specs.Counts.{magnitude}
use Rattle.arrow_spec.specs.Arrays.{from_on, offset_width}
use Rattle.arrow_types.specs.Numbers.{signed_from_bytes, offsets_by}
use Rattle.arrow_types.specs.BytesBack.{number_fits, take_bytes, drop_bytes}
use Rattle.arrow_buffers.specs.Items.{items_at}
use Rattle.ipc_bodies.specs.Pieces.{held_offsets}
use Rattle.ipc_bodies.specs.Fitting.{offset_limit, AllBelow, AllFit, ReadsFit}
use Rattle.ipc_bodies.proofs.Counted.{width_by}

all_told : {A : Type 0} (P : A → Type 0) (f : ℕ → A) (at n : ℕ) → ((k : ℕ) → P (f k)) → AllByRecursion P (from_on f at n)
all_told P f at zero h = tt
all_told P f at (suc n) h = (h at, all_told P f (suc at) n h)

-- numbers that are read of bytes
pub read_fit : {A : Type 0} (read : Order → List ℕ → A) (fits : A → Type 0) (width : ℕ) (order : Order) (bytes : List ℕ) (n : ℕ) (xs : List A) → ((i : ℕ) → get_or bytes i 0 < 2 ^ 8) → items_at read width order bytes 0 n ≡ xs → ReadsFit read fits → AllFit fits xs
read_fit read fits width order bytes n xs s e law =
    let f = λ (j : ℕ). read order (take width (drop (0 + width * j) bytes)) in
    record { each = subst (AllByRecursion fits) e (all_told fits f 0 n (λ k. law order (take width (drop (0 + width * k) bytes)) (take_bytes width (drop (0 + width * k) bytes) (drop_bytes (0 + width * k) bytes s)))) }

-- ── offsets ──

small_below : (n : ℕ) → n < 2 ^ 32 → magnitude (cast_signed w32 n) < 2 ^ 31
small_below n h =
    elim (cases_lt n (2 ^ 31)) [
      | inl lt ↦ subst (λ z. magnitude z < 2 ^ 31) (sym (to_z_pos w32 n lt)) lt
      | inr ge ↦
          let k = 2 ^ 32 - 1 - n in
          let back : 2 ^ 32 - suc k ≡ n = omega (arith, h) in
          let none : 0 < 2 ^ 31 = omega arith in
          subst (λ z. magnitude z < 2 ^ 31) (sym (to_z-neg w32 k (omega (arith, ge))) ∙ ap (cast_signed w32) back) none
    ]

large_below : (n : ℕ) → n < 2 ^ 64 → magnitude (cast_signed w64 n) < 2 ^ 63
large_below n h =
    elim (cases_lt n (2 ^ 63)) [
      | inl lt ↦ subst (λ z. magnitude z < 2 ^ 63) (sym (to_z_pos w64 n lt)) lt
      | inr ge ↦
          let k = 2 ^ 64 - 1 - n in
          let back : 2 ^ 64 - suc k ≡ n = omega (arith, h) in
          let none : 0 < 2 ^ 63 = omega arith in
          subst (λ z. magnitude z < 2 ^ 63) (sym (to_z-neg w64 k (omega (arith, ge))) ∙ ap (cast_signed w64) back) none
    ]

below_by : (is_large : Bool) (order : Order) (item : List ℕ) → ((i : ℕ) → get_or item i 0 < 2 ^ 8) → magnitude (signed_from_bytes (offset_width (offsets_by is_large)) order item) < offset_limit (offsets_by is_large)
below_by true order item s = large_below (from_bytes order w64 item) (number_fits w64 order item s)
below_by false order item s = small_below (from_bytes order w32 item) (number_fits w32 order item s)

pub held_below : (is_large : Bool) (order : Order) (bytes : List ℕ) (offsets : List ℤ) → ((i : ℕ) → get_or bytes i 0 < 2 ^ 8) → held_offsets is_large order bytes ≡ offsets → AllBelow (offset_limit (offsets_by is_large)) offsets
held_below is_large order bytes offsets s e =
    let w = width_by is_large in
    let limit = offset_limit (offsets_by is_large) in
    let f = λ (j : ℕ). signed_from_bytes (offset_width (offsets_by is_large)) order (take w (drop (0 + w * j) bytes)) in
    record { each = subst (AllByRecursion (λ x. magnitude x < limit)) e (all_told (λ x. magnitude x < limit) f 0 (length bytes / w) (λ k. below_by is_large order (take w (drop (0 + w * k) bytes)) (take_bytes w (drop (0 + w * k) bytes) (drop_bytes (0 + w * k) bytes s)))) }
