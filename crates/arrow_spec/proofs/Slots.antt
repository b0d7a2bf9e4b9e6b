-- What a slot's reading gives, by what the table holds there.
use Rattle.std.proofs.Common.{◌≡◌, ℕ, suc, zero, ◌+◌, ◌*◌, ◌≤◌, List, ◌++◌, length, take, drop, Some, None, Ok, refl, sym, ap, arith, true, false, Bool, ℤ, pos, negsuc, SFits}
use Rattle.std.specs.Prelude.{nat_le}
use Rattle.std.specs.Int.{Width, w8, w32, cast_unsigned}
use Rattle.std.specs.Str.{is_utf8}
use Rattle.std.proofs.lemmas.Bool.{le-leb}
use Rattle.std.proofs.lemmas.Int.{to_z-of_z}
use Rattle.std.proofs.Math.Seq.{drop-append_seam, take-append_seam}
use Rattle.arrow_spec.specs.Readings.{bind}
use Rattle.arrow_spec.specs.Flat.{Table, table_at, slot, target, unsigned_at, slot_unsigned, slot_signed, slot_bool, slot_table, slot_vector, slot_text, items, text}
use Rattle.arrow_spec.specs.Layout.{Slots}
use Rattle.arrow_spec.specs.Sent.{unless_zero, flag}
use Rattle.arrow_spec.specs.Held.{Stands, HoldsSlots}
use Rattle.arrow_spec.proofs.Found.{within}

-- the bytes that stand at a place are those that are taken there
pub taken : (b : List ℕ) (k : ℕ) (xs : List ℕ) → Stands b k xs → take (length xs) (drop k b) ≡ xs
taken b k xs h = rw (h.whole, sym h.place, drop-append_seam h.front (xs ++ h.back)) (take-append_seam xs h.back)

pub unsigned_absent : (w : Width) (d : ℕ) (b : List ℕ) (t : Table) (i : ℕ) → slot b t i ≡ Ok None → slot_unsigned w d b t i ≡ Ok d
unfolding bind
unsigned_absent w d b t i e = rw e refl

pub unsigned_there : (w : Width) (d : ℕ) (b : List ℕ) (t : Table) (i at n : ℕ) → slot b t i ≡ Ok (Some at) → unsigned_at w b at ≡ Ok n → slot_unsigned w d b t i ≡ Ok n
unfolding bind
unsigned_there w d b t i at n e f = rw (e, f) refl

pub signed_absent : (w : Width) (d : ℤ) (b : List ℕ) (t : Table) (i : ℕ) → slot b t i ≡ Ok None → slot_signed w d b t i ≡ Ok d
unfolding bind
signed_absent w d b t i e = rw e refl

pub signed_there : (w : Width) (d : ℤ) (b : List ℕ) (t : Table) (i at : ℕ) (x : ℤ) → SFits w x → slot b t i ≡ Ok (Some at) → unsigned_at w b at ≡ Ok (cast_unsigned w x) → slot_signed w d b t i ≡ Ok x
unfolding bind
signed_there w d b t i at x fits e f = rw (e, f) (ap Ok (to_z-of_z w x fits))

pub bool_absent : (b : List ℕ) (t : Table) (i : ℕ) → slot b t i ≡ Ok None → slot_bool b t i ≡ Ok false
unfolding bind
bool_absent b t i e = rw e refl

pub bool_there : (b : List ℕ) (t : Table) (i at : ℕ) → slot b t i ≡ Ok (Some at) → unsigned_at w8 b at ≡ Ok 1 → slot_bool b t i ≡ Ok true
unfolding bind
bool_there b t i at e f = rw (e, f) refl

pub table_absent : (b : List ℕ) (t : Table) (i : ℕ) → slot b t i ≡ Ok None → slot_table b t i ≡ Ok None
unfolding bind
table_absent b t i e = rw e refl

pub table_there : (b : List ℕ) (t : Table) (i at q : ℕ) (t' : Table) → slot b t i ≡ Ok (Some at) → target b at ≡ Ok q → table_at b q ≡ Ok t' → slot_table b t i ≡ Ok (Some t')
unfolding bind
table_there b t i at q t' e f g = rw (e, f, g) refl

pub vector_absent : (width : ℕ) (b : List ℕ) (t : Table) (i : ℕ) → slot b t i ≡ Ok None → slot_vector width b t i ≡ Ok None
unfolding bind
vector_absent width b t i e = rw e refl

pub items_there : (width : ℕ) (b : List ℕ) (at q n : ℕ) → target b at ≡ Ok q → unsigned_at w32 b q ≡ Ok n → q + 4 + n * width ≤ length b → items b at width ≡ Ok (record { first = q + 4; count = n })
unfolding items bind
items_there width b at q n f g inside = let test : nat_le (q + 4 + n * width) (length b) ≡ true = le-leb _ _ inside in rw (items, f, g, test) refl

pub vector_there : (width : ℕ) (b : List ℕ) (t : Table) (i at q n : ℕ) → slot b t i ≡ Ok (Some at) → target b at ≡ Ok q → unsigned_at w32 b q ≡ Ok n → q + 4 + n * width ≤ length b → slot_vector width b t i ≡ Ok (Some (record { first = q + 4; count = n }))
unfolding bind
vector_there width b t i at q n e f g inside = rw (e, items_there width b at q n f g inside) refl

pub text_there : (b : List ℕ) (t : Table) (i at q : ℕ) (x : List ℕ) → is_utf8 x ≡ true → slot b t i ≡ Ok (Some at) → target b at ≡ Ok q → unsigned_at w32 b q ≡ Ok (length x) → Stands b (q + 4) x → slot_text b t i ≡ Ok (Some x)
unfolding text bind
text_there b t i at q x utf8 e f g h =
    let inside : q + 4 + length x * 1 ≤ length b = omega (arith, within b (q + 4) x h) in
    rw (e, items_there 1 b at q (length x) f g inside, taken b (q + 4) x h, utf8) refl

pub text_absent : (b : List ℕ) (t : Table) (i : ℕ) → slot b t i ≡ Ok None → slot_text b t i ≡ Ok None
unfolding bind
text_absent b t i e = rw e refl

-- ---- slots of a tree

pub zero_back : (w : Width) (x : ℤ) (s : Slots) (b : List ℕ) (t : Table) (i : ℕ) → SFits w x → HoldsSlots (unless_zero w x s) b t i → (slot_signed w (pos 0) b t i ≡ Ok x) × HoldsSlots s b t (i + 1)
zero_back w (pos zero) s b t i fits h = (signed_absent w (pos 0) b t i h.0, h.1)
zero_back w (pos (suc n)) s b t i fits h = (signed_there w (pos 0) b t i h.0.0 (pos (suc n)) fits h.0.1 h.0.2, h.1)
zero_back w (negsuc n) s b t i fits h = (signed_there w (pos 0) b t i h.0.0 (negsuc n) fits h.0.1 h.0.2, h.1)

pub flag_back : (f : Bool) (s : Slots) (b : List ℕ) (t : Table) (i : ℕ) → HoldsSlots (flag f s) b t i → (slot_bool b t i ≡ Ok f) × HoldsSlots s b t (i + 1)
flag_back true s b t i h = (bool_there b t i h.0.0 h.0.1 h.0.2, h.1)
flag_back false s b t i h = (bool_absent b t i h.0, h.1)
