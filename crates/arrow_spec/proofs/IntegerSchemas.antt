-- An integer type's table is read back, and slots that are left out.
use Rattle.std.proofs.Common.{◌≡◌, ℕ, ◌+◌, ◌*◌, ◌^◌, ◌<◌, ◌≤◌, List, [], None, Ok, refl, arith, true, false, Bool, pos}
use Rattle.std.specs.Prelude.{nat_le, nat_eq, if◌then◌else◌}
use Rattle.std.specs.Int.{w32, byte_len}
use Rattle.std.proofs.lemmas.Bool.{le-leb}
use Rattle.arrow_spec.specs.declared.types.IntegerType.{IntegerType}
use Rattle.arrow_spec.specs.declared.types.IntegerType.TheVariants.{Int8, Int16, Int32, Int64, Int128, UInt8, UInt16, UInt32, UInt64}
use Rattle.arrow_spec.specs.Readings.{bind}
use Rattle.arrow_spec.specs.Flat.{Table, slot_signed, slot_bool, slot_table, slot_vector}
use Rattle.arrow_spec.specs.Arrays.{integer_width, is_unsigned}
use Rattle.arrow_spec.specs.Schema.{integer_at, integer_of, encoding_at, pairs_of, pairs_from}
use Rattle.arrow_spec.specs.Layout as layout
use Rattle.arrow_spec.specs.Layout.{Slots}
use Rattle.arrow_spec.specs.Sent.{flag}
use Rattle.arrow_spec.specs.Held.{HoldsSlots}
use Rattle.arrow_spec.proofs.Slots.{signed_there, flag_back}

abbrev pub int_slots : IntegerType → Slots
int_slots t = layout.value w32 (pos (8 * byte_len (integer_width t))) (flag (if is_unsigned t then false else true) layout.no_more)

integer_read : (n : ℕ) (f : Bool) (b : List ℕ) (t : Table) → n < 2 ^ 31 → HoldsSlots (layout.value w32 (pos n) (flag f layout.no_more)) b t 0 → integer_at b t ≡ integer_of n f
unfolding integer_at bind
integer_read n f b t small h =
    let bits : slot_signed w32 (pos 0) b t 0 ≡ Ok (pos n) = signed_there w32 (pos 0) b t 0 h.0.0 (pos n) (record { sfits = small }) h.0.1 h.0.2 in
    let sign : slot_bool b t 1 ≡ Ok f = (flag_back f layout.no_more b t 1 h.1).0 in
    rw (bits, sign) refl

pub int_back : (i : IntegerType) (b : List ℕ) (t : Table) → HoldsSlots (int_slots i) b t 0 → integer_at b t ≡ Ok i
int_back Int8 b t h = integer_read 8 true b t (omega arith) h
int_back Int16 b t h = integer_read 16 true b t (omega arith) h
int_back Int32 b t h = integer_read 32 true b t (omega arith) h
int_back Int64 b t h = integer_read 64 true b t (omega arith) h
int_back Int128 b t h = integer_read 128 true b t (omega arith) h
int_back UInt8 b t h = integer_read 8 false b t (omega arith) h
int_back UInt16 b t h = integer_read 16 false b t (omega arith) h
int_back UInt32 b t h = integer_read 32 false b t (omega arith) h
int_back UInt64 b t h = integer_read 64 false b t (omega arith) h

pub no_encoding : (b : List ℕ) (t : Table) → slot_table b t 4 ≡ Ok None → encoding_at b t ≡ Ok None
unfolding encoding_at bind
no_encoding b t e = rw (encoding_at, e) refl

pub no_pairs : (b : List ℕ) (t : Table) (slot before : ℕ) → before ≤ 1048576 → slot_vector 4 b t slot ≡ Ok None → pairs_of b t slot before ≡ Ok ([], before)
unfolding pairs_of pairs_from bind
no_pairs b t slot before room e =
    let same : before + 0 ≡ before = omega arith in
    let test : nat_le before 1048576 ≡ true = le-leb _ _ room in
    rw (e, same, test) refl

pub is_same : (n : ℕ) → nat_eq n n ≡ true
is_same n = grind arith
