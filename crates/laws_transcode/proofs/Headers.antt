-- The numbers of a batch's tables that are read of bytes have 64 bits.
use Rattle.std.proofs.Common.{◌≡◌, ℕ, zero, suc, ◌+◌, ◌*◌, ◌^◌, ◌<◌, List, [], ◌∷◌, length, take, drop, get_or, Option, Some, None, Result, Ok, Err, subst, arith, true, false, Bool, ℤ, pos, SFits, cond}
use Rattle.std.specs.Prelude.{nat_le}
use Rattle.std.specs.Int.{w64, from_le_bytes, cast_signed}
use Rattle.std.specs.List.{AllByRecursion}
use Rattle.std.proofs.Math.Facts.{sfits_to_z}
use Rattle.std.proofs.lemmas.List.{get_or-take, get_or-drop}
use Rattle.arrow_spec.specs.declared.error.FlatError.{FlatError}
use Rattle.arrow_spec.specs.declared.error.OutOfSpecKind.{OutOfSpecKind}
use Rattle.arrow_spec.specs.declared.message.FieldNode.{FieldNode}
use Rattle.arrow_spec.specs.declared.message.IpcBuffer.{IpcBuffer}
use Rattle.arrow_spec.specs.Readings.{each, as_kind}
use Rattle.arrow_spec.specs.Flat.{Table, Vector, fold_number, if_present, in_range, little, or_default, signed_at, slot, slot_signed, slot_vector, unsigned_at}
use Rattle.arrow_spec.specs.Messages.{BatchHeader, RecordMessage, batch_at, buffer_at, node_at, numbers_at, record_message}
use Rattle.arrow_spec.specs.Laws.{AreBytes}
use Rattle.arrow_spec.specs.Bodies.{BufferFits, NodeFits}
use Rattle.arrow_spec.proofs.ReadPairs.{goes, same_read, through}
use Rattle.laws_transcode.specs.Files.{HeaderFits}

-- ── numbers ──

at_place : (t : Bool) (x : List ℕ) (n : ℕ) → in_range (fold_number little w64 (cond t (Some x) None)) ≡ Ok n → from_le_bytes w64 x ≡ n
at_place true x n h = cc
at_place false x n h = cc

byte : (b : List ℕ) (at i : ℕ) → AreBytes b → i < 8 → get_or (take 8 (drop at b)) i 0 < 256
byte b at i bytes h = rw (get_or-take 8 (drop at b) i 0 h, get_or-drop at b i 0) (omega (arith, bytes (at + i)))

eight : (b : List ℕ) (at : ℕ) → AreBytes b → from_le_bytes w64 (take 8 (drop at b)) < 2 ^ 64
eight b at bytes = omega (arith, byte b at 0 bytes (omega arith), byte b at 1 bytes (omega arith), byte b at 2 bytes (omega arith), byte b at 3 bytes (omega arith), byte b at 4 bytes (omega arith), byte b at 5 bytes (omega arith), byte b at 6 bytes (omega arith), byte b at 7 bytes (omega arith))

number_fits : (b : List ℕ) (at : ℕ) (z : ℤ) → AreBytes b → signed_at w64 b at ≡ Ok z → SFits w64 z
number_fits b at z bytes h =
    let n = goes (unsigned_at w64 b at) _ z h in
    let same : from_le_bytes w64 (take 8 (drop at b)) ≡ n.got = at_place (nat_le (at + 8) (length b)) (take 8 (drop at b)) n.got (n.first) in
    let few : n.got < 2 ^ 64 = subst (λ m. m < 2 ^ 64) same (eight b at bytes) in
    let e : cast_signed w64 n.got ≡ z = cc (n.rest) in
    subst (λ x. SFits w64 x) e (sfits_to_z (record { fits = few }))

present_fits : (b : List ℕ) (p : Option ℕ) (x : Option ℤ) → AreBytes b → if_present (signed_at w64 b) p ≡ Ok x → SFits w64 (or_default (pos 0) x)
present_fits b None x bytes h = let e : None ≡ x = cc in subst (λ y. SFits w64 (or_default (pos 0) y)) e (record { sfits = omega arith })
present_fits b (Some p) x bytes h =
    let z = goes (signed_at w64 b p) _ x h in
    let e : Some z.got ≡ x = cc (z.rest) in
    subst (λ y. SFits w64 (or_default (pos 0) y)) e (number_fits b p z.got bytes z.first)

slot_fits : (b : List ℕ) (t : Table) (i : ℕ) (z : ℤ) → AreBytes b → slot_signed w64 (pos 0) b t i ≡ Ok z → SFits w64 z
slot_fits b t i z bytes h =
    let p = goes (slot b t i) _ z h in
    let x = goes (if_present (signed_at w64 b) p.got) _ z p.rest in
    let e : or_default (pos 0) x.got ≡ z = cc (x.rest) in
    subst (λ y. SFits w64 y) e (present_fits b p.got x.got bytes x.first)

-- ── vectors ──

each_fits : {A : Type 0} (P : A → Type 0) (f : ℕ → Result A FlatError) (i n : ℕ) (xs : List A) → ((j : ℕ) (x : A) → f j ≡ Ok x → P x) → each f i n ≡ Ok xs → AllByRecursion P xs
each_fits P f i zero xs one h = let e : [] ≡ xs = cc in subst (λ ys. AllByRecursion P ys) e tt
each_fits P f i (suc n) xs one h =
    let first = goes (f i) _ xs h in
    let rest = goes (each f (suc i) n) _ xs first.rest in
    let e : first.got ∷ rest.got ≡ xs = cc (rest.rest) in
    subst (λ ys. AllByRecursion P ys) e (one i first.got first.first, each_fits P f (suc i) n rest.got one rest.first)

node_fits : (b : List ℕ) (p : ℕ) (x : FieldNode) → AreBytes b → node_at b p ≡ Ok x → NodeFits x
node_fits b p x bytes h =
    let y = goes (signed_at w64 b p) _ x h in
    let z = goes (signed_at w64 b (p + 8)) _ x y.rest in
    let made : FieldNode = record { length = y.got; null_count = z.got } in
    let e : made ≡ x = cc (z.rest) in
    subst NodeFits e (number_fits b p y.got bytes y.first, number_fits b (p + 8) z.got bytes z.first)

buffer_fits : (b : List ℕ) (p : ℕ) (x : IpcBuffer) → AreBytes b → buffer_at b p ≡ Ok x → BufferFits x
buffer_fits b p x bytes h =
    let y = goes (signed_at w64 b p) _ x h in
    let z = goes (signed_at w64 b (p + 8)) _ x y.rest in
    let made : IpcBuffer = record { offset = y.got; length = z.got } in
    let e : made ≡ x = cc (z.rest) in
    subst BufferFits e (number_fits b p y.got bytes y.first, number_fits b (p + 8) z.got bytes z.first)

numbers_fit : (b : List ℕ) (v : Option Vector) (xs : List ℤ) → AreBytes b → numbers_at b v ≡ Ok xs → AllByRecursion (λ x. SFits w64 x) xs
numbers_fit b None xs bytes h = let e : [] ≡ xs = cc in subst (λ ys. AllByRecursion (λ x. SFits w64 x) ys) e tt
numbers_fit b (Some v) xs bytes h = each_fits (λ x. SFits w64 x) _ 0 v.count xs (λ j x e. number_fits b (v.first + 8 * j) x bytes e) h

-- ── tables ──

of_kind : {A : Type 0} (kind : FlatError → OutOfSpecKind) (r : Result A FlatError) (x : A) → as_kind kind r ≡ Ok x → r ≡ Ok x
of_kind kind (Ok y) x h = cc
of_kind kind (Err e) x h = cc

-- a batch's tables that are read of bytes
pub header_read : (b : List ℕ) (t : Table) (tables : BatchHeader) → AreBytes b → batch_at b t ≡ Ok tables → HeaderFits tables
unfolding batch_at
header_read b t tables bytes h =
    through _ _ tables h λ rows rows_are h1. through _ _ tables h1 λ v v_is h2. through _ _ tables h2 λ nodes nodes_are h3. through _ _ tables h3 λ w w_is h4. through _ _ tables h4 λ buffers buffers_are h5. through _ _ tables h5 λ compression compression_is h6. through _ _ tables h6 λ counts counts_are h7.
    let vector = goes (slot_vector 8 b t 4) _ counts (of_kind _ _ counts counts_are) in
    subst HeaderFits (same_read _ tables h7) (record {
      rows = slot_fits b t 0 rows bytes (of_kind _ _ rows rows_are);
      nodes = each_fits NodeFits _ 0 v.count nodes (λ j x e. node_fits b (v.first + 16 * j) x bytes e) (of_kind _ _ nodes nodes_are);
      buffers = each_fits BufferFits _ 0 w.count buffers (λ j x e. buffer_fits b (w.first + 16 * j) x bytes e) (of_kind _ _ buffers buffers_are);
      views = numbers_fit b vector.got counts bytes vector.rest;
    })

-- the same of a message
pub message_read : (b : List ℕ) (m : RecordMessage) → AreBytes b → record_message b ≡ Ok m → HeaderFits m.tables
unfolding record_message
message_read b m bytes h =
    through _ _ m h λ found found_is h1. through _ _ m h1 λ tables tables_are h2. through _ _ m h2 λ version version_is h3.
    subst (λ (x : RecordMessage). HeaderFits x.tables) (same_read _ m h3) (header_read b found.header tables bytes tables_are)
