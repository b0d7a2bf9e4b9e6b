-- A message's metadata and the vectors of nodes and buffers are read back.
use Rattle.std.proofs.Common.{◌≡◌, ℕ, suc, ◌+◌, ◌*◌, ◌^◌, ◌<◌, ◌≤◌, List, [], ◌∷◌, ◌++◌, length, Result, Some, Ok, refl, ap, subst, arith, length-append, true, Bool, ℤ, pos, SFits}
use Rattle.std.specs.Prelude.{nat_le, nat_eq, not}
use Rattle.std.specs.Int.{w8, w16, w64, cast_unsigned}
use Rattle.std.specs.List.{flat_map, AllByRecursion}
use Rattle.std.proofs.lemmas.Int.{to_z-of_z}
use Rattle.std.proofs.Math.Facts.{Fits-of_z, Fits-lt-pow}
use Rattle.std.proofs.lemmas.List.Concat.{flat_map-cons}
use Rattle.arrow_spec.specs.declared.error.FlatError.{FlatError}
use Rattle.arrow_spec.specs.declared.message.FieldNode.{FieldNode}
use Rattle.arrow_spec.specs.declared.message.IpcBuffer.{IpcBuffer}
use Rattle.arrow_spec.specs.declared.message.MetadataVersion.TheVariants.{V5}
use Rattle.arrow_spec.specs.Readings.{bind, each}
use Rattle.arrow_spec.specs.Flat.{Table, Vector, root, signed_at, slot, slot_unsigned, slot_vector}
use Rattle.arrow_spec.specs.Layout as layout
use Rattle.arrow_spec.specs.Layout.{Node, Slots, Nodes}
use Rattle.arrow_spec.specs.Held.{Stands, HoldsSlots, Rooted}
use Rattle.arrow_spec.specs.Messages.{Message, node_at, nodes_at, buffer_at, buffers_at, message_of, version_of}
use Rattle.arrow_spec.specs.Sent.{i64_bytes, node_bytes, buffer_bytes, custom_slot, message_slots}
use Rattle.arrow_spec.specs.Kinds.{Metadata}
use Rattle.arrow_spec.proofs.Standing.{stands_left}
use Rattle.arrow_spec.proofs.Found.{right_at, within, number_stands}
use Rattle.arrow_spec.proofs.Slots.{unsigned_there, vector_there, zero_back}
use Rattle.arrow_spec.specs.Bodies.{NodeFits, BufferFits}

pub fits_pos : (n : ℕ) → n < 2 ^ 63 → SFits w64 (pos n)
fits_pos n h = record { sfits = h }

pub signed_stands : (b : List ℕ) (k : ℕ) (z : ℤ) → SFits w64 z → Stands b k (i64_bytes z) → signed_at w64 b k ≡ Ok z
unfolding bind
signed_stands b k z fits h = rw (number_stands w64 b k (cast_unsigned w64 z) (Fits-lt-pow (Fits-of_z fits)) h) (ap Ok (to_z-of_z w64 z fits))

-- structs of 16 bytes, each of which is read where its bytes stand
record IsRead {A : Type 0} (Fit : A → Type 0) (bytes : A → List ℕ) (read : List ℕ → ℕ → Result A FlatError) : Type 0 where
  back : (b : List ℕ) (k : ℕ) (x : A) → Fit x → Stands b k (bytes x) → read b k ≡ Ok x
  wide : (x : A) → length (bytes x) ≡ 16

structs_from : {A : Type 0} (Fit : A → Type 0) (bytes : A → List ℕ) (read : List ℕ → ℕ → Result A FlatError) → IsRead Fit bytes read
    → (xs : List A) (b : List ℕ) (first i : ℕ) → AllByRecursion Fit xs → Stands b (first + 16 * i) (flat_map bytes xs) → each (λ j. read b (first + 16 * j)) i (length xs) ≡ Ok xs
unfolding bind
structs_from Fit bytes read rule [] b first i fits h = refl
structs_from Fit bytes read rule (x ∷ xs) b first i fits h =
    let u = bytes x in
    let v = flat_map bytes xs in
    let both : Stands b (first + 16 * i) (u ++ v) = subst (λ t. Stands b (first + 16 * i) t) (flat_map-cons bytes x xs) h in
    let here : read b (first + 16 * i) ≡ Ok x = rule.back b (first + 16 * i) x fits.0 (stands_left b (first + 16 * i) u v both) in
    let others : each (λ j. read b (first + 16 * j)) (suc i) (length xs) ≡ Ok xs = structs_from Fit bytes read rule xs b first (suc i) fits.1 (right_at b (first + 16 * i) u v (first + 16 * suc i) (omega (arith, rule.wide x)) both) in
    rw (here, others) refl

structs_back : {A : Type 0} (Fit : A → Type 0) (bytes : A → List ℕ) (read : List ℕ → ℕ → Result A FlatError) → IsRead Fit bytes read
    → (xs : List A) (b : List ℕ) (q : ℕ) → AllByRecursion Fit xs → Stands b (q + 4) (flat_map bytes xs) → each (λ j. read b (q + 4 + 16 * j)) 0 (length xs) ≡ Ok xs
structs_back Fit bytes read rule xs b q fits h =
    let start : q + 4 ≡ q + 4 + 16 * 0 = omega arith in
    structs_from Fit bytes read rule xs b (q + 4) 0 fits (subst (λ k. Stands b k (flat_map bytes xs)) start h)

length-structs : {A : Type 0} (Fit : A → Type 0) (bytes : A → List ℕ) (read : List ℕ → ℕ → Result A FlatError) → IsRead Fit bytes read → (xs : List A) → length (flat_map bytes xs) ≡ 16 * length xs
length-structs Fit bytes read rule [] = omega arith
length-structs Fit bytes read rule (x ∷ xs) = omega (arith, ap length (flat_map-cons bytes x xs), length-append (bytes x) (flat_map bytes xs), rule.wide x, length-structs Fit bytes read rule xs)

-- ── nodes ──

node_is_read : IsRead NodeFits node_bytes node_at
unfolding bind
node_is_read = record {
  back = λ b k x fits h. rw (signed_stands b k x.length fits.0 (stands_left b k (i64_bytes x.length) (i64_bytes x.null_count) h), signed_stands b (k + 8) x.null_count fits.1 (right_at b k (i64_bytes x.length) (i64_bytes x.null_count) (k + 8) refl h)) refl;
  wide = λ x. refl;
}

pub length-nodes : (xs : List FieldNode) → length (flat_map node_bytes xs) ≡ 16 * length xs
length-nodes xs = length-structs NodeFits node_bytes node_at node_is_read xs

pub nodes_slot : (xs : List FieldNode) (s : Slots) (b : List ℕ) (t : Table) (i : ℕ) → AllByRecursion NodeFits xs → HoldsSlots (layout.child (layout.structs (length xs) (flat_map node_bytes xs)) s) b t i
    → (v : Vector) × (slot_vector 16 b t i ≡ Ok (Some v)) × (nodes_at b v ≡ Ok xs)
nodes_slot xs s b t i fits h =
    let q = h.0.1 in
    let bytes : Stands b (q + 4) (flat_map node_bytes xs) = h.0.4.1 in
    let inside : q + 4 + length xs * 16 ≤ length b = omega (arith, within b (q + 4) (flat_map node_bytes xs) bytes, length-nodes xs) in
    (record { first = q + 4; count = length xs }, vector_there 16 b t i h.0.0 q (length xs) h.0.2 h.0.3 h.0.4.0 inside, structs_back NodeFits node_bytes node_at node_is_read xs b q fits bytes)

-- ── buffers ──

buffer_is_read : IsRead BufferFits buffer_bytes buffer_at
unfolding bind
buffer_is_read = record {
  back = λ b k x fits h. rw (signed_stands b k x.offset fits.0 (stands_left b k (i64_bytes x.offset) (i64_bytes x.length) h), signed_stands b (k + 8) x.length fits.1 (right_at b k (i64_bytes x.offset) (i64_bytes x.length) (k + 8) refl h)) refl;
  wide = λ x. refl;
}

pub length-buffers : (xs : List IpcBuffer) → length (flat_map buffer_bytes xs) ≡ 16 * length xs
length-buffers xs = length-structs BufferFits buffer_bytes buffer_at buffer_is_read xs

pub buffers_slot : (xs : List IpcBuffer) (s : Slots) (b : List ℕ) (t : Table) (i : ℕ) → AllByRecursion BufferFits xs → HoldsSlots (layout.child (layout.structs (length xs) (flat_map buffer_bytes xs)) s) b t i
    → (v : Vector) × (slot_vector 16 b t i ≡ Ok (Some v)) × (buffers_at b v ≡ Ok xs)
buffers_slot xs s b t i fits h =
    let q = h.0.1 in
    let bytes : Stands b (q + 4) (flat_map buffer_bytes xs) = h.0.4.1 in
    let inside : q + 4 + length xs * 16 ≤ length b = omega (arith, within b (q + 4) (flat_map buffer_bytes xs) bytes, length-buffers xs) in
    (record { first = q + 4; count = length xs }, vector_there 16 b t i h.0.0 q (length xs) h.0.2 h.0.3 h.0.4.0 inside, structs_back BufferFits buffer_bytes buffer_at buffer_is_read xs b q fits bytes)

-- ── a message ──

-- metadata that is read as a message of a tag with such slots in its header, behind which such pairs stand
pub record MessageBack (taken : ℕ → Bool) (tag body : ℕ) (custom : Metadata) (s : Slots) (b : List ℕ) : Type 0 where
  pub found : Message
  pub read : message_of b taken ≡ Ok found
  pub version : version_of b found ≡ Ok V5
  pub tag_is : found.tag ≡ tag
  pub body_is : found.body ≡ body
  pub header : HoldsSlots s b found.header 0
  pub root_is : root b ≡ Ok found.table
  pub last : HoldsSlots (custom_slot custom) b found.table 4

pub message_back : (taken : ℕ → Bool) (tag body : ℕ) (custom : Metadata) (s : Slots) (b : List ℕ) → not (nat_eq tag 0) ≡ true → nat_le tag 5 ≡ true → taken tag ≡ true → body < 2 ^ 63 → Rooted (message_slots tag (layout.table s) body custom) b → MessageBack taken tag body custom s b
unfolding message_of version_of bind
message_back taken tag body custom s b some listed expected few r =
    let t = r.root_table in
    let h = r.slots in
    let v : slot_unsigned w16 0 b t 0 ≡ Ok 4 = unsigned_there w16 0 b t 0 h.0.0 4 h.0.1 h.0.2 in
    let n : slot_unsigned w8 0 b t 1 ≡ Ok tag = unsigned_there w8 0 b t 1 h.1.0.0 tag h.1.0.1 h.1.0.2 in
    let c = h.1.1.0 in
    let there : slot b t 2 ≡ Ok (Some c.0) = c.2 in
    let t' : Table = c.4.0 in
    let body' = zero_back w64 (pos body) (custom_slot custom) b t 3 (fits_pos body few) h.1.1.1 in
    record {
      found = record { table = t; tag = tag; header = t'; body = body };
      read = rw (r.found, n, there, some, listed, expected, c.3, c.4.1, body'.0) refl;
      version = rw v refl;
      tag_is = refl;
      body_is = refl;
      header = c.4.2;
      root_is = r.found;
      last = body'.1;
    }
