-- A written message is the next message of a stream that begins with it.
use Rattle.std.proofs.Common.{◌≡◌, ℕ, suc, zero, ◌+◌, ◌-◌, ◌*◌, ◌^◌, ◌<◌, ◌≤◌, List, [], ◌∷◌, ◌++◌, length, take, drop, Option, Some, None, Ok, refl, sym, ap, subst, arith, length-append, append-nil, true, false, Bool, ℤ, pos}
use Rattle.std.specs.Prelude.{nat_le, nat_lt, nat_eq, not}
use Rattle.std.specs.Int.{w32, cast_signed}
use Rattle.std.proofs.lemmas.Int.{to_z_pos}
use Rattle.std.proofs.lemmas.Bool.{le-leb, le-ltb}
use Rattle.std.proofs.lemmas.List.{length-replicate, drop_at}
use Rattle.arrow_spec.specs.Readings.{bind}
use Rattle.arrow_spec.specs.Flat.{unsigned_at}
use Rattle.arrow_spec.specs.Layout as layout
use Rattle.arrow_spec.specs.Layout.{Node, Slots, layout as bytes_of, size, zeros, u32}
use Rattle.arrow_spec.specs.Held.{Stands, Fits}
use Rattle.arrow_spec.specs.declared.error.OutOfSpecKind.TheVariants.{InvalidFlatbufferMessage}
use Rattle.arrow_spec.specs.Kinds.{Metadata}
use Rattle.arrow_spec.specs.Messages.{Message}
use Rattle.arrow_spec.specs.WrittenSchemas.{CustomMayBeWritten}
use Rattle.arrow_spec.proofs.SchemaPairs.{custom_back}
use Rattle.arrow_spec.specs.Sent.{message_slots}
use Rattle.arrow_spec.specs.Streams.{stream_prefix, framed, next_message, body_in}
use Rattle.arrow_spec.specs.Laws.{IsNextMessage}
use Rattle.arrow_spec.specs.Framing.{padded, padded_size, prefixed, message_bytes}
use Rattle.arrow_spec.proofs.Standing.{stands_left}
use Rattle.arrow_spec.proofs.Found.{right_at, within, number_stands}
use Rattle.arrow_spec.proofs.Lengths.{length-laid}
use Rattle.arrow_spec.proofs.Ends.{end_above}
use Rattle.arrow_spec.proofs.Back.{layout_back}
use Rattle.arrow_spec.proofs.Slots.{taken}
use Rattle.arrow_spec.proofs.MessageTables.{MessageBack, message_back}

-- any metadata behind its prefix, and the bytes behind it
module _ (md behind : List ℕ) (some : 0 < length md) (short : length md < 2 ^ 31) where
  abbrev b : List ℕ
  b = prefixed (length md) md ++ behind

  all : Stands b 0 (prefixed (length md) md ++ behind)
  all = record { front = []; back = []; whole = sym (append-nil _); place = refl }

  up_to_metadata : Stands b 0 (prefixed (length md) md)
  up_to_metadata = stands_left b 0 (prefixed (length md) md) behind all

  metadata_stands : Stands b 8 md
  metadata_stands = right_at b 0 ((255 ∷ 255 ∷ 255 ∷ 255 ∷ []) ++ u32 (length md)) md 8 refl up_to_metadata

  number : Stands b 4 (u32 (length md))
  number = right_at b 0 (255 ∷ 255 ∷ 255 ∷ 255 ∷ []) (u32 (length md)) 4 refl (stands_left b 0 ((255 ∷ 255 ∷ 255 ∷ 255 ∷ []) ++ u32 (length md)) md up_to_metadata)

  behind_left : drop (8 + length md) b ≡ behind
  behind_left = drop_at (prefixed (length md) md) behind (8 + length md) (omega arith)

  prefix_read : stream_prefix b ≡ Ok (8, length md)
  unfolding stream_prefix bind
  prefix_read =
      let n : unsigned_at w32 b 4 ≡ Ok (length md) = number_stands w32 b 4 (length md) (omega (arith, short)) number in
      let signed : cast_signed w32 (length md) ≡ pos (length md) = to_z_pos w32 (length md) short in
      rw (n, signed) refl

  framed_back : framed b (8, length md) ≡ Ok (record { metadata = md; behind = behind })
  unfolding framed bind
  framed_back =
      let whole : nat_le (8 + length md) (length b) ≡ true = le-leb _ _ (within b 8 md metadata_stands) in
      rw (whole, taken b 8 md metadata_stands, behind_left) refl

  pub next_back : next_message b ≡ Ok (Some (record { metadata = md; behind = behind }))
  unfolding next_message bind
  next_back =
      let long : nat_lt (length b) 4 ≡ false = le-ltb _ _ (omega (arith, within b 8 md metadata_stands)) in
      let more : nat_eq (length md) 0 ≡ false = grind arith in
      rw (next_message, long, prefix_read) (rw (bind, more, framed_back) refl)

pub length-layout : (n : Node) → length (bytes_of n) ≡ size n
unfolding bytes_of size
length-layout n = omega (arith, length-laid n 4)

pub length-padded : (n : Node) → length (padded n) ≡ padded_size n
length-padded n = omega (arith, length-append (bytes_of n) (zeros (padded_size n - size n)), length-layout n, length-replicate {A = ℕ} (padded_size n - size n) 0)

size_least : (n : Node) → 4 ≤ size n
unfolding size
size_least n = end_above n 4

-- what is framed by any node's message bytes
pub next_framed : (n : Node) (body rest : List ℕ) → padded_size n < 2 ^ 31 → next_message (message_bytes n body ++ rest) ≡ Ok (Some (record { metadata = padded n; behind = body ++ rest }))
unfolding message_bytes
next_framed n body rest short =
    let l : length (padded n) ≡ padded_size n = length-padded n in
    let least : 4 ≤ size n = size_least n in
    let read = next_back (padded n) (body ++ rest) (omega (arith, l, least)) (omega (arith, l, short)) in
    let same : prefixed (padded_size n) (padded n) ++ (body ++ rest) ≡ (prefixed (padded_size n) (padded n) ++ body) ++ rest = sym (Rattle.std.proofs.Common.append_assoc (prefixed (padded_size n) (padded n)) body rest) in
    subst (λ x. next_message x ≡ Ok (Some (record { metadata = padded n; behind = body ++ rest }))) same
    (subst (λ k. next_message (prefixed k (padded n) ++ (body ++ rest)) ≡ Ok (Some (record { metadata = padded n; behind = body ++ rest }))) l read)

-- the body of a message that tells its length, and the bytes behind it
pub body_back : (md body rest : List ℕ) (m : Message) → m.body ≡ length body → body_in (record { metadata = md; behind = body ++ rest }) m ≡ Ok body
unfolding body_in bind
body_back md body rest m e =
    let inside : nat_le (length body) (length (body ++ rest)) ≡ true = le-leb _ _ (omega (arith, length-append body rest)) in
    let here : take (length body) (body ++ rest) ≡ body = Rattle.std.proofs.Math.Seq.take-append_seam body rest in
    rw (e, inside, here) refl

pub rest_back : (body rest : List ℕ) (m : Message) → m.body ≡ length body → drop m.body (body ++ rest) ≡ rest
rest_back body rest m e = rw e (drop_at body rest (length body) refl)

-- what is read of bytes that begin with a written message
pub record Next (taken_tags : ℕ → Bool) (tag : ℕ) (s : Slots) (body : List ℕ) (custom : Metadata) (rest : List ℕ) (b : List ℕ) : Type 0 where
  pub back : MessageBack taken_tags tag (length body) custom s (padded (layout.table (message_slots tag (layout.table s) (length body) custom)))
  pub read : next_message b ≡ Ok (Some (record { metadata = padded (layout.table (message_slots tag (layout.table s) (length body) custom)); behind = body ++ rest }))

pub next_written : (taken_tags : ℕ → Bool) (tag : ℕ) (s : Slots) (body : List ℕ) (custom : Metadata) (rest : List ℕ) → not (nat_eq tag 0) ≡ true → nat_le tag 5 ≡ true → taken_tags tag ≡ true → length body < 2 ^ 63 → Fits (layout.table (message_slots tag (layout.table s) (length body) custom))
    → padded_size (layout.table (message_slots tag (layout.table s) (length body) custom)) < 2 ^ 31 → Next taken_tags tag s body custom rest (message_bytes (layout.table (message_slots tag (layout.table s) (length body) custom)) body ++ rest)
next_written taken_tags tag s body custom rest some listed expected few fits short =
    let n = layout.table (message_slots tag (layout.table s) (length body) custom) in
    let least : 4 ≤ size n = size_least n in
    let back = message_back taken_tags tag (length body) custom s (padded n) some listed expected few (layout_back (message_slots tag (layout.table s) (length body) custom) (zeros (padded_size n - size n)) fits (omega (arith, short))) in
    record { back = back; read = next_framed n body rest short }

some_tag : (tag : ℕ) → 0 < tag → not (nat_eq tag 0) ≡ true
some_tag tag h = let other : nat_eq tag 0 ≡ false = grind (arith, h) in rw other refl

pub framed_message_is_next : (taken_tags : ℕ → Bool) (tag : ℕ) (s : Slots) (body : List ℕ) (custom : Metadata) (rest : List ℕ) → 0 < tag → tag ≤ 5 → taken_tags tag ≡ true → length body < 2 ^ 63 → CustomMayBeWritten custom → Fits (layout.table (message_slots tag (layout.table s) (length body) custom))
    → padded_size (layout.table (message_slots tag (layout.table s) (length body) custom)) < 2 ^ 31 → IsNextMessage taken_tags tag s body custom rest (message_bytes (layout.table (message_slots tag (layout.table s) (length body) custom)) body ++ rest)
framed_message_is_next taken_tags tag s body custom rest some listed expected few may fits short =
    let md = padded (layout.table (message_slots tag (layout.table s) (length body) custom)) in
    let next = next_written taken_tags tag s body custom rest (some_tag tag some) (le-leb _ _ listed) expected few fits short in
    let m = next.back.found in
    record {
      framed = record { metadata = md; behind = body ++ rest };
      found = m;
      next = next.read;
      read = next.back.read;
      version = next.back.version;
      tag_is = next.back.tag_is;
      body_is = body_back md body rest m next.back.body_is;
      rest_is = rest_back body rest m next.back.body_is;
      header = next.back.header;
      custom_is = custom_back InvalidFlatbufferMessage custom md m.table may next.back.root_is next.back.last;
    }
