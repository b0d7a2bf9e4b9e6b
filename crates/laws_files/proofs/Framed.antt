-- A message that stands at its block's place is read there.
use Rattle.std.proofs.Common.{◌≡◌, ℕ, ◌+◌, ◌^◌, ◌<◌, ◌≤◌, List, [], ◌∷◌, ◌++◌, length, take, drop, Ok, refl, sym, ap, subst, ◌∙◌, arith, true, length-append, append-nil, pos, Bool}
use Rattle.std.specs.Prelude.{nat_eq, nat_le}
use Rattle.std.specs.Int.{w32, cast_signed}
use Rattle.std.proofs.lemmas.Int.{to_z_pos}
use Rattle.std.proofs.lemmas.Bool.{le-leb}
use Rattle.arrow_spec.specs.Readings.{bind}
use Rattle.arrow_spec.specs.Flat.{unsigned_at}
use Rattle.arrow_spec.specs.Kinds.{Metadata}
use Rattle.arrow_spec.specs.Layout.{Node, Slots, u32}
use Rattle.arrow_spec.specs.Held.{Stands}
use Rattle.arrow_spec.specs.Framing.{message_bytes, padded, padded_size, prefixed}
use Rattle.arrow_spec.specs.Messages.{Message, message_of, prefix_of}
use Rattle.arrow_spec.specs.Files.{block_body, block_message}
use Rattle.arrow_spec.specs.Sent.{SentMessage}
use Rattle.arrow_spec.specs.Laws.{IsNextMessage}
use Rattle.arrow_spec.proofs.Found.{number_stands, right_at, within}
use Rattle.arrow_spec.proofs.NextMessages.{length-padded, next_framed}
use Rattle.arrow_spec.proofs.Slots.{taken}
use Rattle.arrow_spec.proofs.Standing.{stands_left}
use Rattle.laws_files.specs.Files.{block_of}

-- the prefix of some metadata is read
module _ (md : List ℕ) (short : length md < 2 ^ 31) where
  abbrev both : List ℕ
  both = prefixed (length md) md

  whole : Stands both 0 both
  whole = record { front = []; back = []; whole = sym (append-nil _); place = refl }

  mark_there : unsigned_at w32 both 0 ≡ Ok 4294967295
  mark_there = number_stands w32 both 0 4294967295 (omega arith) (stands_left both 0 (255 ∷ 255 ∷ 255 ∷ 255 ∷ []) (u32 (length md)) (stands_left both 0 ((255 ∷ 255 ∷ 255 ∷ 255 ∷ []) ++ u32 (length md)) md whole))

  number_there : unsigned_at w32 both 4 ≡ Ok (length md)
  number_there =
      let up_to_number = stands_left both 0 ((255 ∷ 255 ∷ 255 ∷ 255 ∷ []) ++ u32 (length md)) md whole in
      number_stands w32 both 4 (length md) (omega (arith, short)) (right_at both 0 (255 ∷ 255 ∷ 255 ∷ 255 ∷ []) (u32 (length md)) 4 refl up_to_number)

  pub prefix_back : prefix_of both ≡ Ok (8, length md)
  unfolding prefix_of bind
  prefix_back =
      let signed : cast_signed w32 (length md) ≡ pos (length md) = to_z_pos w32 (length md) short in
      let inside : nat_le (8 + length md) (length both) ≡ true = le-leb _ _ (omega (arith, length-append ((255 ∷ 255 ∷ 255 ∷ 255 ∷ []) ++ u32 (length md)) md)) in
      rw (mark_there, number_there, signed, inside) refl

-- a message in its block: its place, how long its metadata and its body are
module _ (b : List ℕ) (at : ℕ) (m : SentMessage) (body : List ℕ) (h : Stands b at (message_bytes m.node body)) (long : length body ≡ m.body) (short : padded_size m.node < 2 ^ 31) where
  abbrev front : List ℕ
  front = prefixed (padded_size m.node) (padded m.node)

  parts : Stands b at (front ++ body)
  unfolding message_bytes
  parts = h

  length-front : length front ≡ 8 + padded_size m.node
  length-front = omega (arith, length-append ((255 ∷ 255 ∷ 255 ∷ 255 ∷ []) ++ u32 (padded_size m.node)) (padded m.node), length-padded m.node)

  front_there : Stands b at front
  front_there = stands_left b at front body parts

  front_taken : take (8 + padded_size m.node) (drop at b) ≡ front
  front_taken = ap (λ n. take n (drop at b)) (sym length-front) ∙ taken b at front front_there

  metadata_taken : take (padded_size m.node) (drop (at + 8) b) ≡ padded m.node
  metadata_taken =
      let there : Stands b (at + 8) (padded m.node) = right_at b at ((255 ∷ 255 ∷ 255 ∷ 255 ∷ []) ++ u32 (padded_size m.node)) (padded m.node) (at + 8) refl front_there in
      ap (λ n. take n (drop (at + 8) b)) (sym (length-padded m.node)) ∙ taken b (at + 8) (padded m.node) there

  pub body_taken : block_body b (block_of at m) ≡ body
  body_taken =
      let there : Stands b (at + (8 + padded_size m.node)) body = right_at b at front body (at + (8 + padded_size m.node)) (omega (arith, length-front)) parts in
      ap (λ n. take n (drop (at + (8 + padded_size m.node)) b)) (sym long) ∙ taken b (at + (8 + padded_size m.node)) body there

  inside : nat_le (at + (8 + padded_size m.node) + m.body) (length b) ≡ true
  inside = le-leb _ _ (omega (arith, within b at (front ++ body) parts, length-append front body, length-front, long))

  pub body_long : length body ≤ length b
  body_long = omega (arith, within b at (front ++ body) parts, length-append front body)

  prefix_there : prefix_of (take (8 + padded_size m.node) (drop at b)) ≡ Ok (8, padded_size m.node)
  prefix_there =
      let l = length-padded m.node in
      ap prefix_of front_taken ∙ subst (λ k. prefix_of (prefixed k (padded m.node)) ≡ Ok (8, k)) l (prefix_back (padded m.node) (omega (arith, l, short)))

  pub message_there : (tag : ℕ) (found : Message) → message_of (padded m.node) (λ k. nat_eq k tag) ≡ Ok found → block_message b (block_of at m) tag ≡ Ok (padded m.node, found)
  unfolding block_message bind
  message_there tag found read = rw (inside, prefix_there, metadata_taken, read) refl

-- what is read of a written message is read of its metadata
pub metadata_is : (taken : ℕ → Bool) (tag : ℕ) (s : Slots) (body : List ℕ) (custom : Metadata) (n : Node) → padded_size n < 2 ^ 31 → (m : IsNextMessage taken tag s body custom [] (message_bytes n body ++ [])) → m.framed.metadata ≡ padded n
metadata_is taken tag s body custom n short m =
    let read = next_framed n body [] short in
    let one : m.framed ≡ record { metadata = padded n; behind = body ++ [] } = cc (m.next, read) in
    ap (λ f. f.metadata) one
