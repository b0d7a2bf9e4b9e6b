-- Zeros that are left among the bytes, and filled one value after another.
use Rattle.std.proofs.Common.{◌≡◌, ℕ, ◌+◌, ◌-◌, ◌*◌, ◌≤◌, List, [], ◌++◌, length, take, drop, sym, ap, subst, ◌∙◌, arith, append_assoc, append-nil, length-append, ℤ}
use Rattle.std.proofs.lemmas.List.{take_at, drop_at, replicate-append-replicate, length-replicate}
use Rattle.std.specs.Int.{Width, byte_len, to_le_bytes, cast_unsigned}
use Rattle.arrow_spec.specs.Layout.{Node, Slots, Nodes, no_more, absent, value, child, none, also, up_to, inline_end, inline_values, node_count, offsets, place_of, end_of, laid, laid_children, laid_nodes, zeros, u32}
use Rattle.arrow_spec.proofs.Ends.{inline_above}
use Rattle.arrow_spec.proofs.Lengths.{length-value}
use Rattle.arrow_flat.specs.Nodes.{SlotValue, nothing, number, leads_to, in_front, over, with_value, value_next, value_end, value_laid}

-- zeros from q to e
pub record Room (out : List ℕ) (q e : ℕ) (front back : List ℕ) : Type 0 where
  pub whole : out ≡ front ++ (zeros (e - q) ++ back)
  pub place : length front ≡ q

room_length : (out front back : List ℕ) (q e : ℕ) → q ≤ e → Room out q e front back → e ≤ length out
room_length out front back q e h room =
    omega (arith, ap length room.whole, length-append front (zeros (e - q) ++ back), length-append (zeros (e - q)) back, length-replicate {A = ℕ} (e - q) 0, room.place)

over_seams : (a z b bytes : List ℕ) (at : ℕ) → length a ≡ at → length z ≡ length bytes → over (a ++ (z ++ b)) at bytes ≡ a ++ (bytes ++ b)
over_seams a z b bytes at ha hz =
    let first : take at (a ++ (z ++ b)) ≡ a = take_at a (z ++ b) at ha in
    let here : length (a ++ z) ≡ at + length bytes = omega (arith, length-append a z, ha, hz) in
    let last : drop (at + length bytes) (a ++ (z ++ b)) ≡ b = ap (λ xs. drop (at + length bytes) xs) (sym (append_assoc a z b)) ∙ drop_at (a ++ z) b (at + length bytes) here in
    ap (λ xs. xs ++ (bytes ++ drop (at + length bytes) (a ++ (z ++ b)))) first ∙ ap (λ xs. a ++ (bytes ++ xs)) last

-- bytes written into the room at a place
room_written : (out front back bytes : List ℕ) (q e at : ℕ) → q ≤ at → at + length bytes ≤ e → Room out q e front back → Room (over out at bytes) (at + length bytes) e (front ++ (zeros (at - q) ++ bytes)) back
room_written out front back bytes q e at h1 h2 room =
    let k = at - q in
    let m = length bytes in
    let r = e - (at + m) in
    let split : e - q ≡ k + (m + r) = omega arith in
    let cut : zeros (e - q) ≡ zeros k ++ (zeros m ++ zeros r) =
    ap zeros split ∙ sym (replicate-append-replicate {A = ℕ} k (m + r) 0) ∙ ap (λ xs. zeros k ++ xs) (sym (replicate-append-replicate {A = ℕ} m r 0)) in
    let seams : out ≡ (front ++ zeros k) ++ (zeros m ++ (zeros r ++ back)) = room.whole ∙ ap (λ xs. front ++ (xs ++ back)) cut ∙ simp append_assoc in
    let before : length (front ++ zeros k) ≡ at = omega (arith, length-append front (zeros k), length-replicate {A = ℕ} k 0, room.place) in
    record {
      whole = ap (λ xs. over xs at bytes) seams ∙ over_seams (front ++ zeros k) (zeros m) (zeros r ++ back) bytes at before (length-replicate {A = ℕ} m 0) ∙ simp append_assoc;
      place = omega (arith, length-append front (zeros k ++ bytes), length-append (zeros k) bytes, length-replicate {A = ℕ} k 0, room.place);
    }

-- bytes put behind all
room_behind : (out front back more : List ℕ) (q e : ℕ) → Room out q e front back → Room (out ++ more) q e front (back ++ more)
room_behind out front back more q e room = record { whole = ap (λ xs. xs ++ more) room.whole ∙ simp append_assoc; place = room.place }

-- one more value in the room
filled : (front z bytes rest back more all : List ℕ) → front ++ (((z ++ bytes) ++ rest) ++ (back ++ more)) ≡ all → (front ++ (z ++ bytes)) ++ (rest ++ (back ++ more)) ≡ all
filled front z bytes rest back more all h = let e : (front ++ (z ++ bytes)) ++ (rest ++ (back ++ more)) ≡ front ++ (((z ++ bytes) ++ rest) ++ (back ++ more)) = simp append_assoc in e ∙ h

-- one more value in the room, and what it leads to behind all
filled_behind : (front z bytes rest back first more all : List ℕ) → front ++ (((z ++ bytes) ++ rest) ++ (back ++ (first ++ more))) ≡ all → (front ++ (z ++ bytes)) ++ (rest ++ ((back ++ first) ++ more)) ≡ all
filled_behind front z bytes rest back first more all h =
    let e : (front ++ (z ++ bytes)) ++ (rest ++ ((back ++ first) ++ more)) ≡ front ++ (((z ++ bytes) ++ rest) ++ (back ++ (first ++ more))) = simp append_assoc in e ∙ h

-- some slots are still to be written: their values into the room from q to e, and their children at the end
pub record SlotsLeft (s : Slots) (out : List ℕ) (q e : ℕ) (all : List ℕ) : Type 0 where
  pub front : List ℕ
  pub back : List ℕ
  pub room : Room out q e front back
  pub end : inline_end s q ≡ e
  pub bytes : front ++ (inline_values s q (length out) ++ (back ++ laid_children s (length out))) ≡ all

pub slots_begin : (s : Slots) (old out : List ℕ) (q e : ℕ) → out ≡ old ++ zeros (e - q) → length old ≡ q → inline_end s q ≡ e → length out ≡ e → SlotsLeft s out q e (old ++ (inline_values s q e ++ laid_children s e))
slots_begin s old out q e hout hq he hl = record {
  front = old;
  back = [];
  room = record { whole = hout ∙ ap (λ xs. old ++ xs) (sym (append-nil (zeros (e - q)))); place = hq };
  end = he;
  bytes = ap (λ c. old ++ (inline_values s q c ++ laid_children s c)) hl;
}

pub slots_done : (s : Slots) (out : List ℕ) (q e : ℕ) (all : List ℕ) → s ≡ no_more → SlotsLeft s out q e all → out ≡ all
slots_done s out q e all hs left' =
    let left = subst (λ (u : Slots). SlotsLeft u out q e all) hs left' in
    let none_left : e - q ≡ 0 = omega (arith, left.end) in
    left.room.whole ∙ ap (λ n. left.front ++ (zeros n ++ left.back)) none_left ∙ ap (λ xs. left.front ++ xs) (sym (append-nil left.back)) ∙ left.bytes

pub slots_inside : (v : SlotValue) (s t : Slots) (out : List ℕ) (q e : ℕ) (all : List ℕ) → t ≡ in_front v s → SlotsLeft t out q e all → e ≤ length out
slots_inside v s t out q e all ht left = room_length out left.front left.back q e (omega (arith, inline_above t q, left.end)) left.room

nothing_filled : (s : Slots) (out new : List ℕ) (q e : ℕ) (all : List ℕ) → new ≡ out → SlotsLeft (absent s) out q e all → SlotsLeft s new q e all
nothing_filled s out new q e all h left = subst (λ (xs : List ℕ). SlotsLeft s xs q e all) (sym h) (record { front = left.front; back = left.back; room = left.room; end = left.end; bytes = left.bytes })

number_filled : (w : Width) (x : ℤ) (s : Slots) (out new : List ℕ) (q e : ℕ) (all : List ℕ) → new ≡ over out (up_to (byte_len w) q) (to_le_bytes w (cast_unsigned w x)) → length new ≡ length out
    → SlotsLeft (value w x s) out q e all → SlotsLeft s new (up_to (byte_len w) q + byte_len w) e all
number_filled w x s out new q e all hnew hlen left =
    let at = up_to (byte_len w) q in
    let bytes = to_le_bytes w (cast_unsigned w x) in
    let next = at + byte_len w in
    let width : length bytes ≡ byte_len w = length-value w (cast_unsigned w x) in
    let front = left.front ++ (zeros (at - q) ++ bytes) in
    let room : Room (over out at bytes) (at + length bytes) e front left.back =
    room_written out left.front left.back bytes q e at (omega arith) (omega (arith, width, inline_above s next, left.end)) left.room in
    record {
      front = front;
      back = left.back;
      room = subst (λ (xs : List ℕ). Room xs next e front left.back) (sym hnew) (subst (λ (n : ℕ). Room (over out at bytes) n e front left.back) (ap (λ k. at + k) width) room);
      end = left.end;
      bytes = ap (λ c. front ++ (inline_values s next c ++ (left.back ++ laid_children s c))) hlen
          ∙ filled left.front (zeros (at - q)) bytes (inline_values s next (length out)) left.back (laid_children s (length out)) all left.bytes;
    }

child_filled : (n : Node) (s : Slots) (out new : List ℕ) (q e : ℕ) (all : List ℕ) → new ≡ over out (up_to 4 q) (u32 (place_of n (length out) - up_to 4 q)) ++ laid n (length out) → length new ≡ end_of n (length out)
    → SlotsLeft (child n s) out q e all → SlotsLeft s new (up_to 4 q + 4) e all
child_filled n s out new q e all hnew hlen left =
    let at = up_to 4 q in
    let c = length out in
    let bytes = u32 (place_of n c - at) in
    let next = at + 4 in
    let front = left.front ++ (zeros (at - q) ++ bytes) in
    let back = left.back ++ laid n c in
    let room : Room (over out at bytes) next e front left.back =
    room_written out left.front left.back bytes q e at (omega arith) (omega (arith, inline_above s next, left.end)) left.room in
    record {
      front = front;
      back = back;
      room = subst (λ (xs : List ℕ). Room xs next e front back) (sym hnew) (room_behind (over out at bytes) front left.back (laid n c) next e room);
      end = left.end;
      bytes = ap (λ d. front ++ (inline_values s next d ++ (back ++ laid_children s d))) hlen
          ∙ filled_behind left.front (zeros (at - q)) bytes (inline_values s next (end_of n c)) left.back (laid n c) (laid_children s (end_of n c)) all left.bytes;
    }

slot_filled_at : (v : SlotValue) (s : Slots) (out new : List ℕ) (q e : ℕ) (all : List ℕ) → new ≡ with_value v q out ++ value_laid v (length out) → length new ≡ value_end v (length out)
    → SlotsLeft (in_front v s) out q e all → SlotsLeft s new (value_next v q) e all
slot_filled_at nothing s out new q e all hnew hlen left =
    let next : value_next nothing q ≡ q = omega arith in subst (λ (n : ℕ). SlotsLeft s new n e all) (sym next) (nothing_filled s out new q e all (hnew ∙ append-nil out) left)
slot_filled_at (number w x) s out new q e all hnew hlen left = number_filled w x s out new q e all (hnew ∙ append-nil _) hlen left
slot_filled_at (leads_to n) s out new q e all hnew hlen left = child_filled n s out new q e all hnew hlen left

-- one slot more is written
pub slot_filled : (v : SlotValue) (s t : Slots) (out new : List ℕ) (q next e : ℕ) (all : List ℕ) → t ≡ in_front v s → new ≡ with_value v q out ++ value_laid v (length out) → length new ≡ value_end v (length out) → next ≡ value_next v q
    → SlotsLeft t out q e all → SlotsLeft s new next e all
slot_filled v s t out new q next e all ht hnew hlen hnext left =
    subst (λ (n : ℕ). SlotsLeft s new n e all) (sym hnext) (slot_filled_at v s out new q e all hnew hlen (subst (λ (u : Slots). SlotsLeft u out q e all) ht left))

-- some tables are still to be written: their offsets into the room from q to e, and the tables at the end
pub record NodesLeft (ns : Nodes) (out : List ℕ) (q e : ℕ) (all : List ℕ) : Type 0 where
  pub front : List ℕ
  pub back : List ℕ
  pub room : Room out q e front back
  pub end : q + 4 * node_count ns ≡ e
  pub bytes : front ++ (offsets ns q (length out) ++ (back ++ laid_nodes ns (length out))) ≡ all

pub nodes_begin : (ns : Nodes) (old out : List ℕ) (q e : ℕ) → out ≡ old ++ zeros (e - q) → length old ≡ q → q + 4 * node_count ns ≡ e → length out ≡ e → NodesLeft ns out q e (old ++ (offsets ns q e ++ laid_nodes ns e))
nodes_begin ns old out q e hout hq he hl = record {
  front = old;
  back = [];
  room = record { whole = hout ∙ ap (λ xs. old ++ xs) (sym (append-nil (zeros (e - q)))); place = hq };
  end = he;
  bytes = ap (λ c. old ++ (offsets ns q c ++ laid_nodes ns c)) hl;
}

pub nodes_done : (ns : Nodes) (out : List ℕ) (q e : ℕ) (all : List ℕ) → ns ≡ none → NodesLeft ns out q e all → out ≡ all
nodes_done ns out q e all hns left' =
    let left = subst (λ (us : Nodes). NodesLeft us out q e all) hns left' in
    let none_left : e - q ≡ 0 = omega (arith, left.end) in
    left.room.whole ∙ ap (λ n. left.front ++ (zeros n ++ left.back)) none_left ∙ ap (λ xs. left.front ++ xs) (sym (append-nil left.back)) ∙ left.bytes

pub nodes_inside : (ns : Nodes) (out : List ℕ) (q e : ℕ) (all : List ℕ) → NodesLeft ns out q e all → e ≤ length out
nodes_inside ns out q e all left = room_length out left.front left.back q e (omega (arith, left.end)) left.room

node_filled_at : (n : Node) (ns : Nodes) (out new : List ℕ) (q e : ℕ) (all : List ℕ) → new ≡ over out q (u32 (place_of n (length out) - q)) ++ laid n (length out) → length new ≡ end_of n (length out)
    → NodesLeft (also n ns) out q e all → NodesLeft ns new (q + 4) e all
node_filled_at n ns out new q e all hnew hlen left =
    let c = length out in
    let bytes = u32 (place_of n c - q) in
    let next = q + 4 in
    let rest = offsets ns next (end_of n c) in
    let more = laid_nodes ns (end_of n c) in
    let front = left.front ++ (zeros (q - q) ++ bytes) in
    let back = left.back ++ laid n c in
    let room : Room (over out q bytes) next e front left.back = room_written out left.front left.back bytes q e q (omega arith) (omega (arith, left.end)) left.room in
    let nothing_between : q - q ≡ 0 = omega arith in
    record {
      front = front;
      back = back;
      room = subst (λ (xs : List ℕ). Room xs next e front back) (sym hnew) (room_behind (over out q bytes) front left.back (laid n c) next e room);
      end = omega (arith, left.end);
      bytes = ap (λ d. front ++ (offsets ns next d ++ (back ++ laid_nodes ns d))) hlen
          ∙ filled_behind left.front (zeros (q - q)) bytes rest left.back (laid n c) more all (ap (λ k. left.front ++ (((zeros k ++ bytes) ++ rest) ++ (left.back ++ (laid n c ++ more)))) nothing_between ∙ left.bytes);
    }

-- one table more is written
pub node_filled : (n : Node) (ns ms : Nodes) (out new : List ℕ) (q e : ℕ) (all : List ℕ) → ms ≡ also n ns → new ≡ over out q (u32 (place_of n (length out) - q)) ++ laid n (length out) → length new ≡ end_of n (length out)
    → NodesLeft ms out q e all → NodesLeft ns new (q + 4) e all
node_filled n ns ms out new q e all hms hnew hlen left = node_filled_at n ns out new q e all hnew hlen (subst (λ (u : Nodes). NodesLeft u out q e all) hms left)
