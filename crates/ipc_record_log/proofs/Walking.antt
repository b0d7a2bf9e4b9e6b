-- The records that are read one after another.
use Rattle.std.proofs.Common.{◌≡◌, ◌≢◌, ℕ, zero, suc, ◌+◌, ◌-◌, ◌^◌, ◌<◌, ◌≤◌, List, [], ◌∷◌, ◌++◌, length, take, drop, get_or, replicate, All, Bool, true, false, not, nat_lt, bytes_eq, ◌||◌, cond, Option, Some, None, refl, sym, ◌∙◌, ap, subst, arith, append_assoc, length-append, drop-drop, take-append-drop, length-take, append-nil}
use Rattle.std.specs.Int.{w64, from_le_bytes}
use Rattle.std.specs.List.{flat_map}
use Rattle.std.specs.Prelude.{option_map}
use Rattle.std.proofs.Math.Seq.{take-add}
use Rattle.std.proofs.lemmas.Bool.{lt-ltb}
use Rattle.std.proofs.lemmas.List.{drop_all, drop_more, flat_map_more, length-take-le, length-drop, get_or-take, get_or-drop}
use Rattle.std.proofs.lemmas.List.Elements.{All-nil, All-head, All-tail, All-push}
use Rattle.std.proofs.lemmas.Nat.{le_bytes_8}
use Rattle.std.proofs.lemmas.Slice.Eq.{bytes_eq-Decides}
use Rattle.ipc_io.specs.Outside.{IsSize, StandsAt}
use Rattle.ipc_log_disk.specs.Below.{overwritten}
use Rattle.ipc_record_log.specs.Records.{magic, length_bytes, open_record, open_records, record_length, with_record, records_from, log_records}
use Rattle.ipc_record_log.specs.Logs.{IsLog, spans_from}
use Rattle.ipc_record_log.specs.declared.span.Span.{Span}
use Rattle.ipc_record_log.proofs.Gates.{is_log, spans_more}
use Rattle.ipc_record_log.proofs.Reading.{IsShort, open_read, length-open_record}

-- ── what is told ──

pub size_is : (content : Option (List ℕ)) (n : ℕ) (b : List ℕ) → IsSize content n → content ≡ Some b → n ≡ length b
size_is content n b h told = subst (λ (o : Option (List ℕ)). IsSize o n) told h

pub stands : (content : Option (List ℕ)) (at : ℕ) (out b : List ℕ) → StandsAt content at out → content ≡ Some b → (at + length out ≤ length b) × (out ≡ take (length out) (drop at b))
stands content at out b h told = subst (λ (o : Option (List ℕ)). StandsAt o at out) told h

-- bytes that are written where there are none
pub written_first : (b w : List ℕ) → 0 ≡ length b → overwritten b 0 w ≡ w
written_first b w none = ap (λ (l : List ℕ). w ++ l) (drop_all (0 + length w) b (omega arith)) ∙ append-nil w

pub length-first : (r : List ℕ) → length (open_records (r ∷ []) ++ 0 ∷ []) ≡ 25 + length r
length-first r = omega (arith, length-append (open_records (r ∷ [])) (0 ∷ []), length-append magic (open_record r ++ []), length-append (open_record r) [], length-open_record r)

-- ── what is broken ──

not_true : {P : Type 0} (x : Bool) → (x ≡ true → P) → (P → ⊥) → x ≡ false
not_true true h never = absurd (never (h refl))
not_true false h never = refl

pub no_magic : (b : List ℕ) → (take 8 b ≡ magic → ⊥) → log_records b ≡ None
unfolding log_records
no_magic b never = ap (λ (x : Bool). cond x (records_from (length b) (drop 8 b)) None) (not_true (bytes_eq (take 8 b) magic) ((bytes_eq-Decides (take 8 b) magic).0) never)

pub too_few : (b : List ℕ) → length b < 8 → log_records b ≡ None
too_few b few = no_magic b (λ is. omega (arith, ap length is, length-take 8 b))

none_by_first : (x y : Bool) (o : Option ℕ) → x ≡ true → cond (x || y) None o ≡ None
none_by_first x y o is = ap (λ (z : Bool). cond (z || y) None o) is

none_by_second : (x y z : Bool) (o : Option ℕ) → y ≡ false → cond (x || (not y || z)) None o ≡ None
none_by_second true y z o is = refl
none_by_second false y z o is = ap (λ (w : Bool). cond (not w || z) None o) is

none_by_third : (x y z : Bool) (o : Option ℕ) → z ≡ true → cond (x || (y || z)) None o ≡ None
none_by_third true y z o is = refl
none_by_third false true z o is = refl
none_by_third false false z o is = ap (λ (w : Bool). cond w None o) is

pub short_head : (b : List ℕ) → length b < 15 → record_length b ≡ None
unfolding record_length
short_head b short = none_by_first _ _ _ (lt-ltb (length b) 15 short)

pub other_zeros : (b : List ℕ) → (take 7 b ≡ replicate 7 0 → ⊥) → record_length b ≡ None
unfolding record_length
other_zeros b never = none_by_second (nat_lt (length b) 15) _ _ _ (not_true (bytes_eq (take 7 b) (replicate 7 0)) ((bytes_eq-Decides (take 7 b) (replicate 7 0)).0) never)

pub too_long : (b : List ℕ) → length b - 15 < from_le_bytes w64 (take 8 (drop 7 b)) → record_length b ≡ None
unfolding record_length
too_long b long = none_by_third (nat_lt (length b) 15) (not (bytes_eq (take 7 b) (replicate 7 0))) _ _ (lt-ltb _ _ long)

-- an open gate with no whole record behind it
pub broken : (b : List ℕ) (at : ℕ) → at < length b → get_or b at 0 ≡ 1 → record_length (drop (at + 1) b) ≡ None → (most : ℕ) → records_from (suc most) (drop at b) ≡ None
broken b at less is none most =
    ap (records_from (suc most)) (drop_more b at 0 less)
    ∙ ap (λ (gate : ℕ). records_from (suc most) (gate ∷ drop (at + 1) b)) is
    ∙ ap (λ (o : Option ℕ). with_record (drop (at + 1) b) o (λ n. records_from most (drop (15 + n) (drop (at + 1) b)))) none

-- no gate
pub ended : (b : List ℕ) (at : ℕ) → length b ≤ at → (most : ℕ) → records_from (suc most) (drop at b) ≡ None
ended b at past most = ap (records_from (suc most)) (drop_all at b past)

broken_read : (most : ℕ) (records : List (List ℕ)) (rest : List ℕ) → All IsShort records → ((k : ℕ) → records_from (suc k) rest ≡ None) → records_from most (flat_map open_record records ++ rest) ≡ None
broken_read zero records rest fit none = refl
broken_read (suc most) [] rest fit none = none most
broken_read (suc most) (r ∷ records) rest fit none =
    ap (records_from (suc most)) (append_assoc (open_record r) (flat_map open_record records) rest)
    ∙ open_read most r (flat_map open_record records ++ rest) (All-head IsShort r records fit)
    ∙ ap (option_map (λ others. r ∷ others)) (broken_read most records rest (All-tail IsShort r records fit) none)

pub log_broken : (b : List ℕ) (records : List (List ℕ)) (at : ℕ) → take at b ≡ open_records records → All IsShort records → ((k : ℕ) → records_from (suc k) (drop at b) ≡ None) → log_records b ≡ None
unfolding log_records
log_broken b records at front fit none =
    let whole : b ≡ magic ++ (flat_map open_record records ++ drop at b) = sym (take-append-drop at b) ∙ ap (λ (l : List ℕ). l ++ drop at b) front ∙ append_assoc magic (flat_map open_record records) (drop at b) in
    ap (λ (l : List ℕ). cond (bytes_eq (take 8 l) magic) (records_from (length b) (drop 8 l)) None) whole
    ∙ broken_read (length b) records (drop at b) fit none

-- ── what is whole ──

pub eight_bytes : (le : List ℕ) (n : ℕ) → length le ≡ 8 → ((i : ℕ) → get_or le i 0 < 256) → n ≡ from_le_bytes w64 le → length_bytes n ≡ le
unfolding length_bytes
eight_bytes le n eight small is = le_bytes_8 le n eight small is

-- one byte that is read
pub byte_read : (b out : List ℕ) (at : ℕ) → out ≡ take (length out) (drop at b) → length out ≡ 1 → get_or out 0 0 ≡ get_or b at 0
byte_read b out at is one =
    ap (λ (l : List ℕ). get_or l 0 0) (is ∙ ap (λ (n : ℕ). take n (drop at b)) one) ∙ get_or-take 1 (drop at b) 0 0 (omega arith) ∙ get_or-drop at b 0 0 ∙ ap (λ (n : ℕ). get_or b n 0) (omega arith)

pub only_byte : (out : List ℕ) (x : ℕ) → length out ≡ 1 → get_or out 0 0 ≡ x → out ≡ x ∷ []
only_byte [] x one is = absurd (omega arith)
only_byte (y ∷ []) x one is = ap (λ (z : ℕ). z ∷ []) is
only_byte (y ∷ z ∷ out) x one is = absurd (omega arith)

pub was_equal : (xs ys : List ℕ) (r : Bool) → r ≡ not (bytes_eq xs ys) → r ≡ false → xs ≡ ys
was_equal xs ys r is shut = (bytes_eq-Decides xs ys).0 (not_not (bytes_eq xs ys) (sym is ∙ shut))
  where
    not_not : (x : Bool) → not x ≡ false → x ≡ true
    not_not true e = refl
    not_not false e = sym e

pub not_equal : (xs ys : List ℕ) (r : Bool) → r ≡ not (bytes_eq xs ys) → r ≡ true → xs ≡ ys → ⊥
not_equal xs ys r is differ same = let bad : true ≡ false = sym differ ∙ is ∙ ap not ((bytes_eq-Decides xs ys).1 same) in cc

-- the pieces of an open record, each read by itself
pub whole_record : (b gate z le : List ℕ) (at n : ℕ) → gate ≡ take 1 (drop at b) → gate ≡ 1 ∷ [] → z ≡ take 7 (drop (at + 1) b) → z ≡ replicate 7 0 → le ≡ take 8 (drop (at + 8) b) → length_bytes n ≡ le
    → at + (16 + n) ≤ length b → take (16 + n) (drop at b) ≡ open_record (take n (drop (at + 16) b))
whole_record b gate z le at n gate_is one z_is zeros le_is n_is inside =
    let r = take n (drop (at + 16) b) in
    let one_on : drop 1 (drop at b) ≡ drop (at + 1) b = drop-drop 1 at b in
    let eight_on : drop 7 (drop 1 (drop at b)) ≡ drop (at + 8) b = ap (λ (l : List ℕ). drop 7 l) one_on ∙ drop-drop 7 (at + 1) b ∙ ap (λ (k : ℕ). drop k b) (omega arith) in
    let all_on : drop 8 (drop 7 (drop 1 (drop at b))) ≡ drop (at + 16) b = ap (λ (l : List ℕ). drop 8 l) eight_on ∙ drop-drop 8 (at + 8) b ∙ ap (λ (k : ℕ). drop k b) (omega arith) in
    let long : length r ≡ n = length-take-le n (drop (at + 16) b) (omega (arith, length-drop (at + 16) b)) in
    let first : take 1 (drop at b) ≡ 1 ∷ [] = sym gate_is ∙ one in
    let second : take 7 (drop 1 (drop at b)) ≡ replicate 7 0 = ap (λ (l : List ℕ). take 7 l) one_on ∙ sym z_is ∙ zeros in
    let third : take 8 (drop 7 (drop 1 (drop at b))) ≡ length_bytes (length r) = ap (λ (l : List ℕ). take 8 l) eight_on ∙ sym le_is ∙ sym n_is ∙ ap length_bytes (sym long) in
    ap (λ (k : ℕ). take k (drop at b)) (omega arith)
    ∙ take-add 1 (7 + (8 + n)) (drop at b)
    ∙ ap (λ (l : List ℕ). l ++ take (7 + (8 + n)) (drop 1 (drop at b))) first
    ∙ ap (λ (l : List ℕ). 1 ∷ l)
    (take-add 7 (8 + n) (drop 1 (drop at b))
    ∙ ap (λ (l : List ℕ). l ++ take (8 + n) (drop 7 (drop 1 (drop at b)))) second
    ∙ ap (λ (l : List ℕ). replicate 7 0 ++ l)
    (take-add 8 n (drop 7 (drop 1 (drop at b)))
    ∙ ap (λ (l : List ℕ). l ++ take n (drop 8 (drop 7 (drop 1 (drop at b))))) third
    ∙ ap (λ (l : List ℕ). length_bytes (length r) ++ take n l) all_on))

-- the records of b before a place, with their spans
pub record SoFar (b : List ℕ) (spans : List Span) (at : ℕ) : Type 0 where
  pub records : List (List ℕ)
  pub front : take at b ≡ open_records records
  pub fit : All IsShort records
  pub spanned : spans ≡ spans_from 8 records
  pub ends : length (open_records records) ≡ at

pub none_so_far : (b : List ℕ) → take 8 b ≡ magic → SoFar b [] 8
none_so_far b front = record { records = []; front = front; fit = search_nil; spanned = refl; ends = refl }
  where
    search_nil : All IsShort []
    search_nil = All-nil IsShort

pub one_more : (b : List ℕ) (spans spans' : List Span) (at n end : ℕ) → SoFar b spans at → n < 2 ^ 64 → at + (16 + n) ≤ length b → take (16 + n) (drop at b) ≡ open_record (take n (drop (at + 16) b)) → spans' ≡ spans ++ record { at = at + 16; length = n } ∷ [] → end ≡ at + (16 + n) → SoFar b spans' end
one_more b spans spans' at n end s small inside whole more at_end =
    let r = take n (drop (at + 16) b) in
    let long : length r ≡ n = length-take-le n (drop (at + 16) b) (omega (arith, length-drop (at + 16) b)) in
    record {
      records = s.records ++ r ∷ [];
      front = ap (λ (k : ℕ). take k b) at_end ∙ take-add at (16 + n) b ∙ ap (λ (l : List ℕ). l ++ take (16 + n) (drop at b)) s.front ∙ ap (λ (l : List ℕ). open_records s.records ++ l) whole ∙ flat_map_more open_record magic s.records r;
      fit = All-push IsShort s.records r s.fit (omega (arith, long, small));
      spanned = more ∙ ap (λ (k : ℕ). spans ++ record { at = at + 16; length = k } ∷ []) (sym long) ∙ ap (λ (l : List Span). l ++ record { at = at + 16; length = length r } ∷ []) s.spanned
          ∙ sym (spans_more 8 s.records r (at + 16) (omega (arith, s.ends, length-append magic (flat_map open_record s.records))));
      ends = sym (ap length (flat_map_more open_record magic s.records r)) ∙ length-append (open_records s.records) (open_record r) ∙ omega (arith, s.ends, length-open_record r, long, at_end);
    }

-- behind the last of them stands a closed gate
pub walked : (b : List ℕ) (spans : List Span) (at : ℕ) → SoFar b spans at → at < length b → get_or b at 1 ≢ 1 → IsLog b spans at
walked b spans at s less shut =
    let whole : b ≡ open_records s.records ++ get_or b at 1 ∷ drop (at + 1) b = sym (take-append-drop at b) ∙ ap (λ (l : List ℕ). l ++ drop at b) s.front ∙ ap (λ (l : List ℕ). open_records s.records ++ l) (drop_more b at 1 less) in
    is_log b s.records (get_or b at 1) (drop (at + 1) b) spans at whole shut s.fit s.ends s.spanned
