-- What is read of records as they are written.
use Rattle.std.proofs.Common.{◌≡◌, ◌≢◌, ℕ, zero, suc, ◌+◌, ◌-◌, ◌^◌, ◌<◌, List, [], ◌∷◌, ◌++◌, length, take, drop, replicate, All, Bool, true, false, not, nat_lt, bytes_eq, ◌==◌, ◌||◌, Option, Some, None, cond, refl, sym, ◌∙◌, ap, arith, append_assoc, length-append, drop-drop}
use Rattle.std.specs.Int.{w64, from_le_bytes}
use Rattle.std.specs.List.{flat_map}
use Rattle.std.specs.Prelude.{option_map}
use Rattle.std.proofs.lemmas.Bool.{le-ltb}
use Rattle.std.proofs.lemmas.Bool.Decides.{nat_tests}
use Rattle.std.proofs.lemmas.List.{take_at, drop_at}
use Rattle.std.proofs.lemmas.List.Elements.{All-head, All-tail}
use Rattle.std.proofs.lemmas.Nat.{from_le_bytes-to_le_bytes_8}
use Rattle.std.proofs.lemmas.Slice.Eq.{bytes_eq-Decides}
use Rattle.ipc_record_log.specs.Records.{magic, length_bytes, behind_gate, open_record, open_records, record_length, with_record, records_from, log_records}

same_bytes : (xs ys : List ℕ) → xs ≡ ys → bytes_eq xs ys ≡ true
same_bytes xs ys is = (bytes_eq-Decides xs ys).1 is

-- ── one record ──

-- the parts of what stands behind a gate: zeros, a length, and bytes with more behind them
module _ (z le r rest : List ℕ) (seven : length z ≡ 7) (eight : length le ≡ 8) where
  parts : (z ++ (le ++ r)) ++ rest ≡ z ++ (le ++ (r ++ rest))
  parts = append_assoc z (le ++ r) rest ∙ ap (λ (l : List ℕ). z ++ l) (append_assoc le r rest)

  zeros_part : take 7 ((z ++ (le ++ r)) ++ rest) ≡ z
  zeros_part = ap (λ (l : List ℕ). take 7 l) parts ∙ take_at z (le ++ (r ++ rest)) 7 seven

  behind_zeros : drop 7 ((z ++ (le ++ r)) ++ rest) ≡ le ++ (r ++ rest)
  behind_zeros = ap (λ (l : List ℕ). drop 7 l) parts ∙ drop_at z (le ++ (r ++ rest)) 7 seven

  length_part : take 8 (drop 7 ((z ++ (le ++ r)) ++ rest)) ≡ le
  length_part = ap (λ (l : List ℕ). take 8 l) behind_zeros ∙ take_at le (r ++ rest) 8 eight

  behind_length : drop 15 ((z ++ (le ++ r)) ++ rest) ≡ r ++ rest
  behind_length = sym (drop-drop 8 7 ((z ++ (le ++ r)) ++ rest)) ∙ ap (λ (l : List ℕ). drop 8 l) behind_zeros ∙ drop_at le (r ++ rest) 8 eight

  bytes_part : take (length r) (drop 15 ((z ++ (le ++ r)) ++ rest)) ≡ r
  bytes_part = ap (λ (l : List ℕ). take (length r) l) behind_length ∙ take_at r rest (length r) refl

  behind_bytes : drop (15 + length r) ((z ++ (le ++ r)) ++ rest) ≡ rest
  behind_bytes = sym (drop-drop (length r) 15 ((z ++ (le ++ r)) ++ rest)) ∙ ap (λ (l : List ℕ). drop (length r) l) behind_length ∙ drop_at r rest (length r) refl

  in_all : length ((z ++ (le ++ r)) ++ rest) ≡ 15 + length r + length rest
  in_all = omega (arith, seven, eight, length-append (z ++ (le ++ r)) rest, length-append z (le ++ r), length-append le r)

  -- their length is read
  length_read : z ≡ replicate 7 0 → from_le_bytes w64 le ≡ length r → record_length ((z ++ (le ++ r)) ++ rest) ≡ Some (length r)
  unfolding record_length
  length_read are says =
      let b = (z ++ (le ++ r)) ++ rest in
      let long : nat_lt (length b) 15 ≡ false = le-ltb (length b) 15 (omega (arith, in_all)) in
      let zero_bytes : bytes_eq (take 7 b) (replicate 7 0) ≡ true = same_bytes _ _ (zeros_part ∙ are) in
      let n_is : from_le_bytes w64 (take 8 (drop 7 b)) ≡ length r = ap (λ (l : List ℕ). from_le_bytes w64 l) length_part ∙ says in
      let short : nat_lt (length b - 15) (from_le_bytes w64 (take 8 (drop 7 b))) ≡ false = le-ltb _ _ (omega (arith, in_all, n_is)) in
      ap (λ (x : Bool). cond (x || (not (bytes_eq (take 7 b) (replicate 7 0)) || nat_lt (length b - 15) (from_le_bytes w64 (take 8 (drop 7 b))))) None (Some (from_le_bytes w64 (take 8 (drop 7 b))))) long
      ∙ ap (λ (x : Bool). cond (not x || nat_lt (length b - 15) (from_le_bytes w64 (take 8 (drop 7 b)))) None (Some (from_le_bytes w64 (take 8 (drop 7 b))))) zero_bytes
      ∙ ap (λ (x : Bool). cond x None (Some (from_le_bytes w64 (take 8 (drop 7 b))))) short
      ∙ ap (λ (n : ℕ). Some n) n_is

pub length-length_bytes : (n : ℕ) → length (length_bytes n) ≡ 8
unfolding length_bytes
length-length_bytes n = refl

bytes-length_bytes : (n : ℕ) → n < 2 ^ 64 → from_le_bytes w64 (length_bytes n) ≡ n
unfolding length_bytes
bytes-length_bytes n small = from_le_bytes-to_le_bytes_8 n small

pub length-behind_gate : (r : List ℕ) → length (behind_gate r) ≡ 15 + length r
length-behind_gate r = omega (arith, length-length_bytes (length r), length-append (length_bytes (length r)) r, length-append (replicate 7 0) (length_bytes (length r) ++ r))

-- an open record is the first of those that are read
pub open_read : (most : ℕ) (r rest : List ℕ) → length r < 2 ^ 64 → records_from (suc most) (open_record r ++ rest) ≡ option_map (λ records. r ∷ records) (records_from most rest)
open_read most r rest small =
    let z : List ℕ = replicate 7 0 in
    let le = length_bytes (length r) in
    let eight = length-length_bytes (length r) in
    let b = behind_gate r ++ rest in
    let read : record_length b ≡ Some (length r) = length_read z le r rest refl eight refl (bytes-length_bytes (length r) small) in
    let first : take (length r) (drop 15 b) ≡ r = bytes_part z le r rest refl eight in
    let behind : drop (15 + length r) b ≡ rest = behind_bytes z le r rest refl eight in
    ap (λ (o : Option ℕ). with_record b o (λ n. records_from most (drop (15 + n) b))) read
    ∙ ap (λ (x : List ℕ). option_map (λ records. x ∷ records) (records_from most (drop (15 + length r) b))) first
    ∙ ap (λ (l : List ℕ). option_map (λ records. r ∷ records) (records_from most l)) behind

shut_gate : {A : Type 0} (gate : ℕ) (x y : A) → gate ≢ 1 → cond (gate == 1) x y ≡ y
shut_gate gate x y shut = grind (arith, nat_tests)

-- a closed gate ends them, whatever stands behind it
pub closed_read : (most gate : ℕ) (rest : List ℕ) → gate ≢ 1 → records_from (suc most) (gate ∷ rest) ≡ Some []
closed_read most gate rest shut = shut_gate gate _ _ shut

-- ── all of them ──

-- a length that has eight bytes
abbrev pub IsShort : List ℕ → Type 0
IsShort r = length r < 2 ^ 64

pub length-open_record : (r : List ℕ) → length (open_record r) ≡ 16 + length r
length-open_record r = omega (arith, length-behind_gate r)

-- open records, and then a gate that is closed
pub records_read : (most gate : ℕ) (records : List (List ℕ)) (rest : List ℕ) → All IsShort records → gate ≢ 1 → length (flat_map open_record records) < most
    → records_from most (flat_map open_record records ++ gate ∷ rest) ≡ Some records
records_read zero gate records rest fit shut enough = absurd (omega arith)
records_read (suc most) gate [] rest fit shut enough = closed_read most gate rest shut
records_read (suc most) gate (r ∷ records) rest fit shut enough =
    let behind : length (flat_map open_record records) < most = omega (arith, length-append (open_record r) (flat_map open_record records), length-open_record r) in
    ap (records_from (suc most)) (append_assoc (open_record r) (flat_map open_record records) (gate ∷ rest))
    ∙ open_read most r (flat_map open_record records ++ gate ∷ rest) (All-head IsShort r records fit)
    ∙ ap (option_map (λ others. r ∷ others)) (records_read most gate records rest (All-tail IsShort r records fit) shut behind)

-- a log's bytes, whatever stands behind the closed gate
pub log_read : (gate : ℕ) (records : List (List ℕ)) (rest : List ℕ) → All IsShort records → gate ≢ 1 → log_records (open_records records ++ gate ∷ rest) ≡ Some records
unfolding log_records
log_read gate records rest fit shut =
    let b = open_records records ++ gate ∷ rest in
    let regrouped : b ≡ magic ++ (flat_map open_record records ++ gate ∷ rest) = append_assoc magic (flat_map open_record records) (gate ∷ rest) in
    let enough : length (flat_map open_record records) < length b = omega (arith, length-append (open_records records) (gate ∷ rest), length-append magic (flat_map open_record records)) in
    ap (λ (l : List ℕ). cond (bytes_eq (take 8 l) magic) (records_from (length b) (drop 8 l)) None) regrouped
    ∙ records_read (length b) gate records rest fit shut enough
