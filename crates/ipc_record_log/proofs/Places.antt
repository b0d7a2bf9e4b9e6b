-- Where the bytes of a record stand among the others.
use Rattle.std.proofs.Common.{◌≡◌, ℕ, zero, suc, ◌+◌, ◌<◌, ◌≤◌, List, [], ◌∷◌, ◌++◌, length, take, drop, get_or, replicate, Option, None, Some, refl, sym, ◌∙◌, ap, subst, arith, append_assoc, length-append, take-append-drop}
use Rattle.std.specs.Prelude.{slice_get}
use Rattle.std.specs.List.{flat_map}
use Rattle.std.proofs.lemmas.List.{take_at, drop_at}
use Rattle.std.proofs.lemmas.Option.{slice_get-get_or}
use Rattle.ipc_io.specs.Outside.{PassesEnd, StandsAt}
use Rattle.ipc_record_log.specs.Records.{length_bytes, magic, open_record, records_in}
use Rattle.ipc_record_log.specs.Logs.{IsLog, spans_from}
use Rattle.ipc_record_log.specs.declared.span.Span.{Span}
use Rattle.ipc_record_log.proofs.Reading.{length-length_bytes, length-open_record}

-- what stands before a record's bytes
head : List ℕ → List ℕ
head r = 1 ∷ (replicate 7 0 ++ length_bytes (length r))

length-head : (r : List ℕ) → length (head r) ≡ 16
unfolding head
length-head r = omega (arith, length-append (replicate 7 0) (length_bytes (length r)), length-length_bytes (length r))

behind_head : (r rest : List ℕ) → open_record r ++ rest ≡ head r ++ (r ++ rest)
unfolding head
behind_head r rest =
    let z : List ℕ = replicate 7 0 in
    let le = length_bytes (length r) in
    ap (λ (l : List ℕ). 1 ∷ l) (append_assoc z (le ++ r) rest ∙ ap (λ (l : List ℕ). z ++ l) (append_assoc le r rest) ∙ sym (append_assoc z le (r ++ rest)))

-- a record stands at its span
pub record At (all : List ℕ) (end : ℕ) (r : List ℕ) (s : Span) : Type 0 where
  pub there : take s.length (drop s.at all) ≡ r
  pub long : s.length ≡ length r
  pub inside : s.at + s.length ≤ end

at_span : (pre : List ℕ) (records : List (List ℕ)) (rest : List ℕ) (at i : ℕ) (s d : Span) → length pre ≡ at → i < length records → s ≡ get_or (spans_from at records) i d
    → At (pre ++ (flat_map open_record records ++ rest)) (at + length (flat_map open_record records)) (get_or records i []) s
at_span pre [] rest at i s d is less here = absurd (omega arith)
at_span pre (r ∷ records) rest at zero s d is less here =
    let f = flat_map open_record records in
    let whole : pre ++ ((open_record r ++ f) ++ rest) ≡ (pre ++ head r) ++ (r ++ (f ++ rest)) =
    ap (λ (l : List ℕ). pre ++ l) (append_assoc (open_record r) f rest ∙ behind_head r (f ++ rest)) ∙ sym (append_assoc pre (head r) (r ++ (f ++ rest))) in
    let before : length (pre ++ head r) ≡ at + 16 = omega (arith, length-append pre (head r), length-head r, is) in
    let one : Span = record { at = at + 16; length = length r } in
    let first : At (pre ++ ((open_record r ++ f) ++ rest)) (at + length (open_record r ++ f)) r one = record {
      there = ap (λ (l : List ℕ). take (length r) (drop (at + 16) l)) whole ∙ ap (λ (l : List ℕ). take (length r) l) (drop_at (pre ++ head r) (r ++ (f ++ rest)) (at + 16) before) ∙ take_at r (f ++ rest) (length r) refl;
      long = refl;
      inside = omega (arith, length-append (open_record r) f, length-open_record r);
    } in
    subst (λ (x : Span). At (pre ++ ((open_record r ++ f) ++ rest)) (at + length (open_record r ++ f)) r x) (sym here) first
at_span pre (r ∷ records) rest at (suc i) s d is less here =
    let f = flat_map open_record records in
    let whole : pre ++ ((open_record r ++ f) ++ rest) ≡ (pre ++ open_record r) ++ (f ++ rest) =
    ap (λ (l : List ℕ). pre ++ l) (append_assoc (open_record r) f rest) ∙ sym (append_assoc pre (open_record r) (f ++ rest)) in
    let before : length (pre ++ open_record r) ≡ at + 16 + length r = omega (arith, length-append pre (open_record r), length-open_record r, is) in
    let rest_at = at_span (pre ++ open_record r) records rest (at + 16 + length r) i s d before (omega arith) here in
    record {
      there = ap (λ (l : List ℕ). take s.length (drop s.at l)) whole ∙ rest_at.there;
      long = rest_at.long;
      inside = omega (arith, rest_at.inside, length-append (open_record r) f, length-open_record r);
    }

length-spans_from : (at : ℕ) (records : List (List ℕ)) → length (spans_from at records) ≡ length records
length-spans_from at [] = refl
length-spans_from at (r ∷ records) = omega (arith, length-spans_from (at + 16 + length r) records)

module _ (b : List ℕ) (spans : List Span) (end : ℕ) (log : IsLog b spans end) (i : ℕ) (s d : Span) (less : i < length spans) (here : s ≡ get_or spans i d) where
  few : i < length (records_in b)
  few = omega (arith, ap length log.spanned, length-spans_from 8 (records_in b))

  whole : b ≡ magic ++ (flat_map open_record (records_in b) ++ drop end b)
  whole = sym (take-append-drop end b) ∙ ap (λ (l : List ℕ). l ++ drop end b) log.front ∙ append_assoc magic (flat_map open_record (records_in b)) (drop end b)

  stands_there : At (magic ++ (flat_map open_record (records_in b) ++ drop end b)) (8 + length (flat_map open_record (records_in b))) (get_or (records_in b) i []) s
  stands_there = at_span magic (records_in b) (drop end b) 8 i s d refl few (here ∙ ap (λ (l : List Span). get_or l i d) log.spanned)

  pub span_read : (out : List ℕ) → length out ≡ s.length → StandsAt (Some b) s.at out → slice_get (records_in b) i ≡ Some out
  span_read out long stands =
      slice_get-get_or (records_in b) i [] few
      ∙ ap (λ (l : List ℕ). Some l) (sym (stands.1 ∙ ap (λ (n : ℕ). take n (drop s.at b)) long ∙ ap (λ (l : List ℕ). take s.length (drop s.at l)) whole ∙ stands_there.there))

  pub span_inside : s.at + s.length ≤ length b
  span_inside = omega (arith, stands_there.inside, ap length whole, length-append magic (flat_map open_record (records_in b) ++ drop end b), length-append (flat_map open_record (records_in b)) (drop end b))

-- bytes that a read passes the end of, where those that are told have it inside, are not told
pub untold : (content : Option (List ℕ)) (at n : ℕ) → PassesEnd content at n → ((b : List ℕ) → content ≡ Some b → at + n ≤ length b) → content ≡ None
untold None at n passes inside = refl
untold (Some b) at n passes inside = let le = inside b refl in absurd (omega (arith, passes, le))
