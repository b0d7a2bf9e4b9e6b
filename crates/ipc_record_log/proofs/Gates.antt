-- What a crash leaves of a log while a record is added: behind the closed gate, and then at the gate.
use Rattle.std.proofs.Common.{◌≡◌, ◌≢◌, ℕ, ◌+◌, ◌<◌, ◌≤◌, List, [], ◌∷◌, ◌++◌, length, take, drop, get_or, All, Option, Some, None, refl, sym, ◌∙◌, ap, subst, inl, inr, arith, append_assoc, length-append, take-append-drop}
use Rattle.std.specs.List.{flat_map}
use Rattle.std.specs.Prelude.{option_map}
use Rattle.std.proofs.lemmas.Bool.{cases_eq, cases_lt}
use Rattle.std.proofs.lemmas.List.{take_at, drop_at, drop_more, take_more, get_or_at, get_or_past, flat_map_more, length-take-le}
use Rattle.std.proofs.lemmas.List.Elements.{All-push}
use Rattle.ipc_log_disk.specs.Below.{IsWithin, overwritten}
use Rattle.ipc_log_disk.specs.Crashes.{Images, IsTorn, Torn}
use Rattle.ipc_record_log.specs.Records.{magic, behind_gate, open_record, open_records, log_records, or_none, records_in, IsBeforeOrAfter}
use Rattle.ipc_record_log.specs.Logs.{IsLog, IsSettled, spans_from}
use Rattle.ipc_record_log.specs.declared.span.Span.{Span}
use Rattle.ipc_record_log.proofs.Reading.{IsShort, log_read, length-open_record}

-- a place is within bytes that may be told
pub within : (content : Option (List ℕ)) (at : ℕ) → ((b : List ℕ) → content ≡ Some b → at ≤ length b) → IsWithin content at
within None at h = tt
within (Some b) at h = h b refl

-- the same behind a change of the bytes
pub changed_within : (old new : Option (List ℕ)) (f : List ℕ → List ℕ) (at : ℕ) → new ≡ option_map f old → ((b : List ℕ) → old ≡ Some b → at ≤ length (f b)) → IsWithin new at
changed_within None new f at is h = subst (λ (o : Option (List ℕ)). IsWithin o at) (sym is) tt
changed_within (Some b) new f at is h = subst (λ (o : Option (List ℕ)). IsWithin o at) (sym is) (h b refl)

-- what is told after two changes was told before them
pub told_before : (old mid new : Option (List ℕ)) (f h : List ℕ → List ℕ) (c : List ℕ) → mid ≡ option_map f old → new ≡ option_map h mid → new ≡ Some c → (b : List ℕ) × (old ≡ Some b) × (c ≡ h (f b))
told_before None mid new f h c e1 e2 told = let e3 : option_map h mid ≡ option_map h None = ap (option_map h) e1 in cc
told_before (Some b) mid new f h c e1 e2 told = let e3 : option_map h mid ≡ Some (h (f b)) = ap (option_map h) e1 in (b, refl, cc)

-- the same of one change
pub told_once : (old new : Option (List ℕ)) (f : List ℕ → List ℕ) (c : List ℕ) → new ≡ option_map f old → new ≡ Some c → (b : List ℕ) × (old ≡ Some b) × (c ≡ f b)
told_once None new f c e told = cc
told_once (Some b) new f c e told = (b, refl, cc)

pub length_kept : (b bs : List ℕ) (at : ℕ) → at ≤ length b → at ≤ length (overwritten b at bs)
length_kept b bs at le = omega (arith, length-append (take at b) (bs ++ drop (at + length bs) b), length-take-le at b le)

-- ── a gate behind a front ──

module _ (f : List ℕ) (end : ℕ) (is : length f ≡ end) where
  before_gate : (g : ℕ) (rest : List ℕ) → take end (f ++ g ∷ rest) ≡ f
  before_gate g rest = take_at f (g ∷ rest) end is

  behind_gate_of : (g : ℕ) (rest : List ℕ) → drop (end + 1) (f ++ g ∷ rest) ≡ rest
  behind_gate_of g rest = ap (λ (l : List ℕ). drop (end + 1) l) (sym (append_assoc f (g ∷ []) rest)) ∙ drop_at (f ++ g ∷ []) rest (end + 1) (omega (arith, is, length-append f (g ∷ [])))

  -- what a crash leaves of a write at the gate
  pub torn_gate : (g : ℕ) (rest c : List ℕ) → Torn end 1 (f ++ g ∷ rest) c → c ≡ f ++ get_or c end 0 ∷ rest
  torn_gate g rest c torn =
      let long : end < length c = omega (arith, torn.no_shorter, is, length-append f (g ∷ rest)) in
      sym (take-append-drop end c)
      ∙ ap (λ (l : List ℕ). l ++ drop end c) (torn.below ∙ before_gate g rest)
      ∙ ap (λ (l : List ℕ). f ++ l) (drop_more c end 0 long ∙ ap (λ (l : List ℕ). get_or c end 0 ∷ l) (torn.behind ∙ behind_gate_of g rest))

  pub written_gate : (g h : ℕ) (rest : List ℕ) → overwritten (f ++ g ∷ rest) end (h ∷ []) ≡ f ++ h ∷ rest
  written_gate g h rest =
      ap (λ (l : List ℕ). l ++ (h ∷ drop (end + 1) (f ++ g ∷ rest))) (before_gate g rest)
      ∙ ap (λ (l : List ℕ). f ++ h ∷ l) (behind_gate_of g rest)

-- one more open record
pub grown : (records : List (List ℕ)) (r rest : List ℕ) → open_records records ++ (open_record r ++ rest) ≡ open_records (records ++ r ∷ []) ++ rest
grown records r rest = sym (append_assoc (open_records records) (open_record r) rest) ∙ ap (λ (l : List ℕ). l ++ rest) (flat_map_more open_record magic records r)

-- a whole record behind any gate counts or it does not
pub either : (records : List (List ℕ)) (r : List ℕ) (x : ℕ) (tail : List ℕ) → All IsShort records → IsShort r → IsBeforeOrAfter records r (open_records records ++ x ∷ (behind_gate r ++ 0 ∷ tail))
either records r x tail fit small = elim (cases_eq x 1) [
  | inl is ↦ inr (ap (λ (y : ℕ). log_records (open_records records ++ y ∷ (behind_gate r ++ 0 ∷ tail))) is ∙ ap log_records (grown records r (0 ∷ tail)) ∙ log_read 0 (records ++ r ∷ []) tail (All-push IsShort records r fit small) (omega arith))
  | inr shut ↦ inl (log_read x records (behind_gate r ++ 0 ∷ tail) fit shut)
]

-- ── settled ──

length-spans : (records : List (List ℕ)) → length (open_records records) ≡ 8 + length (flat_map open_record records)
length-spans records = omega (arith, length-append magic (flat_map open_record records))

pub spans_more : (at : ℕ) (records : List (List ℕ)) (r : List ℕ) (place : ℕ) → at + length (flat_map open_record records) + 16 ≡ place → spans_from at (records ++ r ∷ []) ≡ spans_from at records ++ record { at = place; length = length r } ∷ []
spans_more at [] r place is = ap (λ (n : ℕ). let x : List Span = record { at = n; length = length r } ∷ [] in x) (omega (arith, is))
spans_more at (x ∷ records) r place is =
    ap (λ (l : List Span). record { at = at + 16; length = length x } ∷ l)
    (spans_more (at + 16 + length x) records r place (omega (arith, is, length-append (open_record x) (flat_map open_record records), length-open_record x)))

-- bytes that are a log's
pub is_log : (b : List ℕ) (records : List (List ℕ)) (gate : ℕ) (tail : List ℕ) (spans : List Span) (end : ℕ)
    → b ≡ open_records records ++ gate ∷ tail → gate ≢ 1 → All IsShort records → length (open_records records) ≡ end → spans ≡ spans_from 8 records → IsLog b spans end
is_log b records gate tail spans end is shut fit ends spanned =
    let means : records_in b ≡ records = ap or_none (ap log_records is ∙ log_read gate records tail fit shut) in
    let at_end : get_or b end 1 ≡ gate = ap (λ (l : List ℕ). get_or l end 1) is ∙ get_or_at (open_records records) gate tail 1 end ends in
    record {
      front = ap (λ (l : List ℕ). take end l) is ∙ take_at (open_records records) (gate ∷ tail) end ends ∙ ap open_records (sym means);
      gate = λ one. shut (sym at_end ∙ one);
      fit = subst (λ (l : List (List ℕ)). All IsShort l) (sym means) fit;
      spanned = spanned ∙ ap (λ (l : List (List ℕ)). spans_from 8 l) (sym means);
    }

module _ (images : Images) (b : List ℕ) (spans : List Span) (end : ℕ) (s : IsSettled images b spans end) where
  pub inside : end < length b
  inside = elim (cases_lt end (length b)) [
    | inl less ↦ less
    | inr past ↦ absurd (s.log.gate (get_or_past b end 1 past))
  ]

  front : List ℕ
  front = open_records (records_in b)

  gate : ℕ
  gate = get_or b end 1

  ends : length (open_records (records_in b)) ≡ end
  ends = sym (ap length s.log.front) ∙ length-take-le end b (omega (arith, inside))

  up_to_gate : take (end + 1) b ≡ open_records (records_in b) ++ get_or b end 1 ∷ []
  up_to_gate = take_more b end 1 inside ∙ ap (λ (l : List ℕ). l ++ get_or b end 1 ∷ []) s.log.front

  -- bytes that are the same up to the gate
  pub same_front : (c : List ℕ) → take (end + 1) c ≡ take (end + 1) b → c ≡ open_records (records_in b) ++ get_or b end 1 ∷ drop (end + 1) c
  same_front c same =
      sym (take-append-drop (end + 1) c) ∙ ap (λ (l : List ℕ). l ++ drop (end + 1) c) (same ∙ up_to_gate) ∙ append_assoc (open_records (records_in b)) (get_or b end 1 ∷ []) (drop (end + 1) c)

  pub same_records : (c : List ℕ) → take (end + 1) c ≡ take (end + 1) b → log_records c ≡ Some (records_in b)
  same_records c same = ap log_records (same_front c same) ∙ log_read (get_or b end 1) (records_in b) (drop (end + 1) c) s.log.fit s.log.gate

  pub means : log_records b ≡ Some (records_in b)
  means = same_records b refl

  -- the closed gate stands in each image of a write behind it
  pub torn_behind : (n : ℕ) (c : List ℕ) → IsTorn images (end + 1) n c → log_records c ≡ Some (records_in b)
  torn_behind n c t = same_records c (t.torn.below ∙ ap (λ (l : List ℕ). take (end + 1) l) (s.only t.whole t.was))

  -- the bytes with a record behind the closed gate
  pub staged : (r : List ℕ) → overwritten b (end + 1) (behind_gate r ++ 0 ∷ []) ≡ open_records (records_in b) ++ get_or b end 1 ∷ (behind_gate r ++ 0 ∷ drop (end + 1 + length (behind_gate r ++ 0 ∷ [])) b)
  staged r =
      let tail = drop (end + 1 + length (behind_gate r ++ 0 ∷ [])) b in
      ap (λ (l : List ℕ). l ++ ((behind_gate r ++ 0 ∷ []) ++ tail)) up_to_gate
      ∙ append_assoc (open_records (records_in b)) (get_or b end 1 ∷ []) ((behind_gate r ++ 0 ∷ []) ++ tail)
      ∙ ap (λ (l : List ℕ). open_records (records_in b) ++ get_or b end 1 ∷ l) (append_assoc (behind_gate r) (0 ∷ []) tail)

  -- each image of the write at the gate
  pub torn_at : (r : List ℕ) (later : Images) → IsShort r → ((d : List ℕ) → later d → d ≡ overwritten b (end + 1) (behind_gate r ++ 0 ∷ [])) → (c : List ℕ) → IsTorn later end 1 c → IsBeforeOrAfter (records_in b) r c
  torn_at r later small only c t =
      let tail = drop (end + 1 + length (behind_gate r ++ 0 ∷ [])) b in
      let rest = behind_gate r ++ 0 ∷ tail in
      let whole : t.whole ≡ open_records (records_in b) ++ get_or b end 1 ∷ rest = only t.whole t.was ∙ staged r in
      let is : c ≡ open_records (records_in b) ++ get_or c end 0 ∷ rest =
      torn_gate (open_records (records_in b)) end ends (get_or b end 1) rest c (subst (λ (d : List ℕ). Torn end 1 d c) whole t.torn) in
      subst (λ (d : List ℕ). IsBeforeOrAfter (records_in b) r d) (sym is) (either (records_in b) r (get_or c end 0) tail s.log.fit small)

  -- the bytes with the gate open
  pub opened : (r : List ℕ) → overwritten (overwritten b (end + 1) (behind_gate r ++ 0 ∷ [])) end (1 ∷ []) ≡ open_records (records_in b ++ r ∷ []) ++ 0 ∷ drop (end + 1 + length (behind_gate r ++ 0 ∷ [])) b
  opened r =
      let tail = drop (end + 1 + length (behind_gate r ++ 0 ∷ [])) b in
      ap (λ (l : List ℕ). overwritten l end (1 ∷ [])) (staged r)
      ∙ written_gate (open_records (records_in b)) end ends (get_or b end 1) 1 (behind_gate r ++ 0 ∷ tail)
      ∙ grown (records_in b) r (0 ∷ tail)

  -- and then the log is settled with the record
  pub settled_more : (r : List ℕ) (later : Images) (c : List ℕ) (place end' : ℕ) → IsShort r → c ≡ overwritten (overwritten b (end + 1) (behind_gate r ++ 0 ∷ [])) end (1 ∷ []) → end + 16 ≡ place → end + (16 + length r) ≡ end'
      → ((d : List ℕ) → later d → d ≡ c) → IsSettled later c (spans ++ record { at = place; length = length r } ∷ []) end' × (log_records c ≡ Some (records_in b ++ r ∷ []))
  settled_more r later c place end' small is at_place at_end only =
      let tail = drop (end + 1 + length (behind_gate r ++ 0 ∷ [])) b in
      let whole : c ≡ open_records (records_in b ++ r ∷ []) ++ 0 ∷ tail = is ∙ opened r in
      let fit : All IsShort (records_in b ++ r ∷ []) = All-push IsShort (records_in b) r s.log.fit small in
      let longer : length (open_records (records_in b ++ r ∷ [])) ≡ end' =
      sym (ap length (flat_map_more open_record magic (records_in b) r)) ∙ length-append (open_records (records_in b)) (open_record r) ∙ omega (arith, ends, length-open_record r, at_end) in
      let spanned : spans ++ record { at = place; length = length r } ∷ [] ≡ spans_from 8 (records_in b ++ r ∷ []) =
      ap (λ (l : List Span). l ++ record { at = place; length = length r } ∷ []) s.log.spanned ∙ sym (spans_more 8 (records_in b) r place (omega (arith, ends, length-spans (records_in b), at_place))) in (
        record { log = is_log c (records_in b ++ r ∷ []) 0 tail (spans ++ record { at = place; length = length r } ∷ []) end' whole (omega arith) fit longer spanned; only = only },
        ap log_records whole ∙ log_read 0 (records_in b ++ r ∷ []) tail fit (omega arith),
      )
