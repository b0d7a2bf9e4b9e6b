-- The histories of a file's dictionary messages: how they grow, and which parts of them are still to be sent.
use Rattle.std.proofs.Common.{◌≡◌, ℕ, ◌+◌, ◌-◌, List, [], ◌∷◌, ◌++◌, length, Option, Some, None, refl, sym, ap, subst, ◌∙◌, arith, true, false, Bool, not, ℤ, pos, negsuc, append_assoc, append-nil, length-append}
use Rattle.std.specs.Prelude.{nat_le, cond}
use Rattle.std.specs.List.{AllByRecursion, flat_map}
use Rattle.std.proofs.lemmas.Bool.{cond_both, eqb-true, le-leb, leb-true}
use Rattle.std.proofs.lemmas.List.{nil_from_length}
use Rattle.std.proofs.lemmas.List.Concat.{flat_map-append}
use Rattle.arrow_spec.specs.Kinds.{same}
use Rattle.arrow_spec.specs.Cells.{Cell}
use Rattle.arrow_spec.specs.Arrays.{Dictionaries, HeldDictionary, cells_before, found}
use Rattle.arrow_spec.specs.Readings.{is_absent}
use Rattle.laws_transcode.specs.Sending.{NoneReplaced, cells_or_none, histories, histories_before, histories_beyond, histories_to_send, holding, or_never_read, part_cells, read_under, sendable}

-- ── one history behind another ──

-- the messages of a history are the first of another's
pub record IsBehind (e d : Dictionaries) : Type 0 where
  pub front : Dictionaries
  pub whole : d ≡ front ++ e

pub behind_itself : (d : Dictionaries) → IsBehind d d
behind_itself d = record { front = []; whole = refl }

behind_one : (x : HeldDictionary) (d : Dictionaries) → IsBehind d (x ∷ d)
behind_one x d = record { front = x ∷ []; whole = refl }

none_behind : (d : Dictionaries) → IsBehind [] d
none_behind d = record { front = d; whole = sym (append-nil d) }

pub behind_both : (e d c : Dictionaries) → IsBehind e d → IsBehind d c → IsBehind e c
behind_both e d c h g = record { front = g.front ++ h.front; whole = g.whole ∙ ap (λ l. g.front ++ l) h.whole ∙ sym (append_assoc g.front h.front e) }

-- a visit under a history, or none, precedes another
abbrev pub Precedes : Option Dictionaries → Option Dictionaries → Type 0
Precedes None o = Unit {0}
Precedes (Some e) None = ⊥
Precedes (Some e) (Some d) = IsBehind e d

pub precedes_itself : (o : Option Dictionaries) → Precedes o o
precedes_itself None = tt
precedes_itself (Some d) = behind_itself d

pub precedes_both : (a b c : Option Dictionaries) → Precedes a b → Precedes b c → Precedes a c
precedes_both None b c h g = tt
precedes_both (Some e) None c h g = absurd h
precedes_both (Some e) (Some d) None h g = absurd g
precedes_both (Some e) (Some d) (Some c) h g = behind_both e d c h g

-- behind a visit, parts that were each read under a history behind the next one's, and all under one
abbrev pub Ascend : Option Dictionaries → List Dictionaries → Dictionaries → Type 0
Ascend o [] d = Precedes o (Some d)
Ascend o (h ∷ hs) d = Precedes o (Some (read_under h)) × Ascend (Some (read_under h)) hs d

ascend_more : (o : Option Dictionaries) (hs : List Dictionaries) (x : HeldDictionary) (d : Dictionaries) → Ascend o hs d → Ascend o hs (x ∷ d)
ascend_more o [] x d a = precedes_both o (Some d) (Some (x ∷ d)) a (behind_one x d)
ascend_more o (h ∷ hs) x d a = (a.0, ascend_more (Some (read_under h)) hs x d a.1)

ascend_last : (o : Option Dictionaries) (hs : List Dictionaries) (x : HeldDictionary) (d : Dictionaries) → Ascend o hs d → Ascend o (hs ++ (x ∷ d) ∷ []) (x ∷ d)
ascend_last o [] x d a = (a, behind_one x d)
ascend_last o (h ∷ hs) x d a = (a.0, ascend_last (Some (read_under h)) hs x d a.1)

ascend_from : (o p : Option Dictionaries) (hs : List Dictionaries) (d : Dictionaries) → Precedes o p → Ascend p hs d → Ascend o hs d
ascend_from o p [] d h a = precedes_both o p (Some d) h a
ascend_from o p (g ∷ hs) d h a = (precedes_both o p (Some (read_under g)) h a.0, a.1)

pub ascend_within : (e : Dictionaries) (hs : List Dictionaries) (d : Dictionaries) → Ascend (Some e) hs d → IsBehind e d
ascend_within e [] d a = a
ascend_within e (h ∷ hs) d a = behind_both e (read_under h) d a.0 (ascend_within (read_under h) hs d a.1)

-- ── histories grow ──

pub same_true : (x y : ℤ) → same x y ≡ true → x ≡ y
same_true (pos a) (pos b) h = ap pos (eqb-true a b h)
same_true (negsuc a) (negsuc b) h = ap negsuc (eqb-true a b h)
same_true (pos a) (negsuc b) h = cc
same_true (negsuc a) (pos b) h = cc

none_found : (d : Dictionaries) (id : ℤ) → found d id ≡ None → histories d id ≡ []
none_found [] id h = refl
none_found (x ∷ d) id h = by (same x.id id) (none_found d id) h
  where
    by : (b : Bool) → (found d id ≡ None → histories d id ≡ []) → cond b (Some (cells_before x.is_delta (found d id) ++ x.cells)) (found d id) ≡ None
        → cond b (histories_before x.is_delta (histories d id) ++ (x ∷ d) ∷ []) (histories d id) ≡ []
    by true rest e = cc
    by false rest e = rest e

pub none_lost : (x : HeldDictionary) (d : Dictionaries) (id : ℤ) → NoneReplaced (x ∷ d) → same x.id id ≡ true → histories_before x.is_delta (histories d id) ≡ histories d id
none_lost x d id w s = by x.is_delta w.0
  where
    by : (b : Bool) → (b ≡ false → found d x.id ≡ None) → histories_before b (histories d id) ≡ histories d id
    by true h = refl
    by false h = sym (none_found d id (subst (λ z. found d z ≡ None) (same_true x.id id s) (h refl)))

-- the parts of an id under a history are the first of those under a longer one
pub record Grown (e d : Dictionaries) (id : ℤ) : Type 0 where
  pub more : List Dictionaries
  pub whole : histories d id ≡ histories e id ++ more
  pub ascend : Ascend (Some e) more d

grown_one : (x : HeldDictionary) (e d : Dictionaries) (id : ℤ) → NoneReplaced (x ∷ d) → Grown e d id → Grown e (x ∷ d) id
grown_one x e d id w g = by (same x.id id) refl
  where
    by : (b : Bool) → same x.id id ≡ b → Grown e (x ∷ d) id
    by true s = record {
      more = g.more ++ (x ∷ d) ∷ [];
      whole = rw s (ap (λ hs. hs ++ (x ∷ d) ∷ []) (none_lost x d id w s ∙ g.whole) ∙ append_assoc (histories e id) g.more ((x ∷ d) ∷ []));
      ascend = ascend_last (Some e) g.more x d g.ascend;
    }
    by false s = record { more = g.more; whole = rw s g.whole; ascend = ascend_more (Some e) g.more x d g.ascend }

grown_by : (front e : Dictionaries) (id : ℤ) → NoneReplaced (front ++ e) → Grown e (front ++ e) id × NoneReplaced e
grown_by [] e id w = (record { more = []; whole = sym (append-nil (histories e id)); ascend = behind_itself e }, w)
grown_by (x ∷ front) e id w = let rest = grown_by front e id w.1 in (grown_one x e (front ++ e) id w rest.0, rest.1)

pub grown : (e d : Dictionaries) (id : ℤ) → IsBehind e d → NoneReplaced d → Grown e d id
grown e d id h w = subst (λ c. Grown e c id) (sym h.whole) (grown_by h.front e id (subst NoneReplaced h.whole w)).0

pub none_replaced : (e d : Dictionaries) → IsBehind e d → NoneReplaced d → NoneReplaced e
none_replaced e d h w = (grown_by h.front e (pos 0) (subst NoneReplaced h.whole w)).1

holding_first : (P : Dictionaries → Type 0) (hs more : List Dictionaries) → AllByRecursion P (holding (hs ++ more)) → AllByRecursion P (holding hs)
holding_first P [] more a = tt
holding_first P (h ∷ hs) more a = by (nat_le (length (part_cells h)) 0) (holding_first P hs more) a
  where
    by : (b : Bool) → (AllByRecursion P (holding (hs ++ more)) → AllByRecursion P (holding hs))
        → AllByRecursion P (cond b (holding (hs ++ more)) (h ∷ holding (hs ++ more))) → AllByRecursion P (cond b (holding hs) (h ∷ holding hs))
    by true rest c = rest c
    by false rest c = (c.0, rest c.1)

sendable_first : (P : Dictionaries → Type 0) (hs more : List Dictionaries) → AllByRecursion P (sendable (hs ++ more)) → AllByRecursion P (sendable hs)
sendable_first P [] more a = tt
sendable_first P (h ∷ hs) more a = (a.0, holding_first P hs more a.1)

sendable_never : (P : Dictionaries → Type 0) (hs : List Dictionaries) → AllByRecursion P ([] ∷ sendable hs) → AllByRecursion P (sendable (or_never_read hs))
sendable_never P [] a = a
sendable_never P (h ∷ hs) a = a.1

-- ── cells ──

abbrev pub cells_in : List Dictionaries → List Cell
cells_in hs = flat_map part_cells hs

pub found_cells : (d : Dictionaries) (id : ℤ) → cells_or_none (found d id) ≡ cells_in (histories d id)
found_cells [] id = refl
found_cells (x ∷ d) id = by (same x.id id) x.is_delta (found_cells d id)
  where
    before : (b : Bool) (o : Option (List Cell)) → cells_or_none o ≡ cells_in (histories d id) → cells_before b o ≡ cells_in (histories_before b (histories d id))
    before true None h = h
    before true (Some cells) h = h
    before false o h = refl

    by : (b c : Bool) → cells_or_none (found d id) ≡ cells_in (histories d id)
        → cells_or_none (cond b (Some (cells_before c (found d id) ++ x.cells)) (found d id)) ≡ cells_in (cond b (histories_before c (histories d id) ++ (x ∷ d) ∷ []) (histories d id))
    by true c rest =
        let last : cells_in ((x ∷ d) ∷ []) ≡ x.cells = append-nil x.cells in
        rw (flat_map-append part_cells (histories_before c (histories d id)) ((x ∷ d) ∷ []), last, before c (found d id) rest) refl
    by false c rest = rest

-- ── what is still to be sent ──

all_holding : (P : Dictionaries → Type 0) (hs : List Dictionaries) → AllByRecursion P (sendable hs) → AllByRecursion P (holding hs)
all_holding P [] a = tt
all_holding P (h ∷ hs) a = cond_both (nat_le (length (part_cells h)) 0) (holding hs) (h ∷ holding hs) (λ l. AllByRecursion P l) (λ e. a.1) (λ e. a)

all_beyond : (P : Dictionaries → Type 0) (n : ℕ) (hs : List Dictionaries) → AllByRecursion P (holding hs) → AllByRecursion P (histories_beyond n hs)
all_beyond P n [] a = tt
all_beyond P n (h ∷ hs) a = by (nat_le (length (part_cells h)) 0) refl a (λ m. all_beyond P m hs)
  where
    test : (b : Bool) → (b ≡ false → P h) → ((m : ℕ) → AllByRecursion P (histories_beyond m hs))
        → AllByRecursion P (cond b (histories_beyond (n - length (part_cells h)) hs) (h ∷ histories_beyond 0 hs))
    test true p rest = rest (n - length (part_cells h))
    test false p rest = (p refl, rest 0)

    by : (b : Bool) → nat_le (length (part_cells h)) 0 ≡ b → AllByRecursion P (cond b (holding hs) (h ∷ holding hs))
        → ((m : ℕ) → AllByRecursion P (holding hs) → AllByRecursion P (histories_beyond m hs)) → AllByRecursion P (histories_beyond n (h ∷ hs))
    by true e c rest =
        let small : nat_le (length (part_cells h)) n ≡ true = le-leb _ _ (omega (arith, leb-true (length (part_cells h)) 0 e)) in
        test (nat_le (length (part_cells h)) n) (λ no. cc) (λ m. rest m c)
    by false e c rest = test (nat_le (length (part_cells h)) n) (λ no. c.0) (λ m. rest m c.1)

all_to_send : (P : Dictionaries → Type 0) (sent : Option ℕ) (hs : List Dictionaries) → AllByRecursion P (sendable hs) → AllByRecursion P (histories_to_send sent hs)
all_to_send P None [] a = tt
all_to_send P None (h ∷ hs) a = (a.0, all_beyond P 0 hs a.1)
all_to_send P (Some n) hs a = all_beyond P n hs (all_holding P hs a)

-- the parts that are to be sent are some of those of a longer history that may be, or the empty one
pub all_parts : (P : Dictionaries → Type 0) (sent : Option ℕ) (d c : Dictionaries) (id : ℤ) → IsBehind d c → NoneReplaced c → AllByRecursion P ([] ∷ sendable (histories c id))
    → AllByRecursion P (histories_to_send sent (or_never_read (histories d id)))
all_parts P sent d c id h w a =
    let g = grown d c id h w in
    all_to_send P sent _ (sendable_never P (histories d id) (a.0, sendable_first P (histories d id) g.more (subst (λ hs. AllByRecursion P (sendable hs)) g.whole a.1)))

ascend_beyond : (o : Option Dictionaries) (n : ℕ) (hs : List Dictionaries) (d : Dictionaries) → Ascend o hs d → Ascend o (histories_beyond n hs) d
ascend_beyond o n [] d a = a
ascend_beyond o n (h ∷ hs) d a = cond_both (nat_le (length (part_cells h)) n) (histories_beyond (n - length (part_cells h)) hs) (h ∷ histories_beyond 0 hs) (λ l. Ascend o l d)
    (λ e. ascend_beyond o (n - length (part_cells h)) hs d (ascend_from o (Some (read_under h)) hs d a.0 a.1)) (λ e. (a.0, ascend_beyond (Some (read_under h)) 0 hs d a.1))

ascend_never : (hs : List Dictionaries) (d : Dictionaries) → Ascend (Some []) hs d → Ascend None (or_never_read hs) d
ascend_never [] d a = (tt, a)
ascend_never (h ∷ hs) d a = (tt, a.1)

-- the parts that are to be sent were each read under a history behind the next one's
pub ascend_to_send : (sent : Option ℕ) (d : Dictionaries) (id : ℤ) → NoneReplaced d → Ascend None (histories_to_send sent (or_never_read (histories d id))) d
ascend_to_send sent d id w = let g = grown [] d id (none_behind d) w in by sent (or_never_read (histories d id)) (ascend_never (histories d id) d (subst (λ hs. Ascend (Some []) hs d) (sym g.whole) g.ascend))
  where
    by : (sent : Option ℕ) (hs : List Dictionaries) → Ascend None hs d → Ascend None (histories_to_send sent hs) d
    by None [] a = tt
    by None (h ∷ hs) a = (tt, ascend_beyond (Some (read_under h)) 0 hs d a.1)
    by (Some n) hs a = ascend_beyond None n hs d a

cells_beyond : (hs : List Dictionaries) → cells_in (histories_beyond 0 hs) ≡ cells_in hs
cells_beyond [] = refl
cells_beyond (h ∷ hs) = cond_both (nat_le (length (part_cells h)) 0) (histories_beyond (0 - length (part_cells h)) hs) (h ∷ histories_beyond 0 hs) (λ l. cells_in l ≡ cells_in (h ∷ hs))
    (λ e.
    let none : part_cells h ≡ [] = nil_from_length (part_cells h) (omega (arith, leb-true (length (part_cells h)) 0 e)) in
    let start : 0 - length (part_cells h) ≡ 0 = omega arith in
    ap (λ n. cells_in (histories_beyond n hs)) start ∙ cells_beyond hs ∙ ap (λ l. l ++ cells_in hs) (sym none))
    (λ e. ap (λ l. part_cells h ++ l) (cells_beyond hs))

-- past the cells of parts that were sent, those are left that follow
beyond_sent : (hs more : List Dictionaries) → histories_beyond (length (cells_in hs)) (hs ++ more) ≡ histories_beyond 0 more
beyond_sent [] more = refl
beyond_sent (h ∷ hs) more =
    let long : length (cells_in (h ∷ hs)) ≡ length (part_cells h) + length (cells_in hs) = length-append (part_cells h) (cells_in hs) in
    let test : nat_le (length (part_cells h)) (length (cells_in (h ∷ hs))) ≡ true = le-leb _ _ (omega (arith, long)) in
    let rest : length (cells_in (h ∷ hs)) - length (part_cells h) ≡ length (cells_in hs) = omega (arith, long) in
    rw (test, rest) (beyond_sent hs more)

pub beyond_never : (n : ℕ) (hs : List Dictionaries) → histories_beyond n (or_never_read hs) ≡ histories_beyond n hs
beyond_never n [] = let test : nat_le 0 n ≡ true = le-leb 0 n (omega arith) in rw test refl
beyond_never n (h ∷ hs) = refl

pub cells_never : (hs : List Dictionaries) → cells_in (or_never_read hs) ≡ cells_in hs
cells_never [] = refl
cells_never (h ∷ hs) = refl

-- ── what a stream knows of an id ──

-- how many cells were sent, and which, behind a visit under a history, or none
abbrev pub sent_at : Option Dictionaries → ℤ → Option ℕ × Option (List Cell)
sent_at None id = (None, None)
sent_at (Some e) id = (Some (length (cells_in (histories e id))), Some (cells_in (histories e id)))

-- the cells behind parts more, of which the first is a delta or not
abbrev pub with_parts : Bool → List Dictionaries → Option (List Cell) → Option (List Cell)
with_parts is_delta [] known = known
with_parts is_delta (h ∷ hs) known = with_parts true hs (Some (cells_before is_delta known ++ part_cells h))

with_deltas : (hs : List Dictionaries) (cells : List Cell) → with_parts true hs (Some cells) ≡ Some (cells ++ cells_in hs)
with_deltas [] cells = ap Some (sym (append-nil cells))
with_deltas (h ∷ hs) cells = with_deltas hs (cells ++ part_cells h) ∙ ap Some (append_assoc cells (part_cells h) (cells_in hs))

abbrev pub next_parts : Option Dictionaries → Dictionaries → ℤ → List Dictionaries
next_parts o d id = histories_to_send (sent_at o id).0 (or_never_read (histories d id))

-- behind a visit, the parts that are still to be sent were read later, and with them all cells are known
pub record Follows (o : Option Dictionaries) (d : Dictionaries) (id : ℤ) : Type 0 where
  pub ascend : Ascend o (next_parts o d id) d
  pub known : with_parts (not (is_absent (sent_at o id).0)) (next_parts o d id) (sent_at o id).1 ≡ Some (cells_in (histories d id))

pub follows : (o : Option Dictionaries) (d : Dictionaries) (id : ℤ) → NoneReplaced d → Precedes o (Some d) → Follows o d id
follows None d id w h = record { ascend = ascend_to_send None d id w; known = by (histories d id) }
  where
    by : (hs : List Dictionaries) → with_parts false (histories_to_send None (or_never_read hs)) None ≡ Some (cells_in hs)
    by [] = refl
    by (h ∷ hs) = with_deltas (histories_beyond 0 hs) (part_cells h) ∙ ap (λ l. Some (part_cells h ++ l)) (cells_beyond hs)
follows (Some e) d id w h =
    let g = grown e d id h w in
    let left : next_parts (Some e) d id ≡ histories_beyond 0 g.more = beyond_never _ (histories d id) ∙ ap (λ hs. histories_beyond (length (cells_in (histories e id))) hs) g.whole ∙ beyond_sent (histories e id) g.more in
    let all : cells_in (histories e id) ++ cells_in (histories_beyond 0 g.more) ≡ cells_in (histories d id) =
    ap (λ l. cells_in (histories e id) ++ l) (cells_beyond g.more) ∙ sym (flat_map-append part_cells (histories e id) g.more) ∙ ap cells_in (sym g.whole) in
    record {
      ascend = subst (λ hs. Ascend (Some e) hs d) (sym left) (ascend_beyond (Some e) 0 g.more d g.ascend);
      known = ap (λ hs. with_parts true hs (Some (cells_in (histories e id)))) left ∙ with_deltas (histories_beyond 0 g.more) (cells_in (histories e id)) ∙ ap Some all;
    }
