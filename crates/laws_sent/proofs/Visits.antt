-- A visit of a dictionary: its parts that are new are sent, each behind what its own dictionaries need.
use Rattle.std.proofs.Common.{◌≡◌, ℕ, suc, ◌+◌, ◌-◌, ◌^◌, ◌<◌, ◌≤◌, ◌||◌, List, [], ◌∷◌, ◌++◌, length, length-append, take, map, refl, sym, ap, subst, ◌∙◌, arith, true, false, Bool, not, Option, Some, None, Result, Ok, ℤ, pos, append-nil}
use Rattle.std.specs.Prelude.{cond, is_some, nat_eq, nat_le, nat_lt}
use Rattle.std.specs.Option.{unwrap_or}
use Rattle.std.specs.List.{AllByRecursion}
use Rattle.std.proofs.lemmas.Bool.{eq-eqb, le-leb, ltb-false, ltb-true, ne_eqb}
use Rattle.std.proofs.lemmas.List.{map-append}
use Rattle.std.proofs.lemmas.List.Sums.{sum_by-cons}
use Rattle.arrow_spec.specs.declared.error.IpcError.{IpcError}
use Rattle.arrow_spec.specs.Kinds.{Kind, Fields, dictionary_count, same}
use Rattle.arrow_spec.specs.Arrays.{Dictionaries}
use Rattle.arrow_spec.specs.Readings.{is_absent}
use Rattle.arrow_spec.specs.Sent as sent
use Rattle.arrow_spec.specs.Sent.{Part, cell_count, counted, dictionary_message, or_one_empty, parts_before, parts_beyond, parts_of, parts_read, parts_to_send, send_dictionary, send_kind, send_parts, sent_under, with_message}
use Rattle.ipc_files.specs.Below.{is_carried, each_of, Parts, Forest, fault_each, fault_in, kinds_each, rows_in}
use Rattle.ipc_files.proofs.Below.{length-cells}
use Rattle.ipc_fields.specs.IpcFields.{Ids}
use Rattle.ipc_fields.specs.Uses.{use_as}
use Rattle.arrow_spec.proofs.Forms.{form}
use Rattle.laws_writers.specs.Below.{Standing, Absent, Longer, Same, allowed, delta_start, standing, Options, Sending, ToSend, array_sent, dictionary_sent, fixing, holding, message_of, parts_sent, scoped, sending, then_by}
use Rattle.laws_transcode.specs.Sending.{histories, histories_before, or_never_read, part_cells, part_written, read_under}
use Rattle.laws_transcode.proofs.Histories.{Ascend, IsBehind, Precedes, behind_itself, cells_in, cells_never, grown, precedes_both}
use Rattle.laws_sent.specs.Parts.{PartTree}
use Rattle.laws_sent.specs.DictionaryLaws.{sent_message}
use Rattle.laws_sent.specs.ReadUnder.{held_of}
use Rattle.laws_sent.proofs.EmptyArrays.{HasHeld}
use Rattle.laws_sent.proofs.FieldKinds.{IsOfKind, of_form}
use Rattle.laws_sent.proofs.Forms.{bare_form, bare_of}
use Rattle.laws_sent.proofs.Lists.{all_both, all_first, all_second}
use Rattle.laws_sent.proofs.Pieces.{AreSome, HasForm, IsPiece, IsReadAs, IsSound, behind_some, forms_shown, pieces_shown, shown, sound_shown, tree, trees}
use Rattle.laws_sent.proofs.Standings.{longer_or_same, stands_so, total, total_more}
use Rattle.laws_sent.proofs.Visited.{HasSeen, IsBefore, OfVisit, Place, SeenAt, State, Visited, seen_before, state, visited_as}

-- ── what a step does ──

-- the messages are those that are to be sent, each of few rows
abbrev pub Fits : Sending → sent.Sending → Type 0
Fits s v = (map sent_message s.sent ≡ v.messages) × AllByRecursion (λ (m : ToSend). rows_in m.part < 2 ^ 63) s.sent

-- what a step of a walk sends is what is to be sent more, and so much is seen behind it; ids beside some are kept
pub record IsSent (i count : ℕ) (Seen : State → Type 0) (r : Result Sending IpcError) (s : Sending) (v w : sent.Sending) : Type 0 where
  pub behind : Sending
  pub is : r ≡ Ok behind
  pub fits : Fits behind w
  pub seen : Seen (state behind w)
  pub kept : (j : ℕ) → (i ≤ j → i + count ≤ j) → state behind w j ≡ state s v j

pub moved : (i count : ℕ) (Seen : State → Type 0) (x y : Result Sending IpcError) (s : Sending) (v w u : sent.Sending) → x ≡ y → w ≡ u → IsSent i count Seen y s v u → IsSent i count Seen x s v w
moved i count Seen x y s v w u e f h = subst (λ z. IsSent i count Seen z s v w) (sym e) (subst (λ z. IsSent i count Seen y s v z) (sym f) h)

-- an array of a kind that was read under some messages
pub record IsArray (fs : Fields) (ps : List PartTree) (k : Kind) (e : Dictionaries) (p : Parts) : Type 0 where
  pub some : AreSome fs ps e
  pub held : HasHeld (held_of (take (length e) ps)) k p
  pub like : IsOfKind k p
  pub sound : fault_in p ≡ None

-- the walk of a dictionary, by how its values stand to those that are held
abbrev pub as_it_stands : Options → Bool → Standing → ℤ → Forest → Ids → Sending → Result Sending IpcError
as_it_stands o deltas st id parts below s =
    dictionary_sent o (allowed (o.cannot_replace || s.used id) deltas st) (delta_start deltas st) id parts s (parts_sent o s.used id below (is_some (delta_start deltas st)) (unwrap_or (delta_start deltas st) 0) parts s)

abbrev pub visit : Options → ℤ → Kind → Forest → Ids → Sending → Result Sending IpcError
visit o id l parts below s = as_it_stands o o.deltas (standing (s.held id) l parts) id parts below s

absent_walked : (o : Options) (id : ℤ) (parts : Forest) (below : Ids) (s : Sending) → o.deltas ≡ true → as_it_stands o true Absent id parts below s ≡ then_by (parts_sent o s.used id below false 0 parts s) (λ t. Ok (holding id parts t))
absent_walked o id parts below s deltas = rw deltas refl

pub visit_is : (o : Options) (id : ℤ) (l : Kind) (parts : Forest) (below : Ids) (s : Sending) (st : Standing) → o.deltas ≡ true → standing (s.held id) l parts ≡ st → visit o id l parts below s ≡ as_it_stands o true st id parts below s
visit_is o id l parts below s st deltas e = ap (λ x. as_it_stands o o.deltas x id parts below s) e ∙ ap (λ b. as_it_stands o b st id parts below s) deltas

-- ── parts as they are to be sent ──

abbrev pub part_of : Kind → Dictionaries → Part
part_of k h = record { count = length (part_cells h); written = part_written k h; under = read_under h }

pub are_parts : (k : Kind) (e : Dictionaries) (q : ℤ) → map (part_of k) (shown e q) ≡ parts_of e q k
are_parts k e q = by (histories e q) ∙ ap (or_one_empty k) (are_read e)
  where
    by : (hs : List Dictionaries) → map (part_of k) (or_never_read hs) ≡ or_one_empty k (map (part_of k) hs)
    by [] = refl
    by (h ∷ hs) = refl

    are_read : (c : Dictionaries) → map (part_of k) (histories c q) ≡ parts_read c q
    are_read [] = refl
    are_read (x ∷ c) = if_same (same x.id q) x.is_delta (are_read c)
      where
        before : (b : Bool) → map (part_of k) (histories c q) ≡ parts_read c q → map (part_of k) (histories_before b (histories c q)) ≡ parts_before b (parts_read c q)
        before true h = h
        before false h = refl

        if_same : (b delta : Bool) → map (part_of k) (histories c q) ≡ parts_read c q
            → map (part_of k) (cond b (histories_before delta (histories c q) ++ (x ∷ c) ∷ []) (histories c q)) ≡ cond b (parts_before delta (parts_read c q) ++ part_of k (x ∷ c) ∷ []) (parts_read c q)
        if_same true delta h = map-append (part_of k) (histories_before delta (histories c q)) ((x ∷ c) ∷ []) ∙ ap (λ ps. ps ++ part_of k (x ∷ c) ∷ []) (before delta h)
        if_same false delta h = h

cells_counted : (k : Kind) (hs : List Dictionaries) → cell_count (map (part_of k) hs) ≡ length (cells_in hs)
cells_counted k [] = refl
cells_counted k (h ∷ hs) =
    sum_by-cons (λ (p : Part). p.count) (part_of k h) (map (part_of k) hs) ∙ ap (λ n. length (part_cells h) + n) (cells_counted k hs) ∙ sym (length-append (part_cells h) (cells_in hs))

-- each was read under a history behind the next one's
ascend_shown : (fs : Fields) (ps : List PartTree) (e : Dictionaries) (q : ℤ) → AreSome fs ps e → Ascend None (shown e q) e
ascend_shown fs ps e q s = let g = grown [] e q (record { front = e; whole = sym (append-nil e) }) s.unreplaced in by (histories e q) (subst (λ hs. Ascend (Some []) hs e) (sym g.whole) g.ascend)
  where
    by : (hs : List Dictionaries) → Ascend (Some []) hs e → Ascend None (or_never_read hs) e
    by [] a = (tt, a)
    by (h ∷ hs) a = (tt, a.1)

-- parts with cells were read
some_read : (hs : List Dictionaries) (n : ℕ) → n < length (cells_in (or_never_read hs)) → or_never_read hs ≡ hs
some_read [] n h = absurd (omega (arith, h))
some_read (g ∷ hs) n h = refl

module _ (fs : Fields) (ps : List PartTree) (o : Options) (deltas : o.deltas ≡ true) where
  -- what the arrays of a kind send, whose ids count from a number on
  abbrev pub Inside : Kind → ℕ → Ids → Type 0
  Inside k i below = (e : Dictionaries) (p : Parts) (s : Sending) (v : sent.Sending) → IsArray fs ps k e p → Fits s v → Visited ps (IsBefore (Some e)) k i (state s v)
      → IsSent i (dictionary_count k) (Visited ps (HasSeen e) k i) (array_sent o p None below s) s v (send_kind e k i v)

  module _ (k l : Kind) (i : ℕ) (below : Ids) (alike : bare_form k ≡ form l) (inner : Inside k (suc i) below) where
    abbrev inside : Dictionaries → sent.Sending → sent.Sending
    inside e v = send_kind e k (suc i) v

    -- a part in an array
    record IsShown (h : Dictionaries) : Type 0 where
      piece : IsPiece fs ps k l h
      form : HasForm ps k l h
      sound : IsSound ps l h

    all_shown : (hs : List Dictionaries) → AllByRecursion (IsPiece fs ps k l) hs → AllByRecursion (HasForm ps k l) hs → AllByRecursion (IsSound ps l) hs → AllByRecursion IsShown hs
    all_shown [] a b c = tt
    all_shown (h ∷ hs) a b c = (record { piece = a.0; form = b.0; sound = c.0 }, all_shown hs a.1 b.1 c.1)

    rows_shown : (h : Dictionaries) → IsShown h → rows_in (tree ps l h) ≡ length (part_cells h)
    rows_shown h a = sym (length-cells (tree ps l h) a.sound) ∙ ap length a.piece.cells

    message_is : (b : Bool) (h : Dictionaries) → IsShown h → sent_message (message_of (pos i) b (tree ps l h)) ≡ dictionary_message i b (part_written k h)
    message_is b h a = ap (dictionary_message i b) a.piece.written

    -- ── parts one after another ──

    -- what is sent of the inner dictionaries, and the parts
    abbrev Walked : Dictionaries → Result Sending IpcError → Sending → sent.Sending → sent.Sending → Type 0
    Walked e r s v w = IsSent (suc i) (dictionary_count k) (Visited ps (IsBefore (Some e)) k (suc i)) r s v w

    abbrev AreFurther : Option Dictionaries → Sending → sent.Sending → Type 0
    AreFurther c s v = Fits s v × Visited ps (IsBefore c) k (suc i) (state s v)

    -- a part, and those behind it
    part_then : (used : ℤ → Bool) (e h : Dictionaries) (b : Bool) (rest : Forest) (xs : List Part) (s : Sending) (v : sent.Sending) → IsShown h → AreFurther (Some (read_under h)) s v
        → ((t : Sending) (u : sent.Sending) → AreFurther (Some (read_under h)) t u → Walked e (parts_sent o used (pos i) below true 0 rest t) t u (send_parts inside i true xs u))
        → Walked e (then_by (array_sent o (tree ps l h) None below (scoped used s)) (λ t. parts_sent o used (pos i) below true 0 rest (sending (message_of (pos i) b (tree ps l h)) s.used t))) s v
        (send_parts inside i b (part_of k h ∷ xs) v)
    part_then used e h b rest xs s v a before further =
        let m = message_of (pos i) b (tree ps l h) in
        let x = dictionary_message i b (part_written k h) in
        let c = read_under h in
        let g = inner c (tree ps l h) (scoped used s) v (record { some = a.piece.some; held = a.piece.held; like = of_form k (tree ps l h) a.form; sound = a.sound }) before.0 before.1 in
        let u = inside c v in
        let t = sending m s.used g.behind in
        let messages : map sent_message (g.behind.sent ++ m ∷ []) ≡ u.messages ++ x ∷ [] =
        map-append sent_message g.behind.sent (m ∷ []) ∙ ap (λ ms. ms ++ sent_message m ∷ []) g.fits.0 ∙ ap (λ y. u.messages ++ y ∷ []) (message_is b h a) in
        let few = all_both (λ (y : ToSend). rows_in y.part < 2 ^ 63) g.behind.sent (m ∷ []) g.fits.1 (a.piece.few, tt) in
        let seen = visited_as ps (HasSeen c) (IsBefore (Some c)) (λ q z f. seen_before c q z f) k (suc i) (state g.behind u) (state t (with_message x u)) (λ j low high. refl) g.seen in
        let r = further t (with_message x u) ((messages, few), seen) in
        moved (suc i) (dictionary_count k) (Visited ps (IsBefore (Some e)) k (suc i)) _ (parts_sent o used (pos i) below true 0 rest t) s v _ (send_parts inside i true xs (with_message x u))
        (ap (λ z. then_by z (λ y. parts_sent o used (pos i) below true 0 rest (sending m s.used y))) g.is) refl
        (record { behind = r.behind; is = r.is; fits = r.fits; seen = r.seen; kept = λ j out. r.kept j out ∙ g.kept j out })

    parts_walked : (used : ℤ → Bool) (e : Dictionaries) (c : Option Dictionaries) (hs : List Dictionaries) (s : Sending) (v : sent.Sending) → AllByRecursion IsShown hs → Ascend c hs e → AreFurther c s v
        → Walked e (parts_sent o used (pos i) below true 0 (trees ps l hs) s) s v (send_parts inside i true (parts_beyond 0 (map (part_of k) hs)) v)
    parts_walked used e c [] s v a up f = record {
      behind = s;
      is = refl;
      fits = f.0;
      seen = visited_as ps (IsBefore c) (IsBefore (Some e)) (λ q u g. precedes_both u c (Some e) g up) k (suc i) (state s v) (state s v) (λ j from to. refl) f.1;
      kept = λ j out. refl;
    }
    parts_walked used e c (h ∷ hs) s v a up f =
        by (nat_le (rows_in (tree ps l h)) 0) (nat_le (length (part_cells h)) 0) (ap (λ m. nat_le m 0) (rows_shown h a.0)) (parts_walked used e (Some (read_under h)) hs s v a.1 up.1 next)
        (λ z. part_then used e h true ts (parts_beyond 0 xs) s v a.0 next (λ t u g. parts_walked used e (Some (read_under h)) hs t u a.1 up.1 g))
      where
        next : AreFurther (Some (read_under h)) s v
        next = (f.0, visited_as ps (IsBefore c) (IsBefore (Some (read_under h))) (λ q u g. precedes_both u c (Some (read_under h)) g up.0) k (suc i) (state s v) (state s v) (λ j from to. refl) f.1)

        ts : Forest
        ts = trees ps l hs

        xs : List Part
        xs = map (part_of k) hs

        taken : Result Sending IpcError
        taken = then_by (array_sent o (tree ps l h) None below (scoped used s)) (λ t. parts_sent o used (pos i) below true 0 ts (sending (message_of (pos i) true (tree ps l h)) s.used t))

        by : (b d : Bool) → b ≡ d → Walked e (parts_sent o used (pos i) below true 0 ts s) s v (send_parts inside i true (parts_beyond 0 xs) v)
            → (Unit {0} → Walked e taken s v (send_parts inside i true (part_of k h ∷ parts_beyond 0 xs) v))
            → Walked e (cond b (parts_sent o used (pos i) below true (0 - rows_in (tree ps l h)) ts s) taken) s v (send_parts inside i true (cond d (parts_beyond (0 - length (part_cells h)) xs) (part_of k h ∷ parts_beyond 0 xs)) v)
        by true true q passed send =
            let one : 0 - rows_in (tree ps l h) ≡ 0 = omega arith in
            let two : 0 - length (part_cells h) ≡ 0 = omega arith in
            moved (suc i) (dictionary_count k) (Visited ps (IsBefore (Some e)) k (suc i)) _ (parts_sent o used (pos i) below true 0 ts s) s v _ (send_parts inside i true (parts_beyond 0 xs) v)
            (ap (λ m. parts_sent o used (pos i) below true m ts s) one) (ap (λ m. send_parts inside i true (parts_beyond m xs) v) two) passed
        by false false q passed send = send tt
        by true false q passed send = cc
        by false true q passed send = cc

    -- past the parts that were sent
    parts_past : (used : ℤ → Bool) (hs gs : List Dictionaries) (s : Sending) → AllByRecursion IsShown hs → parts_sent o used (pos i) below true (length (cells_in hs)) (trees ps l (hs ++ gs)) s ≡ parts_sent o used (pos i) below true 0 (trees ps l gs) s
    parts_past used [] gs s a = refl
    parts_past used (h ∷ hs) gs s a =
        let long : length (cells_in (h ∷ hs)) ≡ length (part_cells h) + length (cells_in hs) = length-append (part_cells h) (cells_in hs) in
        let test : nat_le (rows_in (tree ps l h)) (length (cells_in (h ∷ hs))) ≡ true = le-leb _ _ (omega (arith, long, rows_shown h a.0)) in
        let rest : length (cells_in (h ∷ hs)) - rows_in (tree ps l h) ≡ length (cells_in hs) = omega (arith, long, rows_shown h a.0) in
        rw (test, rest) (parts_past used hs gs s a.1)

    beyond_past : (hs gs : List Dictionaries) → parts_beyond (length (cells_in hs)) (map (part_of k) (hs ++ gs)) ≡ parts_beyond 0 (map (part_of k) gs)
    beyond_past [] gs = refl
    beyond_past (h ∷ hs) gs =
        let long : length (cells_in (h ∷ hs)) ≡ length (part_cells h) + length (cells_in hs) = length-append (part_cells h) (cells_in hs) in
        let test : nat_le (length (part_cells h)) (length (cells_in (h ∷ hs))) ≡ true = le-leb _ _ (omega (arith, long)) in
        let rest : length (cells_in (h ∷ hs)) - length (part_cells h) ≡ length (cells_in hs) = omega (arith, long) in
        rw (test, rest) (beyond_past hs gs)

    -- no cells are left
    none_left : (hs : List Dictionaries) (n : ℕ) → length (cells_in hs) ≤ n → parts_beyond n (map (part_of k) hs) ≡ []
    none_left [] n le = refl
    none_left (h ∷ hs) n le =
        let long : length (cells_in (h ∷ hs)) ≡ length (part_cells h) + length (cells_in hs) = length-append (part_cells h) (cells_in hs) in
        let test : nat_le (length (part_cells h)) n ≡ true = le-leb _ _ (omega (arith, long, le)) in
        rw test (none_left hs (n - length (part_cells h)) (omega (arith, long, le)))

    -- nothing is held yet: all parts are sent
    first_walked : (used : ℤ → Bool) (e : Dictionaries) (hs : List Dictionaries) (s : Sending) (v : sent.Sending) → AllByRecursion IsShown hs → Ascend None hs e → AreFurther None s v
        → Walked e (parts_sent o used (pos i) below false 0 (trees ps l hs) s) s v (send_parts inside i false (parts_to_send None (map (part_of k) hs)) v)
    first_walked used e [] s v a up f = record {
      behind = s;
      is = refl;
      fits = f.0;
      seen = visited_as ps (IsBefore None) (IsBefore (Some e)) (λ q u g. precedes_both u None (Some e) g up) k (suc i) (state s v) (state s v) (λ j from to. refl) f.1;
      kept = λ j out. refl;
    }
    first_walked used e (h ∷ hs) s v a up f =
        part_then used e h false (trees ps l hs) (parts_beyond 0 (map (part_of k) hs)) s v a.0
        (f.0, visited_as ps (IsBefore None) (IsBefore (Some (read_under h))) (λ q u g. precedes_both u None (Some (read_under h)) g up.0) k (suc i) (state s v) (state s v) (λ j from to. refl) f.1)
        (λ t u g. parts_walked used e (Some (read_under h)) hs t u a.1 up.1 g)

    -- some are held: those behind them are sent
    more_walked : (used : ℤ → Bool) (q : ℤ) (c e : Dictionaries) (s : Sending) (v : sent.Sending) → IsBehind c e → AreSome fs ps e → total c q < total e q → AllByRecursion IsShown (shown e q) → AreFurther (Some c) s v
        → Walked e (parts_sent o used (pos i) below true (total c q) (trees ps l (shown e q)) s) s v (send_parts inside i true (parts_to_send (Some (total c q)) (map (part_of k) (shown e q))) v)
    more_walked used q c e s v behind some less a f =
        let g = grown c e q behind some.unreplaced in
        let hs = histories c q in
        let count : total c q ≡ length (cells_in hs) = ap length (cells_never hs) in
        let whole : shown e q ≡ hs ++ g.more = some_read (histories e q) (total c q) less ∙ g.whole in
        let all : AllByRecursion IsShown (hs ++ g.more) = subst (AllByRecursion IsShown) whole a in
        moved (suc i) (dictionary_count k) (Visited ps (IsBefore (Some e)) k (suc i)) _ (parts_sent o used (pos i) below true 0 (trees ps l g.more) s) s v _ (send_parts inside i true (parts_beyond 0 (map (part_of k) g.more)) v)
        (ap (λ xs. parts_sent o used (pos i) below true (total c q) (trees ps l xs) s) whole ∙ ap (λ n. parts_sent o used (pos i) below true n (trees ps l (hs ++ g.more)) s) count ∙ parts_past used hs g.more s (all_first IsShown hs g.more all))
        (ap (λ xs. send_parts inside i true (parts_beyond (total c q) (map (part_of k) xs)) v) whole ∙ ap (λ n. send_parts inside i true (parts_beyond n (map (part_of k) (hs ++ g.more))) v) count ∙ ap (λ xs. send_parts inside i true xs v) (beyond_past hs g.more))
        (parts_walked used e (Some c) g.more s v (all_second IsShown hs g.more all) g.ascend f)

    -- ── what is held and counted ──

    -- the dictionary's last visit, and those inside its values
    abbrev pub Seen : OfVisit → ℤ → State → Type 0
    Seen R q f = (u : Option Dictionaries) × R q u × SeenAt ps u q k (f i) × Visited ps (IsBefore u) k (suc i) f

    abbrev IsVisited : ℤ → Dictionaries → Result Sending IpcError → Sending → sent.Sending → sent.Sending → Type 0
    IsVisited q e r s v w = IsSent i (suc (dictionary_count k)) (Seen (HasSeen e) q) r s v w

    abbrev sent_parts : Dictionaries → ℤ → List Part
    sent_parts e q = map (part_of k) (shown e q)

    others_counted : (n : ℕ) (s : Sending) (v : sent.Sending) (j : ℕ) → (i ≡ j → ⊥) → state (fixing (pos i) s) (counted i n v) j ≡ state s v j
    others_counted n s v j other = let test : nat_eq i j ≡ false = ne_eqb i j other in rw test refl

    others_held : (held : Forest) (n : ℕ) (s : Sending) (v : sent.Sending) (j : ℕ) → (i ≡ j → ⊥) → state (holding (pos i) held s) (counted i n v) j ≡ state s v j
    others_held held n s v j other = let test : nat_eq i j ≡ false = ne_eqb i j other in rw test refl

    -- parts that were walked are held
    put : (q : ℤ) (e : Dictionaries) (r : Result Sending IpcError) (s : Sending) (v w : sent.Sending) → Walked e r s v w
        → IsVisited q e (then_by r (λ t. Ok (holding (pos i) (trees ps l (shown e q)) t))) s v (counted i (cell_count (sent_parts e q)) w)
    put q e r s v w g =
        let ts = trees ps l (shown e q) in
        let n = cell_count (sent_parts e q) in
        let now = holding (pos i) ts g.behind in
        let mine : nat_eq i i ≡ true = eq-eqb i i refl in
        let at : state now (counted i n w) i ≡ (Some ts, Some (total e q)) = rw mine (ap (λ m. (Some ts, Some m)) (cells_counted k (shown e q))) in
        record {
          behind = now;
          is = ap (λ x. then_by x (λ t. Ok (holding (pos i) ts t))) g.is;
          fits = g.fits;
          seen = (
            Some e,
            (e, refl, behind_itself e, refl),
            (l, alike, at),
            visited_as ps (IsBefore (Some e)) (IsBefore (Some e)) (λ p z f. f) k (suc i) (state g.behind w) (state now (counted i n w)) (λ j low high. sym (others_held ts n g.behind w j (λ f. omega (arith, f, low)))) g.seen,
          );
          kept = λ j out. others_held ts n g.behind w j (λ f. omega (arith, f, out (omega (arith, f)))) ∙ g.kept j (λ low. omega (arith, low, out (omega (arith, low))));
        }

    -- values that are held are counted once more
    keep : (q : ℤ) (c e : Dictionaries) (s : Sending) (v : sent.Sending) → IsBehind c e → total c q ≡ total e q → Fits s v → SeenAt ps (Some c) q k (state s v i) → Visited ps (IsBefore (Some c)) k (suc i) (state s v)
        → IsVisited q e (Ok (fixing (pos i) s)) s v (counted i (cell_count (sent_parts e q)) v)
    keep q c e s v behind same fits before seen =
        let n = cell_count (sent_parts e q) in
        let now = fixing (pos i) s in
        let mine : nat_eq i i ≡ true = eq-eqb i i refl in
        let ts = trees ps before.0 (shown c q) in
        let held : s.held (pos i) ≡ Some ts = ap (λ (p : Place). p.0) before.2 in
        let at : state now (counted i n v) i ≡ (Some ts, Some (total c q)) = rw mine (ap (λ x. (x, Some n)) held ∙ ap (λ m. (Some ts, Some m)) (cells_counted k (shown e q) ∙ sym same)) in
        record {
          behind = now;
          is = refl;
          fits = fits;
          seen = (
            Some c,
            (c, refl, behind, same),
            (before.0, before.1, at),
            visited_as ps (IsBefore (Some c)) (IsBefore (Some c)) (λ p z f. f) k (suc i) (state s v) (state now (counted i n v)) (λ j low high. sym (others_counted n s v j (λ f. omega (arith, f, low)))) seen,
          );
          kept = λ j out. others_counted n s v j (λ f. omega (arith, f, out (omega (arith, f))));
        }

    -- ── the visit ──

    -- what is to be sent where so many cells were
    abbrev sends : List Part → Option ℕ → sent.Sending → sent.Sending
    sends xs n v = counted i (cell_count xs) (send_parts inside i (not (is_absent n)) (parts_to_send n xs) v)

    pub visit_sent : (q : ℤ) (e : Dictionaries) (s : Sending) (v : sent.Sending) → AreSome fs ps e → IsReadAs ps (use_as q k) → is_carried k ≡ true → each_of l (kinds_each (trees ps l (shown e q))) ≡ true → fault_each (trees ps l (shown e q)) ≡ None
        → Fits s v → Seen (IsBefore (Some e)) q (state s v) → IsVisited q e (visit o (pos i) l (trees ps l (shown e q)) below s) s v (send_dictionary inside i (sent_parts e q) v)
    visit_sent q e s v some reads carried kinds sound fits before = by before.0 before.1 before.2 before.3
      where
        ts : Forest
        ts = trees ps l (shown e q)

        all : AllByRecursion IsShown (shown e q)
        all = all_shown (shown e q) (pieces_shown fs ps k l q e some reads (sym (bare_of k l alike)) carried) (forms_shown ps k l (shown e q) alike kinds) (sound_shown ps l (shown e q) sound)

        told : (st : Standing) (n : Option ℕ) (r : Result Sending IpcError) (w : sent.Sending) → standing (s.held (pos i)) l ts ≡ st → sent_under v.counts i ≡ n → as_it_stands o true st (pos i) ts below s ≡ r → sends (sent_parts e q) n v ≡ w
            → IsVisited q e r s v w → IsVisited q e (visit o (pos i) l ts below s) s v (send_dictionary inside i (sent_parts e q) v)
        told st n r w so count is are h =
            moved i (suc (dictionary_count k)) (Seen (HasSeen e) q) _ r s v _ w (visit_is o (pos i) l ts below s st deltas so ∙ is) (ap (λ z. sends (sent_parts e q) z v) count ∙ are) h

        held : (c : Dictionaries) → IsBehind c e → SeenAt ps (Some c) q k (state s v i) → Visited ps (IsBefore (Some c)) k (suc i) (state s v) → IsVisited q e (visit o (pos i) l ts below s) s v (send_dictionary inside i (sent_parts e q) v)
        held c behind at seen = by_size (nat_lt (total c q) (total e q)) refl
          where
            so : standing (s.held (pos i)) l ts ≡ longer_or_same (total c q) (total e q)
            so = ap (λ (p : Place). standing p.0 l ts) at.2 ∙ stands_so fs ps q c e behind some k l at.0 (behind_some fs ps c e behind some) alike at.1 kinds

            count : sent_under v.counts i ≡ Some (total c q)
            count = ap (λ (p : Place). p.1) at.2

            by_size : (b : Bool) → nat_lt (total c q) (total e q) ≡ b → IsVisited q e (visit o (pos i) l ts below s) s v (send_dictionary inside i (sent_parts e q) v)
            by_size true t =
                told (Longer (total c q)) (Some (total c q)) _ _ (so ∙ ap (λ b. cond b (Longer (total c q)) Same) t) count refl refl
                (put q e (parts_sent o s.used (pos i) below true (total c q) ts s) s v (send_parts inside i true (parts_to_send (Some (total c q)) (sent_parts e q)) v)
                (more_walked s.used q c e s v behind some (ltb-true (total c q) (total e q) t) all (fits, seen)))
            by_size false t =
                let same : total c q ≡ total e q = omega (arith, ltb-false (total c q) (total e q) t, total_more fs ps q c e behind some) in
                told Same (Some (total c q)) _ _ (so ∙ ap (λ b. cond b (Longer (total c q)) Same) t) count refl
                (ap (λ xs. counted i (cell_count (sent_parts e q)) (send_parts inside i true xs v)) (none_left (shown e q) (total c q) (omega (arith, same)))) (keep q c e s v behind same fits at seen)

        by : (u : Option Dictionaries) → Precedes u (Some e) → SeenAt ps u q k (state s v i) → Visited ps (IsBefore u) k (suc i) (state s v) → IsVisited q e (visit o (pos i) l ts below s) s v (send_dictionary inside i (sent_parts e q) v)
        by None le at seen =
            told Absent None _ _ (ap (λ (p : Place). standing p.0 l ts) at) (ap (λ (p : Place). p.1) at) (absent_walked o (pos i) ts below s deltas) refl
            (put q e (parts_sent o s.used (pos i) below false 0 ts s) s v (send_parts inside i false (parts_to_send None (sent_parts e q)) v)
            (first_walked s.used e (shown e q) s v all (ascend_shown fs ps e q some) (fits, seen)))
        by (Some c) le at seen = held c le at seen
