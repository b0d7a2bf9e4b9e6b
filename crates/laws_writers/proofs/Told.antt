-- What the messages of a walk tell, one step after another.
use Rattle.std.proofs.Common.{◌≡◌, ℕ, suc, zero, ◌+◌, ◌-◌, ◌≤◌, ◌++◌, ◌||◌, ◌&&◌, ℤ, List, [], ◌∷◌, Bool, true, false, not, Option, Some, None, Result, Ok, length, length-drop, drop, refl, sym, ap, subst, ◌∙◌, arith, append-nil, append_assoc}
use Rattle.std.specs.Prelude.{is_some, nat_le, if◌then◌else◌}
use Rattle.std.proofs.Math.Seq.{drop-append-add}
use Rattle.std.proofs.lemmas.Bool.{leb-false, leb-true, or_parts}
use Rattle.std.proofs.lemmas.List.{drop-append-le, drop_all, take_all}
use Rattle.arrow_spec.specs.declared.error.IpcError.{IpcError}
use Rattle.arrow_spec.specs.declared.error.IpcError.TheVariants.{NotRepresentable}
use Rattle.arrow_spec.specs.Kinds.{Kind, Use, is_same_kind, same}
use Rattle.arrow_spec.specs.Cells.{Cell}
use Rattle.arrow_spec.specs.Arrays.{cells_before}
use Rattle.ipc_messages.specs.Below.{joined, Parts, Forest, none, also, cells_in, cells_each, fault_in, kind_in, rows_in, Ids, kind_with, use_as, Options, Sending, ToSend, array_sent, dictionary_sent, fixing, has_several, holding, message_of, parts_sent, rows_from, scoped, sending, then_by}
use Rattle.ipc_messages.proofs.Below.{cells-part, length-cells}
use Rattle.arrow_spec.proofs.SameIds.{id_self, id_true}
use Rattle.laws_writers.specs.Heard.{AllStand, AreFixed, IsAmong, cells_held, heard, stands_in, stands_in_parts, with_part}
use Rattle.laws_writers.proofs.Steps.{either_left, either_right, stepped, unless_err}
use Rattle.laws_writers.proofs.Values.{rows_kind, rows_sound, rows_values, values_known}

-- ── messages ──

heard-append : (q : ℤ) (xs ys : List ToSend) (old : Option (List Cell)) → heard q (xs ++ ys) old ≡ heard q ys (heard q xs old)
heard-append q [] ys old = refl
heard-append q (x ∷ xs) ys old = heard-append q xs ys (with_part q x old)

stand-append : (deltas : Bool) (us : List Use) (c : ℤ → Option (List Cell)) (xs ys : List ToSend) → AllStand deltas us c xs → AllStand deltas us (λ q. heard q xs (c q)) ys → AllStand deltas us c (xs ++ ys)
stand-append deltas us c [] ys h k = k
stand-append deltas us c (x ∷ xs) ys h k = (h.0, stand-append deltas us (λ q. with_part q x (c q)) xs ys h.1 k)

with_other : (q : ℤ) (s : ToSend) (old : Option (List Cell)) → same s.id q ≡ false → with_part q s old ≡ old
with_other q s old d = by (same s.id q) d
  where
    by : (b : Bool) → b ≡ false → (if b then Some (cells_before s.is_delta old ++ cells_in s.part) else old) ≡ old
    by true h = cc
    by false h = refl

with_own : (s : ToSend) (old : Option (List Cell)) → with_part s.id s old ≡ Some (cells_before s.is_delta old ++ cells_in s.part)
with_own s old = by (same s.id s.id) (id_self s.id)
  where
    by : (b : Bool) → b ≡ true → (if b then Some (cells_before s.is_delta old ++ cells_in s.part) else old) ≡ Some (cells_before s.is_delta old ++ cells_in s.part)
    by true h = refl
    by false h = cc

-- ── walks ──

-- a walk over arrays in which dictionaries under some ids stand: what it sends tells what is held, and it leaves all others
pub record Walked (o : Options) (us : List Use) (s t : Sending) (stands : ℤ → Bool) : Type 0 where
  pub more : List ToSend
  pub sent : t.sent ≡ s.sent ++ more
  pub known : (q : ℤ) → heard q more (cells_held (s.held q)) ≡ cells_held (t.held q)
  pub others : (q : ℤ) → stands q ≡ false → (t.held q ≡ s.held q) × ((old : Option (List Cell)) → heard q more old ≡ old)
  pub stand : (c : ℤ → Option (List Cell)) → ((q : ℤ) → stands q ≡ true → c q ≡ cells_held (s.held q)) → AllStand o.deltas us c more

-- a state with the same dictionaries and messages
pub walked_none : (o : Options) (us : List Use) (s t : Sending) (stands : ℤ → Bool) → t.sent ≡ s.sent → ((q : ℤ) → t.held q ≡ s.held q) → Walked o us s t stands
walked_none o us s t stands e f = record {
  more = [];
  sent = e ∙ sym (append-nil s.sent);
  known = λ q. ap cells_held (sym (f q));
  others = λ q h. (f q, λ old. refl);
  stand = λ c h. tt;
}

pub walked_same : (o : Options) (us : List Use) (s t : Sending) (stands : ℤ → Bool) → (r : Result Sending IpcError) → r ≡ Ok s → r ≡ Ok t → Walked o us s t stands
walked_same o us s t stands r e f =
    let is : s ≡ t = cc in
    subst (λ u. Walked o us s u stands) is (walked_none o us s s stands refl (λ q. refl))

pub walked_both : (o : Options) (us : List Use) (s t u : Sending) (f g : ℤ → Bool) → Walked o us s t f → Walked o us t u g → Walked o us s u (λ q. f q || g q)
walked_both o us s t u f g a b = record {
  more = a.more ++ b.more;
  sent = b.sent ∙ ap (λ xs. xs ++ b.more) a.sent ∙ append_assoc s.sent a.more b.more;
  known = λ q. heard-append q a.more b.more (cells_held (s.held q)) ∙ ap (heard q b.more) (a.known q) ∙ b.known q;
  others = λ q h. let both = or_parts (f q) (g q) h in (
    (b.others q both.1).0 ∙ (a.others q both.0).0,
    λ old. heard-append q a.more b.more old ∙ ap (heard q b.more) ((a.others q both.0).1 old) ∙ (b.others q both.1).1 old,
  );
  stand = λ c h. stand-append o.deltas us c a.more b.more (a.stand c (λ q k. h q (either_left (f q) (g q) k)))
      (b.stand (λ q. heard q a.more (c q)) (λ q k. ap (heard q a.more) (h q (either_right (f q) (g q) k)) ∙ a.known q));
}

-- a walk over the parts of the dictionary under an id, of which the messages say something
pub record PartsWalked (o : Options) (us : List Use) (id : ℤ) (s t : Sending) (stands : ℤ → Bool) (Here : List ToSend → Type 0) : Type 0 where
  pub more : List ToSend
  pub sent : t.sent ≡ s.sent ++ more
  pub known : (q : ℤ) → same id q ≡ false → heard q more (cells_held (s.held q)) ≡ cells_held (t.held q)
  pub others : (q : ℤ) → same id q ≡ false → stands q ≡ false → (t.held q ≡ s.held q) × ((old : Option (List Cell)) → heard q more old ≡ old)
  pub here : Here more
  pub stand : (c : ℤ → Option (List Cell)) → ((q : ℤ) → same id q ≡ false → stands q ≡ true → c q ≡ cells_held (s.held q)) → AllStand o.deltas us c more

-- they add the cells from one on to those that are known under the id
abbrev pub Adds : ℤ → ℕ → Forest → List ToSend → Type 0
Adds id n parts more = (y : List Cell) → heard id more (Some y) ≡ Some (y ++ drop n (joined (cells_each parts)))

-- they put all cells in their place
abbrev pub Replaces : ℤ → Forest → List ToSend → Type 0
Replaces id parts more = (old : Option (List Cell)) → heard id more old ≡ Some (joined (cells_each parts))

-- they tell the cells behind those that are held
abbrev pub Becomes : ℤ → Sending → Forest → List ToSend → Type 0
Becomes id s parts more = heard id more (cells_held (s.held id)) ≡ Some (joined (cells_each parts))

pub with_here : (o : Options) (us : List Use) (id : ℤ) (s t : Sending) (stands : ℤ → Bool) (A B : List ToSend → Type 0) → ((more : List ToSend) → A more → B more) → PartsWalked o us id s t stands A → PartsWalked o us id s t stands B
with_here o us id s t stands A B f w = record { more = w.more; sent = w.sent; known = w.known; others = w.others; here = f w.more w.here; stand = w.stand }

-- no part is left
pub none_walked : (o : Options) (us : List Use) (id : ℤ) (n : ℕ) (s t : Sending) (stands : ℤ → Bool) (r : Result Sending IpcError) → r ≡ Ok s → r ≡ Ok t → PartsWalked o us id s t stands (Adds id n none)
none_walked o us id n s t stands r e f =
    let is : s ≡ t = cc in
    subst (λ u. PartsWalked o us id s u stands (Adds id n none)) is (record {
      more = [];
      sent = sym (append-nil s.sent);
      known = λ q d. refl;
      others = λ q d h. (refl, λ old. refl);
      here = λ y. ap Some (sym (append-nil y)) ∙ ap (λ (z : List Cell). Some (y ++ z)) (sym (drop_all n [] (omega arith)));
      stand = λ c h. tt;
    })

-- ── one part ──

-- behind a part that was sent, and the parts behind it as deltas
abbrev Follows : ℤ → Bool → Parts → Forest → List ToSend → Type 0
Follows id d sent ps more = (old : Option (List Cell)) → heard id more old ≡ Some ((cells_before d old ++ cells_in sent) ++ joined (cells_each ps))

-- an id that stands in a part is not that of the dictionary
not_its_own : (f : ℤ → Bool) (id q : ℤ) → f id ≡ false → f q ≡ true → same id q ≡ false
not_its_own f id q a h = by (same id q) refl
  where
    by : (b : Bool) → same id q ≡ b → b ≡ false
    by false e = refl
    by true e = let no : f id ≡ true = ap f (id_true id q e) ∙ h in cc

part_walked : (o : Options) (us : List Use) (used : ℤ → Bool) (id : ℤ) (k : Kind) (below : Ids) (d : Bool) (n : ℕ) (p : Parts) (ps : Forest) (s t : Sending)
    → then_by (array_sent o p None below (scoped used s)) (λ u. parts_sent o used id below true 0 ps (sending (message_of id d (rows_from n p)) s.used u)) ≡ Ok t → stands_in id p None below ≡ false
    → IsAmong (use_as id (kind_with k None below)) us → is_same_kind k (kind_in p) ≡ true → fault_in p ≡ None → n ≤ rows_in p
    → ((u : Sending) → array_sent o p None below (scoped used s) ≡ Ok u → Walked o us (scoped used s) u (λ q. stands_in q p None below) × AreFixed o.deltas u p None below)
    → ((u : Sending) → parts_sent o used id below true 0 ps u ≡ Ok t → PartsWalked o us id u t (λ q. stands_in_parts q ps below) (Adds id 0 ps))
    → PartsWalked o us id s t (λ q. stands_in_parts q (also p ps) below) (Follows id d (rows_from n p) ps)
part_walked o us used id k below d n p ps s t e apart among alike f le first rest =
    let x = rows_from n p in
    let m = message_of id d x in
    let st = stepped (array_sent o p None below (scoped used s)) (λ u. parts_sent o used id below true 0 ps (sending m s.used u)) t e in
    let u = st.0 in
    let w : Walked o us (scoped used s) u (λ q. stands_in q p None below) = (first u st.1).0 in
    let r : PartsWalked o us id (sending m s.used u) t (λ q. stands_in_parts q ps below) (Adds id 0 ps) = rest (sending m s.used u) st.2 in
    record {
      more = w.more ++ m ∷ r.more;
      sent = r.sent ∙ append_assoc u.sent (m ∷ []) r.more ∙ ap (λ xs. xs ++ m ∷ r.more) w.sent ∙ append_assoc s.sent w.more (m ∷ r.more);
      known = λ q c. heard-append q w.more (m ∷ r.more) (cells_held (s.held q)) ∙ ap (heard q (m ∷ r.more)) (w.known q) ∙ ap (heard q r.more) (with_other q m (cells_held (u.held q)) c) ∙ r.known q c;
      others = λ q c h. let both = or_parts (stands_in q p None below) (stands_in_parts q ps below) h in (
        (r.others q c both.1).0 ∙ (w.others q both.0).0,
        λ old. heard-append q w.more (m ∷ r.more) old ∙ ap (heard q (m ∷ r.more)) ((w.others q both.0).1 old) ∙ ap (heard q r.more) (with_other q m old c) ∙ (r.others q c both.1).1 old,
      );
      here = λ old. heard-append id w.more (m ∷ r.more) old ∙ ap (heard id (m ∷ r.more)) ((w.others id apart).1 old) ∙ ap (heard id r.more) (with_own m old) ∙ r.here (cells_before d old ++ cells_in x);
      stand = λ c h.
          let inner = λ (q : ℤ) (g : stands_in q p None below ≡ true). h q (not_its_own (λ z. stands_in z p None below) id q apart g) (either_left (stands_in q p None below) (stands_in_parts q ps below) g) in
          let there = values_known o.deltas u (λ q. heard q w.more (c q)) p None below (first u st.1).1 (λ q g. ap (heard q w.more) (inner q g) ∙ w.known q) in
          stand-append o.deltas us c w.more (m ∷ r.more) (w.stand c inner) (
            record { kind = k; below = below; among = among; alike = subst (λ l. is_same_kind k l ≡ true) (sym (rows_kind n p)) alike; sound = rows_sound n p f le; values = rows_values o.deltas (λ q. heard q w.more (c q)) n p below there },
            r.stand (λ q. with_part q m (heard q w.more (c q))) (λ q f g. with_other q m (heard q w.more (c q)) f ∙ ap (heard q w.more) (h q f (either_right (stands_in q p None below) (stands_in_parts q ps below) g)) ∙ w.known q),
          );
    }

-- the rows of a part from one on
rows_from_cells : (n : ℕ) (p : Parts) → fault_in p ≡ None → n ≤ rows_in p → cells_in (rows_from n p) ≡ drop n (cells_in p)
rows_from_cells zero p f le = refl
rows_from_cells (suc n) p f le =
    let k = rows_in p - suc n in
    let count = length-cells p f in
    cells-part (suc n) k p f (omega arith) ∙ take_all k (drop (suc n) (cells_in p)) (omega (arith, length-drop (suc n) (cells_in p), count))

-- a part behind others, from a row on
pub delta_walked : (o : Options) (us : List Use) (used : ℤ → Bool) (id : ℤ) (k : Kind) (below : Ids) (n : ℕ) (p : Parts) (ps : Forest) (s t : Sending) → parts_sent o used id below true n (also p ps) s ≡ Ok t → fault_in p ≡ None
    → stands_in id p None below ≡ false → IsAmong (use_as id (kind_with k None below)) us → is_same_kind k (kind_in p) ≡ true
    → ((u : Sending) → array_sent o p None below (scoped used s) ≡ Ok u → Walked o us (scoped used s) u (λ q. stands_in q p None below) × AreFixed o.deltas u p None below)
    → ((m : ℕ) (u : Sending) → parts_sent o used id below true m ps u ≡ Ok t → PartsWalked o us id u t (λ q. stands_in_parts q ps below) (Adds id m ps))
    → PartsWalked o us id s t (λ q. stands_in_parts q (also p ps) below) (Adds id n (also p ps))
delta_walked o us used id k below n p ps s t e f apart among alike first rest = by (nat_le (rows_in p) n) refl e
  where
    by : (b : Bool) → nat_le (rows_in p) n ≡ b
        → (if b then parts_sent o used id below true (n - rows_in p) ps s else then_by (array_sent o p None below (scoped used s)) (λ u. parts_sent o used id below true 0 ps (sending (message_of id true (rows_from n p)) s.used u))) ≡ Ok t
        → PartsWalked o us id s t (λ q. stands_in_parts q (also p ps) below) (Adds id n (also p ps))
    by true h g =
        let r : PartsWalked o us id s t (λ q. stands_in_parts q ps below) (Adds id (n - rows_in p) ps) = rest (n - rows_in p) s g in
        let at : length (cells_in p) + (n - rows_in p) ≡ n = omega (arith, length-cells p f, leb-true (rows_in p) n h) in
        let passed : drop (n - rows_in p) (joined (cells_each ps)) ≡ drop n (cells_in p ++ joined (cells_each ps)) = sym (drop-append-add (cells_in p) (joined (cells_each ps)) (n - rows_in p)) ∙ ap (λ j. drop j (cells_in p ++ joined (cells_each ps))) at in
        record {
          more = r.more;
          sent = r.sent;
          known = r.known;
          others = λ q c g. r.others q c (or_parts (stands_in q p None below) (stands_in_parts q ps below) g).1;
          here = λ y. r.here y ∙ ap (λ (z : List Cell). Some (y ++ z)) passed;
          stand = λ c there. r.stand c (λ q own g. there q own (either_right (stands_in q p None below) (stands_in_parts q ps below) g));
        }
    by false h g =
        let le : n ≤ rows_in p = omega (arith, leb-false (rows_in p) n h) in
        let w : PartsWalked o us id s t (λ q. stands_in_parts q (also p ps) below) (Follows id true (rows_from n p) ps) = part_walked o us used id k below true n p ps s t g apart among alike f le first (rest 0) in
        let own : cells_in (rows_from n p) ++ joined (cells_each ps) ≡ drop n (cells_in p ++ joined (cells_each ps)) =
        ap (λ z. z ++ joined (cells_each ps)) (rows_from_cells n p f le) ∙ sym (drop-append-le n (cells_in p) (joined (cells_each ps)) (omega (arith, le, length-cells p f))) in
        with_here o us id s t (λ q. stands_in_parts q (also p ps) below) (Follows id true (rows_from n p) ps) (Adds id n (also p ps))
        (λ more told y. told (Some y) ∙ ap Some (append_assoc y (cells_in (rows_from n p)) (joined (cells_each ps))) ∙ ap (λ (z : List Cell). Some (y ++ z)) own) w

-- the first part, and those behind it
pub first_walked : (o : Options) (us : List Use) (used : ℤ → Bool) (id : ℤ) (k : Kind) (below : Ids) (p : Parts) (ps : Forest) (s t : Sending) → parts_sent o used id below false 0 (also p ps) s ≡ Ok t → fault_in p ≡ None → stands_in id p None below ≡ false
    → IsAmong (use_as id (kind_with k None below)) us → is_same_kind k (kind_in p) ≡ true
    → ((u : Sending) → array_sent o p None below (scoped used s) ≡ Ok u → Walked o us (scoped used s) u (λ q. stands_in q p None below) × AreFixed o.deltas u p None below)
    → ((u : Sending) → parts_sent o used id below true 0 ps u ≡ Ok t → PartsWalked o us id u t (λ q. stands_in_parts q ps below) (Adds id 0 ps))
    → PartsWalked o us id s t (λ q. stands_in_parts q (also p ps) below) (Replaces id (also p ps))
first_walked o us used id k below p ps s t e f apart among alike first rest =
    with_here o us id s t (λ q. stands_in_parts q (also p ps) below) (Follows id false p ps) (Replaces id (also p ps)) (λ more told old. told old) (part_walked o us used id k below false 0 p ps s t e apart among alike f (omega arith) first rest)

-- ── a dictionary ──

-- a dictionary whose parts were walked is held
put_walked : (o : Options) (us : List Use) (id : ℤ) (parts : Forest) (s u : Sending) (f : ℤ → Bool) → PartsWalked o us id s u f (Becomes id s parts) → Walked o us s (holding id parts u) (λ q. same id q || f q)
put_walked o us id parts s u f w = record {
  more = w.more;
  sent = w.sent;
  known = λ q. by_known q (same id q) refl;
  others = λ q h. let both = or_parts (same id q) (f q) h in (held_other q both.0 ∙ (w.others q both.0 both.1).0, (w.others q both.0 both.1).1);
  stand = λ c h. w.stand c (λ q own g. h q (either_right (same id q) (f q) g));
}
  where
    held_other : (q : ℤ) → same id q ≡ false → (if same id q then Some parts else u.held q) ≡ u.held q
    held_other q h = rw h refl

    held_own : (q : ℤ) → same id q ≡ true → (if same id q then Some parts else u.held q) ≡ Some parts
    held_own q h = rw h refl

    by_known : (q : ℤ) (b : Bool) → same id q ≡ b → heard q w.more (cells_held (s.held q)) ≡ cells_held (if same id q then Some parts else u.held q)
    by_known q true h = subst (λ z. heard z w.more (cells_held (s.held z)) ≡ Some (joined (cells_each parts))) (id_true id q h) w.here ∙ ap cells_held (sym (held_own q h))
    by_known q false h = w.known q h ∙ ap cells_held (sym (held_other q h))

-- a dictionary, as it is held or put
pub dictionary_walked : (o : Options) (us : List Use) (may : Option Bool) (start : Option ℕ) (id : ℤ) (parts : Forest) (s t : Sending) (walked : Result Sending IpcError) (f : ℤ → Bool) → dictionary_sent o may start id parts s walked ≡ Ok t
    → ((u : Sending) → walked ≡ Ok u → PartsWalked o us id s u f (Becomes id s parts)) → Walked o us s t (λ q. same id q || f q)
dictionary_walked o us None start id parts s t walked f e h = cc
dictionary_walked o us (Some false) start id parts s t walked f e h =
    let same_state : fixing id s ≡ t = cc in
    subst (λ u. Walked o us s u (λ q. same id q || f q)) same_state (walked_none o us s (fixing id s) (λ q. same id q || f q) refl (λ q. refl))
dictionary_walked o us (Some true) start id parts s t walked f e h =
    let taken = unless_err (not (is_some start) && not o.deltas && has_several parts) NotRepresentable (then_by walked (λ u. Ok (holding id parts u))) t e in
    let st = stepped walked (λ u. Ok (holding id parts u)) t taken in
    let is : holding id parts st.0 ≡ t = let last = st.2 in cc in
    subst (λ u. Walked o us s u (λ q. same id q || f q)) is (put_walked o us id parts s st.0 f (h st.0 st.1))
