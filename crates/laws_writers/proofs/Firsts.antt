-- A walk that may replace no dictionary sends of each id one message that is no delta, before all others.
use Rattle.std.proofs.Common.{◌≡◌, ℕ, ◌-◌, ◌++◌, ◌||◌, ◌&&◌, ℤ, List, [], ◌∷◌, Bool, true, false, not, Option, Some, None, Result, Ok, refl, sym, ap, subst, ◌∙◌, append-nil, append_assoc, inl, inr, ◌⊎◌}
use Rattle.std.specs.Prelude.{is_some, nat_le, if◌then◌else◌}
use Rattle.std.specs.Option.{unwrap_or}
use Rattle.std.proofs.lemmas.Bool.{or_parts}
use Rattle.arrow_spec.specs.declared.error.IpcError.{IpcError}
use Rattle.arrow_spec.specs.declared.error.IpcError.TheVariants.{NotRepresentable}
use Rattle.arrow_spec.specs.Kinds.{Kind, same}
use Rattle.arrow_spec.specs.Cells.{Cell}
use Rattle.arrow_spec.specs.Arrays.{cells_before}
use Rattle.ipc_messages.specs.Below.{indexed, listed, mapped, sized, structured, tagged, values_kind, Parts, Forest, leaf, nested, none, also, cells_in, rows_in, Ids, first_id, first_ids, id_under, other_ids, Standing, Absent, Same, Longer, Other, allowed, delta_start, standing, Options, Sending, ToSend, array_sent, arrays_sent, dictionary_sent, fixing, has_several, holding, message_of, parts_sent, rows_from, scoped, sending, then_by}
use Rattle.arrow_spec.proofs.SameIds.{id_self, id_true}
use Rattle.laws_writers.specs.Heard.{AreApart, IsApart, PartsAreApart, heard, stands_in, stands_in_each, stands_in_parts, with_part}
use Rattle.laws_writers.proofs.Stands.{never_absent}
use Rattle.laws_writers.proofs.Steps.{either_left, either_right, stepped, unless_err}
use Rattle.laws_writers.specs.Firsts.{AreFirst}

-- ── messages ──

abbrev Heard : Type 0
Heard = ℤ → Option (List Cell)

heard-append : (q : ℤ) (xs ys : List ToSend) (old : Option (List Cell)) → heard q (xs ++ ys) old ≡ heard q ys (heard q xs old)
heard-append q [] ys old = refl
heard-append q (x ∷ xs) ys old = heard-append q xs ys (with_part q x old)

first-append : (c : Heard) (xs ys : List ToSend) → AreFirst c xs → AreFirst (λ q. heard q xs (c q)) ys → AreFirst c (xs ++ ys)
first-append c [] ys h k = k
first-append c (x ∷ xs) ys h k = (h.0, first-append (λ q. with_part q x (c q)) xs ys h.1 k)

with_other : (q : ℤ) (s : ToSend) (old : Option (List Cell)) → same s.id q ≡ false → with_part q s old ≡ old
with_other q s old d = by (same s.id q) d
  where
    by : (b : Bool) → b ≡ false → (if b then Some (cells_before s.is_delta old ++ cells_in s.part) else old) ≡ old
    by true h = cc
    by false h = refl

either : (a b : Bool) → (a || b) ≡ true → (a ≡ true) ⊎ ((a ≡ false) × (b ≡ true))
either true b h = inl refl
either false b h = inr (refl, h)

which : (a : Bool) → (a ≡ true) ⊎ (a ≡ false)
which true = inl refl
which false = inr refl

-- ── walks ──

-- where nothing is held nothing is known, under some ids
abbrev NoneWhere : (ℤ → Bool) → Sending → Heard → Type 0
NoneWhere f s c = (q : ℤ) → f q ≡ true → s.held q ≡ None → c q ≡ None

-- a walk over arrays in which dictionaries under some ids stand
pub record Firsts (s t : Sending) (stands : ℤ → Bool) : Type 0 where
  pub more : List ToSend
  pub sent : t.sent ≡ s.sent ++ more
  pub others : (q : ℤ) → stands q ≡ false → (t.held q ≡ s.held q) × ((old : Option (List Cell)) → heard q more old ≡ old)
  pub first : (c : Heard) → NoneWhere stands s c → AreFirst c more
  pub behind : (c : Heard) → NoneWhere stands s c → NoneWhere stands t (λ q. heard q more (c q))

firsts_none : (s t : Sending) (stands : ℤ → Bool) → t.sent ≡ s.sent → ((q : ℤ) → t.held q ≡ s.held q) → Firsts s t stands
firsts_none s t stands e f = record {
  more = [];
  sent = e ∙ sym (append-nil s.sent);
  others = λ q h. (f q, λ old. refl);
  first = λ c h. tt;
  behind = λ c h q g gone. h q g (sym (f q) ∙ gone);
}

firsts_same : (s t : Sending) (stands : ℤ → Bool) (r : Result Sending IpcError) → r ≡ Ok s → r ≡ Ok t → Firsts s t stands
firsts_same s t stands r e f =
    let is : s ≡ t = cc in
    subst (λ u. Firsts s u stands) is (firsts_none s s stands refl (λ q. refl))

firsts_both : (s t u : Sending) (f g : ℤ → Bool) → Firsts s t f → Firsts t u g → Firsts s u (λ q. f q || g q)
firsts_both s t u f g a b = record {
  more = a.more ++ b.more;
  sent = b.sent ∙ ap (λ xs. xs ++ b.more) a.sent ∙ append_assoc s.sent a.more b.more;
  others = λ q h. let both = or_parts (f q) (g q) h in (
    (b.others q both.1).0 ∙ (a.others q both.0).0,
    λ old. heard-append q a.more b.more old ∙ ap (heard q b.more) ((a.others q both.0).1 old) ∙ (b.others q both.1).1 old,
  );
  first = λ c h. first-append c a.more b.more (a.first c (λ q k. h q (either_left (f q) (g q) k))) (b.first (λ q. heard q a.more (c q)) (between c h));
  behind = λ c h q k gone. heard-append q a.more b.more (c q) ∙ elim (which (g q)) [
    | inl here ↦ b.behind (λ q. heard q a.more (c q)) (between c h) q here gone
    | inr other ↦ (b.others q other).1 (heard q a.more (c q)) ∙ after c h q k (sym (b.others q other).0 ∙ gone)
  ];
}
  where
    after : (c : Heard) → NoneWhere (λ q. f q || g q) s c → (q : ℤ) → (f q || g q) ≡ true → t.held q ≡ None → heard q a.more (c q) ≡ None
    after c h q k gone = elim (which (f q)) [
      | inl here ↦ a.behind c (λ z y. h z (either_left (f z) (g z) y)) q here gone
      | inr other ↦ (a.others q other).1 (c q) ∙ h q k (sym (a.others q other).0 ∙ gone)
    ]

    between : (c : Heard) → NoneWhere (λ q. f q || g q) s c → NoneWhere g t (λ q. heard q a.more (c q))
    between c h q here gone = after c h q (either_right (f q) (g q) here) gone

-- ── parts of a dictionary ──

-- the same but for the dictionary's own id
abbrev NoneBut : ℤ → (ℤ → Bool) → Sending → Heard → Type 0
NoneBut id f s c = (q : ℤ) → same id q ≡ false → f q ≡ true → s.held q ≡ None → c q ≡ None

-- a walk over the parts of the dictionary under an id; the first message under it is a delta, or is new
pub record PartsFirsts (id : ℤ) (new : Bool) (s t : Sending) (stands : ℤ → Bool) : Type 0 where
  pub more : List ToSend
  pub sent : t.sent ≡ s.sent ++ more
  pub others : (q : ℤ) → same id q ≡ false → stands q ≡ false → (t.held q ≡ s.held q) × ((old : Option (List Cell)) → heard q more old ≡ old)
  pub first : (c : Heard) → NoneBut id stands s c → (new ≡ true → c id ≡ None) → AreFirst c more
  pub behind : (c : Heard) → NoneBut id stands s c → NoneBut id stands t (λ q. heard q more (c q))

no_parts : (id : ℤ) (new : Bool) (s t : Sending) (stands : ℤ → Bool) (r : Result Sending IpcError) → r ≡ Ok s → r ≡ Ok t → PartsFirsts id new s t stands
no_parts id new s t stands r e f =
    let is : s ≡ t = cc in
    subst (λ u. PartsFirsts id new s u stands) is (record {
      more = [];
      sent = sym (append-nil s.sent);
      others = λ q d h. (refl, λ old. refl);
      first = λ c h n. tt;
      behind = λ c h. h;
    })

-- an id that stands in a part is not that of the dictionary
not_its_own : (f : ℤ → Bool) (id q : ℤ) → f id ≡ false → f q ≡ true → same id q ≡ false
not_its_own f id q a h = by (same id q) refl
  where
    by : (b : Bool) → same id q ≡ b → b ≡ false
    by false e = refl
    by true e = let gone : f id ≡ true = ap f (id_true id q e) ∙ h in cc

module _ (o : Options) (used : ℤ → Bool) (id : ℤ) (below : Ids) where
  part_firsts : (d : Bool) (n : ℕ) (p : Parts) (ps : Forest) (s t : Sending) → then_by (array_sent o p None below (scoped used s)) (λ u. parts_sent o used id below true 0 ps (sending (message_of id d (rows_from n p)) s.used u)) ≡ Ok t → stands_in id p None below ≡ false
      → ((u : Sending) → array_sent o p None below (scoped used s) ≡ Ok u → Firsts (scoped used s) u (λ q. stands_in q p None below))
      → ((u : Sending) → parts_sent o used id below true 0 ps u ≡ Ok t → PartsFirsts id false u t (λ q. stands_in_parts q ps below))
      → PartsFirsts id (not d) s t (λ q. stands_in_parts q (also p ps) below)
  part_firsts d n p ps s t e apart inside rest =
      let m = message_of id d (rows_from n p) in
      let st = stepped (array_sent o p None below (scoped used s)) (λ u. parts_sent o used id below true 0 ps (sending m s.used u)) t e in
      let u = st.0 in
      let w : Firsts (scoped used s) u (λ q. stands_in q p None below) = inside u st.1 in
      let r : PartsFirsts id false (sending m s.used u) t (λ q. stands_in_parts q ps below) = rest (sending m s.used u) st.2 in
      let f = λ (q : ℤ). stands_in q p None below in
      let g = λ (q : ℤ). stands_in_parts q ps below in
      let within = λ (c : Heard) (h : NoneBut id (λ q. f q || g q) s c) (q : ℤ) (here : f q ≡ true) (gone : s.held q ≡ None). h q (not_its_own f id q apart here) (either_left (f q) (g q) here) gone in
      let after : (c : Heard) → NoneBut id (λ q. f q || g q) s c → (q : ℤ) → same id q ≡ false → (f q || g q) ≡ true → u.held q ≡ None → with_part q m (heard q w.more (c q)) ≡ None = λ c h q own k gone. with_other q m (heard q w.more (c q)) own ∙ elim (which (f q)) [
        | inl here ↦ w.behind c (within c h) q here gone
        | inr other ↦ (w.others q other).1 (c q) ∙ h q own k (sym (w.others q other).0 ∙ gone)
      ] in
      record {
        more = w.more ++ m ∷ r.more;
        sent = r.sent ∙ append_assoc u.sent (m ∷ []) r.more ∙ ap (λ xs. xs ++ m ∷ r.more) w.sent ∙ append_assoc s.sent w.more (m ∷ r.more);
        others = λ q own h. let both = or_parts (f q) (g q) h in (
          (r.others q own both.1).0 ∙ (w.others q both.0).0,
          λ old. heard-append q w.more (m ∷ r.more) old ∙ ap (heard q (m ∷ r.more)) ((w.others q both.0).1 old) ∙ ap (heard q r.more) (with_other q m old own) ∙ (r.others q own both.1).1 old,
        );
        first = λ c h new. first-append c w.more (m ∷ r.more) (w.first c (within c h)) (
          λ is. (w.others id apart).1 (c id) ∙ new (ap not is),
          r.first (λ q. with_part q m (heard q w.more (c q))) (λ q own here gone. after c h q own (either_right (f q) (g q) here) gone) (λ gone. let x : false ≡ true = gone in cc),
        );
        behind = λ c h q own k gone. heard-append q w.more (m ∷ r.more) (c q) ∙ elim (which (g q)) [
          | inl here ↦ r.behind (λ q. with_part q m (heard q w.more (c q))) (λ z own here gone. after c h z own (either_right (f z) (g z) here) gone) q own here gone
          | inr other ↦ (r.others q own other).1 (with_part q m (heard q w.more (c q))) ∙ after c h q own k (sym (r.others q own other).0 ∙ gone)
        ];
      }

  -- a part that is passed over
  passed_firsts : (new : Bool) (p : Parts) (ps : Forest) (s t : Sending) → PartsFirsts id new s t (λ q. stands_in_parts q ps below) → PartsFirsts id new s t (λ q. stands_in_parts q (also p ps) below)
  passed_firsts new p ps s t r =
      let f = λ (q : ℤ). stands_in q p None below in
      let g = λ (q : ℤ). stands_in_parts q ps below in
      record {
        more = r.more;
        sent = r.sent;
        others = λ q own h. r.others q own (or_parts (f q) (g q) h).1;
        first = λ c h new. r.first c (λ q own here gone. h q own (either_right (f q) (g q) here) gone) new;
        behind = λ c h q own k gone. elim (which (g q)) [
          | inl here ↦ r.behind c (λ z own here gone. h z own (either_right (f z) (g z) here) gone) q own here gone
          | inr other ↦ (r.others q own other).1 (c q) ∙ h q own k (sym (r.others q own other).0 ∙ gone)
        ];
      }

  delta_firsts : (n : ℕ) (p : Parts) (ps : Forest) (s t : Sending) → parts_sent o used id below true n (also p ps) s ≡ Ok t → stands_in id p None below ≡ false
      → ((u : Sending) → array_sent o p None below (scoped used s) ≡ Ok u → Firsts (scoped used s) u (λ q. stands_in q p None below))
      → ((m : ℕ) (u : Sending) → parts_sent o used id below true m ps u ≡ Ok t → PartsFirsts id false u t (λ q. stands_in_parts q ps below))
      → PartsFirsts id false s t (λ q. stands_in_parts q (also p ps) below)
  delta_firsts n p ps s t e apart inside rest = by (nat_le (rows_in p) n) e
    where
      by : (b : Bool)
          → (if b then parts_sent o used id below true (n - rows_in p) ps s else then_by (array_sent o p None below (scoped used s)) (λ u. parts_sent o used id below true 0 ps (sending (message_of id true (rows_from n p)) s.used u))) ≡ Ok t
          → PartsFirsts id false s t (λ q. stands_in_parts q (also p ps) below)
      by true g = passed_firsts false p ps s t (rest (n - rows_in p) s g)
      by false g = part_firsts true n p ps s t g apart inside (rest 0)

-- ── a dictionary ──

-- a dictionary whose parts were walked is held
put_firsts : (id : ℤ) (new : Bool) (parts : Forest) (s u : Sending) (f : ℤ → Bool) → PartsFirsts id new s u f → (new ≡ true → s.held id ≡ None) → Firsts s (holding id parts u) (λ q. same id q || f q)
put_firsts id new parts s u f w absent = record {
  more = w.more;
  sent = w.sent;
  others = λ q h. let both = or_parts (same id q) (f q) h in (held_other q both.0 ∙ (w.others q both.0 both.1).0, (w.others q both.0 both.1).1);
  first = λ c h. w.first c (inner c h) (λ is. h id (either_left (same id id) (f id) (id_self id)) (absent is));
  behind = λ c h q k gone. elim (either (same id q) (f q) k) [
    | inl own ↦ let never : Some parts ≡ None = sym (held_own q own) ∙ gone in absurd (cc)
    | inr other ↦ w.behind c (inner c h) q other.0 other.1 (sym (held_other q other.0) ∙ gone)
  ];
}
  where
    held_other : (q : ℤ) → same id q ≡ false → (if same id q then Some parts else u.held q) ≡ u.held q
    held_other q h = rw h refl

    held_own : (q : ℤ) → same id q ≡ true → (if same id q then Some parts else u.held q) ≡ Some parts
    held_own q h = rw h refl

    inner : (c : Heard) → NoneWhere (λ q. same id q || f q) s c → NoneBut id f s c
    inner c h q own here gone = h q (either_right (same id q) (f q) here) gone

-- its parts are walked as new, or as deltas
pub record Begins (id : ℤ) (s u : Sending) (f : ℤ → Bool) : Type 0 where
  pub new : Bool
  pub walk : PartsFirsts id new s u f
  pub absent : new ≡ true → s.held id ≡ None

dictionary_firsts : (o : Options) (may : Option Bool) (start : Option ℕ) (id : ℤ) (parts : Forest) (s t : Sending) (walked : Result Sending IpcError) (f : ℤ → Bool) → dictionary_sent o may start id parts s walked ≡ Ok t
    → ((u : Sending) → may ≡ Some true → walked ≡ Ok u → Begins id s u f) → Firsts s t (λ q. same id q || f q)
dictionary_firsts o None start id parts s t walked f e h = cc
dictionary_firsts o (Some false) start id parts s t walked f e h =
    let same_state : fixing id s ≡ t = cc in
    subst (λ u. Firsts s u (λ q. same id q || f q)) same_state (firsts_none s (fixing id s) (λ q. same id q || f q) refl (λ q. refl))
dictionary_firsts o (Some true) start id parts s t walked f e h =
    let taken = unless_err (not (is_some start) && not o.deltas && has_several parts) NotRepresentable (then_by walked (λ u. Ok (holding id parts u))) t e in
    let st = stepped walked (λ u. Ok (holding id parts u)) t taken in
    let is : holding id parts st.0 ≡ t = let last = st.2 in cc in
    let b = h st.0 refl st.1 in
    subst (λ u. Firsts s u (λ q. same id q || f q)) is (put_firsts id b.new parts s st.0 f b.walk b.absent)

-- values that are put whole where none may be replaced are the first under their id
whole_is_new : (deltas : Bool) (held : Option Forest) (k : Kind) (parts : Forest) → allowed true deltas (standing held k parts) ≡ Some true → delta_start deltas (standing held k parts) ≡ None → held ≡ None
whole_is_new deltas None k parts e f = refl
whole_is_new deltas (Some old) k parts e f = by deltas (standing (Some old) k parts) refl e f
  where
    by : (d : Bool) (st : Standing) → standing (Some old) k parts ≡ st → allowed true d st ≡ Some true → delta_start d st ≡ None → Some old ≡ None
    by d Absent g h i = absurd (never_absent old parts k g)
    by d Same g h i = absurd (let gone : Some false ≡ Some true = h in cc)
    by true (Longer n) g h i = absurd (let gone : Some n ≡ None = i in cc)
    by false (Longer n) g h i = absurd (let gone : None ≡ Some true = h in cc)
    by d Other g h i = absurd (let gone : None ≡ Some true = h in cc)

-- ── arrays ──

module _ (o : Options) (kept : o.cannot_replace ≡ true) where
  fixed : (used : Bool) (st : Standing) → allowed (o.cannot_replace || used) o.deltas st ≡ Some true → allowed true o.deltas st ≡ Some true
  fixed used st h = ap (λ b. allowed (b || used) o.deltas st) (sym kept) ∙ h

  parts_begin : (start : Option ℕ) (parts : Forest) (k : Kind) (id : ℤ) (below : Ids) (s u : Sending) → delta_start o.deltas (standing (s.held id) k parts) ≡ start → allowed true o.deltas (standing (s.held id) k parts) ≡ Some true
      → parts_sent o s.used id below (is_some start) (unwrap_or start 0) parts s ≡ Ok u
      → (parts_sent o s.used id below false 0 parts s ≡ Ok u → PartsFirsts id true s u (λ z. stands_in_parts z parts below))
      → ((n : ℕ) → parts_sent o s.used id below true n parts s ≡ Ok u → PartsFirsts id false s u (λ z. stands_in_parts z parts below)) → Begins id s u (λ z. stands_in_parts z parts below)
  parts_begin None parts k id below s u is may h all deltas = record { new = true; walk = all h; absent = λ e. whole_is_new o.deltas (s.held id) k parts may is }
  parts_begin (Some n) parts k id below s u is may h all deltas = record { new = false; walk = deltas n h; absent = λ e. cc }

  mutual
    array_firsts : (p : Parts) (id : Option ℤ) (below : Ids) (s t : Sending) → array_sent o p id below s ≡ Ok t → IsApart p id below → Firsts s t (λ q. stands_in q p id below)
    array_firsts (leaf l) id below s t e a = firsts_same s t (λ q. stands_in q (leaf l) id below) (Ok s) refl e
    array_firsts (nested (listed l) cs) id below s t e a = arrays_firsts cs below s t e a
    array_firsts (nested (mapped l) cs) id below s t e a = arrays_firsts cs below s t e a
    array_firsts (nested (sized l) cs) id below s t e a = arrays_firsts cs below s t e a
    array_firsts (nested (structured l) cs) id below s t e a = arrays_firsts cs below s t e a
    array_firsts (nested (tagged l) cs) id below s t e a = arrays_firsts cs below s t e a
    array_firsts (nested (indexed d) parts) id below s t e a =
        let q = id_under id in
        let st = standing (s.held q) (values_kind d.kind) parts in
        dictionary_firsts o (allowed (o.cannot_replace || s.used q) o.deltas st) (delta_start o.deltas st) q parts s t (parts_sent o s.used q below (is_some (delta_start o.deltas st)) (unwrap_or (delta_start o.deltas st) 0) parts s) (λ z. stands_in_parts z parts below) e
        (λ u may h. parts_begin (delta_start o.deltas st) parts (values_kind d.kind) q below s u refl (fixed (s.used q) st may) h (λ i. all_firsts s.used q below parts s u i a.0 a.1) (λ n i. deltas_firsts s.used q below n parts s u i a.0 a.1))

    pub arrays_firsts : (ps : Forest) (below : Ids) (s t : Sending) → arrays_sent o ps below s ≡ Ok t → AreApart ps below → Firsts s t (λ q. stands_in_each q ps below)
    arrays_firsts none below s t e a = firsts_same s t (λ q. stands_in_each q none below) (Ok s) refl e
    arrays_firsts (also p ps) below s t e a =
        let st = stepped (array_sent o p (first_id below) (first_ids below) s) (arrays_sent o ps (other_ids below)) t e in
        firsts_both s st.0 t (λ q. stands_in q p (first_id below) (first_ids below)) (λ q. stands_in_each q ps (other_ids below)) (array_firsts p (first_id below) (first_ids below) s st.0 st.1 a.0) (arrays_firsts ps (other_ids below) st.0 t st.2 a.1)

    deltas_firsts : (used : ℤ → Bool) (id : ℤ) (below : Ids) (n : ℕ) (ps : Forest) (s t : Sending) → parts_sent o used id below true n ps s ≡ Ok t → stands_in_parts id ps below ≡ false → PartsAreApart ps below → PartsFirsts id false s t (λ q. stands_in_parts q ps below)
    deltas_firsts used id below n none s t e apart a = no_parts id false s t (λ q. stands_in_parts q none below) (Ok s) refl e
    deltas_firsts used id below n (also p ps) s t e apart a =
        let both = or_parts (stands_in id p None below) (stands_in_parts id ps below) apart in
        delta_firsts o used id below n p ps s t e both.0 (λ u h. array_firsts p None below (scoped used s) u h a.0) (λ m u h. deltas_firsts used id below m ps u t h both.1 a.1)

    all_firsts : (used : ℤ → Bool) (id : ℤ) (below : Ids) (ps : Forest) (s t : Sending) → parts_sent o used id below false 0 ps s ≡ Ok t → stands_in_parts id ps below ≡ false → PartsAreApart ps below → PartsFirsts id true s t (λ q. stands_in_parts q ps below)
    all_firsts used id below none s t e apart a = no_parts id true s t (λ q. stands_in_parts q none below) (Ok s) refl e
    all_firsts used id below (also p ps) s t e apart a =
        let both = or_parts (stands_in id p None below) (stands_in_parts id ps below) apart in
        part_firsts o used id below false 0 p ps s t e both.0 (λ u h. array_firsts p None below (scoped used s) u h a.0) (λ u h. deltas_firsts used id below 0 ps u t h both.1 a.1)
