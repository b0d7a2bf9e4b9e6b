-- Behind what is sent of arrays the values of their dictionaries are held: an id that is fixed is only gone on with.
use Rattle.std.proofs.Common.{◌≡◌, ℕ, ◌-◌, ◌++◌, ◌||◌, ◌&&◌, ℤ, List, [], Bool, true, false, not, Option, Some, None, Result, Ok, refl, sym, ap, subst, ◌∙◌, append-nil, append_assoc}
use Rattle.std.specs.Prelude.{is_some, nat_le, if◌then◌else◌}
use Rattle.std.specs.Option.{unwrap_or}
use Rattle.arrow_spec.specs.declared.error.IpcError.{IpcError}
use Rattle.arrow_spec.specs.declared.error.IpcError.TheVariants.{NotRepresentable}
use Rattle.arrow_spec.specs.Kinds.{same}
use Rattle.arrow_spec.specs.Cells.{Cell}
use Rattle.ipc_messages.specs.Below.{Indexed, indexed, joined, listed, mapped, sized, structured, tagged, values_kind, Parts, Forest, leaf, nested, none, also, cells_each, rows_in, Ids, id_under, first_id, first_ids, other_ids, allowed, delta_start, standing, Options, Sending, array_sent, arrays_sent, dictionary_sent, fixing, has_several, holding, message_of, parts_sent, rows_from, scoped, sending, then_by}
use Rattle.arrow_spec.proofs.SameIds.{id_self, id_true}
use Rattle.laws_writers.specs.Heard.{AllAreFixed, AreFixed, GoesOn, cells_held}
use Rattle.laws_writers.specs.StreamLaws.{WhatIsSentIsFixed}
use Rattle.laws_writers.proofs.Stands.{kept_same, put_goes_on, same_are_held}
use Rattle.laws_writers.proofs.Steps.{either_left, either_right, stepped, unless_err}

-- ── cells that go on ──

goes_itself : (x : Option (List Cell)) (deltas : Bool) → GoesOn x deltas x
goes_itself None deltas = tt
goes_itself (Some cells) true = ([], ap (λ (z : List Cell). Some z) (sym (append-nil cells)))
goes_itself (Some cells) false = refl

goes_as : (x y : Option (List Cell)) (deltas : Bool) → y ≡ x → GoesOn x deltas y
goes_as x y deltas e = subst (λ z. GoesOn x deltas z) (sym e) (goes_itself x deltas)

goes_both : (x y z : Option (List Cell)) (deltas : Bool) → GoesOn x deltas y → GoesOn y deltas z → GoesOn x deltas z
goes_both None y z deltas g h = tt
goes_both (Some cells) y z true g h =
    let rest : (more : List Cell) × (z ≡ Some ((cells ++ g.0) ++ more)) = subst (λ w. GoesOn w true z) g.1 h in
    (g.0 ++ rest.0, rest.1 ∙ ap (λ (w : List Cell). Some w) (append_assoc cells g.0 rest.0))
goes_both (Some cells) y z false g h = subst (λ w. GoesOn w false z) g h

-- ── ids that are fixed ──

-- what some ids fix is gone on with, and the ids that are fixed stay so
pub record Keeps (deltas : Bool) (used : ℤ → Bool) (s t : Sending) : Type 0 where
  pub grown : (q : ℤ) → s.used q ≡ true → t.used q ≡ true
  pub kept : (q : ℤ) → used q ≡ true → GoesOn (cells_held (s.held q)) deltas (cells_held (t.held q))

keeps_same : (deltas : Bool) (used : ℤ → Bool) (s t : Sending) (r : Result Sending IpcError) → r ≡ Ok s → r ≡ Ok t → Keeps deltas used s t
keeps_same deltas used s t r e f =
    let same_state : s ≡ t = cc in
    subst (λ u. Keeps deltas used s u) same_state (record { grown = λ q h. h; kept = λ q h. goes_itself (cells_held (s.held q)) deltas })

keeps_both : (deltas : Bool) (s t u : Sending) → Keeps deltas s.used s t → Keeps deltas t.used t u → Keeps deltas s.used s u
keeps_both deltas s t u a b = record {
  grown = λ q h. b.grown q (a.grown q h);
  kept = λ q h. goes_both (cells_held (s.held q)) (cells_held (t.held q)) (cells_held (u.held q)) deltas (a.kept q h) (b.kept q (a.grown q h));
}

-- what was fixed of arrays stays so
mutual
  still_fixed : (deltas : Bool) (t u : Sending) (p : Parts) (id : Option ℤ) (below : Ids) → Keeps deltas t.used t u → AreFixed deltas t p id below → AreFixed deltas u p id below
  still_fixed deltas t u (leaf l) id below k a = tt
  still_fixed deltas t u (nested (listed l) cs) id below k a = all_still_fixed deltas t u cs below k a
  still_fixed deltas t u (nested (mapped l) cs) id below k a = all_still_fixed deltas t u cs below k a
  still_fixed deltas t u (nested (sized l) cs) id below k a = all_still_fixed deltas t u cs below k a
  still_fixed deltas t u (nested (structured l) cs) id below k a = all_still_fixed deltas t u cs below k a
  still_fixed deltas t u (nested (tagged l) cs) id below k a = all_still_fixed deltas t u cs below k a
  still_fixed deltas t u (nested (indexed d) parts) id below k a =
      let q = id_under id in
      (k.grown q a.0, goes_both (Some (joined (cells_each parts))) (cells_held (t.held q)) (cells_held (u.held q)) deltas a.1 (k.kept q a.0))

  all_still_fixed : (deltas : Bool) (t u : Sending) (ps : Forest) (below : Ids) → Keeps deltas t.used t u → AllAreFixed deltas t ps below → AllAreFixed deltas u ps below
  all_still_fixed deltas t u none below k a = tt
  all_still_fixed deltas t u (also p ps) below k a = (still_fixed deltas t u p (first_id below) (first_ids below) k a.0, all_still_fixed deltas t u ps (other_ids below) k a.1)

-- ── one part ──

part_keeps : (o : Options) (used : ℤ → Bool) (id : ℤ) (below : Ids) (d b : Bool) (n : ℕ) (p : Parts) (ps : Forest) (s t : Sending)
    → (if b then parts_sent o used id below true (n - rows_in p) ps s else then_by (array_sent o p None below (scoped used s)) (λ u. parts_sent o used id below true 0 ps (sending (message_of id d (rows_from n p)) s.used u))) ≡ Ok t
    → ((u : Sending) → array_sent o p None below (scoped used s) ≡ Ok u → Keeps o.deltas used (scoped used s) u)
    → ((m : ℕ) (u : Sending) → parts_sent o used id below true m ps u ≡ Ok t → Keeps o.deltas used u t) → Keeps o.deltas used s t
part_keeps o used id below d true n p ps s t e first rest = rest (n - rows_in p) s e
part_keeps o used id below d false n p ps s t e first rest =
    let m = message_of id d (rows_from n p) in
    let st = stepped (array_sent o p None below (scoped used s)) (λ u. parts_sent o used id below true 0 ps (sending m s.used u)) t e in
    let u = st.0 in
    let a : Keeps o.deltas used (scoped used s) u = first u st.1 in
    let b : Keeps o.deltas used (sending m s.used u) t = rest 0 (sending m s.used u) st.2 in
    record {
      grown = λ q h. b.grown q (either_left (s.used q) (u.used q) h);
      kept = λ q h. goes_both (cells_held (s.held q)) (cells_held (u.held q)) (cells_held (t.held q)) o.deltas (a.kept q h) (b.kept q h);
    }

-- ── a dictionary ──

-- an array's ids are fixed
pub record Fixes (deltas : Bool) (s t : Sending) (p : Parts) (id : Option ℤ) (below : Ids) : Type 0 where
  pub keeps : Keeps deltas s.used s t
  pub fixed : AreFixed deltas t p id below

-- a dictionary that is held, or put
dictionary_fixes : (o : Options) (d : Indexed) (parts : Forest) (id : Option ℤ) (below : Ids) (may : Option Bool) (start : Option ℕ) (s t : Sending) (walked : Result Sending IpcError)
    → allowed (o.cannot_replace || s.used (id_under id)) o.deltas (standing (s.held (id_under id)) (values_kind d.kind) parts) ≡ may → dictionary_sent o may start (id_under id) parts s walked ≡ Ok t
    → ((u : Sending) → walked ≡ Ok u → Keeps o.deltas s.used s u) → Fixes o.deltas s t (nested (indexed d) parts) id below
dictionary_fixes o d parts id below None start s t walked m e h = cc
dictionary_fixes o d parts id below (Some false) start s t walked m e h =
    let q = id_under id in
    let st = standing (s.held q) (values_kind d.kind) parts in
    let there : cells_held (s.held q) ≡ Some (joined (cells_each parts)) = same_are_held (s.held q) (values_kind d.kind) parts (kept_same (o.cannot_replace || s.used q) o.deltas st m) in
    let is : fixing q s ≡ t = cc in
    subst (λ u. Fixes o.deltas s u (nested (indexed d) parts) id below) is (record {
      keeps = record { grown = λ z g. either_left (s.used z) (same q z) g; kept = λ z g. goes_itself (cells_held (s.held z)) o.deltas };
      fixed = (either_right (s.used q) (same q q) (id_self q), goes_as (Some (joined (cells_each parts))) (cells_held (s.held q)) o.deltas there);
    })
dictionary_fixes o d parts id below (Some true) start s t walked m e h =
    let q = id_under id in
    let taken = unless_err (not (is_some start) && not o.deltas && has_several parts) NotRepresentable (then_by walked (λ u. Ok (holding q parts u))) t e in
    let st = stepped walked (λ u. Ok (holding q parts u)) t taken in
    let is : holding q parts st.0 ≡ t = let last = st.2 in cc in
    let k : Keeps o.deltas s.used s st.0 = h st.0 st.1 in
    subst (λ u. Fixes o.deltas s u (nested (indexed d) parts) id below) is (record {
      keeps = record { grown = λ z g. either_left (st.0.used z) (same q z) (k.grown z g); kept = λ z g. kept_by st.0 z (same q z) refl g (k.kept z g) };
      fixed = (either_right (st.0.used q) (same q q) (id_self q), goes_as (Some (joined (cells_each parts))) (cells_held (held_at st.0 q)) o.deltas (ap cells_held (held_own st.0 q (id_self q))));
    })
  where
    held_at : Sending → ℤ → Option Forest
    held_at u z = if same (id_under id) z then Some parts else u.held z

    held_own : (u : Sending) (z : ℤ) → same (id_under id) z ≡ true → held_at u z ≡ Some parts
    held_own u z g = rw g refl

    held_other : (u : Sending) (z : ℤ) → same (id_under id) z ≡ false → held_at u z ≡ u.held z
    held_other u z g = rw g refl

    kept_by : (u : Sending) (z : ℤ) (b : Bool) → same (id_under id) z ≡ b → s.used z ≡ true → GoesOn (cells_held (s.held z)) o.deltas (cells_held (u.held z)) → GoesOn (cells_held (s.held z)) o.deltas (cells_held (held_at u z))
    kept_by u z false g used k = subst (λ w. GoesOn (cells_held (s.held z)) o.deltas (cells_held w)) (sym (held_other u z g)) k
    kept_by u z true g used k =
        let q = id_under id in
        let same_id : q ≡ z = id_true q z g in
        let own : s.used q ≡ true = ap s.used same_id ∙ used in
        let here : GoesOn (cells_held (s.held q)) o.deltas (Some (joined (cells_each parts))) = put_goes_on (o.cannot_replace || s.used q) o.deltas (s.held q) (values_kind d.kind) parts (either_right o.cannot_replace (s.used q) own) m in
        subst (λ w. GoesOn (cells_held (s.held z)) o.deltas (cells_held w)) (sym (held_own u z g)) (subst (λ w. GoesOn (cells_held (s.held w)) o.deltas (Some (joined (cells_each parts)))) same_id here)

-- ── arrays ──

mutual
  pub array_fixes : (o : Options) (p : Parts) (id : Option ℤ) (below : Ids) (s t : Sending) → array_sent o p id below s ≡ Ok t → Fixes o.deltas s t p id below
  array_fixes o (leaf l) id below s t e = record { keeps = keeps_same o.deltas s.used s t (Ok s) refl e; fixed = tt }
  array_fixes o (nested (listed l) cs) id below s t e = let f = arrays_fix o cs below s t e in record { keeps = f.0; fixed = f.1 }
  array_fixes o (nested (mapped l) cs) id below s t e = let f = arrays_fix o cs below s t e in record { keeps = f.0; fixed = f.1 }
  array_fixes o (nested (sized l) cs) id below s t e = let f = arrays_fix o cs below s t e in record { keeps = f.0; fixed = f.1 }
  array_fixes o (nested (structured l) cs) id below s t e = let f = arrays_fix o cs below s t e in record { keeps = f.0; fixed = f.1 }
  array_fixes o (nested (tagged l) cs) id below s t e = let f = arrays_fix o cs below s t e in record { keeps = f.0; fixed = f.1 }
  array_fixes o (nested (indexed d) parts) id below s t e =
      let q = id_under id in
      let st = standing (s.held q) (values_kind d.kind) parts in
      let start = delta_start o.deltas st in
      dictionary_fixes o d parts id below (allowed (o.cannot_replace || s.used q) o.deltas st) start s t (parts_sent o s.used q below (is_some start) (unwrap_or start 0) parts s) refl e
      (λ u k. parts_keep o s.used q below (is_some start) (unwrap_or start 0) parts s u k)

  arrays_fix : (o : Options) (ps : Forest) (below : Ids) (s t : Sending) → arrays_sent o ps below s ≡ Ok t → Keeps o.deltas s.used s t × AllAreFixed o.deltas t ps below
  arrays_fix o none below s t e = (keeps_same o.deltas s.used s t (Ok s) refl e, tt)
  arrays_fix o (also p ps) below s t e =
      let st = stepped (array_sent o p (first_id below) (first_ids below) s) (arrays_sent o ps (other_ids below)) t e in
      let first = array_fixes o p (first_id below) (first_ids below) s st.0 st.1 in
      let rest = arrays_fix o ps (other_ids below) st.0 t st.2 in
      (keeps_both o.deltas s st.0 t first.keeps rest.0, (still_fixed o.deltas st.0 t p (first_id below) (first_ids below) rest.0 first.fixed, rest.1))

  parts_keep : (o : Options) (used : ℤ → Bool) (id : ℤ) (below : Ids) (d : Bool) (n : ℕ) (ps : Forest) (s t : Sending) → parts_sent o used id below d n ps s ≡ Ok t → Keeps o.deltas used s t
  parts_keep o used id below d n none s t e = keeps_same o.deltas used s t (Ok s) refl e
  parts_keep o used id below d n (also p ps) s t e =
      part_keeps o used id below d (d && nat_le (rows_in p) n) n p ps s t e (λ u k. (array_fixes o p None below (scoped used s) u k).keeps) (λ m u k. parts_keep o used id below true m ps u t k)

pub sent_is_fixed : WhatIsSentIsFixed
sent_is_fixed o ps below s t e = (arrays_fix o ps below s t e).1
