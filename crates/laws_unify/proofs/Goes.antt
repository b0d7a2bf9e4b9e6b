-- Lists only go on, so that each dictionary that was taken stands in the lists of all.
use Rattle.std.proofs.Common.{◌≡◌, ◌∙◌, sym, refl, ap, subst, ℕ, suc, ◌+◌, ◌-◌, ◌<◌, ◌≤◌, List, [], ◌∷◌, ◌++◌, length, Bool, true, false, None, arith, inl, inr, ◌⊎◌, ◌≢◌}
use Rattle.std.specs.Prelude.{nat_eq, nat_le}
use Rattle.std.proofs.lemmas.Bool.Decides.{eqb_tells}
use Rattle.std.specs.List.{sum}
use Rattle.std.proofs.lemmas.Bool.{eq-eqb, eqb-true}
use Rattle.std.proofs.lemmas.List.{length-append}
use Rattle.std.proofs.lemmas.List.Sums.{sum_by-cons}
use Rattle.arrow_spec.specs.Kinds.{dictionary_count}
use Rattle.arrow_arrays.specs.Batches.{Batch}
use Rattle.arrow_arrays.specs.Heads.{Cut, whole, run, cut_of, indexed, listed, mapped, sized, structured, tagged, have_keys}
use Rattle.arrow_arrays.specs.Parts.{Forest, Parts, also, leaf, nested, none, cells_in, cut, fault_each, fault_in, forest, kind_in, part_of, rows_each, rows_in}
use Rattle.arrow_arrays.proofs.Sliced.{kind-part, length-cells, neither, top_sound}
use Rattle.laws_unify.specs.Lists.{StandsAt, with_values}
use Rattle.laws_unify.specs.Over.{Covers, CoversEach, Lists, is_same_cell, values_of}
use Rattle.laws_unify.specs.Stands.{AreSound, StandInParts, StandsIn, StandsInEach}
use Rattle.laws_unify.specs.United.{behind, held_in, parts_from, put, rows_from, taken, taken_batches, taken_each, taken_parts, with_parts}
use Rattle.laws_unify.proofs.Cells.{is_cell_test}
use Rattle.laws_unify.proofs.Fits.{Says, fit_stays, no, says, yes}
use Rattle.laws_unify.proofs.Parts.{parts_are_the_list, values_behind}

-- ── lists that go on ──

-- each list begins with what it was
abbrev pub GoesOn : Lists → Lists → Type 0
GoesOn us ws = (q : ℕ) → (more : Forest) × (ws q ≡ behind (us q) more)

pub behind-none : (ps : Forest) → behind ps none ≡ ps
behind-none none = refl
behind-none (also p ps) = ap (also p) (behind-none ps)

pub behind-behind : (ps qs rs : Forest) → behind (behind ps qs) rs ≡ behind ps (behind qs rs)
behind-behind none qs rs = refl
behind-behind (also p ps) qs rs = ap (also p) (behind-behind ps qs rs)

pub stays : (us : Lists) → GoesOn us us
stays us q = (none, sym (behind-none (us q)))

pub goes_through : (us vs ws : Lists) → GoesOn us vs → GoesOn vs ws → GoesOn us ws
goes_through us vs ws a b q =
    let m = a q in
    let n = b q in
    (behind m.0 n.0, n.1 ∙ ap (λ ps. behind ps n.0) m.1 ∙ behind-behind (us q) m.0 n.0)

-- one list is another
put_one : (id q : ℕ) (ps : Forest) (us : Lists) → nat_eq id q ≡ true → put id ps us q ≡ ps
put_one id q ps us h = rw h refl

put_other : (id q : ℕ) (ps : Forest) (us : Lists) → nat_eq id q ≡ false → put id ps us q ≡ us q
put_other id q ps us h = rw h refl

differ : (m n : ℕ) → (m ≡ n → ⊥) → nat_eq m n ≡ false
differ m n h = by (eqb_tells m n)
  where
    by : ((nat_eq m n ≡ true) × (m ≡ n)) ⊎ ((nat_eq m n ≡ false) × (m ≢ n)) → nat_eq m n ≡ false
    by (inl t) = absurd (h t.1)
    by (inr f) = f.0

pub put_here : (id : ℕ) (ps : Forest) (us : Lists) → put id ps us id ≡ ps
put_here id ps us = put_one id id ps us (eq-eqb id id refl)

pub put_elsewhere : (P : ℕ → Forest → Type 0) (id : ℕ) (ps : Forest) (us : Lists) → P id ps → ((q : ℕ) → P q (us q)) → (q : ℕ) → P q (put id ps us q)
put_elsewhere P id ps us here others q = by (says (nat_eq id q))
  where
    by : Says (nat_eq id q) → P q (put id ps us q)
    by (yes h) = subst (P q) (sym (put_one id q ps us h)) (subst (λ k. P k ps) (eqb-true id q h) here)
    by (no h) = subst (P q) (sym (put_other id q ps us h)) (others q)

-- what holds of it, and of the others from its number on
pub put_from : (P : ℕ → Forest → Type 0) (id : ℕ) (ps : Forest) (us : Lists) → P id ps → ((q : ℕ) → suc id ≤ q → P q (us q)) → (q : ℕ) → id ≤ q → P q (put id ps us q)
put_from P id ps us here others q le = by (eqb_tells id q)
  where
    by : ((nat_eq id q ≡ true) × (id ≡ q)) ⊎ ((nat_eq id q ≡ false) × (id ≢ q)) → P q (put id ps us q)
    by (inl h) = subst (P q) (sym (put_one id q ps us h.0)) (subst (λ k. P k ps) h.1 here)
    by (inr h) = let other = h.1 in subst (P q) (sym (put_other id q ps us h.0)) (others q (omega (arith, le, other)))

pub put_above : (id q : ℕ) (ps : Forest) (us : Lists) → id < q → put id ps us q ≡ us q
put_above id q ps us lt = put_other id q ps us (differ id q (λ e. absurd (omega (arith, e, lt))))

pub put_below : (id q : ℕ) (ps : Forest) (us : Lists) → q < id → put id ps us q ≡ us q
put_below id q ps us lt = put_other id q ps us (differ id q (λ e. absurd (omega (arith, e, lt))))

put_goes : (id : ℕ) (more : Forest) (us : Lists) → GoesOn us (put id (behind (us id) more) us)
put_goes id more us = put_elsewhere (λ q ps. (m : Forest) × (ps ≡ behind (us q) m)) id (behind (us id) more) us (more, refl) (stays us)

part_goes : (b : Bool) (us vs ws : Lists) → GoesOn us vs → GoesOn us ws → GoesOn us (elim b [ true ↦ vs | false ↦ ws ])
part_goes true us vs ws a c = a
part_goes false us vs ws a c = c

mutual
  pub taken_goes : (p : Parts) (id : ℕ) (us : Lists) → GoesOn us (taken p id us)
  taken_goes (leaf l) id us = stays us
  taken_goes (nested (indexed d) parts) id us =
      let n = held_in (us id) parts in
      let next = put id (with_parts (us id) parts) us in
      goes_through us next (taken_parts n parts (suc id) next) (put_goes id (parts_from n parts) us) (parts_goes n parts (suc id) next)
  taken_goes (nested (listed l) cs) id us = each_goes cs id us
  taken_goes (nested (mapped l) cs) id us = each_goes cs id us
  taken_goes (nested (sized c) cs) id us = each_goes cs id us
  taken_goes (nested (structured c) cs) id us = each_goes cs id us
  taken_goes (nested (tagged t) cs) id us = each_goes cs id us

  pub each_goes : (ps : Forest) (id : ℕ) (us : Lists) → GoesOn us (taken_each ps id us)
  each_goes none id us = stays us
  each_goes (also p ps) id us =
      goes_through us (taken p id us) (taken_each ps (id + dictionary_count (kind_in p)) (taken p id us)) (taken_goes p id us) (each_goes ps (id + dictionary_count (kind_in p)) (taken p id us))

  pub parts_goes : (n : ℕ) (ps : Forest) (id : ℕ) (us : Lists) → GoesOn us (taken_parts n ps id us)
  parts_goes n none id us = stays us
  parts_goes n (also p ps) id us =
      part_goes (nat_le (rows_in p) n) us (taken_parts (n - rows_in p) ps id us) (taken_parts 0 ps id (taken p id us)) (parts_goes (n - rows_in p) ps id us)
      (goes_through us (taken p id us) (taken_parts 0 ps id (taken p id us)) (taken_goes p id us) (parts_goes 0 ps id (taken p id us)))

-- ── dictionaries that stand ──

-- so they do where the lists hold the same values
mutual
  pub stands_same : (us ws : Lists) (p : Parts) (id : ℕ) → ((q : ℕ) → values_of (ws q) ≡ values_of (us q)) → StandsIn us p id → StandsIn ws p id
  stands_same us ws (leaf l) id e s = tt
  stands_same us ws (nested (indexed d) parts) id e s = subst (λ u. StandsAt is_same_cell u (values_of parts)) (sym (e id)) s
  stands_same us ws (nested (listed l) cs) id e s = each_same us ws cs id e s
  stands_same us ws (nested (mapped l) cs) id e s = each_same us ws cs id e s
  stands_same us ws (nested (sized c) cs) id e s = each_same us ws cs id e s
  stands_same us ws (nested (structured c) cs) id e s = each_same us ws cs id e s
  stands_same us ws (nested (tagged t) cs) id e s = each_same us ws cs id e s

  pub each_same : (us ws : Lists) (ps : Forest) (id : ℕ) → ((q : ℕ) → values_of (ws q) ≡ values_of (us q)) → StandsInEach us ps id → StandsInEach ws ps id
  each_same us ws none id e s = tt
  each_same us ws (also p ps) id e s = (stands_same us ws p id e s.0, each_same us ws ps (id + dictionary_count (kind_in p)) e s.1)

-- and in some of the rows
mutual
  stands_part : (us : Lists) (o n : ℕ) (p : Parts) (id : ℕ) → StandsIn us p id → StandsIn us (part_of o n p) id
  stands_part us o n (leaf l) id s = tt
  stands_part us o n (nested (indexed d) parts) id s = s
  stands_part us o n (nested (listed l) cs) id s = s
  stands_part us o n (nested (mapped l) cs) id s = s
  stands_part us o n (nested (sized c) cs) id s = stands_cut us (cut_of o n (sized c)) cs id s
  stands_part us o n (nested (structured c) cs) id s = stands_cut us (cut_of o n (structured c)) cs id s
  stands_part us o n (nested (tagged t) cs) id s = stands_cut us (cut_of o n (tagged t)) cs id s

  stands_cut : (us : Lists) (c : Cut) (cs : Forest) (id : ℕ) → StandsInEach us cs id → StandsInEach us (cut c cs) id
  stands_cut us whole cs id s = s
  stands_cut us (run o n) none id s = tt
  stands_cut us (run o n) (also p cs) id s =
      let e : id + dictionary_count (kind_in p) ≡ id + dictionary_count (kind_in (part_of o n p)) = ap (λ k. id + dictionary_count k) (sym (kind-part o n p)) in
      (stands_part us o n p id s.0, subst (λ i. StandsInEach us (cut (run o n) cs) i) e (stands_cut us (run o n) cs (id + dictionary_count (kind_in p)) s.1))

-- a dictionary that was taken stands in each list that goes on
dictionary_stands : (u parts more : Forest) → fault_each parts ≡ None → StandsAt is_same_cell (values_of (behind (with_parts u parts) more)) (values_of parts)
dictionary_stands u parts more f =
    let e : values_of (behind (with_parts u parts) more) ≡ with_values is_same_cell (values_of u) (values_of parts) ++ values_of more = values_behind (with_parts u parts) more ∙ ap (λ xs. xs ++ values_of more) (parts_are_the_list u parts f) in
    subst (λ w. StandsAt is_same_cell w (values_of parts)) (sym e) (fit_stays is_same_cell (values_of u) (values_of parts) (values_of more) is_cell_test).1

mutual
  pub taken_stands : (p : Parts) (id : ℕ) (us ws : Lists) → fault_in p ≡ None → GoesOn (taken p id us) ws → StandsIn ws p id
  taken_stands (leaf l) id us ws f g = tt
  taken_stands (nested (indexed d) parts) id us ws f g =
      let n = held_in (us id) parts in
      let next = put id (with_parts (us id) parts) us in
      let on = goes_through next (taken_parts n parts (suc id) next) ws (parts_goes n parts (suc id) next) g id in
      let e : ws id ≡ behind (with_parts (us id) parts) on.0 = on.1 ∙ ap (λ ps. behind ps on.0) (put_here id (with_parts (us id) parts) us) in
      subst (λ ps. StandsAt is_same_cell (values_of ps) (values_of parts)) (sym e) (dictionary_stands (us id) parts on.0 (top_sound (indexed d) parts f).1)
  taken_stands (nested (listed l) cs) id us ws f g = each_stands cs id us ws (top_sound (listed l) cs f).1 g
  taken_stands (nested (mapped l) cs) id us ws f g = each_stands cs id us ws (top_sound (mapped l) cs f).1 g
  taken_stands (nested (sized c) cs) id us ws f g = each_stands cs id us ws (top_sound (sized c) cs f).1 g
  taken_stands (nested (structured c) cs) id us ws f g = each_stands cs id us ws (top_sound (structured c) cs f).1 g
  taken_stands (nested (tagged t) cs) id us ws f g = each_stands cs id us ws (top_sound (tagged t) cs f).1 g

  pub each_stands : (ps : Forest) (id : ℕ) (us ws : Lists) → fault_each ps ≡ None → GoesOn (taken_each ps id us) ws → StandsInEach ws ps id
  each_stands none id us ws f g = tt
  each_stands (also p ps) id us ws f g =
      let s = neither (fault_in p) (fault_each ps) f in
      let next = taken p id us in
      let after = id + dictionary_count (kind_in p) in
      (taken_stands p id us ws s.0 (goes_through next (taken_each ps after next) ws (each_goes ps after next) g), each_stands ps after next ws s.1 g)

-- a test opened
pub passed : (n : ℕ) (p : Parts) (ps : Forest) (id : ℕ) (us : Lists) → nat_le (rows_in p) n ≡ true → taken_parts n (also p ps) id us ≡ taken_parts (n - rows_in p) ps id us
passed n p ps id us h = rw (taken_parts, h) refl

pub entered : (n : ℕ) (p : Parts) (ps : Forest) (id : ℕ) (us : Lists) → nat_le (rows_in p) n ≡ false → taken_parts n (also p ps) id us ≡ taken_parts 0 ps id (taken p id us)
entered n p ps id us h = rw (taken_parts, h) refl

pub left_out : (n : ℕ) (p : Parts) (ps : Forest) → nat_le (rows_in p) n ≡ true → parts_from n (also p ps) ≡ parts_from (n - rows_in p) ps
left_out n p ps h = rw (parts_from, h) refl

pub left_in : (n : ℕ) (p : Parts) (ps : Forest) → nat_le (rows_in p) n ≡ false → parts_from n (also p ps) ≡ also (rows_from n p) (parts_from 0 ps)
left_in n p ps h = rw (parts_from, h) refl

-- the dictionaries inside the parts that are appended
pub inner_stand : (n : ℕ) (ps : Forest) (id : ℕ) (us ws : Lists) → fault_each ps ≡ None → GoesOn (taken_parts n ps id us) ws → StandInParts ws (parts_from n ps) id
inner_stand n none id us ws f g = tt
inner_stand n (also p ps) id us ws f g = by (says (nat_le (rows_in p) n)) (neither (fault_in p) (fault_each ps) f) (λ h. inner_stand (n - rows_in p) ps id us ws (neither (fault_in p) (fault_each ps) f).1 h)
    (λ h. inner_stand 0 ps id (taken p id us) ws (neither (fault_in p) (fault_each ps) f).1 h)
  where
    by : Says (nat_le (rows_in p) n) → (fault_in p ≡ None) × (fault_each ps ≡ None) → (GoesOn (taken_parts (n - rows_in p) ps id us) ws → StandInParts ws (parts_from (n - rows_in p) ps) id)
        → (GoesOn (taken_parts 0 ps id (taken p id us)) ws → StandInParts ws (parts_from 0 ps) id) → StandInParts ws (parts_from n (also p ps)) id
    by (yes h) s a b = subst (λ qs. StandInParts ws qs id) (sym (left_out n p ps h)) (a (subst (λ vs. GoesOn vs ws) (passed n p ps id us h) g))
    by (no h) s a b =
        let on : GoesOn (taken_parts 0 ps id (taken p id us)) ws = subst (λ vs. GoesOn vs ws) (entered n p ps id us h) g in
        let here : StandsIn ws p id = taken_stands p id us ws s.0 (goes_through (taken p id us) (taken_parts 0 ps id (taken p id us)) ws (parts_goes 0 ps id (taken p id us)) on) in
        subst (λ qs. StandInParts ws qs id) (sym (left_in n p ps h)) (stands_part ws n (rows_in p - n) p id here, b on)

-- ── the dictionaries inside lists ──

stand_behind : (ws : Lists) (ps qs : Forest) (id : ℕ) → StandInParts ws ps id → StandInParts ws qs id → StandInParts ws (behind ps qs) id
stand_behind ws none qs id a b = b
stand_behind ws (also p ps) qs id a b = (a.0, stand_behind ws ps qs id a.1 b)

abbrev pub AllStand : Lists → Lists → Type 0
AllStand ws us = (q : ℕ) → StandInParts ws (us q) (suc q)

part_stands : (n : ℕ) (p : Parts) (ps : Forest) (id : ℕ) (us ws : Lists) → Says (nat_le (rows_in p) n) → GoesOn (taken_parts n (also p ps) id us) ws
    → (GoesOn (taken_parts (n - rows_in p) ps id us) ws → AllStand ws (taken_parts (n - rows_in p) ps id us)) → (GoesOn (taken_parts 0 ps id (taken p id us)) ws → AllStand ws (taken_parts 0 ps id (taken p id us)))
    → AllStand ws (taken_parts n (also p ps) id us)
part_stands n p ps id us ws (yes h) g a b = subst (AllStand ws) (sym (passed n p ps id us h)) (a (subst (λ vs. GoesOn vs ws) (passed n p ps id us h) g))
part_stands n p ps id us ws (no h) g a b = subst (AllStand ws) (sym (entered n p ps id us h)) (b (subst (λ vs. GoesOn vs ws) (entered n p ps id us h) g))

mutual
  lists_stand : (p : Parts) (id : ℕ) (us ws : Lists) → fault_in p ≡ None → GoesOn (taken p id us) ws → AllStand ws us → AllStand ws (taken p id us)
  lists_stand (leaf l) id us ws f g a = a
  lists_stand (nested (indexed d) parts) id us ws f g a =
      let n = held_in (us id) parts in
      let next = put id (with_parts (us id) parts) us in
      let sound = (top_sound (indexed d) parts f).1 in
      let new : StandInParts ws (with_parts (us id) parts) (suc id) = stand_behind ws (us id) (parts_from n parts) (suc id) (a id) (inner_stand n parts (suc id) next ws sound g) in
      parts_stand n parts (suc id) next ws sound g (put_elsewhere (λ q ps. StandInParts ws ps (suc q)) id (with_parts (us id) parts) us new a)
  lists_stand (nested (listed l) cs) id us ws f g a = each_lists cs id us ws (top_sound (listed l) cs f).1 g a
  lists_stand (nested (mapped l) cs) id us ws f g a = each_lists cs id us ws (top_sound (mapped l) cs f).1 g a
  lists_stand (nested (sized c) cs) id us ws f g a = each_lists cs id us ws (top_sound (sized c) cs f).1 g a
  lists_stand (nested (structured c) cs) id us ws f g a = each_lists cs id us ws (top_sound (structured c) cs f).1 g a
  lists_stand (nested (tagged t) cs) id us ws f g a = each_lists cs id us ws (top_sound (tagged t) cs f).1 g a

  each_lists : (ps : Forest) (id : ℕ) (us ws : Lists) → fault_each ps ≡ None → GoesOn (taken_each ps id us) ws → AllStand ws us → AllStand ws (taken_each ps id us)
  each_lists none id us ws f g a = a
  each_lists (also p ps) id us ws f g a =
      let s = neither (fault_in p) (fault_each ps) f in
      let next = taken p id us in
      let after = id + dictionary_count (kind_in p) in
      each_lists ps after next ws s.1 g (lists_stand p id us ws s.0 (goes_through next (taken_each ps after next) ws (each_goes ps after next) g) a)

  parts_stand : (n : ℕ) (ps : Forest) (id : ℕ) (us ws : Lists) → fault_each ps ≡ None → GoesOn (taken_parts n ps id us) ws → AllStand ws us → AllStand ws (taken_parts n ps id us)
  parts_stand n none id us ws f g a = a
  parts_stand n (also p ps) id us ws f g a =
      let s = neither (fault_in p) (fault_each ps) f in
      part_stands n p ps id us ws (says (nat_le (rows_in p) n)) g (λ h. parts_stand (n - rows_in p) ps id us ws s.1 h a)
      (λ h. parts_stand 0 ps id (taken p id us) ws s.1 h (lists_stand p id us ws s.0 (goes_through (taken p id us) (taken_parts 0 ps id (taken p id us)) ws (parts_goes 0 ps id (taken p id us)) h) a))

-- ── batches ──

pub batches_go : (bs : List Batch) (us : Lists) → GoesOn us (taken_batches bs us)
batches_go [] us = stays us
batches_go (b ∷ bs) us = let next = taken_each (forest b.arrays) 0 us in goes_through us next (taken_batches bs next) (each_goes (forest b.arrays) 0 us) (batches_go bs next)

abbrev pub AllColumns : Lists → List Batch → Type 0
AllColumns ws [] = Unit {0}
AllColumns ws (b ∷ bs) = StandsInEach ws (forest b.arrays) 0 × AllColumns ws bs

pub columns_stand : (bs : List Batch) (us ws : Lists) → AreSound bs → GoesOn (taken_batches bs us) ws → AllColumns ws bs
columns_stand [] us ws s g = tt
columns_stand (b ∷ bs) us ws s g =
    let next = taken_each (forest b.arrays) 0 us in
    (each_stands (forest b.arrays) 0 us ws s.0 (goes_through next (taken_batches bs next) ws (batches_go bs next) g), columns_stand bs next ws s.1 g)

pub batches_stand : (bs : List Batch) (us ws : Lists) → AreSound bs → GoesOn (taken_batches bs us) ws → AllStand ws us → AllStand ws (taken_batches bs us)
batches_stand [] us ws s g a = a
batches_stand (b ∷ bs) us ws s g a =
    let next = taken_each (forest b.arrays) 0 us in
    batches_stand bs next ws s.1 g (each_lists (forest b.arrays) 0 us ws s.0 (goes_through next (taken_batches bs next) ws (batches_go bs next) g) a)

-- ── keys that count the values ──

pub count_values : (ps : Forest) → fault_each ps ≡ None → sum (rows_each ps) ≡ length (values_of ps)
count_values none f = refl
count_values (also p ps) f =
    let s = neither (fault_in p) (fault_each ps) f in
    let own : length (cells_in p) ≡ rows_in p = length-cells p s.0 in
    let others = count_values ps s.1 in
    let all = length-append (cells_in p) (values_of ps) in
    let both = sum_by-cons (λ n. n) (rows_in p) (rows_each ps) in
    omega (arith, own, others, all, both)

mutual
  pub covers : (us : Lists) (p : Parts) (id : ℕ) → fault_in p ≡ None → StandsIn us p id → Covers us p id
  covers us (leaf l) id f s = tt
  covers us (nested (indexed d) parts) id f s =
      let t = top_sound (indexed d) parts f in
      (s, subst (λ n. have_keys n d.keys d.validity ≡ true) (count_values parts t.1) t.0.keys)
  covers us (nested (listed l) cs) id f s = covers_each us cs id (top_sound (listed l) cs f).1 s
  covers us (nested (mapped l) cs) id f s = covers_each us cs id (top_sound (mapped l) cs f).1 s
  covers us (nested (sized c) cs) id f s = covers_each us cs id (top_sound (sized c) cs f).1 s
  covers us (nested (structured c) cs) id f s = covers_each us cs id (top_sound (structured c) cs f).1 s
  covers us (nested (tagged t) cs) id f s = covers_each us cs id (top_sound (tagged t) cs f).1 s

  pub covers_each : (us : Lists) (ps : Forest) (id : ℕ) → fault_each ps ≡ None → StandsInEach us ps id → CoversEach us ps id
  covers_each us none id f s = tt
  covers_each us (also p ps) id f s =
      let t = neither (fault_in p) (fault_each ps) f in
      (covers us p id t.0 s.0, covers_each us ps (id + dictionary_count (kind_in p)) t.1 s.1)
