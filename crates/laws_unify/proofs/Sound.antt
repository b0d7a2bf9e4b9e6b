-- Arrays over lists are arrays, where each list has parts of its values' kind and the dictionaries stand in their lists.
use Rattle.std.proofs.Common.{◌≡◌, ◌∙◌, sym, refl, ap, subst, ℕ, suc, ◌+◌, ◌<◌, ◌≤◌, List, [], ◌∷◌, length, Bool, true, false, ◌&&◌, not, Some, None, arith, slice_get}
use Rattle.std.specs.Prelude.{nat_le}
use Rattle.std.specs.List.{list_all, sum}
use Rattle.std.proofs.lemmas.Bool.{and_from, and_parts, leb-true}
use Rattle.std.proofs.lemmas.List.{length-append, length-drop}
use Rattle.std.proofs.lemmas.Option.{slice_get_within}
use Rattle.arrow_spec.specs.Kinds as kind
use Rattle.arrow_spec.specs.Kinds.{Fields, Kind, dictionary_count, is_same_kind}
use Rattle.arrow_spec.specs.Arrays.{from_on}
use Rattle.arrow_spec.specs.Cells.{Cell}
use Rattle.arrow_spec.specs.Counts.{magnitude}
use Rattle.arrow_spec.specs.Faults.{some_row}
use Rattle.arrow_spec.proofs.Forms.{form}
use Rattle.ipc_fields.proofs.SameKinds.{form_is_same, same_by_form}
use Rattle.arrow_buffers.specs.Rows.{has_rows, is_valid}
use Rattle.arrow_buffers.proofs.Rows.{none_from}
use Rattle.arrow_arrays.specs.Heads.{Head, Indexed, are_of, child_fields, each_of, have_keys, head_fault, indexed, is_bad_key, is_dictionary, listed, mapped, number_at, sized, structured, suits, tagged, values_kind}
use Rattle.arrow_arrays.specs.Parts.{Forest, Parts, also, leaf, nested, none, fault_each, fault_in, kind_in, kinds_each, rows_each}
use Rattle.arrow_arrays.proofs.HeadSliced.{sound_head}
use Rattle.arrow_arrays.proofs.Sliced.{both, neither, top_sound}
use Rattle.laws_unify.specs.Lists.{StandsAt, fit}
use Rattle.laws_unify.specs.Stands.{StandInParts, StandsIn, StandsInEach}
use Rattle.laws_unify.specs.Over.{AreOver, IsOver, Lists, PartsAreOver, is_same_cell, moved, moved_at, over, over_each, over_parts, place_in, values_of}
use Rattle.laws_unify.proofs.Fits.{fit_is_least}
use Rattle.laws_unify.proofs.Goes.{count_values}
use Rattle.laws_unify.proofs.ValueKinds.{PartsUnder, Sits, SitsEach, Under, children_under, same_count, same_dictionary, sits_fields, sits_first, sits_others, sits_values, values_form}
use Rattle.laws_unify.proofs.Over.{IsBelow, both_false, from_on-at, from_on-length, good_key, none_bad, over_keeps_kinds_and_rows}

-- ── kinds and rows stay ──

pub over_kinds : (us : Lists) (ps : Forest) (id : ℕ) → kinds_each (over_each us ps id) ≡ kinds_each ps
over_kinds us none id = refl
over_kinds us (also p ps) id = rw ((over_keeps_kinds_and_rows us p id).0, over_kinds us ps (id + dictionary_count (kind_in p))) refl

pub over_rows : (us : Lists) (ps : Forest) (id : ℕ) → rows_each (over_each us ps id) ≡ rows_each ps
over_rows us none id = refl
over_rows us (also p ps) id = rw ((over_keeps_kinds_and_rows us p id).1, over_rows us ps (id + dictionary_count (kind_in p))) refl

pub parts_rows : (us : Lists) (ps : Forest) (id : ℕ) → rows_each (over_parts us ps id) ≡ rows_each ps
parts_rows us none id = refl
parts_rows us (also p ps) id = rw ((over_keeps_kinds_and_rows us p id).1, parts_rows us ps id) refl

pub parts_under_over : (us : Lists) (k : Kind) (ps : Forest) (id : ℕ) → PartsUnder k ps → PartsUnder k (over_parts us ps id)
parts_under_over us k none id u = tt
parts_under_over us k (also p ps) id u = (u.0 ∙ ap form (sym (over_keeps_kinds_and_rows us p id).0), parts_under_over us k ps id u.1)

-- ── keys ──

-- a natural number below a count is no bad key
good : (total n : ℕ) (b : Bool) → nat_le total n ≡ b → n < total → b ≡ false
good total n false e h = refl
good total n true e h = let le = leb-true total n e in absurd (omega (arith, le, h))

row_fits : (d : Indexed) (o held total row : ℕ) (b : Bool) → is_valid d.validity row ≡ b → o + held ≤ total → (b ≡ true → is_bad_key held (number_at d.keys row) ≡ false) → (b && is_bad_key total (moved_at o d.keys d.validity row)) ≡ false
row_fits d o held total row false e le h = refl
row_fits d o held total row true e le h =
    let k : IsBelow held (number_at d.keys row) = good_key held (number_at d.keys row) (h refl) in
    let m : magnitude (number_at d.keys row) ≡ k.number = ap magnitude k.is in
    let lt : o + magnitude (number_at d.keys row) < total = omega (arith, m, k.below, le) in
    rw e (good total (o + magnitude (number_at d.keys row)) (nat_le total (o + magnitude (number_at d.keys row))) refl lt)

moved_fit : (d : Indexed) (o held total : ℕ) → have_keys held d.keys d.validity ≡ true → o + held ≤ total → have_keys total (from_on (moved_at o d.keys d.validity) 0 (length d.keys)) d.validity ≡ true
moved_fit d o held total h le =
    let n = length d.keys in
    let new = from_on (moved_at o d.keys d.validity) 0 n in
    let count : length new ≡ n = from_on-length (moved_at o d.keys d.validity) 0 n in
    let each : some_row (λ row. is_valid d.validity row && is_bad_key total (number_at new row)) (length new) ≡ false =
    none_from (λ row. is_valid d.validity row && is_bad_key total (number_at new row)) (length new) (λ row below.
    (let inside : row < n = omega (arith, below, count) in
    let zero_on : 0 + row ≡ row = omega arith in
    let at : number_at new row ≡ moved_at o d.keys d.validity row = from_on-at (moved_at o d.keys d.validity) 0 n row inside ∙ ap (moved_at o d.keys d.validity) zero_on in
    ap (λ z. is_valid d.validity row && is_bad_key total z) at
    ∙ row_fits d o held total row (is_valid d.validity row) refl le (λ v. both_false (is_valid d.validity row) (is_bad_key held (number_at d.keys row)) v (none_bad (λ r. is_valid d.validity r && is_bad_key held (number_at d.keys r)) n row h inside)))) in
    ap not each

-- a dictionary that stands in a list ends within it
pub stands_within : (u v : List Cell) → StandsAt is_same_cell u v → fit is_same_cell u v + length v ≤ length u
stands_within u v s =
    let c = ap length s.1 in
    let w = (fit_is_least is_same_cell u v).within in
    omega (arith, c, length-drop (fit is_same_cell u v) u, length-append v s.0, w)

-- ── arrays ──

-- from a number on each list has parts, all of the kind of the number's values; and all lists are of arrays
pub record FitsFrom (whole : List Kind) (id : ℕ) (us : Lists) : Type 0 where
  pub kinds : (q : ℕ) → id ≤ q → (k : Kind) → slice_get whole q ≡ Some k → each_of k (kinds_each (us q)) ≡ true
  pub sound : (q : ℕ) → fault_each (us q) ≡ None

pub fits_later : (whole : List Kind) (id next : ℕ) (us : Lists) → id ≤ next → FitsFrom whole id us → FitsFrom whole next us
fits_later whole id next us le f = record { kinds = λ q at. f.kinds q (omega (arith, le, at)); sound = f.sound }

-- parts of a kind are of one of the same form
each_form : (k l : Kind) (ks : List Kind) → form k ≡ form l → each_of k ks ≡ true → each_of l ks ≡ true
each_form k l [] e h = cc
each_form k l (x ∷ xs) e h = all_form k l (x ∷ xs) e h
  where
    all_form : (k l : Kind) (ks : List Kind) → form k ≡ form l → list_all (is_same_kind k) ks ≡ true → list_all (is_same_kind l) ks ≡ true
    all_form k l [] e h = refl
    all_form k l (x ∷ xs) e h =
        let s = and_parts (is_same_kind k x) (list_all (is_same_kind k) xs) h in
        and_from (is_same_kind l x) (list_all (is_same_kind l) xs) (same_by_form l x (sym e ∙ form_is_same k x s.0)) (all_form k l xs e s.1)

dictionary_over : (us : Lists) (d : Indexed) (parts : Forest) (id : ℕ) → fault_in (nested (indexed d) parts) ≡ None → each_of (values_kind d.kind) (kinds_each (us id)) ≡ true → fault_each (us id) ≡ None
    → StandsAt is_same_cell (values_of (us id)) (values_of parts) → fault_in (over us (nested (indexed d) parts) id) ≡ None
dictionary_over us d parts id f kinds sound s =
    let t = top_sound (indexed d) parts f in
    let o = place_in (us id) parts in
    let suit = and_parts (is_dictionary d.index d.kind) (each_of (values_kind d.kind) (kinds_each parts)) t.0.suits in
    let own : sum (rows_each parts) ≡ length (values_of parts) = count_values parts t.1 in
    let all : sum (rows_each (us id)) ≡ length (values_of (us id)) = count_values (us id) sound in
    let within = stands_within (values_of (us id)) (values_of parts) s in
    let room : o + sum (rows_each parts) ≤ sum (rows_each (us id)) = omega (arith, own, all, within) in
    let new = moved o d in
    let top : head_fault (indexed new) (kinds_each (us id)) (rows_each (us id)) ≡ None = sound_head (indexed new) (kinds_each (us id)) (rows_each (us id)) (record {
      suits = and_from (is_dictionary d.index d.kind) (each_of (values_kind d.kind) (kinds_each (us id))) suit.0 kinds;
      valid = ap (has_rows d.validity) (from_on-length (moved_at o d.keys d.validity) 0 (length d.keys)) ∙ t.0.valid;
      rows = refl;
      offsets = refl;
      types = refl;
      keys = moved_fit d o (sum (rows_each parts)) (sum (rows_each (us id))) t.0.keys room;
    }) in
    both (head_fault (indexed new) (kinds_each (us id)) (rows_each (us id))) (fault_each (us id)) top sound

-- a top over other children of the same kinds and rows
top_over : (us : Lists) (h : Head) (cs : Forest) (id : ℕ) → fault_in (nested h cs) ≡ None → fault_each (over_each us cs id) ≡ None → fault_in (nested h (over_each us cs id)) ≡ None
top_over us h cs id f each =
    let s = neither (head_fault h (kinds_each cs) (rows_each cs)) (fault_each cs) f in
    both (head_fault h (kinds_each (over_each us cs id)) (rows_each (over_each us cs id))) (fault_each (over_each us cs id))
    (ap (λ ks. head_fault h ks (rows_each (over_each us cs id))) (over_kinds us cs id) ∙ ap (head_fault h (kinds_each cs)) (over_rows us cs id) ∙ s.0) each

mutual
  pub over_sound : (whole : List Kind) (us : Lists) (p : Parts) (k : Kind) (id : ℕ) → FitsFrom whole id us → form k ≡ form (kind_in p) → fault_in p ≡ None → Sits whole id k → StandsIn us p id → fault_in (over us p id) ≡ None
  over_sound whole us (leaf l) k id a e f s t = f
  over_sound whole us (nested (indexed d) parts) k id a e f s t =
      let suit = and_parts (is_dictionary d.index d.kind) (each_of (values_kind d.kind) (kinds_each parts)) (top_sound (indexed d) parts f).0.suits in
      let there = sits_values whole id d.index k (same_dictionary d.index k d.kind e suit.0) s in
      dictionary_over us d parts id f (each_form (values_kind k) (values_kind d.kind) (kinds_each (us id)) (sym (values_form k) ∙ ap values_kind e ∙ values_form d.kind) (a.kinds id (omega arith) (values_kind k) there)) (a.sound id) t
  over_sound whole us (nested (listed l) cs) k id a e f s t =
      let u = top_sound (listed l) cs f in
      top_over us (listed l) cs id f (each_sound whole us cs (child_fields k) id a (children_under k l.kind cs e (and_parts (suits (listed l)) (are_of (child_fields l.kind) (kinds_each cs)) u.0.suits).1) u.1 (sits_fields whole id k s) t)
  over_sound whole us (nested (mapped l) cs) k id a e f s t =
      let u = top_sound (mapped l) cs f in
      top_over us (mapped l) cs id f (each_sound whole us cs (child_fields k) id a (children_under k l.kind cs e (and_parts (suits (mapped l)) (are_of (child_fields l.kind) (kinds_each cs)) u.0.suits).1) u.1 (sits_fields whole id k s) t)
  over_sound whole us (nested (sized l) cs) k id a e f s t =
      let u = top_sound (sized l) cs f in
      top_over us (sized l) cs id f (each_sound whole us cs (child_fields k) id a (children_under k l.kind cs e (and_parts (suits (sized l)) (are_of (child_fields l.kind) (kinds_each cs)) u.0.suits).1) u.1 (sits_fields whole id k s) t)
  over_sound whole us (nested (structured l) cs) k id a e f s t =
      let u = top_sound (structured l) cs f in
      top_over us (structured l) cs id f (each_sound whole us cs (child_fields k) id a (children_under k l.kind cs e (and_parts (suits (structured l)) (are_of (child_fields l.kind) (kinds_each cs)) u.0.suits).1) u.1 (sits_fields whole id k s) t)
  over_sound whole us (nested (tagged l) cs) k id a e f s t =
      let u = top_sound (tagged l) cs f in
      top_over us (tagged l) cs id f (each_sound whole us cs (child_fields k) id a (children_under k l.kind cs e (and_parts (suits (tagged l)) (are_of (child_fields l.kind) (kinds_each cs)) u.0.suits).1) u.1 (sits_fields whole id k s) t)

  pub each_sound : (whole : List Kind) (us : Lists) (ps : Forest) (fs : Fields) (id : ℕ) → FitsFrom whole id us → Under fs ps → fault_each ps ≡ None → SitsEach whole id fs → StandsInEach us ps id → fault_each (over_each us ps id) ≡ None
  each_sound whole us none fs id a u f s t = refl
  each_sound whole us (also p ps) kind.none id a u f s t = absurd u
  each_sound whole us (also p ps) (kind.field name nullable metadata k fs) id a u f s t =
      let w = neither (fault_in p) (fault_each ps) f in
      let count = dictionary_count (kind_in p) in
      both (fault_in (over us p id)) (fault_each (over_each us ps (id + count))) (over_sound whole us p k id a u.0 w.0 (sits_first whole id name nullable metadata k fs s) t.0)
      (each_sound whole us ps fs (id + count) (fits_later whole id (id + count) us (omega arith) a) u.1 w.1 (sits_others whole id count name nullable metadata k fs (sym (same_count k (kind_in p) u.0)) s) t.1)

pub parts_sound : (whole : List Kind) (us : Lists) (ps : Forest) (k : Kind) (id : ℕ) → FitsFrom whole id us → PartsUnder k ps → fault_each ps ≡ None → Sits whole id k → StandInParts us ps id → fault_each (over_parts us ps id) ≡ None
parts_sound whole us none k id a u f s t = refl
parts_sound whole us (also p ps) k id a u f s t =
    let w = neither (fault_in p) (fault_each ps) f in
    both (fault_in (over us p id)) (fault_each (over_parts us ps id)) (over_sound whole us p k id a u.0 w.0 s t.0) (parts_sound whole us ps k id a u.1 w.1 s t.1)

-- ── each has the parts of its number ──

-- the parts of each list from a number on are over the lists
abbrev pub OverFrom : List Kind → ℕ → Lists → Type 0
OverFrom whole id us = (q : ℕ) → id ≤ q → q < length whole → PartsAreOver us (us q) (suc q)

mutual
  pub over_over : (whole : List Kind) (us : Lists) (p : Parts) (k : Kind) (id : ℕ) → OverFrom whole id us → form k ≡ form (kind_in p) → fault_in p ≡ None → Sits whole id k → IsOver us (over us p id) id
  over_over whole us (leaf l) k id a e f s = tt
  over_over whole us (nested (indexed d) parts) k id a e f s =
      let suit = and_parts (is_dictionary d.index d.kind) (each_of (values_kind d.kind) (kinds_each parts)) (top_sound (indexed d) parts f).0.suits in
      let there = slice_get_within whole id (values_kind k) (sits_values whole id d.index k (same_dictionary d.index k d.kind e suit.0) s) in
      (refl, a id (omega arith) there)
  over_over whole us (nested (listed l) cs) k id a e f s =
      let u = top_sound (listed l) cs f in
      each_over whole us cs (child_fields k) id a (children_under k l.kind cs e (and_parts (suits (listed l)) (are_of (child_fields l.kind) (kinds_each cs)) u.0.suits).1) u.1 (sits_fields whole id k s)
  over_over whole us (nested (mapped l) cs) k id a e f s =
      let u = top_sound (mapped l) cs f in
      each_over whole us cs (child_fields k) id a (children_under k l.kind cs e (and_parts (suits (mapped l)) (are_of (child_fields l.kind) (kinds_each cs)) u.0.suits).1) u.1 (sits_fields whole id k s)
  over_over whole us (nested (sized l) cs) k id a e f s =
      let u = top_sound (sized l) cs f in
      each_over whole us cs (child_fields k) id a (children_under k l.kind cs e (and_parts (suits (sized l)) (are_of (child_fields l.kind) (kinds_each cs)) u.0.suits).1) u.1 (sits_fields whole id k s)
  over_over whole us (nested (structured l) cs) k id a e f s =
      let u = top_sound (structured l) cs f in
      each_over whole us cs (child_fields k) id a (children_under k l.kind cs e (and_parts (suits (structured l)) (are_of (child_fields l.kind) (kinds_each cs)) u.0.suits).1) u.1 (sits_fields whole id k s)
  over_over whole us (nested (tagged l) cs) k id a e f s =
      let u = top_sound (tagged l) cs f in
      each_over whole us cs (child_fields k) id a (children_under k l.kind cs e (and_parts (suits (tagged l)) (are_of (child_fields l.kind) (kinds_each cs)) u.0.suits).1) u.1 (sits_fields whole id k s)

  pub each_over : (whole : List Kind) (us : Lists) (ps : Forest) (fs : Fields) (id : ℕ) → OverFrom whole id us → Under fs ps → fault_each ps ≡ None → SitsEach whole id fs → AreOver us (over_each us ps id) id
  each_over whole us none fs id a u f s = tt
  each_over whole us (also p ps) kind.none id a u f s = absurd u
  each_over whole us (also p ps) (kind.field name nullable metadata k fs) id a u f s =
      let w = neither (fault_in p) (fault_each ps) f in
      let count = dictionary_count (kind_in p) in
      let next : id + count ≡ id + dictionary_count (kind_in (over us p id)) = ap (λ l. id + dictionary_count l) (sym (over_keeps_kinds_and_rows us p id).0) in (
        over_over whole us p k id a u.0 w.0 (sits_first whole id name nullable metadata k fs s),
        subst (λ i. AreOver us (over_each us ps (id + count)) i) next (each_over whole us ps fs (id + count) (λ q at. a q (omega (arith, at))) u.1 w.1 (sits_others whole id count name nullable metadata k fs (sym (same_count k (kind_in p) u.0)) s)),
      )

pub parts_over : (whole : List Kind) (us : Lists) (ps : Forest) (k : Kind) (id : ℕ) → OverFrom whole id us → PartsUnder k ps → fault_each ps ≡ None → Sits whole id k → PartsAreOver us (over_parts us ps id) id
parts_over whole us none k id a u f s = tt
parts_over whole us (also p ps) k id a u f s =
    let w = neither (fault_in p) (fault_each ps) f in
    (over_over whole us p k id a u.0 w.0 s, parts_over whole us ps k id a u.1 w.1 s)
