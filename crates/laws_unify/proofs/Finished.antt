-- The lists of a stream: each has the values that were taken, in parts of one kind that are over the lists.
use Rattle.std.proofs.Common.{◌≡◌, ◌∙◌, sym, refl, ap, subst, ℕ, zero, suc, ◌+◌, ◌<◌, ◌≤◌, List, [], ◌∷◌, ◌++◌, length, drop, true, ◌||◌, Some, None, arith, slice_get}
use Rattle.std.proofs.lemmas.Bool.{and_parts}
use Rattle.std.proofs.lemmas.List.{length-drop}
use Rattle.std.proofs.lemmas.Option.{slice_get_within}
use Rattle.arrow_spec.specs.declared.types.UnionMode.TheVariants.{Dense, Sparse}
use Rattle.arrow_spec.specs.Cells.{Cell}
use Rattle.arrow_spec.specs.Kinds as kind
use Rattle.arrow_spec.specs.Kinds.{Fields, Kind, dictionary_count, width}
use Rattle.arrow_spec.proofs.Forms.{form}
use Rattle.arrow_arrays.specs.Carried.{are_carried, is_carried}
use Rattle.arrow_arrays.specs.EmptyParts.{empty_forest, empty_parts, empty_under}
use Rattle.arrow_arrays.specs.Heads.{each_of, indexed, listed, mapped, sized, structured, tagged}
use Rattle.arrow_arrays.specs.Parts.{Forest, Parts, also, leaf, nested, none, cells_in, fault_each, fault_in, kind_in, kinds_each}
use Rattle.arrow_arrays.proofs.EmptyParts.{cells-empty, kind-empty, sound-empty}
use Rattle.arrow_arrays.proofs.EmptyTops.{fields_carried}
use Rattle.arrow_arrays.proofs.Sliced.{both, neither}
use Rattle.laws_unify.specs.Lists.{StandsAt, agree}
use Rattle.laws_unify.specs.Stands.{StandInParts, StandsIn, StandsInEach}
use Rattle.laws_unify.specs.Over.{AreOver, IsOver, Lists, PartsAreOver, are_large, has_large_key, is_large, is_same_cell, over, over_parts, parts_large, place_in, values_of}
use Rattle.laws_unify.specs.United.{finished, put, some_part}
use Rattle.laws_unify.proofs.Fits.{fit_here}
use Rattle.laws_unify.proofs.Goes.{AllStand, covers, put_above, put_below, put_elsewhere, put_from, stands_same}
use Rattle.laws_unify.proofs.ValueKinds.{AreNested, PartsUnder, each_under}
use Rattle.laws_unify.proofs.ListKinds.{AllFine}
use Rattle.laws_unify.proofs.Over.{over_keeps_cells}
use Rattle.laws_unify.proofs.Sound.{FitsFrom, OverFrom, parts_over, parts_sound, parts_under_over}

-- ── parts without rows ──

no_values : (u : List Cell) → agree is_same_cell u [] ≡ true
no_values [] = refl
no_values (x ∷ xs) = refl

none_stands : (u v : List Cell) → v ≡ [] → StandsAt is_same_cell u v
none_stands u v e = subst (StandsAt is_same_cell u) (sym e) (u, ap (λ n. drop n u) (fit_here is_same_cell u [] (no_values u)))

mutual
  empty_stands : (us : Lists) (l k : Kind) (id : ℕ) → is_carried k ≡ true → StandsIn us (empty_under l k) id
  empty_stands us l (kind.«list» o fs) id c = forest_stands us fs id (fields_carried (kind.«list» o fs) c)
  empty_stands us l (kind.map sorted fs) id c = forest_stands us fs id (fields_carried (kind.map sorted fs) c)
  empty_stands us l (kind.fixed_size_list size fs) id c = forest_stands us fs id (fields_carried (kind.fixed_size_list size fs) c)
  empty_stands us l (kind.struct fs) id c = forest_stands us fs id (fields_carried (kind.struct fs) c)
  empty_stands us l (kind.union Sparse stated ids fs) id c = forest_stands us fs id (fields_carried (kind.union Sparse stated ids fs) c)
  empty_stands us l (kind.union Dense stated ids fs) id c = forest_stands us fs id (fields_carried (kind.union Dense stated ids fs) c)
  empty_stands us l (kind.dictionary t ordered i k) id c = none_stands (values_of (us id)) (values_of (also (empty_parts k) none)) (ap (λ xs. xs ++ []) (cells-empty k c))
  empty_stands us l (kind.extension name metadata k) id c = empty_stands us l k id c
  empty_stands us l k id c = tt

  forest_stands : (us : Lists) (fs : Fields) (id : ℕ) → are_carried fs ≡ true → StandsInEach us (empty_forest fs) id
  forest_stands us kind.none id c = tt
  forest_stands us (kind.field name nullable metadata k fs) id c =
      let s = and_parts (is_carried k) (are_carried fs) c in
      (empty_stands us k k id s.0, forest_stands us fs (id + dictionary_count (kind_in (empty_parts k))) s.1)

-- ── one list ──

-- parts that a list has at last
pub record Filled (us : Lists) (k : Kind) (ps qs : Forest) (id : ℕ) : Type 0 where
  pub under : PartsUnder k qs
  pub sound : fault_each qs ≡ None
  pub stand : StandInParts us qs id
  pub values : values_of qs ≡ values_of ps
  pub kinds : each_of k (kinds_each (over_parts us qs id)) ≡ true

pub filled : (us : Lists) (k : Kind) (ps : Forest) (id : ℕ) → is_carried k ≡ true → PartsUnder k ps → fault_each ps ≡ None → StandInParts us ps id → Filled us k ps (some_part k ps) id
filled us k none id c u f s =
    let under : PartsUnder k (also (empty_parts k) none) = (ap form (sym (kind-empty k k)), tt) in
    record {
      under = under;
      sound = both (fault_in (empty_parts k)) None (sound-empty k k refl c) refl;
      stand = (empty_stands us k k id c, tt);
      values = ap (λ xs. xs ++ []) (cells-empty k c);
      kinds = each_under k k (over us (empty_parts k) id) none refl (parts_under_over us k (also (empty_parts k) none) id under);
    }
filled us k (also p ps) id c u f s = record { under = u; sound = f; stand = s; values = refl; kinds = each_under k k (over us p id) (over_parts us ps id) refl (parts_under_over us k (also p ps) id u) }

pub over_parts_keep : (us : Lists) (ps : Forest) (id : ℕ) → fault_each ps ≡ None → StandInParts us ps id → values_of (over_parts us ps id) ≡ values_of ps
over_parts_keep us none id f s = refl
over_parts_keep us (also p ps) id f s =
    let w = neither (fault_in p) (fault_each ps) f in
    ap (λ xs. xs ++ values_of (over_parts us ps id)) (over_keeps_cells us p id (covers us p id w.0 s.0)) ∙ ap (λ xs. cells_in p ++ xs) (over_parts_keep us ps id w.1 s.1)

pub parts_same : (us ws : Lists) (ps : Forest) (id : ℕ) → ((q : ℕ) → values_of (ws q) ≡ values_of (us q)) → StandInParts us ps id → StandInParts ws ps id
parts_same us ws none id e s = tt
parts_same us ws (also p ps) id e s = (stands_same us ws p id e s.0, parts_same us ws ps id e s.1)

-- ── lists that are the same from a number on ──

abbrev pub SameFrom : ℕ → Lists → Lists → Type 0
SameFrom id us ws = (q : ℕ) → id ≤ q → us q ≡ ws q

later : (id next : ℕ) (us ws : Lists) → id ≤ next → SameFrom id us ws → SameFrom next us ws
later id next us ws le e q at = e q (omega (arith, le, at))

mutual
  is_over_same : (us ws : Lists) (p : Parts) (id : ℕ) → SameFrom id us ws → IsOver us p id → IsOver ws p id
  is_over_same us ws (leaf l) id e o = tt
  is_over_same us ws (nested (indexed d) parts) id e o = (o.0 ∙ e id (omega arith), parts_over_same us ws parts (suc id) (later id (suc id) us ws (omega arith) e) o.1)
  is_over_same us ws (nested (listed l) cs) id e o = are_over_same us ws cs id e o
  is_over_same us ws (nested (mapped l) cs) id e o = are_over_same us ws cs id e o
  is_over_same us ws (nested (sized l) cs) id e o = are_over_same us ws cs id e o
  is_over_same us ws (nested (structured l) cs) id e o = are_over_same us ws cs id e o
  is_over_same us ws (nested (tagged l) cs) id e o = are_over_same us ws cs id e o

  are_over_same : (us ws : Lists) (ps : Forest) (id : ℕ) → SameFrom id us ws → AreOver us ps id → AreOver ws ps id
  are_over_same us ws none id e o = tt
  are_over_same us ws (also p ps) id e o =
      let next = id + dictionary_count (kind_in p) in
      (is_over_same us ws p id e o.0, are_over_same us ws ps next (later id next us ws (omega arith) e) o.1)

  pub parts_over_same : (us ws : Lists) (ps : Forest) (id : ℕ) → SameFrom id us ws → PartsAreOver us ps id → PartsAreOver ws ps id
  parts_over_same us ws none id e o = tt
  parts_over_same us ws (also p ps) id e o = (is_over_same us ws p id e o.0, parts_over_same us ws ps id e o.1)

mutual
  large_same : (us ws : Lists) (p : Parts) (id : ℕ) → SameFrom id us ws → is_large us p id ≡ is_large ws p id
  large_same us ws (leaf l) id e = refl
  large_same us ws (nested (indexed d) parts) id e = ap (λ ps. has_large_key (place_in ps parts) d) (e id (omega arith))
  large_same us ws (nested (listed l) cs) id e = are_large_same us ws cs id e
  large_same us ws (nested (mapped l) cs) id e = are_large_same us ws cs id e
  large_same us ws (nested (sized l) cs) id e = are_large_same us ws cs id e
  large_same us ws (nested (structured l) cs) id e = are_large_same us ws cs id e
  large_same us ws (nested (tagged l) cs) id e = are_large_same us ws cs id e

  are_large_same : (us ws : Lists) (ps : Forest) (id : ℕ) → SameFrom id us ws → are_large us ps id ≡ are_large ws ps id
  are_large_same us ws none id e = refl
  are_large_same us ws (also p ps) id e =
      let next = id + dictionary_count (kind_in p) in
      ap (λ b. b || are_large us ps next) (large_same us ws p id e) ∙ ap (λ b. is_large ws p id || b) (are_large_same us ws ps next (later id next us ws (omega arith) e))

pub parts_large_same : (us ws : Lists) (ps : Forest) (id : ℕ) → SameFrom id us ws → parts_large us ps id ≡ parts_large ws ps id
parts_large_same us ws none id e = refl
parts_large_same us ws (also p ps) id e = ap (λ b. b || parts_large us ps id) (large_same us ws p id e) ∙ ap (λ b. is_large ws p id || b) (parts_large_same us ws ps id e)

-- the lists from a later number on are those of all
pub same_finished : (ks : List Kind) (id n : ℕ) (raw : Lists) → SameFrom (id + n) (finished (drop n ks) (id + n) raw) (finished ks id raw)
same_finished ks id zero raw q at = let e : id + 0 ≡ id = omega arith in ap (λ i. finished ks i raw q) e
same_finished [] id (suc n) raw q at = refl
same_finished (k ∷ ks) id (suc n) raw q at =
    let e : id + suc n ≡ suc id + n = omega arith in
    let behind : suc id + n ≤ q = omega (arith, at) in
    let above : id < q = omega (arith, at) in
    ap (λ i. finished (drop n ks) i raw q) e ∙ same_finished ks (suc id) n raw q behind ∙ sym (put_above id q (over_parts (finished ks (suc id) raw) (some_part k (raw id)) (suc id)) (finished ks (suc id) raw) above)

-- and before it nothing is changed
pub untouched : (ks : List Kind) (id q : ℕ) (raw : Lists) → q < id → finished ks id raw q ≡ raw q
untouched [] id q raw lt = refl
untouched (k ∷ ks) id q raw lt = put_below id q (over_parts (finished ks (suc id) raw) (some_part k (raw id)) (suc id)) (finished ks (suc id) raw) lt ∙ untouched ks (suc id) q raw (omega (arith, lt))

-- ── all lists ──

-- lists that were taken of a schema's columns
pub record AreTaken (whole : List Kind) (raw : Lists) : Type 0 where
  pub carried : (q : ℕ) (k : Kind) → slice_get whole q ≡ Some k → is_carried k ≡ true
  pub nested_in : AreNested whole
  pub fine : AllFine whole raw
  pub stand : AllStand raw raw

pub record FinishedFrom (whole : List Kind) (id : ℕ) (raw us : Lists) : Type 0 where
  pub values : (q : ℕ) → values_of (us q) ≡ values_of (raw q)
  pub fits : FitsFrom whole id us
  pub over : OverFrom whole id us

get_at : {A : Type 0} (n : ℕ) (xs ys : List A) (y : A) → drop n xs ≡ y ∷ ys → (slice_get xs n ≡ Some y) × (drop (suc n) xs ≡ ys)
get_at zero [] ys y e = cc
get_at zero (x ∷ xs) ys y e = let h : x ≡ y = cc in let t : xs ≡ ys = cc in (ap Some h, t)
get_at (suc n) [] ys y e = cc
get_at (suc n) (x ∷ xs) ys y e = get_at n xs ys y e

-- what a list has at last, by the lists behind it
pub next_filled : (whole : List Kind) (raw us : Lists) (q : ℕ) (k : Kind) → AreTaken whole raw → slice_get whole q ≡ Some k → FinishedFrom whole (suc q) raw us → Filled us k (raw q) (some_part k (raw q)) (suc q)
next_filled whole raw us q k t e f = filled us k (raw q) (suc q) (t.carried q k e) ((t.fine q).kinds k e) (t.fine q).sound (parts_same raw us (raw q) (suc q) f.values (t.stand q))

pub finished_from : (whole : List Kind) (raw : Lists) → AreTaken whole raw → (ks : List Kind) (id : ℕ) → drop id whole ≡ ks → FinishedFrom whole id raw (finished ks id raw)
finished_from whole raw t [] id e =
    let short : length whole ≤ id = (let n = ap length e in let m = length-drop id whole in omega (arith, n, m)) in
    record {
      values = λ q. refl;
      fits = record { kinds = λ q at k there. (let lt = slice_get_within whole q k there in absurd (omega (arith, lt, at, short))); sound = λ q. (t.fine q).sound };
      over = λ q at lt. absurd (omega (arith, lt, at, short));
    }
finished_from whole raw t (k ∷ ks) id e =
    let at = get_at id whole ks k e in
    let inner = finished ks (suc id) raw in
    let f = finished_from whole raw t ks (suc id) at.1 in
    let g = next_filled whole raw inner id k t at.0 f in
    let fill = some_part k (raw id) in
    let new = over_parts inner fill (suc id) in
    let sits = t.nested_in id k at.0 in
    let same : SameFrom (suc id) inner (put id new inner) = (λ q le. sym (put_above id q new inner (omega (arith, le)))) in
    let own : PartsAreOver inner new (suc id) = parts_over whole inner fill k (suc id) f.over g.under g.sound sits in
    record {
      values = put_elsewhere (λ q ps. values_of ps ≡ values_of (raw q)) id new inner (over_parts_keep inner fill (suc id) g.sound g.stand ∙ g.values) f.values;
      fits = record {
        kinds = put_from (λ q ps. (l : Kind) → slice_get whole q ≡ Some l → each_of l (kinds_each ps) ≡ true) id new inner
            (λ l there. (let some : Some k ≡ Some l = sym at.0 ∙ there in let one : k ≡ l = cc in subst (λ m. each_of m (kinds_each new) ≡ true) one g.kinds)) f.fits.kinds;
        sound = put_elsewhere (λ q ps. fault_each ps ≡ None) id new inner (parts_sound whole inner fill k (suc id) f.fits g.under g.sound sits g.stand) f.fits.sound;
      };
      over = put_from (λ q ps. q < length whole → PartsAreOver (put id new inner) ps (suc q)) id new inner (λ lt. parts_over_same inner (put id new inner) new (suc id) same own)
          (λ q le lt. parts_over_same inner (put id new inner) (inner q) (suc q) (λ r more. same r (omega (arith, le, more))) (f.over q le lt));
    }
