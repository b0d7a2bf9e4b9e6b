-- Lists of parts of the kinds that the schema says, each an array's.
use Rattle.std.proofs.Common.{◌≡◌, ◌∙◌, sym, refl, ap, subst, ℕ, suc, ◌+◌, ◌-◌, List, [], ◌∷◌, true, Some, None, arith, slice_get}
use Rattle.std.specs.Prelude.{nat_le}
use Rattle.std.specs.List.{list_all}
use Rattle.std.proofs.lemmas.Bool.{and_parts}
use Rattle.arrow_spec.specs.Kinds as kind
use Rattle.arrow_spec.specs.Kinds.{Fields, Kind, dictionary_count}
use Rattle.arrow_spec.proofs.Forms.{form}
use Rattle.arrow_arrays.specs.Batches.{Batch}
use Rattle.arrow_arrays.specs.Heads.{are_of, child_fields, each_of, indexed, is_dictionary, listed, mapped, sized, structured, suits, tagged, values_kind}
use Rattle.arrow_arrays.specs.Parts.{Forest, Parts, also, leaf, nested, none, fault_each, fault_in, forest, kind_in, kinds_each, rows_in}
use Rattle.arrow_arrays.proofs.Sliced.{both, fault-part, kind-part, neither, top_sound}
use Rattle.laws_unify.specs.Over.{Lists}
use Rattle.laws_unify.specs.Stands.{AreSound}
use Rattle.laws_unify.specs.United as united
use Rattle.laws_unify.specs.United.{behind, held_in, is_of, parts_from, put, rows_from, taken, taken_batches, taken_each, taken_parts, with_parts}
use Rattle.laws_unify.proofs.Fits.{Says, above_or, no, says, yes}
use Rattle.laws_unify.proofs.Goes.{entered, left_in, left_out, passed, put_elsewhere}
use Rattle.laws_unify.proofs.ValueKinds.{PartsUnder, Sits, SitsEach, Under, children_under, columns_under, same_count, same_dictionary, sits_fields, sits_first, sits_inside, sits_others, sits_values, values_under_them}

-- the parts of a number are arrays', of the kind of the number's values
pub record FineAt (whole : List Kind) (q : ℕ) (ps : Forest) : Type 0 where
  pub sound : fault_each ps ≡ None
  pub kinds : (k : Kind) → slice_get whole q ≡ Some k → PartsUnder k ps

abbrev pub AllFine : List Kind → Lists → Type 0
AllFine whole us = (q : ℕ) → FineAt whole q (us q)

-- ── parts ──

under_behind : (k : Kind) (ps qs : Forest) → PartsUnder k ps → PartsUnder k qs → PartsUnder k (behind ps qs)
under_behind k none qs a b = b
under_behind k (also p ps) qs a b = (a.0, under_behind k ps qs a.1 b)

sound_behind : (ps qs : Forest) → fault_each ps ≡ None → fault_each qs ≡ None → fault_each (behind ps qs) ≡ None
sound_behind none qs a b = b
sound_behind (also p ps) qs a b = let s = neither (fault_in p) (fault_each ps) a in both (fault_in p) (fault_each (behind ps qs)) s.0 (sound_behind ps qs s.1 b)

under_from : (k : Kind) (n : ℕ) (ps : Forest) → PartsUnder k ps → PartsUnder k (parts_from n ps)
under_from k n none u = tt
under_from k n (also p ps) u = by (says (nat_le (rows_in p) n)) (under_from k (n - rows_in p) ps u.1) (under_from k 0 ps u.1)
  where
    by : Says (nat_le (rows_in p) n) → PartsUnder k (parts_from (n - rows_in p) ps) → PartsUnder k (parts_from 0 ps) → PartsUnder k (parts_from n (also p ps))
    by (yes h) a b = subst (PartsUnder k) (sym (left_out n p ps h)) a
    by (no h) a b = subst (PartsUnder k) (sym (left_in n p ps h)) (u.0 ∙ ap form (sym (kind-part n (rows_in p - n) p)), b)

sound_from : (n : ℕ) (ps : Forest) → fault_each ps ≡ None → fault_each (parts_from n ps) ≡ None
sound_from n none f = refl
sound_from n (also p ps) f = by (says (nat_le (rows_in p) n)) (neither (fault_in p) (fault_each ps) f) (sound_from (n - rows_in p) ps (neither (fault_in p) (fault_each ps) f).1) (sound_from 0 ps (neither (fault_in p) (fault_each ps) f).1)
  where
    by : Says (nat_le (rows_in p) n) → (fault_in p ≡ None) × (fault_each ps ≡ None) → fault_each (parts_from (n - rows_in p) ps) ≡ None → fault_each (parts_from 0 ps) ≡ None → fault_each (parts_from n (also p ps)) ≡ None
    by (yes h) s a b = ap fault_each (left_out n p ps h) ∙ a
    by (no h) s a b =
        let lt = above_or (rows_in p) n h in
        ap fault_each (left_in n p ps h) ∙ both (fault_in (rows_from n p)) (fault_each (parts_from 0 ps)) (fault-part n (rows_in p - n) p s.0 (omega (arith, lt))) b

-- ── a walk ──

-- one list goes on with a dictionary's parts
fine_with : (whole : List Kind) (id : ℕ) (k : Kind) (us : Lists) (parts : Forest) → slice_get whole id ≡ Some k → PartsUnder k parts → fault_each parts ≡ None → AllFine whole us
    → AllFine whole (put id (with_parts (us id) parts) us)
fine_with whole id k us parts there under sound fine =
    let n = held_in (us id) parts in
    put_elsewhere (FineAt whole) id (with_parts (us id) parts) us (record {
      sound = sound_behind (us id) (parts_from n parts) (fine id).sound (sound_from n parts sound);
      kinds = λ l e. (let some : Some k ≡ Some l = sym there ∙ e in let same : k ≡ l = cc in under_behind l (us id) (parts_from n parts) ((fine id).kinds l e) (subst (λ m. PartsUnder m (parts_from n parts)) same (under_from k n parts under)));
    }) fine

part_fine : (whole : List Kind) (n : ℕ) (p : Parts) (ps : Forest) (id : ℕ) (us : Lists) → Says (nat_le (rows_in p) n) → AllFine whole (taken_parts (n - rows_in p) ps id us) → AllFine whole (taken_parts 0 ps id (taken p id us)) → AllFine whole (taken_parts n (also p ps) id us)
part_fine whole n p ps id us (yes h) a b = subst (AllFine whole) (sym (passed n p ps id us h)) a
part_fine whole n p ps id us (no h) a b = subst (AllFine whole) (sym (entered n p ps id us h)) b

mutual
  taken_fine : (whole : List Kind) (p : Parts) (k : Kind) (id : ℕ) (us : Lists) → form k ≡ form (kind_in p) → fault_in p ≡ None → Sits whole id k → AllFine whole us → AllFine whole (taken p id us)
  taken_fine whole (leaf l) k id us e f s a = a
  taken_fine whole (nested (indexed d) parts) k id us e f s a =
      let t = top_sound (indexed d) parts f in
      let suit = and_parts (is_dictionary d.index d.kind) (each_of (values_kind d.kind) (kinds_each parts)) t.0.suits in
      let dictionary = same_dictionary d.index k d.kind e suit.0 in
      let under = values_under_them k d.kind parts e suit.1 in
      parts_fine whole (held_in (us id) parts) parts (values_kind k) (suc id) (put id (with_parts (us id) parts) us) under t.1 (sits_inside whole id d.index k dictionary s)
      (fine_with whole id (values_kind k) us parts (sits_values whole id d.index k dictionary s) under t.1 a)
  taken_fine whole (nested (listed l) cs) k id us e f s a =
      let t = top_sound (listed l) cs f in
      each_fine whole cs (child_fields k) id us (children_under k l.kind cs e (and_parts (suits (listed l)) (are_of (child_fields l.kind) (kinds_each cs)) t.0.suits).1) t.1 (sits_fields whole id k s) a
  taken_fine whole (nested (mapped l) cs) k id us e f s a =
      let t = top_sound (mapped l) cs f in
      each_fine whole cs (child_fields k) id us (children_under k l.kind cs e (and_parts (suits (mapped l)) (are_of (child_fields l.kind) (kinds_each cs)) t.0.suits).1) t.1 (sits_fields whole id k s) a
  taken_fine whole (nested (sized l) cs) k id us e f s a =
      let t = top_sound (sized l) cs f in
      each_fine whole cs (child_fields k) id us (children_under k l.kind cs e (and_parts (suits (sized l)) (are_of (child_fields l.kind) (kinds_each cs)) t.0.suits).1) t.1 (sits_fields whole id k s) a
  taken_fine whole (nested (structured l) cs) k id us e f s a =
      let t = top_sound (structured l) cs f in
      each_fine whole cs (child_fields k) id us (children_under k l.kind cs e (and_parts (suits (structured l)) (are_of (child_fields l.kind) (kinds_each cs)) t.0.suits).1) t.1 (sits_fields whole id k s) a
  taken_fine whole (nested (tagged l) cs) k id us e f s a =
      let t = top_sound (tagged l) cs f in
      each_fine whole cs (child_fields k) id us (children_under k l.kind cs e (and_parts (suits (tagged l)) (are_of (child_fields l.kind) (kinds_each cs)) t.0.suits).1) t.1 (sits_fields whole id k s) a

  each_fine : (whole : List Kind) (ps : Forest) (fs : Fields) (id : ℕ) (us : Lists) → Under fs ps → fault_each ps ≡ None → SitsEach whole id fs → AllFine whole us → AllFine whole (taken_each ps id us)
  each_fine whole none fs id us u f s a = a
  each_fine whole (also p ps) kind.none id us u f s a = absurd u
  each_fine whole (also p ps) (kind.field name nullable metadata k fs) id us u f s a =
      let t = neither (fault_in p) (fault_each ps) f in
      let count = dictionary_count (kind_in p) in
      each_fine whole ps fs (id + count) (taken p id us) u.1 t.1 (sits_others whole id count name nullable metadata k fs (sym (same_count k (kind_in p) u.0)) s)
      (taken_fine whole p k id us u.0 t.0 (sits_first whole id name nullable metadata k fs s) a)

  parts_fine : (whole : List Kind) (n : ℕ) (ps : Forest) (k : Kind) (id : ℕ) (us : Lists) → PartsUnder k ps → fault_each ps ≡ None → Sits whole id k → AllFine whole us → AllFine whole (taken_parts n ps id us)
  parts_fine whole n none k id us u f s a = a
  parts_fine whole n (also p ps) k id us u f s a =
      let t = neither (fault_in p) (fault_each ps) f in
      part_fine whole n p ps id us (says (nat_le (rows_in p) n)) (parts_fine whole (n - rows_in p) ps k id us u.1 t.1 s a) (parts_fine whole 0 ps k id (taken p id us) u.1 t.1 s (taken_fine whole p k id us u.0 t.0 s a))

-- ── batches ──

abbrev pub AreUnder : Fields → List Batch → Type 0
AreUnder fs [] = Unit {0}
AreUnder fs (b ∷ bs) = Under fs (forest b.arrays) × AreUnder fs bs

pub all_under : (fs : Fields) (bs : List Batch) → united.are_of fs bs ≡ true → AreUnder fs bs
all_under fs [] h = tt
all_under fs (b ∷ bs) h = let s = and_parts (is_of fs b) (list_all (is_of fs) bs) h in (columns_under fs (forest b.arrays) s.0, all_under fs bs s.1)

pub batches_fine : (fs : Fields) (whole : List Kind) (bs : List Batch) (us : Lists) → SitsEach whole 0 fs → AreUnder fs bs → AreSound bs → AllFine whole us → AllFine whole (taken_batches bs us)
batches_fine fs whole [] us s u f a = a
batches_fine fs whole (b ∷ bs) us s u f a = batches_fine fs whole bs (taken_each (forest b.arrays) 0 us) s u.1 f.1 (each_fine whole (forest b.arrays) fs 0 us u.0 f.0 s a)
