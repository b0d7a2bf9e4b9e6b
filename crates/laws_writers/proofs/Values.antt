-- What a stream knows of the dictionaries in an array, and in a part of its rows.
use Rattle.std.proofs.Common.{◌≡◌, ◌≤◌, arith, ℕ, zero, suc, ◌*◌, ◌-◌, ℤ, List, Bool, true, Option, Some, None, refl, sym, subst}
use Rattle.arrow_spec.specs.Kinds.{same}
use Rattle.arrow_spec.specs.Cells.{Cell}
use Rattle.ipc_messages.specs.Below.{Cut, indexed, joined, list_size, listed, mapped, run, sized, structured, tagged, tagged_cut, whole, Parts, Forest, leaf, nested, none, also, cells_each, cut, fault_in, kind_in, part_of, rows_in, Ids, id_under, first_id, first_ids, other_ids, Sending, rows_from}
use Rattle.ipc_messages.proofs.Below.{fault-part, kind-part}
use Rattle.arrow_spec.proofs.SameIds.{id_self}
use Rattle.laws_writers.specs.Heard.{AllAreFixed, AllHaveValues, AreFixed, GoesOn, HasValues, cells_held, stands_in, stands_in_each, stands_in_parts}
use Rattle.laws_writers.proofs.Steps.{either_left, either_right}

-- what is fixed is known where what stands in the array is known as it is held
mutual
  pub values_known : (deltas : Bool) (u : Sending) (c : ℤ → Option (List Cell)) (p : Parts) (id : Option ℤ) (below : Ids) → AreFixed deltas u p id below → ((q : ℤ) → stands_in q p id below ≡ true → c q ≡ cells_held (u.held q)) → HasValues deltas c p id below
  values_known deltas u c (leaf l) id below a h = tt
  values_known deltas u c (nested (listed l) cs) id below a h = all_known deltas u c cs below a h
  values_known deltas u c (nested (mapped l) cs) id below a h = all_known deltas u c cs below a h
  values_known deltas u c (nested (sized l) cs) id below a h = all_known deltas u c cs below a h
  values_known deltas u c (nested (structured l) cs) id below a h = all_known deltas u c cs below a h
  values_known deltas u c (nested (tagged l) cs) id below a h = all_known deltas u c cs below a h
  values_known deltas u c (nested (indexed d) parts) id below a h =
      let q = id_under id in
      subst (λ z. GoesOn (Some (joined (cells_each parts))) deltas z) (sym (h q (either_left (same q q) (stands_in_parts q parts below) (id_self q)))) a.1

  pub all_known : (deltas : Bool) (u : Sending) (c : ℤ → Option (List Cell)) (ps : Forest) (below : Ids) → AllAreFixed deltas u ps below → ((q : ℤ) → stands_in_each q ps below ≡ true → c q ≡ cells_held (u.held q)) → AllHaveValues deltas c ps below
  all_known deltas u c none below a h = tt
  all_known deltas u c (also p ps) below a h = (
    values_known deltas u c p (first_id below) (first_ids below) a.0 (λ q g. h q (either_left (stands_in q p (first_id below) (first_ids below)) (stands_in_each q ps (other_ids below)) g)),
    all_known deltas u c ps (other_ids below) a.1 (λ q g. h q (either_right (stands_in q p (first_id below) (first_ids below)) (stands_in_each q ps (other_ids below)) g)),
  )

-- a part of the rows has the dictionaries of the array
mutual
  part_values : (deltas : Bool) (c : ℤ → Option (List Cell)) (o n : ℕ) (p : Parts) (id : Option ℤ) (below : Ids) → HasValues deltas c p id below → HasValues deltas c (part_of o n p) id below
  part_values deltas c o n (leaf l) id below h = tt
  part_values deltas c o n (nested (listed l) cs) id below h = h
  part_values deltas c o n (nested (mapped l) cs) id below h = h
  part_values deltas c o n (nested (sized l) cs) id below h = cut_values deltas c (run (list_size l.kind * o) (list_size l.kind * n)) cs below h
  part_values deltas c o n (nested (structured l) cs) id below h = cut_values deltas c (run o n) cs below h
  part_values deltas c o n (nested (tagged l) cs) id below h = cut_values deltas c (tagged_cut o n l.offsets) cs below h
  part_values deltas c o n (nested (indexed d) parts) id below h = h

  cut_values : (deltas : Bool) (c : ℤ → Option (List Cell)) (k : Cut) (ps : Forest) (below : Ids) → AllHaveValues deltas c ps below → AllHaveValues deltas c (cut k ps) below
  cut_values deltas c whole ps below h = h
  cut_values deltas c (run o n) none below h = tt
  cut_values deltas c (run o n) (also p ps) below h = (part_values deltas c o n p (first_id below) (first_ids below) h.0, cut_values deltas c (run o n) ps (other_ids below) h.1)

pub rows_values : (deltas : Bool) (c : ℤ → Option (List Cell)) (n : ℕ) (p : Parts) (below : Ids) → HasValues deltas c p None below → HasValues deltas c (rows_from n p) None below
rows_values deltas c zero p below h = h
rows_values deltas c (suc n) p below h = part_values deltas c (suc n) (rows_in p - suc n) p None below h

pub rows_kind : (n : ℕ) (p : Parts) → kind_in (rows_from n p) ≡ kind_in p
rows_kind zero p = refl
rows_kind (suc n) p = kind-part (suc n) (rows_in p - suc n) p

pub rows_sound : (n : ℕ) (p : Parts) → fault_in p ≡ None → n ≤ rows_in p → fault_in (rows_from n p) ≡ None
rows_sound zero p f le = f
rows_sound (suc n) p f le = fault-part (suc n) (rows_in p - suc n) p f (omega arith)
