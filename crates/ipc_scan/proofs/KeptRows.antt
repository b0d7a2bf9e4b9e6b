-- The rows of a batch's columns that are kept by marks.
use Rattle.std.proofs.Common.{◌≡◌, ◌∙◌, refl, sym, ap, subst, arith, ℕ, suc, ◌+◌, ◌≤◌, List, [], ◌∷◌, length, map, Bool, true, false, None, nat_eq}
use Rattle.std.proofs.lemmas.Bool.{and_from, and_parts, eq-eqb, eqb-true}
use Rattle.std.proofs.lemmas.List.{length-map}
use Rattle.arrow_types.specs.Schemas.{Keyed}
use Rattle.arrow_arrays.specs.Batches.{Batch, batch_fault, have_rows}
use Rattle.arrow_arrays.specs.Parts.{Parts, cells_in, fault_each, fault_in, forest, kind_in, rows_in}
use Rattle.arrow_arrays.proofs.Sliced.{neither}
use Rattle.array_filter.specs.Rows.{AreBelow, marked, marked_from}
use Rattle.array_filter.specs.Taken.{rows_taken}
use Rattle.array_filter.proofs.Kept.{marked_cells}
use Rattle.array_filter.proofs.TreeTaken.{rows_are_taken}
use Rattle.ipc_read.proofs.BatchTables.{batch_fine}
use Rattle.laws_scan.specs.Filtered.{marked_count}
use Rattle.laws_scan.specs.Reads.{KeepsRows}
use Rattle.laws_scan.proofs.TakenColumns.{kind_taken}

-- as many numbers as marks that are set, each below as many rows as there are marks
length-marked : (i : ℕ) (marks : List Bool) → length (marked_from i marks) ≡ marked_count marks
length-marked i [] = refl
length-marked i (true ∷ marks) = ap suc (length-marked (suc i) marks)
length-marked i (false ∷ marks) = length-marked (suc i) marks

below_marked : (i n : ℕ) (marks : List Bool) → i + length marks ≤ n → AreBelow n (marked_from i marks)
below_marked i n [] h = tt
below_marked i n (true ∷ marks) h = (omega (arith, h), below_marked (suc i) n marks (omega (arith, h)))
below_marked i n (false ∷ marks) h = below_marked (suc i) n marks (omega (arith, h))

module _ (marks : List Bool) where
  abbrev kept : List Parts → List Parts
  kept ps = map (rows_taken (marked_from 0 marks)) ps

  -- each has the rows of the marks
  record HasMarked (p : Parts) (ps : List Parts) : Type 0 where
    sound : fault_in p ≡ None
    rows : rows_in p ≡ length marks
    others_sound : fault_each (forest ps) ≡ None
    others_rows : have_rows (length marks) ps ≡ true

  has_marked : (p : Parts) (ps : List Parts) → fault_each (forest (p ∷ ps)) ≡ None → have_rows (length marks) (p ∷ ps) ≡ true → HasMarked p ps
  has_marked p ps sound rows =
      let s = neither (fault_in p) (fault_each (forest ps)) sound in
      let r = and_parts (nat_eq (rows_in p) (length marks)) (have_rows (length marks) ps) rows in
      record { sound = s.0; rows = eqb-true (rows_in p) (length marks) r.0; others_sound = s.1; others_rows = r.1 }

  below : (p : Parts) → rows_in p ≡ length marks → AreBelow (rows_in p) (marked_from 0 marks)
  below p rows = below_marked 0 (rows_in p) marks (omega (arith, rows))

  rows_kept : (ps : List Parts) → fault_each (forest ps) ≡ None → have_rows (length marks) ps ≡ true → have_rows (marked_count marks) (kept ps) ≡ true
  rows_kept [] sound rows = refl
  rows_kept (p ∷ ps) sound rows =
      let h = has_marked p ps sound rows in
      let count : rows_in (rows_taken (marked_from 0 marks) p) ≡ marked_count marks = (rows_are_taken (marked_from 0 marks) p h.sound (below p h.rows)).all_rows ∙ length-marked 0 marks in
      and_from (nat_eq (rows_in (rows_taken (marked_from 0 marks) p)) (marked_count marks)) (have_rows (marked_count marks) (kept ps)) (eq-eqb _ _ count) (rows_kept ps h.others_sound h.others_rows)

  cells_kept : (ps : List Parts) → fault_each (forest ps) ≡ None → have_rows (length marks) ps ≡ true → map cells_in (kept ps) ≡ map (λ p. marked marks (cells_in p)) ps
  cells_kept [] sound rows = refl
  cells_kept (p ∷ ps) sound rows =
      let h = has_marked p ps sound rows in
      let cells : cells_in (rows_taken (marked_from 0 marks) p) ≡ marked marks (cells_in p) = marked_cells marks p (rows_taken (marked_from 0 marks) p) h.sound (below p h.rows) (sym h.rows) refl in
      ap (λ x. x ∷ map cells_in (kept ps)) cells ∙ ap (λ xs. marked marks (cells_in p) ∷ xs) (cells_kept ps h.others_sound h.others_rows)

  pub kinds_kept : (ps qs : List Parts) → qs ≡ kept ps → map kind_in qs ≡ map kind_in ps
  kinds_kept ps qs are = ap (map kind_in) are ∙ by ps
    where
      by : (rs : List Parts) → map kind_in (kept rs) ≡ map kind_in rs
      by [] = refl
      by (r ∷ rs) = ap (λ k. k ∷ map kind_in (kept rs)) (kind_taken (marked_from 0 marks) r) ∙ ap (λ ks. kind_in r ∷ ks) (by rs)

  -- they make a batch
  pub kept_fine : (count : ℕ) (s : List Keyed) (ps qs : List Parts) → count ≡ marked_count marks → length s ≡ length ps → qs ≡ kept ps → fault_each (forest ps) ≡ None → have_rows (length marks) ps ≡ true
      → batch_fault (record { height = count; schema = s; arrays = qs; custom = [] }) ≡ None
  kept_fine count s ps qs is width are sound rows =
      batch_fine count s qs (width ∙ sym (length-map ps (rows_taken (marked_from 0 marks))) ∙ sym (ap length are))
      (ap (have_rows count) are ∙ ap (λ n. have_rows n (kept ps)) is ∙ rows_kept ps sound rows)

  pub batch_kept : (whole y : Batch) → length marks ≡ whole.height → fault_each (forest whole.arrays) ≡ None → have_rows whole.height whole.arrays ≡ true → y.height ≡ marked_count marks → y.arrays ≡ kept whole.arrays → y.custom ≡ whole.custom → KeepsRows marks whole y
  batch_kept whole y count sound rows height arrays custom = record {
    rows = count;
    sound = sound;
    height = height;
    arrays = arrays;
    cells = ap (map cells_in) arrays ∙ cells_kept whole.arrays sound (subst (λ n. have_rows n whole.arrays ≡ true) (sym count) rows);
    custom = custom;
  }
