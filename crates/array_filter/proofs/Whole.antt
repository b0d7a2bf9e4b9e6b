-- One run of all rows: what is taken is what was held.
use Rattle.std.proofs.Common.{◌≡◌, ◌∙◌, sym, refl, ap, subst, arith, ℕ, zero, suc, ◌+◌, ◌-◌, ◌*◌, ◌≤◌, ◌&&◌, List, [], ◌∷◌, length, map, append-nil, nat_le, Bool, true, Option, Some, None, ℤ, pos, negsuc}
use Rattle.std.specs.List.{flat_map}
use Rattle.std.specs.Option.{option_map}
use Rattle.std.proofs.lemmas.Bool.{and_parts, eqb-true, leb-true}
use Rattle.std.proofs.lemmas.List.{take_all}
use Rattle.arrow_spec.specs.Needed.{numbers_from}
use Rattle.arrow_buffers.specs.Leaf.{fixed_row}
use Rattle.arrow_buffers.specs.Rows.{has_rows, part}
use Rattle.arrow_buffers.specs.Variable.{Variable, are_offsets, place_at, rise_from, row_bytes, variable_rows}
use Rattle.arrow_buffers.specs.Views.{Views, view_at, view_rows}
use Rattle.arrow_buffers.proofs.Rising.{some_offset}
use Rattle.arrow_buffers.proofs.VariableParts.{Spanned}
use Rattle.arrow_buffers.proofs.ViewParts.{Seen}
use Rattle.array_filter.specs.declared.runs.Run.{Run}
use Rattle.array_filter.specs.Rows.{taken}
use Rattle.array_filter.specs.Runs.{AreWithin, rows_in_runs}
use Rattle.array_filter.specs.Offsets.{ends_on, items_taken, offsets_taken, row_length}
use Rattle.array_filter.specs.Taken.{variable_taken, views_taken}
use Rattle.array_filter.proofs.Lists.{run_taken}
use Rattle.array_filter.proofs.RunLaws.{run_bytes}
use Rattle.array_filter.proofs.OffsetRuns.{run_items}
use Rattle.array_filter.proofs.RunSteps.{bytes_of_items}
use Rattle.array_filter.proofs.Made.{variable_same, views_same}

-- so many rows from the first on
abbrev pub whole : ℕ → List Run
whole n = record { from = 0; count = n } ∷ []

pub whole_rows : (runs : List Run) (n : ℕ) → runs ≡ whole n → rows_in_runs runs ≡ numbers_from 0 n
whole_rows runs n e = ap rows_in_runs e ∙ append-nil (numbers_from 0 n)

pub whole_items : {A : Type 0} (xs : List A) (runs : List Run) (n : ℕ) → n ≡ length xs → runs ≡ whole n → taken (rows_in_runs runs) xs ≡ xs
whole_items xs runs n l e = ap (λ rows. taken rows xs) (whole_rows runs n e) ∙ run_taken xs 0 n (omega (arith, l)) ∙ take_all n xs (omega (arith, l))

pub one_within : (size n held : ℕ) (runs : List Run) → runs ≡ whole n → AreWithin size runs held → size * n ≤ held
one_within size n held runs e a = let b = subst (λ rs. AreWithin size rs held) e a in omega (arith, b.0)

pub whole_bytes : (size n : ℕ) (bytes : List ℕ) (runs : List Run) → runs ≡ whole n → size * n ≡ length bytes → flat_map (fixed_row size bytes) (rows_in_runs runs) ≡ bytes
whole_bytes size n bytes runs e l =
    let start : size * 0 ≡ 0 = omega arith in
    ap (flat_map (fixed_row size bytes)) (whole_rows runs n e) ∙ run_bytes size bytes 0 n ∙ ap (λ k. part k (size * n) bytes) start ∙ take_all (size * n) bytes (omega (arith, l))

-- ── offsets ──

shifted : (o : ℤ) (os : List ℤ) (i n : ℕ) → map (row_length (o ∷ os)) (numbers_from (suc i) n) ≡ map (row_length os) (numbers_from i n)
shifted o os i zero = refl
shifted o os i (suc n) = ap (λ ns. row_length os i ∷ ns) (shifted o os (suc i) n)

ends_held : (limit at : ℕ) (os : List ℤ) → rise_from at os limit ≡ true → ends_on at (map (row_length (pos at ∷ os)) (numbers_from 0 (length os))) ≡ os
ends_held limit at [] e = refl
ends_held limit at (pos o ∷ os) e =
    let p = and_parts (nat_le at o && nat_le o limit) (rise_from o os limit) e in
    let q = and_parts (nat_le at o) (nat_le o limit) p.0 in
    let end : at + (o - at) ≡ o = omega (arith, leb-true at o q.0) in
    ap (λ ns. ends_on at ((o - at) ∷ ns)) (shifted (pos at) (pos o ∷ os) 0 (length os))
    ∙ ap (λ k. pos k ∷ ends_on k (map (row_length (pos o ∷ os)) (numbers_from 0 (length os)))) end ∙ ap (λ zs. pos o ∷ zs) (ends_held limit o os p.1)
ends_held limit at (negsuc n ∷ os) e = cc

pub whole_offsets : (os : List ℤ) (limit : ℕ) (runs : List Run) (n : ℕ) → are_offsets os limit ≡ true → place_at os 0 ≡ 0 → n + 1 ≡ length os → runs ≡ whole n → offsets_taken (rows_in_runs runs) os ≡ os
whole_offsets [] limit runs n e z l h = cc
whole_offsets (pos o ∷ os) limit runs n e z l h =
    let p = and_parts (nat_le 0 o && nat_le o limit) (rise_from o os limit) e in
    let m : n ≡ length os = omega (arith, l) in
    ap (λ rows. offsets_taken rows (pos o ∷ os)) (whole_rows runs n h ∙ ap (numbers_from 0) m)
    ∙ ap (λ k. pos k ∷ ends_on k (map (row_length (pos o ∷ os)) (numbers_from 0 (length os)))) (sym z) ∙ ap (λ zs. pos o ∷ zs) (ends_held limit o os p.1)
whole_offsets (negsuc k ∷ os) limit runs n e z l h = cc

-- ── arrays ──

pub whole_validity : (v : Option (List Bool)) (runs : List Run) (n : ℕ) → has_rows v n ≡ true → runs ≡ whole n → option_map (taken (rows_in_runs runs)) v ≡ v
whole_validity None runs n e h = refl
whole_validity (Some bits) runs n e h = ap Some (whole_items bits runs n (sym (eqb-true (length bits) n e)) h)

whole_between : (os : List ℤ) (values : List ℕ) (runs : List Run) (n : ℕ) → are_offsets os (length values) ≡ true → n + 1 ≡ length os → place_at os 0 ≡ 0 → place_at os n ≡ length values → runs ≡ whole n
    → flat_map (row_bytes os values) (rows_in_runs runs) ≡ values
whole_between os values runs n e l z t h =
    let same : 0 + n ≡ n = omega arith in
    let long : place_at os (0 + n) - place_at os 0 ≡ length values = omega (arith, z, t, ap (place_at os) same) in
    let items : items_taken (numbers_from 0 n) os ≡ numbers_from 0 (length values) = run_items os (length values) 0 n e (omega (arith, l)) ∙ ap (numbers_from (place_at os 0)) long ∙ ap (λ k. numbers_from k (length values)) z in
    let start : 1 * 0 ≡ 0 = omega arith in
    ap (flat_map (row_bytes os values)) (whole_rows runs n h) ∙ sym (bytes_of_items (place_at os) (row_length os) values (numbers_from 0 n)) ∙ ap (flat_map (fixed_row 1 values)) items
    ∙ run_bytes 1 values 0 (length values) ∙ ap (λ k. part k (1 * length values) values) start ∙ take_all (1 * length values) values (omega arith)

pub whole_variable : (p : Variable) (runs : List Run) → Spanned p → runs ≡ whole (variable_rows p.offsets) → place_at p.offsets 0 ≡ 0 → place_at p.offsets (variable_rows p.offsets) ≡ length p.values → variable_taken (rows_in_runs runs) p ≡ p
whole_variable p runs s h z t =
    let rows = rows_in_runs runs in
    let long : variable_rows p.offsets + 1 ≡ length p.offsets = omega (arith, some_offset p.offsets (length p.values) s.rise) in
    variable_same p.kind p.kind (offsets_taken rows p.offsets) p.offsets (flat_map (row_bytes p.offsets p.values) rows) p.values (option_map (taken rows) p.validity) p.validity refl
    (whole_offsets p.offsets (length p.values) runs (variable_rows p.offsets) s.rise z long h) (whole_between p.offsets p.values runs (variable_rows p.offsets) s.rise long z t h)
    (whole_validity p.validity runs (variable_rows p.offsets) s.rows h)

pub whole_views : (p : Views) (runs : List Run) → Seen p → runs ≡ whole (view_rows p.views) → views_taken (rows_in_runs runs) p ≡ p
whole_views p runs s h =
    let rows = rows_in_runs runs in
    let long : 16 * view_rows p.views ≡ length p.views = omega (arith, s.whole) in
    views_same p.kind p.kind (flat_map (view_at p.views) rows) p.views p.buffers p.buffers (option_map (taken rows) p.validity) p.validity refl
    (whole_bytes 16 (view_rows p.views) p.views runs h long) refl (whole_validity p.validity runs (view_rows p.views) s.rows h)
