-- A part of the rows of any array: its kind, how many rows it has, its cells, and that arrays have such parts.
use Rattle.std.proofs.Common.{◌≡◌, ℕ, ◌+◌, ◌≤◌, ◌∙◌, ap, sym, List, Bool, Option, length, drop, nat_eq, nat_lt, true, false, None, refl, arith}
use Rattle.std.specs.List.{list_all}
use Rattle.std.specs.Option.{option_map}
use Rattle.std.proofs.lemmas.Bool.{and_parts}
use Rattle.std.proofs.lemmas.List.{length-replicate}
use Rattle.std.proofs.lemmas.List.Elements.{All-take, All-drop}
use Rattle.std.proofs.lemmas.List.Sums.{AllPass-from_list_all, list_all-from_AllPass}
use Rattle.arrow_spec.specs.Cells as cells
use Rattle.arrow_types.specs.Physical.{physical_of}
use Rattle.arrow_buffers.specs.Rows.{part, has_rows}
use Rattle.arrow_buffers.specs.Layouts.{is_boolean, is_variable_any, is_view}
use Rattle.arrow_buffers.specs.Leaf.{leaf_fault}
use Rattle.arrow_buffers.proofs.Sound.{leaf_sound}
use Rattle.arrow_buffers.proofs.Parts.{length-part, part-replicate}
use Rattle.arrow_buffers.proofs.Masks.{length-leaf, leaf_cells-part, has_rows-part}
use Rattle.arrow_buffers.proofs.Fixed.{length-fixed_cells, fixed_cells-part, fixed_fault-part}
use Rattle.arrow_buffers.proofs.VariableParts.{variable_sound, length-variable_cells, variable_cells-part, variable_fault-part}
use Rattle.arrow_buffers.proofs.ViewParts.{view_sound, length-view_cells, view_cells-part, view_fault-part}
use Rattle.arrow_arrays.proofs.NumberParts.{leaf_suits}
use Rattle.arrow_arrays.specs.LeafParts.{LeafParts, nulls, bits, numbers, fixed, binary, text, binary_views, text_views, number_cell, number_size, are_numbers, leaf_kind_in, leaf_rows_in, leaf_cells_in, leaf_part_of, leaf_fault_in}

pub kind-part : (o n : ℕ) (p : LeafParts) → leaf_kind_in (leaf_part_of o n p) ≡ leaf_kind_in p
kind-part o n (nulls x) = refl
kind-part o n p = refl

-- there are as many cells as rows
pub length-cells : (p : LeafParts) → leaf_fault_in p ≡ None → length (leaf_cells_in p) ≡ leaf_rows_in p
length-cells (nulls x) e = length-replicate x.rows cells.null
length-cells (bits f) e = length-leaf cells.bool f.values f.validity (leaf_sound (is_boolean (physical_of f.kind)) (length f.values) f.validity e)
length-cells (numbers f) e = length-leaf (number_cell f.kind) f.values f.validity (leaf_sound (are_numbers (number_size (physical_of f.kind)) f.values) (length f.values) f.validity e)
length-cells (fixed f) e = length-fixed_cells f e
length-cells (binary p) e = length-variable_cells false p (variable_sound false (is_variable_any false (physical_of p.kind)) p e).spanned
length-cells (text p) e = length-variable_cells true p (variable_sound true (is_variable_any true (physical_of p.kind)) p e).spanned
length-cells (binary_views p) e = length-view_cells false p (view_sound false (is_view false (physical_of p.kind)) p e).seen
length-cells (text_views p) e = length-view_cells true p (view_sound true (is_view true (physical_of p.kind)) p e).seen

-- the cells of a part are a part of the cells
pub cells-part : (o n : ℕ) (p : LeafParts) → leaf_fault_in p ≡ None → o + n ≤ leaf_rows_in p → leaf_cells_in (leaf_part_of o n p) ≡ part o n (leaf_cells_in p)
cells-part o n (nulls x) e h = part-replicate o n x.rows cells.null h
cells-part o n (bits f) e h = leaf_cells-part cells.bool o n f.values f.validity
cells-part o n (numbers f) e h = leaf_cells-part (number_cell f.kind) o n f.values f.validity
cells-part o n (fixed f) e h = fixed_cells-part f o n e h
cells-part o n (binary p) e h = variable_cells-part false o n p (variable_sound false (is_variable_any false (physical_of p.kind)) p e).spanned h
cells-part o n (text p) e h = variable_cells-part true o n p (variable_sound true (is_variable_any true (physical_of p.kind)) p e).spanned h
cells-part o n (binary_views p) e h = view_cells-part false o n p (view_sound false (is_view false (physical_of p.kind)) p e).seen h
cells-part o n (text_views p) e h = view_cells-part true o n p (view_sound true (is_view true (physical_of p.kind)) p e).seen h

leaf_fault-part : {A : Type 0} (s t : Bool) (o n : ℕ) (xs : List A) (v : Option (List Bool)) → leaf_fault s (length xs) v ≡ None → t ≡ true → o + n ≤ length xs → leaf_fault t (length (part o n xs)) (option_map (part o n) v) ≡ None
leaf_fault-part s t o n xs v e suits h =
    let rows : has_rows (option_map (part o n) v) n ≡ true = has_rows-part o n (length xs) v (leaf_sound s (length xs) v e) h in
    rw (suits, length-part xs o n h, rows) refl

are_numbers-part : (o n size : ℕ) (values : List (List ℕ)) → are_numbers size values ≡ true → are_numbers size (part o n values) ≡ true
are_numbers-part o n size values e =
    let wide : List ℕ → Bool = λ bytes. nat_eq (length bytes) size in
    let p = and_parts (nat_lt 0 size) (list_all wide values) e in
    let every = AllPass-from_list_all wide values p.1 in
    rw (p.0, list_all-from_AllPass wide (part o n values) (All-take (λ x. wide x ≡ true) n (drop o values) (All-drop (λ x. wide x ≡ true) o values every))) refl

-- arrays have the parts of what arrays have
pub fault-part : (o n : ℕ) (p : LeafParts) → leaf_fault_in p ≡ None → o + n ≤ leaf_rows_in p → leaf_fault_in (leaf_part_of o n p) ≡ None
fault-part o n (nulls x) e h = e
fault-part o n (bits f) e h =
    let s = is_boolean (physical_of f.kind) in
    leaf_fault-part s s o n f.values f.validity e (leaf_suits s (length f.values) f.validity e) h
fault-part o n (numbers f) e h =
    let size = number_size (physical_of f.kind) in
    let s = are_numbers size f.values in
    leaf_fault-part s (are_numbers size (part o n f.values)) o n f.values f.validity e (are_numbers-part o n size f.values (leaf_suits s (length f.values) f.validity e)) h
fault-part o n (fixed f) e h = fixed_fault-part f o n e h
fault-part o n (binary p) e h = variable_fault-part false (is_variable_any false (physical_of p.kind)) o n p e h
fault-part o n (text p) e h = variable_fault-part true (is_variable_any true (physical_of p.kind)) o n p e h
fault-part o n (binary_views p) e h = view_fault-part false (is_view false (physical_of p.kind)) o n p e h
fault-part o n (text_views p) e h = view_fault-part true (is_view true (physical_of p.kind)) o n p e h

-- and as many rows as were asked for
pub rows-part : (o n : ℕ) (p : LeafParts) → leaf_fault_in p ≡ None → o + n ≤ leaf_rows_in p → leaf_rows_in (leaf_part_of o n p) ≡ n
rows-part o n p e h =
    let l : length (leaf_cells_in p) ≡ leaf_rows_in p = length-cells p e in
    sym (length-cells (leaf_part_of o n p) (fault-part o n p e h)) ∙ ap length (cells-part o n p e h) ∙ length-part (leaf_cells_in p) o n (omega arith)
