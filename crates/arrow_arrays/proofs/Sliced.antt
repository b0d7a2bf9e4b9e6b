-- A part of the rows of any array: its kind, how many rows it has, its cells, and that arrays have such parts.
use Rattle.std.proofs.Common.{◌≡◌, ℕ, ◌+◌, ◌≤◌, ◌∷◌, Option, Some, None, length, refl, ap, ◌∙◌}
use Rattle.arrow_buffers.specs.declared.error.ArrayError.{ArrayError}
use Rattle.arrow_buffers.specs.Rows.{part}
use Rattle.arrow_arrays.specs.Heads.{Head, Cut, whole, run, head_cells, head_part, head_fault, cut_of, cut_cells, Reaches}
use Rattle.arrow_arrays.specs.Parts.{Parts, Forest, leaf, nested, none, also, kind_in, rows_in, kinds_each, rows_each, cells_in, cells_each, part_of, cut, either, fault_in, fault_each}
use Rattle.arrow_arrays.proofs.LeafSliced as leaves
use Rattle.arrow_arrays.proofs.HeadSliced as heads
use Rattle.arrow_arrays.proofs.HeadSliced.{Sound, cut_counts}

-- neither of two is given
pub neither : (d e : Option ArrayError) → either d e ≡ None → (d ≡ None) × (e ≡ None)
neither None e h = (refl, h)
neither (Some d) e h = cc

pub both : (d e : Option ArrayError) → d ≡ None → e ≡ None → either d e ≡ None
both d e p q = rw (p, q) refl

-- what a tree that is not refused says of its top, and of its children
pub top_sound : (h : Head) (cs : Forest) → fault_in (nested h cs) ≡ None → Sound h (kinds_each cs) (rows_each cs) × (fault_each cs ≡ None)
top_sound h cs e =
    let p = neither (head_fault h (kinds_each cs) (rows_each cs)) (fault_each cs) e in
    (heads.head_sound h (kinds_each cs) (rows_each cs) p.0, p.1)

pub kind-part : (o n : ℕ) (p : Parts) → kind_in (part_of o n p) ≡ kind_in p
kind-part o n (leaf l) = leaves.kind-part o n l
kind-part o n (nested h cs) = heads.kind-part o n h

pub rows-part : (o n : ℕ) (p : Parts) → fault_in p ≡ None → o + n ≤ rows_in p → rows_in (part_of o n p) ≡ n
rows-part o n (leaf l) e le = leaves.rows-part o n l e le
rows-part o n (nested h cs) e le = heads.rows-part o n h (rows_each cs) (top_sound h cs e).0.offsets le

pub length-cells : (p : Parts) → fault_in p ≡ None → length (cells_in p) ≡ rows_in p
length-cells (leaf l) e = leaves.length-cells l e
length-cells (nested h cs) e = heads.length-head h (cells_each cs) (top_sound h cs e).0.valid

pub each-kinds : (c : Cut) (cs : Forest) → kinds_each (cut c cs) ≡ kinds_each cs
each-kinds whole cs = refl
each-kinds (run o n) none = refl
each-kinds (run o n) (also p cs) = ap (λ k. k ∷ kinds_each (cut (run o n) cs)) (kind-part o n p) ∙ ap (λ ks. kind_in p ∷ ks) (each-kinds (run o n) cs)

pub each-counts : (c : Cut) (cs : Forest) → fault_each cs ≡ None → Reaches c (rows_each cs) → rows_each (cut c cs) ≡ cut_counts c (rows_each cs)
each-counts whole cs e r = refl
each-counts (run o n) none e r = refl
each-counts (run o n) (also p cs) e r =
    let f = neither (fault_in p) (fault_each cs) e in
    ap (λ m. m ∷ rows_each (cut (run o n) cs)) (rows-part o n p f.0 r.0) ∙ ap (λ ms. n ∷ ms) (each-counts (run o n) cs f.1 r.1)

-- the cells of a part are a part of the cells
mutual
  pub cells-part : (o n : ℕ) (p : Parts) → fault_in p ≡ None → o + n ≤ rows_in p → cells_in (part_of o n p) ≡ part o n (cells_in p)
  cells-part o n (leaf l) e le = leaves.cells-part o n l e le
  cells-part o n (nested h cs) e le =
      let t = top_sound h cs e in
      ap (head_cells (head_part o n h)) (each-cells (cut_of o n h) cs t.1 (heads.head_reaches o n h (rows_each cs) t.0.rows le))
      ∙ heads.cells-part o n h (cells_each cs) (heads.rows-part o n h (rows_each cs) t.0.offsets le) le

  pub each-cells : (c : Cut) (cs : Forest) → fault_each cs ≡ None → Reaches c (rows_each cs) → cells_each (cut c cs) ≡ cut_cells c (cells_each cs)
  each-cells whole cs e r = refl
  each-cells (run o n) none e r = refl
  each-cells (run o n) (also p cs) e r =
      let f = neither (fault_in p) (fault_each cs) e in
      ap (λ xs. xs ∷ cells_each (cut (run o n) cs)) (cells-part o n p f.0 r.0) ∙ ap (λ css. part o n (cells_in p) ∷ css) (each-cells (run o n) cs f.1 r.1)

-- arrays have the parts of what arrays have
mutual
  pub fault-part : (o n : ℕ) (p : Parts) → fault_in p ≡ None → o + n ≤ rows_in p → fault_in (part_of o n p) ≡ None
  fault-part o n (leaf l) e le = leaves.fault-part o n l e le
  fault-part o n (nested h cs) e le =
      let t = top_sound h cs e in
      let c = cut_of o n h in
      let r = heads.head_reaches o n h (rows_each cs) t.0.rows le in
      let top : head_fault (head_part o n h) (kinds_each (cut c cs)) (rows_each (cut c cs)) ≡ None =
      ap (λ ks. head_fault (head_part o n h) ks (rows_each (cut c cs))) (each-kinds c cs) ∙ ap (head_fault (head_part o n h) (kinds_each cs)) (each-counts c cs t.1 r) ∙ heads.fault-part o n h (kinds_each cs) (rows_each cs) t.0 le in
      both (head_fault (head_part o n h) (kinds_each (cut c cs)) (rows_each (cut c cs))) (fault_each (cut c cs)) top (each-fault c cs t.1 r)

  pub each-fault : (c : Cut) (cs : Forest) → fault_each cs ≡ None → Reaches c (rows_each cs) → fault_each (cut c cs) ≡ None
  each-fault whole cs e r = e
  each-fault (run o n) none e r = refl
  each-fault (run o n) (also p cs) e r =
      let f = neither (fault_in p) (fault_each cs) e in
      both (fault_in (part_of o n p)) (fault_each (cut (run o n) cs)) (fault-part o n p f.0 r.0) (each-fault (run o n) cs f.1 r.1)
