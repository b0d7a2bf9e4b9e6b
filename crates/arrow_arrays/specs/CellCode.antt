-- A kind and cells as a tree of numbers, which gives them back: so what two arrays hold is compared.
use Rattle.std.specs.Prelude.{◌≡◌, ℕ, zero, suc, List, [], ◌∷◌, Bool, true, refl}
use Rattle.std.proofs.Common.{ap, ◌∙◌}
use Rattle.std.specs.Cmp.{IsEquivalence}
use base.Stored.{Gv, gnil, gnum, gcons, num}
use Rattle.arrow_spec.specs.Kinds.{Kind}
use Rattle.arrow_spec.specs.Cells.{Cell, Cells, null, bool, number, interval, text, bytes, «list», struct, tagged, none, also, cells_of}
use Rattle.arrow_types.specs.KindCode.{head, tail, bool_to, bool_from, bool_from-bool_to, bytes_to, bytes_from, bytes_from-bytes_to, integer_to, integer_from, integer_from-integer_to, kind_to, kind_from, kind_from-kind_to, by_tree, by_tree_told, by_tree_equiv}

abbrev mutual
  pub cell_to : Cell → Gv
  cell_to null = gnil
  cell_to (bool b) = gcons (gnum 0) (bool_to b)
  cell_to (number z) = gcons (gnum 1) (integer_to z)
  cell_to (interval a b c) = gcons (gnum 2) (gcons (integer_to a) (gcons (integer_to b) (integer_to c)))
  cell_to (text xs) = gcons (gnum 3) (bytes_to xs)
  cell_to (bytes xs) = gcons (gnum 4) (bytes_to xs)
  cell_to («list» cs) = gcons (gnum 5) (cells_to cs)
  cell_to (struct cs) = gcons (gnum 6) (cells_to cs)
  cell_to (tagged z c) = gcons (gnum 7) (gcons (integer_to z) (cell_to c))

  pub cells_to : Cells → Gv
  cells_to none = gnil
  cells_to (also c cs) = gcons (cell_to c) (cells_to cs)

-- a cell by its tag and what stands behind it, read as cells and as a cell behind a number
abbrev pub shaped : ℕ → Gv → Cells → Cell → Cell
shaped zero g cs c = bool (bool_from g)
shaped (suc zero) g cs c = number (integer_from g)
shaped (suc (suc zero)) g cs c = interval (integer_from (head g)) (integer_from (head (tail g))) (integer_from (tail (tail g)))
shaped (suc (suc (suc zero))) g cs c = text (bytes_from g)
shaped (suc (suc (suc (suc zero)))) g cs c = bytes (bytes_from g)
shaped (suc (suc (suc (suc (suc zero))))) g cs c = «list» cs
shaped (suc (suc (suc (suc (suc (suc zero)))))) g cs c = struct cs
shaped (suc (suc (suc (suc (suc (suc (suc n))))))) g cs c = tagged (integer_from (head g)) c

abbrev mutual
  pub cell_from : Gv → Cell
  cell_from gnil = null
  cell_from (gnum n) = null
  cell_from (gcons t g) = shaped (num t) g (cells_from g) (behind g)

  pub behind : Gv → Cell
  behind gnil = null
  behind (gnum n) = null
  behind (gcons a b) = cell_from b

  pub cells_from : Gv → Cells
  cells_from gnil = none
  cells_from (gnum n) = none
  cells_from (gcons a b) = also (cell_from a) (cells_from b)

mutual
  pub cell_from-cell_to : (c : Cell) → cell_from (cell_to c) ≡ c
  cell_from-cell_to null = refl
  cell_from-cell_to (bool b) = ap bool (bool_from-bool_to b)
  cell_from-cell_to (number z) = ap number (integer_from-integer_to z)
  cell_from-cell_to (interval a b c) = rw (integer_from-integer_to a, integer_from-integer_to b, integer_from-integer_to c) refl
  cell_from-cell_to (text xs) = ap text (bytes_from-bytes_to xs)
  cell_from-cell_to (bytes xs) = ap bytes (bytes_from-bytes_to xs)
  cell_from-cell_to («list» cs) = ap «list» (cells_from-cells_to cs)
  cell_from-cell_to (struct cs) = ap struct (cells_from-cells_to cs)
  cell_from-cell_to (tagged z c) = ap (λ x. tagged x (cell_from (cell_to c))) (integer_from-integer_to z) ∙ ap (tagged z) (cell_from-cell_to c)

  pub cells_from-cells_to : (cs : Cells) → cells_from (cells_to cs) ≡ cs
  cells_from-cells_to none = refl
  cells_from-cells_to (also c cs) = ap (λ x. also x (cells_from (cells_to cs))) (cell_from-cell_to c) ∙ ap (also c) (cells_from-cells_to cs)

abbrev pub list_of : Cells → List Cell
list_of none = []
list_of (also c cs) = c ∷ list_of cs

pub list_of-cells_of : (cs : List Cell) → list_of (cells_of cs) ≡ cs
list_of-cells_of [] = refl
list_of-cells_of (c ∷ cs) = ap (λ xs. c ∷ xs) (list_of-cells_of cs)

-- what an array holds: its kind and its cells
abbrev pub Content : Type 0
Content = Kind × List Cell

abbrev pub content_to : Content → Gv
content_to p = gcons (kind_to p.0) (cells_to (cells_of p.1))

abbrev pub content_from : Gv → Content
content_from g = (kind_from (head g), list_of (cells_from (tail g)))

pub content_from-content_to : (p : Content) → content_from (content_to p) ≡ p
content_from-content_to p =
    let c : list_of (cells_from (cells_to (cells_of p.1))) ≡ p.1 = ap list_of (cells_from-cells_to (cells_of p.1)) ∙ list_of-cells_of p.1 in
    ap (λ k. (k, list_of (cells_from (cells_to (cells_of p.1))))) (kind_from-kind_to p.0) ∙ ap (λ cs. (p.0, cs)) c

-- whether two contents are the same
unfoldable pub content_eq : Content → Content → Bool
content_eq = by_tree content_to

pub content_eq_told : (r : Bool) (p q : Content) → (r ≡ true → p ≡ q) × (p ≡ q → r ≡ true) → r ≡ content_eq p q
unfolding content_eq
content_eq_told = by_tree_told content_to content_from content_from-content_to

pub content_eq_equiv : IsEquivalence content_eq
unfolding content_eq
content_eq_equiv = by_tree_equiv content_to content_from content_from-content_to
