-- How the parts that were read of a dictionary stand to those of them that are held.
use Rattle.std.proofs.Common.{◌≡◌, ℕ, ◌≤◌, List, [], ◌∷◌, ◌++◌, length, length-append, take, refl, sym, ap, subst, ◌∙◌, arith, true, Some, ℤ}
use Rattle.std.specs.Prelude.{cond, nat_lt}
use Rattle.std.specs.List.{AllByRecursion}
use Rattle.std.proofs.Math.Seq.{take-append_seam}
use Rattle.std.proofs.lemmas.List.Concat.{flat_map-append}
use Rattle.arrow_spec.specs.Kinds as kind
use Rattle.arrow_spec.specs.Kinds.{Kind, Fields}
use Rattle.arrow_spec.specs.Cells.{Cell}
use Rattle.arrow_spec.specs.Arrays.{Dictionaries}
use Rattle.arrow_types.specs.KindCode.{by_tree_itself}
use Rattle.ipc_files.specs.Below.{content_eq, content_to, each_of, joined, Forest, cells_each, kinds_each}
use Rattle.laws_writers.specs.Below.{Standing, Longer, Same, Other, are_same_cells, by_cells, standing}
use Rattle.laws_transcode.specs.Sending.{histories, or_never_read, part_cells}
use Rattle.laws_transcode.proofs.Histories.{IsBehind, cells_in, cells_never, grown}
use Rattle.laws_sent.specs.Parts.{PartTree}
use Rattle.arrow_spec.proofs.Forms.{form}
use Rattle.laws_sent.proofs.Forms.{bare_form}
use Rattle.laws_sent.proofs.Pieces.{AreSome, HasCells, HasForm, cells_shown, forms_shown, kinds_held, shown, trees}

-- how many cells were read under an id
abbrev pub total : Dictionaries → ℤ → ℕ
total e q = length (cells_in (shown e q))

joined_cells : (ps : List PartTree) (l : Kind) (hs : List Dictionaries) → AllByRecursion (HasCells ps l) hs → joined (cells_each (trees ps l hs)) ≡ cells_in hs
joined_cells ps l [] a = refl
joined_cells ps l (h ∷ hs) a = ap (λ xs. xs ++ joined (cells_each (trees ps l hs))) a.0 ∙ ap (λ xs. part_cells h ++ xs) (joined_cells ps l hs a.1)

same_itself : (xs : List Cell) → are_same_cells xs xs ≡ true
unfolding content_eq
same_itself xs = by_tree_itself content_to (kind.null, xs) (kind.null, xs) refl

-- values of more cells than those that are held are longer, and else the same
abbrev pub longer_or_same : ℕ → ℕ → Standing
longer_or_same old new = cond (nat_lt old new) (Longer old) Same

goes_on : (xs ys : List Cell) → by_cells xs (xs ++ ys) ≡ longer_or_same (length xs) (length (xs ++ ys))
goes_on xs ys =
    let front : take (length xs) (xs ++ ys) ≡ xs = take-append_seam xs ys in
    rw (front, same_itself xs) refl

stands : (held parts : Forest) (l : Kind) (xs ys : List Cell) → each_of l (kinds_each held) ≡ true → joined (cells_each held) ≡ xs → joined (cells_each parts) ≡ xs ++ ys
    → standing (Some held) l parts ≡ longer_or_same (length xs) (length (xs ++ ys))
stands held parts l xs ys kinds old new =
    ap (λ b. cond b (by_cells (joined (cells_each held)) (joined (cells_each parts))) Other) kinds ∙ ap (λ z. by_cells z (joined (cells_each parts))) old ∙ ap (by_cells xs) new ∙ goes_on xs ys

module _ (fs : Fields) (ps : List PartTree) (q : ℤ) (c e : Dictionaries) (behind : IsBehind c e) (some : AreSome fs ps e) where
  -- the cells that follow
  abbrev more_cells : List Cell
  more_cells = cells_in (grown c e q behind some.unreplaced).more

  all_cells : cells_in (shown e q) ≡ cells_in (shown c q) ++ more_cells
  all_cells =
      let g = grown c e q behind some.unreplaced in
      cells_never (histories e q) ∙ ap cells_in g.whole ∙ flat_map-append part_cells (histories c q) g.more ∙ ap (λ xs. xs ++ cells_in g.more) (sym (cells_never (histories c q)))

  pub total_more : total c q ≤ total e q
  total_more = omega (arith, ap length all_cells, length-append (cells_in (shown c q)) more_cells)

  pub stands_so : (k l m : Kind) → AreSome fs ps c → bare_form k ≡ form l → bare_form k ≡ form m → each_of l (kinds_each (trees ps l (shown e q))) ≡ true
      → standing (Some (trees ps m (shown c q))) l (trees ps l (shown e q)) ≡ longer_or_same (total c q) (total e q)
  stands_so k l m older f g kinds =
      let h = grown c e q behind some.unreplaced in
      let forms = subst (λ hs. AllByRecursion (HasForm ps k l) (or_never_read hs)) h.whole (forms_shown ps k l (shown e q) f kinds) in
      stands (trees ps m (shown c q)) (trees ps l (shown e q)) l (cells_in (shown c q)) more_cells (kinds_held ps k l m q c h.more f g forms)
      (joined_cells ps m (shown c q) (cells_shown fs ps m q c older.each)) (joined_cells ps l (shown e q) (cells_shown fs ps l q e some.each) ∙ all_cells)
      ∙ ap (λ xs. longer_or_same (total c q) (length xs)) (sym all_cells)
