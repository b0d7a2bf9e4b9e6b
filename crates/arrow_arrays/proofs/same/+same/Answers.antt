use Rattle.std.proofs.Common.{rules, ◌≡◌, ◌+◌, ◌*◌, ◌≤◌, ◌<◌, ◌++◌, ◌∷◌, [], Some, length, get_or, take, slice_get, refl, sym, ap, ◌∙◌, arith, true≢false}
use Rattle.std.proofs.lemmas.List.{take_more}
use Rattle.arrow_spec.specs.Cells as cells
use Rattle.arrow_spec.specs.Cells.{null, cells_of}
use Rattle.arrow_buffers.specs.Rows.{part}
use Rattle.arrow_buffers.proofs.Parts.{length-part}
use Rattle.arrow_arrays.specs.Heads.{across}
use Rattle.arrow_arrays.specs.Parts.{rows_in, cells_in, cells_each, tree_size, trees_size}
use Rattle.arrow_arrays.specs.PartsOf.{parts_of, forest_of}
use Rattle.arrow_arrays.specs.RowCells.{cell_of, value_size}
use Rattle.arrow_arrays.proofs.Forests.{size_at}
use Rattle.arrow_arrays.proofs.SameRows.{part_same, same_at, told_at, list_same, struct_same, length-across, across_at, across_more, reach_at}
use Rattle.arrow_arrays.proofs.same.+same.Goals as goal

pub have_same_row-returns-then-a-b : goal.have_same_row-returns-then-a-b
have_same_row-returns-then-a-b t c = (
  λ h. absurd (true≢false (sym h)),
  λ e. absurd (c.if-a-b.true (sym (length-across c.args.a.now c.args.row) ∙ ap length e ∙ length-across c.args.b.now c.args.place)),
)

pub have_same_row-row-requires : goal.have_same_row-row-requires
have_same_row-row-requires t c =
    let x = c.index-a-i.result in
    let r : c.args.row + 1 ≤ rows_in (parts_of (get_or c.args.a.now c.loop-i.i x)) = reach_at c.args.row 1 c.args.a.now c.loop-i.i x c.requires.a (omega arith) in
    let e : rows_in (parts_of x) ≡ rows_in (parts_of (get_or c.args.a.now c.loop-i.i x)) = ap (λ y. rows_in (parts_of y)) c.index-a-i.is in
    omega arith

pub have_same_row-row-requires-in-loop-i : goal.have_same_row-row-requires-in-loop-i
have_same_row-row-requires-in-loop-i t c =
    let x = c.index-b-i.result in
    let r : c.args.place + 1 ≤ rows_in (parts_of (get_or c.args.b.now c.loop-i.i x)) = reach_at c.args.place 1 c.args.b.now c.loop-i.i x c.requires.b (omega arith) in
    let e : rows_in (parts_of x) ≡ rows_in (parts_of (get_or c.args.b.now c.loop-i.i x)) = ap (λ y. rows_in (parts_of y)) c.index-b-i.is in
    omega arith

pub have_same_row-is_same_value-requires : goal.have_same_row-is_same_value-requires
have_same_row-is_same_value-requires t c =
    let x = c.index-a-i.result in
    let m : tree_size (parts_of (get_or c.args.a.now c.loop-i.i x)) ≤ trees_size (forest_of c.args.a.now) = size_at c.args.a.now c.loop-i.i x (omega arith) in
    let e : tree_size (parts_of x) ≡ tree_size (parts_of (get_or c.args.a.now c.loop-i.i x)) = ap (λ y. tree_size (parts_of y)) c.index-a-i.is in
    let s : value_size c.row.result < 3 * trees_size (forest_of c.args.a.now) + 2 = omega (arith, c.row.ensures.smaller) in
    (search (rules, s), (c.row.ensures.inside, c.row-in-loop-i.ensures.inside))

pub have_same_row-returns-then-not-is_same_value : goal.have_same_row-returns-then-not-is_same_value
have_same_row-returns-then-not-is_same_value t c =
    let x = c.index-a-i.result in
    let y = c.index-b-i.result in
    let i = c.loop-i.i in
    let u : get_or (across (cells_each (forest_of c.args.a.now)) c.args.row) i null ≡ cell_of c.row.result = across_at c.args.a.now c.args.row i x (omega arith) ∙ ap (λ z. get_or (cells_in (parts_of z)) c.args.row null) (sym c.index-a-i.is) ∙ told_at (cells_in (parts_of x)) c.args.row null (cell_of c.row.result) c.row.ensures.cell in
    let v : get_or (across (cells_each (forest_of c.args.b.now)) c.args.place) i null ≡ cell_of c.row-in-loop-i.result = across_at c.args.b.now c.args.place i y (omega arith) ∙ ap (λ z. get_or (cells_in (parts_of z)) c.args.place null) (sym c.index-b-i.is) ∙ told_at (cells_in (parts_of y)) c.args.place null (cell_of c.row-in-loop-i.result) c.row-in-loop-i.ensures.cell in (
      λ h. absurd (true≢false (sym h)),
      λ e. c.if-not-is_same_value.ensures.1 (sym u ∙ ap (λ cs. get_or cs i null) e ∙ v),
    )

pub have_same_row-loop-i-preserved : goal.have_same_row-loop-i-preserved
have_same_row-loop-i-preserved t c =
    let x = c.index-a-i.result in
    let y = c.index-b-i.result in
    let i = c.loop-i.i in
    let a = c.args.a.now in
    let b = c.args.b.now in
    let p : take (i + 1) a ≡ take i a ++ x ∷ [] = take_more a i x (omega arith) ∙ ap (λ z. take i a ++ z ∷ []) (sym c.index-a-i.is) in
    let q : take (i + 1) b ≡ take i b ++ y ∷ [] = take_more b i y (omega arith) ∙ ap (λ z. take i b ++ z ∷ []) (sym c.index-b-i.is) in
    let u = told_at (cells_in (parts_of x)) c.args.row null (cell_of c.row.result) c.row.ensures.cell in
    let v = told_at (cells_in (parts_of y)) c.args.place null (cell_of c.row-in-loop-i.result) c.row-in-loop-i.ensures.cell in
    let w : get_or (cells_in (parts_of x)) c.args.row null ≡ get_or (cells_in (parts_of y)) c.args.place null = u ∙ c.if-not-is_same_value.ensures.0 refl ∙ sym v in
    ap (λ z. across (cells_each (forest_of z)) c.args.row) p ∙ across_more (take i a) x c.args.row
    ∙ ap (λ z. z ++ get_or (cells_in (parts_of x)) c.args.row null ∷ []) c.loop-i.invariant ∙ ap (λ z. across (cells_each (forest_of (take i b))) c.args.place ++ z ∷ []) w
    ∙ sym (across_more (take i b) y c.args.place) ∙ sym (ap (λ z. across (cells_each (forest_of z)) c.args.place) q)

pub have_same_rows-returns-then-count-length : goal.have_same_rows-returns-then-count-length
have_same_rows-returns-then-count-length t c =
    let a = cells_in (parts_of c.args.a.now) in
    let b = cells_in (parts_of c.args.b.now) in
    let l = length-part a c.args.from c.args.count (omega (arith, c.len-held.ensures.cells, c.len-held.ensures.rows, c.requires.a)) in
    let m = length-part b c.args.start c.args.length (omega (arith, c.len-others.ensures.cells, c.len-others.ensures.rows, c.requires.b)) in (
      λ h. absurd (true≢false (sym h)),
      λ e. absurd (c.if-count-length.true (sym l ∙ ap length e ∙ m)),
    )

pub have_same_rows-returns-then-not-is_same_value : goal.have_same_rows-returns-then-not-is_same_value
have_same_rows-returns-then-not-is_same_value t c =
    let a = cells_in (parts_of c.args.a.now) in
    let b = cells_in (parts_of c.args.b.now) in
    let n : c.args.length ≡ c.args.count = sym c.if-count-length.false in (
      λ h. absurd (true≢false (sym h)),
      λ e.
          let s : slice_get a (c.args.from + c.loop-row.row) ≡ slice_get b (c.args.start + c.loop-row.row) =
          same_at a b c.args.from c.args.start c.args.count c.loop-row.row (omega (arith, c.len-held.ensures.cells, c.len-held.ensures.rows, c.requires.a)) (omega (arith, c.len-others.ensures.cells, c.len-others.ensures.rows, c.requires.b)) (e ∙ ap (λ k. part c.args.start k b) n) c.loop-row-test.true in
          let q : Some (cell_of c.row.result) ≡ Some (cell_of c.row-in-loop-row.result) = sym c.row.ensures.cell ∙ s ∙ c.row-in-loop-row.ensures.cell in
          c.if-not-is_same_value.ensures.1 (let r : cell_of c.row.result ≡ cell_of c.row-in-loop-row.result = cc in r),
    )

pub have_same_rows-returns : goal.have_same_rows-returns
have_same_rows-returns t c =
    let a = cells_in (parts_of c.args.a.now) in
    let b = cells_in (parts_of c.args.b.now) in
    let n : c.args.count ≡ c.args.length = c.if-count-length.false in (
      λ h. part_same a b c.args.from c.args.start c.args.count (omega (arith, c.len-held.ensures.cells, c.len-held.ensures.rows, c.requires.a)) (omega (arith, c.len-others.ensures.cells, c.len-others.ensures.rows, c.requires.b)) (λ k lt. c.loop-row.invariant k (omega (arith, c.loop-row-test.false))) ∙ ap (λ k. part c.args.start k b) n,
      λ h. refl,
    )

pub is_same_value-returns-in-List-b : goal.is_same_value-returns-in-List-b
is_same_value-returns-in-List-b t c =
    let xs = part c.in-List.from c.in-List.count (cells_in (parts_of c.in-List.x.now)) in
    let ys = part c.in-List-b.start c.in-List-b.length (cells_in (parts_of c.in-List-b.y.now)) in
    let u : cell_of c.args.a ≡ cells.«list» (cells_of xs) = ap cell_of c.in-List.is in
    let v : cell_of c.args.b ≡ cells.«list» (cells_of ys) = ap cell_of c.in-List-b.is in (
      λ h. u ∙ ap (λ zs. cells.«list» (cells_of zs)) (c.have_same_rows.ensures.0 h) ∙ sym v,
      λ h. c.have_same_rows.ensures.1 (list_same xs ys (sym u ∙ h ∙ v)),
    )

pub is_same_value-returns-in-Struct-b : goal.is_same_value-returns-in-Struct-b
is_same_value-returns-in-Struct-b t c =
    let xs = across (cells_each (forest_of c.in-Struct.xs.now)) c.in-Struct.row in
    let ys = across (cells_each (forest_of c.in-Struct-b.ys.now)) c.in-Struct-b.place in
    let u : cell_of c.args.a ≡ cells.struct (cells_of xs) = ap cell_of c.in-Struct.is in
    let v : cell_of c.args.b ≡ cells.struct (cells_of ys) = ap cell_of c.in-Struct-b.is in (
      λ h. u ∙ ap (λ zs. cells.struct (cells_of zs)) (c.have_same_row.ensures.0 h) ∙ sym v,
      λ h. c.have_same_row.ensures.1 (struct_same xs ys (sym u ∙ h ∙ v)),
    )
