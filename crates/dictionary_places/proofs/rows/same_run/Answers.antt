use Rattle.std.proofs.Common.{◌≡◌, ◌∙◌, ◌<◌, ◌≤◌, ◌+◌, length, get_or, sym, ap, arith, rules, true≢false}
use Rattle.arrow_arrays.specs.Parts.{rows_in}
use Rattle.arrow_arrays.specs.PartsOf.{parts_of}
use Rattle.dictionary_places.specs.Places.{place}
use Rattle.dictionary_places.proofs.Places.{row_at, same_run}
use Rattle.dictionary_places.proofs.rows.same_run.Goals as goal

pub bounds-u-a : goal.bounds-u-a
bounds-u-a c = (row_at c.args.u.parts.now c.args.u.places.now c.args.i (place 0 0) c.requires.u c.requires.i).inside

pub bounds-v-b : goal.bounds-v-b
bounds-v-b c = (row_at c.args.v.parts.now c.args.v.places.now c.args.j (place 0 0) c.requires.v c.requires.j).inside

pub offset_bounds-u-a : goal.offset_bounds-u-a
offset_bounds-u-a c =
    let inside : (get_or c.args.u.places.now c.args.i (place 0 0)).part < length c.args.u.parts.now = (row_at c.args.u.parts.now c.args.u.places.now c.args.i (place 0 0) c.requires.u c.requires.i).inside in
    search rules

pub offset_bounds-v-b : goal.offset_bounds-v-b
offset_bounds-v-b c =
    let inside : (get_or c.args.v.places.now c.args.j (place 0 0)).part < length c.args.v.parts.now = (row_at c.args.v.parts.now c.args.v.places.now c.args.j (place 0 0) c.requires.v c.requires.j).inside in
    search rules

pub overflow_sub-rows : goal.overflow_sub-rows
overflow_sub-rows c =
    let xs = c.args.u.parts.now in
    let p = get_or c.args.u.places.now c.args.i (place 0 0) in
    let x = get_or xs p.part c.index-u-a.result in
    let a = (row_at xs c.args.u.places.now c.args.i (place 0 0) c.requires.u c.requires.i).there x (ap (λ z. get_or xs p.part z) c.index-u-a.is) in
    let e : rows_in (parts_of c.index-u-a.result) ≡ rows_in (parts_of x) = ap (λ z. rows_in (parts_of z)) c.index-u-a.is in
    omega (arith, a.below, e, c.len-rows.ensures.rows)

pub overflow_sub-others : goal.overflow_sub-others
overflow_sub-others c =
    let ys = c.args.v.parts.now in
    let q = get_or c.args.v.places.now c.args.j (place 0 0) in
    let y = get_or ys q.part c.index-v-b.result in
    let b = (row_at ys c.args.v.places.now c.args.j (place 0 0) c.requires.v c.requires.j).there y (ap (λ z. get_or ys q.part z) c.index-v-b.is) in
    let f : rows_in (parts_of c.index-v-b.result) ≡ rows_in (parts_of y) = ap (λ z. rows_in (parts_of z)) c.index-v-b.is in
    omega (arith, b.below, f, c.len-others.ensures.rows)

pub have_same_rows-requires-clause-a : goal.have_same_rows-requires-clause-a
have_same_rows-requires-clause-a c =
    let xs = c.args.u.parts.now in
    let p = get_or c.args.u.places.now c.args.i (place 0 0) in
    let x = get_or xs p.part c.index-u-a.result in
    let a = (row_at xs c.args.u.places.now c.args.i (place 0 0) c.requires.u c.requires.i).there x (ap (λ z. get_or xs p.part z) c.index-u-a.is) in
    let e : rows_in (parts_of c.index-u-a.result) ≡ rows_in (parts_of x) = ap (λ z. rows_in (parts_of z)) c.index-u-a.is in
    omega (arith, a.below, e, c.len-rows.ensures.rows, c.min-count.ensures, c.min.ensures)

pub have_same_rows-requires-clause-b : goal.have_same_rows-requires-clause-b
have_same_rows-requires-clause-b c =
    let ys = c.args.v.parts.now in
    let q = get_or c.args.v.places.now c.args.j (place 0 0) in
    let y = get_or ys q.part c.index-v-b.result in
    let b = (row_at ys c.args.v.places.now c.args.j (place 0 0) c.requires.v c.requires.j).there y (ap (λ z. get_or ys q.part z) c.index-v-b.is) in
    let f : rows_in (parts_of c.index-v-b.result) ≡ rows_in (parts_of y) = ap (λ z. rows_in (parts_of z)) c.index-v-b.is in
    omega (arith, b.below, f, c.len-others.ensures.rows, c.min-count.ensures, c.min.ensures)

pub returns-then-have_same_rows : goal.returns-then-have_same_rows
returns-then-have_same_rows c =
    let xs = c.args.u.parts.now in
    let p = get_or c.args.u.places.now c.args.i (place 0 0) in
    let x = get_or xs p.part c.index-u-a.result in
    let a = (row_at xs c.args.u.places.now c.args.i (place 0 0) c.requires.u c.requires.i).there x (ap (λ z. get_or xs p.part z) c.index-u-a.is) in
    let e : rows_in (parts_of c.index-u-a.result) ≡ rows_in (parts_of x) = ap (λ z. rows_in (parts_of z)) c.index-u-a.is in
    let ys = c.args.v.parts.now in
    let q = get_or c.args.v.places.now c.args.j (place 0 0) in
    let y = get_or ys q.part c.index-v-b.result in
    let b = (row_at ys c.args.v.places.now c.args.j (place 0 0) c.requires.v c.requires.j).there y (ap (λ z. get_or ys q.part z) c.index-v-b.is) in
    let f : rows_in (parts_of c.index-v-b.result) ≡ rows_in (parts_of y) = ap (λ z. rows_in (parts_of z)) c.index-v-b.is in
    let l : p.row + c.min-count.result ≤ rows_in (parts_of x) = omega (arith, a.below, e, c.len-rows.ensures.rows, c.min-count.ensures, c.min.ensures) in
    let m : q.row + c.min-count.result ≤ rows_in (parts_of y) = omega (arith, b.below, f, c.len-others.ensures.rows, c.min-count.ensures, c.min.ensures) in
    let both = same_run c.have_same_rows.result xs ys c.args.i c.args.j c.min-count.result p q x y a b l m c.have_same_rows.ensures in
    record {
      same = both.0 c.if-have_same_rows.true;
      onward = omega (arith, a.below, e, c.len-rows.ensures.rows, b.below, f, c.len-others.ensures.rows, c.requires.some, c.min-count.ensures, c.min.ensures);
      within = omega (arith, c.min-count.ensures);
      other = tt;
    }

pub returns-else-have_same_rows : goal.returns-else-have_same_rows
returns-else-have_same_rows c =
    let xs = c.args.u.parts.now in
    let p = get_or c.args.u.places.now c.args.i (place 0 0) in
    let x = get_or xs p.part c.index-u-a.result in
    let a = (row_at xs c.args.u.places.now c.args.i (place 0 0) c.requires.u c.requires.i).there x (ap (λ z. get_or xs p.part z) c.index-u-a.is) in
    let e : rows_in (parts_of c.index-u-a.result) ≡ rows_in (parts_of x) = ap (λ z. rows_in (parts_of z)) c.index-u-a.is in
    let ys = c.args.v.parts.now in
    let q = get_or c.args.v.places.now c.args.j (place 0 0) in
    let y = get_or ys q.part c.index-v-b.result in
    let b = (row_at ys c.args.v.places.now c.args.j (place 0 0) c.requires.v c.requires.j).there y (ap (λ z. get_or ys q.part z) c.index-v-b.is) in
    let f : rows_in (parts_of c.index-v-b.result) ≡ rows_in (parts_of y) = ap (λ z. rows_in (parts_of z)) c.index-v-b.is in
    let l : p.row + c.min-count.result ≤ rows_in (parts_of x) = omega (arith, a.below, e, c.len-rows.ensures.rows, c.min-count.ensures, c.min.ensures) in
    let m : q.row + c.min-count.result ≤ rows_in (parts_of y) = omega (arith, b.below, f, c.len-others.ensures.rows, c.min-count.ensures, c.min.ensures) in
    let both = same_run c.have_same_rows.result xs ys c.args.i c.args.j c.min-count.result p q x y a b l m c.have_same_rows.ensures in
    record {
      same = tt;
      onward = tt;
      within = tt;
      other = λ s. true≢false (sym (both.1 (λ k lt. s k (omega (arith, lt, c.min-count.ensures)))) ∙ c.if-have_same_rows.false);
    }
