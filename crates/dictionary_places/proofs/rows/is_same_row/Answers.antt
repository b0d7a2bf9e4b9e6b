use Rattle.std.proofs.Common.{◌<◌, length, get_or, ap, arith, rules}
use Rattle.arrow_arrays.specs.Parts.{rows_in}
use Rattle.arrow_arrays.specs.PartsOf.{parts_of}
use Rattle.dictionary_places.specs.Places.{place}
use Rattle.dictionary_places.proofs.Places.{row_at, same_rows}
use Rattle.dictionary_places.proofs.rows.is_same_row.Goals as goal

pub bounds-u-a : goal.bounds-u-a
bounds-u-a c = (row_at c.args.u.parts.now c.args.u.places.now c.args.i (place 0 0) c.requires.u c.requires.i).inside

pub bounds-v-b : goal.bounds-v-b
bounds-v-b c = (row_at c.args.v.parts.now c.args.v.places.now c.args.j (place 0 0) c.requires.v c.requires.j).inside

pub offset_bounds-u-a : goal.offset_bounds-u-a
offset_bounds-u-a c =
    let inside : (get_or c.args.u.places.now c.args.i (place 0 0)).part < length c.args.u.parts.now = (row_at c.args.u.parts.now c.args.u.places.now c.args.i (place 0 0) c.requires.u c.requires.i).inside in
    search rules

pub offset_bounds-v-b : goal.offset_bounds-v-b
offset_bounds-v-b c =
    let inside : (get_or c.args.v.places.now c.args.j (place 0 0)).part < length c.args.v.parts.now = (row_at c.args.v.parts.now c.args.v.places.now c.args.j (place 0 0) c.requires.v c.requires.j).inside in
    search rules

pub have_same_rows-requires-clause-a : goal.have_same_rows-requires-clause-a
have_same_rows-requires-clause-a c =
    let there = (row_at c.args.u.parts.now c.args.u.places.now c.args.i (place 0 0) c.requires.u c.requires.i).there c.index-u-a.result c.index-u-a.is in
    let e = ap (λ x. rows_in (parts_of x)) c.index-u-a.is in
    omega (arith, there.below, e)

pub have_same_rows-requires-clause-b : goal.have_same_rows-requires-clause-b
have_same_rows-requires-clause-b c =
    let there = (row_at c.args.v.parts.now c.args.v.places.now c.args.j (place 0 0) c.requires.v c.requires.j).there c.index-v-b.result c.index-v-b.is in
    let e = ap (λ x. rows_in (parts_of x)) c.index-v-b.is in
    omega (arith, there.below, e)

pub returns : goal.returns
returns c =
    let xs = c.args.u.parts.now in
    let ys = c.args.v.parts.now in
    let p = get_or c.args.u.places.now c.args.i (place 0 0) in
    let q = get_or c.args.v.places.now c.args.j (place 0 0) in
    let x = get_or xs p.part c.index-u-a.result in
    let y = get_or ys q.part c.index-v-b.result in
    let a = (row_at xs c.args.u.places.now c.args.i (place 0 0) c.requires.u c.requires.i).there x (ap (λ z. get_or xs p.part z) c.index-u-a.is) in
    let b = (row_at ys c.args.v.places.now c.args.j (place 0 0) c.requires.v c.requires.j).there y (ap (λ z. get_or ys q.part z) c.index-v-b.is) in
    same_rows c.have_same_rows.result xs ys c.args.i c.args.j p q x y a b c.have_same_rows.ensures
