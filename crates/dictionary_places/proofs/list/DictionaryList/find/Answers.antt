use Rattle.std.proofs.Common.{◌≡◌, ◌∙◌, length, drop, true, sym, ap, arith}
use Rattle.arrow_arrays.specs.PartsOf.{forest_of}
use Rattle.laws_unify.specs.Lists.{agree}
use Rattle.laws_unify.specs.Over.{is_same_cell, values_of}
use Rattle.dictionary_places.specs.Lists.{parts_in}
use Rattle.dictionary_places.specs.Places.{values_in}
use Rattle.dictionary_places.proofs.Appended.{last_fits, within_as}
use Rattle.dictionary_places.proofs.Places.{rows_count}
use Rattle.dictionary_places.proofs.list.DictionaryList.find.Goals as goal

pub agree_from-requires-clause-within : goal.agree_from-requires-clause-within
agree_from-requires-clause-within c =
    let l = c.args.self.now in
    let n = rows_count l.parts.items l.places.items c.requires.kept.rows in
    let slice = ap length c.as_slice-2.ensures.value in
    omega (arith, c.requires.kept.last.within, n, slice)

pub returns-then-agree_from-clause-place : goal.returns-then-agree_from-clause-place
returns-then-agree_from-clause-place c =
    let l = c.args.self.now in
    let u = values_of (parts_in l) in
    let v = values_in c.args.rows in
    let own = ap (λ xs. values_of (forest_of xs)) c.as_slice.ensures.value in
    let agrees : agree is_same_cell (drop l.last u) v ≡ true = ap (λ w. agree is_same_cell (drop l.last w) v) (sym own) ∙ sym c.agree_from.ensures ∙ c.if-agree_from.true in
    let n = rows_count c.args.rows.parts.now c.args.rows.places.now c.requires.rows in
    last_fits u v l.last l.last_rows c.requires.kept.last (omega (arith, n, c.if-self-rows.true)) agrees

pub returns-then-agree_from-clause-within : goal.returns-then-agree_from-clause-within
returns-then-agree_from-clause-within c =
    let l = c.args.self.now in
    let n = rows_count l.parts.items l.places.items c.requires.kept.rows in
    omega (arith, c.requires.kept.last.within, n)

pub returns-clause-within : goal.returns-clause-within
returns-clause-within c =
    let l = c.args.self.now in
    let own = ap (λ xs. length (values_of (forest_of xs))) c.as_slice.ensures.value in
    within_as c.fit_of.result _ _ _ (own ∙ sym (rows_count l.parts.items l.places.items c.requires.kept.rows)) c.fit_of.ensures
