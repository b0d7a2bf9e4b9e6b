use Rattle.std.proofs.Common.{◌≡◌, ◌∙◌, ◌≤◌, length, arith}
use Rattle.arrow_arrays.specs.PartsOf.{forest_of}
use Rattle.laws_unify.specs.Over.{values_of}
use Rattle.laws_unify.proofs.Sound.{stands_within}
use Rattle.dictionary_places.specs.Lists.{parts_in}
use Rattle.dictionary_places.proofs.Appended.{stood}
use Rattle.dictionary_places.proofs.Places.{rows_count}
use Rattle.dictionary_places.proofs.list.DictionaryList.place_of.Goals as goal

pub returns-clause-within : goal.returns-clause-within
returns-clause-within c =
    let l = c.args.self.now in
    let n = rows_count l.parts.items l.places.items c.requires.kept.rows in
    let within = stands_within (values_of (parts_in l)) (values_of (forest_of c.args.parts.now)) c.requires.stands in
    let place = c.in_ok-at.ensures.place in
    omega (arith, n, within, place, l.places.ok.0)

pub returns-clause-kept : goal.returns-clause-kept
returns-clause-kept c =
    let l = c.args.self.now in
    let u = values_of (parts_in l) in
    let v = values_of (forest_of c.args.parts.now) in
    let n = rows_count l.parts.items l.places.items c.requires.kept.rows in
    let count : c.len-self.result ≡ length v = c.len-self.ensures ∙ c.in_ok-places.places.ok.0 ∙ rows_count c.args.parts.now c.in_ok-places.places.items c.in_ok-places.ensures in
    let room : c.in_ok-at.at ≤ length u = (let within = c.in_ok-at.ensures.within in omega (arith, n, within)) in
    record { rows = c.requires.kept.rows; last = stood u v c.in_ok-at.at c.len-self.result c.requires.stands c.in_ok-at.ensures.place count room }
