use Rattle.std.proofs.Common.{◌≡◌, ◌∙◌, ◌+◌, ◌++◌, ◌∷◌, [], sym, ap, append_assoc, arith, rules}
use Rattle.arrow_spec.specs.Arrays.{from_on}
use Rattle.dictionary_places.specs.Places.{place}
use Rattle.dictionary_places.proofs.Places.{from_on_more}
use Rattle.dictionary_places.proofs.rows.push_places.Goals as goal

pub loop-row-preserved : goal.loop-row-preserved
loop-row-preserved c =
    let old = c.args.places.now.items in
    let part = c.args.part in
    let row = c.loop-row.row in
    let here = from_on (place part) 0 row in
    let grown : c.push.new.self.items ≡ c.loop-row.places.items ++ place part row ∷ [] = search (rules, c.in_ok-push.ensures.items) in
    let zero_on : row ≡ 0 + row = omega arith in
    grown ∙ ap (λ ps. ps ++ place part row ∷ []) c.loop-row.invariant ∙ append_assoc old here (place part row ∷ [])
    ∙ ap (λ ps. old ++ ps) (ap (λ n. here ++ place part n ∷ []) zero_on ∙ sym (from_on_more (place part) 0 row))
