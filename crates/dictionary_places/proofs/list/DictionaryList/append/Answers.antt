use Rattle.std.proofs.Common.{◌≡◌, ◌∙◌, ◌+◌, ◌-◌, ◌++◌, ◌∷◌, [], length, drop, true, false, sym, ap, subst, arith, rules}
use Rattle.std.specs.Prelude.{nat_le}
use Rattle.arrow_spec.specs.Arrays.{from_on}
use Rattle.arrow_arrays.specs.Parts.{rows_in}
use Rattle.arrow_arrays.specs.PartsOf.{forest_of, parts_of}
use Rattle.laws_unify.specs.United.{behind, parts_from}
use Rattle.dictionary_places.specs.Places.{AreRows, place}
use Rattle.dictionary_places.proofs.Appended.{appended, as_many, more_rows, no_more, none_left, passed}
use Rattle.dictionary_places.proofs.list.DictionaryList.append.Goals as goal

pub loop-part-preserved-then-rows-rest : goal.loop-part-preserved-then-rows-rest
loop-part-preserved-then-rows-rest c =
    let inv = c.loop-part.invariant in
    let xs = c.args.parts.now in
    let i = c.loop-part.part-index in
    let x = c.part-item.result in
    let us = c.loop-part.self.parts.items in
    let rows = c.len-rows.ensures.rows in
    let le : nat_le (rows_in (parts_of x)) c.loop-part.rest ≡ true = as_many (rows_in (parts_of x)) c.loop-part.rest (omega (arith, rows, c.if-rows-rest.true)) in
    record {
      list = inv.list ∙ ap (behind (forest_of us)) (passed xs i c.loop-part.rest x c.loop-part-test.true c.part-item.is le) ∙ ap (λ n. behind (forest_of us) (parts_from (c.loop-part.rest - n) (forest_of (drop (i + 1) xs)))) (sym rows);
      rows = inv.rows;
    }

pub copy_from-requires : goal.copy_from-requires
copy_from-requires c = omega (arith, c.len-rows.ensures.rows, c.if-rows-rest.false)

pub loop-part-preserved : goal.loop-part-preserved
loop-part-preserved c =
    let inv = c.loop-part.invariant in
    let xs = c.args.parts.now in
    let i = c.loop-part.part-index in
    let x = c.part-item.result in
    let us = c.loop-part.self.parts.items in
    let rest = c.loop-part.rest in
    let rows = c.len-rows.ensures.rows in
    let gt : nat_le (rows_in (parts_of x)) rest ≡ false = no_more (rows_in (parts_of x)) rest (omega (arith, rows, c.if-rows-rest.false)) in
    let grown : c.push.new.self.items ≡ us ++ c.in_ok-copy.copy ∷ [] = search (rules, c.in_ok-push.ensures.items) in
    let count : c.len-count.result ≡ length us = search (rules, c.len-count.ensures) in
    let placed : c.push_places.new.places.items ≡ c.loop-part.self.places.items ++ from_on (place (length us)) 0 (rows_in (parts_of x) - rest) =
    c.in_ok-push_places.ensures ∙ ap (λ n. c.loop-part.self.places.items ++ from_on (place n) 0 (c.len-rows.result - rest)) count ∙ ap (λ n. c.loop-part.self.places.items ++ from_on (place (length us)) 0 (n - rest)) rows in
    record {
      list = inv.list ∙ appended us xs i rest x c.in_ok-copy.copy c.loop-part-test.true c.part-item.is gt c.in_ok-copy.ensures ∙ ap (λ vs. behind (forest_of vs) (parts_from 0 (forest_of (drop (i + 1) xs)))) (sym grown);
      rows = subst (λ vs. AreRows vs c.push_places.new.places.items) (sym grown) (more_rows us c.loop-part.self.places.items c.push_places.new.places.items rest x c.in_ok-copy.copy inv.rows c.len-rows.ensures.sound (omega (arith, rows, c.if-rows-rest.false)) c.in_ok-copy.ensures placed);
    }

pub returns-clause-parts : goal.returns-clause-parts
returns-clause-parts c =
    let xs = c.args.parts.now in
    let i = c.loop-part.part-index in
    sym (c.loop-part.invariant.list ∙ none_left c.loop-part.self.parts.items xs i c.loop-part.rest (omega (arith, c.loop-part-test.false)))
