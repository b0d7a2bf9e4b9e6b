use Rattle.std.proofs.Common.{◌≡◌, ◌∙◌, ◌+◌, ◌<◌, ◌≤◌, ◌++◌, ◌∷◌, [], length, map, true, false, sym, ap, arith, rules, subst}
use Rattle.std.proofs.lemmas.List.{length-map}
use Rattle.arrow_spec.specs.Arrays.{from_on}
use Rattle.arrow_spec.specs.Faults.{some_row}
use Rattle.arrow_buffers.proofs.Rows.{none_more}
use Rattle.laws_unify.specs.Over.{is_large_at, moved_at}
use Rattle.dictionary_keys.proofs.Moved.{counted, one_more, some_large}
use Rattle.dictionary_keys.proofs.keys.moved_values.Goals as goal

pub loop-row-preserved : goal.loop-row-preserved
loop-row-preserved g c =
    let number = g.K.DictionaryKey.number in
    let keys = map number c.args.keys.now.values in
    let v = c.args.keys.now.validity in
    let inv = c.loop-row.invariant in
    let grown : c.push.new.self.items ≡ c.loop-row.values.items ++ c.in-Some.key ∷ [] = search (rules, c.in_ok-push-in-Some.ensures.items) in
    record {
      moved = one_more number (moved_at c.args.place keys v) c.loop-row.values.items c.push.new.self.items c.in-Some.key c.loop-row.row inv.moved c.in-Some.ensures.0 grown;
      fits = none_more (is_large_at g.K.DictionaryKey.KEY_TYPE c.args.place keys v) c.loop-row.row inv.fits c.in-Some.ensures.1;
    }

pub returns-in-None-clause-moves : goal.returns-in-None-clause-moves
returns-in-None-clause-moves g c =
    let number = g.K.DictionaryKey.number in
    let xs = c.args.keys.now.values in
    some_large (is_large_at g.K.DictionaryKey.KEY_TYPE c.args.place (map number xs) c.args.keys.now.validity) (length xs) (length (map number xs)) c.loop-row.row (length-map xs number) (search rules) c.in-None.ensures

pub returns-clause-moves : goal.returns-clause-moves
returns-clause-moves g c =
    let number = g.K.DictionaryKey.number in
    let xs = c.args.keys.now.values in
    let keys = map number xs in
    let v = c.args.keys.now.validity in
    let inv = c.loop-row.invariant in
    let end : c.loop-row.row ≡ length xs = search rules in
    let e : c.loop-row.row ≡ length keys = end ∙ sym (length-map xs number) in
    (subst (λ n. map number c.loop-row.values.items ≡ from_on (moved_at c.args.place keys v) 0 n) e inv.moved, subst (λ n. some_row (is_large_at g.K.DictionaryKey.KEY_TYPE c.args.place keys v) n ≡ false) e inv.fits)

pub returns-clause-rows : goal.returns-clause-rows
returns-clause-rows g c =
    let number = g.K.DictionaryKey.number in
    let end : c.loop-row.row ≡ length c.args.keys.now.values = search rules in
    counted number (moved_at c.args.place (map number c.args.keys.now.values) c.args.keys.now.validity) c.loop-row.values.items c.loop-row.row c.loop-row.invariant.moved ∙ end
