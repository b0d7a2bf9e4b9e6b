use Rattle.std.proofs.Common.{◌≡◌, ◌∙◌, ◌++◌, take, sym, ap, arith}
use Rattle.std.proofs.lemmas.List.{take_all}
use Rattle.arrow_spec.specs.Arrays.{from_on}
use Rattle.arrow_arrays.specs.Parts.{fault_each, rows_in}
use Rattle.arrow_arrays.specs.PartsOf.{forest_of, parts_of}
use Rattle.dictionary_places.specs.Places.{place, places_from}
use Rattle.dictionary_places.proofs.Places.{next_places, next_sound}
use Rattle.dictionary_places.proofs.rows.places_of.Goals as goal

pub loop-i-preserved : goal.loop-i-preserved
loop-i-preserved c =
    let inv = c.loop-i.invariant in
    let xs = c.args.parts.now in
    let i = c.loop-i.i in
    let x = c.index-parts-i.result in
    let placed = from_on (place i) 0 (rows_in (parts_of x)) in
    record {
      are = c.in_ok-push_places.ensures ∙ ap (λ n. c.loop-i.places.items ++ from_on (place i) 0 n) c.len-rows.ensures.rows ∙ ap (λ ps. ps ++ placed) inv.are ∙ sym (next_places xs i x c.loop-i-test.true c.index-parts-i.is);
      sound = next_sound xs i x c.loop-i-test.true c.index-parts-i.is inv.sound c.len-rows.ensures.sound;
    }

pub returns : goal.returns
returns c =
    let inv = c.loop-i.invariant in
    let xs = c.args.parts.now in
    let e : take c.loop-i.i xs ≡ xs = take_all c.loop-i.i xs (omega (arith, c.loop-i-test.false)) in
    record { are = inv.are ∙ ap (places_from 0) e; sound = ap (λ ys. fault_each (forest_of ys)) (sym e) ∙ inv.sound }
