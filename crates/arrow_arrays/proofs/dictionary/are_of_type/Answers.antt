use Rattle.std.proofs.Common.{◌≡◌, ◌∙◌, ◌&&◌, ◌+◌, List, Bool, true, false, sym, ap, drop, length, arith}
use Rattle.std.specs.List.{list_all}
use Rattle.std.proofs.lemmas.Bool.{and_left, eqb-false}
use Rattle.std.proofs.lemmas.List.{at_drop_more, at_drop_all}
use Rattle.arrow_spec.specs.Kinds.{is_same_kind}
use Rattle.arrow_types.specs.KindOf.{kind_of}
use Rattle.arrow_arrays.specs.declared.array.Array.{Array}
use Rattle.arrow_arrays.specs.Parts.{kind_in, kinds_each}
use Rattle.arrow_arrays.specs.PartsOf.{parts_of, forest_of}
use Rattle.arrow_arrays.proofs.KeyRows.{each_of_some}
use Rattle.arrow_arrays.proofs.dictionary.are_of_type.Goals as goal

pub loop-part-preserved : goal.loop-part-preserved
loop-part-preserved c =
    let k = kind_of c.args.dtype.now in
    let x = c.part-item.result in
    let i = c.loop-part.part-index in
    let xs = c.args.parts.now in
    let all : List Array → Bool = λ ys. list_all (is_same_kind k) (kinds_each (forest_of ys)) in
    let step : all (drop i xs) ≡ (is_same_kind k (kind_in (parts_of x)) && all (drop (i + 1) xs)) = at_drop_more all xs i x c.loop-part-test.true ∙ ap (λ y. is_same_kind k (kind_in (parts_of y)) && all (drop (i + 1) xs)) (sym c.part-item.is) in
    let same : is_same_kind k (kind_in (parts_of x)) ≡ true = sym (c.is_same_kind_of_values.ensures ∙ ap (is_same_kind k) c.dtype.ensures) ∙ c.if-not-is_same_kind_of_values.false in
    sym (step ∙ ap (λ b. b && all (drop (i + 1) xs)) same) ∙ c.loop-part.invariant

pub returns-then-not-is_same_kind_of_values : goal.returns-then-not-is_same_kind_of_values
returns-then-not-is_same_kind_of_values c =
    let k = kind_of c.args.dtype.now in
    let x = c.part-item.result in
    let i = c.loop-part.part-index in
    let xs = c.args.parts.now in
    let all : List Array → Bool = λ ys. list_all (is_same_kind k) (kinds_each (forest_of ys)) in
    let step : all (drop i xs) ≡ (is_same_kind k (kind_in (parts_of x)) && all (drop (i + 1) xs)) = at_drop_more all xs i x c.loop-part-test.true ∙ ap (λ y. is_same_kind k (kind_in (parts_of y)) && all (drop (i + 1) xs)) (sym c.part-item.is) in
    let other : is_same_kind k (kind_in (parts_of x)) ≡ false = sym (c.is_same_kind_of_values.ensures ∙ ap (is_same_kind k) c.dtype.ensures) ∙ c.if-not-is_same_kind_of_values.true in
    sym (each_of_some k xs (omega arith) ∙ sym c.loop-part.invariant ∙ step ∙ and_left (is_same_kind k (kind_in (parts_of x))) (all (drop (i + 1) xs)) other)

pub returns : goal.returns
returns c =
    let k = kind_of c.args.dtype.now in
    let xs = c.args.parts.now in
    let all : List Array → Bool = λ ys. list_all (is_same_kind k) (kinds_each (forest_of ys)) in
    sym (each_of_some k xs (omega (arith, eqb-false (length xs) 0 (sym c.is_empty.ensures ∙ c.if-is_empty.false))) ∙ sym c.loop-part.invariant ∙ at_drop_all all xs c.loop-part.part-index c.loop-part-test.false)
