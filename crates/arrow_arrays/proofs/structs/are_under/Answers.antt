use Rattle.std.proofs.Common.{◌≡◌, ◌&&◌, sym, ◌∙◌, ap, arith, ◌+◌, drop}
use Rattle.std.proofs.lemmas.Bool.{and_left}
use Rattle.arrow_types.specs.KindCode.{kind_eq}
use Rattle.arrow_types.specs.KindOf.{child_of, fields_of}
use Rattle.arrow_arrays.specs.Heads.{are_of}
use Rattle.arrow_arrays.specs.Parts.{kind_in, kinds_each}
use Rattle.arrow_arrays.specs.PartsOf.{parts_of, forest_of}
use Rattle.arrow_arrays.proofs.Forests.{other_lengths, kinds_at}
use Rattle.arrow_arrays.proofs.structs.are_under.Goals as goal

pub returns-then-fields-values : goal.returns-then-fields-values
returns-then-fields-values c = other_lengths c.args.fields.now c.args.values.now c.if-fields-values.true

pub returns-then-not-is_of : goal.returns-then-not-is_of
returns-then-not-is_of c =
    let f = c.index-fields-i.result in
    let x = c.index-values-i.result in
    let rest = are_of (fields_of (drop (c.loop-i.i + 1) c.args.fields.now)) (kinds_each (forest_of (drop (c.loop-i.i + 1) c.args.values.now))) in
    let step : are_of (fields_of (drop c.loop-i.i c.args.fields.now)) (kinds_each (forest_of (drop c.loop-i.i c.args.values.now))) ≡ (kind_eq (child_of f).kind (kind_in (parts_of x)) && rest) = kinds_at c.loop-i.i c.args.fields.now c.args.values.now f x (omega arith) (omega arith) c.index-fields-i.is c.index-values-i.is in
    let test : c.is_of.result ≡ kind_eq (child_of f).kind (kind_in (parts_of x)) = c.is_of.ensures ∙ ap (kind_eq (child_of f).kind) c.dtype.ensures in
    sym (sym c.loop-i.invariant ∙ step ∙ and_left (kind_eq (child_of f).kind (kind_in (parts_of x))) rest (sym test ∙ c.if-not-is_of.true))

pub loop-i-preserved : goal.loop-i-preserved
loop-i-preserved c =
    let f = c.index-fields-i.result in
    let x = c.index-values-i.result in
    let rest = are_of (fields_of (drop (c.loop-i.i + 1) c.args.fields.now)) (kinds_each (forest_of (drop (c.loop-i.i + 1) c.args.values.now))) in
    let step : are_of (fields_of (drop c.loop-i.i c.args.fields.now)) (kinds_each (forest_of (drop c.loop-i.i c.args.values.now))) ≡ (kind_eq (child_of f).kind (kind_in (parts_of x)) && rest) = kinds_at c.loop-i.i c.args.fields.now c.args.values.now f x (omega arith) (omega arith) c.index-fields-i.is c.index-values-i.is in
    let test : c.is_of.result ≡ kind_eq (child_of f).kind (kind_in (parts_of x)) = c.is_of.ensures ∙ ap (kind_eq (child_of f).kind) c.dtype.ensures in
    sym (step ∙ ap (λ b. b && rest) (sym test ∙ c.if-not-is_of.false)) ∙ c.loop-i.invariant
