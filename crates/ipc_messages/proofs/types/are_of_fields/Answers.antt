use Rattle.std.proofs.Common.{◌≡◌, ◌<◌, false, true, length, map, sym, ◌∙◌, arith}
use Rattle.std.proofs.lemmas.List.{length-map}
use Rattle.arrow_spec.specs.Kinds.{is_same_kind}
use Rattle.arrow_types.specs.KindOf.{child_of}
use Rattle.arrow_arrays.specs.Parts.{kind_in}
use Rattle.arrow_arrays.specs.PartsOf.{parts_of}
use Rattle.ipc_messages.proofs.Columns.{child_in, kinds_left, one_agrees, one_differs, widths_differ}
use Rattle.ipc_messages.proofs.types.are_of_fields.Goals as goal

pub returns-then-len-arrays : goal.returns-then-len-arrays
returns-then-len-arrays c =
    sym (widths_differ (map child_in c.args.schema.now) c.args.arrays.now (λ e. omega (arith, c.if-len-arrays.true, c.len.ensures.count, length-map c.args.schema.now child_in, e)))

pub returns-then-not-is_of_field : goal.returns-then-not-is_of_field
returns-then-not-is_of_field c =
    let f = child_of c.field_at.result.now in
    let x = c.index-arrays-i.result in
    let within : c.loop-i.i < length c.args.arrays.now = omega arith in
    let here : is_same_kind f.kind (kind_in (parts_of x)) ≡ false = sym c.is_of_field.ensures ∙ c.if-not-is_of_field.true in
    one_differs _ _ _ _ c.loop-i.invariant.left (kinds_left (map child_in c.args.schema.now) c.args.arrays.now c.loop-i.i f x c.field_at.ensures within c.index-arrays-i.is) here

pub loop-i-preserved : goal.loop-i-preserved
loop-i-preserved c =
    let f = child_of c.field_at.result.now in
    let x = c.index-arrays-i.result in
    let within : c.loop-i.i < length c.args.arrays.now = omega arith in
    let here : is_same_kind f.kind (kind_in (parts_of x)) ≡ true = sym c.is_of_field.ensures ∙ c.if-not-is_of_field.false in
    record { left = one_agrees _ _ _ _ c.loop-i.invariant.left (kinds_left (map child_in c.args.schema.now) c.args.arrays.now c.loop-i.i f x c.field_at.ensures within c.index-arrays-i.is) here }
