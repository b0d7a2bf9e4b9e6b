use Rattle.std.proofs.Common.{◌≡◌, ◌+◌, suc, sym, arith, subst}
use Rattle.ipc_read_laws.specs.Held.{AllHeldIn, HasKind}
use Rattle.ipc_read.specs.Batches.{schema_fields}
use Rattle.ipc_read.specs.Held.{held_in, column_kind}
use Rattle.ipc_read.proofs.Columns.{column_stands}
use Rattle.ipc_read.proofs.HeldKinds.{SeenHeld, field_held, none_seen, one_seen, all_seen, told_false, told_true}
use Rattle.ipc_read.proofs.LeftFields.{child_as, width_by}
use Rattle.ipc_read.proofs.held.are_held_for.Goals as goal

pub loop-i-init : goal.loop-i-init
loop-i-init c = none_seen HasKind (held_in c.args.dictionaries.now) (schema_fields c.args.schema.now c.as_slice-fields.result.now)

pub returns-then-not-is_held : goal.returns-then-not-is_held
returns-then-not-is_held c =
    let h = held_in c.args.dictionaries.now in
    let ts = c.as_slice-fields.result.now in
    let fs = schema_fields c.args.schema.now ts in
    let x = c.field_at-field.result.now in
    let y = child_as x (column_kind x.dtype c.id_at.result c.fields_at.result.now) in
    let e = column_stands c.args.schema.now ts c.loop-i.i x c.id_at.result c.fields_at.result.now c.field_at-field.ensures c.id_at.ensures.id c.fields_at.ensures in
    told_false c.is_held.result c.if-not-is_held.true c.is_held.ensures (λ v. field_held HasKind h fs c.loop-i.i y e (c.loop-i.invariant.left (subst (λ ts. AllHeldIn HasKind h (schema_fields c.args.schema.now ts)) (sym c.as_slice-fields.ensures.value) v)))

pub loop-i-preserved : goal.loop-i-preserved
loop-i-preserved c =
    let h = held_in c.args.dictionaries.now in
    let ts = c.as_slice-fields.result.now in
    let fs = schema_fields c.args.schema.now ts in
    let i = c.loop-i.i in
    let x = c.field_at-field.result.now in
    let y = child_as x (column_kind x.dtype c.id_at.result c.fields_at.result.now) in
    let e = column_stands c.args.schema.now ts i x c.id_at.result c.fields_at.result.now c.field_at-field.ensures c.id_at.ensures.id c.fields_at.ensures in
    let n : suc i ≡ i + 1 = omega arith in
    subst (SeenHeld HasKind h fs) n (one_seen HasKind h fs i y e (c.is_held.ensures.0 c.if-not-is_held.false) c.loop-i.invariant)

pub returns : goal.returns
returns c =
    let h = held_in c.args.dictionaries.now in
    let ts = c.as_slice-fields.result.now in
    let w = width_by (λ p. p.1) c.args.schema.now ts in
    told_true (subst (λ ts. AllHeldIn HasKind h (schema_fields c.args.schema.now ts)) c.as_slice-fields.ensures.value (all_seen HasKind h (schema_fields c.args.schema.now ts) c.loop-i.i (omega (arith, w)) c.loop-i.invariant))
