use Rattle.std.proofs.Common.{◌≡◌, ℕ, ◌+◌, ◌<◌, ◌&&◌, List, drop, length, get_or, sym, ap, ◌∙◌, arith}
use Rattle.std.proofs.Math.Bool.{and-true}
use Rattle.arrow_types.specs.Child.{one_field}
use Rattle.arrow_types.specs.KindOf.{child_of, fields_of}
use Rattle.arrow_types.specs.declared.data_type.Field.{Field}
use Rattle.ipc_fields.proofs.Steps.{drop_item}
use Rattle.ipc_fields.specs.Representable.{is_representable, all_representable}
use Rattle.ipc_fields.proofs.representable.+representable.Goals as goal

-- the first of some fields, and the others
representable_at : (cs : List Field) (i : ℕ) (c : Field) → i < length cs → c ≡ get_or cs i c → all_representable (fields_of (drop i cs)) ≡ (all_representable (one_field (child_of c)) && all_representable (fields_of (drop (i + 1) cs)))
representable_at cs i c h e = ap (λ xs. all_representable (fields_of xs)) (drop_item cs i c c h e) ∙ ap (λ b. b && all_representable (fields_of (drop (i + 1) cs))) (sym (and-true (is_representable (child_of c).kind)))

pub all_representable-returns-then-not-is_field_representable : goal.all_representable-returns-then-not-is_field_representable
all_representable-returns-then-not-is_field_representable t c =
    let x = c.field-item.result in
    let i = c.loop-field.field-index in
    let xs = c.args.fields.now in
    let rest = all_representable (fields_of (drop (i + 1) xs)) in
    sym (sym c.loop-field.invariant ∙ representable_at xs i x (omega arith) c.field-item.is ∙ ap (λ b. b && rest) (sym c.is_field_representable.ensures ∙ c.if-not-is_field_representable.true))

pub all_representable-loop-field-preserved : goal.all_representable-loop-field-preserved
all_representable-loop-field-preserved t c =
    let x = c.field-item.result in
    let i = c.loop-field.field-index in
    let xs = c.args.fields.now in
    let rest = all_representable (fields_of (drop (i + 1) xs)) in
    sym (representable_at xs i x (omega arith) c.field-item.is ∙ ap (λ b. b && rest) (sym c.is_field_representable.ensures ∙ c.if-not-is_field_representable.false)) ∙ c.loop-field.invariant
