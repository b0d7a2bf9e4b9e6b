use Rattle.std.proofs.Common.{◌≡◌, ◌+◌, ◌≤◌, map, refl, ap, ◌∙◌}
use Rattle.arrow_types.specs.KindOf.{kind_of}
use Rattle.arrow_types.specs.Physical.{physical_of}
use Rattle.arrow_buffers.specs.Rows.{part}
use Rattle.arrow_buffers.specs.Layouts.{is_variable}
use Rattle.arrow_buffers.specs.Variable.{Variable, variable_rows}
use Rattle.arrow_buffers.proofs.Parts.{map-part}
use Rattle.arrow_buffers.proofs.VariableParts.{variable_sound, variable_fault-part, variable_cells-part}
use Rattle.arrow_buffers.proofs.variable.VariableArray.narrow.Goals as goal

pub invariant_of-self : goal.invariant_of-self
invariant_of-self g c =
    let whole : Variable = record { kind = kind_of c.self.inside.dtype; offsets = map g.O.Offset.number c.self.inside.offsets; values = c.self.inside.values; validity = c.self.inside.validity } in
    let req : c.args.offset + c.args.rows ≤ variable_rows whole.offsets = rw (← c.self.view_is) at c.requires in
    let moved : map g.O.Offset.number c.narrow.new.self ≡ part c.args.offset (c.args.rows + 1) (map g.O.Offset.number c.self.inside.offsets) = ap (map g.O.Offset.number) c.narrow.ensures ∙ map-part g.O.Offset.number c.args.offset (c.args.rows + 1) c.self.inside.offsets in
    rw (moved, c.narrow_validity.ensures) (variable_fault-part g.V.ViewType.IS_TEXT (is_variable g.V.ViewType.IS_TEXT g.O.Offset.IS_LARGE (physical_of (kind_of c.self.inside.dtype))) c.args.offset c.args.rows whole c.self.invariant req)

pub returns-clause-parts : goal.returns-clause-parts
returns-clause-parts g c =
    let moved : map g.O.Offset.number c.narrow.new.self ≡ part c.args.offset (c.args.rows + 1) (map g.O.Offset.number c.self.inside.offsets) = ap (map g.O.Offset.number) c.narrow.ensures ∙ map-part g.O.Offset.number c.args.offset (c.args.rows + 1) c.self.inside.offsets in
    rw (← c.self.view_is, moved, c.narrow_validity.ensures) refl

pub returns-clause-cells : goal.returns-clause-cells
returns-clause-cells g c =
    let whole : Variable = record { kind = kind_of c.self.inside.dtype; offsets = map g.O.Offset.number c.self.inside.offsets; values = c.self.inside.values; validity = c.self.inside.validity } in
    let req : c.args.offset + c.args.rows ≤ variable_rows whole.offsets = rw (← c.self.view_is) at c.requires in
    let moved : map g.O.Offset.number c.narrow.new.self ≡ part c.args.offset (c.args.rows + 1) (map g.O.Offset.number c.self.inside.offsets) = ap (map g.O.Offset.number) c.narrow.ensures ∙ map-part g.O.Offset.number c.args.offset (c.args.rows + 1) c.self.inside.offsets in
    rw (← c.self.view_is, moved, c.narrow_validity.ensures) (variable_cells-part g.V.ViewType.IS_TEXT c.args.offset c.args.rows whole (variable_sound g.V.ViewType.IS_TEXT (is_variable g.V.ViewType.IS_TEXT g.O.Offset.IS_LARGE (physical_of (kind_of c.self.inside.dtype))) whole c.self.invariant).spanned req)
