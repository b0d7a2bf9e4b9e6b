use Rattle.std.proofs.Common.{◌≡◌, map, sym, ◌∙◌, arith}
use Rattle.std.proofs.lemmas.List.{length-map}
use Rattle.arrow_types.specs.KindOf.{kind_of}
use Rattle.arrow_types.specs.Physical.{physical_of}
use Rattle.arrow_buffers.specs.Layouts.{is_variable}
use Rattle.arrow_buffers.specs.Variable.{Variable, variable_rows}
use Rattle.arrow_buffers.proofs.VariableParts.{variable_sound, length-variable_cells}
use Rattle.arrow_buffers.proofs.variable.VariableArray.len.Goals as goal

pub returns-clause-cells : goal.returns-clause-cells
returns-clause-cells g c =
    let whole : Variable = record { kind = kind_of c.self.inside.dtype; offsets = map g.O.Offset.number c.self.inside.offsets; values = c.self.inside.values; validity = c.self.inside.validity } in
    let count : c.saturating_sub.result ≡ variable_rows whole.offsets = omega (arith, c.saturating_sub.ensures, c.len.ensures, length-map c.self.inside.offsets g.O.Offset.number) in
    rw (← c.self.view_is) (count ∙ sym (length-variable_cells g.V.ViewType.IS_TEXT whole (variable_sound g.V.ViewType.IS_TEXT (is_variable g.V.ViewType.IS_TEXT g.O.Offset.IS_LARGE (physical_of (kind_of c.self.inside.dtype))) whole c.self.invariant).spanned))
