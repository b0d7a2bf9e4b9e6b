use Rattle.std.proofs.Common.{◌≡◌, false}
use Rattle.std.specs.Option.{option_map}
use Rattle.arrow_spec.specs.Faults.{some_row}
use Rattle.view_types.specs.Views.{order_of}
use Rattle.ipc_view.specs.Tests.{is_no_text}
use Rattle.ipc_view.proofs.tests.are_row_texts.Given as goal

abbrev pub invariant-loop-row : goal.invariant-loop-row
invariant-loop-row l = some_row (is_no_text l.offsets l.values (option_map (λ b. b.now) l.bits) l.is_large (order_of l.is_big_endian)) l.row ≡ false
