use Rattle.std.proofs.Common.{ℕ, Bool, sym, ap}
use Rattle.std.specs.Prelude.{not}
use Rattle.std.specs.Option.{option_map}
use Rattle.view_types.specs.Views.{is_set, order_of}
use Rattle.ipc_view.specs.Tests.{is_no_text}
use Rattle.arrow_buffers.proofs.Rows.{fine_here, none_from}
use Rattle.ipc_view.proofs.tests.texts_fit.Goals as goal

pub returns-then-are_one_text : goal.returns-then-are_one_text
returns-then-are_one_text c =
    let bits = option_map (λ b. b.now) c.args.bits in
    let bad : ℕ → Bool = is_no_text c.args.offsets.now c.args.values.now bits c.args.is_large (order_of c.args.is_big_endian) in
    ap not (sym (none_from bad c.args.rows (λ row l. fine_here (is_set bits row) _ (c.are_one_text.ensures c.if-are_one_text.true row l))))
