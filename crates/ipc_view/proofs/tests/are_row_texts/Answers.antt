use Rattle.std.proofs.Common.{ℕ, Bool, sym, ap, ◌∙◌}
use Rattle.std.specs.Prelude.{not}
use Rattle.std.specs.Option.{option_map}
use Rattle.std.specs.Str.{is_utf8}
use Rattle.view_types.specs.Views.{is_set, order_of}
use Rattle.ipc_view.specs.Tests.{is_no_text}
use Rattle.ipc_view.proofs.Rising.{good}
use Rattle.arrow_buffers.proofs.Rows.{bad_here, some_at}
use Rattle.ipc_view.proofs.tests.are_row_texts.Goals as goal

pub row_bytes-requires-clause-rise : goal.row_bytes-requires-clause-rise
row_bytes-requires-clause-rise c = (good c.args.offsets.now c.args.is_large (order_of c.args.is_big_endian) c.args.rows _ c.loop-row.row c.requires.fit c.loop-row-test.true).rise

pub row_bytes-requires-clause-within : goal.row_bytes-requires-clause-within
row_bytes-requires-clause-within c = (good c.args.offsets.now c.args.is_large (order_of c.args.is_big_endian) c.args.rows _ c.loop-row.row c.requires.fit c.loop-row-test.true).within

pub returns-then-not-is_text : goal.returns-then-not-is_text
returns-then-not-is_text c =
    let order = order_of c.args.is_big_endian in
    let row = c.loop-row.row in
    let bits = option_map (λ b. b.now) c.args.bits in
    let bad : ℕ → Bool = is_no_text c.args.offsets.now c.args.values.now bits c.args.is_large order in
    let here = bad_here (is_set bits row) _ (sym c.is_row_set.ensures ∙ c.if-is_row_set.true) (ap is_utf8 (sym c.row_bytes.ensures) ∙ sym c.is_text.ensures ∙ c.if-not-is_text.true) in
    ap not (sym (some_at bad c.args.rows row c.loop-row-test.true here))
