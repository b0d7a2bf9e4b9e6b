use Rattle.std.proofs.Common.{sym, ap, arith}
use Rattle.std.specs.Prelude.{not}
use Rattle.arrow_buffers.proofs.Rows.{some_at}
use Rattle.view_types.specs.Tops.{top_in}
use Rattle.view_types.specs.Views.{bits_in, is_set, number_in}
use Rattle.ipc_view.specs.Dictionaries.{is_bad_key, is_no_key}
use Rattle.ipc_view.proofs.Answered.{is_bad, is_unset_false}
use Rattle.ipc_view.proofs.Keys.{bad_row}
use Rattle.ipc_view.proofs.dictionaries.keys_fit.Goals as goal

pub returns-then-not-is_key : goal.returns-then-not-is_key
returns-then-not-is_key c =
    let t = top_in c.args.parts.now in
    let row = c.loop-row.row in
    let set = is_unset_false (is_set (bits_in t.input t.validity) row) _ c.is_unset.ensures c.if-not-is_unset.true in
    let here = bad_row (is_set (bits_in t.input t.validity) row) _ set (is_bad (is_no_key c.args.held (number_in t c.args.keys row)) _ c.is_key.ensures c.if-not-is_key.true) in
    ap not (sym (some_at (is_bad_key t c.args.keys c.args.held) t.rows row (omega arith) here))
