use Rattle.std.proofs.Common.{◌≡◌, ℕ, false, ap, sym, ◌∙◌}
use Rattle.arrow_spec.specs.Flat.{Order, order_by}
use Rattle.arrow_arrays.specs.Parts.{Parts, rows_in}
use Rattle.arrow_arrays.specs.PartsOf.{parts_of}
use Rattle.ipc_write_arrays.specs.Trims.{has_no_children, trim}
use Rattle.ipc_write_arrays.specs.Outputs.{Outputs, laid_behind, written_behind}
use Rattle.ipc_write_arrays.specs.OutputsOf.{outputs_of}
use Rattle.ipc_write_arrays.proofs.Adding.{if_ok}
use Rattle.ipc_write_arrays.proofs.TrimLaws.{sent-trim}
use Rattle.ipc_write_arrays.proofs.array.add.Goals as goal

as_sent : (order : Order) (p : Parts) (rows : ℕ) (o : Outputs) → has_no_children p ≡ false → rows ≡ rows_in p → laid_behind order (trim 0 rows p) o ≡ written_behind order p o
as_sent order p rows o e r = ap (λ n. laid_behind order (trim 0 n p) o) r ∙ ap (λ q. laid_behind order q o) (sent-trim p e)

pub returns-clause-ok : goal.returns-clause-ok
returns-clause-ok c =
    let p = parts_of c.args.array.now in
    let sent = as_sent (order_by c.args.is_little_endian) p c.len-rows.result (outputs_of c.args.out.now) (sym c.is_leaf.ensures ∙ c.if-is_leaf.false) c.len-rows.ensures.rows in
    if_ok c.add_rows.result (λ e. e ∙ sent) c.add_rows.ensures.ok
