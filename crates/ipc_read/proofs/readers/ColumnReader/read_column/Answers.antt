use Rattle.std.proofs.Common.{◌≡◌, Err}
use Rattle.ipc_read.specs.Held.{column_kind}
use Rattle.ipc_read.proofs.Passing.{is_err, answers_err, answers_same}
use Rattle.ipc_read.proofs.Columns.{column_is, node_refused}
use Rattle.ipc_read.proofs.readers.ColumnReader.read_column.Goals as goal

pub returns-in_err-check_node-clause-parts : goal.returns-in_err-check_node-clause-parts
returns-in_err-check_node-clause-parts g c = λ m d p a known holds.
    let e : c.from_residual.result ≡ Err c.in_err-check_node.field-0.0 = is_err _ _ _ c.from_residual.ensures.0 c.from_residual.ensures.1 (λ f h. h) in
    answers_err _ c.from_residual.result c.in_err-check_node.field-0.0 _ _ e (node_refused m d (column_kind c.args.dtype.now c.args.id c.args.fields.now) p c.args.rows c.args.few _ (c.in_err-check_node.ensures.exact m p.node a.all.nodes).err)

pub returns-in_err-check_node-clause-cells : goal.returns-in_err-check_node-clause-cells
returns-in_err-check_node-clause-cells g c = λ m d p a known holds.
    let e : c.from_residual.result ≡ Err c.in_err-check_node.field-0.0 = is_err _ _ _ c.from_residual.ensures.0 c.from_residual.ensures.1 (λ f h. h) in
    answers_err _ c.from_residual.result c.in_err-check_node.field-0.0 _ _ e (node_refused m d (column_kind c.args.dtype.now c.args.id c.args.fields.now) p c.args.rows c.args.few _ (c.in_err-check_node.ensures.exact m p.node a.all.nodes).err)

pub returns-clause-parts : goal.returns-clause-parts
returns-clause-parts g c = λ m d p a known holds. answers_same _ c.read_array.result _ _ _ (column_is m d (column_kind c.args.dtype.now c.args.id c.args.fields.now) p c.args.rows c.args.few (c.in_ok-check_node.ensures.exact m p.node a.all.nodes).ok.0) (c.read_array.ensures.parts m d p a known holds)

pub returns-clause-cells : goal.returns-clause-cells
returns-clause-cells g c = λ m d p a known holds. answers_same _ c.read_array.result _ _ _ (column_is m d (column_kind c.args.dtype.now c.args.id c.args.fields.now) p c.args.rows c.args.few (c.in_ok-check_node.ensures.exact m p.node a.all.nodes).ok.0) (c.read_array.ensures.cells m d p a known holds)
