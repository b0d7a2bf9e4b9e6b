use Rattle.std.proofs.Common.{◌+◌, ◌∙◌, refl, ap}
use Rattle.arrow_spec.specs.Arrays.{buf, from_on}
use Rattle.ipc_view.specs.Built.{batch_of, place_of}
use Rattle.ipc_view.proofs.Answered.{err_from}
use Rattle.ipc_view.proofs.Ranged.{get_inside}
use Rattle.ipc_view.proofs.ViewFaults.{bits_refused, count_refused, data_refused, order_refused, parts_fine, views_refused}
use Rattle.ipc_view.proofs.batch.BatchTables.view_parts.Goals as goal

pub returns-then-self-clause-gives : goal.returns-then-self-clause-gives
returns-then-self-clause-gives c = record { ok = tt; err = order_refused (batch_of c.args.self.now) (place_of c.args.place) c.args.rows c.args.self.now.is_big_endian refl c.if-self.true }

pub returns-in_err-validity-clause-gives : goal.returns-in_err-validity-clause-gives
returns-in_err-validity-clause-gives c = err_from c.from_residual.result c.in_err-validity.field-0.0 _ _ c.from_residual.ensures.0 c.from_residual.ensures.1
    (bits_refused (batch_of c.args.self.now) (place_of c.args.place) c.args.rows c.in_err-validity.field-0.0 c.in_err-validity.ensures.gives.err)

pub returns-in_err-first-clause-gives : goal.returns-in_err-first-clause-gives
returns-in_err-first-clause-gives c = err_from c.from_residual-in_err-first.result c.in_err-first.field-0.0 _ _ c.from_residual-in_err-first.ensures.0 c.from_residual-in_err-first.ensures.1
    (views_refused (batch_of c.args.self.now) (place_of c.args.place) c.args.rows c.in_err-first.field-0.0 c.in_err-first.ensures.gives.err)

pub returns-in_err-count-clause-gives : goal.returns-in_err-count-clause-gives
returns-in_err-count-clause-gives c = err_from c.from_residual-in_err-count.result c.in_err-count.field-0.0 _ _ c.from_residual-in_err-count.ensures.0 c.from_residual-in_err-count.ensures.1
    (count_refused (batch_of c.args.self.now) (place_of c.args.place) c.args.rows c.in_err-count.field-0.0 c.in_err-count.ensures.gives.err)

pub returns-in_err-buffers-clause-gives : goal.returns-in_err-buffers-clause-gives
returns-in_err-buffers-clause-gives c =
    let n = c.in_ok-count.ensures.gives.ok in
    err_from c.from_residual-in_err-buffers.result c.in_err-buffers.field-0.0 _ _ c.from_residual-in_err-buffers.ensures.0 c.from_residual-in_err-buffers.ensures.1
    (data_refused (batch_of c.args.self.now) (place_of c.args.place) c.args.rows c.in_ok-count.count c.in_err-buffers.field-0.0 n.0 n.1 c.in_err-buffers.ensures.gives.err)

pub returns-clause-gives : goal.returns-clause-gives
returns-clause-gives c =
    let m = batch_of c.args.self.now in
    let p = place_of c.args.place in
    let v = c.in_ok-validity.ensures.gives.ok in
    let f = c.in_ok-first.ensures.gives.ok in
    let n = c.in_ok-count.ensures.gives.ok in
    let b = c.in_ok-buffers.ensures.gives.ok in
    record {
      ok = (
        parts_fine m p c.args.rows c.in_ok-count.count c.args.self.now.is_big_endian refl c.if-self.false v.0 f.0 n.0 n.1 b.0,
        record {
          all_rows = refl;
          layout_is = refl;
          order = refl;
          bits = v.1.0;
          has_bits = v.1.1;
          views = f.1.0;
          stand = record { lies = f.1.1; room = f.1.2 };
          buffers = b.1.0 ∙ ap (from_on (buf m) (p.buffer + 2)) n.1;
          buffers_lie = b.1.1;
        },
      );
      err = tt;
    }

pub data-requires-clause-node : goal.data-requires-clause-node
data-requires-clause-node c = get_inside c.args.self.now.nodes.now c.args.place.node c.args.node c.requires.node
