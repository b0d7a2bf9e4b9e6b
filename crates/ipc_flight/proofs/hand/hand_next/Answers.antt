use Rattle.std.proofs.Common.{◌≡◌, Err}
use Rattle.ipc_files.proofs.Errors.{is_err}
use Rattle.ipc_flight.proofs.Handed.{next_refused, one_next, size_next}
use Rattle.ipc_flight.proofs.hand.hand_next.Goals as goal

pub returns-in_err-hand_over-clause-hands : goal.returns-in_err-hand_over-clause-hands
returns-in_err-hand_over-clause-hands g c =
    let x = c.in_err-hand_over.field-0.0 in
    let e : c.from_residual.result ≡ Err x = is_err _ _ _ c.from_residual.ensures.0 c.from_residual.ensures.1 (λ f h. h) in
    next_refused (g.S.Source.content c.args.source.now) c.args.blocks.now c.args.number.now _ c.block_at-block.result x c.from_residual.result e c.block_at-block.ensures c.in_err-hand_over.ensures.hands c.in_err-hand_over.ensures.empty

pub returns-in_err-hand_over-clause-fetched : goal.returns-in_err-hand_over-clause-fetched
returns-in_err-hand_over-clause-fetched g c = size_next c.args.blocks.now c.args.number.now _ _ c.block_at-block.result c.block_at-block.ensures c.in_err-hand_over.ensures.fetched

pub returns-clause-hands : goal.returns-clause-hands
returns-clause-hands g c = one_next (g.S.Source.content c.args.source.now) c.args.blocks.now c.args.number.now _ c.block_at-block.result _ c.block_at-block.ensures c.in_ok-hand_over.ensures.hands

pub returns-clause-fetched : goal.returns-clause-fetched
returns-clause-fetched g c = size_next c.args.blocks.now c.args.number.now _ _ c.block_at-block.result c.block_at-block.ensures c.in_ok-hand_over.ensures.fetched
