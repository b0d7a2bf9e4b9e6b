use Rattle.std.proofs.Common.{◌≤◌, length, rules, arith}
use Rattle.ipc_read.proofs.DataReads.{left_long, data_some, value_some, answers_on}
use Rattle.ipc_read.proofs.Passing.{left_more}
use Rattle.ipc_read.proofs.readers.BufferReader.read_data.Goals as goal

pub returns-then-rows-gt0-clause-gives : goal.returns-then-rows-gt0-clause-gives
returns-then-rows-gt0-clause-gives g c = λ m i l t.
    let few : c.args.count ≤ length c.args.self.now.queue.now.items = search rules in
    answers_on _ c.read_all.result _ _ _ _ (data_some m i c.args.rows c.args.count (omega arith) (left_long m.buffers i c.args.count _ l few)) (value_some m i c.args.rows c.args.count (omega arith)) (c.read_all.ensures.gives m i l t)

pub returns-clause-takes : goal.returns-clause-takes
returns-clause-takes g c = λ m i l. left_more m.buffers i c.args.count _ _ l c.in_ok-pass.ensures.enough c.in_ok-pass.ensures.rest
