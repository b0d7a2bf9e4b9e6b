use Rattle.ipc_files.proofs.BlockRows.{count_after, count_fetched_after}
use Rattle.ipc_files.proofs.row_counts.get_row_count_from_blocks.Goals as goal

pub returns-clause-gives : goal.returns-clause-gives
returns-clause-gives g c = count_after (g.S.Source.content c.args.source.now) _ c.args.blocks.now c.count_rows.result c.in_ok-size.ensures.content c.count_rows.ensures.gives

pub returns-clause-fetched : goal.returns-clause-fetched
returns-clause-fetched g c = count_fetched_after (g.S.Source.content c.args.source.now) _ c.args.blocks.now _ _ _ c.in_ok-size.ensures.content c.in_ok-size.ensures.fetched c.count_rows.ensures.fetched
