use Rattle.std.proofs.Common.{◌≡◌, ℕ, Err}
use Rattle.ipc_schema.specs.Views.{message_of}
use Rattle.ipc_files.specs.FileBlocks.{given}
use Rattle.ipc_files.specs.RowCounts.{block_rows}
use Rattle.ipc_files.proofs.BlockMessages.{handed_on}
use Rattle.ipc_files.proofs.BlockRows.{rows_of_header, rows_without_header}
use Rattle.ipc_files.proofs.Errors.{is_err}
use Rattle.ipc_files.proofs.PlainRefusals.{natural_plain, plain_cause}
use Rattle.ipc_files.proofs.row_counts.read_block_rows.Goals as goal

pub returns-in_err-message-clause-gives : goal.returns-in_err-message-clause-gives
returns-in_err-message-clause-gives g c =
    let e : c.from_residual.result ≡ Err c.in_err-message.field-0.0 = is_err _ _ _ c.from_residual.ensures.0 c.from_residual.ensures.1 (λ f h. h) in
    handed_on (g.S.Source.content c.args.source.now) (λ (n : ℕ). n) (λ b. given c.args.block.now (block_rows b)) c.from_residual.result c.in_err-message.field-0.0 e
    (rows_without_header (g.S.Source.content c.args.source.now) c.args.block.now message_of (λ (n : ℕ). n) c.in_err-message.field-0.0 c.in_err-message.ensures.header)

pub returns-clause-gives : goal.returns-clause-gives
returns-clause-gives g c = rows_of_header (g.S.Source.content c.args.source.now) c.args.block.now c.in_ok-message.message c.natural_rows.result c.in_ok-message.ensures.header c.natural_rows.ensures.gives

pub returns-clause-cause : goal.returns-clause-cause
returns-clause-cause g c = plain_cause (λ (n : ℕ). n) c.natural_rows.result _ _ _ (natural_plain _) c.natural_rows.ensures.gives
