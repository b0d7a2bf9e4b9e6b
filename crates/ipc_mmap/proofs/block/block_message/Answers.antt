use Rattle.ipc_files.specs.FileBlocks.{block_record, paired_message}
use Rattle.ipc_mmap.specs.Chunks.{paired_in}
use Rattle.ipc_view.proofs.Answered.{gives_from}
use Rattle.ipc_mmap.proofs.Blocks.{by_metadata, bytes_cause, without_metadata}
use Rattle.ipc_mmap.proofs.block.block_message.Goals as goal

pub returns-in_err-metadata-clause-message : goal.returns-in_err-metadata-clause-message
unfolding block_record
returns-in_err-metadata-clause-message c =
    gives_from paired_in c.from_residual.result c.in_err-metadata.field-0.0 _ c.from_residual.ensures.0 c.from_residual.ensures.1
    (without_metadata c.args.bytes.now c.args.block.now paired_message c.in_err-metadata.field-0.0 c.in_err-metadata.ensures.metadata)

pub returns-clause-message : goal.returns-clause-message
unfolding block_record
returns-clause-message c = by_metadata c.args.bytes.now c.args.block.now paired_in paired_message c.in_ok-metadata.metadata.now c.message_in.result c.in_ok-metadata.ensures.metadata c.message_in.ensures.gives

pub returns-clause-cause : goal.returns-clause-cause
returns-clause-cause c = bytes_cause paired_in c.message_in.result (paired_message c.in_ok-metadata.metadata.now) c.message_in.ensures.gives
