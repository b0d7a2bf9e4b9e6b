use Rattle.ipc_schema.specs.Headers.{dictionary_message, dictionary_message_of}
use Rattle.ipc_files.specs.FileDictionaries.{block_dictionary}
use Rattle.ipc_view.proofs.Answered.{gives_from}
use Rattle.ipc_mmap.proofs.Blocks.{by_metadata, bytes_cause, without_metadata}
use Rattle.ipc_mmap.proofs.block.block_dictionary.Goals as goal

pub returns-in_err-metadata-clause-message : goal.returns-in_err-metadata-clause-message
unfolding block_dictionary
returns-in_err-metadata-clause-message c =
    gives_from dictionary_message_of c.from_residual.result c.in_err-metadata.field-0.0 _ c.from_residual.ensures.0 c.from_residual.ensures.1
    (without_metadata c.args.bytes.now c.args.block.now dictionary_message c.in_err-metadata.field-0.0 c.in_err-metadata.ensures.metadata)

pub returns-clause-message : goal.returns-clause-message
unfolding block_dictionary
returns-clause-message c = by_metadata c.args.bytes.now c.args.block.now dictionary_message_of dictionary_message c.in_ok-metadata.metadata.now c.read_dictionary_message.result c.in_ok-metadata.ensures.metadata c.read_dictionary_message.ensures.gives

pub returns-clause-cause : goal.returns-clause-cause
returns-clause-cause c = bytes_cause dictionary_message_of c.read_dictionary_message.result (dictionary_message c.in_ok-metadata.metadata.now) c.read_dictionary_message.ensures.gives
