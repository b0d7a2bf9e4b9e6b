use Rattle.ipc_files.proofs.ReadFits.{dictionary_fits}
use Rattle.ipc_files.proofs.block.dictionary_in.Goals as goal

pub returns-clause-fits : goal.returns-clause-fits
returns-clause-fits c = dictionary_fits c.args.bytes.now c.read_dictionary_message.result (λ i. (c.type_inv.bytes i).fits) c.read_dictionary_message.ensures.gives
