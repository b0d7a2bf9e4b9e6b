use Rattle.std.proofs.Common.{◌≡◌, ℕ, List, Vec, Global, Err}
use Rattle.ipc_schema.specs.Headers.{dictionary_message_of}
use Rattle.ipc_files.proofs.Errors.{bytes_cause, is_err}
use Rattle.ipc_files.proofs.FileDictionaries.{dictionary_of_metadata, dictionary_without_metadata}
use Rattle.ipc_files.proofs.block.read_block_dictionary.Goals as goal

abbrev view : Vec ℕ Global → List ℕ
view v = v.items

pub returns-in_err-bytes-clause-message : goal.returns-in_err-bytes-clause-message
returns-in_err-bytes-clause-message g c =
    let e : c.from_residual.result ≡ Err c.in_err-bytes.field-0.0 = is_err _ _ _ c.from_residual.ensures.0 c.from_residual.ensures.1 (λ f h. h) in
    dictionary_without_metadata (g.S.Source.content c.args.source.now) c.args.block.now view c.from_residual.result c.in_err-bytes.field-0.0 e c.in_err-bytes.ensures.metadata

pub returns-clause-message : goal.returns-clause-message
returns-clause-message g c =
    dictionary_of_metadata (g.S.Source.content c.args.source.now) c.args.block.now view c.in_ok-bytes.bytes c.deref.result.now c.dictionary_in.result c.in_ok-bytes.ensures.metadata c.deref.ensures.value c.dictionary_in.ensures.gives

pub returns-clause-cause : goal.returns-clause-cause
returns-clause-cause g c = bytes_cause dictionary_message_of c.dictionary_in.result _ _ _ c.dictionary_in.ensures.gives
