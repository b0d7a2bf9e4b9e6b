-- What is found of a batch's dictionaries.
use Rattle.std.proofs.Common.{◌≡◌, List, Result, subst}
use Rattle.arrow_spec.specs.declared.error.IpcError.{IpcError}
use Rattle.arrow_arrays.specs.Parts.{Parts, forest}
use Rattle.ipc_fields.specs.IpcFields.{ids_of}
use Rattle.ipc_fields.specs.declared.ipc_field.IpcField.{IpcField}
use Rattle.ipc_dictionaries.specs.Batches.{Sends as Found}
use Rattle.ipc_dictionaries.specs.declared.sending.NewDictionaries.{NewDictionaries}
use Rattle.ipc_dictionaries.specs.declared.tracker.DictionaryTracker.{DictionaryTracker}

-- what is found, in the batch's own words
pub found_in : (r : Result NewDictionaries IpcError) (old new : DictionaryTracker) (arrays ps : List Parts) (fields gs : List IpcField) → arrays ≡ ps → fields ≡ gs → Found r old new (forest arrays) (ids_of fields) → Found r old new (forest ps) (ids_of gs)
found_in r old new arrays ps fields gs a i h = subst (λ xs. Found r old new (forest ps) (ids_of xs)) i (subst (λ qs. Found r old new (forest qs) (ids_of fields)) a h)
