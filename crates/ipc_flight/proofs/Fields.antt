-- The fields of a batch of all columns.
use Rattle.std.proofs.Common.{◌≡◌, List, Result, Ok, Err, IfOk, None, map, refl}
use Rattle.arrow_spec.specs.declared.error.IpcError.{IpcError}
use Rattle.arrow_arrays.specs.Batches.{Batch}
use Rattle.arrow_arrays.specs.Parts.{kind_in}
use Rattle.arrow_types.specs.Schemas.{Keyed}
use Rattle.ipc_files.specs.Below.{kinds_of}
use Rattle.ipc_files.specs.Selections.{HasFields}
use Rattle.ipc_files.proofs.ShownFields.{all_fields}
use Rattle.ipc_read_laws.specs.Projection.{chosen}

pub all_shown : (s : List Keyed) (result : Result Batch IpcError) → IfOk result (λ x. x.schema ≡ chosen None 0 s) → IfOk result (λ x. map kind_in x.arrays ≡ chosen None 0 (kinds_of s)) → IfOk result (λ x. HasFields x s)
all_shown s (Ok x) schema kinds = all_fields s None x refl schema kinds
all_shown s (Err e) schema kinds = tt
