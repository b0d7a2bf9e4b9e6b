-- Pairs of a footer or a message that are read may be written.
use Rattle.std.proofs.Common.{ℕ, List, Option, Result, Ok, Err, IfOk, String}
use Rattle.std.specs.BTreeMap.{BTreeMap}
use Rattle.std.specs.declared.alloc.Global.{Global}
use Rattle.arrow_spec.specs.declared.error.FlatError.{FlatError}
use Rattle.arrow_spec.specs.declared.error.IpcError.{IpcError}
use Rattle.arrow_spec.specs.declared.error.OutOfSpecKind.{OutOfSpecKind}
use Rattle.arrow_spec.specs.Messages.{custom_pairs}
use Rattle.arrow_spec.specs.WrittenSchemas.{CustomMayBeWritten}
use Rattle.arrow_spec.proofs.ReadPairs.{custom_may}
use Rattle.ipc_fields.specs.Causes.{Decodes}
use Rattle.ipc_fields.specs.IpcFields.{metadata_of}

pub given_may : (kind : FlatError → OutOfSpecKind) (b : List ℕ) (r : Result (Option (BTreeMap (String Global) (String Global))) IpcError) → Decodes metadata_of r (custom_pairs kind b) → IfOk r (λ m. CustomMayBeWritten (metadata_of m))
given_may kind b (Ok m) h = custom_may kind b (metadata_of m) h
given_may kind b (Err e) h = tt
