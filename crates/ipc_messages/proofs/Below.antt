-- What crates below say, handed on to those above.
pub use Rattle.arrow_arrays.proofs.Sliced.{cells-part, fault-part, kind-part, length-cells, neither, top_sound}
pub use Rattle.ipc_dictionaries.proofs.PartSteps.{handed}
pub use Rattle.ipc_fields.proofs.SameKinds.{form_is_same, same_as_other, same_by_form}
pub use Rattle.ipc_write.proofs.Below.{more_natural, none_natural}
pub use Rattle.ipc_write.proofs.Written.{same_message}
