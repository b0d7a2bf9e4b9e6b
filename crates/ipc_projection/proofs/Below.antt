-- What crates below say, handed on to those above.
pub use Rattle.ipc_read_laws.proofs.ChosenFloats.{chosen_with}
pub use Rattle.ipc_read_laws.proofs.HeldUses.{each_use, each_value, held_fields}
