use Rattle.std.proofs.Common.{◌≡◌, ◌≤◌, Err, Ok, length, refl, rules, subst, sym}
use Rattle.arrow_spec.specs.Readings.{Refuses, refusals}
use Rattle.ipc_files.proofs.Errors.{is_err}
use Rattle.ipc_flight.proofs.Firsts.{first_refused, first_said, of_file}
use Rattle.ipc_flight.proofs.producer.FlightStreamProducer.get_schema.Goals as goal

pub schema_message-requires : goal.schema_message-requires
schema_message-requires g c = record { few = subst (λ m. length m ≤ 1048576) (sym c.custom_metadata_of.ensures) c.args.self.now.few }

pub returns-in_err-ipc_message : goal.returns-in_err-ipc_message
returns-in_err-ipc_message g c = record {
  gives = λ read.
      let x = c.in_err-ipc_message.field-0.0 in
      let m = c.args.self.now.metadata in
      let e : c.from_residual.result ≡ Err x = is_err _ _ _ c.from_residual.ensures.0 c.from_residual.ensures.1 (λ f h. h) in
      first_refused m c.from_residual.result x e read c.in_err-ipc_message.ensures.refusals
      (of_file (λ r. Refuses x (refusals r)) m _ _ _ c.deref.ensures c.metadata_of.ensures c.custom_metadata_of.ensures c.in_err-ipc_message.ensures.gives);
}

pub returns : goal.returns
returns g c = record {
  gives = λ read.
      let m = c.args.self.now.metadata in
      let v = c.in_ok-ipc_message.ipc_message in
      first_said m _ v.items read refl (search rules) (of_file (λ r. r ≡ Ok v.items) m _ _ _ c.deref.ensures c.metadata_of.ensures c.custom_metadata_of.ensures c.in_ok-ipc_message.ensures.gives);
}
