use Rattle.std.proofs.Common.{◌≡◌, ◌∙◌, [], Err, None, Ok, ap, false, subst, sym, true}
use Rattle.arrow_spec.specs.Features.{chosen_floats}
use Rattle.arrow_spec.specs.Readings.{Refuses, refusals}
use Rattle.arrow_types.specs.Schemas.{fields_in}
use Rattle.ipc_files.specs.Below.{AddsDictionary, HoldsCells, are_column_kinds, held_in, table_of}
use Rattle.ipc_files.proofs.Errors.{is_err}
use Rattle.ipc_streams.specs.Heads.{is_dictionary_tag, tag_of}
use Rattle.ipc_streams.specs.Starts.{stream_schema}
use Rattle.ipc_streams.proofs.StreamSchemas.{may_read}
use Rattle.ipc_flight.specs.Consumed.{message_in, rows_in, values_in}
use Rattle.ipc_flight.specs.Hands.{handed_of}
use Rattle.ipc_flight.proofs.Steps.{floats_not_taken, rows_not_taken, rows_taken, same_floats, values_not_taken, values_taken}
use Rattle.ipc_flight.proofs.consumer.FlightConsumer.consume.Goals as goal

pub check_kinds-requires-clause-columns : goal.check_kinds-requires-clause-columns
check_kinds-requires-clause-columns c = subst (λ s. are_column_kinds None 0 s ≡ true) (sym c.deref.ensures) (may_read c.args.self.now.metadata None c.args.self.now.readable)

pub returns-in_err-check_kinds-clause-takes : goal.returns-in_err-check_kinds-clause-takes
returns-in_err-check_kinds-clause-takes c = λ d holds.
    let x = c.in_err-check_kinds.field-0.0 in
    let m = c.args.self.now.metadata in
    let e : c.from_residual.result ≡ Err x = is_err _ _ _ c.from_residual.ensures.0 c.from_residual.ensures.1 (λ f h. h) in
    let same : chosen_floats None (stream_schema m).fields 0 ≡ chosen_floats None (fields_in c.deref.result.now) 0 = same_floats m ∙ ap (λ k. chosen_floats None (fields_in k) 0) (sym c.deref.ensures) in
    floats_not_taken (stream_schema m) d (handed_of c.args.message) (held_in c.args.self.now.dictionaries) c.from_residual.result x e (subst (Refuses x) (sym same) c.in_err-check_kinds.ensures.exact.err)

pub returns-in_err-take_dictionary-clause-takes : goal.returns-in_err-take_dictionary-clause-takes
returns-in_err-take_dictionary-clause-takes c = λ d holds.
    let x = c.in_err-take_dictionary.field-0.0 in
    let m = c.args.self.now.metadata in
    let h = held_in c.take_dictionary.new.self.dictionaries in
    let e : c.from_residual-in_err-take_dictionary.result ≡ Err x = is_err _ _ _ c.from_residual-in_err-take_dictionary.ensures.0 c.from_residual-in_err-take_dictionary.ensures.1 (λ f k. k) in
    let floats : chosen_floats None (stream_schema m).fields 0 ≡ [] = same_floats m ∙ ap (λ k. chosen_floats None (fields_in k) 0) (sym c.deref.ensures) ∙ c.in_ok-check_kinds.ensures.exact.ok.0 in
    let tag : is_dictionary_tag (tag_of c.args.message.ipc_message.items) ≡ true = ap (λ b. is_dictionary_tag (tag_of b)) (sym c.deref-2.ensures.value) ∙ sym c.is_dictionary.ensures ∙ c.if-is_dictionary.true in
    let adds : AddsDictionary d h (Err x) (values_in (stream_schema m) d (handed_of c.args.message)) = subst (λ b. AddsDictionary d h (Err x) (values_in (stream_schema m) d (message_in b c.args.message.arrow_data.items))) c.deref-then-is_dictionary.ensures.value (c.in_err-take_dictionary.ensures.adds d holds) in
    values_not_taken (stream_schema m) d (handed_of c.args.message) h c.from_residual-in_err-take_dictionary.result x e floats tag adds.err

pub returns-then-is_dictionary-clause-takes : goal.returns-then-is_dictionary-clause-takes
returns-then-is_dictionary-clause-takes c = λ d holds.
    let m = c.args.self.now.metadata in
    let h = held_in c.take_dictionary.new.self.dictionaries in
    let floats : chosen_floats None (stream_schema m).fields 0 ≡ [] = same_floats m ∙ ap (λ k. chosen_floats None (fields_in k) 0) (sym c.deref.ensures) ∙ c.in_ok-check_kinds.ensures.exact.ok.0 in
    let tag : is_dictionary_tag (tag_of c.args.message.ipc_message.items) ≡ true = ap (λ b. is_dictionary_tag (tag_of b)) (sym c.deref-2.ensures.value) ∙ sym c.is_dictionary.ensures ∙ c.if-is_dictionary.true in
    let adds : AddsDictionary d h (Ok tt) (values_in (stream_schema m) d (handed_of c.args.message)) = subst (λ b. AddsDictionary d h (Ok tt) (values_in (stream_schema m) d (message_in b c.args.message.arrow_data.items))) c.deref-then-is_dictionary.ensures.value (c.in_ok-take_dictionary.ensures.adds d holds) in
    values_taken (stream_schema m) d (handed_of c.args.message) h floats tag adds

pub returns-in_err-batch-clause-takes : goal.returns-in_err-batch-clause-takes
returns-in_err-batch-clause-takes c = λ d holds.
    let x = c.in_err-batch.field-0.0 in
    let m = c.args.self.now.metadata in
    let e : c.from_residual-in_err-batch.result ≡ Err x = is_err _ _ _ c.from_residual-in_err-batch.ensures.0 c.from_residual-in_err-batch.ensures.1 (λ f k. k) in
    let floats : chosen_floats None (stream_schema m).fields 0 ≡ [] = same_floats m ∙ ap (λ k. chosen_floats None (fields_in k) 0) (sym c.deref.ensures) ∙ c.in_ok-check_kinds.ensures.exact.ok.0 in
    let tag : is_dictionary_tag (tag_of c.args.message.ipc_message.items) ≡ false = ap (λ b. is_dictionary_tag (tag_of b)) (sym c.deref-2.ensures.value) ∙ sym c.is_dictionary.ensures ∙ c.if-is_dictionary.false in
    let gives : Refuses x (refusals (rows_in (stream_schema m) d (handed_of c.args.message))) = subst (λ b. Refuses x (refusals (rows_in (stream_schema m) d (message_in b c.args.message.arrow_data.items)))) c.deref-3.ensures.value (c.in_err-batch.ensures.gives d holds floats) in
    rows_not_taken (stream_schema m) d (handed_of c.args.message) (held_in c.take_batch.new.self.dictionaries) c.from_residual-in_err-batch.result x e floats tag gives

pub returns-clause-takes : goal.returns-clause-takes
returns-clause-takes c = λ d holds.
    let m = c.args.self.now.metadata in
    let y = c.in_ok-batch.batch in
    let floats : chosen_floats None (stream_schema m).fields 0 ≡ [] = same_floats m ∙ ap (λ k. chosen_floats None (fields_in k) 0) (sym c.deref.ensures) ∙ c.in_ok-check_kinds.ensures.exact.ok.0 in
    let tag : is_dictionary_tag (tag_of c.args.message.ipc_message.items) ≡ false = ap (λ b. is_dictionary_tag (tag_of b)) (sym c.deref-2.ensures.value) ∙ sym c.is_dictionary.ensures ∙ c.if-is_dictionary.false in
    let read : rows_in (stream_schema m) d (handed_of c.args.message) ≡ Ok (table_of y) = subst (λ b. rows_in (stream_schema m) d (message_in b c.args.message.arrow_data.items) ≡ Ok (table_of y)) c.deref-3.ensures.value (c.in_ok-batch.ensures.gives d holds floats) in
    rows_taken (stream_schema m) d (handed_of c.args.message) (held_in c.take_batch.new.self.dictionaries) y floats tag (subst (λ q. HoldsCells d (held_in q)) (sym c.in_ok-batch.ensures.dictionaries) holds) read
