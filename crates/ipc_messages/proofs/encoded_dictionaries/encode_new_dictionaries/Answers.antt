use Rattle.std.proofs.Common.{◌≡◌, ◌∙◌, ◌⊎◌, inl, inr, [], ◌∷◌, None, Ok, Err, map, refl, subst, rules}
use Rattle.std.specs.Prelude.{IsSome}
use Rattle.arrow_spec.specs.declared.error.IpcError.TheVariants.{Memory}
use Rattle.arrow_arrays.specs.Parts.{also, none}
use Rattle.arrow_arrays.specs.PartsOf.{parts_of}
use Rattle.ipc_fields.specs.IpcFields.{ids_of}
use Rattle.ipc_dictionaries.specs.Batches.{Sends}
use Rattle.ipc_dictionaries.specs.Walks.{to_send}
use Rattle.ipc_dictionaries.proofs.BatchSteps.{one_column}
use Rattle.ipc_dictionaries.proofs.PartSteps.{handed}
use Rattle.ipc_messages.specs.Encoded.{AreMessagesOf, RefusesOne}
use Rattle.ipc_messages.specs.Chunks.{AddsNew}
use Rattle.ipc_messages.proofs.ChunkSteps.{sent_by, stops_found, adds_stopped, kept_again, same_options}
use Rattle.ipc_messages.proofs.encoded_dictionaries.encode_new_dictionaries.Goals as goal

pub returns-then-is_some-clause-adds : goal.returns-then-is_some-clause-adds
returns-then-is_some-clause-adds c =
    let some : IsSome c.args.options.now.compression = search rules in
    (inl (refl, some), λ q. refl, refl)

pub returns-in_err-new-clause-adds : goal.returns-in_err-new-clause-adds
returns-in_err-new-clause-adds c =
    let old = c.args.tracker.now in
    let new = c.new_dictionaries.new.tracker in
    let columns = also (parts_of c.args.array.now) none in
    let below = ids_of (c.args.field.now ∷ []) in
    let was = c.args.encoded.now.items in
    let e = c.in_err-new.field-0.0 in
    let sends : Sends (Err e) old new columns below = one_column (Err e) old new c.from_ref-arrays.result.now c.from_ref-fields.result.now c.args.array.now c.args.field.now c.from_ref-arrays.ensures.value c.from_ref-fields.ensures.value c.in_err-new.ensures.sends in
    let stops = stops_found e old new columns below (λ sent. RefusesOne e c.args.options.now sent) sends in
    let none : c.args.options.now.compression ≡ None = search rules in
    handed (λ r. AddsNew r c.args.options.now old new columns below was was) c.from_residual.result e c.from_residual.ensures.1 (inr (none, stops.0), stops.1, refl)

pub returns-in_err-new-clause-options : goal.returns-in_err-new-clause-options
returns-in_err-new-clause-options c = same_options c.new_dictionaries.new.tracker c.args.tracker.now c.in_err-new.ensures.options

pub undo-requires : goal.undo-requires
undo-requires c = c.in_ok-new.ensures.sends.1.can

pub returns-in-Ok-clause-adds : goal.returns-in-Ok-clause-adds
returns-in-Ok-clause-adds c =
    let old = c.args.tracker.now in
    let new = c.new_dictionaries.new.tracker in
    let columns = also (parts_of c.args.array.now) none in
    let below = ids_of (c.args.field.now ∷ []) in
    let n = c.in_ok-new.new in
    let sends : Sends (Ok n) old new columns below = one_column (Ok n) old new c.from_ref-arrays.result.now c.from_ref-fields.result.now c.args.array.now c.args.field.now c.from_ref-arrays.ensures.value c.from_ref-fields.ensures.value c.in_ok-new.ensures.sends in
    let more = c.in-Ok.ensures.0 in
    let none : c.args.options.now.compression ≡ None = search rules in
    (more, c.in-Ok.ensures.1, sent_by c.args.options.now old new columns below n more none sends (subst (λ xs. AreMessagesOf c.args.options.now (map to_send xs) more) c.as_slice.ensures.value c.in-Ok.ensures.2))

pub returns-in-Ok-clause-options : goal.returns-in-Ok-clause-options
returns-in-Ok-clause-options c = same_options c.new_dictionaries.new.tracker c.args.tracker.now c.in_ok-new.ensures.options

pub returns-in-Err-clause-adds : goal.returns-in-Err-clause-adds
returns-in-Err-clause-adds c =
    let old = c.args.tracker.now in
    let middle = c.new_dictionaries.new.tracker in
    let new = c.undo.new.tracker in
    let columns = also (parts_of c.args.array.now) none in
    let below = ids_of (c.args.field.now ∷ []) in
    let n = c.in_ok-new.new in
    let e = c.in-Err.error in
    let sends : Sends (Ok n) old middle columns below = one_column (Ok n) old middle c.from_ref-arrays.result.now c.from_ref-fields.result.now c.args.array.now c.args.field.now c.from_ref-arrays.ensures.value c.from_ref-fields.ensures.value c.in_ok-new.ensures.sends in
    let why = subst (λ xs. (e ≡ Memory) ⊎ RefusesOne e c.args.options.now (map to_send xs)) c.as_slice.ensures.value c.in-Err.ensures.0 in
    let none : c.args.options.now.compression ≡ None = search rules in
    (inr (none, adds_stopped e c.args.options.now old middle columns below n sends why), kept_again old middle new columns below n sends c.undo.ensures.held, c.in-Err.ensures.1)

pub returns-in-Err-clause-options : goal.returns-in-Err-clause-options
returns-in-Err-clause-options c = same_options c.undo.new.tracker c.args.tracker.now (c.undo.ensures.options ∙ c.in_ok-new.ensures.options)
