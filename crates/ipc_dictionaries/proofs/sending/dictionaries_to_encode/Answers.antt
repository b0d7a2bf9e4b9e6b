use Rattle.std.proofs.Common.{inl, [], ◌∷◌, Ok, Err, refl, rules, ◌∙◌}
use Rattle.arrow_arrays.specs.Parts.{also, none}
use Rattle.arrow_arrays.specs.PartsOf.{parts_of}
use Rattle.ipc_fields.specs.IpcFields.{ids_of}
use Rattle.ipc_dictionaries.specs.Batches.{Sends, SendsMore}
use Rattle.ipc_dictionaries.proofs.BatchSteps.{one_column, more_is_sent, no_more_is_sent}
use Rattle.ipc_dictionaries.proofs.PartSteps.{handed}
use Rattle.ipc_dictionaries.proofs.sending.dictionaries_to_encode.Goals as goal

pub returns-in_err-new-clause-sends : goal.returns-in_err-new-clause-sends
returns-in_err-new-clause-sends c =
    let old = c.args.tracker.now in
    let new = c.new_dictionaries.new.tracker in
    let columns = also (parts_of c.args.array.now) none in
    let below = ids_of (c.args.field.now ∷ []) in
    let was = c.args.dictionaries.now.items in
    let e = c.in_err-new.field-0.0 in
    let sends : Sends (Err e) old new columns below = one_column (Err e) old new c.from_ref-arrays.result.now c.from_ref-fields.result.now c.args.array.now c.args.field.now c.from_ref-arrays.ensures.value c.from_ref-fields.ensures.value c.in_err-new.ensures.sends in
    handed (λ r. SendsMore r old was new was columns below) c.from_residual.result e c.from_residual.ensures.1 (no_more_is_sent e old new columns below was was sends refl)

pub undo-requires : goal.undo-requires
undo-requires c = c.in_ok-new.ensures.sends.1.can

pub returns-in-Ok-clause-sends : goal.returns-in-Ok-clause-sends
returns-in-Ok-clause-sends c =
    let old = c.args.tracker.now in
    let new = c.new_dictionaries.new.tracker in
    let columns = also (parts_of c.args.array.now) none in
    let below = ids_of (c.args.field.now ∷ []) in
    let n = c.in_ok-new.new in
    let sends : Sends (Ok n) old new columns below = one_column (Ok n) old new c.from_ref-arrays.result.now c.from_ref-fields.result.now c.args.array.now c.args.field.now c.from_ref-arrays.ensures.value c.from_ref-fields.ensures.value c.in_ok-new.ensures.sends in
    more_is_sent n old new columns below c.args.dictionaries.now.items c.append.new.self.items sends (search rules)

pub returns-in-Err-clause-sends : goal.returns-in-Err-clause-sends
returns-in-Err-clause-sends c =
    let old = c.args.tracker.now in
    let middle = c.new_dictionaries.new.tracker in
    let columns = also (parts_of c.args.array.now) none in
    let below = ids_of (c.args.field.now ∷ []) in
    let n = c.in_ok-new.new in
    let sends : Sends (Ok n) old middle columns below = one_column (Ok n) old middle c.from_ref-arrays.result.now c.from_ref-fields.result.now c.args.array.now c.args.field.now c.from_ref-arrays.ensures.value c.from_ref-fields.ensures.value c.in_ok-new.ensures.sends in
    (inl refl, λ q. c.undo.ensures q ∙ sends.1.given q, search rules)
