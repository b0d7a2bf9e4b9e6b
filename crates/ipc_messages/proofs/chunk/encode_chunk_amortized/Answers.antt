use Rattle.std.proofs.Common.{◌≡◌, ◌∙◌, inl, inr, None, Ok, Err, map, refl, subst, rules}
use Rattle.std.specs.Prelude.{IsSome}
use Rattle.arrow_arrays.specs.Parts.{forest}
use Rattle.ipc_fields.specs.IpcFields.{ids_of}
use Rattle.ipc_dictionaries.specs.Batches.{Sends}
use Rattle.ipc_dictionaries.specs.Walks.{to_send}
use Rattle.ipc_dictionaries.proofs.PartSteps.{handed}
use Rattle.ipc_messages.specs.Encoded.{AreMessagesOf}
use Rattle.ipc_messages.specs.Chunks.{EncodesChunkInto, RefusesChunk}
use Rattle.ipc_messages.proofs.ChunkSteps.{sent_by, stops_behind, stops_found, kept_again, same_message, same_options}
use Rattle.ipc_messages.proofs.chunk.encode_chunk_amortized.Goals as goal

pub returns-then-is_some-clause-encodes : goal.returns-then-is_some-clause-encodes
returns-then-is_some-clause-encodes c =
    let some : IsSome c.args.options.now.compression = search rules in
    (inl (refl, some), λ q. refl, same_message c.args.encoded.now)

pub returns-in_err-new-clause-encodes : goal.returns-in_err-new-clause-encodes
returns-in_err-new-clause-encodes c =
    let old = c.args.tracker.now in
    let new = c.new_dictionaries.new.tracker in
    let b = c.args.batch.now in
    let below = ids_of c.args.fields.now in
    let was = c.args.encoded.now in
    let e = c.in_err-new.field-0.0 in
    let sends : Sends (Err e) old new (forest b.arrays) below = subst (λ ps. Sends (Err e) old new (forest ps) below) c.arrays.ensures c.in_err-new.ensures.sends in
    let stops = stops_found e old new (forest b.arrays) below (λ sent. RefusesChunk e c.args.options.now sent b) sends in
    let none : c.args.options.now.compression ≡ None = search rules in
    handed (λ r. EncodesChunkInto r c.args.options.now old new (forest b.arrays) below b was was) c.from_residual.result e c.from_residual.ensures.1 (inr (none, stops.0), stops.1, same_message was)

pub returns-in_err-new-clause-options : goal.returns-in_err-new-clause-options
returns-in_err-new-clause-options c = same_options c.new_dictionaries.new.tracker c.args.tracker.now c.in_err-new.ensures.options

pub undo-requires : goal.undo-requires
undo-requires c = c.in_ok-new.ensures.sends.1.can

pub returns-in-Ok-clause-encodes : goal.returns-in-Ok-clause-encodes
returns-in-Ok-clause-encodes c =
    let old = c.args.tracker.now in
    let new = c.new_dictionaries.new.tracker in
    let b = c.args.batch.now in
    let below = ids_of c.args.fields.now in
    let n = c.in_ok-new.new in
    let ms = c.in-Ok.dictionaries.items in
    let sends : Sends (Ok n) old new (forest b.arrays) below = subst (λ ps. Sends (Ok n) old new (forest ps) below) c.arrays.ensures c.in_ok-new.ensures.sends in
    let none : c.args.options.now.compression ≡ None = search rules in
    (sent_by c.args.options.now old new (forest b.arrays) below n ms none sends (subst (λ xs. AreMessagesOf c.args.options.now (map to_send xs) ms) c.as_slice.ensures.value c.in-Ok.ensures.0), c.in-Ok.ensures.1)

pub returns-in-Ok-clause-options : goal.returns-in-Ok-clause-options
returns-in-Ok-clause-options c = same_options c.new_dictionaries.new.tracker c.args.tracker.now c.in_ok-new.ensures.options

pub returns-in-Err-clause-encodes : goal.returns-in-Err-clause-encodes
returns-in-Err-clause-encodes c =
    let old = c.args.tracker.now in
    let middle = c.new_dictionaries.new.tracker in
    let new = c.undo.new.tracker in
    let b = c.args.batch.now in
    let below = ids_of c.args.fields.now in
    let n = c.in_ok-new.new in
    let e = c.in-Err.error in
    let sends : Sends (Ok n) old middle (forest b.arrays) below = subst (λ ps. Sends (Ok n) old middle (forest ps) below) c.arrays.ensures c.in_ok-new.ensures.sends in
    let why = subst (λ xs. RefusesChunk e c.args.options.now (map to_send xs) b) c.as_slice.ensures.value c.in-Err.ensures.0 in
    let none : c.args.options.now.compression ≡ None = search rules in
    (inr (none, stops_behind e old middle (forest b.arrays) below n (λ sent. RefusesChunk e c.args.options.now sent b) sends why), kept_again old middle new (forest b.arrays) below n sends c.undo.ensures.held, c.in-Err.ensures.1)

pub returns-in-Err-clause-options : goal.returns-in-Err-clause-options
returns-in-Err-clause-options c = same_options c.undo.new.tracker c.args.tracker.now (c.undo.ensures.options ∙ c.in_ok-new.ensures.options)
