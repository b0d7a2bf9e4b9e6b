-- The message of a file's columns as a stream is begun with it, and why it is refused.
use Rattle.std.proofs.Common.{◌≡◌, ℕ, ◌≤◌, List, [], ◌∷◌, Bool, true, false, length, min, Option, None, Ok, ◌&&◌, refl, sym, ap, subst, ◌∙◌, arith}
use Rattle.std.specs.Prelude.{is_some, nat_le}
use Rattle.std.specs.Rc.{rc_value}
use Rattle.std.proofs.lemmas.Bool.{le-leb, leb-true}
use Rattle.arrow_spec.specs.declared.error.IpcError.{IpcError}
use Rattle.arrow_spec.specs.declared.error.IpcError.TheVariants.{TooLarge}
use Rattle.arrow_spec.specs.Features.{chosen_floats, floats_in}
use Rattle.arrow_spec.specs.Flat.{little}
use Rattle.arrow_spec.specs.Framing.{message_bytes}
use Rattle.arrow_spec.specs.Kinds.{Fields, Metadata, numbered, uses_in}
use Rattle.arrow_spec.specs.Layout.{Node, layout, size, up_to}
use Rattle.arrow_spec.specs.Readings.{IsAmong, bind, free_of, refusals, unless}
use Rattle.arrow_spec.specs.Regular.{representable}
use Rattle.arrow_spec.specs.Schema.{uses_agree}
use Rattle.arrow_spec.specs.Sent.{SentMessage, may_be_sent, schema_message, stream_schema}
use Rattle.arrow_spec.proofs.NumberedFields.{uses_numbered}
use Rattle.arrow_spec.proofs.NextMessages.{length-layout}
use Rattle.arrow_types.specs.Schemas.{Keyed, fields_in}
use Rattle.ipc_fields.specs.IpcFields.{Ids, fields_with, have_shapes, metadata_of, no_fields}
use Rattle.ipc_files.proofs.Below.{chosen_floats_with}
use Rattle.laws_writers.specs.Below.{serialized, written, begun_message, begun_metadata, features_checked, stream_text, StreamPairs}
use Rattle.laws_transcode.specs.Files.{AreAsked}
use Rattle.laws_transcode.proofs.AskedFloats.{floats_asked}
use Rattle.ipc_files.specs.Below.{WriteOptions}
use Rattle.laws_writers.proofs.Below.{features_free, text_is}
use Rattle.laws_writers.proofs.Uses.{all_floats}
use Rattle.ipc_files.specs.FileViews.{file_custom, meta_view}
use Rattle.ipc_files.specs.declared.metadata.FileMetadata.{FileMetadata}
use Rattle.laws_sent.specs.SchemaLaws.{BegunAreReadable, MessageIsSent, UnreadAreRefused, file_message, text_if_sent}
use Rattle.laws_sent.specs.SentFields.{fields_of}
use Rattle.laws_sent.proofs.AskedFloats.{asked_chosen, none_chosen}
use Rattle.laws_sent.proofs.PlainFields.{same_with}
use Rattle.laws_sent.proofs.SayableFields.{can_be_said}
use Rattle.laws_sent.proofs.SentFields.{are_sent_fields, sendable, sent_plain}

-- ── kinds that are never read ──

sent_floats : (file : FileMetadata) (columns : Option (List ℕ)) (s : List Keyed) → AreAsked (rc_value file.schema) columns s → floats_in (fields_in s) ≡ floats_in (fields_of file columns)
sent_floats file columns s asked =
    let fs = fields_in s in
    let gs = fields_of file columns in
    let same : fields_with fs no_fields ≡ fields_with gs no_fields = same_with fs gs (sent_plain file columns s asked) no_fields in
    sym (all_floats fs 0) ∙ sym (chosen_floats_with None fs no_fields 0) ∙ ap (λ hs. chosen_floats None hs 0) same ∙ chosen_floats_with None gs no_fields 0 ∙ all_floats gs 0

pub begun_readable : BegunAreReadable
begun_readable options file columns s own pairs bytes asked h = none_chosen (meta_view file).schema.fields columns (sym (sent_floats file columns s asked) ∙ (text_is options (fields_in s) own pairs bytes h).floats)

-- the first place of what is refused, where it refuses anything
text_floats : (options : WriteOptions) (fs : Fields) (own : Ids) (pairs : StreamPairs) → options.compression ≡ None → (floats_in fs ≡ [] → ⊥) → refusals (stream_text options fs own pairs) ≡ floats_in fs
unfolding stream_text bind
text_floats options fs own pairs plain some = rw plain (by (floats_in fs) some)
  where
    by : (es : List IpcError) → (es ≡ [] → ⊥) → refusals (bind (free_of es) (λ free. bind (begun_metadata fs own pairs) (λ metadata.
        bind (unless (nat_le (up_to 8 (length metadata)) (min options.metadata_limit 2147483647)) TooLarge) (λ small. Ok (message_bytes (begun_message fs own pairs).node []))))) ≡ es
    by [] n = absurd (n refl)
    by (e ∷ es) n = refl

pub unread_refused : UnreadAreRefused
unread_refused options file columns s own pairs e plain asked unread h =
    let same = sent_floats file columns s asked in
    let some : floats_in (fields_in s) ≡ [] → ⊥ = λ none. unread (none_chosen (meta_view file).schema.fields columns (sym same ∙ none)) in
    asked_chosen (meta_view file).schema.fields columns e (subst (λ es. IsAmong es e) (text_floats options (fields_in s) own pairs plain some ∙ same) h)

-- ── the message ──

-- fields that can be said are written under their ids, where their message is small
written_is : (fs gs : Fields) (own : Ids) (pairs custom : Metadata) → fields_with fs own ≡ gs → have_shapes fs own ≡ true → uses_agree [] (uses_in gs) ≡ Ok tt → representable gs ≡ true
    → written little fs own pairs custom ≡ bind (unless (nat_le (size (schema_message little gs pairs custom).node) 2147483647) TooLarge) (λ small. Ok (layout (schema_message little gs pairs custom).node))
unfolding written serialized bind
written_is fs gs own pairs custom same shape uses said = rw (same, shape, uses, said) refl

-- a message of so many bytes in its frame, where they are few
text_of : (n : Node) (limit : ℕ) → limit ≡ 2147483647 → bind (bind (unless (nat_le (size n) 2147483647) TooLarge) (λ small. Ok (layout n))) (λ metadata.
    bind (unless (nat_le (up_to 8 (length metadata)) (min limit 2147483647)) TooLarge) (λ small. Ok (message_bytes n [])))
    ≡ bind (unless (nat_le (up_to 8 (size n)) 2147483647) TooLarge) (λ small. Ok (message_bytes n []))
unfolding bind
text_of n limit most = rw most (by (nat_le (size n) 2147483647) (nat_le (up_to 8 (size n)) 2147483647) refl refl)
  where
    by : (b c : Bool) → nat_le (size n) 2147483647 ≡ b → nat_le (up_to 8 (size n)) 2147483647 ≡ c
        → bind (bind (unless b TooLarge) (λ small. Ok (layout n))) (λ metadata. bind (unless (nat_le (up_to 8 (length metadata)) (min 2147483647 2147483647)) TooLarge) (λ small. Ok (message_bytes n []))) ≡ bind (unless c TooLarge) (λ small. Ok (message_bytes n []))
    by true c h g = rw (length-layout n, g) refl
    by false false h g = refl
    by false true h g =
        let few : size n ≤ 2147483647 = omega (arith, leb-true (up_to 8 (size n)) 2147483647 g) in
        let small : nat_le (size n) 2147483647 ≡ true = le-leb (size n) 2147483647 few in
        cc

-- a message without a body may be sent where its metadata is not too long
sent_by : (m : SentMessage) → m.body ≡ 0 → may_be_sent m ≡ nat_le (up_to 8 (size m.node)) 2147483647
unfolding may_be_sent
sent_by m none = rw none (by (nat_le (up_to 8 (size m.node)) 2147483647))
  where
    by : (b : Bool) → (b && nat_le 0 9223372036854775807) ≡ b
    by true = refl
    by false = refl

no_body : (fs : Fields) (pairs custom : Metadata) → (stream_schema fs pairs custom).body ≡ 0
unfolding schema_message
no_body fs pairs custom = refl

text_steps : (options : WriteOptions) (fs : Fields) (own : Ids) (pairs : StreamPairs) (m : SentMessage) → features_checked options (floats_in fs) ≡ Ok tt → begun_message fs own pairs ≡ m
    → begun_metadata fs own pairs ≡ bind (unless (nat_le (size m.node) 2147483647) TooLarge) (λ small. Ok (layout m.node)) → options.metadata_limit ≡ 2147483647 → m.body ≡ 0 → stream_text options fs own pairs ≡ text_if_sent m
unfolding stream_text bind
text_steps options fs own pairs m free is bytes most none =
    rw (free, bytes, is) (text_of m.node options.metadata_limit most ∙ ap (λ b. bind (unless b TooLarge) (λ small. Ok (message_bytes m.node []))) (sym (sent_by m none)))

pub message_sent : MessageIsSent
message_sent options file columns s own pairs plain most w right readable asked ids schema custom =
    let gs = fields_of file columns in
    let fs = fields_in s in
    let sent = are_sent_fields file columns s own w right readable asked ids in
    let may = (sendable file columns right readable w).may in
    let floats : floats_in fs ≡ [] = sent_floats file columns s asked ∙ floats_asked (meta_view file).schema.fields columns readable in
    let free : features_checked options (floats_in fs) ≡ Ok tt = features_free options (floats_in fs) (ap is_some (sym plain)) floats in
    let is : begun_message fs own pairs ≡ file_message file columns = rw (sent.numbers, schema, custom) refl in
    let bytes = written_is fs (numbered gs 0) own (metadata_of pairs.schema) (metadata_of pairs.message) sent.numbers sent.shapes (uses_numbered gs) (can_be_said gs (meta_view file).schema.metadata may) in
    let same : schema_message little (numbered gs 0) (metadata_of pairs.schema) (metadata_of pairs.message) ≡ file_message file columns = rw (schema, custom) refl in
    text_steps options fs own pairs (file_message file columns) free is
    (bytes ∙ ap (λ (m : SentMessage). bind (unless (nat_le (size m.node) 2147483647) TooLarge) (λ small. Ok (layout m.node))) same)
    most (no_body gs (meta_view file).schema.metadata (file_custom file))
