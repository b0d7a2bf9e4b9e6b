-- A stream of a file's columns is begun, or refused, as the file is.
use Rattle.std.proofs.Common.{◌≡◌, inl, inr, ℕ, List, [], ◌∷◌, ◌⊎◌, Bool, true, false, Option, None, Ok, Err, refl, sym, ap, subst, ◌∙◌}
use Rattle.arrow_spec.specs.declared.error.IpcError.{IpcError}
use Rattle.arrow_spec.specs.declared.error.IpcError.TheVariants.{TooLarge}
use Rattle.arrow_spec.specs.Features.{chosen_floats}
use Rattle.arrow_spec.specs.Files.{Request, file_reading, to_send}
use Rattle.arrow_spec.specs.Framing.{message_bytes}
use Rattle.arrow_spec.specs.Meaning.{may}
use Rattle.arrow_spec.specs.Readings.{IsAmong, bind, free_of, refusals, unless}
use Rattle.arrow_spec.specs.Sent.{may_be_sent}
use Rattle.arrow_types.specs.Schemas.{Keyed, fields_in}
use Rattle.ipc_fields.specs.IpcFields.{Ids}
use Rattle.laws_transcode.proofs.Readings.{features_refused, schema_refused}
use Rattle.ipc_files.specs.Below.{WriteOptions}
use Rattle.laws_writers.specs.Below.{stream_text, StreamPairs}
use Rattle.ipc_files.specs.FileViews.{FileSays, file_custom, meta_view}
use Rattle.ipc_files.specs.declared.metadata.FileMetadata.{FileMetadata}
use Rattle.laws_sent.specs.SchemaLaws.{AreStarted, BegunIsSent, RefusedAsFile, file_message, text_if_sent}
use Rattle.laws_sent.specs.SentFields.{AreReadable}
use Rattle.laws_sent.proofs.SentFields.{sendable}
use Rattle.laws_sent.proofs.SentMessages.{begun_readable, message_sent, unread_refused}

-- ── a text, where it may be sent ──

sent_ok : (b : Bool) (text bytes : List ℕ) → bind (unless b TooLarge) (λ small. Ok text) ≡ Ok bytes → (b ≡ true) × (bytes ≡ text)
unfolding bind
sent_ok true text bytes h = (refl, cc)
sent_ok false text bytes h = cc

sent_err : (b : Bool) (text : List ℕ) (e : IpcError) → IsAmong (refusals (bind (unless b TooLarge) (λ small. Ok text))) e → (b ≡ false) × (TooLarge ≡ e)
unfolding bind
sent_err true text e h = absurd h
sent_err false text e (inl h) = (refl, h)
sent_err false text e (inr h) = absurd h

module _ (options : WriteOptions) (file : FileMetadata) (columns : Option (List ℕ)) (s : List Keyed) (own : Ids) (pairs : StreamPairs) (h : AreStarted options file columns s own pairs) where
  text_is : AreReadable (meta_view file) columns → stream_text options (fields_in s) own pairs ≡ text_if_sent (file_message file columns)
  text_is readable = message_sent options file columns s own pairs h.plain h.most h.read h.right readable h.asked h.ids h.schema h.message

  -- what is refused is the message's length, or what is never read
  pub why_refused : (e : IpcError) (es : List IpcError) → chosen_floats columns (meta_view file).schema.fields 0 ≡ es → IsAmong (refusals (stream_text options (fields_in s) own pairs)) e
      → ((es ≡ []) × (may_be_sent (file_message file columns) ≡ false) × (TooLarge ≡ e)) ⊎ IsAmong es e
  why_refused e [] readable m =
      let message = file_message file columns in
      let large = sent_err (may_be_sent message) (message_bytes message.node []) e (subst (λ t. IsAmong (refusals t) e) (text_is readable) m) in
      inl (refl, large.0, large.1)
  why_refused e (x ∷ xs) is m =
      let among = unread_refused options file columns s own pairs e h.plain h.asked (λ readable. let none : x ∷ xs ≡ [] = sym is ∙ readable in cc) m in
      inr (subst (λ es. IsAmong es e) is among)

module _ (b : List ℕ) (r : Request) (options : WriteOptions) (file : FileMetadata) (s : List Keyed) (own : Ids) (pairs : StreamPairs) (says : FileSays b (meta_view file) (file_custom file)) (h : AreStarted options file r.columns s own pairs) where
  refused : (e : IpcError) (es : List IpcError) → chosen_floats r.columns (meta_view file).schema.fields 0 ≡ es → ((es ≡ []) × (may_be_sent (file_message file r.columns) ≡ false) × (TooLarge ≡ e)) ⊎ IsAmong es e → may b r e
  refused e es is (inl large) =
      let readable = is ∙ large.0 in
      let all : file_reading to_send b r None ≡ Err (TooLarge ∷ []) = schema_refused b r (meta_view file) (file_custom file) says.read says.pairs h.right readable (sendable file r.columns h.right readable h.read) large.1 in
      rw all (inl large.2)
  refused e [] is (inr among) = absurd among
  refused e (x ∷ xs) is (inr among) =
      let floats = features_refused to_send b r None (meta_view file) (file_custom file) (x ∷ xs) says.read says.pairs h.right (ap free_of is) in
      rw floats among

pub begun_sent : BegunIsSent
begun_sent b r options file s own pairs bytes says h begun =
    let readable = begun_readable options file r.columns s own pairs bytes h.asked begun in
    let message = file_message file r.columns in
    let sent = sent_ok (may_be_sent message) (message_bytes message.node []) bytes (sym (text_is options file r.columns s own pairs h readable) ∙ begun) in
    (record { read = says.read; pairs = says.pairs; columns = h.right; readable = readable; schema = sendable file r.columns h.right readable h.read; small = sent.0 }, sent.1)

pub refused_as_file : RefusedAsFile
refused_as_file b r options file s own pairs e says h m =
    let floats = chosen_floats r.columns (meta_view file).schema.fields 0 in
    refused b r options file s own pairs says h e floats refl (why_refused options file r.columns s own pairs h e floats refl m)
