-- A writer that begins the stream of a log's schema.
use Rattle.std.proofs.Common.{◌≡◌, ◌∙◌, ◌⊎◌, inl, inr, ℕ, List, [], true, false, Some, None, Result, Ok, Err, sym, ap, subst, arith}
use Rattle.std.specs.Io.KnownBytes.{Appends}
use Rattle.arrow_spec.specs.declared.error.IpcError.{IpcError}
use Rattle.arrow_spec.specs.declared.error.IpcError.TheVariants as errors
use Rattle.arrow_spec.specs.Features.{floats_in}
use Rattle.arrow_spec.specs.Files.{TableBatch}
use Rattle.arrow_spec.specs.Kinds.{Fields}
use Rattle.arrow_spec.specs.Readings.{IsAmong, refusals}
use Rattle.arrow_spec.specs.Streams.{end_mark, stream_table, unended}
use Rattle.arrow_types.specs.Schemas.{Keyed, fields_in}
use Rattle.ipc_bodies.specs.Encodings.{text_of}
use Rattle.ipc_bodies.specs.Puts.{Moved, NoneFalls, PutsPart}
use Rattle.ipc_bodies.specs.declared.encoding.Encoding.{Encoding}
use Rattle.ipc_fields.specs.IpcFields.{Ids, fields_with, ids_of, metadata_of}
use Rattle.ipc_concat.specs.Below.{IsNoStart, Options, SchemaIsSaid, StreamPairs, held_by, is_new, options_of, said_fields, stream_text, Finishes, HasBegun, IsFresh, StartCause, Starts, IsWritten, table_with, StreamCore, plain_fields, IsWriter, send_options}
use Rattle.ipc_concat.proofs.Below.{schema_is_put}
use Rattle.ipc_write_laws.proofs.Messages.{messages_front_means}
use Rattle.laws_logs.specs.Tables.{table_of}
use Rattle.schema_writer.specs.Defaults.{IsNumbered}
use Rattle.ipc_tablelog.specs.Below.{WasSaid, log_fields}
use Rattle.ipc_tablelog.proofs.Below.{said_are}
use Rattle.ipc_log_streams.specs.Streams.{HasPut, NotBegun, no_pairs}
use Rattle.ipc_log_streams.proofs.Schemas.{are_representable, is_said, refused}

-- ── its table ──

-- the table of some batches, as the stream of a log's schema means it
pub stream_as : (s : List Keyed) (w : StreamCore) (xs : List TableBatch) → w.schema ≡ s → table_with no_pairs w xs ≡ table_of (log_fields s) xs
stream_as s w xs is = ap (λ (fs : Fields). table_of fs xs) (said_are (fields_in w.schema) (ids_of w.fields.items) ∙ ap log_fields is)

-- ── begin ──

tracker_of : (options : Options) → options.cannot_replace ≡ false → options.deltas ≡ true → options ≡ record { cannot_replace = false; deltas = true }
tracker_of options replaces deltas = ap (λ b. record { cannot_replace = b; deltas = options.deltas }) replaces ∙ ap (λ b. record { cannot_replace = false; deltas = b }) deltas

-- why it is not begun
module _ (s : List Keyed) (said : WasSaid s) (encoding : Encoding) (fresh : StreamCore) (is : IsFresh send_options encoding fresh) where
  pub never_begun : (e : IpcError) → StartCause e fresh s None → (e ≡ errors.Memory) ⊎ (IsAmong (floats_in (fields_in s)) e ⊎ ((e ≡ errors.TooLarge) × IsNoStart errors.TooLarge send_options s None no_pairs))
  never_begun e (inl never) = let clash : true ≡ false = sym (ap is_new is.state) ∙ never.1 in cc
  never_begun e (inr (new, inl memory)) = inl memory
  never_begun e (inr (new, inr none)) =
      let here : IsAmong (refusals (stream_text send_options (fields_in s) none.below no_pairs)) e = subst (λ o. IsAmong (refusals (stream_text o (fields_in s) none.below no_pairs)) e) is.options (subst (λ (p : StreamPairs). IsAmong (refusals (stream_text fresh.options (fields_in s) none.below p)) e) is.pairs none.refused) in
      elim (refused s said none.below none.ids e here) [
        | inl floats ↦ inr (inl floats)
        | inr large ↦ inr (inr (sym large.1, record { below = none.below; ids = none.ids; refused = subst (IsAmong (refusals (stream_text send_options (fields_in s) none.below no_pairs))) (sym large.1) here }))
      ]

module _ (s : List Keyed) (said : WasSaid s) (encoding : Encoding) (fresh w : StreamCore) (m : Moved) (is : IsFresh send_options encoding fresh) where
  -- it has begun
  pub writer_of : (encode : List ℕ → List ℕ) → plain_fields (fields_in s) ≡ fields_in s → HasBegun encode m fresh w s None → IsWriter s encoding w
  writer_of encode plain h = record {
    state = h.state;
    encoding = h.encoding ∙ is.encoding;
    options = h.options ∙ is.options;
    schema = h.schema;
    ids = h.ids;
    plain = plain;
    representable = are_representable s said;
    tracker = ap options_of h.tracker ∙ tracker_of (options_of fresh.tracker) is.replaces (fresh.deltas ∙ ap (λ o. o.deltas) is.options);
  }

  pub begun_put : HasBegun (text_of fresh.encoding) m fresh w s None → HasPut encoding m.old m.new w []
  begun_put h =
      let own = ids_of w.fields.items in
      let may : SchemaIsSaid (fields_with (fields_in s) own) (metadata_of fresh.pairs.schema) = subst (λ (p : StreamPairs). SchemaIsSaid (fields_with (fields_in s) own) (metadata_of p.schema)) (sym is.pairs) (is_said s said own h.ids) in
      record {
        bytes = h.bytes;
        written = subst (λ (p : StreamPairs). IsWritten p w h.bytes []) is.pairs (h.said may);
        added = subst (λ e. Appends m.old m.new (text_of e h.bytes)) is.encoding h.appended;
      }

  -- or it has not: a part of its schema's message was put
  part_put : (own : Ids) (bytes : List ℕ) → IsNumbered (fields_in s) own → stream_text fresh.options (fields_in s) own fresh.pairs ≡ Ok bytes → unended bytes × (stream_table bytes None ≡ Some (table_of (log_fields s) []))
  part_put own bytes ids text =
      let here : stream_text send_options (fields_in s) own no_pairs ≡ Ok bytes = ap (λ o. stream_text o (fields_in s) own no_pairs) (sym is.options) ∙ ap (stream_text fresh.options (fields_in s) own) (sym is.pairs) ∙ text in
      let put = schema_is_put send_options (fields_in s) own no_pairs (held_by fresh.tracker) bytes here (is_said s said own ids) (record { ascend = tt; few = omega arith }) is.held in
      let front = messages_front_means (said_fields (fields_in s) own) [] [] [] put.0.may in
      (subst unended (sym put.1) front.0, ap (λ z. stream_table z None) put.1 ∙ front.1 ∙ ap (λ (fs : Fields). Some (table_of fs [])) (said_are (fields_in s) own))

  pub not_begun : (e : IpcError) → Starts (text_of fresh.encoding) m (Err e) fresh w s None → NotBegun e s encoding m
  not_begun e (inl (cause, leaves)) = NotBegun.before_put (never_begun s said encoding fresh is e cause) leaves.untouched.bytes
  not_begun e (inr f) =
      let put = part_put f.below f.bytes f.ids f.text in
      NotBegun.in_put f.bytes put.0 put.1 (subst (λ x. PutsPart m e (text_of x f.bytes)) is.encoding f.failed.put)

-- ── counts ──

part_keeps : (e : IpcError) (m : Moved) (bs : List ℕ) → PutsPart m e bs → NoneFalls m
part_keeps errors.WriteFault m bs p = p.1
part_keeps errors.Memory m bs p = p.1
part_keeps e m bs p = absurd p

pub starts_keep : (encode : List ℕ → List ℕ) (m : Moved) (r : Result (Unit {0}) IpcError) (c d : StreamCore) (s : List Keyed) → Starts encode m r c d s None → NoneFalls m
starts_keep encode m (Ok u) c d s h = h.counts
starts_keep encode m (Err e) c d s (inl h) = h.1.untouched.counts
starts_keep encode m (Err e) c d s (inr f) = part_keeps e m (encode f.bytes) f.failed.put

pub finish_keeps : (encode : List ℕ → List ℕ) (m : Moved) (r : Result (Unit {0}) IpcError) (c d : StreamCore) → Finishes encode m r c d → NoneFalls m
finish_keeps encode m (Ok u) c d h = h.counts
finish_keeps encode m (Err e) c d (inl h) = h.1.untouched.counts
finish_keeps encode m (Err e) c d (inr f) = part_keeps e m (encode end_mark) f.1.put
