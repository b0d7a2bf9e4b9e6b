-- A schema's message, and a batch behind messages that are put.
use Rattle.std.proofs.Common.{◌≡◌, ◌++◌, ◌∷◌, ◌≤◌, ℤ, List, [], None, true, refl, sym, ap, ◌∙◌, subst, append-nil}
use Rattle.std.specs.Prelude.{nat_le}
use Rattle.std.specs.List.{flat_map}
use Rattle.std.proofs.lemmas.Bool.{le-leb}
use Rattle.std.proofs.lemmas.Grind.{flat_map-append}
use Rattle.arrow_spec.specs.Features.{chosen_floats}
use Rattle.arrow_spec.specs.Flat.{little}
use Rattle.arrow_spec.specs.Framing.{message_bytes}
use Rattle.arrow_spec.specs.Kinds.{Fields, Metadata}
use Rattle.arrow_spec.specs.Layout.{size, up_to}
use Rattle.arrow_spec.specs.Sent.{SentMessage, may_be_sent, schema_message}
use Rattle.arrow_spec.specs.WrittenSchemas.{IdsMayBeWritten, own_fields}
use Rattle.ipc_messages.specs.Below.{Batch, forest, fields_with, metadata_of, columns_of, ToSend}
use Rattle.laws_files.specs.Below.{AllMayBeWritten, Known, WrittenMessage, batch_in, none_known, with_message, with_messages}
use Rattle.laws_columns.specs.Below.{AllMean}
use Rattle.laws_columns.proofs.ReadColumns.{cells_under}
use Rattle.laws_columns.proofs.Below.{chosen_with}
use Rattle.ipc_messages.specs.Messages.{chunk_text}
use Rattle.ipc_messages.specs.Schemas.{begun_message}
use Rattle.ipc_messages.proofs.Beginning.{text_is}
use Rattle.laws_writers.specs.Heard.{cells_held}
use Rattle.laws_writers.specs.Chunks.{MayFollow, chunk_of}
use Rattle.laws_writers.specs.ChunkLaws.{ChunkIsPut, SchemaIsPut}
use Rattle.laws_writers.specs.Written.{cells_of, said_fields}
use Rattle.laws_writers.proofs.Chunks.{may_follow}
use Rattle.arrow_spec.proofs.OwnPairs.{message_own}
use Rattle.laws_writers.proofs.OwnFields.{floats_own, kinds_own, with_own}
use Rattle.laws_writers.proofs.Uses.{all_floats}

-- ── the schema ──

fits_so : (m : SentMessage) → up_to 8 (size m.node) ≤ 2147483647 → nat_le m.body 9223372036854775807 ≡ true → may_be_sent m ≡ true
unfolding may_be_sent
fits_so m h k = rw (le-leb (up_to 8 (size m.node)) 2147483647 h, k) refl

no_body : (fs : Fields) (pairs custom : Metadata) → nat_le (schema_message little fs pairs custom).body 9223372036854775807 ≡ true
unfolding schema_message
no_body fs pairs custom = refl

pub schema_is_put : SchemaIsPut
schema_is_put options fs below pairs held bytes h said message none =
    let is = text_is options fs below pairs bytes h in
    let own = metadata_of pairs.schema in
    let custom = metadata_of pairs.message in
    let all = fields_with fs below in
    let same : schema_message little (own_fields all) own custom ≡ begun_message fs below pairs = message_own little all own custom 64 said.schema.fit in
    let free : chosen_floats None (own_fields all) 0 ≡ []
    = ap (λ gs. chosen_floats None gs 0) (sym (with_own fs below)) ∙ chosen_with None (own_fields fs) below 0 ∙ all_floats (own_fields fs) 0 ∙ floats_own fs ∙ is.floats in (
      record {
        may = record {
          schema = said.schema;
          message = message;
          ids = said.ids;
          readable = free;
          size = ap may_be_sent same ∙ fits_so (begun_message fs below pairs) is.small (no_body all own custom);
          messages = tt;
        };
        known = λ id. ap cells_held (sym (none id));
        batches = refl;
      },
      is.bytes_are ∙ ap (λ (m : SentMessage). message_bytes m.node []) (sym same) ∙ sym (append-nil (message_bytes (schema_message little (own_fields all) own custom).node [])),
    )

-- ── batches ──

all_and_more : (fs : Fields) (c : Known) (xs ys : List WrittenMessage) → AllMayBeWritten fs c xs → AllMayBeWritten fs (with_messages xs c) ys → AllMayBeWritten fs c (xs ++ ys)
all_and_more fs c [] ys w v = v
all_and_more fs c (x ∷ xs) ys w v = (w.0, all_and_more fs (with_message x c) xs ys w.1 v)

with_more : (xs ys : List WrittenMessage) (c : Known) (q : ℤ) → with_messages (xs ++ ys) c q ≡ with_messages ys (with_messages xs c) q
with_more [] ys c q = refl
with_more (x ∷ xs) ys c q = with_more xs ys (with_message x c) q

pub chunk_batches : (fs : Fields) (sent : List ToSend) (b : Batch) → AllMean b.height b.arrays → flat_map batch_in (chunk_of fs sent b) ≡ cells_of b ∷ []
chunk_batches fs [] b mean = ap (λ columns. record { rows = b.height; columns = columns; custom = b.custom } ∷ []) (cells_under fs b.height b.arrays mean)
chunk_batches fs (s ∷ sent) b mean = chunk_batches fs sent b mean

pub chunk_is_put : ChunkIsPut
chunk_is_put options o fs below b s t sent pairs custom bs ms e more may same put =
    let gs = said_fields fs below in
    let c = with_messages ms none_known in
    let is = with_own fs below in
    let kinds = kinds_own fs (columns_of (forest b.arrays)) same in
    let ids : IdsMayBeWritten (fields_with (own_fields fs) below) = subst IdsMayBeWritten (sym is) put.may.ids in
    let free : chosen_floats None (fields_with (own_fields fs) below) 0 ≡ [] = ap (λ xs. chosen_floats None xs 0) is ∙ put.may.readable in
    let follow : MayFollow gs c (λ q. cells_held (t.held q)) (chunk_of gs sent b) (chunk_text sent b)
    = subst (λ xs. MayFollow xs c (λ q. cells_held (t.held q)) (chunk_of xs sent b) (chunk_text sent b)) is (may_follow options o (own_fields fs) below b s t sent c e more put.known may kinds ids free) in (
      record {
        may = record {
          schema = put.may.schema;
          message = put.may.message;
          ids = put.may.ids;
          readable = put.may.readable;
          size = put.may.size;
          messages = all_and_more gs none_known ms (chunk_of gs sent b) put.may.messages follow.may;
        };
        known = λ q. with_more ms (chunk_of gs sent b) none_known q ∙ follow.known q;
        batches = flat_map-append batch_in ms (chunk_of gs sent b) ∙ ap (λ xs. xs ++ flat_map batch_in (chunk_of gs sent b)) put.batches ∙ ap (λ xs. bs ++ xs) (chunk_batches gs sent b may.batch.means);
      },
      follow.bytes_are,
    )
