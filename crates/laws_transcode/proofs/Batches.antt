-- A batch that was read, of the columns asked for and its share of the limit, and is sent where its message may be.
use Rattle.std.proofs.Common.{◌≡◌, ℕ, List, [], ◌∷◌, Option, Ok, Err, ap, ◌∙◌, subst, true, false}
use Rattle.arrow_spec.specs.declared.error.IpcError.TheVariants.{TooLarge}
use Rattle.arrow_spec.specs.declared.message.MetadataVersion.{MetadataVersion}
use Rattle.arrow_spec.specs.Readings.{bind, ◌>>=◌}
use Rattle.arrow_spec.specs.Counts.{RecordBatch, first_place}
use Rattle.arrow_spec.specs.Kinds.{Fields}
use Rattle.arrow_spec.specs.WrittenSchemas.{CustomMayBeWritten}
use Rattle.arrow_spec.specs.Messages.{BatchHeader}
use Rattle.arrow_spec.specs.Sent.{batch_message, columns_written, may_be_sent, written_as_asked}
use Rattle.arrow_spec.specs.Files.{Asked, FileBlock, batch_of, batch_of_tables, if_sent, record_batch_of, to_read, to_send}
use Rattle.ipc_write_laws.specs.Streams.{WrittenBatch, table_batch, written_batch, written_of}
use Rattle.ipc_write_laws.specs.Messages.{BatchMayBeWritten, Known}
use Rattle.ipc_write_laws.proofs.SentBatches.{batch_same}
use Rattle.laws_transcode.specs.Sending.{AllAreKnown}
use Rattle.laws_transcode.specs.Files.{HeaderFits, IsReadBatch, asked_fields, stream_fields}
use Rattle.laws_transcode.specs.Laws.{BatchIsSendable}
use Rattle.laws_transcode.proofs.Numbers.{WrittenFits, batch_fits}
pub use Rattle.laws_transcode.proofs.ReadTables.{tables_refused, tables_sent}

-- what is framed of the columns asked for is the message of which the size is asked
pub batch_sent : (m : RecordBatch) (asked : Option (List ℕ)) (fs : Fields) (x : WrittenBatch) → written_as_asked asked (columns_written m asked fs 0 first_place x.rows) ≡ written_of x.columns → batch_message m asked fs x.rows x.custom ≡ written_batch x
unfolding batch_message
batch_sent m asked fs x h = rw h (batch_same x)

-- it may be written where its message may be sent
pub read_may_be_written : (a : Asked) (c : Known) (v : MetadataVersion) (tables : BatchHeader) (body : List ℕ) (left : Option ℕ) (x : WrittenBatch) → HeaderFits tables → CustomMayBeWritten x.custom → IsReadBatch a (record_batch_of a.order v tables body) x
    → AllAreKnown a.dictionaries (asked_fields a) 0 c → batch_of_tables to_read a v x.custom tables body left ≡ Ok (table_batch x) → may_be_sent (written_batch x) ≡ true → BatchMayBeWritten (stream_fields a) c x
read_may_be_written a c v tables body left x fit custom is known h small =
    let numbers = batch_fits a v x.custom tables body left (table_batch x) fit h in
    let fits : WrittenFits (written_of x.columns) = subst WrittenFits is.written numbers.1 in
    record { kinds = is.kinds; good = λ e held. is.good c e known held; few = numbers.0; nodes = fits.nodes_fit; views = fits.views_fit; custom = custom; size = small }

-- and there it is sent
pub read_sent : (a : Asked) (v : MetadataVersion) (tables : BatchHeader) (body : List ℕ) (left : Option ℕ) (x : WrittenBatch) → IsReadBatch a (record_batch_of a.order v tables body) x → batch_of_tables to_read a v x.custom tables body left ≡ Ok (table_batch x)
    → batch_of_tables to_send a v x.custom tables body left ≡ (if_sent to_send (may_be_sent (written_batch x)) >>= λ size. Ok (table_batch x))
read_sent a v tables body left x is h =
    tables_sent a v x.custom tables body left (table_batch x) h ∙ ap (λ s. if_sent to_send (may_be_sent s) >>= λ size. Ok (table_batch x)) (batch_sent (record_batch_of a.order v tables body) a.columns a.fields x is.written)

-- both
pub batch_sendable : BatchIsSendable
batch_sendable a c v tables body left x fit custom is known h = (read_may_be_written a c v tables body left x fit custom is known h, read_sent a v tables body left x is h)
