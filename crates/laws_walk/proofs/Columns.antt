-- A batch that a block gives, before it is written.
use Rattle.std.proofs.Common.{◌≡◌, ◌∙◌, sym, ap, ℕ, ◌^◌, ◌<◌, List, Option, Some, None, Ok, ℤ, true}
use Rattle.arrow_spec.specs.Arrays.{Dictionaries}
use Rattle.arrow_spec.specs.Files.{FileBlock, if_sent, to_read, to_send}
use Rattle.arrow_spec.specs.Kinds as kind
use Rattle.arrow_spec.specs.Kinds.{Kind, Fields, have_same_kinds}
use Rattle.arrow_spec.specs.Readings.{◌>>=◌, bind}
use Rattle.arrow_spec.specs.Sent.{may_be_sent}
use Rattle.arrow_spec.proofs.Projection.{on}
use Rattle.arrow_types.specs.Schemas.{Keyed, fields_in}
use Rattle.arrow_arrays.specs.Batches.{Batch}
use Rattle.arrow_arrays.specs.Parts as parts
use Rattle.arrow_arrays.specs.Heads.{values_kind}
use Rattle.arrow_arrays.specs.Parts.{Parts, Forest, also, fault_each, forest, kind_in}
use Rattle.ipc_fields.specs.IpcFields.{Ids}
use Rattle.ipc_reader.specs.Below.{BlockRead, held_in, table_of, written_batch_of}
use Rattle.ipc_stream_writer.specs.Below.{columns_fault, columns_of, values_in}
use Rattle.ipc_write_laws.specs.Streams.{written_batch}
use Rattle.laws_sent.specs.Below.{Held, parts_or_empty, plain_fields}
use Rattle.laws_sent.specs.DictionaryLaws.{AreFileColumns, ColumnsAreRight}
use Rattle.laws_sent.specs.Parts.{PartTree}
use Rattle.laws_sent.specs.ReadUnder.{AreReadUnder, IsReadUnder, held_of}
use Rattle.laws_sent.specs.SentFields.{AreSentFields}
use Rattle.laws_sent.proofs.Below.{each_use, held_fields}
use Rattle.laws_sent.proofs.HeldParts.{fields_sound}
use Rattle.laws_sent.proofs.NextParts.{columns_of_fields, columns_under, order_asked}
use Rattle.laws_sent.proofs.ReadParts.{parts_asked}
use Rattle.laws_sent.proofs.SentFields.{fields_read}
use Rattle.laws_walk.specs.Places.{DictionariesRead, IsReadBy, Place, Sending, Walking, asked_in, asked_walked, fields_in_request, fields_walked, meta_in, walking}
use Rattle.laws_walk.proofs.SentBlocks.{AreSent, block_means, block_sent}
use Rattle.laws_walk.proofs.Sizes.{few_rows}
use Rattle.ipc_reader.specs.declared.cursor.FileCursor.{FileCursor}
use Rattle.laws_walk.proofs.Walks.{bind_twice}

-- what holds of a batch that a block gives, under the parts of dictionaries
pub record IsBatch (x : Walking) (d : Dictionaries) (ps : List PartTree) (own : Ids) (block : FileBlock) (left : Option ℕ) (y : Batch) : Type 0 where
  pub columns : AreFileColumns (fields_walked x) d ps own (forest y.arrays)
  pub read : x.walk.batch to_read x.bytes (asked_walked x d) block left ≡ Ok (Some (table_of y))
  pub sent : x.walk.batch to_send x.bytes (asked_walked x d) block left ≡ (if_sent to_send (may_be_sent (written_batch (written_batch_of y))) >>= λ size. Ok (Some (table_of y)))
  pub few : y.height < 2 ^ 63

-- ── its columns ──

-- what is held may be seen otherwise
mutual
  array_as : (h g : Held) (k : Kind) (p : Parts) → ((id : ℤ) → h id ≡ g id) → IsReadUnder h k p → IsReadUnder g k p
  array_as h g (kind.«list» o fs) p same r = (r.0, arrays_as h g fs (values_in p) same r.1)
  array_as h g (kind.fixed_size_list n fs) p same r = (r.0, arrays_as h g fs (values_in p) same r.1)
  array_as h g (kind.struct fs) p same r = (r.0, arrays_as h g fs (values_in p) same r.1)
  array_as h g (kind.map sorted fs) p same r = (r.0, arrays_as h g fs (values_in p) same r.1)
  array_as h g (kind.union mode stated ids fs) p same r = (r.0, arrays_as h g fs (values_in p) same r.1)
  array_as h g (kind.dictionary t ordered id k) p same r = (r.0, r.1, r.2 ∙ ap (λ o. parts_or_empty o (values_kind (kind_in p))) (same id))
  array_as h g (kind.extension name metadata k) p same r = array_as h g k p same r
  array_as h g k p same r = r

  arrays_as : (h g : Held) (fs : Fields) (ps : Forest) → ((id : ℤ) → h id ≡ g id) → AreReadUnder h fs ps → AreReadUnder g fs ps
  arrays_as h g kind.none ps same r = r
  arrays_as h g (kind.field name nullable metadata k others) parts.none same r = absurd r
  arrays_as h g (kind.field name nullable metadata k others) (also p ps) same r = (array_as h g k p same r.0, arrays_as h g others ps same r.1)

-- ── within a request ──

module _ (x : Sending) (c : FileCursor) (is : IsReadBy c x) (p : Place) (r : DictionariesRead (walking x) p) (block : FileBlock) (left : Option ℕ) (y : Batch) (b : BlockRead x.bytes (held_in r.held) (asked_in x r.dictionaries) block left y) where
  -- arrays are read of its fields
  are_sent : AreSent (asked_in x r.dictionaries) (held_in r.held)
  are_sent =
      let fs = (meta_in x).schema.fields in
      record {
        carried = fields_read x.file x.request.columns is.file.columns is.file.readable is.read;
        right = is.file.columns;
        holds = r.read.read.cells;
        kinds = fields_sound (held_in r.held) r.read.read.sound fs (held_fields (held_in r.held) fs (each_use (held_in r.held) fs is.read.readable.agree r.uses));
      }

  -- what was read are columns of the file's dictionaries
  of_file : (s : List Keyed) (own : Ids) → AreSentFields x.file x.request.columns s own → fault_each (forest y.arrays) ≡ None → AreFileColumns (fields_in_request x) r.dictionaries r.parts own (forest y.arrays)
  of_file s own f sound =
      let fs = (meta_in x).schema.fields in
      let carried = fields_read x.file x.request.columns is.file.columns is.file.readable is.read in
      record {
        parts = parts_asked fs x.request.columns r.dictionaries r.parts r.read.read.parts;
        order = order_asked fs x.request.columns r.parts r.read.order;
        read = arrays_as (held_in r.held) (held_of r.parts) (fields_in_request x) (forest y.arrays) r.read.held (columns_under _ (held_in r.held) fs x.request.columns y.height y.arrays b.columns);
        kinds = columns_of_fields _ (held_in r.held) fs x.request.columns y.height y.arrays carried b.columns;
        carried = carried;
        sound = sound;
        ids = f.again;
      }

  pub batch_given : (s : List Keyed) (own : Ids) → AreSentFields x.file x.request.columns s own → fault_each (forest y.arrays) ≡ None → IsBatch (walking x) r.dictionaries r.parts own block left y
  unfolding are_sent of_file bind
  batch_given s own f sound = record {
    columns = of_file s own f sound;
    read = on _ _ (table_of y) (block_means x.bytes (asked_in x r.dictionaries) (held_in r.held) block left y b);
    sent = ap (λ z. z >>= λ t. Ok (Some t)) (block_sent x.bytes (asked_in x r.dictionaries) (held_in r.held) block left y are_sent b) ∙ bind_twice (if_sent to_send (may_be_sent (written_batch (written_batch_of y)))) (λ size. Ok (table_of y)) (λ t. Ok (Some t));
    few = few_rows _ b.message.version b.message.custom b.message.tables _ left (table_of y) b.fits b.read;
  }

-- ── columns of a stream's fields ──

-- of the kinds of the stream's fields
pub suits : (x : Walking) (d : Dictionaries) (ps : List PartTree) (s : List Keyed) (own : Ids) (y : Batch) → plain_fields (fields_in s) ≡ fields_in s → AreSentFields x.file x.walk.columns s own → AreFileColumns (fields_walked x) d ps own (forest y.arrays)
    → have_same_kinds (fields_in s) (columns_of (forest y.arrays)) ≡ true
suits x d ps s own y plain f is = ap (λ fs. have_same_kinds fs (columns_of (forest y.arrays))) (sym plain ∙ f.plain) ∙ is.kinds

-- so nothing is wrong with them
pub faultless : ColumnsAreRight → (x : Walking) (d : Dictionaries) (ps : List PartTree) (s : List Keyed) (own : Ids) (y : Batch) → plain_fields (fields_in s) ≡ fields_in s → AreSentFields x.file x.walk.columns s own → AreFileColumns (fields_walked x) d ps own (forest y.arrays)
    → columns_fault (columns_of (forest y.arrays)) own ≡ None
faultless law x d ps s own y plain f is = law (fields_in s) own (forest y.arrays) (suits x d ps s own y plain f is) f.shapes f.agree f.representable
