-- The batch that a block gives of the rows that meet a filter, as the walk over the file has it.
use Rattle.std.proofs.Common.{◌≡◌, sym, subst, arith, ◌^◌, ◌<◌, List, None}
use Rattle.arrow_spec.specs.Files.{FileBlock}
use Rattle.arrow_types.specs.Schemas.{Keyed}
use Rattle.arrow_arrays.specs.Batches.{Batch}
use Rattle.arrow_arrays.specs.Parts.{fault_each, forest}
use Rattle.ipc_fields.specs.IpcFields.{Ids}
use Rattle.ipc_files.specs.Below.{held_in, table_of}
use Rattle.laws_walk.specs.Below.{FileCursor, AreSentFields}
use Rattle.laws_scan.specs.Below.{AreFileColumns}
use Rattle.laws_walk.specs.Places.{DictionariesRead, IsReadBy, Place, Sending, asked_in, fields_in_request, walking}
use Rattle.laws_walk.proofs.Columns.{IsBatch, batch_given}
use Rattle.laws_walk.proofs.Sizes.{few_rows}
use Rattle.array_filter.specs.Rows.{marked_from}
use Rattle.filter_types.specs.declared.filter.Filter.{Filter}
use Rattle.laws_scan.specs.Reads.{ReadsRows}
use Rattle.laws_scan.proofs.MarkedBatches.{rows_given, rows_sent}
use Rattle.laws_scan.proofs.TakenColumns.{file_columns_taken}
use Rattle.ipc_scan.specs.Sends.{scanning}
use Rattle.ipc_scan.proofs.Marks.{count_within}

module _ (f : Filter) (x : Sending) (c : FileCursor) (is : IsReadBy c x) (p : Place) (r : DictionariesRead (walking x) p) (block : FileBlock) (y : Batch) (rows : ReadsRows f x.bytes (held_in r.held) (asked_in x r.dictionaries) block y) where
  -- no more than the block has
  few : y.height < 2 ^ 63
  few =
      let whole = few_rows _ rows.read.message.version rows.read.message.custom rows.read.message.tables _ None (table_of rows.whole) rows.read.fits rows.read.read in
      let some = count_within rows.marks in
      omega (arith, whole, some, rows.keeps.rows, rows.keeps.height)

  pub batch_scanned : (s : List Keyed) (own : Ids) → AreSentFields x.file x.request.columns s own → fault_each (forest y.arrays) ≡ None → IsBatch (scanning f x) r.dictionaries r.parts own block None y
  unfolding few
  batch_scanned s own fields sound =
      let ns = marked_from 0 rows.marks in
      let whole = batch_given x c is p r block None rows.whole rows.read s own fields rows.keeps.sound in
      let taken = file_columns_taken (fields_in_request x) r.dictionaries r.parts own ns rows.whole.arrays whole.columns (subst (λ ps. fault_each (forest ps) ≡ None) rows.keeps.arrays sound) in
      record {
        columns = subst (λ ps. AreFileColumns (fields_in_request x) r.dictionaries r.parts own (forest ps)) (sym rows.keeps.arrays) taken;
        read = rows_given f x.bytes (held_in r.held) (asked_in x r.dictionaries) block y rows;
        sent = rows_sent f x.bytes (held_in r.held) (asked_in x r.dictionaries) block y rows;
        few = few;
      }
