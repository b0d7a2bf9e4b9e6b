-- A batch of columns that were read by their kinds is one that was read to be sent.
use Rattle.std.proofs.Common.{◌≡◌, ℕ, suc, List, [], ◌∷◌, Bool, true, Option, None, Some, Ok, map, refl, sym, ap, arith, subst, ◌∙◌}
use Rattle.std.specs.Prelude.{slice_get}
use Rattle.std.proofs.lemmas.Bool.{and_parts}
use Rattle.arrow_spec.specs.declared.message.MetadataVersion.{MetadataVersion}
use Rattle.arrow_spec.specs.Readings.{Reading, ◌>>=◌}
use Rattle.arrow_spec.specs.Kinds.{Kind, Fields, Metadata, none, field}
use Rattle.arrow_spec.specs.Cells.{Cell}
use Rattle.arrow_spec.specs.Counts.{RecordBatch, Place, Written, after, first_place}
use Rattle.arrow_spec.specs.Arrays.{Dictionaries}
use Rattle.arrow_spec.specs.Faults.{column_faults}
use Rattle.arrow_spec.specs.Columns.{columns_at, is_chosen, stands_in}
use Rattle.arrow_spec.specs.Messages.{BatchHeader}
use Rattle.arrow_spec.specs.Files.{Asked, TableBatch, batch_of_tables, fields_as_asked, fields_asked, if_sent, record_batch_of, share, to_read, to_send}
use Rattle.arrow_spec.specs.Sent.{all_written, also_written, batch_node, body_of, columns_written, may_be_sent, message, top_written, written_as_asked, written_at}
use Rattle.arrow_spec.proofs.Fewer.{none_second}
use Rattle.arrow_spec.proofs.Projection.{place-ok}
use Rattle.arrow_spec.proofs.ReadPairs.{through}
use Rattle.ipc_write.specs.Below.{is_carried, are_carried, Parts, cells_in, Batch, columns_read, Held, HoldsCells, HoldsFields, parts_read}
use Rattle.laws_transcode.specs.Below.{WrittenColumn, WrittenBatch, table_batch, written_batch, written_of}
use Rattle.laws_transcode.proofs.Below.{batch_same, written_of_cons}
use Rattle.laws_transcode.specs.Files.{ArePicked, AreAsked, IsReadBatch, asked_fields, stream_fields}
use Rattle.laws_transcode.proofs.Batches.{batch_sendable, batch_sent}
use Rattle.laws_transcode.proofs.ChosenColumns.{there, not_there, column_at, made_of, stands_first, stands_later}
use Rattle.laws_transcode.proofs.ReadTables.{tables_read, tables_sent}
use Rattle.ipc_write.specs.Batches.{top_column, written_batch_of}
use Rattle.ipc_write.specs.Encoding.{columns_under}
use Rattle.ipc_write.proofs.Meanings.{columns_mean, columns_under_are_of}
use Rattle.laws_columns.specs.Laws.{ReadBatchIsSendable, ReadBatchIsSent, batch_under}
use Rattle.laws_columns.proofs.ReadColumns.{AreReadOf, IsReadOf, alike_under, cells_under, column_sent, columns_made, held_at, values_under, written_under}

-- ── column by column ──

-- columns of some fields that were read, and are written so
abbrev AreSentAs : Dictionaries → Fields → Written → List Parts → Type 0
AreSentAs d fs w ps = AreReadOf d fs ps × (w ≡ written_of (map top_column ps))

one_before : (d : Dictionaries) (name : List ℕ) (nullable : Bool) (metadata : Metadata) (k : Kind) (fs : Fields) (v w : Written) (q : Parts) (ps : List Parts) → IsReadOf d k q × (v ≡ written_of (top_column q ∷ [])) → AreSentAs d fs w ps → AreSentAs d (field name nullable metadata k fs) (also_written v w) (q ∷ ps)
one_before d name nullable metadata k fs v w q ps one rest = ((one.0, rest.0), rw (one.1, rest.1) (sym (written_of_cons (top_column q) (map top_column ps))))

module _ (m : RecordBatch) (d : Dictionaries) (held : Held) (holds : HoldsCells d held) where
  -- all columns
  all_sent : (fs : Fields) (c : ℕ) (p : Place) (rows few : ℕ) (cells : List (List Cell)) → columns_at m d None fs c p rows few ≡ Ok cells → HoldsFields held fs → are_carried fs ≡ true → AreSentAs d fs (all_written (columns_written m None fs c p few)) (columns_read m held fs p few)
  unfolding columns_at column_faults
  all_sent none c p rows few cells h kinds carried = (tt, refl)
  all_sent (field name nullable metadata k others) c p rows few cells h kinds carried =
      let each = and_parts (is_carried k) (are_carried others) carried in
      through _ _ cells h λ u fits h1. through _ _ cells h1 λ rest rest_are h2.
      one_before d name nullable metadata k others _ _ _ _ (column_sent m d held k p few holds kinds.0 each.0 (none_second _ _ (place-ok _ fits))) (all_sent others (suc c) (after m k p) rows few rest rest_are kinds.1 each.1)

  -- the columns at some numbers
  picked_sent : (asked : Option (List ℕ)) (fs : Fields) (p : Place) (rows few : ℕ) (cells : List (List Cell)) (cs : List ℕ) (ps : List Parts) → columns_at m d asked fs 0 p rows few ≡ Ok cells → ((c : ℕ) → stands_in cs c ≡ true → is_chosen asked c ≡ true)
      → HoldsFields held fs → are_carried (fields_asked fs cs) ≡ true → ArePicked (columns_read m held fs p few) cs ps → AreSentAs d (fields_asked fs cs) (all_written (map (λ c. written_at (columns_written m asked fs 0 p few) c) cs)) ps
  picked_sent asked fs p rows few cells [] [] h chosen kinds carried are = (tt, refl)
  picked_sent asked fs p rows few cells [] (q ∷ ps) h chosen kinds carried are = absurd are
  picked_sent asked fs p rows few cells (c ∷ cs) [] h chosen kinds carried are = absurd are
  picked_sent asked fs p rows few cells (c ∷ cs) (q ∷ ps) h chosen kinds carried are =
      let make : Kind → Place → Parts = λ k at. parts_read m held k at few in
      let found : slice_get (made_of make m fs p) c ≡ Some q = ap (λ (qs : List Parts). slice_get qs c) (columns_made m held fs p few) ∙ are.0 in
      elim (column_at m d make asked fs 0 p rows few cells c c h (omega arith) (chosen c (stands_first c cs))) [
        | there name nullable metadata k at same read w fine ↦
            let others = fields_asked fs cs in
            let with_it = same others in
            let both : Some (parts_read m held k at few) ≡ Some q = sym read ∙ found in
            let it_is : parts_read m held k at few ≡ q = cc in
            let each = and_parts (is_carried k) (are_carried others) (ap are_carried (sym with_it) ∙ carried) in
            let values = held_at held fs c name nullable metadata k kinds (same none) in
            let one = subst (λ x. IsReadOf d k x × (top_written m k at few ≡ written_of (top_column x ∷ []))) it_is (column_sent m d held k at few holds values each.0 fine) in
            let rest = picked_sent asked fs p rows few cells cs ps h (λ x is. chosen x (stands_later c x cs is)) kinds each.1 are.1 in
            rw (with_it, w) (one_before d name nullable metadata k others _ _ q ps one rest)
        | not_there read w ↦ let both : None ≡ Some q = sym read ∙ found in cc
      ]

  asked_sent : (asked : Option (List ℕ)) (fs : Fields) (p : Place) (rows few : ℕ) (cells : List (List Cell)) (ps : List Parts) → columns_at m d asked fs 0 p rows few ≡ Ok cells → HoldsFields held fs → are_carried (fields_as_asked asked fs) ≡ true → AreAsked (columns_read m held fs p few) asked ps
      → AreSentAs d (fields_as_asked asked fs) (written_as_asked asked (columns_written m asked fs 0 p few)) ps
  asked_sent None fs p rows few cells ps h kinds carried are = rw are (all_sent fs 0 p rows few cells h kinds carried)
  asked_sent (Some cs) fs p rows few cells ps h kinds carried are = picked_sent (Some cs) fs p rows few cells cs ps h (λ c is. is) kinds carried are

-- ── a batch ──

-- what is to be written of a batch's columns is what they are written with
columns_sent : (a : Asked) (v : MetadataVersion) (tables : BatchHeader) (body : List ℕ) (left : Option ℕ) (held : Held) (b : Batch) → HoldsCells a.dictionaries held → HoldsFields held a.fields → are_carried (asked_fields a) ≡ true
    → batch_of_tables to_read a v b.custom tables body left ≡ Ok (record { rows = b.height; columns = map cells_in b.arrays; custom = b.custom })
    → AreAsked (columns_read (record_batch_of a.order v tables body) held a.fields first_place b.height) a.columns b.arrays
    → AreSentAs a.dictionaries (asked_fields a) (written_as_asked a.columns (columns_written (record_batch_of a.order v tables body) a.columns a.fields 0 first_place b.height)) b.arrays
columns_sent a v tables body left held b holds kinds carried h arrays =
    let m : RecordBatch = record_batch_of a.order v tables body in
    let t = tables_read a v b.custom tables body left _ h in
    let few : share left t.rows ≡ b.height = ap (λ (y : TableBatch). y.rows) t.is in
    let are : columns_at m a.dictionaries a.columns a.fields 0 first_place t.rows b.height ≡ Ok t.cells = ap (columns_at m a.dictionaries a.columns a.fields 0 first_place t.rows) (sym few) ∙ t.columns in
    asked_sent m a.dictionaries held holds a.columns a.fields first_place t.rows b.height t.cells b.arrays are kinds carried arrays

pub read_batch_sent : ReadBatchIsSent
read_batch_sent a v tables body left held b holds kinds carried right h arrays =
    let t : TableBatch = record { rows = b.height; columns = map cells_in b.arrays; custom = b.custom } in
    tables_sent a v b.custom tables body left t h
    ∙ ap (λ s. if_sent to_send (may_be_sent s) >>= λ size. Ok t) (batch_sent (record_batch_of a.order v tables body) a.columns a.fields (written_batch_of b) (columns_sent a v tables body left held b holds kinds carried h arrays).1)

-- columns that are written with the same make the same message
same_message : (rows : ℕ) (custom : Metadata) (cs es : List WrittenColumn) → written_of cs ≡ written_of es → written_batch (record { rows = rows; columns = cs; custom = custom }) ≡ written_batch (record { rows = rows; columns = es; custom = custom })
same_message rows custom cs es same =
    let x : WrittenBatch = record { rows = rows; columns = cs; custom = custom } in
    let y : WrittenBatch = record { rows = rows; columns = es; custom = custom } in
    sym (batch_same x) ∙ ap (λ (w : Written). message 3 (batch_node rows w) (body_of 0 w.lengths) custom) same ∙ batch_same y

pub read_batch_sendable : ReadBatchIsSendable
read_batch_sendable a c v tables body left held b fit holds kinds carried right known h arrays good custom =
    let d = a.dictionaries in
    let fs = asked_fields a in
    let gs = stream_fields a in
    let x : WrittenBatch = batch_under gs b in
    let sent = columns_sent a v tables body left held b holds kinds carried h arrays in
    let alike = alike_under d fs 0 b.arrays sent.0 in
    let same = written_under gs b.arrays in
    let is : IsReadBatch a (record_batch_of a.order v tables body) x = record {
      kinds = columns_under_are_of gs b.arrays alike;
      good = λ k e are told. columns_mean e b.height gs b.arrays good alike (values_under d fs 0 b.arrays k e sent.0 are told);
      written = sent.1 ∙ sym same;
    } in
    let whole : List (List Cell) → Reading TableBatch = λ cs. Ok (record { rows = b.height; columns = cs; custom = b.custom }) in
    let read : batch_of_tables to_read a v b.custom tables body left ≡ Ok (table_batch x) = h ∙ ap whole (sym (cells_under gs b.height b.arrays good)) in
    let message_same : written_batch x ≡ written_batch (written_batch_of b) = same_message b.height b.custom (columns_under gs b.arrays) (map top_column b.arrays) same in
    let both = batch_sendable a c v tables body left x fit custom is known read in
    (is, read, message_same, λ small. both.0 (ap may_be_sent message_same ∙ small), both.1 ∙ ap (λ s. if_sent to_send (may_be_sent s) >>= λ size. Ok (table_batch x)) message_same)
