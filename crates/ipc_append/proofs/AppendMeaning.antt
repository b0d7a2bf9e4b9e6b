-- A file that a stream was appended to means its table with the stream's batches behind its own.
use Rattle.std.proofs.Common.{◌≡◌, ◌∙◌, ℕ, ℤ, List, [], ◌∷◌, ◌++◌, map, true, Option, None, Some, IfSome, refl, sym, ap, subst, append_assoc}
use Rattle.std.specs.List.{AllByRecursion, flat_map}
use Rattle.std.specs.Option.{option_map}
use Rattle.std.specs.Rc.{rc_value}
use Rattle.std.proofs.lemmas.Bool.{and_parts}
use Rattle.arrow_spec.specs.Arrays.{found}
use Rattle.arrow_spec.specs.Files.{ArrowTable, TableBatch, «all»}
use Rattle.arrow_spec.specs.Kinds.{Fields, have_same_kinds}
use Rattle.arrow_spec.specs.Meaning.{file_table}
use Rattle.arrow_spec.proofs.ReadPairs.{same_read}
use Rattle.arrow_types.specs.Schemas.{fields_in}
use Rattle.arrow_arrays.specs.Batches.{Batch}
use Rattle.arrow_arrays.specs.Heads.{joined}
use Rattle.arrow_arrays.specs.Parts.{Forest, cells_each, forest}
use Rattle.ipc_append.specs.Appends.{HoldsFile, MeansBefore}
use Rattle.ipc_file_writer.specs.Below.{SchemaIsSaid, columns_of, held_by, DictionaryTracker, cells_held}
use Rattle.ipc_disk.specs.Tails.{cut_and_padded}
use Rattle.ipc_fields.specs.IpcFields.{metadata_of}
use Rattle.ipc_file_writer.specs.Calls.{Stays}
use Rattle.ipc_file_writer.specs.Written.{cells_by, own_fields, table_by}
use Rattle.ipc_file_writer.specs.declared.file.FileCore.{FileCore}
use Rattle.ipc_streams.specs.Below.{FileMetadata, table_of, WriteOptions}
use Rattle.laws_files.specs.Files.{followed_by}
use Rattle.ipc_append.specs.Appended.{IsPrepared, IsWritten}
use Rattle.ipc_append.specs.Columns.{are_of, is_of}
use Rattle.ipc_append.specs.Puts.{chunk_bytes}
use Rattle.ipc_append.specs.Targets.{HoldsDictionaries}
use Rattle.ipc_append.specs.declared.encode.EncodedChunk.{EncodedChunk}
use Rattle.ipc_append.specs.declared.stream.WholeStream.{WholeStream}
use Rattle.ipc_append.proofs.BatchMeaning.{IsOfFile, MeansSoFar, all_mean}
use Rattle.ipc_append.proofs.PutSteps.{stays_behind}
use Rattle.same_fields.proofs.OneKind.{kinds_through}

-- ── what is held at the start ──

cells_same : (o : Option Forest) → cells_held o ≡ option_map (λ parts. joined (cells_each parts)) o
cells_same None = refl
cells_same (Some parts) = refl

-- two that hold what a file's blocks say hold the same cells
same_cells : (b : List ℕ) (m : FileMetadata) (asked : WriteOptions) (t : DictionaryTracker) (c : FileCore) → HoldsDictionaries (Some b) asked m t → HoldsFile (Some b) m c → (q : ℤ) → cells_by c q ≡ cells_held (held_by t q)
same_cells b m asked t c h k q =
    let same : k.0 ≡ h.values.0 = same_read k.0 h.values.0 (sym k.1 ∙ h.values.1) in
    cells_same (held_by c.tracker q) ∙ sym (k.2 q) ∙ ap (λ d. found d q) same ∙ h.values.2 q ∙ sym (cells_same (held_by t q))

-- ── the columns ──

all_of_file : (fs gs : Fields) (c : FileCore) (bs : List Batch) → fs ≡ fields_in (rc_value c.schema) → have_same_kinds fs gs ≡ true → are_of gs bs ≡ true → AllByRecursion (IsOfFile c) bs
all_of_file fs gs c [] is same h = tt
all_of_file fs gs c (b ∷ bs) is same h =
    let both = and_parts (is_of gs b) (are_of gs bs) h in
    (subst (λ xs. have_same_kinds xs (columns_of (forest b.arrays)) ≡ true) is (kinds_through fs gs (columns_of (forest b.arrays)) same both.0), all_of_file fs gs c bs is same both.1)

-- ── the table ──

-- what is not changed by batches is the same
pub same_table : (c d : FileCore) (t : ArrowTable) (bs : List TableBatch) → Stays c d → table_by c t.batches ≡ t → table_by d (t.batches ++ bs) ≡ followed_by t bs
same_table c d t bs stays is = rw (stays.schema, stays.ipc_schema, stays.pairs) (ap (λ (x : ArrowTable). followed_by x bs) is)

pub still_said : (c d : FileCore) → Stays c d → SchemaIsSaid (own_fields c) (metadata_of c.pairs.schema) → SchemaIsSaid (own_fields d) (metadata_of d.pairs.schema)
still_said c d stays h = rw (stays.schema, stays.ipc_schema, stays.pairs) h

module _ (old new : Option (List ℕ)) (asked : WriteOptions) (s : WholeStream) (m : FileMetadata) (chunks : List EncodedChunk) (p : IsPrepared old asked s m chunks) (w : IsWritten old new asked m chunks) where
  means_at : (b : List ℕ) (t : ArrowTable) → old ≡ Some b → MeansBefore b m w.place t → file_table (cut_and_padded w.place b ++ (flat_map chunk_bytes chunks ++ w.ending)) «all» ≡ Some (followed_by t (map table_of s.batches.items))
  means_at b t is before =
      let go = w.goes_on b t is before in
      let c = w.core in
      let x = cut_and_padded w.place b in
      let stays = stays_behind c w.last chunks w.given in
      let held = subst (λ o. HoldsDictionaries o asked m p.held) is p.holds in
      let file = subst (λ o. HoldsFile o m c) is w.continued.held in
      let begun : MeansSoFar p.held c x t.batches = record { known = cells_by c; held = same_cells b m asked p.held c held file; file = go.file } in
      let columns = all_of_file (fields_in (rc_value m.schema)) (fields_in (rc_value s.metadata.schema)) c s.batches.items (ap (λ z. fields_in (rc_value z)) (sym w.continued.continues.schema)) p.takes.kinds s.kinds in
      let meant = all_mean asked _ p.held p.behind s.batches.items chunks c w.last x t.batches w.given p.encoded (sym w.continued.continues.ids) held.fixed columns begun in
      ap (λ y. file_table y «all») (sym (append_assoc x (flat_map chunk_bytes chunks) w.ending))
      ∙ w.means.said (still_said c w.last stays go.said) meant.known (x ++ flat_map chunk_bytes chunks) (t.batches ++ map table_of s.batches.items) meant.file
      ∙ ap (λ y. Some y) (same_table c w.last t (map table_of s.batches.items) stays go.table)

  pub appended_means : (b : List ℕ) (t : ArrowTable) → old ≡ Some b → MeansBefore b m w.place t → IfSome new (λ y. file_table y «all» ≡ Some (followed_by t (map table_of s.batches.items)))
  appended_means b t is before =
      let content = subst (λ o. IfSome o (λ z. new ≡ Some (cut_and_padded w.place z ++ (flat_map chunk_bytes chunks ++ w.ending)))) is w.content in
      subst (λ o. IfSome o (λ y. file_table y «all» ≡ Some (followed_by t (map table_of s.batches.items)))) (sym content) (means_at b t is before)
