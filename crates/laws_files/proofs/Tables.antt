-- A file means the table of the batches that its front means, and of those behind it.
use Rattle.std.proofs.Common.{◌≡◌, ℕ, ◌^◌, ◌<◌, List, [], ◌∷◌, ◌++◌, length, None, Some, Ok, Bool, refl, sym, ap, subst, ◌∙◌, true, append_assoc, append-nil, ℤ}
use Rattle.std.specs.List.{flat_map}
use Rattle.arrow_spec.specs.Readings.{bind, ◌>>=◌, Reading, meaning}
use Rattle.arrow_spec.specs.Held.{Stands}
use Rattle.arrow_spec.specs.Kinds.{Fields, Metadata}
use Rattle.arrow_spec.specs.Arrays.{Dictionaries, found}
use Rattle.arrow_spec.specs.Layout as layout
use Rattle.arrow_spec.specs.Layout.{Node}
use Rattle.arrow_spec.specs.Messages.{footer_pairs}
use Rattle.arrow_spec.specs.Files.{ArrowTable, FileBlock, TableBatch, «all», batches_of, custom_of, dictionaries_of, dictionaries_read, file_reading, meta_in, meta_of, to_read}
use Rattle.arrow_spec.specs.Meaning.{file_table}
use Rattle.arrow_spec.proofs.NextMessages.{length-layout}
use Rattle.arrow_spec.proofs.Projection.{ok-place, on}
use Rattle.arrow_spec.proofs.ReadPairs.{same_read}
use Rattle.laws_files.specs.FileLaws.{FooterReadsBack}
use Rattle.ipc_write_laws.specs.Messages.{IsKnown, Known, WrittenMessage, batch_in, bytes_of, with_messages}
use Rattle.laws_files.specs.Files.{AllBatchesMayBeWritten, AllValuesMayBeWritten, Begun, FrontMeans, GoesOn, MayBeEnded, all_of, batch_blocks, ended, file_end, footer_of, read_meta, table_of, values_blocks, with_more}
use Rattle.laws_files.specs.WrittenLaws.{EndedFrontMeansItsTable, FrontGoesOn, MoreOfAFileMeansItsTable, OnlyBegunMeansNothing}
use Rattle.laws_files.proofs.Ends.{blocks_fit, footer_back}
use Rattle.laws_files.proofs.Lists.{ValuesRead, all_batches_read, all_go_on, all_values_read, batches_behind, dictionaries_behind, goes_on_then, known_goes_on}
use Rattle.laws_files.proofs.MoreBatches.{batches_may-more}

-- ── a whole file ──

-- its dictionaries as they are read, and its batches under them
record PartsRead (fs : Fields) (pairs : Metadata) (b : List ℕ) (x : Begun) (batches : List TableBatch) : Type 0 where
  held : Dictionaries
  dictionaries : dictionaries_of b (read_meta fs pairs x.records x.dictionaries) [] x.dictionaries ≡ Ok held
  records : batches_of to_read b (all_of fs held (length b)) true x.records None ≡ Ok batches

abbrev table_read : Fields → Metadata → Metadata → List TableBatch → Reading ArrowTable
table_read fs pairs custom batches = Ok (table_of fs pairs custom batches)

-- where there is no batch no dictionary is read
parts_then : (fs : Fields) (pairs custom : Metadata) (b : List ℕ) (ds rs all_rs : List FileBlock) (held : Dictionaries) (batches : List TableBatch) → dictionaries_of b (read_meta fs pairs all_rs ds) [] ds ≡ Ok held → batches_of to_read b (all_of fs held (length b)) true rs None ≡ Ok batches
    → (dictionaries_of b (read_meta fs pairs all_rs ds) [] (dictionaries_read rs ds) >>= λ d. batches_of to_read b (all_of fs d (length b)) true rs None >>= λ bs. table_read fs pairs custom bs) ≡ table_read fs pairs custom batches
unfolding dictionaries_of batches_of bind
parts_then fs pairs custom b ds [] all_rs held batches d r = ap (λ bs. table_read fs pairs custom bs) (same_read [] batches r)
parts_then fs pairs custom b ds (x ∷ rs) all_rs held batches d r = on _ _ held d ∙ on _ _ batches r

module _ (law : FooterReadsBack) (fs : Fields) (pairs custom : Metadata) (x : Begun) (w : MayBeEnded fs pairs custom x) where
  abbrev b : List ℕ
  b = ended fs pairs custom x

  abbrev footer : List ℕ
  footer = layout.layout (footer_of fs pairs custom x)

  found_footer : Rattle.arrow_spec.specs.Files.footer_of b ≡ Ok footer
  found_footer = footer_back x.bytes footer (subst (λ n. n < 2 ^ 31) (sym (length-layout (footer_of fs pairs custom x))) w.size)

  said : (meta_in footer ≡ Ok (read_meta fs pairs x.records x.dictionaries)) × (footer_pairs footer ≡ Ok custom)
  said =
      let fit = blocks_fit fs pairs custom x.dictionaries x.records w.size w.dictionaries w.records in
      let back = law fs pairs custom x.dictionaries x.records [] w.schema w.ids w.own fit.0 fit.1 w.size in
      subst (λ f. (meta_in f ≡ Ok (read_meta fs pairs x.records x.dictionaries)) × (footer_pairs f ≡ Ok custom)) (append-nil footer) back

  meta_there : meta_of b ≡ Ok (read_meta fs pairs x.records x.dictionaries)
  unfolding meta_of
  meta_there = on _ _ footer found_footer ∙ said.0

  custom_there : custom_of b ≡ Ok custom
  unfolding custom_of
  custom_there = on _ _ footer found_footer ∙ said.1

  whole_means : (batches : List TableBatch) → PartsRead fs pairs b x batches → file_table b «all» ≡ Some (table_of fs pairs custom batches)
  unfolding file_table file_reading
  whole_means batches p =
      ap meaning (on _ _ _ meta_there ∙ on _ _ custom custom_there ∙ on _ _ tt refl ∙ on _ _ tt (ok-place _ w.readable) ∙ on _ _ tt refl ∙ parts_then fs pairs custom b x.dictionaries x.records x.records p.held batches p.dictionaries p.records)

-- ── a front, and messages behind it ──

module _ (fs : Fields) (x : Begun) (c : Known) (batches : List TableBatch) (ms : List WrittenMessage) (f : FrontMeans fs x c batches) (w : AllValuesMayBeWritten fs c ms) (rest : List ℕ) where
  abbrev bytes : List ℕ
  bytes = flat_map bytes_of ms

  abbrev more : List ℕ
  more = (x.bytes ++ bytes) ++ rest

  same : more ≡ x.bytes ++ (bytes ++ rest)
  same = append_assoc x.bytes bytes rest

  there : Stands more (length x.bytes) bytes
  there = record { front = x.bytes; back = rest; whole = same; place = refl }

  values : ValuesRead more (length x.bytes) fs c (f.held (bytes ++ rest)) ms
  values = all_values_read ms more (length x.bytes) fs c (f.held (bytes ++ rest)) there (f.known (bytes ++ rest)) w

  dictionaries_more : (pairs : Metadata) (records dictionaries : List FileBlock) → dictionaries_of more (read_meta fs pairs records dictionaries) [] (x.dictionaries ++ values_blocks (length x.bytes) ms) ≡ Ok values.held
  dictionaries_more pairs records dictionaries =
      let old : dictionaries_of more (read_meta fs pairs records dictionaries) [] x.dictionaries ≡ Ok (f.held (bytes ++ rest)) = subst (λ t. dictionaries_of t (read_meta fs pairs records dictionaries) [] x.dictionaries ≡ Ok (f.held (bytes ++ rest))) (sym same) (f.dictionaries_read (bytes ++ rest) pairs records dictionaries) in
      dictionaries_behind x.dictionaries (values_blocks (length x.bytes) ms) more (read_meta fs pairs records dictionaries) [] (f.held (bytes ++ rest)) old ∙ values.read pairs records dictionaries

  batches_more : (c' : Known) (d : Dictionaries) (is_first : Bool) → IsKnown c' d → GoesOn (with_messages ms c) (λ id. found d id) → AllBatchesMayBeWritten fs c' ms → batches_of to_read more (all_of fs d (length more)) is_first (x.records ++ batch_blocks (length x.bytes) ms) None ≡ Ok (batches ++ flat_map batch_in ms)
  batches_more c' d is_first known goes may =
      let goes_all : GoesOn c (λ id. found d id) = goes_on_then c (with_messages ms c) (λ id. found d id) (all_go_on ms fs c w) goes in
      let old : batches_of to_read more (all_of fs d (length more)) is_first x.records None ≡ Ok batches = subst (λ t. batches_of to_read t (all_of fs d (length t)) is_first x.records None ≡ Ok batches) (sym same) (f.batches_read (bytes ++ rest) d is_first goes_all) in
      batches_behind x.records (batch_blocks (length x.bytes) ms) more (all_of fs d (length more)) is_first batches (flat_map batch_in ms) old (λ g. all_batches_read ms more (length x.bytes) fs c' d g there known may)

-- ── the laws ──

pub more_means : FooterReadsBack → MoreOfAFileMeansItsTable
more_means law fs pairs custom x c batches ms f w e =
    let rest = file_end (layout.layout (footer_of fs pairs custom (with_more x ms))) in
    let v = values fs x c batches ms f w.values rest in
    whole_means law fs pairs custom (with_more x ms) e (batches ++ flat_map batch_in ms) (record {
      held = v.held;
      dictionaries = dictionaries_more fs x c batches ms f w.values rest pairs _ _;
      records = batches_more fs x c batches ms f w.values rest (with_messages ms c) v.held true v.known (known_goes_on (with_messages ms c) v.held v.known) w.batches;
    })

pub ended_means : FooterReadsBack → EndedFrontMeansItsTable
ended_means law fs pairs custom x c batches f e =
    let rest = file_end (layout.layout (footer_of fs pairs custom x)) in
    whole_means law fs pairs custom x e batches (record {
      held = f.held rest;
      dictionaries = f.dictionaries_read rest pairs _ _;
      records = f.batches_read rest (f.held rest) true (known_goes_on c (f.held rest) (f.known rest));
    })

pub front_goes_on : FrontGoesOn
front_goes_on fs x c batches ms f w = record {
  held = λ rest. (values fs x c batches ms f w.values rest).held;
  dictionaries_read = λ rest pairs records dictionaries. dictionaries_more fs x c batches ms f w.values rest pairs records dictionaries;
  known = λ rest. (values fs x c batches ms f w.values rest).known;
  batches_read = λ rest d is_first goes. batches_more fs x c batches ms f w.values rest (λ id. found d id) d is_first (λ id. refl) goes (batches_may-more ms fs (with_messages ms c) (λ id. found d id) goes w.batches);
}

pub only_begun_means : OnlyBegunMeansNothing
unfolding dictionaries_of batches_of
only_begun_means fs = record {
  held = λ rest. [];
  dictionaries_read = λ rest pairs records dictionaries. refl;
  known = λ rest id. refl;
  batches_read = λ rest d is_first goes. refl;
}

-- what is known may be said otherwise
pub front_same : (fs : Fields) (x : Begun) (c c' : Known) (batches : List TableBatch) → ((id : ℤ) → c id ≡ c' id) → FrontMeans fs x c batches → FrontMeans fs x c' batches
front_same fs x c c' batches same f = record {
  held = f.held;
  dictionaries_read = f.dictionaries_read;
  known = λ rest id. f.known rest id ∙ same id;
  batches_read = λ rest d is_first goes. f.batches_read rest d is_first (λ id cells e. goes id cells (sym (same id) ∙ e));
}
