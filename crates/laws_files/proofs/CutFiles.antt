-- A file that is cut behind its blocks has them still, and they are read as they were.
use Rattle.std.proofs.Common.{◌≡◌, ℕ, ◌+◌, ◌<◌, ◌≤◌, List, [], ◌∷◌, ◌++◌, length, take, drop, None, Some, Ok, Bool, refl, sym, ap, subst, ◌∙◌, arith, true, false, length-append, append_assoc}
use Rattle.std.specs.Prelude.{nat_eq, nat_le}
use Rattle.std.specs.List.{AllByRecursion, flat_map}
use Rattle.std.proofs.lemmas.Bool.{le-leb, leb-true}
use Rattle.std.proofs.lemmas.List.{drop-append-le, length-drop, length-take, length-take-le, take-append-drop, take-append-le}
use Rattle.arrow_spec.specs.declared.error.OutOfSpecKind.TheVariants.{BlockRange}
use Rattle.arrow_spec.specs.declared.message.MetadataVersion.{MetadataVersion}
use Rattle.arrow_spec.specs.Readings.{only_if}
use Rattle.arrow_spec.specs.Kinds.{Fields, Metadata}
use Rattle.arrow_spec.specs.Arrays.{Dictionaries, HeldDictionary, found}
use Rattle.arrow_spec.specs.Messages.{DictionaryBatch, Message, message_of, prefix_of}
use Rattle.arrow_spec.specs.Files.{ArrowTable, FileBlock, TableBatch, batch_of, batches_of, block_body, block_message, dictionaries_of, dictionaries_read, dictionary_of, file_reading, lengths_sum, to_read}
use Rattle.arrow_spec.specs.Meaning.{file_table}
use Rattle.arrow_spec.proofs.Projection.{no_dictionaries_sent, on, some_meaning}
use Rattle.arrow_spec.proofs.ReadPairs.{is_true, same_read, through}
use Rattle.ipc_write_laws.specs.Messages.{batch_in}
use Rattle.laws_files.specs.Files.{BatchBefore, DictionaryBefore, FrontMeans, GoesOn, all_of, block_end, cut_at, followed_by, read_meta, read_schema, table_of}
use Rattle.laws_files.specs.WrittenLaws.{AppendedFileMeansItsTable, CutFileMeansItsBatches, MoreOfAFileMeansItsTable}
use Rattle.laws_files.proofs.Messages.{with_room}
use Rattle.laws_files.proofs.MoreBatches.{batch_of_tables-more}

-- ── bytes before the cut ──

part_of_both : (front back : List ℕ) (at n : ℕ) → at + n ≤ length front → take n (drop at (front ++ back)) ≡ take n (drop at front)
part_of_both front back at n inside =
    let left : n ≤ length (drop at front) = omega (arith, inside, length-drop at front) in
    ap (λ t. take n t) (drop-append-le at front back (omega (arith, inside))) ∙ take-append-le n (drop at front) back left

-- how far a prefix and its metadata reach
prefix_inside : (b : List ℕ) (p : ℕ × ℕ) → prefix_of b ≡ Ok p → p.0 + p.1 ≤ length b
unfolding prefix_of
prefix_inside b p h =
    through _ _ p h λ first first_is h1. through _ _ p h1 λ n n_is h2. through _ _ p h2 λ l l_is h3. through _ _ p h3 λ inside inside_is h4.
    let e = same_read _ p h4 in
    subst (λ (q : ℕ × ℕ). q.0 + q.1 ≤ length b) e (leb-true _ _ (is_true _ _ inside inside_is))

module _ (b : List ℕ) (place : ℕ) (gap rest : List ℕ) (whole : place ≤ length b) where
  abbrev b' : List ℕ
  b' = (take place b ++ gap) ++ rest

  long : length (take place b) ≡ place
  long = length-take-le place b whole

  longer : place ≤ length b'
  longer = omega (arith, long, length-append (take place b ++ gap) rest, length-append (take place b) gap)

  part_same : (at n : ℕ) → at + n ≤ place → take n (drop at b') ≡ take n (drop at b)
  part_same at n inside =
      let front = take place b in
      let here : at + n ≤ length front = omega (arith, long, inside) in
      let new : take n (drop at b') ≡ take n (drop at front) = ap (λ t. take n (drop at t)) (append_assoc front gap rest) ∙ part_of_both front (gap ++ rest) at n here in
      let old : take n (drop at b) ≡ take n (drop at front) = ap (λ t. take n (drop at t)) (sym (take-append-drop place b)) ∙ part_of_both front (drop place b) at n here in
      new ∙ sym old

  message_same : (k : FileBlock) (tag : ℕ) (m : List ℕ × Message) → block_end k ≤ place → block_message b k tag ≡ Ok m → block_message b' k tag ≡ Ok m
  unfolding block_message
  message_same k tag m inside h =
      through _ _ m h λ range range_is h1. through _ _ m h1 λ p p_is h2. through _ _ m h2 λ found found_is h3.
      let reach : p.0 + p.1 ≤ k.metadata = omega (arith, prefix_inside (take k.metadata (drop k.offset b)) p p_is, length-take k.metadata (drop k.offset b)) in
      let room : only_if (nat_le (k.offset + k.metadata + k.body) (length b')) BlockRange ≡ Ok tt = rw (le-leb (k.offset + k.metadata + k.body) (length b') (omega (arith, inside, longer))) refl in
      let prefix = ap prefix_of (part_same k.offset k.metadata (omega (arith, inside))) ∙ p_is in
      let metadata : take p.1 (drop (k.offset + p.0) b') ≡ take p.1 (drop (k.offset + p.0) b) = part_same (k.offset + p.0) p.1 (omega (arith, inside, reach)) in
      on _ _ tt room ∙ on _ _ p prefix ∙ on _ _ found (ap (λ t. message_of t (λ n. nat_eq n tag)) metadata ∙ found_is) ∙ ap (λ t. Ok (t, found)) metadata ∙ h3

  body_same : (k : FileBlock) → block_end k ≤ place → block_body b' k ≡ block_body b k
  body_same k inside = part_same (k.offset + k.metadata) k.body (omega (arith, inside))

  -- ── blocks ──

  batch_same : (fs : Fields) (d d' : Dictionaries) (k : FileBlock) (x : TableBatch) → GoesOn (λ id. found d id) (λ id. found d' id) → BatchBefore b place k → batch_of to_read b (all_of fs d (length b)) k None ≡ Ok x → batch_of to_read b' (all_of fs d' (length b')) k None ≡ Ok x
  unfolding batch_of
  batch_same fs d d' k x goes w h =
      through _ _ x h λ m m_is h1. through _ _ x h1 λ tables tables_are h2. through _ _ x h2 λ version version_is h3. through _ _ x h3 λ custom custom_is h4.
      let room : lengths_sum tables.buffers ≤ length b' = omega (arith, w.lengths m tables m_is tables_are, longer) in
      let more = batch_of_tables-more d d' goes fs (length b) version custom tables (block_body b k) x h4 in
      let here = with_room (all_of fs d' (length b)) (length b') version custom tables (block_body b k) x room more in
      on _ _ m (message_same k 3 m w.inside m_is) ∙ on _ _ tables tables_are ∙ on _ _ version version_is ∙ on _ _ custom custom_is ∙ rw (body_same k w.inside) here

  batches_same : (ks : List FileBlock) (fs : Fields) (d d' : Dictionaries) (is_first is_first' : Bool) (xs : List TableBatch) → GoesOn (λ id. found d id) (λ id. found d' id) → AllByRecursion (BatchBefore b place) ks → batches_of to_read b (all_of fs d (length b)) is_first ks None ≡ Ok xs
      → batches_of to_read b' (all_of fs d' (length b')) is_first' ks None ≡ Ok xs
  unfolding batches_of
  batches_same [] fs d d' is_first is_first' xs goes w h = h
  batches_same (k ∷ ks) fs d d' is_first is_first' xs goes w h =
      through _ _ xs h λ x x_is h1. through _ _ xs h1 λ sent sent_is h2. through _ _ xs h2 λ others others_are h3.
      on _ _ x (batch_same fs d d' k x goes w.0 x_is) ∙ on _ _ tt (no_dictionaries_sent is_first' (all_of fs d' (length b'))) ∙ on _ _ others (batches_same ks fs d d' false false others goes w.1 others_are) ∙ h3

  dictionary_room : (fs : Fields) (pairs pairs' : Metadata) (d : Dictionaries) (most : ℕ) (x : DictionaryBatch) (v : MetadataVersion) (body : List ℕ) (y : HeldDictionary) → lengths_sum x.values.buffers ≤ most → dictionary_of (read_schema fs pairs) d (length b) x v body false ≡ Ok y → dictionary_of (read_schema fs pairs') d most x v body false ≡ Ok y
  unfolding dictionary_of
  dictionary_room fs pairs pairs' d most x v body y le h =
      through _ _ y h λ kind kind_is h1. through _ _ y h1 λ new new_is h2. through _ _ y h2 λ floats floats_are h3. through _ _ y h3 λ values values_are h4.
      on _ _ kind kind_is ∙ on _ _ new new_is ∙ on _ _ floats floats_are ∙ on _ _ values (with_room _ most v [] x.values body values le values_are) ∙ h4

  dictionaries_same : (ks : List FileBlock) (fs : Fields) (pairs pairs' : Metadata) (rs ds rs' ds' : List FileBlock) (d e : Dictionaries) → AllByRecursion (DictionaryBefore b place) ks → dictionaries_of b (read_meta fs pairs rs ds) d ks ≡ Ok e → dictionaries_of b' (read_meta fs pairs' rs' ds') d ks ≡ Ok e
  unfolding dictionaries_of
  dictionaries_same [] fs pairs pairs' rs ds rs' ds' d e w h = h
  dictionaries_same (k ∷ ks) fs pairs pairs' rs ds rs' ds' d e w h =
      through _ _ e h λ m m_is h1. through _ _ e h1 λ x x_is h2. through _ _ e h2 λ version version_is h3. through _ _ e h3 λ y y_is h4.
      let room : lengths_sum x.values.buffers ≤ length b' = omega (arith, w.0.lengths m x m_is x_is, longer) in
      let here = dictionary_room fs pairs pairs' d (length b') x version (block_body b k) y room y_is in
      on _ _ m (message_same k 2 m w.0.inside m_is) ∙ on _ _ x x_is ∙ on _ _ version version_is ∙ on _ _ y (rw (body_same k w.0.inside) here) ∙ dictionaries_same ks fs pairs pairs' rs ds rs' ds' (y ∷ d) e w.1 h4

-- ── the file ──

some_read : (rs ds : List FileBlock) → 0 < length rs → dictionaries_read rs ds ≡ ds
some_read [] ds h = absurd (omega (arith, h))
some_read (k ∷ rs) ds h = refl

pub cut_means : CutFileMeansItsBatches
unfolding file_table file_reading
cut_means b t fs pairs ds rs place gap is_table w =
    let read = sym (on _ _ (read_meta fs pairs rs ds) w.footer) ∙ some_meaning _ t is_table in
    through _ _ t read λ custom custom_is h1. through _ _ t h1 λ columns columns_are h2. through _ _ t h2 λ floats floats_are h3. through _ _ t h3 λ size size_is h4. through _ _ t h4 λ d d_is h5. through _ _ t h5 λ batches batches_are h6.
    let all : dictionaries_of b (read_meta fs pairs rs ds) [] ds ≡ Ok d = subst (λ ks. dictionaries_of b (read_meta fs pairs rs ds) [] ks ≡ Ok d) (some_read rs ds w.some) d_is in
    let e = same_read _ t h6 in
    let same : batches ≡ t.batches = ap (λ (t : ArrowTable). t.batches) e in
    record {
      held = d;
      read = all;
      means = record {
        held = λ rest. d;
        dictionaries_read = λ rest pairs' records dictionaries. dictionaries_same b place gap rest w.inside ds fs pairs pairs' rs ds records dictionaries [] d w.dictionaries_before all;
        known = λ rest id. refl;
        batches_read = λ rest d' is_first goes. batches_same b place gap rest w.inside rs fs d d' true is_first t.batches goes w.records_before (subst (λ xs. batches_of to_read b (all_of fs d (length b)) true rs None ≡ Ok xs) same batches_are);
      };
      metadata = ap (λ (t : ArrowTable). t.metadata) (sym e);
      own = custom_is ∙ ap (λ (t : ArrowTable). Ok t.custom) e;
      fields = ap (λ (t : ArrowTable). t.fields) (sym e);
    }

pub appended_means : MoreOfAFileMeansItsTable → AppendedFileMeansItsTable
appended_means law b t fs pairs ds rs place gap held ms is_table w read may e =
    let cut = cut_means b t fs pairs ds rs place gap is_table w in
    let same : cut.held ≡ held = same_read _ held (sym cut.read ∙ read) in
    let x = cut_at b place gap ds rs in
    let front = subst (λ d. FrontMeans fs x (λ id. found d id) t.batches) same cut.means in
    let whole = law fs pairs t.custom x (λ id. found held id) t.batches ms front may e in
    let table : table_of fs pairs t.custom (t.batches ++ flat_map batch_in ms) ≡ followed_by t (flat_map batch_in ms) = rw (cut.metadata, cut.fields) refl in
    whole ∙ ap Some table
