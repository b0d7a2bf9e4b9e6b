-- Of a file that means a table, a scan means the rows that meet the filter.
use Rattle.std.proofs.Common.{◌≡◌, ◌∙◌, refl, sym, ap, subst, arith, ℕ, zero, suc, List, [], ◌∷◌, length, take, Bool, true, false, Option, Some, None, Ok}
use Rattle.std.specs.Prelude.{map, slice_get, nat_lt, if◌then◌else◌}
use Rattle.std.specs.List.{AllByRecursion}
use Rattle.arrow_spec.specs.declared.error.IpcError.TheVariants.{Projection}
use Rattle.arrow_spec.specs.declared.message.MetadataVersion.{MetadataVersion}
use Rattle.arrow_spec.specs.Arrays.{Dictionaries, from_on}
use Rattle.arrow_spec.specs.Cells.{Cell}
use Rattle.arrow_spec.specs.Columns.{columns_at}
use Rattle.arrow_spec.specs.Counts.{Place, RecordBatch, after}
use Rattle.arrow_spec.specs.Features.{chosen_floats}
use Rattle.arrow_spec.specs.Files.{ArrowTable, Asked, FileBlock, Meta, Request, TableBatch, as_asked, batch_of, batch_of_tables, batches_of, column_or_none, columns_right, custom_of, cut, cut_batches, dictionaries_of, dictionaries_read, dictionaries_sent, fields_as_asked, fields_asked, file_reading, first_column, meta_of, project, share, to_read, with_field_at, wrong_columns, «all»}
use Rattle.arrow_spec.specs.Kinds.{Fields, Metadata, bare, field, none, width}
use Rattle.arrow_spec.specs.Meaning.{file_table}
use Rattle.arrow_spec.specs.Messages.{BatchHeader}
use Rattle.arrow_spec.specs.Readings.{Reading, bind, free_of, is_absent, meaning, unless, ◌>>=◌}
use Rattle.arrow_spec.proofs.Projection.{no_dictionaries_sent, no_size, nothing, on, some_meaning, went}
use Rattle.arrow_spec.proofs.ReadPairs.{same_read}
use Rattle.laws_files.proofs.Cuts.{file-cut}
use Rattle.laws_transcode.specs.Files.{with_columns}
use Rattle.laws_walk.specs.Walks.{behind_one, blocks_walked, walk_reading}
use Rattle.array_filter.specs.Rows.{marked}
use Rattle.row_filters.specs.Filters.{marks_of}
use Rattle.filter_types.specs.declared.filter.Filter.{Filter}
use Rattle.laws_scan.specs.Filtered.{any_marked, batch_marks, filtered, filtered_batches, marked_batch, marked_count}
use Rattle.laws_scan.specs.Laws.{ScanIsFiltered}
use Rattle.laws_scan.specs.Scan.{block_marks, filter_alone, marked_fits, marked_rows, met, only_where, scan_block, scan_right, scan_table}

-- ── columns of a whole batch have its rows ──

abbrev AreLong : ℕ → List (List Cell) → Type 0
AreLong n columns = AllByRecursion (λ column. length column ≡ n) columns

abbrev AllLong : List TableBatch → Type 0
AllLong xs = AllByRecursion (λ (x : TableBatch). AreLong x.rows x.columns) xs

length-rows : (f : ℕ → Cell) (at n : ℕ) → length (from_on f at n) ≡ n
length-rows f at zero = refl
length-rows f at (suc n) = ap suc (length-rows f (suc at) n)

columns_long : (m : RecordBatch) (d : Dictionaries) (fs : Fields) (c : ℕ) (p : Place) (rows few : ℕ) (columns : List (List Cell)) → columns_at m d None fs c p rows few ≡ Ok columns → AreLong few columns
unfolding columns_at
columns_long m d none c p rows few columns h = subst (AreLong few) (same_read [] columns h) tt
columns_long m d (field name nullable metadata k others) c p rows few columns h =
    let first = went (free_of _) _ columns h in
    let rest = went (columns_at m d None others (suc c) (after m k p) rows few) _ columns first.rest in
    subst (AreLong few) (same_read _ columns rest.rest) (length-rows _ 0 few, columns_long m d others (suc c) (after m k p) rows few rest.got rest.first)

tables_long : (a : Asked) (v : MetadataVersion) (custom : Metadata) (tables : BatchHeader) (body : List ℕ) (x : TableBatch) → batch_of_tables to_read (with_columns None a) v custom tables body None ≡ Ok x → AreLong x.rows x.columns
unfolding batch_of_tables
tables_long a v custom tables body x h =
    let one = went (unless _ _) _ x h in
    let rows = went (Rattle.arrow_spec.specs.Readings.natural tables.length) _ x one.rest in
    let negative = went (Rattle.arrow_spec.specs.Readings.only_if _ _) _ x rows.rest in
    let sum = went (Rattle.arrow_spec.specs.Readings.only_if _ _) _ x negative.rest in
    let columns = went (columns_at _ a.dictionaries None a.fields 0 _ rows.got rows.got) _ x sum.rest in
    subst (λ (y : TableBatch). AreLong y.rows y.columns) (no_size _ x columns.rest) (columns_long _ a.dictionaries a.fields 0 _ rows.got rows.got columns.got columns.first)

batch_long : (b : List ℕ) (a : Asked) (block : FileBlock) (x : TableBatch) → batch_of to_read b (with_columns None a) block None ≡ Ok x → AreLong x.rows x.columns
unfolding batch_of
batch_long b a block x h =
    let m = went (Rattle.arrow_spec.specs.Files.block_message b block 3) _ x h in
    let tables = went (Rattle.arrow_spec.specs.Messages.batch_at _ _) _ x m.rest in
    let version = went (Rattle.arrow_spec.specs.Messages.version_of _ _) _ x tables.rest in
    let custom = went (Rattle.arrow_spec.specs.Messages.message_pairs _) _ x version.rest in
    tables_long a version.got custom.got tables.got _ x custom.rest

batches_long : (b : List ℕ) (a : Asked) (is_first : Bool) (blocks : List FileBlock) (xs : List TableBatch) → batches_of to_read b (with_columns None a) is_first blocks None ≡ Ok xs → AllLong xs
unfolding batches_of
batches_long b a is_first [] xs h = subst AllLong (same_read [] xs h) tt
batches_long b a is_first (block ∷ blocks) xs h =
    let one = went (batch_of to_read b (with_columns None a) block None) _ xs h in
    let flag = went (dictionaries_sent is_first to_read (with_columns None a)) _ xs one.rest in
    let others = went (batches_of to_read b (with_columns None a) false blocks None) _ xs flag.rest in
    subst AllLong (same_read _ xs others.rest) (batch_long b a block one.got one.first, batches_long b a false blocks others.got others.first)

-- ── so they are not cut ──

take-all : (n : ℕ) (column : List Cell) → length column ≡ n → take n column ≡ column
take-all zero [] h = refl
take-all (suc n) [] h = refl
take-all zero (x ∷ xs) h = cc
take-all (suc n) (x ∷ xs) h = ap (λ ys. x ∷ ys) (take-all n xs (omega (arith, h)))

take-none : (n : ℕ) → take n (column_or_none None) ≡ []
take-none zero = refl
take-none (suc n) = refl

column_whole : (n : ℕ) (columns : List (List Cell)) (c : ℕ) → AreLong n columns → take n (column_or_none (slice_get columns c)) ≡ column_or_none (slice_get columns c)
column_whole n [] c h = take-none n
column_whole n (x ∷ xs) zero h = take-all n x h.0
column_whole n (x ∷ xs) (suc c) h = column_whole n xs c h.1

all_whole : (n : ℕ) (columns : List (List Cell)) → AreLong n columns → map (λ column. take n column) columns ≡ columns
all_whole n [] h = refl
all_whole n (x ∷ xs) h = rw (take-all n x h.0, all_whole n xs h.1) refl

asked_whole : (n : ℕ) (columns : List (List Cell)) (asked : Option (List ℕ)) → AreLong n columns → map (λ column. take n column) (as_asked asked columns) ≡ as_asked asked columns
asked_whole n columns None h = all_whole n columns h
asked_whole n columns (Some cs) h = each cs
  where
    each : (cs : List ℕ) → map (λ column. take n column) (map (λ c. column_or_none (slice_get columns c)) cs) ≡ map (λ c. column_or_none (slice_get columns c)) cs
    each [] = refl
    each (c ∷ cs) = rw (column_whole n columns c h, each cs) refl

-- ── marked rows of columns in the order asked ──

marked-none : (marks : List Bool) → marked marks (column_or_none None) ≡ []
marked-none [] = refl
marked-none (b ∷ bs) = refl

marked_column : (marks : List Bool) (columns : List (List Cell)) (c : ℕ) → column_or_none (slice_get (map (λ column. marked marks column) columns) c) ≡ marked marks (column_or_none (slice_get columns c))
marked_column marks [] c = sym (marked-none marks)
marked_column marks (x ∷ xs) zero = refl
marked_column marks (x ∷ xs) (suc c) = marked_column marks xs c

marked_asked : (marks : List Bool) (columns : List (List Cell)) (asked : Option (List ℕ)) → as_asked asked (map (λ column. marked marks column) columns) ≡ map (λ column. marked marks column) (as_asked asked columns)
marked_asked marks columns None = refl
marked_asked marks columns (Some cs) = each cs
  where
    each : (cs : List ℕ) → map (λ c. column_or_none (slice_get (map (λ column. marked marks column) columns) c)) cs ≡ map (λ column. marked marks column) (map (λ c. column_or_none (slice_get columns c)) cs)
    each [] = refl
    each (c ∷ cs) = rw (marked_column marks columns c, each cs) refl

-- ── a block ──

-- a batch in the columns asked for
abbrev projected : Option (List ℕ) → TableBatch → TableBatch
projected asked x = record { rows = x.rows; columns = as_asked asked x.columns; custom = x.custom }

abbrev cut_whole : Option (List ℕ) → TableBatch → TableBatch
cut_whole asked x = record { rows = x.rows; columns = map (λ column. take x.rows column) (as_asked asked x.columns); custom = x.custom }

-- the marked rows in the columns asked for, where there are any
abbrev hit : Filter → Option (List ℕ) → TableBatch → Option TableBatch
hit f asked x = if any_marked (batch_marks f x) then Some (projected asked (marked_batch (batch_marks f x) x)) else None

module _ (b : List ℕ) (f : Filter) (asked : Option (List ℕ)) (a : Asked) where
  block_filtered : (block : FileBlock) (x : TableBatch) → AreLong x.rows x.columns → batch_of to_read b (with_columns (filter_alone f) a) block None ≡ Ok (cut_whole (filter_alone f) x) → batch_of to_read b (with_columns asked a) block None ≡ Ok (cut_whole asked x)
      → scan_block f to_read b (with_columns asked a) block ≡ Ok (hit f asked x)
  unfolding scan_block block_marks marked_rows
  block_filtered block x long alone whole =
      let marks : block_marks f b (with_columns asked a) block ≡ Ok (batch_marks f x) = on _ _ (cut_whole (filter_alone f) x) alone ∙ ap (λ column. Ok (marks_of f column)) (column_whole x.rows x.columns f.column long) in
      on _ _ (batch_marks f x) marks ∙ by (batch_marks f x) (any_marked (batch_marks f x)) refl
    where
      same : (marks : List Bool) → marked_batch marks (cut_whole asked x) ≡ projected asked (marked_batch marks x)
      same marks = ap (λ columns. record { rows = marked_count marks; columns = columns; custom = x.custom }) (ap (λ columns. map (λ column. marked marks column) columns) (asked_whole x.rows x.columns asked long) ∙ sym (marked_asked marks x.columns asked))

      read : (marks : List Bool) → (batch_of to_read b (with_columns asked a) block None >>= λ y. marked_fits to_read b (with_columns asked a) block marks y >>= λ size. Ok (marked_batch marks y)) ≡ Ok (projected asked (marked_batch marks x))
      read marks = on _ _ (cut_whole asked x) whole ∙ on _ _ tt refl ∙ ap Ok (same marks)

      by : (marks : List Bool) (any : Bool) → any_marked marks ≡ any → marked_rows to_read b (with_columns asked a) block marks ≡ Ok (if any_marked marks then Some (projected asked (marked_batch marks x)) else None)
      by marks false is = ap (λ h. only_where h (batch_of to_read b (with_columns asked a) block None >>= λ y. marked_fits to_read b (with_columns asked a) block marks y >>= λ size. Ok (marked_batch marks y))) is ∙ ap (λ (h : Bool). Ok (if h then Some (projected asked (marked_batch marks x)) else None)) (sym is)
      by marks true is = ap (λ h. only_where h (batch_of to_read b (with_columns asked a) block None >>= λ y. marked_fits to_read b (with_columns asked a) block marks y >>= λ size. Ok (marked_batch marks y))) is ∙ on _ _ _ (read marks) ∙ ap (λ (h : Bool). Ok (if h then Some (projected asked (marked_batch marks x)) else None)) (sym is)

  -- ── blocks ──

  abbrev cut_all : Option (List ℕ) → List TableBatch → List TableBatch
  cut_all asked xs = cut_batches (map (λ x. projected asked x) xs) None

  -- one block more
  hit_more : (x : TableBatch) (xs : List TableBatch) → behind_one (hit f asked x) (map (λ y. projected asked y) (filtered_batches f xs)) ≡ map (λ y. projected asked y) (filtered_batches f (x ∷ xs))
  hit_more x xs = by (any_marked (batch_marks f x)) refl
    where
      by : (any : Bool) → any_marked (batch_marks f x) ≡ any → behind_one (hit f asked x) (map (λ y. projected asked y) (filtered_batches f xs)) ≡ map (λ y. projected asked y) (filtered_batches f (x ∷ xs))
      by true is = rw is refl
      by false is = rw is refl

  blocks_filtered : (first second third : Bool) (blocks : List FileBlock) (left : Option ℕ) (xs : List TableBatch) → AllLong xs → batches_of to_read b (with_columns (filter_alone f) a) first blocks None ≡ Ok (cut_all (filter_alone f) xs) → batches_of to_read b (with_columns asked a) second blocks None ≡ Ok (cut_all asked xs)
      → blocks_walked to_read b (met f asked) (with_columns asked a) third blocks left ≡ Ok (map (λ y. projected asked y) (filtered_batches f xs))
  unfolding blocks_walked batches_of
  blocks_filtered first second third [] left [] long alone whole = refl
  blocks_filtered first second third [] left (x ∷ xs) long alone whole = cc
  blocks_filtered first second third (block ∷ blocks) left [] long alone whole =
      let one = went (batch_of to_read b (with_columns asked a) block None) _ _ whole in
      let flag = went (dictionaries_sent second to_read (with_columns asked a)) _ _ one.rest in
      let others = went (batches_of to_read b (with_columns asked a) false blocks None) _ _ flag.rest in
      let clash = others.rest in cc
  blocks_filtered first second third (block ∷ blocks) left (x ∷ xs) long alone whole =
      let one = went (batch_of to_read b (with_columns (filter_alone f) a) block None) _ _ alone in
      let flag = went (dictionaries_sent first to_read (with_columns (filter_alone f) a)) _ _ one.rest in
      let others = went (batches_of to_read b (with_columns (filter_alone f) a) false blocks None) _ _ flag.rest in
      let two = went (batch_of to_read b (with_columns asked a) block None) _ _ whole in
      let flags = went (dictionaries_sent second to_read (with_columns asked a)) _ _ two.rest in
      let rest = went (batches_of to_read b (with_columns asked a) false blocks None) _ _ flags.rest in
      let same : one.got ∷ others.got ≡ cut_all (filter_alone f) (x ∷ xs) = same_read _ _ others.rest in
      let same2 : two.got ∷ rest.got ≡ cut_all asked (x ∷ xs) = same_read _ _ rest.rest in
      let tested : one.got ≡ cut_whole (filter_alone f) x = cc in
      let tested_rest : others.got ≡ cut_all (filter_alone f) xs = cc in
      let read : two.got ≡ cut_whole asked x = cc in
      let read_rest : rest.got ≡ cut_all asked xs = cc in
      let here = block_filtered block x long.0 (one.first ∙ ap Ok tested) (two.first ∙ ap Ok read) in
      on _ _ (hit f asked x) here ∙ on _ _ tt (no_dictionaries_sent _ (with_columns asked a))
      ∙ on _ _ _ (blocks_filtered false false _ blocks _ xs long.1 (others.first ∙ ap Ok tested_rest) (rest.first ∙ ap Ok read_rest)) ∙ ap Ok (hit_more x xs)

-- ── files ──

-- the filter's column is one
right_alone : (f : Filter) (columns : Option (List ℕ)) (fs : Fields) → scan_right f columns fs ≡ Ok tt → columns_right (filter_alone f) (width fs) ≡ Ok tt
unfolding bind
right_alone f columns fs h = by (nat_lt f.column (width fs)) refl
  where
    by : (is : Bool) → nat_lt f.column (width fs) ≡ is → columns_right (filter_alone f) (width fs) ≡ Ok tt
    by true e = rw e refl
    by false e = let clash = rw e at h in cc

right_too : (f : Filter) (columns : Option (List ℕ)) (fs : Fields) → scan_right f columns fs ≡ Ok tt → columns_right columns (width fs) ≡ Ok tt
right_too f columns fs h =
    let here = went (unless (nat_lt f.column (width fs)) (Projection f.column)) _ tt h in
    let right = went (columns_right columns (width fs)) _ tt here.rest in
    right.first

bare-with_field_at : (fs : Fields) (c : ℕ) (others : Fields) → bare (with_field_at fs c others) ≡ with_field_at (bare fs) c (bare others)
bare-with_field_at none c others = refl
bare-with_field_at (field name nullable metadata k fs) zero others = refl
bare-with_field_at (field name nullable metadata k fs) (suc c) others = bare-with_field_at fs c others

bare-as_asked : (columns : Option (List ℕ)) (fs : Fields) → bare (fields_as_asked columns fs) ≡ fields_as_asked columns (bare fs)
bare-as_asked None fs = refl
bare-as_asked (Some cs) fs = each cs
  where
    each : (cs : List ℕ) → bare (fields_asked fs cs) ≡ fields_asked (bare fs) cs
    each [] = refl
    each (c ∷ cs) = bare-with_field_at fs c (fields_asked fs cs) ∙ ap (λ others. with_field_at (bare fs) c others) (each cs)

module _ (b : List ℕ) (meta : Meta) (custom : Metadata) (d : Dictionaries) (read : meta_of b ≡ Ok meta) (pairs : custom_of b ≡ Ok custom) (held : dictionaries_of b meta [] (dictionaries_read meta.blocks meta.dictionaries) ≡ Ok d) where
  -- what is asked of its blocks, before the columns are
  abbrev asked_whole_file : Asked
  asked_whole_file = record { order = meta.schema.order; fields = meta.schema.fields; columns = None; dictionaries = d; most = length b }

  -- the batches of a file that means a table
  batches_given : (r : Request) (u : ArrowTable) → file_reading to_read b r None ≡ Ok u → batches_of to_read b (with_columns r.columns asked_whole_file) true meta.blocks r.limit ≡ Ok u.batches
  unfolding file_reading
  batches_given r u h =
      let h1 = sym (on _ _ meta read) ∙ h in
      let h2 = sym (on _ _ custom pairs) ∙ h1 in
      let right = went (columns_right r.columns (width meta.schema.fields)) _ u h2 in
      let floats = went (free_of (chosen_floats r.columns meta.schema.fields 0)) _ u right.rest in
      let size = went nothing _ u floats.rest in
      let h3 = sym (on _ _ d held) ∙ size.rest in
      let batches = went (batches_of to_read b (with_columns r.columns asked_whole_file) true meta.blocks r.limit) _ u h3 in
      batches.first ∙ ap (λ (y : ArrowTable). Ok y.batches) (same_read _ u batches.rest)

  -- a scan of it
  file_filtered : (f : Filter) (columns : Option (List ℕ)) (xs : List TableBatch) → scan_right f columns meta.schema.fields ≡ Ok tt
      → file_reading to_read b «all» None ≡ Ok (record { metadata = meta.schema.metadata; custom = custom; fields = bare meta.schema.fields; batches = xs })
      → walk_reading to_read b (met f columns) None ≡ Ok (project (filtered f (record { metadata = meta.schema.metadata; custom = custom; fields = bare meta.schema.fields; batches = xs })) columns)
  unfolding walk_reading
  file_filtered f columns xs right whole =
      let t : ArrowTable = record { metadata = meta.schema.metadata; custom = custom; fields = bare meta.schema.fields; batches = xs } in
      let fs = meta.schema.fields in
      let alone = file-cut b (record { columns = filter_alone f; limit = None }) t (λ m is count. subst (λ (m : Meta). columns_right (filter_alone f) (width m.schema.fields) ≡ Ok tt) (same_read meta m (sym read ∙ is)) (right_alone f columns fs right)) whole in
      let asked = file-cut b (record { columns = columns; limit = None }) t (λ m is count. subst (λ (m : Meta). columns_right columns (width m.schema.fields) ≡ Ok tt) (same_read meta m (sym read ∙ is)) (right_too f columns fs right)) whole in
      let long = batches_long b asked_whole_file true meta.blocks xs (batches_given «all» t whole) in
      let blocks = blocks_filtered b f columns asked_whole_file true true true meta.blocks None xs long (batches_given (record { columns = filter_alone f; limit = None }) _ alone) (batches_given (record { columns = columns; limit = None }) _ asked) in
      on _ _ meta read ∙ on _ _ custom pairs ∙ on _ _ tt right ∙ on _ _ tt refl ∙ on _ _ d held ∙ on _ _ _ blocks
      ∙ ap (λ gs. Ok (record { metadata = meta.schema.metadata; custom = custom; fields = gs; batches = map (λ y. projected columns y) (filtered_batches f xs) })) (bare-as_asked columns fs)

pub scan_is_filtered : ScanIsFiltered
unfolding scan_table file_table file_reading
scan_is_filtered b f columns meta t read table right =
    let whole = some_meaning (file_reading to_read b «all» None) t table in
    let h1 = sym (on _ _ meta read) ∙ whole in
    let custom = went (custom_of b) _ t h1 in
    let columns_are = went (columns_right None (width meta.schema.fields)) _ t custom.rest in
    let floats = went (free_of (chosen_floats None meta.schema.fields 0)) _ t columns_are.rest in
    let size = went nothing _ t floats.rest in
    let held = went (dictionaries_of b meta [] (dictionaries_read meta.blocks meta.dictionaries)) _ t size.rest in
    let batches = went (batches_of to_read b (asked_whole_file b meta custom.got held.got read custom.first held.first) true meta.blocks None) _ t held.rest in
    let same : record { metadata = meta.schema.metadata; custom = custom.got; fields = bare meta.schema.fields; batches = batches.got } ≡ t = same_read _ t batches.rest in
    ap meaning (file_filtered b meta custom.got held.got read custom.first held.first f columns batches.got right (whole ∙ ap Ok (sym same)) ∙ ap (λ y. Ok (project (filtered f y) columns)) same)
