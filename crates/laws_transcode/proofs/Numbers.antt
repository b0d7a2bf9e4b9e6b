-- What is written of columns that were read has numbers of the format's widths, where the tables that were read have.
use Rattle.std.proofs.Common.{◌≡◌, ℕ, zero, suc, ◌+◌, ◌-◌, ◌*◌, ◌^◌, ◌<◌, ◌≤◌, List, [], ◌∷◌, ◌++◌, length, Option, Some, None, Ok, refl, sym, subst, arith, true, false, Bool, cond, pos, FitsSigned}
use Rattle.std.specs.Prelude.{nat_le, nat_lt, slice_get, ℤ, negsuc}
use Rattle.std.specs.Prelude.{map as each_of}
use Rattle.std.specs.Int.{w64}
use Rattle.std.specs.List.{AllByRecursion}
use Rattle.std.proofs.lemmas.Bool.{ltb-false}
use Rattle.arrow_spec.specs.declared.error.IpcError.{IpcError}
use Rattle.arrow_spec.specs.declared.error.IpcError.TheVariants.{Unsupported}
use Rattle.arrow_spec.specs.declared.error.Feature.TheVariants as features
use Rattle.arrow_spec.specs.declared.message.FieldNode.{FieldNode}
use Rattle.arrow_spec.specs.declared.message.IpcBuffer.{IpcBuffer}
use Rattle.arrow_spec.specs.declared.types.UnionMode.TheVariants.{Dense, Sparse}
use Rattle.arrow_spec.specs.declared.types.IntervalUnit.TheVariants.{YearMonth}
use Rattle.arrow_spec.specs.Kinds.{Metadata, Kind, Fields, none, field, null, float, interval, decimal256, binary_view, utf8_view, «list», fixed_size_list, struct, map, union, extension, Offsets, small}
use Rattle.arrow_spec.specs.declared.message.MetadataVersion.{MetadataVersion}
use Rattle.arrow_spec.specs.Messages.{BatchHeader}
use Rattle.arrow_spec.specs.Readings.{natural}
use Rattle.arrow_spec.specs.Files.{Asked, TableBatch, batch_of_tables, record_batch_of, share, to_read}
use Rattle.arrow_spec.specs.declared.error.IpcError.TheVariants.{OutOfSpec}
use Rattle.arrow_spec.specs.declared.error.OutOfSpecKind.TheVariants as kinds
use Rattle.arrow_spec.specs.Counts.{RecordBatch, Place, after, count_at, first_place, inside, is_negative, magnitude, magnitude_or_0, union_buffers, Written}
use Rattle.arrow_spec.specs.Cells.{Cell}
use Rattle.arrow_spec.specs.Arrays.{Dictionaries, node_of, offset, range_of, range_or_none, valid}
use Rattle.arrow_spec.specs.Faults.{array_faults, child_faults, cause, fixed_faults, is_big, node_causes, node_faults, numbers_faults, offsets_faults, range_faults, validity_faults, view_parts_faults, view_text_faults, views_faults}
use Rattle.arrow_spec.specs.Columns.{columns_at, is_chosen, stands_in}
use Rattle.arrow_spec.specs.Sent.{all_written, columns_written, compacted, compacted_written, has_room, needs_compaction, null_count, parts_written, top_views_written, top_written, view_length, views_written, written, written_as_asked, written_at, written_part}
use Rattle.arrow_spec.proofs.Fewer.{cause-none, none_first, none_second, offset-fewer, sound_first, sound_second}
use Rattle.arrow_spec.proofs.MessageTables.{fits_pos}
use Rattle.arrow_spec.specs.Bodies.{BufferFits, NodeFits}
use Rattle.laws_transcode.specs.Files.{HeaderFits}
use Rattle.laws_transcode.proofs.ChosenColumns.{there, not_there, column_at, stands_first, stands_later}
use Rattle.laws_transcode.proofs.ReadTables.{share_below, tables_read}

-- ── the tables ──

-- the numbers of a record batch's tables have 64 bits
pub record TablesHaveWidth (m : RecordBatch) : Type 0 where
  pub nodes : AllByRecursion NodeFits m.nodes
  pub buffers : AllByRecursion BufferFits m.buffers
  pub views : AllByRecursion (λ x. FitsSigned w64 x) m.variadic

magnitude_small : (z : ℤ) → FitsSigned w64 z → magnitude z < 2 ^ 63
magnitude_small (pos n) h = h.sfits
magnitude_small (negsuc n) h = omega arith

all_at : {A : Type 0} (P : A → Type 0) (xs : List A) (i : ℕ) (x : A) → AllByRecursion P xs → slice_get xs i ≡ Some x → P x
all_at P [] i x h e = cc
all_at P (y ∷ ys) zero x h e = let same : y ≡ x = cc in subst P same h.0
all_at P (y ∷ ys) (suc i) x h e = all_at P ys i x h.1 e

count_small : (m : RecordBatch) (v : ℕ) → TablesHaveWidth m → count_at m v < 2 ^ 63
count_small m v fit = by_count (slice_get m.variadic v) refl
  where
    by_count : (r : Option ℤ) → slice_get m.variadic v ≡ r → magnitude_or_0 r < 2 ^ 63
    by_count None e = omega arith
    by_count (Some z) e = magnitude_small z (all_at (λ x. FitsSigned w64 x) m.variadic v z fit.views e)

range_small : (m : RecordBatch) (i : ℕ) → TablesHaveWidth m → magnitude (range_of m i).length < 2 ^ 63
range_small m i fit = by_range (slice_get m.buffers i) refl
  where
    by_range : (r : Option IpcBuffer) → slice_get m.buffers i ≡ r → magnitude (range_or_none r).length < 2 ^ 63
    by_range None e = omega arith
    by_range (Some x) e = magnitude_small x.length (all_at BufferFits m.buffers i x fit.buffers e).1

-- an array's rows are no more than its node says
enough_rows : (x : FieldNode) (rows : ℕ) → node_causes (Some x) rows ≡ [] → rows ≤ magnitude x.length
enough_rows x rows h = by_sign (is_negative x.length) h
  where
    by_sign : (negative : Bool) → cond negative (OutOfSpec kinds.UnexpectedNegativeInteger ∷ []) (cause (nat_lt (magnitude x.length) rows) (OutOfSpec kinds.NodeLength)) ≡ [] → rows ≤ magnitude x.length
    by_sign true g = cc
    by_sign false g = ltb-false (magnitude x.length) rows (cause-none _ _ g)

node_small : (m : RecordBatch) (p : Place) (rows : ℕ) → TablesHaveWidth m → node_faults m p rows ≡ [] → rows < 2 ^ 63
unfolding node_faults
node_small m p rows fit h = by_node (slice_get m.nodes p.node) refl h
  where
    by_node : (r : Option FieldNode) → slice_get m.nodes p.node ≡ r → node_causes r rows ≡ [] → rows < 2 ^ 63
    by_node None e k = cc
    by_node (Some x) e k =
        let most : rows ≤ magnitude x.length = enough_rows x rows k in
        let less : magnitude x.length < 2 ^ 63 = magnitude_small x.length (all_at NodeFits m.nodes p.node x fit.nodes e).0 in
        omega (arith, most, less)

array_small : (m : RecordBatch) (d : Dictionaries) (k : Kind) (p : Place) (read : ℕ) → TablesHaveWidth m → array_faults m d k p read ≡ [] → read < 2 ^ 63
array_small m d («list» o fs) p zero fit h = omega arith
array_small m d («list» o fs) p (suc n) fit h = node_small m p (suc n) fit (none_first _ _ (none_first _ _ h))
array_small m d (fixed_size_list n fs) p read fit h = node_small m p read fit (none_first _ _ (none_first _ _ h))
array_small m d (struct fs) p read fit h = node_small m p read fit (none_first _ _ (none_first _ _ h))
array_small m d (map sorted fs) p zero fit h = omega arith
array_small m d (map sorted fs) p (suc n) fit h = node_small m p (suc n) fit (none_first _ _ (none_first _ _ h))
array_small m d (union mode stated ids fs) p zero fit h = omega arith
array_small m d (union Sparse stated ids fs) p (suc n) fit h = node_small m p (suc n) fit (none_first _ _ (none_first _ _ h))
array_small m d (union Dense stated ids fs) p (suc n) fit h = node_small m p (suc n) fit (none_first _ _ (none_first _ _ h))
array_small m d (extension name metadata k) p read fit h = array_small m d k p read fit h
array_small m d k p read fit h = node_small m p read fit (none_first _ _ h)

-- ── what is written ──

-- nodes and view counts of 64 bits
pub record HaveWidth (nodes : List FieldNode) (views : List ℕ) : Type 0 where
  pub nodes_fit : AllByRecursion NodeFits nodes
  pub views_fit : AllByRecursion (λ n. n < 2 ^ 63) views

abbrev pub WrittenFits : Written → Type 0
WrittenFits w = HaveWidth w.nodes w.views

pub all_both : {A : Type 0} (P : A → Type 0) (xs ys : List A) → AllByRecursion P xs → AllByRecursion P ys → AllByRecursion P (xs ++ ys)
all_both P [] ys h k = k
all_both P (x ∷ xs) ys h k = (h.0, all_both P xs ys h.1 k)

also_fits : {ns ks : List FieldNode} {vs ws : List ℕ} → HaveWidth ns vs → HaveWidth ks ws → HaveWidth (ns ++ ks) (vs ++ ws)
also_fits {ns} {ks} {vs} {ws} h k = record { nodes_fit = all_both NodeFits ns ks h.nodes_fit k.nodes_fit; views_fit = all_both (λ n. n < 2 ^ 63) vs ws h.views_fit k.views_fit }

nothing_fits : HaveWidth [] []
nothing_fits = record { nodes_fit = tt; views_fit = tt }

one_more : (b : Bool) (a n : ℕ) → a ≤ n → a + cond b 0 1 ≤ suc n
one_more true a n h = omega (arith, h)
one_more false a n h = omega (arith, h)

nulls_few : (m : RecordBatch) (p : Place) (from n : ℕ) → null_count m p from n ≤ n
nulls_few m p from zero = omega arith
nulls_few m p from (suc n) = one_more (valid m p (from + n)) (null_count m p from n) n (nulls_few m p from n)

-- one node of so many rows, of which no more are null
node_fits : (rows nulls : ℕ) (views : List ℕ) → rows < 2 ^ 63 → nulls ≤ rows → AllByRecursion (λ n. n < 2 ^ 63) views → HaveWidth (record { length = pos rows; null_count = pos nulls } ∷ []) views
node_fits rows nulls views h few fit = record { nodes_fit = ((fits_pos rows h, fits_pos nulls (omega (arith, h, few))), tt); views_fit = fit }

own_fits : (m : RecordBatch) (p : Place) (from rows : ℕ) → rows < 2 ^ 63 → HaveWidth (record { length = pos rows; null_count = pos (null_count m p from rows) } ∷ []) []
own_fits m p from rows h = node_fits rows (null_count m p from rows) [] h (nulls_few m p from rows) tt

views_fit : (m : RecordBatch) (p : Place) (read from rows : ℕ) → TablesHaveWidth m → rows < 2 ^ 63 → WrittenFits (views_written m p read from rows)
views_fit m p zero from rows fit h = node_fits rows (null_count m p from rows) (0 ∷ []) h (nulls_few m p from rows) (omega arith, tt)
views_fit m p (suc read) from rows fit h = node_fits rows (null_count m p from rows) (count_at m p.view ∷ []) h (nulls_few m p from rows) (count_small m p.view fit, tt)

-- the rows that are written are among those that were read
abbrev Within : ℕ → ℕ → ℕ → Type 0
Within from rows read = 0 < rows → from + rows ≤ read

few_rows : (from rows read : ℕ) → Within from rows read → rows ≤ read
few_rows from zero read w = omega arith
few_rows from (suc n) read w = omega (arith, w (omega arith))

rows_small : (m : RecordBatch) (d : Dictionaries) (k : Kind) (p : Place) (read from rows : ℕ) → TablesHaveWidth m → array_faults m d k p read ≡ [] → Within from rows read → rows < 2 ^ 63
rows_small m d k p read from rows fit h w = omega (arith, array_small m d k p read fit h, few_rows from rows read w)

nothing_between : (f : ℕ → ℕ) (from : ℕ) → Within (f from) (f (from + 0) - f from) 0
nothing_between f from positive = let e : from + 0 ≡ from = omega arith in let k : 0 < f from - f from = rw e at positive in absurd (omega (arith, k))

offsets_within : (m : RecordBatch) (o : Offsets) (i n from rows most : ℕ) → offsets_faults m o i n most ≡ [] → Within from rows n → Within (offset m o i from) (offset m o i (from + rows) - offset m o i from) (offset m o i n)
offsets_within m o i n from zero most h w = λ positive. absurd (omega (arith, nothing_between (λ j. offset m o i j) from positive, positive))
offsets_within m o i n from (suc k) most h w = λ positive. let rise : offset m o i (from + suc k) ≤ offset m o i n = offset-fewer m o i n (from + suc k) most (w (omega arith)) h in omega (arith, positive, rise)

none_within : (m : RecordBatch) (o : Offsets) (i from rows : ℕ) → Within from rows 0 → Within (offset m o i from) (offset m o i (from + rows) - offset m o i from) 0
none_within m o i from zero w = nothing_between (λ j. offset m o i j) from
none_within m o i from (suc k) w = absurd (omega (arith, w (omega arith)))

times_less : (n few more : ℕ) → few ≤ more → n * few ≤ n * more
times_less n few more less = grind (arith, less)

times_both : (n a b : ℕ) → n * (a + b) ≡ n * a + n * b
times_both n a b = grind arith

times_within : (n from rows read : ℕ) → Within from rows read → Within (n * from) (n * rows) (n * read)
times_within n from zero read w = λ positive. absurd (grind (arith, positive))
times_within n from (suc k) read w = λ positive. omega (arith, times_less n (from + suc k) read (w (omega arith)), times_both n from (suc k))

mutual
  part_fits : (m : RecordBatch) (d : Dictionaries) (k : Kind) (p : Place) (read from rows : ℕ) → TablesHaveWidth m → array_faults m d k p read ≡ [] → Within from rows read → WrittenFits (written_part m k p read from rows)
  part_fits m d null p read from rows fit h w = let few = rows_small m d null p read from rows fit h w in node_fits rows rows [] few (omega arith) tt
  part_fits m d (float t) p read from rows fit h w = nothing_fits
  part_fits m d (interval YearMonth) p read from rows fit h w = own_fits m p from rows (rows_small m d (interval YearMonth) p read from rows fit h w)
  part_fits m d (decimal256 precision scale) p read from rows fit h w = nothing_fits
  part_fits m d binary_view p read from rows fit h w = views_fit m p read from rows fit (rows_small m d binary_view p read from rows fit h w)
  part_fits m d utf8_view p read from rows fit h w = views_fit m p read from rows fit (rows_small m d utf8_view p read from rows fit h w)
  part_fits m d («list» o fs) p zero from rows fit h w =
      also_fits (own_fits m p from rows (rows_small m d («list» o fs) p 0 from rows fit h w)) (parts_fit m d fs (inside 2 p) (λ q. 0) (offset m o (p.buffer + 1) from) (λ q. offset m o (p.buffer + 1) (from + rows) - offset m o (p.buffer + 1) from) fit (none_second _ _ h) (λ q. none_within m o (p.buffer + 1) from rows w))
  part_fits m d («list» o fs) p (suc n) from rows fit h w =
      let inner = sound_second _ _ (none_second _ _ h) in
      also_fits (own_fits m p from rows (rows_small m d («list» o fs) p (suc n) from rows fit h w)) (parts_fit m d fs (inside 2 p) (λ q. offset m o (p.buffer + 1) (suc n)) (offset m o (p.buffer + 1) from) (λ q. offset m o (p.buffer + 1) (from + rows) - offset m o (p.buffer + 1) from) fit (none_second _ _ inner) (λ q. offsets_within m o (p.buffer + 1) (suc n) from rows _ (none_first _ _ inner) w))
  part_fits m d (fixed_size_list n fs) p read from rows fit h w =
      also_fits (own_fits m p from rows (rows_small m d (fixed_size_list n fs) p read from rows fit h w)) (parts_fit m d fs (inside 1 p) (λ q. n * read) (n * from) (λ q. n * rows) fit (none_second _ _ h) (λ q. times_within n from rows read w))
  part_fits m d (struct fs) p read from rows fit h w =
      also_fits (own_fits m p from rows (rows_small m d (struct fs) p read from rows fit h w)) (parts_fit m d fs (inside 1 p) (λ q. read) from (λ q. rows) fit (none_second _ _ h) (λ q. w))
  part_fits m d (map sorted fs) p zero from rows fit h w =
      also_fits (own_fits m p from rows (rows_small m d (map sorted fs) p 0 from rows fit h w)) (parts_fit m d fs (inside 2 p) (λ q. 0) (offset m small (p.buffer + 1) from) (λ q. offset m small (p.buffer + 1) (from + rows) - offset m small (p.buffer + 1) from) fit (none_second _ _ h) (λ q. none_within m small (p.buffer + 1) from rows w))
  part_fits m d (map sorted fs) p (suc n) from rows fit h w =
      let inner = sound_second _ _ (none_second _ _ h) in
      also_fits (own_fits m p from rows (rows_small m d (map sorted fs) p (suc n) from rows fit h w)) (parts_fit m d fs (inside 2 p) (λ q. offset m small (p.buffer + 1) (suc n)) (offset m small (p.buffer + 1) from) (λ q. offset m small (p.buffer + 1) (from + rows) - offset m small (p.buffer + 1) from) fit (none_second _ _ inner) (λ q. offsets_within m small (p.buffer + 1) (suc n) from rows _ (none_first _ _ inner) w))
  part_fits m d (union Sparse stated ids fs) p zero from rows fit h w =
      let few = rows_small m d (union Sparse stated ids fs) p 0 from rows fit h w in
      also_fits (node_fits rows 0 [] few (omega arith) tt) (parts_fit m d fs (inside (union_buffers m.version Sparse) p) (λ q. 0) from (λ q. rows) fit (none_second _ _ h) (λ q. w))
  part_fits m d (union Sparse stated ids fs) p (suc n) from rows fit h w =
      let few = rows_small m d (union Sparse stated ids fs) p (suc n) from rows fit h w in
      also_fits (node_fits rows 0 [] few (omega arith) tt) (parts_fit m d fs (inside (union_buffers m.version Sparse) p) (λ q. suc n) from (λ q. rows) fit (none_second _ _ h) (λ q. w))
  part_fits m d (union Dense stated ids fs) p zero from rows fit h w =
      let few = rows_small m d (union Dense stated ids fs) p 0 from rows fit h w in
      also_fits (node_fits rows 0 [] few (omega arith) tt) (parts_fit m d fs (inside (union_buffers m.version Dense) p) (λ q. 0) 0 (λ q. 0) fit (none_second _ _ h) (λ q. λ positive. omega arith))
  part_fits m d (union Dense stated ids fs) p (suc n) from rows fit h w =
      let few = rows_small m d (union Dense stated ids fs) p (suc n) from rows fit h w in
      also_fits (node_fits rows 0 [] few (omega arith) tt) (parts_fit m d fs (inside (union_buffers m.version Dense) p) (λ q. magnitude (node_of m q.node).length) 0 (λ q. magnitude (node_of m q.node).length) fit (none_second _ _ h) (λ q. λ positive. omega arith))
  part_fits m d (extension name metadata k) p read from rows fit h w = part_fits m d k p read from rows fit h w
  part_fits m d k p read from rows fit h w = own_fits m p from rows (rows_small m d k p read from rows fit h w)

  parts_fit : (m : RecordBatch) (d : Dictionaries) (fs : Fields) (p : Place) (read : Place → ℕ) (from : ℕ) (rows : Place → ℕ) → TablesHaveWidth m → child_faults m d fs p read ≡ [] → ((q : Place) → Within from (rows q) (read q)) → WrittenFits (parts_written m fs p read from rows)
  parts_fit m d none p read from rows fit h w = nothing_fits
  parts_fit m d (field name nullable metadata k others) p read from rows fit h w =
      also_fits (part_fits m d k p (read p) from (rows p) fit (none_first _ _ h) (w p)) (parts_fit m d others (after m k p) read from rows fit (sound_second _ _ (none_second _ _ h)) w)

-- an array that is written whole
pub array_fits : (m : RecordBatch) (d : Dictionaries) (k : Kind) (p : Place) (rows : ℕ) → TablesHaveWidth m → array_faults m d k p rows ≡ [] → WrittenFits (written m k p rows 0 rows)
unfolding written
array_fits m d k p rows fit h = part_fits m d k p rows 0 rows fit h (λ positive. omega arith)

-- ── top columns ──

if_few : (b : Bool) (xs ys : List ℕ) (n : ℕ) → length xs ≤ n → length ys ≤ n → length (cond b xs ys) ≤ n
if_few true xs ys n h k = h
if_few false xs ys n h k = k

-- a view column that is laid anew has at most a buffer more than rows
compacted_few : (m : RecordBatch) (p : Place) (row begun n : ℕ) → length (compacted m p row begun n) ≤ suc n
compacted_few m p row begun zero = if_few (nat_lt 0 begun) (begun ∷ []) [] 1 (omega arith) (omega arith)
compacted_few m p row begun (suc n) =
    let here : length (compacted m p (suc row) (begun + view_length m p row) n) ≤ suc (suc n) = omega (arith, compacted_few m p (suc row) (begun + view_length m p row) n) in
    let passed : length (compacted m p (suc row) begun n) ≤ suc (suc n) = omega (arith, compacted_few m p (suc row) begun n) in
    let new : length (begun ∷ compacted m p (suc row) (view_length m p row) n) ≤ suc (suc n) = omega (arith, compacted_few m p (suc row) (view_length m p row) n) in
    if_few (nat_le (view_length m p row) 12) _ _ (suc (suc n)) passed (if_few (has_room begun (view_length m p row)) _ _ (suc (suc n)) here new)

if_fits : (b : Bool) (x y : Written) → WrittenFits x → WrittenFits y → WrittenFits (cond b x y)
if_fits true x y h k = h
if_fits false x y h k = k

numbers_room : (m : RecordBatch) (i width n : ℕ) → numbers_faults m i width n ≡ [] → width * n ≤ magnitude (range_of m i).length
unfolding numbers_faults
numbers_room m i width n h = ltb-false (magnitude (range_of m i).length) (width * n) (cause-none _ _ (sound_second (range_faults m i) _ h))

view_rows : (m : RecordBatch) (p : Place) (rows : ℕ) → view_parts_faults m p rows ≡ [] → numbers_faults m (p.buffer + 1) 16 rows ≡ []
unfolding view_parts_faults
view_rows m p rows h =
    let order : List IpcError = cause (is_big m.order) (Unsupported features.ViewBigEndian) in
    let fixed : fixed_faults m p 16 rows ≡ [] = none_second order (fixed_faults m p 16 rows) (none_first (order ++ fixed_faults m p 16 rows) _ h) in
    none_second (validity_faults m p rows) _ fixed

top_views_fit : (m : RecordBatch) (p : Place) (rows : ℕ) → TablesHaveWidth m → view_parts_faults m p rows ≡ [] → WrittenFits (top_views_written m p rows)
top_views_fit m p zero fit h = views_fit m p 0 0 0 fit (omega arith)
top_views_fit m p (suc n) fit h =
    let room : 16 * suc n ≤ magnitude (range_of m (p.buffer + 1)).length = numbers_room m (p.buffer + 1) 16 (suc n) (view_rows m p (suc n) h) in
    let few : suc n < 2 ^ 62 = omega (arith, room, range_small m (p.buffer + 1) fit) in
    let new : length (compacted m p 0 0 (suc n)) < 2 ^ 63 = omega (arith, few, compacted_few m p 0 0 (suc n)) in
    if_fits (needs_compaction m p (suc n)) (compacted_written m p (suc n)) (views_written m p (suc n) 0 (suc n)) (node_fits (suc n) (null_count m p 0 (suc n)) (length (compacted m p 0 0 (suc n)) ∷ []) (omega (arith, few)) (nulls_few m p 0 (suc n)) (new, tt)) (views_fit m p (suc n) 0 (suc n) fit (omega (arith, few)))

top_fits : (m : RecordBatch) (d : Dictionaries) (k : Kind) (p : Place) (rows : ℕ) → TablesHaveWidth m → array_faults m d k p rows ≡ [] → WrittenFits (top_written m k p rows)
unfolding written views_faults view_text_faults
top_fits m d binary_view p zero fit h = views_fit m p 0 0 0 fit (omega arith)
top_fits m d binary_view p (suc n) fit h = top_views_fit m p (suc n) fit (sound_first (view_parts_faults m p (suc n)) _ (none_second _ _ h))
top_fits m d utf8_view p zero fit h = views_fit m p 0 0 0 fit (omega arith)
top_fits m d utf8_view p (suc n) fit h = top_views_fit m p (suc n) fit (sound_first (view_parts_faults m p (suc n)) _ (none_second _ _ h))
top_fits m d (extension name metadata k) p rows fit h = top_fits m d k p rows fit h
top_fits m d k p rows fit h = part_fits m d k p rows 0 rows fit h (λ positive. omega arith)

-- ── columns ──

-- a column that is asked for
column_fits : (m : RecordBatch) (d : Dictionaries) (asked : Option (List ℕ)) (fs : Fields) (p : Place) (rows few : ℕ) (cells : List (List Cell)) (c : ℕ) → TablesHaveWidth m → columns_at m d asked fs 0 p rows few ≡ Ok cells → is_chosen asked c ≡ true → WrittenFits (written_at (columns_written m asked fs 0 p few) c)
column_fits m d asked fs p rows few cells c fit h is = elim (column_at m d (λ k at. at) asked fs 0 p rows few cells c c h (omega arith) is) [
  | there name nullable metadata k at same read w fine ↦ subst WrittenFits (sym w) (top_fits m d k at few fit fine)
  | not_there read w ↦ subst WrittenFits (sym w) nothing_fits
]

all_fit : (ws : List Written) → ((i : ℕ) → WrittenFits (written_at ws i)) → WrittenFits (all_written ws)
all_fit [] h = nothing_fits
all_fit (w ∷ ws) h = also_fits (h 0) (all_fit ws (λ i. h (suc i)))

those_fit : (ws : List Written) (cs : List ℕ) → ((c : ℕ) → stands_in cs c ≡ true → WrittenFits (written_at ws c)) → WrittenFits (all_written (each_of (λ c. written_at ws c) cs))
those_fit ws [] h = nothing_fits
those_fit ws (c ∷ cs) h = also_fits (h c (stands_first c cs)) (those_fit ws cs (λ x is. h x (stands_later c x cs is)))

asked_fit : (asked : Option (List ℕ)) (ws : List Written) → ((c : ℕ) → is_chosen asked c ≡ true → WrittenFits (written_at ws c)) → WrittenFits (written_as_asked asked ws)
asked_fit None ws h = all_fit ws (λ c. h c refl)
asked_fit (Some cs) ws h = those_fit ws cs h

-- ── a batch ──

pub natural_small : (z : ℤ) (n : ℕ) → FitsSigned w64 z → natural z ≡ Ok n → n < 2 ^ 63
natural_small (pos k) n fit h = let e : k ≡ n = cc in subst (λ j. j < 2 ^ 63) e fit.sfits
natural_small (negsuc k) n fit h = cc

-- the rows, nodes and view counts of a batch that was read
pub batch_fits : (a : Asked) (v : MetadataVersion) (custom : Metadata) (tables : BatchHeader) (body : List ℕ) (left : Option ℕ) (x : TableBatch) → HeaderFits tables → batch_of_tables to_read a v custom tables body left ≡ Ok x
    → (x.rows < 2 ^ 63) × WrittenFits (written_as_asked a.columns (columns_written (record_batch_of a.order v tables body) a.columns a.fields 0 first_place x.rows))
batch_fits a v custom tables body left x fit h =
    let m : RecordBatch = record_batch_of a.order v tables body in
    let t = tables_read a v custom tables body left x h in
    let few = share left t.rows in
    let width : TablesHaveWidth m = record { nodes = fit.nodes; buffers = fit.buffers; views = fit.views } in
    let small : few < 2 ^ 63 = omega (arith, natural_small tables.length t.rows fit.rows t.count, share_below left t.rows) in
    let each : (c : ℕ) → is_chosen a.columns c ≡ true → WrittenFits (written_at (columns_written m a.columns a.fields 0 first_place few) c) = λ c is. column_fits m a.dictionaries a.columns a.fields first_place t.rows few t.cells c width t.columns is in
    subst (λ (y : TableBatch). (y.rows < 2 ^ 63) × WrittenFits (written_as_asked a.columns (columns_written m a.columns a.fields 0 first_place y.rows))) t.is (small, asked_fit a.columns (columns_written m a.columns a.fields 0 first_place few) each)
