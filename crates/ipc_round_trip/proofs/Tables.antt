-- The generated table of a stream, and what is read of it.
use Rattle.std.proofs.Common.{◌≡◌, ℕ, zero, suc, ◌+◌, ◌/◌, ◌<◌, inl, inr, List, [], ◌∷◌, ◌++◌, true, Option, None, Some, Result, Ok, Err, length, map, slice_get, refl, sym, ap, ◌∙◌, subst, arith, pos}
use Rattle.std.proofs.Common.{append_assoc}
use Rattle.std.specs.Prelude.{ℤ, codes, sum_by, negsuc, ◌≤ℤ◌, IfErr, IsErrAnd}
use Rattle.std.specs.Fmt.{decimal, signed_decimal}
use Rattle.std.proofs.Common.{FitsSigned, of_z, to_z, w64}
use Rattle.std.proofs.lemmas.Int.{ints, to_z-of_z}
use Rattle.std.specs.Rc.{rc_value}
use Rattle.std.proofs.lemmas.Bool.{and_parts}
use Rattle.arrow_spec.specs.declared.error.IpcError.{IpcError}
use Rattle.arrow_spec.specs.declared.error.IpcError.TheVariants.{Memory, ReadFault, WriteFault}
use Rattle.arrow_spec.specs.declared.types.IntegerType.TheVariants.{Int8, Int16, Int32, Int64, Int128, UInt8, UInt16, UInt32, UInt64}
use Rattle.arrow_spec.specs.Arrays.{from_on}
use Rattle.arrow_spec.specs.Cells.{Cell, number}
use Rattle.arrow_spec.specs.Files.{ArrowTable, TableBatch, «all»}
use Rattle.arrow_spec.specs.Kinds.{Fields, Kind, bare, bare_kind, field, have_same_kinds, integer, is_same_kind, none, null}
use Rattle.arrow_spec.specs.Meaning.{file_table}
use Rattle.arrow_spec.specs.Readings.{Refuses, meaning, refusals}
use Rattle.arrow_spec.specs.Streams.{closed, stream_reading, stream_table}
use Rattle.arrow_types.specs.Schemas.{fields_in}
use Rattle.arrow_arrays.specs.Columns.{columns_of}
use Rattle.arrow_arrays.specs.Batches.{Batch}
use Rattle.arrow_arrays.specs.Parts.{Parts, cells_in, forest, kind_in}
use Rattle.ipc_fields.specs.IpcFields.{Ids, fields_with, ids, ids_of, kind_with, no_fields}
use Rattle.ipc_append.specs.Columns.{are_of, is_of}
use Rattle.ipc_append.specs.Wholes.{FailsBehind, IsWhole, RefusesStream, table_read}
use Rattle.ipc_append.specs.declared.stream.WholeStream.{WholeStream}
use Rattle.ipc_transcode.specs.Below.{IsSummary}
use Rattle.ipc_transcode.specs.Transcode.{IsSmallRefusal, Transcodes}
use Rattle.ipc_transcode.specs.Below.{Summary}
use Rattle.ipc_generate.specs.Table.{cell_of_n, column, first_batches, generated_batch, generated_fields, generated_table, row_count, row_state, state}
use Rattle.ipc_generate.specs.Written.{IsSmall}
use Rattle.arrow_spec.specs.Counts.{magnitude}
use Rattle.ipc_round_trip.specs.Line.{IsLineOf, RefusesLine, line_of}
use Rattle.ipc_round_trip.specs.ReadBack.{IsStreamOfTable, first_column, first_parts}

-- ── the file as a stream ──

some_is : {A : Type 0} (x y : A) → Some x ≡ Some y → x ≡ y
some_is x y e = cc

pub transcoded_table : (s : Summary) (b y : List ℕ) (t : ArrowTable) → Transcodes s b «all» (λ x. x) (Some []) (Some y) → file_table b «all» ≡ Some t → IsStreamOfTable t s y
unfolding file_table
transcoded_table s b y t w h =
    let same : w.stream.table ≡ t = some_is w.stream.table t (sym w.stream.stream.file ∙ h) in
    let here : y ≡ w.stream.bytes = w.stream.added in
    record {
      is_closed = subst closed (sym here) w.stream.stream.is_closed;
      says = subst (λ x. stream_table x None ≡ Some t) (sym here) (w.stream.stream.stream ∙ ap Some same);
      summary = subst (λ x. IsSummary s t x) (sym here) (subst (λ u. IsSummary s u w.stream.bytes) same w.summary);
    }

pub small_of : (b : List ℕ) (e : IpcError) → IsSmallRefusal b «all» e → IsSmall e
small_of b e (inl m) = inl m
small_of b e (inr p) = inr p.0

-- ── its numbers ──

pub batches_of : (seed : ℕ) → length (generated_table seed).batches ≡ 16
unfolding generated_table first_batches
batches_of seed = refl

pub rows_of : (seed : ℕ) → sum_by (λ (b : TableBatch). b.rows) (generated_table seed).batches ≡ 65536
unfolding generated_table first_batches
rows_of seed = refl

-- ── what is read of the stream ──

pub refused_line : (seed : ℕ) (b : List ℕ) (e : IpcError) → stream_table b None ≡ Some (generated_table seed) → RefusesStream e b → (e ≡ ReadFault → ⊥) → (e ≡ WriteFault → ⊥) → RefusesLine seed e
unfolding stream_table
refused_line seed b e t (inr many) r w = inr (record { stream = b; says = t; too_many = many })
refused_line seed b e t (inl h) r w = by e (stream_reading b None) t h r w
  where
    by : (e : IpcError) (reading : Result ArrowTable (List IpcError)) → meaning reading ≡ Some (generated_table seed) → Refuses e (refusals reading) → (e ≡ ReadFault → ⊥) → (e ≡ WriteFault → ⊥) → RefusesLine seed e
    by e (Err es) m h r w = cc
    by Memory (Ok x) m h r w = inl (inl refl)
    by ReadFault (Ok x) m h r w = absurd (r refl)
    by WriteFault (Ok x) m h r w = absurd (w refl)
    by e (Ok x) m h r w = absurd h

get-from_on : {A : Type 0} (f : ℕ → A) (i n row : ℕ) → row < n → slice_get (from_on f i n) row ≡ Some (f (i + row))
get-from_on f i zero row h = absurd (omega arith)
get-from_on f i (suc n) zero h = ap (λ k. Some (f k)) (let e : i ≡ i + 0 = omega arith in e)
get-from_on f i (suc n) (suc row) h = get-from_on f (suc i) n row (omega arith) ∙ ap (λ k. Some (f k)) (let e : suc i + row ≡ i + suc row = omega arith in e)

cell_in : (cell : ℕ → ℕ → Cell) (s : ℕ → ℕ) (n row : ℕ) → row < n → slice_get (column cell s n) row ≡ Some (cell row (s row))
unfolding column
cell_in cell s n row h = get-from_on (λ k. cell k (s k)) 0 n row h ∙ ap (λ k. Some (cell k (s k))) (let e : 0 + row ≡ row = omega arith in e)

pub second_cell : (seed : ℕ) → slice_get (column cell_of_n (row_state seed 0) row_count) 1 ≡ Some (number (pos (state seed 2 / 2)))
second_cell seed = cell_in cell_of_n (row_state seed 0) row_count 1 (omega arith)

abbrev others : ℕ → List TableBatch
others seed = from_on (generated_batch seed) 1 15

split : (seed : ℕ) → first_batches seed 16 ≡ generated_batch seed 0 ∷ others seed
unfolding first_batches
split seed = refl

-- the first column of the first batch that was read
pub record IsFirst (seed : ℕ) (p : Parts) : Type 0 where
  pub kind : kind_in p ≡ integer Int64
  pub cell : slice_get (cells_in p) 1 ≡ Some (number (pos (state seed 2 / 2)))

-- kinds that are bare and the same
bare_integer : (k : Kind) (id : Option ℤ) (below : Ids) → bare_kind (kind_with k id below) ≡ integer Int64 → k ≡ integer Int64
bare_integer (integer t) id below e = e
bare_integer k id below e = cc

same_integer : (k : Kind) → is_same_kind (integer Int64) k ≡ true → k ≡ integer Int64
same_integer (integer Int64) h = refl
same_integer (integer Int8) h = cc
same_integer (integer Int16) h = cc
same_integer (integer Int32) h = cc
same_integer (integer Int128) h = cc
same_integer (integer UInt8) h = cc
same_integer (integer UInt16) h = cc
same_integer (integer UInt32) h = cc
same_integer (integer UInt64) h = cc
same_integer k h = cc

abbrev first_kind : Fields → Kind
first_kind none = null
first_kind (field name nullable metadata k others) = k

-- the first column is of the kind of the first field
kind_of_first : (fs : Fields) (own : Ids) (p : Parts) (ps : List Parts) → bare (fields_with fs own) ≡ generated_fields → have_same_kinds fs (columns_of (forest (p ∷ ps))) ≡ true → kind_in p ≡ integer Int64
kind_of_first none own p ps e h = cc
kind_of_first (field name nullable metadata k fs) no_fields p ps e h =
    let k_is : k ≡ integer Int64 = bare_integer k None no_fields (ap first_kind e) in
    same_integer (kind_in p) (subst (λ x. is_same_kind x (kind_in p) ≡ true) k_is (and_parts (is_same_kind k (kind_in p)) (have_same_kinds fs (columns_of (forest ps))) h).0)
kind_of_first (field name nullable metadata k fs) (ids id below rest) p ps e h =
    let k_is : k ≡ integer Int64 = bare_integer k id below (ap first_kind e) in
    same_integer (kind_in p) (subst (λ x. is_same_kind x (kind_in p) ≡ true) k_is (and_parts (is_same_kind k (kind_in p)) (have_same_kinds fs (columns_of (forest ps))) h).0)

table_fields : (seed : ℕ) → (generated_table seed).fields ≡ generated_fields
unfolding generated_table
table_fields seed = refl

table_batches : (seed : ℕ) → (generated_table seed).batches ≡ generated_batch seed 0 ∷ others seed
unfolding generated_table
table_batches seed = split seed

-- a batch as a table has it
abbrev table_of : Batch → TableBatch
table_of b = record { rows = b.height; columns = map cells_in b.arrays; custom = b.custom }

-- a stream of the generated table has a first column
pub first_of : (seed : ℕ) (b : List ℕ) (s : WholeStream) → stream_table b None ≡ Some (generated_table seed) → IsWhole b s → (p : Parts) × (first_parts s.batches.items ≡ Some p) × IsFirst seed p
first_of seed b s t w =
    let same : table_read s ≡ generated_table seed = some_is (table_read s) (generated_table seed) (sym w.table ∙ t) in
    let fields : (table_read s).fields ≡ generated_fields = ap (λ x. x.fields) same ∙ table_fields seed in
    let batches : map table_of s.batches.items ≡ generated_batch seed 0 ∷ others seed = ap (λ x. x.batches) same ∙ table_batches seed in
    by s.batches.items batches s.kinds fields
  where
    by : (xs : List Batch) → map table_of xs ≡ generated_batch seed 0 ∷ others seed → are_of (fields_in (rc_value s.metadata.schema)) xs ≡ true → (table_read s).fields ≡ generated_fields
        → (p : Parts) × (first_parts xs ≡ Some p) × IsFirst seed p
    by [] e k f = cc
    by (x ∷ xs) e k f = in_batch x.arrays (ap columns_in (head_is e)) (and_parts (is_of (fields_in (rc_value s.metadata.schema)) x) (are_of (fields_in (rc_value s.metadata.schema)) xs) k).0 f
      where
        head_is : table_of x ∷ map table_of xs ≡ generated_batch seed 0 ∷ others seed → table_of x ≡ generated_batch seed 0
        head_is q = cc

        columns_in : TableBatch → List (List Cell)
        columns_in y = y.columns

        in_batch : (ps : List Parts) → map cells_in ps ≡ columns_in (generated_batch seed 0) → have_same_kinds (fields_in (rc_value s.metadata.schema)) (columns_of (forest ps)) ≡ true → (table_read s).fields ≡ generated_fields
            → (p : Parts) × (first_column ps ≡ Some p) × IsFirst seed p
        in_batch [] q h g = cc
        in_batch (p ∷ ps) q h g = (
          p,
          refl,
          record {
            kind = kind_of_first (fields_in (rc_value s.metadata.schema)) (ids_of s.metadata.ipc_schema.fields.items) p ps g h;
            cell = ap (λ c. slice_get c 1) (let z : cells_in p ≡ column cell_of_n (row_state seed 0) row_count = cc in z) ∙ second_cell seed;
          },
        )

-- the first column that was read
pub first_read : (seed : ℕ) (b : List ℕ) (s : WholeStream) (q : Parts) → stream_table b None ≡ Some (generated_table seed) → IsWhole b s → Some q ≡ first_parts s.batches.items → IsFirst seed q
first_read seed b s q t w e =
    let f = first_of seed b s t w in
    subst (IsFirst seed) (sym (some_is q f.0 (e ∙ f.1))) f.2

-- there is one
pub first_there : {A : Type 0} (seed : ℕ) (b : List ℕ) (s : WholeStream) → stream_table b None ≡ Some (generated_table seed) → IsWhole b s → None ≡ first_parts s.batches.items → A
first_there seed b s t w e =
    let f = first_of seed b s t w in
    let told : None ≡ Some f.0 = e ∙ f.1 in
    cc

-- the number in row 1
pub number_of_first : (seed : ℕ) (p : Parts) (z : ℤ) → IsFirst seed p → slice_get (cells_in p) 1 ≡ Some (number z) → z ≡ pos (state seed 2 / 2)
number_of_first seed p z f h =
    let told : Some (number z) ≡ Some (number (pos (state seed 2 / 2))) = sym h ∙ f.cell in
    cc

-- no feed over memory fails
pub read_refused : {F : Type 0} (references_of : F → List ℕ) (f : F) (seed : ℕ) (b : List ℕ) (e : IpcError) → stream_table b None ≡ Some (generated_table seed) → RefusesStream e b
    → FailsBehind (λ (x : F). 0) references_of f e → RefusesLine seed e
read_refused {F} references_of f seed b e t h cause = refused_line seed b e t h (λ r. never_read e r cause) (λ w. never_written e w cause)
  where
    never_read : (e : IpcError) → e ≡ ReadFault → FailsBehind (λ (x : F). 0) references_of f e → ⊥
    never_read e r k =
        let failed : FailsBehind (λ (x : F). 0) references_of f ReadFault = subst (FailsBehind (λ (x : F). 0) references_of f) r k in
        let rose = failed.cause in
        absurd (omega (arith, rose))

    never_written : (e : IpcError) → e ≡ WriteFault → FailsBehind (λ (x : F). 0) references_of f e → ⊥
    never_written e w k =
        let failed : FailsBehind (λ (x : F). 0) references_of f WriteFault = subst (FailsBehind (λ (x : F). 0) references_of f) w k in
        failed.cause

-- an error that was handed on
pub handed : {T : Type 0} (P : IpcError → Type 0) (r : Result T IpcError) (e : IpcError) → IsErrAnd r (λ f. f ≡ e) → P e → IfErr r P
handed P (Ok x) e h p = absurd h
handed P (Err f) e h p = subst P (sym h) p

-- ── the line ──

pub not_negative : (z : ℤ) (n : ℕ) → z ≡ pos n → pos 0 ≤ℤ z
not_negative z n e = subst (λ x. pos 0 ≤ℤ x) (sym e) (omega (arith, ints))

-- a number that is not negative is said without a sign
pub said : (z : ℤ) → FitsSigned w64 z → pos 0 ≤ℤ z → signed_decimal (to_z w64 (of_z w64 z)) ≡ decimal (magnitude z)
said z fits h = ap signed_decimal (to_z-of_z w64 z fits) ∙ by z h
  where
    by : (z : ℤ) → pos 0 ≤ℤ z → signed_decimal z ≡ decimal (magnitude z)
    by (pos n) h = refl
    by (negsuc n) h = absurd (omega (arith, ints, h))

pub line_text : (batches rows source stream : ℕ) (z : ℤ) (text : List ℕ) → FitsSigned w64 z → pos 0 ≤ℤ z
    → text ≡ codes "batches " ++ (decimal batches ++ (codes " rows " ++ (decimal rows ++ (codes " source " ++ (decimal source ++ (codes " stream " ++ (decimal stream ++ (codes " first " ++ (signed_decimal (to_z w64 (of_z w64 z)) ++ 10 ∷ [])))))))))
    → text ≡ line_of batches rows source stream (magnitude z)
unfolding line_of
line_text batches rows source stream z text fits h e =
    e ∙ ap (λ n. codes "batches " ++ (decimal batches ++ (codes " rows " ++ (decimal rows ++ (codes " source " ++ (decimal source ++ (codes " stream " ++ (decimal stream ++ (codes " first " ++ (n ++ 10 ∷ [])))))))))) (said z fits h)
    ∙ simp append_assoc

-- a text is the line of a file and of its stream
pub line_is : (seed source : ℕ) (file x text : List ℕ) (s : Summary) (first : ℤ) → file_table file «all» ≡ Some (generated_table seed) → source ≡ length file → IsStreamOfTable (generated_table seed) s x
    → first ≡ pos (state seed 2 / 2) → text ≡ line_of s.batches s.rows source s.bytes (magnitude first) → IsLineOf seed text
line_is seed source file x text s first m n w f e =
    let b : s.batches ≡ 16 = w.summary.batches ∙ batches_of seed in
    let r : s.rows ≡ 65536 = w.summary.rows ∙ rows_of seed in
    record {
      file = file;
      means = m;
      stream = x;
      is_closed = w.is_closed;
      says = w.says;
      line = e ∙ ap (λ k. line_of k s.rows source s.bytes (magnitude first)) b ∙ ap (λ k. line_of 16 k source s.bytes (magnitude first)) r
          ∙ ap (λ k. line_of 16 65536 k s.bytes (magnitude first)) n ∙ ap (λ k. line_of 16 65536 (length file) k (magnitude first)) w.summary.bytes
          ∙ ap (λ z. line_of 16 65536 (length file) (length x) (magnitude z)) f;
    }
