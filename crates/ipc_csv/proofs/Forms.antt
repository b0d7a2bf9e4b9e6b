-- The columns of a batch are printed as the fields of its file are.
use Rattle.std.proofs.Common.{◌≡◌, ◌∙◌, sym, refl, ap, subst, ℕ, zero, suc, List, [], ◌∷◌, ◌++◌, map}
use Rattle.std.specs.Rc.{rc_value}
use Rattle.csv.specs.Writing.{default_writer, row_text}
use Rattle.arrow_spec.specs.Kinds.{Kind, Fields, bare, dictionary, extension, none, field}
use Rattle.arrow_spec.specs.Files.{TableBatch}
use Rattle.arrow_types.specs.Schemas.{Keyed, fields_in}
use Rattle.arrow_arrays.specs.Batches.{Batch}
use Rattle.arrow_arrays.specs.Parts.{Parts, cells_in, kind_in}
use Rattle.csv_texts.specs.Texts.{are_nested, batch_text, batches_text, cell_text, header_text, is_day_time, is_nested, names_in, row_cells, rows_text, scale_in, table_text}
use Rattle.csv_texts.proofs.BareFields.{bare_forms, print_forms, same_batch, same_batches, same_header, same_nested}
use Rattle.csv_rows.specs.Shown.{shown_cells, shown_names, shown_rows}
use Rattle.csv_rows.specs.Values.{cell_at}
use Rattle.laws_walk.specs.Below.{kinds_of, table_of, FileMetadata, HasFields, MayProject, FileCursor, schema_shown}
use Rattle.ipc_read_laws.specs.PlainKinds.{plain_fields, plain_kind}
use Rattle.laws_transcode.specs.Files.{AreAsked}
use Rattle.laws_walk.proofs.Below.{sent_plain}
use Rattle.laws_walk.specs.Places.{Sending, fields_in_request, schema_of_reader, table_sent, walking}
use Rattle.laws_walk.proofs.Requests.{shown_by}
use Rattle.csv_rows.specs.Output.{header_of, rows_of}
use Rattle.ipc_csv.specs.Printing.{text_so_far}

-- ── without ids ──

plain_scale : (k : Kind) → scale_in (plain_kind k) ≡ scale_in k
plain_scale (dictionary t ordered id k) = plain_scale k
plain_scale (extension name metadata k) = plain_scale k
plain_scale k = refl

plain_day_time : (k : Kind) → is_day_time (plain_kind k) ≡ is_day_time k
plain_day_time (dictionary t ordered id k) = plain_day_time k
plain_day_time (extension name metadata k) = plain_day_time k
plain_day_time k = refl

plain_nested : (k : Kind) → is_nested (plain_kind k) ≡ is_nested k
plain_nested (dictionary t ordered id k) = plain_nested k
plain_nested (extension name metadata k) = plain_nested k
plain_nested k = refl

plain_forms : (fs : Fields) → print_forms (plain_fields fs) ≡ print_forms fs
plain_forms none = refl
plain_forms (field name nullable metadata k others) = rw (plain_scale k, plain_day_time k, plain_nested k, plain_forms others) refl

-- the schema of a reader's columns is printed as the file's fields are
pub reader_forms : (x : Sending) (c : FileCursor) → c.metadata ≡ x.file → MayProject (rc_value x.file.schema) x.request.columns c.projection → print_forms (fields_in (schema_of_reader c)) ≡ print_forms (fields_in_request x)
reader_forms x c metadata columns =
    let s = schema_of_reader c in
    let shown : AreAsked (rc_value x.file.schema) x.request.columns s = subst (λ (g : FileMetadata). AreAsked (rc_value x.file.schema) x.request.columns (schema_shown (rc_value g.schema) c.projection)) (sym metadata) (shown_by (rc_value x.file.schema) x.request.columns c.projection columns) in
    sym (plain_forms (fields_in s)) ∙ ap print_forms (sent_plain x.file x.request.columns s shown) ∙ plain_forms (fields_in_request x)

-- ── the header ──

names_shown : (s : List Keyed) → shown_names s ≡ names_in (fields_in s)
names_shown [] = refl
names_shown (p ∷ ps) = ap (λ ns. p.1.name ∷ ns) (names_shown ps)

header_shown : (s : List Keyed) → header_of s ≡ header_text (fields_in s)
header_shown [] = refl
header_shown (p ∷ ps) = ap (row_text default_writer) (names_shown (p ∷ ps))

pub header_is : (x : Sending) (c : FileCursor) → c.metadata ≡ x.file → MayProject (rc_value x.file.schema) x.request.columns c.projection → header_of (schema_of_reader c) ≡ header_text (fields_in_request x)
header_is x c metadata columns = header_shown (schema_of_reader c) ∙ same_header (fields_in (schema_of_reader c)) (fields_in_request x) (reader_forms x c metadata columns)

-- nothing is nested in one exactly where nothing is in the other
pub nested_is : (x : Sending) (c : FileCursor) → c.metadata ≡ x.file → MayProject (rc_value x.file.schema) x.request.columns c.projection → are_nested (fields_in (schema_of_reader c)) ≡ are_nested (fields_in_request x)
nested_is x c metadata columns = same_nested (fields_in (schema_of_reader c)) (fields_in_request x) (reader_forms x c metadata columns)

-- ── rows ──

first_kind : (j k : Kind) (js ks : List Kind) → j ∷ js ≡ k ∷ ks → j ≡ k
first_kind j k js ks h = cc

other_kinds : (j k : Kind) (js ks : List Kind) → j ∷ js ≡ k ∷ ks → js ≡ ks
other_kinds j k js ks h = cc

cells_shown : (s : List Keyed) (ps : List Parts) → map kind_in ps ≡ kinds_of s → (i : ℕ) → shown_cells ps i ≡ row_cells (fields_in s) (map cells_in ps) i
cells_shown [] [] h i = refl
cells_shown [] (p ∷ ps) h i = cc
cells_shown (q ∷ qs) [] h i = cc
cells_shown (q ∷ qs) (p ∷ ps) h i =
    let kind : kind_in p ≡ q.1.kind = first_kind (kind_in p) q.1.kind (map kind_in ps) (kinds_of qs) h in
    let rest = cells_shown qs ps (other_kinds (kind_in p) q.1.kind (map kind_in ps) (kinds_of qs) h) i in
    ap (λ k. cell_text k (cell_at p i) ∷ shown_cells ps i) kind ∙ ap (λ cs. cell_text q.1.kind (cell_at p i) ∷ cs) rest

rows_shown : (s : List Keyed) (ps : List Parts) → map kind_in ps ≡ kinds_of s → (i n : ℕ) → shown_rows ps i n ≡ rows_text (fields_in s) (map cells_in ps) i n
rows_shown s ps h i zero = refl
rows_shown s ps h i (suc n) =
    ap (λ cs. row_text default_writer cs ++ shown_rows ps (suc i) n) (cells_shown s ps h i) ∙ ap (λ t. row_text default_writer (row_cells (fields_in s) (map cells_in ps) i) ++ t) (rows_shown s ps h (suc i) n)

batch_shown : (s : List Keyed) (ps : List Parts) (x : TableBatch) → map kind_in ps ≡ kinds_of s → x.columns ≡ map cells_in ps → rows_of ps x.rows ≡ batch_text (fields_in s) x
batch_shown [] [] x h same = refl
batch_shown [] (p ∷ ps) x h same = cc
batch_shown (q ∷ qs) [] x h same = cc
batch_shown (q ∷ qs) (p ∷ ps) x h same = rows_shown (q ∷ qs) (p ∷ ps) h 0 x.rows ∙ ap (λ cs. rows_text (fields_in (q ∷ qs)) cs 0 x.rows) (sym same)

pub batch_is : (x : Sending) (c : FileCursor) (y : Batch) → c.metadata ≡ x.file → MayProject (rc_value x.file.schema) x.request.columns c.projection → HasFields y (schema_of_reader c) → rows_of y.arrays y.height ≡ batch_text (fields_in_request x) (table_of y)
batch_is x c y metadata columns has =
    batch_shown (schema_of_reader c) y.arrays (table_of y) has.kinds refl ∙ same_batch (fields_in (schema_of_reader c)) (fields_in_request x) (reader_forms x c metadata columns) (table_of y)

-- ── the table ──

pub table_is : (x : Sending) (bs : List TableBatch) → table_text (table_sent (walking x) bs) ≡ text_so_far x bs
unfolding table_text
table_is x bs =
    let fs = fields_in_request x in
    ap (λ t. t ++ batches_text (bare fs) bs) (same_header (bare fs) fs (bare_forms fs)) ∙ ap (λ t. header_text fs ++ t) (same_batches (bare fs) fs (bare_forms fs) bs)
