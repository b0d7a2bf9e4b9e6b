-- Rows of fields, written one after another.
use Rattle.std.proofs.Common.{◌≡◌, ◌≢◌, ◌∙◌, ◌==◌, ◌||◌, ◌&&◌, not, ◌+◌, ◌-◌, ◌^◌, ◌<◌, ◌++◌, ◌∷◌, [], ℕ, zero, suc, List, Bool, true, false, Option, Some, length, map, take, get_or, slice_get, refl, sym, ap, subst, arith}
use Rattle.std.specs.Prelude.{min, nat_eq}
use Rattle.std.proofs.lemmas.Bool.{eqb-true}
use Rattle.std.proofs.lemmas.List.{length-append}
use Rattle.std.specs.Io.KnownBytes.{Appends}
use Rattle.csv.specs.Writing.{default_writer, field_text, fields_written, has_written, is_blank, next_sep, row_body, row_text, tail_text, writer_setup}
use Rattle.csv.specs.declared.writer.QuoteStyle.TheVariants as style
use Rattle.csv.proofs.WriteFacts.{appends-more, appends-none, blank-more, row-final, row-more}
use Rattle.arrow_types.specs.Child.{Child}
use Rattle.arrow_types.specs.Schemas.{Keyed}
use Rattle.arrow_arrays.specs.Batches.{have_rows}
use Rattle.arrow_arrays.specs.Parts.{Parts, kind_in, rows_in}
use Rattle.arrow_arrays.specs.PartsOf.{all_parts_of, parts_of}
use Rattle.arrow_arrays.specs.declared.array.Array.{Array}
use Rattle.csv_texts.specs.Texts.{cell_text}
use Rattle.csv_rows.specs.Shown.{shown_cells, shown_names}
use Rattle.csv_rows.specs.Values.{Shows, cell_at, cell_of}
use Rattle.csv_rows.specs.declared.value.Value.{Value}
use Rattle.csv_rows.specs.Writers.{IsAtRow, IsInRow, TextWriter, text_of}

-- a field was written
pub record Wrote (w w' : TextWriter) (field : List ℕ) : Type 0 where
  pub text : (writer_setup w).style ≢ style.NonNumeric → Appends (text_of w) (text_of w') (next_sep (writer_setup w) (fields_written w) ++ field_text (writer_setup w) field)
  pub same : writer_setup w' ≡ writer_setup w
  pub count : fields_written w' ≡ min (fields_written w + 1) (2 ^ 64 - 1)
  pub wrote : has_written w ≡ false → (writer_setup w).style ≢ style.NonNumeric → has_written w' ≡ not (length (field_text (writer_setup w) field) == 0)
  pub stays : has_written w ≡ true → has_written w' ≡ true

pub field_more : (start : Option (List ℕ)) (w w' : TextWriter) (cells : List (List ℕ)) (field : List ℕ) → IsInRow start w cells → length cells < 2 ^ 64 - 1 → Wrote w w' field → IsInRow start w' (cells ++ field ∷ [])
field_more start w w' cells field is few h =
    let plain : (writer_setup w).style ≢ style.NonNumeric = rw is.setup (λ e. cc e) in
    let text : Appends (text_of w) (text_of w') (next_sep default_writer (length cells) ++ field_text default_writer field) = rw (is.setup, is.fields) at (h.text plain) in
    let both = appends-more start (text_of w) (text_of w') (row_body default_writer cells) (next_sep default_writer (length cells) ++ field_text default_writer field) is.text text in
    let size : length (cells ++ field ∷ []) ≡ length cells + 1 = length-append cells (field ∷ []) in
    let first : has_written w ≡ false → has_written w' ≡ not (length (field_text default_writer field) == 0) = λ e. rw is.setup at (h.wrote e plain) in
    let blank = blank-more default_writer cells field (has_written w) (has_written w') is.blank first h.stays in
    record {
      setup = h.same ∙ is.setup;
      text = subst (Appends start (text_of w')) (sym (row-more default_writer cells field)) both;
      fields = h.count ∙ (let e = is.fields in omega (arith, e, few, size));
      blank = blank ∙ ap (λ n. not (has_written w') && ((n == 0) || (n == 1))) (sym size);
    }

pub row_begun : (w : TextWriter) → IsAtRow w → IsInRow (text_of w) w []
unfolding is_blank
row_begun w is = record { setup = is.setup; text = appends-none (text_of w); fields = is.fields; blank = rw is.wrote refl }

pub row_done : (start : Option (List ℕ)) (w w' : TextWriter) (cells : List (List ℕ)) → IsInRow start w cells → Appends (text_of w) (text_of w') (tail_text (writer_setup w) (has_written w) (fields_written w)) → Appends start (text_of w') (row_text default_writer cells)
row_done start w w' cells is h =
    let tail : Appends (text_of w) (text_of w') (tail_text default_writer (has_written w) (fields_written w)) = rw is.setup at h in
    row-final start (text_of w) (text_of w') default_writer cells (has_written w) (fields_written w) is.text (rw (← is.fields) at is.blank) tail

-- ── a cell ──

-- the text of a value is that of its cell
pub cell_put : (start : Option (List ℕ)) (w : TextWriter) (cells : List (List ℕ)) (p : Parts) (row : ℕ) (v : Value) (t : List ℕ) → Shows v (cell_at p row) → t ≡ cell_text (kind_in p) (cell_of v) → IsInRow start w (cells ++ t ∷ [])
    → IsInRow start w (cells ++ cell_text (kind_in p) (cell_at p row) ∷ [])
cell_put start w cells p row v t shows is h = subst (λ z. IsInRow start w (cells ++ z ∷ [])) (is ∙ sym (shows (kind_in p))) h

-- each array of a batch has its rows
pub rows_at : (n : ℕ) (xs : List Array) (i : ℕ) (x : Array) → have_rows n (all_parts_of xs) ≡ true → i < length xs → rows_in (parts_of (get_or xs i x)) ≡ n
rows_at n [] i x h less = absurd (omega (arith, less))
rows_at n (y ∷ ys) zero x h less = eqb-true (rows_in (parts_of y)) n (first (nat_eq (rows_in (parts_of y)) n) (have_rows n (all_parts_of ys)) h)
  where
    first : (a b : Bool) → (a && b) ≡ true → a ≡ true
    first true b k = refl
    first false b k = k
rows_at n (y ∷ ys) (suc i) x h less = rows_at n ys i x (second (nat_eq (rows_in (parts_of y)) n) (have_rows n (all_parts_of ys)) h) (omega arith)
  where
    second : (a b : Bool) → (a && b) ≡ true → b ≡ true
    second true b k = k
    second false b k = cc

-- one cell more
pub cells_more : (xs : List Array) (i row : ℕ) (x : Array) → i < length xs → x ≡ get_or xs i x
    → take (i + 1) (shown_cells (all_parts_of xs) row) ≡ take i (shown_cells (all_parts_of xs) row) ++ cell_text (kind_in (parts_of x)) (cell_at (parts_of x) row) ∷ []
cells_more [] i row x less is = absurd (omega (arith, less))
cells_more (y ∷ ys) zero row x less is = ap (λ z. cell_text (kind_in (parts_of z)) (cell_at (parts_of z) row) ∷ []) (sym is)
cells_more (y ∷ ys) (suc i) row x less is =
    let e : suc i + 1 ≡ suc (i + 1) = omega arith in
    rw e (ap (λ l. cell_text (kind_in (parts_of y)) (cell_at (parts_of y) row) ∷ l) (cells_more ys i row x (omega arith) is))

pub length-cells : (xs : List Array) (row : ℕ) → length (shown_cells (all_parts_of xs) row) ≡ length xs
length-cells [] row = refl
length-cells (y ∷ ys) row = ap suc (length-cells ys row)

-- one name more
pub names_more : (s : List Keyed) (i : ℕ) (c : Child) → slice_get (map (λ p. p.1) s) i ≡ Some c → take (i + 1) (shown_names s) ≡ take i (shown_names s) ++ c.name ∷ []
names_more [] i c h = cc
names_more (p ∷ ps) zero c h = let e : p.1 ≡ c = cc in ap (λ (z : Child). z.name ∷ []) e
names_more (p ∷ ps) (suc i) c h =
    let e : suc i + 1 ≡ suc (i + 1) = omega arith in
    rw e (ap (λ l. p.1.name ∷ l) (names_more ps i c h))

pub length-names : (s : List Keyed) → length (shown_names s) ≡ length s
length-names [] = refl
length-names (p ∷ ps) = ap suc (length-names ps)
