-- A table that is printed, from its header to its last row.
use Rattle.std.proofs.Common.{◌≡◌, ◌∙◌, sym, refl, ap, subst, ℕ, ◌≤◌, List, [], length, append-nil, Option, Some, None, Result, Ok, Err}
use Rattle.std.specs.Prelude.{IfSome}
use Rattle.std.specs.Io.KnownBytes.{Appends}
use Rattle.arrow_spec.specs.declared.error.IpcError.{IpcError}
use Rattle.arrow_spec.specs.Files.{ArrowTable, Request, file_reading, to_read}
use Rattle.arrow_spec.specs.Meaning.{file_table}
use Rattle.arrow_spec.specs.Readings.{Refuses, meaning, refusals}
use Rattle.std.proofs.KnownBytes.{Appends-nil}
use Rattle.csv_rows.specs.Writers.{text_of}
use Rattle.csv_texts.specs.Texts.{header_text, printed}
use Rattle.ipc_io.specs.Outside.{AppendsPrefix}
use Rattle.laws_walk.specs.Below.{FileCursor}
use Rattle.laws_walk.specs.Fetching.{FetchesSome, FetchesTo}
use Rattle.laws_walk.specs.Places.{Sending, Walked, fields_in_request, meta_in, place_of, schema_of_reader, table_sent, walking}
use Rattle.laws_walk.proofs.Begins.{none_so_far}
use Rattle.laws_walk.proofs.Fetched.{none_begun as none_fetched, some_fetched}
use Rattle.laws_walk.specs.declared.summary.Summary.{Summary}
use Rattle.csv_rows.specs.Output.{HasPut, PutCause, header_of}
use Rattle.ipc_csv.specs.Printing.{IsPrintedBy, IsUnprinted, PrintedRows, PrintsAll, PrintsFile, text_so_far}
use Rattle.ipc_csv.specs.Prints.{Prints}
use Rattle.csv_rows.specs.declared.output.TextOut.{TextOut}
use Rattle.ipc_csv.proofs.AllPrints.{FromStart}
use Rattle.ipc_csv.proofs.Forms.{header_is, table_is}
use Rattle.ipc_csv.proofs.Nexts.{printed_too}
use Rattle.ipc_csv.proofs.Refusals.{NotOfSink, not_put, refused_before, text_stands}
use Rattle.ipc_csv.proofs.States.{flat_is, part_printed, printed_is, whole_printed}

-- what a file is read as it means
means_table : (b : List ℕ) (r : Request) (t : ArrowTable) → file_reading to_read b r None ≡ Ok t → file_table b r ≡ Some t
unfolding file_table
means_table b r t h = ap meaning h

-- what is said of a file of which nothing was printed yet
abbrev pub OfFile : Option (List ℕ) → FileCursor → Option (List ℕ) → (List ℕ → Sending → Type 0) → Type 0
OfFile content c old P = IfSome content (λ b. (x : Sending) → x.bytes ≡ b → x.start ≡ old → IsUnprinted c x → P b x)

-- nothing was put
pub nothing_begun : (content : Option (List ℕ)) (c : FileCursor) (old : Option (List ℕ)) (result : Result Summary IpcError) (e : IpcError) → result ≡ Err e → NotOfSink e → ((es : List IpcError) → Refuses e es)
    → OfFile content c old (λ b x. PrintsFile result b x.request old old)
nothing_begun None c old result e is none any = tt
nothing_begun (Some b) c old result e is none any = λ x same start unprinted.
    subst (λ z. PrintsFile z b x.request old old) (sym is) (refused_before e b x.request old none (any (refusals (printed b x.request None))))

-- ── the header ──

none_of : (x : Sending) → text_so_far x [] ≡ header_text (fields_in_request x)
none_of x = append-nil (header_text (fields_in_request x))

header_so_far : (x : Sending) (c : FileCursor) → IsUnprinted c x → header_of (schema_of_reader c) ≡ text_so_far x []
header_so_far x c unprinted = header_is x c unprinted.by.by.metadata unprinted.by.by.columns ∙ sym (none_of x)

none_read : (x : Sending) (c : FileCursor) → IsUnprinted c x → Walked to_read (walking x) (place_of c) []
none_read x c unprinted = none_so_far to_read (walking x) (place_of c) unprinted.block unprinted.dictionaries unprinted.left

-- it was put
pub header_put : (x : Sending) (c : FileCursor) (o : TextOut) (old mid : Option (List ℕ)) → x.start ≡ old → IsUnprinted c x → HasPut old mid o (header_of (schema_of_reader c)) → PrintedRows x c o mid 0 0
header_put x c o old mid start unprinted h = record {
  table = [];
  so_far = record {
    text = subst (HasPut x.start mid o) (header_so_far x c unprinted) (subst (λ z. HasPut z mid o (header_of (schema_of_reader c))) (sym start) h);
    walked = none_read x c unprinted;
    count = sym unprinted.block;
  };
  batches_are = refl;
  rows_are = refl;
}

-- or not
pub header_refused : (content : Option (List ℕ)) (c : FileCursor) (old new : Option (List ℕ)) (result : Result Summary IpcError) (e : IpcError) (faults faults' : ℕ) → result ≡ Err e → PutCause e faults faults' → AppendsPrefix old new (header_of (schema_of_reader c))
    → OfFile content c old (λ b x. PrintsFile result b x.request old new)
header_refused None c old new result e faults faults' is cause part = tt
header_refused (Some b) c old new result e faults faults' is cause part = λ x same start unprinted.
    let means = part_printed x c [] unprinted.by (none_read x c unprinted) (sym unprinted.block) in
    let text : AppendsPrefix x.start new (text_so_far x []) = subst (λ z. AppendsPrefix z new (text_so_far x [])) (sym start) (subst (AppendsPrefix old new) (header_so_far x c unprinted) part) in
    let here : PrintsFile (Err e) x.bytes x.request x.start new = not_put e x.bytes x.request x.start new faults faults' cause (text_stands x [] new means text) in
    subst (λ z. PrintsFile z b x.request old new) (sym is) (subst (λ z. PrintsFile (Err e) b x.request z new) start (subst (λ z. PrintsFile (Err e) z x.request x.start new) same here))

-- ── the batches ──

module _ (content : Option (List ℕ)) (c c' : FileCursor) (o o' : TextOut) (old mid new : Option (List ℕ)) (header : HasPut old mid o (header_of (schema_of_reader c))) where
  -- one is refused
  pub batches_refused : (result : Result Summary IpcError) (e : IpcError) → result ≡ Err e → FromStart c o mid content (λ x. PrintsAll (Err e) x c' o' new) → OfFile content c old (λ b x. PrintsFile result b x.request old new)
  batches_refused result e is h = by content h
    where
      by : (z : Option (List ℕ)) → FromStart c o mid z (λ x. PrintsAll (Err e) x c' o' new) → OfFile z c old (λ b x. PrintsFile result b x.request old new)
      by None h = tt
      by (Some b) h = λ x same start unprinted.
          let here : PrintsFile (Err e) x.bytes x.request x.start new = h x same unprinted.by (header_put x c o old mid start unprinted header) in
          subst (λ z. PrintsFile z b x.request old new) (sym is) (subst (λ z. PrintsFile (Err e) b x.request z new) start (subst (λ z. PrintsFile (Err e) z x.request x.start new) same here))

  -- all were printed
  pub table_printed : (s t : Summary) → t.batches ≡ s.batches → t.rows ≡ s.rows → t.bytes ≡ o'.bytes → c'.metadata ≡ c.metadata → c'.projection ≡ c.projection → FromStart c o mid content (λ x. PrintsAll (Ok s) x c' o' new)
      → OfFile content c old (λ b x. PrintsFile (Ok t) b x.request old new)
  table_printed s t batches rows bytes metadata projection h = by content h
    where
      with : (x : Sending) → IsPrintedBy c x → (r : PrintedRows x c' o' new s.batches s.rows) → length (meta_in x).blocks ≤ c'.block → Prints t x.bytes x.request x.start new
      with x is r end =
          let is' = printed_too c c' x metadata projection is in
          let means = whole_printed x c' r.table is' r.so_far.walked end in
          let read : file_reading to_read x.bytes x.request None ≡ Ok (table_sent (walking x) r.table) = sym (printed_is c' x None is') ∙ means in
          let text = table_is x r.table in
          record {
            text = record {
              table = table_sent (walking x) r.table;
              means = means_table x.bytes x.request (table_sent (walking x) r.table) read;
              flat = flat_is c' x is';
              added = subst (Appends x.start new) (sym text) r.so_far.text.added;
            };
            summary = record { batches = batches ∙ r.batches_are; rows = rows ∙ r.rows_are; bytes = bytes ∙ r.so_far.text.count ∙ ap length (sym text) };
          }

      by : (z : Option (List ℕ)) → FromStart c o mid z (λ x. PrintsAll (Ok s) x c' o' new) → OfFile z c old (λ b x. PrintsFile (Ok t) b x.request old new)
      by None h = tt
      by (Some b) h = λ x same start unprinted.
          let all = h x same unprinted.by (header_put x c o old mid start unprinted header) in
          subst (λ z. Prints t b x.request z new) start (subst (λ z. Prints t z x.request x.start new) same (with x unprinted.by all.0 all.1))

  -- what was fetched
  pub table_fetched : (to f f' : ℕ) → FromStart c o mid content (λ x. FetchesTo (walking x) c.block to f f') → OfFile content c old (λ b x. FetchesSome (walking x) f f')
  table_fetched to f f' h = by content h
    where
      by : (z : Option (List ℕ)) → FromStart c o mid z (λ x. FetchesTo (walking x) c.block to f f') → OfFile z c old (λ b x. FetchesSome (walking x) f f')
      by None h = tt
      by (Some b) h = λ x same start unprinted.
          let here = h x same unprinted.by (header_put x c o old mid start unprinted header) in
          some_fetched (walking x) c.block to f f' unprinted.block here

-- where nothing was read
pub none_begun : (content : Option (List ℕ)) (c : FileCursor) (old : Option (List ℕ)) (f : ℕ) → OfFile content c old (λ b x. FetchesSome (walking x) f f)
none_begun None c old f = tt
none_begun (Some b) c old f = λ x same start unprinted. none_fetched (walking x) f

-- ── a call's clauses ──

-- text of which nothing was written
pub nothing_put : (o : TextOut) (old : Option (List ℕ)) → text_of o.writer ≡ Some [] → o.bytes ≡ 0 → HasPut old old o []
nothing_put o old empty none = record { added = Appends-nil old; kept = empty; count = none }
