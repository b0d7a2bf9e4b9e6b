-- The next record batch of a file, read and then printed, or refused.
use Rattle.std.proofs.Common.{◌≡◌, ◌∙◌, sym, ap, subst, ℕ, ◌+◌, List, [], ◌∷◌, ◌++◌, length, append_assoc, append-nil, Option, Some, None, Result, Ok, Err}
use Rattle.std.specs.Prelude.{IfSome}
use Rattle.std.proofs.lemmas.List.{length-append}
use Rattle.arrow_spec.specs.declared.error.IpcError.{IpcError}
use Rattle.arrow_spec.specs.Files.{TableBatch, to_read}
use Rattle.arrow_arrays.specs.Batches.{Batch}
use Rattle.csv_texts.specs.Texts.{batch_text, batches_text, header_text}
use Rattle.csv_texts.proofs.Text.{batches-append}
use Rattle.laws_walk.specs.Below.{table_of, NextBatch, FileCursor}
use Rattle.csv_rows.specs.Output.{HasPut, PutCause, Puts, rows_of}
use Rattle.csv_rows.specs.declared.output.TextOut.{TextOut}
use Rattle.laws_walk.specs.Fetching.{FetchesTo}
use Rattle.laws_walk.specs.Places.{Sending, fields_in_request, walking}
use Rattle.laws_walk.proofs.Cursors.{Answer, answered, next_none as none_walked, next_refused as walk_refused, read_on, reads_too}
use Rattle.laws_walk.proofs.Fetched.{next_fetches as walk_fetches}
use Rattle.ipc_csv.specs.Printing.{IsPrintedBy, PrintedSoFar, PrintsNext, PrintsOne, Refused, text_so_far}
use Rattle.ipc_csv.proofs.Forms.{batch_is}
use Rattle.ipc_csv.proofs.Refusals.{behind_rows, not_of_sink, not_put, rows_stand, text_stands}
use Rattle.ipc_csv.proofs.States.{open_of, part_printed, printing_refused}

-- a reader of the same file and columns
pub printed_too : (c c' : FileCursor) (x : Sending) → c'.metadata ≡ c.metadata → c'.projection ≡ c.projection → IsPrintedBy c x → IsPrintedBy c' x
printed_too c c' x metadata projection is = record { by = reads_too c c' x metadata projection is.by; flat = is.flat }

-- ── a batch that was read ──

pub text_more : (x : Sending) (bs : List TableBatch) (y : TableBatch) → text_so_far x (bs ++ y ∷ []) ≡ text_so_far x bs ++ batch_text (fields_in_request x) y
text_more x bs y =
    let fs = fields_in_request x in
    ap (λ t. header_text fs ++ t) (batches-append fs bs (y ∷ []) ∙ ap (λ t. batches_text fs bs ++ t) (append-nil (batch_text fs y))) ∙ sym (append_assoc (header_text fs) (batches_text fs bs) (batch_text fs y))

module _ (x : Sending) (c c' : FileCursor) (y : Batch) (is : IsPrintedBy c x) (answer : Answer x c c' y) (o o' : TextOut) (now now' : Option (List ℕ)) (bs : List TableBatch) (s : PrintedSoFar x c o now bs) where
  count_more : length (bs ++ table_of y ∷ []) ≡ c'.block
  count_more = length-append bs (table_of y ∷ []) ∙ ap (λ n. n + 1) s.count ∙ sym answer.next

  whole_text : text_so_far x bs ++ rows_of y.arrays y.height ≡ text_so_far x (bs ++ table_of y ∷ [])
  whole_text = ap (λ t. text_so_far x bs ++ t) (batch_is x c y is.by.metadata is.by.columns answer.fields) ∙ sym (text_more x bs (table_of y))

  -- it is printed
  batch_printed : (rows : ℕ) → rows ≡ y.height → HasPut x.start now' o' (text_so_far x bs ++ rows_of y.arrays y.height) → PrintsOne x c' o' now' bs rows
  unfolding count_more whole_text
  batch_printed rows height put = record {
    batch = table_of y;
    height = height;
    so_far = record { text = subst (HasPut x.start now' o') whole_text put; walked = read_on x c c' y is.by answer bs s.walked; count = count_more };
  }

  -- or not
  batch_not_printed : (e : IpcError) (faults faults' : ℕ) → PutCause e faults faults' → ((start : Option (List ℕ)) (text : List ℕ) → HasPut start now o text → Puts {X = Unit {0}} start now' o' (text ++ rows_of y.arrays y.height) (Err e)) → Refused e x now'
  unfolding count_more whole_text
  batch_not_printed e faults faults' cause puts =
      let bs' = bs ++ table_of y ∷ [] in
      let means = part_printed x c' bs' (printed_too c c' x answer.metadata answer.projection is) (read_on x c c' y is.by answer bs s.walked) count_more in
      not_put e x.bytes x.request x.start now' faults faults' cause (text_stands x bs' now' means (subst (λ t. Puts {X = Unit {0}} x.start now' o' t (Err e)) whole_text (puts x.start (text_so_far x bs) s.text)))

-- ── calls ──

-- what is said of a call where the source's bytes are told
abbrev pub Told : Option (List ℕ) → FileCursor → TextOut → Option (List ℕ) → (Sending → List TableBatch → Type 0) → Type 0
Told content c o now P = IfSome content (λ b. (x : Sending) (bs : List TableBatch) → x.bytes ≡ b → IsPrintedBy c x → PrintedSoFar x c o now bs → P x bs)

tell : (content : Option (List ℕ)) (c : FileCursor) (o : TextOut) (now : Option (List ℕ)) (P : Sending → List TableBatch → Type 0)
    → ((x : Sending) (bs : List TableBatch) → content ≡ Some x.bytes → IsPrintedBy c x → PrintedSoFar x c o now bs → P x bs) → Told content c o now P
tell None c o now P h = tt
tell (Some b) c o now P h = λ x bs same is so_far. h x bs (ap Some (sym same)) is so_far

module _ {S : Type 0} (content_of : S → Option (List ℕ)) (faults_of fetched_of : S → ℕ) (references_of : S → List ℕ) (s s' : S) (c c' : FileCursor) (o : TextOut) (now : Option (List ℕ)) where
  abbrev Next : Option (Result Batch IpcError) → Type 0
  Next r = NextBatch content_of faults_of fetched_of references_of s s' c c' r

  -- there is none
  pub next_none : Next None → Told (content_of s) c o now (λ x bs. PrintsNext (Ok None) x c' o now bs)
  next_none n = tell (content_of s) c o now (λ x bs. PrintsNext (Ok None) x c' o now bs) λ x bs told is so_far.
      let both = none_walked content_of faults_of fetched_of references_of s s' c c' x is.by to_read bs n so_far.walked in
      (record { text = so_far.text; walked = both.0; count = so_far.count ∙ sym n.block }, both.1)

  -- it is refused
  pub next_refused : (r : Result (Option ℕ) IpcError) (e : IpcError) → r ≡ Err e → Next (Some (Err e)) → Told (content_of s) c o now (λ x bs. PrintsNext r x c' o now bs)
  next_refused r e is_err n = tell (content_of s) c o now (λ x bs. PrintsNext r x c' o now bs) λ x bs told is so_far.
      let stops = walk_refused content_of faults_of fetched_of references_of s s' c c' x is.by told to_read (open_of c x is) e bs n so_far.walked in
      let both = printing_refused e x c is (length bs) (rw so_far.count stops) in
      let means = part_printed x c bs is so_far.walked so_far.count in
      subst (λ z. PrintsNext z x c' o now bs) (sym is_err) (behind_rows e x.bytes x.request x.start now (not_of_sink e _ _ n.cause) both.0 (rows_stand x bs now means so_far.text.added) both.1)

  -- it was read and printed
  pub next_printed : (y : Batch) (rows : ℕ) (o' : TextOut) (now' : Option (List ℕ)) → rows ≡ y.height → Next (Some (Ok y)) → ((start : Option (List ℕ)) (text : List ℕ) → HasPut start now o text → HasPut start now' o' (text ++ rows_of y.arrays y.height))
      → Told (content_of s) c o now (λ x bs. PrintsNext (Ok (Some rows)) x c' o' now' bs)
  next_printed y rows o' now' height n puts = tell (content_of s) c o now (λ x bs. PrintsNext (Ok (Some rows)) x c' o' now' bs) λ x bs told is so_far.
      batch_printed x c c' y is (answered content_of faults_of fetched_of references_of s s' c c' x is.by told y n) o o' now now' bs so_far rows height (puts x.start (text_so_far x bs) so_far.text)

  -- or not
  pub next_not_printed : (y : Batch) (r : Result (Option ℕ) IpcError) (e : IpcError) (o' : TextOut) (now' : Option (List ℕ)) (faults faults' : ℕ) → r ≡ Err e → Next (Some (Ok y)) → PutCause e faults faults'
      → ((start : Option (List ℕ)) (text : List ℕ) → HasPut start now o text → Puts {X = Unit {0}} start now' o' (text ++ rows_of y.arrays y.height) (Err e)) → Told (content_of s) c o now (λ x bs. PrintsNext r x c' o' now' bs)
  next_not_printed y r e o' now' faults faults' is_err n cause puts = tell (content_of s) c o now (λ x bs. PrintsNext r x c' o' now' bs) λ x bs told is so_far.
      subst (λ z. PrintsNext z x c' o' now' bs) (sym is_err) (batch_not_printed x c c' y is (answered content_of faults_of fetched_of references_of s s' c c' x is.by told y n) o o' now now' bs so_far e faults faults' cause puts)

  -- what is fetched
  pub next_fetches : (r : Option (Result Batch IpcError)) → Next r → Told (content_of s) c o now (λ x bs. FetchesTo (walking x) c.block c'.block (fetched_of s) (fetched_of s'))
  next_fetches r n = tell (content_of s) c o now (λ x bs. FetchesTo (walking x) c.block c'.block (fetched_of s) (fetched_of s')) λ x bs told is so_far. walk_fetches content_of faults_of fetched_of references_of s s' c c' x is.by told to_read bs r n so_far.walked
