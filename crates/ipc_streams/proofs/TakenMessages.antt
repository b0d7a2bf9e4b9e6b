-- A dictionary or a batch that is taken from a feed.
use Rattle.std.proofs.Common.{◌≡◌, ◌∙◌, ℕ, ◌<◌, List, [], ◌∷◌, length, take, drop, true, false, Option, Some, None, Result, Ok, Err, IfSome, refl, sym, ap, subst}
use Rattle.std.specs.Prelude.{nat_eq, nat_le}
use Rattle.arrow_spec.specs.declared.error.IpcError.{IpcError}
use Rattle.arrow_spec.specs.declared.error.OutOfSpecKind.TheVariants.{Truncated}
use Rattle.arrow_spec.specs.Arrays.{Dictionaries, HeldDictionary}
use Rattle.arrow_spec.specs.Features.{chosen_floats}
use Rattle.arrow_spec.specs.Files.{TableBatch, dictionary_of}
use Rattle.arrow_spec.specs.Kinds.{Metadata}
use Rattle.arrow_spec.specs.Messages.{Message, RecordMessage, message_of, message_pairs, record_message}
use Rattle.arrow_spec.specs.Readings.{Reading, Refuses, bind, only_if, refusals}
use Rattle.arrow_spec.specs.Schema.{Schema}
use Rattle.arrow_spec.specs.Streams.{Framed, Reader, body_in, stream_batch, stream_dictionary}
use Rattle.arrow_spec.proofs.Projection.{on}
use Rattle.arrow_arrays.specs.Batches.{Batch}
use Rattle.ipc_fields.specs.Causes.{RefusesBytes}
use Rattle.ipc_fields.proofs.Steps.{refuses}
use Rattle.ipc_files.specs.Below.{DictionaryTables, dictionary_message, table_of, AddsDictionary, Held, HoldsCells}
use Rattle.ipc_files.proofs.BlockMessages.{refused_first}
use Rattle.ipc_streams.specs.Bodies.{GivesBody}
use Rattle.ipc_streams.specs.Heads.{is_taken}
use Rattle.ipc_streams.specs.Nexts.{GivesBatch, GivesStep, GivesValues}
use Rattle.ipc_streams.specs.Readers.{batch_read}
use Rattle.ipc_streams.specs.Steps.{step_within}
use Rattle.ipc_streams.specs.declared.body.HeldBody.{HeldBody}
use Rattle.ipc_streams.proofs.TakenSteps.{batch_by, batch_step, dictionary_by, dictionary_step, pairs_carried}

-- what a refusal refuses where bytes are told
pub given_err : {X : Type 0} (rest : Option (List ℕ)) (P : List ℕ → Result X IpcError → Type 0) (result : Result X IpcError) (e : IpcError) → result ≡ Err e → ((b : List ℕ) → rest ≡ Some b → P b (Err e)) → IfSome rest (λ b. P b result)
given_err None P result e is k = tt
given_err (Some b) P result e is k = subst (P b) (sym is) (k b refl)

pub given_ok : (rest : Option (List ℕ)) (P : List ℕ → Type 0) → ((b : List ℕ) → rest ≡ Some b → P b) → IfSome rest P
given_ok None P k = tt
given_ok (Some b) P k = k b refl

-- what is told of bytes that are told
pub given_at : (rest : Option (List ℕ)) (P : List ℕ → Type 0) (b : List ℕ) → rest ≡ Some b → IfSome rest P → P b
given_at None P b is h = cc
given_at (Some c) P b is h = let same : c ≡ b = cc in subst P same h

-- ── bodies ──

abbrev pub framed : List ℕ → List ℕ → Framed
framed metadata b = record { metadata = metadata; behind = b }

pub body_found : (metadata b : List ℕ) (m : Message) (count : ℕ) (body : HeldBody) (rest rest' : Option (List ℕ)) → rest ≡ Some b → m.body ≡ count → GivesBody rest rest' count (Ok body) → body_in (framed metadata b) m ≡ Ok body.bytes.items
unfolding body_in bind
body_found metadata b m count body rest rest' is same gives =
    let here : GivesBody (Some b) rest' count (Ok body) = subst (λ o. GivesBody o rest' count (Ok body)) is gives in
    ap (λ n. bind (only_if (nat_le n (length b)) Truncated) (λ whole. Ok (take n b))) same ∙ ap (λ t. bind (only_if t Truncated) (λ whole. Ok (take count b))) here.0 ∙ ap (λ x. Ok x) (sym here.1)

body_left : (b : List ℕ) (count : ℕ) (body : HeldBody) (rest rest' : Option (List ℕ)) → rest ≡ Some b → GivesBody rest rest' count (Ok body) → rest' ≡ Some (drop count b)
body_left b count body rest rest' is gives = let here : GivesBody (Some b) rest' count (Ok body) = subst (λ o. GivesBody o rest' count (Ok body)) is gives in here.2

body_refused : (metadata b : List ℕ) (m : Message) (count : ℕ) (e : IpcError) (rest rest' : Option (List ℕ)) → rest ≡ Some b → m.body ≡ count → GivesBody rest rest' count (Err e) → Refuses e (refusals (body_in (framed metadata b) m))
unfolding body_in
body_refused metadata b m count e rest rest' is same gives =
    let here : Refuses e (refusals (only_if (nat_le count (length b)) Truncated)) = subst (λ o. GivesBody o rest' count (Err e)) is gives in
    refused_first e (only_if (nat_le m.body (length b)) Truncated) (λ whole. Ok (take m.body b)) (subst (λ n. Refuses e (refusals (only_if (nat_le n (length b)) Truncated))) (sym same) here)

-- ── dictionaries ──

module _ (s : Reader) (d : Dictionaries) (metadata b : List ℕ) (m : Message) (is : message_of metadata is_taken ≡ Ok m) (tag : nat_eq m.tag 2 ≡ true) where
  abbrev values : Reading HeldDictionary
  values = stream_dictionary s d (framed metadata b) m

  behind_tables : (x : DictionaryTables) → dictionary_message metadata ≡ Ok x → values ≡ bind (body_in (framed metadata b) m) (λ body. dictionary_of s.schema d (length body) x.dictionary x.version body true)
  behind_tables x found = dictionary_by s d (framed metadata b) m is tag ∙ on (dictionary_message metadata) _ x found

  pub tables_refused : (e : IpcError) → RefusesBytes e (refusals (dictionary_message metadata)) → Refuses e (refusals values)
  tables_refused e h = subst (λ r. Refuses e (refusals r)) (sym (dictionary_by s d (framed metadata b) m is tag)) (refused_first e (dictionary_message metadata) _ (refuses e (refusals (dictionary_message metadata)) h))

  pub values_cut : (x : DictionaryTables) (count : ℕ) (e : IpcError) (rest rest' : Option (List ℕ)) → dictionary_message metadata ≡ Ok x → rest ≡ Some b → m.body ≡ count → GivesBody rest rest' count (Err e) → Refuses e (refusals values)
  values_cut x count e rest rest' found told same gives = subst (λ r. Refuses e (refusals r)) (sym (behind_tables x found)) (refused_first e (body_in (framed metadata b) m) _ (body_refused metadata b m count e rest rest' told same gives))

  behind_body : (x : DictionaryTables) (count : ℕ) (body : HeldBody) (rest rest' : Option (List ℕ)) → dictionary_message metadata ≡ Ok x → rest ≡ Some b → m.body ≡ count → GivesBody rest rest' count (Ok body)
      → values ≡ dictionary_of s.schema d (length body.bytes.items) x.dictionary x.version body.bytes.items true
  behind_body x count body rest rest' found told same gives = behind_tables x found ∙ on (body_in (framed metadata b) m) _ body.bytes.items (body_found metadata b m count body rest rest' told same gives)

  pub values_given : (schema : Schema) (x : DictionaryTables) (count : ℕ) (body : HeldBody) (rest rest' : Option (List ℕ)) (h : Held) (result : Result (Unit {0}) IpcError) → s.schema ≡ schema → dictionary_message metadata ≡ Ok x → rest ≡ Some b → m.body ≡ count → GivesBody rest rest' count (Ok body)
      → AddsDictionary d h result (dictionary_of schema d (length body.bytes.items) x.dictionary x.version body.bytes.items true) → GivesValues d (drop count b) rest' h result values
  values_given schema x count body rest rest' h (Ok u) one found told same gives adds =
      let added = adds.ok in
      (added.0, behind_body x count body rest rest' found told same gives ∙ ap (λ c. dictionary_of c d (length body.bytes.items) x.dictionary x.version body.bytes.items true) one ∙ added.1, body_left b count body rest rest' told gives, added.2)
  values_given schema x count body rest rest' h (Err e) one found told same gives adds =
      subst (λ r. Refuses e (refusals r)) (sym (behind_body x count body rest rest' found told same gives ∙ ap (λ c. dictionary_of c d (length body.bytes.items) x.dictionary x.version body.bytes.items true) one)) adds.err

-- ── batches ──

module _ (s : Reader) (d : Dictionaries) (metadata b : List ℕ) (m : Message) (is : message_of metadata is_taken ≡ Ok m) (tag : nat_eq m.tag 2 ≡ false) where
  abbrev rows : Reading TableBatch
  rows = stream_batch s d (framed metadata b) m

  abbrev behind_pairs : RecordMessage → Metadata → Reading TableBatch
  behind_pairs r custom = bind (body_in (framed metadata b) m) (λ body. batch_read s d r.version custom r.tables body)

  pub header_refused : (e : IpcError) → RefusesBytes e (refusals (record_message metadata)) → Refuses e (refusals rows)
  header_refused e h = subst (λ r. Refuses e (refusals r)) (sym (batch_by s d (framed metadata b) m is tag)) (refused_first e (record_message metadata) _ (refuses e (refusals (record_message metadata)) h))

  behind_header : (r : RecordMessage) → record_message metadata ≡ Ok r → rows ≡ bind (message_pairs metadata) (λ custom. behind_pairs r custom)
  behind_header r found = batch_by s d (framed metadata b) m is tag ∙ on (record_message metadata) _ r found

  pub pairs_refused : (r : RecordMessage) (e : IpcError) → record_message metadata ≡ Ok r → RefusesBytes e (refusals (message_pairs metadata)) → Refuses e (refusals rows)
  pairs_refused r e found h = subst (λ w. Refuses e (refusals w)) (sym (behind_header r found)) (refused_first e (message_pairs metadata) _ (refuses e (refusals (message_pairs metadata)) h))

  behind_custom : (r : RecordMessage) (custom : Metadata) → record_message metadata ≡ Ok r → message_pairs metadata ≡ Ok custom → rows ≡ behind_pairs r custom
  behind_custom r custom found paired = behind_header r found ∙ on (message_pairs metadata) (λ c. behind_pairs r c) custom paired

  pub rows_cut : (r : RecordMessage) (custom : Metadata) (count : ℕ) (e : IpcError) (rest rest' : Option (List ℕ)) → record_message metadata ≡ Ok r → message_pairs metadata ≡ Ok custom → rest ≡ Some b → m.body ≡ count → GivesBody rest rest' count (Err e) → Refuses e (refusals rows)
  rows_cut r custom count e rest rest' found paired told same gives =
      subst (λ w. Refuses e (refusals w)) (sym (behind_custom r custom found paired)) (refused_first e (body_in (framed metadata b) m) _ (body_refused metadata b m count e rest rest' told same gives))

  behind_rows : (r : RecordMessage) (custom : Metadata) (count : ℕ) (body : HeldBody) (rest rest' : Option (List ℕ)) → record_message metadata ≡ Ok r → message_pairs metadata ≡ Ok custom → rest ≡ Some b → m.body ≡ count → GivesBody rest rest' count (Ok body)
      → rows ≡ bind (batch_read s d r.version [] r.tables body.bytes.items) (λ t. Ok (record { rows = t.rows; columns = t.columns; custom = custom }))
  behind_rows r custom count body rest rest' found paired told same gives =
      behind_custom r custom found paired ∙ on (body_in (framed metadata b) m) (λ x. batch_read s d r.version custom r.tables x) body.bytes.items (body_found metadata b m count body rest rest' told same gives) ∙ pairs_carried _ r.version custom r.tables body.bytes.items

  pub rows_refused : (r : RecordMessage) (custom : Metadata) (count : ℕ) (body : HeldBody) (e : IpcError) (rest rest' : Option (List ℕ)) → record_message metadata ≡ Ok r → message_pairs metadata ≡ Ok custom → rest ≡ Some b → m.body ≡ count → GivesBody rest rest' count (Ok body)
      → Refuses e (refusals (batch_read s d r.version [] r.tables body.bytes.items)) → Refuses e (refusals rows)
  rows_refused r custom count body e rest rest' found paired told same gives h =
      subst (λ w. Refuses e (refusals w)) (sym (behind_rows r custom count body rest rest' found paired told same gives)) (refused_first e (batch_read s d r.version [] r.tables body.bytes.items) _ h)

  pub rows_given : (r : RecordMessage) (custom : Metadata) (count : ℕ) (body : HeldBody) (x y : Batch) (rest rest' : Option (List ℕ)) → record_message metadata ≡ Ok r → message_pairs metadata ≡ Ok custom → rest ≡ Some b → m.body ≡ count → GivesBody rest rest' count (Ok body)
      → batch_read s d r.version [] r.tables body.bytes.items ≡ Ok (table_of x) → table_of y ≡ record { rows = (table_of x).rows; columns = (table_of x).columns; custom = custom } → GivesBatch (drop count b) rest' (Ok y) rows
  rows_given r custom count body x y rest rest' found paired told same gives read with_pairs = (
    behind_rows r custom count body rest rest' found paired told same gives ∙ on (batch_read s d r.version [] r.tables body.bytes.items) (λ t. Ok (record { rows = t.rows; columns = t.columns; custom = custom })) (table_of x) read ∙ ap (λ t. Ok t) (sym with_pairs),
    body_left b count body rest rest' told gives,
  )

-- ── steps ──

pub step_of_batch : (left : ℕ) (s : Reader) (d : Dictionaries) (metadata b : List ℕ) (m : Message) (count : ℕ) (rest' : Option (List ℕ)) (h : Held) (x : Batch) → chosen_floats s.columns s.schema.fields 0 ≡ [] → message_of metadata is_taken ≡ Ok m → nat_eq m.tag 2 ≡ false → m.body ≡ count → HoldsCells d h
    → GivesBatch (drop count b) rest' (Ok x) (stream_batch s d (framed metadata b) m) → GivesStep rest' h (Ok (Some x)) (step_within left s d (framed metadata b))
step_of_batch left s d metadata b m count rest' h x floats is tag same holds gives =
    (d, drop count b, batch_step left s d (framed metadata b) m floats is tag ∙ on (stream_batch s d (framed metadata b) m) _ (table_of x) gives.0 ∙ ap (λ n. Ok (record { dictionaries = d; batch = table_of x ∷ []; rest = drop n b })) same, gives.1, holds)

pub batch_refuses : (left : ℕ) (s : Reader) (d : Dictionaries) (metadata b : List ℕ) (m : Message) (e : IpcError) → chosen_floats s.columns s.schema.fields 0 ≡ [] → message_of metadata is_taken ≡ Ok m → nat_eq m.tag 2 ≡ false → Refuses e (refusals (stream_batch s d (framed metadata b) m)) → Refuses e (refusals (step_within left s d (framed metadata b)))
batch_refuses left s d metadata b m e floats is tag h = subst (λ r. Refuses e (refusals r)) (sym (batch_step left s d (framed metadata b) m floats is tag)) (refused_first e (stream_batch s d (framed metadata b) m) _ h)

pub step_of_values : (left : ℕ) (s : Reader) (d : Dictionaries) (metadata b : List ℕ) (m : Message) (count : ℕ) (rest' : Option (List ℕ)) (h : Held) (u : Unit {0}) → chosen_floats s.columns s.schema.fields 0 ≡ [] → message_of metadata is_taken ≡ Ok m → nat_eq m.tag 2 ≡ true → m.body ≡ count → 0 < left
    → GivesValues d (drop count b) rest' h (Ok u) (stream_dictionary s d (framed metadata b) m) → GivesStep rest' h (Ok None) (step_within left s d (framed metadata b))
step_of_values left s d metadata b m count rest' h u floats is tag same room gives =
    (gives.0 ∷ d, drop count b, dictionary_step left s d (framed metadata b) m floats is tag room ∙ on (stream_dictionary s d (framed metadata b) m) _ gives.0 gives.1 ∙ ap (λ n. Ok (record { dictionaries = gives.0 ∷ d; batch = []; rest = drop n b })) same, gives.2, gives.3)

pub values_refuse : (left : ℕ) (s : Reader) (d : Dictionaries) (metadata b : List ℕ) (m : Message) (e : IpcError) → chosen_floats s.columns s.schema.fields 0 ≡ [] → message_of metadata is_taken ≡ Ok m → nat_eq m.tag 2 ≡ true → 0 < left → Refuses e (refusals (stream_dictionary s d (framed metadata b) m)) → Refuses e (refusals (step_within left s d (framed metadata b)))
values_refuse left s d metadata b m e floats is tag room h = subst (λ r. Refuses e (refusals r)) (sym (dictionary_step left s d (framed metadata b) m floats is tag room)) (refused_first e (stream_dictionary s d (framed metadata b) m) _ h)
