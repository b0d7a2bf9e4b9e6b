-- The arrays of a message that is taken from a feed.
use Rattle.std.proofs.Common.{◌≡◌, ◌∙◌, ℕ, List, drop, Bool, true, false, Option, Some, None, Result, Ok, Err, IfOk, IfSome, sym, ap, subst}
use Rattle.std.specs.Prelude.{nat_eq}
use Rattle.arrow_spec.specs.declared.error.IpcError.{IpcError}
use Rattle.arrow_spec.specs.Arrays.{Dictionaries}
use Rattle.arrow_spec.specs.Messages.{Message, RecordMessage, message_of, record_message}
use Rattle.arrow_spec.specs.Readings.{Reading, ◌>>=◌}
use Rattle.arrow_spec.specs.Schema.{Schema}
use Rattle.arrow_spec.specs.Streams.{Framed, Reader, body_in, stream_batch, stream_dictionary}
use Rattle.arrow_spec.proofs.Projection.{on}
use Rattle.arrow_arrays.specs.Batches.{Batch}
use Rattle.ipc_files.specs.Below.{AreAsked, dictionary_message, DictionaryTables, Held}
use Rattle.ipc_streams.specs.Arrays.{LeavesArrays, Left, MessageLeaves, arrays_in, arrays_read, held_behind, message_leaves}
use Rattle.ipc_streams.specs.Bodies.{GivesBody}
use Rattle.ipc_streams.specs.Heads.{is_taken}
use Rattle.ipc_streams.specs.Nexts.{GivesBatch, GivesValues}
use Rattle.ipc_streams.specs.declared.body.HeldBody.{HeldBody}
use Rattle.ipc_streams.proofs.TakenMessages.{body_found, framed, given_at, given_ok}

abbrev leaves_by : Schema → Held → Framed → Message → List ℕ → Bool → Reading Left
leaves_by s h f m body is_dictionary = elim is_dictionary as (λ t. Reading Left) [
  | true ↦ dictionary_message f.metadata >>= λ x. Ok (record { held = held_behind s h x body; arrays = None; rest = drop m.body f.behind })
  | false ↦ record_message f.metadata >>= λ r. Ok (record { held = h; arrays = Some (arrays_read s h r body); rest = drop m.body f.behind })
]

module _ (schema : Schema) (h : Held) (metadata b : List ℕ) (m : Message) (count : ℕ) (body : HeldBody) (rest rest' : Option (List ℕ)) (is : message_of metadata is_taken ≡ Ok m) (told : rest ≡ Some b) (same : m.body ≡ count) (gives : GivesBody rest rest' count (Ok body)) where
  leaves_is : (is_dictionary : Bool) → nat_eq m.tag 2 ≡ is_dictionary → message_leaves schema h (framed metadata b) ≡ leaves_by schema h (framed metadata b) m body.bytes.items is_dictionary
  unfolding message_leaves
  leaves_is is_dictionary tag =
      on (message_of metadata is_taken) _ m is ∙ on (body_in (framed metadata b) m) _ body.bytes.items (body_found metadata b m count body rest rest' told same gives)
      ∙ ap (leaves_by schema h (framed metadata b) m body.bytes.items) tag

  pub dictionary_leaves : (x : DictionaryTables) → nat_eq m.tag 2 ≡ true → dictionary_message metadata ≡ Ok x → message_leaves schema h (framed metadata b) ≡ Ok (record { held = held_behind schema h x body.bytes.items; arrays = None; rest = drop count b })
  dictionary_leaves x tag found =
      leaves_is true tag ∙ on (dictionary_message metadata) _ x found ∙ ap (λ n. Ok (record { held = held_behind schema h x body.bytes.items; arrays = None; rest = drop n b })) same

  pub batch_leaves : (r : RecordMessage) → nat_eq m.tag 2 ≡ false → record_message metadata ≡ Ok r → message_leaves schema h (framed metadata b) ≡ Ok (record { held = h; arrays = Some (arrays_read schema h r body.bytes.items); rest = drop count b })
  batch_leaves r tag found =
      leaves_is false tag ∙ on (record_message metadata) _ r found ∙ ap (λ n. Ok (record { held = h; arrays = Some (arrays_read schema h r body.bytes.items); rest = drop n b })) same

-- ── as the calls say it ──

module _ (s : Reader) (h : Held) (metadata : List ℕ) (m : Message) (count : ℕ) (body : HeldBody) (rest rest' : Option (List ℕ)) (is : message_of metadata is_taken ≡ Ok m) (same : m.body ≡ count) (gives : GivesBody rest rest' count (Ok body)) where
  pub values_leave : (schema : Schema) (h' : Held) (x : DictionaryTables) (result : Result (Unit {0}) IpcError) → s.schema ≡ schema → nat_eq m.tag 2 ≡ true → dictionary_message metadata ≡ Ok x → IfOk result (λ u. h' ≡ held_behind schema h x body.bytes.items)
      → IfOk result (λ u. IfSome rest (λ b. MessageLeaves s h (framed metadata b) h' None (drop count b)))
  values_leave schema h' x (Err e) one tag found held = tt
  values_leave schema h' x (Ok u) one tag found held = given_ok rest _ (λ b told.
      dictionary_leaves s.schema h metadata b m count body rest rest' is told same gives x tag found
      ∙ ap (λ (k : Held). Ok (record { held = k; arrays = None; rest = drop count b })) (ap (λ (c : Schema). held_behind c h x body.bytes.items) one ∙ sym held))

  pub rows_leave : (r : RecordMessage) (x y : Batch) → nat_eq m.tag 2 ≡ false → record_message metadata ≡ Ok r → y.arrays ≡ x.arrays → AreAsked (arrays_read s.schema h r body.bytes.items) s.columns x.arrays
      → IfSome rest (λ b. MessageLeaves s h (framed metadata b) h (Some y.arrays) (drop count b))
  rows_leave r x y tag found arrays asked = given_ok rest _ (λ b told. (
    arrays_read s.schema h r body.bytes.items,
    batch_leaves s.schema h metadata b m count body rest rest' is told same gives r tag found,
    subst (λ xs. AreAsked (arrays_read s.schema h r body.bytes.items) s.columns xs) (sym arrays) asked,
  ))

-- what stands behind its body
pub behind_batch : (s : Reader) (d : Dictionaries) (metadata : List ℕ) (m : Message) (count : ℕ) (rest rest' : Option (List ℕ)) (x : Batch) → IfSome rest (λ b. GivesBatch (drop count b) rest' (Ok x) (stream_batch s d (framed metadata b) m)) → (b : List ℕ) → rest ≡ Some b → rest' ≡ Some (drop count b)
behind_batch s d metadata m count rest rest' x gives b told = let here : GivesBatch (drop count b) rest' (Ok x) (stream_batch s d (framed metadata b) m) = given_at rest (λ c. GivesBatch (drop count c) rest' (Ok x) (stream_batch s d (framed metadata c) m)) b told gives in here.1

pub behind_values : (s : Reader) (d : Dictionaries) (metadata : List ℕ) (m : Message) (count : ℕ) (rest rest' : Option (List ℕ)) (h : Held) (u : Unit {0}) → IfSome rest (λ b. GivesValues d (drop count b) rest' h (Ok u) (stream_dictionary s d (framed metadata b) m)) → (b : List ℕ) → rest ≡ Some b → rest' ≡ Some (drop count b)
behind_values s d metadata m count rest rest' h u gives b told = let here : GivesValues d (drop count b) rest' h (Ok u) (stream_dictionary s d (framed metadata b) m) = given_at rest (λ c. GivesValues d (drop count c) rest' h (Ok u) (stream_dictionary s d (framed metadata c) m)) b told gives in here.2

-- what a message that was taken leaves, behind its body
pub leaves_behind : (s : Reader) (h h' : Held) (metadata : List ℕ) (count : ℕ) (rest rest' : Option (List ℕ)) (o : Option Batch) → ((b : List ℕ) → rest ≡ Some b → rest' ≡ Some (drop count b))
    → IfSome rest (λ b. MessageLeaves s h (framed metadata b) h' (arrays_in o) (drop count b)) → IfSome rest (λ b. LeavesArrays s h (framed metadata b) rest' h' o)
leaves_behind s h h' metadata count rest rest' o left leaves = given_ok rest _ (λ b told. (drop count b, left b told, given_at rest _ b told leaves))
