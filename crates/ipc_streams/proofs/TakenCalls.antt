-- What the calls that take a message say where they are refused.
use Rattle.std.proofs.Common.{◌≡◌, ◌∙◌, ℕ, ◌≤◌, List, [], true, false, Option, Some, None, Result, Ok, Err, IfOk, IfSome, ℤ, refl, sym, arith}
use Rattle.std.specs.Prelude.{drop, nat_eq}
use Rattle.std.proofs.Math.Logic.{∥∥₁_elim}
use Rattle.std.proofs.Props.{props}
use mathlib.Core.Bool.{Bool-set}
use Rattle.arrow_spec.specs.declared.error.IpcError.{IpcError}
use Rattle.arrow_spec.specs.declared.error.IpcError.TheVariants as errors
use Rattle.arrow_spec.specs.Arrays.{Dictionaries}
use Rattle.arrow_spec.specs.Features.{chosen_floats}
use Rattle.arrow_spec.specs.Kinds.{Kind}
use Rattle.arrow_spec.specs.Messages.{Message, message_of}
use Rattle.arrow_spec.specs.Readings.{Refuses, refusals}
use Rattle.arrow_spec.specs.Schema.{Schema}
use Rattle.arrow_spec.specs.Streams.{Reader, stream_batch, stream_dictionary}
use Rattle.arrow_arrays.specs.Batches.{Batch}
use Rattle.arrow_arrays.specs.Parts.{Forest}
use Rattle.ipc_io.specs.Outside.{LeavesFaults}
use Rattle.ipc_files.specs.Below.{Held, HasKind, HoldsCells, HasKindOf, values_of_id, held_in}
use Rattle.ipc_files.specs.FileViews.{FileCause}
use Rattle.ipc_files.proofs.ReadFiles.{of_err}
use Rattle.ipc_streams.specs.Feeds.{FeedKept}
use Rattle.ipc_streams.specs.Heads.{is_taken}
use Rattle.ipc_streams.specs.Nexts.{GivesBatch, GivesStep, GivesValues, KeepsColumns, TakesBatch, TakesDictionary, TakesMessage}
use Rattle.ipc_streams.specs.Readers.{IsReader}
use Rattle.ipc_streams.specs.Starts.{HoldsValues}
use Rattle.ipc_streams.specs.Steps.{step_within}
use Rattle.ipc_streams.specs.declared.cursor.StreamCursor.{StreamCursor}
use Rattle.ipc_streams.proofs.Pulled.{feed_kept_on}
use Rattle.ipc_streams.proofs.TakenMessages.{framed, given_err}

-- no value where a call was refused
pub no_value : {A : Type 0} (result : Result A IpcError) (e : IpcError) (P : A → Type 0) → result ≡ Err e → IfOk result P
no_value result e P is = rw is tt

-- what is held is of its values' kinds in one way
use_once : (o : Option Kind) (p : Option Forest) → IsProp (IfSome o (λ k. IfSome p (HasKind k)))
use_once None p = λ x y. refl
use_once (Some k) None = λ x y. refl
use_once (Some k) (Some parts) = Bool-set _ _

values_once : (s : Schema) (h : Held) → IsProp (HoldsValues s h)
values_once s h =
    let each : (id : ℤ) → IsProp (HasKindOf s.fields h id) = λ id. use_once (values_of_id s.fields id) (h id) in
    hlevel (props, each)

pub values_told : (s : Schema) (h : Held) → ∥ HoldsValues s h ∥₁ → HoldsValues s h
values_told s h told = ∥∥₁_elim told (values_once s h) (λ w. w)

module _ {F : Type 0} (rest_of : F → Option (List ℕ)) (faults_of : F → ℕ) (references_of : F → List ℕ) (f f' : F) (c c' : StreamCursor) (metadata : List ℕ) where
  pub batch_not_taken : (count : ℕ) (result : Result Batch IpcError) (e : IpcError) → result ≡ Err e → c'.dictionaries ≡ c.dictionaries → FileCause e (faults_of f) (faults_of f') → KeepsColumns rest_of faults_of references_of f f' c c'
      → ((s : Reader) (d : Dictionaries) (m : Message) (b : List ℕ) → IsReader c.columns s → HoldsCells d (held_in c.dictionaries) → chosen_floats s.columns s.schema.fields 0 ≡ [] → message_of metadata is_taken ≡ Ok m → nat_eq m.tag 2 ≡ false → m.body ≡ count → rest_of f ≡ Some b
      → Refuses e (refusals (stream_batch s d (framed metadata b) m)))
      → TakesBatch rest_of faults_of references_of f f' c c' metadata count result
  batch_not_taken count result e is same cause kept refused = record {
    gives = λ s d m reads holds floats found tag body. given_err (rest_of f) (λ b r. GivesBatch (drop count b) (rest_of f') r (stream_batch s d (framed metadata b) m)) result e is (λ b told. refused s d m b reads holds floats found tag body told);
    arrays = λ s d m reads holds floats found tag body. no_value result e _ is;
    dictionaries = same;
    schema = λ s reads. no_value result e _ is;
    cause = of_err result e _ is cause;
    faults_stay = no_value result e _ is;
    kept = kept;
  }

  pub values_not_taken : (count : ℕ) (result : Result (Unit {0}) IpcError) (e : IpcError) → result ≡ Err e → FileCause e (faults_of f) (faults_of f') → KeepsColumns rest_of faults_of references_of f f' c c'
      → ((s : Reader) (d : Dictionaries) (m : Message) (b : List ℕ) → IsReader c.columns s → HoldsCells d (held_in c.dictionaries) → message_of metadata is_taken ≡ Ok m → nat_eq m.tag 2 ≡ true → m.body ≡ count → rest_of f ≡ Some b → Refuses e (refusals (stream_dictionary s d (framed metadata b) m)))
      → TakesDictionary rest_of faults_of references_of f f' c c' metadata count result
  values_not_taken count result e is cause kept refused = record {
    gives = λ s d m reads holds found tag body. given_err (rest_of f) (λ b r. GivesValues d (drop count b) (rest_of f') (held_in c'.dictionaries) r (stream_dictionary s d (framed metadata b) m)) result e is (λ b told. refused s d m b reads holds found tag body told);
    held = λ s d m reads holds found tag body. no_value result e _ is;
    cause = of_err result e _ is cause;
    faults_stay = no_value result e _ is;
    kept = kept;
  }

  pub message_not_taken : (left : ℕ) (result : Result (Option Batch) IpcError) (e : IpcError) → result ≡ Err e → FileCause e (faults_of f) (faults_of f') → KeepsColumns rest_of faults_of references_of f f' c c'
      → ((s : Reader) (d : Dictionaries) (b : List ℕ) → IsReader c.columns s → HoldsCells d (held_in c.dictionaries) → rest_of f ≡ Some b → Refuses e (refusals (step_within left s d (framed metadata b))))
      → TakesMessage rest_of faults_of references_of f f' c c' metadata left result
  message_not_taken left result e is cause kept refused = record {
    gives = λ s d reads holds. given_err (rest_of f) (λ b r. GivesStep (rest_of f') (held_in c'.dictionaries) r (step_within left s d (framed metadata b))) result e is (λ b told. refused s d b reads holds told);
    arrays = λ s d reads holds. no_value result e _ is;
    room = λ none. let no : Err e ≡ Ok None = sym is ∙ none in cc;
    schema = λ s reads. no_value result e _ is;
    cause = of_err result e _ is cause;
    faults_stay = no_value result e _ is;
    kept = kept;
  }

-- ── one after another ──

-- a call leaves the faults where its feed stands as it stood
pub stays_by : {A : Type 0} (result : Result A IpcError) (n m : ℕ) → m ≡ n → LeavesFaults n m result
stays_by (Ok x) n m h = h
stays_by (Err e) n m h = tt

-- a cause that stood since a count was as high stood since it was lower
pub cause_since : (e : IpcError) (k n m : ℕ) → k ≤ n → FileCause e n m → FileCause e k m
cause_since (errors.OutOfSpec x) k n m h c = tt
cause_since (errors.Unsupported x) k n m h c = tt
cause_since (errors.TooMany x) k n m h c = tt
cause_since errors.TooDeep k n m h c = tt
cause_since errors.Memory k n m h c = tt
cause_since errors.ReadFault k n m h c = omega (arith, h, c)
cause_since e k n m h c = absurd c

pub keeps_feed : {F : Type 0} {rest_of : F → Option (List ℕ)} {faults_of : F → ℕ} {references_of : F → List ℕ} {f f1 f2 : F} {c c1 : StreamCursor} → KeepsColumns rest_of faults_of references_of f f1 c c1 → FeedKept faults_of references_of f1 f2 → KeepsColumns rest_of faults_of references_of f f2 c c1
keeps_feed h k = record { columns = h.columns; is_finished = h.is_finished; feed = feed_kept_on h.feed k }

pub keeps_on : {F : Type 0} {rest_of : F → Option (List ℕ)} {faults_of : F → ℕ} {references_of : F → List ℕ} {f f1 f2 : F} {c c1 c2 : StreamCursor} → KeepsColumns rest_of faults_of references_of f f1 c c1 → KeepsColumns rest_of faults_of references_of f1 f2 c1 c2 → KeepsColumns rest_of faults_of references_of f f2 c c2
keeps_on h k = record { columns = k.columns ∙ h.columns; is_finished = k.is_finished ∙ h.is_finished; feed = feed_kept_on h.feed k.feed }
