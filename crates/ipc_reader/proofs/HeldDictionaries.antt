-- The dictionaries that a cursor keeps, and what a call gives by them.
use mathlib.Core.Bool.{Bool-set}
use Rattle.std.proofs.Common.{◌≡◌, ℕ, ◌≤◌, ◌<◌, List, [], length, false, Option, Some, None, Result, Ok, Err, IfErr, IfOk, IfSome, ℤ, refl, sym, ap, ◌∙◌, subst, rules}
use Rattle.std.proofs.Math.Logic.{∥∥₁_elim}
use Rattle.std.proofs.Props.{props}
use Rattle.arrow_spec.specs.declared.error.IpcError.{IpcError}
use Rattle.arrow_spec.specs.declared.error.IpcError.TheVariants as errors
use Rattle.arrow_spec.specs.declared.message.Block.{Block}
use Rattle.arrow_spec.specs.Arrays.{Dictionaries}
use Rattle.arrow_spec.specs.Features.{chosen_floats}
use Rattle.arrow_spec.specs.Files.{FileBlock, Meta, Request}
use Rattle.arrow_spec.specs.Kinds.{Kind}
use Rattle.arrow_spec.specs.Readings.{Gives, IsAmong, Refuses, bind, free_of, refusals}
use Rattle.arrow_spec.proofs.Projection.{on}
use Rattle.arrow_arrays.specs.Batches.{Batch}
use Rattle.arrow_arrays.specs.Parts.{Forest}
use Rattle.ipc_io.specs.Outside.{LeavesFaults}
use Rattle.ipc_files.specs.Below.{Held, HasKind, IsRefusal, HoldsCells, HasKindOf, values_of_id, table_of, held_in}
use Rattle.ipc_files.specs.Blocks.{BatchRead, batch_in}
use Rattle.ipc_files.specs.Fetching.{BlockFetched}
use Rattle.ipc_files.specs.FileDictionaries.{DictionariesFetched, HoldsUses, ReadsDictionaries, dictionaries_given}
use Rattle.ipc_files.specs.FileViews.{FileCause, meta_view}
use Rattle.ipc_files.specs.declared.metadata.FileMetadata.{FileMetadata}
use Rattle.ipc_files.proofs.BlockMessages.{refused_first}
use Rattle.ipc_files.proofs.FetchedDictionaries.{first_fetched, first_stopped}
use Rattle.ipc_files.proofs.ReadBatches.{refused_place}
use Rattle.ipc_reader.specs.Kept.{FetchedBy, GivesBy, GivesHeld, HeldParts, HoldsFile, IsRefusedBy, KeepsFile, KeepsUses, KeptAfter, ReadUnderKept, dictionaries_in, first_in, is_refused}
use Rattle.ipc_reader.specs.declared.kept.KeptDictionaries.{KeptDictionaries}
use Rattle.ipc_reader.specs.declared.kept.KeptDictionaries.TheVariants as kept

-- ── what is held is of the kinds of its uses ──

-- that is so in one way
use_once : (o : Option Kind) (p : Option Forest) → IsProp (IfSome o (λ k. IfSome p (HasKind k)))
use_once None p = λ x y. refl
use_once (Some k) None = λ x y. refl
use_once (Some k) (Some parts) = Bool-set _ _

uses_once : (meta : Meta) (h : Held) → IsProp (HoldsUses meta h)
uses_once meta h =
    let each : (id : ℤ) → IsProp (HasKindOf meta.schema.fields h id) = λ id. use_once (values_of_id meta.schema.fields id) (h id) in
    hlevel (props, each)

pub held_uses : (meta : Meta) (k : KeptDictionaries) (m : HeldParts) → k ≡ kept.Held m → ∥ KeepsUses meta k ∥₁ → HoldsUses meta (held_in m)
held_uses meta k m is h = ∥∥₁_elim (subst (λ q. ∥ KeepsUses meta q ∥₁) is h) (uses_once meta (held_in m)) (λ w. w)

-- where nothing is held nothing is of another kind
pub not_held_uses : (meta : Meta) (k : KeptDictionaries) → k ≡ kept.NotRead → KeepsUses meta k
not_held_uses meta k is = subst (KeepsUses meta) (sym is) tt

-- what is neither held nor refused was not read
pub is_not_read : (k : KeptDictionaries) → is_refused k ≡ false → ((m : HeldParts) → k ≡ kept.Held m → ⊥) → k ≡ kept.NotRead
is_not_read kept.NotRead live held = refl
is_not_read (kept.Held m) live held = absurd (held m refl)
is_not_read kept.Refused live held = cc

-- a refusal gives nothing
pub ok_none : {X : Type 0} (result : Result X IpcError) (e : IpcError) (P : X → Type 0) → result ≡ Err e → IfOk result P
ok_none result e P is = subst (λ q. IfOk q P) (sym is) tt

-- nor does it say anything of the faults
pub err_stays : {X : Type 0} (result : Result X IpcError) (e : IpcError) (f f' : ℕ) → result ≡ Err e → LeavesFaults f f' result
err_stays result e f f' is = subst (λ q. LeavesFaults f f' q) (sym is) tt

-- a call behind one that left the faults leaves them since that call
pub stays_since : {X : Type 0} (result : Result X IpcError) (f mid f' : ℕ) → mid ≡ f → LeavesFaults mid f' result → LeavesFaults f f' result
stays_since (Ok x) f mid f' h stays = stays ∙ h
stays_since (Err e) f mid f' h stays = tt

-- a fault behind a call before it is one since that call
pub cause_since : (result : Result Batch IpcError) (f mid f' : ℕ) → f ≤ mid → IfErr result (λ e. FileCause e mid f') → IfErr result (λ e. FileCause e f f')
cause_since result f mid f' h cause = search rules

-- ── the dictionaries are read ──

-- the features of the columns are refused
pub kinds_stop : (content : Option (List ℕ)) (file : FileMetadata) (columns : Option (List ℕ)) (result : Result HeldParts IpcError) (e : IpcError) → result ≡ Err e → Refuses e (chosen_floats columns (meta_view file).schema.fields 0) → IfSome content (λ b. GivesHeld result (dictionaries_in columns b file))
unfolding dictionaries_in
kinds_stop None file columns result e is refused = tt
kinds_stop (Some b) file columns result e is refused =
    let fs = (meta_view file).schema.fields in
    subst (λ r. GivesHeld r (dictionaries_in columns b file)) (sym is) (refused_first e (free_of (chosen_floats columns fs 0)) (λ _. dictionaries_given b (meta_view file) [] file.dictionaries.items) (refused_place e (chosen_floats columns fs 0) refused))

-- what only the bytes refuse is one of the refusals
among_of : (e : IpcError) (es : List IpcError) → IsRefusal e → Refuses e es → IsAmong es e
among_of (errors.OutOfSpec kind) es plain h = h
among_of (errors.Unsupported feature) es plain h = h
among_of e es plain h = absurd plain

pub kinds_kept : (content : Option (List ℕ)) (file : FileMetadata) (columns : Option (List ℕ)) (after : KeptDictionaries) (result : Result HeldParts IpcError) (e : IpcError) → after ≡ kept.NotRead → result ≡ Err e → IsRefusal e → Refuses e (chosen_floats columns (meta_view file).schema.fields 0)
    → IfErr result (λ _. KeptAfter content file columns kept.NotRead after result)
kinds_kept content file columns after result e k is plain refused =
    let here : KeptAfter {X = HeldParts} content file columns kept.NotRead kept.NotRead (Err e) = among_of e (chosen_floats columns (meta_view file).schema.fields 0) plain refused in
    subst (λ q. IfErr result (λ _. KeptAfter content file columns kept.NotRead q result)) (sym k) (subst (λ r. IfErr r (λ _. KeptAfter content file columns kept.NotRead kept.NotRead r)) (sym is) here)

-- behind the features of the columns
behind_kinds : (columns : Option (List ℕ)) (b : List ℕ) (file : FileMetadata) → chosen_floats columns (meta_view file).schema.fields 0 ≡ [] → dictionaries_in columns b file ≡ dictionaries_given b (meta_view file) [] file.dictionaries.items
unfolding dictionaries_in bind
behind_kinds columns b file floats = let place : free_of (chosen_floats columns (meta_view file).schema.fields 0) ≡ Ok tt = ap free_of floats in rw place refl

pub all_held : (content : Option (List ℕ)) (file : FileMetadata) (columns : Option (List ℕ)) (m : HeldParts) → chosen_floats columns (meta_view file).schema.fields 0 ≡ [] → IfSome content (λ b. ReadsDictionaries b (meta_view file) file.dictionaries.items (Ok m)) → IfSome content (λ b. GivesHeld (Ok m) (dictionaries_in columns b file))
all_held None file columns m floats read = tt
all_held (Some b) file columns m floats read = (read.ok.0, behind_kinds columns b file floats ∙ read.ok.1, read.ok.2)

pub dictionaries_stop : (content : Option (List ℕ)) (file : FileMetadata) (columns : Option (List ℕ)) (e : IpcError) → chosen_floats columns (meta_view file).schema.fields 0 ≡ [] → IfSome content (λ b. ReadsDictionaries b (meta_view file) file.dictionaries.items (Err e)) → IfSome content (λ b. GivesHeld (Err e) (dictionaries_in columns b file))
dictionaries_stop None file columns e floats read = tt
dictionaries_stop (Some b) file columns e floats read = subst (λ r. Refuses e (refusals r)) (sym (behind_kinds columns b file floats)) read.err

pub dictionaries_kept : (content : Option (List ℕ)) (file : FileMetadata) (columns : Option (List ℕ)) (e : IpcError) → 0 < length file.dictionaries.items → IfSome content (λ b. ReadsDictionaries b (meta_view file) file.dictionaries.items (Err e)) → KeptAfter {X = HeldParts} content file columns kept.NotRead kept.Refused (Err e)
dictionaries_kept None file columns e some read = (some, tt)
dictionaries_kept (Some b) file columns e some read = (some, read.err)

-- ── the batch ──

-- where they are refused the first batch is
first_refused : (b : List ℕ) (r : Request) (file : FileMetadata) (block : Block) (e : IpcError) → Refuses e (refusals (dictionaries_in r.columns b file)) → Refuses e (refusals (first_in r b file block))
unfolding first_in
first_refused b r file block e h = refused_first e (dictionaries_in r.columns b file) (λ d. batch_in r b (meta_view file) d block) h

pub batch_stops : (content : Option (List ℕ)) (k : KeptDictionaries) (r : Request) (file : FileMetadata) (block : Block) (e : IpcError) (result : Result Batch IpcError) → is_refused k ≡ false → result ≡ Err e → ((m : HeldParts) → k ≡ kept.Held m → Err e ≡ Ok m)
    → (k ≡ kept.NotRead → IfSome content (λ b. GivesHeld (Err e) (dictionaries_in r.columns b file))) → IfSome content (λ b. GivesBy k r b file block result)
batch_stops None k r file block e result live is held first = tt
batch_stops (Some b) kept.Refused r file block e result live is held first = cc
batch_stops (Some b) (kept.Held m) r file block e result live is held first = let no = held m refl in cc
batch_stops (Some b) kept.NotRead r file block e result live is held first = subst (λ q. Gives table_of q (first_in r b file block)) (sym is) (first_refused b r file block e (first refl))

-- and else it is read under them
first_read : (b : List ℕ) (r : Request) (file : FileMetadata) (block : Block) (d : Dictionaries) → dictionaries_in r.columns b file ≡ Ok d → batch_in r b (meta_view file) d block ≡ first_in r b file block
unfolding first_in
first_read b r file block d is = sym (on (dictionaries_in r.columns b file) (λ x. batch_in r b (meta_view file) x block) d is)

pub batch_goes : (content after : Option (List ℕ)) (k : KeptDictionaries) (r : Request) (file : FileMetadata) (block : Block) (m : HeldParts) (result : Result Batch IpcError) → is_refused k ≡ false → after ≡ content → ((n : HeldParts) → k ≡ kept.Held n → ◌≡◌ {A = Result HeldParts IpcError} (Ok m) (Ok n))
    → (k ≡ kept.NotRead → IfSome content (λ b. GivesHeld (Ok m) (dictionaries_in r.columns b file))) → IfSome after (λ b. (d : Dictionaries) → HoldsCells d (held_in m) → Gives table_of result (batch_in r b (meta_view file) d block)) → IfSome content (λ b. GivesBy k r b file block result)
batch_goes None after k r file block m result live same held first gives = tt
batch_goes (Some b) after kept.Refused r file block m result live same held first gives = cc
batch_goes (Some b) after (kept.Held n) r file block m result live same held first gives =
    let one : m ≡ n = let e = held n refl in cc in
    subst (λ q. (d : Dictionaries) → HoldsCells d (held_in q) → Gives table_of result (batch_in r b (meta_view file) d block)) one (subst (λ o. IfSome o (λ b. (d : Dictionaries) → HoldsCells d (held_in m) → Gives table_of result (batch_in r b (meta_view file) d block))) same gives)
batch_goes (Some b) after kept.NotRead r file block m result live same held first gives =
    let here = subst (λ o. IfSome o (λ b. (d : Dictionaries) → HoldsCells d (held_in m) → Gives table_of result (batch_in r b (meta_view file) d block))) same gives in
    let read = first refl in
    subst (Gives table_of result) (first_read b r file block read.0 read.1) (here read.0 read.2)

pub read_goes : (content after : Option (List ℕ)) (r : Request) (meta : Meta) (block : FileBlock) (m : HeldParts) (result : Result Batch IpcError) → after ≡ content → IfOk result (λ x. IfSome after (λ b. BatchRead b (held_in m) meta r block x))
    → IfOk result (ReadUnderKept content meta r block (kept.Held m))
read_goes content after r meta block m (Ok x) same read = (m, refl, subst (λ o. IfSome o (λ b. BatchRead b (held_in m) meta r block x)) same read)
read_goes content after r meta block m (Err e) same read = tt

-- ── what is kept behind it ──

pub file_held : (content : Option (List ℕ)) (file : FileMetadata) (m : HeldParts) → IfSome content (λ b. ReadsDictionaries b (meta_view file) file.dictionaries.items (Ok m)) → IfSome content (λ b. HoldsFile b (meta_view file) m)
file_held None file m read = tt
file_held (Some b) file m read = (read.said.0, read.said.1, read.said.2, read.steps read.said.0 read.said.1)

pub file_kept : (content : Option (List ℕ)) (meta : Meta) (m : HeldParts) → IfSome content (λ b. HoldsFile b meta m) → KeepsFile content meta (kept.Held m)
file_kept content meta m held = λ n is. let one : m ≡ n = cc in subst (λ q. IfSome content (λ b. HoldsFile b meta q)) one held

-- what was not read, or is refused, is not held
pub not_read_left : (k : KeptDictionaries) (m : HeldParts) → k ≡ kept.NotRead → k ≡ kept.Held m → ⊥
not_read_left k m is held = cc

refused_by : (result : Result Batch IpcError) (e : IpcError) (P : IpcError → Type 0) → result ≡ Err e → P e → IsRefusedBy result P
refused_by result e P is h = subst (λ z. IsRefusedBy z P) (sym is) h

refused_kept : (content : Option (List ℕ)) (file : FileMetadata) (columns : Option (List ℕ)) (after : KeptDictionaries) (e : IpcError) (result : Result Batch IpcError) → result ≡ Err e → KeptAfter {X = HeldParts} content file columns kept.NotRead after (Err e) → KeptAfter content file columns kept.NotRead after result
refused_kept content file columns kept.NotRead e result is h = refused_by result e (λ e. IsAmong (chosen_floats columns (meta_view file).schema.fields 0) e) is h
refused_kept content file columns (kept.Held m) e result is h = h
refused_kept content file columns kept.Refused e result is h = (h.0, refused_by result e (λ e. IfSome content (λ b. Refuses e (refusals (dictionaries_given b (meta_view file) [] file.dictionaries.items)))) is h.1)

pub stops_kept : (content : Option (List ℕ)) (file : FileMetadata) (columns : Option (List ℕ)) (k after : KeptDictionaries) (e : IpcError) (result : Result Batch IpcError) → is_refused k ≡ false → result ≡ Err e → ((m : HeldParts) → k ≡ kept.Held m → Err e ≡ Ok m)
    → (k ≡ kept.NotRead → KeptAfter {X = HeldParts} content file columns kept.NotRead after (Err e)) → KeptAfter content file columns k after result
stops_kept content file columns kept.Refused after e result live is held first = cc
stops_kept content file columns (kept.Held m) after e result live is held first = let no = held m refl in cc
stops_kept content file columns kept.NotRead after e result live is held first = refused_kept content file columns after e result is (first refl)

pub goes_kept : (content : Option (List ℕ)) (file : FileMetadata) (columns : Option (List ℕ)) (k : KeptDictionaries) (m : HeldParts) (result : Result Batch IpcError) → is_refused k ≡ false → ((n : HeldParts) → k ≡ kept.Held n → ◌≡◌ {A = Result HeldParts IpcError} (Ok m) (Ok n))
    → (k ≡ kept.NotRead → IfSome content (λ b. GivesHeld (Ok m) (dictionaries_in columns b file))) → KeptAfter content file columns k (kept.Held m) result
goes_kept content file columns kept.Refused m result live held first = cc
goes_kept content file columns (kept.Held n) m result live held first = let one : m ≡ n = let e = held n refl in cc in ap kept.Held one
goes_kept content file columns kept.NotRead m result live held first = first refl

-- where they are held they do not end the reader
pub goes_on : (m : HeldParts) → kept.Held m ≡ kept.Refused → ⊥
goes_on m is = cc

-- ── what is fetched ──

pub fetched_stopping : (content : Option (List ℕ)) (k : KeptDictionaries) (meta : Meta) (r : Request) (block : FileBlock) (left : Option ℕ) (f f' : ℕ) (e : IpcError) → ((m : HeldParts) → k ≡ kept.Held m → Err e ≡ Ok m) → (k ≡ kept.NotRead → DictionariesFetched content meta f f') → FetchedBy k content meta r block left f f'
fetched_stopping content kept.Refused meta r block left f f' e held first = tt
fetched_stopping content (kept.Held m) meta r block left f f' e held first = let no = held m refl in cc
fetched_stopping content kept.NotRead meta r block left f f' e held first = first_stopped content meta r block left f f' (first refl)

pub fetched_going : (content after : Option (List ℕ)) (k : KeptDictionaries) (meta : Meta) (r : Request) (block : FileBlock) (left : Option ℕ) (f mid f' : ℕ) → after ≡ content → (k ≡ kept.NotRead → DictionariesFetched content meta f mid) → ((m : HeldParts) → k ≡ kept.Held m → mid ≡ f)
    → BlockFetched after meta r block left mid f' → FetchedBy k content meta r block left f f'
fetched_going content after kept.Refused meta r block left f mid f' same first stays one = tt
fetched_going content after (kept.Held m) meta r block left f mid f' same first stays one = subst (λ n. BlockFetched content meta r block left n f') (stays m refl) (subst (λ o. BlockFetched o meta r block left mid f') same one)
fetched_going content after kept.NotRead meta r block left f mid f' same first stays one = first_fetched content after meta r block left f mid f' same (first refl) one
