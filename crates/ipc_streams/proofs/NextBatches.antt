-- The messages of a stream up to its next batch, one after another.
use Rattle.std.proofs.Common.{◌≡◌, ◌∙◌, ℕ, zero, suc, List, [], ◌∷◌, length, drop, Bool, true, false, Option, Some, None, Result, Ok, Err, IfSome, refl, sym, ap, subst, Vec, Global}
use Rattle.std.specs.Prelude.{nat_lt, if◌then◌else◌}
use Rattle.arrow_spec.specs.declared.error.IpcError.{IpcError}
use Rattle.arrow_spec.specs.declared.error.IpcError.TheVariants.{TooMany}
use Rattle.arrow_spec.specs.declared.error.Counted.TheVariants as counted
use Rattle.arrow_spec.specs.Arrays.{Dictionaries}
use Rattle.arrow_spec.specs.Files.{TableBatch}
use Rattle.arrow_spec.specs.Readings.{Reading, Refuses, ◌>>=◌, refuse, refusals}
use Rattle.arrow_spec.specs.Streams.{Framed, Reader, Step, next_message}
use Rattle.arrow_spec.proofs.Projection.{on}
use Rattle.arrow_arrays.specs.Batches.{Batch}
use Rattle.ipc_files.specs.Below.{Held, HoldsCells, table_of}
use Rattle.ipc_files.proofs.BlockMessages.{refused_first}
use Rattle.ipc_streams.specs.Arrays.{BatchArrays, GivesArrays, LeavesArrays, NextArrays}
use Rattle.ipc_streams.specs.Arrays as steps
use Rattle.ipc_streams.specs.Frames.{GivesFront, IsFront, prefix_length}
use Rattle.ipc_streams.specs.Nexts.{GivesNext, GivesStep}
use Rattle.ipc_streams.specs.Steps.{Next, a_batch, batch_or, ended, most_dictionaries, next_in, no_message, step_within, waiting}
use Rattle.ipc_streams.specs.declared.frame.Frame.{Frame}
use Rattle.ipc_streams.specs.declared.frame.Frame.TheVariants as frames
use Rattle.ipc_streams.specs.declared.state.StreamState.{StreamState}
use Rattle.ipc_streams.specs.declared.state.StreamState.TheVariants as states
use Rattle.ipc_streams.proofs.TakenMessages.{framed}

-- ── one message ──

-- what stands behind a dictionary, where so many may stand
abbrev pub behind_dictionary : ℕ → Reader → Step → Reading Next
behind_dictionary zero s step = refuse (TooMany counted.Dictionaries)
behind_dictionary (suc left) s step = next_in left s step.dictionaries step.rest

abbrev pub by_message : ℕ → Reader → Dictionaries → List ℕ → Option Framed → Reading Next
by_message left s d b next = elim next as (λ t. Reading Next) [
  | None ↦ Ok (no_message d b)
  | Some f ↦ step_within left s d f >>= λ step. batch_or (behind_dictionary left s step) step
]

pub next_is : (left : ℕ) (s : Reader) (d : Dictionaries) (b : List ℕ) → next_in left s d b ≡ (next_message b >>= λ next. by_message left s d b next)
unfolding next_in
next_is zero s d b = refl
next_is (suc left) s d b = refl

pub message_refuses : (left : ℕ) (s : Reader) (d : Dictionaries) (b : List ℕ) (e : IpcError) → Refuses e (refusals (next_message b)) → Refuses e (refusals (next_in left s d b))
message_refuses left s d b e h = subst (λ r. Refuses e (refusals r)) (sym (next_is left s d b)) (refused_first e (next_message b) (λ next. by_message left s d b next) h)

pub step_refuses : (left : ℕ) (s : Reader) (d : Dictionaries) (b : List ℕ) (f : Framed) (e : IpcError) → next_message b ≡ Ok (Some f) → Refuses e (refusals (step_within left s d f)) → Refuses e (refusals (next_in left s d b))
step_refuses left s d b f e is h =
    subst (λ r. Refuses e (refusals r)) (sym (next_is left s d b ∙ on (next_message b) (λ next. by_message left s d b next) (Some f) is)) (refused_first e (step_within left s d f) (λ step. batch_or (behind_dictionary left s step) step) h)

pub none_found : (left : ℕ) (s : Reader) (d : Dictionaries) (b : List ℕ) → next_message b ≡ Ok None → next_in left s d b ≡ Ok (no_message d b)
none_found left s d b is = next_is left s d b ∙ on (next_message b) (λ next. by_message left s d b next) None is

pub step_taken : (left : ℕ) (s : Reader) (d : Dictionaries) (b : List ℕ) (f : Framed) (step : Step) → next_message b ≡ Ok (Some f) → step_within left s d f ≡ Ok step → next_in left s d b ≡ batch_or (behind_dictionary left s step) step
step_taken left s d b f step is taken =
    next_is left s d b ∙ on (next_message b) (λ next. by_message left s d b next) (Some f) is ∙ on (step_within left s d f) (λ step. batch_or (behind_dictionary left s step) step) step taken

-- a message has the batch
pub batch_found : (left : ℕ) (s : Reader) (d e : Dictionaries) (b rest : List ℕ) (f : Framed) (x : TableBatch) → next_message b ≡ Ok (Some f) → step_within left s d f ≡ Ok (record { dictionaries = e; batch = x ∷ []; rest = rest }) → next_in left s d b ≡ Ok (record { found = a_batch x; dictionaries = e; rest = rest })
batch_found left s d e b rest f x is taken = step_taken left s d b f (record { dictionaries = e; batch = x ∷ []; rest = rest }) is taken

-- or a dictionary
pub dictionary_found : (left : ℕ) (s : Reader) (d e : Dictionaries) (b rest : List ℕ) (f : Framed) → next_message b ≡ Ok (Some f) → step_within (suc left) s d f ≡ Ok (record { dictionaries = e; batch = []; rest = rest }) → next_in (suc left) s d b ≡ next_in left s e rest
dictionary_found left s d e b rest f is taken = step_taken (suc left) s d b f (record { dictionaries = e; batch = []; rest = rest }) is taken

-- ── what is reached ──

-- what stands next behind the messages that were taken is what stood next before them, with its arrays
pub record IsReached (s : Reader) (reading : Reading Next) (old : Held) (b : List ℕ) (rest : Option (List ℕ)) (h : Held) (left : ℕ) : Type 0 where
  pub dictionaries : Dictionaries
  pub bytes : List ℕ
  pub told : rest ≡ Some bytes
  pub holds : HoldsCells dictionaries h
  pub same : reading ≡ next_in left s dictionaries bytes
  pub arrays : (h' : Held) (o : Option BatchArrays) → NextArrays s h bytes h' o → NextArrays s old b h' o

abbrev pub Reached : Option (List ℕ) → Reader → Dictionaries → Held → Option (List ℕ) → Held → ℕ → Type 0
Reached rest s d old mid h left = IfSome rest (λ b. IsReached s (next_in most_dictionaries s d b) old b mid h left)

pub none_taken : (rest : Option (List ℕ)) (s : Reader) (d : Dictionaries) (h : Held) → HoldsCells d h → Reached rest s d h rest h most_dictionaries
none_taken None s d h holds = tt
none_taken (Some b) s d h holds = record { dictionaries = d; bytes = b; told = refl; holds = holds; same = refl; arrays = λ h' o n. n }

-- what is answered there, where bytes are told
abbrev pub NextGiven : Option (List ℕ) → Reader → Dictionaries → Option (List ℕ) → Held → Result (Option StreamState) IpcError → Type 0
NextGiven rest s d rest' h result = IfSome rest (λ b. GivesNext rest' h result (next_in most_dictionaries s d b))

given_by : (rest : Option (List ℕ)) (s : Reader) (d : Dictionaries) (old : Held) (mid rest' : Option (List ℕ)) (h h' : Held) (left : ℕ) (result : Result (Option StreamState) IpcError) → Reached rest s d old mid h left
    → ((e : Dictionaries) (b : List ℕ) → mid ≡ Some b → HoldsCells e h → GivesNext rest' h' result (next_in left s e b)) → NextGiven rest s d rest' h' result
given_by None s d old mid rest' h h' left result reached k = tt
given_by (Some b) s d old mid rest' h h' left result reached k = subst (GivesNext rest' h' result) (sym reached.same) (k reached.dictionaries reached.bytes reached.told reached.holds)

-- and its arrays
arrays_on : (s : Reader) (old h h' : Held) (b bytes : List ℕ) (rest' : Option (List ℕ)) (o : Option StreamState) → ((k : Held) (p : Option BatchArrays) → NextArrays s h bytes k p → NextArrays s old b k p) → GivesArrays s h bytes rest' h' o → GivesArrays s old b rest' h' o
arrays_on s old h h' b bytes rest' None on n = on h' None n
arrays_on s old h h' b bytes rest' (Some states.Waiting) on n = on h' None n
arrays_on s old h h' b bytes rest' (Some (states.Some x)) on n = (n.0, n.1, on h' (Some (record { arrays = x.arrays; rest = n.0 })) n.2)

arrays_by : (rest : Option (List ℕ)) (s : Reader) (d : Dictionaries) (old : Held) (mid rest' : Option (List ℕ)) (h h' : Held) (left : ℕ) (o : Option StreamState) → Reached rest s d old mid h left
    → ((e : Dictionaries) (b : List ℕ) → mid ≡ Some b → HoldsCells e h → GivesArrays s h b rest' h' o) → IfSome rest (λ b. GivesArrays s old b rest' h' o)
arrays_by None s d old mid rest' h h' left o reached k = tt
arrays_by (Some b) s d old mid rest' h h' left o reached k = arrays_on s old h h' b reached.bytes rest' o reached.arrays (k reached.dictionaries reached.bytes reached.told reached.holds)

short : (d : Dictionaries) (b : List ℕ) → nat_lt (length b) 4 ≡ true → no_message d b ≡ record { found = waiting; dictionaries = d; rest = [] }
short d b h = ap (λ (t : Bool). if t then record { found = waiting; dictionaries = d; rest = [] } else record { found = ended; dictionaries = d; rest = drop (prefix_length b) b }) h

long : (d : Dictionaries) (b : List ℕ) → nat_lt (length b) 4 ≡ false → no_message d b ≡ record { found = ended; dictionaries = d; rest = drop (prefix_length b) b }
long d b h = ap (λ (t : Bool). if t then record { found = waiting; dictionaries = d; rest = [] } else record { found = ended; dictionaries = d; rest = drop (prefix_length b) b }) h

pub next_waits : (rest : Option (List ℕ)) (s : Reader) (d : Dictionaries) (old : Held) (mid rest' : Option (List ℕ)) (h : Held) (left : ℕ) (frame : Frame) → frame ≡ frames.Waiting → Reached rest s d old mid h left → GivesFront mid rest' (Ok frame) → NextGiven rest s d rest' h (Ok (Some states.Waiting))
next_waits rest s d old mid rest' h left frame is reached front = given_by rest s d old mid rest' h h left (Ok (Some states.Waiting)) reached (λ e b told holds.
    let here = subst (λ f. GivesFront (Some b) rest' (Ok f)) is (subst (λ o. GivesFront o rest' (Ok frame)) told front) in
    (e, [], none_found left s e b here.0 ∙ ap (λ n. Ok n) (short e b here.1), here.2, holds))

pub next_ends : (rest : Option (List ℕ)) (s : Reader) (d : Dictionaries) (old : Held) (mid rest' : Option (List ℕ)) (h : Held) (left : ℕ) (frame : Frame) → frame ≡ frames.Ended → Reached rest s d old mid h left → GivesFront mid rest' (Ok frame) → NextGiven rest s d rest' h (Ok None)
next_ends rest s d old mid rest' h left frame is reached front = given_by rest s d old mid rest' h h left (Ok None) reached (λ e b told holds.
    let here = subst (λ f. GivesFront (Some b) rest' (Ok f)) is (subst (λ o. GivesFront o rest' (Ok frame)) told front) in
    (e, drop (prefix_length b) b, none_found left s e b here.0 ∙ ap (λ n. Ok n) (long e b here.1), here.2, holds))

-- no message stands there
none_stands : (mid rest' : Option (List ℕ)) (b : List ℕ) (frame known : Frame) → frame ≡ known → mid ≡ Some b → GivesFront mid rest' (Ok frame) → IsFront b rest' known
none_stands mid rest' b frame known is told front = subst (λ f. GivesFront (Some b) rest' (Ok f)) is (subst (λ o. GivesFront o rest' (Ok frame)) told front)

pub arrays_wait : (rest : Option (List ℕ)) (s : Reader) (d : Dictionaries) (old : Held) (mid rest' : Option (List ℕ)) (h : Held) (left : ℕ) (frame : Frame) → frame ≡ frames.Waiting → Reached rest s d old mid h left → GivesFront mid rest' (Ok frame) → IfSome rest (λ b. GivesArrays s old b rest' h (Some states.Waiting))
arrays_wait rest s d old mid rest' h left frame is reached front = arrays_by rest s d old mid rest' h h left (Some states.Waiting) reached (λ e b told holds. steps.no_message (none_stands mid rest' b frame frames.Waiting is told front).0)

pub arrays_end : (rest : Option (List ℕ)) (s : Reader) (d : Dictionaries) (old : Held) (mid rest' : Option (List ℕ)) (h : Held) (left : ℕ) (frame : Frame) → frame ≡ frames.Ended → Reached rest s d old mid h left → GivesFront mid rest' (Ok frame) → IfSome rest (λ b. GivesArrays s old b rest' h None)
arrays_end rest s d old mid rest' h left frame is reached front = arrays_by rest s d old mid rest' h h left None reached (λ e b told holds. steps.no_message (none_stands mid rest' b frame frames.Ended is told front).0)

pub next_not_framed : (rest : Option (List ℕ)) (s : Reader) (d : Dictionaries) (old : Held) (mid rest' : Option (List ℕ)) (h h' : Held) (left : ℕ) (result : Result (Option StreamState) IpcError) (e : IpcError) → result ≡ Err e → Reached rest s d old mid h left → GivesFront mid rest' (Err e) → NextGiven rest s d rest' h' result
next_not_framed rest s d old mid rest' h h' left result e is reached front =
    subst (NextGiven rest s d rest' h') (sym is) (given_by rest s d old mid rest' h h' left (Err e) reached (λ ds b told holds. message_refuses left s ds b e (subst (λ o. GivesFront o rest' (Err e)) told front)))

-- what a message leaves, whatever was read of the dictionaries that are held
abbrev pub StepGiven : Reader → Option (List ℕ) → Option (List ℕ) → Held → Held → ℕ → List ℕ → Result (Option Batch) IpcError → Type 0
StepGiven s mid rest' h h' left metadata result = (d : Dictionaries) → HoldsCells d h → IfSome mid (λ b. GivesStep rest' h' result (step_within left s d (framed metadata b)))

step_at : (s : Reader) (mid rest' : Option (List ℕ)) (h h' : Held) (left : ℕ) (metadata : List ℕ) (v : Vec ℕ Global) (result : Result (Option Batch) IpcError) (d : Dictionaries) (behind : List ℕ) → StepGiven s mid rest' h h' left metadata result → metadata ≡ v.items → mid ≡ Some behind → HoldsCells d h
    → GivesStep rest' h' result (step_within left s d (framed v.items behind))
step_at s mid rest' h h' left metadata v result d behind given same told holds =
    subst (λ x. GivesStep rest' h' result (step_within left s d (framed x behind))) same (subst (λ o. IfSome o (λ b. GivesStep rest' h' result (step_within left s d (framed metadata b)))) told (given d holds))

pub next_refused : (rest : Option (List ℕ)) (s : Reader) (d : Dictionaries) (old : Held) (mid mid' rest' : Option (List ℕ)) (h h' : Held) (left : ℕ) (frame : Frame) (v : Vec ℕ Global) (metadata : List ℕ) (result : Result (Option StreamState) IpcError) (e : IpcError) → result ≡ Err e → Reached rest s d old mid h left → frame ≡ frames.Message v → GivesFront mid mid' (Ok frame) → metadata ≡ v.items
    → StepGiven s mid' rest' h h' left metadata (Err e) → NextGiven rest s d rest' h' result
next_refused rest s d old mid mid' rest' h h' left frame v metadata result e is reached framed_is front same given =
    subst (NextGiven rest s d rest' h') (sym is) (given_by rest s d old mid rest' h h' left (Err e) reached (λ ds b told holds.
    let here = subst (λ f. GivesFront (Some b) mid' (Ok f)) framed_is (subst (λ o. GivesFront o mid' (Ok frame)) told front) in
    step_refuses left s ds b (framed v.items here.0) e here.1 (step_at s mid' rest' h h' left metadata v (Err e) ds here.0 given same here.2 holds)))

pub next_batch : (rest : Option (List ℕ)) (s : Reader) (d : Dictionaries) (old : Held) (mid mid' rest' : Option (List ℕ)) (h h' : Held) (left : ℕ) (frame : Frame) (v : Vec ℕ Global) (metadata : List ℕ) (x : Batch) → Reached rest s d old mid h left → frame ≡ frames.Message v → GivesFront mid mid' (Ok frame) → metadata ≡ v.items
    → (taken : Option Batch) → taken ≡ Some x → StepGiven s mid' rest' h h' left metadata (Ok taken) → NextGiven rest s d rest' h' (Ok (Some (states.Some x)))
next_batch rest s d old mid mid' rest' h h' left frame v metadata x reached framed_is front same taken taken_is given = given_by rest s d old mid rest' h h' left (Ok (Some (states.Some x))) reached (λ ds b told holds.
    let here = subst (λ f. GivesFront (Some b) mid' (Ok f)) framed_is (subst (λ o. GivesFront o mid' (Ok frame)) told front) in
    let step = step_at s mid' rest' h h' left metadata v (Ok (Some x)) ds here.0 (subst (λ o. StepGiven s mid' rest' h h' left metadata (Ok o)) taken_is given) same here.2 holds in
    (step.0, step.1, batch_found left s ds step.0 b step.1 (framed v.items here.0) (table_of x) here.1 step.2, step.3, step.4))

-- what a message leaves of arrays, whatever was read of the dictionaries that are held
abbrev pub StepLeaves : Reader → Option (List ℕ) → Option (List ℕ) → Held → Held → List ℕ → Option Batch → Type 0
StepLeaves s mid rest' h h' metadata o = (d : Dictionaries) → HoldsCells d h → IfSome mid (λ b. LeavesArrays s h (framed metadata b) rest' h' o)

leaves_at : (s : Reader) (mid rest' : Option (List ℕ)) (h h' : Held) (metadata : List ℕ) (v : Vec ℕ Global) (o : Option Batch) (d : Dictionaries) (behind : List ℕ) → StepLeaves s mid rest' h h' metadata o → metadata ≡ v.items → mid ≡ Some behind → HoldsCells d h → LeavesArrays s h (framed v.items behind) rest' h' o
leaves_at s mid rest' h h' metadata v o d behind leaves same told holds =
    subst (λ x. LeavesArrays s h (framed x behind) rest' h' o) same (subst (λ q. IfSome q (λ b. LeavesArrays s h (framed metadata b) rest' h' o)) told (leaves d holds))

pub arrays_batch : (rest : Option (List ℕ)) (s : Reader) (d : Dictionaries) (old : Held) (mid mid' rest' : Option (List ℕ)) (h h' : Held) (left : ℕ) (frame : Frame) (v : Vec ℕ Global) (metadata : List ℕ) (x : Batch) → Reached rest s d old mid h left → frame ≡ frames.Message v → GivesFront mid mid' (Ok frame) → metadata ≡ v.items
    → (taken : Option Batch) → taken ≡ Some x → StepLeaves s mid' rest' h h' metadata taken → IfSome rest (λ b. GivesArrays s old b rest' h' (Some (states.Some x)))
arrays_batch rest s d old mid mid' rest' h h' left frame v metadata x reached framed_is front same taken taken_is leaves = arrays_by rest s d old mid rest' h h' left (Some (states.Some x)) reached (λ ds b told holds.
    let here = none_stands mid mid' b frame (frames.Message v) framed_is told front in
    let step = leaves_at s mid' rest' h h' metadata v (Some x) ds here.0 (subst (λ o. StepLeaves s mid' rest' h h' metadata o) taken_is leaves) same here.2 holds in
    (step.0, step.1, steps.a_batch here.1 step.2))

pub next_reached : (rest : Option (List ℕ)) (s : Reader) (d : Dictionaries) (old : Held) (mid mid' rest' : Option (List ℕ)) (h h' : Held) (left more : ℕ) (frame : Frame) (v : Vec ℕ Global) (metadata : List ℕ) → left ≡ suc more → Reached rest s d old mid h left → frame ≡ frames.Message v → GivesFront mid mid' (Ok frame) → metadata ≡ v.items
    → (taken : Option Batch) → taken ≡ None → StepGiven s mid' rest' h h' left metadata (Ok taken) → StepLeaves s mid' rest' h h' metadata taken → Reached rest s d old rest' h' more
next_reached None s d old mid mid' rest' h h' left more frame v metadata one reached framed_is front same taken taken_is given leaves = tt
next_reached (Some b) s d old mid mid' rest' h h' left more frame v metadata one reached framed_is front same taken taken_is given leaves =
    let here = subst (λ f. GivesFront (Some reached.bytes) mid' (Ok f)) framed_is (subst (λ o. GivesFront o mid' (Ok frame)) reached.told front) in
    let step = step_at s mid' rest' h h' left metadata v (Ok None) reached.dictionaries here.0 (subst (λ o. StepGiven s mid' rest' h h' left metadata (Ok o)) taken_is given) same here.2 reached.holds in
    let left_of = leaves_at s mid' rest' h h' metadata v None reached.dictionaries here.0 (subst (λ o. StepLeaves s mid' rest' h h' metadata o) taken_is leaves) same here.2 reached.holds in
    let both : Some left_of.0 ≡ Some step.1 = sym left_of.1 ∙ step.3 in
    let one_rest : left_of.0 ≡ step.1 = cc in
    record {
      dictionaries = step.0;
      bytes = step.1;
      told = step.3;
      holds = step.4;
      same = reached.same ∙ ap (λ n. next_in n s reached.dictionaries reached.bytes) one
          ∙ dictionary_found more s reached.dictionaries step.0 reached.bytes step.1 (framed v.items here.0) here.1 (ap (λ n. step_within n s reached.dictionaries (framed v.items here.0)) (sym one) ∙ step.2);
      arrays = λ k o n. reached.arrays k o (steps.a_dictionary here.1 left_of.2 (subst (λ r. NextArrays s h' r k o) (sym one_rest) n));
    }
