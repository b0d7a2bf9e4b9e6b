-- Bytes that are pulled in pieces.
use Rattle.std.proofs.Common.{◌≡◌, ◌∙◌, ℕ, ◌+◌, ◌<◌, ◌≤◌, List, ◌++◌, length, take, drop, Option, Some, None, sym, ap, subst, arith, append-nil, length-drop, length-take-le, take-append-drop}
use Rattle.std.proofs.Math.Seq.{drop-append_seam, take-append-add, take-append_seam}
use Rattle.std.proofs.lemmas.List.{drop_all, drop_at, take-append-le, take_all, take_at}
use Rattle.std.specs.Io.KnownBytes.{Consumes, IsAtEnd}
use Rattle.std.proofs.KnownBytes.{Consumes-trans}
use Rattle.arrow_spec.specs.declared.error.IpcError.{IpcError}
use Rattle.arrow_spec.specs.declared.error.IpcError.TheVariants as errors
use Rattle.arrow_spec.specs.Readings.{Refuses}
use Rattle.ipc_files.specs.FileViews.{FileCause}
use Rattle.ipc_streams.specs.Feeds.{FeedKept, PullCause, Pulls, Takes}

-- a piece more
pub more_pulled : (a b c : Option (List ℕ)) (old new : List ℕ) (most n : ℕ) → Consumes a b old → Pulls b c old new most n → Consumes a c new
more_pulled a b c old new most n h p = subst (Consumes a c) (sym p.grown) (Consumes-trans a b c old p.added h p.consumed)

-- so many were pulled
pub whole_taken : (a b : Option (List ℕ)) (n : ℕ) (bytes : List ℕ) → Consumes a b bytes → length bytes ≡ n → Takes a b n bytes
whole_taken None b n bytes h e = tt
whole_taken (Some x) None n bytes h e = absurd h
whole_taken (Some x) (Some y) n bytes h e = (ap Some (sym (drop-append_seam bytes y) ∙ ap (λ m. drop m (bytes ++ y)) e ∙ ap (drop n) (sym h)), sym (take-append_seam bytes y) ∙ ap (λ m. take m (bytes ++ y)) e ∙ ap (take n) (sym h))

-- or all that are left
pub all_taken : (a b : Option (List ℕ)) (n : ℕ) (bytes : List ℕ) → Consumes a b bytes → IsAtEnd b → length bytes ≤ n → Takes a b n bytes
all_taken None b n bytes h end few = tt
all_taken (Some x) None n bytes h end few = absurd h
all_taken (Some x) (Some y) n bytes h end few =
    let x_is : x ≡ bytes = h ∙ ap (λ l. bytes ++ l) end ∙ append-nil bytes in
    (ap Some (end ∙ sym (drop_all n bytes few) ∙ ap (drop n) (sym x_is)), sym (take_all n bytes few) ∙ ap (take n) (sym x_is))

-- what calls one after another keep of a feed
pub feed_kept_on : {F : Type 0} {faults_of : F → ℕ} {references_of : F → List ℕ} {f f' f'' : F} → FeedKept faults_of references_of f f' → FeedKept faults_of references_of f' f'' → FeedKept faults_of references_of f f''
feed_kept_on h k = record { faults = omega (arith, h.faults, k.faults); references = k.references ∙ h.references }

-- a feed's fault or want of memory refuses whatever is read
pub pull_refuses : (e : IpcError) (es : List IpcError) (n m : ℕ) → PullCause e n m → Refuses e es
pull_refuses errors.Memory es n m h = tt
pull_refuses errors.ReadFault es n m h = tt
pull_refuses e es n m h = absurd h

pub pull_cause : (e : IpcError) (n m : ℕ) → PullCause e n m → FileCause e n m
pull_cause errors.Memory n m h = tt
pull_cause errors.ReadFault n m h = h
pull_cause e n m h = absurd h

-- bytes that were put behind others, into room that was made for them
pub pulled_in_place : (a b : Option (List ℕ)) (old wide whole new zeros : List ℕ) (start most n : ℕ) → start ≡ length old → wide ≡ take (start + most) old ++ zeros → take start whole ≡ take start wide → length whole ≡ start + most → start + n ≤ length whole → new ≡ take (start + n) whole
    → Consumes a b (take n (drop start whole)) → (n ≡ 0 → start < length whole → IsAtEnd b) → Pulls a b old new most n
pulled_in_place a b old wide whole new zeros start most n begins room front long fits is put end =
    let all : take (start + most) old ≡ old = take_all (start + most) old (omega (arith, begins)) in
    let kept : take start whole ≡ old = front ∙ ap (take start) (room ∙ ap (λ l. l ++ zeros) all) ∙ take_at old zeros start (sym begins) in
    let size : length (take start whole) ≡ start = ap length kept ∙ sym begins in
    let parts : take (start + n) whole ≡ take start whole ++ take n (drop start whole) =
    ap (take (start + n)) (sym (take-append-drop start whole)) ∙ ap (λ k. take (k + n) (take start whole ++ drop start whole)) (sym size) ∙ take-append-add (take start whole) (drop start whole) n in
    record {
      added = take n (drop start whole);
      grown = is ∙ parts ∙ ap (λ l. l ++ take n (drop start whole)) kept;
      count = length-take-le n (drop start whole) (omega (arith, fits, length-drop start whole));
      few = omega (arith, fits, long);
      consumed = put;
      at_end = λ z more. end z (omega (arith, long, more));
    }

-- what was pulled into the part stands behind the front
pub consumed_in_place : (a b : Option (List ℕ)) (n : ℕ) (front part rest : List ℕ) (at : ℕ) → length front ≡ at → n ≤ length part → Consumes a b (take n part) → Consumes a b (take n (drop at (front ++ (part ++ rest))))
consumed_in_place a b n front part rest at long fits read = subst (Consumes a b) (sym (ap (take n) (drop_at front (part ++ rest) at long) ∙ take-append-le n part rest fits)) read
