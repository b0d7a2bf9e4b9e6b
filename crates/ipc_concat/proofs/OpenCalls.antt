-- Calls that read the metadata of files, one after another.
use Rattle.std.proofs.Common.{◌≡◌, ◌∙◌, ◌⊎◌, sym, refl, ap, inl, inr, ℕ, zero, suc, ◌+◌, ◌<◌, ◌≤◌, List, [], ◌∷◌, ◌++◌, length, get_or, map, take, slice_get, true, false, Option, Some, None, Result, Ok, Err, subst, arith}
use Rattle.std.specs.Prelude.{IfErr, IfSome, IsTrue, slice_set, ◌↔◌}
use Rattle.std.proofs.lemmas.List.{take_all}
use Rattle.std.proofs.lemmas.Option.{slice_get-get_or}
use Rattle.arrow_spec.specs.declared.error.IpcError.{IpcError}
use Rattle.arrow_spec.specs.declared.error.IpcError.TheVariants as errors
use Rattle.arrow_spec.specs.Readings.{Refuses, refusals}
use Rattle.ipc_io.specs.Outside.{Rose, SourceKept}
use Rattle.laws_walk.specs.Below.{FileCause, FileCursor}
use Rattle.ipc_concat.specs.Concat.{CauseOf, ConcatCause, EachKept, OneRose}
use Rattle.ipc_concat.specs.Files.{AreAlike, AreUnread, FitsFirst, FitsKinds, IsUnread}
use Rattle.ipc_concat.specs.Opening.{StopsOpening, opening}
use Rattle.ipc_concat.specs.Tables.{told}
use Rattle.ipc_concat.proofs.Adding.{read_cause}
use Rattle.ipc_concat.proofs.Keeping.{cause_as, get_map, kept_contents, kept_length, kept_set, length_of, one_rose}
use Rattle.ipc_concat.proofs.Opened.{alike_more, others_of, stops_opening, unread_more}

pub get_again : {A : Type 0} (xs : List A) (i : ℕ) (r : A) → get_or xs i (get_or xs i r) ≡ get_or xs i r
get_again [] i r = refl
get_again (x ∷ xs) zero r = refl
get_again (x ∷ xs) (suc i) r = get_again xs i r

module _ {S : Type 0} (content_of : S → Option (List ℕ)) (faults_of : S → ℕ) (references_of : S → List ℕ) (us xs : List S) (i : ℕ) (r : S) (kept : EachKept content_of faults_of references_of us xs) where
  abbrev This : S
  This = get_or xs i r

  -- what one of them tells
  pub content_at : content_of (get_or xs i r) ≡ get_or (map content_of us) i (content_of (get_or xs i r))
  content_at = ap content_of (sym (get_again xs i r)) ∙ get_map content_of xs i This ∙ ap (λ bs. get_or bs i (content_of This)) (kept_contents content_of faults_of references_of us xs kept)

  within : i < length us → i < length (map content_of us)
  within less = let n = length_of content_of us in omega (arith, less, n)

  -- it is kept with the others
  pub kept_with : (y : S) → SourceKept content_of faults_of references_of (get_or xs i r) y → EachKept content_of faults_of references_of us (slice_set xs i y)
  kept_with y k = kept_set content_of faults_of references_of us xs i r y kept k

  -- and its count rose as theirs
  pub rose_with : (y : S) → i < length us → Rose (faults_of (get_or xs i r)) (faults_of y) → OneRose (map faults_of us) (map faults_of (slice_set xs i y))
  rose_with y less k = one_rose content_of faults_of references_of us xs i r y kept (let n = kept_length content_of faults_of references_of us xs kept in omega (arith, less, n)) k

  module _ (cs : List FileCursor) (less : i < length us) (unread : AreUnread (take i (map content_of us)) cs) (alike : AreAlike cs) where
    abbrev Stopped : IpcError → Type 0
    Stopped e = IfSome (told (map content_of us)) (λ bs. StopsOpening e bs)

    -- its metadata is refused
    read_stops : (e : IpcError) → IfSome (content_of (get_or xs i r)) (λ b. Refuses e (refusals (opening b))) → Stopped e
    read_stops e h = stops_opening (map content_of us) i cs (content_of (get_or xs i r)) e (within less) content_at unread alike (λ b own. inl (subst (λ o. IfSome o (λ d. Refuses e (refusals (opening d)))) own h))

    pub read_fails : {X : Type 0} (z : Result X IpcError) (e : IpcError) → z ≡ Err e → IfSome (content_of (get_or xs i r)) (λ b. Refuses e (refusals (opening b))) → IfErr z (λ e. IfSome (told (map content_of us)) (λ bs. StopsOpening e bs))
    read_fails z e is_err h = subst (λ v. IfErr v (λ e. IfSome (told (map content_of us)) (λ bs. StopsOpening e bs))) (sym is_err) (read_stops e h)

    -- memory is wanted
    pub push_fails : {X : Type 0} (z : Result X IpcError) → z ≡ Err errors.Memory → IfErr z (λ e. IfSome (told (map content_of us)) (λ bs. StopsOpening e bs))
    push_fails z is_err = read_fails z errors.Memory is_err (none (content_of (get_or xs i r)))
      where
        none : (o : Option (List ℕ)) → IfSome o (λ b. Refuses errors.Memory (refusals (opening b)))
        none None = tt
        none (Some b) = tt

    -- its fields are others
    pub not_fitting : (c : FileCursor) → IsUnread (content_of (get_or xs i r)) c → (FitsFirst cs c → ⊥) → IfSome (told (map content_of us)) (λ bs. StopsOpening errors.SchemaMismatch bs)
    not_fitting c u not = stops_opening (map content_of us) i cs (content_of (get_or xs i r)) errors.SchemaMismatch (within less) content_at unread alike (λ b own. inr (refl, others_of cs b c (subst (λ o. IsUnread o c) own u) not))

    -- it is opened with the others
    pub opened_with : (c : FileCursor) → IsUnread (content_of (get_or xs i r)) c → AreUnread (take (i + 1) (map content_of us)) (cs ++ c ∷ [])
    opened_with c u = unread_more (map content_of us) cs i (content_of (get_or xs i r)) c (slice_get-get_or (map content_of us) i (content_of (get_or xs i r)) (within less) ∙ ap Some (sym content_at)) unread u

    pub alike_with : (c : FileCursor) → FitsFirst cs c → FitsKinds cs c → AreAlike (cs ++ c ∷ [])
    alike_with c fields kinds = alike_more cs c alike fields kinds

-- why one is refused, whatever its bytes are
pub open_cause : {X : Type 0} (z : Result X IpcError) (e : IpcError) (reads : Type 0) (faults faults' : ℕ) → z ≡ Err e → (Rose faults faults' → reads) → FileCause e faults faults' → IfErr z (λ e. CauseOf reads (Rose 0 0) e)
open_cause z e reads faults faults' is rose cause = subst (λ v. IfErr v (λ e. CauseOf reads (Rose 0 0) e)) (sym is) (cause_as e rose (λ w. w) (read_cause e faults faults' (Rose 0 0) cause))

-- all are opened
pub all_opened : {S : Type 0} (content_of : S → Option (List ℕ)) (us : List S) (i : ℕ) (cs : List FileCursor) → length us ≤ i → AreUnread (take i (map content_of us)) cs → AreUnread (map content_of us) cs
all_opened content_of us i cs all h = subst (λ os. AreUnread os cs) (take_all i (map content_of us) (let n = length_of content_of us in omega (arith, all, n))) h
