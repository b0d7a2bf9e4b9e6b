-- The answers of the command that joins files.
use Rattle.std.proofs.Common.{◌≡◌, ◌⊎◌, inl, inr, refl, sym, ap, subst, ℕ, ◌<◌, ◌≤◌, arith, true, false, List, [], ◌∷◌, length, map, Option, Some, None, Result, Ok, Err, IfSome, IsSomeAnd}
use Rattle.std.specs.Prelude.{Any}
use Rattle.std.specs.Io.KnownBytes.{Keeps}
use Rattle.arrow_spec.specs.declared.error.IpcError.{IpcError}
use Rattle.arrow_spec.specs.declared.error.IpcError.TheVariants as errors
use Rattle.ipc_io.specs.Outside.{Lacks, Rose, Stands}
use Rattle.ipc_bodies.specs.Encodings.{text_of}
use Rattle.ipc_log_streams.specs.Below.{AddsPart, AllStand, ConcatCause, EachKept, IsOfPut, IsSmallRefusal, MeanTables, told}
use Rattle.ipc_words.specs.Requests.{Cat}
use Rattle.ipc_tool.specs.Commands.Stream.{encoding_of}
use Rattle.ipc_tool.specs.Commands.Cat.{AddsAll, AddsCat, AreHeld, CatLeft, LeavesCat, MayCat, NoneHasFailed, OneHasFailed, WhyNotOpened, cat_task, first_name}
use Rattle.ipc_tool.specs.Outside.{NoneFailed, Outside}
use Rattle.ipc_tool.specs.Refusal.{error_status, number_of}
use Rattle.ipc_tool.specs.Tasks.{CauseOf, Does, IsMissing, IsOfOpening}
use Rattle.ipc_tool.proofs.CatNames.{all_stand, at_told, by_told, none_lacks, none_missing, of_files, of_held, one_failed, rose_within}
use Rattle.ipc_tool.proofs.FileTasks.{few, stood}
use Rattle.ipc_tool.specs.declared.refusal.Refusal.{Refusal}
use Rattle.ipc_tool.specs.declared.refusal.Refusal.TheVariants.{Ipc, Words, NotHex, InputTooLong, NoName}

-- ── what was added tells why ──

-- an error that is neither want of memory nor of a put is one of the files'
may_join : (e : IpcError) (bs : List (List ℕ)) (text : List ℕ → List ℕ) (old new : Option (List ℕ)) (wants wants' : ℕ) → (e ≡ errors.Memory → ⊥) → (IsOfPut e wants wants' → ⊥) → AddsPart e bs text old new wants wants' → MayCat e bs
may_join e bs text old new wants wants' no_memory no_put (AddsPart.in_metadata stops kept) = MayCat.in_metadata stops
may_join e bs text old new wants wants' no_memory no_put (AddsPart.in_schema opened stops kept) = MayCat.in_schema opened stops
may_join e bs text old new wants wants' no_memory no_put (AddsPart.in_file opened front added stops) = MayCat.in_file opened front stops
may_join e bs text old new wants wants' no_memory no_put (AddsPart.at_end is open_end joins added) = absurd (no_memory is)
may_join e bs text old new wants wants' no_memory no_put (AddsPart.in_put opened put added) = absurd (no_put put)

may_add : (e : IpcError) (bs : List (List ℕ)) (s : Cat) (old new : Option (List ℕ)) (wants wants' : ℕ) → (e ≡ errors.Memory → ⊥) → (IsOfPut e wants wants' → ⊥) → AddsCat e bs s.raw old new wants wants' → MayCat e bs
may_add e bs s old new wants wants' no_memory no_put (AddsCat.in_joining added) = may_join e bs (text_of (encoding_of s.raw)) old new wants wants' no_memory no_put added
may_add e bs s old new wants wants' no_memory no_put (AddsCat.at_line_feed is put whole joins added) = absurd (no_put put)

module _ (s : Cat) (some : 0 < length s.names) (old new : Outside) where
  -- what is held stays, and the input is not read
  pub record IsBeside : Type 0 where
    pub held : new.held ≡ old.held
    pub rest : new.rest ≡ old.rest

  no_read : false ≡ true → ⊥
  no_read r = cc

  names_there : s.names ≡ [] → ⊥
  names_there none = let empty : length s.names ≡ 0 = ap length none in absurd (omega (arith, some, empty))

  -- ── a refusal ──

  stops : (e : Refusal) → IsBeside → CauseOf (cat_task s) e old new → CatLeft e s old new → (14 ≤ number_of e → Keeps old.written new.written) → ((cat_task s).must old → NoneFailed old new → (e ≡ Ipc errors.Memory) ⊎ (e ≡ Ipc errors.TooLarge)) → (cat_task s).statuses (number_of e)
      → (IsMissing (first_name s.names) old.held → IsOfOpening e) → Does (cat_task s) (Err e) old new
  stops e beside cause left untouched complete status missing = record {
    done = tt;
    at_end = tt;
    cause = cause;
    left = left;
    untouched = untouched;
    not_read = λ n r. absurd (no_read r);
    complete = complete;
    statuses = status;
    missing = missing;
    keeps = beside.held;
    unread = λ r. beside.rest;
    unopened = λ none. absurd (names_there none);
  }

  -- not all files were opened
  pub not_opened : (e : Refusal) → IsBeside → Keeps old.written new.written → WhyNotOpened e (Any (Lacks old.held) s.names) old.shelf_faults new.shelf_faults → Does (cat_task s) (Err e) old new
  not_opened NoName beside kept why = stops NoName beside why kept (λ n. kept) (λ must none. absurd (none_lacks MeanTables old.held s.names must why)) (inr (inr (omega arith))) (λ m. inl refl)
  not_opened (Ipc errors.ReadFault) beside kept why =
      stops (Ipc errors.ReadFault) beside why (LeavesCat.in_opening (inl refl) kept) (λ n. kept) (λ must none. absurd (stood old.shelf_faults new.shelf_faults none.shelf why)) (inr (inr (omega arith))) (λ m. inr (inl refl))
  not_opened (Ipc errors.Memory) beside kept why = stops (Ipc errors.Memory) beside tt (LeavesCat.in_opening (inr refl) kept) (λ n. kept) (λ must none. inl refl) (inr (inr (omega arith))) (λ m. inr (inr refl))
  not_opened (Ipc e) beside kept why = absurd why
  not_opened Words beside kept why = absurd why
  not_opened NotHex beside kept why = absurd why
  not_opened InputTooLong beside kept why = absurd why

  -- ── files that were opened ──

  module _ (beside : IsBeside) (contents : List (Option (List ℕ))) (are : AreHeld old.held s.names contents) where
    -- all were put
    pub joined : IfSome (told contents) (λ bs. AddsAll bs s.raw old.written new.written) → Does (cat_task s) (Ok tt) old new
    joined added = record {
      done = of_files (λ bs. AddsAll bs s.raw old.written new.written) old.held s.names contents are added;
      at_end = λ r. absurd (no_read r);
      cause = tt;
      left = tt;
      untouched = tt;
      not_read = tt;
      complete = tt;
      statuses = tt;
      missing = λ m. absurd (none_missing old.held s.names contents are m);
      keeps = beside.held;
      unread = λ r. beside.rest;
      unopened = λ none. absurd (names_there none);
    }

    -- or not
    module _ (ns ms : List ℕ) (opened : ℕ) (sound : NoneHasFailed ns) (later : old.shelf_faults ≤ opened) (closed_rose : OneHasFailed ms → Rose opened new.shelf_faults) where
      abbrev Added : IpcError → Type 0
      Added e = IfSome (told contents) (λ bs. AddsCat e bs s.raw old.written new.written old.output_wants new.output_wants)

      abbrev Cause : IpcError → Type 0
      Cause e = ConcatCause e ns ms old.output_faults new.output_faults

      shelf_rose : OneHasFailed ms → Rose old.shelf_faults new.shelf_faults
      shelf_rose failed = rose_within old.shelf_faults opened new.shelf_faults new.shelf_faults later (omega arith) (closed_rose failed)

      own : (e : IpcError) → Added e → (e ≡ errors.Memory → ⊥) → (IsOfPut e old.output_wants new.output_wants → ⊥) → (cat_task s).may e old
      own e added no_memory no_put = of_files (MayCat e) old.held s.names contents are (by_told (λ bs. AddsCat e bs s.raw old.written new.written old.output_wants new.output_wants) (MayCat e) (told contents) (λ bs a. may_add e bs s old.written new.written old.output_wants new.output_wants no_memory no_put a) added)

      cause : (e : IpcError) → Added e → Cause e → CauseOf (cat_task s) (Ipc e) old new
      cause errors.ReadFault added c = shelf_rose (one_failed ns ms sound c)
      cause errors.WriteFault added c = c
      cause errors.Memory added c = tt
      cause errors.State added c = absurd c
      cause (errors.Projection index) added c = absurd c
      cause (errors.DictionaryReplaced id) added c = absurd c
      cause errors.NotRepresentable added c = absurd c
      cause errors.SchemaMismatch added c = own errors.SchemaMismatch added (λ is. cc) (λ put. put)
      cause errors.TooLarge added c = own errors.TooLarge added (λ is. cc) (λ put. put)
      cause errors.TooDeep added c = own errors.TooDeep added (λ is. cc) (λ put. put)
      cause (errors.OutOfSpec kind) added c = own (errors.OutOfSpec kind) added (λ is. cc) (λ put. put)
      cause (errors.Unsupported feature) added c = own (errors.Unsupported feature) added (λ is. cc) (λ put. put)
      cause (errors.TooMany counted) added c = own (errors.TooMany counted) added (λ is. cc) (λ put. put)

      status : (e : IpcError) → Cause e → (cat_task s).statuses (error_status e)
      status errors.State c = absurd c
      status (errors.Projection index) c = absurd c
      status (errors.DictionaryReplaced id) c = absurd c
      status errors.NotRepresentable c = absurd c
      status errors.SchemaMismatch c = inr (inl (inr refl))
      status errors.TooLarge c = inr (inl (inl refl))
      status errors.ReadFault c = inr (inr (omega arith))
      status errors.WriteFault c = inr (inr (omega arith))
      status errors.Memory c = inr (inr (omega arith))
      status e c = inl (omega arith)

      small : (e : IpcError) → IsSmallRefusal e → (Ipc e ≡ Ipc errors.Memory) ⊎ (Ipc e ≡ Ipc errors.TooLarge)
      small e (inl is) = inl (ap Ipc is)
      small e (inr is) = inr (ap Ipc is)

      pub not_joined : (e : IpcError) → Added e → Cause e → ((OneHasFailed ms → ⊥) → AllStand ns ms) → IfSome (told contents) (λ bs. MeanTables bs → AllStand ns ms → Stands old.output_faults new.output_faults → IsSmallRefusal e) → Does (cat_task s) (Err (Ipc e)) old new
      not_joined e added c stand complete =
          stops (Ipc e) beside (cause e added c) (LeavesCat.in_stream (of_files (λ bs. AddsCat e bs s.raw old.written new.written old.output_wants new.output_wants) old.held s.names contents are added)) (λ n. let k : error_status e ≤ 13 = few e in absurd (omega (arith, n, k)))
          (λ must none. small e (at_told MeanTables (AllStand ns ms → Stands old.output_faults new.output_faults → IsSmallRefusal e) (told contents) complete (of_held MeanTables old.held s.names contents are must) (stand (λ failed. stood old.shelf_faults new.shelf_faults none.shelf (shelf_rose failed))) none.output))
          (status e c) (λ m. absurd (none_missing old.held s.names contents are m))

-- ── the files of a run ──

module _ (s : Cat) (some : 0 < length s.names) (old new : Outside) (beside : IsBeside s some old new) (names : List (List ℕ)) (same : names ≡ s.names) where
  pub names_refused : (e : Refusal) → Keeps old.written new.written → WhyNotOpened e (Any (Lacks old.held) names) old.shelf_faults new.shelf_faults → Does (cat_task s) (Err e) old new
  names_refused e kept why = not_opened s some old new e beside kept (subst (λ ns. WhyNotOpened e (Any (Lacks old.held) ns) old.shelf_faults new.shelf_faults) same why)

  module _ {F : Type 0} (content_of : F → Option (List ℕ)) (faults_of : F → ℕ) (references_of : F → List ℕ) (files given : List F) (value : given ≡ files) (are : AreHeld old.held names (map content_of files)) where
    are_given : AreHeld old.held s.names (map content_of given)
    are_given = subst (λ ns. AreHeld old.held ns (map content_of given)) same (subst (λ fs. AreHeld old.held names (map content_of fs)) (sym value) are)

    pub files_joined : IfSome (told (map content_of given)) (λ bs. AddsAll bs s.raw old.written new.written) → Does (cat_task s) (Ok tt) old new
    files_joined added = joined s some old new beside (map content_of given) are_given added

    pub files_not_joined : (behind : List F) (opened : ℕ) (e : IpcError) → NoneHasFailed (map faults_of files) → old.shelf_faults ≤ opened → (OneHasFailed (map faults_of behind) → Rose opened new.shelf_faults)
        → IfSome (told (map content_of given)) (λ bs. AddsCat e bs s.raw old.written new.written old.output_wants new.output_wants) → ConcatCause e (map faults_of given) (map faults_of behind) old.output_faults new.output_faults → EachKept content_of faults_of references_of given behind
        → IfSome (told (map content_of given)) (λ bs. MeanTables bs → AllStand (map faults_of given) (map faults_of behind) → Stands old.output_faults new.output_faults → IsSmallRefusal e) → Does (cat_task s) (Err (Ipc e)) old new
    files_not_joined behind opened e none later closed_rose added cause kept complete =
        let sound : NoneHasFailed (map faults_of given) = subst (λ fs. NoneHasFailed (map faults_of fs)) (sym value) none in
        not_joined s some old new beside (map content_of given) are_given (map faults_of given) (map faults_of behind) opened sound later closed_rose e added cause (all_stand content_of faults_of references_of given behind kept sound) complete
