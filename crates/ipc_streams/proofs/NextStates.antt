-- What a call of `next` answers, by what stands next.
use Rattle.std.proofs.Common.{◌≡◌, ◌∙◌, ℕ, List, true, false, Option, Some, None, Result, Ok, IfSome, sym, subst}
use Rattle.arrow_spec.specs.declared.error.IpcError.{IpcError}
use Rattle.ipc_files.specs.Below.{held_in}
use Rattle.ipc_streams.specs.Arrays.{GivesArrays}
use Rattle.ipc_streams.specs.Nexts.{GivesNext, NextState, ReadsNext}
use Rattle.ipc_streams.specs.Steps.{most_dictionaries, next_in}
use Rattle.ipc_streams.specs.declared.cursor.StreamCursor.{StreamCursor}
use Rattle.ipc_streams.specs.declared.state.StreamState.{StreamState}

module _ {F : Type 0} (rest_of : F → Option (List ℕ)) (faults_of : F → ℕ) (references_of : F → List ℕ) (f f' : F) (c c' : StreamCursor) (going : c.is_finished ≡ false) (result : Result (Option StreamState) IpcError) (read : ReadsNext rest_of faults_of references_of f f' c c' result) where
  pub state_next : (state : StreamState) → result ≡ Ok (Some state) → NextState rest_of faults_of references_of f f' c c' (Some (Ok state))
  state_next state is =
      let n : ReadsNext rest_of faults_of references_of f f' c c' (Ok (Some state)) = subst (ReadsNext rest_of faults_of references_of f f' c c') is read in
      record {
        ended = λ over. let no : true ≡ false = sym over ∙ going in cc;
        gives = λ u s d reads holds. n.gives s d reads holds;
        arrays = λ u s d reads holds. n.arrays s d reads holds;
        schema = λ s reads. n.schema s reads;
        is_finished = n.kept.is_finished ∙ going;
        columns = n.kept.columns;
        cause = tt;
        faults_stay = n.faults_stay;
        kept = n.kept.feed;
      }

  pub none_next : (c'' : StreamCursor) → result ≡ Ok None → c''.columns ≡ c'.columns → c''.dictionaries ≡ c'.dictionaries → c''.is_finished ≡ true → NextState rest_of faults_of references_of f f' c c'' None
  none_next c'' is columns dictionaries last =
      let n : ReadsNext rest_of faults_of references_of f f' c c' (Ok None) = subst (ReadsNext rest_of faults_of references_of f f' c c') is read in
      record {
        ended = λ over. let no : true ≡ false = sym over ∙ going in cc;
        gives = λ u s d reads holds. subst (λ m. IfSome (rest_of f) (λ b. GivesNext (rest_of f') (held_in m) (Ok None) (next_in most_dictionaries s d b))) (sym dictionaries) (n.gives s d reads holds);
        arrays = λ u s d reads holds. subst (λ m. IfSome (rest_of f) (λ b. GivesArrays s (held_in c.dictionaries) b (rest_of f') (held_in m) None)) (sym dictionaries) (n.arrays s d reads holds);
        schema = λ s reads. tt;
        is_finished = last;
        columns = columns ∙ n.kept.columns;
        cause = tt;
        faults_stay = n.faults_stay;
        kept = n.kept.feed;
      }
