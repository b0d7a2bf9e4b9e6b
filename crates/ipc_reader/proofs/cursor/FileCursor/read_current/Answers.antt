use Rattle.std.proofs.Common.{◌≡◌, Err, Option, IfOk, refl, subst, sym}
use Rattle.std.specs.Rc.{rc_value}
use Rattle.ipc_io.proofs.Kept.{source_kept_on}
use Rattle.ipc_files.proofs.Errors.{is_err}
use Rattle.ipc_files.proofs.ReadFiles.{of_err}
use Rattle.ipc_files.specs.FileViews.{meta_view}
use Rattle.ipc_files.specs.Selections.{HasFields, IsMade, schema_shown}
use Rattle.ipc_files.specs.Below.{MayProject, ProjectionInfo}
use Rattle.ipc_files.specs.Requests.{asked}
use Rattle.ipc_reader.proofs.HeldDictionaries.{batch_goes, batch_stops, cause_since, err_stays, fetched_going, fetched_stopping, file_kept, goes_kept, goes_on, ok_none, read_goes, stays_since, stops_kept}
use Rattle.ipc_reader.proofs.cursor.FileCursor.read_current.Goals as goal

pub take-requires-clause-made : goal.take-requires-clause-made
take-requires-clause-made g c = subst (IsMade (rc_value c.args.self.now.metadata.schema)) (sym c.as_ref.ensures.value) c.args.self.now.made

pub returns-in_err-held : goal.returns-in_err-held
returns-in_err-held g c =
    let content = g.S.Source.content c.args.source.now in
    let s = rc_value c.args.self.now.metadata.schema in
    let file = c.args.self.now.metadata in
    let meta = meta_view file in
    let k = c.args.self.now.dictionaries in
    let err = c.in_err-held.field-0.0 in
    let e : c.from_residual.result ≡ Err err = is_err _ _ _ c.from_residual.ensures.0 c.from_residual.ensures.1 (λ f h. h) in
    record {
      gives = λ columns block may at. batch_stops content k (asked columns c.args.self.now.left) file block err c.from_residual.result c.requires.not_refused e c.in_err-held.ensures.held (λ is. c.in_err-held.ensures.gives columns is (subst (MayProject s columns) (sym c.as_ref.ensures.value) may));
      read = λ columns block may at. ok_none c.from_residual.result err _ e;
      first = λ is m held. absurd (c.in_err-held.ensures.left m held);
      dictionaries = λ columns may. stops_kept content file columns k _ err c.from_residual.result c.requires.not_refused e c.in_err-held.ensures.held (λ is. c.in_err-held.ensures.behind columns is (subst (MayProject s columns) (sym c.as_ref.ensures.value) may));
      stopped = λ not_read ended. c.in_err-held.ensures.fetched not_read;
      schema = λ columns may. ok_none c.from_residual.result err _ e;
      left = refl;
      block = refl;
      projection = refl;
      metadata = refl;
      cause = of_err c.from_residual.result err _ e c.in_err-held.ensures.cause;
      faults_stay = err_stays c.from_residual.result err _ _ e;
      fetched = λ columns block may at. fetched_stopping content k meta (asked columns c.args.self.now.left) block c.args.self.now.left _ _ err c.in_err-held.ensures.held c.in_err-held.ensures.fetched;
      kept = c.in_err-held.ensures.kept;
    }

pub read_projected_batch-read-requires-clause-made : goal.read_projected_batch-read-requires-clause-made
read_projected_batch-read-requires-clause-made g c = subst (IsMade (rc_value c.args.self.now.metadata.schema)) (sym c.as_ref-2.ensures.value) c.args.self.now.made

pub returns : goal.returns
returns g c =
    let content = g.S.Source.content c.args.source.now in
    let s = rc_value c.args.self.now.metadata.schema in
    let file = c.args.self.now.metadata in
    let meta = meta_view file in
    let k = c.args.self.now.dictionaries in
    let held = c.in_ok-held.held in
    let read = c.read_projected_batch-read in
    record {
      gives = λ columns block may at. batch_goes content _ k (asked columns c.args.self.now.left) file block held read.result c.requires.not_refused c.in_ok-held.ensures.kept.content c.in_ok-held.ensures.held (λ is. c.in_ok-held.ensures.gives columns is (subst (MayProject s columns) (sym c.as_ref.ensures.value) may))
          (read.ensures.gives columns block (subst (MayProject s columns) (sym c.as_ref-2.ensures.value) may) at);
      read = λ columns block may at. read_goes content _ (asked columns c.args.self.now.left) meta block held read.result c.in_ok-held.ensures.kept.content (read.ensures.read columns block (subst (MayProject s columns) (sym c.as_ref-2.ensures.value) may) at);
      first = λ is. file_kept content meta held (c.in_ok-held.ensures.first is);
      dictionaries = λ columns may. goes_kept content file columns k held read.result c.requires.not_refused c.in_ok-held.ensures.held (λ is. c.in_ok-held.ensures.gives columns is (subst (MayProject s columns) (sym c.as_ref.ensures.value) may));
      stopped = λ not_read ended. absurd (goes_on held ended);
      schema = λ columns may.
          subst (λ (p : Option ProjectionInfo). IfOk read.result (λ x. HasFields x (schema_shown s p))) c.as_ref-2.ensures.value
          (read.ensures.schema columns (subst (MayProject s columns) (sym c.as_ref-2.ensures.value) may));
      left = refl;
      block = refl;
      projection = refl;
      metadata = refl;
      cause = cause_since read.result _ _ _ c.in_ok-held.ensures.kept.faults read.ensures.cause;
      faults_stay = stays_since read.result _ _ _ c.in_ok-held.ensures.faults_stay read.ensures.faults_stay;
      fetched = λ columns block may at. fetched_going content _ k meta (asked columns c.args.self.now.left) block c.args.self.now.left _ _ _ c.in_ok-held.ensures.kept.content c.in_ok-held.ensures.fetched c.in_ok-held.ensures.stays (read.ensures.fetched columns block (subst (MayProject s columns) (sym c.as_ref-2.ensures.value) may) at);
      kept = source_kept_on c.in_ok-held.ensures.kept read.ensures.kept;
    }
