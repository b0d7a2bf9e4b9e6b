use Rattle.std.proofs.Common.{◌≡◌, Err, refl, rules}
use Rattle.ipc_files.proofs.Errors.{is_err}
use Rattle.ipc_files.proofs.FetchedDictionaries.{nothing_read}
use Rattle.ipc_files.proofs.ReadBatches.{kinds_cause}
use Rattle.ipc_files.proofs.ReadFiles.{of_err}
use Rattle.ipc_files.specs.FileViews.{meta_view}
use Rattle.ipc_reader.proofs.HeldDictionaries.{all_held, dictionaries_kept, dictionaries_stop, err_stays, file_held, kinds_kept, kinds_stop, not_held_uses, not_read_left, ok_none}
use Rattle.ipc_reader.proofs.kept.KeptDictionaries.read.Goals as goal

pub returns-in_err-check_columns : goal.returns-in_err-check_columns
returns-in_err-check_columns g c =
    let file = c.args.metadata.now in
    let meta = meta_view file in
    let e : c.from_residual.result ≡ Err c.in_err-check_columns.field-0.0 = is_err _ _ _ c.from_residual.ensures.0 c.from_residual.ensures.1 (λ f h. h) in
    record {
      gives = λ columns may. kinds_stop (g.S.Source.content c.args.source.now) file columns c.from_residual.result c.in_err-check_columns.field-0.0 e (c.in_err-check_columns.ensures.exact columns may).err;
      held = ok_none c.from_residual.result c.in_err-check_columns.field-0.0 _ e;
      left = λ m is. not_read_left _ m c.requires.not_read is;
      behind = λ columns may. kinds_kept (g.S.Source.content c.args.source.now) file columns _ c.from_residual.result c.in_err-check_columns.field-0.0 c.requires.not_read e c.in_err-check_columns.ensures.cause (c.in_err-check_columns.ensures.exact columns may).err;
      uses = ok_none c.from_residual.result c.in_err-check_columns.field-0.0 _ e;
      keeps = not_held_uses meta _ c.requires.not_read;
      cause = of_err c.from_residual.result c.in_err-check_columns.field-0.0 _ e (kinds_cause c.in_err-check_columns.field-0.0 _ _ c.in_err-check_columns.ensures.cause);
      faults_stay = err_stays c.from_residual.result c.in_err-check_columns.field-0.0 _ _ e;
      fetched = nothing_read (g.S.Source.content c.args.source.now) meta _ _ refl;
      kept = search rules;
    }

pub returns-in-Ok : goal.returns-in-Ok
returns-in-Ok g c =
    let file = c.args.metadata.now in
    let meta = meta_view file in
    record {
      gives = λ columns may. all_held (g.S.Source.content c.args.source.now) file columns c.in-Ok.held (c.in_ok-check_columns.ensures.exact columns may).ok.0 c.in-Ok.ensures.reads;
      held = file_held (g.S.Source.content c.args.source.now) file c.in-Ok.held c.in-Ok.ensures.reads;
      left = λ m is. not_read_left _ m c.requires.not_read is;
      behind = λ columns may. tt;
      uses = c.in-Ok.ensures.uses;
      keeps = not_held_uses meta _ c.requires.not_read;
      cause = tt;
      faults_stay = c.in-Ok.ensures.faults_stay;
      fetched = c.in-Ok.ensures.fetched;
      kept = c.in-Ok.ensures.kept;
    }

pub returns-in-Err : goal.returns-in-Err
returns-in-Err g c =
    let file = c.args.metadata.now in
    let meta = meta_view file in
    record {
      gives = λ columns may. dictionaries_stop (g.S.Source.content c.args.source.now) file columns c.in-Err.error (c.in_ok-check_columns.ensures.exact columns may).ok.0 c.in-Err.ensures.reads;
      held = tt;
      left = λ m is. cc;
      behind = λ columns may. dictionaries_kept (g.S.Source.content c.args.source.now) file columns c.in-Err.error c.in-Err.ensures.some c.in-Err.ensures.reads;
      uses = tt;
      keeps = tt;
      cause = c.in-Err.ensures.cause;
      faults_stay = tt;
      fetched = c.in-Err.ensures.fetched;
      kept = c.in-Err.ensures.kept;
    }
