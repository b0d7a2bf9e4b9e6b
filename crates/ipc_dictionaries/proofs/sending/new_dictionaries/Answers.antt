use Rattle.std.proofs.Common.{refl, ◌∙◌}
use Rattle.arrow_arrays.specs.PartsOf.{forest_of}
use Rattle.ipc_fields.specs.IpcFields.{ids_of}
use Rattle.ipc_dictionaries.specs.Batches.{begun, Sends}
use Rattle.ipc_dictionaries.specs.Changes.{Restores}
use Rattle.ipc_dictionaries.specs.Tracker.{held_by}
use Rattle.ipc_dictionaries.specs.Used.{used_by}
use Rattle.ipc_dictionaries.specs.Walks.{options_of}
use Rattle.ipc_dictionaries.proofs.BatchSteps.{fault_comes_first, sent_from_nothing, refused_from_nothing}
use Rattle.ipc_dictionaries.proofs.ChangeSteps.{restores_nothing}
use Rattle.ipc_dictionaries.proofs.PartSteps.{handed}
use Rattle.ipc_dictionaries.proofs.sending.new_dictionaries.Goals as goal

pub returns-in_err-check_columns-clause-sends : goal.returns-in_err-check_columns-clause-sends
returns-in_err-check_columns-clause-sends c =
    let t = c.args.tracker.now in
    let columns = forest_of c.args.arrays.now in
    let below = ids_of c.args.fields.now in
    let e = c.in_err-check_columns.field-0.0 in
    handed (λ r. Sends r t t columns below) c.from_residual.result e c.from_residual.ensures.1 (fault_comes_first (options_of t) columns below (begun t) e c.in_err-check_columns.ensures, λ q. refl)

pub returns-in-Ok-clause-sends : goal.returns-in-Ok-clause-sends
returns-in-Ok-clause-sends c =
    let t = c.args.tracker.now in
    let p = c.new-progress.result in
    let q = c.walk_arrays.new.progress in (
      (
        used_by q.used,
        sent_from_nothing (options_of t) (forest_of c.args.arrays.now) (ids_of c.args.fields.now) t p c.new-progress.ensures.used c.new-progress.ensures.messages c.in_ok-check_columns.ensures ∙ c.in-Ok.ensures.walks,
      ),
      c.in-Ok.ensures.keeps.restores (held_by t) (restores_nothing p.changes.items (held_by t) c.new-progress.ensures.changes),
    )

pub undo-requires : goal.undo-requires
undo-requires c =
    let t = c.args.tracker.now in
    let p = c.new-progress.result in
    let back : Restores c.walk_arrays.new.progress.changes.items (held_by c.walk_arrays.new.tracker) (held_by t) = c.in-Err.ensures.keeps.restores (held_by t) (restores_nothing p.changes.items (held_by t) c.new-progress.ensures.changes) in
    back.can

pub returns-in-Err-clause-sends : goal.returns-in-Err-clause-sends
returns-in-Err-clause-sends c =
    let t = c.args.tracker.now in
    let p = c.new-progress.result in
    let back : Restores c.walk_arrays.new.progress.changes.items (held_by c.walk_arrays.new.tracker) (held_by t) = c.in-Err.ensures.keeps.restores (held_by t) (restores_nothing p.changes.items (held_by t) c.new-progress.ensures.changes) in (
      refused_from_nothing (options_of t) (forest_of c.args.arrays.now) (ids_of c.args.fields.now) t p _ c.new-progress.ensures.used c.new-progress.ensures.messages c.in_ok-check_columns.ensures c.in-Err.ensures.walks,
      λ q. c.undo.ensures q ∙ back.given q,
    )

pub returns-in-Err-clause-options : goal.returns-in-Err-clause-options
returns-in-Err-clause-options c = c.in-Err.ensures.keeps.options
