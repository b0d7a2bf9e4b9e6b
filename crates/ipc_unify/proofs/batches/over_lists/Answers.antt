use Rattle.std.proofs.Common.{◌≡◌, ◌∙◌, sym, ap, subst}
use Rattle.arrow_arrays.specs.Batches.{Batch}
use Rattle.arrow_arrays.specs.Parts.{fault_each, forest}
use Rattle.arrow_arrays.specs.PartsOf.{all_parts_of}
use Rattle.laws_unify.specs.Over.{Lists, over_each}
use Rattle.laws_unify.specs.Stands.{StandsInEach}
use Rattle.ipc_unify.specs.Steps.{lists_of}
use Rattle.ipc_unify.proofs.BatchSteps.{batch_is, columns_are, columns_fit}
use Rattle.ipc_unify.proofs.batches.over_lists.Goals as goal

pub arrays_over-requires-clause-stands : goal.arrays_over-requires-clause-stands
arrays_over-requires-clause-stands c = subst (λ ps. StandsInEach (lists_of c.args.lists.now.items) (forest ps) 0) (sym c.columns.ensures) c.requires.stands

pub arrays_over-requires-clause-sound : goal.arrays_over-requires-clause-sound
arrays_over-requires-clause-sound c = ap (λ ps. fault_each (over_each (lists_of c.args.lists.now.items) (forest ps) 0)) c.columns.ensures ∙ c.requires.sound

pub new-requires : goal.new-requires
new-requires c =
    let us : Lists = lists_of c.args.lists.now.items in
    let columns = columns_are us c.args.batch (all_parts_of c.in_ok-arrays.arrays.items) (c.in_ok-arrays.ensures.parts ∙ ap (λ ps. over_each us (forest ps) 0) c.columns.ensures) in
    columns_fit us c.args.batch c.len-height.result _ _ c.len-height.ensures.sound c.len-height.ensures.rows (c.in_ok-schema.ensures.cases ∙ c.schema.ensures) columns

pub returns-clause-batch : goal.returns-clause-batch
returns-clause-batch c =
    let us : Lists = lists_of c.args.lists.now.items in
    let b = c.args.batch in
    let columns = columns_are us b (all_parts_of c.in_ok-arrays.arrays.items) (c.in_ok-arrays.ensures.parts ∙ ap (λ ps. over_each us (forest ps) 0) c.columns.ensures) in
    let new = c.new.ensures in
    let made = c.with_optional_metadata.ensures in
    batch_is us b c.with_optional_metadata.result (ap (λ (x : Batch). x.height) made ∙ ap (λ (x : Batch). x.height) new ∙ c.len-height.ensures.rows) (ap (λ (x : Batch). x.schema) made ∙ ap (λ (x : Batch). x.schema) new ∙ c.in_ok-schema.ensures.cases ∙ c.schema.ensures)
    (ap (λ (x : Batch). x.arrays) made ∙ ap (λ (x : Batch). x.arrays) new ∙ columns) (ap (λ (x : Batch). x.custom) made ∙ c.into_arrays_and_metadata-custom_metadata.ensures.custom)
