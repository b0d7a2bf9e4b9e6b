use Rattle.std.proofs.Common.{◌≡◌, ◌∙◌, Err, ap, length, subst, sym, true}
use Rattle.std.specs.Prelude.{option_copied}
use Rattle.std.specs.Rc.{rc_value}
use Rattle.ipc_read.specs.Batches.{kinds_of}
use Rattle.ipc_read.specs.Held.{held_in}
use Rattle.ipc_projection.specs.Below.{are_columns, are_rising, chosen, columns_of}
use Rattle.ipc_files.specs.FileBlocks.{file_block}
use Rattle.ipc_files.specs.Selections.{numbers_read}
use Rattle.ipc_projection.specs.Projections.{MayProject}
use Rattle.ipc_files.proofs.Errors.{is_err}
use Rattle.ipc_files.proofs.ReadBatches.{file_at}
use Rattle.ipc_files.proofs.InOrder.{all_read, made_range, made_rising, may_reorder, none_shown, ordered_fetched, ordered_given, ordered_read, refused_given}
use Rattle.ipc_files.proofs.ShownFields.{all_fields, ordered_fields}
use Rattle.ipc_files.proofs.ordered.read_projected_batch.Goals as goal

pub read_batch-requires-clause-rising : goal.read_batch-requires-clause-rising
read_batch-requires-clause-rising g c =
    subst (λ ns. are_rising ns ≡ true) (sym c.rising_numbers-numbers.ensures) (made_rising (rc_value c.args.metadata.now.schema) (option_copied c.args.projection) c.requires.made)

pub read_batch-requires-clause-range : goal.read_batch-requires-clause-range
read_batch-requires-clause-range g c =
    subst (λ ns. are_columns ns (length (rc_value c.args.metadata.now.schema)) ≡ true) (sym c.rising_numbers-numbers.ensures) (made_range (rc_value c.args.metadata.now.schema) (option_copied c.args.projection) c.requires.made)

pub returns-in_err-batch-clause-gives : goal.returns-in_err-batch-clause-gives
returns-in_err-batch-clause-gives g c = λ columns block may at.
    let e : c.from_residual.result ≡ Err c.in_err-batch.field-0.0 = is_err _ _ _ c.from_residual.ensures.0 c.from_residual.ensures.1 (λ f h. h) in
    refused_given (g.S.Source.content c.args.source.now) (held_in c.args.dictionaries.now) c.args.metadata.now columns (option_copied c.args.projection) (columns_of c.rising_numbers-numbers.result) c.args.limit block c.from_residual.result c.in_err-batch.field-0.0
    c.rising_numbers-numbers.ensures e may (c.in_err-batch.ensures.gives block at)

pub returns-in_err-batch-clause-read : goal.returns-in_err-batch-clause-read
returns-in_err-batch-clause-read g c = λ columns block may at.
    let e : c.from_residual.result ≡ Err c.in_err-batch.field-0.0 = is_err _ _ _ c.from_residual.ensures.0 c.from_residual.ensures.1 (λ f h. h) in
    none_shown c.from_residual.result c.in_err-batch.field-0.0 _ e

pub returns-in_err-batch-clause-schema : goal.returns-in_err-batch-clause-schema
returns-in_err-batch-clause-schema g c = λ columns may.
    let e : c.from_residual.result ≡ Err c.in_err-batch.field-0.0 = is_err _ _ _ c.from_residual.ensures.0 c.from_residual.ensures.1 (λ f h. h) in
    none_shown c.from_residual.result c.in_err-batch.field-0.0 _ e

pub returns-in_err-batch-clause-fetched : goal.returns-in_err-batch-clause-fetched
returns-in_err-batch-clause-fetched g c = λ columns block may at.
    ordered_fetched (g.S.Source.content c.args.source.now) c.args.metadata.now columns (option_copied c.args.projection) (columns_of c.rising_numbers-numbers.result) block c.args.limit _ _ c.rising_numbers-numbers.ensures may (c.in_err-batch.ensures.fetched block at)

pub returns-in-None-clause-read : goal.returns-in-None-clause-read
returns-in-None-clause-read g c = λ columns block may at.
    all_read (g.S.Source.content c.args.source.now) (held_in c.args.dictionaries.now) c.args.metadata.now columns (option_copied c.args.projection) (columns_of c.rising_numbers-numbers.result) c.args.limit block c.in_ok-batch.batch
    (ap option_copied c.in-None.is) c.rising_numbers-numbers.ensures may (c.in_ok-batch.ensures.read block at)

pub returns-in-None-clause-schema : goal.returns-in-None-clause-schema
returns-in-None-clause-schema g c = λ columns may.
    let s = rc_value c.args.metadata.now.schema in
    all_fields s (option_copied c.args.projection) c.in_ok-batch.batch (ap option_copied c.in-None.is) (c.in_ok-batch.ensures.schema ∙ ap (λ ns. chosen ns 0 s) c.rising_numbers-numbers.ensures) (c.in_ok-batch.ensures.kinds ∙ ap (λ ns. chosen ns 0 (kinds_of s)) c.rising_numbers-numbers.ensures)

pub apply_projection-requires : goal.apply_projection-requires
apply_projection-requires g c = record {
  permutes = may_reorder (rc_value c.args.metadata.now.schema) (option_copied c.args.projection) c.in-Some.projection.now (columns_of c.rising_numbers-numbers.result) c.in_ok-batch.batch (ap option_copied c.in-Some.is) c.rising_numbers-numbers.ensures c.requires.made c.in_ok-batch.ensures.schema;
}

pub returns-in-Some-clause-gives : goal.returns-in-Some-clause-gives
returns-in-Some-clause-gives g c = λ columns block may at.
    ordered_given (g.S.Source.content c.args.source.now) (held_in c.args.dictionaries.now) c.args.metadata.now columns c.in-Some.projection.now (columns_of c.rising_numbers-numbers.result) c.args.limit block c.in_ok-batch.batch c.apply_projection.result
    (c.rising_numbers-numbers.ensures ∙ ap numbers_read (ap option_copied c.in-Some.is)) (subst (MayProject (rc_value c.args.metadata.now.schema) columns) (ap option_copied c.in-Some.is) may)
    c.apply_projection.ensures.reordered c.apply_projection.ensures.memory (c.in_ok-batch.ensures.gives block at) (c.in_ok-batch.ensures.read (file_block block) (file_at c.args.metadata.now.blocks.items c.args.index block at))

pub returns-in-Some-clause-read : goal.returns-in-Some-clause-read
returns-in-Some-clause-read g c = λ columns block may at.
    ordered_read (g.S.Source.content c.args.source.now) (held_in c.args.dictionaries.now) c.args.metadata.now columns c.in-Some.projection.now (columns_of c.rising_numbers-numbers.result) c.args.limit block c.in_ok-batch.batch c.apply_projection.result
    (c.rising_numbers-numbers.ensures ∙ ap numbers_read (ap option_copied c.in-Some.is)) (subst (MayProject (rc_value c.args.metadata.now.schema) columns) (ap option_copied c.in-Some.is) may)
    c.apply_projection.ensures.reordered c.apply_projection.ensures.memory (c.in_ok-batch.ensures.read block at)

pub returns-in-Some-clause-schema : goal.returns-in-Some-clause-schema
returns-in-Some-clause-schema g c = λ columns may.
    let s = rc_value c.args.metadata.now.schema in
    ordered_fields s columns (option_copied c.args.projection) c.in-Some.projection.now c.in_ok-batch.batch c.apply_projection.result (ap option_copied c.in-Some.is) may (c.in_ok-batch.ensures.schema ∙ ap (λ ns. chosen ns 0 s) c.rising_numbers-numbers.ensures)
    (c.in_ok-batch.ensures.kinds ∙ ap (λ ns. chosen ns 0 (kinds_of s)) c.rising_numbers-numbers.ensures) c.apply_projection.ensures.reordered

pub returns-in-Some-clause-fetched : goal.returns-in-Some-clause-fetched
returns-in-Some-clause-fetched g c = λ columns block may at.
    ordered_fetched (g.S.Source.content c.args.source.now) c.args.metadata.now columns (option_copied c.args.projection) (columns_of c.rising_numbers-numbers.result) block c.args.limit _ _ c.rising_numbers-numbers.ensures may (c.in_ok-batch.ensures.fetched block at)
