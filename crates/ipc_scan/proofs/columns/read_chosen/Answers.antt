use Rattle.std.proofs.Common.{◌≡◌, ◌∙◌, ◌≤◌, Err, ap, length, map, subst, sym, true}
use Rattle.std.specs.Prelude.{option_copied}
use Rattle.std.specs.Rc.{rc_value}
use Rattle.arrow_spec.specs.declared.error.IpcError.TheVariants.{Memory}
use Rattle.arrow_spec.specs.Features.{chosen_floats}
use Rattle.arrow_arrays.specs.Parts.{kind_in}
use Rattle.ipc_files.specs.FileBlocks.{file_block, paired_of}
use Rattle.ipc_files.specs.FileViews.{meta_view}
use Rattle.ipc_files.proofs.Errors.{is_err}
use Rattle.ipc_files.proofs.InOrder.{made_range, made_rising, may_reorder, none_shown}
use Rattle.ipc_files.proofs.ShownFields.{all_fields, ordered_fields}
use Rattle.ipc_projection.specs.Below.{are_columns, are_rising, chosen, columns_of}
use Rattle.ipc_read.specs.Batches.{kinds_of}
use Rattle.ipc_read.specs.Held.{held_in}
use Rattle.ipc_scan.proofs.BlockColumns.{chosen_all, chosen_memory, chosen_ordered, chosen_refused, reordered_height, with_same}
use Rattle.ipc_scan.proofs.FetchedBlocks.{buffers_asked}
use Rattle.ipc_scan.proofs.columns.read_chosen.Goals as goal

pub read_columns-requires-clause-rising : goal.read_columns-requires-clause-rising
read_columns-requires-clause-rising g c = subst (λ ns. are_rising ns ≡ true) (sym c.rising_numbers-numbers.ensures) (made_rising (rc_value c.args.file.now.schema) (option_copied c.args.projection) c.requires.made)

pub read_columns-requires-clause-range : goal.read_columns-requires-clause-range
read_columns-requires-clause-range g c =
    subst (λ ns. are_columns ns (length (rc_value c.args.file.now.schema)) ≡ true) (sym c.rising_numbers-numbers.ensures) (made_range (rc_value c.args.file.now.schema) (option_copied c.args.projection) c.requires.made)

pub read_columns-requires-clause-floats : goal.read_columns-requires-clause-floats
read_columns-requires-clause-floats g c = ap (λ ns. chosen_floats ns (meta_view c.args.file.now).schema.fields 0) c.rising_numbers-numbers.ensures ∙ c.requires.floats

-- ── a refusal ──

pub returns-in_err-batch-clause-gives : goal.returns-in_err-batch-clause-gives
returns-in_err-batch-clause-gives g c =
    let e : c.from_residual.result ≡ Err c.in_err-batch.field-0.0 = is_err _ _ _ c.from_residual.ensures.0 c.from_residual.ensures.1 (λ f h. h) in
    chosen_refused (g.S.Source.content c.args.source.now) (held_in c.args.dictionaries.now) c.args.file.now (option_copied c.args.projection) (columns_of c.rising_numbers-numbers.result) c.args.at.block.now (paired_of c.args.at.read.now) c.from_residual.result c.in_err-batch.field-0.0
    e c.rising_numbers-numbers.ensures c.requires.message c.requires.fits c.in_err-batch.ensures.gives

pub returns-in_err-batch-clause-schema : goal.returns-in_err-batch-clause-schema
returns-in_err-batch-clause-schema g c = λ columns may.
    let e : c.from_residual.result ≡ Err c.in_err-batch.field-0.0 = is_err _ _ _ c.from_residual.ensures.0 c.from_residual.ensures.1 (λ f h. h) in
    none_shown c.from_residual.result c.in_err-batch.field-0.0 _ e

pub returns-in_err-batch-clause-fetched : goal.returns-in_err-batch-clause-fetched
returns-in_err-batch-clause-fetched g c = λ columns may.
    buffers_asked (g.S.Source.content c.args.source.now) (meta_view c.args.file.now) (paired_of c.args.at.read.now) (rc_value c.args.file.now.schema) columns (columns_of c.rising_numbers-numbers.result) (option_copied c.args.projection) (file_block c.args.at.block.now) _ _ c.rising_numbers-numbers.ensures may c.in_err-batch.ensures.fetched

-- ── want of memory ──

pub returns-in_err-pairs-clause-gives : goal.returns-in_err-pairs-clause-gives
returns-in_err-pairs-clause-gives g c =
    let e : c.from_residual-in_err-pairs.result ≡ Err Memory = is_err _ _ _ c.from_residual-in_err-pairs.ensures.0 c.from_residual-in_err-pairs.ensures.1 (λ f h. h) in
    chosen_memory (g.S.Source.content c.args.source.now) (held_in c.args.dictionaries.now) c.args.file.now (option_copied c.args.projection) c.args.at.block.now c.from_residual-in_err-pairs.result e

pub returns-in_err-pairs-clause-schema : goal.returns-in_err-pairs-clause-schema
returns-in_err-pairs-clause-schema g c = λ columns may.
    let e : c.from_residual-in_err-pairs.result ≡ Err Memory = is_err _ _ _ c.from_residual-in_err-pairs.ensures.0 c.from_residual-in_err-pairs.ensures.1 (λ f h. h) in
    none_shown c.from_residual-in_err-pairs.result Memory _ e

pub returns-in_err-pairs-clause-fetched : goal.returns-in_err-pairs-clause-fetched
returns-in_err-pairs-clause-fetched g c = λ columns may.
    buffers_asked (g.S.Source.content c.args.source.now) (meta_view c.args.file.now) (paired_of c.args.at.read.now) (rc_value c.args.file.now.schema) columns (columns_of c.rising_numbers-numbers.result) (option_copied c.args.projection) (file_block c.args.at.block.now) _ _ c.rising_numbers-numbers.ensures may c.in_ok-batch.ensures.fetched

pub with_optional_metadata-paired-requires : goal.with_optional_metadata-paired-requires
with_optional_metadata-paired-requires g c = subst (λ pairs. length pairs ≤ 1048576) (sym c.in_ok-pairs.ensures.same) c.requires.ordered.few

-- ── all columns ──

pub returns-in-None-clause-gives : goal.returns-in-None-clause-gives
returns-in-None-clause-gives g c =
    let pairs = with_same c.in_ok-batch.batch c.with_optional_metadata-paired.result _ (paired_of c.args.at.read.now).custom c.with_optional_metadata-paired.ensures c.in_ok-pairs.ensures.same in
    chosen_all (g.S.Source.content c.args.source.now) (held_in c.args.dictionaries.now) c.args.file.now (option_copied c.args.projection) (columns_of c.rising_numbers-numbers.result) c.args.at.block.now (paired_of c.args.at.read.now) c.in_ok-batch.batch c.with_optional_metadata-paired.result
    (ap option_copied c.in-None.is) c.rising_numbers-numbers.ensures c.requires.message c.requires.fits c.requires.ordered pairs c.in_ok-batch.ensures.gives

pub returns-in-None-clause-height : goal.returns-in-None-clause-height
returns-in-None-clause-height g c = ap (λ b. b.height) c.with_optional_metadata-paired.ensures ∙ c.in_ok-batch.ensures.height

pub returns-in-None-clause-schema : goal.returns-in-None-clause-schema
returns-in-None-clause-schema g c = λ columns may.
    let s = rc_value c.args.file.now.schema in
    all_fields s (option_copied c.args.projection) c.with_optional_metadata-paired.result (ap option_copied c.in-None.is)
    (ap (λ b. b.schema) c.with_optional_metadata-paired.ensures ∙ c.in_ok-batch.ensures.schema ∙ ap (λ ns. chosen ns 0 s) c.rising_numbers-numbers.ensures)
    (ap (λ b. map kind_in b.arrays) c.with_optional_metadata-paired.ensures ∙ c.in_ok-batch.ensures.kinds ∙ ap (λ ns. chosen ns 0 (kinds_of s)) c.rising_numbers-numbers.ensures)

pub returns-in-None-clause-fetched : goal.returns-in-None-clause-fetched
returns-in-None-clause-fetched g c = λ columns may.
    buffers_asked (g.S.Source.content c.args.source.now) (meta_view c.args.file.now) (paired_of c.args.at.read.now) (rc_value c.args.file.now.schema) columns (columns_of c.rising_numbers-numbers.result) (option_copied c.args.projection) (file_block c.args.at.block.now) _ _ c.rising_numbers-numbers.ensures may c.in_ok-batch.ensures.fetched

-- ── in the order asked ──

pub apply_projection-requires : goal.apply_projection-requires
apply_projection-requires g c = record {
  permutes = may_reorder (rc_value c.args.file.now.schema) (option_copied c.args.projection) c.in-Some.projection.now (columns_of c.rising_numbers-numbers.result) c.with_optional_metadata-paired.result (ap option_copied c.in-Some.is) c.rising_numbers-numbers.ensures c.requires.made
      (ap (λ b. b.schema) c.with_optional_metadata-paired.ensures ∙ c.in_ok-batch.ensures.schema);
}

pub returns-in-Some-clause-gives : goal.returns-in-Some-clause-gives
returns-in-Some-clause-gives g c =
    let pairs = with_same c.in_ok-batch.batch c.with_optional_metadata-paired.result _ (paired_of c.args.at.read.now).custom c.with_optional_metadata-paired.ensures c.in_ok-pairs.ensures.same in
    chosen_ordered (g.S.Source.content c.args.source.now) (held_in c.args.dictionaries.now) c.args.file.now (option_copied c.args.projection) c.in-Some.projection.now (columns_of c.rising_numbers-numbers.result) c.args.at.block.now (paired_of c.args.at.read.now) c.in_ok-batch.batch c.with_optional_metadata-paired.result c.apply_projection.result
    (ap option_copied c.in-Some.is) c.rising_numbers-numbers.ensures c.requires.message c.requires.fits c.requires.ordered pairs c.apply_projection.ensures.reordered c.apply_projection.ensures.memory c.in_ok-batch.ensures.gives

pub returns-in-Some-clause-height : goal.returns-in-Some-clause-height
returns-in-Some-clause-height g c =
    reordered_height c.in-Some.projection.now.map c.with_optional_metadata-paired.result _ c.apply_projection.result (ap (λ b. b.height) c.with_optional_metadata-paired.ensures ∙ c.in_ok-batch.ensures.height) c.apply_projection.ensures.reordered

pub returns-in-Some-clause-schema : goal.returns-in-Some-clause-schema
returns-in-Some-clause-schema g c = λ columns may.
    let s = rc_value c.args.file.now.schema in
    ordered_fields s columns (option_copied c.args.projection) c.in-Some.projection.now c.with_optional_metadata-paired.result c.apply_projection.result (ap option_copied c.in-Some.is) may
    (ap (λ b. b.schema) c.with_optional_metadata-paired.ensures ∙ c.in_ok-batch.ensures.schema ∙ ap (λ ns. chosen ns 0 s) c.rising_numbers-numbers.ensures)
    (ap (λ b. map kind_in b.arrays) c.with_optional_metadata-paired.ensures ∙ c.in_ok-batch.ensures.kinds ∙ ap (λ ns. chosen ns 0 (kinds_of s)) c.rising_numbers-numbers.ensures)
    c.apply_projection.ensures.reordered

pub returns-in-Some-clause-fetched : goal.returns-in-Some-clause-fetched
returns-in-Some-clause-fetched g c = λ columns may.
    buffers_asked (g.S.Source.content c.args.source.now) (meta_view c.args.file.now) (paired_of c.args.at.read.now) (rc_value c.args.file.now.schema) columns (columns_of c.rising_numbers-numbers.result) (option_copied c.args.projection) (file_block c.args.at.block.now) _ _ c.rising_numbers-numbers.ensures may c.in_ok-batch.ensures.fetched
