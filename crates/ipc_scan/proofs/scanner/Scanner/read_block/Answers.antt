use Rattle.std.proofs.Common.{◌≡◌, ◌∙◌, ◌<◌, ap, Bool, Err, false, get_or, length, List, Ok, Option, subst, sym, true}
use Rattle.std.specs.Prelude.{option_copied}
use Rattle.std.specs.Rc.{rc_value}
use Rattle.arrow_spec.specs.Features.{chosen_floats}
use Rattle.ipc_files.specs.FileBlocks.{file_block, paired_of}
use Rattle.ipc_files.specs.FileViews.{meta_view}
use Rattle.ipc_files.specs.Selections.{HasFields, numbers_read, schema_shown}
use Rattle.ipc_files.specs.declared.metadata.FileMetadata.{FileMetadata}
use Rattle.ipc_files.proofs.Errors.{is_err}
use Rattle.ipc_files.proofs.InOrder.{floats_asked}
use Rattle.ipc_projection.specs.Projections.{MayProject}
use Rattle.ipc_projection.specs.declared.projection.ProjectionInfo.{ProjectionInfo}
use Rattle.ipc_read.specs.Held.{held_in}
use Rattle.row_filters.specs.Filters.{is_tested}
use Rattle.laws_scan.specs.Filtered.{any_marked}
use Rattle.laws_scan.specs.Reads.{KeepsRows}
use Rattle.laws_scan.specs.Scan.{filter_alone}
use Rattle.ipc_scan.proofs.BlockReads.{buffers_as, chooses_as, columns_fail, fields_kept, front_fetched, is_message, message_as, message_fails, none_kept, rest_as, rows_kept, tests_as, tests_fail, tests_fetched, whole_fetched}
use Rattle.ipc_scan.proofs.Scanners.{right_parts, right_within}
use Rattle.ipc_scan.proofs.scanner.Scanner.read_block.Goals as goal

pub returns-in_err-read-clause-reads : goal.returns-in_err-read-clause-reads
returns-in_err-read-clause-reads g c =
    let s = c.args.self.now in
    let e : c.from_residual.result ≡ Err c.in_err-read.field-0.0 = is_err _ _ _ c.from_residual.ensures.0 c.from_residual.ensures.1 (λ f h. h) in
    message_fails (g.S.Source.content c.args.source.now) s (held_in c.args.dictionaries.now) c.args.number c.index-block.result.now c.requires.within (subst (λ (x : FileMetadata). c.index-block.result.now ≡ get_or x.blocks.items c.args.number c.index-block.result.now) c.metadata-file.ensures c.index-block.ensures) c.from_residual.result c.in_err-read.field-0.0 e c.requires.scanner.1.read.natural.blocks c.in_err-read.ensures.message

pub returns-in_err-read-clause-fetched : goal.returns-in_err-read-clause-fetched
returns-in_err-read-clause-fetched g c =
    let s = c.args.self.now in
    front_fetched (g.S.Source.content c.args.source.now) s (held_in c.args.dictionaries.now) c.args.number c.index-block.result.now c.requires.within (subst (λ (x : FileMetadata). c.index-block.result.now ≡ get_or x.blocks.items c.args.number c.index-block.result.now) c.metadata-file.ensures c.index-block.ensures) _ _ c.in_err-read.ensures.fetched

pub read_marks-requires-clause-message : goal.read_marks-requires-clause-message
read_marks-requires-clause-message g c =
    let message = is_message (g.S.Source.content c.args.source.now) c.index-block.result.now c.in_ok-read.read c.in_ok-read.ensures.message in
    message_as (g.S.Source.content c.args.source.now) _ c.index-block.result.now (paired_of c.in_ok-read.read) c.in_ok-read.ensures.kept.content message

pub read_marks-requires-clause-tested : goal.read_marks-requires-clause-tested
read_marks-requires-clause-tested g c =
    let s = c.args.self.now in
    subst (λ (x : FileMetadata). is_tested (meta_view x).schema.fields s.filter.column ≡ true) (sym c.metadata-file.ensures) (right_parts s.filter c.requires.scanner.0 (meta_view s.reader.metadata).schema.fields c.requires.scanner.1.right).tested

pub read_marks-requires-clause-below : goal.read_marks-requires-clause-below
read_marks-requires-clause-below g c =
    let s = c.args.self.now in
    subst (λ (x : FileMetadata). s.filter.column < length (rc_value x.schema)) (sym c.metadata-file.ensures) (right_within s.filter c.requires.scanner.0 s.reader.metadata c.requires.scanner.1.right)

pub returns-in_err-marks-clause-reads : goal.returns-in_err-marks-clause-reads
returns-in_err-marks-clause-reads g c =
    let s = c.args.self.now in
    let e : c.from_residual-in_err-marks.result ≡ Err c.in_err-marks.field-0.0 = is_err _ _ _ c.from_residual-in_err-marks.ensures.0 c.from_residual-in_err-marks.ensures.1 (λ f h. h) in
    let refused = tests_as (g.S.Source.content c.args.source.now) _ (held_in c.args.dictionaries.now) s.reader.metadata c.metadata-file.result.now s.filter c.index-block.result.now (Err c.in_err-marks.field-0.0) c.in_ok-read.ensures.kept.content c.metadata-file.ensures c.in_err-marks.ensures.gives in
    tests_fail (g.S.Source.content c.args.source.now) s (held_in c.args.dictionaries.now) c.args.number c.index-block.result.now c.requires.within (subst (λ (x : FileMetadata). c.index-block.result.now ≡ get_or x.blocks.items c.args.number c.index-block.result.now) c.metadata-file.ensures c.index-block.ensures) c.from_residual-in_err-marks.result c.in_err-marks.field-0.0 e refused

pub returns-in_err-marks-clause-fetched : goal.returns-in_err-marks-clause-fetched
returns-in_err-marks-clause-fetched g c =
    let s = c.args.self.now in
    let m = paired_of c.in_ok-read.read in
    let message = is_message (g.S.Source.content c.args.source.now) c.index-block.result.now c.in_ok-read.read c.in_ok-read.ensures.message in
    let first = buffers_as (g.S.Source.content c.args.source.now) _ s.reader.metadata c.metadata-file.result.now m (filter_alone s.filter) (file_block c.index-block.result.now) _ _ c.in_ok-read.ensures.kept.content c.metadata-file.ensures c.in_err-marks.ensures.fetched in
    tests_fetched (g.S.Source.content c.args.source.now) s (held_in c.args.dictionaries.now) c.args.number c.index-block.result.now c.requires.within (subst (λ (x : FileMetadata). c.index-block.result.now ≡ get_or x.blocks.items c.args.number c.index-block.result.now) c.metadata-file.ensures c.index-block.ensures) m _ _ _ message c.in_ok-read.ensures.fetched first

pub returns-then-not-any_marked-clause-reads : goal.returns-then-not-any_marked-clause-reads
returns-then-not-any_marked-clause-reads g c =
    let s = c.args.self.now in
    let tests = tests_as (g.S.Source.content c.args.source.now) _ (held_in c.args.dictionaries.now) s.reader.metadata c.metadata-file.result.now s.filter c.index-block.result.now (Ok c.in_ok-marks.marks) c.in_ok-read.ensures.kept.content c.metadata-file.ensures c.in_ok-marks.ensures.gives in
    let none : any_marked c.in_ok-marks.marks.items ≡ false = ap any_marked (sym c.deref.ensures.value) ∙ sym c.any_marked.ensures ∙ c.if-not-any_marked.true in
    none_kept (g.S.Source.content c.args.source.now) s (held_in c.args.dictionaries.now) c.args.number c.index-block.result.now c.requires.within (subst (λ (x : FileMetadata). c.index-block.result.now ≡ get_or x.blocks.items c.args.number c.index-block.result.now) c.metadata-file.ensures c.index-block.ensures) c.in_ok-marks.marks tests none

pub returns-then-not-any_marked-clause-fetched : goal.returns-then-not-any_marked-clause-fetched
returns-then-not-any_marked-clause-fetched g c =
    let s = c.args.self.now in
    let m = paired_of c.in_ok-read.read in
    let message = is_message (g.S.Source.content c.args.source.now) c.index-block.result.now c.in_ok-read.read c.in_ok-read.ensures.message in
    let first = buffers_as (g.S.Source.content c.args.source.now) _ s.reader.metadata c.metadata-file.result.now m (filter_alone s.filter) (file_block c.index-block.result.now) _ _ c.in_ok-read.ensures.kept.content c.metadata-file.ensures c.in_ok-marks.ensures.fetched in
    tests_fetched (g.S.Source.content c.args.source.now) s (held_in c.args.dictionaries.now) c.args.number c.index-block.result.now c.requires.within (subst (λ (x : FileMetadata). c.index-block.result.now ≡ get_or x.blocks.items c.args.number c.index-block.result.now) c.metadata-file.ensures c.index-block.ensures) m _ _ _ message c.in_ok-read.ensures.fetched first

pub read_chosen-requires-clause-message : goal.read_chosen-requires-clause-message
read_chosen-requires-clause-message g c =
    let message = is_message (g.S.Source.content c.args.source.now) c.index-block.result.now c.in_ok-read.read c.in_ok-read.ensures.message in
    let behind = c.in_ok-marks.ensures.kept.content ∙ c.in_ok-read.ensures.kept.content in
    message_as (g.S.Source.content c.args.source.now) _ c.index-block.result.now (paired_of c.in_ok-read.read) behind message

pub read_chosen-requires-clause-floats : goal.read_chosen-requires-clause-floats
read_chosen-requires-clause-floats g c =
    let s = c.args.self.now in
    let columns = c.requires.scanner.0 in
    let fs = (meta_view s.reader.metadata).schema.fields in
    ap (λ (x : FileMetadata). chosen_floats (numbers_read (option_copied c.as_ref-chosen.result)) (meta_view x).schema.fields 0) c.metadata-file.ensures
    ∙ ap (λ (p : Option ProjectionInfo). chosen_floats (numbers_read p) fs 0) c.as_ref-chosen.ensures.value
    ∙ floats_asked (rc_value s.reader.metadata.schema) fs columns s.chosen c.requires.scanner.1.chosen ∙ (right_parts s.filter columns fs c.requires.scanner.1.right).floats

pub returns-in_err-batch-clause-reads : goal.returns-in_err-batch-clause-reads
returns-in_err-batch-clause-reads g c =
    let s = c.args.self.now in
    let behind = c.in_ok-marks.ensures.kept.content ∙ c.in_ok-read.ensures.kept.content in
    let tests = tests_as (g.S.Source.content c.args.source.now) _ (held_in c.args.dictionaries.now) s.reader.metadata c.metadata-file.result.now s.filter c.index-block.result.now (Ok c.in_ok-marks.marks) c.in_ok-read.ensures.kept.content c.metadata-file.ensures c.in_ok-marks.ensures.gives in
    let some : any_marked c.in_ok-marks.marks.items ≡ true = ap any_marked (sym c.deref.ensures.value) ∙ sym c.any_marked.ensures ∙ c.if-not-any_marked.false in
    let e : c.from_residual-in_err-batch.result ≡ Err c.in_err-batch.field-0.0 = is_err _ _ _ c.from_residual-in_err-batch.ensures.0 c.from_residual-in_err-batch.ensures.1 (λ f h. h) in
    let refused = chooses_as (g.S.Source.content c.args.source.now) _ (held_in c.args.dictionaries.now) s.reader.metadata c.metadata-file.result.now s.chosen (option_copied c.as_ref-chosen.result) c.index-block.result.now (Err c.in_err-batch.field-0.0) behind c.metadata-file.ensures c.as_ref-chosen.ensures.value c.in_err-batch.ensures.gives in
    columns_fail (g.S.Source.content c.args.source.now) s (held_in c.args.dictionaries.now) c.args.number c.index-block.result.now c.requires.within (subst (λ (x : FileMetadata). c.index-block.result.now ≡ get_or x.blocks.items c.args.number c.index-block.result.now) c.metadata-file.ensures c.index-block.ensures) c.in_ok-marks.marks c.from_residual-in_err-batch.result c.in_err-batch.field-0.0 e tests some refused

pub returns-in_err-batch-clause-fetched : goal.returns-in_err-batch-clause-fetched
returns-in_err-batch-clause-fetched g c =
    let s = c.args.self.now in
    let m = paired_of c.in_ok-read.read in
    let message = is_message (g.S.Source.content c.args.source.now) c.index-block.result.now c.in_ok-read.read c.in_ok-read.ensures.message in
    let behind = c.in_ok-marks.ensures.kept.content ∙ c.in_ok-read.ensures.kept.content in
    let tests = tests_as (g.S.Source.content c.args.source.now) _ (held_in c.args.dictionaries.now) s.reader.metadata c.metadata-file.result.now s.filter c.index-block.result.now (Ok c.in_ok-marks.marks) c.in_ok-read.ensures.kept.content c.metadata-file.ensures c.in_ok-marks.ensures.gives in
    let some : any_marked c.in_ok-marks.marks.items ≡ true = ap any_marked (sym c.deref.ensures.value) ∙ sym c.any_marked.ensures ∙ c.if-not-any_marked.false in
    let first = buffers_as (g.S.Source.content c.args.source.now) _ s.reader.metadata c.metadata-file.result.now m (filter_alone s.filter) (file_block c.index-block.result.now) _ _ c.in_ok-read.ensures.kept.content c.metadata-file.ensures c.in_ok-marks.ensures.fetched in
    let rest = rest_as (g.S.Source.content c.args.source.now) _ s.reader.metadata c.metadata-file.result.now s.chosen (option_copied c.as_ref-chosen.result) m (file_block c.index-block.result.now) _ _ behind c.metadata-file.ensures c.as_ref-chosen.ensures.value c.in_err-batch.ensures.fetched in
    whole_fetched (g.S.Source.content c.args.source.now) s (held_in c.args.dictionaries.now) c.args.number c.index-block.result.now c.requires.within (subst (λ (x : FileMetadata). c.index-block.result.now ≡ get_or x.blocks.items c.args.number c.index-block.result.now) c.metadata-file.ensures c.index-block.ensures) m c.in_ok-marks.marks _ _ _ _ message tests some c.in_ok-read.ensures.fetched first rest

pub returns-in_err-keep_rows-clause-fetched : goal.returns-in_err-keep_rows-clause-fetched
returns-in_err-keep_rows-clause-fetched g c =
    let s = c.args.self.now in
    let m = paired_of c.in_ok-read.read in
    let message = is_message (g.S.Source.content c.args.source.now) c.index-block.result.now c.in_ok-read.read c.in_ok-read.ensures.message in
    let behind = c.in_ok-marks.ensures.kept.content ∙ c.in_ok-read.ensures.kept.content in
    let tests = tests_as (g.S.Source.content c.args.source.now) _ (held_in c.args.dictionaries.now) s.reader.metadata c.metadata-file.result.now s.filter c.index-block.result.now (Ok c.in_ok-marks.marks) c.in_ok-read.ensures.kept.content c.metadata-file.ensures c.in_ok-marks.ensures.gives in
    let some : any_marked c.in_ok-marks.marks.items ≡ true = ap any_marked (sym c.deref.ensures.value) ∙ sym c.any_marked.ensures ∙ c.if-not-any_marked.false in
    let first = buffers_as (g.S.Source.content c.args.source.now) _ s.reader.metadata c.metadata-file.result.now m (filter_alone s.filter) (file_block c.index-block.result.now) _ _ c.in_ok-read.ensures.kept.content c.metadata-file.ensures c.in_ok-marks.ensures.fetched in
    let rest = rest_as (g.S.Source.content c.args.source.now) _ s.reader.metadata c.metadata-file.result.now s.chosen (option_copied c.as_ref-chosen.result) m (file_block c.index-block.result.now) _ _ behind c.metadata-file.ensures c.as_ref-chosen.ensures.value c.in_ok-batch.ensures.fetched in
    whole_fetched (g.S.Source.content c.args.source.now) s (held_in c.args.dictionaries.now) c.args.number c.index-block.result.now c.requires.within (subst (λ (x : FileMetadata). c.index-block.result.now ≡ get_or x.blocks.items c.args.number c.index-block.result.now) c.metadata-file.ensures c.index-block.ensures) m c.in_ok-marks.marks _ _ _ _ message tests some c.in_ok-read.ensures.fetched first rest

pub returns-clause-fetched : goal.returns-clause-fetched
returns-clause-fetched g c =
    let s = c.args.self.now in
    let m = paired_of c.in_ok-read.read in
    let message = is_message (g.S.Source.content c.args.source.now) c.index-block.result.now c.in_ok-read.read c.in_ok-read.ensures.message in
    let behind = c.in_ok-marks.ensures.kept.content ∙ c.in_ok-read.ensures.kept.content in
    let tests = tests_as (g.S.Source.content c.args.source.now) _ (held_in c.args.dictionaries.now) s.reader.metadata c.metadata-file.result.now s.filter c.index-block.result.now (Ok c.in_ok-marks.marks) c.in_ok-read.ensures.kept.content c.metadata-file.ensures c.in_ok-marks.ensures.gives in
    let some : any_marked c.in_ok-marks.marks.items ≡ true = ap any_marked (sym c.deref.ensures.value) ∙ sym c.any_marked.ensures ∙ c.if-not-any_marked.false in
    let first = buffers_as (g.S.Source.content c.args.source.now) _ s.reader.metadata c.metadata-file.result.now m (filter_alone s.filter) (file_block c.index-block.result.now) _ _ c.in_ok-read.ensures.kept.content c.metadata-file.ensures c.in_ok-marks.ensures.fetched in
    let rest = rest_as (g.S.Source.content c.args.source.now) _ s.reader.metadata c.metadata-file.result.now s.chosen (option_copied c.as_ref-chosen.result) m (file_block c.index-block.result.now) _ _ behind c.metadata-file.ensures c.as_ref-chosen.ensures.value c.in_ok-batch.ensures.fetched in
    whole_fetched (g.S.Source.content c.args.source.now) s (held_in c.args.dictionaries.now) c.args.number c.index-block.result.now c.requires.within (subst (λ (x : FileMetadata). c.index-block.result.now ≡ get_or x.blocks.items c.args.number c.index-block.result.now) c.metadata-file.ensures c.index-block.ensures) m c.in_ok-marks.marks _ _ _ _ message tests some c.in_ok-read.ensures.fetched first rest

pub returns-clause-reads : goal.returns-clause-reads
returns-clause-reads g c =
    let s = c.args.self.now in
    let behind = c.in_ok-marks.ensures.kept.content ∙ c.in_ok-read.ensures.kept.content in
    let tests = tests_as (g.S.Source.content c.args.source.now) _ (held_in c.args.dictionaries.now) s.reader.metadata c.metadata-file.result.now s.filter c.index-block.result.now (Ok c.in_ok-marks.marks) c.in_ok-read.ensures.kept.content c.metadata-file.ensures c.in_ok-marks.ensures.gives in
    let some : any_marked c.in_ok-marks.marks.items ≡ true = ap any_marked (sym c.deref.ensures.value) ∙ sym c.any_marked.ensures ∙ c.if-not-any_marked.false in
    let chosen = chooses_as (g.S.Source.content c.args.source.now) _ (held_in c.args.dictionaries.now) s.reader.metadata c.metadata-file.result.now s.chosen (option_copied c.as_ref-chosen.result) c.index-block.result.now (Ok c.in_ok-batch.batch) behind c.metadata-file.ensures c.as_ref-chosen.ensures.value c.in_ok-batch.ensures.gives in
    let keeps = subst (λ (marks : List Bool). KeepsRows marks c.in_ok-batch.batch c.in_ok-keep_rows.field-0) c.deref-2.ensures.value c.in_ok-keep_rows.ensures.keeps in
    rows_kept (g.S.Source.content c.args.source.now) s (held_in c.args.dictionaries.now) c.args.number c.index-block.result.now c.requires.within (subst (λ (x : FileMetadata). c.index-block.result.now ≡ get_or x.blocks.items c.args.number c.index-block.result.now) c.metadata-file.ensures c.index-block.ensures) c.in_ok-marks.marks c.in_ok-batch.batch c.in_ok-keep_rows.field-0 tests some chosen keeps

pub returns-clause-schema : goal.returns-clause-schema
returns-clause-schema g c =
    let s = c.args.self.now in
    let scanner = c.requires.scanner.1 in
    let columns = c.requires.scanner.0 in
    let chosen : MayProject (rc_value c.metadata-file.result.now.schema) columns (option_copied c.as_ref-chosen.result)
    = subst (λ (x : FileMetadata). MayProject (rc_value x.schema) columns (option_copied c.as_ref-chosen.result)) (sym c.metadata-file.ensures) (subst (MayProject (rc_value s.reader.metadata.schema) columns) (sym c.as_ref-chosen.ensures.value) scanner.chosen) in
    let has : HasFields c.in_ok-batch.batch (schema_shown (rc_value s.reader.metadata.schema) s.chosen)
    = subst (λ (x : FileMetadata). HasFields c.in_ok-batch.batch (schema_shown (rc_value x.schema) s.chosen)) c.metadata-file.ensures
    (subst (λ (p : Option ProjectionInfo). HasFields c.in_ok-batch.batch (schema_shown (rc_value c.metadata-file.result.now.schema) p)) c.as_ref-chosen.ensures.value (c.in_ok-batch.ensures.schema columns chosen)) in
    fields_kept (rc_value s.reader.metadata.schema) columns s.chosen s.reader.projection c.in_ok-batch.batch c.in_ok-keep_rows.field-0 scanner.chosen scanner.projects has c.in_ok-keep_rows.ensures.schema c.in_ok-keep_rows.ensures.kinds
