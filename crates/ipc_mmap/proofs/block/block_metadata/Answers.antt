use Rattle.std.proofs.Common.{◌≡◌, ◌+◌, ◌<◌, ◌≤◌, List, length, Some, Result, Ok, Err, ℕ, refl, sym, subst, arith, rules}
use Rattle.arrow_spec.specs.declared.error.IpcError.{IpcError}
use Rattle.arrow_spec.specs.declared.error.IpcError.TheVariants.{OutOfSpec}
use Rattle.arrow_spec.specs.declared.error.OutOfSpecKind.TheVariants.{BlockRange}
use Rattle.arrow_spec.specs.Messages.{prefix_of}
use Rattle.arrow_spec.specs.Readings.{Reading, Refuses, natural, refusals}
use Rattle.ipc_fields.proofs.Steps.{refuses}
use Rattle.ipc_read.proofs.BatchTables.{refused_first}
use Rattle.ipc_files.specs.FileBlocks.{block_by, file_block, message_metadata}
use Rattle.ipc_files.proofs.BlockMessages.{metadata_from, out_of_range, prefix_from}
use Rattle.ipc_files.proofs.FetchedFiles.{counted}
use Rattle.ipc_files.proofs.GivenBlocks.{body_refused, metadata_refused, numbers_given, offset_refused, told_given}
use Rattle.ipc_view.proofs.Answered.{gives_from}
use Rattle.ipc_mmap.proofs.block.block_metadata.Goals.{then-offset-size-via-then-offset-size, then-offset-size-via-else-offset-size+then-metadata-size, then-offset-size-via-else-offset-size+else-metadata-size+then-body-size}
use Rattle.ipc_mmap.proofs.block.block_metadata.Goals as goal

abbrev view : List ℕ → List ℕ
view v = v

-- ── a number that is negative ──

pub returns-in_err-offset-clause-metadata : goal.returns-in_err-offset-clause-metadata
returns-in_err-offset-clause-metadata c =
    let x = c.args.block.now in
    let e = c.in_err-offset.field-0.0 in
    gives_from _ c.from_residual.result e _ c.from_residual.ensures.0 c.from_residual.ensures.1
    (refused_first (block_by x) (message_metadata c.args.bytes.now) e (offset_refused x e (refuses e (refusals (natural x.offset)) (search rules))))

pub returns-in_err-metadata-clause-metadata : goal.returns-in_err-metadata-clause-metadata
returns-in_err-metadata-clause-metadata c =
    let x = c.args.block.now in
    let e = c.in_err-metadata.field-0.0 in
    let offset : natural x.offset ≡ Ok c.in_ok-offset.offset = search rules in
    gives_from _ c.from_residual-in_err-metadata.result e _ c.from_residual-in_err-metadata.ensures.0 c.from_residual-in_err-metadata.ensures.1
    (refused_first (block_by x) (message_metadata c.args.bytes.now) e (metadata_refused x c.in_ok-offset.offset e offset (refuses e (refusals (natural x.meta_data_length)) (search rules))))

pub returns-in_err-body-clause-metadata : goal.returns-in_err-body-clause-metadata
returns-in_err-body-clause-metadata c =
    let x = c.args.block.now in
    let e = c.in_err-body.field-0.0 in
    let offset : natural x.offset ≡ Ok c.in_ok-offset.offset = search rules in
    let metadata : natural x.meta_data_length ≡ Ok c.in_ok-metadata.metadata = search rules in
    gives_from _ c.from_residual-in_err-body.result e _ c.from_residual-in_err-body.ensures.0 c.from_residual-in_err-body.ensures.1
    (refused_first (block_by x) (message_metadata c.args.bytes.now) e (body_refused x c.in_ok-offset.offset c.in_ok-metadata.metadata e offset metadata (refuses e (refusals (natural x.body_length)) (search rules))))

-- ── the block in the file ──

pub returns-then-offset-size-clause-metadata : goal.returns-then-offset-size-clause-metadata
returns-then-offset-size-clause-metadata c =
    let x = c.args.block.now in
    let b = c.args.bytes.now in
    let offset : natural x.offset ≡ Ok c.in_ok-offset.offset = search rules in
    let metadata : natural x.meta_data_length ≡ Ok c.in_ok-metadata.metadata = search rules in
    let body_is : natural x.body_length ≡ Ok c.in_ok-body.body = search rules in
    let is : block_by x ≡ Ok (file_block x) = numbers_given x c.in_ok-offset.offset c.in_ok-metadata.metadata c.in_ok-body.body offset metadata body_is in
    let meta = counted x.meta_data_length c.in_ok-metadata.metadata metadata in
    let place = counted x.offset c.in_ok-offset.offset offset in
    let body = counted x.body_length c.in_ok-body.body body_is in
    let past : length b < c.in_ok-offset.offset + c.in_ok-metadata.metadata + c.in_ok-body.body = elim c.then-offset-size.branch [
      | then-offset-size-via-then-offset-size w ↦ omega arith
      | then-offset-size-via-else-offset-size+then-metadata-size w ↦ omega arith
      | then-offset-size-via-else-offset-size+else-metadata-size+then-body-size w ↦ omega arith
    ] in
    told_given (Some b) view (Err (OutOfSpec BlockRange)) x message_metadata is
    (out_of_range (Some b) (length b) (file_block x) view refl (omega (arith, meta, place, body, past)))

pub returns-in_err-start-clause-metadata : goal.returns-in_err-start-clause-metadata
returns-in_err-start-clause-metadata c =
    let x = c.args.block.now in
    let b = c.args.bytes.now in
    let e = c.in_err-start.field-0.0 in
    let offset : natural x.offset ≡ Ok c.in_ok-offset.offset = search rules in
    let metadata : natural x.meta_data_length ≡ Ok c.in_ok-metadata.metadata = search rules in
    let body_is : natural x.body_length ≡ Ok c.in_ok-body.body = search rules in
    let is : block_by x ≡ Ok (file_block x) = numbers_given x c.in_ok-offset.offset c.in_ok-metadata.metadata c.in_ok-body.body offset metadata body_is in
    let meta = sym (counted x.meta_data_length c.in_ok-metadata.metadata metadata) in
    let place = sym (counted x.offset c.in_ok-offset.offset offset) in
    let body = sym (counted x.body_length c.in_ok-body.body body_is) in
    let inside : c.in_ok-offset.offset + c.in_ok-metadata.metadata + c.in_ok-body.body ≤ length b = omega arith in
    gives_from _ c.from_residual-in_err-start.result e _ c.from_residual-in_err-start.ensures.0 c.from_residual-in_err-start.ensures.1
    (told_given (Some b) view (let r : Result (List ℕ) IpcError = Err e in r) x message_metadata is
    (prefix_from (Some b) (length b) (file_block x) c.in_ok-offset.offset c.in_ok-metadata.metadata c.in_ok-body.body view (Err e) e refl refl place meta body inside
    (subst (λ y. Refuses e (refusals (prefix_of y))) c.part_of-front.ensures.part c.in_err-start.ensures.gives)))

pub returns-clause-metadata : goal.returns-clause-metadata
returns-clause-metadata c =
    let x = c.args.block.now in
    let b = c.args.bytes.now in
    let offset : natural x.offset ≡ Ok c.in_ok-offset.offset = search rules in
    let metadata : natural x.meta_data_length ≡ Ok c.in_ok-metadata.metadata = search rules in
    let body_is : natural x.body_length ≡ Ok c.in_ok-body.body = search rules in
    let is : block_by x ≡ Ok (file_block x) = numbers_given x c.in_ok-offset.offset c.in_ok-metadata.metadata c.in_ok-body.body offset metadata body_is in
    let meta = sym (counted x.meta_data_length c.in_ok-metadata.metadata metadata) in
    let place = sym (counted x.offset c.in_ok-offset.offset offset) in
    let body = sym (counted x.body_length c.in_ok-body.body body_is) in
    let inside : c.in_ok-offset.offset + c.in_ok-metadata.metadata + c.in_ok-body.body ≤ length b = omega arith in
    told_given (Some b) view (let r : Result (List ℕ) IpcError = Ok c.part_of.result.now in r) x message_metadata is
    (metadata_from (Some b) (Some b) (length b) (file_block x) c.in_ok-offset.offset c.in_ok-metadata.metadata c.in_ok-body.body (c.in_ok-start.start, c.in_ok-start.length) view (Ok c.part_of.result.now)
    refl place meta body inside refl (subst (λ y. let r : Reading (ℕ × ℕ) = Ok (c.in_ok-start.start, c.in_ok-start.length) in prefix_of y ≡ r) c.part_of-front.ensures.part c.in_ok-start.ensures.gives) c.part_of.ensures.part tt)
