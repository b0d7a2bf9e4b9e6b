use Rattle.std.proofs.Common.{◌≡◌, ◌+◌, ◌<◌, ◌≤◌, Err, arith, refl, rules}
use Rattle.arrow_spec.specs.Counts.{magnitude}
use Rattle.ipc_files.specs.FileBlocks.{file_block}
use Rattle.ipc_files.proofs.Errors.{is_err}
use Rattle.ipc_flight.proofs.Handed.{handed_whole, metadata_caused, no_metadata, out_of_range}
use Rattle.ipc_flight.proofs.hand.fill_message.Goals.{then-offset-size-via-then-offset-size, then-offset-size-via-else-offset-size+then-metadata-size, then-offset-size-via-else-offset-size+else-metadata-size+then-body-size}
use Rattle.ipc_flight.proofs.hand.fill_message.Goals as goal

pub returns-then-offset-size-clause-hands : goal.returns-then-offset-size-clause-hands
returns-then-offset-size-clause-hands g c =
    let x = c.args.block.now in
    let o : c.magnitude-offset.result ≡ magnitude x.offset = search rules in
    let m : c.magnitude-metadata.result ≡ magnitude x.meta_data_length = search rules in
    let n : c.magnitude-body.result ≡ magnitude x.body_length = search rules in
    let past : c.args.size < c.magnitude-offset.result + c.magnitude-metadata.result + c.magnitude-body.result = elim c.then-offset-size.branch [
      | then-offset-size-via-then-offset-size w ↦ omega arith
      | then-offset-size-via-else-offset-size+then-metadata-size w ↦ omega arith
      | then-offset-size-via-else-offset-size+else-metadata-size+then-body-size w ↦ omega arith
    ] in
    out_of_range (g.S.Source.content c.args.source.now) c.args.size (file_block x) c.args.message.now _ refl c.requires (omega (arith, o, m, n, past))

pub returns-in_err-fill_metadata-clause-hands : goal.returns-in_err-fill_metadata-clause-hands
returns-in_err-fill_metadata-clause-hands g c =
    let x = c.args.block.now in
    let o : c.magnitude-offset.result ≡ magnitude x.offset = search rules in
    let m : c.magnitude-metadata.result ≡ magnitude x.meta_data_length = search rules in
    let n : c.magnitude-body.result ≡ magnitude x.body_length = search rules in
    let inside : c.magnitude-offset.result + c.magnitude-metadata.result + c.magnitude-body.result ≤ c.args.size = omega arith in
    let e : c.from_residual-in_err-fill_metadata.result ≡ Err c.in_err-fill_metadata.field-0.0 = is_err _ _ _ c.from_residual-in_err-fill_metadata.ensures.0 c.from_residual-in_err-fill_metadata.ensures.1 (λ f h. h) in
    no_metadata (g.S.Source.content c.args.source.now) c.args.size (file_block x) c.magnitude-offset.result c.magnitude-metadata.result c.magnitude-body.result c.fill.new.bytes.items c.deref.result.now _ c.from_residual-in_err-fill_metadata.result c.in_err-fill_metadata.field-0.0 e c.requires o m n inside c.in_ok-fill.ensures.bytes c.deref.ensures.value c.in_err-fill_metadata.ensures.gives

pub returns-in_err-fill_metadata-clause-cause : goal.returns-in_err-fill_metadata-clause-cause
returns-in_err-fill_metadata-clause-cause g c =
    let e : c.from_residual-in_err-fill_metadata.result ≡ Err c.in_err-fill_metadata.field-0.0 = is_err _ _ _ c.from_residual-in_err-fill_metadata.ensures.0 c.from_residual-in_err-fill_metadata.ensures.1 (λ f h. h) in
    metadata_caused c.deref.result.now c.from_residual-in_err-fill_metadata.result c.in_err-fill_metadata.field-0.0 _ _ e c.in_err-fill_metadata.ensures.gives

pub returns-clause-hands : goal.returns-clause-hands
returns-clause-hands g c =
    let x = c.args.block.now in
    let o : c.magnitude-offset.result ≡ magnitude x.offset = search rules in
    let m : c.magnitude-metadata.result ≡ magnitude x.meta_data_length = search rules in
    let n : c.magnitude-body.result ≡ magnitude x.body_length = search rules in
    let inside : c.magnitude-offset.result + c.magnitude-metadata.result + c.magnitude-body.result ≤ c.args.size = omega arith in
    handed_whole (g.S.Source.content c.args.source.now) _ c.args.size (file_block x) c.magnitude-offset.result c.magnitude-metadata.result c.magnitude-body.result c.fill.new.bytes.items c.deref.result.now _ c.fill-2.result c.requires o m n inside c.in_ok-fill.ensures.kept.content c.in_ok-fill.ensures.bytes c.deref.ensures.value c.in_ok-fill_metadata.ensures.gives
    c.fill-2.ensures.bytes c.fill-2.ensures.refused
