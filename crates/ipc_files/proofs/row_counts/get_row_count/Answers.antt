use Rattle.std.proofs.Common.{◌≡◌, ℕ, List, Err, Vec, Global}
use Rattle.std.specs.Prelude.{map}
use Rattle.arrow_spec.specs.declared.message.Block.{Block}
use Rattle.arrow_spec.specs.Files.{FileBlock}
use Rattle.ipc_files.specs.FileBlocks.{file_block}
use Rattle.ipc_files.specs.declared.metadata.FooterBytes.{FooterBytes}
use Rattle.ipc_files.proofs.BlockRows.{blocks_counted, footer_alone, footer_and_messages, no_blocks, no_footer}
use Rattle.ipc_files.proofs.Errors.{is_err}
use Rattle.ipc_files.proofs.PlainRefusals.{plain_handed, record_blocks_plain}
use Rattle.ipc_files.proofs.row_counts.get_row_count.Goals as goal

abbrev view : FooterBytes → List ℕ
view f = f.bytes.items

abbrev blocks_of : Vec Block Global → List FileBlock
blocks_of v = map file_block v.items

pub returns-in_err-footer-clause-gives : goal.returns-in_err-footer-clause-gives
returns-in_err-footer-clause-gives g c =
    let e : c.from_residual.result ≡ Err c.in_err-footer.field-0.0 = is_err _ _ _ c.from_residual.ensures.0 c.from_residual.ensures.1 (λ f h. h) in
    no_footer (g.S.Source.content c.args.source.now) view c.in_err-footer.field-0.0 c.from_residual.result e c.in_err-footer.ensures.footer

pub returns-in_err-blocks-clause-gives : goal.returns-in_err-blocks-clause-gives
returns-in_err-blocks-clause-gives g c =
    let e : c.from_residual-in_err-blocks.result ≡ Err c.in_err-blocks.field-0.0 = is_err _ _ _ c.from_residual-in_err-blocks.ensures.0 c.from_residual-in_err-blocks.ensures.1 (λ f h. h) in
    no_blocks (g.S.Source.content c.args.source.now) view c.in_ok-footer.footer c.deref.result.now blocks_of c.in_err-blocks.field-0.0 c.from_residual-in_err-blocks.result e c.in_ok-footer.ensures.footer c.deref.ensures.value c.in_err-blocks.ensures.gives

pub returns-in_err-blocks-clause-fetched : goal.returns-in_err-blocks-clause-fetched
returns-in_err-blocks-clause-fetched g c = footer_alone (g.S.Source.content c.args.source.now) _ _ c.in_ok-footer.ensures.fetched

pub returns-in_err-footer-clause-fetched : goal.returns-in_err-footer-clause-fetched
returns-in_err-footer-clause-fetched g c = footer_alone (g.S.Source.content c.args.source.now) _ _ c.in_err-footer.ensures.fetched

pub returns-clause-gives : goal.returns-clause-gives
returns-clause-gives g c =
    blocks_counted (g.S.Source.content c.args.source.now) _ view c.in_ok-footer.footer c.deref.result.now c.in_ok-blocks.blocks.items c.deref-2.result.now c.count_rows.result c.in_ok-footer.ensures.footer c.deref.ensures.value c.in_ok-blocks.ensures.gives c.in_ok-blocks.ensures.natural c.deref-2.ensures.value c.in_ok-footer.ensures.kept.content c.count_rows.ensures.gives

pub returns-clause-fetched : goal.returns-clause-fetched
returns-clause-fetched g c =
    footer_and_messages (g.S.Source.content c.args.source.now) _ view c.in_ok-footer.footer c.deref.result.now c.in_ok-blocks.blocks.items c.deref-2.result.now _ _ _ c.in_ok-footer.ensures.footer c.deref.ensures.value c.in_ok-blocks.ensures.gives c.in_ok-blocks.ensures.natural c.deref-2.ensures.value c.in_ok-footer.ensures.kept.content c.in_ok-footer.ensures.fetched c.count_rows.ensures.fetched

pub returns-in_err-blocks-clause-cause : goal.returns-in_err-blocks-clause-cause
returns-in_err-blocks-clause-cause g c =
    let e : c.from_residual-in_err-blocks.result ≡ Err c.in_err-blocks.field-0.0 = is_err _ _ _ c.from_residual-in_err-blocks.ensures.0 c.from_residual-in_err-blocks.ensures.1 (λ f h. h) in
    plain_handed c.from_residual-in_err-blocks.result c.in_err-blocks.field-0.0 _ _ _ e (record_blocks_plain _) c.in_err-blocks.ensures.gives
