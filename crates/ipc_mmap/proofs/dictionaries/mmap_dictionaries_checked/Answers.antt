use Rattle.std.proofs.Common.{◌≡◌, ◌<◌, ◌≤◌, ap, arith, length, subst}
use Rattle.std.proofs.lemmas.List.{drop_all}
use Rattle.ipc_files.specs.FileViews.{meta_view}
use Rattle.ipc_files.proofs.BlockRows.{next_given}
use Rattle.ipc_view.specs.Dictionaries.{shown_in}
use Rattle.ipc_mmap.proofs.FileDictionaries.{SoFar, all_refused, all_shown, none_lent, none_yet, one_more}
use Rattle.ipc_mmap.proofs.dictionaries.mmap_dictionaries_checked.Goals as goal

pub loop-block-init : goal.loop-block-init
loop-block-init c =
    record {
      so = none_yet c.args.bytes.now (meta_view c.args.metadata.now) c.args.metadata.now.dictionaries.items c.new-dictionaries.result c.new-dictionaries.ensures.empty;
      lent = none_lent c.args.bytes.now c.new-dictionaries.result c.new-dictionaries.ensures.empty;
    }

pub loop-block-preserved : goal.loop-block-preserved
loop-block-preserved c =
    let file = c.args.metadata.now in
    let b = c.args.bytes.now in
    let items = c.deref-block-items.result.now in
    let within : c.loop-block.block-index < length items = omega (arith, c.loop-block-test.true, c.loop-block.auto.block-index-end) in
    let next = subst (λ l. SoFar b (meta_view file) file.dictionaries.items l (shown_in c.loop-block.dictionaries)) (next_given file.dictionaries.items items c.loop-block.block-index _ c.deref-block-items.ensures.value within) c.loop-block.invariant.so in
    record {
      so = one_more b (meta_view file) file.dictionaries.items _ _ _ _ tt next c.in_ok-add_block.ensures.adds;
      lent = c.in_ok-add_block.ensures.lent c.loop-block.invariant.lent;
    }

pub returns-in_err-add_block-clause-shows : goal.returns-in_err-add_block-clause-shows
returns-in_err-add_block-clause-shows c =
    let file = c.args.metadata.now in
    let b = c.args.bytes.now in
    let items = c.deref-block-items.result.now in
    let within : c.loop-block.block-index < length items = omega (arith, c.loop-block-test.true, c.loop-block.auto.block-index-end) in
    let next = subst (λ l. SoFar b (meta_view file) file.dictionaries.items l (shown_in c.loop-block.dictionaries)) (next_given file.dictionaries.items items c.loop-block.block-index _ c.deref-block-items.ensures.value within) c.loop-block.invariant.so in
    all_refused b (meta_view file) file.dictionaries.items _ _ _ _ c.from_residual.result c.in_err-add_block.field-0.0 c.from_residual.ensures.0 c.from_residual.ensures.1 next c.in_err-add_block.ensures.adds

pub returns-clause-shows : goal.returns-clause-shows
returns-clause-shows c =
    let file = c.args.metadata.now in
    let items = c.deref-block-items.result.now in
    let same : length items ≡ length file.dictionaries.items = ap length c.deref-block-items.ensures.value in
    let whole : length file.dictionaries.items ≤ c.loop-block.block-index = omega (arith, same, c.loop-block-test.false, c.loop-block.auto.block-index-end) in
    all_shown c.args.bytes.now (meta_view file) file.dictionaries.items _ c.loop-block.dictionaries (drop_all c.loop-block.block-index file.dictionaries.items whole) c.loop-block.invariant.so

pub returns-clause-lent : goal.returns-clause-lent
returns-clause-lent c = c.loop-block.invariant.lent
