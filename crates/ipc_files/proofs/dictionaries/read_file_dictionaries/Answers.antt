use Rattle.std.proofs.Common.{◌≡◌, ◌<◌, ◌≤◌, Err, ap, arith, length, refl, rules, subst, ◌∙◌}
use Rattle.std.proofs.lemmas.List.{drop_all}
use Rattle.ipc_io.proofs.Kept.{source_kept_on}
use Rattle.ipc_read.proofs.HeldKinds.{nothing_held}
use Rattle.ipc_read.specs.Held.{held_in}
use Rattle.ipc_files.specs.FileViews.{meta_view}
use Rattle.ipc_files.proofs.BlockRows.{all_dropped, from_block, next_given}
use Rattle.ipc_files.proofs.Errors.{is_err}
use Rattle.ipc_files.proofs.ReadFiles.{of_err}
use Rattle.ipc_files.proofs.FetchedDictionaries.{CostSoFar, at_most_all, none_fetched, one_fetched}
use Rattle.ipc_files.proofs.FileDictionaries.{GivenSoFar, HeldSoFar, adds_read, all_read, none_given, none_read, none_used, one_given, one_read, one_refused, read_so_far}
use Rattle.ipc_files.proofs.dictionaries.read_file_dictionaries.Goals as goal

pub loop-block-init : goal.loop-block-init
loop-block-init g c =
    let nothing = nothing_held c.new-dictionaries.result c.new-dictionaries.ensures.empty in
    record {
      read = none_read (g.S.Source.content c.args.source.now) (meta_view c.args.metadata.now) (held_in c.new-dictionaries.result) nothing;
      given = none_given (g.S.Source.content c.args.source.now) (meta_view c.args.metadata.now) c.args.metadata.now.dictionaries.items (held_in c.new-dictionaries.result) nothing;
      uses = none_used (meta_view c.args.metadata.now) (held_in c.new-dictionaries.result) nothing;
      cost = none_fetched (g.S.Source.content c.args.source.now) (meta_view c.args.metadata.now) _;
      kept = search rules;
      faults_stay = refl;
    }

pub loop-block-preserved : goal.loop-block-preserved
loop-block-preserved g c =
    let file = c.args.metadata.now in
    let items = c.deref-block-items.result.now in
    let within : c.loop-block.block-index < length items = omega (arith, c.loop-block-test.true, c.loop-block.auto.block-index-end) in
    let here = subst (λ l. HeldSoFar (g.S.Source.content c.args.source.now) (meta_view file) l (held_in c.loop-block.dictionaries)) (from_block file.dictionaries.items items c.loop-block.block-index _ c.deref-block-items.ensures.value within) c.loop-block.invariant.read in
    let cost = subst (λ l. CostSoFar (g.S.Source.content c.args.source.now) (meta_view file) l (g.S.Source.fetched c.args.source.now) (g.S.Source.fetched c.loop-block.source)) (from_block file.dictionaries.items items c.loop-block.block-index _ c.deref-block-items.ensures.value within) c.loop-block.invariant.cost in
    let next = subst (λ l. GivenSoFar (g.S.Source.content c.args.source.now) (meta_view file) file.dictionaries.items l (held_in c.loop-block.dictionaries)) (next_given file.dictionaries.items items c.loop-block.block-index _ c.deref-block-items.ensures.value within) c.loop-block.invariant.given in
    record {
      read = one_read (g.S.Source.content c.args.source.now) _ (meta_view file) _ _ _ _ _ tt c.loop-block.invariant.kept.content here c.loop-block.invariant.uses (adds_read _ (meta_view file) _ _ _ tt c.in_ok-read_dictionary_block.ensures.adds) c.in_ok-read_dictionary_block.ensures.part;
      given = one_given (g.S.Source.content c.args.source.now) _ (meta_view file) file.dictionaries.items _ _ _ _ tt c.loop-block.invariant.kept.content next c.in_ok-read_dictionary_block.ensures.adds;
      uses = c.in_ok-read_dictionary_block.ensures.uses;
      cost = one_fetched (g.S.Source.content c.args.source.now) _ (meta_view file) _ _ _ _ _ _ c.loop-block.invariant.kept.content (read_so_far (g.S.Source.content c.args.source.now) (meta_view file) _ _ here) cost c.in_ok-read_dictionary_block.ensures.fetched;
      kept = source_kept_on c.loop-block.invariant.kept c.in_ok-read_dictionary_block.ensures.kept;
      faults_stay = c.in_ok-read_dictionary_block.ensures.faults_stay ∙ c.loop-block.invariant.faults_stay;
    }

pub returns-in_err-read_dictionary_block-clause-reads : goal.returns-in_err-read_dictionary_block-clause-reads
returns-in_err-read_dictionary_block-clause-reads g c =
    let file = c.args.metadata.now in
    let items = c.deref-block-items.result.now in
    let e : c.from_residual.result ≡ Err c.in_err-read_dictionary_block.field-0.0 = is_err _ _ _ c.from_residual.ensures.0 c.from_residual.ensures.1 (λ f h. h) in
    let within : c.loop-block.block-index < length items = omega (arith, c.loop-block-test.true, c.loop-block.auto.block-index-end) in
    let next = subst (λ l. GivenSoFar (g.S.Source.content c.args.source.now) (meta_view file) file.dictionaries.items l (held_in c.loop-block.dictionaries)) (next_given file.dictionaries.items items c.loop-block.block-index _ c.deref-block-items.ensures.value within) c.loop-block.invariant.given in
    one_refused (g.S.Source.content c.args.source.now) _ (meta_view file) file.dictionaries.items _ _ _ _ c.from_residual.result c.in_err-read_dictionary_block.field-0.0 c.loop-block.invariant.kept.content e next c.in_err-read_dictionary_block.ensures.adds

pub returns-in_err-read_dictionary_block-clause-some : goal.returns-in_err-read_dictionary_block-clause-some
returns-in_err-read_dictionary_block-clause-some g c =
    let file = c.args.metadata.now in
    let e : c.from_residual.result ≡ Err c.in_err-read_dictionary_block.field-0.0 = is_err _ _ _ c.from_residual.ensures.0 c.from_residual.ensures.1 (λ f h. h) in
    let within : c.loop-block.block-index < length c.deref-block-items.result.now = omega (arith, c.loop-block-test.true, c.loop-block.auto.block-index-end) in
    let same : length c.deref-block-items.result.now ≡ length file.dictionaries.items = ap length c.deref-block-items.ensures.value in
    of_err c.from_residual.result c.in_err-read_dictionary_block.field-0.0 (λ _. 0 < length file.dictionaries.items) e (omega (arith, within, same))

pub returns-in_err-read_dictionary_block-clause-fetched : goal.returns-in_err-read_dictionary_block-clause-fetched
returns-in_err-read_dictionary_block-clause-fetched g c =
    let file = c.args.metadata.now in
    let items = c.deref-block-items.result.now in
    let within : c.loop-block.block-index < length items = omega (arith, c.loop-block-test.true, c.loop-block.auto.block-index-end) in
    let at = from_block file.dictionaries.items items c.loop-block.block-index _ c.deref-block-items.ensures.value within in
    let here = subst (λ l. HeldSoFar (g.S.Source.content c.args.source.now) (meta_view file) l (held_in c.loop-block.dictionaries)) at c.loop-block.invariant.read in
    let cost = subst (λ l. CostSoFar (g.S.Source.content c.args.source.now) (meta_view file) l (g.S.Source.fetched c.args.source.now) (g.S.Source.fetched c.loop-block.source)) at c.loop-block.invariant.cost in
    at_most_all (g.S.Source.content c.args.source.now) (meta_view file) _ _ _ (one_fetched (g.S.Source.content c.args.source.now) _ (meta_view file) _ _ _ _ _ _ c.loop-block.invariant.kept.content (read_so_far (g.S.Source.content c.args.source.now) (meta_view file) _ _ here) cost c.in_err-read_dictionary_block.ensures.fetched)

pub returns-clause-fetched : goal.returns-clause-fetched
returns-clause-fetched g c = at_most_all (g.S.Source.content c.args.source.now) (meta_view c.args.metadata.now) _ _ _ c.loop-block.invariant.cost

pub returns-clause-reads : goal.returns-clause-reads
returns-clause-reads g c =
    let file = c.args.metadata.now in
    let items = c.deref-block-items.result.now in
    let same : length items ≡ length file.dictionaries.items = ap length c.deref-block-items.ensures.value in
    let whole : length file.dictionaries.items ≤ c.loop-block.block-index = omega (arith, same, c.loop-block-test.false, c.loop-block.auto.block-index-end) in
    all_read (g.S.Source.content c.args.source.now) (meta_view file) file.dictionaries.items _ _ c.loop-block.dictionaries refl (drop_all c.loop-block.block-index file.dictionaries.items whole) (all_dropped file.dictionaries.items c.loop-block.block-index whole)
    c.loop-block.invariant.given c.loop-block.invariant.read
