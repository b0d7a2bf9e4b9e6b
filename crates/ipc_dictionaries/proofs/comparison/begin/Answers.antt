use Rattle.std.proofs.Common.{◌++◌, ◌+◌, take, drop, sym, ap, ◌∙◌, append_assoc, true≢false}
use Rattle.arrow_arrays.specs.Parts.{cells_in}
use Rattle.arrow_arrays.specs.PartsOf.{parts_of}
use Rattle.ipc_dictionaries.specs.Standing.{all_cells, cells_from}
use Rattle.ipc_dictionaries.proofs.Places.{split_at, one_more}
use Rattle.ipc_dictionaries.proofs.Runs.{begun_behind}
use Rattle.ipc_dictionaries.proofs.comparison.begin.Goals as goal

pub returns-in-None : goal.returns-in-None
returns-in-None c =
    let xs = c.args.held.now in
    let i = c.loop-part.part-index in
    let x = c.part-item.result in (
      λ h. absurd (true≢false (sym h)),
      λ b. absurd (c.in-None.ensures.other (begun_behind (all_cells xs) (all_cells (take i xs)) (cells_in (parts_of x)) (all_cells (drop (i + 1) xs)) (all_cells c.args.parts.now) (cells_from c.args.parts.now c.loop-part.at)
          (split_at xs i x c.loop-part-test.true c.part-item.is) c.loop-part.invariant.0 b)),
    )

pub loop-part-preserved : goal.loop-part-preserved
loop-part-preserved c =
    let xs = c.args.held.now in
    let i = c.loop-part.part-index in
    let x = c.part-item.result in
    let front = all_cells (take i xs) in
    let rest = cells_from c.args.parts.now c.in-Some.next in (
      c.loop-part.invariant.0 ∙ ap (λ cs. front ++ cs) c.in-Some.ensures.behind.0 ∙ sym (append_assoc front (cells_in (parts_of x)) rest)
          ∙ ap (λ cs. cs ++ rest) (sym (one_more xs i x c.loop-part-test.true c.part-item.is)),
      c.in-Some.ensures.behind.1,
    )
