use Rattle.std.proofs.Common.{[], ◌++◌, ◌-◌, ◌∙◌, ap, refl, take}
use Rattle.ipc_log_records.proofs.decode.last_of.Goals as goal

pub returns-in-Some-clause-last : goal.returns-in-Some-clause-last
returns-in-Some-clause-last c = (c.pop.new.self.items, c.in-Some.ensures.items)

pub returns-clause-none : goal.returns-clause-none
returns-clause-none c =
    let none = c.in-None.ensures.rest ∙ ap (λ n. take (n - 1) c.args.batches.items) c.in-None.ensures.cases.0 in
    (refl, c.in-None.ensures.items ∙ ap (λ l. l ++ []) none)
