use Rattle.std.proofs.Common.{inl, inr, map, refl, rules}
use Rattle.arrow_spec.specs.declared.error.IpcError.TheVariants.{Memory}
use Rattle.ipc_dictionaries.specs.Walks.{to_send}
use Rattle.ipc_dictionaries.proofs.PartSteps.{handed}
use Rattle.ipc_messages.specs.Encoded.{AddsEach}
use Rattle.ipc_messages.proofs.encoded.add_messages.Goals as goal

pub returns-in_err-more : goal.returns-in_err-more
returns-in_err-more c =
    let was = c.args.encoded.now.items in
    handed (λ r. AddsEach r c.args.options.now (map to_send c.args.messages.now) was was) c.from_residual.result c.in_err-more.field-0.0 c.from_residual.ensures.1 (inr c.in_err-more.ensures, refl)

pub returns-in_err-append : goal.returns-in_err-append
returns-in_err-append c =
    handed (λ r. AddsEach r c.args.options.now (map to_send c.args.messages.now) c.args.encoded.now.items c.append.new.self.items) c.from_residual-in_err-append.result Memory c.from_residual-in_err-append.ensures.1 (inl refl, search rules)

pub returns : goal.returns
returns c = (c.in_ok-more.more.items, search rules, c.in_ok-more.ensures)
