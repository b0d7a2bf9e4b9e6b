use Rattle.std.proofs.Common.{◌≡◌, inl, inr, false, refl, rules, subst, to_z, of_z, w64}
use Rattle.std.proofs.lemmas.Int.{to_z-of_z}
use Rattle.arrow_spec.specs.declared.error.IpcError.TheVariants.{Memory}
use Rattle.arrow_arrays.specs.PartsOf.{forest_of}
use Rattle.ipc_dictionaries.proofs.PartSteps.{handed}
use Rattle.ipc_messages.specs.Encoded.{AddsEach, AreMessagesOf, RefusesOne, messages_of}
use Rattle.ipc_messages.proofs.encoded.add_parts.Goals as goal

pub returns-in_err-more : goal.returns-in_err-more
returns-in_err-more c =
    let e : to_z w64 (of_z w64 c.args.id) ≡ c.args.id = to_z-of_z w64 c.args.id c.ranges.id in
    let parts = forest_of c.args.parts.now in
    let was = c.args.encoded.now.items in
    let error = c.in_err-more.field-0.0 in
    let refused : RefusesOne error c.args.options.now (messages_of c.args.id false parts) = subst (λ z. RefusesOne error c.args.options.now (messages_of z false parts)) e c.in_err-more.ensures in
    handed (λ r. AddsEach r c.args.options.now (messages_of c.args.id false parts) was was) c.from_residual.result error c.from_residual.ensures.1 (inr refused, refl)

pub returns-in_err-append : goal.returns-in_err-append
returns-in_err-append c =
    handed (λ r. AddsEach r c.args.options.now (messages_of c.args.id false (forest_of c.args.parts.now)) c.args.encoded.now.items c.append.new.self.items) c.from_residual-in_err-append.result Memory c.from_residual-in_err-append.ensures.1 (inl refl, search rules)

pub returns : goal.returns
returns c =
    let e : to_z w64 (of_z w64 c.args.id) ≡ c.args.id = to_z-of_z w64 c.args.id c.ranges.id in
    let parts = forest_of c.args.parts.now in
    let more = c.in_ok-more.more.items in
    let all : AreMessagesOf c.args.options.now (messages_of c.args.id false parts) more = subst (λ z. AreMessagesOf c.args.options.now (messages_of z false parts) more) e c.in_ok-more.ensures in
    (more, search rules, all)
