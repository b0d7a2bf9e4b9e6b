use Rattle.std.proofs.Common.{◌≡◌, ◌++◌, ◌∙◌, ap, get_or, pos, drop-cons, SFits, to_z, of_z, rules}
use Rattle.std.specs.Int.{w32, w64}
use Rattle.std.specs.Fmt.{signed_decimal}
use Rattle.std.proofs.Math.Facts.{sfits_widen}
use Rattle.std.proofs.lemmas.Int.{to_z-of_z}
use Rattle.ipc_text.proofs.IdSteps.{ids_all, stated_more}
use Rattle.ipc_text.proofs.numbers.push_stated.Goals as goal

pub loop-i-init : goal.loop-i-init
loop-i-init c = ap (λ s. c.args.out.now.items ++ s) (ids_all c.args.ids.now)

pub loop-i-preserved : goal.loop-i-preserved
loop-i-preserved c =
    let ids = c.args.ids.now in
    let z = get_or ids c.loop-i.i (pos 0) in
    let mid = c.push_comma.new.out.items in
    let fits : SFits w32 z = search rules in
    let same : c.from.result ≡ z = c.from.ensures ∙ to_z-of_z w32 z fits in
    let written : c.push_signed.new.out.items ≡ mid ++ signed_decimal z =
    c.in_ok-push_signed.ensures ∙ ap (λ x. mid ++ signed_decimal (to_z w64 (of_z w64 x))) same ∙ ap (λ x. mid ++ signed_decimal x) (to_z-of_z w64 z (sfits_widen tt fits)) in
    stated_more ids c.loop-i.i z c.loop-i.out.items mid c.push_signed.new.out.items _ (drop-cons ids c.loop-i.i (pos 0) c.loop-i-test.true) c.in_ok-push_comma.ensures written c.loop-i.invariant
