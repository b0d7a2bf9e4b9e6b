use Rattle.std.proofs.Common.{◌≡◌, ◌∙◌, ◌+◌, ◌-◌, ◌<◌, ◌≤◌, suc, length, drop, false, map, Some, slice_get, sym, ap, subst, arith}
use Rattle.std.proofs.lemmas.List.{length-map}
use Rattle.arrow_types.specs.KindOf.{kind_of}
use Rattle.laws_unify.specs.Over.{Lists}
use Rattle.laws_unify.specs.United.{finished, lists_large}
use Rattle.ipc_unify.specs.Steps.{lists_of}
use Rattle.ipc_unify.proofs.Finishing.{finish_next, kind_there, may_next, none_finished, none_large}
use Rattle.ipc_unify.proofs.OverSteps.{refused_by}
use Rattle.ipc_unify.proofs.finished.finish_lists.Goals as goal

pub loop-turn-init : goal.loop-turn-init
loop-turn-init c =
    let ks = map kind_of c.args.types.now in
    let raw : Lists = lists_of c.args.lists.now.items in
    let whole : length c.args.types.now - 0 ≡ length ks = omega (arith, length-map c.args.types.now kind_of) in
    record { lists = none_finished ks (length c.args.types.now - 0) raw whole; kept = c.requires.kept; small = none_large (finished ks 0 raw) ks (length c.args.types.now - 0) raw whole }

pub finish_list-requires-clause-may : goal.finish_list-requires-clause-may
finish_list-requires-clause-may c =
    let ts = c.args.types.now in
    let t = c.index-types-number.result in
    let q = length c.args.types.now - 1 - c.loop-turn.turn in
    let below : q < length ts = omega (arith, c.loop-turn-test.true) in
    may_next (map kind_of ts) (lists_of c.args.lists.now.items) (lists_of c.loop-turn.lists.items) q (length ts - c.loop-turn.turn) (kind_of t) (kind_there ts q t below c.index-types-number.is) (omega (arith, c.loop-turn-test.true)) c.loop-turn.invariant.lists c.requires.may

pub returns-in_err-finish_list-clause-refused : goal.returns-in_err-finish_list-clause-refused
returns-in_err-finish_list-clause-refused c =
    let ts = c.args.types.now in
    let t = c.index-types-number.result in
    let q = length c.args.types.now - 1 - c.loop-turn.turn in
    let below : q < length ts = omega (arith, c.loop-turn-test.true) in
    let n = finish_next (map kind_of ts) (lists_of c.args.lists.now.items) (lists_of c.loop-turn.lists.items) q (length ts - c.loop-turn.turn) (kind_of t) (kind_there ts q t below c.index-types-number.is) (omega (arith, c.loop-turn-test.true)) c.loop-turn.invariant.lists in
    refused_by c.from_residual.result c.in_err-finish_list.field-0.0 _ _ c.from_residual.ensures.1 n.large c.in_err-finish_list.ensures.refused

pub loop-turn-preserved : goal.loop-turn-preserved
loop-turn-preserved c =
    let ts = c.args.types.now in
    let ks = map kind_of ts in
    let raw : Lists = lists_of c.args.lists.now.items in
    let t = c.index-types-number.result in
    let turn = c.loop-turn.turn in
    let q = length c.args.types.now - 1 - turn in
    let m = length ts - turn in
    let inv = c.loop-turn.invariant in
    let below : q < length ts = omega (arith, c.loop-turn-test.true) in
    let next : m ≡ suc q = omega (arith, c.loop-turn-test.true) in
    let left : q ≡ length ts - (turn + 1) = omega (arith, c.loop-turn-test.true) in
    let n = finish_next ks raw (lists_of c.loop-turn.lists.items) q m (kind_of t) (kind_there ts q t below c.index-types-number.is) next inv.lists in
    let others : lists_large (finished ks 0 raw) (drop (suc q) ks) (suc q) raw ≡ false = subst (λ i. lists_large (finished ks 0 raw) (drop i ks) i raw ≡ false) next inv.small in
    record {
      lists = c.in_ok-finish_list.ensures.lists ∙ n.lists ∙ ap (λ i. finished (drop i ks) i raw) left;
      kept = c.in_ok-finish_list.ensures.kept;
      small = subst (λ i. lists_large (finished ks 0 raw) (drop i ks) i raw ≡ false) left (n.small others c.in_ok-finish_list.ensures.fits);
    }

pub returns-clause-lists : goal.returns-clause-lists
returns-clause-lists c =
    let ks = map kind_of c.args.types.now in
    let raw : Lists = lists_of c.args.lists.now.items in
    let end : length c.args.types.now - c.loop-turn.turn ≡ 0 = omega (arith, c.loop-turn-test.false) in
    c.loop-turn.invariant.lists ∙ ap (λ i. finished (drop i ks) i raw) end

pub returns-clause-fits : goal.returns-clause-fits
returns-clause-fits c =
    let ks = map kind_of c.args.types.now in
    let raw : Lists = lists_of c.args.lists.now.items in
    let end : length c.args.types.now - c.loop-turn.turn ≡ 0 = omega (arith, c.loop-turn-test.false) in
    subst (λ i. lists_large (finished ks 0 raw) (drop i ks) i raw ≡ false) end c.loop-turn.invariant.small
