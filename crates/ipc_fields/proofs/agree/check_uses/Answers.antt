use Rattle.std.proofs.Common.{◌≡◌, [], ◌∷◌, map, Err, ap, sym, ◌∙◌, arith}
use Rattle.std.specs.Vec.Iter.{into_iter_items}
use Rattle.std.proofs.lemmas.Grind.{common_steps}
use Rattle.arrow_spec.specs.Schema.{uses_agree}
use Rattle.ipc_fields.specs.Uses.{use_in}
use Rattle.ipc_fields.proofs.Agreement.{agree_more, agree_stopped, agree_done, nothing_held}
use Rattle.ipc_fields.proofs.Steps.{refused_with, is_err}
use Rattle.ipc_fields.proofs.agree.check_uses.Goals as goal

pub loop-found-init : goal.loop-found-init
loop-found-init c = ([], nothing_held c.new-latest.result c.new-latest.ensures.empty, ap (λ us. uses_agree [] (map use_in us)) c.into_iter-found-iterator.ensures.into_iter_gives.0)

pub loop-found-preserved : goal.loop-found-preserved
loop-found-preserved c =
    let v = c.loop-found.invariant in
    let next : into_iter_items c.loop-found.found-iterator ≡ c.in-Some.found ∷ into_iter_items c.next.new.self = grind (arith, common_steps) in (
      use_in c.in-Some.found ∷ v.0,
      c.in_ok-take_use.ensures.holds v.0 v.1,
      agree_more (use_in c.in-Some.found) (map use_in (into_iter_items c.next.new.self)) v.0 _ _ (sym (ap (λ us. uses_agree v.0 (map use_in us)) next) ∙ v.2) (c.in_ok-take_use.ensures.gives v.0 v.1),
    )

pub returns : goal.returns
returns c =
    let v = c.loop-found.invariant in
    let none : into_iter_items c.loop-found.found-iterator ≡ [] = grind (arith, common_steps) in
    record { gives = agree_done (map use_in (into_iter_items c.loop-found.found-iterator)) v.0 _ (ap (map use_in) none) v.2 }

pub returns-in_err-take_use : goal.returns-in_err-take_use
returns-in_err-take_use c =
    let v = c.loop-found.invariant in
    let next : into_iter_items c.loop-found.found-iterator ≡ c.in-Some.found ∷ into_iter_items c.next.new.self = grind (arith, common_steps) in
    let e : c.from_residual.result ≡ Err c.in_err-take_use.field-0.0 = is_err _ _ _ c.from_residual.ensures.0 c.from_residual.ensures.1 (λ f h. h) in
    record { gives = refused_with (λ u. tt) c.from_residual.result _ c.in_err-take_use.field-0.0 e (agree_stopped (use_in c.in-Some.found) (map use_in (into_iter_items c.next.new.self)) v.0 _ c.in_err-take_use.field-0.0 (sym (ap (λ us. uses_agree v.0 (map use_in us)) next) ∙ v.2) (c.in_err-take_use.ensures.gives v.0 v.1)) }
