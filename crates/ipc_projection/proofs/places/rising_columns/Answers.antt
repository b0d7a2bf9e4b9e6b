use Rattle.std.proofs.Common.{◌≡◌, ◌∙◌, ◌+◌, sym, ap, subst, arith, Some, None, length}
use Rattle.std.proofs.lemmas.Option.{slice_get-get_or}
use Rattle.ipc_projection.specs.Places.{AreRising, entry}
use Rattle.ipc_projection.proofs.Risen.{apart, without, one_passed, one_risen}
use Rattle.ipc_projection.proofs.places.rising_columns.Goals as goal
use Rattle.ipc_projection.proofs.places.rising_columns.Goals.{in-Some+in_ok-insert+in_ok-push, in_default}

pub loop-i-preserved : goal.loop-i-preserved
loop-i-preserved c =
    let ps = c.args.places.now in
    let i = c.loop-i.i in
    let at = slice_get-get_or ps i None c.loop-i-test.true in
    elim c.match-places-i.branch [
      | in-Some+in_ok-insert+in_ok-push w ↦
          let u = w.in_ok-insert.ensures.updates in
          let n : w.len.result ≡ length c.loop-i.columns.items = omega (arith, w.len.ensures, c.loop-i.columns.ok) in
          let more = one_risen ps i c.loop-i.columns.items c.loop-i.map c.loop-i.invariant w.in-Some.place (at ∙ ap Some w.in-Some.is) w.insert.new.self (ap (entry w.insert.new.self) (sym n) ∙ u.1) (λ q away. u.2 q (apart w.len.result q (λ e. away (e ∙ n)))) in
          let here = subst (λ cs. AreRising ps (i + 1) cs w.insert.new.self) (sym w.in_ok-push.ensures.items) more in
          subst (AreRising ps (i + 1) c.match-places-i.columns.items) (sym w.map-is) (subst (λ v. AreRising ps (i + 1) v.items w.insert.new.self) (sym w.columns-is) here)
      | in_default w ↦
          let same = one_passed ps i c.loop-i.columns.items c.loop-i.map c.loop-i.invariant (at ∙ ap Some (without _ w.in_default.not-Some)) in
          subst (AreRising ps (i + 1) c.match-places-i.columns.items) (sym w.map-is) (subst (λ v. AreRising ps (i + 1) v.items c.loop-i.map) (sym w.columns-is) same)
    ]
