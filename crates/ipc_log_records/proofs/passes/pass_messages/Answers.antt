use Rattle.std.proofs.Common.{◌≡◌, ℕ, ◌-◌, ◌≤◌, List, Ok, Some, take, drop, length, length-drop, sym, subst, arith}
use Rattle.std.proofs.lemmas.List.{take_all}
use Rattle.std.proofs.lemmas.Result.{err_from_is_err_and}
use Rattle.laws_logs.specs.Tables.{next_pass}
use Rattle.ipc_log_records.specs.Passes.{passed_in}
use Rattle.ipc_log_records.proofs.Passing.{SoFar, all_counted, all_passed, none_so_far, one_more, refused_walk}
use Rattle.ipc_log_records.proofs.passes.pass_messages.Goals as goal

pub loop-pass-init : goal.loop-pass-init
loop-pass-init c = none_so_far c.args.bytes.now

pub returns-in_err-pass-clause-dictionaries : goal.returns-in_err-pass-clause-dictionaries
returns-in_err-pass-clause-dictionaries c =
    let p = err_from_is_err_and c.from_residual.result c.from_residual.ensures.1 in
    rw (p.1, p.2) (refused_walk c.args.bytes.now c.loop-pass.rest.now c.loop-pass.dictionaries _ c.loop-pass.invariant c.in_err-pass.ensures.gives)

pub loop-pass-preserved : goal.loop-pass-preserved
loop-pass-preserved c =
    let pass = c.in-Some.pass in
    let inside : (4 ≤ pass.end) × (pass.end ≤ length c.loop-pass.rest.now) = rw c.in-Some.is at c.in_ok-pass.ensures.inside in
    let next : next_pass c.loop-pass.rest.now ≡ Ok (Some (passed_in c.loop-pass.rest.now pass)) = rw c.in-Some.is at c.in_ok-pass.ensures.gives in
    let rest = c.loop-pass.rest.now in
    let all : take (length rest - pass.end) (drop pass.end rest) ≡ drop pass.end rest = take_all (length rest - pass.end) (drop pass.end rest) (omega (arith, length-drop pass.end rest)) in
    let more = one_more c.args.bytes.now rest c.loop-pass.dictionaries pass c.loop-pass.invariant inside.0 inside.1 next in
    subst (λ (l : List ℕ). SoFar c.args.bytes.now l c.counted-dictionaries.result) (sym all) (subst (λ (n : ℕ). SoFar c.args.bytes.now (drop pass.end rest) n) (sym c.counted-dictionaries.ensures) more)

pub returns-clause-dictionaries : goal.returns-clause-dictionaries
returns-clause-dictionaries c = all_counted c.args.bytes.now c.loop-pass.rest.now c.loop-pass.dictionaries c.loop-pass.invariant (rw c.in_default.is at c.in_ok-pass.ensures.gives)

pub returns-clause-rest : goal.returns-clause-rest
returns-clause-rest c = all_passed c.args.bytes.now c.loop-pass.rest.now c.loop-pass.dictionaries c.loop-pass.invariant (rw c.in_default.is at c.in_ok-pass.ensures.gives)
