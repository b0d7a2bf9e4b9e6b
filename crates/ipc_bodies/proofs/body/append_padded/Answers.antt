use Rattle.std.proofs.Common.{◌≡◌, ◌≤◌, ◌+◌, ◌-◌, length, take, replicate, ap, ◌∙◌, arith, length-append}
use Rattle.std.proofs.lemmas.List.{take-replicate}
use Rattle.arrow_spec.specs.Layout.{up_to, zeros}
use Rattle.ipc_bodies.proofs.Adding.{appends_lent}
use Rattle.ipc_bodies.proofs.body.append_padded.Goals as goal

pub returns : goal.returns
returns c =
    let old = c.args.out.now.items in
    let mid = c.append.new.out.items in
    let x = c.args.buffer.now in
    let k = c.padding-count.result in
    let all : length mid ≡ length old + length x = ap length c.in_ok-append.ensures ∙ length-append old x in
    let own : c.len.result ≡ length mid = omega arith in
    let gap : k ≡ up_to 64 (length old + length x) - (length old + length x) = c.padding-count.ensures.gap ∙ ap (λ n. up_to 64 n - n) (own ∙ all) in
    let few : k ≤ 64 = omega (arith, c.padding-count.ensures.small) in
    appends_lent c.extend_from_slice.result old mid c.extend_from_slice.new.self.items x (take k (replicate 64 0)) (zeros (up_to 64 (length old + length x) - (length old + length x))) c.in_ok-append.ensures c.extend_from_slice.ensures.items (take-replicate k 64 0 few ∙ ap zeros gap)
