use Rattle.std.proofs.Common.{◌≡◌, ◌++◌, ◌∙◌, ap, subst, OnOk, SFits, rules, w64}
use Rattle.std.proofs.lemmas.Int.{to_z-of_z}
use Rattle.arrow_spec.specs.Sent.{i64_bytes}
use Rattle.ipc_write.proofs.Headers.{two_put}
use Rattle.ipc_write.proofs.metadata.put_node.Goals as goal

pub returns-clause-bytes : goal.returns-clause-bytes
returns-clause-bytes c =
    let x = c.args.node.now.length in
    let y = c.args.node.now.null_count in
    let x_fits : SFits w64 x = search rules in
    let y_fits : SFits w64 y = search rules in
    let first = c.in_ok-put_i64.ensures ∙ ap (λ z. c.args.out.now.items ++ i64_bytes z) (to_z-of_z w64 x x_fits) in
    let second = subst (λ z. OnOk c.put_i64-2.result (c.put_i64-2.new.out.items ≡ c.put_i64.new.out.items ++ i64_bytes z)) (to_z-of_z w64 y y_fits) c.put_i64-2.ensures in
    two_put c.put_i64-2.result c.args.out.now.items (i64_bytes x) (i64_bytes y) c.put_i64.new.out.items _ first second
