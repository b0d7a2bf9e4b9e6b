use Rattle.std.proofs.Common.{◌≡◌, ◌∙◌, ◌+◌, ap, arith, length, rules, take}
use Rattle.std.proofs.lemmas.List.{places, with_items_is}
use Rattle.ipc_streams.proofs.Pulled.{pulled_in_place}
use Rattle.ipc_streams.proofs.pull.pull_piece.Goals as goal

pub returns-clause-pulls : goal.returns-clause-pulls
returns-clause-pulls g c =
    let whole = with_items_is c.resize.new.self c.pull_at.new.bytes (search (rules, places)) in
    let long : length c.pull_at.new.bytes ≡ c.len-start.result + c.args.most = omega (arith, c.in_ok-resize.ensures.len, c.as_mut_slice.ensures.len) in
    pulled_in_place _ _ c.args.bytes.now.items c.resize.new.self.items c.pull_at.new.bytes c.truncate.new.self.items _ c.len-start.result c.args.most c.in_ok-count.count (search rules) c.in_ok-resize.ensures.items
    (c.pull_at.ensures.front ∙ ap (take c.len-start.result) c.as_mut_slice.ensures.value) long c.in_ok-count.ensures.fits (c.truncate.ensures.items ∙ ap (take (c.len-start.result + c.in_ok-count.count)) whole) c.in_ok-count.ensures.put c.in_ok-count.ensures.at_end
