use Rattle.std.proofs.Common.{◌≡◌, ◌∙◌, Ok, ap, arith, length, subst, drop, length-append, length-drop, length-take}
use Rattle.ipc_io.specs.Outside.{Reads}
use Rattle.ipc_to_file.proofs.Feeds.{some_pulled}
use Rattle.ipc_to_file.proofs.feed.SourceFeedFeed.pull.Goals as goal

pub returns-in-Full-clause-bytes : goal.returns-in-Full-clause-bytes
returns-in-Full-clause-bytes g c =
    let long : length c.read_at.new.out ≡ c.min-count.result = omega (arith, length-take c.min-count.result c.args.out.now) in
    let stands = subst (λ r. Reads (g.S.Source.content c.size.new.self) c.args.self.now.at r c.read_at.new.out) (c.in_ok-read_at.was ∙ ap (λ x. Ok x) c.in-Full.is) c.read_at.ensures.bytes in
    some_pulled _ _ _ c.args.self.now.at c.min-count.result c.read_at.new.out _ c.size.ensures.content c.read_at.ensures.content long (λ none. omega (arith, none, length-append c.read_at.new.out (drop c.min-count.result c.args.out.now), length-drop c.min-count.result c.args.out.now)) stands
