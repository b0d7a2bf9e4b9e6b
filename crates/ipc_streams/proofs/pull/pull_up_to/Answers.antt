use Rattle.std.proofs.Common.{◌≡◌, ap, arith, length, length-append, rules, sym, subst, [], refl, ◌∙◌}
use Rattle.std.specs.Io.KnownBytes.{Consumes}
use Rattle.std.proofs.KnownBytes.{Consumes-nil}
use Rattle.ipc_streams.proofs.Pulled.{feed_kept_on, more_pulled}
use Rattle.ipc_streams.proofs.pull.pull_up_to.Goals as goal

pub pieces-init : goal.pieces-init
pieces-init g c =
    let none : c.new-bytes.result.items ≡ [] = search rules in
    record {
      pulled = subst (Consumes (g.F.Feed.rest c.args.feed.now) (g.F.Feed.rest c.args.feed.now)) (sym none) (Consumes-nil (g.F.Feed.rest c.args.feed.now));
      short = omega (arith, ap length none);
      kept = search rules;
      faults_stay = refl;
    }

pub pieces-preserved : goal.pieces-preserved
pieces-preserved g c =
    let p = c.in_ok-got.ensures.pulls in
    record {
      pulled = more_pulled _ _ _ _ _ _ _ c.pieces.invariant.pulled p;
      short = omega (arith, ap length p.grown, length-append c.pieces.bytes.items p.added, p.count, p.few);
      kept = feed_kept_on c.pieces.invariant.kept c.in_ok-got.ensures.kept;
      faults_stay = c.in_ok-got.ensures.faults_stay ∙ c.pieces.invariant.faults_stay;
    }
