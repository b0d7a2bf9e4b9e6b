use Rattle.std.proofs.Common.{◌+◌, ◌-◌, ◌%◌, length, take, drop, inl, refl, ◌∙◌, arith}
use Rattle.ipc_bodies.proofs.Puts.{whole_next}
use Rattle.ipc_bodies.proofs.Encoded.{no_text, text_piece_stops, text_piece_put}
use Rattle.ipc_bodies.proofs.buffer.BodyBuffer.put_made.Goals as goal

pub loop-at-init : goal.loop-at-init
loop-at-init g c = record { within = omega arith; whole = inl refl; puts = no_text c.args.encoding _ _ _; references = refl; scratch = refl; longest = omega arith }

pub returns-in_err-put_part-clause-puts : goal.returns-in_err-put_part-clause-puts
returns-in_err-put_part-clause-puts g c =
    text_piece_stops c.args.encoding _ _ _ _ _ _ _ _ _ c.in_err-put_part.field-0.0 c.from_residual.result c.args.self.now _ c.loop-at.at _ refl c.from_residual.ensures.1 c.loop-at.invariant.puts c.in_err-put_part.ensures.puts

pub loop-at-preserved : goal.loop-at-preserved
loop-at-preserved g c =
    let l = c.loop-at in
    let at = l.at in
    let k = c.min-count.result in
    let all = c.args.self.now in
    let room = c.made_in-room.result in
    record {
      within = omega (arith, c.min-count.ensures, c.len-all.ensures, c.loop-at-test.true);
      whole = whole_next at room (room - room % 64) c.len-all.result k (length all) l.invariant.whole c.loop-at-test.true c.len-all.ensures refl c.min-count.ensures;
      puts = text_piece_put c.args.encoding _ _ _ _ _ _ _ _ _ all (take k (drop at all)) at k (at + k) refl refl l.invariant.puts c.in_ok-put_part.ensures.puts;
      references = c.put_part.ensures.same_references ∙ l.invariant.references;
      scratch = c.put_part.ensures.scratch ∙ l.invariant.scratch;
      longest = omega (arith, l.invariant.longest, l.invariant.scratch, c.put_part.ensures.longest);
    }
