use Rattle.std.proofs.Common.{◌+◌, ◌-◌, length, take, drop, refl, subst, ◌∙◌, arith, length-take}
use Rattle.std.specs.Io.KnownBytes.{Appends}
use Rattle.std.proofs.lemmas.List.{take_all}
use Rattle.ipc_bodies.specs.Encodings.{text_of}
use Rattle.ipc_bodies.proofs.Encoded.{no_text, still_short, text_piece_stops, text_piece_put}
use Rattle.ipc_bodies.proofs.sinks.put_bytes_as.Goals as goal

pub loop-at-init : goal.loop-at-init
loop-at-init g c = record { within = omega arith; puts = no_text c.args.encoding _ _ _; references = refl; scratch = refl; longest = omega arith }

pub returns-in_err-put_piece-clause-puts : goal.returns-in_err-put_piece-clause-puts
returns-in_err-put_piece-clause-puts g c =
    text_piece_stops c.args.encoding _ _ _ _ _ _ _ _ _ c.in_err-put_piece.field-0.0 c.from_residual.result c.args.bytes.now _ c.loop-at.at _ refl c.from_residual.ensures.1 c.loop-at.invariant.puts c.in_err-put_piece.ensures.puts

pub returns-in_err-put_piece-clause-longest : goal.returns-in_err-put_piece-clause-longest
returns-in_err-put_piece-clause-longest g c =
    let at = c.loop-at.at in
    let k = c.min-count.result in
    let bytes = c.args.bytes.now in
    still_short c.args.encoding _ _ _ (length (take (at + k - at) (drop at bytes))) c.bytes_in-most.result (length c.args.scratch.now) c.loop-at.invariant.longest c.put_piece.ensures.longest (omega (arith, length-take (at + k - at) (drop at bytes), c.min-count.ensures)) c.bytes_in-most.ensures

pub returns-clause-puts : goal.returns-clause-puts
returns-clause-puts g c = (subst (λ l. Appends (g.W.Sink.written c.args.sink.now) (g.W.Sink.written c.loop-at.sink) (text_of c.args.encoding l)) (take_all c.loop-at.at c.args.bytes.now (omega arith)) c.loop-at.invariant.puts.0, c.loop-at.invariant.puts.1)

pub loop-at-preserved : goal.loop-at-preserved
loop-at-preserved g c =
    let at = c.loop-at.at in
    let k = c.min-count.result in
    let bytes = c.args.bytes.now in
    record {
      within = omega (arith, c.min-count.ensures, c.loop-at-test.true);
      puts = text_piece_put c.args.encoding _ _ _ _ _ _ _ _ _ bytes (take (at + k - at) (drop at bytes)) at (at + k - at) (at + k) refl (omega arith) c.loop-at.invariant.puts c.in_ok-put_piece.ensures.puts;
      references = c.put_piece.ensures.same_references ∙ c.loop-at.invariant.references;
      scratch = c.put_piece.ensures.room ∙ c.loop-at.invariant.scratch;
      longest = still_short c.args.encoding _ _ _ (length (take (at + k - at) (drop at bytes))) c.bytes_in-most.result (length c.args.scratch.now) c.loop-at.invariant.longest c.put_piece.ensures.longest (omega (arith, length-take (at + k - at) (drop at bytes), c.min-count.ensures)) c.bytes_in-most.ensures;
    }
