use Rattle.std.proofs.Common.{◌≡◌, arith, inl, refl, sym, ◌∙◌, true, false}
use Rattle.ipc_bodies.specs.Encodings.{text_of}
use Rattle.ipc_messages.specs.States.{is_started}
use Rattle.ipc_messages.proofs.Putting.{untouched}
use Rattle.ipc_stream_writer.proofs.Calling.{finish_stopped, leaves}
use Rattle.ipc_stream_writer.proofs.Meaning.{ended_written}
use Rattle.ipc_stream_writer.proofs.stream.StreamCore.finish.Goals as goal

pub returns-then-not-is_started-clause-finishes : goal.returns-then-not-is_started-clause-finishes
returns-then-not-is_started-clause-finishes g c =
    let e : is_started c.args.self.now.state ≡ false = sym c.is_started.ensures ∙ c.if-not-is_started.true in
    inl (inl (refl, e), leaves _ c.args.self.now (untouched _ _ _))

pub returns-in-Ok-clause-finishes : goal.returns-in-Ok-clause-finishes
returns-in-Ok-clause-finishes g c = record {
  started = sym c.is_started.ensures ∙ c.if-not-is_started.false;
  state = refl;
  appended = c.in-Ok.ensures.puts.0;
  counts = c.in-Ok.ensures.puts.1;
  tracker = refl;
  stays = record { options = refl; encoding = refl; schema = refl; fields = refl; pairs = refl; tracker = refl };
  count = c.saturating_add-self.ensures;
  written = ended_written c.args.self.now _ refl refl c.saturating_add-self.ensures;
}

pub returns-in-Err-clause-finishes : goal.returns-in-Err-clause-finishes
returns-in-Err-clause-finishes g c =
    let n : is_started c.args.self.now.state ≡ true = sym c.is_started.ensures ∙ c.if-not-is_started.false in
    let k = c.stop_at.ensures in
    finish_stopped (text_of c.args.self.now.encoding) c.stop_at.result c.in-Err.stop _ c.args.self.now c.stop_at.new.self k.error n c.in-Err.ensures.puts (c.in-Err.ensures.wants (omega arith)) c.in-Err.ensures.whole k.state k.tracker k.count
    (record { options = k.stays.options; encoding = k.stays.encoding; schema = k.stays.schema; fields = k.stays.fields; pairs = k.stays.pairs; tracker = k.stays.tracker })
