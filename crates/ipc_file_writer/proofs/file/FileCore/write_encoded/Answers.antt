use Rattle.std.proofs.Common.{ap, sym, ◌∙◌}
use Rattle.ipc_messages.specs.States.{state_behind}
use Rattle.ipc_file_writer.proofs.GivenMeaning.{given_file}
use Rattle.ipc_file_writer.proofs.GivenSteps.{left_then, not_given}
use Rattle.ipc_file_writer.proofs.file.FileCore.write_encoded.Goals as goal

pub returns-in-Ok-clause-writes : goal.returns-in-Ok-clause-writes
returns-in-Ok-clause-writes g c = record {
  started = sym c.is_started.ensures ∙ c.if-not-is_started.false;
  puts = c.in-Ok.ensures.puts;
  means = given_file _ c.args.self.now c.put_given.new.self c.args.encoded_dictionaries.now c.args.encoded_message.now c.in-Ok.ensures.puts;
}

pub returns-in-Err-clause-writes : goal.returns-in-Err-clause-writes
returns-in-Err-clause-writes g c =
    let p = c.in-Err.ensures.puts in
    let k = c.stop_at.ensures in
    not_given c.stop_at.result c.in-Err.stop _ c.args.self.now c.stop_at.new.self c.args.encoded_dictionaries.now c.args.encoded_message.now k.error (sym c.is_started.ensures ∙ c.if-not-is_started.false) p.0 c.in-Err.ensures.wants
    (k.state ∙ ap (state_behind c.in-Err.stop.has_begun) p.1.held.state) (left_then c.args.self.now c.put_given.new.self c.stop_at.new.self p.1 k.same k.tracker)
