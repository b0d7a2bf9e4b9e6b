use Rattle.std.proofs.Common.{◌≡◌, false, inl, inr, refl, sym, true, true≢false, ◌∙◌}
use Rattle.ipc_messages.specs.Fields.{given_ids}
use Rattle.ipc_messages.specs.States.{is_started}
use Rattle.ipc_messages.proofs.Putting.{untouched}
use Rattle.ipc_file_writer.proofs.Calling.{as_written, leaves}
use Rattle.ipc_file_writer.proofs.file.FileCore.write.Goals as goal

pub returns-then-not-is_started-clause-writes : goal.returns-then-not-is_started-clause-writes
returns-then-not-is_started-clause-writes g c =
    let e : is_started c.args.self.now.state ≡ false = sym c.is_started.ensures ∙ c.if-not-is_started.true in
    inl (inl (refl, e), leaves _ c.args.self.now (untouched _ _ _))

pub returns-then-not-takes-clause-writes : goal.returns-then-not-takes-clause-writes
returns-then-not-takes-clause-writes g c =
    let n : is_started c.args.self.now.state ≡ true = sym c.is_started.ensures ∙ c.if-not-is_started.false in
    inl (inr (n, inl (refl, λ s. absurd (true≢false (sym (c.takes.ensures.1 s) ∙ c.if-not-takes.true)))), leaves _ c.args.self.now (untouched _ _ _))

pub send-requires : goal.send-requires
send-requires g c = sym c.is_started.ensures ∙ c.if-not-is_started.false

pub returns-clause-writes : goal.returns-clause-writes
returns-clause-writes g c =
    let n : is_started c.args.self.now.state ≡ true = sym c.is_started.ensures ∙ c.if-not-is_started.false in
    as_written _ c.send.result c.args.self.now c.send.new.self c.args.batch.now (given_ids c.args.ipc_fields) n (c.takes.ensures.0 c.if-not-takes.false) c.args.self.now.kept c.send.ensures.sends
