use Rattle.std.proofs.Common.{◌≡◌, arith, false, inl, refl, subst, sym, true, ◌∙◌}
use Rattle.std.specs.Io.KnownBytes.{Appends}
use Rattle.ipc_messages.specs.States.{is_started}
use Rattle.ipc_messages.proofs.Putting.{untouched}
use Rattle.ipc_file_writer.proofs.Calling.{end_stopped, leaves, not_ended}
use Rattle.ipc_file_writer.proofs.Causes.{stands_below}
use Rattle.ipc_file_writer.proofs.file.FileCore.finish.Goals as goal

pub returns-then-not-is_started-clause-finishes : goal.returns-then-not-is_started-clause-finishes
returns-then-not-is_started-clause-finishes g c =
    let e : is_started c.args.self.now.state ≡ false = sym c.is_started.ensures ∙ c.if-not-is_started.true in
    inl (inl (refl, e), leaves _ c.args.self.now (untouched _ _ _))

pub returns-in_err-ending-clause-finishes : goal.returns-in_err-ending-clause-finishes
returns-in_err-ending-clause-finishes g c =
    let n : is_started c.args.self.now.state ≡ true = sym c.is_started.ensures ∙ c.if-not-is_started.false in
    not_ended c.from_residual.result c.in_err-ending.field-0.0 _ c.args.self.now c.from_residual.ensures.1 n c.in_err-ending.ensures.gives (untouched _ _ _)

pub returns-in-Ok-clause-finishes : goal.returns-in-Ok-clause-finishes
returns-in-Ok-clause-finishes g c = record {
  started = sym c.is_started.ensures ∙ c.if-not-is_started.false;
  state = refl;
  bytes = c.in_ok-ending.ending.items;
  text = c.in_ok-ending.ensures.gives;
  appended = subst (Appends _ _) c.as_slice.ensures.value c.in-Ok.ensures.puts.0;
  counts = c.in-Ok.ensures.puts.1;
  tracker = refl;
  dictionaries = refl;
  records = refl;
  end = omega (arith, c.len.ensures);
  written = refl;
  stays = record { options = refl; schema = refl; ipc_schema = refl; pairs = refl; tracker = refl };
  means = c.in_ok-ending.ensures.means;
}

pub returns-clause-finishes : goal.returns-clause-finishes
returns-clause-finishes g c =
    let n : is_started c.args.self.now.state ≡ true = sym c.is_started.ensures ∙ c.if-not-is_started.false in
    let k = c.stop_at.ensures in
    end_stopped c.stop_at.result c.in-Err.stop _ c.args.self.now c.stop_at.new.self c.in_ok-ending.ending.items c.as_slice.result.now k.error n c.in_ok-ending.ensures.gives c.as_slice.ensures.value c.in-Err.ensures.puts c.in-Err.ensures.whole k.state k.same

pub invariant_of-self-clause-place : goal.invariant_of-self-clause-place
invariant_of-self-clause-place g c =
    let b = c.args.self.now in
    let less = stands_below b.options _ _ b.pairs b.blocks c.in_ok-ending.ending.items c.in_ok-ending.ensures.gives in
    omega (arith, less, c.len.ensures)
