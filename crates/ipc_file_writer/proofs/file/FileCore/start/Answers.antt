use Rattle.std.proofs.Common.{◌≡◌, arith, false, inl, refl, subst, sym, true, ◌∙◌}
use Rattle.std.specs.Io.KnownBytes.{Appends}
use Rattle.ipc_messages.specs.States.{is_new}
use Rattle.ipc_messages.proofs.Putting.{untouched}
use Rattle.laws_writers.proofs.Pairs.{regular_without}
use Rattle.ipc_file_writer.specs.Written.{own_fields}
use Rattle.ipc_file_writer.proofs.Calling.{leaves, not_begun, start_stopped}
use Rattle.ipc_file_writer.proofs.Meaning.{begun_file}
use Rattle.ipc_file_writer.proofs.Said.{said_without}
use Rattle.ipc_file_writer.proofs.file.FileCore.start.Goals as goal

pub returns-then-not-is_new-clause-starts : goal.returns-then-not-is_new-clause-starts
returns-then-not-is_new-clause-starts g c =
    let e : is_new c.args.self.now.state ≡ false = sym c.is_new.ensures ∙ c.if-not-is_new.true in
    inl (inl (refl, e), leaves _ c.args.self.now (untouched _ _ _))

pub returns-in_err-start-clause-starts : goal.returns-in_err-start-clause-starts
returns-in_err-start-clause-starts g c =
    let n : is_new c.args.self.now.state ≡ true = sym c.is_new.ensures ∙ c.if-not-is_new.false in
    not_begun c.from_residual.result c.in_err-start.field-0.0 _ c.args.self.now c.from_residual.ensures.1 n c.in_err-start.ensures.gives (untouched _ _ _)

pub returns-in-Ok-clause-starts : goal.returns-in-Ok-clause-starts
returns-in-Ok-clause-starts g c = record {
  new_before = sym c.is_new.ensures ∙ c.if-not-is_new.false;
  state = refl;
  bytes = c.in_ok-start.start.items;
  text = c.in_ok-start.ensures.gives;
  appended = subst (Appends _ _) c.as_slice.ensures.value c.in-Ok.ensures.puts.0;
  counts = c.in-Ok.ensures.puts.1;
  dictionaries = refl;
  records = refl;
  end = omega (arith, c.len.ensures);
  tracker = refl;
  written = refl;
  stays = record { options = refl; schema = refl; ipc_schema = refl; pairs = refl; tracker = refl };
  said = λ nothing pairs said.
      begun_file c.args.self.now.options _ c.in_ok-start.start.items c.in_ok-start.ensures.gives c.in_ok-start.ensures.may (record { held = nothing.held; dictionaries = nothing.dictionaries; records = nothing.records }) (omega (arith, c.len.ensures))
      (said_without (own_fields c.args.self.now) pairs said);
  means = λ nothing pairs reg.
      begun_file c.args.self.now.options _ c.in_ok-start.start.items c.in_ok-start.ensures.gives c.in_ok-start.ensures.may (record { held = nothing.held; dictionaries = nothing.dictionaries; records = nothing.records }) (omega (arith, c.len.ensures))
      (c.in_ok-start.ensures.may.said (regular_without (own_fields c.args.self.now) pairs reg));
}

pub returns-clause-starts : goal.returns-clause-starts
returns-clause-starts g c =
    let n : is_new c.args.self.now.state ≡ true = sym c.is_new.ensures ∙ c.if-not-is_new.false in
    let k = c.stop_at.ensures in
    start_stopped c.stop_at.result c.in-Err.stop _ c.args.self.now c.stop_at.new.self c.in_ok-start.start.items c.as_slice.result.now k.error n c.in_ok-start.ensures.gives c.as_slice.ensures.value c.in-Err.ensures.puts c.in-Err.ensures.whole k.state k.same
