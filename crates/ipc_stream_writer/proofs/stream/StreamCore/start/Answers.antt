use Rattle.std.proofs.Common.{◌≡◌, inl, refl, sym, ◌∙◌, true, false}
use Rattle.ipc_bodies.specs.Encodings.{text_of}
use Rattle.ipc_messages.specs.Fields.{given_ids}
use Rattle.ipc_messages.specs.States.{is_new}
use Rattle.ipc_messages.proofs.Beginning.{text_plain}
use Rattle.ipc_messages.proofs.Putting.{untouched}
use Rattle.ipc_stream_writer.proofs.Calling.{has_begun, leaves, none_is, not_begun, start_stopped}
use Rattle.ipc_stream_writer.proofs.stream.StreamCore.start.Goals as goal

pub returns-then-not-is_new-clause-starts : goal.returns-then-not-is_new-clause-starts
returns-then-not-is_new-clause-starts g c =
    let e : is_new c.args.self.now.state ≡ false = sym c.is_new.ensures ∙ c.if-not-is_new.true in
    inl (inl (refl, e), leaves _ c.args.self.now (untouched _ _ _))

pub returns-in_err-start-clause-starts : goal.returns-in_err-start-clause-starts
returns-in_err-start-clause-starts g c =
    let n : is_new c.args.self.now.state ≡ true = sym c.is_new.ensures ∙ c.if-not-is_new.false in
    not_begun (text_of c.args.self.now.encoding) c.from_residual.result c.in_err-start.field-0.0 _ c.args.self.now _ c.args.schema.now (given_ids c.args.ipc_fields) c.from_residual.ensures.1 n c.in_err-start.ensures (untouched _ _ _)
    refl (λ q. refl) refl (record { options = refl; encoding = refl; schema = refl; fields = refl; pairs = refl; tracker = refl })

pub keep-requires : goal.keep-requires
keep-requires g c = text_plain _ _ _ _ _ c.in_ok-start.ensures.text

pub returns-in-Ok-clause-starts : goal.returns-in-Ok-clause-starts
returns-in-Ok-clause-starts g c =
    let n : is_new c.args.self.now.state ≡ true = sym c.is_new.ensures ∙ c.if-not-is_new.false in
    let k = c.keep.ensures in
    has_begun (text_of c.args.self.now.encoding) _ c.args.self.now c.keep.new.self c.args.schema.now (given_ids c.args.ipc_fields) c.in_ok-start.start c.as_slice.result.now n c.in_ok-start.ensures c.as_slice.ensures.value
    c.in-Ok.ensures.puts k.state k.schema k.fields k.options k.encoding k.pairs k.tracker k.count (λ id. none_is _ (c.args.self.now.none_held n id))

pub returns-in-Err-clause-starts : goal.returns-in-Err-clause-starts
returns-in-Err-clause-starts g c =
    let n : is_new c.args.self.now.state ≡ true = sym c.is_new.ensures ∙ c.if-not-is_new.false in
    let k = c.stop_at.ensures in
    start_stopped (text_of c.args.self.now.encoding) c.stop_at.result c.in-Err.stop _ c.args.self.now c.stop_at.new.self c.args.schema.now (given_ids c.args.ipc_fields) c.in_ok-start.start c.as_slice.result.now k.error n
    c.in_ok-start.ensures c.as_slice.ensures.value c.in-Err.ensures.puts c.in-Err.ensures.wants c.in-Err.ensures.whole k.state k.tracker k.count
    (record { options = k.stays.options; encoding = k.stays.encoding; schema = k.stays.schema; fields = k.stays.fields; pairs = k.stays.pairs; tracker = k.stays.tracker })
