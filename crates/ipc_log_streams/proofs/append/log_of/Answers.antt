use Rattle.std.proofs.Common.{◌∙◌, [], ap, arith, inl, inr, refl, subst, sym}
use Rattle.std.proofs.lemmas.Result.{IfOk-weaker}
use Rattle.arrow_types.specs.Schemas.{fields_in}
use Rattle.ipc_io.specs.Outside.{IsSize}
use Rattle.laws_logs.specs.Tables.{table_of}
use Rattle.ipc_tablelog.specs.Below.{WasSaid, log_fields}
use Rattle.ipc_tablelog.proofs.Below.{read_regular, if_err}
use Rattle.ipc_record_log.proofs.ReadOn.{elapses_on}
use Rattle.ipc_tablelog.proofs.Logs.{since_on}
use Rattle.ipc_log_streams.specs.Appends.{NoLog}
use Rattle.ipc_log_streams.proofs.Logs.{created_not, empty_at, err_two, first_so, match_on, match_two, none_there, opened_not}
use Rattle.ipc_log_streams.proofs.append.log_of.Goals as goal

pub returns-in-Err-clause-since : goal.returns-in-Err-clause-since
returns-in-Err-clause-since g c = λ b t told m. c.has_no_bytes.ensures.kept.since

pub returns-in-Err-clause-time : goal.returns-in-Err-clause-time
returns-in-Err-clause-time g c = c.has_no_bytes.ensures.kept.time

pub returns-in-Err-clause-refused : goal.returns-in-Err-clause-refused
returns-in-Err-clause-refused g c = inl (NoLog.not_read refl c.in-Err.ensures.cause.failed, c.has_no_bytes.ensures.kept.content)

pub returns-in-Err-clause-later : goal.returns-in-Err-clause-later
returns-in-Err-clause-later g c = c.has_no_bytes.ensures.kept.faults

pub create-requires : goal.create-requires
create-requires g c = record { empty = subst (λ o. IsSize o 0) (sym c.has_no_bytes.ensures.kept.content) (c.in-Ok.ensures.empty c.if-is_empty.true) }

pub returns-then-is_empty-clause-begun : goal.returns-then-is_empty-clause-begun
returns-then-is_empty-clause-begun g c =
    let kept = c.has_no_bytes.ensures.kept in
    let said = c.requires.said in
    let reg = read_regular (fields_in c.args.schema.now) said.own [] said.may in
    IfOk-weaker c.create.result _ _ (λ l made b told. (
      table_of (log_fields l.schema) [],
      inl (empty_at _ b (c.in-Ok.ensures.empty c.if-is_empty.true) told, refl),
      made reg b (kept.content ∙ told),
    )) c.create.ensures.created

pub returns-then-is_empty-clause-said : goal.returns-then-is_empty-clause-said
returns-then-is_empty-clause-said g c = IfOk-weaker c.create.result _ _ (λ l is. subst WasSaid (sym is) c.requires.said) c.create.ensures.schema

pub returns-then-is_empty-clause-kept : goal.returns-then-is_empty-clause-kept
returns-then-is_empty-clause-kept g c = IfOk-weaker c.create.result _ _ (λ l is. inl is) c.create.ensures.schema

pub returns-then-is_empty-clause-since : goal.returns-then-is_empty-clause-since
returns-then-is_empty-clause-since g c = λ b t told m. absurd (none_there b t (empty_at _ b (c.in-Ok.ensures.empty c.if-is_empty.true) told) m)

pub returns-then-is_empty-clause-time : goal.returns-then-is_empty-clause-time
returns-then-is_empty-clause-time g c =
    let kept = c.has_no_bytes.ensures.kept in
    match_on c.create.result _ _ _ _ (λ l time. elapses_on kept.time time) (λ e time. elapses_on kept.time time) c.create.ensures.time

pub returns-then-is_empty-clause-refused : goal.returns-then-is_empty-clause-refused
returns-then-is_empty-clause-refused g c =
    let d = g.D.LogDisk in
    let kept = c.has_no_bytes.ensures.kept in
    if_err c.create.result _ _
    (λ e h. created_not e.error c.args.schema.now (d.content c.args.disk) (d.content e.object) _ _ _ _ _ _ kept.faults (λ b told. empty_at _ b (c.in-Ok.ensures.empty c.if-is_empty.true) told) (first_so c.args.schema.now c.requires.said c.types_have_no_ids.ensures e.error) (λ same. ap d.content same ∙ kept.content) h) c.create.ensures.err

pub returns-then-is_empty-clause-later : goal.returns-then-is_empty-clause-later
returns-then-is_empty-clause-later g c =
    let kept = c.has_no_bytes.ensures.kept in
    match_on c.create.result _ _ _ _ (λ l later. omega (arith, kept.faults, later)) (λ e later. omega (arith, kept.faults, later)) c.create.ensures.later

pub returns-else-is_empty-clause-begun : goal.returns-else-is_empty-clause-begun
returns-else-is_empty-clause-begun g c =
    let kept = c.has_no_bytes.ensures.kept in
    IfOk-weaker c.open.result _ _ (λ l made b told. let o = made b (kept.content ∙ told) in (o.0, inr o.1, o.2)) c.open.ensures.opened

pub returns-else-is_empty-clause-kept : goal.returns-else-is_empty-clause-kept
returns-else-is_empty-clause-kept g c =
    let kept = c.has_no_bytes.ensures.kept in
    IfOk-weaker c.open.result _ _ (λ l is. inr (is ∙ kept.content)) c.open.ensures.content

pub returns-else-is_empty-clause-since : goal.returns-else-is_empty-clause-since
returns-else-is_empty-clause-since g c = λ b t told m.
    let kept = c.has_no_bytes.ensures.kept in
    let counts = g.met.D.LogDisk.counts_now c.has_no_bytes.new.disk in
    match_two c.open.result _ _ _ _ _ _ (λ l since time. since_on kept.since kept.time time since counts) (λ e since time. since_on kept.since kept.time time since counts) c.open.ensures.since c.open.ensures.time

pub returns-else-is_empty-clause-time : goal.returns-else-is_empty-clause-time
returns-else-is_empty-clause-time g c =
    let kept = c.has_no_bytes.ensures.kept in
    match_on c.open.result _ _ _ _ (λ l time. elapses_on kept.time time) (λ e time. elapses_on kept.time time) c.open.ensures.time

pub returns-else-is_empty-clause-refused : goal.returns-else-is_empty-clause-refused
returns-else-is_empty-clause-refused g c =
    let d = g.D.LogDisk in
    let kept = c.has_no_bytes.ensures.kept in
    err_two c.open.result _ _ _ (λ e h left. opened_not e.error c.args.schema.now (d.content c.args.disk) (d.content c.has_no_bytes.new.disk) (d.content e.object) _ _ _ _ _ kept.faults kept.content (c.in-Ok.ensures.some c.if-is_empty.false) h left) c.open.ensures.err c.open.ensures.left

pub returns-else-is_empty-clause-later : goal.returns-else-is_empty-clause-later
returns-else-is_empty-clause-later g c =
    let kept = c.has_no_bytes.ensures.kept in
    match_on c.open.result _ _ _ _ (λ l later. omega (arith, kept.faults, later)) (λ e later. omega (arith, kept.faults, later)) c.open.ensures.later
