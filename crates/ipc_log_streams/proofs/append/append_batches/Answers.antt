use Rattle.std.proofs.Common.{◌≡◌, ◌∙◌, List, arith, ap, inl, map, refl, subst, sym, take, ⊎_elim}
use Rattle.arrow_spec.specs.Files.{ArrowTable}
use Rattle.arrow_types.specs.Schemas.{Keyed, fields_in}
use Rattle.ipc_concat.specs.Below.{cells_of, plain_fields}
use Rattle.laws_logs.specs.Tables.{with_batch, with_batches}
use Rattle.ipc_tablelog.proofs.Below.{handed}
use Rattle.ipc_record_log.proofs.ReadOn.{elapses_on}
use Rattle.ipc_tablelog.specs.TableLogs.{IsTableOf, KeepsTable}
use Rattle.ipc_log_streams.proofs.Logs.{all_so_far, cause_as, item_at, keeps_so, next_front, none_so_far, none_yet, one_more, stops_at}
use Rattle.ipc_log_streams.proofs.append.append_batches.Goals as goal

pub loop-batch-init : goal.loop-batch-init
loop-batch-init g c =
    let d = g.D.LogDisk in
    let l = c.args.log.now in
    let disk = l.log.disk in
    record {
      ready = c.requires.ready;
      schema = refl;
      time = record {
        later = omega arith;
        exact = λ t x le. (λ since. inl since, λ e. ⊎_elim (λ since. since) (λ now. g.met.D.LogDisk.counts_now disk t x le (g.met.D.LogDisk.only_now disk x now)) e);
      };
      later = omega arith;
      held = λ t h. none_so_far (d.content disk) l.schema t h;
      moments = λ x t h since. none_yet (d.content disk) (d.images disk) l.schema t (map cells_of c.args.batches.now) l.log.spans.items l.log.end x h (λ b told. l.log.ready c.requires.ready b told) (g.met.D.LogDisk.only_now disk x since);
    }

pub loop-batch-preserved : goal.loop-batch-preserved
loop-batch-preserved g c =
    let d = g.D.LogDisk in
    let i = c.loop-batch.batch-index in
    let bs = c.args.batches.now in
    let k = c.loop-batch.invariant in
    let s = c.args.log.now.schema in
    let new = c.append.new.self.log.disk in
    let x = c.batch-item.result in
    let at = item_at bs i x (omega arith) c.batch-item.is in
    let on = λ (t : ArrowTable) (h : IsTableOf (d.content c.args.log.now.log.disk) s t). subst (λ (z : List Keyed). IsTableOf (d.content c.loop-batch.log.log.disk) z (with_batches t (take i (map cells_of bs)))) (sym k.schema) (k.held t h) in
    record {
      ready = c.in_ok-append.ensures.ok.1;
      schema = c.append.ensures.schema ∙ k.schema;
      time = elapses_on k.time c.append.ensures.time;
      later = omega (arith, k.later, c.append.ensures.later);
      held = λ t h. one_more bs i x at (d.content new) (d.images new) s t (subst (λ (z : List Keyed). KeepsTable (d.content new) (d.images new) z (with_batch (with_batches t (take i (map cells_of bs))) (cells_of x))) (c.append.ensures.schema ∙ k.schema) (c.in_ok-append.ensures.acknowledged (with_batches t (take i (map cells_of bs))) (on t h)));
      moments = λ y t h since. ⊎_elim
          (λ before. k.moments y t h before)
          (λ now. next_front bs i x at t y (c.append.ensures.any_moment k.ready y (with_batches t (take i (map cells_of bs))) (on t h) now))
          ((c.append.ensures.time.exact (d.moment c.args.log.now.log.disk) y k.time.later).0 since);
    }

pub returns-in_err-append-clause-any_moment : goal.returns-in_err-append-clause-any_moment
returns-in_err-append-clause-any_moment g c = λ y t h since.
    let d = g.D.LogDisk in
    let i = c.loop-batch.batch-index in
    let bs = c.args.batches.now in
    let k = c.loop-batch.invariant in
    let x = c.batch-item.result in
    let at = item_at bs i x (omega arith) c.batch-item.is in
    let on = subst (λ (z : List Keyed). IsTableOf (d.content c.loop-batch.log.log.disk) z (with_batches t (take i (map cells_of bs)))) (sym k.schema) (k.held t h) in
    ⊎_elim
    (λ before. k.moments y t h before)
    (λ now. next_front bs i x at t y (c.append.ensures.any_moment k.ready y (with_batches t (take i (map cells_of bs))) on now))
    ((c.append.ensures.time.exact (d.moment c.args.log.now.log.disk) y k.time.later).0 since)

pub returns-in_err-append-clause-time : goal.returns-in_err-append-clause-time
returns-in_err-append-clause-time g c = elapses_on c.loop-batch.invariant.time c.append.ensures.time

pub returns-in_err-append-clause-later : goal.returns-in_err-append-clause-later
returns-in_err-append-clause-later g c = omega (arith, c.loop-batch.invariant.later, c.append.ensures.later)

pub returns-in_err-append-clause-refused : goal.returns-in_err-append-clause-refused
returns-in_err-append-clause-refused g c =
    let d = g.D.LogDisk in
    let i = c.loop-batch.batch-index in
    let bs = c.args.batches.now in
    let k = c.loop-batch.invariant in
    let s = c.args.log.now.schema in
    let e = c.in_err-append.field-0.0 in
    let x = c.batch-item.result in
    let new = c.append.new.self in
    let at = item_at bs i x (omega arith) c.batch-item.is in
    let plain : plain_fields (fields_in s) ≡ fields_in s = subst (λ (z : List Keyed). plain_fields (fields_in z) ≡ fields_in z) c.schema.ensures c.types_have_no_ids.ensures in
    let first = c.args.log.now.log.disk in
    handed _ c.from_residual.result e c.from_residual.ensures.1
    (stops_at bs i x at s c.loop-batch.log.schema c.requires.said plain c.requires.kinds c.is_sound.ensures (d.content first) (d.content c.loop-batch.log.log.disk) (d.content new.log.disk) (d.faults first) (d.faults c.loop-batch.log.log.disk) (d.faults new.log.disk) _ _ c.loop-batch.log.log.is_failed _ _ e k.schema k.later k.ready (λ same. ap d.content same) k.held
    (λ t h y told.
    let on = subst (λ (z : List Keyed). IsTableOf (d.content c.loop-batch.log.log.disk) z (with_batches t (take i (map cells_of bs)))) (sym k.schema) (k.held t h) in
    c.append.ensures.any_moment k.ready y (with_batches t (take i (map cells_of bs))) on (g.met.D.LogDisk.counts_now new.log.disk (d.moment c.loop-batch.log.log.disk) y c.append.ensures.time.later (g.met.D.LogDisk.content_is_image new.log.disk y told)))
    (cause_as c.in_err-append.ensures.err))

pub returns-clause-done : goal.returns-clause-done
returns-clause-done g c = λ t h.
    let d = g.D.LogDisk in
    let k = c.loop-batch.invariant in
    let l = c.loop-batch.log in
    keeps_so (d.content l.log.disk) (d.images l.log.disk) c.args.log.now.schema (with_batches t (map cells_of c.args.batches.now)) l.log.spans.items l.log.end (all_so_far (d.content l.log.disk) c.args.log.now.schema t c.args.batches.now c.loop-batch.batch-index (omega arith) (k.held t h)) (λ b told. l.log.ready k.ready b told)

pub returns-clause-any_moment : goal.returns-clause-any_moment
returns-clause-any_moment g c = c.loop-batch.invariant.moments

pub returns-clause-time : goal.returns-clause-time
returns-clause-time g c = c.loop-batch.invariant.time

pub returns-clause-later : goal.returns-clause-later
returns-clause-later g c = c.loop-batch.invariant.later
