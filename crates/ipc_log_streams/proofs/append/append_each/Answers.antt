use Rattle.std.proofs.Common.{◌≡◌, ◌∙◌, inl, inr, map, refl, subst, sym, true}
use Rattle.arrow_types.specs.Schemas.{fields_in}
use Rattle.ipc_tablelog.specs.Below.{are_of}
use Rattle.ipc_concat.specs.Below.{cells_of}
use Rattle.laws_logs.specs.Tables.{MeansFront, with_batches}
use Rattle.ipc_tablelog.specs.TableLogs.{KeepsTable}
use Rattle.ipc_tablelog.proofs.Logs.{on_ok}
use Rattle.ipc_tablelog.proofs.Below.{if_err}
use Rattle.ipc_log_streams.specs.Appends.{StopsBatches}
use Rattle.ipc_log_streams.proofs.Logs.{fields_as, kinds_as, kinds_so, none_yet, not_same, other_so, same_so, still}
use Rattle.ipc_log_streams.proofs.append.append_each.Goals as goal

pub returns-then-not-have_same_fields-clause-any_moment : goal.returns-then-not-have_same_fields-clause-any_moment
returns-then-not-have_same_fields-clause-any_moment g c = λ x t h since.
    let d = g.D.LogDisk in
    let l = c.args.log.now in
    none_yet (d.content l.log.disk) (d.images l.log.disk) l.schema t _ l.log.spans.items l.log.end x h (λ b told. l.log.ready c.requires.ready b told) (g.met.D.LogDisk.only_now l.log.disk x since)

pub returns-then-not-have_same_fields-clause-time : goal.returns-then-not-have_same_fields-clause-time
returns-then-not-have_same_fields-clause-time g c = still g.D.LogDisk.moment g.D.LogDisk.images g.D.LogDisk.images_since c.args.log.now.log.disk (g.met.D.LogDisk.counts_now c.args.log.now.log.disk) (g.met.D.LogDisk.only_now c.args.log.now.log.disk)

-- whether the fields are the same, of the log's schema and the stream's
pub returns-then-not-have_same_fields-clause-refused : goal.returns-then-not-have_same_fields-clause-refused
returns-then-not-have_same_fields-clause-refused g c =
    let l = c.args.log.now in
    inl (refl, other_so l.schema c.args.stream.now c.requires.said (not_same _ _ _ _ _ c.schema.ensures c.deref.ensures c.have_same_fields.ensures.same c.if-not-have_same_fields.true), refl)

pub append_batches-requires-clause-kinds : goal.append_batches-requires-clause-kinds
append_batches-requires-clause-kinds g c =
    let l = c.args.log.now in
    let same = kinds_as _ _ _ _ c.schema.ensures c.deref.ensures (c.have_same_fields.ensures.kinds c.if-not-have_same_fields.false) in
    subst (λ bs. are_of (fields_in l.schema) bs ≡ true) (sym c.deref-2.ensures.value) (kinds_so (fields_in l.schema) (fields_in _) c.args.stream.now.batches.items same c.args.stream.now.kinds)

pub returns-clause-done : goal.returns-clause-done
returns-clause-done g c =
    let d = g.D.LogDisk in
    let l = c.args.log.now in
    let new = c.append_batches.new.log.log.disk in
    let same = same_so l.schema c.args.stream.now c.requires.said (fields_as _ _ _ _ _ c.schema.ensures c.deref.ensures c.have_same_fields.ensures.same c.if-not-have_same_fields.false) in
    on_ok c.append_batches.result _ _ (λ done t h. (h.fields ∙ same, subst (λ bs. KeepsTable (d.content new) (d.images new) l.schema (with_batches t (map cells_of bs))) c.deref-2.ensures.value (done t h))) c.append_batches.ensures.done

pub returns-clause-any_moment : goal.returns-clause-any_moment
returns-clause-any_moment g c = λ x t h since. subst (λ bs. MeansFront t (map cells_of bs) x) c.deref-2.ensures.value (c.append_batches.ensures.any_moment x t h since)

pub returns-clause-refused : goal.returns-clause-refused
returns-clause-refused g c =
    let d = g.D.LogDisk in
    let l = c.args.log.now in
    let new = c.append_batches.new.log.log.disk in
    let same = same_so l.schema c.args.stream.now c.requires.said (fields_as _ _ _ _ _ c.schema.ensures c.deref.ensures c.have_same_fields.ensures.same c.if-not-have_same_fields.false) in
    if_err c.append_batches.result _ _ (λ e stops. inr (same, subst (λ bs. StopsBatches e l.schema bs (d.content l.log.disk) (d.content new) (d.faults l.log.disk) (d.faults new)) c.deref-2.ensures.value stops)) c.append_batches.ensures.refused
