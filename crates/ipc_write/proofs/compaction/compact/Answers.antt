use Rattle.std.proofs.Common.{◌≡◌, rules}
use Rattle.arrow_types.specs.KindOf.{kind_of}
use Rattle.ipc_write.proofs.Compacted.{never_refused}
use Rattle.ipc_write.proofs.compaction.compact.Goals as goal

pub unreachable-requires : goal.unreachable-requires
unreachable-requires g c =
    let p = c.args.array.now in
    let kinds : kind_of c.in_ok-dtype.dtype ≡ p.kind = search rules in
    let valid : c.in_ok-validity.validity ≡ p.validity = search rules in
    never_refused g.V.ViewType.IS_TEXT p (kind_of c.in_ok-dtype.dtype) c.in_ok-views.views c.in_ok-views.buffers.items c.in_ok-validity.validity c.in-Err.field-0 c.in_ok-views.ensures.sound c.needs_compaction.ensures.small c.in_ok-views.ensures.laid c.in_ok-views.ensures.few kinds valid c.in-Err.ensures.err
