use Rattle.std.proofs.Common.{inr, refl, subst, sym}
use Rattle.ipc_log_records.specs.Decoded.{Unread}
use Rattle.ipc_log_records.proofs.Decoding.{many_counted, not_counted, record_read, told_unread}
use Rattle.ipc_log_records.proofs.Writing.{handed}
use Rattle.ipc_log_records.proofs.decode.record_in.Goals as goal

pub returns-in_err-dictionaries-clause-err : goal.returns-in_err-dictionaries-clause-err
returns-in_err-dictionaries-clause-err c =
    handed _ c.from_residual.result c.in_err-dictionaries.field-0.0 c.from_residual.ensures.1 (not_counted c.in_err-dictionaries.field-0.0 c.args.bytes.items c.deref.result.now c.deref.ensures.value c.in_err-dictionaries.ensures.err)

pub returns-then-dictionaries-gt-MOST_DICTIONARIES-clause-err : goal.returns-then-dictionaries-gt-MOST_DICTIONARIES-clause-err
returns-then-dictionaries-gt-MOST_DICTIONARIES-clause-err c =
    inr (refl, many_counted c.args.bytes.items c.deref.result.now c.in_ok-dictionaries.dictionaries c.deref.ensures.value c.in_ok-dictionaries.ensures.count c.if-dictionaries-gt-MOST_DICTIONARIES.true)

pub returns-in-Ok-clause-record : goal.returns-in-Ok-clause-record
returns-in-Ok-clause-record c =
    record_read c.args.bytes.items c.deref.result.now c.in-Ok.stream c.in_ok-dictionaries.dictionaries c.deref.ensures.value c.in-Ok.ensures.whole c.in_ok-dictionaries.ensures.closed c.in_ok-dictionaries.ensures.count
    c.if-dictionaries-gt-MOST_DICTIONARIES.false

pub returns-in-Err-clause-err : goal.returns-in-Err-clause-err
returns-in-Err-clause-err c = subst (λ e. Unread e c.args.bytes.items) (sym c.told.ensures) (told_unread c.in-Err.error c.args.bytes.items c.in-Err.ensures.err)
