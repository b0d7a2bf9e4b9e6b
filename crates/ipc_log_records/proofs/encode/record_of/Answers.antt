use Rattle.std.proofs.Common.{inl}
use Rattle.ipc_log_records.specs.Written.{lent}
use Rattle.ipc_log_records.proofs.Meaning.{broken, few, many}
use Rattle.ipc_log_records.proofs.Writing.{handed}
use Rattle.ipc_log_records.proofs.encode.record_of.Goals as goal

pub returns-in_err-bytes-clause-err : goal.returns-in_err-bytes-clause-err
returns-in_err-bytes-clause-err c = handed _ c.from_residual.result c.in_err-bytes.field-0.0 c.from_residual.ensures.1 (inl c.in_err-bytes.ensures.err)

pub returns-in_err-dictionaries-clause-err : goal.returns-in_err-dictionaries-clause-err
returns-in_err-dictionaries-clause-err c =
    handed _ c.from_residual-in_err-dictionaries.result c.in_err-dictionaries.field-0.0 c.from_residual-in_err-dictionaries.ensures.1
    (broken c.in_err-dictionaries.field-0.0 c.args.schema.now (lent c.args.batch) c.in_ok-bytes.bytes.items c.deref.result.now c.deref.ensures.value c.in_ok-bytes.ensures.stream c.in_err-dictionaries.ensures.err)

pub returns-then-dictionaries-gt-MOST_DICTIONARIES-clause-err : goal.returns-then-dictionaries-gt-MOST_DICTIONARIES-clause-err
returns-then-dictionaries-gt-MOST_DICTIONARIES-clause-err c =
    many c.args.schema.now (lent c.args.batch) c.in_ok-bytes.bytes.items c.deref.result.now c.in_ok-dictionaries.dictionaries c.deref.ensures.value c.in_ok-bytes.ensures.stream c.in_ok-dictionaries.ensures.count
    c.if-dictionaries-gt-MOST_DICTIONARIES.true

pub returns-clause-is_record : goal.returns-clause-is_record
returns-clause-is_record c =
    few c.args.schema.now (lent c.args.batch) c.in_ok-bytes.bytes.items c.deref.result.now c.in_ok-dictionaries.dictionaries c.deref.ensures.value c.in_ok-bytes.ensures.stream c.in_ok-dictionaries.ensures.count
    c.if-dictionaries-gt-MOST_DICTIONARIES.false
