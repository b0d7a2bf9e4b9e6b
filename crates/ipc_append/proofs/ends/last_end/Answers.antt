use Rattle.std.proofs.Common.{ap, sym, subst, ◌∙◌}
use Rattle.arrow_spec.specs.Readings.{IsAmong, refusals}
use Rattle.ipc_append.proofs.Places.{dictionary_refused, end_found, no_batch, none_there, past_end, record_refused, some_there}
use Rattle.ipc_append.specs.Places.{Tells, farthest, last_end}
use Rattle.ipc_file_writer.proofs.Below.{handed}
use Rattle.ipc_append.proofs.ends.last_end.Goals as goal

pub returns-then-is_empty : goal.returns-then-is_empty
returns-then-is_empty c =
    no_batch c.args.metadata.now (none_there c.as_slice-records.result.now c.args.metadata.now.blocks.items c.is_empty.result c.as_slice-records.ensures.value c.is_empty.ensures c.if-is_empty.true)

pub returns-in_err-dictionaries : goal.returns-in_err-dictionaries
returns-in_err-dictionaries c =
    let m = c.args.metadata.now in
    let e = c.in_err-dictionaries.field-0.0 in
    handed (λ r. Tells r (last_end m)) c.from_residual.result e c.from_residual.ensures.1
    (dictionary_refused m e (some_there c.as_slice-records.result.now m.blocks.items c.is_empty.result c.as_slice-records.ensures.value c.is_empty.ensures c.if-is_empty.false) (subst (λ xs. IsAmong (refusals (farthest 0 xs)) e) c.as_slice.ensures.value c.in_err-dictionaries.ensures))

pub returns-in_err-end : goal.returns-in_err-end
returns-in_err-end c =
    let m = c.args.metadata.now in
    let e = c.in_err-end.field-0.0 in
    handed (λ r. Tells r (last_end m)) c.from_residual-in_err-end.result e c.from_residual-in_err-end.ensures.1
    (record_refused m e c.in_ok-dictionaries.dictionaries (some_there c.as_slice-records.result.now m.blocks.items c.is_empty.result c.as_slice-records.ensures.value c.is_empty.ensures c.if-is_empty.false) (ap (farthest 0) (sym c.as_slice.ensures.value) ∙ c.in_ok-dictionaries.ensures)
    (subst (λ xs. IsAmong (refusals (farthest c.in_ok-dictionaries.dictionaries xs)) e) c.as_slice-records.ensures.value c.in_err-end.ensures))

pub returns-then-end-metadata : goal.returns-then-end-metadata
returns-then-end-metadata c =
    past_end c.args.metadata.now c.in_ok-dictionaries.dictionaries c.in_ok-end.end (some_there c.as_slice-records.result.now c.args.metadata.now.blocks.items c.is_empty.result c.as_slice-records.ensures.value c.is_empty.ensures c.if-is_empty.false) (ap (farthest 0) (sym c.as_slice.ensures.value) ∙ c.in_ok-dictionaries.ensures)
    (ap (farthest c.in_ok-dictionaries.dictionaries) (sym c.as_slice-records.ensures.value) ∙ c.in_ok-end.ensures) c.if-end-metadata.true

pub returns : goal.returns
returns c =
    end_found c.args.metadata.now c.in_ok-dictionaries.dictionaries c.in_ok-end.end (some_there c.as_slice-records.result.now c.args.metadata.now.blocks.items c.is_empty.result c.as_slice-records.ensures.value c.is_empty.ensures c.if-is_empty.false) (ap (farthest 0) (sym c.as_slice.ensures.value) ∙ c.in_ok-dictionaries.ensures)
    (ap (farthest c.in_ok-dictionaries.dictionaries) (sym c.as_slice-records.ensures.value) ∙ c.in_ok-end.ensures) c.if-end-metadata.false
