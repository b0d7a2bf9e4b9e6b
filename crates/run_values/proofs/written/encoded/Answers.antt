use Rattle.std.proofs.Common.{◌<◌, ◌^◌, subst}
use Rattle.arrow_arrays.specs.PartsOf.{parts_of}
use Rattle.run_values.proofs.Lengths.{encoded_within, few_rows, one_short}
use Rattle.run_values.proofs.written.encoded.Goals as goal

pub returns-clause-few : goal.returns-clause-few
returns-clause-few c = subst (λ n. n < 2 ^ 63) c.in_ok-batch.ensures.height (few_rows _ _ (encoded_within _ c.default.result _ _ _ _ c.in_ok-encode_record_batch.ensures.encodes))

pub returns-clause-short : goal.returns-clause-short
returns-clause-short c = one_short _ _ (parts_of c.args.array.now) (encoded_within _ c.default.result _ _ _ _ c.in_ok-encode_record_batch.ensures.encodes) c.in_ok-batch.ensures.arrays
