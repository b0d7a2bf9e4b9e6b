-- What the worked file costs, and what is fetched of it: the prefix and the metadata alone of a batch of which no rows are read.
use Rattle.std.proofs.Common.{◌≡◌, None, Some, refl}
use Rattle.arrow_spec.specs.Files.{«all»}
use Rattle.arrow_spec.specs.Needed.{batch_needs, dictionary_needs, all_need, parts_needed, needed, cost, lengths}
use Rattle.laws_files.specs.Fetched.{batch_fetched, batches_fetched, dictionary_fetched, parts_fetched, fetched}
use Rattle.laws_worked.proofs.Vectors.{int32_file}
use Rattle.laws_worked.proofs.Int32Table.{computed}

pub int32_file-cost : cost int32_file «all» ≡ 351
unfolding computed batch_needs dictionary_needs all_need parts_needed needed cost
int32_file-cost = refl

pub int32_file-fetched : lengths (fetched int32_file «all») ≡ 351
unfolding computed batch_fetched batches_fetched dictionary_fetched all_need parts_fetched fetched
int32_file-fetched = refl

-- 13 bytes of buffers less
pub int32_file-no_rows : lengths (fetched int32_file (record { columns = None; limit = Some 0 })) ≡ 338
unfolding computed batch_fetched batches_fetched dictionary_fetched all_need parts_fetched fetched
int32_file-no_rows = refl
