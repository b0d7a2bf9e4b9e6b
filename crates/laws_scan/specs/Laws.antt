-- What holds of scans. Each statement is the contract of a public function without a body (src/lib.rt).
use Rattle.std.specs.Prelude.{◌≡◌, ℕ, List, Option, Some, Ok}
use Rattle.arrow_spec.specs.Files.{ArrowTable, Meta, meta_of, project, «all»}
use Rattle.arrow_spec.specs.Meaning.{file_table}
use Rattle.filter_types.specs.declared.filter.Filter.{Filter}
use Rattle.laws_scan.specs.Filtered.{filtered}
use Rattle.laws_scan.specs.Scan.{scan_right, scan_table}

-- Of a file that means a table, a scan whose columns are right means the rows that meet the filter, without empty batches, in the columns asked for.
abbrev pub ScanIsFiltered : Type 0
ScanIsFiltered = (b : List ℕ) (f : Filter) (columns : Option (List ℕ)) (meta : Meta) (t : ArrowTable) → meta_of b ≡ Ok meta → file_table b «all» ≡ Some t
    → scan_right f columns meta.schema.fields ≡ Ok tt → scan_table b f columns ≡ Some (project (filtered f t) columns)
