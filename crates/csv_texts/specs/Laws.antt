-- What holds of printed tables. Each statement is the contract of a public function without a body (src/lib.rt).
use Rattle.std.specs.Prelude.{◌≡◌, ℕ, List, [], ◌∷◌, ◌++◌, Some, None, Ok}
use Rattle.arrow_spec.specs.Kinds.{Fields}
use Rattle.arrow_spec.specs.Meaning.{file_table}
use Rattle.arrow_spec.specs.Files.{ArrowTable, Request, TableBatch}
use Rattle.csv_texts.specs.Texts.{batch_text, batches_text, header_text, printable, printed}

-- A batch more adds its own text.
abbrev pub TextInBatches : Type 0
TextInBatches = (fs : Fields) (xs : List TableBatch) (x : TableBatch) → batches_text fs (xs ++ x ∷ []) ≡ batches_text fs xs ++ batch_text fs x

-- Where nothing is nested in what is asked for, what is printed is what the file means.
abbrev pub TextOfRead : Type 0
TextOfRead = (b : List ℕ) (r : Request) (t : ArrowTable) → printable b r ≡ Ok tt → file_table b r ≡ Some t → printed b r None ≡ Ok t

-- What is printed of fewer batches is a front of what is printed of more.
abbrev pub TextNestsIn : Type 0
TextNestsIn = (fs : Fields) (xs ys : List TableBatch) → header_text fs ++ batches_text fs (xs ++ ys) ≡ (header_text fs ++ batches_text fs xs) ++ batches_text fs ys
