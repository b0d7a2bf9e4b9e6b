-- Texts of batches one after another, and of a file that is printed.
use Rattle.std.proofs.Common.{◌≡◌, ◌∙◌, sym, refl, List, [], ◌∷◌, ◌++◌, Ok, Err, Some}
use Rattle.std.proofs.lemmas.List.{append_assoc, append-nil}
use Rattle.arrow_spec.specs.Readings.{Reading, meaning}
use Rattle.arrow_spec.specs.Kinds.{Fields}
use Rattle.arrow_spec.specs.Meaning.{file_table}
use Rattle.arrow_spec.specs.Files.{ArrowTable, TableBatch}
use Rattle.arrow_spec.proofs.Projection.{on}
use Rattle.csv_texts.specs.Texts.{batch_text, batches_text, header_text, printed}
use Rattle.csv_texts.specs.Laws.{TextInBatches, TextNestsIn, TextOfRead}

pub batches-append : (fs : Fields) (xs ys : List TableBatch) → batches_text fs (xs ++ ys) ≡ batches_text fs xs ++ batches_text fs ys
batches-append fs [] ys = refl
batches-append fs (x ∷ xs) ys = rw (batches-append fs xs ys) (sym (append_assoc (batch_text fs x) (batches_text fs xs) (batches_text fs ys)))

pub text_in_batches : TextInBatches
text_in_batches fs xs x = rw (batches-append fs xs (x ∷ []), append-nil (batch_text fs x)) refl

pub text_nests_in : TextNestsIn
text_nests_in fs xs ys = rw (batches-append fs xs ys) (sym (append_assoc (header_text fs) (batches_text fs xs) (batches_text fs ys)))

some_meaning : (r : Reading ArrowTable) (t : ArrowTable) → meaning r ≡ Some t → r ≡ Ok t
some_meaning (Ok x) t h = cc
some_meaning (Err e) t h = cc

pub text_of_read : TextOfRead
unfolding file_table printed
text_of_read b r t ok means = on _ _ tt ok ∙ some_meaning _ t means
