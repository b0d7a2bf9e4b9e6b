-- The kinds of the columns of a stream's batches.
use Rattle.std.proofs.Common.{◌≡◌, List, [], ◌∷◌, All, true, refl}
use Rattle.std.proofs.lemmas.Bool.{and_from}
use Rattle.std.proofs.lemmas.List.Elements.{All-head, All-tail}
use Rattle.arrow_types.specs.Schemas.{Keyed, fields_in}
use Rattle.arrow_arrays.specs.Batches.{Batch}
use Rattle.ipc_streams.specs.Below.{HasFields}
use Rattle.laws_sent.proofs.Right.{kinds_of_schema}
use Rattle.ipc_append.specs.Columns.{are_of, is_of}

pub batches_of : (s : List Keyed) (bs : List Batch) → All (λ (x : Batch). HasFields x s) bs → are_of (fields_in s) bs ≡ true
batches_of s [] h = refl
batches_of s (b ∷ bs) h = and_from (is_of (fields_in s) b) (are_of (fields_in s) bs) (kinds_of_schema s b.arrays (All-head (λ (x : Batch). HasFields x s) b bs h).kinds) (batches_of s bs (All-tail (λ (x : Batch). HasFields x s) b bs h))
