-- Arrays of byte strings and of texts that are made of their rows. (Arrow Columnar Format, "Variable-size Binary Layout".)
use Rattle.std.specs.Prelude.{◌≡◌, ℕ, ◌+◌, ◌≤◌, ◌⊎◌, List, [], ◌∷◌, Bool, true, false, Option, Some, None, ℤ, pos, length, map}
use Rattle.std.specs.List.{concat}
use denote.Ref.{Bor}
use Rattle.arrow_spec.specs.Kinds.{Kind, binary, utf8}
use Rattle.arrow_types.specs.Numbers.{offsets_by}
use Rattle.arrow_buffers.specs.Variable.{Variable}
use Rattle.arrow_buffers.specs.declared.error.ArrayError.{ArrayError}
use Rattle.arrow_buffers.specs.declared.error.ArrayError.TheVariants.{Offsets, Memory}

-- the bytes of each row
abbrev pub bytes_each : List (Bor (List ℕ)) → List (List ℕ)
bytes_each = map (λ row. row.now)

-- the kind of byte strings or of texts between offsets, large or not
abbrev pub strings_kind : Bool → Bool → Kind
strings_kind true is_large = utf8 (offsets_by is_large)
strings_kind false is_large = binary (offsets_by is_large)

-- where each row begins, from a place on, and where the last one ends
abbrev pub ends_from : ℕ → List (List ℕ) → List ℤ
ends_from at [] = pos at ∷ []
ends_from at (row ∷ rows) = pos at ∷ ends_from (at + length row) rows

-- the array of these rows: their bytes one behind the other, where each begins and the last one ends, and which of them are not null
abbrev pub strings : Bool → Bool → List (List ℕ) → Option (List Bool) → Variable
strings is_text is_large rows validity =
    record { kind = strings_kind is_text is_large; offsets = ends_from 0 rows; values = concat rows; validity = validity }

-- memory ran out, or bytes are as many as no offset is
abbrev pub RefusesBytes : ℕ → ℕ → ArrayError → Type 0
RefusesBytes limit size e = (e ≡ Memory) ⊎ ((e ≡ Offsets) × (limit ≤ size))

-- the bytes of a row, and none where the row is null
abbrev pub held_bytes : Option (Bor (List ℕ)) → List ℕ
held_bytes None = []
held_bytes (Some row) = row.now
