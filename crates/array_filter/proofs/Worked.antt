-- Worked rows: of three rows of each layout the second, which is null where there is a validity, and the third are left.
use Rattle.std.proofs.Common.{◌≡◌, refl, map, ℕ, List, [], ◌∷◌, ◌++◌, replicate, Bool, true, false, Option, Some, None, pos}
use Rattle.arrow_spec.specs.Kinds.{Kind, Fields, small}
use Rattle.arrow_spec.specs.Kinds as kind
use Rattle.arrow_spec.specs.declared.types.IntegerType.{IntegerType}
use Rattle.arrow_arrays.specs.LeafParts.{bits, numbers, fixed, binary, binary_views}
use Rattle.arrow_arrays.specs.Heads.{listed, sized, structured, tagged, indexed}
use Rattle.arrow_arrays.specs.Parts.{Parts, leaf, nested, none, also}
use Rattle.array_filter.specs.Rows.{marked_from}
use Rattle.array_filter.specs.Taken.{rows_taken}

abbrev kept : Parts → Parts
kept p = rows_taken (marked_from 0 (false ∷ true ∷ true ∷ [])) p

-- numbers of a byte each, none of them null
abbrev of_bytes : Kind → List ℕ → Parts
of_bytes k xs = leaf (numbers (record { kind = k; values = map (λ x. x ∷ []) xs; validity = None }))

abbrev second_null : Option (List Bool)
second_null = Some (true ∷ false ∷ true ∷ [])

abbrev first_null : Option (List Bool)
first_null = Some (false ∷ true ∷ [])

-- ── arrays without children ──

of_bits : (k : Kind) → kept (leaf (bits (record { kind = k; values = true ∷ true ∷ false ∷ []; validity = second_null }))) ≡ leaf (bits (record { kind = k; values = true ∷ false ∷ []; validity = first_null }))
of_bits k = refl

-- no validity is made
of_numbers : (k : Kind) → kept (of_bytes k (1 ∷ 2 ∷ 3 ∷ [])) ≡ of_bytes k (2 ∷ 3 ∷ [])
of_numbers k = refl

of_fixed : kept (leaf (fixed (record { kind = kind.fixed_size_binary 2; values = 1 ∷ 2 ∷ 3 ∷ 4 ∷ 5 ∷ 6 ∷ []; validity = second_null })))
    ≡ leaf (fixed (record { kind = kind.fixed_size_binary 2; values = 3 ∷ 4 ∷ 5 ∷ 6 ∷ []; validity = first_null }))
of_fixed = refl

-- the bytes of a null row are kept, and offsets begin at 0
of_binary : (k : Kind) → kept (leaf (binary (record { kind = k; offsets = pos 1 ∷ pos 2 ∷ pos 4 ∷ pos 5 ∷ []; values = 1 ∷ 2 ∷ 3 ∷ 4 ∷ 5 ∷ 6 ∷ []; validity = second_null })))
    ≡ leaf (binary (record { kind = k; offsets = pos 0 ∷ pos 2 ∷ pos 3 ∷ []; values = 3 ∷ 4 ∷ 5 ∷ []; validity = first_null }))
of_binary k = refl

-- views keep all their buffers
of_views : (k : Kind) → kept (leaf (binary_views (record { kind = k; views = replicate 16 1 ++ replicate 16 2 ++ replicate 16 3; buffers = (7 ∷ []) ∷ (8 ∷ []) ∷ []; validity = second_null })))
    ≡ leaf (binary_views (record { kind = k; views = replicate 16 2 ++ replicate 16 3; buffers = (7 ∷ []) ∷ (8 ∷ []) ∷ []; validity = first_null }))
of_views k = refl

-- ── arrays with children ──

-- the items of a null row are kept
of_lists : (k c : Kind) → kept (nested (listed (record { kind = k; width = small; offsets = pos 1 ∷ pos 2 ∷ pos 4 ∷ pos 5 ∷ []; validity = second_null })) (also (of_bytes c (1 ∷ 2 ∷ 3 ∷ 4 ∷ 5 ∷ 6 ∷ [])) none))
    ≡ nested (listed (record { kind = k; width = small; offsets = pos 0 ∷ pos 2 ∷ pos 3 ∷ []; validity = first_null })) (also (of_bytes c (3 ∷ 4 ∷ 5 ∷ [])) none)
of_lists k c = refl

of_sized : (c : Kind) (fs : Fields) → kept (nested (sized (record { kind = kind.fixed_size_list 2 fs; rows = 3; validity = second_null })) (also (of_bytes c (1 ∷ 2 ∷ 3 ∷ 4 ∷ 5 ∷ 6 ∷ [])) none))
    ≡ nested (sized (record { kind = kind.fixed_size_list 2 fs; rows = 2; validity = first_null })) (also (of_bytes c (3 ∷ 4 ∷ 5 ∷ 6 ∷ [])) none)
of_sized c fs = refl

of_structs : (k c : Kind) → kept (nested (structured (record { kind = k; rows = 3; validity = second_null })) (also (of_bytes c (1 ∷ 2 ∷ 3 ∷ [])) none))
    ≡ nested (structured (record { kind = k; rows = 2; validity = first_null })) (also (of_bytes c (2 ∷ 3 ∷ [])) none)
of_structs k c = refl

-- the children of sparse unions lose rows, those of dense unions and the parts of dictionaries do not
of_sparse : (k c d : Kind) → kept (nested (tagged (record { kind = k; types = pos 0 ∷ pos 1 ∷ pos 0 ∷ []; offsets = None })) (also (of_bytes c (1 ∷ 2 ∷ 3 ∷ [])) (also (of_bytes d (4 ∷ 5 ∷ 6 ∷ [])) none)))
    ≡ nested (tagged (record { kind = k; types = pos 1 ∷ pos 0 ∷ []; offsets = None })) (also (of_bytes c (2 ∷ 3 ∷ [])) (also (of_bytes d (5 ∷ 6 ∷ [])) none))
of_sparse k c d = refl

of_dense : (k c d : Kind) → kept (nested (tagged (record { kind = k; types = pos 0 ∷ pos 1 ∷ pos 0 ∷ []; offsets = Some (pos 0 ∷ pos 0 ∷ pos 1 ∷ []) })) (also (of_bytes c (1 ∷ 3 ∷ [])) (also (of_bytes d (5 ∷ [])) none)))
    ≡ nested (tagged (record { kind = k; types = pos 1 ∷ pos 0 ∷ []; offsets = Some (pos 0 ∷ pos 1 ∷ []) })) (also (of_bytes c (1 ∷ 3 ∷ [])) (also (of_bytes d (5 ∷ [])) none))
of_dense k c d = refl

of_dictionary : (k c : Kind) (t : IntegerType) → kept (nested (indexed (record { kind = k; index = t; keys = pos 0 ∷ pos 9 ∷ pos 2 ∷ []; validity = second_null })) (also (of_bytes c (1 ∷ 2 ∷ [])) (also (of_bytes c (3 ∷ [])) none)))
    ≡ nested (indexed (record { kind = k; index = t; keys = pos 9 ∷ pos 2 ∷ []; validity = first_null })) (also (of_bytes c (1 ∷ 2 ∷ [])) (also (of_bytes c (3 ∷ [])) none))
of_dictionary k c t = refl
