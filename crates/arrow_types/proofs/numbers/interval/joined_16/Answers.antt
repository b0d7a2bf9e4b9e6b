use Rattle.std.proofs.Common.{◌≡◌, ℕ, List, [], ◌∷◌, ◌++◌, length, refl, ◌∙◌, ap, arith, rules}
use Rattle.std.specs.Prelude.{slice_index_or}
use Rattle.std.proofs.lemmas.List.{append-nil}
use Rattle.arrow_types.proofs.numbers.interval.joined_16.Goals as goal

-- eight items read one by one, before the rest
eight : (xs rest : List ℕ) → length xs ≡ 8 → slice_index_or xs 0 0 ∷ slice_index_or xs 1 0 ∷ slice_index_or xs 2 0 ∷ slice_index_or xs 3 0 ∷ slice_index_or xs 4 0 ∷ slice_index_or xs 5 0 ∷ slice_index_or xs 6 0 ∷ slice_index_or xs 7 0 ∷ rest ≡ xs ++ rest
eight [] rest l = absurd (omega arith)
eight (a ∷ []) rest l = absurd (omega arith)
eight (a ∷ b ∷ []) rest l = absurd (omega arith)
eight (a ∷ b ∷ c ∷ []) rest l = absurd (omega arith)
eight (a ∷ b ∷ c ∷ d ∷ []) rest l = absurd (omega arith)
eight (a ∷ b ∷ c ∷ d ∷ e ∷ []) rest l = absurd (omega arith)
eight (a ∷ b ∷ c ∷ d ∷ e ∷ f ∷ []) rest l = absurd (omega arith)
eight (a ∷ b ∷ c ∷ d ∷ e ∷ f ∷ g ∷ []) rest l = absurd (omega arith)
eight (a ∷ b ∷ c ∷ d ∷ e ∷ f ∷ g ∷ h ∷ []) rest l = refl
eight (a ∷ b ∷ c ∷ d ∷ e ∷ f ∷ g ∷ h ∷ i ∷ more) rest l = absurd (omega arith)

pub returns : goal.returns
returns c =
    let a : length c.args.a ≡ 8 = search rules in
    let b : length c.args.b ≡ 8 = search rules in
    eight c.args.a _ a ∙ ap (λ r. c.args.a ++ r) (eight c.args.b [] b ∙ append-nil c.args.b)
