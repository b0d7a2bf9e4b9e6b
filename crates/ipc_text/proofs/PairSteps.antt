-- Indents and pairs, one after another.
use Rattle.std.proofs.Common.{◌≡◌, ℕ, zero, suc, ◌+◌, List, ◌∷◌, ◌++◌, codes, refl, sym, ◌∙◌, ap, append_assoc, add-one}
use Rattle.arrow_spec.specs.Kinds.{Metadata}
use Rattle.arrow_spec.specs.SchemaText.{indent, pair_lines}
use Rattle.ipc_text.specs.Pairs.{pair_line}

indent_last : (n : ℕ) → indent (suc n) ≡ indent n ++ codes "  "
indent_last zero = refl
indent_last (suc n) = ap (λ s. codes "  " ++ s) (indent_last n)

pub indent_more : (n : ℕ) (start old new : List ℕ) → new ≡ old ++ codes "  " → old ≡ start ++ indent n → new ≡ start ++ indent (n + 1)
indent_more n start old new h w = h ∙ ap (λ s. s ++ codes "  ") w ∙ append_assoc start (indent n) (codes "  ") ∙ ap (λ s. start ++ s) (sym (indent_last n)) ∙ ap (λ m. start ++ indent m) (sym (add-one n))

pub pair_more : (level : ℕ) (p : List ℕ × List ℕ) (left : Metadata) (old new whole : List ℕ) → new ≡ old ++ pair_line level p → old ++ pair_lines level (p ∷ left) ≡ whole → new ++ pair_lines level left ≡ whole
pair_more level p left old new whole h w = ap (λ s. s ++ pair_lines level left) h ∙ append_assoc old (pair_line level p) (pair_lines level left) ∙ w
