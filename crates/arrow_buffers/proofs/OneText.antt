-- Rows between boundaries of one text.
use Rattle.std.proofs.Common.{◌≡◌, ℕ, ◌+◌, ◌-◌, ◌≤◌, List, true, take, drop, sym, ap, ◌∙◌, arith}
use Rattle.std.specs.Str.{IsUtf8, is_utf8, IsCharBoundary}
use Rattle.std.proofs.lemmas.Str.{IsUtf8-from_is_utf8, is_utf8-from_IsUtf8, IsUtf8-between}
use Rattle.arrow_spec.specs.Arrays.{slice}
use Rattle.arrow_buffers.specs.Rows.{part}
use Rattle.arrow_buffers.proofs.Parts.{part-part}

-- bytes between two boundaries of a text that stands between two places
pub between_text : (values used : List ℕ) (first last from to : ℕ) → used ≡ part first (last - first) values → first ≤ from → from ≤ to → to ≤ last → is_utf8 used ≡ true
    → IsCharBoundary used (from - first) → IsCharBoundary used (to - first) → is_utf8 (slice values from to) ≡ true
between_text values used first last from to whole a b d u p q =
    let t : IsUtf8 (take ((to - first) - (from - first)) (drop (from - first) used)) = IsUtf8-between used (from - first) (to - first) (IsUtf8-from_is_utf8 used u) (omega arith) p q in
    let n : (to - first) - (from - first) ≡ to - from = omega arith in
    let s : first + (from - first) ≡ from = omega arith in
    let e : slice values from to ≡ part (from - first) (to - from) (part first (last - first) values) = ap (λ k. take (to - from) (drop k values)) (sym s) ∙ part-part values first (last - first) (from - first) (to - from) (omega arith) in
    let w : part (from - first) (to - from) (part first (last - first) values) ≡ take ((to - first) - (from - first)) (drop (from - first) used) = ap (part (from - first) (to - from)) (sym whole) ∙ ap (λ k. take k (drop (from - first) used)) (sym n) in
    ap is_utf8 (e ∙ w) ∙ is_utf8-from_IsUtf8 _ t
