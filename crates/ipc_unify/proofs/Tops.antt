-- The top of maps by its fields.
use Rattle.std.proofs.Common.{◌≡◌, ◌∙◌, sym, refl, ap, List, Bool, Option, None, ℤ, true}
use Rattle.std.proofs.lemmas.Bool.{and_parts}
use Rattle.arrow_spec.specs.Kinds as kind
use Rattle.arrow_spec.specs.Kinds.{Kind, Offsets, large, small}
use Rattle.arrow_arrays.specs.Heads.{Listed, are_of, child_fields, is_map, mapped, suits}
use Rattle.arrow_arrays.specs.Parts.{Forest, fault_in, kinds_each, nested}
use Rattle.arrow_arrays.proofs.Sliced.{top_sound}

-- maps have offsets of 32 bits
map_width : (o : Offsets) (k : Kind) → is_map o k ≡ true → o ≡ small
map_width small k h = refl
map_width large (kind.map sorted fs) h = cc
map_width large (kind.extension name metadata k) h = map_width large k h
map_width large k h = cc

pub mapped_by : (l : Listed) (k : Kind) (os : List ℤ) (v : Option (List Bool)) (cs : Forest) → fault_in (nested (mapped l) cs) ≡ None → k ≡ l.kind → os ≡ l.offsets → v ≡ l.validity → record { kind = k; width = small; offsets = os; validity = v } ≡ l
mapped_by l k os v cs f a b c =
    let suit = and_parts (suits (mapped l)) (are_of (child_fields l.kind) (kinds_each cs)) (top_sound (mapped l) cs f).0.suits in
    let width : small ≡ l.width = sym (map_width l.width l.kind suit.0) in
    ap (λ x. record { kind = x; width = small; offsets = os; validity = v }) a ∙ ap (λ x. record { kind = l.kind; width = x; offsets = os; validity = v }) width
    ∙ ap (λ x. record { kind = l.kind; width = l.width; offsets = x; validity = v }) b ∙ ap (λ x. record { kind = l.kind; width = l.width; offsets = l.offsets; validity = x }) c
