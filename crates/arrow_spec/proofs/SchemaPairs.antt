-- Metadata pairs are read back.
use Rattle.std.proofs.Common.{◌≡◌, ℕ, suc, ◌+◌, ◌*◌, ◌≤◌, List, [], ◌∷◌, ◌++◌, length, Some, Ok, refl, ◌∙◌, ap, subst, arith, true}
use Rattle.std.specs.Prelude.{nat_le}
use Rattle.std.specs.Int.{w32}
use Rattle.std.specs.List.{AllByRecursion}
use Rattle.std.specs.Str.{is_utf8}
use Rattle.std.proofs.lemmas.Bool.{le-leb}
use Rattle.arrow_spec.specs.declared.error.FlatError.{FlatError}
use Rattle.arrow_spec.specs.declared.error.OutOfSpecKind.{OutOfSpecKind}
use Rattle.arrow_spec.specs.declared.error.OutOfSpecKind.TheVariants.{InvalidFlatbufferSchema}
use Rattle.arrow_spec.specs.Readings.{bind}
use Rattle.arrow_spec.specs.Flat.{Table, root, slot_vector, unsigned_at}
use Rattle.arrow_spec.specs.Messages.{custom_pairs}
use Rattle.arrow_spec.specs.Kinds.{Metadata}
use Rattle.arrow_spec.specs.Schema.{with_pair, pairs_from, pairs_of}
use Rattle.arrow_spec.specs.Layout.{Slots, node_count}
use Rattle.arrow_spec.specs.Sent.{custom_slot, pair_nodes, pairs_slot}
use Rattle.arrow_spec.specs.Held.{HoldsSlots, HoldsNodes}
use Rattle.arrow_spec.specs.WrittenSchemas.{Ascend, CustomMayBeWritten}
use Rattle.arrow_spec.proofs.PairMaps.{all_ascend, all_pairs}
use Rattle.arrow_spec.proofs.Found.{slot_past}
use Rattle.arrow_spec.proofs.Slots.{vector_absent, vector_there, text_there}
use Rattle.arrow_spec.proofs.IntegerSchemas.{no_pairs}

-- pairs of texts
abbrev pub AreTexts : Metadata → Type 0
AreTexts xs = AllByRecursion (λ x. (is_utf8 x.0 ≡ true) × (is_utf8 x.1 ≡ true)) xs

pub ascend_texts : (xs m : Metadata) → Ascend m xs → AreTexts xs
ascend_texts [] m up = tt
ascend_texts (x ∷ xs) m up = ((up.0, up.1), ascend_texts xs (m ++ x ∷ []) up.3)

pairs_back : (kind : FlatError → OutOfSpecKind) (xs : Metadata) (b : List ℕ) (at : ℕ) (m : Metadata) → AreTexts xs → HoldsNodes (pair_nodes xs) b at → pairs_from kind b at (length xs) m ≡ Ok (all_pairs m xs)
unfolding pairs_from bind
pairs_back kind [] b at m texts h = refl
pairs_back kind (x ∷ xs) b at m texts h =
    let t = h.0.2.0 in
    let s = h.0.2.2 in
    let key = text_there b t 0 s.0.0 s.0.1 x.0 texts.0.0 s.0.2 s.0.3 s.0.4.0 s.0.4.1 in
    let value = text_there b t 1 s.1.0.0 s.1.0.1 x.1 texts.0.1 s.1.0.2 s.1.0.3 s.1.0.4.0 s.1.0.4.1 in
    let rest = pairs_back kind xs b (at + 4) (with_pair x.0 x.1 m) texts.1 h.1 in
    rw (pairs_from, h.0.1, h.0.2.1, key, value, rest) refl

count_pairs : (xs : Metadata) → node_count (pair_nodes xs) ≡ length xs
count_pairs [] = refl
count_pairs (x ∷ xs) = ap suc (count_pairs xs)

-- the slot of some pairs, which is absent where there are none
pub pairs_slot_back : (xs : Metadata) (s : Slots) (b : List ℕ) (t : Table) (i before : ℕ) → AreTexts xs → before + length xs ≤ 1048576 → HoldsSlots (pairs_slot (pair_nodes xs) s) b t i
    → (pairs_of b t i before ≡ Ok (all_pairs [] xs, before + length xs)) × HoldsSlots s b t (i + 1)
unfolding pairs_of bind
pairs_slot_back [] s b t i before texts room h =
    let same : before + 0 ≡ before = omega arith in
    (rw same (no_pairs b t i before (omega (arith, room)) (vector_absent 4 b t i h.0)), h.1)
pairs_slot_back (x ∷ xs) s b t i before texts room h =
    let c = h.0 in
    let n = length (x ∷ xs) in
    let count : unsigned_at w32 b c.1 ≡ Ok n = subst (λ k. unsigned_at w32 b c.1 ≡ Ok k) (count_pairs (x ∷ xs)) c.4.0 in
    let inside : c.1 + 4 + n * 4 ≤ length b = omega (arith, c.4.1, count_pairs (x ∷ xs)) in
    let v : slot_vector 4 b t i ≡ Ok (Some (record { first = c.1 + 4; count = n })) = vector_there 4 b t i c.0 c.1 n c.2 c.3 count inside in
    let test : nat_le (before + n) 1048576 ≡ true = le-leb _ _ room in
    (rw (v, test, pairs_back InvalidFlatbufferSchema (x ∷ xs) b (c.1 + 4) [] texts c.4.2) refl, h.1)

-- the pairs of a footer or of a message, by its root table
pub custom_back : (kind : FlatError → OutOfSpecKind) (xs : Metadata) (b : List ℕ) (t : Table) → CustomMayBeWritten xs → root b ≡ Ok t → HoldsSlots (custom_slot xs) b t 4 → custom_pairs kind b ≡ Ok xs
unfolding custom_pairs pairs_from bind
custom_back kind [] b t may is h = let past : t.size ≤ 12 = h in rw (is, vector_absent 4 b t 4 (slot_past b t 4 (omega (arith, past)))) refl
custom_back kind (x ∷ xs) b t may is h =
    let c = h.0 in
    let n = length (x ∷ xs) in
    let count : unsigned_at w32 b c.1 ≡ Ok n = subst (λ k. unsigned_at w32 b c.1 ≡ Ok k) (count_pairs (x ∷ xs)) c.4.0 in
    let inside : c.1 + 4 + n * 4 ≤ length b = omega (arith, c.4.1, count_pairs (x ∷ xs)) in
    let v : slot_vector 4 b t 4 ≡ Ok (Some (record { first = c.1 + 4; count = n })) = vector_there 4 b t 4 c.0 c.1 n c.2 c.3 count inside in
    let test : nat_le n 1048576 ≡ true = le-leb _ _ may.few in
    let read : pairs_from kind b (c.1 + 4) n [] ≡ Ok (x ∷ xs) = pairs_back kind (x ∷ xs) b (c.1 + 4) [] (ascend_texts (x ∷ xs) [] may.ascend) c.4.2 ∙ ap Ok (all_ascend (x ∷ xs) [] may.ascend) in
    rw (is, v, test, read) refl
