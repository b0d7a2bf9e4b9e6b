use Rattle.std.proofs.Common.{◌≡◌, ℕ, ◌+◌, ◌*◌, Bool, true, false, not, List, length, take, drop, ap, ◌∙◌, arith, refl, subst}
use Rattle.arrow_spec.specs.Flat.{Order, order_by}
use Rattle.arrow_spec.specs.Arrays.{from_on}
use Rattle.arrow_spec.specs.Laws.{AreBytes}
use Rattle.arrow_spec.proofs.CellLists.{from_on-same}
use Rattle.arrow_buffers.specs.Items.{items_at}
use Rattle.ipc_read.proofs.buffers.numbers_of.Goals as goal

turned_twice : (b : Bool) → not (not b) ≡ b
turned_twice true = refl
turned_twice false = refl

-- items from the first byte on, whatever order the flag says
items_first : {A : Type 0} (read : Order → List ℕ → A) (w : ℕ) (b : Bool) (bytes here : List ℕ) (n : ℕ) → here ≡ bytes
    → items_at read w (order_by (not (not b))) here 0 n ≡ from_on (λ j. read (order_by b) (take w (drop (w * j) bytes))) 0 n
items_first read w b bytes here n e =
    let place : (j : ℕ) → 0 + w * j ≡ w * j = λ j. omega arith in
    ap (λ r. items_at read w (order_by r) here 0 n) (turned_twice b) ∙ ap (λ held. items_at read w (order_by b) held 0 n) e
    ∙ from_on-same (λ j. read (order_by b) (take w (drop (0 + w * j) bytes))) (λ j. read (order_by b) (take w (drop (w * j) bytes))) 0 n
    (λ j h. ap (λ k. read (order_by b) (take w (drop k bytes))) (place j))

pub shared-requires : goal.shared-requires
shared-requires g c =
    let z : 0 + g.T.NativeType.WIDTH * c.args.rows ≡ g.T.NativeType.WIDTH * c.args.rows = omega arith in
    omega (arith, z, c.requires, c.args.bytes.ok.0, ap length c.in_ok-bytes.ensures)

pub returns-clause-numbers : goal.returns-clause-numbers
returns-clause-numbers g c =
    c.shared.ensures ∙ items_first g.T.NativeType.read g.T.NativeType.WIDTH c.args.is_little_endian c.args.bytes.items _ c.args.rows c.in_ok-bytes.ensures

pub returns-clause-bytes : goal.returns-clause-bytes
returns-clause-bytes g c = subst AreBytes c.as_slice.ensures.value c.are_bytes.ensures
