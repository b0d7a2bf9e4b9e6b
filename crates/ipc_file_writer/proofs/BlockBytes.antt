-- The bytes of blocks, one block after another.
use Rattle.std.proofs.Common.{◌≡◌, ℕ, ◌+◌, ◌<◌, List, [], ◌∷◌, ◌++◌, length, map, take, get_or, Result, Ok, Err, OnOk, sym, ap, ◌∙◌, append_assoc, append-nil, pos}
use Rattle.std.specs.List.{flat_map}
use Rattle.std.proofs.lemmas.Grind.{flat_map-append}
use Rattle.std.specs.Int.{w32, to_le_bytes, cast_unsigned}
use Rattle.std.proofs.lemmas.List.{take_more, map-append}
use Rattle.arrow_spec.specs.declared.message.Block.{Block}
use Rattle.arrow_spec.specs.Counts.{magnitude}
use Rattle.arrow_spec.specs.Footers.{block_bytes}
use Rattle.arrow_spec.specs.Layout.{zeros}
use Rattle.arrow_spec.specs.Sent.{i64_bytes}
use Rattle.ipc_messages.specs.Below.{IsNatural, file_block}

-- a block's numbers, which are not negative
block_text : (x : Block) → IsNatural x → i64_bytes x.offset ++ (to_le_bytes w32 (cast_unsigned w32 x.meta_data_length) ++ (zeros 4 ++ i64_bytes x.body_length)) ≡ block_bytes (file_block x)
block_text x n =
    ap (λ z. i64_bytes z ++ (to_le_bytes w32 (cast_unsigned w32 x.meta_data_length) ++ (zeros 4 ++ i64_bytes x.body_length))) n.offset
    ∙ ap (λ z. i64_bytes (pos (magnitude x.offset)) ++ (to_le_bytes w32 (cast_unsigned w32 z) ++ (zeros 4 ++ i64_bytes x.body_length))) n.metadata
    ∙ ap (λ z. i64_bytes (pos (magnitude x.offset)) ++ (to_le_bytes w32 (cast_unsigned w32 (pos (magnitude x.meta_data_length))) ++ (zeros 4 ++ i64_bytes z))) n.body

joined : (out a b c p q s t : List ℕ) → a ≡ out ++ p → b ≡ a ++ q → c ≡ b ++ s → c ++ t ≡ out ++ (p ++ (q ++ (s ++ t)))
joined out a b c p q s t e f g =
    ap (λ x. x ++ t) (g ∙ ap (λ x. x ++ s) (f ∙ ap (λ x. x ++ q) e))
    ∙ append_assoc ((out ++ p) ++ q) s t ∙ append_assoc (out ++ p) q (s ++ t) ∙ append_assoc out p (q ++ (s ++ t))

pub bytes_more : (xs : List Block) (i : ℕ) (d : Block) (out new : List ℕ) → i < length xs → out ≡ flat_map block_bytes (map file_block (take i xs)) → new ≡ out ++ block_bytes (file_block (get_or xs i d))
    → new ≡ flat_map block_bytes (map file_block (take (i + 1) xs))
bytes_more xs i d out new h f g =
    let x = get_or xs i d in
    let more : map file_block (take (i + 1) xs) ≡ map file_block (take i xs) ++ file_block x ∷ [] = ap (map file_block) (take_more xs i d h) ∙ map-append file_block (take i xs) (x ∷ []) in
    g ∙ ap (λ y. y ++ block_bytes (file_block x)) f ∙ ap (λ y. flat_map block_bytes (map file_block (take i xs)) ++ y) (sym (append-nil (block_bytes (file_block x))))
    ∙ sym (flat_map-append block_bytes (map file_block (take i xs)) (file_block x ∷ [])) ∙ ap (flat_map block_bytes) (sym more)

-- they are put one behind another
pub block_put : {T E : Type 0} (r : Result T E) (x : Block) (out a b c new : List ℕ) → IsNatural x → a ≡ out ++ i64_bytes x.offset → b ≡ a ++ to_le_bytes w32 (cast_unsigned w32 x.meta_data_length)
    → c ≡ b ++ zeros 4 → OnOk r (new ≡ c ++ i64_bytes x.body_length) → OnOk r (new ≡ out ++ block_bytes (file_block x))
block_put (Ok u) x out a b c new n e f g h =
    h ∙ joined out a b c (i64_bytes x.offset) (to_le_bytes w32 (cast_unsigned w32 x.meta_data_length)) (zeros 4) (i64_bytes x.body_length) e f g ∙ ap (λ y. out ++ y) (block_text x n)
block_put (Err u) x out a b c new n e f g h = tt
