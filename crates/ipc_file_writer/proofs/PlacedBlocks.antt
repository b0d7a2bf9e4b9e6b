-- Messages that stand one behind another, and their blocks.
use Rattle.std.proofs.Common.{◌≡◌, ℕ, suc, ◌+◌, ◌<◌, ◌≤◌, ◌^◌, List, [], ◌∷◌, ◌++◌, Bool, true, false, map, length, take, drop, get_or, refl, sym, ap, ◌∙◌, subst, append_assoc, arith, true≢false, Option, Some}
use Rattle.std.specs.Prelude.{◌&&◌, nat_le, All, IfSome}
use Rattle.std.specs.Option.{option_to_list}
use Rattle.std.proofs.lemmas.List.Elements.{All-pop}
use Rattle.std.proofs.lemmas.Bool.{leb-true}
use Rattle.std.proofs.lemmas.List.{length-map, map-append, take-append-drop, take_more}
use Rattle.arrow_spec.specs.declared.message.Block.{Block}
use Rattle.ipc_messages.specs.Below.{IsNatural, file_block}
use Rattle.ipc_messages.proofs.Below.{more_natural, none_natural}
use Rattle.ipc_messages.specs.Messages.{Sizes}
use Rattle.ipc_file_writer.specs.declared.placing.MessageSizes.{MessageSizes}
use Rattle.ipc_file_writer.specs.declared.placing.PlacedBlock.{PlacedBlock}
use Rattle.ipc_file_writer.specs.declared.blocks.PlacedMessages.{PlacedMessages}
use Rattle.ipc_file_writer.specs.Blocks.{ArePlaced, IsPlaced, are_placed, behind, behind_all, block_at, blocks_at, is_placed, message_sizes}

-- ── one message more ──

pub blocks_more : (at : ℕ) (xs : List Sizes) (x : Sizes) → blocks_at at (xs ++ x ∷ []) ≡ blocks_at at xs ++ block_at (behind_all at xs) x ∷ []
blocks_more at [] x = refl
blocks_more at (y ∷ xs) x = ap (λ bs. block_at at y ∷ bs) (blocks_more (behind at y) xs x)

pub behind_more : (at : ℕ) (xs : List Sizes) (x : Sizes) → behind_all at (xs ++ x ∷ []) ≡ behind (behind_all at xs) x
behind_more at [] x = refl
behind_more at (y ∷ xs) x = behind_more (behind at y) xs x

placed_front : (at : ℕ) (xs ys : List Sizes) → are_placed at xs ≡ true → are_placed at (xs ++ ys) ≡ are_placed (behind_all at xs) ys
placed_front at [] ys h = refl
placed_front at (x ∷ xs) ys h = by (is_placed at x) (placed_front (behind at x) xs ys) h
  where
    by : (b : Bool) → (are_placed (behind at x) xs ≡ true → are_placed (behind at x) (xs ++ ys) ≡ are_placed (behind_all (behind at x) xs) ys) → (b && are_placed (behind at x) xs) ≡ true
        → (b && are_placed (behind at x) (xs ++ ys)) ≡ are_placed (behind_all (behind at x) xs) ys
    by true f k = f k
    by false f k = absurd (true≢false (sym k))

one_placed : (b c : Bool) → b ≡ true → (b && c) ≡ c
one_placed b c e = rw e refl

one_not : (b c : Bool) → b ≡ false → (b && c) ≡ false
one_not b c e = rw e refl

placed_more : (at : ℕ) (xs : List Sizes) (x : Sizes) → are_placed at xs ≡ true → is_placed (behind_all at xs) x ≡ true → are_placed at (xs ++ x ∷ []) ≡ true
placed_more at xs x h k = placed_front at xs (x ∷ []) h ∙ one_placed (is_placed (behind_all at xs) x) true k

not_placed : (at : ℕ) (xs : List Sizes) (x : Sizes) (rest : List Sizes) → are_placed at xs ≡ true → is_placed (behind_all at xs) x ≡ false → are_placed at (xs ++ x ∷ rest) ≡ false
not_placed at xs x rest h k = placed_front at xs (x ∷ rest) h ∙ one_not (is_placed (behind_all at xs) x) (are_placed (behind (behind_all at xs) x) rest) k

-- ── a list of messages ──

sizes_more : (ms : List MessageSizes) (i : ℕ) (d : MessageSizes) → i < length ms → map message_sizes (take (i + 1) ms) ≡ map message_sizes (take i ms) ++ message_sizes (get_or ms i d) ∷ []
sizes_more ms i d h = ap (map message_sizes) (take_more ms i d h) ∙ map-append message_sizes (take i ms) (get_or ms i d ∷ [])

sizes_whole : (ms : List MessageSizes) (i : ℕ) (d : MessageSizes) → i < length ms → (map message_sizes (take i ms) ++ message_sizes (get_or ms i d) ∷ []) ++ map message_sizes (drop (i + 1) ms) ≡ map message_sizes ms
sizes_whole ms i d h =
    ap (λ xs. xs ++ map message_sizes (drop (i + 1) ms)) (sym (sizes_more ms i d h)) ∙ sym (map-append message_sizes (take (i + 1) ms) (drop (i + 1) ms)) ∙ ap (map message_sizes) (take-append-drop (i + 1) ms)

-- the first of some messages have blocks
pub record HaveBlocks (at : ℕ) (ms : List MessageSizes) (i : ℕ) (bs : List Block) (end : ℕ) : Type 0 where
  pub fit : are_placed at (map message_sizes (take i ms)) ≡ true
  pub blocks : map file_block bs ≡ blocks_at at (map message_sizes (take i ms))
  pub natural : All IsNatural bs
  pub last : end ≡ behind_all at (map message_sizes (take i ms))
  pub place : end < 2 ^ 63

pub no_blocks : (at : ℕ) (ms : List MessageSizes) (bs : List Block) → at < 2 ^ 63 → bs ≡ [] → HaveBlocks at ms 0 bs at
no_blocks at ms bs h e = record { fit = refl; blocks = ap (map file_block) e; natural = none_natural bs e; last = refl; place = h }

pub below_last : (at : ℕ) (x : Sizes) → is_placed at x ≡ true → behind at x < 2 ^ 63
below_last at x h = by (nat_le x.front 2147483647) h
  where
    by : (b : Bool) → (b && nat_le (behind at x) 9223372036854775807) ≡ true → behind at x < 2 ^ 63
    by true k = let near : behind at x ≤ 9223372036854775807 = leb-true (behind at x) 9223372036854775807 k in omega (arith, near)
    by false k = absurd (true≢false (sym k))

pub one_more : (at : ℕ) (ms : List MessageSizes) (i : ℕ) (d : MessageSizes) (bs new : List Block) (end : ℕ) (p : PlacedBlock) → i < length ms → IsPlaced end (message_sizes (get_or ms i d)) p
    → new ≡ bs ++ p.block ∷ [] → HaveBlocks at ms i bs end → HaveBlocks at ms (i + 1) new p.end
one_more at ms i d bs new end p h k f l =
    let xs = map message_sizes (take i ms) in
    let x = message_sizes (get_or ms i d) in
    let more : map message_sizes (take (i + 1) ms) ≡ xs ++ x ∷ [] = sizes_more ms i d h in
    let fits : is_placed (behind_all at xs) x ≡ true = subst (λ n. is_placed n x ≡ true) l.last k.fits in
    record {
      fit = ap (are_placed at) more ∙ placed_more at xs x l.fit fits;
      blocks = ap (map file_block) f ∙ map-append file_block bs (p.block ∷ []) ∙ ap (λ ys. ys ++ file_block p.block ∷ []) l.blocks ∙ ap (λ y. blocks_at at xs ++ y ∷ []) (k.block ∙ ap (λ n. block_at n x) l.last)
          ∙ sym (blocks_more at xs x) ∙ ap (blocks_at at) (sym more);
      natural = more_natural bs new p.block f l.natural k.natural;
      last = k.end ∙ ap (λ n. behind n x) l.last ∙ sym (behind_more at xs x) ∙ ap (behind_all at) (sym more);
      place = subst (λ n. n < 2 ^ 63) (sym k.end) (below_last end x k.fits);
    }

pub one_less : (at : ℕ) (ms : List MessageSizes) (i : ℕ) (d : MessageSizes) (bs : List Block) (end : ℕ) → i < length ms → is_placed end (message_sizes (get_or ms i d)) ≡ false
    → HaveBlocks at ms i bs end → are_placed at (map message_sizes ms) ≡ false
one_less at ms i d bs end h k l =
    let xs = map message_sizes (take i ms) in
    let x = message_sizes (get_or ms i d) in
    let rest = map message_sizes (drop (i + 1) ms) in
    ap (are_placed at) (sym (sizes_whole ms i d h) ∙ append_assoc xs (x ∷ []) rest) ∙ not_placed at xs x rest l.fit (subst (λ n. is_placed n x ≡ false) l.last k)

length-placed : (at : ℕ) (xs : List Sizes) → length (blocks_at at xs) ≡ length xs
length-placed at [] = refl
length-placed at (x ∷ xs) = ap suc (length-placed (behind at x) xs)

-- the last block is the batch's
pub some_block : (at : ℕ) (xs : List Sizes) (p : PlacedMessages) → ArePlaced at xs p → length p.blocks.items ≡ length xs
some_block at xs p h = sym (length-map p.blocks.items file_block) ∙ ap length h.blocks ∙ length-placed at xs

pub last_block : (at : ℕ) (xs : List Sizes) (p : PlacedMessages) (ds : List Block) (o : Option Block) (x : Block) → ArePlaced at xs p → p.blocks.items ≡ ds ++ option_to_list o → o ≡ Some x
    → map file_block ds ++ file_block x ∷ [] ≡ blocks_at at xs
last_block at xs p ds o x h e f = sym (map-append file_block ds (x ∷ [])) ∙ ap (map file_block) (sym (e ∙ ap (λ q. ds ++ option_to_list q) f)) ∙ h.blocks

pub last_natural : (bs ds : List Block) (o : Option Block) (x : Block) → bs ≡ ds ++ option_to_list o → o ≡ Some x → All IsNatural bs → All IsNatural ds × IsNatural x
last_natural bs ds o x e f n =
    let both = All-pop IsNatural bs ds o e n in
    (both.0, subst (λ q. IfSome q IsNatural) f both.1)

pub all_blocks : (at : ℕ) (ms : List MessageSizes) (i : ℕ) (p : PlacedMessages) → take i ms ≡ ms → HaveBlocks at ms i p.blocks.items p.end → ArePlaced at (map message_sizes ms) p
all_blocks at ms i p e l = record {
  fit = subst (λ ys. are_placed at (map message_sizes ys) ≡ true) e l.fit;
  blocks = subst (λ ys. map file_block p.blocks.items ≡ blocks_at at (map message_sizes ys)) e l.blocks;
  end = subst (λ ys. p.end ≡ behind_all at (map message_sizes ys)) e l.last;
}

-- ── sizes ──

-- the sizes of one message more
pub next_sizes : {A : Type 0} (sizes : A → Sizes) (ms : List A) (i : ℕ) (m : A) (xs new : List MessageSizes) (x : MessageSizes) → i < length ms → m ≡ get_or ms i m → message_sizes x ≡ sizes m → new ≡ xs ++ x ∷ []
    → map message_sizes xs ≡ map sizes (take i ms) → map message_sizes new ≡ map sizes (take (i + 1) ms)
next_sizes sizes ms i m xs new x h e s n l =
    let more : map sizes (take (i + 1) ms) ≡ map sizes (take i ms) ++ sizes m ∷ [] = ap (map sizes) (take_more ms i m h ∙ ap (λ y. take i ms ++ y ∷ []) (sym e)) ∙ map-append sizes (take i ms) (m ∷ []) in
    ap (map message_sizes) n ∙ map-append message_sizes xs (x ∷ []) ∙ ap (λ ys. ys ++ message_sizes x ∷ []) l ∙ ap (λ y. map sizes (take i ms) ++ y ∷ []) s ∙ sym more
