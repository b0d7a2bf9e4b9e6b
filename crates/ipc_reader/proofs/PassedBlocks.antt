-- Blocks that are passed till a number of rows.
use Rattle.std.proofs.Common.{◌≡◌, ℕ, ◌+◌, ◌-◌, ◌<◌, ◌≤◌, List, [], ◌∷◌, length, drop, Option, Ok, Err, true, false, refl, get_or, sym, subst, arith}
use Rattle.std.specs.Prelude.{nat_le, map, if◌then◌else◌}
use Rattle.std.proofs.lemmas.Bool.{le-leb, lt-leb}
use Rattle.std.proofs.lemmas.List.{drop_all}
use Rattle.arrow_spec.specs.declared.error.IpcError.{IpcError}
use Rattle.arrow_spec.specs.declared.message.Block.{Block}
use Rattle.arrow_spec.specs.Readings.{Reading}
use Rattle.ipc_files.specs.FileBlocks.{GivesIn, file_block, given}
use Rattle.ipc_files.specs.Fetching.{MetadataFetched}
use Rattle.ipc_files.specs.RowCounts.{MessagesFetched, block_rows, blocks_passed}
use Rattle.ipc_files.proofs.BlockRows.{ByRows, ReadUpTo, answered, at_block, begun, finished, one_more, refused, stopped}
use Rattle.ipc_reader.specs.declared.reads.RowPlace.{RowPlace}

abbrev passed_next : List Block → ℕ → ℕ → List ℕ → ℕ → Reading (ℕ × ℕ)
passed_next rest number left b rows = if nat_le rows left then blocks_passed b rest (number + 1) (left - rows) else Ok (number, left)

by_passed : (block : Block) (rest : List Block) (number left : ℕ) → ByRows block (λ b. blocks_passed b (block ∷ rest) number left) (passed_next rest number left)
unfolding blocks_passed
by_passed block rest number left b = refl

passes : (rest : List Block) (number left rows : ℕ) → rows ≤ left → (b : List ℕ) → passed_next rest number left b rows ≡ blocks_passed b rest (number + 1) (left - rows)
passes rest number left rows h b = let test : nat_le rows left ≡ true = le-leb _ _ h in rw test refl

ends : (rest : List Block) (number left rows : ℕ) → left < rows → (b : List ℕ) → passed_next rest number left b rows ≡ Ok (number, left)
ends rest number left rows h b = let test : nat_le rows left ≡ false = lt-leb _ _ h in rw test refl

none_behind : (b : List ℕ) (rest : List Block) (number left : ℕ) → rest ≡ [] → blocks_passed b rest number left ≡ Ok (number, left)
unfolding blocks_passed
none_behind b rest number left h = rw h refl

-- the place as the definition has it
abbrev pub place_in : RowPlace → ℕ × ℕ
place_in p = (p.block, p.rows)

abbrev pub passing : List Block → ℕ → List ℕ → Reading (ℕ × ℕ)
passing blocks offset b = blocks_passed b blocks 0 offset

-- the blocks before one were passed, and so many rows remain
abbrev pub PassedUpTo : Option (List ℕ) → List Block → ℕ → RowPlace → ℕ → ℕ → Type 0
PassedUpTo content blocks offset place f f' =
    ReadUpTo content blocks (drop place.block blocks) (passing blocks offset) (λ b. blocks_passed b (drop place.block blocks) place.block place.rows) f f'

pub none_passed : (content : Option (List ℕ)) (blocks : List Block) (offset f : ℕ) → PassedUpTo content blocks offset (record { block = 0; rows = offset }) f f
none_passed content blocks offset f = begun content blocks (passing blocks offset) f

pub one_passed : (content after : Option (List ℕ)) (blocks : List Block) (offset : ℕ) (place : RowPlace) (i : ℕ) (d : Block) (rows f mid f' : ℕ) → place.block ≡ i → i < length blocks → after ≡ content → PassedUpTo content blocks offset place f mid
    → GivesIn after (λ (k : ℕ). k) (Ok rows) (λ b. given (get_or blocks i d) (block_rows b)) → rows ≤ place.rows → MetadataFetched after (file_block (get_or blocks i d)) mid f' → PassedUpTo content blocks offset (record { block = place.block + 1; rows = place.rows - rows }) f f'
one_passed content after blocks offset place i d rows f mid f' is h same read told few more =
    let rest = drop (place.block + 1) blocks in
    let block = get_or blocks place.block d in
    let h' : place.block < length blocks = omega (arith, is, h) in
    let here = at_block content blocks place.block d (passing blocks offset) (λ l b. blocks_passed b l place.block place.rows) f mid h' read in
    one_more content after blocks rest block (passing blocks offset) (λ b. blocks_passed b (block ∷ rest) place.block place.rows) (λ b. blocks_passed b rest (place.block + 1) (place.rows - rows)) (passed_next rest place.block place.rows) rows f mid f'
    (by_passed block rest place.block place.rows) (passes rest place.block place.rows rows few) same here (subst (λ k. GivesIn after (λ (n : ℕ). n) (Ok rows) (λ b. given (get_or blocks k d) (block_rows b))) (sym is) told) (subst (λ k. MetadataFetched after (file_block (get_or blocks k d)) mid f') (sym is) more)

-- the rows end in a block
pub ends_here : (content after : Option (List ℕ)) (blocks : List Block) (offset : ℕ) (place : RowPlace) (i : ℕ) (d : Block) (rows f mid f' : ℕ) → place.block ≡ i → i < length blocks → after ≡ content → PassedUpTo content blocks offset place f mid
    → GivesIn after (λ (k : ℕ). k) (Ok rows) (λ b. given (get_or blocks i d) (block_rows b)) → place.rows < rows → MetadataFetched after (file_block (get_or blocks i d)) mid f' → GivesIn content place_in (Ok place) (passing blocks offset)
ends_here content after blocks offset place i d rows f mid f' is h same read told many more =
    let rest = drop (place.block + 1) blocks in
    let block = get_or blocks place.block d in
    let h' : place.block < length blocks = omega (arith, is, h) in
    let here = at_block content blocks place.block d (passing blocks offset) (λ l b. blocks_passed b l place.block place.rows) f mid h' read in
    let past = one_more content after blocks rest block (passing blocks offset) (λ b. blocks_passed b (block ∷ rest) place.block place.rows) (λ b. Ok (place.block, place.rows)) (passed_next rest place.block place.rows) rows f mid f'
    (by_passed block rest place.block place.rows) (ends rest place.block place.rows rows many) same here (subst (λ k. GivesIn after (λ (n : ℕ). n) (Ok rows) (λ b. given (get_or blocks k d) (block_rows b))) (sym is) told) (subst (λ k. MetadataFetched after (file_block (get_or blocks k d)) mid f') (sym is) more) in
    answered content blocks rest (passing blocks offset) (λ b. Ok (place.block, place.rows)) place_in (Ok place) f f' past (λ b. refl)

pub pass_refused : (content after : Option (List ℕ)) (blocks : List Block) (offset : ℕ) (place : RowPlace) (i : ℕ) (d : Block) (f mid : ℕ) (e : IpcError) → place.block ≡ i → i < length blocks → after ≡ content → PassedUpTo content blocks offset place f mid
    → GivesIn after (λ (k : ℕ). k) (Err e) (λ b. given (get_or blocks i d) (block_rows b)) → GivesIn content place_in (Err e) (passing blocks offset)
pass_refused content after blocks offset place i d f mid e is h same read fails =
    let rest = drop (place.block + 1) blocks in
    let block = get_or blocks place.block d in
    let h' : place.block < length blocks = omega (arith, is, h) in
    let here = at_block content blocks place.block d (passing blocks offset) (λ l b. blocks_passed b l place.block place.rows) f mid h' read in
    refused content after blocks rest block (passing blocks offset) (λ b. blocks_passed b (block ∷ rest) place.block place.rows) (passed_next rest place.block place.rows) place_in e f mid (by_passed block rest place.block place.rows) same here (subst (λ k. GivesIn after (λ (n : ℕ). n) (Err e) (λ b. given (get_or blocks k d) (block_rows b))) (sym is) fails)

pub pass_stopped : (content after : Option (List ℕ)) (blocks : List Block) (offset : ℕ) (place : RowPlace) (i : ℕ) (d : Block) (f mid f' : ℕ) → place.block ≡ i → i < length blocks → after ≡ content → PassedUpTo content blocks offset place f mid
    → MetadataFetched after (file_block (get_or blocks i d)) mid f' → MessagesFetched content (map file_block blocks) (passing blocks offset) f f'
pass_stopped content after blocks offset place i d f mid f' is h same read more =
    let rest = drop (place.block + 1) blocks in
    let block = get_or blocks place.block d in
    let h' : place.block < length blocks = omega (arith, is, h) in
    let here = at_block content blocks place.block d (passing blocks offset) (λ l b. blocks_passed b l place.block place.rows) f mid h' read in
    stopped content after blocks rest block (passing blocks offset) (λ b. blocks_passed b (block ∷ rest) place.block place.rows) (passed_next rest place.block place.rows) f mid f' (by_passed block rest place.block place.rows) same here (subst (λ k. MetadataFetched after (file_block (get_or blocks k d)) mid f') (sym is) more)

pub all_passed : (content : Option (List ℕ)) (blocks : List Block) (offset : ℕ) (place : RowPlace) (f f' : ℕ) → length blocks ≤ place.block → PassedUpTo content blocks offset place f f' → GivesIn content place_in (Ok place) (passing blocks offset)
all_passed content blocks offset place f f' h read =
    answered content blocks (drop place.block blocks) (passing blocks offset) (λ b. blocks_passed b (drop place.block blocks) place.block place.rows) place_in (Ok place) f f' read
    (λ b. none_behind b (drop place.block blocks) place.block place.rows (drop_all place.block blocks h))

pub pass_finished : (content : Option (List ℕ)) (blocks : List Block) (offset : ℕ) (place : RowPlace) (f f' : ℕ) → PassedUpTo content blocks offset place f f' → MessagesFetched content (map file_block blocks) (passing blocks offset) f f'
pass_finished content blocks offset place f f' read =
    finished content blocks (drop place.block blocks) (passing blocks offset) (λ b. blocks_passed b (drop place.block blocks) place.block place.rows) f f' read
