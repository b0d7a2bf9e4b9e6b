-- How many bytes are fetched of the blocks of a file that are walked one after another.
use Rattle.std.proofs.Common.{◌≡◌, ◌∙◌, sym, refl, ap, subst, ℕ, zero, suc, ◌+◌, ◌<◌, ◌≤◌, List, [], length, take, drop, Option, Some, None, Result, Ok, slice_get, true, arith}
use Rattle.std.specs.Prelude.{option_map}
use Rattle.std.proofs.lemmas.Option.{slice_get_within}
use Rattle.arrow_spec.specs.declared.error.IpcError.{IpcError}
use Rattle.arrow_spec.specs.Arrays.{Dictionaries}
use Rattle.arrow_spec.specs.Files.{FileBlock, Meta, Purpose, Request, TableBatch, batch_of, dictionaries_of, to_read}
use Rattle.arrow_spec.specs.Needed.{Range, lengths, or_nothing}
use Rattle.arrow_spec.specs.Readings.{Reading, meaning}
use Rattle.arrow_spec.proofs.Projection.{went}
use Rattle.arrow_arrays.specs.Batches.{Batch}
use Rattle.ipc_reader.specs.Below.{BlockFetched, FileMetadata, FirstFetched, asked, block_cost, dictionaries_cost, meta_view}
use Rattle.ipc_reader.specs.Kept.{FetchedBy}
use Rattle.ipc_reader.specs.Reads.{NextBatch}
use Rattle.ipc_reader.specs.declared.cursor.FileCursor.{FileCursor}
use Rattle.ipc_reader.specs.declared.kept.KeptDictionaries.{KeptDictionaries}
use Rattle.laws_files.specs.Fetched.{batch_fetched}
use Rattle.laws_transcode.specs.Files.{HasRead}
use Rattle.laws_walk.specs.Fetching.{FetchesBlocks, FetchesSome, FetchesTo, cost_up_to}
use Rattle.laws_walk.specs.Places.{IsReadBy, KeptSoFar, Place, Sending, Walked, Walking, asked_in, asked_walked, meta_in, meta_walked, place_of, walking}
use Rattle.laws_walk.specs.Walks.{Walk, blocks_walked, walk_cost, within}
use Rattle.laws_walk.proofs.Cursors.{at_block, may_project}
use Rattle.laws_walk.proofs.Places.{all_of, split_at, take_next}
use Rattle.laws_walk.proofs.Walks.{block_walks, cost_more}

-- ── some blocks, and others behind them ──

-- nothing was fetched
pub none_fetched : (x : Walking) (n f : ℕ) → FetchesBlocks x n n f f
none_fetched x n f = λ d xs has all. omega arith

pub fetches_on : (x : Walking) (a b c f g h : ℕ) → FetchesBlocks x a b f g → FetchesBlocks x b c g h → FetchesBlocks x a c f h
fetches_on x a b c f g h first second = λ d xs has all. omega (arith, first d xs has all, second d xs has all)

pub fetches_to_on : (x : Walking) (a b c f g h : ℕ) → FetchesTo x a b f g → FetchesTo x b c g h → FetchesTo x a c f h
fetches_to_on x a b c f g h first second = record { within = second.within; blocks = fetches_on x a b c f g h first.blocks second.blocks }

pub some_fetched : (x : Walking) (from to f f' : ℕ) → from ≡ 0 → FetchesTo x from to f f' → FetchesSome x f f'
some_fetched x from to f f' none h = record { to = to; within = h.within; blocks = subst (λ n. FetchesBlocks x n to f f') none h.blocks }

-- where none was read
pub none_begun : (x : Walking) (f : ℕ) → FetchesSome x f f
none_begun x f = record { to = 0; within = omega arith; blocks = none_fetched x 0 f }

-- none was read by a call
pub stays : (x : Walking) (a n f f' : ℕ) → n ≡ a → a ≤ length (meta_walked x).blocks → f' ≡ f → FetchesTo x a n f f'
stays x a n f f' same within still = record { within = omega (arith, same, within); blocks = λ d xs has all. subst (λ k. f' + cost_up_to x.bytes (meta_walked x) x.walk d a ≤ f + cost_up_to x.bytes (meta_walked x) x.walk d k) (sym same) (omega (arith, still)) }

-- ── the next block ──

-- the dictionaries are counted before the first block
cost_behind : (b : List ℕ) (meta : Meta) (w : Walk) (d : Dictionaries) (n : ℕ) → 0 < n → cost_up_to b meta w d n ≡ dictionaries_cost b meta meta.dictionaries + walk_cost b meta w d (take n meta.blocks) w.limit
cost_behind b meta w d zero some = absurd (omega (arith, some))
cost_behind b meta w d (suc n) some = refl

module _ (purpose : Purpose) (x : Walking) (p : Place) (bs : List TableBatch) (s : Walked purpose x p bs) (block : FileBlock) (at : slice_get (meta_walked x).blocks p.block ≡ Some block) (f f' : ℕ) where
  -- what it costs, where it can be read
  abbrev pub OfBlock : Dictionaries → ℕ → Type 0
  OfBlock d before = (here : Option TableBatch) → x.walk.batch to_read x.bytes (asked_walked x d) block p.left ≡ Ok here → f' ≤ f + (before + x.walk.cost x.bytes (meta_walked x) d block p.left)

  pub next_fetched : (n : ℕ) → n ≡ p.block + 1 → (p.block ≡ 0 → (d : Dictionaries) → dictionaries_of x.bytes (meta_walked x) [] (meta_walked x).dictionaries ≡ Ok d → OfBlock d (dictionaries_cost x.bytes (meta_walked x) (meta_walked x).dictionaries))
      → (0 < p.block → (d : Dictionaries) → HasRead x.bytes (meta_walked x) d → OfBlock d 0) → FetchesTo x p.block n f f'
  next_fetched n next first later = record { within = omega (arith, next, slice_get_within (meta_walked x).blocks p.block block at); blocks = λ d xs has all. subst (λ k. f' + cost_up_to x.bytes (meta_walked x) x.walk d p.block ≤ f + cost_up_to x.bytes (meta_walked x) x.walk d k) (sym next) (by d xs has all s.kept) }
    where
      by : (d : Dictionaries) (xs : List TableBatch) → HasRead x.bytes (meta_walked x) d → blocks_walked to_read x.bytes x.walk (asked_walked x d) true (meta_walked x).blocks x.walk.limit ≡ Ok xs → KeptSoFar x p
          → f' + cost_up_to x.bytes (meta_walked x) x.walk d p.block ≤ f + cost_up_to x.bytes (meta_walked x) x.walk d (p.block + 1)
      by d xs has all kept =
          let b = x.bytes in
          let meta = meta_walked x in
          let before : List FileBlock = take p.block meta.blocks in
          let given = s.read d has in
          let there = block_walks to_read b x.walk (asked_walked x d) before block x.walk.limit bs given (drop (p.block + 1) meta.blocks) xs (ap (λ ks. blocks_walked to_read b x.walk (asked_walked x d) true ks x.walk.limit) (sym (split_at meta.blocks p.block block at)) ∙ all) in
          let read : x.walk.batch to_read b (asked_walked x d) block p.left ≡ Ok there.0 = subst (λ l. x.walk.batch to_read b (asked_walked x d) block l ≡ Ok there.0) (sym s.left) there.1 in
          let more : walk_cost b meta x.walk d (take (p.block + 1) meta.blocks) x.walk.limit ≡ walk_cost b meta x.walk d before x.walk.limit + x.walk.cost b meta d block p.left
          = ap (λ ks. walk_cost b meta x.walk d ks x.walk.limit) (take_next meta.blocks p.block block at) ∙ cost_more b meta x.walk d true before block x.walk.limit bs given ∙ ap (λ l. walk_cost b meta x.walk d before x.walk.limit + x.walk.cost b meta d block l) (sym s.left) in
          let new = cost_behind b meta x.walk d (p.block + 1) (omega arith) in
          with d has there.0 read more new kept
        where
          with : (d : Dictionaries) → HasRead x.bytes (meta_walked x) d → (here : Option TableBatch) → x.walk.batch to_read x.bytes (asked_walked x d) block p.left ≡ Ok here
              → walk_cost x.bytes (meta_walked x) x.walk d (take (p.block + 1) (meta_walked x).blocks) x.walk.limit ≡ walk_cost x.bytes (meta_walked x) x.walk d (take p.block (meta_walked x).blocks) x.walk.limit + x.walk.cost x.bytes (meta_walked x) d block p.left
              → cost_up_to x.bytes (meta_walked x) x.walk d (p.block + 1) ≡ dictionaries_cost x.bytes (meta_walked x) (meta_walked x).dictionaries + walk_cost x.bytes (meta_walked x) x.walk d (take (p.block + 1) (meta_walked x).blocks) x.walk.limit
              → KeptSoFar x p → f' + cost_up_to x.bytes (meta_walked x) x.walk d p.block ≤ f + cost_up_to x.bytes (meta_walked x) x.walk d (p.block + 1)
          with d has here read more new (KeptSoFar.none_yet none not_read) =
              let some : 0 < length (meta_walked x).blocks = let less = slice_get_within (meta_walked x).blocks p.block block at in omega (arith, less) in
              let old : cost_up_to x.bytes (meta_walked x) x.walk d p.block ≡ 0 = ap (cost_up_to x.bytes (meta_walked x) x.walk d) none in
              let empty : walk_cost x.bytes (meta_walked x) x.walk d (take p.block (meta_walked x).blocks) x.walk.limit ≡ 0 = ap (λ k. walk_cost x.bytes (meta_walked x) x.walk d (take k (meta_walked x).blocks) x.walk.limit) none in
              let less = first none d (all_of x.bytes (meta_walked x) d has some) here read in
              omega (arith, old, empty, more, new, less)
          with d has here read more new (KeptSoFar.all_read r some) =
              let old = cost_behind x.bytes (meta_walked x) x.walk d p.block some in
              let less = later some d has here read in
              omega (arith, old, more, new, less)

-- ── a cursor ──

-- only the columns of a request count
same_request : (b : List ℕ) (meta : Meta) (r : Request) (block : FileBlock) (left : Option ℕ) → batch_fetched b meta (asked r.columns left) block left ≡ batch_fetched b meta r block left
unfolding batch_fetched
same_request b meta r block left = refl

same_cost : (b : List ℕ) (meta : Meta) (r : Request) (block : FileBlock) (left : Option ℕ) → block_cost b meta (asked r.columns left) block left ≡ block_cost b meta r block left
same_cost b meta r block left = ap (λ (w : Reading (List Range × ℕ)). lengths (or_nothing (option_map (λ (p : List Range × ℕ). p.0) (meaning w)))) (same_request b meta r block left)

module _ {S : Type 0} (content_of : S → Option (List ℕ)) (faults_of fetched_of : S → ℕ) (references_of : S → List ℕ) (s s' : S) (c c' : FileCursor) (x : Sending) (is : IsReadBy c x) (told : content_of s ≡ Some x.bytes) where
  pub next_fetches : (purpose : Purpose) (bs : List TableBatch) (r : Option (Result Batch IpcError)) → NextBatch content_of faults_of fetched_of references_of s s' c c' r → Walked purpose (walking x) (place_of c) bs → FetchesTo (walking x) c.block c'.block (fetched_of s) (fetched_of s')
  next_fetches purpose bs None n so_far = stays (walking x) c.block c'.block (fetched_of s) (fetched_of s') n.block so_far.within (n.stays refl)
  next_fetches purpose bs (Some answer) n so_far =
      let there = at_block content_of faults_of fetched_of references_of s s' c c' x is n.ended.0 in
      let at : slice_get (meta_view c.metadata).blocks c.block ≡ Some there.0 = subst (λ (f : FileMetadata). slice_get (meta_view f).blocks c.block ≡ Some there.0) (sym is.metadata) there.1 in
      let own : FetchedBy c.dictionaries (Some x.bytes) (meta_view c.metadata) (asked x.request.columns c.left) there.0 c.left (fetched_of s) (fetched_of s')
      = subst (λ z. FetchedBy c.dictionaries z (meta_view c.metadata) (asked x.request.columns c.left) there.0 c.left (fetched_of s) (fetched_of s')) told (n.fetched x.request.columns there.0 (may_project x c is) at) in
      let of_file : FetchedBy c.dictionaries (Some x.bytes) (meta_in x) (asked x.request.columns c.left) there.0 c.left (fetched_of s) (fetched_of s')
      = subst (λ (f : FileMetadata). FetchedBy c.dictionaries (Some x.bytes) (meta_view f) (asked x.request.columns c.left) there.0 c.left (fetched_of s) (fetched_of s')) is.metadata own in
      next_fetched purpose (walking x) (place_of c) bs so_far there.0 there.1 (fetched_of s) (fetched_of s') c'.block n.block (first there.0 of_file so_far.kept) (later there.0 of_file so_far.kept)
    where
      cost : (block : FileBlock) → block_cost x.bytes (meta_in x) (asked x.request.columns c.left) block c.left ≡ block_cost x.bytes (meta_in x) x.request block c.left
      cost block = same_cost x.bytes (meta_in x) x.request block c.left

      first : (block : FileBlock) → FetchedBy c.dictionaries (Some x.bytes) (meta_in x) (asked x.request.columns c.left) block c.left (fetched_of s) (fetched_of s') → KeptSoFar (walking x) (place_of c) → c.block ≡ 0 → (d : Dictionaries) → dictionaries_of x.bytes (meta_in x) [] (meta_in x).dictionaries ≡ Ok d
          → (here : Option TableBatch) → (within x.request).batch to_read x.bytes (asked_in x d) block c.left ≡ Ok here → fetched_of s' ≤ fetched_of s + (dictionaries_cost x.bytes (meta_in x) (meta_in x).dictionaries + block_cost x.bytes (meta_in x) x.request block c.left)
      first block fetched (KeptSoFar.none_yet none not_read) zero_block d held here read =
          let one = went (batch_of to_read x.bytes (asked_in x d) block c.left) _ here read in
          let by : FirstFetched (Some x.bytes) (meta_in x) (asked x.request.columns c.left) block c.left (fetched_of s) (fetched_of s') = subst (λ (k : KeptDictionaries). FetchedBy k (Some x.bytes) (meta_in x) (asked x.request.columns c.left) block c.left (fetched_of s) (fetched_of s')) not_read fetched in
          let less : fetched_of s' ≤ fetched_of s + (dictionaries_cost x.bytes (meta_in x) (meta_in x).dictionaries + block_cost x.bytes (meta_in x) (asked x.request.columns c.left) block c.left) = by d one.got held one.first in
          let same = cost block in
          omega (arith, less, same)
      first block fetched (KeptSoFar.all_read r some) zero_block d held here read = absurd (omega (arith, some, zero_block))

      later : (block : FileBlock) → FetchedBy c.dictionaries (Some x.bytes) (meta_in x) (asked x.request.columns c.left) block c.left (fetched_of s) (fetched_of s') → KeptSoFar (walking x) (place_of c) → 0 < c.block → (d : Dictionaries) → HasRead x.bytes (meta_in x) d
          → (here : Option TableBatch) → (within x.request).batch to_read x.bytes (asked_in x d) block c.left ≡ Ok here → fetched_of s' ≤ fetched_of s + (0 + block_cost x.bytes (meta_in x) x.request block c.left)
      later block fetched (KeptSoFar.none_yet none not_read) more d has here read = absurd (omega (arith, none, more))
      later block fetched (KeptSoFar.all_read r some) more d has here read =
          let one = went (batch_of to_read x.bytes (asked_in x d) block c.left) _ here read in
          let by : BlockFetched (Some x.bytes) (meta_in x) (asked x.request.columns c.left) block c.left (fetched_of s) (fetched_of s') = subst (λ (k : KeptDictionaries). FetchedBy k (Some x.bytes) (meta_in x) (asked x.request.columns c.left) block c.left (fetched_of s) (fetched_of s')) r.kept fetched in
          let less : fetched_of s' ≤ fetched_of s + block_cost x.bytes (meta_in x) (asked x.request.columns c.left) block c.left = by d one.got one.first in
          let same = cost block in
          omega (arith, less, same)
