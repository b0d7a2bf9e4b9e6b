-- How many bytes are fetched of a file that means a table.
use Rattle.std.proofs.Common.{◌≡◌, ◌∙◌, sym, refl, ap, subst, ℕ, zero, suc, ◌+◌, ◌-◌, ◌≤◌, List, [], ◌∷◌, ◌++◌, length, Option, Some, None, Ok, Err, true, false, Bool, arith}
use Rattle.std.specs.Prelude.{IsSome, option_map}
use Rattle.std.proofs.lemmas.List.Sums.{sum_by-append, sum_by-cons}
use Rattle.arrow_spec.specs.Readings.{Reading, meaning, free_of}
use Rattle.arrow_spec.specs.Arrays.{Dictionaries}
use Rattle.arrow_spec.specs.Features.{chosen_floats}
use Rattle.arrow_spec.specs.Files.{ArrowTable, FileBlock, Meta, Request, TableBatch, batch_of, batches_of, columns_right, custom_of, dictionaries_of, dictionaries_read, dictionaries_sent, file_reading, footer_of, meta_of, to_read, what_is_left}
use Rattle.arrow_spec.specs.Kinds.{width}
use Rattle.arrow_spec.specs.Meaning.{file_table}
use Rattle.arrow_spec.specs.Needed.{Range, all_need, lengths, or_nothing}
use Rattle.arrow_spec.proofs.Projection.{nothing, on, went}
use Rattle.arrow_spec.proofs.ReadPairs.{same_read}
use Rattle.ipc_reader.specs.Below.{FileSays, FooterFetched, block_cost, dictionaries_cost, dictionary_cost, file_custom}
use Rattle.ipc_reader.proofs.Below.{answer_or, batch_parts, block_fetched}
use Rattle.laws_files.specs.Fetched.{batch_fetched, batches_fetched, dictionary_fetched, fetched as ranges_fetched}
use Rattle.laws_files.proofs.NeededParts.{batches_depend, dictionaries_depend, meta-footer, parts_are}
use Rattle.laws_transcode.specs.Files.{HasRead, asked_of}
use Rattle.laws_walk.specs.Fetching.{FetchesSome, FileFetched, cost_up_to}
use Rattle.laws_walk.specs.Places.{Sending, asked_in, meta_in, walking}
use Rattle.laws_walk.specs.Walks.{blocks_walked, left_read, walk_cost, within}
use Rattle.laws_walk.proofs.Places.{reads_all}
use Rattle.laws_walk.proofs.Walks.{blocks_same, cost_less}

batches_cost : (b : List ℕ) (meta : Meta) (r : Request) (d : Dictionaries) (is_first : Bool) (blocks : List FileBlock) (left : Option ℕ) (parts : List Range) (xs : List TableBatch) → batches_fetched b meta r blocks left ≡ Ok parts → batches_of to_read b (asked_of b meta r d) is_first blocks left ≡ Ok xs
    → lengths parts ≡ walk_cost b meta (within r) d blocks left
unfolding batches_fetched batches_of
batches_cost b meta r d is_first [] left parts xs h k = ap (λ (r : Reading (List Range)). lengths (or_nothing (meaning r))) (sym h)
batches_cost b meta r d is_first (block ∷ blocks) left parts xs h k =
    let first = went (batch_fetched b meta r block left) _ parts h in
    let others = went (batches_fetched b meta r blocks (what_is_left left first.got.1)) _ parts first.rest in
    let read = went (batch_of to_read b (asked_of b meta r d) block left) _ xs k in
    let flag = went (dictionaries_sent is_first to_read (asked_of b meta r d)) _ xs read.rest in
    let behind = went (batches_of to_read b (asked_of b meta r d) false blocks (what_is_left left read.got.rows)) _ xs flag.rest in
    let p = batch_parts b (asked_of b meta r d) block left read.got read.first in
    let same = block_fetched b meta r block left p.message p.rows p.is p.count in
    let rows : first.got.1 ≡ read.got.rows = ap (λ w. (answer_or first.got w).1) (sym first.first ∙ same.is) ∙ sym p.height in
    let here : batches_fetched b meta r blocks (what_is_left left read.got.rows) ≡ Ok others.got = subst (λ n. batches_fetched b meta r blocks (what_is_left left n) ≡ Ok others.got) rows others.first in
    let rest = batches_cost b meta r d false blocks (what_is_left left read.got.rows) others.got behind.got here behind.first in
    let cost : block_cost b meta r block left ≡ lengths first.got.0 = ap (λ r. lengths (or_nothing (option_map (λ x. x.0) (meaning r)))) first.first in
    let whole : lengths parts ≡ lengths (first.got.0 ++ others.got) = ap (λ (r : Reading (List Range)). lengths (or_nothing (meaning r))) (sym others.rest) in
    let gives : (within r).batch to_read b (asked_of b meta r d) block left ≡ Ok (Some read.got) = on _ _ read.got read.first in
    let next : walk_cost b meta (within r) d (block ∷ blocks) left ≡ block_cost b meta r block left + walk_cost b meta (within r) d blocks (what_is_left left read.got.rows)
    = ap (λ z. block_cost b meta r block left + walk_cost b meta (within r) d blocks (left_read left z)) gives in
    omega (arith, cost, rest, whole, sum_by-append (λ (y : Range). y.length) first.got.0 others.got, next)

-- what dictionaries cost together
dictionaries_total : (b : List ℕ) (meta : Meta) (blocks : List FileBlock) (parts : List Range) → all_need (λ block. dictionary_fetched b meta block) blocks ≡ Ok parts → lengths parts ≡ dictionaries_cost b meta blocks
unfolding all_need
dictionaries_total b meta [] parts h = ap (λ (r : Reading (List Range)). lengths (or_nothing (meaning r))) (sym h)
dictionaries_total b meta (block ∷ blocks) parts h =
    let first = went (dictionary_fetched b meta block) _ parts h in
    let others = went (all_need (λ block. dictionary_fetched b meta block) blocks) _ parts first.rest in
    let rest = dictionaries_total b meta blocks others.got others.first in
    let cost : dictionary_cost b meta block ≡ lengths first.got = ap (λ (r : Reading (List Range)). lengths (or_nothing (meaning r))) first.first in
    let whole : lengths parts ≡ lengths (first.got ++ others.got) = ap (λ (r : Reading (List Range)). lengths (or_nothing (meaning r))) (sym others.rest) in
    omega (arith, cost, rest, whole, sum_by-append (λ (y : Range). y.length) first.got others.got, sum_by-cons (dictionary_cost b meta) block blocks)

record FileParts (b : List ℕ) (r : Request) : Type 0 where
  meta : Meta
  footer : List ℕ
  dictionaries : Dictionaries
  batches : List TableBatch
  says : meta_of b ≡ Ok meta
  is : footer_of b ≡ Ok footer
  held : dictionaries_of b meta [] (dictionaries_read meta.blocks meta.dictionaries) ≡ Ok dictionaries
  read : batches_of to_read b (asked_of b meta r dictionaries) true meta.blocks r.limit ≡ Ok batches
  total : lengths (ranges_fetched b r) ≡ 10 + length footer + (dictionaries_cost b meta (dictionaries_read meta.blocks meta.dictionaries) + walk_cost b meta (within r) dictionaries meta.blocks r.limit)

-- the lengths of two ranges before others
in_parts : (x y : Range) (zs : List Range) → lengths (x ∷ y ∷ zs) ≡ x.length + y.length + lengths zs
in_parts x y zs =
    let first = sum_by-cons (λ (z : Range). z.length) x (y ∷ zs) in
    let second = sum_by-cons (λ (z : Range). z.length) y zs in
    omega (arith, first, second)

file_parts : (b : List ℕ) (r : Request) (t : ArrowTable) → file_reading to_read b r None ≡ Ok t → FileParts b r
unfolding file_reading ranges_fetched
file_parts b r t h =
    let meta = went (meta_of b) _ t h in
    let footer = meta-footer b meta.got meta.first in
    let custom = went (custom_of b) _ t meta.rest in
    let columns = went (columns_right r.columns (width meta.got.schema.fields)) _ t custom.rest in
    let floats = went (free_of (chosen_floats r.columns meta.got.schema.fields 0)) _ t columns.rest in
    let size = went nothing _ t floats.rest in
    let dictionaries = went (dictionaries_of b meta.got [] (dictionaries_read meta.got.blocks meta.got.dictionaries)) _ t size.rest in
    let batches = went (batches_of to_read b (asked_of b meta.got r dictionaries.got) true meta.got.blocks r.limit) _ t dictionaries.rest in
    let values = dictionaries_depend b meta.got [] (dictionaries_read meta.got.blocks meta.got.dictionaries) dictionaries.got dictionaries.first in
    let parts = batches_depend b meta.got r true meta.got.blocks dictionaries.got r.limit batches.got batches.first in
    let all_parts = parts_are b r meta.got footer.0 values.parts parts.parts meta.first footer.1 values.needed parts.needed in
    let trailer : Range = record { place = length b - 10; length = 10 } in
    let foot : Range = record { place = length b - 10 - length footer.0; length = length footer.0 } in
    let whole : lengths (ranges_fetched b r) ≡ lengths (trailer ∷ foot ∷ values.parts ++ parts.parts) = ap (λ r. lengths (or_nothing (meaning r))) all_parts in
    let cost = batches_cost b meta.got r dictionaries.got true meta.got.blocks r.limit parts.parts batches.got parts.needed batches.first in
    let cost_before = dictionaries_total b meta.got (dictionaries_read meta.got.blocks meta.got.dictionaries) values.parts values.needed in
    let both : lengths (values.parts ++ parts.parts) ≡ lengths values.parts + lengths parts.parts = sum_by-append (λ (y : Range). y.length) values.parts parts.parts in
    let ranges = in_parts trailer foot (values.parts ++ parts.parts) in
    record {
      meta = meta.got;
      footer = footer.0;
      dictionaries = dictionaries.got;
      batches = batches.got;
      says = meta.first;
      is = footer.1;
      held = dictionaries.first;
      read = batches.first;
      total = whole ∙ ranges ∙ ap (λ n. 10 + length footer.0 + n) (both ∙ ap (λ n. n + lengths parts.parts) cost_before ∙ ap (λ n. dictionaries_cost b meta.got (dictionaries_read meta.got.blocks meta.got.dictionaries) + n) cost);
    }

table_parts : (b : List ℕ) (r : Request) → IsSome (file_table b r) → FileParts b r
unfolding file_table
table_parts b r h = by_reading (file_reading to_read b r None) refl h
  where
    by_reading : (w : Reading ArrowTable) → file_reading to_read b r None ≡ w → IsSome (meaning w) → FileParts b r
    by_reading (Ok t) is h = file_parts b r t is
    by_reading (Err es) is h = cc

pub file_by_footer : (content : Option (List ℕ)) (r : Request) (f f' : ℕ) → FooterFetched content f f' → FileFetched content r f f'
file_by_footer None r f f' h = tt
file_by_footer (Some b) r f f' h = λ some.
    let p = table_parts b r some in
    omega (arith, h p.footer p.is, p.total)

-- what is fetched up to a block of a file is among what all of it costs
cost_within : (b : List ℕ) (meta : Meta) (r : Request) (d : Dictionaries) (n : ℕ) → n ≤ length meta.blocks → cost_up_to b meta (within r) d n ≤ dictionaries_cost b meta (dictionaries_read meta.blocks meta.dictionaries) + walk_cost b meta (within r) d meta.blocks r.limit
cost_within b meta r d zero within = omega arith
cost_within b meta r d (suc n) less =
    let some : dictionaries_read meta.blocks meta.dictionaries ≡ meta.dictionaries = reads_all meta.blocks meta.dictionaries (omega (arith, less)) in
    let cost : dictionaries_cost b meta (dictionaries_read meta.blocks meta.dictionaries) ≡ dictionaries_cost b meta meta.dictionaries = ap (dictionaries_cost b meta) some in
    omega (arith, cost, cost_less b meta (within r) d meta.blocks (suc n) r.limit)

pub file_by_blocks : (x : Sending) (f mid f' : ℕ) → FileSays x.bytes (meta_in x) (file_custom x.file) → FooterFetched (Some x.bytes) f mid → FetchesSome (walking x) mid f' → FileFetched (Some x.bytes) x.request f f'
file_by_blocks x f mid f' says footer some = λ (means : IsSome (file_table x.bytes x.request)). by (table_parts x.bytes x.request means)
  where
    by : FileParts x.bytes x.request → f' ≤ f + lengths (ranges_fetched x.bytes x.request)
    by p =
        let same : p.meta ≡ meta_in x = same_read p.meta (meta_in x) (sym p.says ∙ says.read) in
        let held : dictionaries_of x.bytes (meta_in x) [] (dictionaries_read (meta_in x).blocks (meta_in x).dictionaries) ≡ Ok p.dictionaries = subst (λ (m : Meta). dictionaries_of x.bytes m [] (dictionaries_read m.blocks m.dictionaries) ≡ Ok p.dictionaries) same p.held in
        let has : HasRead x.bytes (meta_in x) p.dictionaries = record { read = held } in
        let read : batches_of to_read x.bytes (asked_in x p.dictionaries) true (meta_in x).blocks x.request.limit ≡ Ok p.batches
        = subst (λ (m : Meta). batches_of to_read x.bytes (asked_of x.bytes m x.request p.dictionaries) true m.blocks x.request.limit ≡ Ok p.batches) same p.read in
        let total : lengths (ranges_fetched x.bytes x.request) ≡ 10 + length p.footer + (dictionaries_cost x.bytes (meta_in x) (dictionaries_read (meta_in x).blocks (meta_in x).dictionaries) + walk_cost x.bytes (meta_in x) (within x.request) p.dictionaries (meta_in x).blocks x.request.limit)
        = subst (λ (m : Meta). lengths (ranges_fetched x.bytes x.request) ≡ 10 + length p.footer + (dictionaries_cost x.bytes m (dictionaries_read m.blocks m.dictionaries) + walk_cost x.bytes m (within x.request) p.dictionaries m.blocks x.request.limit)) same p.total in
        let walked : blocks_walked to_read x.bytes (within x.request) (asked_in x p.dictionaries) true (meta_in x).blocks x.request.limit ≡ Ok p.batches = blocks_same to_read x.bytes x.request (asked_in x p.dictionaries) true (meta_in x).blocks x.request.limit ∙ read in
        let blocks : f' + cost_up_to x.bytes (meta_in x) (within x.request) p.dictionaries 0 ≤ mid + cost_up_to x.bytes (meta_in x) (within x.request) p.dictionaries some.to = some.blocks p.dictionaries p.batches has walked in
        let none : cost_up_to x.bytes (meta_in x) (within x.request) p.dictionaries 0 ≡ 0 = refl in
        omega (arith, footer p.footer p.is, blocks, none, total, cost_within x.bytes (meta_in x) x.request p.dictionaries some.to some.within)
