-- How many bytes a scan of a file fetches.
use Rattle.std.proofs.Common.{◌≡◌, ◌∙◌, sym, refl, ap, subst, arith, ℕ, zero, suc, ◌+◌, ◌≤◌, List, [], length, Option, Some, None, Ok, Err, true}
use Rattle.std.specs.Prelude.{IsSome}
use Rattle.std.proofs.lemmas.List.{take_all}
use Rattle.arrow_spec.specs.Arrays.{Dictionaries}
use Rattle.arrow_spec.specs.Files.{ArrowTable, Meta, TableBatch, custom_of, dictionaries_of, dictionaries_read, footer_of, meta_of, to_read}
use Rattle.arrow_spec.specs.Needed.{footer_size}
use Rattle.arrow_spec.specs.Readings.{Reading, meaning}
use Rattle.arrow_spec.proofs.Projection.{nothing, went}
use Rattle.arrow_spec.proofs.ReadPairs.{same_read}
use Rattle.ipc_files.specs.FileViews.{FileSays, file_custom}
use Rattle.ipc_files.specs.Fetching.{FooterFetched}
use Rattle.ipc_files.specs.FileDictionaries.{dictionaries_cost}
use Rattle.laws_transcode.specs.Files.{HasRead}
use Rattle.laws_scan.specs.Scan.{file_cost, met, scan_right, scan_table}
use Rattle.laws_scan.specs.Scans.{Scanned, ScanFetched}
use Rattle.laws_walk.specs.Fetching.{FetchesSome, cost_up_to}
use Rattle.laws_walk.specs.Places.{Sending, meta_in}
use Rattle.laws_walk.specs.Walks.{Walk, asked_by, blocks_walked, walk_cost, walk_reading}
use Rattle.laws_walk.proofs.Walks.{cost_less}
use Rattle.filter_types.specs.declared.filter.Filter.{Filter}
use Rattle.ipc_scan.specs.Sends.{scanning}

-- ── what a file of so many bytes costs ──

record CostParts (b : List ℕ) (w : Walk) (n : ℕ) : Type 0 where
  meta : Meta
  footer : List ℕ
  dictionaries : Dictionaries
  says : meta_of b ≡ Ok meta
  is : footer_of b ≡ Ok footer
  has : HasRead b meta dictionaries
  total : n ≡ 10 + length footer + cost_up_to b meta w dictionaries (length meta.blocks)

cost_parts : (b : List ℕ) (w : Walk) (n : ℕ) → file_cost b w ≡ Ok n → CostParts b w n
unfolding file_cost
cost_parts b w n h =
    let size = went (footer_size b) _ n h in
    let footer = went (footer_of b) _ size.got size.first in
    let meta = went (meta_of b) _ n size.rest in
    let d = went (dictionaries_of b meta.got [] (dictionaries_read meta.got.blocks meta.got.dictionaries)) _ n meta.rest in
    let length_is : length footer.got ≡ size.got = same_read (length footer.got) size.got footer.rest in
    let whole : 10 + size.got + cost_up_to b meta.got w d.got (length meta.got.blocks) ≡ n = same_read (10 + size.got + cost_up_to b meta.got w d.got (length meta.got.blocks)) n d.rest in
    record { meta = meta.got; footer = footer.got; dictionaries = d.got; says = meta.first; is = footer.first; has = record { read = d.first }; total = omega (arith, length_is, whole) }

-- where a scan means a table its blocks are walked
walked_all : (b : List ℕ) (f : Filter) (columns : Option (List ℕ)) (meta : Meta) (d : Dictionaries) → meta_of b ≡ Ok meta → HasRead b meta d → IsSome (scan_table b f columns) → (xs : List TableBatch) × (blocks_walked to_read b (met f columns) (asked_by b meta (met f columns) d) true meta.blocks None ≡ Ok xs)
unfolding scan_table walk_reading
walked_all b f columns meta d read has some = by (walk_reading to_read b (met f columns) None) refl some
  where
    by : (r : Reading ArrowTable) → walk_reading to_read b (met f columns) None ≡ r → IsSome (meaning r) → (xs : List TableBatch) × (blocks_walked to_read b (met f columns) (asked_by b meta (met f columns) d) true meta.blocks None ≡ Ok xs)
    by (Err es) is h = cc
    by (Ok t) is h =
        let m = went (meta_of b) _ t is in
        let custom = went (custom_of b) _ t m.rest in
        let right = went (scan_right f columns m.got.schema.fields) _ t custom.rest in
        let size = went nothing _ t right.rest in
        let e = went (dictionaries_of b m.got [] (dictionaries_read m.got.blocks m.got.dictionaries)) _ t size.rest in
        let xs = went (blocks_walked to_read b (met f columns) (asked_by b m.got (met f columns) e.got) true m.got.blocks None) _ t e.rest in
        let same : m.got ≡ meta = same_read m.got meta (sym m.first ∙ read) in
        let held : dictionaries_of b meta [] (dictionaries_read meta.blocks meta.dictionaries) ≡ Ok e.got = subst (λ (k : Meta). dictionaries_of b k [] (dictionaries_read k.blocks k.dictionaries) ≡ Ok e.got) same e.first in
        let also : e.got ≡ d = same_read e.got d (sym held ∙ has.read) in
        let there : blocks_walked to_read b (met f columns) (asked_by b meta (met f columns) e.got) true meta.blocks None ≡ Ok xs.got
        = subst (λ (k : Meta). blocks_walked to_read b (met f columns) (asked_by b k (met f columns) e.got) true k.blocks None ≡ Ok xs.got) same xs.first in
        (xs.got, subst (λ (k : Dictionaries). blocks_walked to_read b (met f columns) (asked_by b meta (met f columns) k) true meta.blocks None ≡ Ok xs.got) also there)

-- up to a block no more than all of it
cost_within : (b : List ℕ) (meta : Meta) (w : Walk) (d : Dictionaries) (n : ℕ) → n ≤ length meta.blocks → cost_up_to b meta w d n ≤ cost_up_to b meta w d (length meta.blocks)
cost_within b meta w d zero within = omega arith
cost_within b meta w d (suc n) within = by (length meta.blocks) refl
  where
    by : (k : ℕ) → length meta.blocks ≡ k → cost_up_to b meta w d (suc n) ≤ cost_up_to b meta w d (length meta.blocks)
    by zero is = absurd (omega (arith, within, is))
    by (suc k) is =
        let whole : cost_up_to b meta w d (length meta.blocks) ≡ dictionaries_cost b meta meta.dictionaries + walk_cost b meta w d meta.blocks w.limit
        = ap (cost_up_to b meta w d) is ∙ ap (λ ks. dictionaries_cost b meta meta.dictionaries + walk_cost b meta w d ks w.limit) (take_all (suc k) meta.blocks (omega (arith, is))) in
        let less = cost_less b meta w d meta.blocks (suc n) w.limit in
        omega (arith, whole, less)

-- ── what a scan fetches ──

-- nothing but the footer
pub cost_by_footer : (content : Option (List ℕ)) (q : Scanned) (f f' : ℕ) → FooterFetched content f f' → ScanFetched content q f f'
cost_by_footer None q f f' h = tt
cost_by_footer (Some b) q f f' h = λ means n cost.
    let p = cost_parts b (met q.filter q.columns) n cost in
    let less = h p.footer p.is in
    omega (arith, less, p.total)

-- and blocks
pub cost_by_blocks : (x : Sending) (g : Filter) (f mid f' : ℕ) → FileSays x.bytes (meta_in x) (file_custom x.file) → FooterFetched (Some x.bytes) f mid → FetchesSome (scanning g x) mid f' → ScanFetched (Some x.bytes) (record { filter = g; columns = x.request.columns }) f f'
cost_by_blocks x g f mid f' says footer some = λ means n cost.
    let w = met g x.request.columns in
    let p = cost_parts x.bytes w n cost in
    let same : p.meta ≡ meta_in x = same_read p.meta (meta_in x) (sym p.says ∙ says.read) in
    let has : HasRead x.bytes (meta_in x) p.dictionaries = subst (λ (m : Meta). HasRead x.bytes m p.dictionaries) same p.has in
    let total : n ≡ 10 + length p.footer + cost_up_to x.bytes (meta_in x) w p.dictionaries (length (meta_in x).blocks) = subst (λ (m : Meta). n ≡ 10 + length p.footer + cost_up_to x.bytes m w p.dictionaries (length m.blocks)) same p.total in
    let walked = walked_all x.bytes g x.request.columns (meta_in x) p.dictionaries says.read has means in
    let blocks : f' + cost_up_to x.bytes (meta_in x) w p.dictionaries 0 ≤ mid + cost_up_to x.bytes (meta_in x) w p.dictionaries some.to = some.blocks p.dictionaries walked.0 has walked.1 in
    let none : cost_up_to x.bytes (meta_in x) w p.dictionaries 0 ≡ 0 = refl in
    let most = cost_within x.bytes (meta_in x) w p.dictionaries some.to some.within in
    let less = footer p.footer p.is in
    omega (arith, less, blocks, none, total, most)
