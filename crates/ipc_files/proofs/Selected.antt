-- Columns that are asked for by their numbers: those that are read by rising numbers, and put in the order asked.
use Rattle.std.proofs.Common.{◌≡◌, ℕ, suc, ◌<◌, List, [], ◌∷◌, length, Option, Some, Result, Ok, Err, IfOk, IfErr, IfSome, true, refl, sym, ap, ◌∙◌, subst}
use Rattle.std.specs.Prelude.{nat_lt, slice_get}
use Rattle.std.specs.Rc.{rc_value}
use Rattle.std.proofs.lemmas.Bool.{and_from, lt-ltb}
use Rattle.arrow_spec.specs.declared.error.IpcError.{IpcError}
use Rattle.arrow_spec.specs.declared.message.Block.{Block}
use Rattle.arrow_spec.specs.declared.error.IpcError.TheVariants as errors
use Rattle.arrow_spec.specs.Arrays.{Dictionaries}
use Rattle.arrow_spec.specs.Files.{FileBlock, columns_right}
use Rattle.arrow_spec.specs.Kinds.{width}
use Rattle.arrow_types.specs.Schemas.{Keyed}
use Rattle.arrow_arrays.specs.Batches.{Batch}
use Rattle.ipc_projection.specs.Below.{are_below, Held}
use Rattle.ipc_projection.specs.Projections.{IsProjection, IsReordered}
use Rattle.ipc_projection.specs.declared.projection.ProjectionInfo.{ProjectionInfo}
use Rattle.ipc_projection.proofs.Numbers.{below_each}
use Rattle.ipc_files.specs.Blocks.{ReadsBlock, asked_under}
use Rattle.ipc_files.specs.Fetching.{BlockFetched}
use Rattle.ipc_files.specs.FileViews.{meta_view}
use Rattle.ipc_files.specs.Requests.{asked}
use Rattle.ipc_files.specs.declared.metadata.FileMetadata.{FileMetadata}
use Rattle.ipc_files.proofs.FetchedFiles.{fetched_ordered}
use Rattle.ipc_files.proofs.Picked.{reordered_picked}
use Rattle.ipc_files.proofs.ReadFiles.{file_width, memory_refused, ordered_answer}

-- the numbers of which there is a projection
pub record IsSelected (s : List Keyed) (columns : Option (List ℕ)) (p : ProjectionInfo) : Type 0 where
  pub numbers : List ℕ
  pub are : columns ≡ Some numbers
  pub is : IsProjection s numbers p

-- its numbers are those of columns
each_below : (n : ℕ) (cs : List ℕ) → ((j c : ℕ) → slice_get cs j ≡ Some c → c < n) → are_below n cs ≡ true
each_below n [] h = refl
each_below n (c ∷ cs) h = and_from (nat_lt c n) (are_below n cs) (lt-ltb c n (h 0 c refl)) (each_below n cs (λ j d at. h (suc j) d at))

pub asked_below : (s : List Keyed) (cs : List ℕ) (p : ProjectionInfo) → IsProjection s cs p → are_below (length s) cs ≡ true
asked_below s cs p is = each_below (length s) cs (λ j c at. let place = is.places j c at in below_each (length s) p.columns.items is.below place.0 c place.1)

-- as many fields as a file has columns
pub right_of_file : (file : FileMetadata) (columns : Option (List ℕ)) (s : List Keyed) → s ≡ rc_value file.schema → columns_right columns (length s) ≡ Ok tt → columns_right columns (width (meta_view file).schema.fields) ≡ Ok tt
right_of_file file columns s is h = subst (λ n. columns_right columns n ≡ Ok tt) (ap length is ∙ sym (file_width file)) h

-- ── what a block means then ──

-- a block that is read by rising numbers
abbrev pub ReadsRising : Option (List ℕ) → Held → FileMetadata → Dictionaries → List ℕ → Block → Option ℕ → Result Batch IpcError → Type 0
ReadsRising content held file d rising block left result = IfSome content (λ b. ReadsBlock b held (asked_under b (meta_view file) d (asked (Some rising) left)) block left result)

pub selected_answer : (content : Option (List ℕ)) (held : Held) (file : FileMetadata) (d : Dictionaries) (columns : Option (List ℕ)) (p : ProjectionInfo) (rising : List ℕ) (left : Option ℕ) (block : Block) (x : Batch) (result : Result Batch IpcError) → rising ≡ p.columns.items → IsSelected (rc_value file.schema) columns p
    → columns_right columns (width (meta_view file).schema.fields) ≡ Ok tt → IfOk result (IsReordered p.map x) → IfErr result (λ e. e ≡ errors.Memory) → IfSome content (λ b. ReadsBlock b held (asked_under b (meta_view file) d (asked (Some rising) left)) block left (Ok x))
    → IfSome content (λ b. ReadsBlock b held (asked_under b (meta_view file) d (asked columns left)) block left result)
selected_answer content held file d columns p rising left block x (Ok y) same h right order memory read =
    let s = rc_value file.schema in
    let count : width (meta_view file).schema.fields ≡ length s = file_width file in
    let here = subst (λ cs. columns_right cs (width (meta_view file).schema.fields) ≡ Ok tt) h.are right in
    subst (λ cs. IfSome content (λ b. ReadsBlock b held (asked_under b (meta_view file) d (asked cs left)) block left (Ok y))) (sym h.are)
    (ordered_answer content held (meta_view file) d p.columns.items h.numbers left block x y h.is.same here (record {
      rows = order.height;
      picked = λ all many picked. reordered_picked s h.numbers p x y h.is order (asked_below s h.numbers p h.is) all (many ∙ count) picked;
      custom = order.custom;
    }) (subst (λ ds. ReadsRising content held file d ds block left (Ok x)) same read))
selected_answer content held file d columns p rising left block x (Err e) same h right order memory read =
    memory_refused content held (λ b. asked_under b (meta_view file) d (asked columns left)) left block (Err e) (ap Err memory)

pub selected_fetched : (content : Option (List ℕ)) (file : FileMetadata) (columns : Option (List ℕ)) (p : ProjectionInfo) (rising : List ℕ) (block : FileBlock) (left : Option ℕ) (f f' : ℕ) → rising ≡ p.columns.items → IsSelected (rc_value file.schema) columns p
    → BlockFetched content (meta_view file) (asked (Some rising) left) block left f f' → BlockFetched content (meta_view file) (asked columns left) block left f f'
selected_fetched content file columns p rising block left f f' same h fetched =
    subst (λ cs. BlockFetched content (meta_view file) (asked cs left) block left f f') (sym h.are)
    (fetched_ordered content (meta_view file) p.columns.items h.numbers block left f f' h.is.same (subst (λ ds. BlockFetched content (meta_view file) (asked (Some ds) left) block left f f') same fetched))
