-- A record batch of a file that is read by its number.
use Rattle.std.proofs.Common.{◌≡◌, ℕ, ◌<◌, List, [], ◌∷◌, map, option_map, length, Option, Some, None, Result, Ok, Err, IfOk, IfSome, refl, sym, ◌∙◌, ap, subst}
use Rattle.std.specs.Prelude.{slice_get, get_or}
use Rattle.std.proofs.lemmas.Option.{slice_get-get_or, slice_get-map}
use Rattle.arrow_spec.specs.declared.error.IpcError.{IpcError}
use Rattle.arrow_spec.specs.declared.error.IpcError.TheVariants as errors
use Rattle.arrow_spec.specs.declared.message.Block.{Block}
use Rattle.arrow_spec.specs.Arrays.{Dictionaries}
use Rattle.arrow_spec.specs.Features.{chosen_floats}
use Rattle.arrow_spec.specs.Readings.{Gives, Refuses, bind, free_of, refusals}
use Rattle.arrow_spec.specs.Files.{Asked, FileBlock, Meta, Request, to_read}
use Rattle.arrow_spec.proofs.Projection.{on}
use Rattle.arrow_arrays.specs.Batches.{Batch}
use Rattle.arrow_types.specs.Schemas.{Keyed, fields_in}
use Rattle.ipc_fields.specs.IpcFields.{Ids, fields_with}
use Rattle.ipc_projection.specs.Below.{Held, HoldsCells}
use Rattle.ipc_read.specs.Batches.{table_of}
use Rattle.ipc_read.specs.Sources.{IsRefusal}
use Rattle.ipc_files.specs.Blocks.{BlockRead, ReadsBlock, asked_under, batch_given as given_batch, batch_in}
use Rattle.ipc_files.specs.FileBlocks.{block_record, file_block}
use Rattle.ipc_files.specs.FileViews.{FileCause}
use Rattle.ipc_files.proofs.BlockMessages.{batch_by_record, refused_first}
use Rattle.ipc_files.proofs.ReadBlocks.{batch_is_given}
use Rattle.ipc_projection.proofs.Below.{chosen_with}

-- what is refused at a place of its own
pub refused_place : (e : IpcError) (es : List IpcError) → Refuses e es → Refuses e (refusals (free_of es))
refused_place e [] h = h
refused_place e (x ∷ xs) h = h

-- what is refused of the columns' kinds
pub kinds_refused : (content : Option (List ℕ)) (h : Held) (r : Request) (meta : Meta) (s : List Keyed) (below : Ids) (block : Block) (result : Result Batch IpcError) (e : IpcError) → result ≡ Err e → meta.schema.fields ≡ fields_with (fields_in s) below → Refuses e (chosen_floats r.columns (fields_in s) 0)
    → IfSome content (λ b. (d : Dictionaries) → HoldsCells d h → Gives table_of result (batch_in r b meta d block))
unfolding batch_in
kinds_refused None h r meta s below block result e is same refused = tt
kinds_refused (Some b) h r meta s below block result e is same refused = λ d holds.
    let here : Refuses e (chosen_floats r.columns meta.schema.fields 0) = subst (Refuses e) (sym (ap (λ fs. chosen_floats r.columns fs 0) same ∙ chosen_with r.columns (fields_in s) below 0)) refused in
    subst (λ q. Gives table_of q (batch_in r b meta d block)) (sym is) (refused_first e (free_of (chosen_floats r.columns meta.schema.fields 0)) (λ _. given_batch b (asked_under b meta d r) block r.limit) (refused_place e (chosen_floats r.columns meta.schema.fields 0) here))

-- why that is
pub kinds_cause : (e : IpcError) (n m : ℕ) → IsRefusal e → FileCause e n m
kinds_cause (errors.OutOfSpec kind) n m h = tt
kinds_cause (errors.Unsupported feature) n m h = tt
kinds_cause e n m h = absurd h

batch_in_block : (b : List ℕ) (r : Request) (meta : Meta) (d : Dictionaries) (block : Block) → chosen_floats r.columns meta.schema.fields 0 ≡ [] → batch_in r b meta d block ≡ given_batch b (asked_under b meta d r) block r.limit
unfolding batch_in bind
batch_in_block b r meta d block readable =
    let kinds : free_of (chosen_floats r.columns meta.schema.fields 0) ≡ Ok tt = ap free_of readable in
    rw kinds refl

pub gives_block : (b : List ℕ) (h : Held) (r : Request) (meta : Meta) (d : Dictionaries) (block : Block) (result : Result Batch IpcError) → batch_in r b meta d block ≡ given_batch b (asked_under b meta d r) block r.limit → ReadsBlock b h (asked_under b meta d r) block r.limit result → Gives table_of result (batch_in r b meta d block)
gives_block b h r meta d block (Ok x) same reads =
    let read : BlockRead b h (asked_under b meta d r) (file_block block) r.limit x = reads.read in
    same ∙ batch_is_given b (asked_under b meta d r) block r.limit reads.is ∙ batch_by_record to_read b (asked_under b meta d r) (file_block block) r.limit ∙ on (block_record b (file_block block)) _ read.message read.is ∙ read.read
gives_block b h r meta d block (Err e) same reads = subst (λ w. Refuses e (refusals w)) (sym same) reads.refused

pub batch_given : (content : Option (List ℕ)) (h : Held) (r : Request) (meta : Meta) (block found : Block) (result : Result Batch IpcError) → chosen_floats r.columns meta.schema.fields 0 ≡ [] → found ≡ block
    → IfSome content (λ b. (d : Dictionaries) → HoldsCells d h → ReadsBlock b h (asked_under b meta d r) found r.limit result) → IfSome content (λ b. (d : Dictionaries) → HoldsCells d h → Gives table_of result (batch_in r b meta d block))
batch_given None h r meta block found result readable same reads = tt
batch_given (Some b) h r meta block found result readable same reads = λ d holds.
    let here : ReadsBlock b h (asked_under b meta d r) block r.limit result = subst (λ x. ReadsBlock b h (asked_under b meta d r) x r.limit result) same (reads d holds) in
    gives_block b h r meta d block result (batch_in_block b r meta d block readable) here

-- and where it was read, what was read of it
pub block_given : (content : Option (List ℕ)) (h : Held) (a : List ℕ → Dictionaries → Asked) (block : FileBlock) (found : Block) (left : Option ℕ) (result : Result Batch IpcError) → file_block found ≡ block → IfSome content (λ b. (d : Dictionaries) → HoldsCells d h → ReadsBlock b h (a b d) found left result)
    → IfOk result (λ x. IfSome content (λ b. (d : Dictionaries) → HoldsCells d h → BlockRead b h (a b d) block left x))
block_given None h a block found left (Ok x) same reads = tt
block_given (Some b) h a block found left (Ok x) same reads = λ d holds. subst (λ w. BlockRead b h (a b d) w left x) same (reads d holds).read
block_given content h a block found left (Err e) same reads = tt

-- a block that is given at a number, as one of a file
pub file_at : (blocks : List Block) (i : ℕ) (block : Block) → slice_get blocks i ≡ Some block → slice_get (map file_block blocks) i ≡ Some (file_block block)
file_at blocks i block h = slice_get-map file_block blocks i ∙ ap (option_map file_block) h

-- the block of a number, as it is given
pub indexed_given : (blocks : List Block) (i : ℕ) (d block : Block) → i < length blocks → d ≡ get_or blocks i d → slice_get blocks i ≡ Some block → d ≡ block
indexed_given blocks i d block within h k =
    let found = slice_get-get_or blocks i d within in
    cc

-- the block of a number
pub indexed : (blocks : List Block) (i : ℕ) (d : Block) (block : FileBlock) → i < length blocks → d ≡ get_or blocks i d → slice_get (map file_block blocks) i ≡ Some block → file_block d ≡ block
indexed blocks i d block within h k =
    let e = slice_get-map file_block blocks i in
    let found = slice_get-get_or blocks i d within in
    cc
