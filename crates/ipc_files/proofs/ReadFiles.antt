-- The blocks of a file that are read, as the calls have them.
use Rattle.std.proofs.Common.{◌≡◌, ◌∙◌, ℕ, List, [], length, Option, Some, None, Result, Ok, Err, IfOk, IfErr, IfSome, refl, sym, ap, subst, true, false, Bool, if◌then◌else◌}
use Rattle.std.specs.Rc.{rc_value}
use Rattle.arrow_spec.specs.declared.error.IpcError.{IpcError}
use Rattle.arrow_spec.specs.declared.error.IpcError.TheVariants as errors
use Rattle.arrow_spec.specs.Readings.{Gives, Refuses, refusals}
use Rattle.arrow_spec.specs.Columns.{stands_in}
use Rattle.arrow_spec.specs.Arrays.{Dictionaries}
use Rattle.arrow_spec.specs.Counts.{first_place}
use Rattle.arrow_spec.specs.Features.{chosen_floats}
use Rattle.arrow_spec.specs.Flat.{Order, big, little, order_by}
use Rattle.arrow_spec.specs.Kinds.{Fields, width}
use Rattle.arrow_spec.specs.WrittenSchemas.{CustomMayBeWritten}
use Rattle.arrow_spec.specs.Files.{Asked, FileBlock, Meta, columns_right, to_read, record_batch_of}
use Rattle.arrow_arrays.specs.Batches.{Batch}
use Rattle.arrow_arrays.specs.Parts.{Parts}
use Rattle.arrow_types.specs.Schemas.{fields_in}
use Rattle.ipc_fields.specs.IpcFields.{ids_of}
use Rattle.laws_columns.specs.Below.{ArePicked, HeaderFits}
use Rattle.ipc_io.specs.Outside.{IsSize}
use Rattle.arrow_spec.specs.declared.message.Block.{Block}
use Rattle.ipc_files.specs.declared.block.BlockMessage.{BlockMessage}
use Rattle.ipc_projection.specs.Below.{Held, HoldsCells, are_columns, are_rising}
use Rattle.ipc_read.specs.Batches.{batch_reading, chosen_read, table_of}
use Rattle.ipc_read.specs.Sources.{bytes_in}
use Rattle.ipc_read.specs.declared.body.Body.{Body}
use Rattle.ipc_files.specs.FileBlocks.{BlockIn, PairedMessage, block_by, block_record, file_block, given, paired_of}
use Rattle.ipc_files.specs.FileViews.{meta_view}
use Rattle.ipc_files.specs.Blocks.{ReadsBlock, asked_under, body_place}
use Rattle.ipc_files.specs.Requests.{asked}
use Rattle.ipc_files.specs.declared.metadata.FileMetadata.{FileMetadata}
use Rattle.ipc_files.proofs.FieldWidths.{width_in, width_with}
use Rattle.ipc_files.proofs.Picked.{all_picked}
use Rattle.ipc_files.proofs.GivenBlocks.{given_reads}
use Rattle.ipc_files.proofs.ReadBlocks.{ReadsPlain, block_ordered, block_read, given_message_refused, paired_read, paired_refused, reading_sent}

-- of bytes that are told
pub told : (content : Option (List ℕ)) (P Q : List ℕ → Type 0) → ((b : List ℕ) → content ≡ Some b → P b → Q b) → IfSome content P → IfSome content Q
told None P Q f h = tt
told (Some b) P Q f h = f b refl h

pub of_err : {A : Type 0} (result : Result A IpcError) (e : IpcError) (P : IpcError → Type 0) → result ≡ Err e → P e → IfErr result P
of_err result e P is h = rw is h

-- ── the byte order and the columns of a file ──

pub order_as : (x : Bool) → order_by x ≡ (if x then little else big)
order_as true = refl
order_as false = refl

-- the order of a file is that in which its blocks are read
pub same_order : (file : FileMetadata) → order_by file.ipc_schema.is_little_endian ≡ (meta_view file).schema.order
same_order file = order_as file.ipc_schema.is_little_endian

-- there are as many columns as the schema has fields
pub file_width : (file : FileMetadata) → width (meta_view file).schema.fields ≡ length (rc_value file.schema)
file_width file = width_with (fields_in (rc_value file.schema)) (ids_of file.ipc_schema.fields.items) ∙ width_in (rc_value file.schema)

-- ── a block that is read ──

pub message_err : (content : Option (List ℕ)) (h : Held) (a : List ℕ → Dictionaries → Asked) (block : Block) (left : Option ℕ) (result : Result Batch IpcError) (e : IpcError) → result ≡ Err e → IfSome content (λ b. Refuses e (refusals (given block (block_record b))))
    → IfSome content (λ b. (d : Dictionaries) → HoldsCells d h → ReadsBlock b h (a b d) block left result)
message_err content h a block left result e is refused = told content _ _ (λ b s r d holds. subst (λ q. ReadsBlock b h (a b d) block left q) (sym is) (record { is = tt; read = tt; refused = given_message_refused e b (a b d) block left r })) refused

-- what is said of a block's message, where bytes are told
pub refused_in : (content : Option (List ℕ)) (block : Block) (e : IpcError) → BlockIn content block (Err e) → IfSome content (λ b. Refuses e (refusals (given block (block_record b))))
refused_in None block e h = tt
refused_in (Some b) block e h = h

pub given_in : (content : Option (List ℕ)) (block : Block) (m : BlockMessage) → BlockIn content block (Ok m) → IfSome content (λ b. block_record b (file_block block) ≡ Ok (paired_of m))
given_in None block m h = tt
given_in (Some b) block m h = (given_reads block (block_record b) (paired_of m) h).read

-- no number of it is negative then
pub natural_in : (content : Option (List ℕ)) (block : Block) (m : BlockMessage) → BlockIn content block (Ok m) → IfSome content (λ b. block_by block ≡ Ok (file_block block))
natural_in None block m h = tt
natural_in (Some b) block m h = (given_reads block (block_record b) (paired_of m) h).is

-- what is said of it, whatever was read of the dictionaries that are held
abbrev GivesAt : Option (List ℕ) → Held → Option (List ℕ) → Option ℕ → Bool → Fields → ℕ → PairedMessage → Body → Result Batch IpcError → Type 0
GivesAt content h columns left order fs size m body result = IfSome content (λ b. (d : Dictionaries) → HoldsCells d h → Gives table_of result (batch_reading columns left order fs d size m.version m.tables (bytes_in body b)))

abbrev PartsAt : Option (List ℕ) → Held → Option (List ℕ) → Order → Fields → PairedMessage → Body → Result Batch IpcError → Type 0
PartsAt content h columns order fs m body result =
    IfOk result (λ x. IfSome content (λ b. (d : Dictionaries) → HoldsCells d h → x.arrays ≡ chosen_read (record_batch_of order m.version m.tables (bytes_in body b)) h columns fs 0 first_place x.height))

parts_under : (b : List ℕ) (h : Held) (d : Dictionaries) (columns : Option (List ℕ)) (order : Order) (fs : Fields) (m : PairedMessage) (body : Body) (result : Result Batch IpcError) → HoldsCells d h → PartsAt (Some b) h columns order fs m body result
    → IfOk result (λ x. x.arrays ≡ chosen_read (record_batch_of order m.version m.tables (bytes_in body b)) h columns fs 0 first_place x.height)
parts_under b h d columns order fs m body (Ok x) holds parts = parts d holds
parts_under b h d columns order fs m body (Err e) holds parts = tt

pub block_answer : (content content' : Option (List ℕ)) (meta : Meta) (h : Held) (columns : Option (List ℕ)) (left : Option ℕ) (order : Bool) (size : ℕ) (block : FileBlock) (m : PairedMessage) (body : Body) (result : Result Batch IpcError)
    → chosen_floats columns meta.schema.fields 0 ≡ [] → are_rising columns ≡ true → are_columns columns (width meta.schema.fields) ≡ true → order_by order ≡ meta.schema.order → content' ≡ content → body ≡ body_place block → IsSize content size
    → IfSome content (λ b. block_record b block ≡ Ok m) → HeaderFits m.tables
    → GivesAt content' h columns left order meta.schema.fields size m body result → PartsAt content' h columns (order_by order) meta.schema.fields m body result → IfSome content (λ b. (d : Dictionaries) → HoldsCells d h → ReadsPlain b h (asked_under b meta d (asked columns left)) block left m result)
block_answer None content' meta h columns left order size block m body result floats rising range first kept place whole is fits gives parts = tt
block_answer (Some b) content' meta h columns left order size block m body result floats rising range first kept place whole is fits gives parts =
    let fs = meta.schema.fields in
    let g1 : GivesAt content' h columns left order fs (length b) m body result = subst (λ n. GivesAt content' h columns left order fs n m body result) whole gives in
    let g2 : GivesAt content' h columns left order fs (length b) m (body_place block) result = subst (λ p. GivesAt content' h columns left order fs (length b) m p result) place g1 in
    let g3 : GivesAt (Some b) h columns left order fs (length b) m (body_place block) result = subst (λ w. GivesAt w h columns left order fs (length b) m (body_place block) result) kept g2 in
    let p1 : PartsAt content' h columns meta.schema.order fs m body result = subst (λ o. PartsAt content' h columns o fs m body result) first parts in
    let p2 : PartsAt content' h columns meta.schema.order fs m (body_place block) result = subst (λ p. PartsAt content' h columns meta.schema.order fs m p result) place p1 in
    let p3 : PartsAt (Some b) h columns meta.schema.order fs m (body_place block) result = subst (λ w. PartsAt w h columns meta.schema.order fs m (body_place block) result) kept p2 in
    let body' = bytes_in (body_place block) b in
    λ d holds.
    let a : Order → Asked = λ o. record { order = o; fields = fs; columns = columns; dictionaries = d; most = length b } in
    let read = reading_sent columns left order fs d (length b) m.version m.tables body' floats ∙ ap (λ o. Rattle.arrow_spec.specs.Files.batch_of_tables to_read (a o) m.version [] m.tables body' left) first in
    block_read b h (asked_under b meta d (asked columns left)) left block m result is fits (subst (λ r. Gives table_of result r) read (g3 d holds)) (parts_under b h d columns meta.schema.order fs m (body_place block) result holds p3)
    (λ rows. all_picked (record_batch_of meta.schema.order m.version m.tables body') h columns fs rows rising range)

-- a batch is given the pairs of its block's message
pub block_paired : (content : Option (List ℕ)) (h : Held) (meta : Meta) (columns : Option (List ℕ)) (left : Option ℕ) (block : Block) (m : PairedMessage) (x y : Batch) → IfSome content (λ b. block_by block ≡ Ok (file_block block)) → CustomMayBeWritten m.custom → y ≡ record { height = x.height; schema = x.schema; arrays = x.arrays; custom = m.custom }
    → IfSome content (λ b. (d : Dictionaries) → HoldsCells d h → ReadsPlain b h (asked_under b meta d (asked columns left)) (file_block block) left m (Ok x))
    → IfSome content (λ b. (d : Dictionaries) → HoldsCells d h → ReadsBlock b h (asked_under b meta d (asked columns left)) block left (Ok y))
block_paired None h meta columns left block m x y natural ordered is read = tt
block_paired (Some b) h meta columns left block m x y natural ordered is read = λ d holds.
    paired_read b h (asked_under b meta d (asked columns left)) left block m x y natural ordered is (read d holds)

-- or was not read
pub block_unpaired : (content : Option (List ℕ)) (h : Held) (meta : Meta) (columns : Option (List ℕ)) (left : Option ℕ) (block : Block) (m : PairedMessage) (result : Result Batch IpcError) (e : IpcError) → IfSome content (λ b. block_by block ≡ Ok (file_block block)) → result ≡ Err e
    → IfSome content (λ b. (d : Dictionaries) → HoldsCells d h → ReadsPlain b h (asked_under b meta d (asked columns left)) (file_block block) left m (Err e))
    → IfSome content (λ b. (d : Dictionaries) → HoldsCells d h → ReadsBlock b h (asked_under b meta d (asked columns left)) block left result)
block_unpaired None h meta columns left block m result e natural is read = tt
block_unpaired (Some b) h meta columns left block m result e natural is read = λ d holds.
    subst (λ q. ReadsBlock b h (asked_under b meta d (asked columns left)) block left q) (sym is) (paired_refused b h (asked_under b meta d (asked columns left)) left block m e natural (read d holds))

-- ── the columns in the order asked ──

-- a batch in the order asked, of one that was read by rising numbers
pub record IsOrdered (count : ℕ) (rising cs : List ℕ) (x y : Batch) : Type 0 where
  pub rows : y.height ≡ x.height
  pub picked : (all : List Parts) → length all ≡ count → ArePicked all rising x.arrays → ArePicked all cs y.arrays
  pub custom : y.custom ≡ x.custom

pub ordered_answer : (content : Option (List ℕ)) (h : Held) (meta : Meta) (d : Dictionaries) (rising cs : List ℕ) (left : Option ℕ) (block : Block) (x y : Batch) → ((c : ℕ) → stands_in rising c ≡ stands_in cs c) → columns_right (Some cs) (width meta.schema.fields) ≡ Ok tt → IsOrdered (width meta.schema.fields) rising cs x y
    → IfSome content (λ b. ReadsBlock b h (asked_under b meta d (asked (Some rising) left)) block left (Ok x)) → IfSome content (λ b. ReadsBlock b h (asked_under b meta d (asked (Some cs) left)) block left (Ok y))
ordered_answer content h meta d rising cs left block x y same right order read =
    told content _ _ (λ b s r. record { is = r.is; read = block_ordered b h (asked_under b meta d (asked (Some cs) left)) rising cs (file_block block) left x y same right order.rows order.custom order.picked r.read; refused = tt }) read

-- want of memory refuses any block
pub memory_refused : (content : Option (List ℕ)) (h : Held) (a : List ℕ → Asked) (left : Option ℕ) (block : Block) (result : Result Batch IpcError) → result ≡ Err errors.Memory → IfSome content (λ b. ReadsBlock b h (a b) block left result)
memory_refused None h a left block result is = tt
memory_refused (Some b) h a left block result is = rw is (record { is = tt; read = tt; refused = tt })
