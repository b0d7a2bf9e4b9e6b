-- A block that is read, by columns in any order.
use Rattle.std.proofs.Common.{◌≡◌, ℕ, List, [], map, length, Option, Some, Result, Ok, Err, IfOk, refl, sym, ap, ◌∙◌, subst, Bool}
use Rattle.std.specs.Prelude.{nat_le, not}
use Rattle.arrow_spec.specs.declared.error.Feature.TheVariants as features
use Rattle.arrow_spec.specs.declared.error.IpcError.{IpcError}
use Rattle.arrow_spec.specs.declared.error.IpcError.TheVariants.{Unsupported}
use Rattle.arrow_spec.specs.declared.error.OutOfSpecKind.TheVariants as kinds
use Rattle.arrow_spec.specs.declared.message.Block.{Block}
use Rattle.arrow_spec.specs.declared.message.MetadataVersion.{MetadataVersion}
use Rattle.arrow_spec.specs.Readings.{Gives, Reading, Refuses, bind, ◌>>=◌, natural, only_if, refusals, unless}
use Rattle.arrow_spec.specs.Arrays.{Dictionaries}
use Rattle.arrow_spec.specs.Columns.{columns_at, stands_in}
use Rattle.arrow_spec.specs.Flat.{order_by}
use Rattle.arrow_spec.specs.Counts.{first_place}
use Rattle.arrow_spec.specs.Features.{chosen_floats}
use Rattle.arrow_spec.specs.Kinds.{Fields, width}
use Rattle.arrow_spec.specs.Kinds.{Metadata}
use Rattle.arrow_spec.specs.Messages.{BatchHeader}
use Rattle.arrow_spec.specs.WrittenSchemas.{CustomMayBeWritten}
use Rattle.arrow_spec.specs.Files.{Asked, FileBlock, Purpose, TableBatch, as_asked, batch_of, batch_of_tables, block_body, columns_right, lengths_sum, none_negative, record_batch_of, share, to_read}
use Rattle.arrow_spec.proofs.Projection.{on, went}
use Rattle.arrow_arrays.specs.Batches.{Batch}
use Rattle.arrow_arrays.specs.Parts.{Parts, cells_in}
use Rattle.ipc_projection.specs.Below.{columns_read, Held}
use Rattle.laws_columns.specs.Below.{ArePicked, AreAsked, HeaderFits, with_columns}
use Rattle.laws_columns.proofs.Below.{none_refuses}
use Rattle.laws_columns.proofs.RisingBatches.{rising_asked, rising_refuses}
use Rattle.ipc_read.specs.Batches.{batch_reading, chosen_read, columns_asked, table_of}
use Rattle.ipc_files.specs.FileBlocks.{PairedMessage, block_by, block_record, file_block, given}
use Rattle.ipc_files.specs.Blocks.{BlockRead, ReadsBlock, batch_given}
use Rattle.ipc_files.proofs.BlockMessages.{batch_by_record, refused_first}
use Rattle.ipc_files.proofs.GivenBlocks.{given_is, given_refuses}
use Rattle.ipc_files.proofs.Picked.{as_many}

-- ── a block that is read ──

-- a block whose message is refused
pub message_refused : (purpose : Purpose) (e : IpcError) (b : List ℕ) (a : Asked) (block : FileBlock) (left : Option ℕ) → Refuses e (refusals (block_record b block)) → Refuses e (refusals (batch_of purpose b a block left))
message_refused purpose e b a block left h = rw (batch_by_record purpose b a block left) (refused_first e (block_record b block) _ h)

-- the same of one that is given
pub given_message_refused : (e : IpcError) (b : List ℕ) (a : Asked) (x : Block) (left : Option ℕ) → Refuses e (refusals (given x (block_record b))) → Refuses e (refusals (batch_given b a x left))
unfolding batch_given
given_message_refused e b a x left h = given_refuses x (block_record b) (λ block. batch_of to_read b a block left) e (λ block r. message_refused to_read e b a block left r) h

-- a block none of whose numbers is negative
pub batch_is_given : (b : List ℕ) (a : Asked) (x : Block) (left : Option ℕ) → block_by x ≡ Ok (file_block x) → batch_given b a x left ≡ batch_of to_read b a (file_block x) left
unfolding batch_given
batch_is_given b a x left is = given_is x (λ block. batch_of to_read b a block left) is

unless_read : {A B : Type 0} (r : Reading A) (k : A → Reading B) (es : List IpcError) → r ≡ Err es → (r >>= k) ≡ Err es
unfolding bind
unless_read r k es is = rw is refl

-- what a block's message refuses, or its tables do
pub block_refuses : (purpose other : Purpose) (e : IpcError) (b : List ℕ) (a c : Asked) (block : FileBlock) (left : Option ℕ)
    → ((m : PairedMessage) → Refuses e (refusals (batch_of_tables purpose a m.version m.custom m.tables (block_body b block) left)) → Refuses e (refusals (batch_of_tables other c m.version m.custom m.tables (block_body b block) left)))
    → Refuses e (refusals (batch_of purpose b a block left)) → Refuses e (refusals (batch_of other b c block left))
block_refuses purpose other e b a c block left tables = by_record (block_record b block) refl
  where
    by_record : (r : Reading PairedMessage) → block_record b block ≡ r → Refuses e (refusals (batch_of purpose b a block left)) → Refuses e (refusals (batch_of other b c block left))
    by_record (Err es) is h = message_refused other e b c block left (rw is (subst (λ r. Refuses e (refusals r)) (batch_by_record purpose b a block left ∙ unless_read (block_record b block) _ es is) h))
    by_record (Ok m) is h =
        rw (batch_by_record other b c block left, on (block_record b block) _ m is) (tables m (subst (λ r. Refuses e (refusals r)) (batch_by_record purpose b a block left ∙ on (block_record b block) _ m is) h))

-- what refuses one reading refuses another that is refused so
pub follows : {A B : Type 0} (e : IpcError) (r : Reading A) (s : Reading B) → ((es : List IpcError) → r ≡ Err es → s ≡ Err es) → Refuses e (refusals r) → Refuses e (refusals s)
follows e (Ok x) s k h = none_refuses e (refusals s) h
follows e (Err es) s k h = rw (k es refl) h

-- where no kind is refused the tables are read
pub reading_sent : (columns : Option (List ℕ)) (left : Option ℕ) (order : Bool) (fs : Fields) (d : Dictionaries) (most : ℕ) (v : MetadataVersion) (tables : BatchHeader) (body : List ℕ) → chosen_floats columns fs 0 ≡ []
    → batch_reading columns left order fs d most v tables body ≡ batch_of_tables to_read (columns_asked columns (order_by order) fs d most) v [] tables body left
unfolding bind
reading_sent columns left order fs d most v tables body none = rw none refl

-- what was read of a block's tables and body, before its message's pairs
pub record ReadsPlain (b : List ℕ) (h : Held) (a : Asked) (block : FileBlock) (left : Option ℕ) (m : PairedMessage) (result : Result Batch IpcError) : Type 0 where
  pub is : block_record b block ≡ Ok m
  pub fits : HeaderFits m.tables
  pub gives : Gives table_of result (batch_of_tables to_read a m.version [] m.tables (block_body b block) left)
  pub columns : IfOk result (λ x. AreAsked (columns_read (record_batch_of a.order m.version m.tables (block_body b block)) h a.fields first_place x.height) a.columns x.arrays)

pub block_read : (b : List ℕ) (h : Held) (a : Asked) (left : Option ℕ) (block : FileBlock) (m : PairedMessage) (result : Result Batch IpcError) → block_record b block ≡ Ok m → HeaderFits m.tables
    → Gives table_of result (batch_of_tables to_read a m.version [] m.tables (block_body b block) left)
    → IfOk result (λ x. x.arrays ≡ chosen_read (record_batch_of a.order m.version m.tables (block_body b block)) h a.columns a.fields 0 first_place x.height)
    → ((rows : ℕ) → AreAsked (columns_read (record_batch_of a.order m.version m.tables (block_body b block)) h a.fields first_place rows) a.columns (chosen_read (record_batch_of a.order m.version m.tables (block_body b block)) h a.columns a.fields 0 first_place rows))
    → ReadsPlain b h a block left m result
block_read b h a left block m (Ok x) is fits gives parts picked = record {
  is = is;
  fits = fits;
  gives = gives;
  columns = subst (λ xs. AreAsked (columns_read (record_batch_of a.order m.version m.tables (block_body b block)) h a.fields first_place x.height) a.columns xs) (sym parts) (picked x.height);
}
block_read b h a left block m (Err e) is fits gives parts picked = record { is = is; fits = fits; gives = gives; columns = tt }

-- ── pairs ──

abbrev with_pairs : Metadata → TableBatch → TableBatch
with_pairs custom t = record { rows = t.rows; columns = t.columns; custom = custom }

-- a batch by the readings of its parts
abbrev read_by : {A : Type 0} → Reading (Unit {0}) → Reading ℕ → Reading (Unit {0}) → Reading (Unit {0}) → (ℕ → Reading A) → (ℕ → A → Metadata → TableBatch) → Metadata → Reading TableBatch
read_by compression rows negative sum columns made custom =
    bind compression (λ _. bind rows (λ n. bind negative (λ _. bind sum (λ _. bind (columns n) (λ xs. Ok (made n xs custom))))))

columns_beside : {A : Type 0} (columns : Reading A) (made : A → Metadata → TableBatch) (custom : Metadata) → ((xs : A) → made xs custom ≡ with_pairs custom (made xs []))
    → bind columns (λ xs. Ok (made xs custom)) ≡ bind (bind columns (λ xs. Ok (made xs []))) (λ t. Ok (with_pairs custom t))
unfolding bind
columns_beside (Err e) made custom same = refl
columns_beside (Ok xs) made custom same = ap Ok (same xs)

read_beside : {A : Type 0} (compression : Reading (Unit {0})) (rows : Reading ℕ) (negative sum : Reading (Unit {0})) (columns : ℕ → Reading A) (made : ℕ → A → Metadata → TableBatch) (custom : Metadata)
    → ((n : ℕ) (xs : A) → made n xs custom ≡ with_pairs custom (made n xs []))
    → read_by compression rows negative sum columns made custom ≡ bind (read_by compression rows negative sum columns made []) (λ t. Ok (with_pairs custom t))
unfolding bind
read_beside (Err e) rows negative sum columns made custom same = refl
read_beside (Ok x) (Err e) negative sum columns made custom same = refl
read_beside (Ok x) (Ok n) (Err e) sum columns made custom same = refl
read_beside (Ok x) (Ok n) (Ok y) (Err e) columns made custom same = refl
read_beside (Ok x) (Ok n) (Ok y) (Ok z) columns made custom same = columns_beside (columns n) (made n) custom (same n)

-- a batch that is read is the same whatever pairs its message has, but for these
pairs_beside : (a : Asked) (v : MetadataVersion) (custom : Metadata) (tables : BatchHeader) (body : List ℕ) (left : Option ℕ) → batch_of_tables to_read a v custom tables body left ≡ bind (batch_of_tables to_read a v [] tables body left) (λ t. Ok (with_pairs custom t))
unfolding batch_of_tables bind
pairs_beside a v custom tables body left =
    read_beside (unless (not tables.compressed) (Unsupported features.Compression)) (natural tables.length) (only_if (none_negative tables.buffers) kinds.UnexpectedNegativeInteger)
    (only_if (nat_le (lengths_sum tables.buffers) a.most) (kinds.InvalidBuffersLength (lengths_sum tables.buffers) a.most))
    (λ n. columns_at (record_batch_of a.order v tables body) a.dictionaries a.columns a.fields 0 first_place n (share left n))
    (λ n columns custom. record { rows = share left n; columns = as_asked a.columns columns; custom = custom }) custom (λ n columns. refl)

pub paired_read : (b : List ℕ) (h : Held) (a : Asked) (left : Option ℕ) (given : Block) (m : PairedMessage) (x y : Batch) → block_by given ≡ Ok (file_block given) → CustomMayBeWritten m.custom → y ≡ record { height = x.height; schema = x.schema; arrays = x.arrays; custom = m.custom }
    → ReadsPlain b h a (file_block given) left m (Ok x) → ReadsBlock b h a given left (Ok y)
paired_read b h a left given m x y natural ordered is r =
    let block = file_block given in
    let z : Batch = record { height = x.height; schema = x.schema; arrays = x.arrays; custom = m.custom } in
    let read : batch_of_tables to_read a m.version m.custom m.tables (block_body b block) left ≡ Ok (table_of z) = pairs_beside a m.version m.custom m.tables (block_body b block) left ∙ on _ _ (table_of x) r.gives in
    subst (λ w. ReadsBlock b h a given left (Ok w)) (sym is) (record { is = natural; read = record { message = m; is = r.is; fits = r.fits; ordered = ordered; custom = refl; read = read; columns = r.columns }; refused = tt })

pub paired_refused : (b : List ℕ) (h : Held) (a : Asked) (left : Option ℕ) (given : Block) (m : PairedMessage) (e : IpcError) → block_by given ≡ Ok (file_block given) → ReadsPlain b h a (file_block given) left m (Err e) → ReadsBlock b h a given left (Err e)
paired_refused b h a left given m e natural r =
    let block = file_block given in
    record {
      is = tt;
      read = tt;
      refused = rw (batch_is_given b a given left natural, batch_by_record to_read b a block left, on (block_record b block) _ m r.is, pairs_beside a m.version m.custom m.tables (block_body b block) left) (refused_first e _ _ r.gives);
    }

-- ── the columns in the order asked ──

-- a block that was read of columns by rising numbers, and its batch in the order asked
pub block_ordered : (b : List ℕ) (h : Held) (a : Asked) (rising cs : List ℕ) (block : FileBlock) (left : Option ℕ) (x y : Batch) → ((c : ℕ) → stands_in rising c ≡ stands_in cs c) → columns_right (Some cs) (width a.fields) ≡ Ok tt → y.height ≡ x.height → y.custom ≡ x.custom
    → ((all : List Parts) → length all ≡ width a.fields → ArePicked all rising x.arrays → ArePicked all cs y.arrays) → BlockRead b h (with_columns (Some rising) a) block left x → BlockRead b h (with_columns (Some cs) a) block left y
block_ordered b h a rising cs block left x y same right rows custom order r =
    let all : ℕ → List Parts = λ n. columns_read (record_batch_of a.order r.message.version r.message.tables (block_body b block)) h a.fields first_place n in
    let given : ArePicked (all x.height) cs y.arrays = order (all x.height) (as_many (record_batch_of a.order r.message.version r.message.tables (block_body b block)) h a.fields first_place x.height) r.columns in
    let table : ℕ → TableBatch = λ n. record { rows = n; columns = map cells_in y.arrays; custom = y.custom } in
    record {
      message = r.message;
      is = r.is;
      fits = r.fits;
      ordered = r.ordered;
      custom = custom ∙ r.custom;
      read = rising_asked a rising cs r.message.version r.message.custom r.message.tables (block_body b block) left h x.height x.arrays y.arrays same right (subst (λ c. batch_of_tables to_read (with_columns (Some rising) a) r.message.version r.message.custom r.message.tables (block_body b block) left ≡ Ok (record { rows = x.height; columns = map cells_in x.arrays; custom = c })) r.custom r.read) r.columns given
          ∙ ap (λ c. Ok (record { rows = x.height; columns = map cells_in y.arrays; custom = c })) (sym (custom ∙ r.custom)) ∙ ap (λ n. Ok (table n)) (sym rows);
      columns = subst (λ n. ArePicked (all n) cs y.arrays) (sym rows) given;
    }

-- a block that is refused by rising numbers
pub refused_ordered : (e : IpcError) (b : List ℕ) (a : Asked) (rising cs : List ℕ) (x : Block) (left : Option ℕ) → ((c : ℕ) → stands_in rising c ≡ stands_in cs c)
    → Refuses e (refusals (batch_given b (with_columns (Some rising) a) x left)) → Refuses e (refusals (batch_given b (with_columns (Some cs) a) x left))
unfolding batch_given
refused_ordered e b a rising cs x left same =
    given_refuses x (λ block. batch_of to_read b (with_columns (Some rising) a) block left) (λ block. batch_of to_read b (with_columns (Some cs) a) block left) e (λ block.
    block_refuses to_read to_read e b (with_columns (Some rising) a) (with_columns (Some cs) a) block left (λ m. follows e _ _ (λ es is. rising_refuses a rising cs m.version m.custom m.tables (block_body b block) left es same is)))

-- a block that is read of the columns asked for is read by rising numbers
pub rising_read : (b : List ℕ) (a : Asked) (rising cs : List ℕ) (block : FileBlock) (left : Option ℕ) (x : TableBatch) → ((c : ℕ) → stands_in rising c ≡ stands_in cs c) → batch_of to_read b (with_columns (Some cs) a) block left ≡ Ok x
    → (y : TableBatch) × (batch_of to_read b (with_columns (Some rising) a) block left ≡ Ok y)
unfolding bind
rising_read b a rising cs block left x same is =
    let message = went (block_record b block) _ x (sym (batch_by_record to_read b (with_columns (Some cs) a) block left) ∙ is) in
    let m = message.got in
    let y = by_tables m (batch_of_tables to_read (with_columns (Some rising) a) m.version m.custom m.tables (block_body b block) left) refl message.rest in
    (y.0, batch_by_record to_read b (with_columns (Some rising) a) block left ∙ on (block_record b block) _ m message.first ∙ y.1)
  where
    by_tables : (m : PairedMessage) (w : Reading TableBatch) → batch_of_tables to_read (with_columns (Some rising) a) m.version m.custom m.tables (block_body b block) left ≡ w → batch_of_tables to_read (with_columns (Some cs) a) m.version m.custom m.tables (block_body b block) left ≡ Ok x
        → (y : TableBatch) × (batch_of_tables to_read (with_columns (Some rising) a) m.version m.custom m.tables (block_body b block) left ≡ Ok y)
    by_tables m (Ok y) found read = (y, found)
    by_tables m (Err es) found read = let refused = rising_refuses a rising cs m.version m.custom m.tables (block_body b block) left es same found in cc
