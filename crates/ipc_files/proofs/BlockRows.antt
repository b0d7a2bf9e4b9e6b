-- Blocks of which the rows are read, one after another.
use Rattle.std.proofs.Common.{◌≡◌, inl, ℕ, zero, suc, ◌+◌, ◌<◌, ◌≤◌, List, [], ◌∷◌, length, drop, Option, Some, None, Result, Ok, Err, false, refl, sym, ◌∙◌, ap, arith, subst, lt-ltb, le-ltb, get_or}
use Rattle.std.proofs.lemmas.List.{drop_all, length-map}
use Rattle.std.proofs.lemmas.Option.{slice_get-get_or}
use Rattle.std.specs.Prelude.{slice_get, nat_lt, ◌^◌, ⊤, map, ℤ, pos, IfSome, All}
use Rattle.arrow_spec.specs.declared.error.IpcError.{IpcError}
use Rattle.arrow_spec.specs.declared.error.IpcError.TheVariants.{OutOfSpec}
use Rattle.arrow_spec.specs.declared.error.OutOfSpecKind.TheVariants as kinds
use Rattle.arrow_spec.specs.declared.message.Block.{Block}
use Rattle.arrow_spec.specs.Readings.{Gives, Reading, Refuses, ◌>>=◌, bind, damaged, natural, only_if, refusals}
use Rattle.arrow_spec.specs.Files.{FileBlock, footer_of}
use Rattle.arrow_spec.specs.Messages.{RecordMessage as MessageTables}
use Rattle.arrow_spec.proofs.Projection.{on, went}
use Rattle.ipc_fields.specs.Causes.{Decodes}
use Rattle.ipc_fields.proofs.Steps.{gives, refuses}
use Rattle.ipc_schema.specs.Footers.{IsNatural, record_blocks_in}
use Rattle.ipc_schema.specs.Views.{message_of}
use Rattle.ipc_schema.specs.declared.message.RecordMessage.{RecordMessage}
use Rattle.ipc_files.specs.FileBlocks.{GivesIn, block_header, file_block, given, message_metadata}
use Rattle.ipc_files.specs.Fetching.{FooterFetched, MetadataFetched, message_cost}
use Rattle.ipc_files.specs.RowCounts.{MessagesFetched, RowCountFetched, block_rows, file_row_count, messages_cost, numbers_of, row_count_of, rows_behind}
use Rattle.ipc_files.proofs.BlockMessages.{bind_twice, refused_first, without_first}
use Rattle.ipc_files.proofs.BlockNumbers.{at_index}
use Rattle.ipc_files.proofs.GivenBlocks.{each_back, given_reads, told_more}

-- the rows are what the message says
pub rows_without_header : {X : Type 0} (content : Option (List ℕ)) (block : Block) (view : X → MessageTables) (of : ℕ → ℕ) (e : IpcError) → GivesIn content view (Err e) (λ b. given block (block_header b)) → GivesIn content of (Err e) (λ b. given block (block_rows b))
unfolding block_rows
rows_without_header content block view of e h =
    told_more content of (Err e) block block_header (λ m. natural m.tables.length) (without_first content (λ b. given block (block_header b)) view e of (λ b m. natural m.tables.length) h)

pub rows_of_header : (content : Option (List ℕ)) (block : Block) (m : RecordMessage) (r : Result ℕ IpcError) → GivesIn content message_of (Ok m) (λ b. given block (block_header b)) → Decodes (λ (n : ℕ). n) r (natural m.header.length) → GivesIn content (λ (n : ℕ). n) r (λ b. given block (block_rows b))
unfolding block_rows
rows_of_header None block m r h g = tt
rows_of_header (Some b) block m r h g =
    told_more (Some b) (λ (n : ℕ). n) r block block_header (λ m. natural m.tables.length) (rw (on (given block (block_header b)) (λ m. natural m.tables.length) (message_of m) h) (gives (λ (n : ℕ). n) r (natural m.header.length) g))

-- of blocks of which some reading is made, the rest is read so; and of those before, the messages were fetched
pub record ReadIn {X : Type 0} (b : List ℕ) (blocks rest : List Block) (whole here : Reading X) (f f' : ℕ) : Type 0 where
  pub same : whole ≡ here
  pub fetched : (x : X) → whole ≡ Ok x → f' + messages_cost b (map file_block rest) ≤ f + messages_cost b (map file_block blocks)

abbrev pub ReadUpTo : {X : Type 0} → Option (List ℕ) → List Block → List Block → (List ℕ → Reading X) → (List ℕ → Reading X) → ℕ → ℕ → Type 0
ReadUpTo None blocks rest whole here f f' = ⊤
ReadUpTo (Some b) blocks rest whole here f f' = ReadIn b blocks rest (whole b) (here b) f f'

-- the rows of a block are read, and then something else
abbrev pub ByRows : {X : Type 0} → Block → (List ℕ → Reading X) → (List ℕ → ℕ → Reading X) → Type 0
ByRows block here next = (b : List ℕ) → here b ≡ bind (given block (block_rows b)) (next b)

pub begun : {X : Type 0} (content : Option (List ℕ)) (blocks : List Block) (whole : List ℕ → Reading X) (f : ℕ) → ReadUpTo content blocks blocks whole whole f f
begun None blocks whole f = tt
begun (Some b) blocks whole f = record { same = refl; fetched = λ x is. omega arith }

-- where a block has rows its metadata stands
rows_fetched : (b : List ℕ) (block : Block) (rows mid f' : ℕ) → given block (block_rows b) ≡ Ok rows → MetadataFetched (Some b) (file_block block) mid f' → f' ≤ mid + message_cost b (file_block block)
unfolding block_rows block_header
rows_fetched b block rows mid f' is h =
    let reads = given_reads block (block_rows b) rows is in
    let header = went (block_header b (file_block block)) _ rows reads.read in
    let bytes = went (message_metadata b (file_block block)) _ header.got header.first in
    h bytes.got bytes.first

pub one_more : {X : Type 0} (content after : Option (List ℕ)) (blocks rest : List Block) (block : Block) (whole here there : List ℕ → Reading X) (next : List ℕ → ℕ → Reading X) (rows f mid f' : ℕ)
    → ByRows block here next → ((b : List ℕ) → next b rows ≡ there b) → after ≡ content → ReadUpTo content blocks (block ∷ rest) whole here f mid → GivesIn after (λ (n : ℕ). n) (Ok rows) (λ b. given block (block_rows b)) → MetadataFetched after (file_block block) mid f' → ReadUpTo content blocks rest whole there f f'
one_more None after blocks rest block whole here there next rows f mid f' by goes same h read more = tt
one_more (Some b) after blocks rest block whole here there next rows f mid f' by goes same h read more =
    let is : given block (block_rows b) ≡ Ok rows = subst (λ o. GivesIn o (λ (n : ℕ). n) (Ok rows) (λ b. given block (block_rows b))) same read in
    let cost = rows_fetched b block rows mid f' is (subst (λ o. MetadataFetched o (file_block block) mid f') same more) in
    record {
      same = h.same ∙ by b ∙ on (given block (block_rows b)) (next b) rows is ∙ goes b;
      fetched = λ x w. omega (arith, h.fetched x w, cost);
    }

-- a reading that stops at a block has fetched no more
pub stopped : {X : Type 0} (content after : Option (List ℕ)) (blocks rest : List Block) (block : Block) (whole here : List ℕ → Reading X) (next : List ℕ → ℕ → Reading X) (f mid f' : ℕ)
    → ByRows block here next → after ≡ content → ReadUpTo content blocks (block ∷ rest) whole here f mid → MetadataFetched after (file_block block) mid f' → MessagesFetched content (map file_block blocks) whole f f'
stopped None after blocks rest block whole here next f mid f' by same h more = tt
stopped (Some b) after blocks rest block whole here next f mid f' by same h more = λ x w.
    let rows = went (given block (block_rows b)) (next b) x (sym (h.same ∙ by b) ∙ w) in
    let cost = rows_fetched b block rows.got mid f' rows.first (subst (λ o. MetadataFetched o (file_block block) mid f') same more) in
    omega (arith, h.fetched x w, cost)

pub finished : {X : Type 0} (content : Option (List ℕ)) (blocks rest : List Block) (whole here : List ℕ → Reading X) (f f' : ℕ) → ReadUpTo content blocks rest whole here f f' → MessagesFetched content (map file_block blocks) whole f f'
finished None blocks rest whole here f f' h = tt
finished (Some b) blocks rest whole here f f' h = λ x w. omega (arith, h.fetched x w)

-- what a block refuses, they refuse
pub refused : {X Y : Type 0} (content after : Option (List ℕ)) (blocks rest : List Block) (block : Block) (whole here : List ℕ → Reading X) (next : List ℕ → ℕ → Reading X) (view : Y → X) (e : IpcError) (f mid : ℕ)
    → ByRows block here next → after ≡ content → ReadUpTo content blocks (block ∷ rest) whole here f mid → GivesIn after (λ (n : ℕ). n) (Err e) (λ b. given block (block_rows b)) → GivesIn content view (Err e) whole
refused None after blocks rest block whole here next view e f mid by same h fails = tt
refused (Some b) after blocks rest block whole here next view e f mid by same h fails =
    let is : Refuses e (refusals (given block (block_rows b))) = subst (λ o. GivesIn o (λ (n : ℕ). n) (Err e) (λ b. given block (block_rows b))) same fails in
    subst (λ r. Refuses e (refusals r)) (sym (h.same ∙ by b)) (refused_first e (given block (block_rows b)) (next b) is)

-- what is read of the rest is read of all
pub answered : {X Y : Type 0} (content : Option (List ℕ)) (blocks rest : List Block) (whole here : List ℕ → Reading X) (view : Y → X) (r : Result Y IpcError) (f f' : ℕ) → ReadUpTo content blocks rest whole here f f' → ((b : List ℕ) → Gives view r (here b)) → GivesIn content view r whole
answered None blocks rest whole here view r f f' h g = tt
answered (Some b) blocks rest whole here view r f f' h g = subst (Gives view r) (sym h.same) (g b)

-- ── the blocks of a list ──

drop_next : {A : Type 0} (xs : List A) (i : ℕ) (x : A) → slice_get xs i ≡ Some x → drop i xs ≡ x ∷ drop (i + 1) xs
drop_next [] i x h = cc
drop_next (y ∷ ys) zero x h = ap (λ z. z ∷ ys) cc
drop_next (y ∷ ys) (suc i) x h = let e : suc i + 1 ≡ suc (i + 1) = omega arith in rw e (drop_next ys i x h)

-- the blocks from one on
pub from_block : (blocks items : List Block) (i : ℕ) (d : Block) → items ≡ blocks → i < length items → drop i (map file_block blocks) ≡ file_block (get_or items i d) ∷ drop (i + 1) (map file_block blocks)
from_block blocks items i d same h = drop_next (map file_block blocks) i (file_block (get_or items i d)) (at_index blocks items i d same h)

-- the blocks that are given from one on, by the items that the loop goes over
pub next_given : (blocks items : List Block) (i : ℕ) (d : Block) → items ≡ blocks → i < length items → drop i blocks ≡ get_or items i d ∷ drop (i + 1) blocks
next_given blocks items i d same h = subst (λ l. drop i l ≡ get_or items i d ∷ drop (i + 1) l) same (drop_next items i (get_or items i d) (slice_get-get_or items i d h))

block_next : (blocks : List Block) (i : ℕ) (d : Block) → i < length blocks → drop i blocks ≡ get_or blocks i d ∷ drop (i + 1) blocks
block_next blocks i d h = drop_next blocks i (get_or blocks i d) (slice_get-get_or blocks i d h)

pub at_block : {X : Type 0} (content : Option (List ℕ)) (blocks : List Block) (i : ℕ) (d : Block) (whole : List ℕ → Reading X) (reading : List Block → List ℕ → Reading X) (f mid : ℕ) → i < length blocks
    → ReadUpTo content blocks (drop i blocks) whole (reading (drop i blocks)) f mid
    → ReadUpTo content blocks (get_or blocks i d ∷ drop (i + 1) blocks) whole (reading (get_or blocks i d ∷ drop (i + 1) blocks)) f mid
at_block content blocks i d whole reading f mid h read = subst (λ l. ReadUpTo content blocks l whole (reading l) f mid) (block_next blocks i d h) read

-- none behind the last one
pub all_dropped : (blocks : List Block) (i : ℕ) → length blocks ≤ i → drop i (map file_block blocks) ≡ []
all_dropped blocks i h = drop_all i (map file_block blocks) (omega (arith, h, length-map blocks file_block))

-- ── rows that are counted ──

-- behind so many rows, those of blocks together
abbrev pub count_from : List Block → ℕ → List ℕ → Reading ℤ
count_from rest n b = rows_behind b rest n >>= λ k. Ok (pos k)

counted_next : List Block → ℕ → List ℕ → ℕ → Reading ℤ
counted_next rest n b rows = only_if (nat_lt (n + rows) (2 ^ 63)) kinds.RowCount >>= λ few. count_from rest (n + rows) b

by_rows : (block : Block) (rest : List Block) (n : ℕ) → ByRows block (count_from (block ∷ rest) n) (counted_next rest n)
unfolding rows_behind counted_next
by_rows block rest n b = simp bind_twice

within : (rest : List Block) (n rows : ℕ) → n + rows < 2 ^ 63 → (b : List ℕ) → counted_next rest n b rows ≡ count_from rest (n + rows) b
unfolding counted_next
within rest n rows h b = on (only_if (nat_lt (n + rows) (2 ^ 63)) kinds.RowCount) _ tt (ap (λ t. only_if t kinds.RowCount) (lt-ltb _ _ h))

beyond : (rest : List Block) (n rows : ℕ) → 2 ^ 63 ≤ n + rows → (b : List ℕ) → counted_next rest n b rows ≡ damaged kinds.RowCount
unfolding counted_next bind
beyond rest n rows h b = let test : nat_lt (n + rows) (2 ^ 63) ≡ false = le-ltb _ _ h in rw test refl

none_left : (b : List ℕ) (rest : List Block) (n : ℕ) → rest ≡ [] → count_from rest n b ≡ Ok (pos n)
unfolding rows_behind bind
none_left b rest n h = rw h refl

-- ── a count over the blocks of a list ──

abbrev pub count_of : List Block → List ℕ → Reading ℤ
count_of blocks b = row_count_of b blocks

-- so many rows were counted up to a block
abbrev pub CountedUpTo : Option (List ℕ) → List Block → ℕ → ℕ → ℕ → ℕ → Type 0
CountedUpTo content blocks i n f f' = ReadUpTo content blocks (drop i blocks) (count_of blocks) (count_from (drop i blocks) n) f f'

pub none_counted : (content : Option (List ℕ)) (blocks : List Block) (f : ℕ) → CountedUpTo content blocks 0 0 f f
none_counted content blocks f = begun content blocks (count_of blocks) f

pub more_counted : (content after : Option (List ℕ)) (blocks : List Block) (i : ℕ) (d : Block) (n rows f mid f' : ℕ) → i < length blocks → after ≡ content → CountedUpTo content blocks i n f mid
    → GivesIn after (λ (k : ℕ). k) (Ok rows) (λ b. given (get_or blocks i d) (block_rows b)) → n + rows < 2 ^ 63 → MetadataFetched after (file_block (get_or blocks i d)) mid f' → CountedUpTo content blocks (i + 1) (n + rows) f f'
more_counted content after blocks i d n rows f mid f' h same read given few more =
    let rest = drop (i + 1) blocks in
    let block = get_or blocks i d in
    one_more content after blocks rest block (count_of blocks) (count_from (block ∷ rest) n) (count_from rest (n + rows)) (counted_next rest n) rows f mid f'
    (by_rows block rest n) (within rest n rows few) same (at_block content blocks i d (count_of blocks) (λ l. count_from l n) f mid h read) given more

pub count_refused : (content after : Option (List ℕ)) (blocks : List Block) (i : ℕ) (d : Block) (n f mid : ℕ) (e : IpcError) → i < length blocks → after ≡ content → CountedUpTo content blocks i n f mid
    → GivesIn after (λ (k : ℕ). k) (Err e) (λ b. given (get_or blocks i d) (block_rows b)) → GivesIn content (λ (k : ℤ). k) (Err e) (count_of blocks)
count_refused content after blocks i d n f mid e h same read fails =
    let rest = drop (i + 1) blocks in
    let block = get_or blocks i d in
    refused content after blocks rest block (count_of blocks) (count_from (block ∷ rest) n) (counted_next rest n) (λ (k : ℤ). k) e f mid (by_rows block rest n) same (at_block content blocks i d (count_of blocks) (λ l. count_from l n) f mid h read) fails

pub count_stopped : (content after : Option (List ℕ)) (blocks : List Block) (i : ℕ) (d : Block) (n f mid f' : ℕ) → i < length blocks → after ≡ content → CountedUpTo content blocks i n f mid
    → MetadataFetched after (file_block (get_or blocks i d)) mid f' → MessagesFetched content (map file_block blocks) (count_of blocks) f f'
count_stopped content after blocks i d n f mid f' h same read more =
    let rest = drop (i + 1) blocks in
    let block = get_or blocks i d in
    stopped content after blocks rest block (count_of blocks) (count_from (block ∷ rest) n) (counted_next rest n) f mid f' (by_rows block rest n) same (at_block content blocks i d (count_of blocks) (λ l. count_from l n) f mid h read) more

-- the rows pass what an i64 can tell
pub count_beyond : (content after : Option (List ℕ)) (blocks : List Block) (i : ℕ) (d : Block) (n rows f mid f' : ℕ) → i < length blocks → after ≡ content → CountedUpTo content blocks i n f mid
    → GivesIn after (λ (k : ℕ). k) (Ok rows) (λ b. given (get_or blocks i d) (block_rows b)) → 2 ^ 63 ≤ n + rows → MetadataFetched after (file_block (get_or blocks i d)) mid f' → GivesIn content (λ (k : ℤ). k) (Err (OutOfSpec kinds.RowCount)) (count_of blocks)
count_beyond content after blocks i d n rows f mid f' h same read given many more =
    let rest = drop (i + 1) blocks in
    let block = get_or blocks i d in
    let past = one_more content after blocks rest block (count_of blocks) (count_from (block ∷ rest) n) (λ b. damaged kinds.RowCount) (counted_next rest n) rows f mid f'
    (by_rows block rest n) (beyond rest n rows many) same (at_block content blocks i d (count_of blocks) (λ l. count_from l n) f mid h read) given more in
    answered content blocks rest (count_of blocks) (λ b. damaged kinds.RowCount) (λ (k : ℤ). k) (Err (OutOfSpec kinds.RowCount)) f f' past (λ b. inl refl)

pub all_counted : (content : Option (List ℕ)) (blocks : List Block) (i n : ℕ) (x : ℤ) (f f' : ℕ) → length blocks ≤ i → x ≡ pos n → CountedUpTo content blocks i n f f' → GivesIn content (λ (k : ℤ). k) (Ok x) (count_of blocks)
all_counted content blocks i n x f f' h is read =
    answered content blocks (drop i blocks) (count_of blocks) (count_from (drop i blocks) n) (λ (k : ℤ). k) (Ok x) f f' read
    (λ b. none_left b (drop i blocks) n (drop_all i blocks h) ∙ ap Ok (sym is))

pub count_finished : (content : Option (List ℕ)) (blocks : List Block) (i n f f' : ℕ) → CountedUpTo content blocks i n f f' → MessagesFetched content (map file_block blocks) (count_of blocks) f f'
count_finished content blocks i n f f' read = finished content blocks (drop i blocks) (count_of blocks) (count_from (drop i blocks) n) f f' read

-- a count behind a call that keeps the bytes
pub count_after : (content after : Option (List ℕ)) (blocks : List Block) (r : Result ℤ IpcError) → after ≡ content → GivesIn after (λ (k : ℤ). k) r (count_of blocks) → IfSome content (λ b. Gives (λ (k : ℤ). k) r (count_of blocks b))
count_after None after blocks r same h = tt
count_after (Some b) after blocks r same h = subst (λ o. GivesIn o (λ (k : ℤ). k) r (count_of blocks)) same h

pub count_fetched_after : (content after : Option (List ℕ)) (blocks : List Block) (f mid f' : ℕ) → after ≡ content → mid ≡ f → MessagesFetched after (map file_block blocks) (count_of blocks) mid f' → MessagesFetched content (map file_block blocks) (count_of blocks) f f'
count_fetched_after content after blocks f mid f' same from h = subst (λ n. MessagesFetched content (map file_block blocks) (count_of blocks) n f') from (subst (λ o. MessagesFetched o (map file_block blocks) (count_of blocks) mid f') same h)

-- ── the count of a file ──

abbrev pub GivesRows : Option (List ℕ) → Result ℤ IpcError → Type 0
GivesRows content r = IfSome content (λ b. Gives (λ (k : ℤ). k) r (file_row_count b))

pub no_footer : {X : Type 0} (content : Option (List ℕ)) (view : X → List ℕ) (e : IpcError) (r : Result ℤ IpcError) → r ≡ Err e → GivesIn content view (Err e) footer_of → GivesRows content r
unfolding file_row_count
no_footer None view e r is h = tt
no_footer (Some b) view e r is h = subst (λ q. Gives (λ (k : ℤ). k) q (file_row_count b)) (sym is) (refused_first e (footer_of b) _ h)

pub no_blocks : {X Y : Type 0} (content : Option (List ℕ)) (view : X → List ℕ) (footer : X) (text : List ℕ) (of : Y → List FileBlock) (e : IpcError) (r : Result ℤ IpcError) → r ≡ Err e → GivesIn content view (Ok footer) footer_of → text ≡ view footer → Decodes of (Err e) (record_blocks_in text) → GivesRows content r
unfolding file_row_count
no_blocks None view footer text of e r is h t g = tt
no_blocks (Some b) view footer text of e r is h t g =
    let fails : Refuses e (refusals (record_blocks_in (view footer))) = subst (λ x. Refuses e (refusals (record_blocks_in x))) t (refuses e (refusals (record_blocks_in text)) g) in
    subst (λ q. Gives (λ (k : ℤ). k) q (file_row_count b)) (sym is) (rw (on (footer_of b) (λ f. record_blocks_in f >>= λ blocks. row_count_of b (map numbers_of blocks)) (view footer) h) (refused_first e (record_blocks_in (view footer)) _ fails))

pub blocks_counted : {X : Type 0} (content after : Option (List ℕ)) (view : X → List ℕ) (footer : X) (text : List ℕ) (blocks slice : List Block) (r : Result ℤ IpcError) → GivesIn content view (Ok footer) footer_of → text ≡ view footer → record_blocks_in text ≡ Ok (map file_block blocks) → All IsNatural blocks → slice ≡ blocks → after ≡ content
    → GivesIn after (λ (k : ℤ). k) r (count_of slice) → GivesRows content r
unfolding file_row_count
blocks_counted None after view footer text blocks slice r h t g natural is same c = tt
blocks_counted (Some b) after view footer text blocks slice r h t g natural is same c =
    let read : record_blocks_in (view footer) ≡ Ok (map file_block slice) = ap record_blocks_in (sym t) ∙ g ∙ ap (λ l. Ok (map file_block l)) (sym is) in
    let back : map numbers_of (map file_block slice) ≡ slice = each_back slice (subst (All IsNatural) (sym is) natural) in
    let counted : Gives (λ (k : ℤ). k) r (row_count_of b (map numbers_of (map file_block slice))) = subst (λ xs. Gives (λ (k : ℤ). k) r (row_count_of b xs)) (sym back) (subst (λ o. GivesIn o (λ (k : ℤ). k) r (count_of slice)) same c) in
    rw (on (footer_of b) (λ f. record_blocks_in f >>= λ blocks. row_count_of b (map numbers_of blocks)) (view footer) h, on (record_blocks_in (view footer)) (λ blocks. row_count_of b (map numbers_of blocks)) (map file_block slice) read) counted

read_once : {A : Type 0} (x y : A) (r : Reading A) → r ≡ Ok x → r ≡ Ok y → x ≡ y
read_once x y r h k = cc

-- where the footer alone was fetched
pub footer_alone : (content : Option (List ℕ)) (f f' : ℕ) → FooterFetched content f f' → RowCountFetched content f f'
footer_alone None f f' h = tt
footer_alone (Some b) f f' h = λ footer blocks n is stands rows. omega (arith, h footer is)

pub footer_and_messages : {X : Type 0} (content after : Option (List ℕ)) (view : X → List ℕ) (footer : X) (text : List ℕ) (blocks slice : List Block) (f mid f' : ℕ) → GivesIn content view (Ok footer) footer_of → text ≡ view footer → record_blocks_in text ≡ Ok (map file_block blocks) → All IsNatural blocks → slice ≡ blocks → after ≡ content
    → FooterFetched content f mid → MessagesFetched after (map file_block slice) (count_of slice) mid f' → RowCountFetched content f f'
footer_and_messages None after view footer text blocks slice f mid f' h t g natural is same front more = tt
footer_and_messages (Some b) after view footer text blocks slice f mid f' h t g natural is same front more = λ bytes list n footer_is stands rows.
    let bytes_are : view footer ≡ bytes = read_once (view footer) bytes (footer_of b) h footer_is in
    let list_is : map file_block slice ≡ list = ap (map file_block) is ∙ read_once (map file_block blocks) list (record_blocks_in text) g (ap record_blocks_in (t ∙ bytes_are) ∙ stands) in
    let back : map numbers_of (map file_block slice) ≡ slice = each_back slice (subst (All IsNatural) (sym is) natural) in
    let counted : (x : ℤ) → row_count_of b slice ≡ Ok x → f' ≤ mid + messages_cost b (map file_block slice) = subst (λ o. MessagesFetched o (map file_block slice) (count_of slice) mid f') same more in
    let cost : f' ≤ mid + messages_cost b list = subst (λ l. f' ≤ mid + messages_cost b l) list_is (counted n (subst (λ l. row_count_of b l ≡ Ok n) back (subst (λ l. row_count_of b (map numbers_of l) ≡ Ok n) (sym list_is) rows))) in
    omega (arith, front bytes footer_is, cost)
