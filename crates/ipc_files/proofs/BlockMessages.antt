-- The message of a block, by what was fetched of it.
use Rattle.std.proofs.Common.{◌≡◌, inl, ℕ, ◌+◌, ◌<◌, ◌≤◌, List, length, take, drop, Option, Some, None, Result, Ok, Err, true, false, refl, sym, ◌∙◌, ap, arith, subst, IfErr, IfOk}
use Rattle.std.specs.Prelude.{nat_le}
use Rattle.std.proofs.lemmas.Bool.{le-leb, lt-leb}
use Rattle.arrow_spec.specs.declared.error.IpcError.{IpcError}
use Rattle.arrow_spec.specs.declared.error.IpcError.TheVariants.{OutOfSpec}
use Rattle.arrow_spec.specs.declared.error.OutOfSpecKind.TheVariants as kinds
use Rattle.arrow_spec.specs.declared.message.Block.{Block}
use Rattle.arrow_spec.specs.Readings.{bind, Gives, Reading, Refuses, refusals}
use Rattle.arrow_spec.specs.Messages.{prefix_of, record_message}
use Rattle.arrow_spec.specs.Files.{FileBlock, Purpose, Asked, block_message, batch_of, batch_of_tables, block_body}
use Rattle.ipc_io.specs.Outside.{IsSize}
use Rattle.ipc_schema.specs.Views.{message_of}
use Rattle.ipc_schema.specs.declared.message.RecordMessage.{RecordMessage}
use Rattle.ipc_files.specs.declared.block.BlockMessage.{BlockMessage}
use Rattle.ipc_fields.specs.Causes.{Decodes}
use Rattle.ipc_fields.proofs.Steps.{gives}
use Rattle.ipc_files.proofs.Errors.{none_refused}
use Rattle.ipc_files.specs.FileBlocks.{given, block_header, block_record, message_metadata, paired_message, paired_of, block_metadata, Fetched, Faulted, GivesIn, PrefixIn, BlockIn}
use Rattle.ipc_files.proofs.BlockPrefixes.{memory_or_fault}
use Rattle.ipc_files.proofs.GivenBlocks.{told_more}

-- ── the metadata that is fetched ──

pub out_of_range : {X : Type 0} (content : Option (List ℕ)) (size : ℕ) (block : FileBlock) (view : X → List ℕ) → IsSize content size → size < block.offset + block.metadata + block.body → GivesIn content view (Err (OutOfSpec kinds.BlockRange)) (λ b. message_metadata b block)
unfolding message_metadata bind
out_of_range None size block view s h = tt
out_of_range (Some b) size block view s h =
    let test : nat_le (block.offset + block.metadata + block.body) (length b) ≡ false = lt-leb _ _ (omega (arith, s, h)) in
    rw test (inl refl)

in_range : (b : List ℕ) (block : FileBlock) → block.offset + block.metadata + block.body ≤ length b → message_metadata b block ≡ bind (prefix_of (block_metadata b block)) (λ p. Ok (take p.1 (drop (block.offset + p.0) b)))
unfolding message_metadata bind
in_range b block h = let test : nat_le (block.offset + block.metadata + block.body) (length b) ≡ true = le-leb _ _ h in rw test refl

pub refused_first : {A B : Type 0} (e : IpcError) (r : Reading A) (f : A → Reading B) → Refuses e (refusals r) → Refuses e (refusals (bind r f))
unfolding bind
refused_first e (Ok x) f h = none_refused e (refusals (f x)) h
refused_first e (Err es) f h = h

prefix_refused : {X : Type 0} (content : Option (List ℕ)) (size : ℕ) (block : FileBlock) (view : X → List ℕ) (e : IpcError) → IsSize content size → block.offset + block.metadata + block.body ≤ size → PrefixIn content block.offset block.metadata (Err e) → GivesIn content view (Err e) (λ b. message_metadata b block)
prefix_refused None size block view e s h p = tt
prefix_refused (Some b) size block view e s h p =
    subst (λ r. Refuses e (refusals r)) (sym (in_range b block (omega (arith, s, h)))) (refused_first e (prefix_of (block_metadata b block)) (λ p. Ok (take p.1 (drop (block.offset + p.0) b))) p)

pub after_prefix : {A B : Type 0} (r : Reading A) (f : A → Reading B) (x : A) → r ≡ Ok x → f x ≡ bind r f
unfolding bind
after_prefix r f x h = rw h refl

metadata_read : {X : Type 0} (content : Option (List ℕ)) (size : ℕ) (block : FileBlock) (p : ℕ × ℕ) (view : X → List ℕ) (r : Result X IpcError) → IsSize content size → block.offset + block.metadata + block.body ≤ size → PrefixIn content block.offset block.metadata (Ok p)
    → IfOk r (λ x. Fetched content (block.offset + p.0) p.1 (view x)) → IfErr r (λ e. Faulted content e) → GivesIn content view r (λ b. message_metadata b block)
metadata_read None size block p view r s h prefix f g = tt
metadata_read (Some b) size block p view (Ok x) s h prefix f g =
    in_range b block (omega (arith, s, h)) ∙ sym (after_prefix (prefix_of (block_metadata b block)) (λ p. Ok (take p.1 (drop (block.offset + p.0) b))) p prefix) ∙ ap Ok (sym f)
metadata_read (Some b) size block p view (Err e) s h prefix f g = memory_or_fault e (message_metadata b block) g

-- the same by the numbers that were computed
pub metadata_from : {X : Type 0} (content after : Option (List ℕ)) (size : ℕ) (block : FileBlock) (o m n : ℕ) (p : ℕ × ℕ) (view : X → List ℕ) (r : Result X IpcError)
    → IsSize content size → o ≡ block.offset → m ≡ block.metadata → n ≡ block.body → o + m + n ≤ size → after ≡ content → PrefixIn content o m (Ok p) → IfOk r (λ x. Fetched after (o + p.0) p.1 (view x)) → IfErr r (λ e. Faulted after e) → GivesIn content view r (λ b. message_metadata b block)
metadata_from content after size block o m n p view r s eo em en h same prefix f g =
    let inside : block.offset + block.metadata + block.body ≤ size = omega (arith, eo, em, en, h) in
    let prefix' : PrefixIn content block.offset block.metadata (Ok p) = subst (λ a. PrefixIn content a block.metadata (Ok p)) eo (subst (λ a. PrefixIn content o a (Ok p)) em prefix) in
    let f' : IfOk r (λ x. Fetched content (block.offset + p.0) p.1 (view x)) = subst (λ a. IfOk r (λ x. Fetched content (a + p.0) p.1 (view x))) eo (subst (λ a. IfOk r (λ x. Fetched a (o + p.0) p.1 (view x))) same f) in
    metadata_read content size block p view r s inside prefix' f' (subst (λ a. IfErr r (λ e. Faulted a e)) same g)

-- a prefix that is refused
pub prefix_from : {X : Type 0} (content : Option (List ℕ)) (size : ℕ) (block : FileBlock) (o m n : ℕ) (view : X → List ℕ) (r : Result X IpcError) (e : IpcError)
    → r ≡ Err e → IsSize content size → o ≡ block.offset → m ≡ block.metadata → n ≡ block.body → o + m + n ≤ size → PrefixIn content o m (Err e) → GivesIn content view r (λ b. message_metadata b block)
prefix_from content size block o m n view r e is s eo em en h prefix =
    let inside : block.offset + block.metadata + block.body ≤ size = omega (arith, eo, em, en, h) in
    let prefix' : PrefixIn content block.offset block.metadata (Err e) = subst (λ a. PrefixIn content a block.metadata (Err e)) eo (subst (λ a. PrefixIn content o a (Err e)) em prefix) in
    subst (λ q. GivesIn content view q (λ b. message_metadata b block)) (sym is) (prefix_refused content size block view e s inside prefix')

-- ── what the metadata says ──

pub read_of : {X Y Z : Type 0} (content : Option (List ℕ)) (metadata : List ℕ → Reading (List ℕ)) (view : X → List ℕ) (x : X) (text : List ℕ) (of : Y → Z) (reading : List ℕ → Reading Z) (r : Result Y IpcError)
    → GivesIn content view (Ok x) metadata → text ≡ view x → Decodes of r (reading text) → GivesIn content of r (λ b. bind (metadata b) reading)
read_of None metadata view x text of reading r h t g = tt
read_of (Some b) metadata view x text of reading r h t g =
    subst (Gives of r) (ap reading t ∙ after_prefix (metadata b) reading (view x) h) (gives of r (reading text) g)

-- a refusal that is handed on
pub handed_on : {X Y : Type 0} (content : Option (List ℕ)) (view : X → Y) (reading : List ℕ → Reading Y) (r : Result X IpcError) (e : IpcError) → r ≡ Err e → GivesIn content view (Err e) reading → GivesIn content view r reading
handed_on content view reading r e is h = subst (λ q. GivesIn content view q reading) (sym is) h

-- a refusal of what is read first
pub without_first : {X Y A B : Type 0} (content : Option (List ℕ)) (first : List ℕ → Reading A) (view : X → A) (e : IpcError) (of : Y → B) (reading : List ℕ → A → Reading B) → GivesIn content view (Err e) first → GivesIn content of (Err e) (λ b. bind (first b) (reading b))
without_first None first view e of reading h = tt
without_first (Some b) first view e of reading h = refused_first e (first b) (reading b) h

pub message_of_metadata : {X : Type 0} (content : Option (List ℕ)) (block : Block) (view : X → List ℕ) (x : X) (text : List ℕ) (r : Result BlockMessage IpcError) → GivesIn content view (Ok x) (λ b. given block (message_metadata b)) → text ≡ view x → Decodes paired_of r (paired_message text) → BlockIn content block r
unfolding block_record
message_of_metadata None block view x text r h t g = tt
message_of_metadata (Some b) block view x text r h t g =
    told_more (Some b) paired_of r block message_metadata paired_message (read_of (Some b) (λ b. given block (message_metadata b)) view x text paired_of paired_message r h t g)

pub message_without_metadata : {X : Type 0} (content : Option (List ℕ)) (block : Block) (view : X → List ℕ) (r : Result BlockMessage IpcError) (e : IpcError) → r ≡ Err e → GivesIn content view (Err e) (λ b. given block (message_metadata b)) → BlockIn content block r
unfolding block_record
message_without_metadata None block view r e is h = tt
message_without_metadata (Some b) block view r e is h =
    subst (λ q. BlockIn (Some b) block q) (sym is) (told_more (Some b) paired_of (Err e) block message_metadata paired_message (refused_first e (given block (message_metadata b)) paired_message h))

pub header_of_metadata : {X : Type 0} (content : Option (List ℕ)) (block : Block) (view : X → List ℕ) (x : X) (text : List ℕ) (r : Result RecordMessage IpcError) → GivesIn content view (Ok x) (λ b. given block (message_metadata b)) → text ≡ view x → Decodes message_of r (record_message text) → GivesIn content message_of r (λ b. given block (block_header b))
unfolding block_header
header_of_metadata content block view x text r h t g =
    told_more content message_of r block message_metadata record_message (read_of content (λ b. given block (message_metadata b)) view x text message_of record_message r h t g)

pub header_without_metadata : {X : Type 0} (content : Option (List ℕ)) (block : Block) (view : X → List ℕ) (r : Result RecordMessage IpcError) (e : IpcError) → r ≡ Err e → GivesIn content view (Err e) (λ b. given block (message_metadata b)) → GivesIn content message_of r (λ b. given block (block_header b))
unfolding block_header
header_without_metadata content block view r e is h =
    handed_on content message_of (λ b. given block (block_header b)) r e is
    (told_more content message_of (Err e) block message_metadata record_message (without_first content (λ b. given block (message_metadata b)) view e message_of (λ b. record_message) h))

pub bind_twice : {A B C E : Type 0} (r : Result A E) (f : A → Result B E) (g : B → Result C E) → bind (bind r f) g ≡ bind r (λ x. bind (f x) g)
unfolding bind
bind_twice (Ok x) f g = refl
bind_twice (Err e) f g = refl

pub bind_ok : {A B E : Type 0} (x : A) (f : A → Result B E) → bind (Ok x) f ≡ f x
unfolding bind
bind_ok x f = refl

-- A record block is its message, and then its columns.
pub batch_by_record : (purpose : Purpose) (b : List ℕ) (a : Asked) (block : FileBlock) (left : Option ℕ) → batch_of purpose b a block left ≡ bind (block_record b block) (λ m. batch_of_tables purpose a m.version m.custom m.tables (block_body b block) left)
unfolding batch_of block_record message_metadata block_message record_message paired_message
batch_by_record purpose b a block left = simp (bind_twice, bind_ok)
