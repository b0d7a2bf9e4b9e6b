-- A file that is read to be sent is too large exactly where a message of it may not be sent.
use Rattle.std.proofs.Common.{◌≡◌, ℕ, List, [], ◌∷◌, ◌++◌, length, Option, Bool, true, false, Ok, Err, refl, sym, ◌∙◌, ap, ◌&&◌, not}
use Rattle.std.specs.Prelude.{nat_le}
use Rattle.arrow_spec.specs.declared.error.IpcError.TheVariants.{TooLarge, Unsupported}
use Rattle.arrow_spec.specs.declared.error.Feature.TheVariants as features
use Rattle.arrow_spec.specs.declared.message.MetadataVersion.{MetadataVersion}
use Rattle.arrow_spec.specs.Readings.{bind, ◌>>=◌, Reading, free_of, unless, only_if, natural}
use Rattle.arrow_spec.specs.Kinds.{Metadata, bare, width}
use Rattle.arrow_spec.specs.Messages.{BatchHeader, batch_at, message_pairs, version_of}
use Rattle.arrow_spec.specs.Counts.{first_place}
use Rattle.arrow_spec.specs.Columns.{columns_at}
use Rattle.arrow_spec.specs.Sent.{SentMessage, all_may_be_sent, batch_message, dictionary_messages, may_be_sent, stream_schema}
use Rattle.arrow_spec.specs.Files.{ArrowTable, Asked, FileBlock, Request, TableBatch, as_asked, batch_of, batch_of_tables, batch_sent, batches_of, batches_sent, block_body, block_message, columns_right, custom_of, dictionaries_before, dictionaries_of, dictionaries_read, fields_as_asked, file_reading, if_sent, lengths_sum, meta_of, none_negative, record_batch_of, sent, share, taken, to_read, to_send, what_is_left}
use Rattle.arrow_spec.proofs.Projection.{went, on, nothing}
use Rattle.arrow_spec.proofs.ReadPairs.{same_read}
use Rattle.laws_files.specs.FileLaws.{TooLargeWhereAMessageIs}

-- ── what is sent where it may be ──

-- this, where its message may be sent
abbrev pub sends : {A : Type 0} → Bool → A → Reading A
sends ok x = if_sent to_send ok >>= λ size. Ok x

-- one that is sent before others
sends_then : {A B : Type 0} (p q : Bool) (x : A) (f : A → Reading B) (y : B) → f x ≡ sends q y → (sends p x >>= f) ≡ sends (p && q) y
unfolding bind
sends_then true q x f y h = h
sends_then false q x f y h = refl

size_then : {B : Type 0} (p q : Bool) (f : Unit {0} → Reading B) (y : B) → f tt ≡ sends q y → (if_sent to_send p >>= f) ≡ sends (p && q) y
unfolding bind
size_then true q f y h = h
size_then false q f y h = refl

sends_as : {A B : Type 0} (p : Bool) (x : A) (f : A → B) → (sends p x >>= λ y. Ok (f y)) ≡ sends p (f x)
unfolding bind
sends_as true x f = refl
sends_as false x f = refl

all_may-append : (xs ys : List SentMessage) → all_may_be_sent (xs ++ ys) ≡ all_may_be_sent xs && all_may_be_sent ys
all_may-append [] ys = refl
all_may-append (x ∷ xs) ys = ap (λ t. may_be_sent x && t) (all_may-append xs ys) ∙ grouped (may_be_sent x) (all_may_be_sent xs) (all_may_be_sent ys)
  where
    grouped : (p q r : Bool) → p && (q && r) ≡ (p && q) && r
    grouped true q r = refl
    grouped false q r = refl

turned : (p q r : Bool) → p && (q && r) ≡ q && (p && r)
turned true true r = refl
turned true false r = refl
turned false true r = refl
turned false false r = refl

read : {A : Type 0} (x y : A) → (nothing >>= λ size. Ok x) ≡ Ok y → x ≡ y
unfolding bind
read x y h = cc

-- ── batches ──

abbrev message_of_tables : Asked → MetadataVersion → Metadata → BatchHeader → List ℕ → Option ℕ → ℕ → SentMessage
message_of_tables a v custom tables body left rows = batch_message (record_batch_of a.order v tables body) a.columns a.fields (share left rows) custom

-- how a batch is sent that is read
record TablesSent (a : Asked) (v : MetadataVersion) (custom : Metadata) (tables : BatchHeader) (body : List ℕ) (left : Option ℕ) (x : TableBatch) : Type 0 where
  rows : ℕ
  count : natural tables.length ≡ Ok rows
  cut : share left rows ≡ x.rows
  whole : batch_of_tables to_send a v custom tables body left ≡ sends (may_be_sent (message_of_tables a v custom tables body left rows)) x

tables_sent : (a : Asked) (v : MetadataVersion) (custom : Metadata) (tables : BatchHeader) (body : List ℕ) (left : Option ℕ) (x : TableBatch) → batch_of_tables to_read a v custom tables body left ≡ Ok x → TablesSent a v custom tables body left x
unfolding batch_of_tables
tables_sent a v custom tables body left x h =
    let compression = went (unless (not tables.compressed) (Unsupported features.Compression)) _ x h in
    let rows = went (natural tables.length) _ x compression.rest in
    let negative = went (only_if (none_negative tables.buffers) _) _ x rows.rest in
    let sum = went (only_if (nat_le (lengths_sum tables.buffers) a.most) _) _ x negative.rest in
    let columns = went (columns_at (record_batch_of a.order v tables body) a.dictionaries a.columns a.fields 0 first_place rows.got (share left rows.got)) _ x sum.rest in
    let e : record { rows = share left rows.got; columns = as_asked a.columns columns.got; custom = custom } ≡ x = read _ x columns.rest in
    record {
      rows = rows.got;
      count = rows.first;
      cut = ap (λ (y : TableBatch). y.rows) e;
      whole = on _ _ _ compression.first ∙ on _ _ _ rows.first ∙ on _ _ _ negative.first ∙ on _ _ _ sum.first ∙ on _ _ _ columns.first
          ∙ ap (λ y. sends (may_be_sent (message_of_tables a v custom tables body left rows.got)) y) e;
    }

-- how a block is sent that is read
pub record BlockSent (b : List ℕ) (a : Asked) (block : FileBlock) (left : Option ℕ) (x : TableBatch) : Type 0 where
  pub message : SentMessage
  pub found : batch_sent b a block left ≡ Ok (message, x.rows)
  pub whole : batch_of to_send b a block left ≡ sends (may_be_sent message) x

pub block_sent : (b : List ℕ) (a : Asked) (block : FileBlock) (left : Option ℕ) (x : TableBatch) → batch_of to_read b a block left ≡ Ok x → BlockSent b a block left x
unfolding batch_of batch_sent
block_sent b a block left x h =
    let m = went (block_message b block 3) _ x h in
    let tables = went (batch_at m.got.0 m.got.1.header) _ x m.rest in
    let version = went (version_of m.got.0 m.got.1) _ x tables.rest in
    let custom = went (message_pairs m.got.0) _ x version.rest in
    let whole = tables_sent a version.got custom.got tables.got (block_body b block) left x custom.rest in
    record {
      message = message_of_tables a version.got custom.got tables.got (block_body b block) left whole.rows;
      found = on _ _ _ m.first ∙ on _ _ _ tables.first ∙ on _ _ _ version.first ∙ on _ _ _ custom.first ∙ on _ _ _ whole.count
          ∙ ap (λ n. Ok (message_of_tables a version.got custom.got tables.got (block_body b block) left whole.rows, n)) whole.cut;
      whole = on _ _ _ m.first ∙ on _ _ _ tables.first ∙ on _ _ _ version.first ∙ on _ _ _ custom.first ∙ whole.whole;
    }

-- how blocks are sent that are read, behind the first of all
record BlocksSent (b : List ℕ) (a : Asked) (blocks : List FileBlock) (left : Option ℕ) (xs : List TableBatch) : Type 0 where
  messages : List SentMessage
  found : batches_sent b a blocks left ≡ Ok messages
  whole : batches_of to_send b a false blocks left ≡ sends (all_may_be_sent messages) xs

blocks_sent : (b : List ℕ) (a : Asked) (blocks : List FileBlock) (left : Option ℕ) (xs : List TableBatch) → batches_of to_read b a false blocks left ≡ Ok xs → BlocksSent b a blocks left xs
unfolding batches_of batches_sent
blocks_sent b a [] left xs h =
    let e : [] ≡ xs = cc in
    record { messages = []; found = refl; whole = ap Ok e ∙ sym (on (if_sent to_send true) (λ size. Ok xs) tt refl) }
blocks_sent b a (block ∷ blocks) left xs h =
    let first = went (batch_of to_read b a block left) _ xs h in
    let flag = went nothing _ xs first.rest in
    let others = went (batches_of to_read b a false blocks (what_is_left left first.got.rows)) _ xs flag.rest in
    let e : first.got ∷ others.got ≡ xs = cc (others.rest) in
    let mine = block_sent b a block left first.got first.first in
    let rest = blocks_sent b a blocks (what_is_left left first.got.rows) others.got others.first in
    record {
      messages = mine.message ∷ rest.messages;
      found = on _ _ _ mine.found ∙ on _ _ _ rest.found;
      whole = ap (λ x. x >>= λ first. nothing >>= λ u. batches_of to_send b a false blocks (what_is_left left first.rows) >>= λ others. Ok (first ∷ others)) mine.whole
          ∙ sends_then (may_be_sent mine.message) (all_may_be_sent rest.messages) first.got (λ first. nothing >>= λ u. batches_of to_send b a false blocks (what_is_left left first.rows) >>= λ others. Ok (first ∷ others)) xs
          (on _ _ tt refl ∙ ap (λ ys. ys >>= λ others. Ok (first.got ∷ others)) rest.whole ∙ sends_as (all_may_be_sent rest.messages) others.got (λ ys. first.got ∷ ys) ∙ ap (λ ys. sends (all_may_be_sent rest.messages) ys) e);
    }

-- all blocks, with the dictionaries before them
record AllSent (b : List ℕ) (a : Asked) (blocks : List FileBlock) (left : Option ℕ) (xs : List TableBatch) : Type 0 where
  messages : List SentMessage
  found : batches_sent b a blocks left ≡ Ok messages
  whole : batches_of to_send b a true blocks left ≡ sends (all_may_be_sent (dictionaries_before (dictionary_messages a.dictionaries (fields_as_asked a.columns a.fields)) blocks ++ messages)) xs

all_sent : (b : List ℕ) (a : Asked) (blocks : List FileBlock) (left : Option ℕ) (xs : List TableBatch) → batches_of to_read b a true blocks left ≡ Ok xs → AllSent b a blocks left xs
unfolding batches_of batches_sent
all_sent b a [] left xs h =
    let e : [] ≡ xs = cc in
    record { messages = []; found = refl; whole = ap Ok e ∙ sym (on (if_sent to_send true) (λ size. Ok xs) tt refl) }
all_sent b a (block ∷ blocks) left xs h =
    let first = went (batch_of to_read b a block left) _ xs h in
    let flag = went nothing _ xs first.rest in
    let others = went (batches_of to_read b a false blocks (what_is_left left first.got.rows)) _ xs flag.rest in
    let e : first.got ∷ others.got ≡ xs = cc (others.rest) in
    let mine = block_sent b a block left first.got first.first in
    let rest = blocks_sent b a blocks (what_is_left left first.got.rows) others.got others.first in
    let dictionaries = dictionary_messages a.dictionaries (fields_as_asked a.columns a.fields) in
    let fits : all_may_be_sent (dictionaries ++ (mine.message ∷ rest.messages)) ≡ may_be_sent mine.message && (all_may_be_sent dictionaries && all_may_be_sent rest.messages)
    = all_may-append dictionaries (mine.message ∷ rest.messages) ∙ turned (all_may_be_sent dictionaries) (may_be_sent mine.message) (all_may_be_sent rest.messages) in
    record {
      messages = mine.message ∷ rest.messages;
      found = on _ _ _ mine.found ∙ on _ _ _ rest.found;
      whole = ap (λ x. x >>= λ first. if_sent to_send (all_may_be_sent dictionaries) >>= λ u. batches_of to_send b a false blocks (what_is_left left first.rows) >>= λ others. Ok (first ∷ others)) mine.whole
          ∙ sends_then (may_be_sent mine.message) (all_may_be_sent dictionaries && all_may_be_sent rest.messages) first.got (λ first. if_sent to_send (all_may_be_sent dictionaries) >>= λ u. batches_of to_send b a false blocks (what_is_left left first.rows) >>= λ others. Ok (first ∷ others)) xs
          (size_then (all_may_be_sent dictionaries) (all_may_be_sent rest.messages) _ xs
          (ap (λ ys. ys >>= λ others. Ok (first.got ∷ others)) rest.whole ∙ sends_as (all_may_be_sent rest.messages) others.got (λ ys. first.got ∷ ys) ∙ ap (λ ys. sends (all_may_be_sent rest.messages) ys) e))
          ∙ ap (λ t. sends t xs) (sym fits);
    }

-- ── the file ──

-- how a file is sent that is read
record FileSent (b : List ℕ) (r : Request) (j : Option ℕ) (t : ArrowTable) : Type 0 where
  messages : List SentMessage
  found : sent b r j ≡ Ok messages
  whole : file_reading to_send b r j ≡ sends (all_may_be_sent messages) t

file_sent : (b : List ℕ) (r : Request) (j : Option ℕ) (t : ArrowTable) → file_reading to_read b r j ≡ Ok t → FileSent b r j t
unfolding file_reading sent
file_sent b r j t h =
    let meta = went (meta_of b) _ t h in
    let custom = went (custom_of b) _ t meta.rest in
    let columns = went (columns_right r.columns (width meta.got.schema.fields)) _ t custom.rest in
    let floats = went (free_of _) _ t columns.rest in
    let size = went nothing _ t floats.rest in
    let dictionaries = went (dictionaries_of b meta.got [] (dictionaries_read (taken j meta.got.blocks) meta.got.dictionaries)) _ t size.rest in
    let asked : Asked = record { order = meta.got.schema.order; fields = meta.got.schema.fields; columns = r.columns; dictionaries = dictionaries.got; most = length b } in
    let batches = went (batches_of to_read b asked true (taken j meta.got.blocks) r.limit) _ t dictionaries.rest in
    let table : List TableBatch → ArrowTable = λ xs. record { metadata = meta.got.schema.metadata; custom = custom.got; fields = bare (fields_as_asked r.columns meta.got.schema.fields); batches = xs } in
    let e : table batches.got ≡ t = same_read (table batches.got) t batches.rest in
    let all = all_sent b asked (taken j meta.got.blocks) r.limit batches.got batches.first in
    let schema = stream_schema (fields_as_asked r.columns meta.got.schema.fields) meta.got.schema.metadata custom.got in
    let others = dictionaries_before (dictionary_messages dictionaries.got (fields_as_asked r.columns meta.got.schema.fields)) (taken j meta.got.blocks) ++ all.messages in
    record {
      messages = schema ∷ others;
      found = on _ _ _ meta.first ∙ on _ _ _ custom.first ∙ on _ _ _ dictionaries.first ∙ on _ _ _ all.found;
      whole = on _ _ _ meta.first ∙ on _ _ _ custom.first ∙ on _ _ _ columns.first ∙ on _ _ _ floats.first
          ∙ size_then (may_be_sent schema) (all_may_be_sent others) _ t
          (on _ _ _ dictionaries.first ∙ ap (λ xs. xs >>= λ batches. Ok (table batches)) all.whole ∙ sends_as (all_may_be_sent others) batches.got table ∙ ap (λ y. sends (all_may_be_sent others) y) e);
    }

pub sends_whole : {A : Type 0} (p : Bool) (x : A) → p ≡ true → sends p x ≡ Ok x
unfolding bind
sends_whole true x h = refl
sends_whole false x h = cc

pub sends_too_large : {A : Type 0} (p : Bool) (x : A) → p ≡ false → sends p x ≡ Err (TooLarge ∷ [])
unfolding bind
sends_too_large true x h = cc
sends_too_large false x h = refl

pub too_large_where_a_message_is : TooLargeWhereAMessageIs
too_large_where_a_message_is b r j t h =
    let all = file_sent b r j t h in
    record {
      messages = all.messages;
      are_sent = all.found;
      whole = λ fits. all.whole ∙ sends_whole (all_may_be_sent all.messages) t fits;
      too_large = λ fits. all.whole ∙ sends_too_large (all_may_be_sent all.messages) t fits;
    }
