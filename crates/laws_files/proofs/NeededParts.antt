-- What a file means under a request depends on the parts that are fetched, and so on those that the request needs.
use Rattle.std.proofs.Common.{◌≡◌, ℕ, zero, suc, ◌+◌, ◌-◌, ◌*◌, ◌<◌, ◌≤◌, List, [], ◌∷◌, ◌++◌, length, take, drop, Option, Some, None, Bool, true, false, Ok, Err, Result, refl, sym, ◌∙◌, ap, arith, not, ◌&&◌, ◌||◌, cond, min, inl, inr, length-drop}
use Rattle.std.specs.Prelude.{nat_le, nat_eq, slice_get}
use Rattle.std.specs.List.{AllByRecursion}
use Rattle.std.specs.Int.{Width, w32, byte_len}
use Rattle.std.specs.Str.{bytes_eq}
use Rattle.std.proofs.lemmas.List.{length-take, take_all, drop-drop}
use Rattle.std.proofs.lemmas.Bool.{leb-true}
use Rattle.arrow_spec.specs.declared.error.IpcError.{IpcError}
use Rattle.arrow_spec.specs.declared.error.IpcError.TheVariants.{OutOfSpec, Unsupported}
use Rattle.arrow_spec.specs.declared.error.OutOfSpecKind.TheVariants as kinds
use Rattle.arrow_spec.specs.declared.error.Feature.TheVariants as features
use Rattle.arrow_spec.specs.declared.message.MetadataVersion.{MetadataVersion}
use Rattle.arrow_spec.specs.declared.message.IpcBuffer.{IpcBuffer}
use Rattle.arrow_spec.specs.Readings.{◌>>=◌, Reading, free_of, unless, only_if, meaning, required, natural, as_kind, is_absent}
use Rattle.arrow_spec.specs.Flat.{Order, part, little, fold_number, in_range, unsigned_at, signed_at}
use Rattle.arrow_spec.specs.Kinds.{Kind, Fields, Metadata, none, field, uses_in, values_under, same}
use Rattle.arrow_spec.specs.Cells.{Cell}
use Rattle.arrow_spec.specs.Schema.{Schema}
use Rattle.arrow_spec.specs.Messages.{Message, BatchHeader, DictionaryBatch, is_mark, prefix_of, message_of, version_of, message_pairs, batch_at, dictionary_at}
use Rattle.arrow_spec.specs.Counts.{RecordBatch, Place, first_place, after, magnitude}
use Rattle.arrow_spec.specs.Arrays.{Dictionaries, HeldDictionary, found, buf, range_of}
use Rattle.arrow_spec.specs.Faults.{count_faults, top_node_faults, column_faults}
use Rattle.arrow_spec.specs.Columns.{chosen_faults, chosen_cells, columns_at, is_chosen}
use Rattle.arrow_spec.specs.Features.{float_faults}
use Rattle.arrow_spec.specs.Files.{Request, FileBlock, Meta, TableBatch, ArrowTable, Asked, to_read, share, what_is_left, as_asked, record_batch_of, batch_of_tables, lengths_sum, none_negative, block_message, block_body, batch_of, batches_of, dictionary_of, dictionaries_of, dictionaries_read, dictionaries_sent, first_column, file_reading, footer_of, footer_length, last, feather_v1, arrow_1, meta_of, custom_of}
use Rattle.arrow_spec.specs.Needed.{Range, looked_at, columns_looked_at, ranges, message_range, all_need, or_nothing}
use Rattle.laws_files.specs.Fetched.{batch_fetched, batches_fetched, dictionary_fetched, fetched, for_rows, parts_fetched}
use Rattle.arrow_spec.specs.Meaning.{file_table}
use Rattle.laws_files.specs.FileLaws.{AgreeOn, DependsOnFetched, DependsOnNeeded}
use Rattle.laws_files.proofs.FetchedParts.{all_first, all_second, fetched_among}
use Rattle.laws_files.proofs.NoRows.{columns_at-no_rows}
use Rattle.arrow_spec.proofs.Fewer.{none_second}
use Rattle.arrow_spec.proofs.Projection.{went, on, place-ok, ok-place, no_dictionaries_sent, no_size, nothing, some_meaning}
use Rattle.laws_files.proofs.SameBuffers.{with_body, AreSame, SameCells, array_faults-same, cell-same, from_on-same}
use Rattle.laws_files.proofs.SameParts.{part_within, part_of_front, take-take_less}

-- ── columns ──

chosen_same : (chosen : Bool) (m : RecordBatch) (b : List ℕ) (d d' : Dictionaries) → length b ≡ length m.body → SameCells d d' → (k : Kind) (p : Place) (rows few : ℕ) → AreSame m b (cond chosen (looked_at m k p) []) → chosen_faults chosen (with_body m b) d' k p rows few ≡ chosen_faults chosen m d k p rows few
unfolding column_faults count_faults
chosen_same true m b d d' len same k p rows few h = ap (λ es. count_faults m k p ++ top_node_faults (slice_get m.nodes p.node) rows ++ es) (array_faults-same m b d d' len same k p few h)
chosen_same false m b d d' len same k p rows few h = refl

cells_same : (chosen : Bool) (m : RecordBatch) (b : List ℕ) (d d' : Dictionaries) → SameCells d d' → (k : Kind) (p : Place) (rows few : ℕ) → AreSame m b (cond chosen (looked_at m k p) []) → chosen_faults chosen m d k p rows few ≡ [] → chosen_cells chosen (with_body m b) d' k p few ≡ chosen_cells chosen m d k p few
unfolding column_faults
cells_same true m b d d' same k p rows few h fits = from_on-same _ _ 0 few (λ j above below. cell-same m b d d' same k p few j (omega (arith, below)) h (none_second _ _ fits))
cells_same false m b d d' same k p rows few h fits = refl

pub columns_at-same : (m : RecordBatch) (b : List ℕ) (d d' : Dictionaries) → length b ≡ length m.body → SameCells d d' → (asked : Option (List ℕ)) (fs : Fields) (c : ℕ) (p : Place) (rows few : ℕ) (cols : List (List Cell)) → AreSame m b (columns_looked_at m asked fs c p) → columns_at m d asked fs c p rows few ≡ Ok cols → columns_at (with_body m b) d' asked fs c p rows few ≡ Ok cols
unfolding columns_at
columns_at-same m b d d' len same asked none c p rows few cols h whole = whole
columns_at-same m b d d' len same asked (field name nullable metadata k others) c p rows few cols h whole =
    let mine = all_first _ (cond (is_chosen asked c) (looked_at m k p) []) _ h in
    let first = went (free_of (chosen_faults (is_chosen asked c) m d k p rows few)) _ cols whole in
    let fits = place-ok _ first.first in
    let second = went (columns_at m d asked others (suc c) (after m k p) rows few) _ cols first.rest in
    let rest = columns_at-same m b d d' len same asked others (suc c) (after m k p) rows few second.got (all_second _ (cond (is_chosen asked c) (looked_at m k p) []) _ h) second.first in
    on _ _ _ (ok-place _ (chosen_same (is_chosen asked c) m b d d' len same k p rows few mine ∙ fits))
    ∙ on _ _ _ rest
    ∙ ap (λ x. Ok (x ∷ second.got)) (cells_same (is_chosen asked c) m b d d' same k p rows few mine fits)
    ∙ second.rest

-- the buffers that are looked at where so many rows are read
abbrev looked_for : ℕ → List ℕ → List ℕ
looked_for zero is = []
looked_for (suc n) is = is

columns_at-few : (m : RecordBatch) (b : List ℕ) (d d' : Dictionaries) → length b ≡ length m.body → SameCells d d' → (asked : Option (List ℕ)) (fs : Fields) (c : ℕ) (p : Place) (rows few : ℕ) (cols : List (List Cell)) → AreSame m b (looked_for few (columns_looked_at m asked fs c p)) → columns_at m d asked fs c p rows few ≡ Ok cols → columns_at (with_body m b) d' asked fs c p rows few ≡ Ok cols
columns_at-few m b d d' len same asked fs c p rows zero cols h whole = columns_at-no_rows m b d d' asked fs c p rows ∙ whole
columns_at-few m b d d' len same asked fs c p rows (suc n) cols h whole = columns_at-same m b d d' len same asked fs c p rows (suc n) cols h whole

-- ── messages ──

part-same : (x y : List ℕ) (at n : ℕ) → length y ≡ length x → take n (drop at y) ≡ take n (drop at x) → part y at n ≡ part x at n
part-same x y at n len e = ap (λ l. cond (nat_le (at + n) l) (Some (take n (drop at y))) None) len ∙ ap (λ bytes. cond (nat_le (at + n) (length x)) (Some bytes) None) e

unsigned_at-same : (w : Width) (x y : List ℕ) (at : ℕ) → length y ≡ length x → take (byte_len w) (drop at y) ≡ take (byte_len w) (drop at x) → unsigned_at w y at ≡ unsigned_at w x at
unsigned_at-same w x y at len e = ap (λ found. in_range (fold_number little w found)) (part-same x y at (byte_len w) len e)

signed_at-same : (w : Width) (x y : List ℕ) (at : ℕ) → length y ≡ length x → take (byte_len w) (drop at y) ≡ take (byte_len w) (drop at x) → signed_at w y at ≡ signed_at w x at
signed_at-same w x y at len e = ap (λ r. r >>= λ n. Ok (Rattle.std.specs.Int.cast_signed w n)) (unsigned_at-same w x y at len e)

-- a prefix whose metadata begins at a place
abbrev prefix_from : List ℕ → ℕ → Reading (ℕ × ℕ)
prefix_from b start = as_kind (λ f. kinds.MessageRange) (signed_at w32 b (start - 4)) >>= λ n. natural n >>= λ l. only_if (nat_le (start + l) (length b)) kinds.MessageRange >>= λ inside. Ok (start, l)

abbrev start_of : List ℕ → ℕ
start_of b = cond (is_mark (take 4 b)) 8 4

prefix_from-start : (b : List ℕ) (start : ℕ) (p : ℕ × ℕ) → prefix_from b start ≡ Ok p → (p.0 ≡ start) × (p.0 + p.1 ≤ length b)
prefix_from-start b start p h =
    let first = went (as_kind (λ f. kinds.MessageRange) (signed_at w32 b (start - 4))) _ p h in
    let second = went (natural first.got) _ p first.rest in
    let third = went (only_if (nat_le (start + second.got) (length b)) kinds.MessageRange) _ p second.rest in
    let e : (start, second.got) ≡ p = cc (third.rest) in
    let inside : start + second.got ≤ length b = leb-true (start + second.got) (length b) (is_true (nat_le (start + second.got) (length b)) third.got third.first) in
    (ap (λ q. q.0) (sym e), Rattle.std.proofs.Common.subst (λ q. q.0 + q.1 ≤ length b) e inside)
  where
    is_true : (t : Bool) (u : Unit {0}) → only_if t kinds.MessageRange ≡ Ok u → t ≡ true
    is_true true u h = refl
    is_true false u h = cc

prefix_of-from : (b : List ℕ) → prefix_of b ≡ (as_kind (λ f. kinds.MessageRange) (unsigned_at w32 b 0) >>= λ first. prefix_from b (start_of b))
unfolding prefix_of
prefix_of-from b = refl

prefix_from-same : (x y : List ℕ) (start : ℕ) → length y ≡ length x → take 4 (drop (start - 4) y) ≡ take 4 (drop (start - 4) x) → prefix_from y start ≡ prefix_from x start
prefix_from-same x y start len e = ap (λ r. as_kind (λ f. kinds.MessageRange) r >>= λ n. natural n >>= λ l. only_if (nat_le (start + l) (length y)) kinds.MessageRange >>= λ inside. Ok (start, l)) (signed_at-same w32 x y (start - 4) len e)
    ∙ ap (λ m. as_kind (λ f. kinds.MessageRange) (signed_at w32 x (start - 4)) >>= λ n. natural n >>= λ l. only_if (nat_le (start + l) m) kinds.MessageRange >>= λ inside. Ok (start, l)) len

start_within : (b : List ℕ) → (4 ≤ start_of b) × (start_of b - 4 + 4 ≤ start_of b)
start_within b = elim (is_mark (take 4 b)) as (λ t. (4 ≤ cond t 8 4) × (cond t 8 4 - 4 + 4 ≤ cond t 8 4)) [ true ↦ (omega arith, omega arith) | false ↦ (omega arith, omega arith) ]

-- a prefix is read the same where it and its metadata are the same
pub prefix_of-same : (x y : List ℕ) (p : ℕ × ℕ) → length y ≡ length x → prefix_of x ≡ Ok p → take (p.0 + p.1) y ≡ take (p.0 + p.1) x → prefix_of y ≡ Ok p
prefix_of-same x y p len h same =
    let whole = went (as_kind (λ f. kinds.MessageRange) (unsigned_at w32 x 0)) (λ first. prefix_from x (start_of x)) p (sym (prefix_of-from x) ∙ h) in
    let start = prefix_from-start x (start_of x) p whole.rest in
    let bounds = start_within x in
    let front : take 4 y ≡ take 4 x = part_within x y 0 (p.0 + p.1) 0 4 same (omega arith) (omega (arith, start.0, bounds.0)) in
    let number : take 4 (drop (start_of x - 4) y) ≡ take 4 (drop (start_of x - 4) x) = part_within x y 0 (p.0 + p.1) (start_of x - 4) 4 same (omega arith) (omega (arith, start.0, bounds.1)) in
    let starts : start_of y ≡ start_of x = ap (λ bytes. cond (is_mark bytes) 8 4) front in
    prefix_of-from y
    ∙ ap (λ r. as_kind (λ f. kinds.MessageRange) r >>= λ first. prefix_from y (start_of y)) (unsigned_at-same w32 x y 0 len front)
    ∙ ap (λ s. as_kind (λ f. kinds.MessageRange) (unsigned_at w32 x 0) >>= λ first. prefix_from y s) starts
    ∙ ap (λ r. as_kind (λ f. kinds.MessageRange) (unsigned_at w32 x 0) >>= λ first. r) (prefix_from-same x y (start_of x) len number)
    ∙ sym (prefix_of-from x)
    ∙ h

length-part : (x y : List ℕ) (o n : ℕ) → length y ≡ length x → length (take n (drop o y)) ≡ length (take n (drop o x))
length-part x y o n len = omega (arith, len, length-take n (drop o y), length-take n (drop o x), length-drop o y, length-drop o x)

-- what a block's message needs, and that it is the same where that is the same
pub record MessageDepends (b : List ℕ) (block : FileBlock) (tag : ℕ) (m : List ℕ × Message) : Type 0 where
  pub range : Range
  pub needed : message_range b block ≡ Ok range
  pub same : (b' : List ℕ) → length b' ≡ length b → take range.length (drop range.place b') ≡ take range.length (drop range.place b) → block_message b' block tag ≡ Ok m

pub message_depends : (b : List ℕ) (block : FileBlock) (tag : ℕ) (m : List ℕ × Message) → block_message b block tag ≡ Ok m → MessageDepends b block tag m
unfolding block_message
message_depends b block tag m h =
    let first = went (only_if (nat_le (block.offset + block.metadata + block.body) (length b)) kinds.BlockRange) _ m h in
    let c = take block.metadata (drop block.offset b) in
    let second = went (prefix_of c) _ m first.rest in
    let p = second.got in
    let whole = went (as_kind (λ f. kinds.MessageRange) (unsigned_at w32 c 0)) (λ u. prefix_from c (start_of c)) p (sym (prefix_of-from c) ∙ second.first) in
    let inside : p.0 + p.1 ≤ length c = (prefix_from-start c (start_of c) p whole.rest).1 in
    let short : p.0 + p.1 ≤ block.metadata = omega (arith, inside, length-take block.metadata (drop block.offset b)) in
    record {
      range = record { place = block.offset; length = p.0 + p.1 };
      needed = on (prefix_of c) (λ prefix. Ok (record { place = block.offset; length = prefix.0 + prefix.1 })) p second.first;
      same = λ b' len agree.
          let c' = take block.metadata (drop block.offset b') in
          let clen : length c' ≡ length c = length-part b b' block.offset block.metadata len in
          let front : take (p.0 + p.1) c' ≡ take (p.0 + p.1) c = take-take_less (p.0 + p.1) block.metadata (drop block.offset b') short ∙ agree ∙ sym (take-take_less (p.0 + p.1) block.metadata (drop block.offset b) short) in
          let bytes : take p.1 (drop (block.offset + p.0) b') ≡ take p.1 (drop (block.offset + p.0) b) = part_within b b' block.offset (p.0 + p.1) (block.offset + p.0) p.1 agree (omega arith) (omega arith) in
          ap (λ n. only_if (nat_le (block.offset + block.metadata + block.body) n) kinds.BlockRange >>= λ u. prefix_of c' >>= λ q. message_of (take q.1 (drop (block.offset + q.0) b')) (λ t. nat_eq t tag) >>= λ x. Ok (take q.1 (drop (block.offset + q.0) b'), x)) len
          ∙ on _ _ first.got first.first
          ∙ on _ _ p (prefix_of-same c c' p clen second.first front)
          ∙ ap (λ bs. message_of bs (λ t. nat_eq t tag) >>= λ x. Ok (bs, x)) bytes
          ∙ second.rest;
    }

-- ── bodies ──

-- where a body begins in the file
abbrev body_start : FileBlock → ℕ
body_start block = block.offset + block.metadata

body_range : (b b' : List ℕ) (block : FileBlock) (x : IpcBuffer) → take (magnitude x.length) (drop (body_start block + magnitude x.offset) b') ≡ take (magnitude x.length) (drop (body_start block + magnitude x.offset) b) → take (magnitude x.length) (drop (magnitude x.offset) (block_body b' block)) ≡ take (magnitude x.length) (drop (magnitude x.offset) (block_body b block))
body_range b b' block x agree =
    let s = body_start block in
    let o = magnitude x.offset in
    let l = magnitude x.length in
    let few : min l (block.body - o) ≤ l = omega arith in
    let part : take (min l (block.body - o)) (drop (s + o) b') ≡ take (min l (block.body - o)) (drop (s + o) b) = part_within b b' (s + o) l (s + o) (min l (block.body - o)) agree (omega arith) (omega (arith, few)) in
    part_of_front (drop s b') block.body o l
    ∙ ap (λ ys. take (min l (block.body - o)) ys) (drop-drop o s b')
    ∙ part
    ∙ ap (λ ys. take (min l (block.body - o)) ys) (sym (drop-drop o s b))
    ∙ sym (part_of_front (drop s b) block.body o l)

body_same : (b b' : List ℕ) (block : FileBlock) (m : RecordBatch) → m.body ≡ block_body b block → (is : List ℕ) → AgreeOn b b' (ranges m (body_start block) is) → AreSame m (block_body b' block) is
unfolding buf
body_same b b' block m here [] agree = tt
body_same b b' block m here (i ∷ is) agree = (body_range b b' block (range_of m i) agree.0 ∙ ap (λ bytes. take (magnitude (range_of m i).length) (drop (magnitude (range_of m i).offset) bytes)) (sym here), body_same b b' block m here is agree.1)

body_few : (b b' : List ℕ) (block : FileBlock) (m : RecordBatch) → m.body ≡ block_body b block → (n : ℕ) (is : List ℕ) → AgreeOn b b' (for_rows n (ranges m (body_start block) is)) → AreSame m (block_body b' block) (looked_for n is)
body_few b b' block m here zero is agree = tt
body_few b b' block m here (suc n) is agree = body_same b b' block m here is agree

-- the same asked with other dictionaries
abbrev with_dictionaries : Asked → Dictionaries → Asked
with_dictionaries a d = record { order = a.order; fields = a.fields; columns = a.columns; dictionaries = d; most = a.most }

-- how many rows are read of a batch, and that it is the same where the buffers for them are
record TablesDepend (a : Asked) (v : MetadataVersion) (custom : Metadata) (tables : BatchHeader) (body : List ℕ) (left : Option ℕ) (x : TableBatch) : Type 0 where
  rows : ℕ
  count : natural tables.length ≡ Ok rows
  cut : share left rows ≡ x.rows
  same : (body' : List ℕ) (d' : Dictionaries) → length body' ≡ length body → SameCells a.dictionaries d' → AreSame (record_batch_of a.order v tables body) body' (looked_for (share left rows) (columns_looked_at (record_batch_of a.order v tables body) a.columns a.fields 0 first_place))
      → batch_of_tables to_read (with_dictionaries a d') v custom tables body' left ≡ Ok x

tables_depend : (a : Asked) (v : MetadataVersion) (custom : Metadata) (tables : BatchHeader) (body : List ℕ) (left : Option ℕ) (x : TableBatch) → batch_of_tables to_read a v custom tables body left ≡ Ok x → TablesDepend a v custom tables body left x
unfolding batch_of_tables
tables_depend a v custom tables body left x h =
    let compression = went (unless (not tables.compressed) (Unsupported features.Compression)) _ x h in
    let rows = went (natural tables.length) _ x compression.rest in
    let negative = went (only_if (none_negative tables.buffers) _) _ x rows.rest in
    let sum = went (only_if (nat_le (lengths_sum tables.buffers) a.most) _) _ x negative.rest in
    let m = record_batch_of a.order v tables body in
    let columns = went (columns_at m a.dictionaries a.columns a.fields 0 first_place rows.got (share left rows.got)) _ x sum.rest in
    let e : record { rows = share left rows.got; columns = as_asked a.columns columns.got; custom = custom } ≡ x = no_size _ x columns.rest in
    record {
      rows = rows.got;
      count = rows.first;
      cut = ap (λ (y : TableBatch). y.rows) e;
      same = λ body' d' len same agree.
          on _ _ _ compression.first ∙ on _ _ _ rows.first ∙ on _ _ _ negative.first ∙ on _ _ _ sum.first
          ∙ on _ _ _ (columns_at-few m body' a.dictionaries d' len same a.columns a.fields 0 first_place rows.got (share left rows.got) columns.got agree columns.first)
          ∙ on _ _ tt refl ∙ ap Ok e;
    }

-- ── record blocks ──

-- what a record block needs, and that it is the same where that is the same
pub record BatchDepends (b : List ℕ) (meta : Meta) (r : Request) (block : FileBlock) (a : Asked) (left : Option ℕ) (x : TableBatch) : Type 0 where
  pub parts : List Range
  pub needed : batch_fetched b meta r block left ≡ Ok (parts, x.rows)
  pub same : (b' : List ℕ) (d' : Dictionaries) → length b' ≡ length b → SameCells a.dictionaries d' → AgreeOn b b' parts → batch_of to_read b' (with_dictionaries a d') block left ≡ Ok x

abbrev asked_in : Meta → Request → Dictionaries → ℕ → Asked
asked_in meta r d most = record { order = meta.schema.order; fields = meta.schema.fields; columns = r.columns; dictionaries = d; most = most }

pub batch_depends : (b : List ℕ) (meta : Meta) (r : Request) (block : FileBlock) (d : Dictionaries) (left : Option ℕ) (x : TableBatch) → batch_of to_read b (asked_in meta r d (length b)) block left ≡ Ok x → BatchDepends b meta r block (asked_in meta r d (length b)) left x
unfolding batch_of batch_fetched
batch_depends b meta r block d left x h =
    let message = went (block_message b block 3) _ x h in
    let tables = went (batch_at message.got.0 message.got.1.header) _ x message.rest in
    let version = went (version_of message.got.0 message.got.1) _ x tables.rest in
    let custom = went (message_pairs message.got.0) _ x version.rest in
    let depends = message_depends b block 3 message.got message.first in
    let source = record_batch_of meta.schema.order version.got tables.got (block_body b block) in
    let whole = tables_depend (asked_in meta r d (length b)) version.got custom.got tables.got (block_body b block) left x custom.rest in
    let parts = depends.range ∷ for_rows (share left whole.rows) (ranges source (body_start block) (columns_looked_at source r.columns meta.schema.fields 0 first_place)) in
    record {
      parts = parts;
      needed = on _ _ _ message.first ∙ on _ _ _ tables.first ∙ on _ _ _ version.first ∙ on _ _ _ depends.needed ∙ on _ _ _ whole.count ∙ ap (λ n. Ok (parts, n)) whole.cut;
      same = λ b' d' len same agree.
          on _ _ _ (depends.same b' len agree.0) ∙ on _ _ _ tables.first ∙ on _ _ _ version.first ∙ on _ _ _ custom.first
          ∙ whole.same (block_body b' block) d' (length-part b b' (body_start block) block.body len) same (body_few b b' block source refl (share left whole.rows) _ agree.1);
    }

pub record BatchesDepend (b : List ℕ) (meta : Meta) (r : Request) (is_first : Bool) (blocks : List FileBlock) (a : Asked) (left : Option ℕ) (xs : List TableBatch) : Type 0 where
  pub parts : List Range
  pub needed : batches_fetched b meta r blocks left ≡ Ok parts
  pub same : (b' : List ℕ) (d' : Dictionaries) → length b' ≡ length b → SameCells a.dictionaries d' → AgreeOn b b' parts → batches_of to_read b' (with_dictionaries a d') is_first blocks left ≡ Ok xs

pub batches_depend : (b : List ℕ) (meta : Meta) (r : Request) (is_first : Bool) (blocks : List FileBlock) (d : Dictionaries) (left : Option ℕ) (xs : List TableBatch) → batches_of to_read b (asked_in meta r d (length b)) is_first blocks left ≡ Ok xs → BatchesDepend b meta r is_first blocks (asked_in meta r d (length b)) left xs
unfolding batches_of batches_fetched
batches_depend b meta r is_first [] d left xs h = record { parts = []; needed = refl; same = λ b' d' len same agree. h }
batches_depend b meta r is_first (block ∷ blocks) d left xs h =
    let a = asked_in meta r d (length b) in
    let first = went (batch_of to_read b a block left) _ xs h in
    let flag = went (dictionaries_sent is_first to_read a) _ xs first.rest in
    let others = went (batches_of to_read b a false blocks (what_is_left left first.got.rows)) _ xs flag.rest in
    let one = batch_depends b meta r block d left first.got first.first in
    let rest = batches_depend b meta r false blocks d (what_is_left left first.got.rows) others.got others.first in
    record {
      parts = one.parts ++ rest.parts;
      needed = on _ _ _ one.needed ∙ on _ _ _ rest.needed;
      same = λ b' d' len same agree.
          on _ _ _ (one.same b' d' len same (all_first _ one.parts rest.parts agree))
          ∙ on _ _ tt (no_dictionaries_sent is_first (with_dictionaries a d'))
          ∙ on _ _ _ (rest.same b' d' len same (all_second _ one.parts rest.parts agree))
          ∙ others.rest;
    }

-- ── dictionaries ──

all_nil : {A : Type 0} (P : A → Type 0) (xs : List A) → AllByRecursion P xs → AllByRecursion P (xs ++ [])
all_nil P [] h = tt
all_nil P (x ∷ xs) h = (h.0, all_nil P xs h.1)

-- the same id and cells
pub record SameValues (x y : HeldDictionary) : Type 0 where
  pub id : y.id ≡ x.id
  pub is_delta : y.is_delta ≡ x.is_delta
  pub cells : y.cells ≡ x.cells

same_cells_more : (x y : HeldDictionary) (d d' : Dictionaries) → SameValues x y → SameCells d d' → SameCells (x ∷ d) (y ∷ d')
same_cells_more x y d d' e h id = rw (e.id, e.is_delta, e.cells, h id) refl

-- the values of a dictionary, as they are asked
abbrev values_asked : Order → Kind → Dictionaries → ℕ → Asked
values_asked order kind d most = record { order = order; fields = field [] true [] kind none; columns = None; dictionaries = d; most = most }

-- what a reading of a dictionary gave over another body and other dictionaries
pub record DictionarySame (s : Schema) (d' : Dictionaries) (most : ℕ) (x : DictionaryBatch) (v : MetadataVersion) (body' : List ℕ) (y : HeldDictionary) : Type 0 where
  pub got : HeldDictionary
  pub read : dictionary_of s d' most x v body' false ≡ Ok got
  pub values : SameValues y got

-- the kind of a dictionary's values, how many of them are read, and that they are the same where the buffers for them are
record DictionaryDepends (s : Schema) (d : Dictionaries) (most : ℕ) (x : DictionaryBatch) (v : MetadataVersion) (body : List ℕ) (y : HeldDictionary) : Type 0 where
  kind : Kind
  found : required (OutOfSpec (kinds.InvalidId x.id)) (values_under x.id (uses_in s.fields)) ≡ Ok kind
  rows : ℕ
  count : natural x.values.length ≡ Ok rows
  same : (d' : Dictionaries) (body' : List ℕ) → length body' ≡ length body → SameCells d d' → AreSame (record_batch_of s.order v x.values body) body' (looked_for rows (looked_at (record_batch_of s.order v x.values body) kind first_place)) → DictionarySame s d' most x v body' y

few_nil : (m : RecordBatch) (b : List ℕ) (n : ℕ) (is : List ℕ) → AreSame m b (looked_for n is) → AreSame m b (looked_for n (is ++ []))
few_nil m b zero is h = tt
few_nil m b (suc n) is h = all_nil _ is h

dictionary_depends : (s : Schema) (d : Dictionaries) (most : ℕ) (x : DictionaryBatch) (v : MetadataVersion) (body : List ℕ) (y : HeldDictionary) → dictionary_of s d most x v body false ≡ Ok y → DictionaryDepends s d most x v body y
unfolding dictionary_of
dictionary_depends s d most x v body y h =
    let named = went (required (OutOfSpec (kinds.InvalidId x.id)) (values_under x.id (uses_in s.fields))) _ y h in
    let new = went (only_if (x.is_delta || false || is_absent (found d x.id)) kinds.DuplicateDictionary) _ y named.rest in
    let floats = went (free_of (float_faults named.got)) _ y new.rest in
    let values = went (batch_of_tables to_read (values_asked s.order named.got d most) v [] x.values body None) _ y floats.rest in
    let m = record_batch_of s.order v x.values body in
    let whole = tables_depend (values_asked s.order named.got d most) v [] x.values body None values.got values.first in
    record {
      kind = named.got;
      found = named.first;
      rows = whole.rows;
      count = whole.count;
      same = λ d' body' len same agree.
          let new' : only_if (x.is_delta || false || is_absent (found d' x.id)) kinds.DuplicateDictionary ≡ Ok new.got = rw (same x.id) new.first in
          let values' = whole.same body' d' len same (few_nil m body' whole.rows (looked_at m named.got first_place) agree) in
          record {
            got = _;
            read = on _ _ _ named.first ∙ on _ _ _ new' ∙ on _ _ _ floats.first ∙ on _ _ _ values';
            values = record { id = ap (λ z. z.id) (ok_same _ _ _ refl values.rest); is_delta = ap (λ z. z.is_delta) (ok_same _ _ _ refl values.rest); cells = ap (λ z. z.cells) (ok_same _ _ _ refl values.rest) };
          };
    }
  where
    ok_same : (r : Reading HeldDictionary) (x y : HeldDictionary) → r ≡ Ok x → r ≡ Ok y → x ≡ y
    ok_same r x y h k = cc

-- a list of dictionaries read over another file
pub record DictionariesSame (b' : List ℕ) (meta : Meta) (d' : Dictionaries) (blocks : List FileBlock) (end : Dictionaries) : Type 0 where
  pub got : Dictionaries
  pub read : dictionaries_of b' meta d' blocks ≡ Ok got
  pub same : SameCells end got

-- what the dictionary blocks of a file need, and that they give the same cells where that is the same
pub record DictionariesDepend (b : List ℕ) (meta : Meta) (d : Dictionaries) (blocks : List FileBlock) (end : Dictionaries) : Type 0 where
  pub parts : List Range
  pub needed : all_need (λ block. dictionary_fetched b meta block) blocks ≡ Ok parts
  pub same : (b' : List ℕ) (d' : Dictionaries) → length b' ≡ length b → SameCells d d' → AgreeOn b b' parts → DictionariesSame b' meta d' blocks end

most_same : (s : Schema) (d : Dictionaries) (n m : ℕ) (x : DictionaryBatch) (v : MetadataVersion) (body : List ℕ) (y : HeldDictionary) → n ≡ m → dictionary_of s d m x v body false ≡ Ok y → dictionary_of s d n x v body false ≡ Ok y
most_same s d n m x v body y e h = rw e h

pub dictionaries_depend : (b : List ℕ) (meta : Meta) (d : Dictionaries) (blocks : List FileBlock) (end : Dictionaries) → dictionaries_of b meta d blocks ≡ Ok end → DictionariesDepend b meta d blocks end
unfolding dictionaries_of all_need dictionary_fetched
dictionaries_depend b meta d [] end h =
    let e : d ≡ end = cc in
    record { parts = []; needed = refl; same = λ b' d' len same agree. record { got = d'; read = refl; same = rw (← e) same } }
dictionaries_depend b meta d (block ∷ blocks) end h =
    let message = went (block_message b block 2) _ end h in
    let x = went (dictionary_at message.got.0 message.got.1.header) _ end message.rest in
    let version = went (version_of message.got.0 message.got.1) _ end x.rest in
    let values = went (dictionary_of meta.schema d (length b) x.got version.got (block_body b block) false) _ end version.rest in
    let depends = message_depends b block 2 message.got message.first in
    let whole = dictionary_depends meta.schema d (length b) x.got version.got (block_body b block) values.got values.first in
    let source = record_batch_of meta.schema.order version.got x.got.values (block_body b block) in
    let rest = dictionaries_depend b meta (values.got ∷ d) blocks end values.rest in
    let mine : List Range = depends.range ∷ for_rows whole.rows (ranges source (body_start block) (looked_at source whole.kind first_place)) in
    record {
      parts = mine ++ rest.parts;
      needed = on _ _ mine (on _ _ _ message.first ∙ on _ _ _ x.first ∙ on _ _ _ version.first ∙ on _ _ _ depends.needed ∙ on _ _ _ whole.found ∙ on _ _ _ whole.count) ∙ on _ _ _ rest.needed;
      same = λ b' d' len same agree.
          let own = all_first _ mine rest.parts agree in
          let other = whole.same d' (block_body b' block) (length-part b b' (body_start block) block.body len) same (body_few b b' block source refl whole.rows _ own.1) in
          let behind = rest.same b' (other.got ∷ d') len (same_cells_more values.got other.got d d' other.values same) (all_second _ mine rest.parts agree) in
          record {
            got = behind.got;
            read = on _ _ _ (depends.same b' len own.0) ∙ on _ _ _ x.first ∙ on _ _ _ version.first ∙ on _ _ _ (most_same meta.schema d' (length b') (length b) x.got version.got (block_body b' block) other.got len other.read) ∙ behind.read;
            same = behind.same;
          };
    }

-- ── the footer ──

last-same : (b b' : List ℕ) (n : ℕ) → n ≤ 10 → 10 ≤ length b → length b' ≡ length b → take 10 (drop (length b - 10) b') ≡ take 10 (drop (length b - 10) b) → last n b' ≡ last n b
last-same b b' n few long len agree =
    let part : take n (drop (length b - n) b') ≡ take n (drop (length b - n) b) = part_within b b' (length b - 10) 10 (length b - n) n agree (omega (arith, few, long)) (omega (arith, few, long)) in
    let whole : (y : List ℕ) → length y ≡ length b → take n (drop (length b - n) y) ≡ drop (length b - n) y = λ y e. take_all n (drop (length b - n) y) (omega (arith, length-drop (length b - n) y, e, few, long)) in
    ap (λ k. drop (k - n) b') len ∙ sym (whole b' len) ∙ part ∙ whole b refl

-- the footer, and its length
pub record FooterDepends (b : List ℕ) (f : List ℕ) : Type 0 where
  pub same : (b' : List ℕ) → length b' ≡ length b → take 10 (drop (length b - 10) b') ≡ take 10 (drop (length b - 10) b) → take (length f) (drop (length b - 10 - length f) b') ≡ take (length f) (drop (length b - 10 - length f) b) → footer_of b' ≡ Ok f

is_true : (t : Bool) (e : IpcError) (u : Unit {0}) → unless t e ≡ Ok u → t ≡ true
is_true true e u h = refl
is_true false e u h = cc

pub footer_depends : (b f : List ℕ) → footer_of b ≡ Ok f → FooterDepends b f
unfolding footer_of
footer_depends b f h =
    let size = went (only_if (nat_le 10 (length b)) kinds.Truncated) _ f h in
    let feather = went (unless (not (bytes_eq (last 4 b) feather_v1)) (Unsupported features.FeatherV1)) _ f size.rest in
    let trailer = went (only_if (bytes_eq (last 6 b) arrow_1) kinds.InvalidFooter) _ f feather.rest in
    let n = went (as_kind (λ e. kinds.Truncated) (signed_at w32 b (length b - 10)) >>= footer_length) _ f trailer.rest in
    let whole = went (only_if (nat_le (n.got + 10) (length b)) kinds.Truncated) _ f n.rest in
    let long : 10 ≤ length b = leb-true 10 (length b) (is_true _ _ _ size.first) in
    let room : n.got + 10 ≤ length b = leb-true (n.got + 10) (length b) (is_true _ _ _ whole.first) in
    let e : take n.got (drop (length b - 10 - n.got) b) ≡ f = cc (whole.rest) in
    let count : length f ≡ n.got = ap length (sym e) ∙ omega (arith, length-take n.got (drop (length b - 10 - n.got) b), length-drop (length b - 10 - n.got) b, room) in
    record {
      same = λ b' len agree footer.
          let four = last-same b b' 4 (omega arith) long len agree in
          let six = last-same b b' 6 (omega arith) long len agree in
          let front : take 4 (drop (length b - 10) b') ≡ take 4 (drop (length b - 10) b) = part_within b b' (length b - 10) 10 (length b - 10) 4 agree (omega arith) (omega arith) in
          let number : signed_at w32 b' (length b' - 10) ≡ signed_at w32 b (length b - 10) = ap (λ k. signed_at w32 b' (k - 10)) len ∙ signed_at-same w32 b b' (length b - 10) len front in
          let size' : only_if (nat_le 10 (length b')) kinds.Truncated ≡ Ok size.got = rw len size.first in
          let feather' : unless (not (bytes_eq (last 4 b') feather_v1)) (Unsupported features.FeatherV1) ≡ Ok feather.got = rw four feather.first in
          let trailer' : only_if (bytes_eq (last 6 b') arrow_1) kinds.InvalidFooter ≡ Ok trailer.got = rw six trailer.first in
          let n' : (as_kind (λ e. kinds.Truncated) (signed_at w32 b' (length b' - 10)) >>= footer_length) ≡ Ok n.got = rw number n.first in
          let whole' : only_if (nat_le (n.got + 10) (length b')) kinds.Truncated ≡ Ok whole.got = rw len whole.first in
          let bytes : take n.got (drop (length b' - 10 - n.got) b') ≡ f = ap (λ k. take n.got (drop (k - 10 - n.got) b')) len ∙ Rattle.std.proofs.Common.subst (λ k. take k (drop (length b - 10 - k) b') ≡ take k (drop (length b - 10 - k) b)) count footer ∙ e in
          on _ _ _ size' ∙ on _ _ _ feather' ∙ on _ _ _ trailer' ∙ on _ _ _ n' ∙ on _ _ _ whole' ∙ ap Ok bytes;
    }

meta-same : (b b' f : List ℕ) → footer_of b ≡ Ok f → footer_of b' ≡ Ok f → meta_of b' ≡ meta_of b
unfolding meta_of
meta-same b b' f h h' = on _ _ f h' ∙ sym (on _ _ f h)

custom-same : (b b' f : List ℕ) → footer_of b ≡ Ok f → footer_of b' ≡ Ok f → custom_of b' ≡ custom_of b
unfolding custom_of
custom-same b b' f h h' = on _ _ f h' ∙ sym (on _ _ f h)

pub meta-footer : (b : List ℕ) (meta : Meta) → meta_of b ≡ Ok meta → (f : List ℕ) × (footer_of b ≡ Ok f)
unfolding meta_of
meta-footer b meta h = let f = went (footer_of b) _ meta h in (f.got, f.first)

-- ── the file ──

pub parts_are : (b : List ℕ) (r : Request) (meta : Meta) (f : List ℕ) (ds bs : List Range) → meta_of b ≡ Ok meta → footer_of b ≡ Ok f → all_need (λ block. dictionary_fetched b meta block) (dictionaries_read meta.blocks meta.dictionaries) ≡ Ok ds → batches_fetched b meta r meta.blocks r.limit ≡ Ok bs
    → parts_fetched b r ≡ Ok (record { place = length b - 10; length = 10 } ∷ record { place = length b - 10 - length f; length = length f } ∷ ds ++ bs)
unfolding parts_fetched
parts_are b r meta f ds bs h1 h2 h3 h4 = on _ _ meta h1 ∙ on _ _ (length f) (on (footer_of b) (λ x. Ok (length x)) f h2) ∙ on _ _ ds h3 ∙ on _ _ bs h4

file-same : (b b' : List ℕ) (r : Request) (t : ArrowTable) → file_reading to_read b r None ≡ Ok t → length b' ≡ length b → AgreeOn b b' (or_nothing (meaning (parts_fetched b r))) → file_reading to_read b' r None ≡ Ok t
unfolding file_reading
file-same b b' r t h len agree =
    let meta = went (meta_of b) _ t h in
    let footer = meta-footer b meta.got meta.first in
    let custom = went (custom_of b) _ t meta.rest in
    let columns = went (Rattle.arrow_spec.specs.Files.columns_right r.columns _) _ t custom.rest in
    let floats = went (free_of _) _ t columns.rest in
    let size = went nothing _ t floats.rest in
    let dictionaries = went (dictionaries_of b meta.got [] (dictionaries_read meta.got.blocks meta.got.dictionaries)) _ t size.rest in
    let batches = went (batches_of to_read b (asked_in meta.got r dictionaries.got (length b)) true meta.got.blocks r.limit) _ t dictionaries.rest in
    let ds = dictionaries_depend b meta.got [] (dictionaries_read meta.got.blocks meta.got.dictionaries) dictionaries.got dictionaries.first in
    let bs = batches_depend b meta.got r true meta.got.blocks dictionaries.got r.limit batches.got batches.first in
    let parts = parts_are b r meta.got footer.0 ds.parts bs.parts meta.first footer.1 ds.needed bs.needed in
    let here : AgreeOn b b' (record { place = length b - 10; length = 10 } ∷ record { place = length b - 10 - length footer.0; length = length footer.0 } ∷ ds.parts ++ bs.parts) = rw parts at agree in
    let footer' = (footer_depends b footer.0 footer.1).same b' len here.0 here.1.0 in
    let meta' : meta_of b' ≡ Ok meta.got = meta-same b b' footer.0 footer.1 footer' ∙ meta.first in
    let custom' : custom_of b' ≡ Ok custom.got = custom-same b b' footer.0 footer.1 footer' ∙ custom.first in
    let dictionaries' = ds.same b' [] len (λ id. refl) (all_first _ ds.parts bs.parts here.1.1) in
    let batches' = bs.same b' dictionaries'.got len dictionaries'.same (all_second _ ds.parts bs.parts here.1.1) in
    let most : batches_of to_read b' (asked_in meta.got r dictionaries'.got (length b')) true meta.got.blocks r.limit ≡ Ok batches.got = rw len batches' in
    on _ _ meta.got meta' ∙ on _ _ custom.got custom' ∙ on _ _ _ columns.first ∙ on _ _ _ floats.first ∙ on _ _ tt refl ∙ on _ _ _ dictionaries'.read ∙ on _ _ _ most ∙ batches.rest

pub depends_on_fetched : DependsOnFetched
unfolding fetched file_table
depends_on_fetched b b' r t h len agree = ap meaning (file-same b b' r t (some_meaning _ t h) len agree)

pub depends_on_needed : DependsOnNeeded
depends_on_needed b b' r t h len agree = depends_on_fetched b b' r t h len (fetched_among _ b r agree)
