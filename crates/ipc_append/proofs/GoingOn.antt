-- A file that means a table, and is cut, means the table's batches still by what its writer has of it.
use Rattle.std.proofs.Common.{◌≡◌, ℕ, ◌-◌, ◌^◌, ◌<◌, ◌≤◌, ℤ, pos, negsuc, List, [], ◌∷◌, length, map, take, Bool, true, Option, None, Some, Result, Ok, Err, refl, sym, ap, ◌∙◌, subst, arith, length-append, w32}
use Rattle.std.specs.Prelude.{All, FitsSigned, IfOk, if◌then◌else◌}
use Rattle.std.specs.List.{AllByRecursion}
use Rattle.std.specs.Option.{option_map}
use Rattle.std.proofs.lemmas.List.{length-map, length-take-le}
use Rattle.std.proofs.lemmas.List.Elements.{All-head, All-tail}
use Rattle.arrow_spec.specs.declared.message.Block.{Block}
use Rattle.arrow_spec.specs.Arrays.{found}
use Rattle.arrow_spec.specs.Counts.{magnitude}
use Rattle.arrow_spec.specs.Features.{chosen_floats}
use Rattle.arrow_spec.specs.Files.{ArrowTable, FileBlock, Meta, dictionaries_of}
use Rattle.arrow_spec.specs.Flat.{Order, big, little}
use Rattle.arrow_spec.specs.Kinds.{Fields, Metadata, bare}
use Rattle.arrow_spec.specs.Layout.{up_to, zeros}
use Rattle.arrow_spec.specs.WrittenSchemas.{IdsMayBeWritten, SchemaMayBeWritten}
use Rattle.arrow_spec.specs.WrittenSchemas as said
use Rattle.arrow_spec.proofs.Lengths.{length-gap}
use Rattle.arrow_spec.proofs.ReadPairs.{same_read}
use Rattle.arrow_arrays.specs.Heads.{joined}
use Rattle.arrow_arrays.specs.Parts.{Forest, cells_each}
use Rattle.laws_files.specs.FileLaws.{BlockFits}
use Rattle.ipc_disk.specs.Tails.{cut_and_padded}
use Rattle.ipc_fields.specs.IpcFields.{metadata_of}
use Rattle.ipc_streams.specs.Below.{file_custom, meta_view, FileMetadata, held_in, IsNatural, file_block, WriteOptions}
use Rattle.ipc_io.specs.Outside.{IsSize}
use Rattle.ipc_file_writer.specs.Below.{cells_held}
use Rattle.laws_files.specs.Files.{BatchBefore, DictionaryBefore, FrontMeans, MayBeCut, cut_at, read_meta, table_of}
use Rattle.laws_files.proofs.CutFiles.{cut_means}
use Rattle.laws_files.proofs.Tables.{front_same}
use Rattle.laws_sent.proofs.SayableFields.{fields_own}
use Rattle.ipc_file_writer.specs.Blocks.{file_blocks}
use Rattle.ipc_file_writer.specs.Written.{cells_by, file_fields, front_by, own_fields}
use Rattle.ipc_file_writer.specs.declared.pairs.FilePairs.{FilePairs}
use Rattle.ipc_file_writer.proofs.Meaning.{same_front}
use Rattle.ipc_file_writer.proofs.Said.{may_without}
use Rattle.ipc_file_writer.specs.declared.file.FileCore.{FileCore}
use Rattle.ipc_append.specs.Appends.{BatchIsShort, Continues, GoesOnWith, IsAppending, IsContinued, MeansBefore, ValuesAreShort}
use Rattle.ipc_append.specs.Places.{HaveWidths}
use Rattle.ipc_append.proofs.Cutting.{may_cut}
use Rattle.ipc_append.proofs.Places.{EndsBefore, has_end}

-- ── blocks ──

dictionaries_before : (b : List ℕ) (place : ℕ) (ks : List FileBlock) → AllByRecursion (EndsBefore place) ks → AllByRecursion (ValuesAreShort b place) ks → AllByRecursion (DictionaryBefore b place) ks
dictionaries_before b place [] e s = tt
dictionaries_before b place (k ∷ ks) e s = (record { inside = e.0; lengths = s.0 }, dictionaries_before b place ks e.1 s.1)

records_before : (b : List ℕ) (place : ℕ) (ks : List FileBlock) → AllByRecursion (EndsBefore place) ks → AllByRecursion (BatchIsShort b place) ks → AllByRecursion (BatchBefore b place) ks
records_before b place [] e s = tt
records_before b place (k ∷ ks) e s = (record { inside = e.0; lengths = s.0 }, records_before b place ks e.1 s.1)

-- a number of 32 bits that is not negative
short : (z : ℤ) → z ≡ pos (magnitude z) → FitsSigned w32 z → magnitude z < 2 ^ 31
short (pos n) h f = omega (arith, f.sfits)
short (negsuc n) h f = cc

fit_all : (place : ℕ) (xs : List Block) → place < 2 ^ 63 → All IsNatural xs → HaveWidths xs → AllByRecursion (EndsBefore place) (map file_block xs) → AllByRecursion BlockFits (map file_block xs)
fit_all place [] near natural widths ends = tt
fit_all place (x ∷ xs) near natural widths ends = (
  record {
    offset = omega (arith, near, ends.0);
    metadata = short x.meta_data_length (All-head IsNatural x xs natural).metadata (All-head (λ (y : Block). FitsSigned w32 y.meta_data_length) x xs widths);
    body = omega (arith, near, ends.0);
  },
  fit_all place xs near (All-tail IsNatural x xs natural) (All-tail (λ (y : Block). FitsSigned w32 y.meta_data_length) x xs widths) ends.1,
)

-- ── dictionaries ──

cells_same : (o : Option Forest) → option_map (λ parts. joined (cells_each parts)) o ≡ cells_held o
cells_same None = refl
cells_same (Some parts) = refl

-- ── the footer ──

abbrev meta_in : FileMetadata → Order → Meta
meta_in m order = record {
  schema = record { order = order; fields = (meta_view m).schema.fields; metadata = (meta_view m).schema.metadata };
  blocks = (meta_view m).blocks;
  dictionaries = (meta_view m).dictionaries;
}

-- little-endian metadata is that of a footer
meta_little : (m : FileMetadata) → m.ipc_schema.is_little_endian ≡ true → meta_view m ≡ read_meta (meta_view m).schema.fields (meta_view m).schema.metadata (meta_view m).blocks (meta_view m).dictionaries
meta_little m h = ap (λ (is : Bool). meta_in m (if is then little else big)) h

-- a table by its parts
table_same : (t : ArrowTable) (fs : Fields) (pairs custom : Metadata) → pairs ≡ t.metadata → custom ≡ t.custom → bare fs ≡ t.fields → table_of fs pairs custom t.batches ≡ t
table_same t fs pairs custom h k l = rw (h, k, l) refl

-- ── the file ──

cut_long : (b : List ℕ) (place : ℕ) → place ≤ length b → up_to 8 place ≡ length (cut_and_padded place b)
cut_long b place inside =
    let gap = zeros (up_to 8 place - place) in
    let front : length (take place b) ≡ place = length-take-le place b inside in
    omega (arith, front, length-append (take place b) gap, length-gap place (up_to 8 place) (omega arith))

-- the fields under the file's ids are those that were read
own_read : (asked : WriteOptions) (m : FileMetadata) (place : ℕ) (c : FileCore) → Continues asked m place c → own_fields c ≡ (meta_view m).schema.fields
own_read asked m place c h = rw (h.schema, h.ids) refl

pub goes_on : (b : List ℕ) (t : ArrowTable) (asked : WriteOptions) (m : FileMetadata) (place : ℕ) (c : FileCore) → IsContinued (Some b) asked m place c → IsSize (Some b) m.size → HaveWidths m.dictionaries.items → HaveWidths m.blocks.items
    → MeansBefore b m place t → GoesOnWith c (cut_and_padded place b) t
goes_on b t asked m place c h size wide_dictionaries wide_records w =
    let now = h.continues in
    let may = may_cut asked m place h.is_cut in
    let end = has_end m place may.end in
    let fs = (meta_view m).schema.fields in
    let pairs = (meta_view m).schema.metadata in
    let ds = (meta_view m).dictionaries in
    let rs = (meta_view m).blocks in
    let x = cut_and_padded place b in
    let gap = zeros (up_to 8 place - place) in
    let inside : place ≤ length b = omega (arith, end.inside, size) in
    let near : place < 2 ^ 63 = omega (arith, end.inside, w.read.readable.most) in
    let little_is = meta_little m may.order in
    let cut : MayBeCut b fs pairs ds rs place = record {
      footer = w.says.read ∙ ap Ok little_is;
      some = omega (arith, end.some, length-map m.blocks.items file_block);
      inside = inside;
      dictionaries_before = dictionaries_before b place ds end.dictionaries_end w.dictionaries;
      records_before = records_before b place rs end.records_end w.records;
    } in
    let law = cut_means b t fs pairs ds rs place gap w.table cut in
    let same : law.held ≡ h.held.0 = same_read law.held h.held.0 (sym law.read ∙ ap (λ (y : Meta). dictionaries_of b y [] ds) (sym little_is) ∙ h.held.1) in
    let known : (id : ℤ) → found law.held id ≡ cells_by c id = λ id. ap (λ d. found d id) same ∙ h.held.2 id ∙ cells_same (held_in c.tracker.dictionaries id) in
    let own = own_read asked m place c now in
    let read : file_fields c ≡ fs = ap said.own_fields own ∙ fields_own 64 fs w.read.may.fit in
    let own_ds : ds ≡ file_blocks c.blocks.dictionaries = ap file_blocks (sym now.dictionaries) in
    let own_rs : rs ≡ file_blocks c.blocks.records = ap file_blocks (sym now.records) in
    let front : cut_at b place gap ds rs ≡ front_by c x = same_front x x ds (file_blocks c.blocks.dictionaries) rs (file_blocks c.blocks.records) refl own_ds own_rs in
    let means : FrontMeans fs (front_by c x) (cells_by c) t.batches
    = subst (λ f. FrontMeans fs f (cells_by c) t.batches) front (front_same fs (cut_at b place gap ds rs) (λ id. found law.held id) (cells_by c) t.batches known law.means) in
    let ids : IdsMayBeWritten (file_fields c) = subst IdsMayBeWritten (sym read) w.read.ids in
    let custom : file_custom m ≡ t.custom = same_read (file_custom m) t.custom (sym w.says.pairs ∙ law.own) in
    record {
      file = record {
        end = now.end ∙ cut_long b place inside;
        means = subst (λ gs. FrontMeans gs (front_by c x) (cells_by c) t.batches) (sym read) means;
        schema = subst (λ gs. SchemaMayBeWritten gs []) (sym read) (may_without fs pairs w.read.may);
        ids = ids;
        floats = subst (λ gs. chosen_floats None gs 0 ≡ []) (sym read) may.kinds;
        dictionaries_fit = subst (AllByRecursion BlockFits) own_ds (fit_all place m.dictionaries.items near end.dictionaries wide_dictionaries end.dictionaries_end);
        records_fit = subst (AllByRecursion BlockFits) own_rs (fit_all place m.blocks.items near end.records wide_records end.records_end);
      };
      table = table_same t (file_fields c) (metadata_of c.pairs.schema) (metadata_of c.pairs.footer) (ap (λ (p : FilePairs). metadata_of p.schema) now.pairs ∙ sym law.metadata)
          (ap (λ (p : FilePairs). metadata_of p.footer) now.pairs ∙ custom) (ap bare read ∙ sym law.fields);
      said = record {
        schema = subst (λ gs. SchemaMayBeWritten gs (metadata_of c.pairs.schema)) (sym read) (subst (λ (p : FilePairs). SchemaMayBeWritten fs (metadata_of p.schema)) (sym now.pairs) w.read.may);
        ids = ids;
      };
    }

pub all_go_on : {W E : Type 0} (r : Result W E) (content_of : W → Option (List ℕ)) (end_of : W → ℕ) (core_of : W → FileCore) (old middle : Option (List ℕ)) (asked : WriteOptions) (m : FileMetadata) (place : ℕ) (c : FileCore)
    → IsContinued old asked m place c → middle ≡ old → IsSize old m.size → HaveWidths m.dictionaries.items → HaveWidths m.blocks.items
    → IfOk r (λ w. core_of w ≡ c) → IfOk r (λ w. content_of w ≡ option_map (cut_and_padded place) middle) → IfOk r (λ w. end_of w ≡ up_to 8 place)
    → IfOk r (λ w. IsAppending old (content_of w) (end_of w) asked m (core_of w))
all_go_on (Err e) content_of end_of core_of old middle asked m place c h s size wd wr core content end = tt
all_go_on (Ok w) content_of end_of core_of old middle asked m place c h s size wd wr core content end =
    let here : IsContinued old asked m place (core_of w) = subst (λ d. IsContinued old asked m place d) (sym core) h in
    record {
      place = place;
      continued = here;
      cut = content ∙ ap (option_map (cut_and_padded place)) s;
      behind = end;
      means = λ b t is before. goes_on b t asked m place (core_of w) (subst (λ o. IsContinued o asked m place (core_of w)) is here) (subst (λ o. IsSize o m.size) is size) wd wr before;
    }
