-- The parts of a file's dictionaries, one message after another.
use Rattle.std.proofs.Common.{◌≡◌, ◌∙◌, ℕ, zero, suc, ◌^◌, ◌<◌, ◌≤◌, List, [], ◌∷◌, ◌++◌, length, Bool, true, false, Some, None, Ok, IfSome, ℤ, refl, sym, ap, subst, arith}
use Rattle.std.specs.List.{AllByRecursion}
use Rattle.std.proofs.lemmas.List.{append-nil, length-append}
use Rattle.arrow_spec.specs.Flat.{little}
use Rattle.arrow_spec.specs.Kinds as kind
use Rattle.arrow_spec.specs.Kinds.{Kind, Fields, Use, is_same_kind, numbered_kind, same, uses_in, uses_of, values_under}
use Rattle.arrow_spec.specs.Schema.{uses_agree}
use Rattle.arrow_spec.specs.Bodies.{NodeFits}
use Rattle.arrow_spec.specs.Counts.{RecordBatch, Written, first_place, magnitude}
use Rattle.arrow_spec.specs.Arrays.{Dictionaries, HeldDictionary}
use Rattle.arrow_spec.specs.Files.{FileBlock, Meta, block_body, dictionary_of, fields_asked, record_batch_of, with_field_at}
use Rattle.arrow_spec.specs.Sent.{written}
use Rattle.arrow_spec.proofs.Projection.{on}
use Rattle.ipc_files.specs.Below.{is_carried, counts_in, Parts, kind_in, Held, HoldsCells, values_of_id, HoldsValuesAt, column_in, nodes_in, sent, is_column_kind, HoldsPart, parts_before}
use Rattle.arrow_spec.proofs.SameIds.{id_true}
use Rattle.laws_writers.specs.Below.{HasKinds, HoldsKinds, parts_read, plain_kind}
use Rattle.laws_writers.proofs.Below.{holds_none, parts_sound, all_written, plain_twice, Agrees, each_use, each_value, join, plain_same, split, uses_one}
use Rattle.laws_transcode.specs.Below.{written_of}
use Rattle.laws_transcode.proofs.Dictionaries.{none_replaced}
use Rattle.laws_transcode.proofs.Numbers.{TablesHaveWidth, WrittenFits, array_fits, natural_small}
use Rattle.ipc_files.proofs.Below.{read_values_at, column_written, column_carried}
use Rattle.laws_sent.specs.Parts.{EachFilePart, IsFilePart, IsOfValues, PartTree, part_behind}
use Rattle.ipc_files.specs.FileDictionaries.{HoldsBlock, HoldsUses, block_dictionary, block_values}
use Rattle.ipc_files.proofs.ReadColumns.{values_read}
use Rattle.laws_sent.specs.PartLaws.{IsLast, NoPartsAreRead, OneMorePartIsRead, PartsAreOfAsked}
use Rattle.laws_sent.proofs.HeldParts.{AreSoundParts, kinds_sound, last_is, one_more_sound, part_cells}
use Rattle.laws_sent.proofs.ReadValues.{IsRead, message_read}
use Rattle.laws_sent.proofs.SameValues.{held_as, known_as}

pub no_parts : NoPartsAreRead
no_parts fs = record { parts = record { count = refl; each = tt; unreplaced = tt }; cells = holds_none; sound = λ id. tt }

-- ── one part ──

-- the array's numbers have 64 bits
written_fits : (p : Parts) (w : Written) → w ≡ written_of (column_in little p ∷ []) → WrittenFits w → AllByRecursion NodeFits (nodes_in p) × AllByRecursion (λ n. n < 2 ^ 63) (counts_in (sent p))
written_fits p w is fits =
    let own : WrittenFits (written_of (column_in little p ∷ [])) = subst WrittenFits is fits in
    (subst (AllByRecursion NodeFits) (append-nil (nodes_in p)) own.nodes_fit, subst (AllByRecursion (λ n. n < 2 ^ 63)) (append-nil (counts_in (sent p))) own.views_fit)

-- it is of the values of each use
kinds_of : (m : RecordBatch) (d : Dictionaries) (h : Held) (k : Kind) (rows : ℕ) (id : ℤ) (q : PartTree) (all us : List Use) → HoldsCells d h → q.tree ≡ parts_read m h k first_place rows → kind_in (parts_read m h k first_place rows) ≡ plain_kind k
    → values_under id all ≡ Some k → AllByRecursion (Agrees all) us → AllByRecursion (λ u. same u.id id ≡ true → IsOfValues d q u.values) us
kinds_of m d h k rows id q all [] holds tree kind first agree = tt
kinds_of m d h k rows id q all (u ∷ us) holds tree kind first agree = (here, kinds_of m d h k rows id q all us holds tree kind first agree.1)
  where
    here : same u.id id ≡ true → IsOfValues d q u.values
    here is =
        let found : Some agree.0.values ≡ Some k = sym agree.0.first ∙ ap (λ i. values_under i all) (id_true u.id id is) ∙ first in
        let own : agree.0.values ≡ k = cc in
        let one : is_same_kind k u.values ≡ true = subst (λ z. is_same_kind z u.values ≡ true) own agree.0.one in
        let plain : plain_kind (kind_in q.tree) ≡ plain_kind k = ap (λ p. plain_kind (kind_in p)) tree ∙ ap plain_kind kind ∙ plain_twice k in
        record {
          alike = ap (λ z. is_same_kind z (plain_kind u.values)) plain ∙ plain_same k u.values one;
          holds = λ i c s known told. subst (HoldsValuesAt s (numbered_kind u.values i)) (sym tree)
              (held_as s k u.values i (parts_read m h k first_place rows) one (read_values_at m h d k first_place rows i c s holds (known_as d k u.values i c one known) told));
        }

-- the part of a message that was read, and what is held behind it
one_part : (b : List ℕ) (meta : Meta) (block : FileBlock) (d : Dictionaries) (h h' : Held) (x : HeldDictionary) (id : ℤ) (p : Parts) → uses_agree [] (uses_in meta.schema.fields) ≡ Ok tt → HoldsUses meta h → HoldsCells d h → AreSoundParts h → HoldsCells (x ∷ d) h'
    → (held : HoldsBlock b meta block h h' id) → IfSome (h' id) (λ parts. IsLast parts p) → (r : IsRead meta.schema d held.message.dictionary held.message.version (block_body b block) x) → is_carried r.kind ≡ true
    → IsFilePart meta.schema.fields x d (record { id = id; tree = p }) × AreSoundParts h'
one_part b meta block d h h' x id p agree uses holds sound more held last r carried =
    let fs = meta.schema.fields in
    let m : RecordBatch = record_batch_of meta.schema.order held.message.version held.message.dictionary.values (block_body b block) in
    let rows : ℕ = magnitude held.message.dictionary.values.length in
    let tree : Parts = parts_read m h r.kind first_place rows in
    let is_delta : Bool = held.message.dictionary.is_delta in
    let under : id ≡ x.id = held.under ∙ r.id in
    let kind : values_of_id fs id ≡ Some r.kind = ap (λ i. values_under i (uses_in fs)) held.under ∙ r.under in
    let part : h' id ≡ Some (parts_before is_delta (h id) tree) = subst (λ o. HoldsPart h h' id is_delta o m rows) kind held.part in
    let is : tree ≡ p = last_is h h' id is_delta tree p part last in
    let has : HasKinds h r.kind = subst (λ o. IfSome o (HasKinds h)) kind (each_value h fs id (each_use h fs agree uses)) in
    let kinds : HoldsKinds h r.kind = kinds_sound h sound r.kind has in
    let good = parts_sound m d h r.kind first_place rows holds kinds carried r.fine in
    let width : TablesHaveWidth m = record { nodes = held.fits.nodes; buffers = held.fits.buffers; views = held.fits.views } in
    let w : written m r.kind first_place rows 0 rows ≡ written_of (column_in little tree ∷ []) = all_written m d h r.kind first_place rows holds kinds carried r.fine ∙ column_written tree good.no_fault in
    let fits = written_fits tree (written m r.kind first_place rows 0 rows) w (array_fits m d r.kind first_place rows width r.fine) in
    let here : h' x.id ≡ Some (parts_before x.is_delta (h x.id) tree) =
    subst (λ i. h' i ≡ Some (parts_before x.is_delta (h i) tree)) under (subst (λ t. h' id ≡ Some (parts_before t (h id) tree)) r.is_delta part) in
    let others : (q : ℤ) → same x.id q ≡ false → h' q ≡ h q = subst (λ i. (q : ℤ) → same i q ≡ false → h' q ≡ h q) under held.others in
    let q : PartTree = record { id = id; tree = tree } in
    let first : values_under x.id (uses_in fs) ≡ Some r.kind = ap (λ i. values_under i (uses_in fs)) (sym under) ∙ kind in
    let file : IsFilePart fs x d q = record {
      id = under;
      sound = good.no_fault;
      cells = part_cells d h h' x tree holds more here others;
      written = r.written_is ∙ w;
      few = subst (λ n. n < 2 ^ 63) (sym good.all_rows) (natural_small held.message.dictionary.values.length rows held.fits.rows r.count);
      nodes = fits.0;
      views = fits.1;
      kinds = kinds_of m d h r.kind rows x.id q (uses_in fs) (uses_in fs) holds refl good.same_kind first (uses_one fs agree);
    } in
    (subst (λ t. IsFilePart fs x d (record { id = id; tree = t })) is file, one_more_sound h h' id is_delta tree sound good.no_fault part held.others)

-- ── one part more ──

behind_last : (ps : List PartTree) (q : PartTree) (n : ℕ) → n ≡ length ps → part_behind (ps ++ q ∷ []) n ≡ q
behind_last [] q zero h = refl
behind_last [] q (suc n) h = absurd (omega arith)
behind_last (p ∷ ps) q zero h = absurd (omega arith)
behind_last (p ∷ ps) q (suc n) h = behind_last ps q n (omega arith)

behind_more : (ps : List PartTree) (q : PartTree) (n : ℕ) → n < length ps → part_behind (ps ++ q ∷ []) n ≡ part_behind ps n
behind_more [] q n h = absurd (omega arith)
behind_more (p ∷ ps) q zero h = refl
behind_more (p ∷ ps) q (suc n) h = behind_more ps q n (omega arith)

each_more : (fs : Fields) (d : Dictionaries) (ps : List PartTree) (q : PartTree) → length d ≤ length ps → EachFilePart fs d ps → EachFilePart fs d (ps ++ q ∷ [])
each_more fs [] ps q few each = tt
each_more fs (x ∷ e) ps q few each = (subst (IsFilePart fs x e) (sym (behind_more ps q (length e) (omega arith))) each.0, each_more fs e ps q (omega arith) each.1)

-- the message that a block says
pub block_said : (b : List ℕ) (meta : Meta) (block : FileBlock) (d : Dictionaries) (h h' : Held) (x : HeldDictionary) (id : ℤ) → block_values b meta d block ≡ Ok x → (held : HoldsBlock b meta block h h' id)
    → dictionary_of meta.schema d (length b) held.message.dictionary held.message.version (block_body b block) false ≡ Ok x
unfolding block_values
block_said b meta block d h h' x id is held =
    sym (on (block_dictionary b block) (λ y. dictionary_of meta.schema d (length b) y.dictionary y.version (block_body b block) false) held.message held.is) ∙ is

-- its part is held behind those before it
pub part_there : (b : List ℕ) (meta : Meta) (block : FileBlock) (d : Dictionaries) (h h' : Held) (x : HeldDictionary) (id : ℤ) → block_values b meta d block ≡ Ok x → HoldsBlock b meta block h h' id
    → (is_delta : Bool) × (p : Parts) × (h' id ≡ Some (parts_before is_delta (h id) p))
part_there b meta block d h h' x id is held =
    let m : RecordBatch = record_batch_of meta.schema.order held.message.version held.message.dictionary.values (block_body b block) in
    let rows : ℕ = magnitude held.message.dictionary.values.length in
    let r = message_read meta.schema d (length b) held.message.dictionary held.message.version (block_body b block) x (block_said b meta block d h h' x id is held) in
    let kind : values_of_id meta.schema.fields id ≡ Some r.kind = ap (λ i. values_under i (uses_in meta.schema.fields)) held.under ∙ r.under in
    (held.message.dictionary.is_delta, parts_read m h r.kind first_place rows, subst (λ o. HoldsPart h h' id held.message.dictionary.is_delta o m rows) kind held.part)

pub one_more_part : OneMorePartIsRead
one_more_part b meta block d h h' x ps id p columns agree uses read is more held last =
    let fs = meta.schema.fields in
    let q : PartTree = record { id = id; tree = p } in
    let said = block_said b meta block d h h' x id is held in
    let r = message_read meta.schema d (length b) held.message.dictionary held.message.version (block_body b block) x said in
    let kind : values_of_id fs id ≡ Some r.kind = ap (λ i. values_under i (uses_in fs)) held.under ∙ r.under in
    let carried : is_carried r.kind ≡ true = column_carried r.kind (subst (λ o. IfSome o (λ k. is_column_kind k ≡ true)) kind (values_read fs id columns)) r.floats in
    let one = one_part b meta block d h h' x id p agree uses read.cells read.sound more held last r carried in
    let count : length ps ≡ length d = read.parts.count in
    record {
      parts = record {
        count = length-append ps (q ∷ []) ∙ omega (arith, count);
        each = (subst (IsFilePart fs x d) (sym (behind_last ps q (length d) (sym count))) one.0, each_more fs d ps q (omega (arith, count)) read.parts.each);
        unreplaced = (none_replaced meta.schema d (length b) held.message.dictionary held.message.version (block_body b block) x said, read.parts.unreplaced);
      };
      cells = more;
      sound = one.1;
    }

-- ── of the fields that are asked for ──

uses_with : (P : Use → Type 0) (fs : Fields) (c : ℕ) (others : Fields) → AllByRecursion P (uses_in fs) → AllByRecursion P (uses_in others) → AllByRecursion P (uses_in (with_field_at fs c others))
uses_with P kind.none c others h g = g
uses_with P (kind.field name nullable metadata k fs) zero others h g = join P (uses_of k) (uses_in others) (split P (uses_of k) (uses_in fs) h).0 g
uses_with P (kind.field name nullable metadata k fs) (suc c) others h g = uses_with P fs c others (split P (uses_of k) (uses_in fs) h).1 g

pub uses_asked : (P : Use → Type 0) (fs : Fields) (cs : List ℕ) → AllByRecursion P (uses_in fs) → AllByRecursion P (uses_in (fields_asked fs cs))
uses_asked P fs [] h = tt
uses_asked P fs (c ∷ cs) h = uses_with P fs c (fields_asked fs cs) h (uses_asked P fs cs h)

each_asked : (fs : Fields) (cs : List ℕ) (d : Dictionaries) (ps : List PartTree) → EachFilePart fs d ps → EachFilePart (fields_asked fs cs) d ps
each_asked fs cs [] ps each = tt
each_asked fs cs (x ∷ e) ps each =
    let one = each.0 in
    (record { id = one.id; sound = one.sound; cells = one.cells; written = one.written; few = one.few; nodes = one.nodes; views = one.views; kinds = uses_asked _ fs cs one.kinds }, each_asked fs cs e ps each.1)

pub parts_asked : PartsAreOfAsked
parts_asked fs None d ps parts = parts
parts_asked fs (Some cs) d ps parts = record { count = parts.count; each = each_asked fs cs d ps parts.each; unreplaced = parts.unreplaced }
