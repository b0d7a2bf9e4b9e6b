-- The parts of an array that is not refused are sound, of its kind and of the rows that were asked for.
use Rattle.std.proofs.Common.{◌≡◌, ℕ, zero, suc, ◌+◌, ◌*◌, List, [], length, Bool, true, false, nat_eq, nat_lt, not, refl, sym, ap, ◌∙◌, arith, subst}
use Rattle.std.proofs.lemmas.Bool.{and_from, eq-eqb, le-ltb, or_parts, or_from}
use Rattle.arrow_spec.specs.Kinds as kind
use Rattle.arrow_spec.specs.Kinds.{Kind, Fields, Metadata, Offsets, small, large, width, none, field}
use Rattle.arrow_spec.specs.Counts.{RecordBatch, Place, after, inside}
use Rattle.arrow_spec.specs.Arrays.{Dictionaries, offset}
use Rattle.arrow_spec.specs.Faults.{array_faults, child_faults, end_of, offsets_faults, view_count_faults}
use Rattle.arrow_spec.specs.Sent.{offset_read}
use Rattle.arrow_spec.proofs.Fewer.{cause-none, none_first, none_second, sound_second}
use Rattle.arrow_types.specs.KindCode.{kind_eq}
use Rattle.arrow_types.specs.Physical.{physical_of}
use Rattle.arrow_buffers.specs.Rows.{has_rows}
use Rattle.arrow_buffers.specs.Variable.{are_offsets, variable_rows}
use Rattle.arrow_arrays.specs.Heads.{listed, mapped, sized, structured, head_fault, is_list, is_map, is_sized, is_struct, list_size, child_fields, are_all, first_or_0}
use Rattle.arrow_arrays.specs.LeafKinds.{is_leaf_kind}
use Rattle.arrow_arrays.specs.Parts.{Forest, nested, kinds_each, rows_each}
use Rattle.arrow_arrays.proofs.EmptyParts.{list_itself, sized_itself}
use Rattle.arrow_arrays.proofs.HeadSliced.{sound_head}
use Rattle.arrow_arrays.specs.Carried.{is_carried}
use Rattle.ipc_read_laws.specs.Held.{Held, HoldsCells, HoldsKinds, HoldsFields}
use Rattle.ipc_read_laws.specs.PlainKinds.{plain_kind, plain_fields}
use Rattle.ipc_read_laws.specs.PartsRead.{parts_in, plain_read, parts_under, parts_read, forest_read, listed_read, counted_read}
use Rattle.ipc_read_laws.specs.Laws.{PartsAreSound}
use Rattle.ipc_read_laws.proofs.Validities.{has_rows-read}
use Rattle.ipc_read_laws.proofs.OffsetsRead.{offsets_told, offsets_bad, offsets-bad, rows-told}
use Rattle.ipc_read_laws.proofs.SoundLaws.{sound_under, kind_under, rows_under}
use Rattle.ipc_read_laws.proofs.Labels.{Label, label_plain, label_like, label_fields, label_size, label_list, label_map, label_sized, label_struct}
use Rattle.ipc_read_laws.proofs.Trees.{TreeCases, by_tree, by_fields, rows_told, told_all, told_length, told_first, SoundAs, ForestSound, both_none, suited, same_kind}
use Rattle.ipc_read_laws.proofs.PlainKinds.{plain_itself, no_dictionaries}
use Rattle.ipc_read_laws.proofs.Keys.{dictionary_sound}
use Rattle.ipc_read_laws.proofs.Unions.{child_rows, children_at, union_under, union_children, union_sound}

-- ── lists and maps ──

not_false : (b : Bool) → false ≡ not b → b ≡ true
not_false true h = refl
not_false false h = cc

-- offsets that are not refused rise up to the last one
pub offsets_rise : (m : RecordBatch) (o : Offsets) (i rows most : ℕ) → offsets_faults m o i rows most ≡ [] → are_offsets (offsets_told m o i rows) (offset m o i rows) ≡ true
unfolding offsets_faults
offsets_rise m o i rows most h =
    let outer = or_parts _ (nat_lt most (offset m o i rows)) (cause-none _ _ h) in
    let fine : offsets_bad m o i rows (offset m o i rows) ≡ false = or_from _ _ outer.0 (le-ltb (offset m o i rows) (offset m o i rows) (omega arith)) in
    not_false _ (sym fine ∙ offsets-bad m o i rows (offset m o i rows))

pub list_rows : (m : RecordBatch) (l : Kind) (o : Offsets) (p : Place) (rows : ℕ) → variable_rows (listed_read m l o p rows).offsets ≡ rows
list_rows m l o p zero = refl
list_rows m l o p (suc n) = rows-told m o (p.buffer + 1) (suc n)

list_valid : (m : RecordBatch) (l : Kind) (o : Offsets) (p : Place) (rows : ℕ) → has_rows (listed_read m l o p rows).validity (variable_rows (listed_read m l o p rows).offsets) ≡ true
list_valid m l o p zero = refl
list_valid m l o p (suc n) = rw (rows-told m o (p.buffer + 1) (suc n)) (has_rows-read m p (suc n))

list_kind : (m : RecordBatch) (l : Kind) (o : Offsets) (p : Place) (rows : ℕ) → (listed_read m l o p rows).kind ≡ l
list_kind m l o p zero = refl
list_kind m l o p (suc n) = refl

list_width : (m : RecordBatch) (l : Kind) (o : Offsets) (p : Place) (rows : ℕ) → (listed_read m l o p rows).width ≡ o
list_width m l o p zero = refl
list_width m l o p (suc n) = refl

-- lists, or maps, over sound children are sound
first_rows : (m : RecordBatch) (fs : Fields) (q : Place) (n : ℕ) (cs : Forest) → width fs ≡ 1 → rows_each cs ≡ rows_told m fs q (λ q. n) → (nat_eq (length (rows_each cs)) 1 ≡ true) × (first_or_0 (rows_each cs) ≡ n)
first_rows m fs q n cs w r = (ap (λ ns. nat_eq (length ns) 1) r ∙ eq-eqb _ 1 (told_length m fs q (λ q. n) ∙ w), ap first_or_0 r ∙ told_first m fs q n w)

pub list_sound : (m : RecordBatch) (l : Kind) (o : Offsets) (fs : Fields) (p : Place) (rows : ℕ) (cs : Forest) → is_list o l ≡ true → child_fields l ≡ plain_fields fs → width fs ≡ 1 → ForestSound (plain_fields fs) (rows_told m fs (inside 2 p) (λ q. offset_read m o p rows)) cs
    → are_offsets (listed_read m l o p rows).offsets (offset_read m o p rows) ≡ true → SoundAs l rows (nested (listed (listed_read m l o p rows)) cs)
list_sound m l o fs p rows cs s f w c a =
    let r = first_rows m fs (inside 2 p) (offset_read m o p rows) cs w c.rows in
    let h = listed (listed_read m l o p rows) in
    let suit : is_list (listed_read m l o p rows).width (listed_read m l o p rows).kind ≡ true = ap (λ x. is_list x (listed_read m l o p rows).kind) (list_width m l o p rows) ∙ ap (is_list o) (list_kind m l o p rows) ∙ s in
    record {
      kind_is = list_kind m l o p rows;
      rows_are = list_rows m l o p rows;
      none = both_none (head_fault h (kinds_each cs) (rows_each cs)) _ (sound_head h (kinds_each cs) (rows_each cs) (record {
        suits = suited h _ l (plain_fields fs) (kinds_each cs) (list_kind m l o p rows) suit f c.kinds;
        valid = list_valid m l o p rows;
        rows = r.0;
        offsets = ap (are_offsets (listed_read m l o p rows).offsets) r.1 ∙ a;
        types = refl;
        keys = refl;
      })) c.none;
    }

pub map_sound : (m : RecordBatch) (l : Kind) (fs : Fields) (p : Place) (rows : ℕ) (cs : Forest) → is_map small l ≡ true → child_fields l ≡ plain_fields fs → width fs ≡ 1 → ForestSound (plain_fields fs) (rows_told m fs (inside 2 p) (λ q. offset_read m small p rows)) cs
    → are_offsets (listed_read m l small p rows).offsets (offset_read m small p rows) ≡ true → SoundAs l rows (nested (mapped (listed_read m l small p rows)) cs)
map_sound m l fs p rows cs s f w c a =
    let r = first_rows m fs (inside 2 p) (offset_read m small p rows) cs w c.rows in
    let h = mapped (listed_read m l small p rows) in
    let suit : is_map (listed_read m l small p rows).width (listed_read m l small p rows).kind ≡ true = ap (λ x. is_map x (listed_read m l small p rows).kind) (list_width m l small p rows) ∙ ap (is_map small) (list_kind m l small p rows) ∙ s in
    record {
      kind_is = list_kind m l small p rows;
      rows_are = list_rows m l small p rows;
      none = both_none (head_fault h (kinds_each cs) (rows_each cs)) _ (sound_head h (kinds_each cs) (rows_each cs) (record {
        suits = suited h _ l (plain_fields fs) (kinds_each cs) (list_kind m l small p rows) suit f c.kinds;
        valid = list_valid m l small p rows;
        rows = r.0;
        offsets = ap (are_offsets (listed_read m l small p rows).offsets) r.1 ∙ a;
        types = refl;
        keys = refl;
      })) c.none;
    }

-- ── lists of one size, and structs ──

pub sized_sound : (m : RecordBatch) (l : Kind) (size : ℕ) (fs : Fields) (p : Place) (rows : ℕ) (cs : Forest) → is_sized l ≡ true → list_size l ≡ size → child_fields l ≡ plain_fields fs → ForestSound (plain_fields fs) (rows_told m fs (inside 1 p) (λ q. size * rows)) cs → SoundAs l rows (nested (sized (counted_read m l p rows)) cs)
sized_sound m l size fs p rows cs s z f c =
    let h = sized (counted_read m l p rows) in
    record {
      kind_is = refl;
      rows_are = refl;
      none = both_none (head_fault h (kinds_each cs) (rows_each cs)) _ (sound_head h (kinds_each cs) (rows_each cs) (record {
        suits = suited h _ l (plain_fields fs) (kinds_each cs) refl s f c.kinds;
        valid = has_rows-read m p rows;
        rows = ap (λ n. are_all (n * rows) (rows_each cs)) z ∙ ap (are_all (size * rows)) c.rows ∙ told_all m fs (inside 1 p) (size * rows);
        offsets = refl;
        types = refl;
        keys = refl;
      })) c.none;
    }

pub struct_sound : (m : RecordBatch) (l : Kind) (fs : Fields) (p : Place) (rows : ℕ) (cs : Forest) → is_struct l ≡ true → child_fields l ≡ plain_fields fs → ForestSound (plain_fields fs) (rows_told m fs (inside 1 p) (λ q. rows)) cs → SoundAs l rows (nested (structured (counted_read m l p rows)) cs)
struct_sound m l fs p rows cs s f c =
    let h = structured (counted_read m l p rows) in
    record {
      kind_is = refl;
      rows_are = refl;
      none = both_none (head_fault h (kinds_each cs) (rows_each cs)) _ (sound_head h (kinds_each cs) (rows_each cs) (record {
        suits = suited h _ l (plain_fields fs) (kinds_each cs) refl s f c.kinds;
        valid = has_rows-read m p rows;
        rows = ap (are_all rows) c.rows ∙ told_all m fs (inside 1 p) rows;
        offsets = refl;
        types = refl;
        keys = refl;
      })) c.none;
    }

-- ── every kind ──

-- what is not wrong with an array of lists: its children, and its offsets
pub list_children : (m : RecordBatch) (d : Dictionaries) (o : Offsets) (fs : Fields) (p : Place) (rows : ℕ) → array_faults m d (kind.«list» o fs) p rows ≡ [] → child_faults m d fs (inside 2 p) (λ q. offset_read m o p rows) ≡ []
list_children m d o fs p zero h = none_second _ _ h
list_children m d o fs p (suc n) h = none_second _ _ (sound_second _ _ (none_second _ _ h))

pub list_rises : (m : RecordBatch) (d : Dictionaries) (l : Kind) (o : Offsets) (fs : Fields) (p : Place) (rows : ℕ) → array_faults m d (kind.«list» o fs) p rows ≡ [] → are_offsets (listed_read m l o p rows).offsets (offset_read m o p rows) ≡ true
list_rises m d l o fs p zero h = refl
list_rises m d l o fs p (suc n) h = offsets_rise m o (p.buffer + 1) (suc n) (end_of m (suc p.node)) (none_first _ _ (sound_second _ _ (none_second _ _ h)))

pub map_is_list : (m : RecordBatch) (d : Dictionaries) (sorted : Bool) (fs : Fields) (p : Place) (rows : ℕ) → array_faults m d (kind.map sorted fs) p rows ≡ array_faults m d (kind.«list» small fs) p rows
map_is_list m d sorted fs p zero = refl
map_is_list m d sorted fs p (suc n) = refl

abbrev pub KindSound : Kind → Type 0
KindSound k = (l : Kind) → Label l k → (m : RecordBatch) (d : Dictionaries) (h : Held) (p : Place) (rows : ℕ) → HoldsCells d h → HoldsKinds h k → array_faults m d k p rows ≡ [] → SoundAs l rows (parts_under l m h k p rows)

abbrev pub FieldsSound : Fields → Type 0
FieldsSound fs = (m : RecordBatch) (d : Dictionaries) (h : Held) (p : Place) (rows : Place → ℕ) → HoldsCells d h → HoldsFields h fs → child_faults m d fs p rows ≡ [] → ForestSound (plain_fields fs) (rows_told m fs p rows) (forest_read m h fs p rows)

leaf_sound : (k : Kind) → is_leaf_kind k ≡ true → (l : Kind) → Label l k → (m : RecordBatch) (d : Dictionaries) (p : Place) (rows : ℕ) → array_faults m d k p rows ≡ [] → SoundAs l rows (Rattle.arrow_arrays.specs.Parts.leaf (parts_in (physical_of k) m l p rows))
leaf_sound k leaf l e m d p rows fine = record {
  kind_is = kind_under (physical_of k) m l p rows;
  rows_are = rows_under m d k l p rows leaf (label_like l k e) fine;
  none = sound_under m d k l p rows leaf (label_like l k e) fine;
}

-- a kind without children has no tree
pub plain_under : (l : Kind) (m : RecordBatch) (h : Held) (k : Kind) (p : Place) (rows : ℕ) → is_leaf_kind k ≡ true → Rattle.arrow_arrays.specs.Parts.leaf (parts_in (physical_of k) m l p rows) ≡ parts_under l m h k p rows
plain_under l m h (kind.«list» small fs) p rows is = cc
plain_under l m h (kind.«list» large fs) p rows is = cc
plain_under l m h (kind.map sorted fs) p rows is = cc
plain_under l m h (kind.fixed_size_list size fs) p rows is = cc
plain_under l m h (kind.struct fs) p rows is = cc
plain_under l m h (kind.union mode stated ids fs) p rows is = cc
plain_under l m h (kind.dictionary t ordered id k) p rows is = cc
plain_under l m h (kind.extension name metadata k) p rows is = plain_under l m h k p rows is
plain_under l m h k p rows is = refl

-- so it is read as it is read by itself
pub read_plain : (m : RecordBatch) (h : Held) (k : Kind) (p : Place) (rows : ℕ) → is_leaf_kind k ≡ true → plain_read m k p rows ≡ parts_read m h k p rows
read_plain m h k p rows is = plain_under k m h k p rows is ∙ ap (λ l. parts_under l m h k p rows) (sym (plain_itself k (no_dictionaries k is)))

field_sound : (name : List ℕ) (nullable : Bool) (metadata : Metadata) (k : Kind) (others : Fields) → is_carried k ≡ true → KindSound k → FieldsSound others → FieldsSound (field name nullable metadata k others)
field_sound name nullable metadata k others carried f g m d h p rows c v fine =
    let a = f (plain_kind k) (label_plain k) m d h p (rows p) c v.0 (none_first _ _ fine) in
    let b = g m d h (after m k p) rows c v.1 (sound_second (view_count_faults m k p) _ (none_second (array_faults m d k p (rows p)) _ fine)) in
    record {
      kinds = and_from (kind_eq (plain_kind k) _) _ (same_kind (plain_kind k) _ a.kind_is) b.kinds;
      rows = rw (a.rows_are, b.rows) refl;
      none = both_none _ _ a.none b.none;
    }

sound_cases : TreeCases KindSound FieldsSound
sound_cases = record {
  on_leaf = λ k leaf l e m d h p rows c v fine. subst (SoundAs l rows) (plain_under l m h k p rows leaf) (leaf_sound k leaf l e m d p rows fine);
  on_list = λ o fs w g l e m d h p rows c v fine. list_sound m l o fs p rows _ (label_list o l (kind.«list» o fs) e ∙ list_itself o fs) (label_fields l (kind.«list» o fs) e) w (g m d h (inside 2 p) (λ q. offset_read m o p rows) c v (list_children m d o fs p rows fine)) (list_rises m d l o fs p rows fine);
  on_map = λ sorted fs w two g l e m d h p rows c v fine.
      let k : array_faults m d (kind.«list» small fs) p rows ≡ [] = sym (map_is_list m d sorted fs p rows) ∙ fine in
      map_sound m l fs p rows _ (label_map small l (kind.map sorted fs) e ∙ two) (label_fields l (kind.map sorted fs) e) w (g m d h (inside 2 p) (λ q. offset_read m small p rows) c v (list_children m d small fs p rows k)) (list_rises m d l small fs p rows k);
  on_sized = λ size fs w s g l e m d h p rows c v fine. sized_sound m l size fs p rows _ (label_sized l (kind.fixed_size_list size fs) e ∙ sized_itself size fs s) (label_size l (kind.fixed_size_list size fs) e) (label_fields l (kind.fixed_size_list size fs) e) (g m d h (inside 1 p) (λ q. size * rows) c v (none_second _ _ fine));
  on_struct = λ fs g l e m d h p rows c v fine. struct_sound m l fs p rows _ (label_struct l (kind.struct fs) e) (label_fields l (kind.struct fs) e) (g m d h (inside 1 p) (λ q. rows) c v (none_second _ _ fine));
  on_union = λ mode stated ids fs right g l e m d h p rows c v fine.
      subst (SoundAs l rows) (union_under l m h mode stated ids fs p rows)
      (union_sound m d l mode stated ids fs p rows _ e right fine (g m d h (children_at m mode p) (λ q. child_rows m mode rows q) c v (union_children m d mode stated ids fs p rows fine)));
  on_dictionary = λ t ordered id k carried f l e m d h p rows c v fine. dictionary_sound m d h l t ordered id k p rows e carried c v fine;
  on_extension = λ name metadata k f l e m d h p rows c v fine. f l (record { under = e.under }) m d h p rows c v fine;
  on_none = λ m d h p rows c v fine. record { kinds = refl; rows = refl; none = refl };
  on_field = field_sound;
}

pub tree_sound : (k : Kind) → is_carried k ≡ true → KindSound k
tree_sound = by_tree KindSound FieldsSound sound_cases

pub forest_sound : (fs : Fields) → Rattle.arrow_arrays.specs.Carried.are_carried fs ≡ true → FieldsSound fs
forest_sound = by_fields KindSound FieldsSound sound_cases

pub parts_sound : PartsAreSound
parts_sound m d h k p rows c v carried fine =
    let s = tree_sound k carried (plain_kind k) (label_plain k) m d h p rows c v fine in
    record { same_kind = s.kind_is; all_rows = s.rows_are; no_fault = s.none }
