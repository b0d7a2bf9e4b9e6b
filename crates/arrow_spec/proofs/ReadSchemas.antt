-- A schema that is read may be written.
use Rattle.std.proofs.Common.{◌≡◌, ℕ, zero, suc, ◌+◌, ◌<◌, ◌≤◌, List, [], ◌∷◌, ◌++◌, length, Option, Some, None, Ok, refl, sym, ap, subst, arith, true, false, Bool}
use Rattle.std.specs.Str.{is_utf8, chars}
use lib.Utf8.{encode}
use Rattle.std.proofs.lemmas.Bool.{ltb-true}
use Rattle.arrow_spec.specs.Readings.{Reading}
use Rattle.arrow_spec.specs.Flat.{Table, Vector, or_default}
use Rattle.arrow_spec.specs.Kinds as kind
use Rattle.arrow_spec.specs.Kinds.{Kind, Fields, Metadata, none, field, Use, uses_in, width}
use Rattle.arrow_spec.specs.Schema.{own_pairs, Before, Encoding, Head, Schema, Tag, empty_vector, is_nested, is_whole, children_at, type_at, with_extension, with_encoding, head_at, fields_by, field_at, uses_agree, schema_of}
use Rattle.arrow_spec.specs.WrittenSchemas.{AreFieldPairs, AreSizes, FieldsFit, IsText, KindFits, SchemaMayBeWritten, of_field, after_fields, after_kind, pairs_for, sizes_in, sizes_of}
use Rattle.arrow_spec.proofs.SchemaPairs.{AreTexts}
use Rattle.arrow_spec.proofs.PairMaps.{IsSorted}
use Rattle.arrow_spec.proofs.NumberedFields.{IsNotBehind}
use Rattle.arrow_spec.proofs.ReadPairs.{is_true, own_may, pairs_are_read, same_read, slot_text_is, sorted_ascend, through}
use Rattle.arrow_spec.proofs.RegularSchemas.{ids_all}
use Rattle.arrow_spec.proofs.ReadTypes.{FieldKind, field_kind, type_read}
use Rattle.arrow_spec.proofs.ReadNumbers.{IdFits, KindNumbers, NumbersFit, encoding_fits, field_numbers, type_numbers}
use Rattle.arrow_spec.specs.Laws.{AreBytes, ReadSchemaMayBeWritten}

-- ── counts ──

-- what stands further stays further
mutual
  kind_further : (k : Kind) (p q : Before) → IsNotBehind p q → IsNotBehind (after_kind k p) (after_kind k q)
  kind_further (kind.«list» o fs) p q h = fields_further fs p q h
  kind_further (kind.fixed_size_list n fs) p q h = fields_further fs p q h
  kind_further (kind.struct fs) p q h = fields_further fs p q h
  kind_further (kind.map sorted fs) p q h = fields_further fs p q h
  kind_further (kind.union mode stated ids fs) p q h = fields_further fs p q h
  kind_further (kind.dictionary t ordered id k) p q h = kind_further k p q h
  kind_further (kind.extension name metadata k) p q h = kind_further k p q h
  kind_further k p q h = h

  pub fields_further : (fs : Fields) (p q : Before) → IsNotBehind p q → IsNotBehind (after_fields fs p) (after_fields fs q)
  fields_further none p q h = h
  fields_further (field name nullable metadata k others) p q h =
      let here : Before = record { fields = suc p.fields; pairs = p.pairs + length (pairs_for k metadata) } in
      let there : Before = record { fields = suc q.fields; pairs = q.pairs + length (pairs_for k metadata) } in
      fields_further others (after_kind k here) (after_kind k there) (kind_further k here there (omega (arith, h.0), omega (arith, h.1)))

within_trans : (p q r : Before) → IsNotBehind p q → IsNotBehind q r → IsNotBehind p r
within_trans p q r h g = (omega (arith, h.0, g.0), omega (arith, h.1, g.1))

-- no more than a schema may have
abbrev AreFew : Before → Type 0
AreFew p = (p.fields ≤ 65536) × (p.pairs ≤ 1048576)

sizes_both : (ms ns : List ℕ) → AreSizes (ms ++ ns) → AreSizes ms × AreSizes ns
sizes_both [] ns h = (tt, h)
sizes_both (m ∷ ms) ns h = let rest = sizes_both ms ns h.1 in ((h.0, rest.0), rest.1)

sizes_all : (ms ns : List ℕ) → AreSizes ms → AreSizes ns → AreSizes (ms ++ ns)
sizes_all [] ns h g = g
sizes_all (m ∷ ms) ns h g = (h.0, sizes_all ms ns h.1 g)

numbers_both : {ms ns : List ℕ} {us vs : List Use} → NumbersFit ms us → NumbersFit ns vs → NumbersFit (ms ++ ns) (us ++ vs)
numbers_both {ms} {ns} {us} {vs} h g = record { sizes_fit = sizes_all ms ns h.sizes_fit g.sizes_fit; ids_fit = ids_all us vs h.ids_fit g.ids_fit }

-- ── a field before its children ──

record HeadRead (b : List ℕ) (before : Before) (head : Head) : Type 0 where
  name : is_utf8 head.name ≡ true
  pairs : Metadata
  texts : AreTexts pairs
  sorted : IsSorted pairs
  encoding : Option Encoding
  tag : Tag
  table : Table
  build : Fields → Kind
  type_is : type_at b table head.children.count tag ≡ Ok build
  builds : (fs : Fields) → head.of_children fs ≡ with_encoding encoding (with_extension pairs (build fs))
  own : head.metadata ≡ own_pairs pairs
  leaf : is_nested tag ≡ false → head.children.count ≡ 0
  fields : head.before.fields ≡ suc before.fields
  more : before.pairs + length pairs ≤ head.before.pairs
  few : AreFew head.before
  id : AreBytes b → IdFits encoding

no_name : is_utf8 [] ≡ true
unfolding is_utf8 chars encode
no_name = refl

name_text : (x : Option (List ℕ)) → IsText x → is_utf8 (or_default [] x) ≡ true
name_text None h = no_name
name_text (Some t) h = h

no_children : (nested : Bool) (b : List ℕ) (t : Table) (tag : Tag) (v : Vector) → is_nested tag ≡ nested → children_at b t tag ≡ Ok v → is_nested tag ≡ false → v.count ≡ 0
no_children true b t tag v e h leaf = absurd (clash (is_nested tag) e leaf)
  where
    clash : (x : Bool) → x ≡ true → x ≡ false → ⊥
    clash x p q = cc
no_children false b t tag v e h leaf =
    let nothing : Rattle.arrow_spec.specs.Readings.Reading Vector = Ok (empty_vector None) in
    let same : empty_vector None ≡ v = same_read _ v (rw (children_at, e) at h) in
    ap (λ w. w.count) (sym same)

head_read : (b : List ℕ) (at : ℕ) (before : Before) (head : Head) → head_at b at before ≡ Ok head → HeadRead b before head
unfolding head_at
head_read b at before head h =
    through _ _ head h λ u room h1. through _ _ head h1 λ t t_is h2. through _ _ head h2 λ name name_is h3. through _ _ head h3 λ nullable nullable_is h4.
    through _ _ head h4 λ number number_is h5. through _ _ head h5 λ tag tag_is h6. through _ _ head h6 λ type type_is h7.
    through _ _ head h7 λ encoding encoding_is h8. through _ _ head h8 λ children children_is h9. through _ _ head h9 λ pairs pairs_is h10. through _ _ head h10 λ build build_is h11.
    let few : before.fields < 65536 = ltb-true before.fields 65536 (is_true _ _ u room) in
    let read = pairs_are_read b t 6 before.pairs pairs pairs_is in
    subst (λ x. HeadRead b before x) (same_read _ head h11) (record {
      name = name_text name (slot_text_is b t 0 name name_is);
      pairs = pairs.0;
      texts = read.texts;
      sorted = read.sorted;
      encoding = encoding;
      tag = tag;
      table = type;
      build = build;
      type_is = build_is;
      builds = λ fs. refl;
      own = refl;
      leaf = no_children (is_nested tag) b t tag children refl children_is;
      fields = refl;
      more = read.more;
      few = (omega (arith, few), read.few);
      id = λ bytes. encoding_fits b t encoding bytes encoding_is;
    })

-- ── a field ──

record FieldRead (b : List ℕ) (levels : ℕ) (before : Before) (f : Head × Kind × Before) : Type 0 where
  name : is_utf8 f.0.name ≡ true
  own : AreFieldPairs f.0.metadata
  fits : AreSizes (sizes_of f.1) → KindFits of_field levels f.1
  more : IsNotBehind (after_kind f.1 (record { fields = suc before.fields; pairs = before.pairs + length (pairs_for f.1 f.0.metadata) })) f.2
  few : AreFew f.2
  numbers : AreBytes b → KindNumbers f.1

-- fields that were read behind others
record FieldsRead (b : List ℕ) (levels n : ℕ) (fs : Fields) (before after : Before) : Type 0 where
  fit : AreSizes (sizes_in fs) → FieldsFit levels fs
  count : width fs ≡ n
  more : IsNotBehind (after_fields fs before) after
  few : AreFew before → AreFew after
  numbers : AreBytes b → NumbersFit (sizes_in fs) (uses_in fs)

none_read : (fs : Fields) (n : ℕ) → width fs ≡ n → n ≡ 0 → fs ≡ none
none_read none n h e = refl
none_read (field name nullable metadata k others) n h e = absurd (omega (arith, h, e))

field_from : (levels : ℕ) (b : List ℕ) (before : Before) (head : Head) (children : Fields × Before) (f : Head × Kind × Before) → HeadRead b before head → FieldsRead b levels head.children.count children.0 head.before children.1 → is_whole (head.of_children children.0) ≡ true
    → (head, head.of_children children.0, children.1) ≡ f → FieldRead b levels before f
field_from levels b before head children f is below whole e =
    let nothing : is_nested is.tag ≡ false → children.0 ≡ none = λ leaf. none_read children.0 head.children.count below.count (is.leaf leaf) in
    let type = type_read b is.table levels head.children.count is.tag children.0 is.build is.type_is (record { fit = below.fit; count = below.count }) nothing in
    let built = is.builds children.0 in
    let made : FieldKind levels children.0 is.pairs (head.of_children children.0) = subst (λ k. FieldKind levels children.0 is.pairs k) (sym built) (field_kind is.encoding levels children.0 is.pairs (is.build children.0) is.texts type) in
    let k = head.of_children children.0 in
    let start : Before = record { fields = suc before.fields; pairs = before.pairs + length (pairs_for k head.metadata) } in
    let own_few : length (pairs_for k head.metadata) ≤ length is.pairs = rw (is.own) made.pairs in
    let first : IsNotBehind start head.before = (omega (arith, is.fields), omega (arith, is.more, own_few)) in
    let further : IsNotBehind (after_kind k start) children.1 = rw (made.counts start) (within_trans (after_fields children.0 start) (after_fields children.0 head.before) children.1 (fields_further children.0 start head.before first) below.more) in
    subst (λ x. FieldRead b levels before x) e (record {
      name = is.name;
      own = subst AreFieldPairs (sym is.own) (own_may is.pairs is.texts is.sorted);
      fits = made.fits whole;
      more = further;
      few = below.few is.few;
      numbers = λ bytes. subst KindNumbers (sym built) (field_numbers is.encoding is.pairs (is.build children.0) (is.id bytes) (type_numbers b is.table head.children.count is.tag children.0 is.build bytes is.type_is (below.numbers bytes)));
    })

-- ── fields ──

-- one field before others
fields_from_one : (b : List ℕ) (levels n : ℕ) (before last : Before) (f : Head × Kind × Before) (others : Fields) → FieldRead b levels before f → FieldsRead b (suc levels) n others f.2 last → FieldsRead b (suc levels) (suc n) (field f.0.name f.0.nullable f.0.metadata f.1 others) before last
fields_from_one b levels n before last f others first rest =
    let start : Before = record { fields = suc before.fields; pairs = before.pairs + length (pairs_for f.1 f.0.metadata) } in
    record {
      fit = λ sizes. let both = sizes_both (sizes_of f.1) (sizes_in others) sizes in (first.name, first.own, first.fits both.0, rest.fit both.1);
      count = ap suc rest.count;
      more = within_trans (after_fields others (after_kind f.1 start)) (after_fields others f.2) last (fields_further others (after_kind f.1 start) f.2 first.more) rest.more;
      few = λ h. rest.few first.few;
      numbers = λ bytes. numbers_both (first.numbers bytes) (rest.numbers bytes);
    }

-- a level of fields, each of which is read so
abbrev IsReadAt : ℕ → List ℕ → Type 0
IsReadAt levels b = (at : ℕ) (before : Before) (f : Head × Kind × Before) → field_at (suc levels) b at before ≡ Ok f → FieldRead b levels before f

level_read : (levels : ℕ) (b : List ℕ) → IsReadAt levels b → (n at : ℕ) (before : Before) (r : Fields × Before) → fields_by (λ p earlier. field_at (suc levels) b p earlier) at n before ≡ Ok r → FieldsRead b (suc levels) n r.0 before r.1
unfolding fields_by
level_read levels b one zero at before r h =
    subst (λ x. FieldsRead b (suc levels) 0 x.0 before x.1) (same_read _ r h) (record { fit = λ sizes. tt; count = refl; more = (omega arith, omega arith); few = λ few. few; numbers = λ bytes. record { sizes_fit = tt; ids_fit = tt } })
level_read levels b one (suc n) at before r h =
    through _ _ r h λ f f_is h1. through _ _ r h1 λ others others_are h2.
    subst (λ x. FieldsRead b (suc levels) (suc n) x.0 before x.1) (same_read _ r h2) (fields_from_one b levels n before others.1 f others.0 (one at before f f_is) (level_read levels b one n (at + 4) f.2 others others_are))

-- no level is left
last_read : (b : List ℕ) (n at : ℕ) (before : Before) (r : Fields × Before) → fields_by (λ p earlier. field_at 0 b p earlier) at n before ≡ Ok r → FieldsRead b 0 n r.0 before r.1
unfolding fields_by field_at
last_read b zero at before r h =
    subst (λ x. FieldsRead b 0 0 x.0 before x.1) (same_read _ r h) (record { fit = λ sizes. tt; count = refl; more = (omega arith, omega arith); few = λ few. few; numbers = λ bytes. record { sizes_fit = tt; ids_fit = tt } })
last_read b (suc n) at before r h = through _ _ r h λ f f_is h1. refused f f_is
  where
    refused : {P : Type 0} (f : Head × Kind × Before) → field_at 0 b at before ≡ Ok f → P
    refused f g = cc

field_read : (levels : ℕ) (b : List ℕ) → IsReadAt levels b
unfolding field_at
field_read zero b at before f h =
    through _ _ f h λ head head_is h1. through _ _ f h1 λ children children_are h2. through _ _ f h2 λ u whole h3.
    field_from 0 b before head children f (head_read b at before head head_is) (last_read b head.children.count head.children.first head.before children children_are) (is_true _ _ u whole) (same_read _ f h3)
field_read (suc levels) b at before f h =
    through _ _ f h λ head head_is h1. through _ _ f h1 λ children children_are h2. through _ _ f h2 λ u whole h3.
    field_from (suc levels) b before head children f (head_read b at before head head_is) (level_read levels b (field_read levels b) head.children.count head.children.first head.before children children_are) (is_true _ _ u whole) (same_read _ f h3)

-- ── the schema ──

-- what is read of a schema
pub record SchemaRead (b : List ℕ) (s : Schema) : Type 0 where
  pub may : AreSizes (sizes_in s.fields) → SchemaMayBeWritten s.fields s.metadata
  pub agree : uses_agree [] (uses_in s.fields) ≡ Ok tt
  pub numbers : AreBytes b → NumbersFit (sizes_in s.fields) (uses_in s.fields)

pub schema_read : (b : List ℕ) (t : Table) (s : Schema) → schema_of b t ≡ Ok s → SchemaRead b s
unfolding schema_of
schema_read b t s h =
    through _ _ s h λ order order_is h1. through _ _ s h1 λ pairs pairs_are h2. through _ _ s h2 λ v v_is h3. through _ _ s h3 λ fields fields_are h4.
    through _ _ s h4 λ u distinct h5. through _ _ s h5 λ u' uses h6.
    let own = pairs_are_read b t 2 0 pairs pairs_are in
    let start : Before = record { fields = 0; pairs = pairs.1 } in
    let begun : Before = record { fields = 0; pairs = length pairs.0 } in
    let below = level_read 63 b (field_read 63 b) v.count v.first start fields fields_are in
    let few : AreFew fields.1 = below.few (omega arith, own.few) in
    let further : IsNotBehind (after_fields fields.0 begun) fields.1 = within_trans (after_fields fields.0 begun) (after_fields fields.0 start) fields.1 (fields_further fields.0 begun start (omega arith, omega (arith, own.more))) below.more in
    subst (λ x. SchemaRead b x) (same_read _ s h6) (record {
      may = λ sizes. record {
        fit = below.fit sizes;
        ascend = sorted_ascend pairs.0 own.texts own.sorted;
        few_fields = omega (arith, further.0, few.0);
        few_pairs = omega (arith, further.1, few.1);
        distinct = is_true _ _ u distinct;
      };
      agree = uses;
      numbers = below.numbers;
    })

-- what is read of bytes may be written
pub read_may : ReadSchemaMayBeWritten
read_may b t s bytes h =
    let read = schema_read b t s h in
    let numbers = read.numbers bytes in
    (read.may numbers.sizes_fit, record { within = numbers.ids_fit; agree = read.agree })
