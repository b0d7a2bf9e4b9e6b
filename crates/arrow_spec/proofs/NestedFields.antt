-- Fields of nested kinds are read back, with their ids.
use Rattle.std.proofs.Common.{◌≡◌, ℕ, suc, zero, ◌+◌, ◌<◌, ◌≤◌, List, [], ◌∷◌, ◌++◌, length, Option, Some, None, Ok, refl, sym, ap, subst, ◌∙◌, arith, true, false, Bool, ℤ}
use Rattle.std.specs.Prelude.{nat_lt}
use Rattle.std.specs.Int.{w8, w64, cast_unsigned}
use Rattle.std.specs.Str.{is_utf8}
use Rattle.std.proofs.lemmas.Bool.{lt-ltb}
use Rattle.arrow_spec.specs.declared.types.IntegerType.{IntegerType}
use Rattle.arrow_spec.specs.Readings.{bind, Reading}
use Rattle.arrow_spec.specs.Flat.{Table, Vector, slot, table_at, target, slot_unsigned, slot_bool, slot_table, slot_vector, slot_text}
use Rattle.arrow_spec.specs.Kinds as kind
use Rattle.arrow_spec.specs.Kinds.{Kind, Fields, none, field, width, small, large, Metadata, Use, uses_of, uses_in}
use Rattle.arrow_spec.specs.Schema.{Tag, Before, Encoding, Head, tag_of, is_nested, children_at, type_at, is_whole, head_at, field_at, fields_by, pairs_of, encoding_at, with_encoding, with_extension, without_key, value_of, extension_name, extension_metadata}
use Rattle.arrow_spec.specs.Schema as schema
use Rattle.arrow_spec.specs.Layout as layout
use Rattle.arrow_spec.specs.Layout.{Node, Slots, Nodes, node_count}
use Rattle.arrow_spec.specs.Sent.{flag, int_node, type_tag, type_node, encoding_slot, field_pairs, pair_nodes, pairs_slot, child_nodes, field_nodes}
use Rattle.arrow_spec.specs.Held.{Holds, HoldsSlots, HoldsNodes}
use Rattle.arrow_spec.specs.WrittenSchemas.{AreIds, Part, of_field, of_dictionary, of_extension, pairs_for, AreFieldPairs, FieldsFit, KindFits, after_fields, after_kind}
use Rattle.arrow_spec.proofs.Slots.{unsigned_there, table_absent, table_there, vector_there, text_there, zero_back, flag_back}
use Rattle.arrow_spec.proofs.IntegerSchemas.{int_back, no_encoding}
use Rattle.arrow_spec.proofs.SchemaPairs.{pairs_slot_back}
use Rattle.arrow_spec.proofs.PairMaps.{all_pairs}
use Rattle.arrow_spec.proofs.ExtensionPairs.{extended, extension_back, pairs_read, pairs_texts, pairs_written}
use Rattle.arrow_spec.proofs.TypeTables.{TypeBack, flat_type}
use Rattle.arrow_spec.proofs.NestedTypes.{small_list_type, large_list_type, fixed_size_list_type, struct_type, map_type, union_type}
use Rattle.arrow_spec.proofs.NumberedFields.{kind_more, fields_more}

-- ── dictionaries ──

-- the encoding that is read of a kind
abbrev encoding_for : Kind → Option Encoding
encoding_for (kind.dictionary t ordered id k) = Some (record { index = t; ordered = ordered; id = id })
encoding_for k = None

-- the kind below a dictionary and an extension
abbrev pub below : Kind → Kind
below (kind.dictionary t ordered id (kind.extension name metadata k)) = k
below (kind.dictionary t ordered id k) = k
below (kind.extension name metadata k) = k
below k = k

with_both : (k : Kind) → with_encoding (encoding_for k) (extended k (below k)) ≡ k
with_both (kind.dictionary t ordered id (kind.extension name metadata k)) = refl
with_both (kind.dictionary t ordered id k) = refl
with_both (kind.extension name metadata k) = refl
with_both k = refl

pub within_both : (us vs : List Use) → AreIds (us ++ vs) → AreIds us × AreIds vs
within_both [] vs h = (tt, h)
within_both (u ∷ us) vs h = let rest = within_both us vs h.1 in ((h.0, rest.0), rest.1)

encoding_back : (k : Kind) (s : Slots) (b : List ℕ) (t : Table) → AreIds (uses_of k) → HoldsSlots (encoding_slot k s) b t 4 → (encoding_at b t ≡ Ok (encoding_for k)) × HoldsSlots s b t 5
unfolding encoding_at bind
encoding_back (kind.dictionary i ordered id k) s b t within h =
    let c = h.0 in
    let t' : Table = c.4.0 in
    let there : slot_table b t 4 ≡ Ok (Some t') = table_there b t 4 c.0 c.1 t' c.2 c.3 c.4.1 in
    let number = zero_back w64 id (layout.child (int_node i) (flag ordered layout.no_more)) b t' 0 within.0 c.4.2 in
    let d = number.1.0 in
    let t'' : Table = d.4.0 in
    let index : slot_table b t' 1 ≡ Ok (Some t'') = table_there b t' 1 d.0 d.1 t'' d.2 d.3 d.4.1 in
    let sorted = flag_back ordered layout.no_more b t' 2 number.1.1 in
    (rw (encoding_at, there) (rw (number.0, index, int_back i b t'' d.4.2, sorted.0) refl), h.1)
encoding_back k s b t within h = (no_encoding b t (table_absent b t 4 h.0), h.1)

-- ── a kind ──

-- the children's vector, which is looked at where a type has children
abbrev pub looked_at : Bool → Vector → Vector
looked_at true v = v
looked_at false v = record { first = 0; count = 0 }

children_looked_at : (nested : Bool) (tag : Tag) (b : List ℕ) (t : Table) (v : Vector) → is_nested tag ≡ nested → slot_vector 4 b t 5 ≡ Ok (Some v) → children_at b t tag ≡ Ok (looked_at nested v)
unfolding bind
children_looked_at true tag b t v e h = rw (children_at, e, h) refl
children_looked_at false tag b t v e h = rw (children_at, e) refl

-- what is read of a field's kind, whose type table stands at q and whose children's offsets stand in v
pub record KindBack (k : Kind) (levels : ℕ) (b : List ℕ) (q : ℕ) (v : Vector) (before : Before) : Type 0 where
  pub nested : Bool
  pub build : Fields → Kind
  pub type : TypeBack k nested (looked_at nested v).count b q build
  pub inner : Fields
  pub inner_is : fields_by (λ p earlier. field_at levels b p earlier) (looked_at nested v).first (looked_at nested v).count before ≡ Ok (inner, after_kind k before)
  pub built : build inner ≡ below k

flat_kind : (k : Kind) (levels : ℕ) (b : List ℕ) (q : ℕ) (v : Vector) (before : Before) → TypeBack k false 0 b q (λ fs. k) → after_kind k before ≡ before → below k ≡ k → KindBack k levels b q v before
unfolding fields_by
flat_kind k levels b q v before type same kept = record { nested = false; build = λ fs. k; type = type; inner = none; inner_is = rw same refl; built = sym kept }

nested_by : (k : Kind) (tag : Tag) (b : List ℕ) (q : ℕ) (t : Table) (n : ℕ) (build : Fields → Kind) → schema.tag_of (cast_unsigned w8 (type_tag k)) ≡ Ok tag → is_nested tag ≡ true → table_at b q ≡ Ok t → type_at b t n tag ≡ Ok build → TypeBack k true n b q build
nested_by k tag b q t n build tagged nested found type = record { tag = tag; tag_is = tagged; nested_is = nested; t = t; found = found; type_is = type }

-- what is read of a kind below another, of the same type table and children
passed_on : (k outer : Kind) (levels : ℕ) (b : List ℕ) (q : ℕ) (v : Vector) (before : Before) → type_tag outer ≡ type_tag k → after_kind outer before ≡ after_kind k before → below outer ≡ below k → KindBack k levels b q v before → KindBack outer levels b q v before
passed_on k outer levels b q v before tag after same back = record {
  nested = back.nested;
  build = back.build;
  type = record { tag = back.type.tag; tag_is = ap (λ x. tag_of (cast_unsigned w8 x)) tag ∙ back.type.tag_is; nested_is = back.type.nested_is; t = back.type.t; found = back.type.found; type_is = back.type.type_is };
  inner = back.inner;
  inner_is = back.inner_is ∙ ap (λ p. Ok (back.inner, p)) (sym after);
  built = back.built ∙ sym same;
}

-- an extension's storage is none
extension_below : (name : List ℕ) (metadata : Option (List ℕ)) (k : Kind) (levels : ℕ) → KindFits of_extension levels k → below (kind.extension name metadata k) ≡ below k
extension_below name metadata (kind.dictionary t ordered id k) levels fits = absurd fits
extension_below name metadata (kind.extension other more k) levels fits = absurd fits
extension_below name metadata k levels fits = refl

-- a dictionary's values are no dictionary
dictionary_below : (t : IntegerType) (ordered : Bool) (id : ℤ) (k : Kind) (levels : ℕ) → KindFits of_dictionary levels k → below (kind.dictionary t ordered id k) ≡ below k
dictionary_below t ordered id (kind.dictionary u sorted other k) levels fits = absurd fits
dictionary_below t ordered id (kind.extension name metadata k) levels fits = refl
dictionary_below t ordered id k levels fits = refl

-- what a kind asks of its children holds of one that fits
whole_kind : (k : Kind) (at : Part) (levels : ℕ) → KindFits at levels k → is_whole k ≡ true
whole_kind (kind.map sorted fs) at levels fits = fits.1
whole_kind (kind.dictionary t ordered id k) of_field levels fits = whole_kind k of_dictionary levels fits
whole_kind (kind.dictionary t ordered id k) of_dictionary levels fits = absurd fits
whole_kind (kind.dictionary t ordered id k) of_extension levels fits = absurd fits
whole_kind (kind.extension name metadata k) of_field levels fits = whole_kind k of_extension levels fits.2
whole_kind (kind.extension name metadata k) of_dictionary levels fits = whole_kind k of_extension levels fits.2
whole_kind (kind.extension name metadata k) of_extension levels fits = absurd fits
whole_kind k at levels fits = refl

-- the children, of which the vector says how many there are
counted : (fs : Fields) (levels : ℕ) (b : List ℕ) (v : Vector) (before after : Before) (n : ℕ) → v.count ≡ n → fields_by (λ p earlier. field_at levels b p earlier) v.first n before ≡ Ok (fs, after)
    → fields_by (λ p earlier. field_at levels b p earlier) v.first v.count before ≡ Ok (fs, after)
counted fs levels b v before after n count e = rw count e

pub count_fields : (fs : Fields) → node_count (field_nodes fs) ≡ width fs
count_fields none = refl
count_fields (field name nullable metadata k others) = ap suc (count_fields others)

-- ── a field's slots ──

abbrev slots_of : List ℕ → Bool → Metadata → Kind → Slots
slots_of name nullable metadata k = layout.child (layout.text name) (flag nullable (layout.value w8 (type_tag k) (layout.child (type_node k) (encoding_slot k (layout.child (layout.tables (child_nodes k)) (pairs_slot (field_pairs k metadata) layout.no_more))))))

record Parts (name : List ℕ) (nullable : Bool) (metadata : Metadata) (k : Kind) (b : List ℕ) (q before : ℕ) : Type 0 where
  t : Table
  found : table_at b q ≡ Ok t
  text : slot_text b t 0 ≡ Ok (Some name)
  nullable_is : slot_bool b t 1 ≡ Ok nullable
  tag : slot_unsigned w8 0 b t 2 ≡ Ok (cast_unsigned w8 (type_tag k))
  type_slot : ℕ
  type_place : ℕ
  type_there : slot b t 3 ≡ Ok (Some type_slot)
  type_target : target b type_slot ≡ Ok type_place
  type_held : Holds (type_node k) b type_place
  encoding : encoding_at b t ≡ Ok (encoding_for k)
  children : Vector
  children_are : slot_vector 4 b t 5 ≡ Ok (Some children)
  count_is : children.count ≡ node_count (child_nodes k)
  children_held : HoldsNodes (child_nodes k) b children.first
  pairs : pairs_of b t 6 before ≡ Ok (all_pairs [] (pairs_for k metadata), before + length (pairs_for k metadata))

parts_of : (name : List ℕ) (nullable : Bool) (metadata : Metadata) (k : Kind) (levels : ℕ) (b : List ℕ) (q before : ℕ) → is_utf8 name ≡ true → KindFits of_field levels k → AreFieldPairs metadata → AreIds (uses_of k) → before + length (pairs_for k metadata) ≤ 1048576
    → Holds (layout.table (slots_of name nullable metadata k)) b q → Parts name nullable metadata k b q before
parts_of name nullable metadata k levels b q before utf8 fits own within room h =
    let t = h.0 in
    let s0 = h.2 in
    let s6 = pairs_slot (field_pairs k metadata) layout.no_more in
    let s5 = layout.child (layout.tables (child_nodes k)) s6 in
    let null = flag_back nullable (layout.value w8 (type_tag k) (layout.child (type_node k) (encoding_slot k s5))) b t 1 s0.1 in
    let s2 = null.1 in
    let c3 = s2.1.0 in
    let encoding = encoding_back k s5 b t within s2.1.1 in
    let c5 = encoding.1.0 in
    let n = node_count (child_nodes k) in
    let last : HoldsSlots (pairs_slot (pair_nodes (pairs_for k metadata)) layout.no_more) b t 6 = subst (λ ns. HoldsSlots (pairs_slot ns layout.no_more) b t 6) (pairs_written k metadata) encoding.1.1 in
    record {
      t = t;
      found = h.1;
      text = text_there b t 0 s0.0.0 s0.0.1 name utf8 s0.0.2 s0.0.3 s0.0.4.0 s0.0.4.1;
      nullable_is = null.0;
      tag = unsigned_there w8 0 b t 2 s2.0.0 (cast_unsigned w8 (type_tag k)) s2.0.1 s2.0.2;
      type_slot = c3.0;
      type_place = c3.1;
      type_there = c3.2;
      type_target = c3.3;
      type_held = c3.4;
      encoding = encoding.0;
      children = record { first = c5.1 + 4; count = n };
      children_are = vector_there 4 b t 5 c5.0 c5.1 n c5.2 c5.3 c5.4.0 (omega (arith, c5.4.1));
      count_is = refl;
      children_held = c5.4.2;
      pairs = (pairs_slot_back (pairs_for k metadata) layout.no_more b t 6 before (pairs_texts k levels metadata fits own) room last).0;
    }

-- ── a field ──

abbrev inside : Before → Kind → Metadata → Before
inside before k metadata = record { fields = suc before.fields; pairs = before.pairs + length (pairs_for k metadata) }

abbrev head_by : List ℕ → Bool → Metadata → Kind → (Fields → Kind) → Vector → Before → Head
head_by name nullable metadata k build v before = record { name = name; nullable = nullable; metadata = metadata; of_children = λ fs. with_encoding (encoding_for k) (with_extension (all_pairs [] (pairs_for k metadata)) (build fs)); children = v; before = inside before k metadata }

head_back : (name : List ℕ) (nullable : Bool) (metadata : Metadata) (k : Kind) (levels : ℕ) (b : List ℕ) (at q : ℕ) (before : Before) → AreFieldPairs metadata → before.fields < 65536 → target b at ≡ Ok q → (parts : Parts name nullable metadata k b q before.pairs)
    → (back : KindBack k levels b parts.type_place parts.children (inside before k metadata))
    → head_at b at before ≡ Ok (head_by name nullable metadata k back.build (looked_at back.nested parts.children) before)
unfolding head_at bind
head_back name nullable metadata k levels b at q before own room to parts back =
    let t = parts.t in
    let type' = back.type in
    let room' : nat_lt before.fields 65536 ≡ true = lt-ltb _ _ room in
    let type : slot_table b t 3 ≡ Ok (Some type'.t) = table_there b t 3 parts.type_slot parts.type_place type'.t parts.type_there parts.type_target type'.found in
    let children : children_at b t type'.tag ≡ Ok (looked_at back.nested parts.children) = children_looked_at back.nested type'.tag b t parts.children type'.nested_is parts.children_are in
    let kept : without_key extension_name (without_key extension_metadata (all_pairs [] (pairs_for k metadata))) ≡ metadata = (pairs_read k metadata own).kept in
    rw (room', to, parts.found, parts.text, parts.nullable_is, parts.tag, type'.tag_is, type, parts.encoding, children, parts.pairs, type'.type_is) (rw kept refl)

whole_back : (k : Kind) (metadata : Metadata) (x : Kind) → AreFieldPairs metadata → x ≡ below k → with_encoding (encoding_for k) (with_extension (all_pairs [] (pairs_for k metadata)) x) ≡ k
whole_back k metadata x own e = ap (λ y. with_encoding (encoding_for k) y) (extension_back k (all_pairs [] (pairs_for k metadata)) x (pairs_read k metadata own).extended ∙ ap (λ y. extended k y) e) ∙ with_both k

field_back : (name : List ℕ) (nullable : Bool) (metadata : Metadata) (k : Kind) (levels : ℕ) (b : List ℕ) (at q : ℕ) (before : Before) → AreFieldPairs metadata → KindFits of_field levels k → before.fields < 65536 → target b at ≡ Ok q → (parts : Parts name nullable metadata k b q before.pairs)
    → (back : KindBack k levels b parts.type_place parts.children (inside before k metadata))
    → field_at (suc levels) b at before ≡ Ok (head_by name nullable metadata k back.build (looked_at back.nested parts.children) before, k, after_kind k (inside before k metadata))
unfolding field_at bind
field_back name nullable metadata k levels b at q before own fits room to parts back =
    let head = head_back name nullable metadata k levels b at q before own room to parts back in
    let kind' : with_encoding (encoding_for k) (with_extension (all_pairs [] (pairs_for k metadata)) (back.build back.inner)) ≡ k = whole_back k metadata (back.build back.inner) own back.built in
    let whole : is_whole k ≡ true = whole_kind k of_field levels fits in
    rw (field_at, head) (rw (back.inner_is, kind', whole) refl)

-- ── kinds and fields ──

fields_step : (one : ℕ → Before → Reading (Head × Kind × Before)) (at n : ℕ) (before : Before) (head : Head) (k : Kind) (next : Before) (others : Fields) (last : Before) → one at before ≡ Ok (head, k, next) → fields_by one (at + 4) n next ≡ Ok (others, last)
    → fields_by one at (suc n) before ≡ Ok (field head.name head.nullable head.metadata k others, last)
unfolding fields_by bind
fields_step one at n before head k next others last first rest = rw (first, rest) refl

mutual
  unfolding fields_by bind

  pub kind_back : (k : Kind) (at : Part) (levels : ℕ) (b : List ℕ) (q : ℕ) (v : Vector) (before : Before) → KindFits at levels k → (after_kind k before).fields ≤ 65536 → (after_kind k before).pairs ≤ 1048576 → AreIds (uses_of k) → Holds (type_node k) b q
      → v.count ≡ node_count (child_nodes k) → HoldsNodes (child_nodes k) b v.first → KindBack k levels b q v before
  kind_back (kind.«list» small fs) at levels b q v before fits room pairs within h count children =
      let one : v.count ≡ 1 = omega (arith, count, count_fields fs, fits.0) in
      record { nested = true; build = λ gs. kind.«list» small gs; type = nested_by (kind.«list» small fs) schema.«list» b q h.0 v.count (λ gs. kind.«list» small gs) refl refl h.1 (small_list_type v.count b h.0 one); inner = fs; inner_is = counted fs levels b v before _ _ count (fields_back fs levels b v.first before fits.1 room pairs within children); built = refl }
  kind_back (kind.«list» large fs) at levels b q v before fits room pairs within h count children =
      let one : v.count ≡ 1 = omega (arith, count, count_fields fs, fits.0) in
      record { nested = true; build = λ gs. kind.«list» large gs; type = nested_by (kind.«list» large fs) schema.large_list b q h.0 v.count (λ gs. kind.«list» large gs) refl refl h.1 (large_list_type v.count b h.0 one); inner = fs; inner_is = counted fs levels b v before _ _ count (fields_back fs levels b v.first before fits.1 room pairs within children); built = refl }
  kind_back (kind.fixed_size_list zero fs) at levels b q v before fits room pairs within h count children = absurd (omega (arith, fits.1))
  kind_back (kind.fixed_size_list (suc m) fs) at levels b q v before fits room pairs within h count children =
      let one : v.count ≡ 1 = omega (arith, count, count_fields fs, fits.0) in
      record { nested = true; build = λ gs. kind.fixed_size_list (suc m) gs; type = nested_by (kind.fixed_size_list (suc m) fs) schema.fixed_size_list b q h.0 v.count (λ gs. kind.fixed_size_list (suc m) gs) refl refl h.1 (fixed_size_list_type m v.count b h.0 one fits.2 h.2); inner = fs; inner_is = counted fs levels b v before _ _ count (fields_back fs levels b v.first before fits.3 room pairs within children); built = refl }
  kind_back (kind.struct fs) at levels b q v before fits room pairs within h count children =
      record { nested = true; build = λ gs. kind.struct gs; type = nested_by (kind.struct fs) schema.struct b q h.0 v.count (λ gs. kind.struct gs) refl refl h.1 (struct_type v.count b h.0); inner = fs; inner_is = counted fs levels b v before _ _ count (fields_back fs levels b v.first before fits room pairs within children); built = refl }
  kind_back (kind.map sorted fs) at levels b q v before fits room pairs within h count children =
      let one : v.count ≡ 1 = omega (arith, count, count_fields fs, fits.0) in
      record { nested = true; build = λ gs. kind.map sorted gs; type = nested_by (kind.map sorted fs) schema.map_of b q h.0 v.count (λ gs. kind.map sorted gs) refl refl h.1 (map_type sorted v.count b h.0 one h.2); inner = fs; inner_is = counted fs levels b v before _ _ count (fields_back fs levels b v.first before fits.2 room pairs within children); built = refl }
  kind_back (kind.union Rattle.arrow_spec.specs.declared.types.UnionMode.TheVariants.Dense stated ids fs) at levels b q v before fits room pairs within h count children =
      let many : v.count ≡ width fs = omega (arith, count, count_fields fs) in
      let mode = Rattle.arrow_spec.specs.declared.types.UnionMode.TheVariants.Dense in
      record { nested = true; build = λ gs. kind.union mode stated ids gs; type = nested_by (kind.union mode stated ids fs) schema.union b q h.0 v.count (λ gs. kind.union mode stated ids gs) refl refl h.1 (union_type mode stated ids v.count (width fs) b h.0 many fits.0 fits.1 h.2); inner = fs; inner_is = counted fs levels b v before _ _ count (fields_back fs levels b v.first before fits.2 room pairs within children); built = refl }
  kind_back (kind.union Rattle.arrow_spec.specs.declared.types.UnionMode.TheVariants.Sparse stated ids fs) at levels b q v before fits room pairs within h count children =
      let many : v.count ≡ width fs = omega (arith, count, count_fields fs) in
      let mode = Rattle.arrow_spec.specs.declared.types.UnionMode.TheVariants.Sparse in
      record { nested = true; build = λ gs. kind.union mode stated ids gs; type = nested_by (kind.union mode stated ids fs) schema.union b q h.0 v.count (λ gs. kind.union mode stated ids gs) refl refl h.1 (union_type mode stated ids v.count (width fs) b h.0 many fits.0 fits.1 h.2); inner = fs; inner_is = counted fs levels b v before _ _ count (fields_back fs levels b v.first before fits.2 room pairs within children); built = refl }
  kind_back (kind.dictionary t ordered id k) of_field levels b q v before fits room pairs within h count children =
      passed_on k (kind.dictionary t ordered id k) levels b q v before refl refl (dictionary_below t ordered id k levels fits) (kind_back k of_dictionary levels b q v before fits room pairs within.1 h count children)
  kind_back (kind.dictionary t ordered id k) of_dictionary levels b q v before fits room pairs within h count children = absurd fits
  kind_back (kind.dictionary t ordered id k) of_extension levels b q v before fits room pairs within h count children = absurd fits
  kind_back (kind.extension name metadata k) of_field levels b q v before fits room pairs within h count children =
      passed_on k (kind.extension name metadata k) levels b q v before refl refl (extension_below name metadata k levels fits.2) (kind_back k of_extension levels b q v before fits.2 room pairs within h count children)
  kind_back (kind.extension name metadata k) of_dictionary levels b q v before fits room pairs within h count children =
      passed_on k (kind.extension name metadata k) levels b q v before refl refl (extension_below name metadata k levels fits.2) (kind_back k of_extension levels b q v before fits.2 room pairs within h count children)
  kind_back (kind.extension name metadata k) of_extension levels b q v before fits room pairs within h count children = absurd fits
  kind_back k at levels b q v before fits room pairs within h count children = flat_kind k levels b q v before (flat_type k at levels b q tt fits h) refl refl

  pub fields_back : (fs : Fields) (levels : ℕ) (b : List ℕ) (at : ℕ) (before : Before) → FieldsFit levels fs → (after_fields fs before).fields ≤ 65536 → (after_fields fs before).pairs ≤ 1048576 → AreIds (uses_in fs) → HoldsNodes (field_nodes fs) b at
      → fields_by (λ p earlier. field_at levels b p earlier) at (node_count (field_nodes fs)) before ≡ Ok (fs, after_fields fs before)
  fields_back none levels b at before fits room pairs within h = refl
  fields_back (field name nullable metadata k others) zero b at before fits room pairs within h = absurd fits
  fields_back (field name nullable metadata k others) (suc levels) b at before fits room pairs within h =
      let here = inside before k metadata in
      let next = after_kind k here in
      let later = fields_more others next in
      let more = kind_more k here in
      let both = within_both (uses_of k) (uses_in others) within in
      let parts = parts_of name nullable metadata k levels b h.0.0 before.pairs fits.0 fits.2 fits.1 both.0 (omega (arith, pairs, later.1, more.1)) h.0.2 in
      let back = kind_back k of_field levels b parts.type_place parts.children here fits.2 (omega (arith, room, later.0)) (omega (arith, pairs, later.1)) both.0 parts.type_held parts.count_is parts.children_held in
      let first = field_back name nullable metadata k levels b at h.0.0 before fits.1 fits.2 (omega (arith, room, later.0, more.0)) h.0.1 parts back in
      let rest = fields_back others (suc levels) b (at + 4) next fits.3 room pairs both.1 h.1 in
      fields_step (λ p earlier. field_at (suc levels) b p earlier) at (node_count (field_nodes others)) before (head_by name nullable metadata k back.build (looked_at back.nested parts.children) before) k next others (after_fields others next) first rest
