-- Fields with their own pairs alone: what is written of them, what they count, and their uses of dictionaries are those of the fields.
use Rattle.std.proofs.Common.{◌≡◌, ℕ, zero, suc, List, [], ◌∷◌, ◌++◌, Option, Some, None, Ok, refl, sym, ap, ◌∙◌, true, false, Bool, ℤ, cond, inl, inr, subst}
use Rattle.std.specs.Prelude.{nat_eq, ◌||◌, not, filter}
use Rattle.std.specs.Str.{bytes_eq}
use Rattle.arrow_spec.specs.declared.types.UnionMode.TheVariants.{Dense, Sparse}
use Rattle.arrow_spec.specs.Flat.{Order}
use Rattle.arrow_spec.specs.Kinds as kind
use Rattle.arrow_spec.specs.Kinds.{Kind, Fields, Metadata, Use, none, field, small, large, same, agrees_with, dictionary_counts, is_same_kind, uses_in, uses_of, values_under, width}
use Rattle.arrow_spec.specs.Layout as layout
use Rattle.arrow_spec.specs.Layout.{Slots}
use Rattle.arrow_spec.specs.Schema.{extension_metadata, extension_name, first_is_struct_of_two, has_distinct_names, has_name, is_struct_of_two, own_pairs, uses_agree, value_of, without_key, is_reserved}
use Rattle.arrow_spec.specs.Sent.{child_nodes, encoding_slot, field_nodes, field_pairs, pairs_slot, schema_message, type_node, type_tag}
use Rattle.arrow_spec.specs.WrittenSchemas.{AreFieldPairs, AreIds, FieldsFit, HaveNoReserved, KindFits, KindHasNoReserved, Part, of_field, of_dictionary, of_extension, own_fields, own_kind}
use Rattle.arrow_spec.proofs.PairMaps.{AllBefore, IsSorted, bool_cases, without_absent}
use Rattle.arrow_spec.proofs.PairOrder.{key_same}
use Rattle.arrow_spec.proofs.ExtensionPairs.{own_same}
use Rattle.arrow_spec.proofs.Forms.{counts_form, form, forms, form_same}
use Rattle.arrow_spec.proofs.ReadPairs.{none_behind, other_left}

-- ── names and widths ──

pub width_own : (fs : Fields) → width (own_fields fs) ≡ width fs
width_own none = refl
width_own (field name nullable metadata k others) = ap suc (width_own others)

has_name_own : (name : List ℕ) (fs : Fields) → has_name name (own_fields fs) ≡ has_name name fs
has_name_own name none = refl
has_name_own name (field other nullable metadata k others) = ap (λ x. bytes_eq name other || x) (has_name_own name others)

pub distinct_own : (fs : Fields) → has_distinct_names (own_fields fs) ≡ has_distinct_names fs
distinct_own none = refl
distinct_own (field name nullable metadata k others) = rw (has_name_own name others, distinct_own others) refl

struct_own : (k : Kind) → is_struct_of_two (own_kind k) ≡ is_struct_of_two k
struct_own (kind.struct fs) = ap (λ n. nat_eq n 2) (width_own fs)
struct_own (kind.extension name metadata k) = struct_own k
struct_own k = refl

pub first_own : (fs : Fields) → first_is_struct_of_two (own_fields fs) ≡ first_is_struct_of_two fs
first_own none = refl
first_own (field name nullable metadata k others) = struct_own k

-- ── what is written ──

tag_own : (k : Kind) → type_tag (own_kind k) ≡ type_tag k
tag_own (kind.«list» small fs) = refl
tag_own (kind.«list» large fs) = refl
tag_own (kind.dictionary t ordered id k) = tag_own k
tag_own (kind.extension name metadata k) = tag_own k
tag_own k = refl

node_own : (k : Kind) → type_node (own_kind k) ≡ type_node k
node_own (kind.union Dense stated types fs) = refl
node_own (kind.union Sparse stated types fs) = refl
node_own (kind.dictionary t ordered id k) = node_own k
node_own (kind.extension name metadata k) = node_own k
node_own k = refl

encoding_own : (k : Kind) (s : Slots) → encoding_slot (own_kind k) s ≡ encoding_slot k s
encoding_own (kind.dictionary t ordered id k) s = refl
encoding_own k s = refl

pairs_own : (k : Kind) (m : Metadata) → AreFieldPairs (own_pairs m) → field_pairs (own_kind k) (own_pairs m) ≡ field_pairs k m
pairs_own (kind.extension name metadata k) m fit = rw (own_same (own_pairs m) fit) refl
pairs_own (kind.dictionary t ordered id (kind.extension name metadata k)) m fit = rw (own_same (own_pairs m) fit) refl
pairs_own (kind.dictionary t ordered id k) m fit = rw (own_same (own_pairs m) fit) refl
pairs_own k m fit = rw (own_same (own_pairs m) fit) refl

mutual
  children_own : (k : Kind) (at : Part) (levels : ℕ) → KindFits at levels (own_kind k) → child_nodes (own_kind k) ≡ child_nodes k
  children_own (kind.«list» o fs) at levels fit = nodes_own fs levels fit.1
  children_own (kind.fixed_size_list n fs) at levels fit = nodes_own fs levels fit.3
  children_own (kind.struct fs) at levels fit = nodes_own fs levels fit
  children_own (kind.map sorted fs) at levels fit = nodes_own fs levels fit.2
  children_own (kind.union mode stated types fs) at levels fit = nodes_own fs levels fit.2
  children_own (kind.dictionary t ordered id k) of_field levels fit = children_own k of_dictionary levels fit
  children_own (kind.dictionary t ordered id k) of_dictionary levels fit = absurd fit
  children_own (kind.dictionary t ordered id k) of_extension levels fit = absurd fit
  children_own (kind.extension name metadata k) of_field levels fit = children_own k of_extension levels fit.2
  children_own (kind.extension name metadata k) of_dictionary levels fit = children_own k of_extension levels fit.2
  children_own (kind.extension name metadata k) of_extension levels fit = absurd fit
  children_own k at levels fit = refl

  pub nodes_own : (fs : Fields) (levels : ℕ) → FieldsFit levels (own_fields fs) → field_nodes (own_fields fs) ≡ field_nodes fs
  nodes_own none levels fit = refl
  nodes_own (field name nullable metadata k others) zero fit = absurd fit
  nodes_own (field name nullable metadata k others) (suc levels) fit =
      let last = pairs_slot (field_pairs k metadata) layout.no_more in
      let below = layout.child (layout.tables (child_nodes k)) last in
      rw (pairs_own k metadata fit.1, children_own k of_field levels fit.2, encoding_own k below, node_own k, tag_own k, nodes_own others (suc levels) fit.3) refl

pub message_own : (order : Order) (fs : Fields) (pairs custom : Metadata) (levels : ℕ) → FieldsFit levels (own_fields fs) → schema_message order (own_fields fs) pairs custom ≡ schema_message order fs pairs custom
unfolding schema_message
message_own order fs pairs custom levels fit = rw (nodes_own fs levels fit) refl

-- ── uses of dictionaries ──

mutual
  pub form_own : (k : Kind) → form (own_kind k) ≡ form k
  form_own (kind.«list» o fs) = ap (kind.«list» o) (forms_own fs)
  form_own (kind.fixed_size_list n fs) = ap (kind.fixed_size_list n) (forms_own fs)
  form_own (kind.struct fs) = ap kind.struct (forms_own fs)
  form_own (kind.map sorted fs) = ap (kind.map sorted) (forms_own fs)
  form_own (kind.union mode stated types fs) = ap (kind.union mode true types) (forms_own fs)
  form_own (kind.dictionary t ordered id k) = ap (kind.dictionary t ordered id) (form_own k)
  form_own (kind.extension name metadata k) = ap (kind.extension name metadata) (form_own k)
  form_own k = refl

  pub forms_own : (fs : Fields) → forms (own_fields fs) ≡ forms fs
  forms_own none = refl
  forms_own (field name nullable metadata k fs) = rw (form_own k, forms_own fs) refl

same_own : (k l : Kind) → is_same_kind (own_kind k) (own_kind l) ≡ is_same_kind k l
same_own k l = sym (form_same (own_kind k) (own_kind l)) ∙ ap (λ x. is_same_kind x (form (own_kind l))) (form_own k) ∙ ap (is_same_kind (form k)) (form_own l) ∙ form_same k l

-- the same use, its values with their own pairs alone
abbrev own_use : Use → Use
own_use u = record { id = u.id; values = own_kind u.values }

abbrev own_uses : List Use → List Use
own_uses [] = []
own_uses (u ∷ us) = own_use u ∷ own_uses us

own_uses_both : (us vs : List Use) → own_uses (us ++ vs) ≡ own_uses us ++ own_uses vs
own_uses_both [] vs = refl
own_uses_both (u ∷ us) vs = ap (λ ws. own_use u ∷ ws) (own_uses_both us vs)

mutual
  uses_kind_own : (k : Kind) → uses_of (own_kind k) ≡ own_uses (uses_of k)
  uses_kind_own (kind.«list» o fs) = uses_own fs
  uses_kind_own (kind.fixed_size_list n fs) = uses_own fs
  uses_kind_own (kind.struct fs) = uses_own fs
  uses_kind_own (kind.map sorted fs) = uses_own fs
  uses_kind_own (kind.union mode stated ids fs) = uses_own fs
  uses_kind_own (kind.dictionary t ordered id k) = ap (λ us. record { id = id; values = own_kind k } ∷ us) (uses_kind_own k)
  uses_kind_own (kind.extension name metadata k) = uses_kind_own k
  uses_kind_own k = refl

  pub uses_own : (fs : Fields) → uses_in (own_fields fs) ≡ own_uses (uses_in fs)
  uses_own none = refl
  uses_own (field name nullable metadata k others) = rw (uses_kind_own k, uses_own others) (sym (own_uses_both (uses_of k) (uses_in others)))

-- ids that fit still fit
pub own_ids : (us : List Use) → AreIds us → AreIds (own_uses us)
own_ids [] h = tt
own_ids (u ∷ us) h = (h.0, own_ids us h.1)

abbrev own_option : Option Kind → Option Kind
own_option None = None
own_option (Some k) = Some (own_kind k)

under_own : (id : ℤ) (us : List Use) → values_under id (own_uses us) ≡ own_option (values_under id us)
under_own id [] = refl
under_own id (u ∷ us) = by_test (same u.id id) (under_own id us)
  where
    by_test : (t : Bool) → values_under id (own_uses us) ≡ own_option (values_under id us) → cond t (Some (own_kind u.values)) (values_under id (own_uses us)) ≡ own_option (cond t (Some u.values) (values_under id us))
    by_test true e = refl
    by_test false e = e

agrees_own : (found : Option Kind) (k : Kind) → agrees_with (own_option found) (own_kind k) ≡ agrees_with found k
agrees_own None k = refl
agrees_own (Some l) k = same_own l k

agree_own : (us earlier : List Use) → uses_agree (own_uses earlier) (own_uses us) ≡ uses_agree earlier us
agree_own [] earlier = refl
agree_own (u ∷ us) earlier = rw (under_own u.id earlier, agrees_own (values_under u.id earlier) u.values, agree_own us (u ∷ earlier)) refl

pub uses_agree_own : (fs : Fields) → uses_agree [] (uses_in fs) ≡ Ok tt → uses_agree [] (uses_in (own_fields fs)) ≡ Ok tt
uses_agree_own fs h = rw (uses_own fs) (agree_own (uses_in fs) [] ∙ h)

-- ── without reserved keys ──

mutual
  own_kind_same : (k : Kind) → KindHasNoReserved k → own_kind k ≡ k
  own_kind_same (kind.«list» o fs) h = ap (λ gs. kind.«list» o gs) (own_fields_same fs h)
  own_kind_same (kind.fixed_size_list n fs) h = ap (λ gs. kind.fixed_size_list n gs) (own_fields_same fs h)
  own_kind_same (kind.struct fs) h = ap (λ gs. kind.struct gs) (own_fields_same fs h)
  own_kind_same (kind.map sorted fs) h = ap (λ gs. kind.map sorted gs) (own_fields_same fs h)
  own_kind_same (kind.union mode stated ids fs) h = ap (λ gs. kind.union mode stated ids gs) (own_fields_same fs h)
  own_kind_same (kind.dictionary t ordered id k) h = ap (λ l. kind.dictionary t ordered id l) (own_kind_same k h)
  own_kind_same (kind.extension name metadata k) h = ap (λ l. kind.extension name metadata l) (own_kind_same k h)
  own_kind_same k h = refl

  pub own_fields_same : (fs : Fields) → HaveNoReserved fs → own_fields fs ≡ fs
  own_fields_same none h = refl
  own_fields_same (field name nullable metadata k others) h =
      let pairs : own_pairs metadata ≡ metadata = rw (without_absent extension_metadata metadata h.1) (without_absent extension_name metadata h.0) in
      rw (pairs, own_kind_same k h.2, own_fields_same others h.3) refl

-- ── dictionaries ──

pub count_own : (fs : Fields) → dictionary_counts (own_fields fs) ≡ dictionary_counts fs
count_own fs = sym (counts_form (own_fields fs)) ∙ ap dictionary_counts (forms_own fs) ∙ counts_form fs

-- ── own pairs one by one ──

own_step : (x : List ℕ × List ℕ) (m : Metadata) → IsSorted (x ∷ m) → own_pairs (x ∷ m) ≡ cond (is_reserved x.0) (own_pairs m) (x ∷ own_pairs m)
own_step x m sorted = elim (bool_cases (bytes_eq extension_metadata x.0)) [
  | inl e ↦
      let other : bytes_eq extension_name x.0 ≡ false = subst (λ k. bytes_eq extension_name k ≡ false) (key_same extension_metadata x.0 e) refl in
      let none' : value_of extension_metadata m ≡ None = none_behind extension_metadata m (subst (λ k. AllBefore k m) (sym (key_same extension_metadata x.0 e)) sorted.0) in
      rw (e, other) (ap (λ l. without_key extension_name l) (sym (without_absent extension_metadata m none')))
  | inr n ↦ elim (bool_cases (bytes_eq extension_name x.0)) [
    | inl e ↦
        let none' : value_of extension_name m ≡ None = none_behind extension_name m (subst (λ k. AllBefore k m) (sym (key_same extension_name x.0 e)) sorted.0) in
        let still : value_of extension_name (without_key extension_metadata m) ≡ None = other_left extension_name extension_metadata m refl ∙ none' in
        rw (n, e) (sym (without_absent extension_name (without_key extension_metadata m) still))
    | inr o ↦ rw (n, o) refl
  ]
]

-- the own pairs of a sorted map are those whose keys are not reserved
pub own_filtered : (m : Metadata) → IsSorted m → own_pairs m ≡ filter (λ x. not (is_reserved x.0)) m
own_filtered [] sorted = refl
own_filtered (x ∷ m) sorted = own_step x m sorted ∙ by_test (is_reserved x.0) (own_filtered m sorted.1)
  where
    by_test : (t : Bool) → own_pairs m ≡ filter (λ y. not (is_reserved y.0)) m → cond t (own_pairs m) (x ∷ own_pairs m) ≡ cond (not t) (x ∷ filter (λ y. not (is_reserved y.0)) m) (filter (λ y. not (is_reserved y.0)) m)
    by_test true e = e
    by_test false e = ap (λ l. x ∷ l) e
