-- Fields without the ids of their dictionaries: what is the same of fields whatever ids they have, and which fields are asked for of a schema.
use Rattle.std.proofs.Common.{◌≡◌, ℕ, zero, suc, ◌+◌, List, [], ◌∷◌, Option, Some, None, ℤ, pos, refl, sym, ap, ◌∙◌}
use Rattle.std.specs.Prelude.{◌&&◌, slice_get}
use Rattle.arrow_spec.specs.Files.{fields_as_asked, fields_asked, with_field_at}
use Rattle.arrow_spec.specs.Kinds as kind
use Rattle.arrow_spec.specs.Kinds.{Kind, Fields, none, field, dictionary_count, dictionary_counts, numbered, numbered_kind}
use Rattle.arrow_spec.specs.Regular.{is_no_dictionary, is_size}
use Rattle.arrow_types.specs.Schemas.{Keyed, fields_in}
use Rattle.laws_writers.specs.Below.{all_representable, is_representable, plain_fields, plain_kind}
use Rattle.ipc_fields.specs.IpcFields.{Ids, no_fields, ids, fields_with, kind_with}
use Rattle.laws_writers.proofs.Below.{plain_fields_with}
use Rattle.laws_transcode.specs.Files.{ArePicked, AreAsked}

-- ── they are numbered alike ──

mutual
  count_plain : (k : Kind) → dictionary_count (plain_kind k) ≡ dictionary_count k
  count_plain (kind.«list» o fs) = counts_plain fs
  count_plain (kind.fixed_size_list n fs) = counts_plain fs
  count_plain (kind.struct fs) = counts_plain fs
  count_plain (kind.map sorted fs) = counts_plain fs
  count_plain (kind.union mode stated types fs) = counts_plain fs
  count_plain (kind.dictionary t ordered id k) = ap suc (count_plain k)
  count_plain (kind.extension name metadata k) = count_plain k
  count_plain k = refl

  counts_plain : (fs : Fields) → dictionary_counts (plain_fields fs) ≡ dictionary_counts fs
  counts_plain none = refl
  counts_plain (field name nullable metadata k fs) = rw (count_plain k, counts_plain fs) refl

mutual
  kind_numbers : (k : Kind) (n : ℕ) → numbered_kind (plain_kind k) n ≡ numbered_kind k n
  kind_numbers (kind.«list» o fs) n = ap (kind.«list» o) (numbers_plain fs n)
  kind_numbers (kind.fixed_size_list size fs) n = ap (kind.fixed_size_list size) (numbers_plain fs n)
  kind_numbers (kind.struct fs) n = ap kind.struct (numbers_plain fs n)
  kind_numbers (kind.map sorted fs) n = ap (kind.map sorted) (numbers_plain fs n)
  kind_numbers (kind.union mode stated types fs) n = ap (kind.union mode stated types) (numbers_plain fs n)
  kind_numbers (kind.dictionary t ordered id k) n = ap (kind.dictionary t ordered (pos n)) (kind_numbers k (suc n))
  kind_numbers (kind.extension name metadata k) n = ap (kind.extension name metadata) (kind_numbers k n)
  kind_numbers k n = refl

  numbers_plain : (fs : Fields) (n : ℕ) → numbered (plain_fields fs) n ≡ numbered fs n
  numbers_plain none n = refl
  numbers_plain (field name nullable metadata k fs) n = rw (count_plain k, kind_numbers k n, numbers_plain fs (n + dictionary_count k)) refl

pub same_numbers : (fs gs : Fields) → plain_fields fs ≡ plain_fields gs → (n : ℕ) → numbered fs n ≡ numbered gs n
same_numbers fs gs h n = sym (numbers_plain fs n) ∙ ap (λ hs. numbered hs n) h ∙ numbers_plain gs n

-- ── they are alike under the ids of IPC fields ──

mutual
  with_plain : (k : Kind) (id : Option ℤ) (below : Ids) → kind_with (plain_kind k) id below ≡ kind_with k id below
  with_plain (kind.«list» o fs) id below = ap (kind.«list» o) (fields_plain fs below)
  with_plain (kind.fixed_size_list n fs) id below = ap (kind.fixed_size_list n) (fields_plain fs below)
  with_plain (kind.struct fs) id below = ap kind.struct (fields_plain fs below)
  with_plain (kind.map sorted fs) id below = ap (kind.map sorted) (fields_plain fs below)
  with_plain (kind.union mode stated types fs) id below = ap (kind.union mode stated types) (fields_plain fs below)
  with_plain (kind.dictionary t ordered old k) id below = rw (with_plain k None below) refl
  with_plain (kind.extension name metadata k) id below = ap (kind.extension name metadata) (with_plain k id below)
  with_plain k id below = refl

  fields_plain : (fs : Fields) (below : Ids) → fields_with (plain_fields fs) below ≡ fields_with fs below
  fields_plain none below = refl
  fields_plain (field name nullable metadata k fs) no_fields = rw (with_plain k None no_fields, fields_plain fs no_fields) refl
  fields_plain (field name nullable metadata k fs) (ids id below others) = rw (with_plain k id below, fields_plain fs others) refl

pub same_with : (fs gs : Fields) → plain_fields fs ≡ plain_fields gs → (below : Ids) → fields_with fs below ≡ fields_with gs below
same_with fs gs h below = sym (fields_plain fs below) ∙ ap (λ hs. fields_with hs below) h ∙ fields_plain gs below

-- ── the tables of a schema can say them alike ──

dictionary_plain : (k : Kind) → is_no_dictionary (plain_kind k) ≡ is_no_dictionary k
dictionary_plain (kind.dictionary t ordered id k) = refl
dictionary_plain k = refl

mutual
  representable_plain : (k : Kind) → is_representable (plain_kind k) ≡ is_representable k
  representable_plain (kind.«list» o fs) = all_representable_plain fs
  representable_plain (kind.fixed_size_list n fs) = ap (λ b. is_size n && b) (all_representable_plain fs)
  representable_plain (kind.struct fs) = all_representable_plain fs
  representable_plain (kind.map sorted fs) = all_representable_plain fs
  representable_plain (kind.union mode stated types fs) = all_representable_plain fs
  representable_plain (kind.dictionary t ordered id k) = rw (dictionary_plain k, representable_plain k) refl
  representable_plain (kind.extension name metadata k) = rw (dictionary_plain k, representable_plain k) refl
  representable_plain k = refl

  all_representable_plain : (fs : Fields) → all_representable (plain_fields fs) ≡ all_representable fs
  all_representable_plain none = refl
  all_representable_plain (field name nullable metadata k fs) = rw (representable_plain k, all_representable_plain fs) refl

pub same_representable : (fs gs : Fields) → plain_fields fs ≡ plain_fields gs → all_representable fs ≡ all_representable gs
same_representable fs gs h = sym (all_representable_plain fs) ∙ ap all_representable h ∙ all_representable_plain gs

-- ── those that are asked for ──

-- the field at a number, before others
field_put : (s : List Keyed) (i : ℕ) (x : Keyed) (others : Fields) → slice_get s i ≡ Some x → with_field_at (fields_in s) i others ≡ field x.1.name x.1.nullable x.1.metadata x.1.kind others
field_put [] i x others h = cc
field_put (y ∷ ys) zero x others h = let e : y ≡ x = cc in ap (λ (z : Keyed). field z.1.name z.1.nullable z.1.metadata z.1.kind others) e
field_put (y ∷ ys) (suc i) x others h = field_put ys i x others h

-- a schema of the fields at some numbers
picked_fields : (s : List Keyed) (cs : List ℕ) (xs : List Keyed) → ArePicked s cs xs → fields_in xs ≡ fields_asked (fields_in s) cs
picked_fields s [] [] h = refl
picked_fields s [] (x ∷ xs) h = absurd h
picked_fields s (c ∷ cs) [] h = absurd h
picked_fields s (c ∷ cs) (x ∷ xs) h = ap (λ fs. field x.1.name x.1.nullable x.1.metadata x.1.kind fs) (picked_fields s cs xs h.1) ∙ sym (field_put s c x (fields_asked (fields_in s) cs) h.0)

pub asked_schema_fields : (s : List Keyed) (columns : Option (List ℕ)) (xs : List Keyed) → AreAsked s columns xs → fields_in xs ≡ fields_as_asked columns (fields_in s)
asked_schema_fields s None xs h = ap fields_in h
asked_schema_fields s (Some cs) xs h = picked_fields s cs xs h

put_plain : (fs : Fields) (c : ℕ) (others : Fields) → plain_fields (with_field_at fs c others) ≡ with_field_at (plain_fields fs) c (plain_fields others)
put_plain none c others = refl
put_plain (field name nullable metadata k fs) zero others = refl
put_plain (field name nullable metadata k fs) (suc c) others = put_plain fs c others

asked_plain : (columns : Option (List ℕ)) (fs : Fields) → plain_fields (fields_as_asked columns fs) ≡ fields_as_asked columns (plain_fields fs)
asked_plain None fs = refl
asked_plain (Some []) fs = refl
asked_plain (Some (c ∷ cs)) fs = put_plain fs c (fields_asked fs cs) ∙ ap (with_field_at (plain_fields fs) c) (asked_plain (Some cs) fs)

-- a schema of the fields that are asked for has them, whatever ids they have in the file
pub asked_without_ids : (all : List Keyed) (below : Ids) (columns : Option (List ℕ)) (s : List Keyed) → AreAsked all columns s → plain_fields (fields_in s) ≡ plain_fields (fields_as_asked columns (fields_with (fields_in all) below))
asked_without_ids all below columns s h =
    ap plain_fields (asked_schema_fields all columns s h) ∙ asked_plain columns (fields_in all) ∙ ap (fields_as_asked columns) (sym (plain_fields_with (fields_in all) below))
    ∙ sym (asked_plain columns (fields_with (fields_in all) below))
