-- Arrays have the dictionaries that were held as they were read, and are of the kinds that they were read as.
use Rattle.std.proofs.Common.{◌≡◌, ◌∙◌, ℕ, zero, suc, ◌*◌, Bool, true, Option, Some, None, ◌&&◌, refl, sym, ap, subst}
use Rattle.std.specs.Prelude.{nat_eq}
use Rattle.std.specs.Str.{bytes_eq}
use Rattle.std.proofs.lemmas.Bool.{and_parts}
use Rattle.arrow_spec.specs.declared.types.UnionMode.TheVariants.{Dense, Sparse}
use Rattle.arrow_spec.specs.Kinds as kind
use Rattle.arrow_spec.specs.Kinds.{Kind, Fields, Offsets, small, are_same_ids, have_same_kinds, is_same_flag, is_same_integer, is_same_kind, is_same_mode, is_same_offsets, is_same_text, same}
use Rattle.arrow_spec.specs.Counts.{RecordBatch, Place, after, inside, union_buffers}
use Rattle.arrow_spec.specs.Sent.{dense_rows, offset_read}
use Rattle.arrow_types.specs.Physical.{physical_of}
use Rattle.ipc_files.specs.Below.{values_kind, empty_parts, Parts, Forest, also, kind_in, Held, is_alike}
use Rattle.ipc_files.specs.Below.Parts as parts
use Rattle.ipc_fields.proofs.KindSteps.{leaf_true}
use Rattle.arrow_spec.proofs.SameIds.{id_true}
use Rattle.ipc_fields.proofs.SameKinds.{same_itself, same_through}
use Rattle.laws_writers.specs.Below.{values_in, forest_read, listed_read, parts_or_empty, parts_read, parts_under, plain_kind}
use Rattle.laws_writers.proofs.Below.{values_plain, kind_under, plain_same, plain_twice}
use Rattle.laws_sent.specs.ReadUnder.{AreReadUnder, IsReadUnder}

-- ── under a kind that is one with another ──

last_of : (a b c : Bool) → (a && b && c) ≡ true → c ≡ true
last_of a b c h = (and_parts (a && b) c h).1

mutual
  pub read_as : (h : Held) (k l : Kind) (p : Parts) → is_same_kind k l ≡ true → IsReadUnder h k p → IsReadUnder h l p
  read_as h (kind.«list» o fs) (kind.«list» q gs) p e r = (r.0, each_as h fs gs (values_in p) (and_parts (is_same_offsets o q) (have_same_kinds fs gs) e).1 r.1)
  read_as h (kind.«list» o fs) l p e r = cc
  read_as h (kind.fixed_size_list m fs) (kind.fixed_size_list n gs) p e r = (r.0, each_as h fs gs (values_in p) (and_parts (nat_eq m n) (have_same_kinds fs gs) e).1 r.1)
  read_as h (kind.fixed_size_list m fs) l p e r = cc
  read_as h (kind.struct fs) (kind.struct gs) p e r = (r.0, each_as h fs gs (values_in p) e r.1)
  read_as h (kind.struct fs) l p e r = cc
  read_as h (kind.map b fs) (kind.map c gs) p e r = (r.0, each_as h fs gs (values_in p) (and_parts (is_same_flag b c) (have_same_kinds fs gs) e).1 r.1)
  read_as h (kind.map b fs) l p e r = cc
  read_as h (kind.union m stated types fs) (kind.union n too others gs) p e r = (r.0, each_as h fs gs (values_in p) (last_of (is_same_mode m n) (are_same_ids types others) (have_same_kinds fs gs) e) r.1)
  read_as h (kind.union m stated types fs) l p e r = cc
  read_as h (kind.dictionary s b i k) (kind.dictionary t c j l) p e r =
      let values = and_parts (is_same_integer s t && is_same_flag b c && same i j) (is_same_kind k l) e in
      let id : i ≡ j = id_true i j (and_parts (is_same_integer s t && is_same_flag b c) (same i j) values.0).1 in
      (r.0, same_through (plain_kind (values_kind (kind_in p))) (plain_kind k) (plain_kind l) r.1 (plain_same k l values.1), subst (λ q. values_in p ≡ parts_or_empty (h q) (values_kind (kind_in p))) id r.2)
  read_as h (kind.dictionary s b i k) l p e r = cc
  read_as h (kind.extension m x k) (kind.extension n y l) p e r = read_as h k l p (last_of (bytes_eq m n) (is_same_text x y) (is_same_kind k l) e) r
  read_as h (kind.extension m x k) l p e r = cc
  read_as h k l p e r = subst (λ z. IsReadUnder h z p) (leaf_true k l refl e) r

  each_as : (h : Held) (fs gs : Fields) (ps : Forest) → have_same_kinds fs gs ≡ true → AreReadUnder h fs ps → AreReadUnder h gs ps
  each_as h kind.none kind.none ps e r = r
  each_as h kind.none (kind.field n c y l gs) ps e r = cc
  each_as h (kind.field m b x k fs) kind.none ps e r = cc
  each_as h (kind.field m b x k fs) (kind.field n c y l gs) parts.none e r = absurd r
  each_as h (kind.field m b x k fs) (kind.field n c y l gs) (also p ps) e r =
      let both = and_parts (is_same_kind k l) (have_same_kinds fs gs) e in
      (read_as h k l p both.0 r.0, each_as h fs gs ps both.1 r.1)

-- ── arrays that are read ──

alike_plain : (l k : Kind) → l ≡ plain_kind k → is_alike l k ≡ true
alike_plain l k e = subst (λ z. is_same_kind (plain_kind z) (plain_kind k) ≡ true) (sym e) (subst (λ z. is_same_kind z (plain_kind k) ≡ true) (sym (plain_twice k)) (same_itself (plain_kind k)))

empty_plain : (o : Option Forest) (l k : Kind) → l ≡ plain_kind k → parts_or_empty o k ≡ parts_or_empty o l
empty_plain None l k e = ap (λ z. also (empty_parts z) parts.none) (sym (ap plain_kind e ∙ plain_twice k))
empty_plain (Some held) l k e = refl

mutual
  -- a label states the values of a dictionary without ids
  read_under : (m : RecordBatch) (h : Held) (l k : Kind) (p : Place) (rows : ℕ) → values_kind l ≡ plain_kind (values_kind k) → IsReadUnder h k (parts_under l m h k p rows)
  read_under m h l (kind.«list» o fs) p rows e = (refl, forest_under m h fs (inside 2 p) (λ q. offset_read m o p rows))
  read_under m h l (kind.map sorted fs) p rows e = (refl, forest_under m h fs (inside 2 p) (λ q. offset_read m small p rows))
  read_under m h l (kind.fixed_size_list size fs) p rows e = (refl, forest_under m h fs (inside 1 p) (λ q. size * rows))
  read_under m h l (kind.struct fs) p rows e = (refl, forest_under m h fs (inside 1 p) (λ q. rows))
  read_under m h l (kind.union Sparse stated ids fs) p rows e = (refl, forest_under m h fs (inside (union_buffers m.version Sparse) p) (λ q. rows))
  read_under m h l (kind.union Dense stated ids fs) p rows e = (refl, forest_under m h fs (inside (union_buffers m.version Dense) p) (λ q. dense_rows m q rows))
  read_under m h l (kind.dictionary t ordered id k) p rows e = (refl, alike_plain (values_kind l) k e, empty_plain (h id) (values_kind l) k e)
  read_under m h l (kind.extension name metadata k) p rows e = read_under m h l k p rows e
  read_under m h l k p rows e = (refl, refl)

  forest_under : (m : RecordBatch) (h : Held) (fs : Fields) (p : Place) (rows : Place → ℕ) → AreReadUnder h fs (forest_read m h fs p rows)
  forest_under m h kind.none p rows = refl
  forest_under m h (kind.field name nullable metadata k others) p rows = (read_under m h (plain_kind k) k p (rows p) (values_plain k), forest_under m h others (after m k p) rows)

pub array_under : (m : RecordBatch) (h : Held) (k : Kind) (p : Place) (rows : ℕ) → IsReadUnder h k (parts_read m h k p rows)
array_under m h k p rows = read_under m h (plain_kind k) k p rows (values_plain k)

-- ── their kinds ──

list_kind : (m : RecordBatch) (l : Kind) (o : Offsets) (p : Place) (rows : ℕ) → (listed_read m l o p rows).kind ≡ l
list_kind m l o p zero = refl
list_kind m l o p (suc n) = refl

label_kind : (m : RecordBatch) (h : Held) (l k : Kind) (p : Place) (rows : ℕ) → kind_in (parts_under l m h k p rows) ≡ l
label_kind m h l (kind.«list» o fs) p rows = list_kind m l o p rows
label_kind m h l (kind.map sorted fs) p rows = list_kind m l small p rows
label_kind m h l (kind.fixed_size_list size fs) p rows = refl
label_kind m h l (kind.struct fs) p rows = refl
label_kind m h l (kind.union Sparse stated ids fs) p rows = refl
label_kind m h l (kind.union Dense stated ids fs) p rows = refl
label_kind m h l (kind.dictionary t ordered id k) p rows = refl
label_kind m h l (kind.extension name metadata k) p rows = label_kind m h l k p rows
label_kind m h l k p rows = kind_under (physical_of k) m l p rows

pub array_kind : (m : RecordBatch) (h : Held) (k : Kind) (p : Place) (rows : ℕ) → kind_in (parts_read m h k p rows) ≡ plain_kind k
array_kind m h k p rows = label_kind m h (plain_kind k) k p rows
