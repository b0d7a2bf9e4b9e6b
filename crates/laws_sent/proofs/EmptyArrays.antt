-- Arrays without rows: no cells stand in them, and their dictionaries were never read.
use Rattle.std.proofs.Common.{◌≡◌, [], refl, sym, ap, subst, ◌∙◌, true, false}
use Rattle.std.proofs.Math.Nat.{zero-div}
use Rattle.arrow_spec.specs.declared.types.UnionMode.TheVariants.{Dense, Sparse}
use Rattle.arrow_spec.specs.Kinds as kind
use Rattle.arrow_spec.specs.Kinds.{Kind, Fields}
use Rattle.arrow_types.specs.Physical.{physical_of}
use Rattle.arrow_types.specs.declared.physical.PhysicalType.{PhysicalType}
use Rattle.arrow_types.specs.declared.physical.PhysicalType.TheVariants as physical
use Rattle.arrow_buffers.specs.Layouts.{binary_size}
use Rattle.ipc_files.specs.Below.{empty_forest, empty_leaf, empty_parts, empty_under, values_kind, leaf_cells_in, Parts, Forest, none, also, cells_in, kind_in, Held}
use Rattle.laws_writers.specs.Below.{is_indexed, values_in, none_held, parts_or_empty, plain_kind, plain_fields}
use Rattle.laws_writers.proofs.Below.{plain_twice}
use Rattle.laws_sent.specs.ReadUnder.{AreReadUnder, IsReadUnder}
use Rattle.laws_sent.proofs.Forms.{bare_form, bare_forms}

-- ── cells ──

leaf_none : (p : PhysicalType) (l : Kind) → leaf_cells_in (empty_leaf p l) ≡ []
leaf_none physical.FixedSizeBinary l = rw (zero-div (binary_size l)) refl
leaf_none p l = refl

pub no_cells : (l k : Kind) → cells_in (empty_under l k) ≡ []
no_cells l (kind.«list» o fs) = refl
no_cells l (kind.map sorted fs) = refl
no_cells l (kind.fixed_size_list size fs) = refl
no_cells l (kind.struct fs) = refl
no_cells l (kind.union Sparse stated ids fs) = refl
no_cells l (kind.union Dense stated ids fs) = refl
no_cells l (kind.dictionary t ordered id k) = refl
no_cells l (kind.extension name metadata k) = no_cells l k
no_cells l k = leaf_none (physical_of k) l

-- ── dictionaries ──

-- The dictionaries that stand in an array have the parts that were held, whatever the kind of their values.
abbrev mutual
  pub HasHeld : Held → Kind → Parts → Type 0
  HasHeld h (kind.«list» o fs) p = (is_indexed p ≡ false) × HaveHeld h fs (values_in p)
  HasHeld h (kind.fixed_size_list n fs) p = (is_indexed p ≡ false) × HaveHeld h fs (values_in p)
  HasHeld h (kind.struct fs) p = (is_indexed p ≡ false) × HaveHeld h fs (values_in p)
  HasHeld h (kind.map sorted fs) p = (is_indexed p ≡ false) × HaveHeld h fs (values_in p)
  HasHeld h (kind.union mode stated ids fs) p = (is_indexed p ≡ false) × HaveHeld h fs (values_in p)
  HasHeld h (kind.dictionary t ordered id k) p = (is_indexed p ≡ true) × (values_in p ≡ parts_or_empty (h id) (values_kind (kind_in p)))
  HasHeld h (kind.extension name metadata k) p = HasHeld h k p
  HasHeld h k p = (is_indexed p ≡ false) × (values_in p ≡ none)

  pub HaveHeld : Held → Fields → Forest → Type 0
  HaveHeld h kind.none ps = ps ≡ none
  HaveHeld h (kind.field name nullable metadata k others) none = ⊥
  HaveHeld h (kind.field name nullable metadata k others) (also p ps) = HasHeld h k p × HaveHeld h others ps

mutual
  pub as_read : (h : Held) (k : Kind) (p : Parts) → IsReadUnder h k p → HasHeld h k p
  as_read h (kind.«list» o fs) p r = (r.0, all_as_read h fs (values_in p) r.1)
  as_read h (kind.fixed_size_list n fs) p r = (r.0, all_as_read h fs (values_in p) r.1)
  as_read h (kind.struct fs) p r = (r.0, all_as_read h fs (values_in p) r.1)
  as_read h (kind.map sorted fs) p r = (r.0, all_as_read h fs (values_in p) r.1)
  as_read h (kind.union mode stated ids fs) p r = (r.0, all_as_read h fs (values_in p) r.1)
  as_read h (kind.dictionary t ordered id k) p r = (r.0, r.2)
  as_read h (kind.extension name metadata k) p r = as_read h k p r
  as_read h k p r = r

  pub all_as_read : (h : Held) (fs : Fields) (ps : Forest) → AreReadUnder h fs ps → HaveHeld h fs ps
  all_as_read h kind.none ps r = r
  all_as_read h (kind.field name nullable metadata k others) none r = r
  all_as_read h (kind.field name nullable metadata k others) (also p ps) r = (as_read h k p r.0, all_as_read h others ps r.1)

-- where nothing is held, kinds of one form ask the same
mutual
  to_bare : (k : Kind) (p : Parts) → HasHeld none_held k p → HasHeld none_held (bare_form k) p
  to_bare (kind.«list» o fs) p r = (r.0, to_bares fs (values_in p) r.1)
  to_bare (kind.fixed_size_list n fs) p r = (r.0, to_bares fs (values_in p) r.1)
  to_bare (kind.struct fs) p r = (r.0, to_bares fs (values_in p) r.1)
  to_bare (kind.map sorted fs) p r = (r.0, to_bares fs (values_in p) r.1)
  to_bare (kind.union mode stated ids fs) p r = (r.0, to_bares fs (values_in p) r.1)
  to_bare (kind.dictionary t ordered id k) p r = r
  to_bare (kind.extension name metadata k) p r = to_bare k p r
  to_bare k p r = r

  to_bares : (fs : Fields) (ps : Forest) → HaveHeld none_held fs ps → HaveHeld none_held (bare_forms fs) ps
  to_bares kind.none ps r = r
  to_bares (kind.field name nullable metadata k others) none r = r
  to_bares (kind.field name nullable metadata k others) (also p ps) r = (to_bare k p r.0, to_bares others ps r.1)

mutual
  of_bare : (k : Kind) (p : Parts) → HasHeld none_held (bare_form k) p → HasHeld none_held k p
  of_bare (kind.«list» o fs) p r = (r.0, of_bares fs (values_in p) r.1)
  of_bare (kind.fixed_size_list n fs) p r = (r.0, of_bares fs (values_in p) r.1)
  of_bare (kind.struct fs) p r = (r.0, of_bares fs (values_in p) r.1)
  of_bare (kind.map sorted fs) p r = (r.0, of_bares fs (values_in p) r.1)
  of_bare (kind.union mode stated ids fs) p r = (r.0, of_bares fs (values_in p) r.1)
  of_bare (kind.dictionary t ordered id k) p r = r
  of_bare (kind.extension name metadata k) p r = of_bare k p r
  of_bare k p r = r

  of_bares : (fs : Fields) (ps : Forest) → HaveHeld none_held (bare_forms fs) ps → HaveHeld none_held fs ps
  of_bares kind.none ps r = r
  of_bares (kind.field name nullable metadata k others) none r = r
  of_bares (kind.field name nullable metadata k others) (also p ps) r = (of_bare k p r.0, of_bares others ps r.1)

-- an array without rows
mutual
  own_held : (l k : Kind) → values_kind l ≡ values_kind (plain_kind k) → HasHeld none_held k (empty_under l (plain_kind k))
  own_held l (kind.«list» o fs) e = (refl, own_each fs)
  own_held l (kind.map sorted fs) e = (refl, own_each fs)
  own_held l (kind.fixed_size_list size fs) e = (refl, own_each fs)
  own_held l (kind.struct fs) e = (refl, own_each fs)
  own_held l (kind.union Sparse stated ids fs) e = (refl, own_each fs)
  own_held l (kind.union Dense stated ids fs) e = (refl, own_each fs)
  own_held l (kind.dictionary t ordered id k) e = (refl, ap (λ x. also (empty_parts x) none) (sym (ap plain_kind e ∙ plain_twice k)))
  own_held l (kind.extension name metadata k) e = own_held l k e
  own_held l k e = (refl, refl)

  own_each : (fs : Fields) → HaveHeld none_held fs (empty_forest (plain_fields fs))
  own_each kind.none = refl
  own_each (kind.field name nullable metadata k others) = (own_held (plain_kind k) k refl, own_each others)

pub empty_held : (k l : Kind) → bare_form k ≡ bare_form l → HasHeld none_held k (empty_parts (plain_kind l))
empty_held k l e = of_bare k (empty_parts (plain_kind l)) (subst (λ x. HasHeld none_held x (empty_parts (plain_kind l))) (sym e) (to_bare l (empty_parts (plain_kind l)) (own_held (plain_kind l) l refl)))
