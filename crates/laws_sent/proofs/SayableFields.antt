-- Fields that may be written: the tables of a schema can say them, also under ids that count from 0, and their pairs are their own.
use Rattle.std.proofs.Common.{◌≡◌, ℕ, zero, suc, ◌^◌, ◌<◌, List, [], ◌∷◌, length, Bool, true, false, ◌&&◌, ◌||◌, refl, sym, ap, ◌∙◌, arith}
use Rattle.std.specs.Prelude.{ℤ, pos, negsuc, nat_eq, nat_lt, FitsSigned}
use Rattle.std.specs.Int.{w64}
use Rattle.std.proofs.lemmas.Bool.{and_from, and_parts, le-leb}
use Rattle.arrow_spec.specs.Kinds as kind
use Rattle.arrow_spec.specs.Kinds.{Kind, Fields, Metadata, none, field, width, same, are_same_ids, numbered, uses_in, uses_of}
use Rattle.arrow_spec.specs.Schema.{are_ids, counted_ids}
use Rattle.arrow_spec.specs.Regular.{is_dictionary_id, is_no_dictionary, is_representable_kind, is_size, representable}
use Rattle.arrow_spec.specs.WrittenSchemas.{AreIds, AreStated, FieldsFit, IdsMayBeWritten, KindFits, Part, SchemaMayBeWritten, of_dictionary, of_extension, of_field, own_fields, own_kind}
use Rattle.arrow_spec.proofs.ExtensionPairs.{own_same}
use Rattle.arrow_spec.proofs.NumberedFields.{numbered_may}
use Rattle.laws_writers.specs.Below.{all_representable, is_representable, all_fit, fits_below}
use Rattle.ipc_fields.specs.IpcFields.{is_encoded}
use Rattle.ipc_fields.proofs.KindSteps.{ids_equal}
use Rattle.laws_writers.proofs.Below.{split, representable_is}
use Rattle.laws_writers.specs.Below.Defaults as defaults

-- ── their pairs are their own ──

mutual
  kind_own : (at : Part) (levels : ℕ) (k : Kind) → KindFits at levels k → own_kind k ≡ k
  kind_own at levels (kind.«list» o fs) fit = ap (kind.«list» o) (fields_own levels fs fit.1)
  kind_own at levels (kind.fixed_size_list n fs) fit = ap (kind.fixed_size_list n) (fields_own levels fs fit.3)
  kind_own at levels (kind.struct fs) fit = ap kind.struct (fields_own levels fs fit)
  kind_own at levels (kind.map sorted fs) fit = ap (kind.map sorted) (fields_own levels fs fit.2)
  kind_own at levels (kind.union mode stated types fs) fit = ap (kind.union mode stated types) (fields_own levels fs fit.2)
  kind_own of_field levels (kind.dictionary t ordered id k) fit = ap (kind.dictionary t ordered id) (kind_own of_dictionary levels k fit)
  kind_own of_dictionary levels (kind.dictionary t ordered id k) fit = absurd fit
  kind_own of_extension levels (kind.dictionary t ordered id k) fit = absurd fit
  kind_own of_field levels (kind.extension name metadata k) fit = ap (kind.extension name metadata) (kind_own of_extension levels k fit.2)
  kind_own of_dictionary levels (kind.extension name metadata k) fit = ap (kind.extension name metadata) (kind_own of_extension levels k fit.2)
  kind_own of_extension levels (kind.extension name metadata k) fit = absurd fit
  kind_own at levels k fit = refl

  pub fields_own : (levels : ℕ) (fs : Fields) → FieldsFit levels fs → own_fields fs ≡ fs
  fields_own levels none fit = refl
  fields_own zero (field name nullable metadata k others) fit = absurd fit
  fields_own (suc levels) (field name nullable metadata k others) fit = rw (own_same metadata fit.1, kind_own of_field levels k fit.2, fields_own (suc levels) others fit.3) refl

-- ── the tables of a schema can say them ──

is_small : (n : ℕ) → n < 2 ^ 31 → is_size n ≡ true
is_small n h = grind arith

-- below a field no dictionary stands directly in a dictionary or an extension
no_dictionary : (at : Part) (levels : ℕ) (k : Kind) → (at ≡ of_field → ⊥) → KindFits at levels k → is_no_dictionary k ≡ true
no_dictionary of_field levels k inside fit = absurd (inside refl)
no_dictionary of_dictionary levels (kind.dictionary t ordered old k) inside fit = absurd fit
no_dictionary of_extension levels (kind.dictionary t ordered old k) inside fit = absurd fit
no_dictionary at levels k inside fit = refl

mutual
  kind_representable : (at : Part) (levels : ℕ) (k : Kind) → KindFits at levels k → is_representable k ≡ true
  kind_representable at levels (kind.decimal p s) fit = and_from (is_size p) (is_size s) (is_small p fit.0) (is_small s fit.1)
  kind_representable at levels (kind.decimal256 p s) fit = and_from (is_size p) (is_size s) (is_small p fit.0) (is_small s fit.1)
  kind_representable at levels (kind.fixed_size_binary n) fit = is_small n fit.1
  kind_representable at levels (kind.«list» o fs) fit = fields_representable levels fs fit.1
  kind_representable at levels (kind.fixed_size_list n fs) fit = and_from (is_size n) (all_representable fs) (is_small n fit.2) (fields_representable levels fs fit.3)
  kind_representable at levels (kind.struct fs) fit = fields_representable levels fs fit
  kind_representable at levels (kind.map sorted fs) fit = fields_representable levels fs fit.2
  kind_representable at levels (kind.union mode stated types fs) fit = fields_representable levels fs fit.2
  kind_representable of_field levels (kind.dictionary t ordered id k) fit = rw (no_dictionary of_dictionary levels k (λ e. cc) fit) (kind_representable of_dictionary levels k fit)
  kind_representable of_dictionary levels (kind.dictionary t ordered id k) fit = absurd fit
  kind_representable of_extension levels (kind.dictionary t ordered id k) fit = absurd fit
  kind_representable of_field levels (kind.extension name metadata k) fit = rw (no_dictionary of_extension levels k (λ e. cc) fit.2) (kind_representable of_extension levels k fit.2)
  kind_representable of_dictionary levels (kind.extension name metadata k) fit = rw (no_dictionary of_extension levels k (λ e. cc) fit.2) (kind_representable of_extension levels k fit.2)
  kind_representable of_extension levels (kind.extension name metadata k) fit = absurd fit
  kind_representable at levels k fit = refl

  pub fields_representable : (levels : ℕ) (fs : Fields) → FieldsFit levels fs → all_representable fs ≡ true
  fields_representable levels none fit = refl
  fields_representable zero (field name nullable metadata k others) fit = absurd fit
  fields_representable (suc levels) (field name nullable metadata k others) fit = and_from (is_representable k) (all_representable others) (kind_representable of_field levels k fit.2) (fields_representable (suc levels) others fit.3)

-- so no dictionary's values are a dictionary behind extensions
not_encoded : (k : Kind) → is_no_dictionary k ≡ true → is_representable k ≡ true → is_encoded k ≡ false
not_encoded (kind.dictionary t ordered id k) h a = cc
not_encoded (kind.extension name metadata k) h a = let both = and_parts (is_no_dictionary k) (is_representable k) a in not_encoded k both.0 both.1
not_encoded k h a = refl

mutual
  kind_numberable : (k : Kind) → is_representable k ≡ true → defaults.is_apart k ≡ true
  kind_numberable (kind.«list» o fs) a = numberable fs a
  kind_numberable (kind.fixed_size_list n fs) a = numberable fs (and_parts (is_size n) (all_representable fs) a).1
  kind_numberable (kind.struct fs) a = numberable fs a
  kind_numberable (kind.map sorted fs) a = numberable fs a
  kind_numberable (kind.union mode stated types fs) a = numberable fs a
  kind_numberable (kind.dictionary t ordered id k) a =
      let both = and_parts (is_no_dictionary k) (is_representable k) a in
      rw (not_encoded k both.0 both.1) (kind_numberable k both.1)
  kind_numberable (kind.extension name metadata k) a = kind_numberable k (and_parts (is_no_dictionary k) (is_representable k) a).1
  kind_numberable k a = refl

  pub numberable : (fs : Fields) → all_representable fs ≡ true → defaults.are_apart fs ≡ true
  numberable none a = refl
  numberable (field name nullable metadata k others) a =
      let both = and_parts (is_representable k) (all_representable others) a in
      and_from (defaults.is_apart k) (defaults.are_apart others) (kind_numberable k both.0) (numberable others both.1)

-- ── with their ids ──

is_id : (z : ℤ) → FitsSigned w64 z → is_dictionary_id z ≡ true
is_id (pos n) h = le-leb n 9223372036854775807 (omega (arith, h.sfits))
is_id (negsuc n) h = le-leb n 9223372036854775807 (omega (arith, h.sfits))

-- ids that are not stated are counted
same_itself : (types : List ℤ) → are_same_ids types types ≡ true
same_itself [] = refl
same_itself (x ∷ xs) = and_from (same x x) (are_same_ids xs xs) (ids_equal x x refl) (same_itself xs)

stated_said : (stated : Bool) (types : List ℤ) (n : ℕ) → AreStated stated types n → (stated || are_same_ids types (counted_ids 0 n)) ≡ true
stated_said true types n h = refl
stated_said false types n h = ap (are_same_ids types) (sym h) ∙ same_itself types

kind_said : (at : Part) (levels : ℕ) (k : Kind) → KindFits at levels k → AreIds (uses_of k) → is_representable_kind k ≡ true
kind_said at levels (kind.decimal p s) fit ok = and_from (is_size p) (is_size s) (is_small p fit.0) (is_small s fit.1)
kind_said at levels (kind.decimal256 p s) fit ok = and_from (is_size p) (is_size s) (is_small p fit.0) (is_small s fit.1)
kind_said at levels (kind.fixed_size_binary n) fit ok = is_small n fit.1
kind_said at levels (kind.fixed_size_list n fs) fit ok = is_small n fit.2
kind_said of_field levels (kind.extension name metadata k) fit ok = and_from (is_no_dictionary k) (is_representable_kind k) (no_dictionary of_extension levels k (λ e. cc) fit.2) (kind_said of_extension levels k fit.2 ok)
kind_said of_dictionary levels (kind.extension name metadata k) fit ok = and_from (is_no_dictionary k) (is_representable_kind k) (no_dictionary of_extension levels k (λ e. cc) fit.2) (kind_said of_extension levels k fit.2 ok)
kind_said of_extension levels (kind.extension name metadata k) fit ok = absurd fit
kind_said at levels (kind.union mode stated types fs) fit ok = and_from (are_ids types && nat_eq (length types) (width fs) && nat_lt 0 (width fs)) (stated || are_same_ids types (counted_ids 0 (width fs))) fit.0 (stated_said stated types (width fs) fit.1)
kind_said of_field levels (kind.dictionary t ordered old k) fit ok =
    and_from (is_dictionary_id old && is_no_dictionary k) (is_representable_kind k) (and_from (is_dictionary_id old) (is_no_dictionary k) (is_id old ok.0) (no_dictionary of_dictionary levels k (λ e. cc) fit)) (kind_said of_dictionary levels k fit ok.1)
kind_said of_dictionary levels (kind.dictionary t ordered old k) fit ok = absurd fit
kind_said of_extension levels (kind.dictionary t ordered old k) fit ok = absurd fit
kind_said at levels k fit ok = refl

mutual
  below_said : (at : Part) (levels : ℕ) (k : Kind) → KindFits at levels k → AreIds (uses_of k) → fits_below k ≡ true
  below_said at levels (kind.«list» o fs) fit ok = fields_said levels fs fit.1 ok
  below_said at levels (kind.fixed_size_list n fs) fit ok = fields_said levels fs fit.3 ok
  below_said at levels (kind.struct fs) fit ok = fields_said levels fs fit ok
  below_said at levels (kind.map sorted fs) fit ok = fields_said levels fs fit.2 ok
  below_said at levels (kind.union mode stated types fs) fit ok = fields_said levels fs fit.2 ok
  below_said of_field levels (kind.dictionary t ordered old k) fit ok = below_said of_dictionary levels k fit ok.1
  below_said of_dictionary levels (kind.dictionary t ordered old k) fit ok = absurd fit
  below_said of_extension levels (kind.dictionary t ordered old k) fit ok = absurd fit
  below_said of_field levels (kind.extension name metadata k) fit ok = below_said of_extension levels k fit.2 ok
  below_said of_dictionary levels (kind.extension name metadata k) fit ok = below_said of_extension levels k fit.2 ok
  below_said of_extension levels (kind.extension name metadata k) fit ok = absurd fit
  below_said at levels k fit ok = refl

  fields_said : (levels : ℕ) (fs : Fields) → FieldsFit levels fs → AreIds (uses_in fs) → all_fit fs ≡ true
  fields_said levels none fit ok = refl
  fields_said zero (field name nullable metadata k others) fit ok = absurd fit
  fields_said (suc levels) (field name nullable metadata k others) fit ok =
      let both = split (λ u. FitsSigned w64 u.id) (uses_of k) (uses_in others) ok in
      and_from (is_representable_kind k && fits_below k) (all_fit others) (and_from (is_representable_kind k) (fits_below k) (kind_said of_field levels k fit.2 both.0) (below_said of_field levels k fit.2 both.0)) (fields_said (suc levels) others fit.3 both.1)

-- the fields of a schema that may be written can be said where their ids may, as those that count from 0
pub may_be_said : (fs : Fields) (pairs : Metadata) → SchemaMayBeWritten fs pairs → IdsMayBeWritten fs → representable fs ≡ true
may_be_said fs pairs may own = representable_is fs ∙ fields_said 64 fs may.fit own.within

pub can_be_said : (fs : Fields) (pairs : Metadata) → SchemaMayBeWritten fs pairs → representable (numbered fs 0) ≡ true
can_be_said fs pairs may = let own = numbered_may fs pairs may in may_be_said (numbered fs 0) pairs own.0 own.1
