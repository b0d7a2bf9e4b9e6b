-- A schema of some fields of one that may be written, each once and in any order, may be written.
use Rattle.std.proofs.Common.{◌≡◌, ℕ, zero, suc, ◌+◌, ◌<◌, ◌≤◌, List, [], ◌∷◌, length, Bool, true, false, Option, Some, None, Ok, refl, sym, ap, ◌∙◌, arith, not, ◌&&◌, cond}
use Rattle.std.specs.Prelude.{nat_eq, nat_lt, ◌||◌}
use Rattle.std.specs.Str.{bytes_eq}
use Rattle.std.proofs.lemmas.Bool.{and_from, and_parts, not-true, not_from_false, or_from, or_parts, false_from_ne_true}
use Rattle.arrow_spec.specs.declared.error.IpcError.TheVariants.{Projection}
use Rattle.arrow_spec.specs.Kinds as kind
use Rattle.arrow_spec.specs.Kinds.{Kind, Fields, Metadata, none, field, width}
use Rattle.arrow_spec.specs.Columns.{stands_in}
use Rattle.arrow_spec.specs.Files.{columns_right, fields_as_asked, fields_asked, with_field_at, wrong_columns}
use Rattle.arrow_spec.specs.Schema.{Before, has_distinct_names, has_name}
use Rattle.arrow_spec.specs.WrittenSchemas.{FieldsFit, SchemaMayBeWritten, after_fields, after_kind, pairs_for}
use Rattle.arrow_spec.proofs.PairOrder.{key_same}
use Rattle.arrow_spec.proofs.ReadPairs.{is_true, through}
use Rattle.laws_transcode.specs.Laws.{AskedSchemaIsSendable}
use Rattle.laws_transcode.proofs.AskedFloats.{floats_asked, no_floats}
use Rattle.laws_transcode.proofs.ChosenColumns.{stands_first, stands_later}

-- ── each column once ──

-- numbers of which none stands among earlier ones or twice
abbrev AreNew : List ℕ → List ℕ → Type 0
AreNew earlier [] = Unit {0}
AreNew earlier (c ∷ cs) = (stands_in earlier c ≡ false) × AreNew (c ∷ earlier) cs

are_new : (count : ℕ) (earlier cs : List ℕ) → wrong_columns count earlier cs ≡ Ok tt → AreNew earlier cs
are_new count earlier [] h = tt
are_new count earlier (c ∷ cs) h = through _ _ tt h λ u right rest.
    (not-true (stands_in earlier c) (and_parts (nat_lt c count) (not (stands_in earlier c)) (is_true _ (Projection c) u right)).1, are_new count (c ∷ earlier) cs rest)

-- ── the fields ──

fits_with : (levels : ℕ) (fs : Fields) (c : ℕ) (others : Fields) → FieldsFit levels fs → FieldsFit levels others → FieldsFit levels (with_field_at fs c others)
fits_with levels none c others h k = k
fits_with zero (field name nullable metadata k fs) c others h g = absurd h
fits_with (suc levels) (field name nullable metadata k fs) zero others h g = (h.0, h.1, h.2, g)
fits_with (suc levels) (field name nullable metadata k fs) (suc c) others h g = fits_with (suc levels) fs c others h.3 g

asked_fit : (levels : ℕ) (fs : Fields) (cs : List ℕ) → FieldsFit levels fs → FieldsFit levels (fields_asked fs cs)
asked_fit levels fs [] h = tt
asked_fit levels fs (c ∷ cs) h = fits_with levels fs c (fields_asked fs cs) h (asked_fit levels fs cs h)

-- ── sums over fields ──

module _ (weight : Metadata → Kind → ℕ) where
  abbrev sum_of : Fields → ℕ
  sum_of none = 0
  sum_of (field name nullable metadata k others) = weight metadata k + sum_of others

  abbrev weight_at : Fields → ℕ → ℕ
  weight_at none i = 0
  weight_at (field name nullable metadata k others) zero = weight metadata k
  weight_at (field name nullable metadata k others) (suc i) = weight_at others i

  -- without the columns that stand among earlier numbers
  abbrev sum_besides : List ℕ → Fields → ℕ → ℕ
  sum_besides earlier none c = 0
  sum_besides earlier (field name nullable metadata k others) c = cond (stands_in earlier c) 0 (weight metadata k) + sum_besides earlier others (suc c)

  sum_all : (fs : Fields) (c : ℕ) → sum_besides [] fs c ≡ sum_of fs
  sum_all none c = refl
  sum_all (field name nullable metadata k others) c = ap (λ n. weight metadata k + n) (sum_all others (suc c))

  sum_with : (fs : Fields) (i : ℕ) (others : Fields) → sum_of (with_field_at fs i others) ≡ weight_at fs i + sum_of others
  sum_with none i others = omega arith
  sum_with (field name nullable metadata k fs) zero others = refl
  sum_with (field name nullable metadata k fs) (suc i) others = sum_with fs i others

  -- a number before those that are looked at does not count
  passed_by : (x : ℕ) (earlier : List ℕ) (fs : Fields) (c : ℕ) → x < c → sum_besides (x ∷ earlier) fs c ≡ sum_besides earlier fs c
  passed_by x earlier none c less = refl
  passed_by x earlier (field name nullable metadata k others) c less =
      let other : nat_eq x c ≡ false = grind arith in
      rw (other, passed_by x earlier others (suc c) (omega (arith, less))) refl

  one_out : (earlier : List ℕ) (fs : Fields) (c i j : ℕ) → c + i ≡ j → stands_in earlier j ≡ false → sum_besides earlier fs c ≡ weight_at fs i + sum_besides (j ∷ earlier) fs c
  one_out earlier none c i j at new = omega arith
  one_out earlier (field name nullable metadata k others) c zero j at new =
      let same : j ≡ c = omega (arith, at) in
      let here : stands_in earlier c ≡ false = rw same at new in
      let is : nat_eq j c ≡ true = grind arith in
      rw (is, here, passed_by j earlier others (suc c) (omega (arith, same))) (omega arith)
  one_out earlier (field name nullable metadata k others) c (suc i) j at new =
      let other : nat_eq j c ≡ false = grind arith in
      rw other (omega (arith, one_out earlier others (suc c) i j (omega (arith, at)) new))

  -- the sum over some fields, each once, is no more than that over all
  asked_sum : (earlier : List ℕ) (fs : Fields) (cs : List ℕ) → AreNew earlier cs → sum_of (fields_asked fs cs) ≤ sum_besides earlier fs 0
  asked_sum earlier fs [] new = omega arith
  asked_sum earlier fs (c ∷ cs) new = omega (arith, one_out earlier fs 0 c c (omega arith) new.0, sum_with fs c (fields_asked fs cs), asked_sum (c ∷ earlier) fs cs new.1)

  asked_fewer : (fs : Fields) (cs : List ℕ) → AreNew [] cs → sum_of (fields_asked fs cs) ≤ sum_of fs
  asked_fewer fs cs new = omega (arith, asked_sum [] fs cs new, sum_all fs 0)

-- ── how many fields and pairs ──

abbrev nothing : Before
nothing = record { fields = 0; pairs = 0 }

abbrev with_one : Metadata → Kind → Before → Before
with_one metadata k p = record { fields = suc p.fields; pairs = p.pairs + length (pairs_for k metadata) }

abbrev field_count : Metadata → Kind → ℕ
field_count metadata k = (after_kind k (with_one metadata k nothing)).fields

abbrev pair_count : Metadata → Kind → ℕ
pair_count metadata k = (after_kind k (with_one metadata k nothing)).pairs

abbrev Moved : Before → Before → Before → Type 0
Moved p q r = (r.fields ≡ p.fields + q.fields) × (r.pairs ≡ p.pairs + q.pairs)

-- so many more than before
abbrev Summed : Fields → Before → Type 0
Summed fs p = ((after_fields fs p).fields ≡ p.fields + sum_of field_count fs) × ((after_fields fs p).pairs ≡ p.pairs + sum_of pair_count fs)

below : (fs : Fields) (p : Before) → Summed fs p → Summed fs nothing → Moved p (after_fields fs nothing) (after_fields fs p)
below fs p h k = (omega (arith, h.0, k.0), omega (arith, h.1, k.1))

mutual
  kind_moved : (k : Kind) (p : Before) → Moved p (after_kind k nothing) (after_kind k p)
  kind_moved (kind.«list» o fs) p = below fs p (fields_summed fs p) (fields_summed fs nothing)
  kind_moved (kind.fixed_size_list n fs) p = below fs p (fields_summed fs p) (fields_summed fs nothing)
  kind_moved (kind.struct fs) p = below fs p (fields_summed fs p) (fields_summed fs nothing)
  kind_moved (kind.map sorted fs) p = below fs p (fields_summed fs p) (fields_summed fs nothing)
  kind_moved (kind.union mode stated ids fs) p = below fs p (fields_summed fs p) (fields_summed fs nothing)
  kind_moved (kind.dictionary t ordered id k) p = kind_moved k p
  kind_moved (kind.extension name metadata k) p = kind_moved k p
  kind_moved k p = (omega arith, omega arith)

  fields_summed : (fs : Fields) (p : Before) → Summed fs p
  fields_summed none p = (omega arith, omega arith)
  fields_summed (field name nullable metadata k others) p =
      let one = kind_moved k (with_one metadata k p) in
      let first = kind_moved k (with_one metadata k nothing) in
      let rest = fields_summed others (after_kind k (with_one metadata k p)) in
      (omega (arith, one.0, first.0, rest.0), omega (arith, one.1, first.1, rest.1))

-- ── names ──

-- a name that no field has, none of some has
no_name : (x : List ℕ) (fs : Fields) (c : ℕ) (others : Fields) → has_name x fs ≡ false → has_name x others ≡ false → has_name x (with_field_at fs c others) ≡ false
no_name x none c others h k = k
no_name x (field name nullable metadata j fs) zero others h k = or_from (bytes_eq x name) (has_name x others) (or_parts (bytes_eq x name) (has_name x fs) h).0 k
no_name x (field name nullable metadata j fs) (suc c) others h k = no_name x fs c others (or_parts (bytes_eq x name) (has_name x fs) h).1 k

-- the c-th field's name is not that of others
abbrev is_apart : Fields → ℕ → Fields → Bool
is_apart none c others = true
is_apart (field name nullable metadata k fs) zero others = not (has_name name others)
is_apart (field name nullable metadata k fs) (suc c) others = is_apart fs c others

distinct_with : (fs : Fields) (c : ℕ) (others : Fields) → has_distinct_names (with_field_at fs c others) ≡ (is_apart fs c others && has_distinct_names others)
distinct_with none c others = refl
distinct_with (field name nullable metadata k fs) zero others = refl
distinct_with (field name nullable metadata k fs) (suc c) others = distinct_with fs c others

none_apart : (fs : Fields) (c : ℕ) → is_apart fs c none ≡ true
none_apart none c = refl
none_apart (field name nullable metadata k fs) zero = refl
none_apart (field name nullable metadata k fs) (suc c) = none_apart fs c

-- the name of a field that stands behind another is not the other's
behind_apart : (name : List ℕ) (nullable : Bool) (metadata : Metadata) (k : Kind) (fs : Fields) (c : ℕ) (others : Fields) → has_name name fs ≡ false → is_apart fs c others ≡ true → is_apart fs c (field name nullable metadata k others) ≡ true
behind_apart name nullable metadata k none c others h a = refl
behind_apart name nullable metadata k (field x n m j fs) zero others h a =
    let first : bytes_eq name x ≡ false = (or_parts (bytes_eq name x) (has_name name fs) h).0 in
    let other : bytes_eq x name ≡ false = false_from_ne_true (bytes_eq x name) (λ e. let same : x ≡ name = key_same x name e in cc) in
    not_from_false (bytes_eq x name || has_name x others) (or_from (bytes_eq x name) (has_name x others) other (not-true (has_name x others) a))
behind_apart name nullable metadata k (field x n m j fs) (suc c) others h a = behind_apart name nullable metadata k fs c others (or_parts (bytes_eq name x) (has_name name fs) h).1 a

-- another field before them changes nothing
still_apart : (fs : Fields) (c i : ℕ) (others : Fields) → (i ≡ c → ⊥) → has_distinct_names fs ≡ true → is_apart fs c others ≡ true → is_apart fs c (with_field_at fs i others) ≡ true
still_apart none c i others apart distinct a = refl
still_apart (field name nullable metadata k fs) zero zero others apart distinct a = absurd (apart refl)
still_apart (field name nullable metadata k fs) zero (suc i) others apart distinct a =
    let both = and_parts (not (has_name name fs)) (has_distinct_names fs) distinct in
    not_from_false (has_name name (with_field_at fs i others)) (no_name name fs i others (not-true (has_name name fs) both.0) (not-true (has_name name others) a))
still_apart (field name nullable metadata k fs) (suc c) zero others apart distinct a =
    let both = and_parts (not (has_name name fs)) (has_distinct_names fs) distinct in
    behind_apart name nullable metadata k fs c others (not-true (has_name name fs) both.0) a
still_apart (field name nullable metadata k fs) (suc c) (suc i) others apart distinct a =
    still_apart fs c i others (λ e. apart (ap suc e)) (and_parts (not (has_name name fs)) (has_distinct_names fs) distinct).1 a

asked_apart : (fs : Fields) (earlier cs : List ℕ) (c : ℕ) → has_distinct_names fs ≡ true → stands_in earlier c ≡ true → AreNew earlier cs → is_apart fs c (fields_asked fs cs) ≡ true
asked_apart fs earlier [] c distinct is new = none_apart fs c
asked_apart fs earlier (i ∷ cs) c distinct is new =
    still_apart fs c i (fields_asked fs cs) (λ e. false_is_true (sym (ap (stands_in earlier) e ∙ is) ∙ new.0)) distinct (asked_apart fs (i ∷ earlier) cs c distinct (stands_later i c earlier is) new.1)
  where
    false_is_true : true ≡ false → ⊥
    false_is_true e = cc

asked_distinct : (fs : Fields) (earlier cs : List ℕ) → has_distinct_names fs ≡ true → AreNew earlier cs → has_distinct_names (fields_asked fs cs) ≡ true
asked_distinct fs earlier [] distinct new = refl
asked_distinct fs earlier (c ∷ cs) distinct new =
    rw (distinct_with fs c (fields_asked fs cs)) (and_from (is_apart fs c (fields_asked fs cs)) (has_distinct_names (fields_asked fs cs)) (asked_apart fs (c ∷ earlier) cs c distinct (stands_first c earlier) new.1) (asked_distinct fs (c ∷ earlier) cs distinct new.1))

-- ── the schema ──

asked_may : (fs : Fields) (pairs : Metadata) (columns : Option (List ℕ)) → SchemaMayBeWritten fs pairs → columns_right columns (width fs) ≡ Ok tt → SchemaMayBeWritten (fields_as_asked columns fs) pairs
asked_may fs pairs None may right = may
asked_may fs pairs (Some cs) may right =
    let new = are_new (width fs) [] cs right in
    let start : Before = record { fields = 0; pairs = length pairs } in
    let counts = fields_summed (fields_asked fs cs) start in
    let counts-all = fields_summed fs start in
    record {
      fit = asked_fit 64 fs cs may.fit;
      ascend = may.ascend;
      few_fields = omega (arith, counts.0, counts-all.0, asked_fewer field_count fs cs new, may.few_fields);
      few_pairs = omega (arith, counts.1, counts-all.1, asked_fewer pair_count fs cs new, may.few_pairs);
      distinct = asked_distinct fs [] cs may.distinct new;
    }

pub asked_sendable : AskedSchemaIsSendable
asked_sendable s columns may right readable =
    record { readable = no_floats (fields_as_asked columns s.fields) 0 (floats_asked s.fields columns readable); may = asked_may s.fields s.metadata columns may right }
