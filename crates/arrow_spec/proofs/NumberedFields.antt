-- What numbering the dictionaries of fields keeps: counts, widths, names, and the fields without ids; and that numbered fields may be written.
use Rattle.std.proofs.Common.{length, ◌≡◌, ℕ, suc, zero, ◌+◌, ◌^◌, ◌<◌, ◌≤◌, List, [], ◌∷◌, ◌++◌, None, Ok, refl, sym, ap, subst, ◌∙◌, arith, true, false, pos, SFits}
use Rattle.std.specs.Prelude.{nat_eq, ◌||◌}
use Rattle.std.specs.Int.{w64}
use Rattle.std.specs.Str.{bytes_eq}
use Rattle.arrow_spec.specs.Readings.{bind}
use Rattle.arrow_spec.specs.Kinds as kind
use Rattle.arrow_spec.specs.Kinds.{Kind, Fields, Metadata, none, field, width, Use, uses_of, uses_in, values_under, bare, bare_kind, dictionary_count, dictionary_counts, numbered, numbered_kind}
use Rattle.arrow_spec.specs.Schema.{Before, has_name, has_distinct_names, is_struct_of_two, first_is_struct_of_two, uses_agree}
use Rattle.arrow_spec.specs.WrittenSchemas.{AreIds, IdsMayBeWritten, SchemaMayBeWritten, KindFits, FieldsFit, Part, of_field, of_dictionary, of_extension, pairs_for, after_kind, after_fields}

pub width_numbered : (fs : Fields) (id : ℕ) → width (numbered fs id) ≡ width fs
width_numbered none id = refl
width_numbered (field name nullable metadata k others) id = ap suc (width_numbered others _)

has_name_numbered : (name : List ℕ) (fs : Fields) (id : ℕ) → has_name name (numbered fs id) ≡ has_name name fs
has_name_numbered name none id = refl
has_name_numbered name (field other nullable metadata k others) id = ap (λ x. bytes_eq name other || x) (has_name_numbered name others _)

pub distinct_numbered : (fs : Fields) (id : ℕ) → has_distinct_names (numbered fs id) ≡ has_distinct_names fs
distinct_numbered none id = refl
distinct_numbered (field name nullable metadata k others) id = rw (has_name_numbered name others (id + dictionary_count k), distinct_numbered others (id + dictionary_count k)) refl

struct_numbered : (k : Kind) (id : ℕ) → is_struct_of_two (numbered_kind k id) ≡ is_struct_of_two k
struct_numbered (kind.struct fs) id = ap (λ n. nat_eq n 2) (width_numbered fs id)
struct_numbered (kind.extension name metadata k) id = struct_numbered k id
struct_numbered k id = refl

pub first_numbered : (fs : Fields) (id : ℕ) → first_is_struct_of_two (numbered fs id) ≡ first_is_struct_of_two fs
first_numbered none id = refl
first_numbered (field name nullable metadata k others) id = struct_numbered k id

-- ── how many fields and dictionaries stand before ──

abbrev pub IsNotBehind : Before → Before → Type 0
IsNotBehind p q = (p.fields ≤ q.fields) × (p.pairs ≤ q.pairs)

mutual
  pub kind_more : (k : Kind) (p : Before) → IsNotBehind p (after_kind k p)
  kind_more (kind.«list» o fs) p = fields_more fs p
  kind_more (kind.fixed_size_list n fs) p = fields_more fs p
  kind_more (kind.struct fs) p = fields_more fs p
  kind_more (kind.map sorted fs) p = fields_more fs p
  kind_more (kind.union mode stated ids fs) p = fields_more fs p
  kind_more (kind.dictionary t ordered id k) p = kind_more k p
  kind_more (kind.extension name metadata k) p = kind_more k p
  kind_more k p = (omega arith, omega arith)

  pub fields_more : (fs : Fields) (p : Before) → IsNotBehind p (after_fields fs p)
  fields_more none p = (omega arith, omega arith)
  fields_more (field name nullable metadata k others) p =
      let here : Before = record { fields = suc p.fields; pairs = p.pairs + length (pairs_for k metadata) } in
      let first = kind_more k here in
      let rest = fields_more others (after_kind k here) in
      (omega (arith, first.0, rest.0), omega (arith, first.1, rest.1))

-- a field whose kind may be a dictionary has room for one
abbrev pub own : Part → ℕ
own of_field = 1
own of_dictionary = 0
own of_extension = 0

-- each dictionary stands at a field
mutual
  pub kind_count : (k : Kind) (at : Part) (levels : ℕ) (p : Before) → KindFits at levels k → dictionary_count k + p.fields ≤ (after_kind k p).fields + own at
  kind_count (kind.«list» o fs) at levels p fits = omega (arith, fields_count fs levels p fits.1)
  kind_count (kind.fixed_size_list n fs) at levels p fits = omega (arith, fields_count fs levels p fits.3)
  kind_count (kind.struct fs) at levels p fits = omega (arith, fields_count fs levels p fits)
  kind_count (kind.map sorted fs) at levels p fits = omega (arith, fields_count fs levels p fits.2)
  kind_count (kind.union mode stated ids fs) at levels p fits = omega (arith, fields_count fs levels p fits.2)
  kind_count (kind.dictionary t ordered id k) of_field levels p fits = omega (arith, kind_count k of_dictionary levels p fits)
  kind_count (kind.dictionary t ordered id k) of_dictionary levels p fits = absurd fits
  kind_count (kind.dictionary t ordered id k) of_extension levels p fits = absurd fits
  kind_count (kind.extension name metadata k) of_field levels p fits = omega (arith, kind_count k of_extension levels p fits.2)
  kind_count (kind.extension name metadata k) of_dictionary levels p fits = omega (arith, kind_count k of_extension levels p fits.2)
  kind_count (kind.extension name metadata k) of_extension levels p fits = absurd fits
  kind_count k at levels p fits = omega arith

  pub fields_count : (fs : Fields) (levels : ℕ) (p : Before) → FieldsFit levels fs → dictionary_counts fs + p.fields ≤ (after_fields fs p).fields
  fields_count none levels p fits = omega arith
  fields_count (field name nullable metadata k others) zero p fits = absurd fits
  fields_count (field name nullable metadata k others) (suc levels) p fits =
      let here : Before = record { fields = suc p.fields; pairs = p.pairs + length (pairs_for k metadata) } in
      omega (arith, kind_count k of_field levels here fits.2, fields_count others (suc levels) (after_kind k here) fits.3)

-- ── uses ──

-- uses whose ids ascend from a number to below another
abbrev UsesFrom : ℕ → List Use → ℕ → Type 0
UsesFrom low [] high = low ≤ high
UsesFrom low (u ∷ us) high = (id : ℕ) × (u.id ≡ pos id) × (low ≤ id) × UsesFrom (suc id) us high

-- uses whose ids are below a number
abbrev AreBelow : ℕ → List Use → Type 0
AreBelow n [] = Unit {0}
AreBelow n (u ∷ us) = ((id : ℕ) × (u.id ≡ pos id) × (id < n)) × AreBelow n us

uses_lower : (us : List Use) (low mid high : ℕ) → low ≤ mid → UsesFrom mid us high → UsesFrom low us high
uses_lower [] low mid high h r = omega (arith, h, r)
uses_lower (u ∷ us) low mid high h r = (r.0, r.1, omega (arith, h, r.2), r.3)

uses_both : (us vs : List Use) (low mid high : ℕ) → UsesFrom low us mid → UsesFrom mid vs high → UsesFrom low (us ++ vs) high
uses_both [] vs low mid high r s = uses_lower vs low mid high r s
uses_both (u ∷ us) vs low mid high r s = (r.0, r.1, r.2, uses_both us vs (suc r.0) mid high r.3 s)

mutual
  uses_kind : (k : Kind) (id : ℕ) → UsesFrom id (uses_of (numbered_kind k id)) (id + dictionary_count k)
  uses_kind (kind.«list» o fs) id = uses_fields fs id
  uses_kind (kind.fixed_size_list n fs) id = uses_fields fs id
  uses_kind (kind.struct fs) id = uses_fields fs id
  uses_kind (kind.map sorted fs) id = uses_fields fs id
  uses_kind (kind.union mode stated ids fs) id = uses_fields fs id
  uses_kind (kind.dictionary t ordered old k) id =
      let same : suc id + dictionary_count k ≡ id + suc (dictionary_count k) = omega arith in
      (id, refl, omega arith, subst (λ n. UsesFrom (suc id) (uses_of (numbered_kind k (suc id))) n) same (uses_kind k (suc id)))
  uses_kind (kind.extension name metadata k) id = uses_kind k id
  uses_kind k id = omega arith

  uses_fields : (fs : Fields) (id : ℕ) → UsesFrom id (uses_in (numbered fs id)) (id + dictionary_counts fs)
  uses_fields none id = omega arith
  uses_fields (field name nullable metadata k others) id =
      let mid = id + dictionary_count k in
      let same : mid + dictionary_counts others ≡ id + (dictionary_count k + dictionary_counts others) = omega arith in
      subst (λ n. UsesFrom id (uses_of (numbered_kind k id) ++ uses_in (numbered others mid)) n) same (uses_both (uses_of (numbered_kind k id)) (uses_in (numbered others mid)) id mid (mid + dictionary_counts others) (uses_kind k id) (uses_fields others mid))

below_more : (us : List Use) (m n : ℕ) → m ≤ n → AreBelow m us → AreBelow n us
below_more [] m n h r = tt
below_more (u ∷ us) m n h r = ((r.0.0, r.0.1, omega (arith, r.0.2, h)), below_more us m n h r.1)

none_under : (us : List Use) (n id : ℕ) → n ≤ id → AreBelow n us → values_under (pos id) us ≡ None
none_under [] n id h r = refl
none_under (u ∷ us) n id h r =
    let other : nat_eq r.0.0 id ≡ false = other_number r.0.0 n id r.0.2 h in
    rw (r.0.1, other, none_under us n id h r.1) refl
  where
    other_number : (a m c : ℕ) → a < m → m ≤ c → nat_eq a c ≡ false
    other_number a m c lt le = grind (arith, lt, le)

uses_right : (us earlier : List Use) (low high : ℕ) → AreBelow low earlier → UsesFrom low us high → uses_agree earlier us ≡ Ok tt
unfolding bind
uses_right [] earlier low high below r = refl
uses_right (u ∷ us) earlier low high below r =
    let fresh : values_under u.id earlier ≡ None = rw (r.1) (none_under earlier low r.0 r.2 below) in
    let more : AreBelow (suc r.0) (u ∷ earlier) = ((r.0, r.1, omega arith), below_more earlier low (suc r.0) (omega (arith, r.2)) below) in
    rw (fresh, uses_right us (u ∷ earlier) (suc r.0) high more r.3) refl

pub uses_numbered : (fs : Fields) → uses_agree [] (uses_in (numbered fs 0)) ≡ Ok tt
uses_numbered fs = uses_right (uses_in (numbered fs 0)) [] 0 (0 + dictionary_counts fs) tt (uses_fields fs 0)

-- ── without ids ──

mutual
  pub bare_kind_numbered : (k : Kind) (id : ℕ) → bare_kind (numbered_kind k id) ≡ bare_kind k
  bare_kind_numbered (kind.«list» o fs) id = ap (λ gs. kind.«list» o gs) (bare_numbered fs id)
  bare_kind_numbered (kind.fixed_size_list n fs) id = ap (λ gs. kind.fixed_size_list n gs) (bare_numbered fs id)
  bare_kind_numbered (kind.struct fs) id = ap (λ gs. kind.struct gs) (bare_numbered fs id)
  bare_kind_numbered (kind.map sorted fs) id = ap (λ gs. kind.map sorted gs) (bare_numbered fs id)
  bare_kind_numbered (kind.union mode stated ids fs) id = ap (λ gs. kind.union mode true ids gs) (bare_numbered fs id)
  bare_kind_numbered (kind.dictionary t ordered old k) id = ap (λ l. kind.dictionary t ordered (pos 0) l) (bare_kind_numbered k (suc id))
  bare_kind_numbered (kind.extension name metadata k) id = ap (λ l. kind.extension name metadata l) (bare_kind_numbered k id)
  bare_kind_numbered k id = refl

  pub bare_numbered : (fs : Fields) (id : ℕ) → bare (numbered fs id) ≡ bare fs
  bare_numbered none id = refl
  bare_numbered (field name nullable metadata k others) id = rw (bare_kind_numbered k id, bare_numbered others (id + dictionary_count k)) refl

-- ── what may be written ──

pairs_numbered : (k : Kind) (id : ℕ) (m : Metadata) → pairs_for (numbered_kind k id) m ≡ pairs_for k m
pairs_numbered (kind.extension name metadata k) id m = refl
pairs_numbered (kind.dictionary t ordered old (kind.extension name metadata k)) id m = refl
pairs_numbered (kind.dictionary t ordered old k) id m = refl
pairs_numbered k id m = refl

mutual
  after_kind_numbered : (k : Kind) (id : ℕ) (p : Before) → after_kind (numbered_kind k id) p ≡ after_kind k p
  after_kind_numbered (kind.«list» o fs) id p = after_numbered fs id p
  after_kind_numbered (kind.fixed_size_list n fs) id p = after_numbered fs id p
  after_kind_numbered (kind.struct fs) id p = after_numbered fs id p
  after_kind_numbered (kind.map sorted fs) id p = after_numbered fs id p
  after_kind_numbered (kind.union mode stated ids fs) id p = after_numbered fs id p
  after_kind_numbered (kind.dictionary t ordered old k) id p = after_kind_numbered k (suc id) p
  after_kind_numbered (kind.extension name metadata k) id p = after_kind_numbered k id p
  after_kind_numbered k id p = refl

  after_numbered : (fs : Fields) (id : ℕ) (p : Before) → after_fields (numbered fs id) p ≡ after_fields fs p
  after_numbered none id p = refl
  after_numbered (field name nullable metadata k others) id p =
      let here : Before = record { fields = suc p.fields; pairs = p.pairs + length (pairs_for k metadata) } in
      rw (pairs_numbered k id metadata) (rw (after_kind_numbered k id here) (after_numbered others (id + dictionary_count k) (after_kind k here)))

mutual
  kind_fits_numbered : (k : Kind) (at : Part) (levels id : ℕ) → KindFits at levels k → KindFits at levels (numbered_kind k id)
  kind_fits_numbered (kind.«list» o fs) at levels id fits = (width_numbered fs id ∙ fits.0, fit_numbered fs levels id fits.1)
  kind_fits_numbered (kind.fixed_size_list n fs) at levels id fits = (width_numbered fs id ∙ fits.0, fits.1, fits.2, fit_numbered fs levels id fits.3)
  kind_fits_numbered (kind.struct fs) at levels id fits = fit_numbered fs levels id fits
  kind_fits_numbered (kind.map sorted fs) at levels id fits = (width_numbered fs id ∙ fits.0, first_numbered fs id ∙ fits.1, fit_numbered fs levels id fits.2)
  kind_fits_numbered (kind.union mode stated ids fs) at levels id fits = rw (width_numbered fs id) (fits.0, fits.1, fit_numbered fs levels id fits.2)
  kind_fits_numbered (kind.dictionary t ordered old k) of_field levels id fits = kind_fits_numbered k of_dictionary levels (suc id) fits
  kind_fits_numbered (kind.dictionary t ordered old k) of_dictionary levels id fits = absurd fits
  kind_fits_numbered (kind.dictionary t ordered old k) of_extension levels id fits = absurd fits
  kind_fits_numbered (kind.extension name metadata k) of_field levels id fits = (fits.0, fits.1, kind_fits_numbered k of_extension levels id fits.2)
  kind_fits_numbered (kind.extension name metadata k) of_dictionary levels id fits = (fits.0, fits.1, kind_fits_numbered k of_extension levels id fits.2)
  kind_fits_numbered (kind.extension name metadata k) of_extension levels id fits = absurd fits
  kind_fits_numbered k at levels id fits = fits

  fit_numbered : (fs : Fields) (levels id : ℕ) → FieldsFit levels fs → FieldsFit levels (numbered fs id)
  fit_numbered none levels id fits = tt
  fit_numbered (field name nullable metadata k others) zero id fits = absurd fits
  fit_numbered (field name nullable metadata k others) (suc levels) id fits = (fits.0, fits.1, kind_fits_numbered k of_field levels id fits.2, fit_numbered others (suc levels) (id + dictionary_count k) fits.3)

uses_end : (us : List Use) (low high : ℕ) → UsesFrom low us high → low ≤ high
uses_end [] low high r = r
uses_end (u ∷ us) low high r = omega (arith, r.2, uses_end us (suc r.0) high r.3)

uses_within : (us : List Use) (low high : ℕ) → high < 2 ^ 63 → UsesFrom low us high → AreIds us
uses_within [] low high few r = tt
uses_within (u ∷ us) low high few r =
    let small : r.0 < 2 ^ 63 = omega (arith, few, uses_end us (suc r.0) high r.3) in
    (subst (λ z. SFits w64 z) (sym r.1) (record { sfits = small }), uses_within us (suc r.0) high few r.3)

-- ids that count from 0 may be written
pub numbered_may : (fs : Fields) (pairs : Metadata) → SchemaMayBeWritten fs pairs → SchemaMayBeWritten (numbered fs 0) pairs × IdsMayBeWritten (numbered fs 0)
numbered_may fs pairs w =
    let start : Before = record { fields = 0; pairs = length pairs } in
    let count : 0 + dictionary_counts fs < 2 ^ 63 = omega (arith, fields_count fs 64 start w.fit, w.few_fields) in (
      record {
        fit = fit_numbered fs 64 0 w.fit;
        ascend = w.ascend;
        few_fields = rw (after_numbered fs 0 start) w.few_fields;
        few_pairs = rw (after_numbered fs 0 start) w.few_pairs;
        distinct = distinct_numbered fs 0 ∙ w.distinct;
      },
      record { within = uses_within (uses_in (numbered fs 0)) 0 (0 + dictionary_counts fs) count (uses_fields fs 0); agree = uses_numbered fs },
    )
