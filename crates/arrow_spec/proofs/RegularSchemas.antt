-- A regular schema that can be represented may be written.
use Rattle.std.specs.Int.{w64}
use Rattle.std.proofs.Common.{subst, Ok, ◌≡◌, ℕ, zero, suc, ◌+◌, ◌^◌, ◌<◌, ◌≤◌, List, [], ◌∷◌, ◌++◌, length, Some, None, refl, sym, ◌∙◌, arith, true, false, Bool, ℤ, pos, negsuc, SFits, length-append}
use Rattle.std.specs.Prelude.{nat_lt, nat_le, ◌||◌, sum_by}
use Rattle.std.proofs.lemmas.Bool.{and_parts, eqb-true, leb-true, ltb-true}
use Rattle.std.proofs.lemmas.List.Sums.{sum_by-append, sum_by-cons}
use Rattle.arrow_spec.specs.declared.types.TimeUnit.{TimeUnit}
use Rattle.arrow_spec.specs.declared.types.TimeUnit.TheVariants.{Second, Millisecond, Microsecond, Nanosecond}
use Rattle.arrow_spec.specs.Kinds as kind
use Rattle.arrow_spec.specs.Kinds.{Kind, Fields, Metadata, Use, none, field, same, are_same_ids, unit_number, uses_in, uses_of, width, dictionary_counts, numbered}
use Rattle.arrow_spec.specs.Schema.{Before, own_pairs, counted_ids}
use Rattle.arrow_spec.specs.Regular.{regular, representable, Standing, fields_below, fields_from, pairs_of_field, is_no_extension, is_regular_kind, is_regular_field, are_regular, is_size, is_dictionary_id, is_no_dictionary, is_representable_kind, are_representable}
use Rattle.arrow_spec.proofs.ReadPairs.{ascend_sorted, length_own, own_may}
use Rattle.arrow_spec.proofs.SchemaPairs.{ascend_texts}
use Rattle.arrow_spec.proofs.SameIds.{ids_true}
use Rattle.arrow_spec.proofs.OwnPairs.{count_own, distinct_own, first_own, message_own, own_fields_same, own_ids, uses_agree_own, uses_own, width_own}
use Rattle.arrow_spec.proofs.NestedSchemas.{schema_bytes_back}
use Rattle.arrow_spec.specs.Layout.{layout, size}
use Rattle.arrow_spec.specs.Sent.{schema_message}
use Rattle.arrow_spec.specs.Streams.{schema_message_of}
use Rattle.arrow_spec.specs.Laws.{RegularMayBeWritten, RegularReadsBack, StreamSchemaReadsBack}
use Rattle.arrow_spec.specs.Flat.{little}
use Rattle.arrow_spec.proofs.NumberedFields.{fields_count, uses_numbered}
use Rattle.arrow_spec.proofs.RegularIds.{regular_numbered, representable_numbered, texts_numbered}
use Rattle.arrow_spec.specs.WrittenSchemas.{AreIds, AreStated, Ascend, FieldsFit, HaveTexts, IdsMayBeWritten, KindFits, KindHasTexts, Part, SchemaMayBeWritten, of_field, of_dictionary, of_extension, after_fields, after_kind, own_fields, own_kind, pairs_for}

-- ── parts of lists ──

regular_both : (xs ys : List Standing) → are_regular (xs ++ ys) ≡ true → (are_regular xs ≡ true) × (are_regular ys ≡ true)
regular_both [] ys h = (refl, h)
regular_both (x ∷ xs) ys h =
    let parts = and_parts (is_regular_field x) (are_regular (xs ++ ys)) h in
    let rest = regular_both xs ys parts.1 in
    (rw (parts.0, rest.0) refl, rest.1)

representable_both : (xs ys : List Standing) → are_representable (xs ++ ys) ≡ true → (are_representable xs ≡ true) × (are_representable ys ≡ true)
representable_both [] ys h = (refl, h)
representable_both (x ∷ xs) ys h =
    let parts = and_parts (is_representable_kind x.kind) (are_representable (xs ++ ys)) h in
    let rest = representable_both xs ys parts.1 in
    (rw (parts.0, rest.0) refl, rest.1)

-- ── one kind ──

low_unit : (u : TimeUnit) → nat_le (unit_number u) 1 ≡ true → nat_lt (unit_number u) 2 ≡ true
low_unit Second h = refl
low_unit Millisecond h = refl
low_unit Microsecond h = cc
low_unit Nanosecond h = cc

small_size : (n : ℕ) → is_size n ≡ true → n < 2 ^ 31
small_size n h = omega (arith, leb-true n 2147483647 h)

id_fits : (x : ℤ) → is_dictionary_id x ≡ true → SFits w64 x
id_fits (pos n) h = record { sfits = omega (arith, leb-true n 9223372036854775807 h) }
id_fits (negsuc n) h = record { sfits = omega (arith, leb-true n 9223372036854775807 h) }

stated_right : (stated : Bool) (ids : List ℤ) (n : ℕ) → (stated || are_same_ids ids (counted_ids 0 n)) ≡ true → AreStated stated ids n
stated_right true ids n h = tt
stated_right false ids n h = ids_true ids (counted_ids 0 n) h

-- what may stand in a part: anything at a field, no dictionary in a dictionary, and neither a dictionary nor an extension in an extension
abbrev MayStand : Part → Kind → Type 0
MayStand of_field k = Unit {0}
MayStand of_dictionary k = is_no_dictionary k ≡ true
MayStand of_extension k = (is_no_dictionary k ≡ true) × (is_no_extension k ≡ true)

no_dictionary : {P : Type 0} (b : Bool) → b ≡ true → b ≡ false → P
no_dictionary b p q = cc

mutual
  kind_may : (k : Kind) (at : Part) (level n : ℕ) → level + n ≡ 64 → MayStand at k → is_regular_kind k ≡ true → is_representable_kind k ≡ true → KindHasTexts k → are_regular (fields_below level k) ≡ true → are_representable (fields_below level k) ≡ true → KindFits at n (own_kind k)
  kind_may (kind.time32 u) at level n here stands reg rep texts regs reps = low_unit u reg
  kind_may (kind.time64 u) at level n here stands reg rep texts regs reps = reg
  kind_may (kind.timestamp u tz) at level n here stands reg rep texts regs reps = texts
  kind_may (kind.decimal p s) at level n here stands reg rep texts regs reps = let both = and_parts _ _ rep in (small_size p both.0, small_size s both.1)
  kind_may (kind.decimal256 p s) at level n here stands reg rep texts regs reps = let both = and_parts _ _ rep in (small_size p both.0, small_size s both.1)
  kind_may (kind.fixed_size_binary m) at level n here stands reg rep texts regs reps = (ltb-true 0 m reg, small_size m rep)
  kind_may (kind.«list» o fs) at level n here stands reg rep texts regs reps = (width_own fs ∙ eqb-true (width fs) 1 reg, fields_may fs (suc level) n (omega (arith, here)) regs reps texts)
  kind_may (kind.fixed_size_list m fs) at level n here stands reg rep texts regs reps = let both = and_parts _ _ reg in (width_own fs ∙ eqb-true (width fs) 1 both.1, ltb-true 0 m both.0, small_size m rep, fields_may fs (suc level) n (omega (arith, here)) regs reps texts)
  kind_may (kind.struct fs) at level n here stands reg rep texts regs reps = fields_may fs (suc level) n (omega (arith, here)) regs reps texts
  kind_may (kind.map sorted fs) at level n here stands reg rep texts regs reps = let both = and_parts _ _ reg in (width_own fs ∙ eqb-true (width fs) 1 both.0, first_own fs ∙ both.1, fields_may fs (suc level) n (omega (arith, here)) regs reps texts)
  kind_may (kind.union mode stated ids fs) at level n here stands reg rep texts regs reps = let both = and_parts _ _ rep in rw (width_own fs) (both.0, stated_right stated ids (width fs) both.1, fields_may fs (suc level) n (omega (arith, here)) regs reps texts)
  kind_may (kind.dictionary t ordered id k) of_field level n here stands reg rep texts regs reps =
      let parts = and_parts _ _ rep in
      let first = and_parts _ _ parts.0 in
      kind_may k of_dictionary level n here first.1 reg parts.1 texts regs reps
  kind_may (kind.dictionary t ordered id k) of_dictionary level n here stands reg rep texts regs reps = no_dictionary false stands refl
  kind_may (kind.dictionary t ordered id k) of_extension level n here stands reg rep texts regs reps = no_dictionary false stands.0 refl
  kind_may (kind.extension name metadata k) of_field level n here stands reg rep texts regs reps =
      let no = and_parts _ _ reg in
      let parts = and_parts _ _ rep in
      (texts.0, texts.1, kind_may k of_extension level n here (parts.0, no.0) no.1 parts.1 texts.2 regs reps)
  kind_may (kind.extension name metadata k) of_dictionary level n here stands reg rep texts regs reps =
      let no = and_parts _ _ reg in
      let parts = and_parts _ _ rep in
      (texts.0, texts.1, kind_may k of_extension level n here (parts.0, no.0) no.1 parts.1 texts.2 regs reps)
  kind_may (kind.extension name metadata k) of_extension level n here stands reg rep texts regs reps = no_dictionary false stands.1 refl
  kind_may k at level n here stands reg rep texts regs reps = tt

  fields_may : (fs : Fields) (level n : ℕ) → level + n ≡ 65 → are_regular (fields_from level fs) ≡ true → are_representable (fields_from level fs) ≡ true → HaveTexts fs → FieldsFit n (own_fields fs)
  fields_may none level n here regs reps texts = tt
  fields_may (field name nullable metadata k others) level zero here regs reps texts =
      let parts = and_parts (is_regular_field (record { level = level; metadata = metadata; kind = k })) (are_regular (fields_below level k ++ fields_from level others)) regs in
      let mine = and_parts (nat_le level 64) (is_regular_kind k) parts.0 in
      absurd (omega (arith, here, leb-true level 64 mine.0))
  fields_may (field name nullable metadata k others) level (suc n) here regs reps texts =
      let parts = and_parts (is_regular_field (record { level = level; metadata = metadata; kind = k })) (are_regular (fields_below level k ++ fields_from level others)) regs in
      let mine = and_parts (nat_le level 64) (is_regular_kind k) parts.0 in
      let rest = regular_both (fields_below level k) (fields_from level others) parts.1 in
      let parts' = and_parts (is_representable_kind k) (are_representable (fields_below level k ++ fields_from level others)) reps in
      let rest' = representable_both (fields_below level k) (fields_from level others) parts'.1 in
      (texts.0, own_may metadata (ascend_texts metadata [] texts.1) (ascend_sorted metadata texts.1), kind_may k of_field level n (omega (arith, here)) tt mine.1 parts'.0 texts.2 rest.0 rest'.0, fields_may others level (suc n) here rest.1 rest'.1 texts.3)

-- ── counts ──

pairs_most : (level : ℕ) (k : Kind) (m : Metadata) → length (pairs_for (own_kind k) (own_pairs m)) ≤ pairs_of_field (record { level = level; metadata = m; kind = k })
pairs_most level (kind.extension name None k) m = omega (arith, length_own (own_pairs m), length_own m)
pairs_most level (kind.extension name (Some x) k) m = omega (arith, length_own (own_pairs m), length_own m)
pairs_most level (kind.dictionary t ordered id (kind.extension name None k)) m = omega (arith, length_own (own_pairs m), length_own m)
pairs_most level (kind.dictionary t ordered id (kind.extension name (Some x) k)) m = omega (arith, length_own (own_pairs m), length_own m)
pairs_most level (kind.dictionary t ordered id k) m = omega (arith, length_own (own_pairs m), length_own m)
pairs_most level k m = omega (arith, length_own (own_pairs m), length_own m)

-- no more fields and pairs than are listed
pub record Counted (p q : Before) (xs : List Standing) : Type 0 where
  pub fields : q.fields ≤ p.fields + length xs
  pub pairs : q.pairs ≤ p.pairs + sum_by (λ f. pairs_of_field f) xs

none_counted : (p : Before) → Counted p p []
none_counted p = record { fields = omega arith; pairs = omega arith }

counted_both : (p q r : Before) (xs ys : List Standing) → Counted p q xs → Counted q r ys → Counted p r (xs ++ ys)
counted_both p q r xs ys h g = record { fields = omega (arith, h.fields, g.fields, length-append xs ys); pairs = omega (arith, h.pairs, g.pairs, sum_by-append (λ f. pairs_of_field f) xs ys) }

mutual
  kind_counted : (k : Kind) (level : ℕ) (p : Before) → Counted p (after_kind (own_kind k) p) (fields_below level k)
  kind_counted (kind.«list» o fs) level p = fields_counted fs (suc level) p
  kind_counted (kind.fixed_size_list n fs) level p = fields_counted fs (suc level) p
  kind_counted (kind.struct fs) level p = fields_counted fs (suc level) p
  kind_counted (kind.map sorted fs) level p = fields_counted fs (suc level) p
  kind_counted (kind.union mode stated ids fs) level p = fields_counted fs (suc level) p
  kind_counted (kind.dictionary t ordered id k) level p = kind_counted k level p
  kind_counted (kind.extension name metadata k) level p = kind_counted k level p
  kind_counted k level p = none_counted p

  pub fields_counted : (fs : Fields) (level : ℕ) (p : Before) → Counted p (after_fields (own_fields fs) p) (fields_from level fs)
  fields_counted none level p = none_counted p
  fields_counted (field name nullable metadata k others) level p =
      let here : Before = record { fields = suc p.fields; pairs = p.pairs + length (pairs_for (own_kind k) (own_pairs metadata)) } in
      let mine : Standing = record { level = level; metadata = metadata; kind = k } in
      let next = after_kind (own_kind k) here in
      let below = kind_counted k level here in
      let rest = fields_counted others level next in
      let both = counted_both here next (after_fields (own_fields others) next) (fields_below level k) (fields_from level others) below rest in
      record {
        fields = omega (arith, both.fields);
        pairs = omega (arith, both.pairs, pairs_most level k metadata, sum_by-cons (λ f. pairs_of_field f) mine (fields_below level k ++ fields_from level others));
      }

-- ── ids ──

pub ids_all : (us vs : List Use) → AreIds us → AreIds vs → AreIds (us ++ vs)
ids_all [] vs h g = g
ids_all (u ∷ us) vs h g = (h.0, ids_all us vs h.1 g)

mutual
  kind_ids : (k : Kind) (level : ℕ) → is_representable_kind k ≡ true → are_representable (fields_below level k) ≡ true → AreIds (uses_of k)
  kind_ids (kind.«list» o fs) level rep reps = fields_ids fs (suc level) reps
  kind_ids (kind.fixed_size_list n fs) level rep reps = fields_ids fs (suc level) reps
  kind_ids (kind.struct fs) level rep reps = fields_ids fs (suc level) reps
  kind_ids (kind.map sorted fs) level rep reps = fields_ids fs (suc level) reps
  kind_ids (kind.union mode stated ids fs) level rep reps = fields_ids fs (suc level) reps
  kind_ids (kind.dictionary t ordered id k) level rep reps =
      let parts = and_parts _ _ rep in
      let first = and_parts _ _ parts.0 in
      (id_fits id first.0, kind_ids k level parts.1 reps)
  kind_ids (kind.extension name metadata k) level rep reps = kind_ids k level (and_parts _ _ rep).1 reps
  kind_ids k level rep reps = tt

  pub fields_ids : (fs : Fields) (level : ℕ) → are_representable (fields_from level fs) ≡ true → AreIds (uses_in fs)
  fields_ids none level reps = tt
  fields_ids (field name nullable metadata k others) level reps =
      let parts = and_parts _ _ reps in
      let rest = representable_both (fields_below level k) (fields_from level others) parts.1 in
      ids_all (uses_of k) (uses_in others) (kind_ids k level parts.0 rest.0) (fields_ids others level rest.1)

-- ── schemas ──

-- a regular schema with its own pairs alone
own_regular_may : (fs : Fields) (pairs : Metadata) → regular fs pairs ≡ true → representable fs ≡ true → HaveTexts fs → Ascend [] pairs → SchemaMayBeWritten (own_fields fs) pairs × AreIds (uses_in fs)
own_regular_may fs pairs reg rep texts ascend =
    let names = and_parts _ _ reg in
    let fields = and_parts _ _ names.0 in
    let counts = and_parts _ _ fields.0 in
    let start : Before = record { fields = 0; pairs = length pairs } in
    let few : length (fields_from 1 fs) ≤ 65536 = leb-true (length (fields_from 1 fs)) 65536 counts.0 in
    let few_pairs : length pairs + sum_by (λ f. pairs_of_field f) (fields_from 1 fs) ≤ 1048576 = leb-true (length pairs + sum_by (λ f. pairs_of_field f) (fields_from 1 fs)) 1048576 counts.1 in
    let counted = fields_counted fs 1 start in (
      record {
        fit = fields_may fs 1 64 (omega arith) fields.1 rep texts;
        ascend = ascend;
        few_fields = omega (arith, counted.fields, few);
        few_pairs = omega (arith, counted.pairs, few_pairs);
        distinct = distinct_own fs ∙ names.1;
      },
      fields_ids fs 1 rep,
    )

pub regular_may : RegularMayBeWritten
regular_may fs pairs reg rep texts none' ascend =
    let may = own_regular_may fs pairs reg rep texts ascend in
    (subst (λ gs. SchemaMayBeWritten gs pairs) (own_fields_same fs none') may.0, may.1)

pub regular_back : RegularReadsBack
regular_back order fs pairs custom rest reg rep texts ascend agree short =
    let may = own_regular_may fs pairs reg rep texts ascend in
    let ids : IdsMayBeWritten (own_fields fs) = record { within = subst AreIds (sym (uses_own fs)) (own_ids (uses_in fs) may.1); agree = uses_agree_own fs agree } in
    let same = message_own order fs pairs custom 64 may.0.fit in
    let small : size (schema_message order (own_fields fs) pairs custom).node < 2 ^ 31 = rw same short in
    let read = schema_bytes_back order (own_fields fs) pairs custom rest may.0 ids small in
    (read.0, subst (λ x. schema_message_of (layout x.node ++ rest) ≡ Ok (read.0, record { order = order; fields = own_fields fs; metadata = pairs })) same read.1)

-- the schema message of a stream
pub stream_schema_back : StreamSchemaReadsBack
stream_schema_back fs pairs custom rest reg rep texts ascend short =
    let may = own_regular_may fs pairs reg rep texts ascend in
    let start : Before = record { fields = 0; pairs = length pairs } in
    let few : dictionary_counts fs ≤ 2 ^ 63 = omega (arith, fields_count (own_fields fs) 64 start may.0.fit, may.0.few_fields, count_own fs) in
    regular_back little (numbered fs 0) pairs custom rest (regular_numbered fs pairs 0 ∙ reg) (representable_numbered fs few rep) (texts_numbered fs 0 texts) ascend (uses_numbered fs) short
