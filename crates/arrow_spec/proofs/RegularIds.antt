-- Whether a schema is regular, and whether it can be represented, does not depend on its dictionaries' ids, as far as they fit.
use Rattle.std.proofs.Common.{◌≡◌, ℕ, suc, ◌+◌, ◌<◌, ◌≤◌, ◌^◌, List, [], ◌∷◌, ◌++◌, length, None, Some, refl, sym, ap, ◌∙◌, arith, true, false, Bool, ◌&&◌, pos, length-append}
use Rattle.std.specs.Prelude.{nat_eq, sum_by}
use Rattle.std.proofs.lemmas.Bool.{and_parts, le-leb}
use Rattle.std.proofs.lemmas.List.Sums.{sum_by-append, sum_by-cons}
use Rattle.arrow_spec.specs.Kinds as kind
use Rattle.arrow_spec.specs.Kinds.{Kind, Fields, Metadata, none, field, dictionary_count, dictionary_counts, numbered, numbered_kind, width}
use Rattle.arrow_spec.specs.Regular.{Standing, are_regular, are_representable, extension_pairs, fields_below, fields_from, has_right_ids, is_dictionary_id, is_no_dictionary, is_no_extension, is_regular_field, is_regular_kind, is_representable_kind, pairs_of_field, regular, representable}
use Rattle.arrow_spec.specs.WrittenSchemas.{HaveTexts, KindHasTexts}
use Rattle.arrow_spec.proofs.NumberedFields.{distinct_numbered, first_numbered, width_numbered}

-- ── one kind ──

no_extension_numbered : (k : Kind) (id : ℕ) → is_no_extension (numbered_kind k id) ≡ is_no_extension k
no_extension_numbered (kind.dictionary t ordered old k) id = refl
no_extension_numbered (kind.extension name metadata k) id = refl
no_extension_numbered k id = refl

no_dictionary_numbered : (k : Kind) (id : ℕ) → is_no_dictionary (numbered_kind k id) ≡ is_no_dictionary k
no_dictionary_numbered (kind.dictionary t ordered old k) id = refl
no_dictionary_numbered (kind.extension name metadata k) id = refl
no_dictionary_numbered k id = refl

extension_pairs_numbered : (k : Kind) (id : ℕ) → extension_pairs (numbered_kind k id) ≡ extension_pairs k
extension_pairs_numbered (kind.extension name None k) id = refl
extension_pairs_numbered (kind.extension name (Some metadata) k) id = refl
extension_pairs_numbered (kind.dictionary t ordered old k) id = extension_pairs_numbered k (suc id)
extension_pairs_numbered k id = refl

regular_kind_numbered : (k : Kind) (id : ℕ) → is_regular_kind (numbered_kind k id) ≡ is_regular_kind k
regular_kind_numbered (kind.«list» o fs) id = ap (λ n. nat_eq n 1) (width_numbered fs id)
regular_kind_numbered (kind.fixed_size_list n fs) id = rw (width_numbered fs id) refl
regular_kind_numbered (kind.map sorted fs) id = rw (width_numbered fs id, first_numbered fs id) refl
regular_kind_numbered (kind.dictionary t ordered old k) id = regular_kind_numbered k (suc id)
regular_kind_numbered (kind.extension name metadata k) id = rw (no_extension_numbered k id, regular_kind_numbered k id) refl
regular_kind_numbered k id = refl

-- ── lists of fields ──

regular_all : (xs ys : List Standing) → are_regular (xs ++ ys) ≡ (are_regular xs && are_regular ys)
regular_all [] ys = refl
regular_all (x ∷ xs) ys = rw (regular_all xs ys) (by_test (is_regular_field x) (are_regular xs) (are_regular ys))
  where
    by_test : (a b c : Bool) → (a && (b && c)) ≡ ((a && b) && c)
    by_test true b c = refl
    by_test false b c = refl

-- as many fields and pairs, and as regular
record IsAlike (xs ys : List Standing) : Type 0 where
  count : length xs ≡ length ys
  pairs : sum_by (λ f. pairs_of_field f) xs ≡ sum_by (λ f. pairs_of_field f) ys
  regular_too : are_regular xs ≡ are_regular ys

alike_both : (xs ys vs ws : List Standing) → IsAlike xs ys → IsAlike vs ws → IsAlike (xs ++ vs) (ys ++ ws)
alike_both xs ys vs ws h g = record {
  count = omega (arith, h.count, g.count, length-append xs vs, length-append ys ws);
  pairs = omega (arith, h.pairs, g.pairs, sum_by-append (λ f. pairs_of_field f) xs vs, sum_by-append (λ f. pairs_of_field f) ys ws);
  regular_too = regular_all xs vs ∙ ap (λ b. b && are_regular vs) h.regular_too ∙ ap (λ b. are_regular ys && b) g.regular_too ∙ sym (regular_all ys ws);
}

alike_one : (level : ℕ) (m : Metadata) (k : Kind) (id : ℕ) (xs ys : List Standing) → IsAlike xs ys → IsAlike (record { level = level; metadata = m; kind = numbered_kind k id } ∷ xs) (record { level = level; metadata = m; kind = k } ∷ ys)
alike_one level m k id xs ys h =
    let a : Standing = record { level = level; metadata = m; kind = numbered_kind k id } in
    let b : Standing = record { level = level; metadata = m; kind = k } in
    record {
      count = ap suc h.count;
      pairs = omega (arith, h.pairs, sum_by-cons (λ f. pairs_of_field f) a xs, sum_by-cons (λ f. pairs_of_field f) b ys, extension_pairs_numbered k id);
      regular_too = rw (regular_kind_numbered k id, h.regular_too) refl;
    }

mutual
  kind_alike : (k : Kind) (id level : ℕ) → IsAlike (fields_below level (numbered_kind k id)) (fields_below level k)
  kind_alike (kind.«list» o fs) id level = fields_alike fs id (suc level)
  kind_alike (kind.fixed_size_list n fs) id level = fields_alike fs id (suc level)
  kind_alike (kind.struct fs) id level = fields_alike fs id (suc level)
  kind_alike (kind.map sorted fs) id level = fields_alike fs id (suc level)
  kind_alike (kind.union mode stated ids fs) id level = fields_alike fs id (suc level)
  kind_alike (kind.dictionary t ordered old k) id level = kind_alike k (suc id) level
  kind_alike (kind.extension name metadata k) id level = kind_alike k id level
  kind_alike k id level = record { count = refl; pairs = refl; regular_too = refl }

  fields_alike : (fs : Fields) (id level : ℕ) → IsAlike (fields_from level (numbered fs id)) (fields_from level fs)
  fields_alike none id level = record { count = refl; pairs = refl; regular_too = refl }
  fields_alike (field name nullable metadata k others) id level =
      let next = id + dictionary_count k in
      let rest = alike_both (fields_below level (numbered_kind k id)) (fields_below level k) (fields_from level (numbered others next)) (fields_from level others) (kind_alike k id level) (fields_alike others next level) in
      alike_one level metadata k id (fields_below level (numbered_kind k id) ++ fields_from level (numbered others next)) (fields_below level k ++ fields_from level others) rest

pub regular_numbered : (fs : Fields) (pairs : Metadata) (id : ℕ) → regular (numbered fs id) pairs ≡ regular fs pairs
regular_numbered fs pairs id =
    let same = fields_alike fs id 1 in
    rw (same.count, same.pairs, same.regular_too, distinct_numbered fs id) refl

-- ── texts ──

mutual
  kind_texts_numbered : (k : Kind) (id : ℕ) → KindHasTexts k → KindHasTexts (numbered_kind k id)
  kind_texts_numbered (kind.«list» o fs) id h = texts_numbered fs id h
  kind_texts_numbered (kind.fixed_size_list n fs) id h = texts_numbered fs id h
  kind_texts_numbered (kind.struct fs) id h = texts_numbered fs id h
  kind_texts_numbered (kind.map sorted fs) id h = texts_numbered fs id h
  kind_texts_numbered (kind.union mode stated ids fs) id h = texts_numbered fs id h
  kind_texts_numbered (kind.dictionary t ordered old k) id h = kind_texts_numbered k (suc id) h
  kind_texts_numbered (kind.extension name metadata k) id h = (h.0, h.1, kind_texts_numbered k id h.2)
  kind_texts_numbered k id h = h

  pub texts_numbered : (fs : Fields) (id : ℕ) → HaveTexts fs → HaveTexts (numbered fs id)
  texts_numbered none id h = tt
  texts_numbered (field name nullable metadata k others) id h = (h.0, h.1, kind_texts_numbered k id h.2, texts_numbered others (id + dictionary_count k) h.3)

-- ── what can be represented ──

representable_all : (xs ys : List Standing) → are_representable (xs ++ ys) ≡ (are_representable xs && are_representable ys)
representable_all [] ys = refl
representable_all (x ∷ xs) ys = rw (representable_all xs ys) (by_test (is_representable_kind x.kind) (are_representable xs) (are_representable ys))
  where
    by_test : (a b c : Bool) → (a && (b && c)) ≡ ((a && b) && c)
    by_test true b c = refl
    by_test false b c = refl

small_id : (id : ℕ) → id < 2 ^ 63 → is_dictionary_id (pos id) ≡ true
small_id id h = le-leb id 9223372036854775807 (omega (arith, h))

kind_represented : (k : Kind) (id : ℕ) → id + dictionary_count k ≤ 2 ^ 63 → is_representable_kind k ≡ true → is_representable_kind (numbered_kind k id) ≡ true
kind_represented (kind.union mode stated ids fs) id few h = ap (λ n. has_right_ids stated ids n) (width_numbered fs id) ∙ h
kind_represented (kind.dictionary t ordered old k) id few h =
    let parts = and_parts (is_dictionary_id old && is_no_dictionary k) (is_representable_kind k) h in
    let first = and_parts (is_dictionary_id old) (is_no_dictionary k) parts.0 in
    rw (small_id id (omega (arith, few)), no_dictionary_numbered k (suc id), first.1) (kind_represented k (suc id) (omega (arith, few)) parts.1)
kind_represented (kind.extension name metadata k) id few h =
    let parts = and_parts (is_no_dictionary k) (is_representable_kind k) h in
    rw (no_dictionary_numbered k id, parts.0) (kind_represented k id few parts.1)
kind_represented k id few h = h

mutual
  below_represented : (k : Kind) (id level : ℕ) → id + dictionary_count k ≤ 2 ^ 63 → are_representable (fields_below level k) ≡ true → are_representable (fields_below level (numbered_kind k id)) ≡ true
  below_represented (kind.«list» o fs) id level few h = fields_represented fs id (suc level) few h
  below_represented (kind.fixed_size_list n fs) id level few h = fields_represented fs id (suc level) few h
  below_represented (kind.struct fs) id level few h = fields_represented fs id (suc level) few h
  below_represented (kind.map sorted fs) id level few h = fields_represented fs id (suc level) few h
  below_represented (kind.union mode stated ids fs) id level few h = fields_represented fs id (suc level) few h
  below_represented (kind.dictionary t ordered old k) id level few h = below_represented k (suc id) level (omega (arith, few)) h
  below_represented (kind.extension name metadata k) id level few h = below_represented k id level few h
  below_represented k id level few h = refl

  fields_represented : (fs : Fields) (id level : ℕ) → id + dictionary_counts fs ≤ 2 ^ 63 → are_representable (fields_from level fs) ≡ true → are_representable (fields_from level (numbered fs id)) ≡ true
  fields_represented none id level few h = refl
  fields_represented (field name nullable metadata k others) id level few h =
      let next = id + dictionary_count k in
      let parts = and_parts (is_representable_kind k) (are_representable (fields_below level k ++ fields_from level others)) h in
      let both = and_parts (are_representable (fields_below level k)) (are_representable (fields_from level others)) (sym (representable_all (fields_below level k) (fields_from level others)) ∙ parts.1) in
      rw (kind_represented k id (omega (arith, few)) parts.0, representable_all (fields_below level (numbered_kind k id)) (fields_from level (numbered others next)), below_represented k id level (omega (arith, few)) both.0) (fields_represented others next level (omega (arith, few)) both.1)

-- numbered dictionaries can be represented where the fields can
pub representable_numbered : (fs : Fields) → dictionary_counts fs ≤ 2 ^ 63 → representable fs ≡ true → representable (numbered fs 0) ≡ true
representable_numbered fs few h = fields_represented fs 0 1 (omega (arith, few)) h
