-- Fields without dictionaries are as they are numbered, and where their unions state their ids they are as a table has them.
use Rattle.std.proofs.Common.{◌≡◌, ℕ, ◌+◌, true, refl, ap, arith}
use Rattle.std.proofs.lemmas.Bool.{and_parts}
use Rattle.arrow_spec.specs.Kinds.{Kind, Fields, none, field, null, boolean, integer, float, date32, date64, time32, time64, timestamp, duration, interval, decimal, decimal256, binary, utf8, binary_view, utf8_view, fixed_size_binary, «list», fixed_size_list, struct, map, union, dictionary, extension, bare, bare_kind, dictionary_count, dictionary_counts, numbered, numbered_kind}
use Rattle.ipc_write_laws.specs.Plain.{has_no_ids, have_no_ids}

-- ── numbers of dictionaries ──

mutual
  pub kind_stays : (k : Kind) (n : ℕ) → dictionary_count k ≡ 0 → numbered_kind k n ≡ k
  kind_stays («list» o fs) n h = ap (λ gs. «list» o gs) (fields_stay fs n h)
  kind_stays (fixed_size_list w fs) n h = ap (λ gs. fixed_size_list w gs) (fields_stay fs n h)
  kind_stays (struct fs) n h = ap struct (fields_stay fs n h)
  kind_stays (map sorted fs) n h = ap (λ gs. map sorted gs) (fields_stay fs n h)
  kind_stays (union mode stated ids fs) n h = ap (λ gs. union mode stated ids gs) (fields_stay fs n h)
  kind_stays (dictionary t ordered id k) n h = absurd (omega (arith, h))
  kind_stays (extension name metadata k) n h = ap (λ l. extension name metadata l) (kind_stays k n h)
  kind_stays k n h = refl

  pub fields_stay : (fs : Fields) (n : ℕ) → dictionary_counts fs ≡ 0 → numbered fs n ≡ fs
  fields_stay none n h = refl
  fields_stay (field name nullable metadata k others) n h =
      let first : numbered_kind k n ≡ k = kind_stays k n (omega (arith, h)) in
      let rest : numbered others (n + dictionary_count k) ≡ others = fields_stay others (n + dictionary_count k) (omega (arith, h)) in
      rw (first, rest) refl

-- ── none, and unions that state their ids ──

mutual
  pub count_none : (k : Kind) → has_no_ids k ≡ true → dictionary_count k ≡ 0
  count_none («list» o fs) h = counts_none fs h
  count_none (fixed_size_list w fs) h = counts_none fs h
  count_none (struct fs) h = counts_none fs h
  count_none (map sorted fs) h = counts_none fs h
  count_none (union mode stated ids fs) h = counts_none fs (and_parts stated (have_no_ids fs) h).1
  count_none (dictionary t ordered id k) h = cc
  count_none (extension name metadata k) h = count_none k h
  count_none k h = refl

  pub counts_none : (fs : Fields) → have_no_ids fs ≡ true → dictionary_counts fs ≡ 0
  counts_none none h = refl
  counts_none (field name nullable metadata k others) h =
      let parts = and_parts (has_no_ids k) (have_no_ids others) h in
      omega (arith, count_none k parts.0, counts_none others parts.1)

mutual
  pub kind_is_bare : (k : Kind) → has_no_ids k ≡ true → bare_kind k ≡ k
  kind_is_bare («list» o fs) h = ap (λ gs. «list» o gs) (fields_are_bare fs h)
  kind_is_bare (fixed_size_list w fs) h = ap (λ gs. fixed_size_list w gs) (fields_are_bare fs h)
  kind_is_bare (struct fs) h = ap struct (fields_are_bare fs h)
  kind_is_bare (map sorted fs) h = ap (λ gs. map sorted gs) (fields_are_bare fs h)
  kind_is_bare (union mode stated ids fs) h =
      let parts = and_parts stated (have_no_ids fs) h in
      rw (parts.0, fields_are_bare fs parts.1) refl
  kind_is_bare (dictionary t ordered id k) h = cc
  kind_is_bare (extension name metadata k) h = ap (λ l. extension name metadata l) (kind_is_bare k h)
  kind_is_bare k h = refl

  pub fields_are_bare : (fs : Fields) → have_no_ids fs ≡ true → bare fs ≡ fs
  fields_are_bare none h = refl
  fields_are_bare (field name nullable metadata k others) h =
      let parts = and_parts (has_no_ids k) (have_no_ids others) h in
      rw (kind_is_bare k parts.0, fields_are_bare others parts.1) refl

-- such fields stay as they are
pub plain_stay : (fs : Fields) (n : ℕ) → have_no_ids fs ≡ true → (numbered fs n ≡ fs) × (bare fs ≡ fs)
plain_stay fs n h = (fields_stay fs n (counts_none fs h), fields_are_bare fs h)
