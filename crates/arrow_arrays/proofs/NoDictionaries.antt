-- Arrays of kinds in which no dictionary stands have none.
use Rattle.std.proofs.Common.{◌≡◌, ◌&&◌, List, true, None, refl, sym, ap, ◌∙◌, arith}
use Rattle.std.specs.Prelude.{not}
use Rattle.std.proofs.lemmas.Bool.{and_parts, and_from}
use Rattle.arrow_spec.specs.declared.types.IntegerType.{IntegerType}
use Rattle.arrow_spec.specs.Kinds as kind
use Rattle.arrow_spec.specs.Kinds.{Kind, Fields, dictionary_count, dictionary_counts}
use Rattle.arrow_types.specs.KindCode.{kind_eq, kind_eq_is}
use Rattle.arrow_arrays.specs.Heads.{Head, indexed, head_kind, child_fields, suits, are_of, are_under, is_dictionary}
use Rattle.arrow_arrays.specs.NoDictionaries.{is_indexed, has_no_dictionary, have_no_dictionary}
use Rattle.arrow_arrays.specs.Parts.{Parts, Forest, leaf, nested, none, also, kind_in, kinds_each, fault_in, fault_each}
use Rattle.arrow_arrays.proofs.Sliced.{neither, top_sound}

-- other tops have one child a field
under_fields : (h : Head) (ks : List Kind) → not (is_indexed h) ≡ true → are_under h ks ≡ are_of (child_fields (head_kind h)) ks
under_fields (indexed d) ks e = cc
under_fields h ks e = refl

one_at_least : (index : IntegerType) (k : Kind) → is_dictionary index k ≡ true → dictionary_count k ≡ 0 → ⊥
one_at_least index (kind.dictionary keys ordered id k) e c = cc
one_at_least index (kind.extension name metadata k) e c = one_at_least index k e c
one_at_least index k e c = cc

other_top : (h : Head) → suits h ≡ true → dictionary_count (head_kind h) ≡ 0 → not (is_indexed h) ≡ true
other_top (indexed d) s c = absurd (one_at_least d.index d.kind s c)
other_top h s c = refl

-- nor does one stand in the fields of such a kind
fields_without : (k : Kind) → dictionary_count k ≡ 0 → dictionary_counts (child_fields k) ≡ 0
fields_without (kind.extension name metadata k) c = fields_without k c
fields_without (kind.dictionary t ordered id k) c = refl
fields_without (kind.«list» o fs) c = c
fields_without (kind.fixed_size_list size fs) c = c
fields_without (kind.struct fs) c = c
fields_without (kind.map sorted fs) c = c
fields_without (kind.union mode stated ids fs) c = c
fields_without k c = refl

mutual
  pub none_in : (p : Parts) → fault_in p ≡ None → dictionary_count (kind_in p) ≡ 0 → has_no_dictionary p ≡ true
  none_in (leaf l) e c = refl
  none_in (nested h cs) e c =
      let t = top_sound h cs e in
      let s = and_parts (suits h) (are_under h (kinds_each cs)) t.0.suits in
      let top = other_top h s.0 c in
      and_from (not (is_indexed h)) (have_no_dictionary cs) top (none_in_each (child_fields (head_kind h)) cs t.1 (sym (under_fields h (kinds_each cs) top) ∙ s.1) (fields_without (head_kind h) c))

  none_in_each : (fs : Fields) (cs : Forest) → fault_each cs ≡ None → are_of fs (kinds_each cs) ≡ true → dictionary_counts fs ≡ 0 → have_no_dictionary cs ≡ true
  none_in_each fs none e u c = refl
  none_in_each kind.none (also p cs) e u c = cc
  none_in_each (kind.field name nullable metadata k others) (also p cs) e u c =
      let f = neither (fault_in p) (fault_each cs) e in
      let a = and_parts (kind_eq k (kind_in p)) (are_of others (kinds_each cs)) u in
      let same : k ≡ kind_in p = (kind_eq_is k (kind_in p)).0 a.0 in
      let here : dictionary_count k ≡ 0 = omega (arith, c) in
      let behind : dictionary_counts others ≡ 0 = omega (arith, c) in
      and_from (has_no_dictionary p) (have_no_dictionary cs) (none_in p f.0 (ap dictionary_count (sym same) ∙ here)) (none_in_each others cs f.1 a.1 behind)
