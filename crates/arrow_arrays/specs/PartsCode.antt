-- A tree of parts as a value that is stored, which tells one tree from another.
use Rattle.std.specs.Prelude.{◌≡◌, ◌⊎◌, ℕ, List, Bool, true, false, Option, ℤ, refl}
use Rattle.std.proofs.Common.{ap, ◌∙◌, inl, inr}
use Rattle.std.specs.Coded.{Coded, code_by, coded×, coded⊎, coded_ℕ, coded_ℤ, coded_list, coded_option, coded_bool}
use base.Stored.{Gv, gnil, gnum, gcons}
use Rattle.arrow_spec.specs.declared.types.IntegerType.{IntegerType}
use Rattle.arrow_spec.specs.Kinds.{Kind, Offsets, small, large, integer_number}
use Rattle.arrow_types.specs.KindCode.{head, tail, kind_code, integer_type_from, integer_type_from-integer_number}
use Rattle.arrow_arrays.specs.LeafCode.{leaf_parts_code}
use Rattle.arrow_arrays.specs.Heads.{Head, Listed, Counted, Tagged, Indexed, listed, mapped, sized, structured, tagged, indexed}
use Rattle.arrow_arrays.specs.Parts.{Parts, Forest, leaf, nested, none, also}

abbrev pub width_to : Offsets → Bool
width_to small = false
width_to large = true

abbrev pub width_from : Bool → Offsets
width_from false = small
width_from true = large

pub width_back : (o : Offsets) → width_from (width_to o) ≡ o
width_back small = refl
width_back large = refl

abbrev pub listed_code : Coded Listed
listed_code =
    code_by (Kind × (Offsets × (List ℤ × Option (List Bool))))
    (coded× kind_code (coded× (code_by Bool coded_bool width_to width_from width_back) (coded× (coded_list coded_ℤ) (coded_option (coded_list coded_bool)))))
    (λ l. (l.kind, (l.width, (l.offsets, l.validity)))) (λ p. record { kind = p.0; width = p.1.0; offsets = p.1.1.0; validity = p.1.1.1 }) (λ _. refl)

abbrev pub counted_code : Coded Counted
counted_code =
    code_by (Kind × (ℕ × Option (List Bool))) (coded× kind_code (coded× coded_ℕ (coded_option (coded_list coded_bool))))
    (λ c. (c.kind, (c.rows, c.validity))) (λ p. record { kind = p.0; rows = p.1.0; validity = p.1.1 }) (λ _. refl)

abbrev pub tagged_code : Coded Tagged
tagged_code =
    code_by (Kind × (List ℤ × Option (List ℤ))) (coded× kind_code (coded× (coded_list coded_ℤ) (coded_option (coded_list coded_ℤ))))
    (λ t. (t.kind, (t.types, t.offsets))) (λ p. record { kind = p.0; types = p.1.0; offsets = p.1.1 }) (λ _. refl)

abbrev pub indexed_code : Coded Indexed
indexed_code =
    code_by (Kind × (IntegerType × (List ℤ × Option (List Bool))))
    (coded× kind_code (coded× (code_by ℕ coded_ℕ integer_number integer_type_from integer_type_from-integer_number) (coded× (coded_list coded_ℤ) (coded_option (coded_list coded_bool)))))
    (λ d. (d.kind, (d.index, (d.keys, d.validity)))) (λ p. record { kind = p.0; index = p.1.0; keys = p.1.1.0; validity = p.1.1.1 }) (λ _. refl)

-- one of the tops' records
abbrev pub StoredHead : Type 0
StoredHead = (Listed ⊎ Listed) ⊎ ((Counted ⊎ Counted) ⊎ (Tagged ⊎ Indexed))

abbrev pub head_to : Head → StoredHead
head_to (listed l) = inl (inl l)
head_to (mapped l) = inl (inr l)
head_to (sized c) = inr (inl (inl c))
head_to (structured c) = inr (inl (inr c))
head_to (tagged t) = inr (inr (inl t))
head_to (indexed d) = inr (inr (inr d))

abbrev pub head_from : StoredHead → Head
head_from (inl (inl l)) = listed l
head_from (inl (inr l)) = mapped l
head_from (inr (inl (inl c))) = sized c
head_from (inr (inl (inr c))) = structured c
head_from (inr (inr (inl t))) = tagged t
head_from (inr (inr (inr d))) = indexed d

pub head_back : (h : Head) → head_from (head_to h) ≡ h
head_back (listed l) = refl
head_back h = refl

abbrev pub head_code : Coded Head
head_code =
    code_by StoredHead (coded⊎ (coded⊎ listed_code listed_code) (coded⊎ (coded⊎ counted_code counted_code) (coded⊎ tagged_code indexed_code))) head_to head_from head_back

abbrev mutual
  pub parts_to : Parts → Gv
  parts_to (leaf l) = gcons (gnum 0) (leaf_parts_code.code l)
  parts_to (nested h cs) = gcons (gnum 1) (gcons (head_code.code h) (forest_to cs))

  pub forest_to : Forest → Gv
  forest_to none = gnil
  forest_to (also p cs) = gcons (parts_to p) (forest_to cs)

mutual
  pub parts_inj : (p q : Parts) → parts_to p ≡ parts_to q → p ≡ q
  parts_inj (leaf l) (leaf m) e = ap leaf (leaf_parts_code.inj l m (ap tail e))
  parts_inj (leaf l) (nested h cs) e = cc
  parts_inj (nested h cs) (leaf l) e = cc
  parts_inj (nested h cs) (nested g ds) e =
      ap (λ x. nested x cs) (head_code.inj h g (ap (λ t. head (tail t)) e)) ∙ ap (nested g) (forest_inj cs ds (ap (λ t. tail (tail t)) e))

  pub forest_inj : (cs ds : Forest) → forest_to cs ≡ forest_to ds → cs ≡ ds
  forest_inj none none e = refl
  forest_inj none (also q ds) e = cc
  forest_inj (also p cs) none e = cc
  forest_inj (also p cs) (also q ds) e = ap (λ x. also x cs) (parts_inj p q (ap head e)) ∙ ap (also q) (forest_inj cs ds (ap tail e))

abbrev pub parts_code : Coded Parts
parts_code = record { code = parts_to; inj = parts_inj }

abbrev pub forest_code : Coded Forest
forest_code = record { code = forest_to; inj = forest_inj }

-- a top of one shape with its children: what an array with children is seen as
pub record Nested (H : Type 0) : Type 0 where
  pub head : H
  pub children : Forest

abbrev pub nested_code : {H : Type 0} → Coded H → Coded (Nested H)
nested_code {H} c = code_by (H × Forest) (coded× c forest_code) (λ n. (n.head, n.children)) (λ p. record { head = p.0; children = p.1 }) (λ _. refl)
