-- Look-ups and insertions by the bytes of a text.
use Rattle.std.proofs.Common.{◌≡◌, ℕ, Bool, true, false, cond, List, [], ◌∷◌, ◌++◌, String, Global, Some, string_bytes, nat_cmp, refl, sym, ◌∙◌, ap, true≢false}
use Rattle.std.specs.Option.{option_map}
use Rattle.std.specs.Ordering.{is_eq}
use Rattle.std.specs.Cmp.Lexicographic.{slice_cmp}
use Rattle.std.specs.List.{AllByRecursion, IsDistinct}
use Rattle.std.specs.Map.{lookup, keys_of}
use Rattle.std.specs.Str.{bytes_eq}
use Rattle.std.specs.String.{string_eq}
use Rattle.std.proofs.lemmas.Slice.Eq.{bytes_eq-Decides}
use Rattle.std.proofs.lemmas.Map.Text.{is_eq-slice_cmp}
use Rattle.indexmap.specs.IndexMap.{insert_entry}
use Rattle.arrow_spec.specs.Schema.{value_of}
use Rattle.arrow_types.specs.KindOf.{child_of, texts_of}
use Rattle.arrow_types.specs.Schemas.{Keyed, keyed, keys_in, field_under, with_field}
use Rattle.arrow_types.specs.declared.data_type.Field.{Field}
use Rattle.arrow_types.proofs.Metadata.{Entry}

abbrev pub Held : Type 0
Held = String Global × Field

map_cond : {A B : Type 0} (f : A → B) (b : Bool) (x y : A) → f (cond b x y) ≡ cond b (f x) (f y)
map_cond f true x y = refl
map_cond f false x y = refl

pub field_under_is : (q : List ℕ) (es : List Held) → option_map child_of (lookup (λ k. bytes_eq q (string_bytes k)) es) ≡ field_under q (keyed es)
field_under_is q [] = refl
field_under_is q (e ∷ es) = map_cond (option_map child_of) (bytes_eq q (string_bytes e.0)) (Some e.1) (lookup (λ k. bytes_eq q (string_bytes k)) es)
    ∙ ap (λ r. cond (bytes_eq q (string_bytes e.0)) (Some (child_of e.1)) r) (field_under_is q es)

pub value_of_is : (q : List ℕ) (es : List Entry) → option_map string_bytes (lookup (λ k. is_eq (slice_cmp nat_cmp q (string_bytes k))) es) ≡ value_of q (texts_of es)
value_of_is q [] = refl
value_of_is q (e ∷ es) = map_cond (option_map string_bytes) (is_eq (slice_cmp nat_cmp q (string_bytes e.0))) (Some e.1) (lookup (λ k. is_eq (slice_cmp nat_cmp q (string_bytes k))) es)
    ∙ ap (λ b. cond b (Some (string_bytes e.1)) (option_map string_bytes (lookup (λ k. is_eq (slice_cmp nat_cmp q (string_bytes k))) es))) (is_eq-slice_cmp q (string_bytes e.0))
    ∙ ap (λ r. cond (bytes_eq q (string_bytes e.0)) (Some (string_bytes e.1)) r) (value_of_is q es)

pub with_field_is : (es : List Held) (k : String Global) (v : Field) → keyed (insert_entry string_eq es k v) ≡ with_field (string_bytes k) (child_of v) (keyed es)
with_field_is [] k v = refl
with_field_is (e ∷ es) k v = map_cond keyed (string_eq k e.0) ((e.0, v) ∷ es) (e ∷ insert_entry string_eq es k v)
    ∙ ap (λ r. cond (string_eq k e.0) ((string_bytes e.0, child_of v) ∷ keyed es) ((string_bytes e.0, child_of e.1) ∷ r)) (with_field_is es k v)

others_by_bytes : (k : String Global) (es : List Held) → AllByRecursion (λ y. string_eq k y ≡ false) (keys_of es) → AllByRecursion (λ y. bytes_eq (string_bytes k) y ≡ false) (keys_in (keyed es))
others_by_bytes k [] h = h
others_by_bytes k (e ∷ es) h = (h.0, others_by_bytes k es h.1)

pub distinct_by_bytes : (es : List Held) → IsDistinct string_eq (keys_of es) → IsDistinct bytes_eq (keys_in (keyed es))
unfolding IsDistinct
distinct_by_bytes [] h = h
distinct_by_bytes (e ∷ es) h = (others_by_bytes e.0 es h.0, distinct_by_bytes es h.1)

turned : (b c : Bool) → (c ≡ true → b ≡ true) → b ≡ false → c ≡ false
turned b false f h = refl
turned b true f h = absurd (true≢false (sym (f refl) ∙ h))

bytes_eq-turned : (xs ys : List ℕ) → bytes_eq xs ys ≡ false → bytes_eq ys xs ≡ false
bytes_eq-turned xs ys h = turned (bytes_eq xs ys) (bytes_eq ys xs) (λ e. (bytes_eq-Decides xs ys).1 (sym ((bytes_eq-Decides ys xs).0 e))) h

apart_from_middle : (x : List ℕ) (done : List Keyed) (p : Keyed) (more : List Keyed) → AllByRecursion (λ y. bytes_eq x y ≡ false) (keys_in (done ++ p ∷ more)) → bytes_eq x p.0 ≡ false
apart_from_middle x [] p more h = h.0
apart_from_middle x (d ∷ done) p more h = apart_from_middle x done p more h.1

-- a key that differs from those before it goes last
pub with_field-last : (done : List Keyed) (p : Keyed) (more : List Keyed) → IsDistinct bytes_eq (keys_in (done ++ p ∷ more)) → with_field p.0 p.1 done ≡ done ++ p ∷ []
unfolding IsDistinct
with_field-last [] p more h = refl
with_field-last (d ∷ done) p more h =
    let apart : bytes_eq p.0 d.0 ≡ false = bytes_eq-turned d.0 p.0 (apart_from_middle d.0 done p more h.0) in
    ap (λ b. cond b ((d.0, p.1) ∷ done) (d ∷ with_field p.0 p.1 done)) apart ∙ ap (λ r. d ∷ r) (with_field-last done p more h.1)
