-- The two pairs of an extension type, taken out of a field's metadata.
use Rattle.std.proofs.Common.{◌≡◌, ℕ, List, [], ◌∷◌, Bool, true, false, cond, Option, Some, None, String, Global, string_bytes, nat_cmp, refl, sym, ◌∙◌, ap}
use Rattle.std.specs.Option.{option_map}
use Rattle.std.specs.Ordering.{is_eq}
use Rattle.std.specs.Cmp.Lexicographic.{slice_cmp}
use Rattle.std.specs.Map.{lookup, remove_entry}
use Rattle.std.specs.Str.{bytes_eq}
use Rattle.std.proofs.lemmas.Map.Text.{is_eq-slice_cmp}
use Rattle.arrow_spec.specs.Kinds.{Metadata}
use Rattle.arrow_spec.specs.Schema.{value_of, without_key, extension_name, extension_metadata}
use Rattle.arrow_spec.proofs.PairOrder.{key_same}
use Rattle.arrow_types.specs.KindOf.{texts_of}
use Rattle.arrow_types.specs.Extensions.{extension_in}
use Rattle.arrow_types.proofs.Metadata.{Entry}
use Rattle.arrow_types.proofs.Keyed.{value_of_is}
use Rattle.schema_reader.specs.ReadViews.{Named}

abbrev pub is_key : List ℕ → String Global → Bool
is_key q k = is_eq (slice_cmp nat_cmp q (string_bytes k))

map_cond : {A B : Type 0} (f : A → B) (b : Bool) (x y : A) → f (cond b x y) ≡ cond b (f x) (f y)
map_cond f true x y = refl
map_cond f false x y = refl

pub removed : (q : List ℕ) (es : List Entry) → texts_of (remove_entry (is_key q) es) ≡ without_key q (texts_of es)
removed q [] = refl
removed q (e ∷ es) = map_cond texts_of (is_key q e.0) es (e ∷ remove_entry (is_key q) es)
    ∙ ap (λ b. cond b (texts_of es) ((string_bytes e.0, string_bytes e.1) ∷ texts_of (remove_entry (is_key q) es))) (is_eq-slice_cmp q (string_bytes e.0))
    ∙ ap (λ r. cond (bytes_eq q (string_bytes e.0)) (texts_of es) ((string_bytes e.0, string_bytes e.1) ∷ r)) (removed q es)

other_first : (b : Bool) (name key : List ℕ) (x : List ℕ × List ℕ) (xs rest : Metadata) → bytes_eq name key ≡ false → (b ≡ true → key ≡ x.0) → value_of name rest ≡ value_of name xs → value_of name (cond b xs (x ∷ rest)) ≡ value_of name (x ∷ xs)
other_first true name key x xs rest apart same h =
    let e : bytes_eq name x.0 ≡ false = ap (bytes_eq name) (sym (same refl)) ∙ apart in
    rw e refl
other_first false name key x xs rest apart same h = ap (λ r. cond (bytes_eq name x.0) (Some x.1) r) h

-- the value under a key is the same without another key
pub other_kept : (name key : List ℕ) (m : Metadata) → bytes_eq name key ≡ false → value_of name (without_key key m) ≡ value_of name m
other_kept name key [] apart = refl
other_kept name key (x ∷ xs) apart = other_first (bytes_eq key x.0) name key x xs (without_key key xs) apart (key_same key x.0) (other_kept name key xs apart)

pub keys_apart : bytes_eq extension_name extension_metadata ≡ false
keys_apart = refl

abbrev pub extension_by : Option (List ℕ) → Option (List ℕ) → Option Named
extension_by n p = elim n [ None ↦ None | Some x ↦ Some (x, p) ]

-- the pairs without those of an extension type
pub both_removed : (es mid left : List Entry) → mid ≡ remove_entry (is_key extension_metadata) es → left ≡ remove_entry (is_key extension_name) mid → texts_of left ≡ without_key extension_name (without_key extension_metadata (texts_of es))
both_removed es mid left h g = ap texts_of g ∙ removed extension_name mid ∙ ap (λ x. without_key extension_name (texts_of x)) h ∙ ap (without_key extension_name) (removed extension_metadata es)

-- the name that was taken is that of the pairs
name_is : (es mid : List Entry) (name : Option (String Global)) → mid ≡ remove_entry (is_key extension_metadata) es → name ≡ lookup (is_key extension_name) mid → option_map string_bytes name ≡ value_of extension_name (texts_of es)
name_is es mid name h g = ap (option_map string_bytes) g ∙ value_of_is extension_name mid ∙ ap (λ x. value_of extension_name (texts_of x)) h ∙ ap (value_of extension_name) (removed extension_metadata es) ∙ other_kept extension_name extension_metadata (texts_of es) keys_apart

pub none_taken : (es mid : List Entry) (name : Option (String Global)) → mid ≡ remove_entry (is_key extension_metadata) es → name ≡ lookup (is_key extension_name) mid → name ≡ None → extension_by None None ≡ extension_in (texts_of es)
none_taken es mid name h g n =
    let e : None ≡ value_of extension_name (texts_of es) = ap (option_map string_bytes) (sym n) ∙ name_is es mid name h g in
    ap (λ x. extension_by x None) e ∙ no_name (value_of extension_name (texts_of es)) None (value_of extension_metadata (texts_of es)) (sym e)
  where
    no_name : (x p q : Option (List ℕ)) → x ≡ None → extension_by x p ≡ extension_by x q
    no_name x p q e = rw e refl

pub one_taken : (es mid : List Entry) (name parameters : Option (String Global)) (x : String Global) → mid ≡ remove_entry (is_key extension_metadata) es → parameters ≡ lookup (is_key extension_metadata) es → name ≡ lookup (is_key extension_name) mid → name ≡ Some x → extension_by (Some (string_bytes x)) (option_map string_bytes parameters) ≡ extension_in (texts_of es)
one_taken es mid name parameters x h p g n =
    let e : Some (string_bytes x) ≡ value_of extension_name (texts_of es) = ap (option_map string_bytes) (sym n) ∙ name_is es mid name h g in
    let q : option_map string_bytes parameters ≡ value_of extension_metadata (texts_of es) = ap (option_map string_bytes) p ∙ value_of_is extension_metadata es in
    ap (λ y. extension_by y (option_map string_bytes parameters)) e ∙ ap (extension_by (value_of extension_name (texts_of es))) q
