-- A field's pairs are read back, and with them its extension.
use Rattle.std.proofs.Common.{◌≡◌, List, [], ◌∷◌, Option, Some, None, refl, ap, ◌∙◌, true}
use Rattle.std.specs.Prelude.{ℕ}
use Rattle.std.specs.Str.{is_utf8, chars}
use lib.Utf8.{encode}
use Rattle.arrow_spec.specs.Kinds.{Kind, Metadata, dictionary, extension}
use Rattle.arrow_spec.specs.Schema.{value_of, with_extension, without_key, extension_name, extension_metadata, own_pairs}
use Rattle.arrow_spec.specs.Sent.{field_pairs, pair_nodes}
use Rattle.arrow_spec.specs.WrittenSchemas.{AreFieldPairs, IsText, KindFits, of_field, extension_first, pairs_for}
use Rattle.arrow_spec.proofs.PairMaps.{without_absent, IsSorted, all_ascend, all_pairs, sorted_without, value_kept, without_all}
use Rattle.arrow_spec.proofs.SchemaPairs.{AreTexts, ascend_texts}

-- a map that has the pairs of a kind's extension, or none of that name
abbrev pub ExtensionIs : Kind → Metadata → Type 0
ExtensionIs (extension name metadata k) m = (value_of extension_name m ≡ Some name) × (value_of extension_metadata m ≡ metadata)
ExtensionIs (dictionary t ordered id (extension name metadata k)) m = (value_of extension_name m ≡ Some name) × (value_of extension_metadata m ≡ metadata)
ExtensionIs k m = value_of extension_name m ≡ None

-- the map that is read of a field's pairs: the extension's stand in it, and without them it is the field's own
pub record IsReadAs (k : Kind) (own read : Metadata) : Type 0 where
  pub kept : without_key extension_name (without_key extension_metadata read) ≡ own
  pub extended : ExtensionIs k read

-- behind pairs of reserved keys alone
kept_by : (reserved own : Metadata) → AreFieldPairs own → IsSorted reserved → without_key extension_name (without_key extension_metadata reserved) ≡ [] → without_key extension_name (without_key extension_metadata (all_pairs reserved own)) ≡ own
kept_by reserved own pairs sorted none =
    ap (λ m. without_key extension_name m) (without_all extension_metadata own reserved sorted pairs.no_metadata)
    ∙ without_all extension_name own (without_key extension_metadata reserved) (sorted_without extension_metadata reserved sorted) pairs.no_name
    ∙ ap (λ m. all_pairs m own) none
    ∙ all_ascend own [] pairs.ascend

extension_kept : (name : List ℕ) (metadata : Option (List ℕ)) (own : Metadata) → AreFieldPairs own → without_key extension_name (without_key extension_metadata (all_pairs [] (extension_first metadata ((extension_name, name) ∷ own)))) ≡ own
extension_kept name None own pairs = kept_by ((extension_name, name) ∷ []) own pairs (tt, tt) refl
extension_kept name (Some value) own pairs = kept_by ((extension_metadata, value) ∷ (extension_name, name) ∷ []) own pairs ((refl, tt), (tt, tt)) refl

extension_read : (name : List ℕ) (metadata : Option (List ℕ)) (own : Metadata) → AreFieldPairs own
    → (value_of extension_name (all_pairs [] (extension_first metadata ((extension_name, name) ∷ own))) ≡ Some name) × (value_of extension_metadata (all_pairs [] (extension_first metadata ((extension_name, name) ∷ own))) ≡ metadata)
extension_read name None own pairs = (value_kept extension_name own ((extension_name, name) ∷ []) pairs.no_name, value_kept extension_metadata own ((extension_name, name) ∷ []) pairs.no_metadata)
extension_read name (Some value) own pairs =
    let reserved = (extension_metadata, value) ∷ (extension_name, name) ∷ [] in
    (value_kept extension_name own reserved pairs.no_name, value_kept extension_metadata own reserved pairs.no_metadata)

-- pairs without reserved keys
pub own_same : (own : Metadata) → AreFieldPairs own → own_pairs own ≡ own
own_same own pairs = rw (without_absent extension_metadata own pairs.no_metadata) (without_absent extension_name own pairs.no_name)

pub pairs_read : (k : Kind) (own : Metadata) → AreFieldPairs own → IsReadAs k own (all_pairs [] (pairs_for k own))
pairs_read (extension name metadata k) own pairs = rw (own_same own pairs) (record { kept = extension_kept name metadata own pairs; extended = extension_read name metadata own pairs })
pairs_read (dictionary t ordered id (extension name metadata k)) own pairs = rw (own_same own pairs) (record { kept = extension_kept name metadata own pairs; extended = extension_read name metadata own pairs })
pairs_read k own pairs = rw (own_same own pairs) (record { kept = kept_by [] own pairs tt refl; extended = value_kept extension_name own [] pairs.no_name })

name_text : is_utf8 extension_name ≡ true
unfolding is_utf8 chars encode
name_text = refl

metadata_text : is_utf8 extension_metadata ≡ true
unfolding is_utf8 chars encode
metadata_text = refl

extension_texts : (name : List ℕ) (metadata : Option (List ℕ)) (own : Metadata) → is_utf8 name ≡ true → IsText metadata → AreTexts own → AreTexts (extension_first metadata ((extension_name, name) ∷ own))
extension_texts name None own text more texts = ((name_text, text), texts)
extension_texts name (Some value) own text more texts = ((metadata_text, more), ((name_text, text), texts))

pub pairs_texts : (k : Kind) (levels : ℕ) (own : Metadata) → KindFits of_field levels k → AreFieldPairs own → AreTexts (pairs_for k own)
pairs_texts (extension name metadata k) levels own fits pairs = rw (own_same own pairs) (extension_texts name metadata own fits.0 fits.1 (ascend_texts own [] pairs.ascend))
pairs_texts (dictionary t ordered id (extension name metadata k)) levels own fits pairs = rw (own_same own pairs) (extension_texts name metadata own fits.0 fits.1 (ascend_texts own [] pairs.ascend))
pairs_texts k levels own fits pairs = rw (own_same own pairs) (ascend_texts own [] pairs.ascend)

pub pairs_written : (k : Kind) (own : Metadata) → field_pairs k own ≡ pair_nodes (pairs_for k own)
pairs_written (extension name None k) own = refl
pairs_written (extension name (Some value) k) own = refl
pairs_written (dictionary t ordered id (extension name None k)) own = refl
pairs_written (dictionary t ordered id (extension name (Some value) k)) own = refl
pairs_written k own = refl

-- a kind in the extension of another, if that has one
abbrev pub extended : Kind → Kind → Kind
extended (extension name metadata k) x = extension name metadata x
extended (dictionary t ordered id (extension name metadata k)) x = extension name metadata x
extended k x = x

pub extension_there : (name : List ℕ) (metadata : Option (List ℕ)) (m : Metadata) (x : Kind) → value_of extension_name m ≡ Some name → value_of extension_metadata m ≡ metadata → with_extension m x ≡ extension name metadata x
extension_there name metadata m x e f = rw (with_extension, e, f) refl

pub no_extension : (m : Metadata) (x : Kind) → value_of extension_name m ≡ None → with_extension m x ≡ x
no_extension m x e = rw (with_extension, e) refl

pub extension_back : (k : Kind) (m : Metadata) (x : Kind) → ExtensionIs k m → with_extension m x ≡ extended k x
extension_back (extension name metadata k) m x is = extension_there name metadata m x is.0 is.1
extension_back (dictionary t ordered id (extension name metadata k)) m x is = extension_there name metadata m x is.0 is.1
extension_back k m x is = no_extension m x is
