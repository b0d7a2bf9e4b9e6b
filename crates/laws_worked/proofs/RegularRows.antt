-- Which schemas are regular, and which can be represented.
use Rattle.std.proofs.Common.{◌≡◌, [], ◌∷◌, None, map, refl, true, false}
use Rattle.std.specs.Prelude.{pos, negsuc, codes}
use Rattle.arrow_spec.specs.declared.types.IntegerType.TheVariants.{Int32}
use Rattle.arrow_spec.specs.declared.types.TimeUnit.TheVariants.{Second}
use Rattle.arrow_spec.specs.declared.types.UnionMode.TheVariants.{Dense, Sparse}
use Rattle.arrow_spec.specs.Kinds as kind
use Rattle.arrow_spec.specs.Kinds.{Kind, Fields, none, field}
use Rattle.arrow_spec.specs.Regular.{fields_from, pairs_of_field, regular, representable}
use Rattle.arrow_spec.specs.Schema.{extension_metadata, extension_name}

abbrev pub one : Kind → Fields
one k = field (codes "a") true [] k none

-- a reserved key among a field's pairs is not written, and so not counted; the pair that an extension's name takes is
pub reserved_pairs : map (λ f. pairs_of_field f) (fields_from 1 (field (codes "a") true ((extension_metadata, codes "m") ∷ (extension_name, codes "n") ∷ (codes "k", codes "v") ∷ []) kind.null (one (kind.extension (codes "e") None kind.null)))) ≡ 1 ∷ 1 ∷ []
reserved_pairs = refl

pub regular_list : regular (one (kind.«list» kind.small (one (kind.integer Int32)))) [] ≡ true
regular_list = refl

pub seconds_in_64 : regular (one (kind.time64 Second)) [] ≡ false
seconds_in_64 = refl

pub no_size : regular (one (kind.fixed_size_binary 0)) [] ≡ false
no_size = refl

pub map_of_numbers : regular (one (kind.map false (one (kind.integer Int32)))) [] ≡ false
map_of_numbers = refl

pub extension_in_extension : regular (one (kind.extension (codes "e") None (kind.extension (codes "f") None (kind.integer Int32)))) [] ≡ false
extension_in_extension = refl

pub extension_in_dictionary : regular (one (kind.dictionary Int32 false (pos 1) (kind.extension (codes "e") None (kind.utf8 kind.small)))) [] ≡ true
extension_in_dictionary = refl

pub dictionary_in_dictionary : representable (one (kind.dictionary Int32 false (pos 1) (kind.dictionary Int32 false (pos 2) (kind.utf8 kind.small)))) ≡ false
dictionary_in_dictionary = refl

-- a child may be a dictionary again
pub dictionary_below_dictionary : representable (one (kind.dictionary Int32 false (pos 1) (kind.«list» kind.small (one (kind.dictionary Int32 false (pos 1) (kind.utf8 kind.small)))))) ≡ true
dictionary_below_dictionary = refl

pub extension_of_dictionary : representable (one (kind.extension (codes "e") None (kind.dictionary Int32 false (pos 1) (kind.utf8 kind.small)))) ≡ false
extension_of_dictionary = refl

pub dictionary_of_extension : representable (one (kind.dictionary Int32 false (negsuc 0) (kind.extension (codes "e") None (kind.utf8 kind.small)))) ≡ true
dictionary_of_extension = refl

pub greatest_size : representable (one (kind.fixed_size_binary 2147483647)) ≡ true
greatest_size = refl

pub size_too_large : representable (one (kind.fixed_size_list 2147483648 (one (kind.integer Int32)))) ≡ false
size_too_large = refl

pub scale_too_large : representable (one (kind.decimal 38 2147483648)) ≡ false
scale_too_large = refl

pub equal_ids : representable (one (kind.union Sparse true (pos 0 ∷ pos 0 ∷ []) (field (codes "a") true [] kind.null (one kind.boolean)))) ≡ false
equal_ids = refl

pub id_above_127 : representable (one (kind.union Dense true (pos 128 ∷ []) (one kind.boolean))) ≡ false
id_above_127 = refl

pub fewer_ids : representable (one (kind.union Dense true (pos 0 ∷ []) (field (codes "a") true [] kind.null (one kind.boolean)))) ≡ false
fewer_ids = refl

pub no_child : representable (one (kind.union Dense false [] none)) ≡ false
no_child = refl

pub right_ids : representable (one (kind.union Dense true (pos 5 ∷ pos 2 ∷ []) (field (codes "a") true [] kind.null (one kind.boolean)))) ≡ true
right_ids = refl
