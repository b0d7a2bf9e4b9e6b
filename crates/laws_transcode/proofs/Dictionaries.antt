-- The dictionaries that are read of a file: none replaces another.
use Rattle.std.proofs.Common.{◌≡◌, ℕ, List, [], ◌∷◌, Option, Some, None, Ok, Bool, true, false, refl, sym, ap, ◌∙◌, subst}
use Rattle.std.specs.Prelude.{◌||◌}
use Rattle.arrow_spec.specs.declared.message.MetadataVersion.{MetadataVersion}
use Rattle.arrow_spec.specs.Readings.{is_absent}
use Rattle.arrow_spec.specs.Cells.{Cell}
use Rattle.arrow_spec.specs.Schema.{Schema}
use Rattle.arrow_spec.specs.Arrays.{Dictionaries, HeldDictionary, found}
use Rattle.arrow_spec.specs.Messages.{DictionaryBatch}
use Rattle.arrow_spec.specs.Files.{FileBlock, Meta, dictionaries_of, dictionary_of}
use Rattle.arrow_spec.proofs.ReadPairs.{is_true, same_read, through}
use Rattle.laws_transcode.specs.Sending.{NoneReplaced}
use Rattle.laws_transcode.specs.Laws.{FileReplacesNone}

-- a dictionary that is no delta is read where there is none of its id
absent_before : (is_delta : Bool) (held : Option (List Cell)) → (is_delta || false || is_absent held) ≡ true → is_delta ≡ false → held ≡ None
absent_before true held h e = cc
absent_before false None h e = refl
absent_before false (Some cells) h e = cc

pub none_replaced : (s : Schema) (d : Dictionaries) (most : ℕ) (x : DictionaryBatch) (version : MetadataVersion) (body : List ℕ) (y : HeldDictionary) → dictionary_of s d most x version body false ≡ Ok y → y.is_delta ≡ false → found d y.id ≡ None
unfolding dictionary_of
none_replaced s d most x version body y h first =
    through _ _ y h λ kind kind_is h1. through _ _ y h1 λ u new h2. through _ _ y h2 λ v floats h3. through _ _ y h3 λ values read h4.
    let made = same_read _ y h4 in
    let id : x.id ≡ y.id = ap (λ (z : HeldDictionary). z.id) made in
    let delta : x.is_delta ≡ y.is_delta = ap (λ (z : HeldDictionary). z.is_delta) made in
    ap (found d) (sym id) ∙ absent_before x.is_delta (found d x.id) (is_true _ _ u new) (delta ∙ first)

-- behind some that were read
all_new : (b : List ℕ) (meta : Meta) (before : Dictionaries) (blocks : List FileBlock) (d : Dictionaries) → NoneReplaced before → dictionaries_of b meta before blocks ≡ Ok d → NoneReplaced d
unfolding dictionaries_of
all_new b meta before [] d none h = subst NoneReplaced (same_read before d h) none
all_new b meta before (block ∷ blocks) d none h =
    through _ _ d h λ m m_is h1. through _ _ d h1 λ x x_is h2. through _ _ d h2 λ version version_is h3. through _ _ d h3 λ values values_are h4.
    all_new b meta (values ∷ before) blocks d (none_replaced meta.schema before _ x version _ values values_are, none) h4

pub replaces_none : FileReplacesNone
replaces_none b meta blocks d h = all_new b meta [] blocks d tt h
