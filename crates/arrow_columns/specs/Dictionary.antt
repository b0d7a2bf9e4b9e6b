-- Dictionaries that are made of their rows: the texts that come, each once, and for each row the place of its own.
-- (Arrow Columnar Format, "Dictionary-encoded Layout".)
use Rattle.std.specs.Prelude.{◌≡◌, ℕ, ◌^◌, ◌≤◌, ◌⊎◌, ◌++◌, List, [], ◌∷◌, Bool, false, Some, None, ℤ, pos, length, fold, slice_get, if◌then◌else◌}
use Rattle.std.specs.List.{list_any, concat}
use Rattle.std.specs.Str.{bytes_eq}
use denote.Ref.{Bor}
use Rattle.arrow_spec.specs.Kinds.{Kind, dictionary, utf8, small}
use Rattle.arrow_spec.specs.declared.types.IntegerType.TheVariants.{Int32}
use Rattle.arrow_buffers.specs.declared.error.ArrayError.{ArrayError}
use Rattle.arrow_buffers.specs.declared.error.ArrayError.TheVariants.{Memory, Key}
use Rattle.arrow_arrays.specs.Heads.{Indexed}
use Rattle.arrow_columns.specs.Strings.{bytes_each, RefusesBytes}

-- two texts are of the same bytes
abbrev pub is_same_text : Bor (List ℕ) → Bor (List ℕ) → Bool
is_same_text a b = bytes_eq a.now b.now

-- the texts that came, and one more behind them where it is none of them
abbrev pub with_text : List (Bor (List ℕ)) → Bor (List ℕ) → List (Bor (List ℕ))
with_text came text = if list_any (is_same_text text) came then came else came ++ text ∷ []

-- the distinct texts of some rows, in the order in which they first come
abbrev pub distinct_texts : List (Bor (List ℕ)) → List (Bor (List ℕ))
distinct_texts = fold with_text []

-- dictionaries of texts with offsets of 32 bits, by keys of 32 bits
abbrev pub texts_kind : Kind
texts_kind = dictionary Int32 false (pos 0) (utf8 small)

-- the top of such a dictionary with these keys, no row null
abbrev pub keyed_by : List ℤ → Indexed
keyed_by keys = record { kind = texts_kind; index = Int32; keys = keys; validity = None }

-- a key says a text of these bytes
pub record SaysText (came : List (Bor (List ℕ))) (key : ℤ) (row : List ℕ) : Type 0 where
  pub place : ℕ
  pub text : Bor (List ℕ)
  pub number : key ≡ pos place
  pub there : slice_get came place ≡ Some text
  pub same : text.now ≡ row

-- no key is so large
abbrev pub key_limit : ℕ
key_limit = 2 ^ 31

-- memory ran out, or texts are more than keys can say
abbrev pub RefusesKey : ℕ → ArrayError → Type 0
RefusesKey came e = (e ≡ Memory) ⊎ ((e ≡ Key) × (key_limit ≤ came))

-- memory ran out, the distinct texts have as many bytes as no offset is, or they are more than keys can say
abbrev pub RefusesTexts : List (Bor (List ℕ)) → ArrayError → Type 0
RefusesTexts came e = RefusesBytes key_limit (length (concat (bytes_each came))) e ⊎ ((e ≡ Key) × (key_limit ≤ length came))
