-- Arrays without dictionaries.
use Rattle.std.specs.Prelude.{Bool, true, false, not, ◌&&◌}
use Rattle.arrow_arrays.specs.Heads.{Head, indexed}
use Rattle.arrow_arrays.specs.Parts.{Parts, Forest, leaf, nested, none, also}

abbrev pub is_indexed : Head → Bool
is_indexed (indexed d) = true
is_indexed h = false

-- no dictionary stands in it
abbrev mutual
  pub has_no_dictionary : Parts → Bool
  has_no_dictionary (leaf l) = true
  has_no_dictionary (nested h cs) = not (is_indexed h) && have_no_dictionary cs

  pub have_no_dictionary : Forest → Bool
  have_no_dictionary none = true
  have_no_dictionary (also p cs) = has_no_dictionary p && have_no_dictionary cs
