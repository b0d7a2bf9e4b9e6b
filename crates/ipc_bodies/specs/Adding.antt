-- What is put behind a list, where it has succeeded, and that the list has been kept, where it has failed.
use Rattle.std.specs.Prelude.{◌≡◌, List, ◌++◌, Result, Ok, Err}

-- a list has been kept, with more behind it
pub record Kept {A : Type 0} (before after : List A) : Type 0 where
  pub more : List A
  pub whole : after ≡ before ++ more

-- items stand behind others; a failure has kept these
abbrev pub Appends : {A T E : Type 0} → Result T E → List A → List A → List A → Type 0
Appends (Ok x) before after items = after ≡ before ++ items
Appends (Err e) before after items = Kept before after
