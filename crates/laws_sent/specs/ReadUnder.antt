-- Arrays that were read of a file, by the parts of the dictionaries that were read before them. (Arrow Columnar Format, "Dictionary Messages".)
use Rattle.std.specs.Prelude.{◌≡◌, ℤ, List, [], ◌∷◌, ◌++◌, true, false, Option, Some, None, if◌then◌else◌}
use Rattle.std.specs.List.{AllByRecursion}
use Rattle.arrow_spec.specs.Kinds as kind
use Rattle.arrow_spec.specs.Kinds.{Kind, Fields, same, uses_in}
use Rattle.ipc_files.specs.Below.{values_kind, Parts, Forest, none, also, kind_in, Held, is_alike}
use Rattle.laws_writers.specs.Below.{is_indexed, values_in, parts_or_empty}
use Rattle.laws_sent.specs.Parts.{PartTree}

-- the parts under an id, in order
abbrev pub parts_under : ℤ → List PartTree → Forest
parts_under id [] = none
parts_under id (p ∷ ps) = if same p.id id then also p.tree (parts_under id ps) else parts_under id ps

-- no dictionary, where there is no part
abbrev pub held_if_any : Forest → Option Forest
held_if_any none = None
held_if_any (also p ps) = Some (also p ps)

-- what is held under each id of some parts
abbrev pub held_of : List PartTree → Held
held_of ps = λ id. held_if_any (parts_under id ps)

-- The dictionaries that stand in an array have, under the ids of a kind, the parts that were held as the array was read, or one without rows of the array's own kind where none were; and those in several arrays, under the ids of fields.
abbrev mutual
  pub IsReadUnder : Held → Kind → Parts → Type 0
  IsReadUnder h (kind.«list» o fs) p = (is_indexed p ≡ false) × AreReadUnder h fs (values_in p)
  IsReadUnder h (kind.fixed_size_list n fs) p = (is_indexed p ≡ false) × AreReadUnder h fs (values_in p)
  IsReadUnder h (kind.struct fs) p = (is_indexed p ≡ false) × AreReadUnder h fs (values_in p)
  IsReadUnder h (kind.map sorted fs) p = (is_indexed p ≡ false) × AreReadUnder h fs (values_in p)
  IsReadUnder h (kind.union mode stated ids fs) p = (is_indexed p ≡ false) × AreReadUnder h fs (values_in p)
  IsReadUnder h (kind.dictionary t ordered id k) p =
      (is_indexed p ≡ true) × (is_alike (values_kind (kind_in p)) k ≡ true) × (values_in p ≡ parts_or_empty (h id) (values_kind (kind_in p)))
  IsReadUnder h (kind.extension name metadata k) p = IsReadUnder h k p
  IsReadUnder h k p = (is_indexed p ≡ false) × (values_in p ≡ none)

  pub AreReadUnder : Held → Fields → Forest → Type 0
  AreReadUnder h kind.none ps = ps ≡ none
  AreReadUnder h (kind.field name nullable metadata k others) none = ⊥
  AreReadUnder h (kind.field name nullable metadata k others) (also p ps) = IsReadUnder h k p × AreReadUnder h others ps

-- each of some parts was read under those before it, as the values of each use of its dictionary in fields
abbrev pub EachIsReadUnder : Fields → List PartTree → List PartTree → Type 0
EachIsReadUnder fs before [] = Unit {0}
EachIsReadUnder fs before (p ∷ ps) = AllByRecursion (λ u. same u.id p.id ≡ true → IsReadUnder (held_of before) u.values p.tree) (uses_in fs)
    × EachIsReadUnder fs (before ++ p ∷ []) ps

-- the parts of a file's dictionaries, each read under those before it
abbrev pub AreReadInOrder : Fields → List PartTree → Type 0
AreReadInOrder fs ps = EachIsReadUnder fs [] ps
