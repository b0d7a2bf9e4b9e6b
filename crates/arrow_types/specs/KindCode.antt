-- A kind as a tree of numbers, which gives the kind back: so a model's value may hold kinds, and two kinds are compared.
use Rattle.std.specs.Prelude.{◌≡◌, ℕ, zero, suc, List, [], ◌∷◌, Bool, true, false, Option, Some, None, ℤ, pos, negsuc, refl}
use Rattle.std.proofs.Common.{ap, sym, ◌∙◌, true≢false, eq-eqb, ◌&&◌, nat_eq}
use Rattle.std.proofs.lemmas.Bool.{and_parts, and_from, eqb-true}
use Rattle.std.specs.Cmp.{IsEquivalence}
use Rattle.std.specs.Coded.{Coded, code_by}
use denote.Struct.Codes.{itself}
use base.Stored.{Gv, gnil, gnum, gcons, num}
use Rattle.arrow_spec.specs.declared.types.IntegerType.{IntegerType}
use Rattle.arrow_spec.specs.declared.types.IntegerType.TheVariants as integers
use Rattle.arrow_spec.specs.declared.types.TimeUnit.{TimeUnit}
use Rattle.arrow_spec.specs.declared.types.TimeUnit.TheVariants.{Second, Millisecond, Microsecond, Nanosecond}
use Rattle.arrow_spec.specs.declared.types.IntervalUnit.{IntervalUnit}
use Rattle.arrow_spec.specs.declared.types.IntervalUnit.TheVariants.{YearMonth, DayTime, MonthDayNano}
use Rattle.arrow_spec.specs.declared.types.UnionMode.{UnionMode}
use Rattle.arrow_spec.specs.declared.types.UnionMode.TheVariants.{Dense, Sparse}
use Rattle.arrow_spec.specs.Kinds as kind
use Rattle.arrow_spec.specs.Kinds.{Kind, Fields, Metadata, Offsets, small, large, FloatType, half, single, double, integer_number, unit_number}

abbrev pub head : Gv → Gv
head gnil = gnil
head (gnum n) = gnum n
head (gcons a b) = a

abbrev pub tail : Gv → Gv
tail gnil = gnil
tail (gnum n) = gnil
tail (gcons a b) = b

abbrev pub bool_to : Bool → Gv
bool_to false = gnil
bool_to true = gnum 0

abbrev pub bool_from : Gv → Bool
bool_from gnil = false
bool_from (gnum n) = true
bool_from (gcons a b) = true

pub bool_from-bool_to : (b : Bool) → bool_from (bool_to b) ≡ b
bool_from-bool_to false = refl
bool_from-bool_to true = refl

abbrev pub bytes_to : List ℕ → Gv
bytes_to [] = gnil
bytes_to (x ∷ xs) = gcons (gnum x) (bytes_to xs)

abbrev pub bytes_from : Gv → List ℕ
bytes_from gnil = []
bytes_from (gnum n) = []
bytes_from (gcons a b) = num a ∷ bytes_from b

pub bytes_from-bytes_to : (xs : List ℕ) → bytes_from (bytes_to xs) ≡ xs
bytes_from-bytes_to [] = refl
bytes_from-bytes_to (x ∷ xs) = ap (λ ys. x ∷ ys) (bytes_from-bytes_to xs)

abbrev pub text_to : Option (List ℕ) → Gv
text_to None = gnum 0
text_to (Some xs) = gcons gnil (bytes_to xs)

abbrev pub text_from : Gv → Option (List ℕ)
text_from gnil = None
text_from (gnum n) = None
text_from (gcons a b) = Some (bytes_from b)

pub text_from-text_to : (z : Option (List ℕ)) → text_from (text_to z) ≡ z
text_from-text_to None = refl
text_from-text_to (Some xs) = ap Some (bytes_from-bytes_to xs)

abbrev pub pairs_to : Metadata → Gv
pairs_to [] = gnil
pairs_to (p ∷ ps) = gcons (gcons (bytes_to p.0) (bytes_to p.1)) (pairs_to ps)

abbrev pub pairs_from : Gv → Metadata
pairs_from gnil = []
pairs_from (gnum n) = []
pairs_from (gcons a b) = (bytes_from (head a), bytes_from (tail a)) ∷ pairs_from b

pub pairs_from-pairs_to : (ps : Metadata) → pairs_from (pairs_to ps) ≡ ps
pairs_from-pairs_to [] = refl
pairs_from-pairs_to (p ∷ ps) = rw (bytes_from-bytes_to p.0, bytes_from-bytes_to p.1, pairs_from-pairs_to ps) refl

abbrev pub integer_to : ℤ → Gv
integer_to (pos n) = gcons gnil (gnum n)
integer_to (negsuc n) = gnum n

abbrev pub integer_from : Gv → ℤ
integer_from gnil = pos 0
integer_from (gnum n) = negsuc n
integer_from (gcons a b) = pos (num b)

pub integer_from-integer_to : (z : ℤ) → integer_from (integer_to z) ≡ z
integer_from-integer_to (pos n) = refl
integer_from-integer_to (negsuc n) = refl

abbrev pub ids_to : List ℤ → Gv
ids_to [] = gnil
ids_to (x ∷ xs) = gcons (integer_to x) (ids_to xs)

abbrev pub ids_from : Gv → List ℤ
ids_from gnil = []
ids_from (gnum n) = []
ids_from (gcons a b) = integer_from a ∷ ids_from b

pub ids_from-ids_to : (xs : List ℤ) → ids_from (ids_to xs) ≡ xs
ids_from-ids_to [] = refl
ids_from-ids_to (x ∷ xs) = rw (integer_from-integer_to x, ids_from-ids_to xs) refl

abbrev pub unit_from : ℕ → TimeUnit
unit_from zero = Second
unit_from (suc zero) = Millisecond
unit_from (suc (suc zero)) = Microsecond
unit_from (suc (suc (suc n))) = Nanosecond

pub unit_from-unit_number : (u : TimeUnit) → unit_from (unit_number u) ≡ u
unit_from-unit_number Second = refl
unit_from-unit_number Millisecond = refl
unit_from-unit_number Microsecond = refl
unit_from-unit_number Nanosecond = refl

abbrev pub integer_type_from : ℕ → IntegerType
integer_type_from zero = integers.Int8
integer_type_from (suc zero) = integers.Int16
integer_type_from (suc (suc zero)) = integers.Int32
integer_type_from (suc (suc (suc zero))) = integers.Int64
integer_type_from (suc (suc (suc (suc zero)))) = integers.Int128
integer_type_from (suc (suc (suc (suc (suc zero))))) = integers.UInt8
integer_type_from (suc (suc (suc (suc (suc (suc zero)))))) = integers.UInt16
integer_type_from (suc (suc (suc (suc (suc (suc (suc zero))))))) = integers.UInt32
integer_type_from (suc (suc (suc (suc (suc (suc (suc (suc n)))))))) = integers.UInt64

pub integer_type_from-integer_number : (i : IntegerType) → integer_type_from (integer_number i) ≡ i
integer_type_from-integer_number integers.Int8 = refl
integer_type_from-integer_number i = refl

abbrev pub interval_number : IntervalUnit → ℕ
interval_number YearMonth = 0
interval_number DayTime = 1
interval_number MonthDayNano = 2

abbrev pub interval_from : ℕ → IntervalUnit
interval_from zero = YearMonth
interval_from (suc zero) = DayTime
interval_from (suc (suc n)) = MonthDayNano

pub interval_from-interval_number : (u : IntervalUnit) → interval_from (interval_number u) ≡ u
interval_from-interval_number YearMonth = refl
interval_from-interval_number DayTime = refl
interval_from-interval_number MonthDayNano = refl

abbrev pub mode_number : UnionMode → ℕ
mode_number Dense = 0
mode_number Sparse = 1

abbrev pub mode_from : ℕ → UnionMode
mode_from zero = Dense
mode_from (suc n) = Sparse

pub mode_from-mode_number : (m : UnionMode) → mode_from (mode_number m) ≡ m
mode_from-mode_number Dense = refl
mode_from-mode_number Sparse = refl

abbrev pub float_number : FloatType → ℕ
float_number half = 0
float_number single = 1
float_number double = 2

abbrev pub float_from : ℕ → FloatType
float_from zero = half
float_from (suc zero) = single
float_from (suc (suc n)) = double

pub float_from-float_number : (t : FloatType) → float_from (float_number t) ≡ t
float_from-float_number half = refl
float_from-float_number single = refl
float_from-float_number double = refl

abbrev pub offsets_number : Offsets → ℕ
offsets_number small = 0
offsets_number large = 1

abbrev pub offsets_from : ℕ → Offsets
offsets_from zero = small
offsets_from (suc n) = large

pub offsets_from-offsets_number : (o : Offsets) → offsets_from (offsets_number o) ≡ o
offsets_from-offsets_number small = refl
offsets_from-offsets_number large = refl

-- a tag, what stands beside it, and what stands inside
abbrev pub tagged : ℕ → Gv → Gv → Gv
tagged tag beside inside = gcons (gcons (gnum tag) beside) inside

abbrev mutual
  pub kind_to : Kind → Gv
  kind_to kind.null = tagged 0 gnil gnil
  kind_to kind.boolean = tagged 1 gnil gnil
  kind_to (kind.integer i) = tagged 2 (gnum (integer_number i)) gnil
  kind_to (kind.float t) = tagged 3 (gnum (float_number t)) gnil
  kind_to kind.date32 = tagged 4 gnil gnil
  kind_to kind.date64 = tagged 5 gnil gnil
  kind_to (kind.time32 u) = tagged 6 (gnum (unit_number u)) gnil
  kind_to (kind.time64 u) = tagged 7 (gnum (unit_number u)) gnil
  kind_to (kind.timestamp u zone) = tagged 8 (gcons (gnum (unit_number u)) (text_to zone)) gnil
  kind_to (kind.duration u) = tagged 9 (gnum (unit_number u)) gnil
  kind_to (kind.interval u) = tagged 10 (gnum (interval_number u)) gnil
  kind_to (kind.decimal p s) = tagged 11 (gcons (gnum p) (gnum s)) gnil
  kind_to (kind.decimal256 p s) = tagged 12 (gcons (gnum p) (gnum s)) gnil
  kind_to (kind.binary o) = tagged 13 (gnum (offsets_number o)) gnil
  kind_to (kind.utf8 o) = tagged 14 (gnum (offsets_number o)) gnil
  kind_to kind.binary_view = tagged 15 gnil gnil
  kind_to kind.utf8_view = tagged 16 gnil gnil
  kind_to (kind.fixed_size_binary n) = tagged 17 (gnum n) gnil
  kind_to (kind.«list» o fs) = tagged 18 (gnum (offsets_number o)) (fields_to fs)
  kind_to (kind.fixed_size_list n fs) = tagged 19 (gnum n) (fields_to fs)
  kind_to (kind.struct fs) = tagged 20 gnil (fields_to fs)
  kind_to (kind.map sorted fs) = tagged 21 (bool_to sorted) (fields_to fs)
  kind_to (kind.union m stated ids fs) = tagged 22 (gcons (gnum (mode_number m)) (gcons (bool_to stated) (ids_to ids))) (fields_to fs)
  kind_to (kind.dictionary i ordered id k) = tagged 23 (gcons (gnum (integer_number i)) (gcons (bool_to ordered) (integer_to id))) (kind_to k)
  kind_to (kind.extension name metadata k) = tagged 24 (gcons (bytes_to name) (text_to metadata)) (kind_to k)

  pub fields_to : Fields → Gv
  fields_to kind.none = gnil
  fields_to (kind.field name nullable metadata k others) =
      gcons (gcons (gcons (bytes_to name) (gcons (bool_to nullable) (pairs_to metadata))) (kind_to k)) (fields_to others)

-- a kind by its tag, what stands beside it, and what stands inside, read as fields and as a kind
abbrev pub shaped : ℕ → Gv → Fields → Kind → Kind
shaped zero h fs k = kind.null
shaped (suc zero) h fs k = kind.boolean
shaped (suc (suc zero)) h fs k = kind.integer (integer_type_from (num h))
shaped (suc (suc (suc zero))) h fs k = kind.float (float_from (num h))
shaped (suc (suc (suc (suc zero)))) h fs k = kind.date32
shaped (suc (suc (suc (suc (suc zero))))) h fs k = kind.date64
shaped (suc (suc (suc (suc (suc (suc zero)))))) h fs k = kind.time32 (unit_from (num h))
shaped (suc (suc (suc (suc (suc (suc (suc zero))))))) h fs k = kind.time64 (unit_from (num h))
shaped (suc (suc (suc (suc (suc (suc (suc (suc zero)))))))) h fs k = kind.timestamp (unit_from (num (head h))) (text_from (tail h))
shaped (suc (suc (suc (suc (suc (suc (suc (suc (suc zero))))))))) h fs k = kind.duration (unit_from (num h))
shaped (suc (suc (suc (suc (suc (suc (suc (suc (suc (suc n)))))))))) h fs k = shaped_flat n h fs k
  where
    shaped_nested : ℕ → Gv → Fields → Kind → Kind
    shaped_nested zero h' fs' k' = kind.«list» (offsets_from (num h')) fs'
    shaped_nested (suc zero) h' fs' k' = kind.fixed_size_list (num h') fs'
    shaped_nested (suc (suc zero)) h' fs' k' = kind.struct fs'
    shaped_nested (suc (suc (suc zero))) h' fs' k' = kind.map (bool_from h') fs'
    shaped_nested (suc (suc (suc (suc zero)))) h' fs' k' = kind.union (mode_from (num (head h'))) (bool_from (head (tail h'))) (ids_from (tail (tail h'))) fs'
    shaped_nested (suc (suc (suc (suc (suc zero))))) h' fs' k' =
        kind.dictionary (integer_type_from (num (head h'))) (bool_from (head (tail h'))) (integer_from (tail (tail h'))) k'
    shaped_nested (suc (suc (suc (suc (suc (suc m)))))) h' fs' k' = kind.extension (bytes_from (head h')) (text_from (tail h')) k'

    shaped_flat : ℕ → Gv → Fields → Kind → Kind
    shaped_flat zero h' fs' k' = kind.interval (interval_from (num h'))
    shaped_flat (suc zero) h' fs' k' = kind.decimal (num (head h')) (num (tail h'))
    shaped_flat (suc (suc zero)) h' fs' k' = kind.decimal256 (num (head h')) (num (tail h'))
    shaped_flat (suc (suc (suc zero))) h' fs' k' = kind.binary (offsets_from (num h'))
    shaped_flat (suc (suc (suc (suc zero)))) h' fs' k' = kind.utf8 (offsets_from (num h'))
    shaped_flat (suc (suc (suc (suc (suc zero))))) h' fs' k' = kind.binary_view
    shaped_flat (suc (suc (suc (suc (suc (suc zero)))))) h' fs' k' = kind.utf8_view
    shaped_flat (suc (suc (suc (suc (suc (suc (suc zero))))))) h' fs' k' = kind.fixed_size_binary (num h')
    shaped_flat (suc (suc (suc (suc (suc (suc (suc (suc m)))))))) h' fs' k' = shaped_nested m h' fs' k'

abbrev mutual
  pub kind_from : Gv → Kind
  kind_from gnil = kind.null
  kind_from (gnum n) = kind.null
  kind_from (gcons h inside) = shaped (num (head h)) (tail h) (fields_back inside) (kind_from inside)

  pub fields_back : Gv → Fields
  fields_back gnil = kind.none
  fields_back (gnum n) = kind.none
  fields_back (gcons gnil others) = kind.none
  fields_back (gcons (gnum n) others) = kind.none
  fields_back (gcons (gcons h k) others) =
      kind.field (bytes_from (head h)) (bool_from (head (tail h))) (pairs_from (tail (tail h))) (kind_from k) (fields_back others)

mutual
  pub kind_from-kind_to : (k : Kind) → kind_from (kind_to k) ≡ k
  kind_from-kind_to (kind.integer i) = ap kind.integer (integer_type_from-integer_number i)
  kind_from-kind_to (kind.float t) = ap kind.float (float_from-float_number t)
  kind_from-kind_to (kind.time32 u) = ap kind.time32 (unit_from-unit_number u)
  kind_from-kind_to (kind.time64 u) = ap kind.time64 (unit_from-unit_number u)
  kind_from-kind_to (kind.timestamp u zone) = rw (unit_from-unit_number u, text_from-text_to zone) refl
  kind_from-kind_to (kind.duration u) = ap kind.duration (unit_from-unit_number u)
  kind_from-kind_to (kind.interval u) = ap kind.interval (interval_from-interval_number u)
  kind_from-kind_to (kind.binary o) = ap kind.binary (offsets_from-offsets_number o)
  kind_from-kind_to (kind.utf8 o) = ap kind.utf8 (offsets_from-offsets_number o)
  kind_from-kind_to (kind.«list» o fs) = rw (offsets_from-offsets_number o, fields_back-fields_to fs) refl
  kind_from-kind_to (kind.fixed_size_list n fs) = ap (kind.fixed_size_list n) (fields_back-fields_to fs)
  kind_from-kind_to (kind.struct fs) = ap kind.struct (fields_back-fields_to fs)
  kind_from-kind_to (kind.map sorted fs) = rw (bool_from-bool_to sorted, fields_back-fields_to fs) refl
  kind_from-kind_to (kind.union m stated ids fs) = rw (mode_from-mode_number m, bool_from-bool_to stated, ids_from-ids_to ids, fields_back-fields_to fs) refl
  kind_from-kind_to (kind.dictionary i ordered id k) =
      rw (integer_type_from-integer_number i, bool_from-bool_to ordered, integer_from-integer_to id, kind_from-kind_to k) refl
  kind_from-kind_to (kind.extension name metadata k) = rw (bytes_from-bytes_to name, text_from-text_to metadata, kind_from-kind_to k) refl
  kind_from-kind_to k = refl

  pub fields_back-fields_to : (fs : Fields) → fields_back (fields_to fs) ≡ fs
  fields_back-fields_to kind.none = refl
  fields_back-fields_to (kind.field name nullable metadata k others) =
      rw (bytes_from-bytes_to name, bool_from-bool_to nullable, pairs_from-pairs_to metadata, kind_from-kind_to k, fields_back-fields_to others) refl

abbrev pub kind_code : Coded Kind
kind_code = code_by Gv itself kind_to kind_from kind_from-kind_to

abbrev pub pairs_code : Coded Metadata
pairs_code = code_by Gv itself pairs_to pairs_from pairs_from-pairs_to

abbrev pub fields_code : Coded Fields
fields_code = code_by Gv itself fields_to fields_back fields_back-fields_to

-- whether two trees are the same
abbrev pub same_tree : Gv → Gv → Bool
same_tree gnil gnil = true
same_tree gnil (gnum n) = false
same_tree gnil (gcons c d) = false
same_tree (gnum m) gnil = false
same_tree (gnum m) (gnum n) = nat_eq m n
same_tree (gnum m) (gcons c d) = false
same_tree (gcons a b) gnil = false
same_tree (gcons a b) (gnum n) = false
same_tree (gcons a b) (gcons c d) = same_tree a c && same_tree b d

pub same_tree_sound : (a b : Gv) → same_tree a b ≡ true → a ≡ b
same_tree_sound gnil gnil h = refl
same_tree_sound gnil (gnum n) h = absurd (true≢false (sym h))
same_tree_sound gnil (gcons c d) h = absurd (true≢false (sym h))
same_tree_sound (gnum m) gnil h = absurd (true≢false (sym h))
same_tree_sound (gnum m) (gnum n) h = ap gnum (eqb-true m n h)
same_tree_sound (gnum m) (gcons c d) h = absurd (true≢false (sym h))
same_tree_sound (gcons a b) gnil h = absurd (true≢false (sym h))
same_tree_sound (gcons a b) (gnum n) h = absurd (true≢false (sym h))
same_tree_sound (gcons a b) (gcons c d) h =
    let p = and_parts (same_tree a c) (same_tree b d) h in
    rw (same_tree_sound a c p.0, same_tree_sound b d p.1) refl

pub same_tree_itself : (a : Gv) → same_tree a a ≡ true
same_tree_itself gnil = refl
same_tree_itself (gnum n) = eq-eqb n n refl
same_tree_itself (gcons a b) = and_from (same_tree a a) (same_tree b b) (same_tree_itself a) (same_tree_itself b)

told : (r s : Bool) → (r ≡ true → s ≡ true) → (s ≡ true → r ≡ true) → r ≡ s
told true true p q = refl
told true false p q = sym (p refl)
told false true p q = q refl
told false false p q = refl

-- a test of two things by their trees: those are the same exactly where the things are
abbrev pub by_tree : {A : Type 0} → (A → Gv) → A → A → Bool
by_tree to x y = same_tree (to x) (to y)

pub by_tree_sound : {A : Type 0} (to : A → Gv) (from : Gv → A) (back : (x : A) → from (to x) ≡ x) (x y : A) → by_tree to x y ≡ true → x ≡ y
by_tree_sound to from back x y h = sym (back x) ∙ ap from (same_tree_sound (to x) (to y) h) ∙ back y

pub by_tree_itself : {A : Type 0} (to : A → Gv) (x y : A) → x ≡ y → by_tree to x y ≡ true
by_tree_itself to x y e = rw e (same_tree_itself (to y))

pub by_tree_told : {A : Type 0} (to : A → Gv) (from : Gv → A) (back : (x : A) → from (to x) ≡ x) (r : Bool) (x y : A) → (r ≡ true → x ≡ y) × (x ≡ y → r ≡ true)
    → r ≡ by_tree to x y
by_tree_told to from back r x y h = told r (by_tree to x y) (λ p. by_tree_itself to x y (h.0 p)) (λ p. h.1 (by_tree_sound to from back x y p))

pub by_tree_equiv : {A : Type 0} (to : A → Gv) (from : Gv → A) (back : (x : A) → from (to x) ≡ x) → IsEquivalence (by_tree to)
by_tree_equiv to from back = record {
  refl = λ x. by_tree_itself to x x refl;
  symm = λ x y. told (by_tree to x y) (by_tree to y x) (λ p. by_tree_itself to y x (sym (by_tree_sound to from back x y p)))
      (λ p. by_tree_itself to x y (sym (by_tree_sound to from back y x p)));
  congr = λ x y z p. ap (λ w. by_tree to w z) (by_tree_sound to from back x y p);
}

-- whether two kinds are the same
unfoldable pub kind_eq : Kind → Kind → Bool
kind_eq = by_tree kind_to

pub kind_eq_told : (r : Bool) (k l : Kind) → (r ≡ true → k ≡ l) × (k ≡ l → r ≡ true) → r ≡ kind_eq k l
unfolding kind_eq
kind_eq_told = by_tree_told kind_to kind_from kind_from-kind_to

pub kind_eq_equiv : IsEquivalence kind_eq
unfolding kind_eq
kind_eq_equiv = by_tree_equiv kind_to kind_from kind_from-kind_to

-- a test that says yes exactly where two things are the same
pub kind_eq_is : (k l : Kind) → (kind_eq k l ≡ true → k ≡ l) × (k ≡ l → kind_eq k l ≡ true)
unfolding kind_eq
kind_eq_is k l = (λ h. by_tree_sound kind_to kind_from kind_from-kind_to k l h, λ e. by_tree_itself kind_to k l e)

-- whether two lists of fields are the same
unfoldable pub fields_eq : Fields → Fields → Bool
fields_eq = by_tree fields_to

pub fields_eq_told : (r : Bool) (k l : Fields) → (r ≡ true → k ≡ l) × (k ≡ l → r ≡ true) → r ≡ fields_eq k l
unfolding fields_eq
fields_eq_told = by_tree_told fields_to fields_back fields_back-fields_to

pub fields_eq_equiv : IsEquivalence fields_eq
unfolding fields_eq
fields_eq_equiv = by_tree_equiv fields_to fields_back fields_back-fields_to

pub fields_eq_is : (k l : Fields) → (fields_eq k l ≡ true → k ≡ l) × (k ≡ l → fields_eq k l ≡ true)
unfolding fields_eq
fields_eq_is k l = (λ h. by_tree_sound fields_to fields_back fields_back-fields_to k l h, λ e. by_tree_itself fields_to k l e)
