-- Types of one kind.
use Rattle.std.proofs.Common.{◌≡◌, ◌≢◌, ◌↔◌, IsTrue, ℕ, zero, suc, ◌+◌, ◌-◌, ◌<◌, ◌≤◌, List, [], ◌∷◌, length, drop, get_or, Bool, true, false, ◌&&◌, Option, Some, None, ℤ, pos, negsuc, refl, sym, ◌∙◌, ap, arith, true≢false}
use Rattle.std.specs.Prelude.{nat_eq}
use lib.Signed.{lt_z}
use lib.IntN.{nat_abs}
use Rattle.std.proofs.Math.Bool.{and-false}
use Rattle.std.proofs.lemmas.Bool.{and_parts, eqb-true}
use Rattle.std.proofs.lemmas.List.{drop_all}
use Rattle.arrow_spec.specs.Kinds as kind
use Rattle.std.proofs.Common.{map}
use Rattle.std.proofs.lemmas.Slice.Eq.{bytes_eq-Decides}
use Rattle.arrow_spec.specs.declared.types.IntegerType.{IntegerType}
use Rattle.arrow_spec.specs.declared.types.TimeUnit.{TimeUnit}
use Rattle.arrow_spec.specs.declared.types.IntervalUnit.{IntervalUnit}
use Rattle.arrow_spec.specs.declared.types.IntervalUnit.TheVariants.{YearMonth, DayTime, MonthDayNano}
use Rattle.arrow_spec.specs.declared.types.UnionMode.{UnionMode}
use Rattle.arrow_spec.specs.Kinds.{Kind, Fields, FloatType, half, single, double, Offsets, small, large, width, same, are_same_ids, is_same_kind, have_same_kinds, is_same_text, is_same_integer, integer_number, is_same_unit, unit_number, is_same_interval, is_same_float, is_same_offsets}
use Rattle.arrow_types.specs.Child.{Child, fields_from}
use Rattle.arrow_types.specs.KindOf.{child_of}
use Rattle.arrow_types.specs.KindCode.{integer_type_from, integer_type_from-integer_number, unit_from, unit_from-unit_number}
use Rattle.arrow_types.specs.declared.data_type.Field.{Field}
use Rattle.ipc_fields.specs.Uses.{first_id, first_ids, other_ids}
use Rattle.ipc_fields.specs.declared.ipc_field.IpcField.{IpcField}
use Rattle.ipc_fields.proofs.Widths.{width_with, leaf_with}
use Rattle.ipc_fields.proofs.Steps.{drop_item}
use Rattle.ipc_fields.proofs.UseSteps.{others_at}
use Rattle.arrow_spec.specs.Schema.{counted_ids}
use Rattle.arrow_types.specs.Leaves.{is_leaf}
use Rattle.ipc_fields.specs.IpcFields.{Ids, no_fields, ids, ids_of, kind_with, fields_with}
use Rattle.arrow_types.proofs.Children.{width_from}
use Rattle.arrow_spec.proofs.SameIds.{id_true, ids_self, ids_true}
use Rattle.arrow_types.proofs.UnionIds.{same_when, same_test, not_true}

pub ids_equal : (x y : ℤ) → x ≡ y → same x y ≡ true
ids_equal x y h = same_when x y h

pub ids_differ : (x y : ℤ) → x ≢ y → same x y ≡ false
ids_differ x y h = not_true (same x y) (λ k. h (id_true x y k))

same_turned : (x y : ℤ) → same x y ≡ same y x
same_turned (pos a) (pos b) = grind arith
same_turned (negsuc a) (negsuc b) = grind arith
same_turned (pos a) (negsuc b) = refl
same_turned (negsuc a) (pos b) = refl

pub same_ids_turned : (xs ys : List ℤ) → are_same_ids xs ys ≡ are_same_ids ys xs
same_ids_turned [] [] = refl
same_ids_turned [] (y ∷ ys) = refl
same_ids_turned (x ∷ xs) [] = refl
same_ids_turned (x ∷ xs) (y ∷ ys) = rw (same_turned x y, same_ids_turned xs ys) refl

pub same_lists : (xs ys : List ℤ) (r : Bool) → (IsTrue r ↔ (xs ≡ ys)) → r ≡ are_same_ids xs ys
same_lists xs ys r h = same_test r (are_same_ids xs ys) (λ t. ap (are_same_ids xs) (sym (h.0 t)) ∙ ids_self xs) (λ t. h.1 (ids_true xs ys t))

counted_lengths : (xs : List ℤ) (i n : ℕ) → length xs ≢ n → are_same_ids xs (counted_ids i n) ≡ false
counted_lengths [] i zero h = absurd (h refl)
counted_lengths [] i (suc n) h = refl
counted_lengths (x ∷ xs) i zero h = refl
counted_lengths (x ∷ xs) i (suc n) h = ap (λ b. same x (pos i) && b) (counted_lengths xs (suc i) n (λ e. h (ap suc e))) ∙ and-false (same x (pos i))

pub counted_apart : (xs : List ℤ) (n : ℕ) → length xs ≢ n → are_same_ids xs (counted_ids 0 n) ≡ false
counted_apart xs n h = counted_lengths xs 0 n h

none_some : (n : ℕ) → false ≡ nat_eq 0 (suc n)
none_some n = grind arith

some_none : (n : ℕ) → false ≡ nat_eq (suc n) 0
some_none n = grind arith

both_some : (m n : ℕ) → nat_eq m n ≡ nat_eq (suc m) (suc n)
both_some m n = grind arith

pub counted_both : (i m n : ℕ) → are_same_ids (counted_ids i m) (counted_ids i n) ≡ nat_eq m n
counted_both i zero zero = refl
counted_both i zero (suc n) = none_some n
counted_both i (suc m) zero = some_none m
counted_both i (suc m) (suc n) = ap (λ b. b && are_same_ids (counted_ids (suc i) m) (counted_ids (suc i) n)) (same_when (pos i) (pos i) refl) ∙ counted_both (suc i) m n ∙ both_some m n

-- ── ids that are looked at one after another ──

unfoldable pub counted_left : List ℤ → ℕ → ℕ → Bool
counted_left xs i n = are_same_ids (drop i xs) (counted_ids i (n - i))

pub counted_begun : (xs : List ℤ) (n : ℕ) → counted_left xs 0 n ≡ are_same_ids xs (counted_ids 0 n)
unfolding counted_left
counted_begun xs n = let e : n - 0 ≡ n = omega arith in ap (λ k. are_same_ids xs (counted_ids 0 k)) e

counted_at : (xs : List ℤ) (i n : ℕ) (x d : ℤ) → i < n → length xs ≡ n → x ≡ get_or xs i d → counted_left xs i n ≡ (same x (pos i) && counted_left xs (i + 1) n)
unfolding counted_left
counted_at xs i n x d less len e =
    let count : n - i ≡ suc (n - (i + 1)) = omega arith in
    let next : i + 1 ≡ suc i = omega arith in
    let below : i < length xs = omega (arith, len) in
    let here : drop i xs ≡ x ∷ drop (i + 1) xs = drop_item xs i x d below e in
    ap (λ k. are_same_ids (drop i xs) (counted_ids i k)) count ∙ ap (λ ys. are_same_ids ys (counted_ids i (suc (n - (i + 1))))) here ∙ ap (λ k. same x (pos i) && are_same_ids (drop (i + 1) xs) (counted_ids k (n - (i + 1)))) (sym next)

pub counted_more : (xs : List ℤ) (i n : ℕ) (x d : ℤ) (whole : Bool) → i < n → length xs ≡ n → x ≡ get_or xs i d → counted_left xs i n ≡ whole → x ≡ pos i → counted_left xs (i + 1) n ≡ whole
counted_more xs i n x d whole less len e h same = sym (counted_at xs i n x d less len e ∙ ap (λ b. b && counted_left xs (i + 1) n) (same_when x (pos i) same)) ∙ h

pub counted_wrong : (xs : List ℤ) (i n : ℕ) (x d : ℤ) (whole : Bool) → i < n → length xs ≡ n → x ≡ get_or xs i d → counted_left xs i n ≡ whole → x ≢ pos i → whole ≡ false
counted_wrong xs i n x d whole less len e h apart = sym h ∙ counted_at xs i n x d less len e ∙ ap (λ b. b && counted_left xs (i + 1) n) (ids_differ x (pos i) apart)

pub counted_done : (xs : List ℤ) (i n : ℕ) (whole : Bool) → n ≤ i → length xs ≡ n → counted_left xs i n ≡ whole → whole ≡ true
unfolding counted_left
counted_done xs i n whole less len h =
    let count : n - i ≡ 0 = omega arith in
    let none : drop i xs ≡ [] = drop_all i xs (omega (arith, len)) in
    sym h ∙ ap (λ k. are_same_ids (drop i xs) (counted_ids i k)) count ∙ ap (λ ys. are_same_ids ys []) none

-- ── kinds without children ──

pub number_self : (n : ℕ) → nat_eq n n ≡ true
number_self n = grind arith

pub text_self : (z : Option (List ℕ)) → is_same_text z z ≡ true
text_self None = refl
text_self (Some x) = (bytes_eq-Decides x x).1 refl

pub text_true : (y z : Option (List ℕ)) → is_same_text y z ≡ true → y ≡ z
text_true None None h = refl
text_true None (Some x) h = cc
text_true (Some x) None h = cc
text_true (Some x) (Some y) h = ap Some ((bytes_eq-Decides x y).0 h)

pub integer_true : (i j : IntegerType) → is_same_integer i j ≡ true → i ≡ j
integer_true i j h = sym (integer_type_from-integer_number i) ∙ ap integer_type_from (eqb-true _ _ h) ∙ integer_type_from-integer_number j

unit_true : (u v : TimeUnit) → is_same_unit u v ≡ true → u ≡ v
unit_true u v h = sym (unit_from-unit_number u) ∙ ap unit_from (eqb-true _ _ h) ∙ unit_from-unit_number v

interval_true : (u v : IntervalUnit) → is_same_interval u v ≡ true → u ≡ v
interval_true YearMonth YearMonth h = refl
interval_true YearMonth v h = cc
interval_true DayTime DayTime h = refl
interval_true DayTime v h = cc
interval_true MonthDayNano MonthDayNano h = refl
interval_true MonthDayNano v h = cc

interval_self : (u : IntervalUnit) → is_same_interval u u ≡ true
interval_self YearMonth = refl
interval_self DayTime = refl
interval_self MonthDayNano = refl

float_true : (s t : FloatType) → is_same_float s t ≡ true → s ≡ t
float_true half half h = refl
float_true half t h = cc
float_true single single h = refl
float_true single t h = cc
float_true double double h = refl
float_true double t h = cc

float_self : (t : FloatType) → is_same_float t t ≡ true
float_self half = refl
float_self single = refl
float_self double = refl

pub offsets_true : (o q : Offsets) → is_same_offsets o q ≡ true → o ≡ q
offsets_true small small h = refl
offsets_true small large h = cc
offsets_true large small h = cc
offsets_true large large h = refl

pub offsets_self : (o : Offsets) → is_same_offsets o o ≡ true
offsets_self small = refl
offsets_self large = refl

pub leaf_self : (k : Kind) → is_leaf k ≡ true → is_same_kind k k ≡ true
leaf_self (kind.integer i) h = number_self (integer_number i)
leaf_self (kind.float t) h = float_self t
leaf_self (kind.time32 u) h = number_self (unit_number u)
leaf_self (kind.time64 u) h = number_self (unit_number u)
leaf_self (kind.timestamp u z) h = rw (number_self (unit_number u), text_self z) refl
leaf_self (kind.duration u) h = number_self (unit_number u)
leaf_self (kind.interval u) h = interval_self u
leaf_self (kind.decimal p s) h = rw (number_self p, number_self s) refl
leaf_self (kind.decimal256 p s) h = rw (number_self p, number_self s) refl
leaf_self (kind.binary o) h = offsets_self o
leaf_self (kind.utf8 o) h = offsets_self o
leaf_self (kind.fixed_size_binary n) h = number_self n
leaf_self (kind.«list» o fs) h = cc
leaf_self (kind.fixed_size_list n fs) h = cc
leaf_self (kind.struct fs) h = cc
leaf_self (kind.map sorted fs) h = cc
leaf_self (kind.union mode stated types fs) h = cc
leaf_self (kind.dictionary index ordered old k) h = cc
leaf_self (kind.extension name metadata k) h = cc
leaf_self k h = refl

pub leaf_true : (k l : Kind) → is_leaf k ≡ true → is_same_kind k l ≡ true → k ≡ l
leaf_true kind.null kind.null h g = refl
leaf_true kind.boolean kind.boolean h g = refl
leaf_true kind.date32 kind.date32 h g = refl
leaf_true kind.date64 kind.date64 h g = refl
leaf_true kind.binary_view kind.binary_view h g = refl
leaf_true kind.utf8_view kind.utf8_view h g = refl
leaf_true (kind.integer i) (kind.integer j) h g = ap kind.integer (integer_true i j g)
leaf_true (kind.float i) (kind.float j) h g = ap kind.float (float_true i j g)
leaf_true (kind.time32 i) (kind.time32 j) h g = ap kind.time32 (unit_true i j g)
leaf_true (kind.time64 i) (kind.time64 j) h g = ap kind.time64 (unit_true i j g)
leaf_true (kind.duration i) (kind.duration j) h g = ap kind.duration (unit_true i j g)
leaf_true (kind.interval i) (kind.interval j) h g = ap kind.interval (interval_true i j g)
leaf_true (kind.binary i) (kind.binary j) h g = ap kind.binary (offsets_true i j g)
leaf_true (kind.utf8 i) (kind.utf8 j) h g = ap kind.utf8 (offsets_true i j g)
leaf_true (kind.fixed_size_binary i) (kind.fixed_size_binary j) h g = ap kind.fixed_size_binary (eqb-true i j g)
leaf_true (kind.timestamp u y) (kind.timestamp v z) h g =
    let p = and_parts _ _ g in
    ap (λ x. kind.timestamp x y) (unit_true u v p.0) ∙ ap (kind.timestamp v) (text_true y z p.1)
leaf_true (kind.decimal p s) (kind.decimal q t) h g =
    let e = and_parts _ _ g in
    ap (λ x. kind.decimal x s) (eqb-true p q e.0) ∙ ap (kind.decimal q) (eqb-true s t e.1)
leaf_true (kind.decimal256 p s) (kind.decimal256 q t) h g =
    let e = and_parts _ _ g in
    ap (λ x. kind.decimal256 x s) (eqb-true p q e.0) ∙ ap (kind.decimal256 q) (eqb-true s t e.1)
leaf_true k l h g = cc

leaf_list : (k : Kind) (o : Offsets) (fs gs : Fields) → is_leaf k ≡ true → is_same_kind k (kind.«list» o fs) ≡ is_same_kind k (kind.«list» o gs)
leaf_list (kind.«list» p hs) o fs gs h = cc
leaf_list k o fs gs h = refl

leaf_fixed : (k : Kind) (n : ℕ) (fs gs : Fields) → is_leaf k ≡ true → is_same_kind k (kind.fixed_size_list n fs) ≡ is_same_kind k (kind.fixed_size_list n gs)
leaf_fixed (kind.fixed_size_list m hs) n fs gs h = cc
leaf_fixed k n fs gs h = refl

leaf_struct : (k : Kind) (fs gs : Fields) → is_leaf k ≡ true → is_same_kind k (kind.struct fs) ≡ is_same_kind k (kind.struct gs)
leaf_struct (kind.struct hs) fs gs h = cc
leaf_struct k fs gs h = refl

leaf_map : (k : Kind) (sorted : Bool) (fs gs : Fields) → is_leaf k ≡ true → is_same_kind k (kind.map sorted fs) ≡ is_same_kind k (kind.map sorted gs)
leaf_map (kind.map s hs) sorted fs gs h = cc
leaf_map k sorted fs gs h = refl

leaf_union : (k : Kind) (mode : UnionMode) (stated : Bool) (types : List ℤ) (fs gs : Fields) → is_leaf k ≡ true → is_same_kind k (kind.union mode stated types fs) ≡ is_same_kind k (kind.union mode stated types gs)
leaf_union (kind.union m s t hs) mode stated types fs gs h = cc
leaf_union k mode stated types fs gs h = refl

leaf_dictionary : (k : Kind) (i : IntegerType) (ordered : Bool) (x y : ℤ) (l m : Kind) → is_leaf k ≡ true → is_same_kind k (kind.dictionary i ordered x l) ≡ is_same_kind k (kind.dictionary i ordered y m)
leaf_dictionary (kind.dictionary j o z n) i ordered x y l m h = cc
leaf_dictionary k i ordered x y l m h = refl

leaf_extension : (k : Kind) (name : List ℕ) (metadata : Option (List ℕ)) (l m : Kind) → is_leaf k ≡ true → is_same_kind k (kind.extension name metadata l) ≡ is_same_kind k (kind.extension name metadata m)
leaf_extension (kind.extension n x j) name metadata l m h = cc
leaf_extension k name metadata l m h = refl

-- a kind without children is the same as another with ids where it is the same as that without
leaf_other : (k l : Kind) (id : Option ℤ) (below : Ids) → is_leaf k ≡ true → is_same_kind k (kind_with l id below) ≡ is_same_kind k l
leaf_other k (kind.«list» o fs) id below h = leaf_list k o (fields_with fs below) fs h
leaf_other k (kind.fixed_size_list n fs) id below h = leaf_fixed k n (fields_with fs below) fs h
leaf_other k (kind.struct fs) id below h = leaf_struct k (fields_with fs below) fs h
leaf_other k (kind.map sorted fs) id below h = leaf_map k sorted (fields_with fs below) fs h
leaf_other k (kind.union mode stated types fs) id below h = leaf_union k mode stated types (fields_with fs below) fs h
leaf_other k (kind.dictionary i ordered old l) id below h = leaf_dictionary k i ordered _ old _ l h
leaf_other k (kind.extension name metadata l) id below h = leaf_extension k name metadata _ l h
leaf_other k l id below h = refl

pub leaf_same : (k l : Kind) (i j : Option ℤ) (below others : Ids) (r : Bool) → is_leaf k ≡ true → (IsTrue r ↔ (k ≡ l)) → r ≡ is_same_kind (kind_with k i below) (kind_with l j others)
leaf_same k l i j below others r h t =
    same_test r (is_same_kind k l) (λ g. ap (is_same_kind k) (sym (t.0 g)) ∙ leaf_self k h) (λ g. t.1 (leaf_true k l h g))
    ∙ sym (leaf_other k l j others h) ∙ ap (λ x. is_same_kind x (kind_with l j others)) (sym (leaf_with k i below h))

-- ── fields ──

differ : (fs gs : Fields) → width fs ≢ width gs → have_same_kinds fs gs ≡ false
differ kind.none kind.none h = absurd (h refl)
differ kind.none (kind.field n c y l gs) h = refl
differ (kind.field m b x k fs) kind.none h = refl
differ (kind.field m b x k fs) (kind.field n c y l gs) h = ap (λ r. is_same_kind k l && r) (differ fs gs (λ e. h (ap suc e))) ∙ and-false (is_same_kind k l)

pub lengths_differ : (xs ys : List Field) (A B : Ids) → length xs ≢ length ys → have_same_kinds (fields_with (fields_from (map child_of xs)) A) (fields_with (fields_from (map child_of ys)) B) ≡ false
lengths_differ xs ys A B h = differ _ _ (λ e. h (sym (width_from child_of xs) ∙ sym (width_with (fields_from (map child_of xs)) A) ∙ e ∙ width_with (fields_from (map child_of ys)) B ∙ width_from child_of ys))

abbrev pub fields_left : List Field → List IpcField → ℕ → Fields
fields_left xs fs i = fields_with (fields_from (map child_of (drop i xs))) (ids_of (drop i fs))

abbrev pub kind_at : Field → List IpcField → ℕ → Kind
kind_at x fs i = kind_with (child_of x).kind (first_id (ids_of (drop i fs))) (first_ids (ids_of (drop i fs)))

first_kinds : (c d : Child) (fs gs : Fields) (A B : Ids) → have_same_kinds (fields_with (kind.field c.name c.nullable c.metadata c.kind fs) A) (fields_with (kind.field d.name d.nullable d.metadata d.kind gs) B) ≡ (is_same_kind (kind_with c.kind (first_id A) (first_ids A)) (kind_with d.kind (first_id B) (first_ids B)) && have_same_kinds (fields_with fs (other_ids A)) (fields_with gs (other_ids B)))
first_kinds c d fs gs no_fields no_fields = refl
first_kinds c d fs gs no_fields (ids i a b) = refl
first_kinds c d fs gs (ids i a b) no_fields = refl
first_kinds c d fs gs (ids i a b) (ids j e f) = refl

left_at : (xs : List Field) (fs : List IpcField) (i : ℕ) (x : Field) → i < length xs → x ≡ get_or xs i x → fields_left xs fs i ≡ fields_with (kind.field (child_of x).name (child_of x).nullable (child_of x).metadata (child_of x).kind (fields_from (map child_of (drop (i + 1) xs)))) (ids_of (drop i fs))
left_at xs fs i x h e = ap (λ ys. fields_with (fields_from (map child_of ys)) (ids_of (drop i fs))) (drop_item xs i x x h e)

kinds_at : (xs ys : List Field) (fs gs : List IpcField) (i : ℕ) (x y : Field) → i < length xs → i < length ys → x ≡ get_or xs i x → y ≡ get_or ys i y → have_same_kinds (fields_left xs fs i) (fields_left ys gs i) ≡ (is_same_kind (kind_at x fs i) (kind_at y gs i) && have_same_kinds (fields_left xs fs (i + 1)) (fields_left ys gs (i + 1)))
kinds_at xs ys fs gs i x y h g e d =
    let rest = fields_from (map child_of (drop (i + 1) xs)) in
    let others = fields_from (map child_of (drop (i + 1) ys)) in
    ap (λ k. have_same_kinds k (fields_left ys gs i)) (left_at xs fs i x h e)
    ∙ ap (λ k. have_same_kinds (fields_with (kind.field (child_of x).name (child_of x).nullable (child_of x).metadata (child_of x).kind rest) (ids_of (drop i fs))) k) (left_at ys gs i y g d)
    ∙ first_kinds (child_of x) (child_of y) rest others (ids_of (drop i fs)) (ids_of (drop i gs))
    ∙ ap (λ b. is_same_kind (kind_at x fs i) (kind_at y gs i) && have_same_kinds (fields_with rest b) (fields_with others (other_ids (ids_of (drop i gs))))) (others_at fs i)
    ∙ ap (λ b. is_same_kind (kind_at x fs i) (kind_at y gs i) && have_same_kinds (fields_left xs fs (i + 1)) (fields_with others b)) (others_at gs i)

pub kinds_more : (xs ys : List Field) (fs gs : List IpcField) (i : ℕ) (x y : Field) (whole : Bool) → i < length xs → i < length ys → x ≡ get_or xs i x → y ≡ get_or ys i y → have_same_kinds (fields_left xs fs i) (fields_left ys gs i) ≡ whole → is_same_kind (kind_at x fs i) (kind_at y gs i) ≡ true → have_same_kinds (fields_left xs fs (i + 1)) (fields_left ys gs (i + 1)) ≡ whole
kinds_more xs ys fs gs i x y whole h g e d w same = sym (kinds_at xs ys fs gs i x y h g e d ∙ ap (λ b. b && have_same_kinds (fields_left xs fs (i + 1)) (fields_left ys gs (i + 1))) same) ∙ w

pub kinds_wrong : (xs ys : List Field) (fs gs : List IpcField) (i : ℕ) (x y : Field) (whole : Bool) → i < length xs → i < length ys → x ≡ get_or xs i x → y ≡ get_or ys i y → have_same_kinds (fields_left xs fs i) (fields_left ys gs i) ≡ whole → is_same_kind (kind_at x fs i) (kind_at y gs i) ≡ false → whole ≡ false
kinds_wrong xs ys fs gs i x y whole h g e d w apart = sym w ∙ kinds_at xs ys fs gs i x y h g e d ∙ ap (λ b. b && have_same_kinds (fields_left xs fs (i + 1)) (fields_left ys gs (i + 1))) apart

-- ── a number that is looked at by its sign and its size ──

pub negative_apart : (z : ℤ) (i : ℕ) → lt_z z (pos 0) ≡ true → z ≢ pos i
negative_apart (pos n) i h = λ e. true≢false (sym h ∙ not_negative n)
  where
    not_negative : (k : ℕ) → lt_z (pos k) (pos 0) ≡ false
    not_negative k = grind arith
negative_apart (negsuc n) i h = λ e. cc

pub size_apart : (z : ℤ) (i : ℕ) → (nat_abs z ≡ i → ⊥) → z ≢ pos i
size_apart z i h = λ e. h (ap nat_abs e)

pub size_same : (z : ℤ) (i : ℕ) → lt_z z (pos 0) ≡ false → nat_abs z ≡ i → z ≡ pos i
size_same (pos n) i h g = ap pos g
size_same (negsuc n) i h g = cc
