-- The rows of several parts, one by one.
use Rattle.std.proofs.Common.{◌≡◌, ◌∙◌, ℕ, zero, suc, ◌+◌, ◌-◌, ◌<◌, ◌≤◌, List, [], ◌∷◌, ◌++◌, None, length, take, drop, get_or, Bool, IsTrue, ◌↔◌, true, false, refl, sym, ap, subst, arith, inl, inr, ◌⊎◌, append-nil, append_assoc, length-append}
use Rattle.std.specs.Prelude.{nat_le}
use Rattle.std.proofs.lemmas.Bool.Decides.{leb_tells}
use Rattle.std.proofs.lemmas.List.{ext_get_or, get_or-append-add, get_or-drop, get_or-take, get_or_append_left, length-take-le, take_more}
use Rattle.arrow_spec.specs.Arrays.{from_on}
use Rattle.arrow_spec.specs.Cells.{Cell, null}
use Rattle.same_rows.proofs.Below.{length-from_on, length-part}
use Rattle.same_rows.specs.Below.{part}
use Rattle.arrow_arrays.specs.Parts.{cells_in, fault_each, fault_in, rows_in}
use Rattle.arrow_arrays.specs.PartsOf.{forest_of, parts_of}
use Rattle.arrow_arrays.specs.declared.array.Array.{Array}
use Rattle.arrow_arrays.proofs.Forests.{one_more_sound}
use Rattle.arrow_arrays.proofs.Sliced.{length-cells, neither}
use Rattle.laws_unify.specs.Over.{values_of}
use Rattle.dictionary_places.specs.Places.{AreRows, AreSame, place, places_from}
use Rattle.dictionary_places.specs.declared.rows.Place.{Place}

-- one item more
pub from_on_more : {A : Type 0} (f : ℕ → A) (i n : ℕ) → from_on f i (n + 1) ≡ from_on f i n ++ f (i + n) ∷ []
from_on_more f i n = let e : n + 1 ≡ suc n = omega arith in ap (from_on f i) e ∙ end f i n
  where
    end : {A : Type 0} (f : ℕ → A) (i n : ℕ) → from_on f i (suc n) ≡ from_on f i n ++ f (i + n) ∷ []
    end f i zero = let e : i ≡ i + 0 = omega arith in ap (λ k. f k ∷ []) e
    end f i (suc n) =
        let e : suc i + n ≡ i + suc n = omega arith in
        ap (λ l. f i ∷ l) (end f (suc i) n ∙ ap (λ k. from_on f (suc i) n ++ f k ∷ []) e)

get-from_on : {A : Type 0} (f : ℕ → A) (i n j : ℕ) (d : A) → j < n → get_or (from_on f i n) j d ≡ f (i + j)
get-from_on f i zero j d h = absurd (omega (arith, h))
get-from_on f i (suc n) zero d h = let e : i ≡ i + 0 = omega arith in ap f e
get-from_on f i (suc n) (suc j) d h = let e : suc i + j ≡ i + suc j = omega arith in get-from_on f (suc i) n j d (omega (arith, h)) ∙ ap f e

-- ── one part more ──

pub more_places : (k : ℕ) (xs : List Array) (y : Array) → places_from k (xs ++ y ∷ []) ≡ places_from k xs ++ from_on (place (k + length xs)) 0 (rows_in (parts_of y))
more_places k [] y =
    let e : k ≡ k + 0 = omega arith in
    append-nil (from_on (place k) 0 (rows_in (parts_of y))) ∙ ap (λ n. from_on (place n) 0 (rows_in (parts_of y))) e
more_places k (x ∷ xs) y =
    let first = from_on (place k) 0 (rows_in (parts_of x)) in
    let e : suc k + length xs ≡ k + length (x ∷ xs) = omega arith in
    ap (λ zs. first ++ zs) (more_places (suc k) xs y ∙ ap (λ n. places_from (suc k) xs ++ from_on (place n) 0 (rows_in (parts_of y))) e)
    ∙ sym (append_assoc first (places_from (suc k) xs) (from_on (place (k + length (x ∷ xs))) 0 (rows_in (parts_of y))))

pub next_places : (xs : List Array) (i : ℕ) (x : Array) → i < length xs → x ≡ get_or xs i x → places_from 0 (take (i + 1) xs) ≡ places_from 0 (take i xs) ++ from_on (place i) 0 (rows_in (parts_of x))
next_places xs i x h e =
    let n : 0 + length (take i xs) ≡ i = omega (arith, length-take-le i xs (omega (arith, h))) in
    ap (places_from 0) (take_more xs i x h ∙ ap (λ y. take i xs ++ y ∷ []) (sym e)) ∙ more_places 0 (take i xs) x ∙ ap (λ k. places_from 0 (take i xs) ++ from_on (place k) 0 (rows_in (parts_of x))) n

-- ── how many ──

pub count_places : (k : ℕ) (xs : List Array) → fault_each (forest_of xs) ≡ None → length (places_from k xs) ≡ length (values_of (forest_of xs))
count_places k [] f = refl
count_places k (x ∷ xs) f =
    let s = neither (fault_in (parts_of x)) (fault_each (forest_of xs)) f in
    let first = from_on (place k) 0 (rows_in (parts_of x)) in
    let own : length first ≡ rows_in (parts_of x) = length-from_on (place k) 0 (rows_in (parts_of x)) in
    let cells : length (cells_in (parts_of x)) ≡ rows_in (parts_of x) = length-cells (parts_of x) s.0 in
    let others = count_places (suc k) xs s.1 in
    let a = length-append first (places_from (suc k) xs) in
    let b = length-append (cells_in (parts_of x)) (values_of (forest_of xs)) in
    omega (arith, own, cells, others, a, b)

pub rows_count : (xs : List Array) (places : List Place) → AreRows xs places → length places ≡ length (values_of (forest_of xs))
rows_count xs places r = ap length r.are ∙ count_places 0 xs r.sound

-- ── a row ──

-- a place is one of an array's rows, and its cell and those behind it in the array stand among all rows from there on
pub record RowThere (xs : List Array) (i : ℕ) (p : Place) (x : Array) : Type 0 where
  pub below : p.row < rows_in (parts_of x)
  pub onward : (k : ℕ) → p.row + k < rows_in (parts_of x) → get_or (values_of (forest_of xs)) (i + k) null ≡ get_or (cells_in (parts_of x)) (p.row + k) null
  pub sound : fault_in (parts_of x) ≡ None

record FoundAt (k : ℕ) (xs : List Array) (i : ℕ) (p : Place) : Type 0 where
  number : ℕ
  part_is : p.part ≡ k + number
  inside : number < length xs
  there : (x : Array) → x ≡ get_or xs number x → RowThere xs i p x

found : (k : ℕ) (xs : List Array) (i : ℕ) (d : Place) → fault_each (forest_of xs) ≡ None → i < length (places_from k xs) → FoundAt k xs i (get_or (places_from k xs) i d)
found k [] i d f h = absurd (omega (arith, h))
found k (x ∷ xs) i d f h = by (leb_tells (suc i) (rows_in (parts_of x))) (neither (fault_in (parts_of x)) (fault_each (forest_of xs)) f) (λ j g below. found (suc k) xs j d g below)
  where
    rows : ℕ
    rows = rows_in (parts_of x)

    first : List Place
    first = from_on (place k) 0 rows

    others : List Place
    others = places_from (suc k) xs

    own : length first ≡ rows
    own = length-from_on (place k) 0 rows

    by : ((nat_le (suc i) rows ≡ true) × (suc i ≤ rows)) ⊎ ((nat_le (suc i) rows ≡ false) × (rows < suc i)) → (fault_in (parts_of x) ≡ None) × (fault_each (forest_of xs) ≡ None)
        → ((j : ℕ) → fault_each (forest_of xs) ≡ None → j < length others → FoundAt (suc k) xs j (get_or others j d)) → FoundAt k (x ∷ xs) i (get_or (first ++ others) i d)
    by (inl t) s again =
        let lt : i < rows = omega (arith, t.1) in
        let cells : length (cells_in (parts_of x)) ≡ rows = length-cells (parts_of x) s.0 in
        let zero_on : 0 + i ≡ i = omega arith in
        let at : get_or (first ++ others) i d ≡ place k i = get_or_append_left first others d i (omega (arith, own, lt)) ∙ get-from_on (place k) 0 rows i d lt ∙ ap (place k) zero_on in
        let here : RowThere (x ∷ xs) i (place k i) x = record { below = lt; onward = λ m below. get_or_append_left (cells_in (parts_of x)) (values_of (forest_of xs)) null (i + m) (omega (arith, cells, below)); sound = s.0 } in
        subst (λ p. FoundAt k (x ∷ xs) i p) (sym at) (record { number = 0; part_is = omega arith; inside = omega arith; there = λ y e. subst (λ z. RowThere (x ∷ xs) i (place k i) z) (sym e) here })
    by (inr t) s again =
        let ge : rows ≤ i = omega (arith, t.1) in
        let cells : length (cells_in (parts_of x)) ≡ rows = length-cells (parts_of x) s.0 in
        let e1 : length first + (i - rows) ≡ i = omega (arith, own, ge) in
        let at : get_or (first ++ others) i d ≡ get_or others (i - rows) d = ap (λ n. get_or (first ++ others) n d) (sym e1) ∙ get_or-append-add first others (i - rows) d in
        let n = length-append first others in
        let f = again (i - rows) s.1 (omega (arith, h, n, own, ge)) in
        let later : (n : ℕ) → get_or (cells_in (parts_of x) ++ values_of (forest_of xs)) (i + n) null ≡ get_or (values_of (forest_of xs)) (i - rows + n) null =
        λ n. (let e2 : i + n ≡ length (cells_in (parts_of x)) + (i - rows + n) = omega (arith, cells, ge) in
        ap (λ m. get_or (cells_in (parts_of x) ++ values_of (forest_of xs)) m null) e2 ∙ get_or-append-add (cells_in (parts_of x)) (values_of (forest_of xs)) (i - rows + n) null) in
        subst (λ p. FoundAt k (x ∷ xs) i p) (sym at) (record {
          number = suc f.number;
          part_is = omega (arith, f.part_is);
          inside = omega (arith, f.inside);
          there = λ y e. (let r = f.there y e in record { below = r.below; onward = λ n below. later n ∙ r.onward n below; sound = r.sound });
        })

-- a place that is one of the rows'
pub record IsRow (xs : List Array) (i : ℕ) (p : Place) : Type 0 where
  pub inside : p.part < length xs
  pub there : (x : Array) → x ≡ get_or xs p.part x → RowThere xs i p x

pub row_at : (xs : List Array) (places : List Place) (i : ℕ) (d : Place) → AreRows xs places → i < length places → IsRow xs i (get_or places i d)
row_at xs places i d r h =
    let n : i < length (places_from 0 xs) = omega (arith, h, ap length r.are) in
    let f = found 0 xs i d r.sound n in
    let zero_on : 0 + f.number ≡ f.number = omega arith in
    let part_is : (get_or (places_from 0 xs) i d).part ≡ f.number = f.part_is ∙ zero_on in
    subst (λ ps. IsRow xs i (get_or ps i d)) (sym r.are) (record { inside = omega (arith, part_is, f.inside); there = λ x e. f.there x (e ∙ ap (λ k. get_or xs k x) part_is) })

-- ── rows of one part ──

get_part : (xs : List Cell) (o n k : ℕ) → k < n → get_or (part o n xs) k null ≡ get_or xs (o + k) null
get_part xs o n k h = get_or-take n (drop o xs) k null h ∙ get_or-drop o xs k null

-- rows of two parts are the same where their cells are so one by one
pub same_run : (r : Bool) (xs ys : List Array) (i j n : ℕ) (p q : Place) (x y : Array) → RowThere xs i p x → RowThere ys j q y → p.row + n ≤ rows_in (parts_of x) → q.row + n ≤ rows_in (parts_of y)
    → (IsTrue r ↔ (part p.row n (cells_in (parts_of x)) ≡ part q.row n (cells_in (parts_of y)))) → IsTrue r ↔ AreSame (values_of (forest_of xs)) i (values_of (forest_of ys)) j n
same_run r xs ys i j n p q x y a b l m h =
    let us = cells_in (parts_of x) in
    let vs = cells_in (parts_of y) in
    let here : length (part p.row n us) ≡ n = length-part us p.row n (omega (arith, l, length-cells (parts_of x) a.sound)) in
    let there : length (part q.row n vs) ≡ n = length-part vs q.row n (omega (arith, m, length-cells (parts_of y) b.sound)) in (
      λ t k lt. a.onward k (omega (arith, lt, l)) ∙ sym (get_part us p.row n k lt) ∙ ap (λ cs. get_or cs k null) (h.0 t) ∙ get_part vs q.row n k lt ∙ sym (b.onward k (omega (arith, lt, m))),
      λ s. h.1 (ext_get_or null (part p.row n us) (part q.row n vs) (here ∙ sym there) (λ k lt.
          let below : k < n = omega (arith, here, lt) in
          get_part us p.row n k below ∙ sym (a.onward k (omega (arith, below, l))) ∙ s k below ∙ b.onward k (omega (arith, below, m)) ∙ sym (get_part vs q.row n k below))),
    )

-- so are two single rows
pub same_rows : (r : Bool) (xs ys : List Array) (i j : ℕ) (p q : Place) (x y : Array) → RowThere xs i p x → RowThere ys j q y → (IsTrue r ↔ (part p.row 1 (cells_in (parts_of x)) ≡ part q.row 1 (cells_in (parts_of y))))
    → IsTrue r ↔ (get_or (values_of (forest_of xs)) i null ≡ get_or (values_of (forest_of ys)) j null)
same_rows r xs ys i j p q x y a b h =
    let run = same_run r xs ys i j 1 p q x y a b (omega (arith, a.below)) (omega (arith, b.below)) h in
    let first : (us vs : List Cell) (k : ℕ) → k < 1 → get_or us i null ≡ get_or vs j null → get_or us (i + k) null ≡ get_or vs (j + k) null = λ us vs k lt e. ap (λ m. get_or us m null) (omega arith) ∙ e ∙ ap (λ m. get_or vs m null) (omega arith) in (
      λ t. ap (λ m. get_or (values_of (forest_of xs)) m null) (omega arith) ∙ run.0 t 0 (omega arith) ∙ ap (λ m. get_or (values_of (forest_of ys)) m null) (omega arith),
      λ e. run.1 (λ k lt. first (values_of (forest_of xs)) (values_of (forest_of ys)) k lt e),
    )

-- ── all rows ──

pub no_rows : AreRows [] []
no_rows = record { are = refl; sound = refl }

pub next_sound : (xs : List Array) (i : ℕ) (x : Array) → i < length xs → x ≡ get_or xs i x → fault_each (forest_of (take i xs)) ≡ None → fault_in (parts_of x) ≡ None → fault_each (forest_of (take (i + 1) xs)) ≡ None
next_sound xs i x h e f g = ap (λ ys. fault_each (forest_of ys)) (take_more xs i x h ∙ ap (λ y. take i xs ++ y ∷ []) (sym e)) ∙ one_more_sound (take i xs) x f g
