-- Dictionaries that are held as views, and rows of their parts.
use Rattle.std.proofs.Common.{◌≡◌, ◌⊎◌, inl, inr, ℕ, zero, suc, ◌+◌, ◌-◌, ◌≤◌, ◌<◌, List, [], ◌∷◌, ◌++◌, length, map, Bool, true, false, cond, Option, Some, None, ℤ, pos, negsuc, slice_get, sum_by, refl, sym, ap, subst, ◌∙◌, arith}
use Rattle.std.specs.Prelude.{nat_eq, nat_lt, if◌then◌else◌, not}
use Rattle.std.specs.Option.{is_some, option_map}
use Rattle.std.specs.Ordering.{int_cmp, is_eq}
use Rattle.std.specs.declared.cmp.Ordering.TheVariants.{Less, Equal, Greater}
use Rattle.std.proofs.lemmas.Bool.Decides.{eqb_tells}
use Rattle.std.specs.BTreeMap.{BTreeMap}
use Rattle.std.specs.Map.{lookup}
use Rattle.std.specs.declared.alloc.Global.{Global}
use Rattle.std.specs.declared.vec.Vec.{Vec}
use Rattle.std.proofs.lemmas.Bool.{eqb-true, ltb-true, ltb-false, lt-ltb, le-ltb}
use Rattle.std.proofs.lemmas.List.{length-append}
use Rattle.std.proofs.lemmas.List.Sums.{sum_by-cons}
use Rattle.arrow_spec.specs.Kinds.{same}
use Rattle.arrow_spec.specs.Readings.{is_absent}
use Rattle.arrow_spec.specs.Arrays.{Dictionaries, cell_or_null, found}
use Rattle.arrow_arrays.specs.Heads.{joined}
use Rattle.arrow_arrays.proofs.CellRows.{get-row}
use Rattle.arrow_buffers.proofs.Parts.{length-from_on}
use Rattle.view_types.specs.Views.{View, views, cell_among, cell_of, cells_each, cells_in, rows_at, rows_each, rows_of}
use Rattle.view_types.specs.Spans.{part_among}
use Rattle.ipc_view.specs.Dictionaries.{ShowsCells, shown_in}

-- ── messages whose cells the parts have ──

pub same_is : (x y : ℤ) → same x y ≡ true → x ≡ y
same_is (pos a) (pos b) h = ap pos (eqb-true a b h)
same_is (negsuc a) (negsuc b) h = ap negsuc (eqb-true a b h)
same_is (pos a) (negsuc b) h = cc
same_is (negsuc a) (pos b) h = cc

-- one id is another by the order of ids
same_less : (a b : ℕ) → a < b → is_eq (cond (nat_lt b a) Less (cond (nat_lt a b) Greater Equal)) ≡ false
same_less a b h = rw (le-ltb b a (omega (arith, h)), lt-ltb a b h) refl

same_more : (a b : ℕ) → b < a → is_eq (cond (nat_lt b a) Less (cond (nat_lt a b) Greater Equal)) ≡ false
same_more a b h = rw (lt-ltb b a h) refl

same_both : (a : ℕ) → is_eq (cond (nat_lt a a) Less (cond (nat_lt a a) Greater Equal)) ≡ true
same_both a = rw (le-ltb a a (omega arith)) refl

same_apart : (a b : ℕ) (l : Bool) → nat_lt a b ≡ l → (a ≡ b → ⊥) → is_eq (cond (nat_lt b a) Less (cond (nat_lt a b) Greater Equal)) ≡ false
same_apart a b true e n = same_less a b (ltb-true a b e)
same_apart a b false e n = same_more a b (omega (arith, ltb-false a b e, n))

same_nat : (a b : ℕ) → nat_eq a b ≡ is_eq (cond (nat_lt b a) Less (cond (nat_lt a b) Greater Equal))
same_nat a b = by (eqb_tells a b)
  where
    by : ((nat_eq a b ≡ true) × (a ≡ b)) ⊎ ((nat_eq a b ≡ false) × (a ≡ b → ⊥)) → nat_eq a b ≡ is_eq (cond (nat_lt b a) Less (cond (nat_lt a b) Greater Equal))
    by (inl h) = h.0 ∙ sym (subst (λ c. is_eq (cond (nat_lt c a) Less (cond (nat_lt a c) Greater Equal)) ≡ true) h.1 (same_both a))
    by (inr h) = h.0 ∙ sym (same_apart a b (nat_lt a b) refl h.1)

same_swapped : (a b : ℕ) → nat_eq a b ≡ is_eq (cond (nat_lt a b) Less (cond (nat_lt b a) Greater Equal))
same_swapped a b = by (eqb_tells a b)
  where
    by : ((nat_eq a b ≡ true) × (a ≡ b)) ⊎ ((nat_eq a b ≡ false) × (a ≡ b → ⊥)) → nat_eq a b ≡ is_eq (cond (nat_lt a b) Less (cond (nat_lt b a) Greater Equal))
    by (inl h) = h.0 ∙ sym (subst (λ c. is_eq (cond (nat_lt a c) Less (cond (nat_lt c a) Greater Equal)) ≡ true) h.1 (same_both a))
    by (inr h) = h.0 ∙ sym (same_apart b a (nat_lt b a) refl (λ e. h.1 (sym e)))

same_key : (x y : ℤ) → same x y ≡ is_eq (int_cmp y x)
same_key (pos a) (pos b) = same_nat a b
same_key (negsuc a) (negsuc b) = same_swapped a b
same_key (pos a) (negsuc b) = refl
same_key (negsuc a) (pos b) = refl

told : List (ℤ × Vec View Global) → Dictionaries
told [] = []
told (e ∷ es) = record { id = e.0; is_delta = false; cells = joined (map cells_in e.1.items); written = record { nodes = []; lengths = []; views = [] } } ∷ told es

told_shows : (es : List (ℤ × Vec View Global)) (id : ℤ) → found (told es) id ≡ option_map (λ vs. joined (map cells_in vs)) (option_map (λ (v : Vec View Global). v.items) (lookup (λ q. is_eq (int_cmp id q)) es))
unfolding told
told_shows [] id = refl
told_shows (e ∷ es) id = by (is_eq (int_cmp id e.0)) (same_key e.0 id) (told_shows es id)
  where
    by : (b : Bool) → same e.0 id ≡ b → found (told es) id ≡ option_map (λ vs. joined (map cells_in vs)) (option_map (λ (v : Vec View Global). v.items) (lookup (λ q. is_eq (int_cmp id q)) es))
        → (if same e.0 id then Some ([] ++ joined (map cells_in e.1.items)) else found (told es) id) ≡ option_map (λ vs. joined (map cells_in vs)) (option_map (λ (v : Vec View Global). v.items) (cond b (Some e.1) (lookup (λ q. is_eq (int_cmp id q)) es)))
    by true h r = rw h refl
    by false h r = rw h r

-- the messages that parts may have been read of
pub record Told (m : BTreeMap ℤ (Vec View Global)) : Type 0 where
  pub messages : Dictionaries
  pub shows : ShowsCells messages (shown_in m)

pub some_told : (m : BTreeMap ℤ (Vec View Global)) → Told m
some_told m = record { messages = told m.entries; shows = told_shows m.entries }

pub absent_is : (o : Option (Vec View Global)) → not (is_some o) ≡ is_absent (option_map (λ (v : Vec View Global). v.items) o)
absent_is None = refl
absent_is (Some v) = refl

-- ── rows of parts ──

get_left : {A : Type 0} (xs ys : List A) (n : ℕ) → n < length xs → slice_get (xs ++ ys) n ≡ slice_get xs n
get_left [] ys n h = absurd (omega (arith, h))
get_left (x ∷ xs) ys zero h = refl
get_left (x ∷ xs) ys (suc n) h = get_left xs ys n (omega (arith, h))

get_right : {A : Type 0} (xs ys : List A) (n k : ℕ) → n ≡ length xs + k → slice_get (xs ++ ys) n ≡ slice_get ys k
get_right [] ys n k h = let e : n ≡ k = omega (arith, h) in ap (slice_get ys) e
get_right (x ∷ xs) ys zero k h = absurd (omega (arith, h))
get_right (x ∷ xs) ys (suc n) k h = get_right xs ys n k (omega (arith, h))

cells_count : (v : View) → length (cells_in v) ≡ rows_of v
cells_count v = length-from_on (cell_of v) 0 (rows_of v)

-- all have as many cells as rows
pub length-joined : (vs : List View) → length (joined (map cells_in vs)) ≡ sum_by rows_of vs
length-joined [] = refl
length-joined (v ∷ vs) = length-append (cells_in v) (joined (map cells_in vs)) ∙ omega (arith, cells_count v, length-joined vs, sum_by-cons rows_of v vs)

among_step : (v : View) (vs : List View) (n : ℕ) (b : Bool) → nat_lt n (rows_of v) ≡ b
    → cell_or_null (slice_get (joined (map cells_in vs)) (n - rows_of v)) ≡ cell_among (cells_each (views vs)) (rows_each (views vs)) (n - rows_of v)
    → cell_or_null (slice_get (cells_in v ++ joined (map cells_in vs)) n) ≡ (if nat_lt n (rows_of v) then cell_of v n else cell_among (cells_each (views vs)) (rows_each (views vs)) (n - rows_of v))
among_step v vs n true e h =
    let below : n < rows_of v = ltb-true n (rows_of v) e in
    let lt : n < length (cells_in v) = omega (arith, below, cells_count v) in
    rw e (ap cell_or_null (get_left (cells_in v) (joined (map cells_in vs)) n lt ∙ get-row (cell_of v) (rows_of v) n below))
among_step v vs n false e h =
    let above : rows_of v ≤ n = ltb-false n (rows_of v) e in
    let s : n ≡ length (cells_in v) + (n - rows_of v) = omega (arith, above, cells_count v) in
    rw e (ap cell_or_null (get_right (cells_in v) (joined (map cells_in vs)) n (n - rows_of v) s) ∙ h)

-- the n-th of all their rows is the n-th of all their cells
pub cells_among : (vs : List View) (n : ℕ) → cell_or_null (slice_get (joined (map cells_in vs)) n) ≡ cell_among (cells_each (views vs)) (rows_each (views vs)) n
cells_among [] n = refl
cells_among (v ∷ vs) n = among_step v vs n (nat_lt n (rows_of v)) refl (cells_among vs (n - rows_of v))

fits_step : (v : View) (vs : List View) (n : ℕ) (b : Bool) → nat_lt n (rows_of v) ≡ b → n < rows_of v + sum_by rows_of vs
    → (rows_of v ≤ n → (part_among (rows_each (views vs)) (n - rows_of v)).1 + 1 ≤ rows_at (views vs) (part_among (rows_each (views vs)) (n - rows_of v)).0)
    → (part_among (rows_each (views (v ∷ vs))) n).1 + 1 ≤ rows_at (views (v ∷ vs)) (part_among (rows_each (views (v ∷ vs))) n).0
fits_step v vs n true e h f = let below : n < rows_of v = ltb-true n (rows_of v) e in rw e (omega (arith, below))
fits_step v vs n false e h f = rw e (f (ltb-false n (rows_of v) e))

-- one of all their rows is a row of its part
pub part_fits : (vs : List View) (n : ℕ) → n < sum_by rows_of vs → (part_among (rows_each (views vs)) n).1 + 1 ≤ rows_at (views vs) (part_among (rows_each (views vs)) n).0
part_fits [] n h = absurd (omega (arith, h))
part_fits (v ∷ vs) n h =
    let s : n < rows_of v + sum_by rows_of vs = omega (arith, h, sum_by-cons rows_of v vs) in
    fits_step v vs n (nat_lt n (rows_of v)) refl s (λ above. part_fits vs (n - rows_of v) (omega (arith, s, above)))
