-- Columns that are asked for: what is chosen of a list.
use Rattle.std.proofs.Common.{◌≡◌, ℕ, suc, ◌+◌, ◌<◌, ◌≤◌, List, [], ◌∷◌, ◌++◌, length, Option, Some, None, Bool, true, false, refl, sym, ap, ◌∙◌, arith, subst, map, drop, append-nil, append_assoc}
use Rattle.std.proofs.lemmas.List.{length-append}
use Rattle.std.specs.Prelude.{slice_get, nat_eq, nat_le, nat_lt, ◌||◌}
use Rattle.arrow_spec.specs.Columns.{is_chosen, stands_in}
use Rattle.arrow_spec.specs.Files.{as_asked, column_or_none}
use Rattle.arrow_spec.specs.Cells.{Cell}
use Rattle.ipc_read_laws.specs.Projection.{do_rise, are_below, are_rising, are_columns, kept, chosen}
use Rattle.std.specs.List.{AllByRecursion, IsDistinct}
use Rattle.std.specs.Str.{bytes_eq}
use Rattle.arrow_types.specs.Schemas.{Keyed, keys_in, with_field}
use Rattle.arrow_types.proofs.Keyed.{with_field-last}
use Rattle.ipc_read_laws.proofs.Rising.{rise_first, rise_rest, stands_before}
use Rattle.ipc_read.proofs.ColumnKinds.{both_first, both_second, drop_at, none_at}
use Rattle.ipc_read.proofs.Nested.{drop_all}

pub kept_before : {A : Type 0} (b : Bool) (x : A) (xs : List A) → kept b x xs ≡ kept b x [] ++ xs
kept_before true x xs = refl
kept_before false x xs = refl

kept_all : {A : Type 0} (b : Bool) (x : A) (xs ys : List A) → kept b x (xs ++ ys) ≡ kept b x xs ++ ys
kept_all true x xs ys = refl
kept_all false x xs ys = refl

pub chosen_next : {A : Type 0} (asked : Option (List ℕ)) (c : ℕ) (xs : List A) (x : A) → chosen asked c (xs ++ x ∷ []) ≡ chosen asked c xs ++ kept (is_chosen asked (c + length xs)) x []
chosen_next asked c [] x = let e : c + 0 ≡ c = omega arith in rw e refl
chosen_next asked c (y ∷ xs) x =
    let e : suc c + length xs ≡ c + suc (length xs) = omega arith in
    ap (kept (is_chosen asked c) y) (chosen_next asked (suc c) xs x ∙ ap (λ n. chosen asked (suc c) xs ++ kept (is_chosen asked n) x []) e)
    ∙ kept_all (is_chosen asked c) y (chosen asked (suc c) xs) _

-- all are chosen where none are asked for by number
pub all_chosen : {A : Type 0} (c : ℕ) (xs : List A) → chosen None c xs ≡ xs
all_chosen c [] = refl
all_chosen c (x ∷ xs) = ap (λ ys. x ∷ ys) (all_chosen (suc c) xs)

none_chosen : {A : Type 0} (c : ℕ) (xs : List A) → chosen (Some []) c xs ≡ []
none_chosen c [] = refl
none_chosen c (x ∷ xs) = none_chosen (suc c) xs

-- a number before those that are looked at does not count
chosen_behind : {A : Type 0} (y : ℕ) (ys : List ℕ) (c : ℕ) (xs : List A) → y < c → chosen (Some (y ∷ ys)) c xs ≡ chosen (Some ys) c xs
chosen_behind y ys c [] h = refl
chosen_behind y ys c (x ∷ xs) h =
    let f : nat_eq y c ≡ false = grind arith in
    let r = chosen_behind y ys (suc c) xs (omega (arith, h)) in
    ap (λ b. kept (b || stands_in ys c) x (chosen (Some (y ∷ ys)) (suc c) xs)) f ∙ ap (kept (stands_in ys c) x) r

get_behind : {A : Type 0} (before : List A) (x : A) (xs : List A) → slice_get (before ++ x ∷ xs) (length before) ≡ Some x
get_behind [] x xs = refl
get_behind (y ∷ before) x xs = get_behind before x xs

-- the cell lists at numbers
abbrev at_numbers : List (List Cell) → List ℕ → List (List Cell)
at_numbers cells cs = map (λ c. column_or_none (slice_get cells c)) cs

-- numbers pick these out of the cell lists behind others
abbrev AreInOrder : (before cells : List (List Cell)) → Type 0
AreInOrder before cells = (cs : List ℕ) → do_rise (length before) cs ≡ true → are_below (length before + length cells) cs ≡ true
    → at_numbers (before ++ cells) cs ≡ chosen (Some cs) (length before) cells

-- the same of one further on
one_further : (before : List (List Cell)) (x : List Cell) (cells : List (List Cell)) → AreInOrder (before ++ x ∷ []) cells → (cs : List ℕ) → do_rise (suc (length before)) cs ≡ true → are_below (length before + suc (length cells)) cs ≡ true
    → at_numbers (before ++ x ∷ cells) cs ≡ chosen (Some cs) (suc (length before)) cells
one_further before x cells all cs r s =
    let onto = before ++ x ∷ [] in
    let long : length onto ≡ suc (length before) = length-append before (x ∷ []) ∙ omega arith in
    let e : length onto + length cells ≡ length before + suc (length cells) = omega (arith, long) in
    ap (λ zs. at_numbers zs cs) (sym (append_assoc before (x ∷ []) cells))
    ∙ all cs (subst (λ n. do_rise n cs ≡ true) (sym long) r) (subst (λ n. are_below n cs ≡ true) (sym e) s)
    ∙ ap (λ n. chosen (Some cs) n cells) long

-- the first number is that of the first list, or is behind it
by_first : (before : List (List Cell)) (x : List Cell) (cells : List (List Cell)) → AreInOrder (before ++ x ∷ []) cells → (c : ℕ) (cs : List ℕ) → do_rise (length before) (c ∷ cs) ≡ true → are_below (length before + suc (length cells)) (c ∷ cs) ≡ true
    → (eq : Bool) → nat_eq c (length before) ≡ eq → at_numbers (before ++ x ∷ cells) (c ∷ cs) ≡ chosen (Some (c ∷ cs)) (length before) (x ∷ cells)
by_first before x cells all c cs h b true e =
    let is : c ≡ length before = grind arith in
    let first : column_or_none (slice_get (before ++ x ∷ cells) c) ≡ x = ap (λ d. column_or_none (slice_get (before ++ x ∷ cells) d)) is ∙ ap column_or_none (get_behind before x cells) in
    let r = one_further before x cells all cs (subst (λ n. do_rise (suc n) cs ≡ true) is (rise_rest (length before) c cs h)) (both_second (nat_lt c (length before + suc (length cells))) _ b) in
    let less : c < suc (length before) = omega (arith, is) in
    ap (λ z. z ∷ at_numbers (before ++ x ∷ cells) cs) first
    ∙ ap (λ zs. x ∷ zs) (r ∙ sym (chosen_behind c cs (suc (length before)) cells less))
    ∙ ap (λ q. kept (q || stands_in cs (length before)) x (chosen (Some (c ∷ cs)) (suc (length before)) cells)) (sym e)
by_first before x cells all c cs h b false e =
    let low = rise_first (length before) c cs h in
    let more : suc (length before) ≤ c = grind arith in
    let le : nat_le (suc (length before)) c ≡ true = grind arith in
    let up : do_rise (suc (length before)) (c ∷ cs) ≡ true = rw le (rise_rest (length before) c cs h) in
    let none : stands_in (c ∷ cs) (length before) ≡ false = stands_before (suc (length before)) (c ∷ cs) (length before) up (omega arith) in
    one_further before x cells all (c ∷ cs) up b ∙ ap (λ q. kept q x (chosen (Some (c ∷ cs)) (suc (length before)) cells)) (sym none)

-- at rising numbers below the count stands what is asked for, in order
in_order : (before cells : List (List Cell)) → AreInOrder before cells
in_order before [] [] h b = sym (none_chosen {A = List Cell} (length before) [])
in_order before (x ∷ cells) [] h b = sym (none_chosen (length before) (x ∷ cells))
in_order before [] (c ∷ cs) h b =
    let low = rise_first (length before) c cs h in
    let k : nat_lt c (length before + 0) ≡ true = both_first _ _ b in
    let high : c < length before + 0 = grind arith in
    absurd (omega (arith, low, high))
in_order before (x ∷ cells) (c ∷ cs) h b = by_first before x cells (in_order (before ++ x ∷ []) cells) c cs h b (nat_eq c (length before)) refl

pub asked_are_chosen : (asked : Option (List ℕ)) (cells : List (List Cell)) → are_rising asked ≡ true → are_columns asked (length cells) ≡ true → as_asked asked cells ≡ chosen asked 0 cells
asked_are_chosen None cells h b = sym (all_chosen 0 cells)
asked_are_chosen (Some cs) cells h b = let e : length cells ≡ 0 + length cells = omega arith in in_order [] cells cs h (subst (λ n. are_below n cs ≡ true) e b)

-- ── what is chosen of a schema ──

others_apart : (asked : Option (List ℕ)) (c : ℕ) (x : List ℕ) (s : List Keyed) → AllByRecursion (λ y. bytes_eq x y ≡ false) (keys_in s) → AllByRecursion (λ y. bytes_eq x y ≡ false) (keys_in (chosen asked c s))
others_apart asked c x [] h = h
others_apart asked c x (p ∷ s) h = by (is_chosen asked c) (others_apart asked (suc c) x s h.1)
  where
    by : (b : Bool) → AllByRecursion (λ y. bytes_eq x y ≡ false) (keys_in (chosen asked (suc c) s)) → AllByRecursion (λ y. bytes_eq x y ≡ false) (keys_in (kept b p (chosen asked (suc c) s)))
    by true r = (h.0, r)
    by false r = r

-- keys that differ still do
pub chosen_apart : (asked : Option (List ℕ)) (c : ℕ) (s : List Keyed) → IsDistinct bytes_eq (keys_in s) → IsDistinct bytes_eq (keys_in (chosen asked c s))
unfolding IsDistinct
chosen_apart asked c [] h = h
chosen_apart asked c (p ∷ s) h = by (is_chosen asked c) (chosen_apart asked (suc c) s h.1)
  where
    by : (b : Bool) → IsDistinct bytes_eq (keys_in (chosen asked (suc c) s)) → IsDistinct bytes_eq (keys_in (kept b p (chosen asked (suc c) s)))
    by true r = (others_apart asked (suc c) p.0 s h.0, r)
    by false r = r

-- a chosen field goes behind those that are there
pub field_added : (asked : Option (List ℕ)) (s done new : List Keyed) (i : ℕ) (p : Keyed) → IsDistinct bytes_eq (keys_in s) → slice_get s i ≡ Some p → is_chosen asked i ≡ true → done ++ chosen asked i (drop i s) ≡ chosen asked 0 s → new ≡ with_field p.0 p.1 done
    → new ++ chosen asked (i + 1) (drop (i + 1) s) ≡ chosen asked 0 s
field_added asked s done new i p apart h is copied put =
    let j : suc i ≡ i + 1 = omega arith in
    let left = chosen asked (i + 1) (drop (i + 1) s) in
    let step : chosen asked i (drop i s) ≡ p ∷ left = ap (chosen asked i) (drop_at s i p h) ∙ ap (λ b. kept b p (chosen asked (suc i) (drop (i + 1) s))) is ∙ ap (λ c. p ∷ chosen asked c (drop (i + 1) s)) j in
    let all : done ++ p ∷ left ≡ chosen asked 0 s = ap (λ ps. done ++ ps) (sym step) ∙ copied in
    let last = with_field-last done p left (subst (λ ps. IsDistinct bytes_eq (keys_in ps)) (sym all) (chosen_apart asked 0 s apart)) in
    ap (λ ps. ps ++ left) (put ∙ last) ∙ append_assoc done (p ∷ []) left ∙ all

-- a field that is not chosen is left out
pub field_left : (asked : Option (List ℕ)) (s done : List Keyed) (i : ℕ) → is_chosen asked i ≡ false → done ++ chosen asked i (drop i s) ≡ chosen asked 0 s → done ++ chosen asked (i + 1) (drop (i + 1) s) ≡ chosen asked 0 s
field_left asked s done i is copied = by (slice_get s i) refl
  where
    by : (o : Option Keyed) → slice_get s i ≡ o → done ++ chosen asked (i + 1) (drop (i + 1) s) ≡ chosen asked 0 s
    by (Some p) e =
        let j : suc i ≡ i + 1 = omega arith in
        let step : chosen asked i (drop i s) ≡ chosen asked (i + 1) (drop (i + 1) s) = ap (chosen asked i) (drop_at s i p e) ∙ ap (λ b. kept b p (chosen asked (suc i) (drop (i + 1) s))) is ∙ ap (λ c. chosen asked c (drop (i + 1) s)) j in
        ap (λ ps. done ++ ps) (sym step) ∙ copied
    by None e = let n = none_at s i e in ap (λ ps. done ++ chosen asked (i + 1) ps) (drop_all s (i + 1) (omega (arith, n))) ∙ ap (λ ps. done ++ chosen asked i ps) (sym (drop_all s i n)) ∙ copied

pub none_left : (asked : Option (List ℕ)) (s done : List Keyed) (i : ℕ) → length s ≤ i → done ++ chosen asked i (drop i s) ≡ chosen asked 0 s → done ≡ chosen asked 0 s
none_left asked s done i h copied = sym (append-nil done) ∙ ap (λ ps. done ++ chosen asked i ps) (sym (drop_all s i h)) ∙ copied
