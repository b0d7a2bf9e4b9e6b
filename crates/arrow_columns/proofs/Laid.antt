-- Rows that are laid one behind the other.
use Rattle.std.proofs.Common.{◌≡◌, ℕ, zero, suc, ◌+◌, ◌-◌, ◌<◌, ◌≤◌, ◌&&◌, inl, inr, List, [], ◌∷◌, ◌++◌, Bool, true, false, Option, Result, Ok, Err, IfOk, IfErr, subst, length, take, drop, get_or, nat_le, map, refl, sym, ap, ◌∙◌, arith, append_assoc, append-nil, length-append}
use Rattle.std.specs.Prelude.{ℤ, pos, not, IsErrAnd}
use Rattle.std.specs.List.{concat, list_all}
use Rattle.std.specs.Str.{is_utf8}
use Rattle.std.proofs.lemmas.Bool.{and_parts, and_from, or_from, le-leb}
use Rattle.std.proofs.lemmas.List.{take_at, drop_at, take_all, take_more, map-append}
use Rattle.std.proofs.lemmas.List.Folds.{concat-append}
use Rattle.arrow_spec.specs.Faults.{some_row}
use Rattle.arrow_buffers.specs.Rows.{is_valid}
use Rattle.arrow_spec.specs.Kinds.{Kind}
use Rattle.arrow_buffers.specs.Variable.{Variable, place_at, rise_from, are_offsets, variable_rows, row_bytes, has_bad_text}
use Rattle.arrow_buffers.specs.declared.error.ArrayError.{ArrayError}
use Rattle.arrow_columns.specs.Strings.{ends_from, RefusesBytes}

concat_more : (rows : List (List ℕ)) (row : List ℕ) → concat (rows ++ row ∷ []) ≡ concat rows ++ row
concat_more rows row = concat-append rows (row ∷ []) ∙ ap (λ l. concat rows ++ l) (append-nil row)

ends_more : (at : ℕ) (rows : List (List ℕ)) (row : List ℕ) → ends_from at (rows ++ row ∷ []) ≡ ends_from at rows ++ pos (at + length (concat rows ++ row)) ∷ []
ends_more at [] row = refl
ends_more at (r ∷ rs) row =
    let n : (at + length r) + length (concat rs ++ row) ≡ at + length ((r ++ concat rs) ++ row) = simp length-append (omega arith) in
    ap (λ l. pos at ∷ l) (ends_more (at + length r) rs row ∙ ap (λ m. ends_from (at + length r) rs ++ pos m ∷ []) n)

-- offsets and bytes are those of these rows, and an offset says how many bytes there are
pub record Laid (limit : ℕ) (rows : List (List ℕ)) (offsets : List ℤ) (values : List ℕ) : Type 0 where
  pub ends : offsets ≡ ends_from 0 rows
  pub bytes : values ≡ concat rows
  pub fits : length values < limit

pub one_more : (limit : ℕ) (rows : List (List ℕ)) (row : List ℕ) (offsets more : List ℤ) (values bytes : List ℕ) → Laid limit rows offsets values
    → bytes ≡ values ++ row → more ≡ offsets ++ pos (length (values ++ row)) ∷ [] → length (values ++ row) < limit → Laid limit (rows ++ row ∷ []) more bytes
one_more limit rows row offsets more values bytes s b m f =
    let z : 0 + length (concat rows ++ row) ≡ length (concat rows ++ row) = omega arith in
    record {
      ends = m ∙ ap (λ v. offsets ++ pos (length (v ++ row)) ∷ []) s.bytes ∙ ap (λ o. o ++ pos (length (concat rows ++ row)) ∷ []) s.ends
          ∙ ap (λ n. ends_from 0 rows ++ pos n ∷ []) (sym z) ∙ sym (ends_more 0 rows row);
      bytes = b ∙ ap (λ v. v ++ row) s.bytes ∙ sym (concat_more rows row);
      fits = rw b f;
    }

rises : (low at limit : ℕ) (rows : List (List ℕ)) → low ≤ at → at + length (concat rows) ≤ limit → rise_from low (ends_from at rows) limit ≡ true
rises low at limit [] l h = and_from (nat_le low at && nat_le at limit) true (and_from (nat_le low at) (nat_le at limit) (le-leb low at l) (le-leb at limit (omega arith))) refl
rises low at limit (r ∷ rs) l h =
    let n = length-append r (concat rs) in
    and_from (nat_le low at && nat_le at limit) (rise_from at (ends_from (at + length r) rs) limit) (and_from (nat_le low at) (nat_le at limit) (le-leb low at l) (le-leb at limit (omega arith)))
    (rises at (at + length r) limit rs (omega arith) (omega arith))

good_ends : (rows : List (List ℕ)) → are_offsets (ends_from 0 rows) (length (concat rows)) ≡ true
good_ends [] = refl
good_ends (r ∷ rs) = rises 0 0 (length (concat (r ∷ rs))) (r ∷ rs) (omega arith) (omega arith)

pub laid_rise : (limit : ℕ) (rows : List (List ℕ)) (offsets : List ℤ) (values : List ℕ) → Laid limit rows offsets values → are_offsets offsets (length values) ≡ true
laid_rise limit rows offsets values s = ap (λ o. are_offsets o (length values)) s.ends ∙ ap (λ v. are_offsets (ends_from 0 rows) (length v)) s.bytes ∙ good_ends rows

first_end : (at : ℕ) (rows : List (List ℕ)) → place_at (ends_from at rows) 0 ≡ at
first_end at [] = refl
first_end at (r ∷ rs) = refl

row_behind : (front : List ℕ) (rows : List (List ℕ)) (k : ℕ) → k < length rows → row_bytes (ends_from (length front) rows) (front ++ concat rows) k ≡ get_or rows k []
row_behind front [] k h = absurd (omega arith)
row_behind front (r ∷ rs) zero h =
    let n : (length front + length r) - length front ≡ length r = omega arith in
    ap (λ m. take (m - length front) (drop (length front) (front ++ (r ++ concat rs)))) (first_end (length front + length r) rs)
    ∙ ap (λ m. take m (drop (length front) (front ++ (r ++ concat rs)))) n
    ∙ ap (take (length r)) (drop_at front (r ++ concat rs) (length front) refl) ∙ take_at r (concat rs) (length r) refl
row_behind front (r ∷ rs) (suc k) h =
    ap (λ n. row_bytes (ends_from n rs) (front ++ (r ++ concat rs)) k) (sym (length-append front r))
    ∙ ap (λ v. row_bytes (ends_from (length (front ++ r)) rs) v k) (sym (append_assoc front r (concat rs))) ∙ row_behind (front ++ r) rs k (omega arith)

-- each row has its bytes
pub laid_row : (limit : ℕ) (rows : List (List ℕ)) (offsets : List ℤ) (values : List ℕ) → Laid limit rows offsets values → (k : ℕ) → k < length rows → row_bytes offsets values k ≡ get_or rows k []
laid_row limit rows offsets values s k h = ap (λ o. row_bytes o values k) s.ends ∙ ap (λ v. row_bytes (ends_from 0 rows) v k) s.bytes ∙ row_behind [] rows k h

pub length-ends : (at : ℕ) (rows : List (List ℕ)) → length (ends_from at rows) ≡ suc (length rows)
length-ends at [] = refl
length-ends at (r ∷ rs) = ap suc (length-ends (at + length r) rs)

pub laid_rows : (limit : ℕ) (rows : List (List ℕ)) (offsets : List ℤ) (values : List ℕ) → Laid limit rows offsets values → variable_rows offsets ≡ length rows
laid_rows limit rows offsets values s = let e = length-ends 0 rows in let f = ap length s.ends in omega arith

-- ── texts ──

pub all_more : (rows : List (List ℕ)) (row : List ℕ) → list_all is_utf8 rows ≡ true → is_utf8 row ≡ true → list_all is_utf8 (rows ++ row ∷ []) ≡ true
all_more [] row h e = and_from (is_utf8 row) true e refl
all_more (r ∷ rs) row h e =
    let p = and_parts (is_utf8 r) (list_all is_utf8 rs) h in
    and_from (is_utf8 r) (list_all is_utf8 (rs ++ row ∷ [])) p.0 (all_more rs row p.1 e)

text_at : (rows : List (List ℕ)) (k : ℕ) → k < length rows → list_all is_utf8 rows ≡ true → is_utf8 (get_or rows k []) ≡ true
text_at [] k l h = absurd (omega arith)
text_at (r ∷ rs) zero l h = (and_parts (is_utf8 r) (list_all is_utf8 rs) h).0
text_at (r ∷ rs) (suc k) l h = text_at rs k (omega arith) (and_parts (is_utf8 r) (list_all is_utf8 rs) h).1

pub none_bad : (bad : ℕ → Bool) (n : ℕ) → ((k : ℕ) → k < n → bad k ≡ false) → some_row bad n ≡ false
none_bad bad zero h = refl
none_bad bad (suc n) h = or_from (some_row bad n) (bad n) (none_bad bad n (λ k l. h k (omega arith))) (h n (omega arith))

fine : (valid good : Bool) → good ≡ true → (valid && not good) ≡ false
fine true good e = rw e refl
fine false good e = refl

pub laid_texts : (limit : ℕ) (rows : List (List ℕ)) (offsets : List ℤ) (values : List ℕ) (v : Option (List Bool)) → Laid limit rows offsets values → list_all is_utf8 rows ≡ true → has_bad_text offsets values v ≡ false
unfolding has_bad_text
laid_texts limit rows offsets values v s h =
    let n = laid_rows limit rows offsets values s in
    none_bad (λ row. is_valid v row && not (is_utf8 (row_bytes offsets values row))) (variable_rows offsets)
    (λ k l. fine (is_valid v k) (is_utf8 (row_bytes offsets values k)) (ap is_utf8 (laid_row limit rows offsets values s k (omega arith)) ∙ text_at rows k (omega arith) h))

-- ── what a call is given, one row more ──

pub bytes_more : {A : Type 0} (f : A → List ℕ) (rows : List A) (i : ℕ) (d : A) → i < length rows → map f (take (i + 1) rows) ≡ map f (take i rows) ++ f (get_or rows i d) ∷ []
bytes_more f rows i d h = ap (map f) (take_more rows i d h) ∙ map-append f (take i rows) (get_or rows i d ∷ [])

pub fewer_bytes : {A : Type 0} (f : A → List ℕ) (rows : List A) (n : ℕ) → length (concat (map f (take n rows))) ≤ length (concat (map f rows))
fewer_bytes f rows zero = omega arith
fewer_bytes f [] (suc n) = omega arith
fewer_bytes f (r ∷ rs) (suc n) =
    let a = length-append (f r) (concat (map f (take n rs))) in
    let b = length-append (f r) (concat (map f rs)) in
    let h = fewer_bytes f rs n in
    omega arith

pub more_refused : (limit few many : ℕ) (e : ArrayError) → few ≤ many → RefusesBytes limit few e → RefusesBytes limit many e
more_refused limit few many e h (inl m) = inl m
more_refused limit few many e h (inr p) = inr (p.0, omega (arith, p.1))

pub refused : {X : Type 0} (P : ArrayError → Type 0) (r : Result X ArrayError) (e : ArrayError) → IsErrAnd r (λ f. f ≡ e) → P e → IfErr r P
refused P (Ok x) e h p = absurd h
refused P (Err f) e h p = subst P (sym h) p

-- rows of which one more is laid
pub next_laid : {A : Type 0} (f : A → List ℕ) (limit : ℕ) (rows : List A) (i : ℕ) (d : A) (offsets more : List ℤ) (values bytes : List ℕ) → i < length rows → Laid limit (map f (take i rows)) offsets values
    → bytes ≡ values ++ f (get_or rows i d) → more ≡ offsets ++ pos (length (values ++ f (get_or rows i d))) ∷ [] → length (values ++ f (get_or rows i d)) < limit → Laid limit (map f (take (i + 1) rows)) more bytes
next_laid f limit rows i d offsets more values bytes h s b m q =
    subst (λ l. Laid limit l more bytes) (sym (bytes_more f rows i d h)) (one_more limit (map f (take i rows)) (f (get_or rows i d)) offsets more values bytes s b m q)

-- the same of a row that is given by its bytes
pub next_laid_as : {A : Type 0} (f : A → List ℕ) (limit : ℕ) (rows : List A) (i : ℕ) (d : A) (row : List ℕ) (offsets more : List ℤ) (values bytes : List ℕ) → i < length rows → Laid limit (map f (take i rows)) offsets values → row ≡ f (get_or rows i d)
    → bytes ≡ values ++ row → more ≡ offsets ++ pos (length (values ++ row)) ∷ [] → length (values ++ row) < limit → Laid limit (map f (take (i + 1) rows)) more bytes
next_laid_as f limit rows i d row offsets more values bytes h s e b m q =
    next_laid f limit rows i d offsets more values bytes h s (b ∙ ap (λ y. values ++ y) e) (m ∙ ap (λ y. offsets ++ pos (length (values ++ y)) ∷ []) e) (subst (λ y. length (values ++ y) < limit) e q)

pub next_text : {A : Type 0} (f : A → List ℕ) (rows : List A) (i : ℕ) (d : A) → i < length rows → list_all is_utf8 (map f (take i rows)) ≡ true → is_utf8 (f (get_or rows i d)) ≡ true → list_all is_utf8 (map f (take (i + 1) rows)) ≡ true
next_text f rows i d h s e = ap (list_all is_utf8) (bytes_more f rows i d h) ∙ all_more (map f (take i rows)) (f (get_or rows i d)) s e

-- a row that is refused behind some of the rows is refused of all
pub next_refused : {X A : Type 0} (f : A → List ℕ) (limit : ℕ) (rows : List A) (i : ℕ) (d : A) (offsets : List ℤ) (values : List ℕ) (r : Result X ArrayError) (e : ArrayError) → i < length rows → Laid limit (map f (take i rows)) offsets values
    → RefusesBytes limit (length (values ++ f (get_or rows i d))) e → IsErrAnd r (λ f. f ≡ e) → IfErr r (RefusesBytes limit (length (concat (map f rows))))
next_refused f limit rows i d offsets values r e h s q k =
    let n : values ++ f (get_or rows i d) ≡ concat (map f (take (i + 1) rows)) = ap (λ v. v ++ f (get_or rows i d)) s.bytes ∙ sym (concat_more (map f (take i rows)) (f (get_or rows i d))) ∙ ap concat (sym (bytes_more f rows i d h)) in
    let m = ap length n in
    let few = fewer_bytes f rows (i + 1) in
    refused (RefusesBytes limit (length (concat (map f rows)))) r e k (more_refused limit (length (values ++ f (get_or rows i d))) (length (concat (map f rows))) e (omega arith) q)

pub all_laid : {A : Type 0} (f : A → List ℕ) (limit : ℕ) (rows : List A) (i : ℕ) (offsets : List ℤ) (values : List ℕ) → length rows ≤ i → Laid limit (map f (take i rows)) offsets values → Laid limit (map f rows) offsets values
all_laid f limit rows i offsets values h s = subst (λ l. Laid limit (map f l) offsets values) (take_all i rows h) s

pub each_row : (rows : List (List ℕ)) (n : ℕ) (k : Kind) (offsets : List ℤ) (values : List ℕ) (v : Option (List Bool)) (r : Result Variable ArrayError) → IfOk r (λ a. a ≡ record { kind = k; offsets = offsets; values = values; validity = v })
    → ((i : ℕ) → i < n → row_bytes offsets values i ≡ get_or rows i []) → IfOk r (λ a. (i : ℕ) → i < n → row_bytes a.offsets a.values i ≡ get_or rows i [])
each_row rows n k offsets values v (Ok a) h f = λ i l. ap (λ b. row_bytes b.offsets b.values i) h ∙ f i l
each_row rows n k offsets values v (Err e) h f = h
