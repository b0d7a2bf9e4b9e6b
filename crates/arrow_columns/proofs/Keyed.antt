-- Rows of texts, and their keys among the distinct ones.
use Rattle.std.proofs.Common.{◌≡◌, ℕ, zero, suc, ◌+◌, ◌<◌, ◌≤◌, inl, inr, List, [], ◌∷◌, ◌++◌, Bool, true, false, Some, None, Result, Ok, Err, IfOk, IfErr, subst, length, take, get_or, cond, refl, sym, ap, ◌∙◌, arith, length-append}
use Rattle.std.specs.Prelude.{ℤ, pos, not, fold, slice_get, IsErrAnd}
use Rattle.std.specs.List.{AllZip, list_any, concat}
use denote.Ref.{Bor}
use Rattle.std.proofs.lemmas.Bool.{lt-leb}
use Rattle.std.proofs.lemmas.List.{take_all, take_more, length-map}
use Rattle.std.proofs.lemmas.List.Sums.{fold_more}
use Rattle.arrow_buffers.specs.Variable.{Variable, variable_rows}
use Rattle.arrow_buffers.specs.declared.error.ArrayError.{ArrayError}
use Rattle.arrow_arrays.specs.Heads.{have_keys, is_bad_key, number_at}
use Rattle.arrow_columns.specs.Strings.{bytes_each, ends_from, strings, RefusesBytes}
use Rattle.arrow_columns.specs.Dictionary.{is_same_text, with_text, distinct_texts, SaysText, key_limit, RefusesKey, RefusesTexts}
use Rattle.arrow_columns.proofs.Laid.{length-ends, none_bad, refused}

-- each key says its row's text
abbrev pub Keyed : List (Bor (List ℕ)) → List (Bor (List ℕ)) → List ℤ → Type 0
Keyed came = AllZip (λ row key. SaysText came key row.now)

found_more : {A : Type 0} (xs ys : List A) (i : ℕ) (x : A) → slice_get xs i ≡ Some x → slice_get (xs ++ ys) i ≡ Some x
found_more [] ys i x h = absurd (cc h)
found_more (z ∷ zs) ys zero x h = h
found_more (z ∷ zs) ys (suc i) x h = found_more zs ys i x h

says_behind : (came more : List (Bor (List ℕ))) (key : ℤ) (row : List ℕ) → SaysText came key row → SaysText (came ++ more) key row
says_behind came more key row s = record { place = s.place; text = s.text; number = s.number; there = found_more came more s.place s.text s.there; same = s.same }

says_with : (came : List (Bor (List ℕ))) (text : Bor (List ℕ)) (key : ℤ) (row : List ℕ) → SaysText came key row → SaysText (with_text came text) key row
says_with came text key row s = by (list_any (is_same_text text) came)
  where
    by : (b : Bool) → SaysText (cond b came (came ++ text ∷ [])) key row
    by true = s
    by false = says_behind came (text ∷ []) key row s

zip_as : {A B : Type 0} (R S : A → B → Type 0) → ((a : A) (b : B) → R a b → S a b) → (xs : List A) (ys : List B) → AllZip R xs ys → AllZip S xs ys
zip_as R S f [] [] h = h
zip_as R S f [] (y ∷ ys) h = h
zip_as R S f (x ∷ xs) [] h = h
zip_as R S f (x ∷ xs) (y ∷ ys) h = (f x y h.0, zip_as R S f xs ys h.1)

zip_push : {A B : Type 0} (R : A → B → Type 0) (xs : List A) (ys : List B) (x : A) (y : B) → AllZip R xs ys → R x y → AllZip R (xs ++ x ∷ []) (ys ++ y ∷ [])
zip_push R [] [] x y h r = (r, h)
zip_push R [] (z ∷ ys) x y h r = absurd h
zip_push R (z ∷ xs) [] x y h r = absurd h
zip_push R (z ∷ xs) (w ∷ ys) x y h r = (h.0, zip_push R xs ys x y h.1 r)

zip_length : {A B : Type 0} (R : A → B → Type 0) (xs : List A) (ys : List B) → AllZip R xs ys → length ys ≡ length xs
zip_length R [] [] h = refl
zip_length R [] (y ∷ ys) h = absurd h
zip_length R (x ∷ xs) [] h = absurd h
zip_length R (x ∷ xs) (y ∷ ys) h = ap suc (zip_length R xs ys h.1)

-- a row's key
pub key_at : (came rows : List (Bor (List ℕ))) (keys : List ℤ) → Keyed came rows keys → (i : ℕ) → i < length rows → SaysText came (get_or keys i (pos 0)) (get_or (bytes_each rows) i [])
key_at came [] keys h i l = absurd (omega arith)
key_at came (r ∷ rs) [] h i l = absurd h
key_at came (r ∷ rs) (k ∷ ks) h zero l = h.0
key_at came (r ∷ rs) (k ∷ ks) h (suc i) l = key_at came rs ks h.1 i (omega arith)

-- one row more
pub next_keyed : (came more rows : List (Bor (List ℕ))) (i : ℕ) (d : Bor (List ℕ)) (keys longer : List ℤ) (key : ℤ) → i < length rows → more ≡ with_text came (get_or rows i d) → longer ≡ keys ++ key ∷ []
    → Keyed came (take i rows) keys → SaysText more key (get_or rows i d).now → Keyed more (take (i + 1) rows) longer
next_keyed came more rows i d keys longer key l m n h s =
    let t = get_or rows i d in
    let R = λ (row : Bor (List ℕ)) (k : ℤ). SaysText more k row.now in
    let kept = zip_as (λ row k. SaysText came k row.now) R (λ row k x. subst (λ c. SaysText c k row.now) (sym m) (says_with came t k row.now x)) (take i rows) keys h in
    subst (λ rs. AllZip R rs longer) (sym (take_more rows i d l)) (subst (AllZip R (take i rows ++ t ∷ [])) (sym n) (zip_push R (take i rows) keys t key kept s))

next_distinct : (rows : List (Bor (List ℕ))) (i : ℕ) (d : Bor (List ℕ)) → i < length rows → distinct_texts (take (i + 1) rows) ≡ with_text (distinct_texts (take i rows)) (get_or rows i d)
next_distinct rows i d l = fold_more with_text [] rows i d l

pub next_came : (came more rows : List (Bor (List ℕ))) (i : ℕ) (d : Bor (List ℕ)) → i < length rows → more ≡ with_text came (get_or rows i d) → came ≡ distinct_texts (take i rows) → more ≡ distinct_texts (take (i + 1) rows)
next_came came more rows i d l m s = m ∙ ap (λ c. with_text c (get_or rows i d)) s ∙ sym (next_distinct rows i d l)

with_length : (came : List (Bor (List ℕ))) (text : Bor (List ℕ)) → length came ≤ length (with_text came text)
with_length came text = by (list_any (is_same_text text) came)
  where
    by : (b : Bool) → length came ≤ length (cond b came (came ++ text ∷ []))
    by true = omega arith
    by false = let n = length-append came (text ∷ []) in omega arith

more_texts : (came rows : List (Bor (List ℕ))) → length came ≤ length (fold with_text came rows)
more_texts came [] = omega arith
more_texts came (r ∷ rs) = let a = with_length came r in let b = more_texts (with_text came r) rs in omega arith

fewer_texts : (came rows : List (Bor (List ℕ))) (n : ℕ) → length (fold with_text came (take n rows)) ≤ length (fold with_text came rows)
fewer_texts came rows zero = more_texts came rows
fewer_texts came [] (suc n) = omega arith
fewer_texts came (r ∷ rs) (suc n) = fewer_texts (with_text came r) rs n

key_refuses : (few : ℕ) (came : List (Bor (List ℕ))) (e : ArrayError) → few ≤ length came → RefusesKey few e → RefusesTexts came e
key_refuses few came e l (inl m) = inl (inl m)
key_refuses few came e l (inr p) = inr (p.0, omega (arith, p.1))

-- a row that is refused behind some of the rows is refused of all
pub next_key_refused : {X : Type 0} (rows : List (Bor (List ℕ))) (i : ℕ) (d : Bor (List ℕ)) (came : List (Bor (List ℕ))) (r : Result X ArrayError) (e : ArrayError) → i < length rows → came ≡ distinct_texts (take i rows)
    → RefusesKey (length (with_text came (get_or rows i d))) e → IsErrAnd r (λ f. f ≡ e) → IfErr r (RefusesTexts (distinct_texts rows))
next_key_refused rows i d came r e l s q k =
    let n = ap length (next_distinct rows i d l ∙ ap (λ c. with_text c (get_or rows i d)) (sym s)) in
    let few = fewer_texts [] rows (i + 1) in
    refused (RefusesTexts (distinct_texts rows)) r e k (key_refuses (length (with_text came (get_or rows i d))) (distinct_texts rows) e (omega arith) q)

found_below : {A : Type 0} (xs : List A) (i : ℕ) (x : A) → slice_get xs i ≡ Some x → i < length xs
found_below [] i x h = absurd (cc h)
found_below (y ∷ ys) zero x h = omega arith
found_below (y ∷ ys) (suc i) x h = let l = found_below ys i x h in omega arith

good_key : (came : List (Bor (List ℕ))) (held : ℕ) (key : ℤ) (row : List ℕ) → held ≡ length came → SaysText came key row → is_bad_key held key ≡ false
good_key came held key row n s = ap (is_bad_key held) s.number ∙ lt-leb held s.place (let l = found_below came s.place s.text s.there in omega arith)

held_rows : (came : List (Bor (List ℕ))) → variable_rows (ends_from 0 (bytes_each came)) ≡ length came
held_rows came = let n = length-ends 0 (bytes_each came) in let m = length-map came (λ row. row.now) in omega arith

-- each key is one of the values
pub keys_fit : (came rows : List (Bor (List ℕ))) (keys : List ℤ) → Keyed came rows keys → have_keys (variable_rows (ends_from 0 (bytes_each came))) keys None ≡ true
keys_fit came rows keys h =
    let held = variable_rows (ends_from 0 (bytes_each came)) in
    let n = zip_length (λ row key. SaysText came key row.now) rows keys h in
    ap not (none_bad (λ row. is_bad_key held (number_at keys row)) (length keys)
    (λ k l. good_key came held (number_at keys k) (get_or (bytes_each rows) k []) (held_rows came) (key_at came rows keys h k (omega arith))))

-- the same of values and keys that are lent
pub lent_keys_fit : (came lent rows : List (Bor (List ℕ))) (keys given : List ℤ) (values : Variable) → lent ≡ came → given ≡ keys → values ≡ strings true false (bytes_each lent) None → Keyed came rows keys
    → have_keys (variable_rows values.offsets) given None ≡ true
lent_keys_fit came lent rows keys given values l g v h =
    ap (λ x. have_keys (variable_rows x.offsets) given None) v ∙ ap (λ c. have_keys (variable_rows (ends_from 0 (bytes_each c))) given None) l
    ∙ ap (λ k. have_keys (variable_rows (ends_from 0 (bytes_each came))) k None) g ∙ keys_fit came rows keys h

-- all rows have their keys
pub all_keyed : (came rows : List (Bor (List ℕ))) (i : ℕ) (keys given : List ℤ) → length rows ≤ i → came ≡ distinct_texts (take i rows) → given ≡ keys → Keyed came (take i rows) keys → Keyed (distinct_texts rows) rows given
all_keyed came rows i keys given l s g h =
    let whole = take_all i rows l in
    subst (λ k. Keyed (distinct_texts rows) rows k) (sym g) (subst (λ rs. Keyed (distinct_texts rs) rs keys) whole (subst (λ c. Keyed c (take i rows) keys) s h))

pub lent_distinct : (came lent rows : List (Bor (List ℕ))) (i : ℕ) → length rows ≤ i → lent ≡ came → came ≡ distinct_texts (take i rows) → lent ≡ distinct_texts rows
lent_distinct came lent rows i l e s = e ∙ s ∙ ap distinct_texts (take_all i rows l)

pub key_count : (came rows : List (Bor (List ℕ))) (keys : List ℤ) → Keyed came rows keys → length keys ≡ length rows
key_count came rows keys h = zip_length (λ row key. SaysText came key row.now) rows keys h

pub values_refused : {X : Type 0} (lent came : List (Bor (List ℕ))) (r : Result X ArrayError) (e : ArrayError) → lent ≡ came → RefusesBytes key_limit (length (concat (bytes_each lent))) e → IsErrAnd r (λ f. f ≡ e) → IfErr r (RefusesTexts came)
values_refused lent came r e l q k = refused (RefusesTexts came) r e k (inl (subst (λ c. RefusesBytes key_limit (length (concat (bytes_each c))) e) l q))

-- what holds of the array that is given holds of it
pub holds_of : {X E : Type 0} (P : X → Type 0) (x : X) (r : Result X E) → IfOk r (λ a. a ≡ x) → P x → IfOk r P
holds_of P x (Ok a) h p = subst P (sym h) p
holds_of P x (Err e) h p = h
