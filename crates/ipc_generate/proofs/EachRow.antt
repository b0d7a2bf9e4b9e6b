-- The columns of a generated batch as they are made, row by row.
use Rattle.std.proofs.Common.{◌≡◌, ℕ, zero, suc, ◌+◌, ◌-◌, ◌*◌, ◌/◌, ◌%◌, ◌^◌, ◌<◌, ◌≤◌, ◌&&◌, List, [], ◌∷◌, ◌++◌, Bool, true, false, None, Some, Result, Ok, Err, IfOk, length, map, get_or, take, refl, sym, ap, ◌∙◌, subst, arith, length-append, append-nil, pos}
use Rattle.std.specs.Prelude.{ℤ, not}
use Rattle.std.specs.Int.{cast_signed, w32, w64}
use Rattle.std.proofs.lemmas.Int.{to_z_pos}
use Rattle.std.specs.List.{concat, list_all}
use Rattle.std.specs.Str.{IsAscii, is_utf8}
use Rattle.std.proofs.lemmas.Bool.{eq-eqb, lt-leb}
use Rattle.std.proofs.lemmas.List.{length-map, map-append, take_all, take_more}
use Rattle.std.proofs.lemmas.List.Folds.{concat-append}
use Rattle.std.proofs.lemmas.Str.{IsUtf8-from_ascii, is_utf8-from_IsUtf8}
use Rattle.arrow_spec.specs.declared.types.IntegerType.TheVariants.{Int32}
use Rattle.arrow_spec.specs.Flat.{little}
use Rattle.arrow_spec.specs.Kinds.{Kind, integer, small}
use Rattle.arrow_types.specs.KindCode.{kind_eq}
use Rattle.arrow_types.specs.Numbers.{signed_to_bytes}
use Rattle.arrow_types.specs.Schemas.{Keyed}
use Rattle.arrow_buffers.specs.Variable.{are_offsets, variable_rows}
use Rattle.arrow_buffers.proofs.Parts.{length-from_on}
use Rattle.arrow_arrays.specs.Batches.{Batch, batch_fault, have_rows}
use Rattle.arrow_arrays.specs.Heads.{have_keys, is_bad_key, listed, number_at}
use Rattle.arrow_arrays.specs.LeafParts.{text}
use Rattle.arrow_arrays.specs.Parts.{Parts, also, fault_in, kind_in, leaf, nested, none, rows_in}
use Rattle.arrow_arrays.specs.PartsOf.{all_parts_of, parts_of}
use Rattle.arrow_arrays.specs.declared.array.Array.{Array}
use Rattle.arrow_columns.specs.Optional.{held_or}
use Rattle.arrow_columns.specs.Strings.{ends_from}
use Rattle.arrow_columns.proofs.Laid.{Laid, laid_rise, length-ends, none_bad, one_more}
use Rattle.ipc_generate.specs.Arrays.{arrays_of, batch_of, by_rows, digits_of, generated_schema, items_of, key_of, keys_array, lists_array, number_of, numbers_array, numbers_of, texts_array}
use Rattle.ipc_generate.specs.Table.{kind_of_p, kind_of_t}
use Rattle.ipc_generate.proofs.Runs.{by_rows_more, length-by_rows}

-- ── one row more ──

length_front : (xs : List ℕ) (i : ℕ) → i < length xs → length (take i xs) ≡ i
length_front [] i h = absurd (omega arith)
length_front (x ∷ xs) zero h = refl
length_front (x ∷ xs) (suc i) h = ap suc (length_front xs i (omega arith))

pub next_row : {A : Type 0} (f : ℕ → ℕ → A) (xs : List ℕ) (i : ℕ) → i < length xs → by_rows f 0 (take (i + 1) xs) ≡ by_rows f 0 (take i xs) ++ f i (get_or xs i 0) ∷ []
next_row f xs i h =
    ap (by_rows f 0) (take_more xs i 0 h) ∙ by_rows_more f 0 (take i xs) (get_or xs i 0)
    ∙ ap (λ k. by_rows f 0 (take i xs) ++ f k (get_or xs i 0) ∷ []) (let n = length_front xs i h in let e : 0 + length (take i xs) ≡ i = omega arith in e)

pub next_mapped : {A : Type 0} (f : ℕ → A) (xs : List ℕ) (i : ℕ) → i < length xs → map f (take (i + 1) xs) ≡ map f (take i xs) ++ f (get_or xs i 0) ∷ []
next_mapped f xs i h = ap (map f) (take_more xs i 0 h) ∙ map-append f (take i xs) (get_or xs i 0 ∷ [])

pub map_same : (xs : List ℤ) → map (λ z. z) xs ≡ xs
map_same [] = refl
map_same (x ∷ xs) = ap (λ l. x ∷ l) (map_same xs)

-- a number below 2^31 as one of 32 bits with a sign
pub as_pos : (n : ℕ) → n < 2147483648 → cast_signed w32 n ≡ pos n
as_pos n h = to_z_pos w32 n (omega arith)

-- ── digits ──

ascii : (a b c d : ℕ) → a < 128 → b < 128 → c < 128 → d < 128 → IsAscii (a ∷ b ∷ c ∷ d ∷ [])
ascii a b c d p q r s zero = p
ascii a b c d p q r s (suc zero) = q
ascii a b c d p q r s (suc (suc zero)) = r
ascii a b c d p q r s (suc (suc (suc zero))) = s
ascii a b c d p q r s (suc (suc (suc (suc k)))) = omega arith

pub digits_text : (x : ℕ) → is_utf8 (digits_of x) ≡ true
digits_text x =
    let n = x / 4294967296 in
    is_utf8-from_IsUtf8 (digits_of x) (IsUtf8-from_ascii (digits_of x)
    (ascii (48 + n / 10 / 10 / 10 % 10) (48 + n / 10 / 10 % 10) (48 + n / 10 % 10) (48 + n % 10) (omega arith) (omega arith) (omega arith) (omega arith)))

-- ── keys ──

get_mapped : (xs : List ℕ) (i : ℕ) → i < length xs → number_at (map key_of xs) i ≡ key_of (get_or xs i 0)
get_mapped [] i h = absurd (omega arith)
get_mapped (x ∷ xs) zero h = refl
get_mapped (x ∷ xs) (suc i) h = get_mapped xs i (omega arith)

good_key : (x : ℕ) → is_bad_key 8 (key_of x) ≡ false
good_key x = lt-leb 8 (x / 1099511627776 % 8) (omega arith)

pub keys_fit : (states : List ℕ) (keys : List ℤ) → keys ≡ map key_of states → have_keys 8 keys None ≡ true
keys_fit states keys e =
    let n = length-map states key_of in
    ap (λ k. have_keys 8 k None) e
    ∙ ap not (none_bad (λ row. is_bad_key 8 (number_at (map key_of states) row)) (length (map key_of states))
    (λ k l. ap (is_bad_key 8) (get_mapped states k (omega arith)) ∙ good_key (get_or states k 0)))

-- ── lists ──

pub next_lists : (limit : ℕ) (xs : List ℕ) (i : ℕ) (row : List ℕ) (offsets more : List ℤ) → i < length xs → row ≡ items_of i (get_or xs i 0)
    → Laid limit (by_rows items_of 0 (take i xs)) offsets (concat (by_rows items_of 0 (take i xs)))
    → more ≡ offsets ++ pos (length (concat (by_rows items_of 0 (take i xs)) ++ row)) ∷ [] → length (concat (by_rows items_of 0 (take i xs)) ++ row) < limit
    → Laid limit (by_rows items_of 0 (take (i + 1) xs)) more (concat (by_rows items_of 0 (take (i + 1) xs)))
next_lists limit xs i row offsets more h r s m q =
    let rows = by_rows items_of 0 (take i xs) in
    let next = one_more limit rows row offsets more (concat rows) (concat rows ++ row) s refl m q in
    let e : rows ++ row ∷ [] ≡ by_rows items_of 0 (take (i + 1) xs) = ap (λ y. rows ++ y ∷ []) r ∙ sym (next_row items_of xs i h) in
    subst (λ l. Laid limit l more (concat l)) e (subst (λ b. Laid limit (rows ++ row ∷ []) more b) next.bytes next)

next_concat : (xs : List ℕ) (i : ℕ) → i < length xs
    → concat (by_rows items_of 0 (take i xs)) ++ items_of i (get_or xs i 0) ≡ concat (by_rows items_of 0 (take (i + 1) xs))
next_concat xs i h =
    let rows = by_rows items_of 0 (take i xs) in
    let row = items_of i (get_or xs i 0) in
    sym (ap concat (next_row items_of xs i h) ∙ concat-append rows (row ∷ []) ∙ ap (λ l. concat rows ++ l) (append-nil row))

pub next_items : (xs : List ℕ) (i : ℕ) (old new : List ℤ) → i < length xs → old ≡ map pos (concat (by_rows items_of 0 (take i xs)))
    → new ≡ old ++ map pos (items_of i (get_or xs i 0)) → new ≡ map pos (concat (by_rows items_of 0 (take (i + 1) xs)))
next_items xs i old new h o n =
    n ∙ ap (λ l. l ++ map pos (items_of i (get_or xs i 0))) o ∙ sym (map-append pos (concat (by_rows items_of 0 (take i xs))) (items_of i (get_or xs i 0)))
    ∙ ap (map pos) (next_concat xs i h)

pub item_count : (xs : List ℕ) (i : ℕ) (old new : List ℤ) → old ≡ map pos (concat (by_rows items_of 0 (take i xs))) → new ≡ old ++ map pos (items_of i (get_or xs i 0))
    → length new ≡ length (concat (by_rows items_of 0 (take i xs)) ++ items_of i (get_or xs i 0))
item_count xs i old new o n =
    let rows = concat (by_rows items_of 0 (take i xs)) in
    let row = items_of i (get_or xs i 0) in
    ap length (n ∙ ap (λ l. l ++ map pos row) o ∙ sym (map-append pos rows row)) ∙ length-map (rows ++ row) pos

pub more_items : (i x : ℕ) (old new : List ℤ) → new ≡ old ++ map pos (items_of i x) → length old ≤ 2 * i → length new ≤ 2 * (i + 1)
more_items i x old new n h =
    let e : length new ≡ length old + length (map pos (items_of i x)) = ap length n ∙ length-append old (map pos (items_of i x)) in
    let l = length-map (items_of i x) pos in
    let k = length-from_on (λ j. x / 281474976710656 + j) 0 (i % 3) in
    omega arith

pub lists_rise : (limit : ℕ) (rows : List (List ℕ)) (offsets items : List ℤ) → Laid limit rows offsets (concat rows) → items ≡ map pos (concat rows) → are_offsets offsets (length items) ≡ true
lists_rise limit rows offsets items s e = ap (are_offsets offsets) (ap length e ∙ length-map (concat rows) pos) ∙ laid_rise limit rows offsets (concat rows) s

pub list_fine : (k : Kind) (offsets items : List ℤ) (child : Parts) → k ≡ kind_of_p → child ≡ numbers_of items → are_offsets offsets (length items) ≡ true → fault_in child ≡ None
    → fault_in (nested (listed (record { kind = k; width = small; offsets = offsets; validity = None })) (also child none)) ≡ None
unfolding kind_eq
list_fine k offsets items child e c r s =
    let rows : rows_in child ≡ length items = ap rows_in c ∙ length-map items (signed_to_bytes w32 little) in
    let rise : are_offsets offsets (rows_in child) ≡ true = ap (are_offsets offsets) rows ∙ r in
    let kind : kind_in child ≡ integer Int32 = ap kind_in c in
    rw (e, kind, rise, s) refl

-- ── a batch ──

rows_between : (rows : List (List ℕ)) → variable_rows (ends_from 0 rows) ≡ length rows
rows_between rows = let n = length-ends 0 rows in omega arith

rows_of : (states : List ℕ) → have_rows (length states) (arrays_of states) ≡ true
unfolding numbers_array texts_array keys_array lists_array
rows_of states =
    let h = length states in
    let ns = by_rows number_of 0 states in
    let ts = map digits_of states in
    let ps = by_rows items_of 0 states in
    let n : length (map (signed_to_bytes w64 little) (map (held_or (pos 0)) ns)) ≡ h =
    length-map (map (held_or (pos 0)) ns) (signed_to_bytes w64 little) ∙ length-map ns (held_or (pos 0)) ∙ length-by_rows number_of 0 states in
    let t : variable_rows (ends_from 0 ts) ≡ h = rows_between ts ∙ length-map states digits_of in
    let d : length (map key_of states) ≡ h = length-map states key_of in
    let p : variable_rows (ends_from 0 ps) ≡ h = rows_between ps ∙ length-by_rows items_of 0 states in
    rw (eq-eqb _ _ n, eq-eqb _ _ t, eq-eqb _ _ d, eq-eqb _ _ p) refl

pub batch_fine : (states : List ℕ) → batch_fault (batch_of states) ≡ None
batch_fine states = rw (rows_of states) refl

-- a batch of these columns
pub batch_is : (states : List ℕ) (schema : List Keyed) (n t d p : Array) (columns : List Array) → schema ≡ generated_schema → columns ≡ n ∷ t ∷ d ∷ p ∷ []
    → parts_of n ≡ numbers_array (by_rows number_of 0 states) → parts_of t ≡ texts_array (map digits_of states) → parts_of d ≡ keys_array (map key_of states)
    → parts_of p ≡ lists_array (by_rows items_of 0 states)
    → record { height = length states; schema = schema; arrays = all_parts_of columns; custom = [] } ≡ batch_of states
batch_is states schema n t d p columns s c en et ed ep =
    let made = λ (k : List Keyed) (xs : List Parts). let b : Batch = record { height = length states; schema = k; arrays = xs; custom = [] } in b in
    ap (λ k. made k (all_parts_of columns)) s ∙ ap (λ xs. made generated_schema (all_parts_of xs)) c
    ∙ ap (λ x. made generated_schema (x ∷ parts_of t ∷ parts_of d ∷ parts_of p ∷ [])) en
    ∙ ap (λ x. made generated_schema (numbers_array (by_rows number_of 0 states) ∷ x ∷ parts_of d ∷ parts_of p ∷ [])) et
    ∙ ap (λ x. made generated_schema (numbers_array (by_rows number_of 0 states) ∷ texts_array (map digits_of states) ∷ x ∷ parts_of p ∷ [])) ed
    ∙ ap (λ x. made generated_schema (numbers_array (by_rows number_of 0 states) ∷ texts_array (map digits_of states) ∷ keys_array (map key_of states) ∷ x ∷ [])) ep

-- ── what a call gives is what is asked for ──

pub gives_as : {A E : Type 0} (view : A → Parts) (r : Result A E) (x y : Parts) → x ≡ y → IfOk r (λ a. view a ≡ x) → IfOk r (λ a. view a ≡ y)
gives_as view (Ok a) x y e h = h ∙ e
gives_as view (Err f) x y e h = h

pub texts_are : (limit : ℕ) (xs : List ℕ) (i : ℕ) (offsets : List ℤ) (values : List ℕ) → length xs ≤ i → Laid limit (map digits_of (take i xs)) offsets values
    → leaf (text (record { kind = kind_of_t; offsets = map (λ z. z) offsets; values = values; validity = None })) ≡ texts_array (map digits_of xs)
unfolding texts_array
texts_are limit xs i offsets values h s =
    let all = take_all i xs h in
    ap (λ o. leaf (text (record { kind = kind_of_t; offsets = o; values = values; validity = None }))) (map_same offsets ∙ s.ends)
    ∙ ap (λ v. leaf (text (record { kind = kind_of_t; offsets = ends_from 0 (map digits_of (take i xs)); values = v; validity = None }))) s.bytes
    ∙ ap (λ l. leaf (text (record { kind = kind_of_t; offsets = ends_from 0 (map digits_of l); values = concat (map digits_of l); validity = None }))) all

pub lists_are : (limit : ℕ) (xs : List ℕ) (i : ℕ) (offsets items : List ℤ) → length xs ≤ i → Laid limit (by_rows items_of 0 (take i xs)) offsets (concat (by_rows items_of 0 (take i xs)))
    → items ≡ map pos (concat (by_rows items_of 0 (take i xs)))
    → nested (listed (record { kind = kind_of_p; width = small; offsets = offsets; validity = None })) (also (numbers_of items) none) ≡ lists_array (by_rows items_of 0 xs)
unfolding lists_array
lists_are limit xs i offsets items h s e =
    let all = take_all i xs h in
    ap (λ o. nested (listed (record { kind = kind_of_p; width = small; offsets = o; validity = None })) (also (numbers_of items) none)) s.ends
    ∙ ap (λ m. nested (listed (record { kind = kind_of_p; width = small; offsets = ends_from 0 (by_rows items_of 0 (take i xs)); validity = None })) (also (numbers_of m) none)) e
    ∙ ap (λ l. nested (listed (record { kind = kind_of_p; width = small; offsets = ends_from 0 (by_rows items_of 0 l); validity = None }))
    (also (numbers_of (map pos (concat (by_rows items_of 0 l)))) none)) all
