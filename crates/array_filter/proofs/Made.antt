-- Rows that were taken, as the parts of an array that is made of them.
use Rattle.std.proofs.Common.{◌≡◌, ◌∙◌, sym, refl, ap, subst, ℕ, ◌+◌, ◌*◌, ◌<◌, List, length, map, take, drop, get_or, [], ◌∷◌, Bool, true, Option, Some, None, ℤ, pos, arith}
use Rattle.std.specs.List.{flat_map}
use Rattle.std.specs.Option.{option_map}
use Rattle.std.proofs.lemmas.List.{same_lists}
use Rattle.arrow_spec.specs.Flat.{Order}
use Rattle.arrow_spec.specs.Kinds.{Kind, Offsets, small}
use Rattle.arrow_spec.specs.Kinds as kind
use Rattle.arrow_spec.specs.declared.types.IntegerType.{IntegerType}
use Rattle.arrow_buffers.specs.declared.error.ArrayError.{ArrayError}
use Rattle.arrow_spec.specs.Arrays.{from_on}
use Rattle.arrow_buffers.specs.Items.{items_at}
use Rattle.arrow_buffers.specs.Leaf.{Leaf, fixed_row}
use Rattle.arrow_buffers.specs.Variable.{Variable}
use Rattle.arrow_buffers.specs.Views.{Views}
use Rattle.arrow_buffers.proofs.Counts.{found}
use Rattle.arrow_buffers.proofs.Parts.{get-from_on, length-from_on}
use Rattle.arrow_arrays.specs.Heads.{Head, Listed, Counted, Tagged, Indexed, is_map}
use Rattle.arrow_arrays.specs.LeafParts.{as_bytes, numbers}
use Rattle.arrow_arrays.specs.Parts.{Parts, Forest, nested, also, forest, fault_in, rows_in}
use Rattle.array_filter.specs.Rows.{AreBelow, taken}
use Rattle.array_filter.specs.Taken.{each_taken, leaf_taken, rows_taken, these_rows}
use Rattle.array_filter.proofs.Between.{even_all, even-piece, length-even}
use Rattle.array_filter.proofs.Lists.{all_at, length-taken, map-taken, taken_at}
use Rattle.array_filter.proofs.TreeTaken.{rows_are_taken}

-- what is as parts of which arrays are made is not refused
pub refused : {A : Type 0} (fault : A → Option ArrayError) (made parts : A) (e : ArrayError) → made ≡ parts → fault parts ≡ None → fault made ≡ Some e → ⊥
refused fault made parts e same fine h = let both : None ≡ Some e = sym fine ∙ ap fault (sym same) ∙ h in cc

-- ── parts by their fields ──

abbrev pub leaf_of : {A : Type 0} → Kind → List A → Option (List Bool) → Leaf A
leaf_of k vs v = record { kind = k; values = vs; validity = v }

pub leaf_same : {A : Type 0} (k l : Kind) (vs ws : List A) (v w : Option (List Bool)) → k ≡ l → vs ≡ ws → v ≡ w → leaf_of k vs v ≡ leaf_of l ws w
leaf_same k l vs ws v w p q r = ap (λ x. leaf_of x vs v) p ∙ ap (λ x. leaf_of l x v) q ∙ ap (λ x. leaf_of l ws x) r

abbrev pub variable_of : Kind → List ℤ → List ℕ → Option (List Bool) → Variable
variable_of k os vs v = record { kind = k; offsets = os; values = vs; validity = v }

pub variable_same : (k l : Kind) (os ps : List ℤ) (vs ws : List ℕ) (v w : Option (List Bool)) → k ≡ l → os ≡ ps → vs ≡ ws → v ≡ w → variable_of k os vs v ≡ variable_of l ps ws w
variable_same k l os ps vs ws v w p o q r = ap (λ x. variable_of x os vs v) p ∙ ap (λ x. variable_of l x vs v) o ∙ ap (λ x. variable_of l ps x v) q ∙ ap (λ x. variable_of l ps ws x) r

abbrev pub views_of : Kind → List ℕ → List (List ℕ) → Option (List Bool) → Views
views_of k vs bs v = record { kind = k; views = vs; buffers = bs; validity = v }

pub views_same : (k l : Kind) (vs ws : List ℕ) (bs cs : List (List ℕ)) (v w : Option (List Bool)) → k ≡ l → vs ≡ ws → bs ≡ cs → v ≡ w → views_of k vs bs v ≡ views_of l ws cs w
views_same k l vs ws bs cs v w p q b r = ap (λ x. views_of x vs bs v) p ∙ ap (λ x. views_of l x bs v) q ∙ ap (λ x. views_of l ws x v) b ∙ ap (λ x. views_of l ws cs x) r

abbrev pub listed_of : Kind → Offsets → List ℤ → Option (List Bool) → Listed
listed_of k o os v = record { kind = k; width = o; offsets = os; validity = v }

pub listed_same : (k l : Kind) (o u : Offsets) (os ps : List ℤ) (v w : Option (List Bool)) → k ≡ l → o ≡ u → os ≡ ps → v ≡ w → listed_of k o os v ≡ listed_of l u ps w
listed_same k l o u os ps v w p q s r = ap (λ x. listed_of x o os v) p ∙ ap (λ x. listed_of l x os v) q ∙ ap (λ x. listed_of l u x v) s ∙ ap (λ x. listed_of l u ps x) r

abbrev pub counted_of : Kind → ℕ → Option (List Bool) → Counted
counted_of k n v = record { kind = k; rows = n; validity = v }

pub counted_same : (k l : Kind) (n m : ℕ) (v w : Option (List Bool)) → k ≡ l → n ≡ m → v ≡ w → counted_of k n v ≡ counted_of l m w
counted_same k l n m v w p q r = ap (λ x. counted_of x n v) p ∙ ap (λ x. counted_of l x v) q ∙ ap (λ x. counted_of l m x) r

abbrev pub tagged_of : Kind → List ℤ → Option (List ℤ) → Tagged
tagged_of k ts os = record { kind = k; types = ts; offsets = os }

pub tagged_same : (k l : Kind) (ts us : List ℤ) (os ps : Option (List ℤ)) → k ≡ l → ts ≡ us → os ≡ ps → tagged_of k ts os ≡ tagged_of l us ps
tagged_same k l ts us os ps p q r = ap (λ x. tagged_of x ts os) p ∙ ap (λ x. tagged_of l x os) q ∙ ap (λ x. tagged_of l us x) r

abbrev pub indexed_of : Kind → IntegerType → List ℤ → Option (List Bool) → Indexed
indexed_of k t ks v = record { kind = k; index = t; keys = ks; validity = v }

pub indexed_same : (k l : Kind) (t u : IntegerType) (ks ls : List ℤ) (v w : Option (List Bool)) → k ≡ l → t ≡ u → ks ≡ ls → v ≡ w → indexed_of k t ks v ≡ indexed_of l u ls w
indexed_same k l t u ks ls v w p q s r = ap (λ x. indexed_of x t ks v) p ∙ ap (λ x. indexed_of l x ks v) q ∙ ap (λ x. indexed_of l u x v) s ∙ ap (λ x. indexed_of l u ls x) r

pub nested_same : (h g : Head) (cs ds : Forest) → h ≡ g → cs ≡ ds → nested h cs ≡ nested g ds
nested_same h g cs ds p q = ap (λ x. nested x cs) p ∙ ap (nested g) q

-- ── what is known of them ──

-- the rows of an array make one
pub fine : (rows : List ℕ) (p : Parts) → fault_in p ≡ None → AreBelow (rows_in p) rows → fault_in (rows_taken rows p) ≡ None
fine rows p e a = (rows_are_taken rows p e a).no_fault

-- maps have offsets of 32 bits
pub map_is_small : (o : Offsets) (k : Kind) → is_map o k ≡ true → o ≡ small
map_is_small small k e = refl
map_is_small o (kind.extension name metadata k) e = map_is_small o k e
map_is_small o k e = cc

-- the rows of several arrays, one by one
pub forest-taken : (rows : List ℕ) (ps : List Parts) → forest (map (rows_taken rows) ps) ≡ each_taken (these_rows rows) (forest ps)
forest-taken rows [] = refl
forest-taken rows (p ∷ ps) = ap (also (rows_taken rows p)) (forest-taken rows ps)

-- items that are read from the bytes of rows
pub items_kept : {A : Type 0} (read : Order → List ℕ → A) (w : ℕ) (order : Order) (bytes : List ℕ) (rows : List ℕ) (n : ℕ) (xs : List A)
    → items_at read w order bytes 0 n ≡ xs → length bytes ≡ w * n → AreBelow n rows → items_at read w order (flat_map (fixed_row w bytes) rows) 0 (length rows) ≡ taken rows xs
items_kept {A} read w order bytes rows n xs e l a =
    let kept = flat_map (fixed_row w bytes) rows in
    let f : ℕ → A = λ j. read order (take w (drop (0 + w * j) bytes)) in
    let g : ℕ → A = λ j. read order (take w (drop (0 + w * j) kept)) in
    let all = even_all w n (length bytes) rows (omega (arith, l)) a in
    let start : (j : ℕ) → 0 + w * j ≡ w * j = λ j. omega arith in
    let on : (i : ℕ) → 0 + i ≡ i = λ i. omega arith in
    let held : n ≡ length xs = sym (length-from_on f 0 n) ∙ ap length e in
    let below : AreBelow (length xs) rows = subst (λ k. AreBelow k rows) held a in
    let row : (i : ℕ) → i < length rows → g (0 + i) ≡ f (0 + get_or rows i 0) = λ i lt.
    ap g (on i) ∙ ap (λ k. read order (take w (drop k kept))) (start i) ∙ ap (read order) (even-piece w bytes rows i all lt) ∙ ap (λ k. read order (take w (drop k bytes))) (sym (start (get_or rows i 0))) ∙ ap f (sym (on (get_or rows i 0))) in
    let long : length (from_on g 0 (length rows)) ≡ length (taken rows xs) = length-from_on g 0 (length rows) ∙ sym (length-taken rows xs below) in
    same_lists (from_on g 0 (length rows)) (taken rows xs) long (λ i d h.
    (let lt : i < length rows = omega (arith, h, length-from_on g 0 (length rows)) in
    let there : get_or rows i 0 < n = all_at (λ r. r < n) rows i a lt in
    (found (from_on g 0 (length rows)) i (g (0 + i)) (get-from_on g 0 (length rows) i lt)).at d ∙ row i lt
    ∙ sym ((found (from_on f 0 n) (get_or rows i 0) (f (0 + get_or rows i 0)) (get-from_on f 0 n (get_or rows i 0) there)).at d) ∙ ap (λ ys. get_or ys (get_or rows i 0) d) e ∙ sym (taken_at d rows xs i below lt)))

-- how many bytes they are
pub kept_size : (w : ℕ) (bytes : List ℕ) (rows : List ℕ) (n : ℕ) → length bytes ≡ w * n → AreBelow n rows → length (flat_map (fixed_row w bytes) rows) ≡ w * length rows
kept_size w bytes rows n l a = length-even w bytes rows (even_all w n (length bytes) rows (omega (arith, l)) a)

-- ── numbers ──

-- numbers seen as their bytes
pub bytes_taken : {A : Type 0} (write : A → List ℕ) (rows : List ℕ) (f g : Leaf A) → g ≡ leaf_taken rows f → numbers (as_bytes write g) ≡ numbers (leaf_taken rows (as_bytes write f))
bytes_taken write rows f g h = ap (λ x. numbers (as_bytes write x)) h ∙ ap (λ vs. numbers (leaf_of f.kind vs (option_map (taken rows) f.validity))) (map-taken write rows f.values)

-- keys without a sign
pub keys_taken : (rows : List ℕ) (f g : Leaf ℕ) (keys : List ℤ) → g ≡ leaf_taken rows f → keys ≡ map pos f.values → map pos g.values ≡ taken rows keys
keys_taken rows f g keys h e = ap (λ x. map pos x.values) h ∙ map-taken pos rows f.values ∙ ap (taken rows) (sym e)
