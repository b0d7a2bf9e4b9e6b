-- The cell that stands in a row.
use Rattle.std.proofs.Common.{◌≡◌, ℕ, zero, suc, ◌+◌, ◌<◌, List, [], ◌∷◌, Bool, true, false, Option, Some, None, map, length, get_or, slice_get, replicate, cond, refl, sym, ap, ◌∙◌, arith}
use Rattle.std.proofs.lemmas.Bool.{eqb-true}
use Rattle.std.specs.Prelude.{if◌then◌else◌}
use Rattle.std.proofs.lemmas.List.{ext_get_or, length-map}
use Rattle.arrow_spec.specs.Cells.{Cell, null}
use Rattle.arrow_spec.specs.Arrays.{from_on}
use Rattle.arrow_buffers.specs.Rows.{bytes_cell, masked, masked_by, has_rows, is_valid}
use Rattle.arrow_buffers.specs.Leaf.{Leaf, leaf_cells}
use Rattle.arrow_buffers.specs.Views.{Views, view_rows, view_at, view_bytes, view_cells}
use Rattle.arrow_buffers.proofs.Counts.{get_there}
use Rattle.arrow_buffers.proofs.ViewParts.{Seen}
use Rattle.arrow_buffers.proofs.Parts.{get-from_on, length-from_on}
use Rattle.arrow_arrays.specs.LeafParts.{number_cell, as_bytes}

null_by : (bits : List Bool) (cells : List Cell) (row : ℕ) → length bits ≡ length cells → row < length cells → get_or bits row true ≡ false → slice_get (masked_by bits cells) row ≡ Some null
null_by bits [] row e h v = absurd (omega arith)
null_by [] (x ∷ xs) row e h v = absurd (omega arith)
null_by (b ∷ bits) (x ∷ xs) zero e h v = ap (λ y. Some (cond y x null)) v
null_by (b ∷ bits) (x ∷ xs) (suc row) e h v = null_by bits xs row (omega arith) (omega arith) v

there_by : (bits : List Bool) (cells : List Cell) (row : ℕ) (x : Cell) → length bits ≡ length cells → get_or bits row true ≡ true → slice_get cells row ≡ Some x → slice_get (masked_by bits cells) row ≡ Some x
there_by bits [] row x e v s = cc
there_by [] (y ∷ ys) row x e v s = absurd (omega arith)
there_by (b ∷ bits) (y ∷ ys) zero x e v s = ap (λ z. Some (cond z y null)) v ∙ s
there_by (b ∷ bits) (y ∷ ys) (suc row) x e v s = there_by bits ys row x (omega arith) v s

-- a row that is null holds null
pub null_row : (v : Option (List Bool)) (cells : List Cell) (row n : ℕ) → length cells ≡ n → has_rows v n ≡ true → row < n → is_valid v row ≡ false → slice_get (masked v cells) row ≡ Some null
null_row None cells row n l h lt e = cc
null_row (Some bits) cells row n l h lt e =
    let m : length bits ≡ n = eqb-true (length bits) n h in
    null_by bits cells row (m ∙ sym l) (omega arith) e

-- another row holds what stands there
pub valid_row : (v : Option (List Bool)) (cells : List Cell) (row n : ℕ) (x : Cell) → length cells ≡ n → has_rows v n ≡ true → is_valid v row ≡ true → slice_get cells row ≡ Some x → slice_get (masked v cells) row ≡ Some x
valid_row None cells row n x l h e s = s
valid_row (Some bits) cells row n x l h e s =
    let m : length bits ≡ n = eqb-true (length bits) n h in
    there_by bits cells row x (m ∙ sym l) e s

pub get-map : {A B : Type 0} (f : A → B) (xs : List A) (i : ℕ) (x : A) → slice_get xs i ≡ Some x → slice_get (map f xs) i ≡ Some (f x)
get-map f [] i x e = cc
get-map f (y ∷ ys) zero x e = let q : y ≡ x = cc in ap (λ z. Some (f z)) q
get-map f (y ∷ ys) (suc i) x e = get-map f ys i x e

pub get-row : {A : Type 0} (f : ℕ → A) (n row : ℕ) → row < n → slice_get (from_on f 0 n) row ≡ Some (f row)
get-row f n row h = get-from_on f 0 n row h ∙ ap (λ k. Some (f k)) (let e : 0 + row ≡ row = omega arith in e)

pub get-replicate : {A : Type 0} (n row : ℕ) (x : A) → row < n → slice_get (replicate n x) row ≡ Some x
get-replicate zero row x h = absurd (omega arith)
get-replicate (suc n) zero x h = refl
get-replicate (suc n) (suc row) x h = get-replicate n row x (omega arith)

-- lists that agree at each place are equal
pub same_lists : (xs ys : List Cell) → length xs ≡ length ys → ((i : ℕ) → i < length xs → slice_get xs i ≡ slice_get ys i) → xs ≡ ys
same_lists xs ys l h = ext_get_or null xs ys l (λ i lt.
    let a = get_there xs i null lt in
    let b = get_there ys i null (omega arith) in
    let e : Some (get_or xs i null) ≡ Some (get_or ys i null) = sym a ∙ h i lt ∙ b in
    cc)

pub none_there : {A : Type 0} (b : Bool) (x : A) → None ≡ (if b then Some x else None) → b ≡ false
none_there true x e = cc
none_there false x e = refl

pub some_there : {A : Type 0} (b : Bool) (x y : A) → Some y ≡ (if b then Some x else None) → (b ≡ true) × (y ≡ x)
some_there true x y e = (refl, cc)
some_there false x y e = cc

pub null_view : (is_text : Bool) (p : Views) (row : ℕ) → Seen p → row < view_rows p.views → is_valid p.validity row ≡ false → slice_get (view_cells is_text p) row ≡ Some null
null_view is_text p row s h e =
    let f : ℕ → Cell = λ i. bytes_cell is_text (view_bytes p.buffers (view_at p.views i)) in
    null_row p.validity (from_on f 0 (view_rows p.views)) row (view_rows p.views) (length-from_on f 0 (view_rows p.views)) s.rows h e

pub valid_view : (is_text : Bool) (p : Views) (row : ℕ) (x : List ℕ) → Seen p → row < view_rows p.views → is_valid p.validity row ≡ true → x ≡ view_bytes p.buffers (view_at p.views row) → slice_get (view_cells is_text p) row ≡ Some (bytes_cell is_text x)
valid_view is_text p row x s h e q =
    let f : ℕ → Cell = λ i. bytes_cell is_text (view_bytes p.buffers (view_at p.views i)) in
    valid_row p.validity (from_on f 0 (view_rows p.views)) row (view_rows p.views) (bytes_cell is_text x) (length-from_on f 0 (view_rows p.views)) s.rows e (get-row f (view_rows p.views) row h ∙ ap (λ y. Some (bytes_cell is_text y)) (sym q))

-- rows that are each told of
pub null_told : (f : ℕ → Cell) (v : Option (List Bool)) (row n : ℕ) → has_rows v n ≡ true → row < n → is_valid v row ≡ false → slice_get (masked v (from_on f 0 n)) row ≡ Some null
null_told f v row n h lt e = null_row v (from_on f 0 n) row n (length-from_on f 0 n) h lt e

pub valid_told : (f : ℕ → Cell) (v : Option (List Bool)) (row n : ℕ) → has_rows v n ≡ true → row < n → is_valid v row ≡ true → slice_get (masked v (from_on f 0 n)) row ≡ Some (f row)
valid_told f v row n h lt e = valid_row v (from_on f 0 n) row n (f row) (length-from_on f 0 n) h e (get-row f n row lt)

-- what a validity that was read says
pub read_valid : (v w : Option (List Bool)) (row : ℕ) (r b : Bool) → w ≡ v → r ≡ is_valid w row → r ≡ b → is_valid v row ≡ b
read_valid v w row r b e s t = ap (λ u. is_valid u row) (sym e) ∙ sym s ∙ t

-- numbers by their bytes
pub null_number : {A : Type 0} (write : A → List ℕ) (f : Leaf A) (row : ℕ) → has_rows f.validity (length f.values) ≡ true → row < length f.values → is_valid f.validity row ≡ false → slice_get (leaf_cells (number_cell f.kind) (as_bytes write f)) row ≡ Some null
null_number write f row h lt e =
    let l = length-map (map write f.values) (number_cell f.kind) ∙ length-map f.values write in
    null_row f.validity (map (number_cell f.kind) (map write f.values)) row (length f.values) l h lt e

pub valid_number : {A : Type 0} (write : A → List ℕ) (f : Leaf A) (row : ℕ) (x : A) → has_rows f.validity (length f.values) ≡ true → is_valid f.validity row ≡ true → slice_get f.values row ≡ Some x → slice_get (leaf_cells (number_cell f.kind) (as_bytes write f)) row ≡ Some (number_cell f.kind (write x))
valid_number write f row x h e s =
    let l = length-map (map write f.values) (number_cell f.kind) ∙ length-map f.values write in
    valid_row f.validity (map (number_cell f.kind) (map write f.values)) row (length f.values) (number_cell f.kind (write x)) l h e (get-map (number_cell f.kind) (map write f.values) row (write x) (get-map write f.values row x s))
