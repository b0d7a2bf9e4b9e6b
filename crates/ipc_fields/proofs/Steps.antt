-- Steps of reading tables.
use Rattle.std.proofs.Common.{◌≡◌, ℕ, zero, suc, ◌+◌, ◌*◌, ◌<◌, List, [], ◌∷◌, length, map, drop, get_or, Option, Some, None, false, Result, Ok, Err, refl, sym, ◌∙◌, ap, arith}
use Rattle.std.specs.Prelude.{nat_eq, not, slice_get}
use Rattle.std.proofs.lemmas.List.{drop_more}
use Rattle.std.specs.Int.{w8}
use Rattle.std.specs.Result.{IsErr, IsErrAnd}
use Rattle.arrow_spec.specs.declared.error.IpcError.{IpcError}
use Rattle.arrow_spec.specs.declared.error.IpcError.TheVariants.{OutOfSpec, Unsupported, TooDeep, TooMany, Memory}
use Rattle.arrow_spec.specs.declared.error.FlatError.{FlatError}
use Rattle.arrow_spec.specs.Readings.{bind, Reading, Refuses, Gives, refusals}
use Rattle.ipc_fields.specs.Causes.{RefusesBytes, Decodes}
use Rattle.arrow_spec.specs.Flat.{Table, slot, slot_bool, target, table_at, if_present, or_default, unsigned_at}
use Rattle.arrow_flat.specs.Read.{VectorIn, slot_bool_or, item_table, is_set_or}

bool_at : (r : Result ℕ FlatError) → bind (bind r (λ x. Ok (Some x))) (λ n. Ok (is_set_or false n)) ≡ bind (bind (bind r (λ x. Ok (Some x))) (λ n. Ok (or_default 0 n))) (λ n. Ok (not (nat_eq n 0)))
unfolding bind
bool_at (Ok n) = refl
bool_at (Err e) = refl

bool_of : (p : Result (Option ℕ) FlatError) (f : ℕ → Result ℕ FlatError) → bind p (λ q. bind (if_present f q) (λ n. Ok (is_set_or false n))) ≡ bind (bind p (λ q. bind (if_present f q) (λ n. Ok (or_default 0 n)))) (λ n. Ok (not (nat_eq n 0)))
unfolding bind
bool_of (Ok None) f = refl
bool_of (Ok (Some q)) f = bool_at (f q)
bool_of (Err e) f = refl

-- a truth value whose default is false
pub bool_slot : (b : List ℕ) (t : Table) (i : ℕ) → slot_bool_or false b t i ≡ slot_bool b t i
bool_slot b t i = bool_of (slot b t i) (unsigned_at w8 b)

-- the table to which an offset of a vector leads
pub table_in : (v : VectorIn) (i : ℕ) → v.width ≡ 4 → item_table v i ≡ bind (target v.bytes (v.vector.first + 4 * i)) (λ p. table_at v.bytes p)
table_in v i wide = let p : v.vector.first + i * 4 ≡ v.vector.first + 4 * i = omega arith in rw (wide, p) refl

-- what bytes alone refuse is a refusal also where a device may fail
pub refuses : (e : IpcError) (es : List IpcError) → RefusesBytes e es → Refuses e es
refuses Memory es h = h
refuses (OutOfSpec x) es h = h
refuses (Unsupported x) es h = h
refuses TooDeep es h = h
refuses (TooMany x) es h = h
refuses e es h = absurd h

pub gives : {X Y : Type 0} (view : X → Y) (r : Result X IpcError) (R : Reading Y) → Decodes view r R → Gives view r R
gives view (Ok x) R h = h
gives view (Err e) R h = refuses e (refusals R) h

-- a refusal where nothing is refused is one of any refusals
pub none_refused : (e : IpcError) (es : List IpcError) → RefusesBytes e [] → RefusesBytes e es
none_refused Memory es h = tt
none_refused e es h = absurd h

pub bind_twice : {A B C E : Type 0} (r : Result A E) (f : A → Result B E) (g : B → Result C E) → bind (bind r f) g ≡ bind r (λ x. bind (f x) g)
unfolding bind
bind_twice (Ok x) f g = refl
bind_twice (Err e) f g = refl

-- one step of a reading that goes on in the same way
pub step : {A B C E : Type 0} (r : Result A E) (f : A → Result B E) (g : B → Result C E) (k : A → Result C E) → ((x : A) → r ≡ Ok x → k x ≡ bind (f x) g) → bind r k ≡ bind (bind r f) g
unfolding bind
step (Ok x) f g k h = h x refl
step (Err e) f g k h = refl

pub ok_next : {A B E : Type 0} (x : A) (g : A → Result B E) → g x ≡ bind (Ok x) g
unfolding bind
ok_next x g = refl

-- functions with the same values
pub fun_same : {A B : Type 0} {f g : A → B} → ((x : A) → f x ≡ g x) → f ≡ g
fun_same h = λ i x. h x i

pub is_err : {X : Type 0} (r : Result X IpcError) (e : IpcError) (P : IpcError → Type 0) → IsErr r → IsErrAnd r P → ((f : IpcError) → P f → f ≡ e) → r ≡ Err e
is_err (Ok x) e P h p k = cc
is_err (Err f) e P h p k = ap Err (k f p)

-- an item of a list, and those behind it
pub drop_item : {A : Type 0} (xs : List A) (i : ℕ) (x d : A) → i < length xs → x ≡ get_or xs i d → drop i xs ≡ x ∷ drop (i + 1) xs
drop_item xs i x d h e = drop_more xs i d h ∙ ap (λ y. y ∷ drop (i + 1) xs) (sym e)

-- the same of what is made of the items
pub mapped_item : {A B : Type 0} (f : A → B) (xs : List A) (i : ℕ) (x : A) → i < length xs → x ≡ get_or xs i x → map f (drop i xs) ≡ f x ∷ map f (drop (i + 1) xs)
mapped_item f xs i x h e = ap (map f) (drop_item xs i x x h e)

pub mapped_found : {A B : Type 0} (f : A → B) (xs : List A) (i : ℕ) (y : B) → slice_get (map f xs) i ≡ Some y → map f (drop i xs) ≡ y ∷ map f (drop (i + 1) xs)
mapped_found f [] i y h = cc
mapped_found f (x ∷ xs) zero y h = ap (λ z. z ∷ map f xs) cc
mapped_found f (x ∷ xs) (suc i) y h = let e : suc i + 1 ≡ suc (i + 1) = omega arith in rw e (mapped_found f xs i y h)

-- a refusal of a call that is handed on
pub refused_with : {A B : Type 0} (view : A → B) (r : Result A IpcError) (R : Reading B) (e : IpcError) → r ≡ Err e → RefusesBytes e (refusals R) → Decodes view r R
refused_with view r R e h told = rw h told
