-- Items that are read one after another, and the numbers in one of them.
use Rattle.std.proofs.Common.{◌≡◌, ℕ, zero, suc, ◌+◌, ◌-◌, ◌*◌, ◌<◌, ◌≤◌, List, [], ◌∷◌, ◌++◌, length, take, drop, min, Result, Ok, Err, Bool, true, false, refl, sym, ◌∙◌, ap, subst, arith, append_assoc, append-nil, drop-drop, leb-true, le-leb, length-drop, length-take}
use Rattle.std.proofs.lemmas.List.{drop-take}
use Rattle.std.specs.Prelude.{nat_le, ℤ}
use Rattle.std.specs.Int.{Width, w64, byte_len}
use Rattle.arrow_spec.specs.declared.error.FlatError.{FlatError}
use Rattle.arrow_spec.specs.declared.error.IpcError.{IpcError}
use Rattle.arrow_spec.specs.declared.error.OutOfSpecKind.{OutOfSpecKind}
use Rattle.arrow_spec.specs.declared.error.OutOfSpecKind.TheVariants as kinds
use Rattle.arrow_spec.specs.declared.message.FieldNode.{FieldNode}
use Rattle.arrow_spec.specs.declared.message.IpcBuffer.{IpcBuffer}
use Rattle.arrow_spec.specs.Readings.{bind, each, Reading, refusals, as_kind}
use Rattle.ipc_fields.specs.Causes.{RefusesBytes}
use Rattle.arrow_spec.specs.Flat.{part, signed_at}
use Rattle.arrow_spec.specs.Messages.{node_at, buffer_at}
use Rattle.arrow_flat.specs.Read.{VectorIn, item}
use Rattle.ipc_schema.specs.Views.{node_of, nodes_in, buffer_of, buffers_in, number_of, numbers_in}
use Rattle.ipc_fields.proofs.Steps.{none_refused}

-- those that were read before those that are left
unfoldable pub with_front : {A E : Type 0} → List A → Result (List A) E → Result (List A) E
with_front front (Ok xs) = Ok (front ++ xs)
with_front front (Err e) = Err e

pub with_front-nil : {A E : Type 0} (r : Result (List A) E) → with_front [] r ≡ r
unfolding with_front
with_front-nil (Ok xs) = refl
with_front-nil (Err e) = refl

with_front-one : {A E : Type 0} (front : List A) (x : A) (r : Result (List A) E) → with_front (front ++ x ∷ []) r ≡ with_front front (bind r (λ xs. Ok (x ∷ xs)))
unfolding with_front bind
with_front-one front x (Ok xs) = ap Ok (append_assoc front (x ∷ []) xs)
with_front-one front x (Err e) = refl

each-ok : {A E : Type 0} (f : ℕ → Result A E) (i n : ℕ) (x : A) → f i ≡ Ok x → each f i (suc n) ≡ bind (each f (suc i) n) (λ xs. Ok (x ∷ xs))
unfolding bind
each-ok f i n x h = rw h refl

each-err : {A E : Type 0} (f : ℕ → Result A E) (i n : ℕ) (e : E) → f i ≡ Err e → each f i (suc n) ≡ Err e
unfolding bind
each-err f i n e h = rw h refl

pub none_read : {A E : Type 0} (f : ℕ → Result A E) (n : ℕ) (front : List A) → front ≡ [] → with_front front (each f 0 (n - 0)) ≡ each f 0 n
none_read f n front h =
    let left : n - 0 ≡ n = omega arith in
    ap (λ xs. with_front xs (each f 0 (n - 0))) h ∙ with_front-nil (each f 0 (n - 0)) ∙ ap (each f 0) left

-- one more was read
pub more_read : {A E : Type 0} (f : ℕ → Result A E) (n i : ℕ) (front all : List A) (x : A) (whole : Result (List A) E) → i < n → with_front front (each f i (n - i)) ≡ whole → f i ≡ Ok x → all ≡ front ++ x ∷ [] → with_front all (each f (i + 1) (n - (i + 1))) ≡ whole
more_read f n i front all x whole less h got grown =
    let left : n - i ≡ suc (n - (i + 1)) = omega arith in
    let next : i + 1 ≡ suc i = omega arith in
    let step : each f i (n - i) ≡ bind (each f (i + 1) (n - (i + 1))) (λ xs. Ok (x ∷ xs)) = rw (left, next) (each-ok f i (n - suc i) x got) in
    ap (λ xs. with_front xs (each f (i + 1) (n - (i + 1)))) grown ∙ with_front-one front x (each f (i + 1) (n - (i + 1))) ∙ ap (with_front front) (sym step) ∙ h

refused_by : {A : Type 0} (e : IpcError) (r : Reading A) (f : ℕ → Reading A) (n i : ℕ) (front : List A) (whole : Reading (List A)) → i < n → with_front front (each f i (n - i)) ≡ whole → f i ≡ r → RefusesBytes e (refusals r) → RefusesBytes e (refusals whole)
unfolding with_front
refused_by e (Ok x) f n i front whole less h same r = none_refused e (refusals whole) r
refused_by e (Err es) f n i front whole less h same told =
    let left : n - i ≡ suc (n - (i + 1)) = omega arith in
    let step : each f i (n - i) ≡ Err es = rw left (each-err f i (n - (i + 1)) es same) in
    let all : whole ≡ Err es = sym h ∙ ap (with_front front) step in
    subst (λ r. RefusesBytes e (refusals r)) (sym all) told

-- a refusal of one is a refusal of all
pub one_refused : {A : Type 0} (f : ℕ → Reading A) (n i : ℕ) (front : List A) (whole : Reading (List A)) (e : IpcError) → i < n → with_front front (each f i (n - i)) ≡ whole → RefusesBytes e (refusals (f i)) → RefusesBytes e (refusals whole)
one_refused f n i front whole e less h told = refused_by e (f i) f n i front whole less h refl told

-- all were read
pub all_read : {A E : Type 0} (f : ℕ → Result A E) (n i : ℕ) (front : List A) (whole : Result (List A) E) → n ≤ i → with_front front (each f i (n - i)) ≡ whole → whole ≡ Ok front
unfolding with_front
all_read f n i front whole less h =
    let left : n - i ≡ 0 = omega arith in
    let step : with_front front (each f i (n - i)) ≡ Ok (front ++ []) = ap (λ k. with_front front (each f i k)) left in
    sym h ∙ step ∙ ap Ok (append-nil front)

-- ── the numbers in an item ──

same_test : (b c : Bool) → (b ≡ true → c ≡ true) → (c ≡ true → b ≡ true) → b ≡ c
same_test true true f g = refl
same_test true false f g = sym (f refl)
same_test false true f g = g refl
same_test false false f g = refl

take_less : (n m : ℕ) (xs : List ℕ) → n ≤ m → take n (take m xs) ≡ take n xs
take_less zero m xs less = refl
take_less (suc n) zero xs less = absurd (omega (arith, less))
take_less (suc n) (suc m) [] less = refl
take_less (suc n) (suc m) (x ∷ xs) less = ap (λ ys. x ∷ ys) (take_less n m xs (omega (arith, less)))

part_in : (b : List ℕ) (p width at n : ℕ) → at + n ≤ width → take n (drop at (take width (drop p b))) ≡ take n (drop (p + at) b)
part_in b p width at n inside =
    let split : width ≡ at + (width - at) = omega arith in
    let front : drop at (take width (drop p b)) ≡ take (width - at) (drop at (drop p b)) = ap (λ w. drop at (take w (drop p b))) split ∙ drop-take at (width - at) (drop p b) in
    let less : n ≤ width - at = omega arith in
    ap (take n) front ∙ take_less n (width - at) (drop at (drop p b)) less ∙ ap (take n) (drop-drop at p b)

item_test : (b : List ℕ) (p width at n : ℕ) → at + n ≤ width → 0 < n → nat_le (at + n) (length (take width (drop p b))) ≡ nat_le (p + at + n) (length b)
item_test b p width at n inside some =
    let len : length (take width (drop p b)) ≡ min width (length b - p) = length-take width (drop p b) ∙ ap (min width) (length-drop p b) in
    same_test _ _
    (λ h. let k : at + n ≤ length (take width (drop p b)) = leb-true _ _ h in le-leb _ _ (omega arith))
    (λ h. let k : p + at + n ≤ length b = leb-true _ _ h in le-leb _ _ (omega arith))

part-item : (b : List ℕ) (p width at n : ℕ) → at + n ≤ width → 0 < n → part (take width (drop p b)) at n ≡ part b (p + at) n
part-item b p width at n inside some = rw (item_test b p width at n inside some, part_in b p width at n inside) refl

pub signed-item : (w : Width) (b : List ℕ) (p width at : ℕ) → at + byte_len w ≤ width → 0 < byte_len w → signed_at w (take width (drop p b)) at ≡ signed_at w b (p + at)
signed-item w b p width at inside some = rw (part-item b p width at (byte_len w) inside some) refl

pub signed-front : (w : Width) (b : List ℕ) (p width : ℕ) → byte_len w ≤ width → 0 < byte_len w → signed_at w (take width (drop p b)) 0 ≡ signed_at w b p
signed-front w b p width inside some = let z : p + 0 ≡ p = omega arith in signed-item w b p width 0 (omega (arith, inside)) some ∙ ap (signed_at w b) z

pub node-item : (b : List ℕ) (p : ℕ) → node_at (take 16 (drop p b)) 0 ≡ node_at b p
unfolding bind
node-item b p = rw (signed-front w64 b p 16 (omega arith) (omega arith), signed-item w64 b p 16 8 (omega arith) (omega arith)) refl

pub buffer-item : (b : List ℕ) (p : ℕ) → buffer_at (take 16 (drop p b)) 0 ≡ buffer_at b p
unfolding bind
buffer-item b p = rw (signed-front w64 b p 16 (omega arith) (omega arith), signed-item w64 b p 16 8 (omega arith) (omega arith)) refl

pub number-item : (b : List ℕ) (p : ℕ) → signed_at w64 (take 8 (drop p b)) 0 ≡ signed_at w64 b p
number-item b p = signed-front w64 b p 8 (omega arith) (omega arith)

-- ── vectors ──

kind-bind : {A B : Type 0} (kind : FlatError → OutOfSpecKind) (r : Result A FlatError) (g : A → Result B FlatError) → as_kind kind (bind r g) ≡ bind (as_kind kind r) (λ x. as_kind kind (g x))
unfolding bind
kind-bind kind (Ok x) g = refl
kind-bind kind (Err e) g = refl

one_more : {A : Type 0} (kind : FlatError → OutOfSpecKind) (x : A) (r : Result (List A) FlatError) → as_kind kind (bind r (λ xs. Ok (x ∷ xs))) ≡ bind (as_kind kind r) (λ xs. Ok (x ∷ xs))
one_more kind x r = kind-bind kind r (λ xs. Ok (x ∷ xs))

kind-step : {A : Type 0} (kind : FlatError → OutOfSpecKind) (f : ℕ → Result A FlatError) (r : Result A FlatError) (i n : ℕ) → as_kind kind (each f (suc i) n) ≡ each (λ j. as_kind kind (f j)) (suc i) n → as_kind kind (bind r (λ x. bind (each f (suc i) n) (λ xs. Ok (x ∷ xs)))) ≡ bind (as_kind kind r) (λ x. bind (each (λ j. as_kind kind (f j)) (suc i) n) (λ xs. Ok (x ∷ xs)))
unfolding bind
kind-step kind f (Ok x) i n rest = one_more kind x (each f (suc i) n) ∙ ap (λ r. bind r (λ xs. Ok (x ∷ xs))) rest
kind-step kind f (Err e) i n rest = refl

kind-each : {A : Type 0} (kind : FlatError → OutOfSpecKind) (f : ℕ → Result A FlatError) (i n : ℕ) → as_kind kind (each f i n) ≡ each (λ j. as_kind kind (f j)) i n
kind-each kind f i zero = refl
kind-each kind f i (suc n) = kind-step kind f (f i) i n (kind-each kind f (suc i) n)

begun : {A : Type 0} (kind : FlatError → OutOfSpecKind) (f : ℕ → Result A FlatError) (n : ℕ) (front : List A) → front ≡ [] → with_front front (each (λ j. as_kind kind (f j)) 0 (n - 0)) ≡ as_kind kind (each f 0 n)
begun kind f n front h = none_read (λ j. as_kind kind (f j)) n front h ∙ sym (kind-each kind f 0 n)

pub nodes_begun : (v : VectorIn) (front : List FieldNode) → front ≡ [] → with_front front (each (node_of v) 0 (v.vector.count - 0)) ≡ nodes_in v
nodes_begun v front h = begun kinds.InvalidFlatbufferNodes (λ i. node_at v.bytes (v.vector.first + 16 * i)) v.vector.count front h

pub buffers_begun : (v : VectorIn) (front : List IpcBuffer) → front ≡ [] → with_front front (each (buffer_of v) 0 (v.vector.count - 0)) ≡ buffers_in v
buffers_begun v front h = begun kinds.InvalidFlatbufferBuffers (λ i. buffer_at v.bytes (v.vector.first + 16 * i)) v.vector.count front h

pub numbers_begun : (v : VectorIn) (front : List ℤ) → front ≡ [] → with_front front (each (number_of v) 0 (v.vector.count - 0)) ≡ numbers_in v
numbers_begun v front h = begun kinds.InvalidFlatbufferRecordBatches (λ i. signed_at w64 v.bytes (v.vector.first + 8 * i)) v.vector.count front h

pub node_in : (v : VectorIn) (i : ℕ) → v.width ≡ 16 → node_at (item v i) 0 ≡ node_at v.bytes (v.vector.first + 16 * i)
node_in v i wide = let p : v.vector.first + i * 16 ≡ v.vector.first + 16 * i = omega arith in rw (wide, p) (node-item v.bytes (v.vector.first + 16 * i))

pub buffer_in : (v : VectorIn) (i : ℕ) → v.width ≡ 16 → buffer_at (item v i) 0 ≡ buffer_at v.bytes (v.vector.first + 16 * i)
buffer_in v i wide = let p : v.vector.first + i * 16 ≡ v.vector.first + 16 * i = omega arith in rw (wide, p) (buffer-item v.bytes (v.vector.first + 16 * i))

pub number_in : (v : VectorIn) (i : ℕ) → v.width ≡ 8 → signed_at w64 (item v i) 0 ≡ signed_at w64 v.bytes (v.vector.first + 8 * i)
number_in v i wide = let p : v.vector.first + i * 8 ≡ v.vector.first + 8 * i = omega arith in rw (wide, p) (number-item v.bytes (v.vector.first + 8 * i))
