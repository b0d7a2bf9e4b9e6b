-- Puts after one another.
use Rattle.std.proofs.Common.{◌≡◌, ℕ, ◌+◌, ◌≤◌, min, List, [], ◌++◌, length, take, Option, None, Some, Result, Ok, Err, IsErr, refl, sym, ◌∙◌, append-nil, take_at, subst}
use Rattle.std.proofs.Common.{arith}
use Rattle.std.proofs.KnownBytes.{Appends-nil, Appends-trans}
use Rattle.std.proofs.Math.Seq.{take-append-add}
use Rattle.std.proofs.lemmas.List.{take-append-le, take_min}
use Rattle.std.specs.Io.KnownBytes.{Appends, Keeps}
use Rattle.ipc_io.specs.Outside.{AppendsPrefix, Puts, PutsFront}
use Rattle.ipc_io.specs.declared.outside.PutError.{PutError}
use Rattle.ipc_io.specs.declared.outside.PutError.TheVariants as put

pub take-past : (xs ys : List ℕ) (n : ℕ) → take (length xs + n) (xs ++ ys) ≡ xs ++ take n ys
take-past xs ys n = take-append-add xs ys n

-- known bytes that stay grow by nothing
pub Appends-kept_nil : (a b : Option (List ℕ)) → Keeps a b → Appends a b []
Appends-kept_nil None b h = tt
Appends-kept_nil (Some x) None h = h
Appends-kept_nil (Some x) (Some y) h = h ∙ sym (append-nil x)

pub AppendsPrefix-none : (a : Option (List ℕ)) (bs : List ℕ) → AppendsPrefix a a bs
AppendsPrefix-none a bs = (0, Appends-nil a)

-- all of the first part is a part from the front
pub AppendsPrefix-front : (a b : Option (List ℕ)) (xs ys : List ℕ) → Appends a b xs → AppendsPrefix a b (xs ++ ys)
AppendsPrefix-front a b xs ys h = (length xs, subst (Appends a b) (sym (take_at xs ys (length xs) refl)) h)

pub AppendsPrefix-after : (a b c : Option (List ℕ)) (xs ys : List ℕ) → Appends a b xs → AppendsPrefix b c ys → AppendsPrefix a c (xs ++ ys)
AppendsPrefix-after a b c xs ys h p = (length xs + p.0, subst (Appends a c) (sym (take-past xs ys p.0)) (Appends-trans a b c xs (take p.0 ys) h p.1))

-- a part of the first part is a part of both
pub AppendsPrefix-within : (a b : Option (List ℕ)) (xs ys : List ℕ) → AppendsPrefix a b xs → AppendsPrefix a b (xs ++ ys)
AppendsPrefix-within a b xs ys p =
    let n = min p.0 (length xs) in
    let le : n ≤ length xs = omega arith in
    let e : take n (xs ++ ys) ≡ take p.0 xs = take-append-le n xs ys le ∙ take_min p.0 xs in
    (n, subst (Appends a b) (sym e) p.1)

-- after an error a part from the front was put
pub Puts-err : (a b : Option (List ℕ)) (e : PutError) (bs : List ℕ) → Puts a b (Err e) bs → AppendsPrefix a b bs
Puts-err a b put.Failed bs h = h
Puts-err a b put.Memory bs h = (0, Appends-kept_nil a b h)

pub PutsFront-of_put : (a b : Option (List ℕ)) (r : Result (Unit {0}) PutError) (bs : List ℕ) → Puts a b r bs → PutsFront a b r bs
PutsFront-of_put a b (Ok done) bs h = h
PutsFront-of_put a b (Err e) bs h = Puts-err a b e bs h

pub PutsFront-after : {E : Type 0} → (a b c : Option (List ℕ)) (r : Result (Unit {0}) E) (xs ys : List ℕ) → Appends a b xs → PutsFront b c r ys → PutsFront a c r (xs ++ ys)
PutsFront-after a b c (Ok done) xs ys h p = Appends-trans a b c xs ys h p
PutsFront-after a b c (Err e) xs ys h p = AppendsPrefix-after a b c xs ys h p

pub PutsFront-stopped : {E : Type 0} → (a b : Option (List ℕ)) (r : Result (Unit {0}) E) (xs ys : List ℕ) → IsErr r → AppendsPrefix a b xs → PutsFront a b r (xs ++ ys)
PutsFront-stopped a b (Ok done) xs ys h p = cc
PutsFront-stopped a b (Err e) xs ys h p = AppendsPrefix-within a b xs ys p
