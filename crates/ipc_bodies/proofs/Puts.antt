-- Puts after one another.
use Rattle.std.proofs.Common.{◌≡◌, ◌⊎◌, inl, inr, ℕ, ◌+◌, ◌-◌, ◌%◌, ◌≤◌, ◌<◌, min, List, ◌++◌, length, take, drop, Option, None, Some, [], Result, Ok, Err, IsErrAnd, sym, ap, ◌∙◌, append-nil, subst, arith}
use Rattle.std.proofs.lemmas.Bool.{cases_lt}
use Rattle.std.proofs.KnownBytes.{Appends-trans}
use Rattle.std.proofs.Math.Seq.{take-append-add, take-add}
use Rattle.std.proofs.lemmas.List.{take-append-le, take_min, take-append-drop}
use Rattle.std.specs.Io.KnownBytes.{Appends}
use Rattle.arrow_spec.specs.declared.error.IpcError.{IpcError}
use Rattle.arrow_spec.specs.declared.error.IpcError.TheVariants as errors
use Rattle.ipc_io.specs.Outside.{AppendsPrefix, Rose}
use Rattle.ipc_bodies.specs.Puts.{Moved, moved, NoneFalls, PutsPart, PutsText}

after : (a b c : Option (List ℕ)) (xs ys : List ℕ) → Appends a b xs → AppendsPrefix b c ys → AppendsPrefix a c (xs ++ ys)
after a b c xs ys h p = (length xs + p.0, subst (Appends a c) (sym (take-append-add xs ys p.0)) (Appends-trans a b c xs (take p.0 ys) h p.1))

within : (a b : Option (List ℕ)) (xs ys : List ℕ) → AppendsPrefix a b xs → AppendsPrefix a b (xs ++ ys)
within a b xs ys p =
    let n = min p.0 (length xs) in
    let le : n ≤ length xs = omega arith in
    let e : take n (xs ++ ys) ≡ take p.0 xs = take-append-le n xs ys le ∙ take_min p.0 xs in
    (n, subst (Appends a b) (sym e) p.1)

none_falls : (old mid new : Option (List ℕ)) (f g h w x y : ℕ) → NoneFalls (moved old mid f g w x) → NoneFalls (moved mid new g h x y) → NoneFalls (moved old new f h w y)
none_falls old mid new f g h w x y p q = record { faults = omega (arith, p.faults, q.faults); wants = omega (arith, p.wants, q.wants) }

rose_later : (a b c : ℕ) → a ≤ b → Rose b c → Rose a c
rose_later a b c h r = omega arith

-- a part of a text behind another
pub then_part : (old mid new : Option (List ℕ)) (f g h w x y : ℕ) (e : IpcError) (xs ys : List ℕ) → Appends old mid xs × NoneFalls (moved old mid f g w x) → PutsPart (moved mid new g h x y) e ys → PutsPart (moved old new f h w y) e (xs ++ ys)
then_part old mid new f g h w x y errors.WriteFault xs ys p q = (after old mid new xs ys p.0 q.0, none_falls old mid new f g h w x y p.1 q.1, rose_later f g h p.1.faults q.2)
then_part old mid new f g h w x y errors.Memory xs ys p q = (after old mid new xs ys p.0 q.0, none_falls old mid new f g h w x y p.1 q.1, rose_later w x y p.1.wants q.2)
then_part old mid new f g h w x y e xs ys p q = absurd q

-- one text behind another
pub then_all : (old mid new : Option (List ℕ)) (f g h w x y : ℕ) (xs ys : List ℕ) → Appends old mid xs × NoneFalls (moved old mid f g w x) → Appends mid new ys × NoneFalls (moved mid new g h x y) → Appends old new (xs ++ ys) × NoneFalls (moved old new f h w y)
then_all old mid new f g h w x y xs ys p q = (Appends-trans old mid new xs ys p.0 q.0, none_falls old mid new f g h w x y p.1 q.1)

pub then_puts : {T : Type 0} → (old mid new : Option (List ℕ)) (f g h w x y : ℕ) (r : Result T IpcError) (xs ys : List ℕ) → Appends old mid xs × NoneFalls (moved old mid f g w x) → PutsText (moved mid new g h x y) r ys → PutsText (moved old new f h w y) r (xs ++ ys)
then_puts old mid new f g h w x y (Ok t) xs ys p q = then_all old mid new f g h w x y xs ys p q
then_puts old mid new f g h w x y (Err e) xs ys p q = then_part old mid new f g h w x y e xs ys p q

-- a part of one text is a part of more
pub more_part : (m : Moved) (e : IpcError) (xs ys : List ℕ) → PutsPart m e xs → PutsPart m e (xs ++ ys)
more_part m errors.WriteFault xs ys p = (within m.old m.new xs ys p.0, p.1, p.2)
more_part m errors.Memory xs ys p = (within m.old m.new xs ys p.0, p.1, p.2)
more_part m e xs ys p = absurd p

pub part_at : {T : Type 0} → (m : Moved) (e : IpcError) (r : Result T IpcError) (xs : List ℕ) → IsErrAnd r (λ f. f ≡ e) → PutsPart m e xs → PutsText m r xs
part_at m e (Ok t) xs h p = absurd h
part_at m e (Err f) xs h p = subst (λ k. PutsPart m k xs) (sym h) p

-- a text of which a part has been put
pub stopped : {T : Type 0} → (m : Moved) (e : IpcError) (r : Result T IpcError) (xs ys : List ℕ) → IsErrAnd r (λ f. f ≡ e) → PutsPart m e xs → PutsText m r (xs ++ ys)
stopped m e r xs ys h p = part_at m e r (xs ++ ys) h (more_part m e xs ys p)

pub puts_as : {T : Type 0} → (m : Moved) (r : Result T IpcError) (xs ys : List ℕ) → xs ≡ ys → PutsText m r xs → PutsText m r ys
puts_as m r xs ys e p = subst (PutsText m r) e p

-- nothing has been put
pub put_nothing : (new : Option (List ℕ)) (f w : ℕ) → Appends new new [] × NoneFalls (moved new new f f w w)
put_nothing None f w = (tt, record { faults = omega arith; wants = omega arith })
put_nothing (Some b) f w = (sym (append-nil b), record { faults = omega arith; wants = omega arith })

-- ── a text in pieces ──

-- a piece stops behind those before it
pub stops_in : {T : Type 0} → (old mid new : Option (List ℕ)) (f g h w x y : ℕ) (e : IpcError) (r : Result T IpcError) (before piece rest all : List ℕ) → (before ++ piece) ++ rest ≡ all → IsErrAnd r (λ k. k ≡ e)
    → Appends old mid before × NoneFalls (moved old mid f g w x) → PutsPart (moved mid new g h x y) e piece → PutsText (moved old new f h w y) r all
stops_in old mid new f g h w x y e r before piece rest all s k p q =
    puts_as (moved old new f h w y) r ((before ++ piece) ++ rest) all s (stopped (moved old new f h w y) e r (before ++ piece) rest k (then_part old mid new f g h w x y e before piece p q))

-- the items up to a place, those of a piece, and the rest
pub in_pieces : (xs : List ℕ) (at n : ℕ) → (take at xs ++ take n (drop at xs)) ++ drop (at + n) xs ≡ xs
in_pieces xs at n = ap (λ l. l ++ drop (at + n) xs) (sym (take-add at n xs)) ∙ take-append-drop (at + n) xs

-- ── places of pieces ──

still : (at n : ℕ) → (at % 64 ≡ 0) ⊎ (at ≡ n) → at < n → at % 64 ≡ 0
still at n (inl e) h = e
still at n (inr e) h = absurd (omega (arith, e, h))

pub whole_next : (at long most all count n : ℕ) → (at % 64 ≡ 0) ⊎ (at ≡ n) → at < all → all ≡ n → most ≡ long - long % 64 → count ≡ min most (all - at) → ((at + count) % 64 ≡ 0) ⊎ (at + count ≡ n)
whole_next at long most all count n w h e m k =
    let from : at % 64 ≡ 0 = still at n w (omega (arith, h, e)) in
    elim (cases_lt most (all - at)) [
      | inl lt ↦ inl (omega (arith, from, m, k, lt))
      | inr ge ↦ inr (omega (arith, k, ge, h, e))
    ]
