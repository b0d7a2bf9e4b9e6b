-- A stream is read to its end: each message takes four bytes, so there are no more messages than bytes.
use Rattle.std.proofs.Common.{◌≡◌, ℕ, suc, zero, ◌+◌, ◌<◌, ◌≤◌, List, [], ◌∷◌, ◌++◌, length, take, drop, Option, Some, None, Ok, Err, refl, sym, ap, arith, true, false, Bool, cond, length-drop}
use Rattle.std.specs.Prelude.{nat_lt, nat_eq}
use Rattle.std.proofs.lemmas.Bool.{lt-ltb, ltb-false}
use Rattle.arrow_spec.specs.declared.error.IpcError.{IpcError}
use Rattle.arrow_spec.specs.Readings.{bind, ◌>>=◌, Reading}
use Rattle.arrow_spec.specs.Arrays.{Dictionaries}
use Rattle.arrow_spec.specs.Messages.{Message, is_mark}
use Rattle.arrow_spec.specs.Files.{TableBatch}
use Rattle.arrow_spec.specs.Streams.{Framed, Reader, Step, framed, next_message, stream_batch, stream_batches, stream_dictionary, stream_prefix, stream_step}

-- what a reading means, if anything, has a property
data Means {A : Type 0} (P : A → Type 0) : Reading A → Type 0 where
  ok : {x : A} → P x → Means P (Ok x)
  refused : {es : List IpcError} → Means P (Err es)

means_then : {A B : Type 0} {P : A → Type 0} {Q : B → Type 0} {r : Reading A} {f : A → Reading B} → Means P r → ((x : A) → P x → Means Q (f x)) → Means Q (r >>= f)
unfolding bind
means_then (ok {x = x} h) k = k x h
means_then refused k = refused

same_then : {A B : Type 0} {P : A → Type 0} {r : Reading A} {f g : A → Reading B} → Means P r → ((x : A) → P x → f x ≡ g x) → (r >>= f) ≡ (r >>= g)
unfolding bind
same_then (ok {x = x} h) k = k x h
same_then refused k = refl

abbrev Any : {A : Type 0} → A → Type 0
Any x = Unit {0}

any : {A : Type 0} (r : Reading A) → Means Any r
any (Ok x) = ok tt
any (Err es) = refused

mark_or_none : (test : Bool) → 4 ≤ cond test 8 4
mark_or_none true = omega arith
mark_or_none false = omega arith

prefix_takes : (b : List ℕ) → Means (λ prefix. 4 ≤ prefix.0) (stream_prefix b)
unfolding stream_prefix
prefix_takes b = means_then (any _) λ n u. means_then (any _) λ len u'. ok (mark_or_none (is_mark (take 4 b)))

framed_takes : (b : List ℕ) (prefix : ℕ × ℕ) → 4 ≤ prefix.0 → 4 ≤ length b → Means (λ f. length f.behind + 4 ≤ length b) (framed b prefix)
unfolding framed
framed_takes b prefix h long = means_then (any _) λ whole u. ok (omega (arith, h, long, length-drop (prefix.0 + prefix.1) b))

abbrev IsShorter : List ℕ → Option Framed → Type 0
IsShorter b None = Unit {0}
IsShorter b (Some f) = length f.behind + 4 ≤ length b

framed_by : (b : List ℕ) (prefix : ℕ × ℕ) (empty : Bool) → 4 ≤ prefix.0 → 4 ≤ length b → Means (IsShorter b) (elim empty as (λ t. Reading (Option Framed)) [ true ↦ Ok None | false ↦ framed b prefix >>= λ m. Ok (Some m) ])
framed_by b prefix true h long = ok tt
framed_by b prefix false h long = means_then (framed_takes b prefix h long) λ f less. ok less

next_by : (b : List ℕ) (short : Bool) → short ≡ nat_lt (length b) 4 → Means (IsShorter b) (elim short as (λ t. Reading (Option Framed)) [ true ↦ Ok None | false ↦ stream_prefix b >>= λ prefix. elim (nat_eq prefix.1 0) [ true ↦ Ok None | false ↦ framed b prefix >>= λ m. Ok (Some m) ] ])
next_by b true e = ok tt
next_by b false e = means_then (prefix_takes b) λ prefix h. framed_by b prefix (nat_eq prefix.1 0) h (ltb-false (length b) 4 (sym e))

next_takes : (b : List ℕ) → Means (IsShorter b) (next_message b)
unfolding next_message
next_takes b = next_by b (nat_lt (length b) 4) refl

step_by : (s : Reader) (d : Dictionaries) (f : Framed) (m : Message) (is_dictionary : Bool) → Means (λ step. length step.rest ≤ length f.behind) (elim is_dictionary as (λ t. Reading Step) [
  | true ↦ stream_dictionary s d f m >>= λ x. Ok (record { dictionaries = x ∷ d; batch = []; rest = drop m.body f.behind })
  | false ↦ stream_batch s d f m >>= λ rows. Ok (record { dictionaries = d; batch = rows ∷ []; rest = drop m.body f.behind })
])
step_by s d f m true = means_then (any _) λ x u. ok (omega (arith, length-drop m.body f.behind))
step_by s d f m false = means_then (any _) λ x u. ok (omega (arith, length-drop m.body f.behind))

step_takes : (s : Reader) (d : Dictionaries) (f : Framed) → Means (λ step. length step.rest ≤ length f.behind) (stream_step s d f)
unfolding stream_step
step_takes s d f = means_then (any _) λ u u'. means_then (any _) λ m u''. step_by s d f m (nat_eq m.tag 2)

none_next : (b : List ℕ) → length b < 4 → next_message b ≡ Ok None
unfolding next_message
none_next b h = let short : nat_lt (length b) 4 ≡ true = lt-ltb _ _ h in rw (next_message, short) refl

-- what is read behind the next message
abbrev rest_of : ℕ → Reader → Dictionaries → List ℕ → Option Framed → Reading (List TableBatch)
rest_of most s d b None = Ok []
rest_of most s d b (Some f) = stream_step s d f >>= λ step. stream_batches most s step.dictionaries step.rest >>= λ others. Ok (step.batch ++ others)

by_next : (m n : ℕ) (s : Reader) (d : Dictionaries) (b : List ℕ) (next : Option Framed) → IsShorter b next → ((e : Dictionaries) (rest : List ℕ) → length rest + 4 ≤ length b → stream_batches m s e rest ≡ stream_batches n s e rest) → rest_of m s d b next ≡ rest_of n s d b next
by_next m n s d b None less again = refl
by_next m n s d b (Some f) less again = same_then (step_takes s d f) λ step shorter. ap (λ r. r >>= λ others. Ok (step.batch ++ others)) (again step.dictionaries step.rest (omega (arith, less, shorter)))

same_fuel : (m n : ℕ) (s : Reader) (d : Dictionaries) (b : List ℕ) → length b ≤ m → length b ≤ n → stream_batches m s d b ≡ stream_batches n s d b
unfolding stream_batches bind
same_fuel zero zero s d b hm hn = refl
same_fuel zero (suc n) s d b hm hn = rw (none_next b (omega (arith, hm))) refl
same_fuel (suc m) zero s d b hm hn = rw (none_next b (omega (arith, hn))) refl
same_fuel (suc m) (suc n) s d b hm hn = same_then (next_takes b) λ next shorter. by_next m n s d b next shorter λ e rest less. same_fuel m n s e rest (omega (arith, less, hm)) (omega (arith, less, hn))

pub stream_fuel_is_enough : (s : Reader) (d : Dictionaries) (b : List ℕ) (most : ℕ) → length b ≤ most → stream_batches most s d b ≡ stream_batches (length b) s d b
stream_fuel_is_enough s d b most h = same_fuel most (length b) s d b h (omega arith)
