-- Readings in turn: what each gave where all went on.
use Rattle.std.proofs.Common.{◌≡◌, List, [], ◌∷◌, Some, Bool, true, false, Ok, Err, refl, ap}
use Rattle.arrow_spec.specs.declared.error.IpcError.{IpcError}
use Rattle.arrow_spec.specs.Readings.{bind, ◌>>=◌, Reading, free_of, meaning}
use Rattle.arrow_spec.specs.Files.{TableBatch, Asked, to_read, dictionaries_sent}

-- one reading before two others
pub then : {A B C : Type 0} (r : Reading A) (f : A → Reading B) (g : A → Reading C) (y : B) (z : C) → (r >>= f) ≡ Ok y → ((x : A) → f x ≡ Ok y → g x ≡ Ok z) → (r >>= g) ≡ Ok z
unfolding bind
then (Ok x) f g y z h k = k x h
then (Err es) f g y z h k = cc

-- what a reading gave that went on to an end
pub record Went {A B : Type 0} (r : Reading A) (f : A → Reading B) (y : B) : Type 0 where
  pub got : A
  pub first : r ≡ Ok got
  pub rest : f got ≡ Ok y

pub went : {A B : Type 0} (r : Reading A) (f : A → Reading B) (y : B) → (r >>= f) ≡ Ok y → Went r f y
unfolding bind
went (Ok x) f y h = record { got = x; first = refl; rest = h }
went (Err es) f y h = cc

pub on : {A B : Type 0} (r : Reading A) (f : A → Reading B) (x : A) → r ≡ Ok x → (r >>= f) ≡ f x
unfolding bind
on (Ok w) f x h = let e : w ≡ x = cc in ap f e
on (Err es) f x h = cc

pub place-ok : (es : List IpcError) → free_of es ≡ Ok tt → es ≡ []
place-ok [] h = refl
place-ok (e ∷ es) h = cc

pub ok-place : (es : List IpcError) → es ≡ [] → free_of es ≡ Ok tt
ok-place [] h = refl
ok-place (e ∷ es) h = cc

-- a file that is read, and not sent, has no size place
abbrev pub nothing : Reading (Unit {0})
nothing = Ok tt

pub no_size : (y x : TableBatch) → (nothing >>= λ u. Ok y) ≡ Ok x → y ≡ x
unfolding bind
no_size y x h = cc

pub no_dictionaries_sent : (is_first : Bool) (a : Asked) → dictionaries_sent is_first to_read a ≡ Ok tt
no_dictionaries_sent true a = refl
no_dictionaries_sent false a = refl

pub some_meaning : {A : Type 0} (r : Reading A) (x : A) → meaning r ≡ Some x → r ≡ Ok x
some_meaning (Ok y) x h = cc
some_meaning (Err es) x h = cc
