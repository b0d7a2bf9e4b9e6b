-- What is opened from a shelf that never fails, and what stands on it after a place was closed.
use Rattle.std.proofs.Common.{◌≡◌, ℕ, List, [], ◌∷◌, Bool, true, false, Option, Some, None, Vec, IsSome, Result, Ok, Err, IfOk, MatchOption, All, if◌then◌else◌, string_bytes, bytes_eq, length, take, drop, get_or, set, suc, ◌<◌, ◌++◌, append-nil, subst, sym, ap, ◌∙◌, refl}
use Rattle.std.specs.declared.alloc.Global.{Global}
use Rattle.std.proofs.lemmas.Slice.Eq.{bytes_eq-Decides}
use Rattle.std.proofs.lemmas.List.{take_all, set_split}
use Rattle.std.proofs.Math.Seq.{drop-cons}
use Rattle.std.proofs.Math.ListN.{drop_of_length-le}
use Rattle.std.proofs.Math.Nat.{le_of_eq}
use Rattle.std.proofs.lemmas.List.Elements.{All-head, All-tail}
use Rattle.ipc_disk.specs.declared.shelf.Entry.{Entry}
use Rattle.ipc_io.specs.declared.outside.ShelfError.{ShelfError}
use Rattle.ipc_io.specs.Memory.{SourceState, SourceNeverFails}
use Rattle.ipc_disk.specs.Memory.{DiskState}
use Rattle.ipc_disk.specs.Places.{IsReplaced}
use Rattle.ipc_disk.specs.Shelves.{EntryNeverFails, IsStored, bytes_of, entry_of, held_in, opened, opened_place, with_bytes}

abbrev pub Opens : Option Entry → SourceState → Type 0
Opens found f = MatchOption found ⊥ (λ e. f ≡ opened e)

never_opened : (found : Option Entry) (f : SourceState) → ((e : Entry) → found ≡ Some e → EntryNeverFails e) → Opens found f → SourceNeverFails f
never_opened None f h o = absurd o
never_opened (Some e) f h o = let n = h e refl in subst SourceNeverFails (sym o) (record { calls = n.calls; places = n.places })

one_of : (b : Bool) (x e : Entry) (rest : Option Entry) → EntryNeverFails x → (rest ≡ Some e → EntryNeverFails e) → (if b then Some x else rest) ≡ Some e → EntryNeverFails e
one_of true x e rest h k p = let q : x ≡ e = cc in subst EntryNeverFails q h
one_of false x e rest h k p = k p

pub entry_never : (entries : List Entry) (name : List ℕ) (e : Entry) → All EntryNeverFails entries → entry_of entries name ≡ Some e → EntryNeverFails e
entry_never [] name e h is = cc
entry_never (x ∷ xs) name e h is = one_of (bytes_eq (string_bytes x.name) name) x e (entry_of xs name) (All-head EntryNeverFails x xs h) (λ p. entry_never xs name e (All-tail EntryNeverFails x xs h) p) is

pub file_never : (entries : List Entry) (name : List ℕ) (r : Result SourceState ShelfError) → All EntryNeverFails entries → IfOk r (Opens (entry_of entries name)) → IfOk r SourceNeverFails
file_never entries name (Ok f) h o = never_opened (entry_of entries name) f (λ e is. entry_never entries name e h is) o
file_never entries name (Err e) h o = tt

abbrev pub OpensPlace : Option Entry → DiskState → Type 0
OpensPlace found p = MatchOption found ⊥ (λ e. p ≡ opened_place e)

source_opened : (found : Option Entry) (p : DiskState) → OpensPlace found p → Opens found p.source
source_opened None p o = absurd o
source_opened (Some e) p o = ap (λ d. d.source) o

pub place_never : (entries : List Entry) (name : List ℕ) (r : Result DiskState ShelfError) → All EntryNeverFails entries → IfOk r (OpensPlace (entry_of entries name)) → IfOk r (λ p. SourceNeverFails p.source)
place_never entries name (Ok p) h o = never_opened (entry_of entries name) p.source (λ e is. entry_never entries name e h is) (source_opened (entry_of entries name) p o)
place_never entries name (Err e) h o = tt

-- ── other bytes under a name ──

there_by : (b : Bool) (x : Entry) (xs : List Entry) (name : List ℕ) (v : Vec ℕ Global) → bytes_eq (string_bytes x.name) name ≡ b → (IsSome (held_in xs name) → held_in (with_bytes xs name v) name ≡ Some v.items) → IsSome (held_in (x ∷ xs) name) → held_in (with_bytes (x ∷ xs) name v) name ≡ Some v.items
there_by true x xs name v e ih h = simp e refl
there_by false x xs name v e ih h = simp e (ih (simp e at h))

with_there : (entries : List Entry) (name : List ℕ) (v : Vec ℕ Global) → IsSome (held_in entries name) → held_in (with_bytes entries name v) name ≡ Some v.items
with_there [] name v h = cc
with_there (x ∷ xs) name v h = there_by (bytes_eq (string_bytes x.name) name) x xs name v refl (with_there xs name v) h

-- another name than the one that was found is not found there
not_other : (c : Bool) (x name other : List ℕ) → bytes_eq x other ≡ c → bytes_eq x name ≡ true → (other ≡ name → ⊥) → bytes_eq x other ≡ false
not_other false x name other is e n = is
not_other true x name other is e n = absurd (n (sym ((bytes_eq-Decides x other).0 is) ∙ (bytes_eq-Decides x name).0 e))

same_first : (c : Bool) (x : Entry) (o p : Option Entry) → bytes_of o ≡ bytes_of p → bytes_of (if c then Some x else o) ≡ bytes_of (if c then Some x else p)
same_first true x o p h = refl
same_first false x o p h = h

others_by : (b : Bool) (x : Entry) (xs : List Entry) (name : List ℕ) (v : Vec ℕ Global) (other : List ℕ) → bytes_eq (string_bytes x.name) name ≡ b → (other ≡ name → ⊥) → held_in (with_bytes xs name v) other ≡ held_in xs other → held_in (with_bytes (x ∷ xs) name v) other ≡ held_in (x ∷ xs) other
others_by true x xs name v other e n ih = let d = not_other (bytes_eq (string_bytes x.name) other) (string_bytes x.name) name other refl e n in simp (e, d) refl
others_by false x xs name v other e n ih = simp e (same_first (bytes_eq (string_bytes x.name) other) x (entry_of (with_bytes xs name v) other) (entry_of xs other) ih)

with_others : (entries : List Entry) (name : List ℕ) (v : Vec ℕ Global) (other : List ℕ) → (other ≡ name → ⊥) → held_in (with_bytes entries name v) other ≡ held_in entries other
with_others [] name v other n = refl
with_others (x ∷ xs) name v other n = others_by (bytes_eq (string_bytes x.name) name) x xs name v other refl n (with_others xs name v other n)

pub stored_replaces : (entries entries' : List Entry) (name content : List ℕ) → IsSome (held_in entries name) → IsStored entries entries' name content → IsReplaced (Some (held_in entries)) (Some (held_in entries')) name (Some content)
stored_replaces entries entries' name content h s = record {
  there = ap (λ es. held_in es name) s.stored ∙ with_there entries name s.bytes h ∙ ap (λ b. Some b) s.are;
  others = λ other n. ap (λ es. held_in es other) s.stored ∙ with_others entries name s.bytes other n;
}

-- a slice of all entries is written back
pub written_back : (old new : List Entry) (n : ℕ) → length new ≡ length old → n ≡ length old → take n (new ++ drop (length new) old) ≡ new
written_back old new n l m =
    let none : drop (length new) old ≡ [] = drop_of_length-le old (le_of_eq (sym l)) in
    ap (λ rest. take n (new ++ rest)) none ∙ ap (take n) (append-nil new) ∙ take_all n new (le_of_eq (l ∙ sym m))

-- other bytes in an entry before which the name does not stand
pub stored_at : (entries : List Entry) (at : ℕ) (d : Entry) (name : List ℕ) (v : Vec ℕ Global) → at < length entries → bytes_eq (string_bytes (get_or entries at d).name) name ≡ true → with_bytes entries name v ≡ take at entries ++ with_bytes (drop at entries) name v → set entries at (record (get_or entries at d) { bytes = v }) ≡ with_bytes entries name v
stored_at entries at d name v lt e h =
    let first : with_bytes (get_or entries at d ∷ drop (suc at) entries) name v ≡ record (get_or entries at d) { bytes = v } ∷ drop (suc at) entries = simp e refl in
    let rest : with_bytes (drop at entries) name v ≡ record (get_or entries at d) { bytes = v } ∷ drop (suc at) entries = ap (λ es. with_bytes es name v) (drop-cons entries at d lt) ∙ first in
    set_split entries at (record (get_or entries at d) { bytes = v }) lt ∙ sym (h ∙ ap (λ es. take at entries ++ es) rest)
