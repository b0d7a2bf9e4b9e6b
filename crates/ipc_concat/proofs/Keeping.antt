-- Several sources, of which one was called.
use Rattle.std.proofs.Common.{◌≡◌, ◌∙◌, sym, refl, ap, inl, inr, ℕ, zero, suc, ◌+◌, ◌<◌, ◌≤◌, List, [], ◌∷◌, length, get_or, map, min, Option, arith}
use Rattle.std.specs.Prelude.{slice_set}
use Rattle.arrow_spec.specs.declared.error.IpcError.{IpcError}
use Rattle.arrow_spec.specs.declared.error.IpcError.TheVariants as errors
use Rattle.ipc_io.specs.Outside.{Rose, SourceKept, Stands}
use Rattle.ipc_io.proofs.Kept.{source_kept_on}
use Rattle.ipc_concat.specs.Concat.{AllStand, CauseOf, EachKept, OneRose}

-- ── causes ──

pub cause_as : {A B C D : Type 0} (e : IpcError) → (A → C) → (B → D) → CauseOf A B e → CauseOf C D e
cause_as errors.ReadFault f g h = f h
cause_as errors.WriteFault f g h = g h
cause_as errors.State f g h = h
cause_as (errors.Projection index) f g h = h
cause_as (errors.DictionaryReplaced id) f g h = h
cause_as errors.NotRepresentable f g h = h
cause_as errors.Memory f g h = tt
cause_as errors.TooLarge f g h = tt
cause_as errors.SchemaMismatch f g h = tt
cause_as errors.TooDeep f g h = tt
cause_as (errors.OutOfSpec kind) f g h = tt
cause_as (errors.Unsupported feature) f g h = tt
cause_as (errors.TooMany counted) f g h = tt

-- ── what is kept ──

module _ {S : Type 0} (content_of : S → Option (List ℕ)) (faults_of : S → ℕ) (references_of : S → List ℕ) where
  abbrev Kept : List S → List S → Type 0
  Kept xs ys = EachKept content_of faults_of references_of xs ys

  pub kept_itself : (xs : List S) → EachKept content_of faults_of references_of xs xs
  kept_itself [] = tt
  kept_itself (x ∷ xs) = (record { content = refl; faults = omega arith; references = refl }, kept_itself xs)

  pub kept_on : (us xs ys : List S) → EachKept content_of faults_of references_of us xs → EachKept content_of faults_of references_of xs ys → EachKept content_of faults_of references_of us ys
  kept_on [] [] [] h k = tt
  kept_on [] [] (y ∷ ys) h k = k
  kept_on [] (x ∷ xs) ys h k = absurd h
  kept_on (u ∷ us) [] ys h k = absurd h
  kept_on (u ∷ us) (x ∷ xs) [] h k = absurd k
  kept_on (u ∷ us) (x ∷ xs) (y ∷ ys) h k = (source_kept_on h.0 k.0, kept_on us xs ys h.1 k.1)

  pub kept_set : (us xs : List S) (i : ℕ) (r y : S) → EachKept content_of faults_of references_of us xs → SourceKept content_of faults_of references_of (get_or xs i r) y → EachKept content_of faults_of references_of us (slice_set xs i y)
  kept_set [] [] i r y h k = tt
  kept_set [] (x ∷ xs) i r y h k = absurd h
  kept_set (u ∷ us) [] i r y h k = absurd h
  kept_set (u ∷ us) (x ∷ xs) zero r y h k = (source_kept_on h.0 k, h.1)
  kept_set (u ∷ us) (x ∷ xs) (suc i) r y h k = (h.0, kept_set us xs i r y h.1 k)

  pub kept_contents : (us xs : List S) → EachKept content_of faults_of references_of us xs → map content_of xs ≡ map content_of us
  kept_contents [] [] h = refl
  kept_contents [] (x ∷ xs) h = absurd h
  kept_contents (u ∷ us) [] h = absurd h
  kept_contents (u ∷ us) (x ∷ xs) h = let first = h.0.content in let others = kept_contents us xs h.1 in rw (first, others) refl

  pub kept_length : (us xs : List S) → EachKept content_of faults_of references_of us xs → length xs ≡ length us
  kept_length [] [] h = refl
  kept_length [] (x ∷ xs) h = absurd h
  kept_length (u ∷ us) [] h = absurd h
  kept_length (u ∷ us) (x ∷ xs) h = ap suc (kept_length us xs h.1)

  rose_since : (a b c : ℕ) → a ≤ b → Rose b c → Rose a c
  rose_since a b c h r = omega (arith, h, r)

  -- the count of one rose
  pub one_rose : (us xs : List S) (i : ℕ) (r y : S) → EachKept content_of faults_of references_of us xs → i < length xs → Rose (faults_of (get_or xs i r)) (faults_of y) → OneRose (map faults_of us) (map faults_of (slice_set xs i y))
  one_rose us [] i r y h l k = absurd (omega (arith, l))
  one_rose [] (x ∷ xs) i r y h l k = absurd h
  one_rose (u ∷ us) (x ∷ xs) zero r y h l k = inl (rose_since (faults_of u) (faults_of x) (faults_of y) h.0.faults k)
  one_rose (u ∷ us) (x ∷ xs) (suc i) r y h l k = inr (one_rose us xs i r y h.1 (omega (arith, l)) k)

  -- and before it none fell
  pub rose_before : (us xs ys : List S) → EachKept content_of faults_of references_of us xs → OneRose (map faults_of xs) (map faults_of ys) → OneRose (map faults_of us) (map faults_of ys)
  rose_before [] [] ys h k = k
  rose_before [] (x ∷ xs) ys h k = absurd h
  rose_before (u ∷ us) [] ys h k = absurd h
  rose_before (u ∷ us) (x ∷ xs) [] h k = k
  rose_before (u ∷ us) (x ∷ xs) (y ∷ ys) h (inl one) = inl (rose_since (faults_of u) (faults_of x) (faults_of y) h.0.faults one)
  rose_before (u ∷ us) (x ∷ xs) (y ∷ ys) h (inr others) = inr (rose_before us xs ys h.1 others)

-- where all stand none rose
stood : (n m : ℕ) → Stands n m → Rose n m → ⊥
stood n m s r = omega (arith, s.same, s.below)

pub none_rose : (ns ms : List ℕ) → AllStand ns ms → OneRose ns ms → ⊥
none_rose [] [] s r = r
none_rose [] (m ∷ ms) s r = r
none_rose (n ∷ ns) [] s r = r
none_rose (n ∷ ns) (m ∷ ms) s (inl one) = stood n m s.0 one
none_rose (n ∷ ns) (m ∷ ms) s (inr others) = none_rose ns ms s.1 others

pub not_rose : (n m : ℕ) → Stands n m → Rose n m → ⊥
not_rose = stood

-- ── one of several ──

pub get_map : {S B : Type 0} (f : S → B) (xs : List S) (i : ℕ) (r : S) → f (get_or xs i r) ≡ get_or (map f xs) i (f r)
get_map f [] i r = refl
get_map f (x ∷ xs) zero r = refl
get_map f (x ∷ xs) (suc i) r = get_map f xs i r

pub length_of : {S B : Type 0} (f : S → B) (xs : List S) → length (map f xs) ≡ length xs
length_of f [] = refl
length_of f (x ∷ xs) = ap suc (length_of f xs)
