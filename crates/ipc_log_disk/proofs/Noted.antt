-- How a write of a disk over memory goes on with its history, whatever it answers.
use Rattle.std.proofs.Common.{◌≡◌, ℕ, ◌-◌, ◌≤◌, true, false, nat_le, List, [], ◌∷◌, ◌++◌, length, length-take, Vec, Some, arith, refl, sym, ◌∙◌, ap, subst, Result, Ok, Err, reverse}
use Rattle.std.proofs.lemmas.Bool.{and_from, le-leb}
use Rattle.std.specs.declared.alloc.Global.{Global}
use Rattle.ipc_disk.specs.Disks.{WritesAt, overwritten}
use Rattle.ipc_disk.specs.Memory.{written_in_place}
use Rattle.ipc_io.specs.declared.outside.PutError.{PutError}
use Rattle.ipc_io.specs.declared.outside.PutError.TheVariants as put
use Rattle.ipc_log_disk.specs.Crashes.{IsTorn, Elapses}
use Rattle.ipc_log_disk.specs.Histories.{IsNoted, Notes, WasImage, content_after, front_by, images_after, is_history, is_wanted, now_only}
use Rattle.ipc_log_disk.specs.declared.change.Change.{Change}
use Rattle.ipc_log_disk.specs.declared.change.Change.TheVariants.{Written}
use Rattle.ipc_log_disk.proofs.Moments.{newest, one_later, same_torn, stays, written_since}

-- ── what a write adds ──

pub noted : (b b' bs : List ℕ) (items items' : List Change) (at : ℕ) (v : Vec ℕ Global) (r : Result (Unit {0}) PutError) → is_wanted r ≡ false → WritesAt (Some b) (Some b') at r bs → (r ≡ Err put.Failed → b' ≡ written_in_place b at bs)
    → v.items ≡ front_by r (length b - at) bs → items' ≡ items ++ Written at v (length bs) ∷ [] → Notes b b' items items' at (length bs) r
noted b b' bs items items' at v (Ok done) never h in_vain same more =
    let now : b' ≡ overwritten b at bs = cc in
    record { written = v; few = omega (arith, ap length same); are = now ∙ ap (overwritten b at) (sym same); more = more }
noted b b' bs items items' at v (Err put.Failed) never h in_vain same more =
    record { written = v; few = omega (arith, ap length same, length-take (length b - at) bs); are = in_vain refl ∙ ap (overwritten b at) (sym same); more = more }
noted b b' bs items items' at v (Err put.Memory) never h in_vain same more = cc

-- ── what follows ──

module _ (first first' : List ℕ) (old items items' : List Change) (b b' : List ℕ) (at n : ℕ) (same : first' ≡ first) (were : reverse items ≡ old) where
  noted_is : (h : IsNoted b b' items items' at n) → reverse items' ≡ Written at h.written n ∷ old
  noted_is h = newest items items' (Written at h.written n) old h.more were

  since_noted : IsNoted b b' items items' at n → at ≤ length (content_after first old) → (c : List ℕ) → WasImage first' (reverse items') (length old) c → IsTorn (images_after first old) at n c
  since_noted h le c was = written_since first first' old (reverse items') same at n h.written (noted_is h) h.few le c was

  time_noted : IsNoted b b' items items' at n → Elapses (length old) (length (reverse items')) (WasImage first old) (WasImage first' (reverse items'))
  time_noted h = one_later first first' old (reverse items') same (Written at h.written n) (noted_is h)

  unchanged : items' ≡ items → reverse items' ≡ old
  unchanged is = ap reverse is ∙ were

  pub notes_since : (r : Result (Unit {0}) PutError) → Notes b b' items items' at n r → at ≤ length (content_after first old) → (c : List ℕ) → WasImage first' (reverse items') (length old) c → IsTorn (images_after first old) at n c
  notes_since (Ok done) h le c was = since_noted h le c was
  notes_since (Err put.Failed) h le c was = since_noted h le c was
  notes_since (Err put.Memory) h le c was =
      let before : WasImage first old (length old) c = subst (λ (f : List ℕ). WasImage f old (length old) c) same (subst (λ (l : List Change). WasImage first' l (length old) c) (unchanged h.1) was) in
      record { whole = c; was = now_only first old c before; torn = same_torn at n c }

  pub notes_time : (r : Result (Unit {0}) PutError) → Notes b b' items items' at n r → Elapses (length old) (length (reverse items')) (WasImage first old) (WasImage first' (reverse items'))
  notes_time (Ok done) h = time_noted h
  notes_time (Err put.Failed) h = time_noted h
  notes_time (Err put.Memory) h =
      subst (λ (f : List ℕ). Elapses (length old) (length (reverse items')) (WasImage first old) (WasImage f (reverse items'))) (sym same)
      (subst (λ (l : List Change). Elapses (length old) (length l) (WasImage first old) (WasImage first l)) (sym (unchanged h.1)) (stays first old))

-- the bytes are those of the history, which is one
abbrev pub Stands : List ℕ → List ℕ → List Change → Type 0
Stands b first items = (b ≡ content_after first (reverse items)) × (is_history first (reverse items) ≡ true)

stands_noted : (first : List ℕ) (items items' : List Change) (b b' : List ℕ) (at n : ℕ) → Stands b first items → at ≤ length b → IsNoted b b' items items' at n → Stands b' first items'
stands_noted first items items' b b' at n s le h =
    let is : reverse items' ≡ Written at h.written n ∷ reverse items = newest items items' (Written at h.written n) (reverse items) h.more refl in
    let inside : nat_le at (length (content_after first (reverse items))) ≡ true = ap (λ (l : List ℕ). nat_le at (length l)) (sym s.0) ∙ le-leb at (length b) le in
    let few : nat_le (length h.written.items) n ≡ true = le-leb (length h.written.items) n h.few in (
      h.are ∙ ap (λ (l : List ℕ). overwritten l at h.written.items) s.0 ∙ ap (content_after first) (sym is),
      ap (is_history first) is ∙ and_from _ _ inside (and_from _ _ few s.1),
    )

pub notes_stand : (first : List ℕ) (items items' : List Change) (b b' : List ℕ) (at n : ℕ) (r : Result (Unit {0}) PutError) → Stands b first items → at ≤ length b → Notes b b' items items' at n r → Stands b' first items'
notes_stand first items items' b b' at n (Ok done) s le h = stands_noted first items items' b b' at n s le h
notes_stand first items items' b b' at n (Err put.Failed) s le h = stands_noted first items items' b b' at n s le h
notes_stand first items items' b b' at n (Err put.Memory) s le h = (h.0 ∙ s.0 ∙ ap (λ (l : List Change). content_after first (reverse l)) (sym h.1), ap (λ (l : List Change). is_history first (reverse l)) h.1 ∙ s.1)
