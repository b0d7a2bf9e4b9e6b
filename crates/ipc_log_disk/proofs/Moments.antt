-- How the history of a disk over memory goes on.
use Rattle.std.proofs.Common.{◌≡◌, ◌⊎◌, ℕ, zero, suc, ◌+◌, ◌-◌, ◌≤◌, List, [], ◌∷◌, ◌++◌, length, take, drop, refl, sym, ◌∙◌, ap, subst, inl, inr, ⊎_elim, arith, length-append, drop-drop}
use Rattle.std.proofs.Common.{reverse, Vec}
use Rattle.std.proofs.lemmas.List.{take_at, drop_at, length-take-le, length-drop, reverse-append}
use Rattle.std.specs.declared.alloc.Global.{Global}
use Rattle.ipc_log_disk.specs.Crashes.{Among, IsTorn, Torn, Elapses}
use Rattle.ipc_disk.specs.Disks.{overwritten}
use Rattle.ipc_log_disk.specs.Histories.{WasImage, content_after, images_after, content_image}
use Rattle.ipc_log_disk.specs.declared.change.Change.{Change}
use Rattle.ipc_log_disk.specs.declared.change.Change.TheVariants.{Written, Synced}

-- no change
pub stays : (first : List ℕ) (changes : List Change) → Elapses (length changes) (length changes) (WasImage first changes) (WasImage first changes)
stays first changes = record {
  later = omega arith;
  exact = λ t c le. (λ was. inl was, λ e. ⊎_elim (λ was. was) (λ was. record { undone = was.undone; behind = omega (arith, was.behind, le); image = was.image }) e);
}

-- one change more
pub goes_on : (first : List ℕ) (change : Change) (changes : List Change) → Elapses (length changes) (length (change ∷ changes)) (WasImage first changes) (WasImage first (change ∷ changes))
goes_on first change changes = record {
  later = omega arith;
  exact = λ t c le. (λ was. split t c was, λ e. ⊎_elim (λ was. record { undone = suc was.undone; behind = omega (arith, was.behind); image = was.image }) (λ was. record { undone = was.undone; behind = omega (arith, was.behind, le); image = was.image }) e);
}
  where
    split_at : (t : ℕ) (c : List ℕ) (n : ℕ) → n + t ≤ length (change ∷ changes) → images_after first (drop n (change ∷ changes)) c → WasImage first changes t c ⊎ WasImage first (change ∷ changes) (length changes) c
    split_at t c zero le image = inr (record { undone = 0; behind = omega arith; image = image })
    split_at t c (suc n) le image = inl (record { undone = n; behind = omega (arith, le); image = image })

    split : (t : ℕ) (c : List ℕ) → WasImage first (change ∷ changes) t c → WasImage first changes t c ⊎ WasImage first (change ∷ changes) (length changes) c
    split t c was = split_at t c was.undone was.behind was.image

-- since one change there are the images before it and those behind it
pub before_or_behind : (first : List ℕ) (change : Change) (changes : List Change) (c : List ℕ) → WasImage first (change ∷ changes) (length changes) c → images_after first changes c ⊎ images_after first (change ∷ changes) c
before_or_behind first change changes c was = at was.undone was.behind was.image
  where
    at : (n : ℕ) → n + length changes ≤ length (change ∷ changes) → images_after first (drop n (change ∷ changes)) c → images_after first changes c ⊎ images_after first (change ∷ changes) c
    at zero le image = inr image
    at (suc n) le image = inl (let none : n ≡ 0 = omega (arith, le) in subst (λ (k : ℕ). images_after first (drop k changes) c) none image)

-- ── a write ──

pub same_torn : (at n : ℕ) (c : List ℕ) → Torn at n c c
same_torn at n c = record { below = refl; behind = refl; no_shorter = omega arith; no_longer = omega arith }

front_torn : (at n : ℕ) (b bs : List ℕ) → at ≤ length b → length bs ≤ n → Torn at n b (overwritten b at bs)
front_torn at n b bs le few =
    let x = overwritten b at bs in
    let k = n - length bs in
    let front = length-take-le at b le in
    let long = length-append (take at b) (bs ++ drop (at + length bs) b) in
    let rest = length-append bs (drop (at + length bs) b) in
    let left = length-drop (at + length bs) b in
    let whole : at + n ≡ (at + length bs) + k = omega (arith, few) in
    let behind : drop (at + length bs) x ≡ drop (at + length bs) b =
    sym (drop-drop (length bs) at x) ∙ ap (λ (l : List ℕ). drop (length bs) l) (drop_at (take at b) (bs ++ drop (at + length bs) b) at front) ∙ drop_at bs (drop (at + length bs) b) (length bs) refl in
    record {
      below = take_at (take at b) (bs ++ drop (at + length bs) b) at front;
      behind = ap (λ (i : ℕ). drop i x) whole ∙ sym (drop-drop k (at + length bs) x) ∙ ap (λ (l : List ℕ). drop k l) behind ∙ drop-drop k (at + length bs) b ∙ ap (λ (i : ℕ). drop i b) (sym whole);
      no_shorter = omega (arith, front, long, rest, left);
      no_longer = omega (arith, front, long, rest, left, few);
    }

-- each image since a write is one before it that the write made something of
pub write_tears : (first : List ℕ) (changes : List Change) (at n : ℕ) (v : Vec ℕ Global) → at ≤ length (content_after first changes) → length v.items ≤ n
    → (c : List ℕ) → WasImage first (Written at v n ∷ changes) (length changes) c → IsTorn (images_after first changes) at n c
write_tears first changes at n v le few c was = ⊎_elim
    (λ before. record { whole = c; was = before; torn = same_torn at n c })
    (λ behind. ⊎_elim
    (λ is. record { whole = content_after first changes; was = content_image first changes; torn = subst (λ (d : List ℕ). Torn at n (content_after first changes) d) (sym is) (front_torn at n (content_after first changes) v.items le few) })
    (λ torn. torn)
    behind)
    (before_or_behind first (Written at v n) changes c was)

-- a sync adds no image
pub sync_adds_none : (first : List ℕ) (changes : List Change) → Among (images_after first changes) (WasImage first (Synced ∷ changes) (length changes))
sync_adds_none first changes c was = ⊎_elim (λ before. before) (λ is. subst (images_after first changes) (sym is) (content_image first changes)) (before_or_behind first Synced changes c was)

-- ── as the calls leave it ──

-- the newest change of a vector that a change was pushed to
pub newest : (items items' : List Change) (change : Change) (old : List Change) → items' ≡ items ++ change ∷ [] → reverse items ≡ old → reverse items' ≡ change ∷ old
newest items items' change old more is = ap reverse more ∙ reverse-append items (change ∷ []) ∙ ap (λ (l : List Change). change ∷ l) is

module _ (first first' : List ℕ) (old new : List Change) (same : first' ≡ first) where
  moved : (change : Change) → new ≡ change ∷ old → (t : ℕ) (c : List ℕ) → WasImage first' new t c → WasImage first (change ∷ old) t c
  moved change is t c was = subst (λ (f : List ℕ). WasImage f (change ∷ old) t c) same (subst (λ (l : List Change). WasImage first' l t c) is was)

  pub one_later : (change : Change) → new ≡ change ∷ old → Elapses (length old) (length new) (WasImage first old) (WasImage first' new)
  one_later change is =
      let on = goes_on first change old in
      subst (λ (f : List ℕ). Elapses (length old) (length new) (WasImage first old) (WasImage f new)) (sym same) (subst (λ (l : List Change). Elapses (length old) (length l) (WasImage first old) (WasImage first l)) (sym is) on)

  pub synced_since : new ≡ Synced ∷ old → Among (images_after first old) (WasImage first' new (length old))
  synced_since is c was = sync_adds_none first old c (moved Synced is (length old) c was)

  pub written_since : (at n : ℕ) (v : Vec ℕ Global) → new ≡ Written at v n ∷ old → length v.items ≤ n → at ≤ length (content_after first old) → (c : List ℕ) → WasImage first' new (length old) c → IsTorn (images_after first old) at n c
  written_since at n v is few le c was = write_tears first old at n v le few c (moved (Written at v n) is (length old) c was)
