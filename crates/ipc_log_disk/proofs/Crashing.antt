-- A crash that fills what is not on the disk: it leaves an image, of the length that is asked for.
use Rattle.std.proofs.Common.{◌≡◌, ℕ, ◌+◌, ◌-◌, ◌<◌, ◌≤◌, min, max, List, [], ◌∷◌, ◌++◌, length, take, drop, replicate, reverse, get_or, suc, zero, Bool, true, false, nat_le, nat_lt, cond, refl, sym, ◌∙◌, ap, subst, inr, Result, IfOk, ⊎_elim, arith, length-append, drop-drop, take-append-drop}
use Rattle.std.proofs.lemmas.Bool.{and_parts, cases_lt, le-ltb, leb-true, ltb-false, ltb-true}
use Rattle.std.proofs.lemmas.List.{take_at, drop_at, drop_all, drop_min, take_min, take_more, length-take-le, length-drop, length-replicate, length-reverse, reverse-append}
use Rattle.ipc_disk.specs.Memory.{DiskState}
use Rattle.ipc_io.specs.Memory.{new_source}
use Rattle.ipc_log_disk.specs.Crashes.{Torn}
use Rattle.ipc_log_disk.specs.Histories.{LogState, MayBeLeft, content_after, crashed_after, greatest_length, images_after, is_history, least_length, left_behind, new_disk, new_log_disk, oldest, torn_by}
use Rattle.ipc_log_disk.specs.declared.change.Change.{Change}
use Rattle.ipc_log_disk.specs.declared.change.Change.TheVariants.{Written, Synced}

-- ── one write ──

module _ (fill most at count : ℕ) (d : List ℕ) where
  middle : List ℕ
  middle = replicate (min (at + count) (max (length d) most) - at) fill

  filled : List ℕ
  filled = take at d ++ (middle ++ drop (at + count) d)

  filled_torn : at ≤ length d → Torn at count d filled
  unfolding filled middle
  filled_torn le =
      let front = length-take-le at d le in
      let long = length-append (take at d) (middle ++ drop (at + count) d) in
      let rest = length-append middle (drop (at + count) d) in
      let left = length-drop (at + count) d in
      let some = length-replicate (min (at + count) (max (length d) most) - at) fill in
      record {
        below = take_at (take at d) (middle ++ drop (at + count) d) at front;
        behind = ⊎_elim
            (λ more. drop_all (at + count) filled (omega (arith, front, long, rest, left, some, more)) ∙ sym (drop_all (at + count) d (omega (arith, more))))
            (λ inside. sym (drop-drop count at filled) ∙ ap (λ (l : List ℕ). drop count l) (drop_at (take at d) (middle ++ drop (at + count) d) at front) ∙ drop_at middle (drop (at + count) d) count (some ∙ omega (arith, inside)))
            (cases_lt (length d) (at + count));
        no_shorter = omega (arith, front, long, rest, left, some);
        no_longer = omega (arith, front, long, rest, left, some);
      }

  length-filled : at ≤ length d → length filled ≡ max (length d) (min (at + count) (max (length d) most))
  unfolding filled middle
  length-filled le =
      let front = length-take-le at d le in
      let long = length-append (take at d) (middle ++ drop (at + count) d) in
      let rest = length-append middle (drop (at + count) d) in
      let left = length-drop (at + count) d in
      let some = length-replicate (min (at + count) (max (length d) most) - at) fill in
      omega (arith, front, long, rest, left, some)

  torn_at : (b : Bool) → nat_lt (length d) at ≡ b → Torn at count d (cond b d filled)
  torn_at true is = record { below = refl; behind = refl; no_shorter = omega arith; no_longer = omega arith }
  torn_at false is = filled_torn (ltb-false (length d) at is)

  pub torn_is : Torn at count d (torn_by fill most at count d)
  unfolding filled middle
  torn_is = torn_at (nat_lt (length d) at) refl

  -- the length behind it, where the write was at a place of some length that was there
  long_at : (b : Bool) (least greatest : ℕ) → nat_lt (length d) at ≡ b → at ≤ greatest → least ≤ most → length d ≡ max least (min most greatest) → length (cond b d filled) ≡ max least (min most (max greatest (at + count)))
  long_at true least greatest is le enough now = omega (arith, ltb-true (length d) at is)
  long_at false least greatest is le enough now = omega (arith, length-filled (ltb-false (length d) at is))

  pub long_is : (least greatest : ℕ) → at ≤ greatest → least ≤ most → length d ≡ max least (min most greatest) → length (torn_by fill most at count d) ≡ max least (min most (max greatest (at + count)))
  unfolding filled middle
  long_is least greatest le enough now = long_at (nat_lt (length d) at) least greatest refl le enough now

-- ── all changes ──

pub crashed_image : (fill most : ℕ) (first : List ℕ) (changes : List Change) → images_after first changes (crashed_after fill most first changes)
crashed_image fill most first [] = refl
crashed_image fill most first (Written at bytes count ∷ changes) = inr (record { whole = crashed_after fill most first changes; was = crashed_image fill most first changes; torn = torn_is fill most at count (crashed_after fill most first changes) })
crashed_image fill most first (Synced ∷ changes) = refl

-- the bytes as they stand are no longer than they may have been
content_length : (first : List ℕ) (changes : List Change) → is_history first changes ≡ true → length (content_after first changes) ≤ greatest_length first changes
content_length first [] is = omega arith
content_length first (Written at bytes count ∷ changes) is =
    let b = content_after first changes in
    let parts = and_parts (nat_le at (length b)) _ is in
    let rest = and_parts (nat_le (length bytes.items) count) _ parts.1 in
    let le = leb-true at (length b) parts.0 in
    let few = leb-true (length bytes.items) count rest.0 in
    omega (arith, content_length first changes rest.1, length-append (take at b) (bytes.items ++ drop (at + length bytes.items) b), length-append bytes.items (drop (at + length bytes.items) b), length-take-le at b le, length-drop (at + length bytes.items) b)
content_length first (Synced ∷ changes) is = omega arith

crashed_length : (fill most : ℕ) (first : List ℕ) (changes : List Change) → is_history first changes ≡ true → least_length first changes ≤ most
    → length (crashed_after fill most first changes) ≡ max (least_length first changes) (min most (greatest_length first changes))
crashed_length fill most first [] is enough = omega arith
crashed_length fill most first (Written at bytes count ∷ changes) is enough =
    let parts = and_parts (nat_le at (length (content_after first changes))) _ is in
    let rest = and_parts (nat_le (length bytes.items) count) _ parts.1 in
    let le = leb-true at (length (content_after first changes)) parts.0 in
    let inside = content_length first changes rest.1 in
    long_is fill most at count (crashed_after fill most first changes) (least_length first changes) (greatest_length first changes) (omega (arith, le, inside)) enough (crashed_length fill most first changes rest.1 enough)
crashed_length fill most first (Synced ∷ changes) is enough = omega arith

history_before : (first : List ℕ) (n : ℕ) (changes : List Change) → is_history first changes ≡ true → is_history first (drop n changes) ≡ true
history_before first zero changes is = is
history_before first (suc n) [] is = is
history_before first (suc n) (Written at bytes count ∷ changes) is =
    history_before first n changes ((and_parts (nat_le (length bytes.items) count) _ ((and_parts (nat_le at (length (content_after first changes))) _ is).1)).1)
history_before first (suc n) (Synced ∷ changes) is = history_before first n changes is

pub crashed_long : (fill n count : ℕ) (first : List ℕ) (changes : List Change) → is_history first changes ≡ true → MayBeLeft first (oldest count changes) n → length (crashed_after fill n first (oldest count changes)) ≡ n
crashed_long fill n count first changes is may =
    omega (arith, crashed_length fill n first (oldest count changes) (history_before first (length changes - count) changes is) may.least, may.least, may.greatest)

-- ── change by change ──

pub next_content : (first : List ℕ) (change : Change) (changes : List Change) → content_after first (change ∷ changes) ≡ content_after (content_after first changes) (change ∷ [])
next_content first (Written at bytes count) changes = refl
next_content first Synced changes = refl

pub next_crashed : (fill most : ℕ) (first : List ℕ) (change : Change) (changes : List Change) → crashed_after fill most first (change ∷ changes) ≡ left_behind fill most (content_after first changes) (crashed_after fill most first changes) change
next_crashed fill most first (Written at bytes count) changes = refl
next_crashed fill most first Synced changes = refl

-- one more of the changes, the oldest first
pub one_on : (items : List Change) (i : ℕ) (change d : Change) → i < length items → change ≡ get_or items i d → reverse (take (i + 1) items) ≡ change ∷ reverse (take i items)
one_on items i change d less is = ap reverse (take_more items i d less) ∙ reverse-append (take i items) (get_or items i d ∷ []) ∙ ap (λ (x : Change). x ∷ reverse (take i items)) (sym is)

-- so many of them, the oldest first, are the oldest of all
pub oldest_is : (items : List Change) (count : ℕ) → count ≤ length items → reverse (take count items) ≡ oldest count (reverse items)
oldest_is items count le =
    let long = length-reverse items in
    let behind = length-reverse (drop count items) in
    let left = length-drop count items in
    let whole : reverse items ≡ reverse (drop count items) ++ reverse (take count items) = ap reverse (sym (take-append-drop count items)) ∙ reverse-append (take count items) (drop count items) in
    sym (ap (λ (l : List Change). drop (length (reverse items) - count) l) whole ∙ drop_at (reverse (drop count items)) (reverse (take count items)) (length (reverse items) - count) (omega (arith, long, behind, left)))

-- ── a piece that is replaced ──

pub replaced_is : (held others out : List ℕ) (at count start end : ℕ) → start ≡ min at (length held) → end ≡ start + min count (length held - start) → out ≡ take start held ++ (others ++ drop end held) → out ≡ take at held ++ (others ++ drop (at + count) held)
replaced_is held others out at count start end from till is =
    let front : take start held ≡ take at held = ap (λ (i : ℕ). take i held) from ∙ take_min at held in
    let last : drop end held ≡ drop (at + count) held = ap (λ (i : ℕ). drop i held) (omega (arith, from, till)) ∙ drop_min (at + count) held in
    is ∙ ap (λ (l : List ℕ). l ++ (others ++ drop end held)) front ∙ ap (λ (l : List ℕ). take at held ++ (others ++ l)) last

pub torn_long : (fill most at count : ℕ) (held out : List ℕ) → at ≤ length held → out ≡ take at held ++ (replicate (min count (max (length held) most - at)) fill ++ drop (at + count) held) → out ≡ torn_by fill most at count held
torn_long fill most at count held out le is = is ∙ ap (λ (n : ℕ). take at held ++ (replicate n fill ++ drop (at + count) held)) (omega (arith, le)) ∙ sym (ap (λ (b : Bool). cond b held (take at held ++ (replicate (min (at + count) (max (length held) most) - at) fill ++ drop (at + count) held))) (le-ltb (length held) at le))

-- ── what a walk over the oldest changes makes ──

pub left_is : (items some old : List Change) (count fill size : ℕ) (first left : List ℕ) → some ≡ take count items → count ≤ length old → reverse items ≡ old → left ≡ crashed_after fill size first (reverse some) → left ≡ crashed_after fill size first (oldest count old)
left_is items some old count fill size first left are few is walked =
    let long : length old ≡ length items = sym (ap length is) ∙ length-reverse items in
    walked ∙ ap (λ (l : List Change). crashed_after fill size first (reverse l)) are ∙ ap (crashed_after fill size first) (oldest_is items count (omega (arith, few, long)) ∙ ap (oldest count) is)

pub disk_left : {E : Type 0} → (r : Result LogState E) (s : DiskState) (left failing places x : List ℕ) → s ≡ record { source = new_source left failing places; wants = 0 } → failing ≡ [] → places ≡ [] → left ≡ x → IfOk r (λ d. d ≡ new_log_disk s) → IfOk r (λ d. d ≡ new_log_disk (new_disk x))
disk_left r s left failing places x is none nowhere same made =
    let whole : s ≡ new_disk x = is ∙ ap (λ (l : List ℕ). record { source = new_source left l places; wants = 0 }) none ∙ ap (λ (l : List ℕ). record { source = new_source left [] l; wants = 0 }) nowhere ∙ ap new_disk same in
    subst (λ (t : DiskState). IfOk r (λ d. d ≡ new_log_disk t)) whole made
