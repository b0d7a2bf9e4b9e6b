-- The history of a disk over memory: its bytes at first, all of them on the disk, and the changes since, the newest first.
use Rattle.std.specs.Prelude.{nat_lt, nat_le, min, replicate, if◌then◌else◌, ◌≡◌, ◌⊎◌, ℕ, ◌+◌, ◌-◌, ◌≤◌, max, Bool, true, false, ◌&&◌, List, [], ◌∷◌, ◌++◌, length, take, drop, Vec, Option, None, Some, reverse, Result, Ok, Err, refl}
use Rattle.std.specs.declared.alloc.Global.{Global}
use Rattle.std.proofs.Common.{inl, subst, arith}
use Rattle.ipc_disk.specs.Disks.{overwritten}
use Rattle.ipc_disk.specs.Memory.{DiskState}
use Rattle.ipc_io.specs.Memory.{Calls, new_source}
use Rattle.ipc_io.specs.declared.outside.PutError.{PutError}
use Rattle.ipc_io.specs.declared.outside.PutError.TheVariants as put
use Rattle.ipc_log_disk.specs.Crashes.{Images, IsTorn}
use Rattle.ipc_log_disk.specs.declared.change.Change.{Change}
use Rattle.ipc_log_disk.specs.declared.change.Change.TheVariants.{Written, Synced}
use Rattle.ipc_log_disk.specs.declared.history.History.{History}

-- the bytes after some changes
abbrev pub content_after : List ℕ → List Change → List ℕ
content_after first [] = first
content_after first (Written at bytes count ∷ changes) = overwritten (content_after first changes) at bytes.items
content_after first (Synced ∷ changes) = content_after first changes

-- The images that a crash may leave after some changes: behind a write what a read gives, or what the write made of an image before it; behind a sync what a read gives.
abbrev pub images_after : List ℕ → List Change → Images
images_after first [] = λ c. c ≡ first
images_after first (Written at bytes count ∷ changes) = λ c. (c ≡ overwritten (content_after first changes) at bytes.items) ⊎ IsTorn (images_after first changes) at count c
images_after first (Synced ∷ changes) = λ c. c ≡ content_after first changes

-- the images that a crash might have left at some moment behind the first t changes: with the newest of the changes undone
pub record WasImage (first : List ℕ) (changes : List Change) (t : ℕ) (c : List ℕ) : Type 0 where
  pub undone : ℕ
  pub behind : undone + t ≤ length changes
  pub image : images_after first (drop undone changes) c

-- each write was at a place of the bytes as they stood, and wrote no more bytes than it was to
abbrev pub is_history : List ℕ → List Change → Bool
is_history first [] = true
is_history first (Written at bytes count ∷ changes) = nat_le at (length (content_after first changes)) && (nat_le (length bytes.items) count && is_history first changes)
is_history first (Synced ∷ changes) = is_history first changes

-- what a crash might have left at some moment of a disk whose record is kept
abbrev pub images_in : Option History → Images
images_in None = λ c. ⊥
images_in (Some h) = WasImage h.first.items (reverse h.changes.items) 0

-- ── a crash that leaves one byte wherever a byte is not on the disk ──

-- What it leaves of an image behind a write of so many bytes at a place, where the bytes may grow up to a number.
abbrev pub torn_by : ℕ → ℕ → ℕ → ℕ → List ℕ → List ℕ
torn_by fill most at count d =
    if nat_lt (length d) at then d else take at d ++ (replicate (min (at + count) (max (length d) most) - at) fill ++ drop (at + count) d)

-- what it leaves after some changes
abbrev pub crashed_after : ℕ → ℕ → List ℕ → List Change → List ℕ
crashed_after fill most first [] = first
crashed_after fill most first (Written at bytes count ∷ changes) = torn_by fill most at count (crashed_after fill most first changes)
crashed_after fill most first (Synced ∷ changes) = content_after first changes

-- what it leaves behind one change more, of what a read gave and of what it left before
abbrev pub left_behind : ℕ → ℕ → List ℕ → List ℕ → Change → List ℕ
left_behind fill most held left (Written at bytes count) = torn_by fill most at count left
left_behind fill most held left Synced = held

-- how many bytes are on the disk
abbrev pub least_length : List ℕ → List Change → ℕ
least_length first [] = length first
least_length first (Written at bytes count ∷ changes) = least_length first changes
least_length first (Synced ∷ changes) = length (content_after first changes)

-- how many there may have been at most since the last sync
abbrev pub greatest_length : List ℕ → List Change → ℕ
greatest_length first [] = length first
greatest_length first (Written at bytes count ∷ changes) = max (greatest_length first changes) (at + count)
greatest_length first (Synced ∷ changes) = length (content_after first changes)

-- a crash may leave so many bytes
pub record MayBeLeft (first : List ℕ) (changes : List Change) (n : ℕ) : Type 0 where
  pub least : least_length first changes ≤ n
  pub greatest : n ≤ greatest_length first changes

-- ── the disk as clauses see it ──

pub record LogState : Type 0 where
  pub first : List ℕ
  pub changes : List Change
  pub places : List ℕ
  pub calls : Calls
  pub fetched : ℕ
  pub wants : ℕ

-- a disk of these bytes, all of them on the disk
abbrev pub new_log_disk : DiskState → LogState
new_log_disk disk = record { first = disk.source.bytes; changes = []; places = disk.source.places; calls = disk.source.calls; fetched = disk.source.fetched; wants = 0 }

-- bytes in memory of which no call fails
abbrev pub new_disk : List ℕ → DiskState
new_disk b = record { source = new_source b [] []; wants = 0 }

-- the oldest of the changes
abbrev pub oldest : ℕ → List Change → List Change
oldest count changes = drop (length changes - count) changes

-- a write was added behind the changes, the oldest first, and has made the bytes what they are
pub record IsNoted (b b' : List ℕ) (changes changes' : List Change) (at n : ℕ) : Type 0 where
  pub written : Vec ℕ Global
  pub few : length written.items ≤ n
  pub are : b' ≡ overwritten b at written.items
  pub more : changes' ≡ changes ++ Written at written n ∷ []

-- a write that wanted memory has changed nothing; each other was added
abbrev pub Notes : List ℕ → List ℕ → List Change → List Change → ℕ → ℕ → Result (Unit {0}) PutError → Type 0
Notes b b' changes changes' at n (Ok done) = IsNoted b b' changes changes' at n
Notes b b' changes changes' at n (Err put.Failed) = IsNoted b b' changes changes' at n
Notes b b' changes changes' at n (Err put.Memory) = (b' ≡ b) × (changes' ≡ changes)

abbrev pub is_wanted : Result (Unit {0}) PutError → Bool
is_wanted (Ok done) = false
is_wanted (Err put.Failed) = false
is_wanted (Err put.Memory) = true

-- what a write has written of its bytes, where so many stood in its range: one that fails adds none
abbrev pub front_by : Result (Unit {0}) PutError → ℕ → List ℕ → List ℕ
front_by (Ok done) stood bytes = bytes
front_by (Err put.Failed) stood bytes = take stood bytes
front_by (Err put.Memory) stood bytes = bytes

-- ── its laws ──

pub content_image : (first : List ℕ) (changes : List Change) → images_after first changes (content_after first changes)
content_image first [] = refl
content_image first (Written at bytes count ∷ changes) = inl refl
content_image first (Synced ∷ changes) = refl

pub told_image : (first : List ℕ) (changes : List Change) (b : List ℕ) → Some (content_after first changes) ≡ Some b → images_after first changes b
told_image first changes b told = let is : content_after first changes ≡ b = cc in subst (images_after first changes) is (content_image first changes)

pub now_image : (first : List ℕ) (changes : List Change) (t : ℕ) (c : List ℕ) → t ≤ length changes → images_after first changes c → WasImage first changes t c
now_image first changes t c le image = record { undone = 0; behind = omega (arith, le); image = image }

none_undone : (first : List ℕ) (changes : List Change) (n : ℕ) (c : List ℕ) → n ≡ 0 → images_after first (drop n changes) c → images_after first changes c
none_undone first changes n c none image = subst (λ (k : ℕ). images_after first (drop k changes) c) none image

pub now_only : (first : List ℕ) (changes : List Change) (c : List ℕ) → WasImage first changes (length changes) c → images_after first changes c
now_only first changes c was = none_undone first changes was.undone c (omega (arith, was.behind)) was.image
