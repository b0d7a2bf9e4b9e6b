-- Places of a file that is scanned, and the dictionaries that are held there.
use Rattle.std.proofs.Common.{◌≡◌, refl, ap, ℕ, zero, suc, ◌+◌, ◌<◌, length, None, Some, slice_get, arith}
use Rattle.std.proofs.lemmas.Option.{slice_get_within}
use Rattle.arrow_spec.specs.Files.{FileBlock, if_sent, to_send, what_is_left}
use Rattle.ipc_files.specs.FileDictionaries.{HoldsUses}
use Rattle.ipc_files.specs.FileViews.{WasRead, file_custom}
use Rattle.ipc_files.specs.Below.{held_in}
use Rattle.laws_scan.specs.Below.{HeldParts, HoldsFile, Held as IsHeld}
use Rattle.laws_walk.specs.Below.{NotRead}
use Rattle.laws_scan.proofs.Below.{held_parts}
use Rattle.laws_scan.specs.Scan.{met}
use Rattle.laws_walk.specs.Places.{DictionariesRead, KeptSoFar, Place, Sending, Walking, meta_in, meta_walked, walking}
use Rattle.laws_walk.specs.Walks.{IsOpenFor}
use Rattle.laws_walk.proofs.Cursors.{held_at}
use Rattle.laws_walk.proofs.Places.{has_all}
use Rattle.laws_walk.proofs.Writes.{IsBehind}
use Rattle.filter_types.specs.declared.filter.Filter.{Filter}
use Rattle.ipc_scan.specs.Sends.{IsScannedBy, place_at, scanning}
use Rattle.ipc_scan.specs.declared.scanner.Scanner.{Scanner}

-- a file that is scanned may be sent
pub scan_open : (s : Scanner) (x : Sending) → IsScannedBy s x → IsOpenFor to_send x.bytes (met s.filter x.request.columns) (meta_in x) (file_custom x.file)
scan_open s x is = record { read = is.by.file.read; pairs = is.by.file.pairs; right = is.scanner.right; small = ap (if_sent to_send) is.small }

-- ── numbers ──

pub block_at : (n : ℕ) (m : HeldParts) → (place_at n m).block ≡ n
block_at zero m = refl
block_at (suc n) m = refl

pub left_at : (n : ℕ) (m : HeldParts) → (place_at n m).left ≡ None
left_at zero m = refl
left_at (suc n) m = refl

pub next_at : (n : ℕ) (m : HeldParts) → (place_at (suc n) m).block ≡ (place_at n m).block + 1
next_at n m = let e = block_at n m in omega (arith, e)

-- nothing of a limit, since there is none
pub left_behind_at : (n : ℕ) (m : HeldParts) (rows : ℕ) → (place_at (suc n) m).left ≡ what_is_left (place_at n m).left rows
left_behind_at zero m rows = refl
left_behind_at (suc n) m rows = refl

-- ── dictionaries ──

-- they are the same for any walk
abbrev pub read_within : (f : Filter) (x : Sending) (p : Place) → DictionariesRead (scanning f x) p → DictionariesRead (walking x) p
read_within f x p r = record { held = r.held; kept = r.kept; dictionaries = r.dictionaries; has = r.has; parts = r.parts; read = r.read; uses = r.uses }

-- What is held of a file's dictionaries that were read before its first block.
pub record HoldsAll (x : Walking) (m : HeldParts) : Type 0 where
  pub read : WasRead x.file
  pub some : 0 < length (meta_walked x).blocks
  pub holds : HoldsFile x.bytes (meta_walked x) m
  pub uses : HoldsUses (meta_walked x) (held_in m)

module _ (x : Walking) (m : HeldParts) where
  -- what is held at a place is that
  pub held_there : (n : ℕ) (r : DictionariesRead x (place_at n m)) → IsHeld m ≡ IsHeld r.held
  held_there zero r = let never : NotRead ≡ IsHeld r.held = r.kept in cc
  held_there (suc n) r = r.kept

  module _ (all : HoldsAll x m) (n : ℕ) where
    -- behind the first block they are those that were read, and then those that were held before
    unfoldable pub read_behind : KeptSoFar x (place_at n m) → DictionariesRead x (place_at (suc n) m)
    read_behind (KeptSoFar.none_yet none not_read) =
        let parts = held_parts x.bytes (meta_walked x) all.holds.0 (held_in m) all.read.readable.columns all.read.readable.agree all.holds.3 in
        record { held = m; kept = refl; dictionaries = all.holds.0; has = has_all x.bytes (meta_walked x) all.holds.0 all.some all.holds.1; parts = parts.0; read = parts.1; uses = all.uses }
    read_behind (KeptSoFar.all_read r more) = held_at x (place_at n m) (place_at (suc n) m) r (held_there n r)

    pub is_behind : (kept : KeptSoFar x (place_at n m)) → IsBehind x (place_at n m) (place_at (suc n) m) kept (read_behind kept)
    unfolding read_behind held_at
    is_behind (KeptSoFar.none_yet none not_read) = tt
    is_behind (KeptSoFar.all_read r more) = (refl, refl)

-- where there is a block
pub some_at : (x : Walking) (n : ℕ) (block : FileBlock) → slice_get (meta_walked x).blocks n ≡ Some block → 0 < length (meta_walked x).blocks
some_at x n block at = let less = slice_get_within (meta_walked x).blocks n block at in omega (arith, less)
