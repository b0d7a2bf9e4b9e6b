-- The blocks of a file up to a place: what they mean, what a refusal there refuses, and one block more.
use Rattle.std.proofs.Common.{◌≡◌, add-one, ◌∙◌, sym, refl, ap, subst, ℕ, zero, suc, ◌+◌, ◌<◌, ◌≤◌, List, [], ◌∷◌, ◌++◌, length, take, drop, slice_get, Bool, true, false, Option, Some, None, Ok, Err, arith}
use Rattle.std.specs.Prelude.{not, ◌&&◌}
use Rattle.std.proofs.Math.Seq.{take-suc}
use Rattle.std.proofs.lemmas.List.{length-take-le, take_all}
use Rattle.std.proofs.lemmas.Option.{get_or_from_slice_get, slice_get_within}
use Rattle.arrow_spec.specs.declared.error.IpcError.{IpcError}
use Rattle.arrow_spec.specs.Arrays.{Dictionaries}
use Rattle.arrow_spec.specs.Files.{ArrowTable, FileBlock, Meta, Purpose, Request, TableBatch, dictionaries_of, dictionaries_read, dictionaries_sent, fields_as_asked, if_sent, meta_of, taken, to_read, to_send, what_is_left}
use Rattle.arrow_spec.specs.Kinds.{Metadata}
use Rattle.arrow_spec.specs.Readings.{◌>>=◌, Refuses, is_absent, refusals}
use Rattle.arrow_spec.specs.Sent.{may_be_sent, stream_schema}
use Rattle.arrow_spec.proofs.Projection.{ok-place, on}
use Rattle.arrow_spec.proofs.ReadPairs.{same_read, through}
use Rattle.ipc_reader.specs.Below.{file_custom}
use Rattle.ipc_reader.proofs.Below.{follows}
use Rattle.laws_reading.specs.Reads.{IsOpened}
use Rattle.laws_transcode.specs.Files.{HasRead, left_of}
use Rattle.laws_transcode.proofs.Readings.{on_err}
use Rattle.laws_walk.specs.Places.{GivesUpTo, KeptSoFar, Place, Walked, Walking, asked_walked, meta_walked, table_sent}
use Rattle.laws_walk.specs.Walks.{IsOpenFor, Walk, asked_by, behind_one, blocks_walked, left_behind, table_walked, walk_reading, within}
use Rattle.laws_walk.proofs.Walks.{block_more, block_refused, dictionaries_refused, is_first_behind, none_walked, walked_count}

-- ── lists ──

pub take_next : {A : Type 0} (xs : List A) (i : ℕ) (x : A) → slice_get xs i ≡ Some x → take (i + 1) xs ≡ take i xs ++ x ∷ []
take_next xs i x h = rw add-one (take-suc xs i x (slice_get_within xs i x h) ∙ ap (λ y. take i xs ++ y ∷ []) (get_or_from_slice_get xs i x x h))

pub split_at : {A : Type 0} (xs : List A) (i : ℕ) (x : A) → slice_get xs i ≡ Some x → xs ≡ take i xs ++ x ∷ drop (i + 1) xs
split_at [] i x h = cc
split_at (y ∷ ys) zero x h = ap (λ z. z ∷ ys) cc
split_at (y ∷ ys) (suc i) x h = let e : suc i + 1 ≡ suc (i + 1) = omega arith in rw e (ap (λ l. y ∷ l) (split_at ys i x h))

pub block_there : {A : Type 0} (xs : List A) (i : ℕ) → i < length xs → (x : A) × (slice_get xs i ≡ Some x)
block_there [] i h = absurd (omega (arith, h))
block_there (x ∷ xs) zero h = (x, refl)
block_there (x ∷ xs) (suc i) h = block_there xs i (omega (arith, h))

none_there : {A : Type 0} (xs : List A) → length xs ≤ 0 → xs ≡ []
none_there [] h = refl
none_there (x ∷ xs) h = absurd (omega (arith, h))

pub left_more : (left : Option ℕ) (bs : List TableBatch) (here : Option TableBatch) → left_of left (bs ++ behind_one here []) ≡ left_behind (left_of left bs) here
left_more left [] None = refl
left_more left [] (Some x) = refl
left_more left (b ∷ bs) here = left_more (what_is_left left b.rows) bs here

-- where a block is read the dictionaries are
reads_behind : (xs ys : List FileBlock) (block : FileBlock) (ds : List FileBlock) → dictionaries_read (xs ++ block ∷ ys) ds ≡ ds
reads_behind [] ys block ds = refl
reads_behind (x ∷ xs) ys block ds = refl

reads_some : (blocks ds : List FileBlock) (n : ℕ) → 0 < n → n ≤ length blocks → dictionaries_read (take n blocks) ds ≡ ds
reads_some [] ds n some within = absurd (omega (arith, some, within))
reads_some (x ∷ xs) ds zero some within = absurd (omega (arith, some))
reads_some (x ∷ xs) ds (suc n) some within = refl

pub reads_all : (blocks ds : List FileBlock) → 0 < length blocks → dictionaries_read blocks ds ≡ ds
reads_all [] ds some = absurd (omega (arith, some))
reads_all (x ∷ xs) ds some = refl

no_dictionaries : (b : List ℕ) (meta : Meta) → dictionaries_of b meta [] [] ≡ Ok []
unfolding dictionaries_of
no_dictionaries b meta = refl

-- dictionaries that were read are all of them
pub all_of : (b : List ℕ) (meta : Meta) (d : Dictionaries) → HasRead b meta d → 0 < length meta.blocks → dictionaries_of b meta [] meta.dictionaries ≡ Ok d
all_of b meta d has some = ap (dictionaries_of b meta []) (sym (reads_all meta.blocks meta.dictionaries some)) ∙ has.read

pub has_all : (b : List ℕ) (meta : Meta) (d : Dictionaries) → 0 < length meta.blocks → dictionaries_of b meta [] meta.dictionaries ≡ Ok d → HasRead b meta d
has_all b meta d some h = record { read = ap (dictionaries_of b meta []) (reads_all meta.blocks meta.dictionaries some) ∙ h }

-- ── files ──

-- a file that was opened may be walked within its request
pub open_within : (b : List ℕ) (r : Request) (meta : Meta) (custom : Metadata) → IsOpened b r meta custom → IsOpenFor to_read b (within r) meta custom
open_within b r meta custom o = record { read = o.read; pairs = o.pairs; right = on _ _ tt o.columns ∙ ok-place _ o.readable; small = refl }

-- where its schema may be sent, to be sent
pub open_to_send : (b : List ℕ) (w : Walk) (meta : Meta) (custom : Metadata) → IsOpenFor to_read b w meta custom → may_be_sent (stream_schema (fields_as_asked w.columns meta.schema.fields) meta.schema.metadata custom) ≡ true → IsOpenFor to_send b w meta custom
open_to_send b w meta custom o small = record { read = o.read; pairs = o.pairs; right = o.right; small = ap (if_sent to_send) small }

pub open_to_read : (b : List ℕ) (w : Walk) (meta : Meta) (custom : Metadata) → IsOpenFor to_send b w meta custom → IsOpenFor to_read b w meta custom
open_to_read b w meta custom o = record { read = o.read; pairs = o.pairs; right = o.right; small = refl }

module _ (purpose : Purpose) (b : List ℕ) (w : Walk) (meta : Meta) (custom : Metadata) (open_for : IsOpenFor purpose b w meta custom) where
  opened : (j : Option ℕ) → walk_reading purpose b w j
      ≡ (dictionaries_of b meta [] (dictionaries_read (taken j meta.blocks) meta.dictionaries) >>= λ d. blocks_walked purpose b w (asked_by b meta w d) true (taken j meta.blocks) w.limit >>= λ bs. Ok (table_walked custom meta w bs))
  unfolding walk_reading
  opened j = on _ _ meta open_for.read ∙ on _ _ custom open_for.pairs ∙ on _ _ tt open_for.right ∙ on _ _ tt open_for.small

  module _ (j : Option ℕ) where
    -- dictionaries that are refused
    pub dictionaries_stop : (es : List IpcError) → dictionaries_of b meta [] (dictionaries_read (taken j meta.blocks) meta.dictionaries) ≡ Err es → walk_reading purpose b w j ≡ Err es
    unfolding opened
    dictionaries_stop es h = opened j ∙ on_err _ _ es h

    module _ (d : Dictionaries) (held : dictionaries_of b meta [] (dictionaries_read (taken j meta.blocks) meta.dictionaries) ≡ Ok d) where
      -- blocks that were walked
      pub table_is : (bs : List TableBatch) → blocks_walked purpose b w (asked_by b meta w d) true (taken j meta.blocks) w.limit ≡ Ok bs → walk_reading purpose b w j ≡ Ok (table_walked custom meta w bs)
      unfolding opened
      table_is bs walked = opened j ∙ on _ _ d held ∙ on _ _ bs walked

      -- or are refused
      pub blocks_stop : (es : List IpcError) → blocks_walked purpose b w (asked_by b meta w d) true (taken j meta.blocks) w.limit ≡ Err es → walk_reading purpose b w j ≡ Err es
      unfolding opened
      blocks_stop es refused = opened j ∙ on _ _ d held ∙ on_err _ _ es refused

-- the first blocks of a file within a request give a batch each
pub front_count : (b : List ℕ) (r : Request) (meta : Meta) (n : ℕ) (t : ArrowTable) → meta_of b ≡ Ok meta → n ≤ length meta.blocks → walk_reading to_read b (within r) (Some n) ≡ Ok t → length t.batches ≡ n
unfolding walk_reading
front_count b r meta n t read within_blocks h =
    through _ _ t h λ m m_is h1. through _ _ t h1 λ c c_is h2. through _ _ t h2 λ u u_is h3. through _ _ t h3 λ z z_is h4. through _ _ t h4 λ d d_is h5. through _ _ t h5 λ xs xs_is h6.
    let same : m ≡ meta = same_read m meta (sym m_is ∙ read) in
    let count : length xs ≡ length (take n m.blocks) = walked_count to_read b r (asked_by b m (within r) d) (take n m.blocks) r.limit xs xs_is in
    ap (λ (u : ArrowTable). length u.batches) (sym (same_read _ t h6)) ∙ count ∙ ap (λ (k : Meta). length (take n k.blocks)) same ∙ length-take-le n meta.blocks within_blocks

-- ── a place ──

module _ (purpose : Purpose) (x : Walking) (open_for : IsOpenFor purpose x.bytes x.walk (meta_walked x) (file_custom x.file)) where
  abbrev meta : Meta
  meta = meta_walked x

  -- without a block there is no batch
  no_table : (j : Option ℕ) → taken j (meta_walked x).blocks ≡ [] → walk_reading purpose x.bytes x.walk j ≡ Ok (table_sent x [])
  no_table j none =
      table_is purpose x.bytes x.walk meta (file_custom x.file) open_for j [] (ap (λ ks. dictionaries_of x.bytes meta [] (dictionaries_read ks meta.dictionaries)) none ∙ no_dictionaries x.bytes meta) []
      (ap (λ ks. blocks_walked purpose x.bytes x.walk (asked_walked x []) true ks x.walk.limit) none ∙ none_walked purpose x.bytes x.walk (asked_walked x []) true x.walk.limit)

  module _ (p : Place) (bs : List TableBatch) (gives : GivesUpTo purpose x p.block bs) (empty : p.block ≡ 0 → bs ≡ []) where
    -- the blocks before it mean their batches
    pub first_mean : KeptSoFar x p → p.block ≤ length (meta_walked x).blocks → walk_reading purpose x.bytes x.walk (Some p.block) ≡ Ok (table_sent x bs)
    unfolding no_table
    first_mean (KeptSoFar.none_yet none not_read) within = ap (λ n. walk_reading purpose x.bytes x.walk (Some n)) none ∙ no_table (Some 0) refl ∙ ap (λ ys. Ok (table_sent x ys)) (sym (empty none))
    first_mean (KeptSoFar.all_read r some) within =
        let some_blocks : 0 < length meta.blocks = omega (arith, some, within) in
        table_is purpose x.bytes x.walk meta (file_custom x.file) open_for (Some p.block) r.dictionaries
        (ap (dictionaries_of x.bytes meta []) (reads_some meta.blocks meta.dictionaries p.block some within) ∙ all_of x.bytes meta r.dictionaries r.has some_blocks) bs (gives r.dictionaries r.has)

    -- where there is none behind it, they are all
    pub whole_mean : KeptSoFar x p → length (meta_walked x).blocks ≤ p.block → walk_reading purpose x.bytes x.walk None ≡ Ok (table_sent x bs)
    unfolding no_table
    whole_mean (KeptSoFar.none_yet none not_read) done = no_table None (none_there meta.blocks (omega (arith, none, done))) ∙ ap (λ ys. Ok (table_sent x ys)) (sym (empty none))
    whole_mean (KeptSoFar.all_read r some) done =
        table_is purpose x.bytes x.walk meta (file_custom x.file) open_for None r.dictionaries r.has.read bs
        (ap (λ ks. blocks_walked purpose x.bytes x.walk (asked_walked x r.dictionaries) true ks x.walk.limit) (sym (take_all p.block meta.blocks done)) ∙ gives r.dictionaries r.has)

  -- ── a block there ──

  -- the file, and the file up to a block
  abbrev pub AreRefused : IpcError → ℕ → Type 0
  AreRefused e n = Refuses e (refusals (walk_reading purpose x.bytes x.walk None)) × Refuses e (refusals (walk_reading purpose x.bytes x.walk (Some (suc n))))

  module _ (n : ℕ) (block : FileBlock) (at : slice_get (meta_walked x).blocks n ≡ Some block) where
    some_there : 0 < length (meta_walked x).blocks
    some_there = let less = slice_get_within meta.blocks n block at in omega (arith, less)

    up_to : take (suc n) (meta_walked x).blocks ≡ take n (meta_walked x).blocks ++ block ∷ []
    up_to = subst (λ k. take k meta.blocks ≡ take n meta.blocks ++ block ∷ []) (add-one n) (take_next meta.blocks n block at)

    -- blocks that are refused at it, whatever is behind it
    both_refused : (d : Dictionaries) → HasRead x.bytes (meta_walked x) d → (es : List IpcError) → ((rest : List FileBlock) → blocks_walked purpose x.bytes x.walk (asked_walked x d) true (take n (meta_walked x).blocks ++ block ∷ rest) x.walk.limit ≡ Err es)
        → (walk_reading purpose x.bytes x.walk None ≡ Err es) × (walk_reading purpose x.bytes x.walk (Some (suc n)) ≡ Err es)
    unfolding some_there up_to
    both_refused d has es stops =
        let all = all_of x.bytes meta d has some_there in
        let whole = split_at meta.blocks n block at in (
          blocks_stop purpose x.bytes x.walk meta (file_custom x.file) open_for None d has.read es (ap (λ ks. blocks_walked purpose x.bytes x.walk (asked_walked x d) true ks x.walk.limit) whole ∙ stops (drop (n + 1) meta.blocks)),
          blocks_stop purpose x.bytes x.walk meta (file_custom x.file) open_for (Some (suc n)) d (ap (λ ks. dictionaries_of x.bytes meta [] (dictionaries_read ks meta.dictionaries)) up_to ∙ ap (dictionaries_of x.bytes meta []) (reads_behind (take n meta.blocks) [] block meta.dictionaries) ∙ all) es
              (ap (λ ks. blocks_walked purpose x.bytes x.walk (asked_walked x d) true ks x.walk.limit) up_to ∙ stops []),
        )

    module _ (d : Dictionaries) (has : HasRead x.bytes (meta_walked x) d) (bs : List TableBatch) (gives : GivesUpTo purpose x n bs) (left : Option ℕ) (is_left : left ≡ left_of x.walk.limit bs) (e : IpcError) where
      -- what refuses it refuses them
      pub block_refuses : Refuses e (refusals (x.walk.batch purpose x.bytes (asked_walked x d) block left)) → AreRefused e n
      unfolding both_refused
      block_refuses h =
          let stops : (es : List IpcError) → x.walk.batch purpose x.bytes (asked_walked x d) block left ≡ Err es → (rest : List FileBlock) → blocks_walked purpose x.bytes x.walk (asked_walked x d) true (take n (meta_walked x).blocks ++ block ∷ rest) x.walk.limit ≡ Err es
          = λ es is rest. block_refused purpose x.bytes x.walk (asked_walked x d) (take n meta.blocks) block x.walk.limit bs (gives d has) rest es (subst (λ l. x.walk.batch purpose x.bytes (asked_walked x d) block l ≡ Err es) is_left is) in
          (follows e _ _ (λ es is. (both_refused d has es (stops es is)).0) h, follows e _ _ (λ es is. (both_refused d has es (stops es is)).1) h)

      -- and so do dictionaries that are refused with its batch
      pub values_refuse : (here : Option TableBatch) (es : List IpcError) → x.walk.batch purpose x.bytes (asked_walked x d) block left ≡ Ok here → dictionaries_sent (is_first_behind true bs && not (is_absent here)) purpose (asked_walked x d) ≡ Err es → Refuses e es → AreRefused e n
      unfolding both_refused
      values_refuse here es is refused h =
          let both = both_refused d has es (λ rest. dictionaries_refused purpose x.bytes x.walk (asked_walked x d) (take n meta.blocks) block x.walk.limit bs (gives d has) rest here es (subst (λ l. x.walk.batch purpose x.bytes (asked_walked x d) block l ≡ Ok here) is_left is) refused) in
          (subst (λ r. Refuses e (refusals r)) (sym both.0) h, subst (λ r. Refuses e (refusals r)) (sym both.1) h)

    -- what refuses the dictionaries refuses the file, and the file up to its first block
    pub dictionaries_refuse : (e : IpcError) → n ≡ 0 → Refuses e (refusals (dictionaries_of x.bytes (meta_walked x) [] (meta_walked x).dictionaries)) → AreRefused e n
    unfolding some_there up_to
    dictionaries_refuse e none h = (
      follows e _ _ (λ es is. dictionaries_stop purpose x.bytes x.walk meta (file_custom x.file) open_for None es (ap (dictionaries_of x.bytes meta []) (reads_all meta.blocks meta.dictionaries some_there) ∙ is)) h,
      follows e _ _ (λ es is. dictionaries_stop purpose x.bytes x.walk meta (file_custom x.file) open_for (Some (suc n)) es (ap (λ ks. dictionaries_of x.bytes meta [] (dictionaries_read ks meta.dictionaries)) up_to ∙ ap (dictionaries_of x.bytes meta []) (reads_behind (take n meta.blocks) [] block meta.dictionaries) ∙ is)) h,
    )

-- ── one block more ──

-- under whatever dictionaries were read, which are the same
pub under_all : (purpose : Purpose) (x : Walking) (n : ℕ) (bs : List TableBatch) (d : Dictionaries) → HasRead x.bytes (meta_walked x) d → blocks_walked purpose x.bytes x.walk (asked_walked x d) true (take n (meta_walked x).blocks) x.walk.limit ≡ Ok bs → GivesUpTo purpose x n bs
under_all purpose x n bs d has h = λ e other.
    let same : d ≡ e = same_read d e (sym has.read ∙ other.read) in
    subst (λ (g : Dictionaries). blocks_walked purpose x.bytes x.walk (asked_walked x g) true (take n (meta_walked x).blocks) x.walk.limit ≡ Ok bs) same h

module _ (purpose : Purpose) (x : Walking) (p p' : Place) (block : FileBlock) (at : slice_get (meta_walked x).blocks p.block ≡ Some block) (next : p'.block ≡ p.block + 1) (d : Dictionaries) (has : HasRead x.bytes (meta_walked x) d) (bs : List TableBatch) (here : Option TableBatch) where
  gives_more : (other : Purpose) → GivesUpTo other x p.block bs → p.left ≡ left_of x.walk.limit bs → x.walk.batch other x.bytes (asked_walked x d) block p.left ≡ Ok here
      → dictionaries_sent (is_first_behind true bs && not (is_absent here)) other (asked_walked x d) ≡ Ok tt → GivesUpTo other x p'.block (bs ++ behind_one here [])
  gives_more other gives left is fits =
      under_all other x p'.block (bs ++ behind_one here []) d has
      (ap (λ ks. blocks_walked other x.bytes x.walk (asked_walked x d) true ks x.walk.limit) (ap (λ n. take n (meta_walked x).blocks) next ∙ take_next (meta_walked x).blocks p.block block at)
      ∙ block_more other x.bytes x.walk (asked_walked x d) (take p.block (meta_walked x).blocks) block x.walk.limit bs (gives d has) here (subst (λ l. x.walk.batch other x.bytes (asked_walked x d) block l ≡ Ok here) left is) fits)

  unfoldable pub walked_more : Walked purpose x p bs → KeptSoFar x p' → p'.left ≡ left_behind p.left here → x.walk.batch to_read x.bytes (asked_walked x d) block p.left ≡ Ok here → x.walk.batch purpose x.bytes (asked_walked x d) block p.left ≡ Ok here
      → dictionaries_sent (is_first_behind true bs && not (is_absent here)) purpose (asked_walked x d) ≡ Ok tt → Walked purpose x p' (bs ++ behind_one here [])
  unfolding gives_more
  walked_more s kept left read done fits =
      let less = slice_get_within (meta_walked x).blocks p.block block at in
      record {
        kept = kept;
        read = gives_more to_read s.read s.left read (read_fits (is_first_behind true bs && not (is_absent here)));
        done = gives_more purpose s.done s.left done fits;
        none = λ never. absurd (omega (arith, next, never));
        within = omega (arith, less, next);
        left = left ∙ ap (λ l. left_behind l here) s.left ∙ sym (left_more x.walk.limit bs here);
      }
    where
      read_fits : (first : Bool) → dictionaries_sent first to_read (asked_walked x d) ≡ Ok tt
      read_fits true = refl
      read_fits false = refl
