-- The farthest of blocks, and what is known of blocks that have one.
use Rattle.std.proofs.Common.{SFits, of_z, to_z, w32, w64, ◌≡◌, inl, ℕ, ◌+◌, ◌<◌, ◌≤◌, ℤ, pos, negsuc, Bool, true, false, List, [], ◌∷◌, Ok, Err, drop, get_or, length, map, max, refl, sym, ap, ◌∙◌, arith, subst}
use Rattle.std.specs.Prelude.{All, FitsSigned, nat_eq, nat_le, nat_lt}
use Rattle.std.specs.List.{AllByRecursion}
use Rattle.std.proofs.lemmas.Bool.{eqb-false, eqb-true, le-leb, leb-true, lt-leb, ltb-true}
use Rattle.std.proofs.Math.Facts.{sfits_widen}
use Rattle.std.proofs.lemmas.Int.{to_z-of_z}
use Rattle.std.proofs.lemmas.List.{drop_all}
use Rattle.std.proofs.lemmas.List.Elements.{All-cons, All-nil}
use Rattle.arrow_spec.specs.declared.error.IpcError.{IpcError}
use Rattle.arrow_spec.specs.declared.error.IpcError.TheVariants.{OutOfSpec}
use Rattle.arrow_spec.specs.declared.error.OutOfSpecKind.TheVariants.{BlockRange, MissingRecordBatches}
use Rattle.arrow_spec.specs.declared.message.Block.{Block}
use Rattle.arrow_spec.specs.Counts.{magnitude}
use Rattle.arrow_spec.specs.Files.{FileBlock, block_of}
use Rattle.arrow_spec.specs.Readings.{◌>>=◌, IsAmong, Reading, bind, natural, only_if, refusals, unless}
use Rattle.arrow_spec.proofs.ReadPairs.{goes, is_true}
use Rattle.ipc_fields.proofs.Steps.{drop_item}
use Rattle.ipc_streams.specs.Below.{FileMetadata, IsNatural, block_by, file_block}
use Rattle.laws_files.specs.Files as files
use Rattle.ipc_append.specs.Places.{HaveWidths, behind_block, block_end, farthest, last_end}

-- ── steps of a reading ──

pub passes : (b : Bool) (e : IpcError) → b ≡ true → unless b e ≡ Ok tt
passes true e h = refl
passes false e h = cc

pub stops : (b : Bool) (e : IpcError) → b ≡ false → IsAmong (refusals (unless b e)) e
stops true e h = cc
stops false e h = inl refl

pub on : {A B : Type 0} (r : Reading A) (f : A → Reading B) (x : A) → r ≡ Ok x → (r >>= f) ≡ f x
unfolding bind
on (Ok w) f x h = let e : w ≡ x = cc in ap f e
on (Err es) f x h = cc

-- the refusals of a first step are those of what goes on with it
pub refused_first : {A B : Type 0} (r : Reading A) (f : A → Reading B) (e : IpcError) → IsAmong (refusals r) e → IsAmong (refusals (r >>= f)) e
unfolding bind
refused_first (Ok x) f e h = absurd h
refused_first (Err es) f e h = h

-- a step is refused behind one that went on
pub refused_behind : {A B : Type 0} (r : Reading A) (f : A → Reading B) (x : A) (e : IpcError) → r ≡ Ok x → IsAmong (refusals (f x)) e → IsAmong (refusals (r >>= f)) e
refused_behind r f x e h k = subst (λ y. IsAmong (refusals y) e) (sym (on r f x h)) k

abbrev read : ℕ → Reading ℕ
read n = Ok n

pub same_number : (x y : ℕ) → read x ≡ read y → x ≡ y
same_number x y k = cc

-- a number of 32 bits that is handed over as one of 64
pub widened : (z y : ℤ) → SFits w32 z → y ≡ to_z w32 (of_z w32 z) → to_z w64 (of_z w64 y) ≡ z
widened z y f e =
    let same : y ≡ z = e ∙ to_z-of_z w32 z f in
    ap (λ k. to_z w64 (of_z w64 k)) same ∙ to_z-of_z w64 z (sfits_widen tt f)

-- ── one block ──

record Naturals (o m b : ℤ) : Type 0 where
  o_is : o ≡ pos (magnitude o)
  m_is : m ≡ pos (magnitude m)
  b_is : b ≡ pos (magnitude b)

naturals : (o m b : ℤ) (n : ℕ) → (block_of o m b >>= λ x. Ok (behind_block x)) ≡ Ok n → Naturals o m b
unfolding bind
naturals (pos o) (pos m) (pos b) n h = record { o_is = refl; m_is = refl; b_is = refl }
naturals (negsuc o) m b n h = cc
naturals (pos o) (negsuc m) b n h = cc
naturals (pos o) (pos m) (negsuc b) n h = cc

-- the place behind a block, by its numbers
pub end_is : (x : Block) (at m n : ℕ) → natural x.offset ≡ Ok at → natural x.meta_data_length ≡ Ok m → natural x.body_length ≡ Ok n → block_end x ≡ Ok (at + (m + n))
end_is x at m n h k l =
    let whole : block_by x ≡ Ok (record { offset = at; metadata = m; body = n }) =
    on (natural x.offset) (λ o. natural x.meta_data_length >>= λ p. natural x.body_length >>= λ q. Ok (record { offset = o; metadata = p; body = q })) at h
    ∙ on (natural x.meta_data_length) (λ p. natural x.body_length >>= λ q. Ok (record { offset = at; metadata = p; body = q })) m k
    ∙ on (natural x.body_length) (λ q. Ok (record { offset = at; metadata = m; body = q })) n l in
    on (block_by x) (λ b. Ok (behind_block b)) (record { offset = at; metadata = m; body = n }) whole

-- one of them is negative
numbers_refused : (x : Block) (e : IpcError) → IsAmong (refusals (block_by x)) e → IsAmong (refusals (block_end x)) e
numbers_refused x e h = refused_first (block_by x) (λ b. Ok (behind_block b)) e h

pub offset_refused : (x : Block) (e : IpcError) → IsAmong (refusals (natural x.offset)) e → IsAmong (refusals (block_end x)) e
offset_refused x e h = numbers_refused x e (refused_first (natural x.offset) (λ o. natural x.meta_data_length >>= λ p. natural x.body_length >>= λ q. Ok (record { offset = o; metadata = p; body = q })) e h)

pub metadata_refused : (x : Block) (e : IpcError) (at : ℕ) → natural x.offset ≡ Ok at → IsAmong (refusals (natural x.meta_data_length)) e → IsAmong (refusals (block_end x)) e
metadata_refused x e at h k =
    numbers_refused x e (refused_behind (natural x.offset) (λ o. natural x.meta_data_length >>= λ p. natural x.body_length >>= λ q. Ok (record { offset = o; metadata = p; body = q })) at e h
    (refused_first (natural x.meta_data_length) (λ p. natural x.body_length >>= λ q. Ok (record { offset = at; metadata = p; body = q })) e k))

pub body_refused : (x : Block) (e : IpcError) (at m : ℕ) → natural x.offset ≡ Ok at → natural x.meta_data_length ≡ Ok m → IsAmong (refusals (natural x.body_length)) e → IsAmong (refusals (block_end x)) e
body_refused x e at m h k l =
    numbers_refused x e (refused_behind (natural x.offset) (λ o. natural x.meta_data_length >>= λ p. natural x.body_length >>= λ q. Ok (record { offset = o; metadata = p; body = q })) at e h
    (refused_behind (natural x.meta_data_length) (λ p. natural x.body_length >>= λ q. Ok (record { offset = at; metadata = p; body = q })) m e k
    (refused_first (natural x.body_length) (λ q. Ok (record { offset = at; metadata = m; body = q })) e l)))

block_natural : (x : Block) (n : ℕ) → block_end x ≡ Ok n → IsNatural x
block_natural x n h =
    let p = naturals x.offset x.meta_data_length x.body_length n h in
    record { offset = p.o_is; metadata = p.m_is; body = p.b_is }

-- ── blocks ──

first_then : (place : ℕ) (x : Block) (xs : List Block) → farthest place (x ∷ xs) ≡ (block_end x >>= λ end. farthest (max place end) xs)
unfolding farthest
first_then place x xs = refl

pub none_left : (place : ℕ) (xs : List Block) → xs ≡ [] → farthest place xs ≡ Ok place
unfolding farthest
none_left place [] h = refl
none_left place (x ∷ xs) h = cc

-- the end of one block more
pub one_more : (place whole : ℕ) (xs : List Block) (i : ℕ) (d : Block) (end : ℕ) → i < length xs → block_end (get_or xs i d) ≡ Ok end → farthest place (drop i xs) ≡ farthest whole xs → farthest (max place end) (drop (i + 1) xs) ≡ farthest whole xs
one_more place whole xs i d end h k l =
    let x = get_or xs i d in
    sym (ap (farthest place) (drop_item xs i x d h refl) ∙ first_then place x (drop (i + 1) xs) ∙ on (block_end x) (λ n. farthest (max place n) (drop (i + 1) xs)) end k) ∙ l

-- a block is refused
pub one_refused : (e : IpcError) (place whole : ℕ) (xs : List Block) (i : ℕ) (d : Block) → i < length xs → IsAmong (refusals (block_end (get_or xs i d))) e → farthest place (drop i xs) ≡ farthest whole xs → IsAmong (refusals (farthest whole xs)) e
one_refused e place whole xs i d h k l =
    let x = get_or xs i d in
    let here : farthest place (drop i xs) ≡ (block_end x >>= λ n. farthest (max place n) (drop (i + 1) xs)) = ap (farthest place) (drop_item xs i x d h refl) ∙ first_then place x (drop (i + 1) xs) in
    subst (λ r. IsAmong (refusals r) e) (sym here ∙ l) (refused_first (block_end x) (λ n. farthest (max place n) (drop (i + 1) xs)) e k)

-- all were looked at
pub all_done : (place whole : ℕ) (xs : List Block) (i : ℕ) → length xs ≤ i → farthest place (drop i xs) ≡ farthest whole xs → farthest whole xs ≡ Ok place
all_done place whole xs i h l = sym l ∙ none_left place (drop i xs) (drop_all i xs h)

-- no number is negative where there is a farthest end
far_natural : (place : ℕ) (xs : List Block) (n : ℕ) → farthest place xs ≡ Ok n → All IsNatural xs
far_natural place [] n h = All-nil IsNatural
far_natural place (x ∷ xs) n h =
    let g = goes (block_end x) (λ end. farthest (max place end) xs) n (sym (first_then place x xs) ∙ h) in
    All-cons IsNatural x xs (block_natural x g.got g.first) (far_natural (max place g.got) xs n g.rest)

-- ── widths ──

-- one block more has its width
pub one_wide : (xs : List Block) (i : ℕ) (d : Block) → i < length xs → FitsSigned w32 (get_or xs i d).meta_data_length → (HaveWidths (drop i xs) → HaveWidths xs) → HaveWidths (drop (i + 1) xs) → HaveWidths xs
one_wide xs i d lt wide before h =
    let x = get_or xs i d in
    before (subst HaveWidths (sym (drop_item xs i x d lt refl)) (All-cons (λ (y : Block). FitsSigned w32 y.meta_data_length) x (drop (i + 1) xs) wide h))

-- all have
pub all_wide : (xs : List Block) (i : ℕ) → length xs ≤ i → (HaveWidths (drop i xs) → HaveWidths xs) → HaveWidths xs
all_wide xs i le before = before (subst HaveWidths (sym (drop_all i xs le)) (All-nil (λ (y : Block). FitsSigned w32 y.meta_data_length)))

-- ── where they end ──

numbers_end : (o m b : ℤ) (n : ℕ) → (block_of o m b >>= λ x. Ok (behind_block x)) ≡ Ok n → magnitude o + magnitude m + magnitude b ≡ n
unfolding bind
numbers_end (pos o) (pos m) (pos b) n h = let e : o + (m + b) ≡ n = same_number (o + (m + b)) n h in omega (arith, e)
numbers_end (negsuc o) m b n h = cc
numbers_end (pos o) (negsuc m) b n h = cc
numbers_end (pos o) (pos m) (negsuc b) n h = cc

-- a block ends before a place
abbrev pub EndsBefore : ℕ → FileBlock → Type 0
EndsBefore place k = files.block_end k ≤ place

-- each does, where there is a farthest end, and so does the place from which they are looked at
pub far_ends : (place : ℕ) (xs : List Block) (n : ℕ) → farthest place xs ≡ Ok n → (place ≤ n) × AllByRecursion (EndsBefore n) (map file_block xs)
far_ends place [] n h = let e : place ≡ n = same_number place n (sym (none_left place [] refl) ∙ h) in (omega (arith, e), tt)
far_ends place (x ∷ xs) n h =
    let g = goes (block_end x) (λ end. farthest (max place end) xs) n (sym (first_then place x xs) ∙ h) in
    let rest = far_ends (max place g.got) xs n g.rest in
    let here : files.block_end (file_block x) ≡ g.got = numbers_end x.offset x.meta_data_length x.body_length g.got g.first in
    (omega (arith, rest.0), (omega (arith, here, rest.0), rest.1))

-- what ends before a place ends before those behind it
ends_further : (n p : ℕ) (ks : List FileBlock) → n ≤ p → AllByRecursion (EndsBefore n) ks → AllByRecursion (EndsBefore p) ks
ends_further n p [] le h = tt
ends_further n p (k ∷ ks) le h = (omega (arith, le, h.0), ends_further n p ks le h.1)

-- ── a file's blocks ──

last_steps : (m : FileMetadata) → last_end m ≡ (only_if (nat_lt 0 (length m.blocks.items)) MissingRecordBatches >>= λ some. farthest 0 m.dictionaries.items >>= λ dictionaries. farthest dictionaries m.blocks.items
    >>= λ end. only_if (nat_le end m.size) BlockRange >>= λ inside. Ok end)
unfolding last_end
last_steps m = refl

-- what is looked at behind the number of batches, behind the dictionaries, and behind all
abbrev ranged : FileMetadata → ℕ → Reading ℕ
ranged m end = only_if (nat_le end m.size) BlockRange >>= λ inside. Ok end

abbrev records : FileMetadata → ℕ → Reading ℕ
records m d = farthest d m.blocks.items >>= λ end. ranged m end

abbrev all_blocks : FileMetadata → Reading ℕ
all_blocks m = farthest 0 m.dictionaries.items >>= λ d. records m d

pub no_batch : (m : FileMetadata) → length m.blocks.items ≤ 0 → IsAmong (refusals (last_end m)) (OutOfSpec MissingRecordBatches)
no_batch m h =
    let none : nat_lt 0 (length m.blocks.items) ≡ false = lt-leb 1 (length m.blocks.items) (omega (arith, h)) in
    subst (λ r. IsAmong (refusals r) (OutOfSpec MissingRecordBatches)) (sym (last_steps m))
    (refused_first (only_if (nat_lt 0 (length m.blocks.items)) MissingRecordBatches) (λ _. all_blocks m) (OutOfSpec MissingRecordBatches) (stops (nat_lt 0 (length m.blocks.items)) (OutOfSpec MissingRecordBatches) none))

has_some : (m : FileMetadata) → 0 < length m.blocks.items → only_if (nat_lt 0 (length m.blocks.items)) MissingRecordBatches ≡ Ok tt
has_some m h = passes (nat_lt 0 (length m.blocks.items)) (OutOfSpec MissingRecordBatches) (le-leb 1 (length m.blocks.items) (omega (arith, h)))

behind_some : (m : FileMetadata) (e : IpcError) → 0 < length m.blocks.items → IsAmong (refusals (all_blocks m)) e → IsAmong (refusals (last_end m)) e
behind_some m e h k =
    subst (λ r. IsAmong (refusals r) e) (sym (last_steps m)) (refused_behind (only_if (nat_lt 0 (length m.blocks.items)) MissingRecordBatches) (λ _. all_blocks m) tt e (has_some m h) k)

pub dictionary_refused : (m : FileMetadata) (e : IpcError) → 0 < length m.blocks.items → IsAmong (refusals (farthest 0 m.dictionaries.items)) e → IsAmong (refusals (last_end m)) e
dictionary_refused m e h k = behind_some m e h (refused_first (farthest 0 m.dictionaries.items) (records m) e k)

pub record_refused : (m : FileMetadata) (e : IpcError) (d : ℕ) → 0 < length m.blocks.items → farthest 0 m.dictionaries.items ≡ Ok d → IsAmong (refusals (farthest d m.blocks.items)) e → IsAmong (refusals (last_end m)) e
record_refused m e d h k l = behind_some m e h (refused_behind (farthest 0 m.dictionaries.items) (records m) d e k (refused_first (farthest d m.blocks.items) (ranged m) e l))

pub past_end : (m : FileMetadata) (d end : ℕ) → 0 < length m.blocks.items → farthest 0 m.dictionaries.items ≡ Ok d → farthest d m.blocks.items ≡ Ok end → m.size < end → IsAmong (refusals (last_end m)) (OutOfSpec BlockRange)
past_end m d end h k l p =
    behind_some m (OutOfSpec BlockRange) h
    (refused_behind (farthest 0 m.dictionaries.items) (records m) d (OutOfSpec BlockRange) k
    (refused_behind (farthest d m.blocks.items) (ranged m) end (OutOfSpec BlockRange) l
    (refused_first (only_if (nat_le end m.size) BlockRange) (λ _. Ok end) (OutOfSpec BlockRange) (stops (nat_le end m.size) (OutOfSpec BlockRange) (lt-leb end m.size p)))))

pub end_found : (m : FileMetadata) (d end : ℕ) → 0 < length m.blocks.items → farthest 0 m.dictionaries.items ≡ Ok d → farthest d m.blocks.items ≡ Ok end → end ≤ m.size → last_end m ≡ Ok end
end_found m d end h k l p =
    last_steps m
    ∙ on (only_if (nat_lt 0 (length m.blocks.items)) MissingRecordBatches) (λ _. all_blocks m) tt (has_some m h)
    ∙ on (farthest 0 m.dictionaries.items) (records m) d k
    ∙ on (farthest d m.blocks.items) (ranged m) end l
    ∙ on (only_if (nat_le end m.size) BlockRange) (λ _. Ok end) tt (passes (nat_le end m.size) (OutOfSpec BlockRange) (le-leb end m.size p))

-- whether there are any, by a list that is lent
pub none_there : (xs ys : List Block) (b : Bool) → xs ≡ ys → b ≡ nat_eq (length xs) 0 → b ≡ true → length ys ≤ 0
none_there xs ys b e f g = let z : length xs ≡ 0 = eqb-true (length xs) 0 (sym f ∙ g) in omega (arith, z, ap length e)

pub some_there : (xs ys : List Block) (b : Bool) → xs ≡ ys → b ≡ nat_eq (length xs) 0 → b ≡ false → 0 < length ys
some_there xs ys b e f g = omega (arith, eqb-false (length xs) 0 (sym f ∙ g), ap length e)

-- what is known of a file whose blocks have a last end
pub record HasEnd (m : FileMetadata) (end : ℕ) : Type 0 where
  pub dictionaries : All IsNatural m.dictionaries.items
  pub records : All IsNatural m.blocks.items
  pub some : 0 < length m.blocks.items
  pub dictionaries_end : AllByRecursion (EndsBefore end) (map file_block m.dictionaries.items)
  pub records_end : AllByRecursion (EndsBefore end) (map file_block m.blocks.items)
  pub inside : end ≤ m.size

pub has_end : (m : FileMetadata) (end : ℕ) → last_end m ≡ Ok end → HasEnd m end
has_end m end h =
    let a = goes (only_if (nat_lt 0 (length m.blocks.items)) MissingRecordBatches) (λ _. all_blocks m) end (sym (last_steps m) ∙ h) in
    let b = goes (farthest 0 m.dictionaries.items) (records m) end a.rest in
    let c = goes (farthest b.got m.blocks.items) (ranged m) end b.rest in
    let d = goes (only_if (nat_le c.got m.size) BlockRange) (λ _. Ok c.got) end c.rest in
    let same : c.got ≡ end = same_number c.got end d.rest in
    let far = far_ends b.got m.blocks.items c.got c.first in
    let near : c.got ≤ m.size = leb-true c.got m.size (is_true (nat_le c.got m.size) (OutOfSpec BlockRange) d.got d.first) in
    record {
      dictionaries = far_natural 0 m.dictionaries.items b.got b.first;
      records = far_natural b.got m.blocks.items c.got c.first;
      some = ltb-true 0 (length m.blocks.items) (is_true (nat_lt 0 (length m.blocks.items)) (OutOfSpec MissingRecordBatches) a.got a.first);
      dictionaries_end = ends_further b.got end (map file_block m.dictionaries.items) (omega (arith, same, far.0)) (far_ends 0 m.dictionaries.items b.got b.first).1;
      records_end = subst (λ n. AllByRecursion (EndsBefore n) (map file_block m.blocks.items)) same far.1;
      inside = omega (arith, same, near);
    }
