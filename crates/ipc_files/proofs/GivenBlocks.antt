-- Blocks by the numbers that a caller gives.
use Rattle.std.proofs.Common.{◌≡◌, ℕ, zero, suc, List, [], ◌∷◌, Option, Some, None, Result, Ok, Err, ℤ, pos, negsuc, refl, sym, ap, ◌∙◌, subst, map}
use Rattle.std.proofs.lemmas.List.Elements.{All-head, All-tail}
use Rattle.std.specs.Prelude.{All, slice_get}
use Rattle.arrow_spec.specs.declared.error.IpcError.{IpcError}
use Rattle.arrow_spec.specs.declared.message.Block.{Block}
use Rattle.arrow_spec.specs.Counts.{magnitude}
use Rattle.arrow_spec.specs.Readings.{Gives, Reading, Refuses, bind, natural, refusals}
use Rattle.arrow_spec.specs.Files.{FileBlock}
use Rattle.arrow_spec.proofs.Projection.{on, went}
use Rattle.ipc_schema.specs.Footers.{IsNatural}
use Rattle.ipc_files.specs.FileBlocks.{GivesIn, block_by, file_block, given}
use Rattle.ipc_files.specs.RowCounts.{numbers_of}
use Rattle.ipc_files.proofs.Errors.{none_refused}

-- ── numbers that are not negative ──

natural_is : (z : ℤ) (n : ℕ) → natural z ≡ Ok n → n ≡ magnitude z
natural_is (pos m) n h = cc
natural_is (negsuc m) n h = cc

-- so the block is one of a file
pub numbers_given : (x : Block) (o m n : ℕ) → natural x.offset ≡ Ok o → natural x.meta_data_length ≡ Ok m → natural x.body_length ≡ Ok n → block_by x ≡ Ok (file_block x)
numbers_given x o m n f g h =
    let a : o ≡ magnitude x.offset = natural_is x.offset o f in
    let b : m ≡ magnitude x.meta_data_length = natural_is x.meta_data_length m g in
    let c : n ≡ magnitude x.body_length = natural_is x.body_length n h in
    on (natural x.offset) _ o f ∙ on (natural x.meta_data_length) _ m g ∙ on (natural x.body_length) _ n h ∙ rw (a, b, c) refl

once : {A : Type 0} (x y : A) (r : Reading A) → r ≡ Ok x → r ≡ Ok y → x ≡ y
once x y r h k = cc

pub found_given : (x : Block) (y : FileBlock) → block_by x ≡ Ok y → y ≡ file_block x
found_given x y h =
    let a = went (natural x.offset) _ y h in
    let b = went (natural x.meta_data_length) _ y a.rest in
    let c = went (natural x.body_length) _ y b.rest in
    once y (file_block x) (block_by x) h (numbers_given x a.got b.got c.got a.first b.first c.first)

natural_numbers : (z : ℤ) → z ≡ pos (magnitude z) → natural z ≡ Ok (magnitude z)
natural_numbers (pos n) h = refl
natural_numbers (negsuc n) h = cc

pub natural_given : (x : Block) → IsNatural x → block_by x ≡ Ok (file_block x)
natural_given x h = numbers_given x _ _ _ (natural_numbers x.offset h.offset) (natural_numbers x.meta_data_length h.metadata) (natural_numbers x.body_length h.body)

-- the numbers of the block that they are
numbers : ℤ → ℤ → ℤ → Block
numbers offset metadata body = record { offset = offset; meta_data_length = metadata; body_length = body }

pub numbers_back : (x : Block) → IsNatural x → numbers_of (file_block x) ≡ x
unfolding numbers
numbers_back x h =
    ap (λ z. numbers z (pos (magnitude x.meta_data_length)) (pos (magnitude x.body_length))) (sym h.offset)
    ∙ ap (λ z. numbers x.offset z (pos (magnitude x.body_length))) (sym h.metadata)
    ∙ ap (λ z. numbers x.offset x.meta_data_length z) (sym h.body)

pub each_back : (xs : List Block) → All IsNatural xs → map numbers_of (map file_block xs) ≡ xs
each_back [] h = refl
each_back (x ∷ xs) h =
    ap (λ y. y ∷ map numbers_of (map file_block xs)) (numbers_back x (All-head IsNatural x xs h)) ∙ ap (λ ys. x ∷ ys) (each_back xs (All-tail IsNatural x xs h))

-- the block that is given where one of a file stands
pub record GivenAt (xs : List Block) (i : ℕ) (block : FileBlock) : Type 0 where
  pub given : Block
  pub at : slice_get xs i ≡ Some given
  pub is : block_by given ≡ Ok block

pub natural_at : (xs : List Block) (i : ℕ) (block : FileBlock) → All IsNatural xs → slice_get (map file_block xs) i ≡ Some block → GivenAt xs i block
natural_at [] i block h at = cc
natural_at (x ∷ xs) zero block h at =
    let same : file_block x ≡ block = cc in
    record { given = x; at = refl; is = natural_given x (All-head IsNatural x xs h) ∙ ap Ok same }
natural_at (x ∷ xs) (suc i) block h at = let there = natural_at xs i block (All-tail IsNatural x xs h) at in record { given = there.given; at = there.at; is = there.is }

-- a block of a file, as one that is given
pub of_file : (block : FileBlock) → block_by (numbers_of block) ≡ Ok (file_block (numbers_of block))
of_file block = numbers_given (numbers_of block) block.offset block.metadata block.body refl refl refl

-- ── what is read of them ──

pub given_is : {A : Type 0} (x : Block) (f : FileBlock → Reading A) → block_by x ≡ Ok (file_block x) → given x f ≡ f (file_block x)
given_is x f h = on (block_by x) f (file_block x) h

-- where something is read no number is negative
pub record Reads {A : Type 0} (x : Block) (f : FileBlock → Reading A) (z : A) : Type 0 where
  pub is : block_by x ≡ Ok (file_block x)
  pub read : f (file_block x) ≡ Ok z

pub given_reads : {A : Type 0} (x : Block) (f : FileBlock → Reading A) (z : A) → given x f ≡ Ok z → Reads x f z
given_reads x f z h =
    let w = went (block_by x) f z h in
    let same : w.got ≡ file_block x = found_given x w.got w.first in
    record { is = subst (λ y. block_by x ≡ Ok y) same w.first; read = subst (λ y. f y ≡ Ok z) same w.rest }

pub given_more : {A B : Type 0} (x : Block) (f : FileBlock → Reading A) (g : A → Reading B) → given x (λ y. bind (f y) g) ≡ bind (given x f) g
unfolding bind
given_more x f g = by (block_by x)
  where
    by : (r : Reading FileBlock) → bind r (λ y. bind (f y) g) ≡ bind (bind r f) g
    by (Ok y) = refl
    by (Err es) = refl

-- what refuses one reading of a block refuses another
pub given_refuses : {A B : Type 0} (x : Block) (f : FileBlock → Reading A) (g : FileBlock → Reading B) (e : IpcError) → ((y : FileBlock) → Refuses e (refusals (f y)) → Refuses e (refusals (g y))) → Refuses e (refusals (given x f)) → Refuses e (refusals (given x g))
unfolding bind
given_refuses x f g e k = by (block_by x)
  where
    by : (r : Reading FileBlock) → Refuses e (refusals (bind r f)) → Refuses e (refusals (bind r g))
    by (Ok y) h = k y h
    by (Err es) h = h

-- ── where bytes are told ──

pub told_given : {X Y : Type 0} (content : Option (List ℕ)) (view : X → Y) (r : Result X IpcError) (x : Block) (f : List ℕ → FileBlock → Reading Y) → block_by x ≡ Ok (file_block x) → GivesIn content view r (λ b. f b (file_block x)) → GivesIn content view r (λ b. given x (f b))
told_given None view r x f is h = tt
told_given (Some b) view r x f is h = subst (Gives view r) (sym (given_is x (f b) is)) h

pub told_more : {A X Y : Type 0} (content : Option (List ℕ)) (view : X → Y) (r : Result X IpcError) (x : Block) (f : List ℕ → FileBlock → Reading A) (g : A → Reading Y) → GivesIn content view r (λ b. bind (given x (f b)) g) → GivesIn content view r (λ b. given x (λ y. bind (f b y) g))
told_more None view r x f g h = tt
told_more (Some b) view r x f g h = subst (Gives view r) (sym (given_more x (f b) g)) h

-- a number that is refused
first_refused : {A B : Type 0} (e : IpcError) (r : Reading A) (f : A → Reading B) → Refuses e (refusals r) → Refuses e (refusals (bind r f))
unfolding bind
first_refused e (Ok x) f h = none_refused e (refusals (f x)) h
first_refused e (Err es) f h = h

pub offset_refused : (x : Block) (e : IpcError) → Refuses e (refusals (natural x.offset)) → Refuses e (refusals (block_by x))
offset_refused x e h = first_refused e (natural x.offset) _ h

pub metadata_refused : (x : Block) (o : ℕ) (e : IpcError) → natural x.offset ≡ Ok o → Refuses e (refusals (natural x.meta_data_length)) → Refuses e (refusals (block_by x))
metadata_refused x o e f h = subst (λ r. Refuses e (refusals r)) (sym (on (natural x.offset) _ o f)) (first_refused e (natural x.meta_data_length) _ h)

pub body_refused : (x : Block) (o m : ℕ) (e : IpcError) → natural x.offset ≡ Ok o → natural x.meta_data_length ≡ Ok m → Refuses e (refusals (natural x.body_length)) → Refuses e (refusals (block_by x))
body_refused x o m e f g h =
    subst (λ r. Refuses e (refusals r)) (sym (on (natural x.offset) _ o f ∙ on (natural x.meta_data_length) _ m g)) (first_refused e (natural x.body_length) _ h)

pub negative_in : {X Y : Type 0} (content : Option (List ℕ)) (view : X → Y) (r : Result X IpcError) (x : Block) (f : List ℕ → FileBlock → Reading Y) (e : IpcError) → r ≡ Err e → Refuses e (refusals (block_by x)) → GivesIn content view r (λ b. given x (f b))
negative_in None view r x f e is h = tt
negative_in (Some b) view r x f e is h = subst (λ q. Gives view q (given x (f b))) (sym is) (first_refused e (block_by x) (f b) h)
