-- Blocks that are walked one behind another, and what they cost.
use Rattle.std.proofs.Common.{◌≡◌, ℕ, zero, suc, ◌+◌, ◌≤◌, List, [], ◌∷◌, ◌++◌, length, take, Bool, true, false, Option, Some, None, Ok, Err, refl, sym, ap, ◌∙◌, arith}
use Rattle.std.specs.Prelude.{not, ◌&&◌}
use Rattle.arrow_spec.specs.declared.error.IpcError.{IpcError}
use Rattle.arrow_spec.specs.Arrays.{Dictionaries}
use Rattle.arrow_spec.specs.Features.{chosen_floats}
use Rattle.arrow_spec.specs.Files.{Asked, FileBlock, Meta, Purpose, Request, TableBatch, batch_of, batches_of, columns_right, dictionaries_sent, file_reading, to_read, what_is_left}
use Rattle.arrow_spec.specs.Kinds.{width}
use Rattle.arrow_spec.specs.Readings.{◌>>=◌, Reading, bind, free_of, is_absent}
use Rattle.arrow_spec.proofs.Projection.{on, went}
use Rattle.arrow_spec.proofs.ReadPairs.{same_read}
use Rattle.laws_transcode.proofs.Readings.{on_err}
use Rattle.laws_transcode.specs.Files.{asked_of, left_of}
use Rattle.laws_walk.specs.Laws.{WalkIsFile}
use Rattle.laws_walk.specs.Walks.{Walk, asked_by, behind_one, blocks_walked, left_behind, left_read, walk_cost, walk_reading, within}

-- ── readings ──

bind_some : {A B : Type 0} (r : Reading A) (k : Option A → Reading B) → ((r >>= λ x. Ok (Some x)) >>= k) ≡ (r >>= λ x. k (Some x))
unfolding bind
bind_some (Ok x) k = refl
bind_some (Err es) k = refl

bind_same : {A B : Type 0} (r : Reading A) (f g : A → Reading B) → ((x : A) → f x ≡ g x) → (r >>= f) ≡ (r >>= g)
unfolding bind
bind_same (Ok x) f g h = h x
bind_same (Err es) f g h = refl

bind_front : {A B : Type 0} (r s : Reading A) (f : A → Reading B) → r ≡ s → (r >>= f) ≡ (s >>= f)
bind_front r s f h = ap (λ x. x >>= f) h

pub bind_twice : {A B C : Type 0} (r : Reading A) (f : A → Reading B) (g : B → Reading C) → ((r >>= f) >>= g) ≡ (r >>= λ x. f x >>= g)
unfolding bind
bind_twice (Ok x) f g = refl
bind_twice (Err es) f g = refl

bind_ok : {A : Type 0} (r : Reading A) → (r >>= λ x. Ok x) ≡ r
unfolding bind
bind_ok (Ok x) = refl
bind_ok (Err es) = refl

and_true : (b : Bool) → (b && true) ≡ b
and_true true = refl
and_true false = refl

and_false : (b : Bool) → (b && false) ≡ false
and_false true = refl
and_false false = refl

-- ── within a request ──

pub blocks_same : (purpose : Purpose) (b : List ℕ) (r : Request) (a : Asked) (is_first : Bool) (blocks : List FileBlock) (left : Option ℕ) → blocks_walked purpose b (within r) a is_first blocks left ≡ batches_of purpose b a is_first blocks left
unfolding blocks_walked batches_of
blocks_same purpose b r a is_first [] left = refl
blocks_same purpose b r a is_first (block ∷ blocks) left =
    bind_some (batch_of purpose b a block left) _
    ∙ bind_same (batch_of purpose b a block left) _ _ (λ x.
    ap (λ first. dictionaries_sent first purpose a >>= λ sent. blocks_walked purpose b (within r) a (is_first && false) blocks (what_is_left left x.rows) >>= λ others. Ok (x ∷ others)) (and_true is_first)
    ∙ bind_same (dictionaries_sent is_first purpose a) _ _ (λ sent.
    ap (λ first. blocks_walked purpose b (within r) a first blocks (what_is_left left x.rows) >>= λ others. Ok (x ∷ others)) (and_false is_first)
    ∙ ap (λ xs. xs >>= λ others. Ok (x ∷ others)) (blocks_same purpose b r a false blocks (what_is_left left x.rows))))

pub walk_is_file : WalkIsFile
unfolding walk_reading file_reading
walk_is_file purpose b r j =
    bind_same _ _ _ (λ meta. bind_same _ _ _ (λ custom.
    bind_twice (columns_right r.columns (width meta.schema.fields)) (λ right. free_of (chosen_floats r.columns meta.schema.fields 0)) _
    ∙ bind_same _ _ _ (λ right. bind_same _ _ _ (λ floats. bind_same _ _ _ (λ size. bind_same _ _ _ (λ d.
    bind_front _ _ _ (blocks_same purpose b r (asked_of b meta r d) true _ r.limit)))))))

-- each block gives a batch
batches_count : (purpose : Purpose) (b : List ℕ) (a : Asked) (is_first : Bool) (blocks : List FileBlock) (left : Option ℕ) (xs : List TableBatch) → batches_of purpose b a is_first blocks left ≡ Ok xs → length xs ≡ length blocks
unfolding batches_of
batches_count purpose b a is_first [] left xs h = ap length (sym (same_read [] xs h))
batches_count purpose b a is_first (block ∷ blocks) left xs h =
    let one = went (batch_of purpose b a block left) _ xs h in
    let flag = went (dictionaries_sent is_first purpose a) _ xs one.rest in
    let others = went (batches_of purpose b a false blocks (what_is_left left one.got.rows)) _ xs flag.rest in
    ap length (sym (same_read (one.got ∷ others.got) xs others.rest)) ∙ ap suc (batches_count purpose b a false blocks (what_is_left left one.got.rows) others.got others.first)

pub walked_count : (purpose : Purpose) (b : List ℕ) (r : Request) (a : Asked) (blocks : List FileBlock) (left : Option ℕ) (xs : List TableBatch) → blocks_walked purpose b (within r) a true blocks left ≡ Ok xs → length xs ≡ length blocks
walked_count purpose b r a blocks left xs h = batches_count purpose b a true blocks left xs (sym (blocks_same purpose b r a true blocks left) ∙ h)

-- ── batches before a reading of others ──

put_before : List TableBatch → Reading (List TableBatch) → Reading (List TableBatch)
put_before xs (Ok ys) = Ok (xs ++ ys)
put_before xs (Err es) = Err es

before_none : (r : Reading (List TableBatch)) → r ≡ put_before [] r
unfolding put_before
before_none (Ok ys) = refl
before_none (Err es) = refl

before_one : (x : TableBatch) (xs : List TableBatch) (r s : Reading (List TableBatch)) → s ≡ put_before xs r → (s >>= λ others. Ok (x ∷ others)) ≡ put_before (x ∷ xs) r
unfolding put_before
before_one x xs (Ok ys) s h = on s _ _ h
before_one x xs (Err es) s h = on_err s _ es h

before_ok : (xs : List TableBatch) (r : Reading (List TableBatch)) (zs : List TableBatch) → put_before xs r ≡ Ok zs → (ys : List TableBatch) × (r ≡ Ok ys)
unfolding put_before
before_ok xs (Ok ys) zs h = (ys, refl)
before_ok xs (Err es) zs h = cc

-- no batch was given so far
abbrev pub is_first_behind : Bool → List TableBatch → Bool
is_first_behind is_first [] = is_first
is_first_behind is_first (x ∷ xs) = false

never_first : (xs : List TableBatch) → is_first_behind false xs ≡ false
never_first [] = refl
never_first (x ∷ xs) = refl

module _ (purpose : Purpose) (b : List ℕ) (w : Walk) (a : Asked) where
  -- one block before others
  step_behind : (is_first : Bool) (block : FileBlock) (blocks rest : List FileBlock) (left : Option ℕ) (xs ys : List TableBatch) (here : Option TableBatch) (u : Unit {0}) → w.batch purpose b a block left ≡ Ok here
      → dictionaries_sent (is_first && not (is_absent here)) purpose a ≡ Ok u → behind_one here ys ≡ xs
      → blocks_walked purpose b w a (is_first && is_absent here) (blocks ++ rest) (left_behind left here) ≡ put_before ys (blocks_walked purpose b w a (is_first_behind (is_first && is_absent here) ys) rest (left_of (left_behind left here) ys))
      → blocks_walked purpose b w a is_first (block ∷ (blocks ++ rest)) left ≡ put_before xs (blocks_walked purpose b w a (is_first_behind is_first xs) rest (left_of left xs))
  unfolding blocks_walked
  step_behind is_first block blocks rest left xs ys None u first flag is behind =
      on _ _ None first ∙ on _ _ u flag ∙ bind_ok _ ∙ behind
      ∙ ap (λ f. put_before ys (blocks_walked purpose b w a (is_first_behind f ys) rest (left_of left ys))) (and_true is_first)
      ∙ ap (λ zs. put_before zs (blocks_walked purpose b w a (is_first_behind is_first zs) rest (left_of left zs))) is
  step_behind is_first block blocks rest left xs ys (Some x) u first flag is behind =
      let never : is_first_behind (is_first && false) ys ≡ false = ap (λ f. is_first_behind f ys) (and_false is_first) ∙ never_first ys in
      let same : blocks_walked purpose b w a (is_first && false) (blocks ++ rest) (what_is_left left x.rows) ≡ put_before ys (blocks_walked purpose b w a false rest (left_of (what_is_left left x.rows) ys))
      = behind ∙ ap (λ f. put_before ys (blocks_walked purpose b w a f rest (left_of (what_is_left left x.rows) ys))) never in
      on _ _ (Some x) first ∙ on _ _ u flag ∙ before_one x ys _ _ same
      ∙ ap (λ zs. put_before zs (blocks_walked purpose b w a (is_first_behind is_first zs) rest (left_of left zs))) is

  -- blocks behind some that were walked
  blocks_behind : (is_first : Bool) (blocks rest : List FileBlock) (left : Option ℕ) (xs : List TableBatch) → blocks_walked purpose b w a is_first blocks left ≡ Ok xs
      → blocks_walked purpose b w a is_first (blocks ++ rest) left ≡ put_before xs (blocks_walked purpose b w a (is_first_behind is_first xs) rest (left_of left xs))
  unfolding blocks_walked
  blocks_behind is_first [] rest left [] h = before_none _
  blocks_behind is_first [] rest left (x ∷ xs) h = cc
  blocks_behind is_first (block ∷ blocks) rest left xs h =
      let one = went (w.batch purpose b a block left) _ xs h in
      let flag = went (dictionaries_sent (is_first && not (is_absent one.got)) purpose a) _ xs one.rest in
      let others = went (blocks_walked purpose b w a (is_first && is_absent one.got) blocks (left_behind left one.got)) _ xs flag.rest in
      step_behind is_first block blocks rest left xs others.got one.got flag.got one.first flag.first (same_read (behind_one one.got others.got) xs others.rest)
      (blocks_behind (is_first && is_absent one.got) blocks rest (left_behind left one.got) others.got others.first)

  pub none_walked : (is_first : Bool) (left : Option ℕ) → blocks_walked purpose b w a is_first [] left ≡ Ok []
  unfolding blocks_walked
  none_walked is_first left = refl

  module _ (blocks : List FileBlock) (block : FileBlock) (left : Option ℕ) (xs : List TableBatch) (walked : blocks_walked purpose b w a true blocks left ≡ Ok xs) where
    -- one block more; with the first batch the dictionaries may be sent
    pub block_more : (here : Option TableBatch) → w.batch purpose b a block (left_of left xs) ≡ Ok here → dictionaries_sent (is_first_behind true xs && not (is_absent here)) purpose a ≡ Ok tt
        → blocks_walked purpose b w a true (blocks ++ block ∷ []) left ≡ Ok (xs ++ behind_one here [])
    unfolding blocks_walked put_before
    block_more here is fits =
        let last : blocks_walked purpose b w a (is_first_behind true xs) (block ∷ []) (left_of left xs) ≡ Ok (behind_one here []) = on _ _ here is ∙ on _ _ tt fits ∙ on _ _ [] refl in
        blocks_behind true blocks (block ∷ []) left xs walked ∙ ap (put_before xs) last

    -- a block that is refused behind them
    pub block_refused : (rest : List FileBlock) (es : List IpcError) → w.batch purpose b a block (left_of left xs) ≡ Err es → blocks_walked purpose b w a true (blocks ++ block ∷ rest) left ≡ Err es
    unfolding blocks_walked put_before
    block_refused rest es is =
        let here : blocks_walked purpose b w a (is_first_behind true xs) (block ∷ rest) (left_of left xs) ≡ Err es = on_err _ _ es is in
        blocks_behind true blocks (block ∷ rest) left xs walked ∙ ap (put_before xs) here

    -- dictionaries that are refused with its batch
    pub dictionaries_refused : (rest : List FileBlock) (here : Option TableBatch) (es : List IpcError) → w.batch purpose b a block (left_of left xs) ≡ Ok here → dictionaries_sent (is_first_behind true xs && not (is_absent here)) purpose a ≡ Err es
        → blocks_walked purpose b w a true (blocks ++ block ∷ rest) left ≡ Err es
    unfolding blocks_walked put_before
    dictionaries_refused rest here es is refused =
        let here : blocks_walked purpose b w a (is_first_behind true xs) (block ∷ rest) (left_of left xs) ≡ Err es = on _ _ here is ∙ on_err _ _ es refused in
        blocks_behind true blocks (block ∷ rest) left xs walked ∙ ap (put_before xs) here

    -- where all blocks can be walked, so can one of them
    pub block_walks : (rest : List FileBlock) (zs : List TableBatch) → blocks_walked purpose b w a true (blocks ++ block ∷ rest) left ≡ Ok zs → (here : Option TableBatch) × (w.batch purpose b a block (left_of left xs) ≡ Ok here)
    unfolding blocks_walked
    block_walks rest zs all =
        let others = before_ok xs (blocks_walked purpose b w a (is_first_behind true xs) (block ∷ rest) (left_of left xs)) zs (sym (blocks_behind true blocks (block ∷ rest) left xs walked) ∙ all) in
        let one = went (w.batch purpose b a block (left_of left xs)) _ others.0 others.1 in
        (one.got, one.first)

-- ── what they cost ──

module _ (b : List ℕ) (meta : Meta) (w : Walk) (d : Dictionaries) where
  -- one block more costs as much more
  pub cost_more : (is_first : Bool) (blocks : List FileBlock) (block : FileBlock) (left : Option ℕ) (xs : List TableBatch) → blocks_walked to_read b w (asked_by b meta w d) is_first blocks left ≡ Ok xs
      → walk_cost b meta w d (blocks ++ block ∷ []) left ≡ walk_cost b meta w d blocks left + w.cost b meta d block (left_of left xs)
  unfolding blocks_walked
  cost_more is_first [] block left xs h = let none : left_of left xs ≡ left = ap (left_of left) (sym (same_read [] xs h)) in let same : w.cost b meta d block (left_of left xs) ≡ w.cost b meta d block left = ap (w.cost b meta d block) none in omega (arith, same)
  cost_more is_first (k ∷ ks) block left xs h =
      let a = asked_by b meta w d in
      let one = went (w.batch to_read b a k left) _ xs h in
      let flag = went (dictionaries_sent (is_first && not (is_absent one.got)) to_read a) _ xs one.rest in
      let others = went (blocks_walked to_read b w a (is_first && is_absent one.got) ks (left_behind left one.got)) _ xs flag.rest in
      with k ks block left xs one.got others.got one.first (same_read (behind_one one.got others.got) xs others.rest) (cost_more (is_first && is_absent one.got) ks block (left_behind left one.got) others.got others.first)
    where
      with : (k : FileBlock) (ks : List FileBlock) (block : FileBlock) (left : Option ℕ) (xs : List TableBatch) (here : Option TableBatch) (ys : List TableBatch) → w.batch to_read b (asked_by b meta w d) k left ≡ Ok here → behind_one here ys ≡ xs
          → walk_cost b meta w d (ks ++ block ∷ []) (left_behind left here) ≡ walk_cost b meta w d ks (left_behind left here) + w.cost b meta d block (left_of (left_behind left here) ys)
          → walk_cost b meta w d (k ∷ (ks ++ block ∷ [])) left ≡ walk_cost b meta w d (k ∷ ks) left + w.cost b meta d block (left_of left xs)
      with k ks block left xs None ys read is more = rw (read, sym is) (omega (arith, more))
      with k ks block left xs (Some x) ys read is more = rw (read, sym is) (omega (arith, more))

  -- some of them cost no more than all
  pub cost_less : (blocks : List FileBlock) (i : ℕ) (left : Option ℕ) → walk_cost b meta w d (take i blocks) left ≤ walk_cost b meta w d blocks left
  cost_less [] zero left = omega arith
  cost_less [] (suc i) left = omega arith
  cost_less (k ∷ ks) zero left = omega arith
  cost_less (k ∷ ks) (suc i) left = omega (arith, cost_less ks i (left_read left (w.batch to_read b (asked_by b meta w d) k left)))
