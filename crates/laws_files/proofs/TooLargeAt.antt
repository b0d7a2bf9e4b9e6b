-- What refuses a file that is to be sent refuses it where it is read, or is a message that may not be sent.
use Rattle.std.proofs.Common.{◌≡◌, ◌⊎◌, inl, inr, ℕ, zero, suc, List, [], ◌∷◌, length, take, Option, Some, None, Bool, true, false, Ok, Err, refl, sym, ◌∙◌, ap, min, arith}
use Rattle.arrow_spec.specs.declared.error.IpcError.{IpcError}
use Rattle.arrow_spec.specs.declared.error.IpcError.TheVariants.{TooLarge}
use Rattle.arrow_spec.specs.declared.message.MetadataVersion.{MetadataVersion}
use Rattle.arrow_spec.specs.Readings.{bind, ◌>>=◌, Reading, free_of}
use Rattle.arrow_spec.specs.Kinds.{Metadata, bare, width}
use Rattle.arrow_spec.specs.Messages.{BatchHeader}
use Rattle.arrow_spec.specs.Arrays.{Dictionaries}
use Rattle.arrow_spec.specs.Features.{chosen_floats}
use Rattle.arrow_spec.specs.Sent.{may_be_sent, stream_schema}
use Rattle.arrow_spec.specs.Files.{ArrowTable, Asked, FileBlock, Meta, Purpose, Request, TableBatch, batch_of, batch_of_tables, batches_of, columns_right, custom_of, dictionaries_of, dictionaries_read, dictionaries_sent, fields_as_asked, file_reading, if_sent, meta_of, taken, to_read, to_send, what_is_left}
use Rattle.arrow_spec.proofs.Projection.{on, nothing, no_dictionaries_sent}
use Rattle.arrow_spec.proofs.SentMessages.{on_err}
use Rattle.laws_files.specs.FileLaws.{IsTooLargeAt, RefusedAsReadOrTooLarge}
use Rattle.laws_files.proofs.TooLarge.{block_sent, sends, sends_too_large, sends_whole, too_large_where_a_message_is}

-- ── refusals of readings in turn ──

-- one that is refused before others
refused : {A B C : Type 0} (r : Reading A) (f : A → Reading B) (g : A → Reading C) (es : List IpcError) → (r >>= f) ≡ Err es → ((x : A) → f x ≡ Err es → g x ≡ Err es) → (r >>= g) ≡ Err es
unfolding bind
refused (Ok x) f g es h k = k x h
refused (Err e) f g es h k = let same : e ≡ es = cc in ap Err same

-- what is refused is refused at its first part, as another reading is, or behind it
walk : {A B P : Type 0} (r : Reading A) (f g : A → Reading B) (es : List IpcError) → (r >>= f) ≡ Err es → ((r >>= g) ≡ Err es → P) → ((x : A) → r ≡ Ok x → f x ≡ Err es → (g x ≡ Err es → P) → P) → P
unfolding bind
walk (Ok x) f g es h lift k = k x refl h lift
walk (Err e) f g es h lift k = lift h

ended : {A B : Type 0} (r : Reading A) (f : A → B) (es : List IpcError) → (r >>= λ x. Ok (f x)) ≡ Err es → r ≡ Err es
unfolding bind
ended (Ok x) f es h = cc
ended (Err e) f es h = let same : e ≡ es = cc in ap Err same

never : (x : TableBatch) (es : List IpcError) → (nothing >>= λ size. Ok x) ≡ Err es → ⊥
unfolding bind
never x es h = cc

abbrev refusal : List IpcError → Reading (Unit {0})
refusal es = Err es

same_refusals : (d e : List IpcError) → refusal d ≡ refusal e → d ≡ e
same_refusals d e h = cc

err_same : {A : Type 0} (r : Reading A) (d e : List IpcError) → r ≡ Err d → r ≡ Err e → d ≡ e
err_same r d e h k = cc

size_walk : {B P : Type 0} (p : Bool) (f : Unit {0} → Reading B) (es : List IpcError) → (if_sent to_send p >>= f) ≡ Err es → (p ≡ false → es ≡ TooLarge ∷ [] → P) → (p ≡ true → f tt ≡ Err es → P) → P
unfolding bind
size_walk true f es h if_large if_fits = if_fits refl h
size_walk false f es h if_large if_fits = if_large refl (let e : es ≡ TooLarge ∷ [] = cc in e)

size_refused : (p : Bool) (es : List IpcError) → if_sent to_send p ≡ Err es → es ≡ TooLarge ∷ []
size_refused true es h = cc
size_refused false es h = cc

dictionaries_refused : (is_first : Bool) (a : Asked) (es : List IpcError) → dictionaries_sent is_first to_send a ≡ Err es → es ≡ TooLarge ∷ []
dictionaries_refused true a es h = size_refused _ es h
dictionaries_refused false a es h = cc

-- ── blocks ──

tables_refused : (a : Asked) (v : MetadataVersion) (custom : Metadata) (tables : BatchHeader) (body : List ℕ) (left : Option ℕ) (es : List IpcError) → batch_of_tables to_read a v custom tables body left ≡ Err es → batch_of_tables to_send a v custom tables body left ≡ Err es
unfolding batch_of_tables
tables_refused a v custom tables body left es h =
    refused _ _ _ es h λ u h1. refused _ _ _ es h1 λ rows h2. refused _ _ _ es h2 λ u' h3. refused _ _ _ es h3 λ u'' h4. refused _ _ _ es h4 λ columns h5. absurd (never _ es h5)

-- a block that is refused where it is read is refused so where it is sent
block_refused : (b : List ℕ) (a : Asked) (block : FileBlock) (left : Option ℕ) (es : List IpcError) → batch_of to_read b a block left ≡ Err es → batch_of to_send b a block left ≡ Err es
unfolding batch_of
block_refused b a block left es h =
    refused _ _ _ es h λ m h1. refused _ _ _ es h1 λ tables h2. refused _ _ _ es h2 λ version h3. refused _ _ _ es h3 λ custom h4. tables_refused a version custom tables _ left es h4

-- some first blocks that are read and, where they are sent, too large
record LargeAt (b : List ℕ) (a : Asked) (is_first : Bool) (blocks : List FileBlock) (left : Option ℕ) : Type 0 where
  before : ℕ
  batches : List TableBatch
  are_read : batches_of to_read b a is_first (take (suc before) blocks) left ≡ Ok batches
  are_large : batches_of to_send b a is_first (take (suc before) blocks) left ≡ Err (TooLarge ∷ [])

-- why blocks are refused that are to be sent
data Stops (b : List ℕ) (a : Asked) (is_first : Bool) (blocks : List FileBlock) (left : Option ℕ) (es : List IpcError) : Type 0 where
  as_read : batches_of to_read b a is_first blocks left ≡ Err es → Stops b a is_first blocks left es
  large : es ≡ TooLarge ∷ [] → LargeAt b a is_first blocks left → Stops b a is_first blocks left es

-- the first block is too large, or the dictionaries with it
large_first : (b : List ℕ) (a : Asked) (is_first : Bool) (block : FileBlock) (blocks : List FileBlock) (left : Option ℕ) (x : TableBatch) → batch_of to_read b a block left ≡ Ok x → batches_of to_send b a is_first (block ∷ []) left ≡ Err (TooLarge ∷ []) → LargeAt b a is_first (block ∷ blocks) left
unfolding batches_of
large_first b a is_first block blocks left x is h = record { before = 0; batches = x ∷ []; are_read = on _ _ x is ∙ on _ _ tt (no_dictionaries_sent is_first a) ∙ on _ _ [] refl; are_large = h }

-- the rest stops, behind a first block that is sent
behind_first : (b : List ℕ) (a : Asked) (is_first : Bool) (block : FileBlock) (blocks : List FileBlock) (left : Option ℕ) (es : List IpcError) (x : TableBatch) (u : Unit {0}) → batch_of to_read b a block left ≡ Ok x → batch_of to_send b a block left ≡ Ok x → dictionaries_sent is_first to_send a ≡ Ok u
    → Stops b a false blocks (what_is_left left x.rows) es → Stops b a is_first (block ∷ blocks) left es
unfolding batches_of
behind_first b a is_first block blocks left es x u is sent dictionaries (as_read h) = as_read (on _ _ x is ∙ on _ _ tt (no_dictionaries_sent is_first a) ∙ on_err _ _ es h)
behind_first b a is_first block blocks left es x u is sent dictionaries (large e l) = large e (record {
  before = suc l.before;
  batches = x ∷ l.batches;
  are_read = on _ _ x is ∙ on _ _ tt (no_dictionaries_sent is_first a) ∙ on _ _ l.batches l.are_read;
  are_large = on _ _ x sent ∙ on _ _ u dictionaries ∙ on_err _ _ (TooLarge ∷ []) l.are_large;
})

abbrev Rest : List ℕ → Asked → List FileBlock → List IpcError → Type 0
Rest b a blocks es = (left : Option ℕ) → batches_of to_send b a false blocks left ≡ Err es → Stops b a false blocks left es

by_dictionaries : (b : List ℕ) (a : Asked) (is_first : Bool) (block : FileBlock) (blocks : List FileBlock) (left : Option ℕ) (es : List IpcError) (x : TableBatch) → Rest b a blocks es → batch_of to_read b a block left ≡ Ok x → batch_of to_send b a block left ≡ Ok x
    → batches_of to_send b a is_first (block ∷ blocks) left ≡ Err es → (r : Reading (Unit {0})) → dictionaries_sent is_first to_send a ≡ r → Stops b a is_first (block ∷ blocks) left es
unfolding batches_of
by_dictionaries b a is_first block blocks left es x rest is sent h (Ok u) found =
    let behind = sym (on _ _ u found) ∙ sym (on _ _ x sent) ∙ h in
    behind_first b a is_first block blocks left es x u is sent found (rest (what_is_left left x.rows) (ended _ (λ xs. x ∷ xs) es behind))
by_dictionaries b a is_first block blocks left es x rest is sent h (Err e) found =
    let too_large : e ≡ TooLarge ∷ [] = dictionaries_refused is_first a e found in
    let whole : batches_of to_send b a is_first (block ∷ blocks) left ≡ Err e = on _ _ x sent ∙ on_err _ _ e found in
    large (err_same _ es e h whole ∙ too_large) (large_first b a is_first block blocks left x is (on _ _ x sent ∙ on_err _ _ e found ∙ ap Err too_large))

by_size : (b : List ℕ) (a : Asked) (is_first : Bool) (block : FileBlock) (blocks : List FileBlock) (left : Option ℕ) (es : List IpcError) (x : TableBatch) → Rest b a blocks es → batch_of to_read b a block left ≡ Ok x
    → batches_of to_send b a is_first (block ∷ blocks) left ≡ Err es → (p : Bool) → batch_of to_send b a block left ≡ sends p x → Stops b a is_first (block ∷ blocks) left es
unfolding batches_of
by_size b a is_first block blocks left es x rest is h true whole = by_dictionaries b a is_first block blocks left es x rest is (whole ∙ sends_whole true x refl) h (dictionaries_sent is_first to_send a) refl
by_size b a is_first block blocks left es x rest is h false whole =
    let first = whole ∙ sends_too_large false x refl in
    large (err_same _ es (TooLarge ∷ []) h (on_err _ _ (TooLarge ∷ []) first)) (large_first b a is_first block blocks left x is (on_err _ _ (TooLarge ∷ []) first))

by_first : (b : List ℕ) (a : Asked) (is_first : Bool) (block : FileBlock) (blocks : List FileBlock) (left : Option ℕ) (es : List IpcError) → Rest b a blocks es → batches_of to_send b a is_first (block ∷ blocks) left ≡ Err es
    → (r : Reading TableBatch) → batch_of to_read b a block left ≡ r → Stops b a is_first (block ∷ blocks) left es
unfolding batches_of
by_first b a is_first block blocks left es rest h (Ok x) is = let mine = block_sent b a block left x is in by_size b a is_first block blocks left es x rest is h (may_be_sent mine.message) mine.whole
by_first b a is_first block blocks left es rest h (Err e) is =
    let sent : batches_of to_send b a is_first (block ∷ blocks) left ≡ Err e = on_err _ _ e (block_refused b a block left e is) in
    as_read (on_err _ _ e is ∙ sym sent ∙ h)

stops : (b : List ℕ) (a : Asked) (is_first : Bool) (blocks : List FileBlock) (left : Option ℕ) (es : List IpcError) → batches_of to_send b a is_first blocks left ≡ Err es → Stops b a is_first blocks left es
unfolding batches_of
stops b a is_first [] left es h = cc
stops b a is_first (block ∷ blocks) left es h = by_first b a is_first block blocks left es (λ rest k. stops b a false blocks rest es k) h (batch_of to_read b a block left) refl

-- ── the file ──

abbrev no_blocks : List FileBlock
no_blocks = []

take_twice : (i j : ℕ) (xs : List FileBlock) → take i (take j xs) ≡ take (min i j) xs
take_twice zero j xs = ap (λ n. take n xs) (let e : 0 ≡ min 0 j = omega arith in e)
take_twice (suc i) zero xs = ap (λ n. take n xs) (let e : 0 ≡ min (suc i) 0 = omega arith in e)
take_twice (suc i) (suc j) [] = ap (λ n. take n no_blocks) (let e : suc (min i j) ≡ min (suc i) (suc j) = omega arith in e)
take_twice (suc i) (suc j) (x ∷ xs) = ap (λ ys. x ∷ ys) (take_twice i j xs) ∙ ap (λ n. take n (x ∷ xs)) (let e : suc (min i j) ≡ min (suc i) (suc j) = omega arith in e)

-- so many blocks, but no more than there are to be
abbrev at_most : ℕ → Option ℕ → ℕ
at_most i None = i
at_most i (Some j) = min i j

taken_first : (i : ℕ) (j : Option ℕ) (xs : List FileBlock) → taken (Some (at_most i j)) xs ≡ take i (taken j xs)
taken_first i None xs = refl
taken_first i (Some j) xs = sym (take_twice i j xs)

same_dictionaries : (n : ℕ) (blocks dictionaries : List FileBlock) → dictionaries_read (take (suc n) blocks) dictionaries ≡ dictionaries_read blocks dictionaries
same_dictionaries n [] dictionaries = refl
same_dictionaries n (block ∷ blocks) dictionaries = refl

unsent : {A : Type 0} (p : Bool) (r : Reading A) (t : A) (es : List IpcError) → (p ≡ true → r ≡ Ok t) → r ≡ Err es → p ≡ false
unsent true r t es k h = let e = k refl in cc
unsent false r t es k h = refl

too_large_at : (b : List ℕ) (r : Request) (i : ℕ) (t : ArrowTable) → file_reading to_read b r (Some i) ≡ Ok t → file_reading to_send b r (Some i) ≡ Err (TooLarge ∷ []) → IsTooLargeAt b r
too_large_at b r i t read refused =
    let s = too_large_where_a_message_is b r (Some i) t read in
    record { blocks = i; table = t; messages = s.messages; read = read; are_sent = s.are_sent; large = unsent _ _ t (TooLarge ∷ []) s.whole refused }

-- what a file's footer and the columns asked for are, where they are read
record Head (b : List ℕ) (r : Request) : Type 0 where
  meta : Meta
  custom : Metadata
  meta_is : meta_of b ≡ Ok meta
  custom_is : custom_of b ≡ Ok custom
  columns : columns_right r.columns (width meta.schema.fields) ≡ Ok tt
  floats : free_of (chosen_floats r.columns meta.schema.fields 0) ≡ Ok tt

abbrev fits_schema : List ℕ → Request → Meta → Metadata → Bool
fits_schema b r meta custom = may_be_sent (stream_schema (fields_as_asked r.columns meta.schema.fields) meta.schema.metadata custom)

abbrev asked_of : List ℕ → Request → Meta → Dictionaries → Asked
asked_of b r meta d = record { order = meta.schema.order; fields = meta.schema.fields; columns = r.columns; dictionaries = d; most = length b }

abbrev table_of : Request → Meta → Metadata → List TableBatch → ArrowTable
table_of r meta custom xs = record { metadata = meta.schema.metadata; custom = custom; fields = bare (fields_as_asked r.columns meta.schema.fields); batches = xs }

-- what is read behind the schema
abbrev behind : Purpose → List ℕ → Request → Option ℕ → Meta → Metadata → Reading ArrowTable
behind purpose b r j meta custom = dictionaries_of b meta [] (dictionaries_read (taken j meta.blocks) meta.dictionaries)
    >>= λ d. batches_of purpose b (asked_of b r meta d) true (taken j meta.blocks) r.limit >>= λ batches. Ok (table_of r meta custom batches)

read_is : (b : List ℕ) (r : Request) (j : Option ℕ) (head : Head b r) → file_reading to_read b r j ≡ behind to_read b r j head.meta head.custom
unfolding file_reading
read_is b r j head = on _ _ _ head.meta_is ∙ on _ _ _ head.custom_is ∙ on _ _ tt head.columns ∙ on _ _ tt head.floats ∙ on _ _ tt refl

send_is : (b : List ℕ) (r : Request) (j : Option ℕ) (head : Head b r) → file_reading to_send b r j ≡ (if_sent to_send (fits_schema b r head.meta head.custom) >>= λ size. behind to_send b r j head.meta head.custom)
unfolding file_reading
send_is b r j head = on _ _ _ head.meta_is ∙ on _ _ _ head.custom_is ∙ on _ _ tt head.columns ∙ on _ _ tt head.floats

-- the schema alone is too large
large_schema : (b : List ℕ) (r : Request) (head : Head b r) → fits_schema b r head.meta head.custom ≡ false → IsTooLargeAt b r
unfolding dictionaries_of batches_of
large_schema b r head is = too_large_at b r 0 (table_of r head.meta head.custom [])
    (read_is b r (Some 0) head ∙ on _ _ [] refl ∙ on _ _ [] refl)
    (send_is b r (Some 0) head ∙ on_err _ _ (TooLarge ∷ []) (ap (λ p. if_sent to_send p) is))

-- the blocks behind a schema that may be sent
abbrev Refusal : List ℕ → Request → Option ℕ → List IpcError → Type 0
Refusal b r j es = (file_reading to_read b r j ≡ Err es) ⊎ ((es ≡ TooLarge ∷ []) × IsTooLargeAt b r)

blocks_stop : (b : List ℕ) (r : Request) (j : Option ℕ) (es : List IpcError) (head : Head b r) (d : Dictionaries) → fits_schema b r head.meta head.custom ≡ true → dictionaries_of b head.meta [] (dictionaries_read (taken j head.meta.blocks) head.meta.dictionaries) ≡ Ok d
    → Stops b (asked_of b r head.meta d) true (taken j head.meta.blocks) r.limit es → Refusal b r j es
blocks_stop b r j es head d fits found (as_read h) = inl (read_is b r j head ∙ on _ _ d found ∙ on_err _ _ es h)
blocks_stop b r j es head d fits found (large e l) =
    let i = at_most (suc l.before) j in
    let first : taken (Some i) head.meta.blocks ≡ take (suc l.before) (taken j head.meta.blocks) = taken_first (suc l.before) j head.meta.blocks in
    let found' : dictionaries_of b head.meta [] (dictionaries_read (taken (Some i) head.meta.blocks) head.meta.dictionaries) ≡ Ok d
    = ap (λ bs. dictionaries_of b head.meta [] (dictionaries_read bs head.meta.dictionaries)) first ∙ ap (λ bs. dictionaries_of b head.meta [] bs) (same_dictionaries l.before (taken j head.meta.blocks) head.meta.dictionaries) ∙ found in
    let read' : batches_of to_read b (asked_of b r head.meta d) true (taken (Some i) head.meta.blocks) r.limit ≡ Ok l.batches
    = ap (λ bs. batches_of to_read b (asked_of b r head.meta d) true bs r.limit) first ∙ l.are_read in
    let large' : batches_of to_send b (asked_of b r head.meta d) true (taken (Some i) head.meta.blocks) r.limit ≡ Err (TooLarge ∷ [])
    = ap (λ bs. batches_of to_send b (asked_of b r head.meta d) true bs r.limit) first ∙ l.are_large in
    inr (
      e,
      too_large_at b r i (table_of r head.meta head.custom l.batches)
          (read_is b r (Some i) head ∙ on _ _ d found' ∙ on _ _ l.batches read')
          (send_is b r (Some i) head ∙ on _ _ tt (ap (λ p. if_sent to_send p) fits) ∙ on _ _ d found' ∙ on_err _ _ (TooLarge ∷ []) large'),
    )

behind_stops : (b : List ℕ) (r : Request) (j : Option ℕ) (es : List IpcError) (head : Head b r) → fits_schema b r head.meta head.custom ≡ true → behind to_send b r j head.meta head.custom ≡ Err es → Refusal b r j es
behind_stops b r j es head fits h =
    let meta = head.meta in
    walk (dictionaries_of b meta [] (dictionaries_read (taken j meta.blocks) meta.dictionaries)) _ (λ d. batches_of to_read b (asked_of b r meta d) true (taken j meta.blocks) r.limit >>= λ batches. Ok (table_of r meta head.custom batches)) es h (λ e. inl (read_is b r j head ∙ e))
    λ d d_is h2 l2. blocks_stop b r j es head d fits d_is (stops b (asked_of b r meta d) true (taken j meta.blocks) r.limit es (ended _ (λ batches. table_of r meta head.custom batches) es h2))

pub refused_as_read_or_too_large : RefusedAsReadOrTooLarge
unfolding file_reading
refused_as_read_or_too_large b r j es h =
    walk (meta_of b) _ _ es h (λ e. inl e)
    λ meta meta_is h2 l2. walk (custom_of b) _ _ es h2 l2
    λ custom custom_is h3 l3. walk (columns_right r.columns (width meta.schema.fields)) _ _ es h3 l3
    λ columns columns_is h4 l4. walk (free_of (chosen_floats r.columns meta.schema.fields 0)) _ _ es h4 l4
    λ floats floats_is h5 l5.
    let head : Head b r = record { meta = meta; custom = custom; meta_is = meta_is; custom_is = custom_is; columns = columns_is; floats = floats_is } in
    size_walk (fits_schema b r meta custom) _ es h5 (λ is e. inr (e, large_schema b r head is)) (λ is h6. behind_stops b r j es head is h6)
