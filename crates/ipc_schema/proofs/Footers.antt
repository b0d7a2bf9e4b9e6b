-- The blocks of a footer, and a footer by its parts.
use Rattle.std.proofs.Common.{◌≡◌, ℕ, ◌+◌, ◌-◌, ◌*◌, ◌<◌, ◌≤◌, List, [], ◌∷◌, ◌++◌, length, take, drop, true, false, All, Result, Ok, Err, inl, refl, sym, ◌∙◌, ap, subst, arith, length-drop, drop-drop}
use Rattle.std.specs.Prelude.{ℤ, nat_le}
use Rattle.std.proofs.lemmas.Bool.{le-leb, lt-leb}
use Rattle.std.proofs.lemmas.List.{take_all}
use Rattle.std.proofs.lemmas.List.Elements.{All-nil, All-cons, All-append}
use Rattle.std.specs.Int.{w32, w64}
use Rattle.arrow_spec.specs.declared.error.FlatError.{FlatError}
use Rattle.arrow_spec.specs.declared.error.IpcError.{IpcError}
use Rattle.arrow_spec.specs.declared.error.OutOfSpecKind.TheVariants as kinds
use Rattle.arrow_spec.specs.declared.message.Block.{Block}
use Rattle.arrow_spec.specs.Readings.{damaged, bind, each, Reading, refusals, in_terms_of}
use Rattle.ipc_fields.specs.Causes.{Decodes, RefusesBytes}
use Rattle.arrow_spec.specs.Flat.{signed_at}
use Rattle.arrow_spec.specs.Files.{footer_of, FileBlock, block_of, block_at, meta_in}
use Rattle.arrow_flat.specs.Read.{VectorIn, item}
use Rattle.ipc_schema.specs.Footers.{IsNatural, footer_length_in, file_block, block_numbers_at, block_by, fault_in, block_in, blocks_in, records_part, dictionaries_part, schema_in_footer, footer_parts, footer_view}
use Rattle.ipc_schema.specs.declared.footer.BlockList.{BlockList}
use Rattle.ipc_schema.specs.declared.footer.BlockList.TheVariants.{RecordBatches, Dictionaries}
use Rattle.ipc_schema.specs.declared.footer.Footer.{Footer}
use Rattle.ipc_schema.proofs.Items.{signed-item, signed-front, none_read, with_front}
use Rattle.ipc_fields.proofs.Steps.{none_refused}

block-item : (b : List ℕ) (p : ℕ) → block_numbers_at (take 24 (drop p b)) 0 ≡ block_numbers_at b p
unfolding bind
block-item b p = rw (signed-front w64 b p 24 (omega arith) (omega arith), signed-item w32 b p 24 8 (omega arith) (omega arith), signed-item w64 b p 24 16 (omega arith) (omega arith)) refl

-- the numbers of a block are read where it stands
pub numbers_in : (v : VectorIn) (i : ℕ) → v.width ≡ 24 → block_numbers_at (item v i) 0 ≡ block_numbers_at v.bytes (v.vector.first + 24 * i)
numbers_in v i wide = let p : v.vector.first + i * 24 ≡ v.vector.first + 24 * i = omega arith in rw (wide, p) (block-item v.bytes (v.vector.first + 24 * i))

by_numbers : (fault : FlatError → IpcError) (x : Result ℤ FlatError) (y : Result ℤ FlatError) (z : Result ℤ FlatError)
    → bind (in_terms_of (λ f. fault f ∷ []) x) (λ a. bind (in_terms_of (λ f. fault f ∷ []) y) (λ m. bind (in_terms_of (λ f. fault f ∷ []) z) (λ n. block_of a m n)))
    ≡ bind (in_terms_of (λ f. fault f ∷ []) (bind x (λ a. bind y (λ m. bind z (λ n. Ok (record { offset = a; meta_data_length = m; body_length = n })))))) (λ k. block_by k)
unfolding bind
by_numbers fault (Err e) y z = refl
by_numbers fault (Ok a) (Err e) z = refl
by_numbers fault (Ok a) (Ok m) (Err e) = refl
by_numbers fault (Ok a) (Ok m) (Ok n) = refl

-- a block is its numbers, none of which is negative
block-numbers : (fault : FlatError → IpcError) (b : List ℕ) (p : ℕ) → block_at fault b p ≡ bind (in_terms_of (λ f. fault f ∷ []) (block_numbers_at b p)) (λ k. block_by k)
block-numbers fault b p = by_numbers fault (signed_at w64 b p) (signed_at w32 b (p + 8)) (signed_at w64 b (p + 16))

pub blocks_begun : (list : BlockList) (v : VectorIn) (front : List FileBlock) → front ≡ [] → with_front front (each (block_in list v) 0 (v.vector.count - 0)) ≡ blocks_in list v
blocks_begun list v front h = none_read (block_in list v) v.vector.count front h

refuses_it : (list : BlockList) (e : FlatError) → RefusesBytes (fault_in list e) (fault_in list e ∷ [])
refuses_it RecordBatches e = inl refl
refuses_it Dictionaries e = inl refl

faulted_by : (list : BlockList) (e : FlatError) (r : Result Block FlatError) (f : Block → Reading FileBlock) → r ≡ Err e → RefusesBytes (fault_in list e) (refusals (bind (in_terms_of (λ f. fault_in list f ∷ []) r) f))
unfolding bind
faulted_by list e r f h = rw h (refuses_it list e)

-- the numbers do not lie inside
pub block_faulted : (list : BlockList) (v : VectorIn) (i : ℕ) (bytes : List ℕ) (e : FlatError) → v.width ≡ 24 → bytes ≡ item v i → Err e ≡ block_numbers_at bytes 0 → RefusesBytes (fault_in list e) (refusals (block_in list v i))
block_faulted list v i bytes e wide given h =
    let p : block_numbers_at v.bytes (v.vector.first + 24 * i) ≡ Err e = sym (numbers_in v i wide) ∙ sym (ap (λ x. block_numbers_at x 0) given) ∙ sym h in
    subst (λ r. RefusesBytes (fault_in list e) (refusals r)) (sym (block-numbers (fault_in list) v.bytes (v.vector.first + 24 * i))) (faulted_by list e _ block_by p)

given_by : (fault : FlatError → IpcError) (x : Block) (r : Result Block FlatError) (f : Block → Reading FileBlock) → r ≡ Ok x → f x ≡ bind (in_terms_of (λ f. fault f ∷ []) r) f
unfolding bind
given_by fault x r f h = rw h refl

-- the numbers are there
pub block_given : (list : BlockList) (v : VectorIn) (i : ℕ) (bytes : List ℕ) (x : Block) (r : Result Block IpcError) → v.width ≡ 24 → bytes ≡ item v i → Ok x ≡ block_numbers_at bytes 0 → Decodes file_block r (block_by x) → Decodes file_block r (block_in list v i)
block_given list v i bytes x r wide given h g =
    let p : block_numbers_at v.bytes (v.vector.first + 24 * i) ≡ Ok x = sym (numbers_in v i wide) ∙ sym (ap (λ x. block_numbers_at x 0) given) ∙ sym h in
    let e : block_by x ≡ block_in list v i = given_by (fault_in list) x _ block_by p ∙ sym (block-numbers (fault_in list) v.bytes (v.vector.first + 24 * i)) in
    subst (Decodes file_block r) e g

bind_twice : {A B C E : Type 0} (r : Result A E) (f : A → Result B E) (g : B → Result C E) → bind (bind r f) g ≡ bind r (λ x. bind (f x) g)
unfolding bind
bind_twice (Ok x) f g = refl
bind_twice (Err e) f g = refl

footer_same : (f : List ℕ) → meta_in f ≡ footer_parts f
unfolding meta_in footer_parts records_part dictionaries_part schema_in_footer
footer_same f = simp bind_twice

-- a footer is its parts
pub footer_by_parts : (f : List ℕ) (r : Result Footer IpcError) → Decodes footer_view r (footer_parts f) → Decodes footer_view r (meta_in f)
footer_by_parts f r h = subst (Decodes footer_view r) (sym (footer_same f)) h

-- ── blocks without negative numbers ──

pub none_natural : (xs : List Block) → xs ≡ [] → All IsNatural xs
none_natural xs h = subst (All IsNatural) (sym h) (All-nil IsNatural)

pub more_natural : (old new : List Block) (x : Block) → new ≡ old ++ x ∷ [] → All IsNatural old → IsNatural x → All IsNatural new
more_natural old new x h front here = subst (All IsNatural) (sym h) (All-append IsNatural old (x ∷ []) front (All-cons IsNatural x [] here (All-nil IsNatural)))

-- ── where the footer stands ──

bind_ok : {A B E : Type 0} (x : A) (f : A → Result B E) → bind (Ok x) f ≡ f x
unfolding bind
bind_ok x f = refl

end_length : (b : List ℕ) → 10 ≤ length b → length (drop (length b - 10) b) ≡ 10
end_length b long = omega (arith, length-drop (length b - 10) b)

end_whole : (b : List ℕ) → 10 ≤ length b → take 10 (drop (length b - 10) b) ≡ drop (length b - 10) b
end_whole b long = take_all 10 (drop (length b - 10) b) (omega (arith, end_length b long))

end_last : (b : List ℕ) (k n : ℕ) → 10 ≤ length b → k + n ≡ 10 → drop k (take 10 (drop (length b - 10) b)) ≡ drop (length b - n) b
end_last b k n long split =
    let place : length b - 10 + k ≡ length b - n = omega arith in
    ap (drop k) (end_whole b long) ∙ drop-drop k (length b - 10) b ∙ ap (λ p. drop p b) place

long_enough : (b : List ℕ) → 10 ≤ length b → nat_le 10 (length b) ≡ true
long_enough b long = le-leb _ _ long

-- a footer stands before the last ten bytes, with the length that they tell
pub footer_by_end : (b : List ℕ) → 10 ≤ length b → footer_of b ≡ bind (footer_length_in (take 10 (drop (length b - 10) b)) (length b)) (λ n. Ok (take n (drop (length b - 10 - n) b)))
unfolding footer_of footer_length_in
footer_by_end b long =
    let feather = end_last b 6 4 long (omega arith) in
    let magic = end_last b 4 6 long (omega arith) in
    let number = signed-front w32 b (length b - 10) 10 (omega arith) (omega arith) in
    rw (long_enough b long) (simp (feather, magic, number, bind_twice, bind_ok))

-- a file that is too short has none
pub footer_cut : (b : List ℕ) → length b < 10 → footer_of b ≡ damaged kinds.Truncated
unfolding footer_of bind
footer_cut b short = let test : nat_le 10 (length b) ≡ false = lt-leb _ _ short in rw test refl

behind : (r : Result ℕ IpcError) (x : Reading ℕ) (f : ℕ → List ℕ) → Decodes (λ n. n) r x → Decodes f r (bind x (λ n. Ok (f n)))
unfolding bind
behind (Ok n) x f h = rw h refl
behind (Err e) (Ok n) f h = none_refused e [] h
behind (Err e) (Err es) f h = h

-- the length that the last ten bytes tell is that of the footer
pub footer_told : (end b : List ℕ) (size : ℕ) (r : Result ℕ IpcError) → Decodes (λ n. n) r (footer_length_in end size) → length end ≡ 10 → length b ≡ size → drop (size - 10) b ≡ end
    → Decodes (λ n. take n (drop (size - 10 - n) b)) r (footer_of b)
footer_told end b size r h ten whole is =
    let long : 10 ≤ length b = omega (arith, ap length is, length-drop (size - 10) b) in
    let same : take 10 (drop (length b - 10) b) ≡ end = end_whole b long ∙ ap (λ n. drop (n - 10) b) whole ∙ is in
    let e : footer_of b ≡ bind (footer_length_in end size) (λ n. Ok (take n (drop (size - 10 - n) b))) =
    footer_by_end b long ∙ ap (λ x. bind (footer_length_in x (length b)) (λ n. Ok (take n (drop (length b - 10 - n) b)))) same
    ∙ ap (λ s. bind (footer_length_in end s) (λ n. Ok (take n (drop (s - 10 - n) b)))) whole in
    subst (Decodes (λ n. take n (drop (size - 10 - n) b)) r) (sym e) (behind r (footer_length_in end size) (λ n. take n (drop (size - 10 - n) b)) h)
