-- Tables of several files, and lists of their bytes.
use Rattle.std.proofs.Common.{◌≡◌, ◌∙◌, sym, refl, ap, ℕ, zero, suc, ◌<◌, ◌≤◌, List, [], ◌∷◌, ◌++◌, length, slice_get, take, Option, Some, None, Ok, Err, arith, subst, append_assoc}
use Rattle.std.specs.Option.{option_map}
use Rattle.std.specs.List.{AllByRecursion}
use Rattle.arrow_spec.specs.Features.{chosen_floats}
use Rattle.arrow_spec.specs.Files.{ArrowTable, Meta, TableBatch, «all», file_reading, to_read}
use Rattle.arrow_spec.specs.Kinds.{Metadata, bare}
use Rattle.arrow_spec.specs.Meaning.{file_table}
use Rattle.arrow_spec.specs.Readings.{Reading, meaning}
use Rattle.arrow_spec.proofs.Projection.{place-ok}
use Rattle.arrow_spec.proofs.ReadPairs.{same_read, through}
use Rattle.laws_walk.specs.Below.{FileCursor}
use Rattle.ipc_concat.specs.Files.{AreUnread}
use Rattle.ipc_concat.specs.Opening.{IsOpen}
use Rattle.ipc_concat.specs.Tables.{AreTables, batches_in, told}

-- ── lists ──

pub all_and : {A : Type 0} (P : A → Type 0) (xs : List A) (x : A) → AllByRecursion P xs → P x → AllByRecursion P (xs ++ x ∷ [])
all_and P [] x h p = (p, tt)
all_and P (y ∷ ys) x h p = (h.0, all_and P ys x h.1 p)

pub all_as : {A : Type 0} (P Q : A → Type 0) (xs : List A) → ((x : A) → P x → Q x) → AllByRecursion P xs → AllByRecursion Q xs
all_as P Q [] f h = tt
all_as P Q (x ∷ xs) f h = (f x h.0, all_as P Q xs f h.1)

pub all_of_first : {A : Type 0} (P : A → Type 0) (xs ys : List A) → AllByRecursion P (xs ++ ys) → AllByRecursion P xs
all_of_first P [] ys h = tt
all_of_first P (x ∷ xs) ys h = (h.0, all_of_first P xs ys h.1)

pub length_taken : {A : Type 0} (xs : List A) (i : ℕ) → i ≤ length xs → length (take i xs) ≡ i
length_taken [] zero h = refl
length_taken [] (suc i) h = absurd (omega (arith, h))
length_taken (x ∷ xs) zero h = refl
length_taken (x ∷ xs) (suc i) h = ap suc (length_taken xs i (omega (arith, h)))

-- as many readers as contents
pub unread_length : (contents : List (Option (List ℕ))) (cs : List FileCursor) → AreUnread contents cs → length cs ≡ length contents
unread_length [] [] h = refl
unread_length [] (c ∷ cs) h = absurd h
unread_length (b ∷ bs) [] h = absurd h
unread_length (b ∷ bs) (c ∷ cs) h = ap suc (unread_length bs cs h.1)

-- ── batches ──

pub batches_append : (ts us : List ArrowTable) → batches_in (ts ++ us) ≡ batches_in ts ++ batches_in us
batches_append [] us = refl
batches_append (t ∷ ts) us = ap (λ xs. t.batches ++ xs) (batches_append ts us) ∙ sym (append_assoc t.batches (batches_in ts) (batches_in us))

last_empty : (xs : List TableBatch) → xs ++ [] ≡ xs
last_empty [] = refl
last_empty (x ∷ xs) = ap (λ ys. x ∷ ys) (last_empty xs)

pub batches_and : (ts : List ArrowTable) (t : ArrowTable) → batches_in (ts ++ t ∷ []) ≡ batches_in ts ++ t.batches
batches_and ts t = batches_append ts (t ∷ []) ∙ ap (λ xs. batches_in ts ++ xs) (last_empty t.batches)

-- ── tables ──

pub are_tables_and : (bs : List (List ℕ)) (ts : List ArrowTable) (b : List ℕ) (t : ArrowTable) → AreTables bs ts → file_table b «all» ≡ Some t → AreTables (bs ++ b ∷ []) (ts ++ t ∷ [])
are_tables_and [] [] b t h k = (k, tt)
are_tables_and [] (u ∷ us) b t h k = absurd h
are_tables_and (c ∷ cs) [] b t h k = absurd h
are_tables_and (c ∷ cs) (u ∷ us) b t h k = (h.0, are_tables_and cs us b t h.1 k)

-- the table of one of several files, of which all have some property
pub record TableAt (b : List ℕ) (P : ArrowTable → Type 0) : Type 0 where
  pub table : ArrowTable
  pub means : file_table b «all» ≡ Some table
  pub has : P table

pub table_at : (P : ArrowTable → Type 0) (before : List (List ℕ)) (b : List ℕ) (behind : List (List ℕ)) (ts : List ArrowTable) → AreTables (before ++ b ∷ behind) ts → AllByRecursion P ts → TableAt b P
table_at P [] b behind [] h p = absurd h
table_at P [] b behind (t ∷ ts) h p = record { table = t; means = h.0; has = p.0 }
table_at P (c ∷ cs) b behind [] h p = absurd h
table_at P (c ∷ cs) b behind (t ∷ ts) h p = table_at P cs b behind ts h.1 p.1

-- ── a file that means a table ──

pub some_meaning : {A : Type 0} (r : Reading A) (x : A) → meaning r ≡ Some x → r ≡ Ok x
some_meaning (Ok y) x h = cc
some_meaning (Err es) x h = cc

pub reads_whole : (b : List ℕ) (t : ArrowTable) → file_table b «all» ≡ Some t → file_reading to_read b «all» None ≡ Ok t
unfolding file_table
reads_whole b t h = some_meaning (file_reading to_read b «all» None) t h

pub means_whole : (b : List ℕ) (t : ArrowTable) → file_reading to_read b «all» None ≡ Ok t → file_table b «all» ≡ Some t
unfolding file_table
means_whole b t h = ap meaning h

-- its metadata was read, and its fields are those
pub record IsOpenTable (b : List ℕ) (t : ArrowTable) : Type 0 where
  pub meta : Meta
  pub custom : Metadata
  pub opened : IsOpen b meta custom
  pub fields : t.fields ≡ bare meta.schema.fields
  pub readable : chosen_floats None meta.schema.fields 0 ≡ []

pub open_table : (b : List ℕ) (t : ArrowTable) → file_table b «all» ≡ Some t → IsOpenTable b t
unfolding file_reading
open_table b t h =
    through _ _ t (reads_whole b t h) λ meta meta_is h1. through _ _ t h1 λ custom custom_is h2. through _ _ t h2 λ c c_is h3. through _ _ t h3 λ f f_is h4. through _ _ t h4 λ s s_is h5.
    through _ _ t h5 λ d d_is h6. through _ _ t h6 λ xs xs_is h7.
    record {
      meta = meta;
      custom = custom;
      opened = record { read = meta_is; pairs = custom_is };
      fields = ap (λ (u : ArrowTable). u.fields) (sym (same_read _ t h7));
      readable = place-ok _ f_is;
    }

-- ── bytes that are told ──

-- one of several contents, and what is told of it
pub record ToldAt (contents : List (Option (List ℕ))) (bs : List (List ℕ)) (i : ℕ) : Type 0 where
  pub bytes : List ℕ
  pub content : slice_get contents i ≡ Some (Some bytes)
  pub own : slice_get bs i ≡ Some bytes

-- where a content and others are told
pub told_split : (b : List ℕ) (contents : List (Option (List ℕ))) (bs : List (List ℕ)) → told (Some b ∷ contents) ≡ Some bs → (cs : List (List ℕ)) × (told contents ≡ Some cs) × (b ∷ cs ≡ bs)
told_split b contents bs h = by (told contents) refl h
  where
    by : (o : Option (List (List ℕ))) → told contents ≡ o → option_map (λ cs. b ∷ cs) o ≡ Some bs → (cs : List (List ℕ)) × (told contents ≡ Some cs) × (b ∷ cs ≡ bs)
    by None e k = cc
    by (Some cs) e k = (cs, e, cc)

pub told_at : (contents : List (Option (List ℕ))) (bs : List (List ℕ)) (i : ℕ) → told contents ≡ Some bs → i < length contents → ToldAt contents bs i
told_at [] bs i h l = absurd (omega (arith, l))
told_at (None ∷ contents) bs i h l = cc
told_at (Some b ∷ contents) bs zero h l = let s = told_split b contents bs h in subst (λ xs. ToldAt (Some b ∷ contents) xs zero) s.2 (record { bytes = b; content = refl; own = refl })
told_at (Some b ∷ contents) bs (suc i) h l =
    let s = told_split b contents bs h in
    let r = told_at contents s.0 i s.1 (omega (arith, l)) in
    subst (λ xs. ToldAt (Some b ∷ contents) xs (suc i)) s.2 (record { bytes = r.bytes; content = r.content; own = r.own })

pub told_length : (contents : List (Option (List ℕ))) (bs : List (List ℕ)) → told contents ≡ Some bs → length bs ≡ length contents
told_length [] bs h = let same : [] ≡ bs = cc in ap length (sym same)
told_length (None ∷ contents) bs h = cc
told_length (Some b ∷ contents) bs h = let s = told_split b contents bs h in ap length (sym s.2) ∙ ap suc (told_length contents s.0 s.1)
