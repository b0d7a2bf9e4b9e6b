-- What is fetched under a request is no longer than what the request costs.
use Rattle.std.proofs.Common.{◌≡◌, ℕ, zero, suc, ◌+◌, ◌-◌, ◌≤◌, List, [], ◌∷◌, ◌++◌, length, Option, Ok, Err, refl, ◌∙◌, subst, sym, arith}
use Rattle.std.specs.List.{AllByRecursion}
use Rattle.std.proofs.lemmas.List.Sums.{sum_by-append, sum_by-cons}
use Rattle.arrow_spec.specs.declared.error.IpcError.TheVariants.{OutOfSpec}
use Rattle.arrow_spec.specs.declared.error.OutOfSpecKind.TheVariants.{InvalidId}
use Rattle.arrow_spec.specs.Readings.{Reading, meaning, natural, required}
use Rattle.arrow_spec.specs.Kinds.{uses_in, values_under}
use Rattle.arrow_spec.specs.Messages.{batch_at, dictionary_at, version_of}
use Rattle.arrow_spec.specs.Counts.{first_place}
use Rattle.arrow_spec.specs.Files.{FileBlock, Meta, Request, block_body, block_message, dictionaries_read, meta_of, record_batch_of, share, what_is_left}
use Rattle.arrow_spec.specs.Needed.{Range, all_need, batch_needs, columns_looked_at, cost, dictionary_needs, footer_size, lengths, looked_at, message_range, needed, or_nothing, parts_needed, ranges}
use Rattle.arrow_spec.proofs.Projection.{on, went}
use Rattle.arrow_spec.proofs.ReadPairs.{same_read}
use Rattle.laws_files.specs.Fetched.{batch_fetched, batches_fetched, dictionary_fetched, fetched, for_rows, parts_fetched}
use Rattle.laws_files.specs.FileLaws.{FetchedWithinCost}

-- ── ranges among others ──

pub all_first : {A : Type 0} (P : A → Type 0) (xs ys : List A) → AllByRecursion P (xs ++ ys) → AllByRecursion P xs
all_first P [] ys h = tt
all_first P (x ∷ xs) ys h = (h.0, all_first P xs ys h.1)

pub all_second : {A : Type 0} (P : A → Type 0) (xs ys : List A) → AllByRecursion P (xs ++ ys) → AllByRecursion P ys
all_second P [] ys h = h
all_second P (x ∷ xs) ys h = all_second P xs ys h.1

all_joined : (P : Range → Type 0) (xs ys : List Range) → AllByRecursion P xs → AllByRecursion P ys → AllByRecursion P (xs ++ ys)
all_joined P [] ys h k = k
all_joined P (x ∷ xs) ys h k = (h.0, all_joined P xs ys h.1 k)

-- some ranges are among others: they are no longer, and what holds of all others holds of them
record AreAmong (xs ys : List Range) : Type 1 where
  fewer : lengths xs ≤ lengths ys
  hold : (P : Range → Type 0) → AllByRecursion P ys → AllByRecursion P xs

none_among : AreAmong [] []
none_among = record { fewer = omega arith; hold = λ P h. h }

more : (x : Range) (xs ys : List Range) → AreAmong xs ys → AreAmong (x ∷ xs) (x ∷ ys)
more x xs ys h = record {
  fewer = omega (arith, h.fewer, sum_by-cons (λ (y : Range). y.length) x xs, sum_by-cons (λ (y : Range). y.length) x ys);
  hold = λ P k. (k.0, h.hold P k.1);
}

both : (xs xs' ys ys' : List Range) → AreAmong xs ys → AreAmong xs' ys' → AreAmong (xs ++ xs') (ys ++ ys')
both xs xs' ys ys' h k = record {
  fewer = omega (arith, h.fewer, k.fewer, sum_by-append (λ (y : Range). y.length) xs xs', sum_by-append (λ (y : Range). y.length) ys ys');
  hold = λ P all. all_joined P xs xs' (h.hold P (all_first P ys ys' all)) (k.hold P (all_second P ys ys' all));
}

fewer_rows : (n : ℕ) (xs : List Range) → AreAmong (for_rows n xs) xs
fewer_rows zero xs = record { fewer = omega arith; hold = λ P h. tt }
fewer_rows (suc n) xs = record { fewer = omega arith; hold = λ P h. h }

-- ranges that are among those that a reading gives
record Within (xs : List Range) (needs : Reading (List Range)) : Type 1 where
  parts : List Range
  found : needs ≡ Ok parts
  among : AreAmong xs parts

-- ── blocks ──

batch_within : (b : List ℕ) (meta : Meta) (r : Request) (block : FileBlock) (left : Option ℕ) (x : List Range × ℕ) → batch_fetched b meta r block left ≡ Ok x → Within x.0 (batch_needs b meta r block)
unfolding batch_fetched batch_needs
batch_within b meta r block left x h =
    let m = went (block_message b block 3) _ x h in
    let tables = went (batch_at m.got.0 m.got.1.header) _ x m.rest in
    let version = went (version_of m.got.0 m.got.1) _ x tables.rest in
    let range = went (message_range b block) _ x version.rest in
    let rows = went (natural tables.got.length) _ x range.rest in
    let source = record_batch_of meta.schema.order version.got tables.got (block_body b block) in
    let buffers = ranges source (block.offset + block.metadata) (columns_looked_at source r.columns meta.schema.fields 0 first_place) in
    let e : (range.got ∷ for_rows (share left rows.got) buffers, share left rows.got) ≡ x = same_read _ x rows.rest in
    record {
      parts = range.got ∷ buffers;
      found = on _ _ _ m.first ∙ on _ _ _ tables.first ∙ on _ _ _ version.first ∙ on _ _ _ range.first;
      among = subst (λ y. AreAmong y.0 (range.got ∷ buffers)) e (more range.got (for_rows (share left rows.got) buffers) buffers (fewer_rows (share left rows.got) buffers));
    }

batches_within : (b : List ℕ) (meta : Meta) (r : Request) (blocks : List FileBlock) (left : Option ℕ) (xs : List Range) → batches_fetched b meta r blocks left ≡ Ok xs → Within xs (all_need (λ block. batch_needs b meta r block) blocks)
unfolding batches_fetched all_need
batches_within b meta r [] left xs h =
    let e : [] ≡ xs = same_read _ xs h in
    record { parts = []; found = refl; among = subst (λ ys. AreAmong ys []) e none_among }
batches_within b meta r (block ∷ blocks) left xs h =
    let first = went (batch_fetched b meta r block left) _ xs h in
    let others = went (batches_fetched b meta r blocks (what_is_left left first.got.1)) _ xs first.rest in
    let e : first.got.0 ++ others.got ≡ xs = same_read _ xs others.rest in
    let mine = batch_within b meta r block left first.got first.first in
    let rest = batches_within b meta r blocks (what_is_left left first.got.1) others.got others.first in
    record {
      parts = mine.parts ++ rest.parts;
      found = on _ _ _ mine.found ∙ on _ _ _ rest.found;
      among = subst (λ ys. AreAmong ys (mine.parts ++ rest.parts)) e (both first.got.0 others.got mine.parts rest.parts mine.among rest.among);
    }

dictionary_within : (b : List ℕ) (meta : Meta) (block : FileBlock) (xs : List Range) → dictionary_fetched b meta block ≡ Ok xs → Within xs (dictionary_needs b meta block)
unfolding dictionary_fetched dictionary_needs
dictionary_within b meta block xs h =
    let m = went (block_message b block 2) _ xs h in
    let x = went (dictionary_at m.got.0 m.got.1.header) _ xs m.rest in
    let version = went (version_of m.got.0 m.got.1) _ xs x.rest in
    let range = went (message_range b block) _ xs version.rest in
    let kind = went (required (OutOfSpec (InvalidId x.got.id)) (values_under x.got.id (uses_in meta.schema.fields))) _ xs range.rest in
    let rows = went (natural x.got.values.length) _ xs kind.rest in
    let source = record_batch_of meta.schema.order version.got x.got.values (block_body b block) in
    let buffers = ranges source (block.offset + block.metadata) (looked_at source kind.got first_place) in
    let e : range.got ∷ for_rows rows.got buffers ≡ xs = same_read _ xs rows.rest in
    record {
      parts = range.got ∷ buffers;
      found = on _ _ _ m.first ∙ on _ _ _ x.first ∙ on _ _ _ version.first ∙ on _ _ _ range.first ∙ on _ _ _ kind.first;
      among = subst (λ ys. AreAmong ys (range.got ∷ buffers)) e (more range.got (for_rows rows.got buffers) buffers (fewer_rows rows.got buffers));
    }

dictionaries_within : (b : List ℕ) (meta : Meta) (blocks : List FileBlock) (xs : List Range) → all_need (λ block. dictionary_fetched b meta block) blocks ≡ Ok xs → Within xs (all_need (λ block. dictionary_needs b meta block) blocks)
unfolding all_need
dictionaries_within b meta [] xs h =
    let e : [] ≡ xs = same_read _ xs h in
    record { parts = []; found = refl; among = subst (λ ys. AreAmong ys []) e none_among }
dictionaries_within b meta (block ∷ blocks) xs h =
    let first = went (dictionary_fetched b meta block) _ xs h in
    let others = went (all_need (λ x. dictionary_fetched b meta x) blocks) _ xs first.rest in
    let e : first.got ++ others.got ≡ xs = same_read _ xs others.rest in
    let mine = dictionary_within b meta block first.got first.first in
    let rest = dictionaries_within b meta blocks others.got others.first in
    record {
      parts = mine.parts ++ rest.parts;
      found = on _ _ _ mine.found ∙ on _ _ _ rest.found;
      among = subst (λ ys. AreAmong ys (mine.parts ++ rest.parts)) e (both first.got others.got mine.parts rest.parts mine.among rest.among);
    }

-- ── the file ──

abbrev trailer : List ℕ → Range
trailer b = record { place = length b - 10; length = 10 }

abbrev footer : List ℕ → ℕ → Range
footer b n = record { place = length b - 10 - n; length = n }

parts_within : (b : List ℕ) (r : Request) (xs : List Range) → parts_fetched b r ≡ Ok xs → Within xs (parts_needed b r)
unfolding parts_fetched parts_needed
parts_within b r xs h =
    let meta = went (meta_of b) _ xs h in
    let n = went (footer_size b) _ xs meta.rest in
    let dictionaries = went (all_need (λ block. dictionary_fetched b meta.got block) (dictionaries_read meta.got.blocks meta.got.dictionaries)) _ xs n.rest in
    let batches = went (batches_fetched b meta.got r meta.got.blocks r.limit) _ xs dictionaries.rest in
    let e : trailer b ∷ footer b n.got ∷ dictionaries.got ++ batches.got ≡ xs = same_read _ xs batches.rest in
    let ds = dictionaries_within b meta.got (dictionaries_read meta.got.blocks meta.got.dictionaries) dictionaries.got dictionaries.first in
    let bs = batches_within b meta.got r meta.got.blocks r.limit batches.got batches.first in
    record {
      parts = trailer b ∷ footer b n.got ∷ ds.parts ++ bs.parts;
      found = on _ _ _ meta.first ∙ on _ _ _ n.first ∙ on _ _ _ ds.found ∙ on _ _ _ bs.found;
      among = subst (λ ys. AreAmong ys (trailer b ∷ footer b n.got ∷ ds.parts ++ bs.parts)) e
          (more (trailer b) (footer b n.got ∷ dictionaries.got ++ batches.got) (footer b n.got ∷ ds.parts ++ bs.parts)
          (more (footer b n.got) (dictionaries.got ++ batches.got) (ds.parts ++ bs.parts) (both dictionaries.got batches.got ds.parts bs.parts ds.among bs.among)));
    }

by_reading : (b : List ℕ) (r : Request) (read : Reading (List Range)) → parts_fetched b r ≡ read → AreAmong (or_nothing (meaning read)) (or_nothing (meaning (parts_needed b r)))
by_reading b r (Err es) is = record { fewer = omega arith; hold = λ P h. tt }
by_reading b r (Ok xs) is = let w = parts_within b r xs is in subst (λ p. AreAmong xs (or_nothing (meaning p))) (sym w.found) w.among

pub fetched_within_cost : FetchedWithinCost
unfolding fetched cost needed
fetched_within_cost b r = (by_reading b r (parts_fetched b r) refl).fewer

-- what holds of all needed parts holds of what is fetched
pub fetched_among : (P : Range → Type 0) (b : List ℕ) (r : Request) → AllByRecursion P (or_nothing (meaning (parts_needed b r))) → AllByRecursion P (fetched b r)
unfolding fetched
fetched_among P b r h = (by_reading b r (parts_fetched b r) refl).hold P h
