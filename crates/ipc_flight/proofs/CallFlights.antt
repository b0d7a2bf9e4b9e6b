-- What calls hand over and what calls give, one after another.
use Rattle.std.proofs.Common.{◌≡◌, ◌∙◌, ℕ, zero, suc, ◌≤◌, List, [], ◌∷◌, ◌++◌, length, map, drop, Option, Some, None, Ok, refl, sym, ap, subst, arith}
use Rattle.std.specs.Prelude.{slice_get}
use Rattle.std.specs.Option.{option_map}
use Rattle.arrow_spec.specs.Arrays.{Dictionaries}
use Rattle.arrow_spec.specs.Files.{ArrowTable, FileBlock, Meta, TableBatch, custom_of, file_reading, meta_of, to_read, «all»}
use Rattle.arrow_spec.specs.Kinds.{Metadata, bare}
use Rattle.arrow_spec.specs.Meaning.{file_table}
use Rattle.arrow_spec.specs.Schema.{Schema}
use Rattle.arrow_spec.proofs.Projection.{on, some_meaning}
use Rattle.arrow_spec.proofs.ReadPairs.{same_read, through}
use Rattle.arrow_arrays.specs.Batches.{Batch}
use Rattle.ipc_files.specs.Below.{table_of}
use Rattle.ipc_streams.specs.Starts.{Start}
use Rattle.ipc_write.specs.declared.encoded.EncodedData.{EncodedData}
use Rattle.ipc_flight.specs.Firsts.{GivesFirst, first_in, says}
use Rattle.ipc_flight.specs.Flights.{Handed, all_handed, flight_batches, handed, with_batch}
use Rattle.ipc_flight.specs.Hands.{HandsOver, a_block, handed_of}
use Rattle.ipc_flight.specs.Laws.{ConsumedFlightIsTheFile, HandsEach, TakesEach, a_message, all_taken, none_left, one_more, with_given}
use Rattle.ipc_flight.proofs.FileFlights.{means_the_file}

-- ── what is handed over ──

drop_at : (xs : List FileBlock) (i : ℕ) (x : FileBlock) → slice_get xs i ≡ Some x → drop i xs ≡ x ∷ drop (suc i) xs
drop_at [] i x h = cc
drop_at (y ∷ ys) zero x h = let same : y ≡ x = cc in ap (λ z. z ∷ ys) same
drop_at (y ∷ ys) (suc i) x h = drop_at ys i x h

drop_all : (xs : List FileBlock) (i : ℕ) → length xs ≤ i → drop i xs ≡ []
drop_all [] zero h = refl
drop_all [] (suc i) h = refl
drop_all (y ∷ ys) zero h = absurd (omega arith)
drop_all (y ∷ ys) (suc i) h = drop_all ys i (omega arith)

one_handed : (b : List ℕ) (blocks : List FileBlock) (i i' : ℕ) (x : EncodedData) (xs : List Handed) → HandsOver (Some b) blocks i i' x (Ok (Some tt)) → all_handed b (drop i' blocks) ≡ Ok xs → all_handed b (drop i blocks) ≡ Ok (handed_of x ∷ xs)
unfolding all_handed
one_handed b blocks i i' x xs (a_block {block} next is) rest =
    let there : all_handed b (drop (suc i) blocks) ≡ Ok xs = subst (λ j. all_handed b (drop j blocks) ≡ Ok xs) next.taken rest in
    ap (all_handed b) (drop_at blocks i block next.stands) ∙ on (handed b block) _ (handed_of x) is ∙ on (all_handed b (drop (suc i) blocks)) _ xs there

each_handed : (b : List ℕ) (blocks : List FileBlock) (i : ℕ) (xs : List Handed) → HandsEach b blocks i xs → all_handed b (drop i blocks) ≡ Ok xs
unfolding all_handed
each_handed b blocks i xs (none_left past) = ap (all_handed b) (drop_all blocks i past)
each_handed b blocks i xs (one_more {i' = i'} {x = x} {xs = ys} hands rest) = one_handed b blocks i i' x ys hands (each_handed b blocks i' ys rest)

-- ── what is given ──

with_same : (o : Option Batch) (bs : List Batch) → with_batch (option_map table_of o) (map table_of bs) ≡ map table_of (with_given o bs)
with_same None bs = refl
with_same (Some b) bs = refl

each_taken : (s : Schema) (d : Dictionaries) (xs : List Handed) (bs : List Batch) → TakesEach s d xs bs → flight_batches s d xs ≡ Ok (map table_of bs)
unfolding flight_batches
each_taken s d xs bs all_taken = refl
each_taken s d xs bs (a_message {xs = ys} {o = o} {t = t} {bs = cs} taken rest) =
    on _ _ t taken.is ∙ on _ _ (map table_of cs) (each_taken s t.dictionaries ys cs rest) ∙ ap (λ p. Ok (with_batch p (map table_of cs))) taken.batch ∙ ap (λ zs. Ok zs) (with_same o cs)

-- ── the file ──

-- what a file's table has beside its batches
record HasHeading (meta : Meta) (custom : Metadata) (t : ArrowTable) : Type 0 where
  metadata : meta.schema.metadata ≡ t.metadata
  custom_is : custom ≡ t.custom
  fields : bare meta.schema.fields ≡ t.fields

heading : (b : List ℕ) (meta : Meta) (custom : Metadata) (t : ArrowTable) → meta_of b ≡ Ok meta → custom_of b ≡ Ok custom → file_reading to_read b «all» None ≡ Ok t → HasHeading meta custom t
unfolding file_reading
heading b meta custom t is pairs h =
    let h0 = sym (on (meta_of b) _ meta is) ∙ h in
    let h1 = sym (on (custom_of b) _ custom pairs) ∙ h0 in
    through _ _ t h1 λ columns columns_is h2. through _ _ t h2 λ floats floats_is h3. through _ _ t h3 λ size size_is h4.
    through _ _ t h4 λ d d_is h5. through _ _ t h5 λ ys ys_are h6.
    let same = same_read _ t h6 in
    record { metadata = ap (λ (x : ArrowTable). x.metadata) same; custom_is = ap (λ (x : ArrowTable). x.custom) same; fields = ap (λ (x : ArrowTable). x.fields) same }

first_is : (s : Schema) (custom : Metadata) (first : EncodedData) (start : Start) → GivesFirst s custom (Ok first) → first_in first.ipc_message.items ≡ Ok start → (s ≡ start.schema) × (custom ≡ start.custom)
first_is s custom first start (says empty is) h =
    let same = same_read _ start (sym is ∙ h) in
    (ap (λ (x : Start). x.schema) same, ap (λ (x : Start). x.custom) same)

joined : (s : Schema) (ds xs : List Handed) (bs : List Batch) (ys : List TableBatch) → TakesEach s [] (ds ++ xs) bs → flight_batches s [] (ds ++ xs) ≡ Ok ys → map table_of bs ≡ ys
joined s ds xs bs ys takes is = same_read _ ys (sym (each_taken s [] (ds ++ xs) bs takes) ∙ is)

pub consumed_is_the_file : ConsumedFlightIsTheFile
unfolding file_table
consumed_is_the_file b meta custom block blocks t first start ds xs batches file some table gives read dictionaries records takes =
    let flight = means_the_file b meta block blocks t file.read some table in
    let ds_are : ds ≡ flight.dictionaries = same_read _ _ (sym (each_handed b meta.dictionaries 0 ds dictionaries) ∙ flight.dictionaries_are) in
    let xs_are : xs ≡ flight.blocks = same_read _ _ (sym (each_handed b meta.blocks 0 xs records) ∙ flight.blocks_are) in
    let known = first_is meta.schema custom first start gives read in
    let means : flight_batches start.schema [] (ds ++ xs) ≡ Ok t.batches = subst (λ s. flight_batches s [] (ds ++ xs) ≡ Ok t.batches) known.0 (ap (λ zs. flight_batches meta.schema [] (zs ++ xs)) ds_are ∙ ap (λ zs. flight_batches meta.schema [] (flight.dictionaries ++ zs)) xs_are ∙ flight.means) in
    let head = heading b meta custom t file.read file.pairs (some_meaning (file_reading to_read b «all» None) t table) in
    record {
      metadata = ap (λ (s : Schema). s.metadata) (sym known.0) ∙ head.metadata;
      custom = sym known.1 ∙ head.custom_is;
      fields = ap (λ (s : Schema). bare s.fields) (sym known.0) ∙ head.fields;
      batches_are = joined start.schema ds xs batches t.batches takes means;
    }
