-- The law of projection and limit: what the whole file means gives what it means under a request.
use Rattle.std.proofs.Common.{◌≡◌, ℕ, zero, suc, ◌+◌, ◌<◌, ◌≤◌, List, [], ◌∷◌, length, take, Option, Some, None, Bool, true, false, Ok, refl, sym, ◌∙◌, ap, arith, not, ◌&&◌, cond, subst}
use Rattle.std.specs.Prelude.{map, slice_get, nat_lt, nat_eq}
use Rattle.std.specs.List.{AllByRecursion, IsDistinct}
use Rattle.std.proofs.lemmas.Bool.{lt-ltb, or_left, or_from, not_from_false, and_from}
use Rattle.arrow_spec.specs.declared.error.IpcError.{IpcError}
use Rattle.arrow_spec.specs.declared.error.IpcError.TheVariants.{Projection}
use Rattle.arrow_spec.specs.declared.message.MetadataVersion.{MetadataVersion}
use Rattle.arrow_spec.specs.Readings.{free_of, unless, meaning}
use Rattle.arrow_spec.specs.Flat.{Order}
use Rattle.arrow_spec.specs.Kinds.{Kind, Fields, Metadata, none, field, bare, width}
use Rattle.arrow_spec.specs.Cells.{Cell}
use Rattle.arrow_spec.specs.Messages.{BatchHeader}
use Rattle.arrow_spec.specs.Counts.{RecordBatch, Place, after}
use Rattle.arrow_spec.specs.Arrays.{Dictionaries, from_on}
use Rattle.arrow_spec.specs.ArrayCells.{cell}
use Rattle.arrow_spec.specs.Faults.{column_faults}
use Rattle.arrow_spec.specs.Columns.{chosen_faults, chosen_cells, columns_at, is_chosen, stands_in}
use Rattle.arrow_spec.specs.Features.{float_faults, chosen_floats}
use Rattle.arrow_spec.specs.Files.{Request, «all», FileBlock, Meta, TableBatch, ArrowTable, Asked, to_read, share, what_is_left, column_or_none, as_asked, wrong_columns, columns_right, custom_of, meta_of, with_field_at, fields_asked, fields_as_asked, batch_of_tables, batch_of, batches_of, dictionaries_of, dictionaries_read, dictionaries_sent, file_reading, project, cut, cut_batches}
use Rattle.arrow_spec.specs.Meaning.{file_table}
use Rattle.laws_files.specs.FileLaws.{AreAskedColumns, ProjectsAndCuts}
use Rattle.arrow_spec.proofs.Projection.{then, went, on, place-ok, ok-place, no_dictionaries_sent, no_size, nothing, some_meaning}
use Rattle.arrow_spec.proofs.ReadPairs.{same_read}
use Rattle.arrow_spec.proofs.Fewer.{none_first, none_second, none_both, array_faults-fewer}

-- ── columns ──

abbrev no_cells : List Cell
no_cells = []

take-nil : (n : ℕ) → take n no_cells ≡ no_cells
take-nil zero = refl
take-nil (suc n) = refl

take-from_on : {A : Type 0} (f : ℕ → A) (i n k : ℕ) → k ≤ n → take k (from_on f i n) ≡ from_on f i k
take-from_on f i n zero less = refl
take-from_on f i zero (suc k) less = absurd (omega (arith, less))
take-from_on f i (suc n) (suc k) less = ap (λ xs. f i ∷ xs) (take-from_on f (suc i) n k (omega (arith, less)))

-- the columns from number c on that are asked for, the first few of their rows
abbrev pub parts_chosen : Option (List ℕ) → ℕ → ℕ → List (List Cell) → List (List Cell)
parts_chosen asked c few [] = []
parts_chosen asked c few (x ∷ xs) = cond (is_chosen asked c) (take few x) [] ∷ parts_chosen asked (suc c) few xs

chosen_faults-fewer : (chosen : Bool) (m : RecordBatch) (d : Dictionaries) (k : Kind) (p : Place) (rows few : ℕ) → few ≤ rows → column_faults m d k p rows rows ≡ [] → chosen_faults chosen m d k p rows few ≡ []
unfolding column_faults
chosen_faults-fewer true m d k p rows few less h = none_both _ _ (none_first _ _ h) (array_faults-fewer m d k p rows few less (none_second _ _ h))
chosen_faults-fewer false m d k p rows few less h = none_first _ _ (none_first _ _ h)

chosen_cells-fewer : (chosen : Bool) (m : RecordBatch) (d : Dictionaries) (k : Kind) (p : Place) (rows few : ℕ) → few ≤ rows → chosen_cells chosen m d k p few ≡ cond chosen (take few (from_on (cell m d k p) 0 rows)) []
chosen_cells-fewer true m d k p rows few less = sym (take-from_on (cell m d k p) 0 rows few less)
chosen_cells-fewer false m d k p rows few less = refl

columns_at-fewer : (m : RecordBatch) (d : Dictionaries) (asked : Option (List ℕ)) (fs : Fields) (c : ℕ) (p : Place) (rows few : ℕ) (cols : List (List Cell)) → few ≤ rows → columns_at m d None fs c p rows rows ≡ Ok cols → columns_at m d asked fs c p rows few ≡ Ok (parts_chosen asked c few cols)
unfolding columns_at
columns_at-fewer m d asked none c p rows few cols less h = let e : [] ≡ cols = cc in ap (λ xs. Ok (parts_chosen asked c few xs)) e
columns_at-fewer m d asked (field name nullable metadata k others) c p rows few cols less h =
    let first = went (free_of (column_faults m d k p rows rows)) _ cols h in
    let fits : column_faults m d k p rows rows ≡ [] = place-ok _ first.first in
    let second = went (columns_at m d None others (suc c) (after m k p) rows rows) _ cols first.rest in
    let rest = columns_at-fewer m d asked others (suc c) (after m k p) rows few second.got less second.first in
    let e : from_on (cell m d k p) 0 rows ∷ second.got ≡ cols = cc (second.rest) in
    on _ _ _ (ok-place _ (chosen_faults-fewer (is_chosen asked c) m d k p rows few less fits))
    ∙ on _ _ _ rest
    ∙ ap (λ x. Ok (x ∷ parts_chosen asked (suc c) few second.got)) (chosen_cells-fewer (is_chosen asked c) m d k p rows few less)
    ∙ ap (λ xs. Ok (parts_chosen asked c few xs)) e

-- the column under a number, cut, where it is asked for
part_chosen : (asked : Option (List ℕ)) (i few : ℕ) (cols : List (List Cell)) (j : ℕ) → is_chosen asked (i + j) ≡ true → column_or_none (slice_get (parts_chosen asked i few cols) j) ≡ take few (column_or_none (slice_get cols j))
part_chosen asked i few [] j h = sym (take-nil few)
part_chosen asked i few (x ∷ xs) zero h =
    let e : i + 0 ≡ i = omega arith in
    let here : is_chosen asked i ≡ true = rw e at h in
    rw here refl
part_chosen asked i few (x ∷ xs) (suc j) h =
    let e : i + suc j ≡ suc i + j = omega arith in
    part_chosen asked (suc i) few xs j (rw e at h)

nat_eq-same : (c : ℕ) → nat_eq c c ≡ true
nat_eq-same c = Rattle.std.proofs.lemmas.Bool.eq-eqb c c refl

-- each column asked for, cut
parts_asked : (all_of cs : List ℕ) (few : ℕ) (cols : List (List Cell)) → AllByRecursion (λ c. stands_in all_of c ≡ true) cs → map (λ c. column_or_none (slice_get (parts_chosen (Some all_of) 0 few cols) c)) cs ≡ map (λ x. take few x) (map (λ c. column_or_none (slice_get cols c)) cs)
parts_asked all_of [] few cols h = refl
parts_asked all_of (c ∷ cs) few cols h =
    let e : 0 + c ≡ c = omega arith in
    let here : is_chosen (Some all_of) (0 + c) ≡ true = rw e h.0 in
    let first = part_chosen (Some all_of) 0 few cols c here in
    let rest = parts_asked all_of cs few cols h.1 in
    ap (λ x. x ∷ map (λ c. column_or_none (slice_get (parts_chosen (Some all_of) 0 few cols) c)) cs) first ∙ ap (λ xs. take few (column_or_none (slice_get cols c)) ∷ xs) rest

stand_in_more : (x : ℕ) (xs cs : List ℕ) → AllByRecursion (λ c. stands_in xs c ≡ true) cs → AllByRecursion (λ c. stands_in (x ∷ xs) c ≡ true) cs
stand_in_more x xs [] h = tt
stand_in_more x xs (c ∷ cs) h = (Rattle.std.proofs.lemmas.Bool.or_right (nat_eq x c) (stands_in xs c) h.0, stand_in_more x xs cs h.1)

stand_in_themselves : (cs : List ℕ) → AllByRecursion (λ c. stands_in cs c ≡ true) cs
stand_in_themselves [] = tt
stand_in_themselves (c ∷ cs) = (or_left (nat_eq c c) (stands_in cs c) (nat_eq-same c), stand_in_more c cs cs (stand_in_themselves cs))

all_parts : (i few : ℕ) (cols : List (List Cell)) → parts_chosen None i few cols ≡ map (λ x. take few x) cols
all_parts i few [] = refl
all_parts i few (x ∷ xs) = ap (λ ys. take few x ∷ ys) (all_parts (suc i) few xs)

as_asked-parts : (asked : Option (List ℕ)) (few : ℕ) (cols : List (List Cell)) → as_asked asked (parts_chosen asked 0 few cols) ≡ map (λ x. take few x) (as_asked asked cols)
as_asked-parts None few cols = all_parts 0 few cols
as_asked-parts (Some cs) few cols = parts_asked cs cs few cols (stand_in_themselves cs)

-- ── batches ──

-- a batch of the whole file, projected and cut
abbrev pub cut_batch : Option (List ℕ) → Option ℕ → TableBatch → TableBatch
cut_batch asked left x = record { rows = share left x.rows; columns = map (λ cells. take (share left x.rows) cells) (as_asked asked x.columns); custom = x.custom }

-- what is asked of each batch of a file
abbrev pub asked_of : Order → Fields → Dictionaries → ℕ → Option (List ℕ) → Asked
asked_of order fs d most asked = record { order = order; fields = fs; columns = asked; dictionaries = d; most = most }

share-below : (left : Option ℕ) (n : ℕ) → share left n ≤ n
share-below None n = omega arith
share-below (Some l) n = omega arith

tables-cut : (order : Order) (fs : Fields) (d : Dictionaries) (most : ℕ) (asked : Option (List ℕ)) (v : MetadataVersion) (custom : Metadata) (tables : BatchHeader) (body : List ℕ) (left : Option ℕ) (x : TableBatch) → batch_of_tables to_read (asked_of order fs d most None) v custom tables body None ≡ Ok x → batch_of_tables to_read (asked_of order fs d most asked) v custom tables body left ≡ Ok (cut_batch asked left x)
unfolding batch_of_tables
tables-cut order fs d most asked v custom tables body left x h =
    then _ _ _ x _ h λ u h'. then _ _ _ x _ h' λ rows h''. then _ _ _ x _ h'' λ u' h'''. then _ _ _ x _ h''' λ u'' whole.
    let got = went (columns_at _ d None fs 0 _ rows rows) _ x whole in
    let e : record { rows = rows; columns = got.got; custom = custom } ≡ x = no_size _ x got.rest in
    on _ _ _ (columns_at-fewer _ d asked fs 0 _ rows (share left rows) got.got (share-below left rows) got.first)
    ∙ on _ _ tt refl
    ∙ ap (λ cols. Ok (record { rows = share left rows; columns = cols; custom = custom })) (as_asked-parts asked (share left rows) got.got)
    ∙ ap (λ y. Ok (cut_batch asked left y)) e

batch-cut : (b : List ℕ) (order : Order) (fs : Fields) (d : Dictionaries) (most : ℕ) (asked : Option (List ℕ)) (block : FileBlock) (left : Option ℕ) (x : TableBatch) → batch_of to_read b (asked_of order fs d most None) block None ≡ Ok x → batch_of to_read b (asked_of order fs d most asked) block left ≡ Ok (cut_batch asked left x)
unfolding batch_of
batch-cut b order fs d most asked block left x h = then _ _ _ x _ h λ m h'. then _ _ _ x _ h' λ tables h''. then _ _ _ x _ h'' λ version h'''. then _ _ _ x _ h''' λ custom h4. tables-cut order fs d most asked version custom tables _ left x h4

-- batches of the whole file, projected
abbrev pub projected : Option (List ℕ) → List TableBatch → List TableBatch
projected asked xs = map (λ x. record { rows = x.rows; columns = as_asked asked x.columns; custom = x.custom }) xs

batches-cut : (b : List ℕ) (order : Order) (fs : Fields) (d : Dictionaries) (most : ℕ) (asked : Option (List ℕ)) (is_first : Bool) (blocks : List FileBlock) (left : Option ℕ) (xs : List TableBatch) → batches_of to_read b (asked_of order fs d most None) is_first blocks None ≡ Ok xs → batches_of to_read b (asked_of order fs d most asked) is_first blocks left ≡ Ok (cut_batches (projected asked xs) left)
unfolding batches_of
batches-cut b order fs d most asked is_first [] left xs h = let e : [] ≡ xs = cc in ap (λ ys. Ok (cut_batches (projected asked ys) left)) e
batches-cut b order fs d most asked is_first (block ∷ blocks) left xs h =
    let first = went (batch_of to_read b (asked_of order fs d most None) block None) _ xs h in
    let flag = went (dictionaries_sent is_first to_read (asked_of order fs d most None)) _ xs first.rest in
    let others = went (batches_of to_read b (asked_of order fs d most None) false blocks None) _ xs flag.rest in
    let e : first.got ∷ others.got ≡ xs = cc (others.rest) in
    on _ _ _ (batch-cut b order fs d most asked block left first.got first.first)
    ∙ on _ _ tt (no_dictionaries_sent is_first (asked_of order fs d most asked))
    ∙ on _ _ _ (batches-cut b order fs d most asked false blocks (what_is_left left (share left first.got.rows)) others.got others.first)
    ∙ ap (λ ys. Ok (cut_batches (projected asked ys) left)) e

-- ── the columns asked for ──

-- columns that are distinct and in range are right, behind others that are none of them
wrong_columns-none : (count : ℕ) (earlier cs : List ℕ) → IsDistinct nat_eq cs → AllByRecursion (λ c. c < count) cs → AllByRecursion (λ c. stands_in earlier c ≡ false) cs → wrong_columns count earlier cs ≡ Ok tt
unfolding IsDistinct
wrong_columns-none count earlier [] distinct in_range new = refl
wrong_columns-none count earlier (c ∷ cs) distinct in_range new =
    let here : unless (nat_lt c count && not (stands_in earlier c)) (Projection c) ≡ Ok tt = rw (and_from (nat_lt c count) (not (stands_in earlier c)) (lt-ltb c count in_range.0) (not_from_false (stands_in earlier c) new.0)) refl in
    on _ _ tt here ∙ wrong_columns-none count (c ∷ earlier) cs distinct.1 in_range.1 (behind_it c earlier cs distinct.0 new.1)
  where
    behind_it : (c : ℕ) (earlier cs : List ℕ) → AllByRecursion (λ y. nat_eq c y ≡ false) cs → AllByRecursion (λ y. stands_in earlier y ≡ false) cs → AllByRecursion (λ y. stands_in (c ∷ earlier) y ≡ false) cs
    behind_it c earlier [] h k = tt
    behind_it c earlier (y ∷ ys) h k = (or_from (nat_eq c y) (stands_in earlier y) h.0 k.0, behind_it c earlier ys h.1 k.1)

none_before : (cs : List ℕ) → AllByRecursion (λ c. stands_in [] c ≡ false) cs
none_before [] = tt
none_before (c ∷ cs) = (refl, none_before cs)

columns-right : (asked : Option (List ℕ)) (count : ℕ) → AreAskedColumns asked count → columns_right asked count ≡ Ok tt
columns-right None count h = refl
columns-right (Some cs) count h = wrong_columns-none count [] cs h.distinct h.in_range (none_before cs)

floats-cut : (chosen : Bool) (xs : List IpcError) → xs ≡ [] → cond chosen xs [] ≡ []
floats-cut true xs h = h
floats-cut false xs h = refl

chosen_floats-fewer : (asked : Option (List ℕ)) (fs : Fields) (c : ℕ) → chosen_floats None fs c ≡ [] → chosen_floats asked fs c ≡ []
chosen_floats-fewer asked none c h = refl
chosen_floats-fewer asked (field name nullable metadata k others) c h = none_both _ _ (floats-cut (is_chosen asked c) (float_faults k) (none_first _ _ h)) (chosen_floats-fewer asked others (suc c) (none_second (float_faults k) _ h))

width-bare : (fs : Fields) → width (bare fs) ≡ width fs
width-bare none = refl
width-bare (field name nullable metadata k others) = ap suc (width-bare others)

bare-with_field_at : (fs : Fields) (c : ℕ) (others : Fields) → bare (with_field_at fs c others) ≡ with_field_at (bare fs) c (bare others)
bare-with_field_at none c others = refl
bare-with_field_at (field name nullable metadata k fs) zero others = refl
bare-with_field_at (field name nullable metadata k fs) (suc c) others = bare-with_field_at fs c others

bare-fields_asked : (fs : Fields) (cs : List ℕ) → bare (fields_asked fs cs) ≡ fields_asked (bare fs) cs
bare-fields_asked fs [] = refl
bare-fields_asked fs (c ∷ cs) = bare-with_field_at fs c (fields_asked fs cs) ∙ ap (λ others. with_field_at (bare fs) c others) (bare-fields_asked fs cs)

bare-fields_as_asked : (asked : Option (List ℕ)) (fs : Fields) → bare (fields_as_asked asked fs) ≡ fields_as_asked asked (bare fs)
bare-fields_as_asked None fs = refl
bare-fields_as_asked (Some cs) fs = bare-fields_asked fs cs

-- ── the file ──

-- where the columns asked for are right in the whole file, under a request it means the cut of the projection of what it means whole
pub file-cut : (b : List ℕ) (r : Request) (t : ArrowTable) → ((meta : Meta) → meta_of b ≡ Ok meta → width t.fields ≡ width meta.schema.fields → columns_right r.columns (width meta.schema.fields) ≡ Ok tt) → file_reading to_read b «all» None ≡ Ok t
    → file_reading to_read b r None ≡ Ok (cut (project t r.columns) r.limit)
unfolding file_reading
file-cut b r t are_right h =
    let meta = went (meta_of b) _ t h in
    let schema = meta.got.schema in
    let custom = went (custom_of b) _ t meta.rest in
    let right = went (columns_right None (width schema.fields)) _ t custom.rest in
    let floats = went (free_of (chosen_floats None schema.fields 0)) _ t right.rest in
    let no_floats : chosen_floats None schema.fields 0 ≡ [] = place-ok _ floats.first in
    let size = went nothing _ t floats.rest in
    let read = went (dictionaries_of b meta.got [] (dictionaries_read meta.got.blocks meta.got.dictionaries)) _ t size.rest in
    let whole = went (batches_of to_read b (asked_of schema.order schema.fields read.got (length b) None) true meta.got.blocks None) _ t read.rest in
    let e : record { metadata = schema.metadata; custom = custom.got; fields = bare schema.fields; batches = whole.got } ≡ t = same_read _ t whole.rest in
    let count : width t.fields ≡ width schema.fields = ap (λ y. width y.fields) (sym e) ∙ width-bare schema.fields in
    on _ _ meta.got meta.first
    ∙ on _ _ custom.got custom.first
    ∙ on _ _ tt (are_right meta.got meta.first count)
    ∙ on _ _ tt (ok-place _ (chosen_floats-fewer r.columns schema.fields 0 no_floats))
    ∙ on _ _ tt refl
    ∙ on _ _ read.got read.first
    ∙ on _ _ _ (batches-cut b schema.order schema.fields read.got (length b) r.columns true meta.got.blocks r.limit whole.got whole.first)
    ∙ ap (λ fs. Ok (record { metadata = schema.metadata; custom = custom.got; fields = fs; batches = cut_batches (projected r.columns whole.got) r.limit })) (bare-fields_as_asked r.columns schema.fields)
    ∙ ap (λ y. Ok (cut (project y r.columns) r.limit)) e

pub projects_and_cuts : ProjectsAndCuts
unfolding file_table
projects_and_cuts b t r h columns = ap meaning (file-cut b r t (λ meta is count. columns-right r.columns (width meta.schema.fields) (subst (λ n. AreAskedColumns r.columns n) count columns)) (some_meaning _ t h))
