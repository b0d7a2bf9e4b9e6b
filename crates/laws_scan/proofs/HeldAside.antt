-- What is written of the rows of columns does not hang on the values of their dictionaries.
use Rattle.std.proofs.Common.{◌≡◌, ◌∙◌, refl, ap, ℕ, zero, suc, List, [], ◌∷◌, ◌++◌, map, Option, Some, None, slice_get}
use Rattle.std.specs.Prelude.{option_map}
use Rattle.arrow_spec.specs.Counts.{Place, RecordBatch, after, inside, union_buffers}
use Rattle.arrow_spec.specs.Kinds as kind
use Rattle.arrow_spec.specs.Kinds.{Fields, Kind, «list», dictionary, extension, field, fixed_size_list, small, struct, union}
use Rattle.arrow_spec.specs.Sent.{dense_rows, offset_read}
use Rattle.arrow_spec.specs.declared.types.UnionMode.TheVariants.{Dense, Sparse}
use Rattle.arrow_arrays.specs.Heads.{Cut, Head, Indexed, indexed, listed, mapped, run, sized, structured, tagged, whole}
use Rattle.arrow_arrays.specs.Parts.{Forest, Parts, also, nested, rows_in}
use Rattle.ipc_read_laws.specs.Batches.{columns_read}
use Rattle.ipc_read_laws.specs.Held.{Held}
use Rattle.ipc_read_laws.specs.PartsRead.{counted_read, forest_read, listed_read, parts_under, places_read, tagged_read}
use Rattle.ipc_read_laws.specs.PlainKinds.{plain_kind}
use Rattle.ipc_write_arrays.specs.Trims.{head_trim, held_by, sent, sent_under, trim, trim_each}
use Rattle.ipc_write.specs.Compaction.{top}
use Rattle.array_filter.specs.Rows.{if_any, taken}
use Rattle.array_filter.specs.Taken.{Left, all_rows, each_taken, head_taken, left_of, rows_taken, these_rows}

-- ── a tree, and the rows that are left of it ──

abbrev pick : Left → Parts → Parts
pick all_rows p = p
pick (these_rows ns) p = rows_taken ns p

rows_by_head : (l : Left) (h : Head) (cs ds : Forest) → rows_in (pick l (nested h cs)) ≡ rows_in (pick l (nested h ds))
rows_by_head all_rows h cs ds = refl
rows_by_head (these_rows ns) h cs ds = refl

trim_by_head : (l : Left) (h : Head) (cs ds : Forest) (o n : ℕ) → ((c : Cut) (l : Left) → trim_each c (each_taken l cs) ≡ trim_each c (each_taken l ds)) → trim o n (pick l (nested h cs)) ≡ trim o n (pick l (nested h ds))
trim_by_head all_rows h cs ds o n same = ap (λ es. nested (head_trim o n h) (sent_under h es)) (same (held_by o n h) all_rows)
trim_by_head (these_rows ns) h cs ds o n same = ap (λ es. nested (head_trim o n (head_taken ns h)) (sent_under (head_taken ns h) es)) (same (held_by o n (head_taken ns h)) (left_of ns h))

-- of a dictionary the keys alone
keys_alone : (l : Left) (d : Indexed) (cs ds : Forest) (o n : ℕ) → trim o n (pick l (nested (indexed d) cs)) ≡ trim o n (pick l (nested (indexed d) ds))
keys_alone all_rows d cs ds o n = refl
keys_alone (these_rows ns) d cs ds o n = refl

-- one tree more
also_same : (p q : Parts) (cs ds : Forest) → ((l : Left) → rows_in (pick l p) ≡ rows_in (pick l q)) → ((l : Left) (o n : ℕ) → trim o n (pick l p) ≡ trim o n (pick l q)) → ((l : Left) (c : Cut) → trim_each c (each_taken l cs) ≡ trim_each c (each_taken l ds)) → (l : Left) (c : Cut)
    → trim_each c (each_taken l (also p cs)) ≡ trim_each c (each_taken l (also q ds))
also_same p q cs ds rows one others all_rows whole =
    ap (λ n. also (trim 0 n p) (trim_each whole cs)) (rows all_rows) ∙ ap (λ x. also x (trim_each whole cs)) (one all_rows 0 (rows_in q)) ∙ ap (λ xs. also (trim 0 (rows_in q) q) xs) (others all_rows whole)
also_same p q cs ds rows one others all_rows (run o n) = ap (λ x. also x (trim_each (run o n) cs)) (one all_rows o n) ∙ ap (λ xs. also (trim o n q) xs) (others all_rows (run o n))
also_same p q cs ds rows one others (these_rows ns) whole =
    ap (λ n. also (trim 0 n (rows_taken ns p)) (trim_each whole (each_taken (these_rows ns) cs))) (rows (these_rows ns))
    ∙ ap (λ x. also x (trim_each whole (each_taken (these_rows ns) cs))) (one (these_rows ns) 0 (rows_in (rows_taken ns q)))
    ∙ ap (λ xs. also (trim 0 (rows_in (rows_taken ns q)) (rows_taken ns q)) xs) (others (these_rows ns) whole)
also_same p q cs ds rows one others (these_rows ns) (run o n) =
    ap (λ x. also x (trim_each (run o n) (each_taken (these_rows ns) cs))) (one (these_rows ns) o n) ∙ ap (λ xs. also (trim o n (rows_taken ns q)) xs) (others (these_rows ns) (run o n))

-- ── by the kind ──

module _ (m : RecordBatch) (h g : Held) where
  same_rows : (l : Kind) (k : Kind) (p : Place) (rows : ℕ) (left : Left) → rows_in (pick left (parts_under l m h k p rows)) ≡ rows_in (pick left (parts_under l m g k p rows))
  same_rows l («list» o fs) p rows left = rows_by_head left (listed (listed_read m l o p rows)) _ _
  same_rows l (kind.map sorted fs) p rows left = rows_by_head left (mapped (listed_read m l small p rows)) _ _
  same_rows l (fixed_size_list size fs) p rows left = rows_by_head left (sized (counted_read m l p rows)) _ _
  same_rows l (struct fs) p rows left = rows_by_head left (structured (counted_read m l p rows)) _ _
  same_rows l (union Sparse stated ids fs) p rows left = rows_by_head left (tagged (tagged_read m l p rows None)) _ _
  same_rows l (union Dense stated ids fs) p rows left = rows_by_head left (tagged (tagged_read m l p rows (Some (places_read m p rows)))) _ _
  same_rows l (dictionary t ordered id k) p rows left = rows_by_head left (indexed _) _ _
  same_rows l (extension name metadata k) p rows left = same_rows l k p rows left
  same_rows l k p rows left = refl

  mutual
    same_trim : (l : Kind) (k : Kind) (p : Place) (rows : ℕ) (left : Left) (o n : ℕ) → trim o n (pick left (parts_under l m h k p rows)) ≡ trim o n (pick left (parts_under l m g k p rows))
    same_trim l («list» w fs) p rows left o n = trim_by_head left (listed (listed_read m l w p rows)) _ _ o n (λ c x. same_forest fs (inside 2 p) (λ q. offset_read m w p rows) x c)
    same_trim l (kind.map sorted fs) p rows left o n = trim_by_head left (mapped (listed_read m l small p rows)) _ _ o n (λ c x. same_forest fs (inside 2 p) (λ q. offset_read m small p rows) x c)
    same_trim l (fixed_size_list size fs) p rows left o n = trim_by_head left (sized (counted_read m l p rows)) _ _ o n (λ c x. same_forest fs (inside 1 p) _ x c)
    same_trim l (struct fs) p rows left o n = trim_by_head left (structured (counted_read m l p rows)) _ _ o n (λ c x. same_forest fs (inside 1 p) (λ q. rows) x c)
    same_trim l (union Sparse stated ids fs) p rows left o n = trim_by_head left (tagged (tagged_read m l p rows None)) _ _ o n (λ c x. same_forest fs (inside (union_buffers m.version Sparse) p) (λ q. rows) x c)
    same_trim l (union Dense stated ids fs) p rows left o n = trim_by_head left (tagged (tagged_read m l p rows (Some (places_read m p rows)))) _ _ o n (λ c x. same_forest fs (inside (union_buffers m.version Dense) p) (λ q. dense_rows m q rows) x c)
    same_trim l (dictionary t ordered id k) p rows left o n = keys_alone left _ _ _ o n
    same_trim l (extension name metadata k) p rows left o n = same_trim l k p rows left o n
    same_trim l k p rows left o n = refl

    same_forest : (fs : Fields) (p : Place) (rows : Place → ℕ) (left : Left) (c : Cut) → trim_each c (each_taken left (forest_read m h fs p rows)) ≡ trim_each c (each_taken left (forest_read m g fs p rows))
    same_forest kind.none p rows left c = refl
    same_forest (field name nullable metadata k others) p rows left c =
        also_same (parts_under (plain_kind k) m h k p (rows p)) (parts_under (plain_kind k) m g k p (rows p)) (forest_read m h others (after m k p) rows) (forest_read m g others (after m k p) rows) (λ l. same_rows (plain_kind k) k p (rows p) l)
        (λ l o n. same_trim (plain_kind k) k p (rows p) l o n) (λ l c. same_forest others (after m k p) rows l c) left c

  -- the rows that are taken of a column, as they are sent
  same_sent : (ns : List ℕ) (l : Kind) (k : Kind) (p : Place) (rows : ℕ) → sent (top (rows_taken ns (parts_under l m h k p rows))) ≡ sent (top (rows_taken ns (parts_under l m g k p rows)))
  same_sent ns l («list» w fs) p rows = same_trim l («list» w fs) p rows (these_rows ns) 0 _
  same_sent ns l (kind.map sorted fs) p rows = same_trim l (kind.map sorted fs) p rows (these_rows ns) 0 _
  same_sent ns l (fixed_size_list size fs) p rows = same_trim l (fixed_size_list size fs) p rows (these_rows ns) 0 _
  same_sent ns l (struct fs) p rows = same_trim l (struct fs) p rows (these_rows ns) 0 _
  same_sent ns l (union Sparse stated ids fs) p rows = same_trim l (union Sparse stated ids fs) p rows (these_rows ns) 0 _
  same_sent ns l (union Dense stated ids fs) p rows = same_trim l (union Dense stated ids fs) p rows (these_rows ns) 0 _
  same_sent ns l (dictionary t ordered id k) p rows = same_trim l (dictionary t ordered id k) p rows (these_rows ns) 0 _
  same_sent ns l (extension name metadata k) p rows = same_sent ns l k p rows
  same_sent ns l k p rows = refl

  -- ── columns ──

  abbrev pub sent_rows : List ℕ → List Parts → List Parts
  sent_rows ns ps = map (λ p. sent (top (rows_taken ns p))) ps

  pub same_columns : (ns : List ℕ) (fs : Fields) (p : Place) (rows : ℕ) → sent_rows ns (columns_read m h fs p rows) ≡ sent_rows ns (columns_read m g fs p rows)
  same_columns ns kind.none p rows = refl
  same_columns ns (field name nullable metadata k others) p rows = rw (same_sent ns (plain_kind k) k p rows, same_columns ns others (after m k p) rows) refl

-- those at some numbers
if_any-map : {A B : Type 0} (f : A → B) (o : Option A) → map f (if_any o) ≡ if_any (option_map f o)
if_any-map f None = refl
if_any-map f (Some x) = refl

get-map : {A B : Type 0} (f : A → B) (xs : List A) (i : ℕ) → option_map f (slice_get xs i) ≡ slice_get (map f xs) i
get-map f [] i = refl
get-map f (x ∷ xs) zero = refl
get-map f (x ∷ xs) (suc i) = get-map f xs i

map-append : {A B : Type 0} (f : A → B) (xs ys : List A) → map f (xs ++ ys) ≡ map f xs ++ map f ys
map-append f [] ys = refl
map-append f (x ∷ xs) ys = ap (λ zs. f x ∷ zs) (map-append f xs ys)

pub taken-map : {A B : Type 0} (f : A → B) (cs : List ℕ) (xs : List A) → map f (taken cs xs) ≡ taken cs (map f xs)
taken-map f [] xs = refl
taken-map f (c ∷ cs) xs = map-append f (if_any (slice_get xs c)) (taken cs xs) ∙ ap (λ zs. zs ++ map f (taken cs xs)) (if_any-map f (slice_get xs c) ∙ ap if_any (get-map f xs c)) ∙ ap (λ zs. if_any (slice_get (map f xs) c) ++ zs) (taken-map f cs xs)
