-- Columns that were read, as they stand in a stream: under the kinds of its fields, whose dictionaries have new ids.
use Rattle.std.proofs.Common.{◌≡◌, ℕ, zero, suc, ◌+◌, List, [], ◌∷◌, Bool, true, map, refl, sym, ap, subst, ◌∙◌, pos}
use Rattle.arrow_spec.specs.Kinds as kind
use Rattle.arrow_spec.specs.Kinds.{Kind, Fields, Metadata, none, field, dictionary_count, numbered, numbered_kind}
use Rattle.arrow_spec.specs.Counts.{RecordBatch, Place, after}
use Rattle.arrow_spec.specs.Arrays.{Dictionaries}
use Rattle.arrow_spec.specs.Faults.{array_faults}
use Rattle.arrow_spec.specs.Files.{with_field_at}
use Rattle.arrow_spec.specs.Sent.{also_written, top_written}
use Rattle.ipc_write.proofs.Below.{same_itself, parts_sound, alike_by}
use Rattle.ipc_write.specs.Below.{is_carried, Parts, cells_in, kind_in, columns_read, Held, HoldsCells, HoldsFields, HoldsKinds, parts_read, plain_kind, plain_fields, HoldsValuesAt, first_kind, is_alike, other_fields, with_kind}
use Rattle.laws_transcode.specs.Below.{WrittenColumn, written_of, IsKnown, Known}
use Rattle.laws_transcode.proofs.Below.{written_of_cons, written_of_one}
use Rattle.laws_transcode.specs.Sending.{AllAreKnown, AreKnown}
use Rattle.laws_transcode.proofs.ChosenColumns.{made_of}
use Rattle.laws_columns.proofs.ReadValues.{read_values_at}
use Rattle.ipc_write.specs.Batches.{top_column}
use Rattle.ipc_write.specs.Encoding.{AllMean, AreAlike, HoldAllValues, columns_under}
use Rattle.laws_columns.proofs.TopColumns.{top_sent}

-- ── by their numbers ──

-- the columns that were read are what is made of each kind at its place
pub columns_made : (m : RecordBatch) (h : Held) (fs : Fields) (p : Place) (rows : ℕ) → made_of (λ k at. parts_read m h k at rows) m fs p ≡ columns_read m h fs p rows
columns_made m h none p rows = refl
columns_made m h (field name nullable metadata k others) p rows = ap (λ qs. parts_read m h k p rows ∷ qs) (columns_made m h others (after m k p) rows)

-- what is held for some fields is held for each one of them
pub held_at : (h : Held) (fs : Fields) (i : ℕ) (name : List ℕ) (nullable : Bool) (metadata : Metadata) (k : Kind) → HoldsFields h fs → with_field_at fs i none ≡ field name nullable metadata k none → HoldsKinds h k
held_at h none i name nullable metadata k holds e = cc
held_at h (field n b m j fs) zero name nullable metadata k holds e = let same : j ≡ k = cc in subst (λ x. HoldsKinds h x) same holds.0
held_at h (field n b m j fs) (suc i) name nullable metadata k holds e = held_at h fs i name nullable metadata k holds.1 e

-- ── under new ids ──

mutual
  plain_numbered : (k : Kind) (id : ℕ) → plain_kind (numbered_kind k id) ≡ plain_kind k
  plain_numbered (kind.«list» o fs) id = ap (λ gs. kind.«list» o gs) (fields_numbered fs id)
  plain_numbered (kind.fixed_size_list size fs) id = ap (λ gs. kind.fixed_size_list size gs) (fields_numbered fs id)
  plain_numbered (kind.struct fs) id = ap kind.struct (fields_numbered fs id)
  plain_numbered (kind.map sorted fs) id = ap (λ gs. kind.map sorted gs) (fields_numbered fs id)
  plain_numbered (kind.union mode stated ids fs) id = ap (λ gs. kind.union mode stated ids gs) (fields_numbered fs id)
  plain_numbered (kind.dictionary t ordered old k) id = ap (λ l. kind.dictionary t ordered (pos 0) l) (plain_numbered k (suc id))
  plain_numbered (kind.extension name metadata k) id = ap (λ l. kind.extension name metadata l) (plain_numbered k id)
  plain_numbered k id = refl

  fields_numbered : (fs : Fields) (id : ℕ) → plain_fields (numbered fs id) ≡ plain_fields fs
  fields_numbered none id = refl
  fields_numbered (field name nullable metadata k others) id = rw (plain_numbered k id, fields_numbered others (id + dictionary_count k)) refl

alike_read : (j k : Kind) (id : ℕ) → j ≡ plain_kind k → is_alike j (numbered_kind k id) ≡ true
alike_read j k id e = alike_by j (numbered_kind k id) (rw (e, plain_numbered k id) (same_itself (plain_kind k)))

-- an array is of a kind without its ids, and its dictionaries' values are known under new ids where they are known as they were read
pub record IsReadOf (d : Dictionaries) (k : Kind) (q : Parts) : Type 0 where
  pub alike : (id : ℕ) → is_alike (kind_in q) (numbered_kind k id) ≡ true
  pub values : (id : ℕ) (c : Known) (e : Dictionaries) → AreKnown d k id c → IsKnown c e → HoldsValuesAt e (numbered_kind k id) q

-- a column that was read is such an array, and is written as is to be written of the record batch
pub column_sent : (m : RecordBatch) (d : Dictionaries) (h : Held) (k : Kind) (p : Place) (rows : ℕ) → HoldsCells d h → HoldsKinds h k → is_carried k ≡ true → array_faults m d k p rows ≡ []
    → IsReadOf d k (parts_read m h k p rows) × (top_written m k p rows ≡ written_of (top_column (parts_read m h k p rows) ∷ []))
column_sent m d h k p rows holds kinds carried fine =
    let sound = parts_sound m d h k p rows holds kinds carried fine in (
      record {
        alike = λ id. alike_read (kind_in (parts_read m h k p rows)) k id sound.same_kind;
        values = λ id c e known told. read_values_at m h d k p rows id c e holds known told;
      },
      top_sent m d h k p rows holds kinds carried fine,
    )

-- ── several ──

-- the arrays of some fields
abbrev pub AreReadOf : Dictionaries → Fields → List Parts → Type 0
AreReadOf d none [] = Unit {0}
AreReadOf d none (q ∷ qs) = ⊥
AreReadOf d (field name nullable metadata k others) [] = ⊥
AreReadOf d (field name nullable metadata k others) (q ∷ qs) = IsReadOf d k q × AreReadOf d others qs

-- they are of kinds alike to those of the stream's fields
pub alike_under : (d : Dictionaries) (fs : Fields) (id : ℕ) (qs : List Parts) → AreReadOf d fs qs → AreAlike (numbered fs id) qs
alike_under d none id [] are = tt
alike_under d none id (q ∷ qs) are = absurd are
alike_under d (field name nullable metadata k others) id [] are = absurd are
alike_under d (field name nullable metadata k others) id (q ∷ qs) are = (are.0.alike id, alike_under d others (id + dictionary_count k) qs are.1)

-- their dictionaries' values are known under the stream's ids
pub values_under : (d : Dictionaries) (fs : Fields) (id : ℕ) (qs : List Parts) (c : Known) (e : Dictionaries) → AreReadOf d fs qs → AllAreKnown d fs id c → IsKnown c e → HoldAllValues e (numbered fs id) qs
values_under d none id [] c e are known told = tt
values_under d none id (q ∷ qs) c e are known told = absurd are
values_under d (field name nullable metadata k others) id [] c e are known told = absurd are
values_under d (field name nullable metadata k others) id (q ∷ qs) c e are known told =
    (are.0.values id c e known.0 told, values_under d others (id + dictionary_count k) qs c e are.1 known.1 told)

-- ── as they are written ──

-- under whatever kinds columns have the arrays' cells
pub cells_under : (fs : Fields) (rows : ℕ) (qs : List Parts) → AllMean rows qs → map (λ (x : WrittenColumn). x.cells) (columns_under fs qs) ≡ map cells_in qs
cells_under fs rows [] good = refl
cells_under fs rows (q ∷ qs) good = rw (good.0.cells, cells_under (other_fields fs) rows qs good.1) refl

one_written : (k : Kind) (c : WrittenColumn) → written_of (with_kind k c ∷ []) ≡ written_of (c ∷ [])
one_written k c = written_of_one (with_kind k c) ∙ sym (written_of_one c)

-- and are written as the arrays are
pub written_under : (fs : Fields) (qs : List Parts) → written_of (columns_under fs qs) ≡ written_of (map top_column qs)
written_under fs [] = refl
written_under fs (q ∷ qs) =
    let behind = columns_under (other_fields fs) qs in
    written_of_cons (with_kind (first_kind fs) (top_column q)) behind ∙ ap (λ w. also_written w (written_of behind)) (one_written (first_kind fs) (top_column q))
    ∙ ap (also_written (written_of (top_column q ∷ []))) (written_under (other_fields fs) qs) ∙ sym (written_of_cons (top_column q) (map top_column qs))
