-- Arrays of two kinds that lie in buffers in one way.
use Rattle.std.proofs.Common.{◌≡◌, ℕ, zero, suc, ◌++◌, Bool, Option, List, Result, Ok, Err, refl, sym, ap, subst, ◌∙◌}
use Rattle.arrow_spec.specs.declared.error.IpcError.{IpcError}
use Rattle.arrow_spec.specs.Readings.{Refuses}
use Rattle.arrow_spec.specs.Kinds as kind
use Rattle.arrow_spec.specs.Kinds.{Kind, Fields, Offsets, small}
use Rattle.arrow_spec.specs.Counts.{RecordBatch, Place, after}
use Rattle.arrow_spec.specs.Arrays.{Dictionaries}
use Rattle.arrow_spec.specs.ArrayCells.{cell}
use Rattle.arrow_spec.specs.Faults.{array_faults, view_count_faults}
use Rattle.arrow_types.specs.Physical.{under_extensions}
use Rattle.ipc_read.specs.Lists.{as_lists}
use Rattle.view_types.specs.Views.{View}
use Rattle.ipc_view.specs.declared.batch.ArrayPlace.{ArrayPlace}
use Rattle.ipc_view.specs.declared.batch.BatchTables.{BatchTables}
use Rattle.ipc_view.specs.Built.{batch_of, place_of}
use Rattle.ipc_view.specs.Nested.{Seen}

pub record SameAs (k l : Kind) : Type 0 where
  pub faults : (m : RecordBatch) (d : Dictionaries) (p : Place) (rows : ℕ) → array_faults m d k p rows ≡ array_faults m d l p rows
  pub cells : (m : RecordBatch) (d : Dictionaries) (p : Place) (row : ℕ) → cell m d k p row ≡ cell m d l p row
  pub behind : (m : RecordBatch) (p : Place) → after m k p ≡ after m l p
  pub counts : (m : RecordBatch) (p : Place) → view_count_faults m k p ≡ view_count_faults m l p

pub itself : (k : Kind) → SameAs k k
itself k = record { faults = λ m d p rows. refl; cells = λ m d p row. refl; behind = λ m p. refl; counts = λ m p. refl }

pub extended : (name : List ℕ) (metadata : Option (List ℕ)) (k l : Kind) → SameAs k l → SameAs (kind.extension name metadata k) l
extended name metadata k l s = record { faults = s.faults; cells = s.cells; behind = s.behind; counts = s.counts }

-- extensions are looked through
pub under_same : (k : Kind) → SameAs k (under_extensions k)
under_same (kind.extension name metadata k) = extended name metadata k (under_extensions k) (under_same k)
under_same k = itself k

map_faults : (m : RecordBatch) (d : Dictionaries) (sorted : Bool) (fs : Fields) (p : Place) (rows : ℕ) → array_faults m d (kind.map sorted fs) p rows ≡ array_faults m d (kind.«list» small fs) p rows
map_faults m d sorted fs p zero = refl
map_faults m d sorted fs p (suc n) = refl

-- and maps are lists
pub lists_same : (k : Kind) → SameAs k (as_lists k)
lists_same (kind.extension name metadata k) = extended name metadata k (as_lists k) (lists_same k)
lists_same (kind.map sorted fs) = record { faults = λ m d p rows. map_faults m d sorted fs p rows; cells = λ m d p row. refl; behind = λ m p. refl; counts = λ m p. refl }
lists_same k = itself k

-- what is seen of the one is seen of the other
pub seen_as : (t : BatchTables) (r : Result (View × ArrayPlace) IpcError) (k l : Kind) (p : ArrayPlace) (rows : ℕ) → SameAs k l → Seen t r l p rows → Seen t r k p rows
seen_as t (Ok x) k l p rows s h = λ d shows.
    let m = batch_of t in
    let q = place_of p in
    let a = (h d shows).ok in
    record {
      ok = (
        ap (λ es. es ++ view_count_faults m k q) (s.faults m d q rows) ∙ ap (λ es. array_faults m d l q rows ++ es) (s.counts m q) ∙ a.0,
        record {
          view = record { all_rows = a.1.view.all_rows; cells = λ row below. a.1.view.cells row below ∙ sym (s.cells m d q row) };
          next = a.1.next ∙ sym (s.behind m q);
          counts = a.1.counts;
        },
      );
      err = tt;
    }
seen_as t (Err e) k l p rows s h = λ d shows.
    let m = batch_of t in
    let q = place_of p in
    record {
      ok = tt;
      err = subst (λ es. Refuses e es) (sym (ap (λ es. es ++ view_count_faults m k q) (s.faults m d q rows) ∙ ap (λ es. array_faults m d l q rows ++ es) (s.counts m q))) (h d shows).err;
    }

pub seen_by : (t : BatchTables) (r : Result (View × ArrayPlace) IpcError) (k l x : Kind) (p : ArrayPlace) (rows : ℕ) → SameAs k l → l ≡ x → Seen t r x p rows → Seen t r k p rows
seen_by t r k l x p rows s e h = seen_as t r k l p rows s (subst (λ y. Seen t r y p rows) (sym e) h)
