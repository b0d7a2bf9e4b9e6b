-- A stream of the columns of a scan that is begun, or not.
use Rattle.std.proofs.Common.{◌≡◌, ◌⊎◌, inl, inr, refl, sym, subst, ℕ, List, [], ◌∷◌, Bool, true, false, Option, None, Some, Result, Ok, Err}
use Rattle.std.specs.Prelude.{IfErr, nat_lt, not, ◌&&◌}
use Rattle.arrow_spec.specs.declared.error.Feature.{Feature}
use Rattle.arrow_spec.specs.declared.error.Feature.TheVariants.{Predicate}
use Rattle.arrow_spec.specs.declared.error.IpcError.{IpcError}
use Rattle.arrow_spec.specs.declared.error.IpcError.TheVariants.{Projection, Unsupported}
use Rattle.arrow_spec.specs.Columns.{stands_in}
use Rattle.arrow_spec.specs.Features.{chosen_floats}
use Rattle.arrow_spec.specs.Files.{columns_right, wrong_columns}
use Rattle.arrow_spec.specs.Kinds.{Fields, width}
use Rattle.arrow_spec.specs.Readings.{◌>>=◌, IsAmong, Reading, bind, free_of, refusals, unless}
use Rattle.arrow_spec.proofs.Projection.{place-ok, went}
use Rattle.arrow_types.specs.Schemas.{fields_in}
use Rattle.ipc_bodies.specs.Encodings.{text_of}
use Rattle.ipc_bodies.specs.Puts.{Moved}
use Rattle.ipc_bodies.specs.declared.encoding.Encoding.{Encoding}
use Rattle.laws_walk.specs.Below.{HasBegun, LeavesAll, StartCause, StartFailed, StreamCore, meta_view, plain_fields}
use Rattle.laws_walk.specs.Places.{Sending, schema_of_reader}
use Rattle.laws_walk.specs.Sends.{IsNewWriter, IsWriter, SendCause, SentRows}
use Rattle.laws_walk.proofs.Begins as beginnings
use Rattle.laws_walk.proofs.Below.{refused_chosen}
use Rattle.laws_walk.proofs.Requests.{reader_shown}
use Rattle.laws_walk.proofs.StartCauses as causes
use Rattle.laws_scan.specs.Scan.{scan_right}
use Rattle.row_filters.specs.Filters.{is_tested}
use Rattle.filter_types.specs.declared.filter.Filter.{Filter}
use Rattle.ipc_scan.specs.Sends.{BeginsScan, IsReady, IsScannedBy, IsUnscanned, first_block, scanning}
use Rattle.ipc_scan.specs.declared.scanner.Scanner.{Scanner}

-- ── columns ──

-- columns that are right for a scan
pub record AreRight (columns : Option (List ℕ)) (fs : Fields) : Type 0 where
  pub right : columns_right columns (width fs) ≡ Ok tt
  pub readable : chosen_floats columns fs 0 ≡ []

pub are_right : (f : Filter) (columns : Option (List ℕ)) (fs : Fields) → scan_right f columns fs ≡ Ok tt → AreRight columns fs
are_right f columns fs h =
    let here = went (unless (nat_lt f.column (width fs)) (Projection f.column)) _ tt h in
    let right = went (columns_right columns (width fs)) _ tt here.rest in
    let tested = went (unless (is_tested fs f.column) (Unsupported Predicate)) _ tt right.rest in
    record { right = right.first; readable = place-ok _ tested.rest }

-- or are refused, by a number or for a feature
module _ (Q : IpcError → Type 0) (number : (i : ℕ) → Q (Projection i)) (feature : (x : Feature) → Q (Unsupported x)) where
  of_one : (t : Bool) (x e : IpcError) → Q x → IsAmong (refusals (unless t x)) e → Q e
  of_one true x e q h = absurd h
  of_one false x e q (inl h) = subst Q h q
  of_one false x e q (inr h) = absurd h

  of_two : (r : Reading (Unit {0})) (k : Unit {0} → Reading (Unit {0})) (e : IpcError) → (IsAmong (refusals r) e → Q e) → ((u : Unit {0}) → IsAmong (refusals (k u)) e → Q e) → IsAmong (refusals (r >>= k)) e → Q e
  unfolding bind
  of_two (Ok u) k e first second h = second u h
  of_two (Err es) k e first second h = first h

  of_numbers : (count : ℕ) (earlier cs : List ℕ) (e : IpcError) → IsAmong (refusals (wrong_columns count earlier cs)) e → Q e
  of_numbers count earlier [] e h = absurd h
  of_numbers count earlier (c ∷ cs) e h = of_two (unless (nat_lt c count && not (stands_in earlier c)) (Projection c)) (λ right. wrong_columns count (c ∷ earlier) cs) e (of_one (nat_lt c count && not (stands_in earlier c)) (Projection c) e (number c)) (λ right. of_numbers count (c ∷ earlier) cs e) h

  of_columns : (columns : Option (List ℕ)) (count : ℕ) (e : IpcError) → IsAmong (refusals (columns_right columns count)) e → Q e
  of_columns None count e h = absurd h
  of_columns (Some cs) count e h = of_numbers count [] cs e h

  of_place : (es : List IpcError) (e : IpcError) → IsAmong (refusals (free_of es)) e → IsAmong es e
  of_place [] e h = h
  of_place (x ∷ xs) e h = h

  pub not_right : (f : Filter) (columns : Option (List ℕ)) (fs : Fields) (e : IpcError) → IsAmong (refusals (scan_right f columns fs)) e → Q e
  not_right f columns fs e h =
      of_two (unless (nat_lt f.column (width fs)) (Projection f.column)) (λ here. columns_right columns (width fs) >>= λ right. unless (is_tested fs f.column) (Unsupported Predicate) >>= λ tested. free_of (chosen_floats columns fs 0)) e (of_one (nat_lt f.column (width fs)) (Projection f.column) e (number f.column))
      (λ here. of_two (columns_right columns (width fs)) (λ right. unless (is_tested fs f.column) (Unsupported Predicate) >>= λ tested. free_of (chosen_floats columns fs 0)) e (of_columns columns (width fs) e)
      (λ right. of_two (unless (is_tested fs f.column) (Unsupported Predicate)) (λ tested. free_of (chosen_floats columns fs 0)) e (of_one (is_tested fs f.column) (Unsupported Predicate) e (feature Predicate)) (λ tested k. refused_chosen Q feature columns fs 0 e (of_place (chosen_floats columns fs 0) e k))))
      h

-- ── a beginning ──

-- a stream of the columns may be begun
unbegun : (s : Scanner) (x : Sending) → IsUnscanned s x → beginnings.IsUnbegun (scanning s.filter x) (schema_of_reader s.reader) first_block
unbegun s x is =
    let are = are_right s.filter x.request.columns (meta_view x.file).schema.fields is.scanner.right in
    record {
      says = is.says;
      read = is.scanner.read;
      right = are.right;
      shown = reader_shown x.file x.request.columns s.reader is.scanner.metadata is.scanner.projects;
      opens = λ readable. is.scanner.right;
      floats = λ e among. absurd (subst (λ es. IsAmong es e) are.readable among);
      block = refl;
      dictionaries = refl;
      left = refl;
    }

module _ (x : Sending) (s : Scanner) (w w' : StreamCore) (m : Moved) (is : IsUnscanned s x) (new : IsNewWriter x.file x.encoding w) (old : m.old ≡ x.start) where
  -- it was put
  pub begun : HasBegun (text_of w.encoding) m w w' (schema_of_reader s.reader) None → IsScannedBy s x × SentRows (scanning s.filter x) first_block w' m.new 0 0
  begun h =
      let started = beginnings.begun (scanning s.filter x) (schema_of_reader s.reader) first_block w w' m (unbegun s x is) new old h in
      let are = are_right s.filter x.request.columns (meta_view x.file).schema.fields is.scanner.right in (
        record {
          by = record { metadata = is.scanner.metadata; columns = is.scanner.projects; file = record { read = is.says.read; pairs = is.says.pairs; columns = are.right; readable = started.readable }; read = is.scanner.read };
          scanner = is.scanner;
          limit = is.limit;
          small = started.may;
        },
        started.sent,
      )

  -- or not
  pub begins : (r : Result StreamCore IpcError) (e : IpcError) → r ≡ Err e → (StartCause e w (schema_of_reader s.reader) None × LeavesAll m w w') ⊎ StartFailed (text_of w.encoding) m e w w' (schema_of_reader s.reader) None → BeginsScan r x s m.new m.wants m.wants_now
  begins r e is_err h = subst (λ z. BeginsScan z x s m.new m.wants m.wants_now) (sym is_err) (beginnings.not_begun (scanning s.filter x) (schema_of_reader s.reader) first_block w w' m (unbegun s x is) new old e h)

module _ (s : Scanner) (encoded : Encoding) (w w' : StreamCore) (m : Moved) (ready : IsReady s) (new : IsNewWriter s.reader.metadata encoded w) where
  right : columns_right ready.0 (width (meta_view s.reader.metadata).schema.fields) ≡ Ok tt
  right = let are = are_right s.filter ready.0 (meta_view s.reader.metadata).schema.fields ready.1.right in are.right

  -- a writer that has begun
  pub writer_begun : plain_fields (fields_in (schema_of_reader s.reader)) ≡ fields_in (schema_of_reader s.reader) → HasBegun (text_of w.encoding) m w w' (schema_of_reader s.reader) None → IsWriter (schema_of_reader s.reader) encoded w'
  writer_begun plain h = causes.writer_begun s.reader.metadata ready.0 (schema_of_reader s.reader) encoded w w' m ready.1.read right (reader_shown s.reader.metadata ready.0 s.reader refl ready.1.projects) new plain h

  -- why it has not
  pub start_cause : (r : Result StreamCore IpcError) (e : IpcError) → r ≡ Err e → (StartCause e w (schema_of_reader s.reader) None × LeavesAll m w w') ⊎ StartFailed (text_of w.encoding) m e w w' (schema_of_reader s.reader) None → IfErr r (λ e. (reads reads' : ℕ) → SendCause e reads reads' m.faults m.faults_now)
  start_cause r e is h =
      subst (λ z. IfErr z (λ e. (reads reads' : ℕ) → SendCause e reads reads' m.faults m.faults_now)) (sym is)
      (λ reads reads'. causes.start_cause s.reader.metadata ready.0 (schema_of_reader s.reader) encoded w w' m ready.1.read right (reader_shown s.reader.metadata ready.0 s.reader refl ready.1.projects) new e reads reads' h)
