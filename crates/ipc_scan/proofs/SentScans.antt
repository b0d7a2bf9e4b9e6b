-- A scan that is read to be sent means what it means, but that a message may be too large.
use Rattle.std.proofs.Common.{◌≡◌, ◌∙◌, inl, inr, refl, sym, ap, subst, ℕ, List, [], ◌∷◌, Bool, true, false, Option, None, Ok, Err}
use Rattle.std.specs.Prelude.{IsSome, not, ◌&&◌}
use Rattle.arrow_spec.specs.declared.error.IpcError.{IpcError}
use Rattle.arrow_spec.specs.declared.error.IpcError.TheVariants.{TooLarge}
use Rattle.arrow_spec.specs.Files.{ArrowTable, Asked, FileBlock, TableBatch, batch_of, batch_of_tables, dictionaries_sent, if_sent, to_read, to_send}
use Rattle.arrow_spec.specs.Readings.{◌>>=◌, IsAmong, Reading, bind, is_absent, meaning, natural, refusals, unless}
use Rattle.arrow_spec.proofs.Projection.{on, went}
use Rattle.arrow_spec.proofs.Purposes.{Agrees, agrees_complete}
use Rattle.arrow_arrays.specs.Parts.{Parts}
use Rattle.ipc_files.specs.FileBlocks.{block_record}
use Rattle.ipc_files.proofs.BlockMessages.{batch_by_record}
use Rattle.laws_walk.specs.Walks.{blocks_walked, left_behind, walk_reading}
use Rattle.laws_scan.specs.Filtered.{any_marked, marked_batch}
use Rattle.laws_scan.specs.Scan.{block_marks, marked_columns, marked_fits, marked_message, marked_rows, met, only_where, scan_block, scan_may, scan_table}
use Rattle.filter_types.specs.declared.filter.Filter.{Filter}

-- ── readings one behind another ──

agrees_then : {A B : Type 0} (r : Reading A) {f g : A → Reading B} → ((x : A) → r ≡ Ok x → Agrees (f x) (g x)) → Agrees (r >>= f) (r >>= g)
unfolding bind
agrees_then (Ok x) k = k x refl
agrees_then (Err es) k = Agrees.same

agrees_bind : {A B : Type 0} {r s : Reading A} {f g : A → Reading B} → Agrees r s → ((x : A) → Agrees (f x) (g x)) → Agrees (r >>= f) (s >>= g)
unfolding bind
agrees_bind (Agrees.same {r = r}) k = agrees_then r (λ x is. k x)
agrees_bind Agrees.too_large k = Agrees.too_large

agrees_size : (ok : Bool) → Agrees (if_sent to_send ok) (if_sent to_read ok)
agrees_size true = Agrees.same
agrees_size false = Agrees.too_large

-- ── a block ──

-- the columns of a batch that can be read
columns_there : (b : List ℕ) (a : Asked) (block : FileBlock) (marks : List Bool) (whole : TableBatch) → batch_of to_read b a block None ≡ Ok whole → (ps : List Parts) × (marked_columns b a block marks ≡ Ok ps)
unfolding marked_columns batch_of_tables
columns_there b a block marks whole h =
    let m = went (block_record b block) _ whole (sym (batch_by_record to_read b a block None) ∙ h) in
    let plain = went (unless _ _) _ whole m.rest in
    let rows = went (natural m.got.tables.length) _ whole plain.rest in
    (_, on (block_record b block) _ m.got m.first ∙ on _ _ rows.got rows.first)

module _ (b : List ℕ) (f : Filter) (a : Asked) where
  fits_agree : (block : FileBlock) (marks : List Bool) (whole : TableBatch) → batch_of to_read b a block None ≡ Ok whole → Agrees (marked_fits to_send b a block marks whole) (marked_fits to_read b a block marks whole)
  unfolding marked_message
  fits_agree block marks whole is =
      let ps = columns_there b a block marks whole is in
      let message = on _ _ ps.0 ps.1 in
      subst (λ r. Agrees r (marked_fits to_read b a block marks whole)) (sym (on _ _ _ message)) (agrees_size _)

  rows_agree : (block : FileBlock) (marks : List Bool) → Agrees (marked_rows to_send b a block marks) (marked_rows to_read b a block marks)
  unfolding marked_rows
  rows_agree block marks = by (any_marked marks)
    where
      by : (any : Bool) → Agrees (only_where any (batch_of to_read b a block None >>= λ whole. marked_fits to_send b a block marks whole >>= λ size. Ok (marked_batch marks whole))) (only_where any (batch_of to_read b a block None >>= λ whole. marked_fits to_read b a block marks whole >>= λ size. Ok (marked_batch marks whole)))
      by false = Agrees.same
      by true = agrees_bind (agrees_then (batch_of to_read b a block None) (λ whole is. agrees_bind (fits_agree block marks whole is) (λ size. Agrees.same))) (λ x. Agrees.same)

  block_agrees : (block : FileBlock) → Agrees (scan_block f to_send b a block) (scan_block f to_read b a block)
  unfolding scan_block
  block_agrees block = agrees_then (block_marks f b a block) (λ marks is. rows_agree block marks)

  dictionaries_agree : (is_first : Bool) → Agrees (dictionaries_sent is_first to_send a) (dictionaries_sent is_first to_read a)
  dictionaries_agree true = agrees_size _
  dictionaries_agree false = Agrees.same

  -- ── blocks ──

  blocks_agree : (columns : Option (List ℕ)) (is_first : Bool) (blocks : List FileBlock) (left : Option ℕ) → Agrees (blocks_walked to_send b (met f columns) a is_first blocks left) (blocks_walked to_read b (met f columns) a is_first blocks left)
  unfolding blocks_walked
  blocks_agree columns is_first [] left = Agrees.same
  blocks_agree columns is_first (block ∷ blocks) left =
      agrees_bind (block_agrees block) λ here. agrees_bind (dictionaries_agree (is_first && not (is_absent here))) λ sent. agrees_bind (blocks_agree columns (is_first && is_absent here) blocks (left_behind left here)) λ others. Agrees.same

-- ── a file ──

scan_agrees : (b : List ℕ) (f : Filter) (columns : Option (List ℕ)) → Agrees (walk_reading to_send b (met f columns) None) (walk_reading to_read b (met f columns) None)
unfolding walk_reading
scan_agrees b f columns = agrees_then _ λ meta m. agrees_then _ λ custom c. agrees_then _ λ right r. agrees_bind (agrees_size _) λ size. agrees_then _ λ d h. agrees_bind (blocks_agree b f _ columns true _ None) λ batches. Agrees.same

-- so a file of which a scan means a table is refused as too large alone
pub may_only : (b : List ℕ) (f : Filter) (columns : Option (List ℕ)) (e : IpcError) → IsSome (scan_table b f columns) → scan_may b f columns e → e ≡ TooLarge
unfolding scan_table
may_only b f columns e some may = by (walk_reading to_read b (met f columns) None) refl some
  where
    among : (r : Reading ArrowTable) → r ≡ Err (TooLarge ∷ []) → IsAmong (refusals r) e → e ≡ TooLarge
    among (Ok t) is h = absurd h
    among (Err es) is h = one (subst (λ z. IsAmong (refusals z) e) is h)
      where
        one : IsAmong (TooLarge ∷ []) e → e ≡ TooLarge
        one (inl k) = sym k
        one (inr k) = absurd k

    none : (r : Reading ArrowTable) (t : ArrowTable) → r ≡ Ok t → IsAmong (refusals r) e → e ≡ TooLarge
    none (Ok u) t is h = absurd h
    none (Err es) t is h = cc

    by : (r : Reading ArrowTable) → walk_reading to_read b (met f columns) None ≡ r → IsSome (meaning r) → e ≡ TooLarge
    by (Err es) is h = cc
    by (Ok t) is h = elim (agrees_complete (scan_agrees b f columns) (ap meaning is)) [ inl ok ↦ none (walk_reading to_send b (met f columns) None) t ok may | inr large ↦ among (walk_reading to_send b (met f columns) None) large may ]
