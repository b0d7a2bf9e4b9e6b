-- Batches that are read and printed one after another.
use Rattle.std.proofs.Common.{◌≡◌, ◌∙◌, sym, ap, subst, inl, inr, ◌⊎◌, ℕ, ◌+◌, ◌≤◌, List, [], ◌∷◌, ◌++◌, length, Option, Some, None, Result, Ok, Err, arith}
use Rattle.std.specs.Prelude.{IfSome, sum_by}
use Rattle.std.proofs.lemmas.List.{length-append}
use Rattle.std.proofs.lemmas.List.Sums.{sum_by_push}
use Rattle.arrow_spec.specs.declared.error.IpcError.{IpcError}
use Rattle.arrow_spec.specs.Files.{TableBatch}
use Rattle.laws_walk.specs.Below.{FileCursor}
use Rattle.laws_walk.specs.Places.{Sending, meta_in}
use Rattle.laws_walk.proofs.Cursors.{blocks_as}
use Rattle.laws_walk.specs.declared.summary.Summary.{Summary}
use Rattle.ipc_csv.specs.Printing.{IsPrintedBy, PrintedRows, PrintsAll, PrintsNext, PrintsOne}
use Rattle.csv_rows.specs.declared.output.TextOut.{TextOut}
use Rattle.ipc_csv.proofs.Nexts.{Told, printed_too}

module _ (c : FileCursor) (o : TextOut) (now : Option (List ℕ)) where
  -- what is said of a file whose first batch is still to be read
  abbrev pub FromStart : Option (List ℕ) → (Sending → Type 0) → Type 0
  FromStart content P = IfSome content (λ b. (x : Sending) → x.bytes ≡ b → IsPrintedBy c x → PrintedRows x c o now 0 0 → P x)

  -- so many calls have printed what there is of so many batches
  abbrev pub PrintedSome : Option (List ℕ) → FileCursor → TextOut → Option (List ℕ) → ℕ → ℕ → ℕ → Type 0
  PrintedSome content c' o' now' batches rows calls = FromStart content (λ x. PrintedRows x c' o' now' batches rows × ((calls ≤ c'.block) ⊎ (length (meta_in x).blocks ≤ c'.block)))

  pub begun : (content : Option (List ℕ)) → PrintedSome content c o now 0 0 0
  begun None = tt
  begun (Some b) = λ x same is s. (s, inl (omega arith))

  module _ (content after : Option (List ℕ)) (c' c2 : FileCursor) (o' o2 : TextOut) (now' now2 : Option (List ℕ)) (batches rows calls : ℕ) (same : after ≡ content) (metadata : c'.metadata ≡ c.metadata) (projection : c'.projection ≡ c.projection)
      (s : PrintedSome content c' o' now' batches rows calls) where
    -- what the next call prints
    abbrev pub NextOf : Result (Option ℕ) IpcError → Type 0
    NextOf r = Told after c' o' now' (λ x bs. PrintsNext r x c2 o2 now2 bs)

    next_as : (r : Result (Option ℕ) IpcError) → NextOf r → Told content c' o' now' (λ x bs. PrintsNext r x c2 o2 now2 bs)
    next_as r n = subst (λ z. Told z c' o' now' (λ x bs. PrintsNext r x c2 o2 now2 bs)) same n

    pub one_more : (k : ℕ) → NextOf (Ok (Some k)) → PrintedSome content c2 o2 now2 (batches + 1) (rows + k) (calls + 1)
    one_more k n = by content (next_as (Ok (Some k)) n) s
      where
        with : (x : Sending) (r : PrintedRows x c' o' now' batches rows) → (calls ≤ c'.block) ⊎ (length (meta_in x).blocks ≤ c'.block) → PrintsOne x c2 o2 now2 r.table k → PrintedRows x c2 o2 now2 (batches + 1) (rows + k) × ((calls + 1 ≤ c2.block) ⊎ (length (meta_in x).blocks ≤ c2.block))
        with x r at one =
            let length_more : length (r.table ++ one.batch ∷ []) ≡ length r.table + 1 = length-append r.table (one.batch ∷ []) in
            let further : c2.block ≡ c'.block + 1 = sym one.so_far.count ∙ length_more ∙ ap (λ n. n + 1) r.so_far.count in
            let all : sum_by (λ (b : TableBatch). b.rows) (r.table ++ one.batch ∷ []) ≡ sum_by (λ (b : TableBatch). b.rows) r.table + one.batch.rows = sum_by_push (λ (b : TableBatch). b.rows) r.table one.batch in (
              record { table = r.table ++ one.batch ∷ []; so_far = one.so_far; batches_are = ap (λ n. n + 1) r.batches_are ∙ sym length_more; rows_are = omega (arith, r.rows_are, one.height, all) },
              elim at [ inl early ↦ inl (omega (arith, early, further)) | inr late ↦ inr (omega (arith, late, further)) ],
            )

        by : (z : Option (List ℕ)) → Told z c' o' now' (λ x bs. PrintsNext (Ok (Some k)) x c2 o2 now2 bs) → PrintedSome z c' o' now' batches rows calls → PrintedSome z c2 o2 now2 (batches + 1) (rows + k) (calls + 1)
        by None next some = tt
        by (Some b) next some = λ x told is start.
            let r = some x told is start in
            with x r.0 r.1 (next x r.0.table told (printed_too c c' x metadata projection is) r.0.so_far)

    pub no_more : NextOf (Ok None) → PrintedSome content c2 o2 now2 batches rows (calls + 1)
    no_more n = by content (next_as (Ok None) n) s
      where
        by : (z : Option (List ℕ)) → Told z c' o' now' (λ x bs. PrintsNext (Ok None) x c2 o2 now2 bs) → PrintedSome z c' o' now' batches rows calls → PrintedSome z c2 o2 now2 batches rows (calls + 1)
        by None next some = tt
        by (Some b) next some = λ x told is start.
            let r = some x told is start in
            let here = next x r.0.table told (printed_too c c' x metadata projection is) r.0.so_far in
            (record { table = r.0.table; so_far = here.0; batches_are = r.0.batches_are; rows_are = r.0.rows_are }, inr here.1)

    pub refused : (e : IpcError) (result : Result Summary IpcError) → result ≡ Err e → NextOf (Err e) → FromStart content (λ x. PrintsAll result x c2 o2 now2)
    refused e result is_err n = by content (next_as (Err e) n) s
      where
        by : (z : Option (List ℕ)) → Told z c' o' now' (λ x bs. PrintsNext (Err e) x c2 o2 now2 bs) → PrintedSome z c' o' now' batches rows calls → FromStart z (λ x. PrintsAll result x c2 o2 now2)
        by None next some = tt
        by (Some b) next some = λ x told is start.
            let r = some x told is start in
            subst (λ w. PrintsAll w x c2 o2 now2) (sym is_err) (next x r.0.table told (printed_too c c' x metadata projection is) r.0.so_far)

  pub all_printed : (content : Option (List ℕ)) (c' : FileCursor) (o' : TextOut) (now' : Option (List ℕ)) (s : Summary) (calls : ℕ) → length c.metadata.blocks.items ≤ calls → PrintedSome content c' o' now' s.batches s.rows calls → FromStart content (λ x. PrintsAll (Ok s) x c' o' now')
  all_printed None c' o' now' s calls h some = tt
  all_printed (Some b) c' o' now' s calls h some = λ x told is start.
      let r = some x told is start in
      let same : length (meta_in x).blocks ≡ length c.metadata.blocks.items = blocks_as x c is.by in
      (r.0, elim r.1 [ inl early ↦ omega (arith, early, h, same) | inr late ↦ late ])
