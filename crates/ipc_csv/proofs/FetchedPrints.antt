-- How many bytes are fetched of a file that is printed.
use Rattle.std.proofs.Common.{◌≡◌, refl, subst, ℕ, List, Option, Some, None}
use Rattle.laws_walk.specs.Below.{FileCursor}
use Rattle.csv_rows.specs.declared.output.TextOut.{TextOut}
use Rattle.laws_walk.specs.Fetching.{FetchesTo}
use Rattle.laws_walk.specs.Places.{walking}
use Rattle.laws_walk.proofs.Fetched.{fetches_to_on, stays}
use Rattle.ipc_csv.proofs.AllPrints.{FromStart, PrintedSome}
use Rattle.ipc_csv.proofs.Nexts.{Told, printed_too}

module _ (c : FileCursor) (o : TextOut) (now : Option (List ℕ)) where
  -- of the blocks so far
  abbrev pub FetchedSome : Option (List ℕ) → ℕ → ℕ → ℕ → Type 0
  FetchedSome content to f f' = FromStart c o now content (λ x. FetchesTo (walking x) c.block to f f')

  pub nothing_fetched : (content : Option (List ℕ)) (f : ℕ) → FetchedSome content c.block f f
  nothing_fetched None f = tt
  nothing_fetched (Some b) f = λ x same is s. stays (walking x) c.block c.block f f refl s.so_far.walked.within refl

  pub more_fetched : (content after : Option (List ℕ)) (c' : FileCursor) (o' : TextOut) (now' : Option (List ℕ)) (batches rows calls to f g h : ℕ) → after ≡ content → c'.metadata ≡ c.metadata → c'.projection ≡ c.projection → PrintedSome c o now content c' o' now' batches rows calls
      → FetchedSome content c'.block f g → Told after c' o' now' (λ x bs. FetchesTo (walking x) c'.block to g h) → FetchedSome content to f h
  more_fetched content after c' o' now' batches rows calls to f g h same metadata projection printed before next = by content printed before (subst (λ z. Told z c' o' now' (λ x bs. FetchesTo (walking x) c'.block to g h)) same next)
    where
      by : (z : Option (List ℕ)) → PrintedSome c o now z c' o' now' batches rows calls → FetchedSome z c'.block f g → Told z c' o' now' (λ x bs. FetchesTo (walking x) c'.block to g h) → FetchedSome z to f h
      by None p b n = tt
      by (Some b) p before n = λ x told is start.
          let r = p x told is start in
          let here = n x r.0.table told (printed_too c c' x metadata projection is) r.0.so_far in
          fetches_to_on (walking x) c.block c'.block to f g h (before x told is start) here
