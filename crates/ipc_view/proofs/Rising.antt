-- What good offsets say of each row.
use Rattle.std.proofs.Common.{◌≡◌, ℕ, zero, suc, ◌+◌, ◌≤◌, ◌<◌, List, Bool, true, false, ◌-◌, inl, inr, refl, sym, ap, ◌∙◌, arith, subst}
use Rattle.std.specs.Prelude.{nat_le, nat_lt, not, ◌||◌}
use Rattle.std.proofs.lemmas.Bool.{cases_lt, or_parts, ltb-false, le-leb, le-ltb, lt-leb, lt-ltb}
use Rattle.arrow_spec.specs.Flat.{Order}
use Rattle.arrow_spec.specs.Faults.{some_row}
use Rattle.arrow_buffers.proofs.Rows.{none_below}
use Rattle.ipc_view.specs.Tests.{has_bad_offsets, has_fallen, is_below_zero, offset_place}

-- one of three tests says yes
pub bad_first : (a b c : Bool) → a ≡ true → false ≡ not (a || b || c)
bad_first a b c h = rw h refl

pub bad_second : (a b c : Bool) → b ≡ true → false ≡ not (a || b || c)
bad_second true b c h = refl
bad_second false b c h = rw h refl

-- two tests say no, and so the third decides
pub last_decides : (a b : Bool) (last limit : ℕ) → a ≡ false → b ≡ false → nat_le last limit ≡ not (a || b || nat_lt limit last)
last_decides a b last limit p q =
    rw (p, q) (elim (cases_lt limit last) [
      | inl h ↦ lt-leb last limit h ∙ sym (ap not (lt-ltb limit last h))
      | inr h ↦ le-leb last limit h ∙ sym (ap not (le-ltb limit last h))
    ])

climbs : (f : ℕ → ℕ) (rows : ℕ) → ((j : ℕ) → j < rows → f j ≤ f (suc j)) → (j more : ℕ) → j + more ≤ rows → f j ≤ f (j + more)
climbs f rows h j zero l = let e : j + 0 ≡ j = omega arith in rw e (omega arith)
climbs f rows h j (suc more) l =
    let e : j + suc more ≡ suc (j + more) = omega arith in
    rw e (omega (arith, climbs f rows h j more (omega (arith, l)), h (j + more) (omega (arith, l))))

-- a later offset is no smaller
pub rising : (bytes : List ℕ) (is_large : Bool) (order : Order) (rows limit : ℕ) → has_bad_offsets bytes is_large order rows limit ≡ false → (i j : ℕ) → i ≤ j → j ≤ rows → offset_place bytes is_large order i ≤ offset_place bytes is_large order j
rising bytes is_large order rows limit e i j l h =
    let f : ℕ → ℕ = offset_place bytes is_large order in
    let p = or_parts (some_row (is_below_zero bytes is_large order) (suc rows) || some_row (has_fallen bytes is_large order) rows) (nat_lt limit (f rows)) e in
    let q = or_parts (some_row (is_below_zero bytes is_large order) (suc rows)) (some_row (has_fallen bytes is_large order) rows) p.0 in
    let step : (k : ℕ) → k < rows → f k ≤ f (suc k) = λ k m. ltb-false (f (suc k)) (f k) (none_below (has_fallen bytes is_large order) rows q.1 k m) in
    let whole : i + (j - i) ≡ j = omega (arith, l) in
    subst (λ n. f i ≤ f n) whole (climbs f rows step i (j - i) (omega (arith, l, h)))

pub last_within : (bytes : List ℕ) (is_large : Bool) (order : Order) (rows limit : ℕ) → has_bad_offsets bytes is_large order rows limit ≡ false → offset_place bytes is_large order rows ≤ limit
last_within bytes is_large order rows limit e =
    let f : ℕ → ℕ = offset_place bytes is_large order in
    ltb-false limit (f rows) (or_parts (some_row (is_below_zero bytes is_large order) (suc rows) || some_row (has_fallen bytes is_large order) rows) (nat_lt limit (f rows)) e).1

-- a row between two offsets
pub record Good (bytes : List ℕ) (is_large : Bool) (order : Order) (limit row : ℕ) : Type 0 where
  pub rise : offset_place bytes is_large order row ≤ offset_place bytes is_large order (suc row)
  pub within : offset_place bytes is_large order (suc row) ≤ limit

pub good : (bytes : List ℕ) (is_large : Bool) (order : Order) (rows limit row : ℕ) → has_bad_offsets bytes is_large order rows limit ≡ false → row < rows → Good bytes is_large order limit row
good bytes is_large order rows limit row e h =
    record {
      rise = rising bytes is_large order rows limit e row (suc row) (omega arith) (omega (arith, h));
      within = omega (arith, rising bytes is_large order rows limit e (suc row) rows (omega (arith, h)) (omega arith), last_within bytes is_large order rows limit e);
    }
