-- States, one after another.
use Rattle.std.proofs.Common.{◌≡◌, ℕ, zero, suc, ◌+◌, ◌*◌, ◌%◌, ◌^◌, List, [], ◌∷◌, ◌++◌, length, refl, sym, ap, ◌∙◌, arith}
use Rattle.std.proofs.Math.Nat.{mod-add-mod}
use Rattle.arrow_spec.specs.Arrays.{from_on}
use Rattle.arrow_buffers.proofs.Parts.{length-from_on}
use Rattle.ipc_generate.specs.Arrays.{states_behind}
use Rattle.ipc_generate.specs.Table.{state, step}
use Rattle.ipc_generate.proofs.Runs.{from_on_more}

pub step_is : (x y z : ℕ) → y ≡ (x * 6364136223846793005) % 2 ^ 64 → z ≡ (y + 1442695040888963407) % 2 ^ 64 → z ≡ step x
step_is x y z p q = q ∙ ap (λ n. (n + 1442695040888963407) % 2 ^ 64) p ∙ mod-add-mod (x * 6364136223846793005) (2 ^ 64) 1442695040888963407

pub none_behind : (at : ℕ) → at ≡ state at 0
unfolding state
none_behind at = refl

pub one_behind : (x at new i : ℕ) → at ≡ state x i → new ≡ step at → new ≡ state x (i + 1)
unfolding state
one_behind x at new i e s = s ∙ ap step e ∙ ap (state x) (let k : suc i ≡ i + 1 = omega arith in k)

pub no_states : (at : ℕ) (xs : List ℕ) → xs ≡ [] → xs ≡ states_behind at 0
unfolding states_behind
no_states at xs e = e

pub one_state : (at x i : ℕ) (xs more : List ℕ) → xs ≡ states_behind at i → x ≡ state at (i + 1) → more ≡ xs ++ x ∷ [] → more ≡ states_behind at (i + 1)
unfolding states_behind
one_state at x i xs more e s m =
    let f = λ (row : ℕ). state at (row + 1) in
    let k : suc i ≡ i + 1 = omega arith in
    let n : i + 1 ≡ (0 + i) + 1 = omega arith in
    m ∙ ap (λ l. l ++ x ∷ []) e ∙ ap (λ y. from_on f 0 i ++ y ∷ []) (s ∙ ap (state at) n) ∙ sym (from_on_more f 0 i) ∙ ap (from_on f 0) k

-- the states of a run behind a state of the run
pub state_behind : (seed a b : ℕ) → state (state seed a) b ≡ state seed (a + b)
unfolding state
state_behind seed a zero = ap (state seed) (let e : a ≡ a + 0 = omega arith in e)
state_behind seed a (suc b) = ap step (state_behind seed a b) ∙ ap (state seed) (let e : suc (a + b) ≡ a + suc b = omega arith in e)

pub length-states : (at n : ℕ) (xs : List ℕ) → xs ≡ states_behind at n → length xs ≡ n
unfolding states_behind
length-states at n xs e = ap length e ∙ length-from_on (λ row. state at (row + 1)) 0 n
