-- What a call answers whose own call was refused.
use Rattle.std.proofs.Common.{◌≡◌, List, Result, Ok, Err, Bool, true, false, refl, sym, subst, ◌∙◌}
use Rattle.std.specs.Prelude.{not}
use Rattle.std.specs.Result.{IsErr, IsErrAnd}
use Rattle.arrow_spec.specs.declared.error.IpcError.{IpcError}
use Rattle.arrow_spec.specs.declared.error.IpcError.TheVariants.{Memory}
use Rattle.arrow_spec.specs.Readings.{Gives, Reading, Refuses, refusals}
use Rattle.ipc_view.specs.Answers.{Answers}

-- what is refused of a call is refused of its caller
pub err_from : {X : Type 0} → (r : Result X IpcError) (e : IpcError) (es : List IpcError) (G : X → Type 0) → IsErr r → IsErrAnd r (λ f. f ≡ e) → Refuses e es → Answers r es G
err_from (Ok x) e es G h p r = cc
err_from (Err f) e es G h p r = record { ok = tt; err = subst (λ g. Refuses g es) (sym p) r }

-- want of memory may always be answered
pub memory_from : {X : Type 0} → (r : Result X IpcError) (es : List IpcError) (G : X → Type 0) → IsErr r → IsErrAnd r (λ f. f ≡ Memory) → Answers r es G
memory_from (Ok x) es G h p = cc
memory_from (Err f) es G h p = record { ok = tt; err = subst (λ g. Refuses g es) (sym p) tt }

-- ── what a test says ──

pub is_bad : (b r : Bool) → r ≡ not b → r ≡ false → b ≡ true
is_bad true r h k = refl
is_bad false r h k = let e : true ≡ false = sym h ∙ k in cc

pub is_good : (b r : Bool) → r ≡ not b → r ≡ true → b ≡ false
is_good false r h k = refl
is_good true r h k = let e : false ≡ true = sym h ∙ k in cc

pub is_unset_false : (s r : Bool) → r ≡ not s → r ≡ false → s ≡ true
is_unset_false true r h k = refl
is_unset_false false r h k = let e : true ≡ false = sym h ∙ k in cc

-- the same of a call that gives what a reading says
pub gives_from : {X Y : Type 0} → (view : X → Y) (r : Result X IpcError) (e : IpcError) (read : Reading Y) → IsErr r → IsErrAnd r (λ f. f ≡ e) → Refuses e (refusals read) → Gives view r read
gives_from view (Ok x) e read h p r = cc
gives_from view (Err f) e read h p r = subst (λ g. Refuses g (refusals read)) (sym p) r
