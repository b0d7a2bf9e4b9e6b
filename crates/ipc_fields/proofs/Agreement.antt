-- Uses that are compared one after another.
use Rattle.std.proofs.Common.{◌≡◌, List, [], ◌∷◌, Ok, Err, ℤ, refl, sym, ◌∙◌, ap, subst}
use Rattle.std.specs.BTreeMap.{BTreeMap}
use Rattle.arrow_spec.specs.declared.error.IpcError.{IpcError}
use Rattle.arrow_spec.specs.Readings.{bind, Reading, refusals}
use Rattle.ipc_fields.specs.Causes.{RefusesBytes}
use Rattle.arrow_spec.specs.Kinds.{Use}
use Rattle.arrow_spec.specs.Schema.{uses_agree}
use Rattle.ipc_fields.specs.Latest.{Holds, agreed}
use Rattle.ipc_fields.specs.declared.uses.Use.{Use as ReadUse}
use Rattle.ipc_fields.proofs.Steps.{none_refused}

pub agree_more : (u : Use) (us earlier : List Use) (whole : Reading (Unit {0})) (x : Unit {0}) → uses_agree earlier (u ∷ us) ≡ whole → agreed u earlier ≡ Ok x → uses_agree (u ∷ earlier) us ≡ whole
unfolding bind
agree_more u us earlier whole x h got = sym (ap (λ r. bind r (λ right. uses_agree (u ∷ earlier) us)) got) ∙ h

behind : (e : IpcError) (r : Reading (Unit {0})) (f : Unit {0} → Reading (Unit {0})) → RefusesBytes e (refusals r) → RefusesBytes e (refusals (bind r f))
unfolding bind
behind e (Ok x) f h = none_refused e (refusals (f x)) h
behind e (Err es) f h = h

pub agree_stopped : (u : Use) (us earlier : List Use) (whole : Reading (Unit {0})) (e : IpcError) → uses_agree earlier (u ∷ us) ≡ whole → RefusesBytes e (refusals (agreed u earlier)) → RefusesBytes e (refusals whole)
agree_stopped u us earlier whole e h told = subst (λ r. RefusesBytes e (refusals r)) h (behind e (agreed u earlier) (λ right. uses_agree (u ∷ earlier) us) told)

pub agree_done : (us earlier : List Use) (whole : Reading (Unit {0})) → us ≡ [] → uses_agree earlier us ≡ whole → whole ≡ Ok tt
agree_done us earlier whole none h = sym h ∙ ap (uses_agree earlier) none

pub nothing_held : (m : BTreeMap ℤ ReadUse) → m.entries ≡ [] → Holds m []
nothing_held m h = λ q. rw h refl
