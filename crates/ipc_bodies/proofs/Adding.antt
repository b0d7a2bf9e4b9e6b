-- Lists that grow.
use Rattle.std.proofs.Common.{◌≡◌, List, ◌++◌, Result, Ok, Err, sym, ap, ◌∙◌, append_assoc, append-nil}
use Rattle.std.specs.Prelude.{[], IsErr, if◌then◌else◌}
use Rattle.std.specs.Result.{is_ok}
use Rattle.ipc_bodies.specs.Adding.{Kept, Appends}

pub kept_behind : {A : Type 0} (xs ys more : List A) → ys ≡ xs ++ more → Kept xs ys
kept_behind xs ys more e = record { more = more; whole = e }

pub kept_same : {A : Type 0} (xs ys : List A) → ys ≡ xs → Kept xs ys
kept_same xs ys e = record { more = []; whole = e ∙ sym (append-nil xs) }

pub kept_then : {A : Type 0} (xs ys zs : List A) → Kept xs ys → Kept ys zs → Kept xs zs
kept_then xs ys zs h k = record { more = h.more ++ k.more; whole = k.whole ∙ ap (λ l. l ++ k.more) h.whole ∙ append_assoc xs h.more k.more }

-- a failure
pub appends_fail : {A T E : Type 0} (r : Result T E) (a b items : List A) → IsErr r → Kept a b → Appends r a b items
appends_fail (Ok t) a b items e h = cc
appends_fail (Err t) a b items e h = h

-- items, and then others or a failure
pub appends_then : {A T E : Type 0} (r : Result T E) (a b c xs ys : List A) → b ≡ a ++ xs → Appends r b c ys → Appends r a c (xs ++ ys)
appends_then (Ok t) a b c xs ys e h = h ∙ ap (λ l. l ++ ys) e ∙ append_assoc a xs ys
appends_then (Err t) a b c xs ys e h = kept_then a b c (kept_behind a b xs e) h

pub appends_as : {A T E : Type 0} (r : Result T E) (a b xs ys : List A) → xs ≡ ys → Appends r a b xs → Appends r a b ys
appends_as (Ok t) a b xs ys e h = h ∙ ap (λ l. a ++ l) e
appends_as (Err t) a b xs ys e h = h

-- items behind others, and then a few that are lent
pub appends_lent : {A T E : Type 0} (r : Result T E) (a b c xs ys zs : List A) → b ≡ a ++ xs → c ≡ (if is_ok r then b ++ ys else b) → ys ≡ zs → Appends r a c (xs ++ zs)
appends_lent (Ok t) a b c xs ys zs e h s = h ∙ ap (λ l. b ++ l) s ∙ ap (λ l. l ++ zs) e ∙ append_assoc a xs zs
appends_lent (Err t) a b c xs ys zs e h s = kept_behind a c xs (h ∙ e)
