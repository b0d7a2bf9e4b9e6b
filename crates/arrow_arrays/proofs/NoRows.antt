-- Parts without rows are not refused.
use Rattle.std.proofs.Common.{◌≡◌, ℕ, ◌∷◌, List, [], Bool, true, false, Some, None, ℤ, pos, refl}
use Rattle.arrow_spec.specs.Kinds.{Kind}
use Rattle.arrow_buffers.specs.declared.error.ArrayError.{ArrayError}
use Rattle.arrow_buffers.specs.Variable.{variable_fault, has_bad_text}
use Rattle.arrow_buffers.specs.Views.{view_fault, has_bad_view, has_bad_view_text}

pub variable_sound : (is_text suits : Bool) (k : Kind) → suits ≡ true → variable_fault is_text suits (record { kind = k; offsets = pos 0 ∷ []; values = []; validity = None }) ≡ None
unfolding has_bad_text
variable_sound true suits k e = rw e refl
variable_sound false suits k e = rw e refl

pub view_sound : (is_text suits : Bool) (k : Kind) → suits ≡ true → view_fault is_text suits (record { kind = k; views = []; buffers = []; validity = None }) ≡ None
unfolding has_bad_view has_bad_view_text
view_sound true suits k e = rw e refl
view_sound false suits k e = rw e refl

pub no_variable_fault : (is_text s : Bool) (k : Kind) (offsets : List ℤ) (values : List ℕ) (e : ArrayError) → s ≡ true → offsets ≡ pos 0 ∷ [] → values ≡ [] → variable_fault is_text s (record { kind = k; offsets = offsets; values = values; validity = None }) ≡ Some e → ⊥
no_variable_fault is_text s k offsets values e p q r f = let g = rw (q, r) at f in let h = variable_sound is_text s k p in cc

pub no_view_fault : (is_text s : Bool) (k : Kind) (views : List ℕ) (buffers : List (List ℕ)) (e : ArrayError) → s ≡ true → views ≡ [] → view_fault is_text s (record { kind = k; views = views; buffers = buffers; validity = None }) ≡ Some e → ⊥
unfolding has_bad_view has_bad_view_text
no_view_fault true s k views buffers e p q f = let g = rw (p, q) at f in cc
no_view_fault false s k views buffers e p q f = let g = rw (p, q) at f in cc
