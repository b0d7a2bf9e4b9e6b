-- Views that lend the bytes of their parts and children.
use Rattle.std.proofs.Common.{◌≡◌, ℕ, List, [], ◌∷◌, ◌++◌, Bool, true, false, Option, Some, None, IfSome, Result, Ok, Err, IfOk, IfErr, ℤ, refl, sym, subst}
use Rattle.arrow_spec.specs.declared.error.IpcError.{IpcError}
use Rattle.arrow_spec.specs.Kinds.{same}
use Rattle.view_types.specs.Views.{View, views}
use Rattle.ipc_view.specs.Batches.{views_before}
use Rattle.ipc_view.specs.Dictionaries.{Shown, parts_or_none}
use Rattle.ipc_view.specs.Lent.{AreLentOf, HoldsLent, IsLentOf}
use Rattle.ipc_view.proofs.HeldViews.{same_is}

-- one more
pub lent_more : (input : List ℕ) (vs : List View) (v : View) → AreLentOf input (views vs) → IsLentOf input v → AreLentOf input (views (vs ++ v ∷ []))
lent_more input [] v h l = (l, tt)
lent_more input (w ∷ vs) v h l = (h.0, lent_more input vs v h.1 l)

-- the parts that are held
pub lent_parts : (input : List ℕ) (o : Option (List View)) → IfSome o (λ vs. AreLentOf input (views vs)) → AreLentOf input (views (parts_or_none o))
lent_parts input None h = tt
lent_parts input (Some vs) h = h

-- and those with one more under an id
pub holds_lent : (input : List ℕ) (h h' : Shown) (id : ℤ) (is_delta : Bool) (v : View) (r : Result (Unit {0}) IpcError) → HoldsLent input h → IsLentOf input v → IfOk r (λ _. h' id ≡ Some (views_before is_delta (h id) v)) → ((q : ℤ) → same id q ≡ false → h' q ≡ h q) → IfErr r (λ _. (q : ℤ) → h' q ≡ h q) → HoldsLent input h'
holds_lent input h h' id is_delta v (Err e) holds l here others kept = λ q. subst (λ o. IfSome o (λ vs. AreLentOf input (views vs))) (sym (kept q)) (holds q)
holds_lent input h h' id is_delta v (Ok u) holds l here others kept = λ q. by q (same id q) refl
  where
    more : (d : Bool) (o : Option (List View)) → IfSome o (λ vs. AreLentOf input (views vs)) → AreLentOf input (views (views_before d o v))
    more false o g = (l, tt)
    more true None g = (l, tt)
    more true (Some vs) g = lent_more input vs v g l

    by : (q : ℤ) (b : Bool) → same id q ≡ b → IfSome (h' q) (λ vs. AreLentOf input (views vs))
    by q false e = subst (λ o. IfSome o (λ vs. AreLentOf input (views vs))) (sym (others q e)) (holds q)
    by q true e = subst (λ z. IfSome (h' z) (λ vs. AreLentOf input (views vs))) (same_is id q e) (subst (λ o. IfSome o (λ vs. AreLentOf input (views vs))) (sym here) (more is_delta (h id) (holds id)))
