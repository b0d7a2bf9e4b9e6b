-- Some records of many, from the first on.
use Rattle.std.proofs.Common.{◌≡◌, ℕ, ◌+◌, ◌<◌, List, [], ◌∷◌, ◌++◌, length, take, get_or, map, Vec, Some, refl, sym, ◌∙◌, ap, ⊎_elim, arith, append_assoc, length-append}
use Rattle.std.proofs.lemmas.List.{take_at, take_all, take_more, take-map, map-append, take-append-le}
use Rattle.std.specs.declared.alloc.Global.{Global}
use Rattle.ipc_record_log.specs.Records.{HasFront, IsBeforeOrAfter}

-- more of them
pub widened : (records xs ys : List (List ℕ)) (c : List ℕ) → HasFront records xs c → HasFront records (xs ++ ys) c
widened records xs ys c h = record {
  count = h.count;
  few = omega (arith, h.few, length-append xs ys);
  means = h.means ∙ ap (λ (l : List (List ℕ)). Some (records ++ l)) (sym (take-append-le h.count xs ys h.few));
}

-- one more behind them, or not
pub appended : (records so_far held : List (List ℕ)) (r c : List ℕ) → held ≡ records ++ so_far → IsBeforeOrAfter held r c → HasFront records (so_far ++ r ∷ []) c
appended records so_far held r c is = ⊎_elim
    (λ before. record {
      count = length so_far;
      few = omega (arith, length-append so_far (r ∷ []));
      means = before ∙ ap (λ (l : List (List ℕ)). Some l) (is ∙ ap (λ (l : List (List ℕ)). records ++ l) (sym (take_at so_far (r ∷ []) (length so_far) refl)));
    })
    (λ behind. record {
      count = length so_far + 1;
      few = omega (arith, length-append so_far (r ∷ []));
      means = behind ∙ ap (λ (l : List (List ℕ)). Some l) (ap (λ (l : List (List ℕ)). l ++ r ∷ []) is ∙ append_assoc records so_far (r ∷ []) ∙ ap (λ (l : List (List ℕ)). records ++ l) (sym (take_all (length so_far + 1) (so_far ++ r ∷ []) (omega (arith, length-append so_far (r ∷ []))))));
    })

pub taken : (vs : List (Vec ℕ Global)) (i : ℕ) (v : Vec ℕ Global) (r : List ℕ) → i < length vs → v ≡ get_or vs i v → r ≡ v.items → take (i + 1) (map (λ v. v.items) vs) ≡ take i (map (λ v. v.items) vs) ++ r ∷ []
taken vs i v r less is are =
    let f : Vec ℕ Global → List ℕ = λ w. w.items in
    take-map f (i + 1) vs ∙ ap (map f) (take_more vs i v less) ∙ map-append f (take i vs) (get_or vs i v ∷ [])
    ∙ ap (λ (l : List (List ℕ)). l ++ f (get_or vs i v) ∷ []) (sym (take-map f i vs))
    ∙ ap (λ (w : Vec ℕ Global). take i (map f vs) ++ f w ∷ []) (sym is)
    ∙ ap (λ (w : List ℕ). take i (map f vs) ++ w ∷ []) (sym are)
