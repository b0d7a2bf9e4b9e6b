-- Ids that come to be used, step by step.
use Rattle.std.proofs.Common.{◌≡◌, ℕ, ◌++◌, ◌||◌, ◌&&◌, ℤ, List, [], true, false, not, length, drop, sym, ap, ◌∙◌, append-nil, append_assoc}
use Rattle.std.proofs.lemmas.List.{drop_at}
use Rattle.ipc_dictionaries.specs.declared.used.UsedIds.{UsedIds}
use Rattle.ipc_dictionaries.specs.Used.{used_by, is_among, Adds}
use Rattle.ipc_dictionaries.proofs.Ids.{among-append, or_nothing, released, came_more, none_of_both}

pub adds_none : (u : UsedIds) → Adds u u
adds_none u = record {
  added = [];
  trail = sym (append-nil u.trail.items);
  used = λ q. sym (or_nothing (used_by u q));
  fresh = λ q h. cc;
}

pub adds_both : (u v w : UsedIds) → Adds u v → Adds v w → Adds u w
adds_both u v w a b = record {
  added = a.added ++ b.added;
  trail = b.trail ∙ ap (λ xs. xs ++ b.added) a.trail ∙ append_assoc u.trail.items a.added b.added;
  used = λ q. b.used q ∙ ap (λ t. t || is_among q b.added) (a.used q) ∙ came_more (used_by u q) (is_among q a.added) (is_among q b.added)
      ∙ ap (λ t. used_by u q || t) (sym (among-append q a.added b.added));
  fresh = λ q h. none_of_both (used_by u q) (is_among q a.added) (is_among q b.added) (a.fresh q) (λ t. sym (a.used q) ∙ b.fresh q t) (sym (among-append q a.added b.added) ∙ h);
}

-- the ids that came are taken off
pub taken_off : (u v w : UsedIds) (count : ℕ) (a : Adds u v) → count ≡ length u.trail.items → ((q : ℤ) → used_by w q ≡ (used_by v q && not (is_among q (drop count v.trail.items)))) → (q : ℤ) → used_by w q ≡ used_by u q
taken_off u v w count a n h q =
    let came : drop count v.trail.items ≡ a.added = ap (drop count) a.trail ∙ drop_at u.trail.items a.added count (sym n) in
    h q ∙ ap (λ t. t && not (is_among q (drop count v.trail.items))) (a.used q) ∙ ap (λ xs. (used_by u q || is_among q a.added) && not (is_among q xs)) came
    ∙ released (used_by u q) (is_among q a.added) (a.fresh q)

-- the ids that came are put back
pub used_again : (u v w : UsedIds) (count : ℕ) (added : List ℤ) → v.trail.items ≡ u.trail.items ++ added → ((q : ℤ) → used_by v q ≡ used_by u q) → count ≡ length u.trail.items
    → ((q : ℤ) → used_by w q ≡ (used_by v q || is_among q (drop count v.trail.items))) → (q : ℤ) → used_by w q ≡ (used_by u q || is_among q added)
used_again u v w count added trail same n h q =
    let came : drop count v.trail.items ≡ added = ap (drop count) trail ∙ drop_at u.trail.items added count (sym n) in
    h q ∙ ap (λ b. b || is_among q (drop count v.trail.items)) (same q) ∙ ap (λ xs. used_by u q || is_among q xs) came

pub put_back : (u v w : UsedIds) (count : ℕ) (added : List ℤ) → v.trail.items ≡ u.trail.items ++ added → ((q : ℤ) → used_by v q ≡ used_by u q) → ((q : ℤ) → is_among q added ≡ true → used_by u q ≡ false)
    → count ≡ length u.trail.items → w.trail.items ≡ v.trail.items → ((q : ℤ) → used_by w q ≡ (used_by v q || is_among q (drop count v.trail.items))) → Adds u w
put_back u v w count added trail same fresh n t h = record {
  added = added;
  trail = t ∙ trail;
  used = used_again u v w count added trail same n h;
  fresh = fresh;
}
