use Rattle.std.proofs.Common.{◌≡◌, ap, sym, ◌∙◌, subst, [], ◌∷◌, ◌++◌, append_assoc, string_bytes}
use Rattle.std.specs.List.{IsDistinct}
use Rattle.std.specs.Str.{bytes_eq}
use Rattle.arrow_types.specs.KindOf.{child_of}
use Rattle.arrow_types.specs.Schemas.{Keyed, keyed, keys_in, with_field}
use Rattle.arrow_types.proofs.Keyed.{Held, with_field-last, distinct_by_bytes}
use Rattle.arrow_types.proofs.schema.ArrowSchema.try_clone.Goals as goal

pub loop-key-preserved : goal.loop-key-preserved
loop-key-preserved c =
    let done = c.loop-key.copy in
    let e : Held = (c.in-Some.key.now, c.in-Some.field.now) in
    let p : Keyed = (string_bytes e.0, child_of e.1) in
    let left = keyed c.next.new.self in
    let all : done ++ p ∷ left ≡ c.args.self.now = ap (λ es. done ++ keyed es) (sym c.in-Some.ensures.steps) ∙ c.loop-key.invariant in
    let apart : IsDistinct bytes_eq (keys_in (done ++ p ∷ left)) =
    subst (λ s. IsDistinct bytes_eq (keys_in s)) (c.self.view_is ∙ sym all) (distinct_by_bytes c.self.inside.fields.entries c.iter-key-items.ensures.unique) in
    let named : string_bytes c.in_ok-key.key ≡ p.0 = c.in_ok-key.ensures.cases in
    let put : c.insert.new.self ≡ done ++ p ∷ [] = c.in_ok-insert.ensures.put
    ∙ ap (λ k. with_field k (child_of c.in_ok-field.field) done) named ∙ ap (λ f. with_field p.0 f done) c.in_ok-field.ensures ∙ with_field-last done p left apart in
    ap (λ s. s ++ left) put ∙ append_assoc done (p ∷ []) left ∙ all
