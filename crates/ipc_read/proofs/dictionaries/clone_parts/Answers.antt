use Rattle.std.proofs.Common.{◌≡◌, ◌+◌, ◌∷◌, ◌++◌, [], take, ap, sym, ◌∙◌, arith, rules}
use Rattle.std.proofs.lemmas.List.{take_more, map-append}
use Rattle.arrow_arrays.specs.Parts.{fault_each}
use Rattle.arrow_arrays.specs.PartsOf.{parts_of, all_parts_of, forest_of}
use Rattle.arrow_arrays.proofs.Forests.{one_more_sound}
use Rattle.ipc_read.proofs.dictionaries.clone_parts.Goals as goal

pub loop-part-preserved : goal.loop-part-preserved
loop-part-preserved c =
    let x = c.part-item.result in
    let y = c.in_ok-copy.copy in
    let i = c.loop-part.part-index in
    let xs = c.args.parts.now in
    let ys = c.loop-part.copies.items in
    let t : take (i + 1) xs ≡ take i xs ++ x ∷ [] = take_more xs i x (omega arith) ∙ ap (λ z. take i xs ++ z ∷ []) (sym c.part-item.is) in
    let p : c.push.new.self.items ≡ ys ++ y ∷ [] = search rules in
    record {
      parts = ap all_parts_of p ∙ map-append parts_of ys (y ∷ []) ∙ ap (λ ps. ps ++ parts_of y ∷ []) c.loop-part.invariant.parts ∙ ap (λ q. all_parts_of (take i xs) ++ q ∷ []) c.in_ok-copy.ensures ∙ sym (map-append parts_of (take i xs) (x ∷ [])) ∙ ap all_parts_of (sym t);
      sound = ap (λ zs. fault_each (forest_of zs)) p ∙ one_more_sound ys y c.loop-part.invariant.sound c.len-rows.ensures.sound;
    }
