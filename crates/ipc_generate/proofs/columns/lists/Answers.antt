use Rattle.std.proofs.Common.{◌≡◌, ◌+◌, ◌*◌, ◌<◌, ◌≤◌, ◌++◌, ◌∷◌, [], length, map, take, get_or, refl, sym, ap, ◌∙◌, arith}
use Rattle.std.specs.Prelude.{pos}
use Rattle.std.specs.List.{concat}
use Rattle.std.specs.Int.{w32}
use Rattle.std.proofs.lemmas.Int.{fits_signed_from_abs}
use Rattle.std.proofs.Common.{None}
use Rattle.arrow_spec.specs.Kinds.{small}
use Rattle.arrow_arrays.specs.Heads.{listed}
use Rattle.arrow_arrays.specs.Parts.{also, nested, none}
use Rattle.arrow_arrays.specs.PartsOf.{parts_of}
use Rattle.ipc_generate.specs.Arrays.{by_rows, items_of, numbers_of}
use Rattle.ipc_generate.specs.Table.{kind_of_p}
use Rattle.ipc_generate.proofs.EachRow.{as_pos, gives_as, item_count, lists_are, lists_rise, more_items, next_items, next_lists}
use Rattle.ipc_generate.proofs.columns.lists.Goals as goal

pub overflow_cast-len : goal.overflow_cast-len
overflow_cast-len c =
    let few : length c.push_items.new.items.items ≤ 2 * (c.loop-i.i + 1) =
    more_items c.loop-i.i (get_or c.args.states.now c.loop-i.i 0) c.loop-i.items.items c.push_items.new.items.items c.in_ok-push_items.ensures c.loop-i.invariant.size in
    fits_signed_from_abs w32 (pos c.len.result) (omega (arith, c.len.ensures))

pub loop-i-preserved : goal.loop-i-preserved
loop-i-preserved c =
    let xs = c.args.states.now in
    let i = c.loop-i.i in
    let below : i < length xs = omega arith in
    let row = items_of i (get_or xs i 0) in
    let held = item_count xs i c.loop-i.items.items c.push_items.new.items.items c.loop-i.invariant.items c.in_ok-push_items.ensures in
    let count : c.len.result ≡ length (concat (by_rows items_of 0 (take i xs)) ++ row) = omega (arith, c.len.ensures, held) in
    let few = more_items i (get_or xs i 0) c.loop-i.items.items c.push_items.new.items.items c.in_ok-push_items.ensures c.loop-i.invariant.size in
    record {
      laid = next_lists 2147483648 xs i row c.loop-i.offsets.items c.push.new.self.items below refl c.loop-i.invariant.laid
          (c.in_ok-push.ensures.items ∙ ap (λ z. c.loop-i.offsets.items ++ z ∷ []) (as_pos c.len.result (omega (arith, c.len.ensures, few, c.requires.few)) ∙ ap pos count)) (omega (arith, c.len.ensures, few, count, c.requires.few));
      items = next_items xs i c.loop-i.items.items c.push_items.new.items.items below c.loop-i.invariant.items c.in_ok-push_items.ensures;
      size = few;
    }

pub returns-clause-parts : goal.returns-clause-parts
returns-clause-parts c =
    gives_as parts_of c.lists_of.result _ _ (ap (λ m. nested (listed (record { kind = kind_of_p; width = small; offsets = c.loop-i.offsets.items; validity = None })) (also (numbers_of m) none)) c.as_slice.ensures.value
    ∙ lists_are 2147483648 c.args.states.now c.loop-i.i c.loop-i.offsets.items c.loop-i.items.items (omega arith) c.loop-i.invariant.laid c.loop-i.invariant.items)
    c.lists_of.ensures.parts

pub lists_of-requires : goal.lists_of-requires
lists_of-requires c =
    lists_rise 2147483648 (by_rows items_of 0 (take c.loop-i.i c.args.states.now)) c.loop-i.offsets.items c.as_slice.result.now c.loop-i.invariant.laid
    (c.as_slice.ensures.value ∙ c.loop-i.invariant.items)
