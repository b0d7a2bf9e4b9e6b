use Rattle.std.proofs.Common.{◌≡◌, ◌∙◌, ◌+◌, ◌-◌, ◌*◌, ◌<◌, ◌≤◌, suc, length, drop, get_or, true, false, rules, refl, sym, ap, arith}
use Rattle.std.specs.Prelude.{nat_le}
use Rattle.arrow_spec.specs.Kinds.{dictionary_count}
use Rattle.arrow_arrays.specs.Heads.{indexed}
use Rattle.arrow_arrays.specs.Parts.{kind_in, nested, rows_in, tree_size, trees_size}
use Rattle.arrow_arrays.specs.PartsOf.{forest_of, parts_of}
use Rattle.arrow_arrays.proofs.Forests.{size_at}
use Rattle.laws_unify.specs.Over.{Lists}
use Rattle.laws_unify.specs.United.{held_in, put, taken, taken_each, taken_parts, with_parts}
use Rattle.ipc_unify.specs.Steps.{AreKept, lists_of}
use Rattle.ipc_unify.proofs.Walks.{as_many, no_more, ok_as, part_entered, part_passed, parts_done, taken_done, taken_leaf, taken_next}
use Rattle.ipc_unify.proofs.taken.+take.Goals as goal

-- ── an array ──

pub take_array-take_arrays-requires : goal.take_array-take_arrays-requires
take_array-take_arrays-requires t c =
    let f = ap trees_size (ap forest_of c.from_ref.ensures.value ∙ c.values.ensures) in
    let a = ap (λ x. tree_size (parts_of x)) c.in-List.is in
    let below : 8 * trees_size (forest_of c.from_ref.result.now) + 1 < 8 * tree_size (parts_of c.args.array.now) = omega (arith, f, a) in
    search (rules, below)

pub take_array-take_arrays-requires-in-FixedSizeList : goal.take_array-take_arrays-requires-in-FixedSizeList
take_array-take_arrays-requires-in-FixedSizeList t c =
    let f = ap trees_size (ap forest_of c.from_ref-in-FixedSizeList.ensures.value ∙ c.values-in-FixedSizeList.ensures) in
    let a = ap (λ x. tree_size (parts_of x)) c.in-FixedSizeList.is in
    let below : 8 * trees_size (forest_of c.from_ref-in-FixedSizeList.result.now) + 1 < 8 * tree_size (parts_of c.args.array.now) = omega (arith, f, a) in
    search (rules, below)

pub take_array-take_arrays-requires-in-Map : goal.take_array-take_arrays-requires-in-Map
take_array-take_arrays-requires-in-Map t c =
    let f = ap trees_size (ap forest_of c.from_ref-in-Map.ensures.value ∙ c.field.ensures) in
    let a = ap (λ x. tree_size (parts_of x)) c.in-Map.is in
    let below : 8 * trees_size (forest_of c.from_ref-in-Map.result.now) + 1 < 8 * tree_size (parts_of c.args.array.now) = omega (arith, f, a) in
    search (rules, below)

pub take_array-take_arrays-requires-in-Struct : goal.take_array-take_arrays-requires-in-Struct
take_array-take_arrays-requires-in-Struct t c =
    let f = ap trees_size c.values-in-Struct.ensures in
    let a = ap (λ x. tree_size (parts_of x)) c.in-Struct.is in
    let below : 8 * trees_size (forest_of c.values-in-Struct.result.now) + 1 < 8 * tree_size (parts_of c.args.array.now) = omega (arith, f, a) in
    search (rules, below)

pub take_array-take_arrays-requires-in-Union : goal.take_array-take_arrays-requires-in-Union
take_array-take_arrays-requires-in-Union t c =
    let f = ap trees_size c.fields.ensures in
    let a = ap (λ x. tree_size (parts_of x)) c.in-Union.is in
    let below : 8 * trees_size (forest_of c.fields.result.now) + 1 < 8 * tree_size (parts_of c.args.array.now) = omega (arith, f, a) in
    search (rules, below)

pub take_array-take_dictionary-requires : goal.take_array-take_dictionary-requires
take_array-take_dictionary-requires t c =
    let a = ap (λ x. tree_size (parts_of x)) c.in-Dictionary.is in
    let below : 8 * trees_size c.in-Dictionary.dictionary.children + 4 < 8 * tree_size (parts_of c.args.array.now) = omega (arith, a) in
    search (rules, below)

pub take_array-returns-in-List-clause-lists : goal.take_array-returns-in-List-clause-lists
take_array-returns-in-List-clause-lists t c =
    let us = lists_of c.args.lists.now.items in
    ok_as c.take_arrays.result _ _ _ (ap (λ f. taken_each f c.args.number us) (ap forest_of c.from_ref.ensures.value ∙ c.values.ensures) ∙ ap (λ a. taken (parts_of a) c.args.number us) (sym c.in-List.is)) c.take_arrays.ensures.lists

pub take_array-returns-in-FixedSizeList-clause-lists : goal.take_array-returns-in-FixedSizeList-clause-lists
take_array-returns-in-FixedSizeList-clause-lists t c =
    let us = lists_of c.args.lists.now.items in
    ok_as c.take_arrays-in-FixedSizeList.result _ _ _ (ap (λ f. taken_each f c.args.number us) (ap forest_of c.from_ref-in-FixedSizeList.ensures.value ∙ c.values-in-FixedSizeList.ensures) ∙ ap (λ a. taken (parts_of a) c.args.number us) (sym c.in-FixedSizeList.is)) c.take_arrays-in-FixedSizeList.ensures.lists

pub take_array-returns-in-Map-clause-lists : goal.take_array-returns-in-Map-clause-lists
take_array-returns-in-Map-clause-lists t c =
    let us = lists_of c.args.lists.now.items in
    ok_as c.take_arrays-in-Map.result _ _ _ (ap (λ f. taken_each f c.args.number us) (ap forest_of c.from_ref-in-Map.ensures.value ∙ c.field.ensures) ∙ ap (λ a. taken (parts_of a) c.args.number us) (sym c.in-Map.is)) c.take_arrays-in-Map.ensures.lists

pub take_array-returns-in-Struct-clause-lists : goal.take_array-returns-in-Struct-clause-lists
take_array-returns-in-Struct-clause-lists t c =
    let us = lists_of c.args.lists.now.items in
    ok_as c.take_arrays-in-Struct.result _ _ _ (ap (λ f. taken_each f c.args.number us) c.values-in-Struct.ensures ∙ ap (λ a. taken (parts_of a) c.args.number us) (sym c.in-Struct.is)) c.take_arrays-in-Struct.ensures.lists

pub take_array-returns-in-Union-clause-lists : goal.take_array-returns-in-Union-clause-lists
take_array-returns-in-Union-clause-lists t c =
    let us = lists_of c.args.lists.now.items in
    ok_as c.take_arrays-in-Union.result _ _ _ (ap (λ f. taken_each f c.args.number us) c.fields.ensures ∙ ap (λ a. taken (parts_of a) c.args.number us) (sym c.in-Union.is)) c.take_arrays-in-Union.ensures.lists

pub take_array-returns-in-Dictionary-clause-lists : goal.take_array-returns-in-Dictionary-clause-lists
take_array-returns-in-Dictionary-clause-lists t c =
    let us = lists_of c.args.lists.now.items in
    ok_as c.take_dictionary.result _ _ _ (ap (λ a. taken (parts_of a) c.args.number us) (sym c.in-Dictionary.is)) c.take_dictionary.ensures.lists

pub take_array-returns-in_default-clause-lists : goal.take_array-returns-in_default-clause-lists
take_array-returns-in_default-clause-lists t c =
    taken_leaf c.args.array.now c.args.number (lists_of c.args.lists.now.items) c.in_default.not-List c.in_default.not-FixedSizeList c.in_default.not-Map c.in_default.not-Struct c.in_default.not-Union c.in_default.not-Dictionary

-- ── arrays ──

pub take_arrays-take_array-requires : goal.take_arrays-take_array-requires
take_arrays-take_array-requires t c =
    let xs = c.args.arrays.now in
    let x = c.array-item.result in
    let m = size_at xs c.loop-array.array-index x c.loop-array-test.true in
    let s = ap (λ y. tree_size (parts_of y)) c.array-item.is in
    let below : 8 * tree_size (parts_of x) < 8 * trees_size (forest_of xs) + 1 = omega (arith, m, s) in
    search (rules, below, c.loop-array.invariant.kept)

pub take_arrays-loop-array-preserved : goal.take_arrays-loop-array-preserved
take_arrays-loop-array-preserved t c =
    let xs = c.args.arrays.now in
    let x = c.array-item.result in
    let inv = c.loop-array.invariant in
    let next : c.in_ok-next.next ≡ c.loop-array.next + dictionary_count (kind_in (parts_of x)) = c.in_ok-next.ensures.behind ∙ ap (λ k. c.loop-array.next + dictionary_count k) c.dtype.ensures in
    record {
      walk = taken_next xs c.loop-array.array-index c.loop-array.next c.in_ok-next.next x (lists_of c.loop-array.lists.items) (lists_of c.take_array.new.lists.items) _ c.loop-array-test.true c.array-item.is c.in_ok-take_array.ensures.lists next inv.walk;
      kept = c.in_ok-take_array.ensures.kept;
    }

pub take_arrays-returns-clause-lists : goal.take_arrays-returns-clause-lists
take_arrays-returns-clause-lists t c = taken_done c.args.arrays.now c.loop-array.array-index c.loop-array.next (lists_of c.loop-array.lists.items) _ (omega (arith, c.loop-array-test.false)) c.loop-array.invariant.walk

-- ── a dictionary ──

pub take_dictionary-take_parts-requires : goal.take_dictionary-take_parts-requires
take_dictionary-take_parts-requires t c =
    let f = ap trees_size c.parts-in-Some.ensures in
    let below : 8 * trees_size (forest_of c.parts-in-Some.result.now) + 2 < 8 * trees_size c.args.dictionary.now.children + 4 = omega (arith, f) in
    search (rules, below, c.in_ok-held.ensures.kept)

pub take_dictionary-returns-in-Some-clause-lists : goal.take_dictionary-returns-in-Some-clause-lists
take_dictionary-returns-in-Some-clause-lists t c =
    let us = lists_of c.args.lists.now.items in
    let d = c.args.dictionary.now in
    let n = c.args.number in
    let mid : Lists = lists_of c.take_values.new.lists.items in
    let held : c.in_ok-held.held ≡ held_in (us n) d.children = c.in_ok-held.ensures.held ∙ ap (held_in (us n)) c.parts.ensures in
    let put_is : mid ≡ put n (with_parts (us n) d.children) us = c.in_ok-held.ensures.lists ∙ ap (λ ps. put n (with_parts (us n) ps) us) c.parts.ensures in
    let inner : c.in-Some.inner ≡ suc n = omega (arith, c.in-Some.ensures) in
    ok_as c.take_parts.result _ _ _
    (ap (λ h. taken_parts h (forest_of c.parts-in-Some.result.now) c.in-Some.inner mid) held ∙ ap (λ ps. taken_parts (held_in (us n) d.children) ps c.in-Some.inner mid) c.parts-in-Some.ensures
    ∙ ap (λ i. taken_parts (held_in (us n) d.children) d.children i mid) inner ∙ ap (taken_parts (held_in (us n) d.children) d.children (suc n)) put_is) c.take_parts.ensures.lists

-- ── parts ──

pub take_parts-take_array-requires : goal.take_parts-take_array-requires
take_parts-take_array-requires t c =
    let xs = c.args.parts.now in
    let x = c.part-item.result in
    let m = size_at xs c.loop-part.part-index x c.loop-part-test.true in
    let s = ap (λ y. tree_size (parts_of y)) c.part-item.is in
    let below : 8 * tree_size (parts_of x) < 8 * trees_size (forest_of xs) + 2 = omega (arith, m, s) in
    search (rules, below, c.loop-part.invariant.kept)

pub take_parts-loop-part-preserved-then-rows-rest : goal.take_parts-loop-part-preserved-then-rows-rest
take_parts-loop-part-preserved-then-rows-rest t c =
    let xs = c.args.parts.now in
    let i = c.loop-part.part-index in
    let x = c.part-item.result in
    let inv = c.loop-part.invariant in
    let us = lists_of c.loop-part.lists.items in
    let rows = c.len-rows.ensures.rows in
    let le : nat_le (rows_in (parts_of x)) c.loop-part.rest ≡ true = as_many (rows_in (parts_of x)) c.loop-part.rest (omega (arith, rows, c.if-rows-rest.true)) in
    record {
      walk = ap (λ n. taken_parts (c.loop-part.rest - n) (forest_of (drop (i + 1) xs)) c.args.number us) rows ∙ part_passed xs i c.loop-part.rest c.args.number x us _ c.loop-part-test.true c.part-item.is le inv.walk;
      kept = inv.kept;
    }

pub take_parts-loop-part-preserved : goal.take_parts-loop-part-preserved
take_parts-loop-part-preserved t c =
    let xs = c.args.parts.now in
    let x = c.part-item.result in
    let inv = c.loop-part.invariant in
    let rows = c.len-rows.ensures.rows in
    let gt : nat_le (rows_in (parts_of x)) c.loop-part.rest ≡ false = no_more (rows_in (parts_of x)) c.loop-part.rest (omega (arith, rows, c.if-rows-rest.false)) in
    record {
      walk = part_entered xs c.loop-part.part-index c.loop-part.rest c.args.number x (lists_of c.loop-part.lists.items) (lists_of c.take_array.new.lists.items) _ c.loop-part-test.true c.part-item.is gt c.in_ok-take_array.ensures.lists inv.walk;
      kept = c.in_ok-take_array.ensures.kept;
    }

pub take_parts-returns-clause-lists : goal.take_parts-returns-clause-lists
take_parts-returns-clause-lists t c = parts_done c.args.parts.now c.loop-part.part-index c.loop-part.rest c.args.number (lists_of c.loop-part.lists.items) _ (omega (arith, c.loop-part-test.false)) c.loop-part.invariant.walk
