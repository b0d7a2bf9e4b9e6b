use Rattle.std.proofs.Common.{◌≡◌, inl, inr, ◌+◌, ◌-◌, ◌*◌, ◌<◌, ◌≤◌, ◌++◌, ◌∷◌, ◌&&◌, [], ℤ, Bool, None, Some, Ok, true, false, map, drop, length, is_some, rules, refl, sym, ap, ◌∙◌, arith, subst, to_z, of_z, w64, length-append, true≢false}
use Rattle.std.specs.Prelude.{nat_le}
use Rattle.std.specs.Option.{unwrap_or}
use Rattle.std.proofs.Math.Path.{fun_ext}
use Rattle.std.proofs.lemmas.List.{map-append}
use Rattle.std.proofs.lemmas.Int.{to_z-of_z}
use Rattle.arrow_arrays.specs.Heads.{indexed}
use Rattle.arrow_arrays.specs.Parts.{nested, rows_in, tree_size, trees_size}
use Rattle.arrow_arrays.specs.PartsOf.{parts_of, forest_of}
use Rattle.arrow_arrays.proofs.Forests.{size_at}
use Rattle.ipc_fields.specs.IpcFields.{ids_of}
use Rattle.ipc_dictionaries.specs.NewDictionaries.{array_sent, arrays_sent, parts_sent, dictionary_sent, message_of, rows_from}
use Rattle.ipc_dictionaries.specs.Tracker.{held_by, held_in}
use Rattle.ipc_dictionaries.specs.Used.{used_by}
use Rattle.ipc_dictionaries.specs.Walks.{options_of, sending_of, to_send, PartsSent}
use Rattle.ipc_dictionaries.proofs.Leaves.{nothing_sent}
use Rattle.ipc_dictionaries.proofs.PartSteps.{keeps_none, keeps_both, keeps_more, walked_as, refused_as, parts_refused_as, passed, begins_inside, begins_whole, parts_begin, part_is_passed, part_is_sent, part_is_refused, parts_are_done, adds_then, id_is_fixed, fixed_as, held_as_fixed, stands_so}
use Rattle.ipc_dictionaries.proofs.UsedSteps.{adds_none, adds_both, taken_off, put_back, used_again}
use Rattle.ipc_dictionaries.proofs.Walking.{arrays_next, arrays_stopped, arrays_done, dictionary_whole, dictionary_stopped, dictionary_refused}
use Rattle.ipc_dictionaries.proofs.walk.+walk.Goals as goal

-- ── an array ──

pub walk_array-walk_arrays-requires : goal.walk_array-walk_arrays-requires
walk_array-walk_arrays-requires t c =
    let f = ap trees_size (ap forest_of c.from_ref.ensures.value ∙ c.values.ensures) in
    let a = ap (λ x. tree_size (parts_of x)) c.in-List.is in
    let below : 8 * trees_size (forest_of c.from_ref.result.now) + 1 < 8 * tree_size (parts_of c.args.array.now) = omega (arith, f, a) in
    search (rules, below)

pub walk_array-walk_arrays-requires-in-FixedSizeList : goal.walk_array-walk_arrays-requires-in-FixedSizeList
walk_array-walk_arrays-requires-in-FixedSizeList t c =
    let f = ap trees_size (ap forest_of c.from_ref-in-FixedSizeList.ensures.value ∙ c.values-in-FixedSizeList.ensures) in
    let a = ap (λ x. tree_size (parts_of x)) c.in-FixedSizeList.is in
    let below : 8 * trees_size (forest_of c.from_ref-in-FixedSizeList.result.now) + 1 < 8 * tree_size (parts_of c.args.array.now) = omega (arith, f, a) in
    search (rules, below)

pub walk_array-walk_arrays-requires-in-Map : goal.walk_array-walk_arrays-requires-in-Map
walk_array-walk_arrays-requires-in-Map t c =
    let f = ap trees_size (ap forest_of c.from_ref-in-Map.ensures.value ∙ c.field.ensures) in
    let a = ap (λ x. tree_size (parts_of x)) c.in-Map.is in
    let below : 8 * trees_size (forest_of c.from_ref-in-Map.result.now) + 1 < 8 * tree_size (parts_of c.args.array.now) = omega (arith, f, a) in
    search (rules, below)

pub walk_array-walk_arrays-requires-in-Struct : goal.walk_array-walk_arrays-requires-in-Struct
walk_array-walk_arrays-requires-in-Struct t c =
    let f = ap trees_size c.values-in-Struct.ensures in
    let a = ap (λ x. tree_size (parts_of x)) c.in-Struct.is in
    let below : 8 * trees_size (forest_of c.values-in-Struct.result.now) + 1 < 8 * tree_size (parts_of c.args.array.now) = omega (arith, f, a) in
    search (rules, below)

pub walk_array-walk_arrays-requires-in-Union : goal.walk_array-walk_arrays-requires-in-Union
walk_array-walk_arrays-requires-in-Union t c =
    let f = ap trees_size c.fields.ensures in
    let a = ap (λ x. tree_size (parts_of x)) c.in-Union.is in
    let below : 8 * trees_size (forest_of c.fields.result.now) + 1 < 8 * tree_size (parts_of c.args.array.now) = omega (arith, f, a) in
    search (rules, below)

pub walk_array-walk_dictionary-requires : goal.walk_array-walk_dictionary-requires
walk_array-walk_dictionary-requires t c =
    let a = ap (λ x. tree_size (parts_of x)) c.in-Dictionary.is in
    let below : 8 * trees_size c.in-Dictionary.dictionary.children + 4 < 8 * tree_size (parts_of c.args.array.now) = omega (arith, a) in
    search (rules, below)

pub walk_array-returns-in-List-clause-walks : goal.walk_array-returns-in-List-clause-walks
walk_array-returns-in-List-clause-walks t c =
    let o = options_of c.args.tracker.now in
    let below = ids_of c.args.fields.now in
    let s = sending_of c.args.tracker.now c.args.progress.now in
    walked_as c.walk_arrays.result _ _ _ (ap (λ f. arrays_sent o f below s) (ap forest_of c.from_ref.ensures.value ∙ c.values.ensures) ∙ ap (λ a. array_sent o (parts_of a) c.args.id below s) (sym c.in-List.is)) c.walk_arrays.ensures.walks

pub walk_array-returns-in-FixedSizeList-clause-walks : goal.walk_array-returns-in-FixedSizeList-clause-walks
walk_array-returns-in-FixedSizeList-clause-walks t c =
    let o = options_of c.args.tracker.now in
    let below = ids_of c.args.fields.now in
    let s = sending_of c.args.tracker.now c.args.progress.now in
    walked_as c.walk_arrays-in-FixedSizeList.result _ _ _ (ap (λ f. arrays_sent o f below s) (ap forest_of c.from_ref-in-FixedSizeList.ensures.value ∙ c.values-in-FixedSizeList.ensures) ∙ ap (λ a. array_sent o (parts_of a) c.args.id below s) (sym c.in-FixedSizeList.is)) c.walk_arrays-in-FixedSizeList.ensures.walks

pub walk_array-returns-in-Map-clause-walks : goal.walk_array-returns-in-Map-clause-walks
walk_array-returns-in-Map-clause-walks t c =
    let o = options_of c.args.tracker.now in
    let below = ids_of c.args.fields.now in
    let s = sending_of c.args.tracker.now c.args.progress.now in
    walked_as c.walk_arrays-in-Map.result _ _ _ (ap (λ f. arrays_sent o f below s) (ap forest_of c.from_ref-in-Map.ensures.value ∙ c.field.ensures) ∙ ap (λ a. array_sent o (parts_of a) c.args.id below s) (sym c.in-Map.is)) c.walk_arrays-in-Map.ensures.walks

pub walk_array-returns-in-Struct-clause-walks : goal.walk_array-returns-in-Struct-clause-walks
walk_array-returns-in-Struct-clause-walks t c =
    let o = options_of c.args.tracker.now in
    let below = ids_of c.args.fields.now in
    let s = sending_of c.args.tracker.now c.args.progress.now in
    walked_as c.walk_arrays-in-Struct.result _ _ _ (ap (λ f. arrays_sent o f below s) c.values-in-Struct.ensures ∙ ap (λ a. array_sent o (parts_of a) c.args.id below s) (sym c.in-Struct.is)) c.walk_arrays-in-Struct.ensures.walks

pub walk_array-returns-in-Union-clause-walks : goal.walk_array-returns-in-Union-clause-walks
walk_array-returns-in-Union-clause-walks t c =
    let o = options_of c.args.tracker.now in
    let below = ids_of c.args.fields.now in
    let s = sending_of c.args.tracker.now c.args.progress.now in
    walked_as c.walk_arrays-in-Union.result _ _ _ (ap (λ f. arrays_sent o f below s) c.fields.ensures ∙ ap (λ a. array_sent o (parts_of a) c.args.id below s) (sym c.in-Union.is)) c.walk_arrays-in-Union.ensures.walks

pub walk_array-returns-in-Dictionary-clause-walks : goal.walk_array-returns-in-Dictionary-clause-walks
walk_array-returns-in-Dictionary-clause-walks t c =
    let o = options_of c.args.tracker.now in
    let below = ids_of c.args.fields.now in
    let s = sending_of c.args.tracker.now c.args.progress.now in
    let d = c.in-Dictionary.dictionary in
    let key : to_z w64 (of_z w64 c.id_or_zero.result) ≡ c.id_or_zero.result = to_z-of_z w64 c.id_or_zero.result (search rules) in
    walked_as c.walk_dictionary.result _ _ _ (ap (λ id. array_sent o (nested (indexed d.head) d.children) (Some id) below s) (key ∙ c.id_or_zero.ensures) ∙ ap (λ a. array_sent o (parts_of a) c.args.id below s) (sym c.in-Dictionary.is)) c.walk_dictionary.ensures.walks

pub walk_array-returns-in_default-clause-walks : goal.walk_array-returns-in_default-clause-walks
walk_array-returns-in_default-clause-walks t c =
    nothing_sent (options_of c.args.tracker.now) c.args.array.now c.args.id (ids_of c.args.fields.now) (sending_of c.args.tracker.now c.args.progress.now) c.in_default.not-List c.in_default.not-FixedSizeList c.in_default.not-Map c.in_default.not-Struct c.in_default.not-Union c.in_default.not-Dictionary

pub walk_array-returns-in_default-clause-adds : goal.walk_array-returns-in_default-clause-adds
walk_array-returns-in_default-clause-adds t c = adds_none c.args.progress.now.used

pub walk_array-returns-in_default-clause-keeps : goal.walk_array-returns-in_default-clause-keeps
walk_array-returns-in_default-clause-keeps t c = keeps_none c.args.tracker.now c.args.progress.now

-- ── arrays ──

pub walk_arrays-loop-i-init : goal.walk_arrays-loop-i-init
walk_arrays-loop-i-init t c = record {
  walks = refl;
  adds = adds_none c.args.progress.now.used;
  keeps = keeps_none c.args.tracker.now c.args.progress.now;
}

pub walk_arrays-walk_array-requires : goal.walk_arrays-walk_array-requires
walk_arrays-walk_array-requires t c =
    let xs = c.args.arrays.now in
    let x = c.index-arrays-i.result in
    let lt : c.loop-i.i < length xs = omega (arith, c.loop-i-test.true) in
    let m = size_at xs c.loop-i.i x lt in
    let e = ap (λ y. tree_size (parts_of y)) c.index-arrays-i.is in
    let below : 8 * tree_size (parts_of x) < 8 * trees_size (forest_of xs) + 1 = omega (arith, m, e) in
    search (rules, below)

pub walk_arrays-loop-i-preserved : goal.walk_arrays-loop-i-preserved
walk_arrays-loop-i-preserved t c =
    let xs = c.args.arrays.now in
    let inv = c.loop-i.invariant in
    let lt : c.loop-i.i < length xs = omega (arith, c.loop-i-test.true) in
    let new = c.walk_array.new in
    record {
      walks = arrays_next (options_of c.loop-i.tracker) (options_of new.tracker) (options_of new.tracker) xs c.args.fields.now c.loop-i.i c.index-arrays-i.result c.id_at.result (ids_of c.fields_at.result.now) (sending_of c.loop-i.tracker c.loop-i.progress) (sending_of new.tracker new.progress) _ lt c.index-arrays-i.is c.id_at.ensures.id c.fields_at.ensures c.in_ok-walk_array.ensures.keeps.options c.in_ok-walk_array.ensures.walks inv.walks;
      adds = adds_both _ _ _ inv.adds c.in_ok-walk_array.ensures.adds;
      keeps = keeps_both _ _ _ _ _ _ inv.keeps c.in_ok-walk_array.ensures.keeps;
    }

pub walk_arrays-returns-in_err-walk_array-clause-walks : goal.walk_arrays-returns-in_err-walk_array-clause-walks
walk_arrays-returns-in_err-walk_array-clause-walks t c =
    let xs = c.args.arrays.now in
    let o = options_of c.args.tracker.now in
    let e = c.in_err-walk_array.field-0.0 in
    let whole = arrays_sent o (forest_of xs) (ids_of c.args.fields.now) (sending_of c.args.tracker.now c.args.progress.now) in
    let lt : c.loop-i.i < length xs = omega (arith, c.loop-i-test.true) in
    refused_as c.from_residual.result e whole (sending_of c.walk_array.new.tracker c.walk_array.new.progress) c.from_residual.ensures.1
    (arrays_stopped (options_of c.loop-i.tracker) xs c.args.fields.now c.loop-i.i c.index-arrays-i.result c.id_at.result (ids_of c.fields_at.result.now) (sending_of c.loop-i.tracker c.loop-i.progress) e whole lt c.index-arrays-i.is c.id_at.ensures.id c.fields_at.ensures c.in_err-walk_array.ensures.walks c.loop-i.invariant.walks)

pub walk_arrays-returns-in_err-walk_array-clause-keeps : goal.walk_arrays-returns-in_err-walk_array-clause-keeps
walk_arrays-returns-in_err-walk_array-clause-keeps t c = keeps_both _ _ _ _ _ _ c.loop-i.invariant.keeps c.in_err-walk_array.ensures.keeps

pub walk_arrays-returns-clause-walks : goal.walk_arrays-returns-clause-walks
walk_arrays-returns-clause-walks t c =
    let xs = c.args.arrays.now in
    let i = c.loop-i.i in
    let le : length xs ≤ i = omega (arith, c.loop-i-test.false) in
    arrays_done (options_of c.loop-i.tracker) xs (ids_of (drop i c.args.fields.now)) i (sending_of c.loop-i.tracker c.loop-i.progress) _ le c.loop-i.invariant.walks

pub walk_arrays-returns-clause-adds : goal.walk_arrays-returns-clause-adds
walk_arrays-returns-clause-adds t c = c.loop-i.invariant.adds

pub walk_arrays-returns-clause-keeps : goal.walk_arrays-returns-clause-keeps
walk_arrays-returns-clause-keeps t c = c.loop-i.invariant.keeps

-- ── a dictionary ──

pub walk_dictionary-returns-in-None-clause-walks : goal.walk_dictionary-returns-in-None-clause-walks
walk_dictionary-returns-in-None-clause-walks t c =
    let key = to_z w64 (of_z w64 c.args.id) in
    let e : key ≡ c.args.id = to_z-of_z w64 c.args.id c.ranges.id in
    let o = options_of c.args.tracker.now in
    let s = sending_of c.args.tracker.now c.args.progress.now in
    let d = c.args.dictionary.now in
    let below = ids_of c.args.fields.now in
    inr (ap (λ z. array_sent o (nested (indexed d.head) d.children) (Some z) below s) (sym e) ∙ stands_so o d.head d.children key below s c.standing-standing.result c.is_fixed-is_fixed.result None c.standing-standing.ensures c.is_fixed-is_fixed.ensures (sym c.in-None.is ∙ c.allowed.ensures))

pub walk_dictionary-returns-in-Some-false-clause-walks : goal.walk_dictionary-returns-in-Some-false-clause-walks
walk_dictionary-returns-in-Some-false-clause-walks t c =
    let key = to_z w64 (of_z w64 c.args.id) in
    let e : key ≡ c.args.id = to_z-of_z w64 c.args.id c.ranges.id in
    let o = options_of c.args.tracker.now in
    let p = c.args.progress.now in
    let s = sending_of c.args.tracker.now p in
    let d = c.args.dictionary.now in
    let below = ids_of c.args.fields.now in
    let may : Some false ≡ c.allowed.result = cc (c.in-Some-false.is, c.in-Some-false.field-0-test) in
    let step = ap (λ z. array_sent o (nested (indexed d.head) d.children) (Some z) below s) (sym e) ∙ stands_so o d.head d.children key below s c.standing-standing.result c.is_fixed-is_fixed.result (Some false) c.standing-standing.ensures c.is_fixed-is_fixed.ensures (may ∙ c.allowed.ensures) in
    id_is_fixed c.add.result _ _ _ step (fixed_as c.add.result key (held_by c.args.tracker.now) (used_by p.used) (used_by c.add.new.self) (map to_send p.messages.items) c.add.ensures.used) c.add.ensures.memory

pub walk_dictionary-send_dictionary-requires : goal.walk_dictionary-send_dictionary-requires
walk_dictionary-send_dictionary-requires t c =
    let f = ap trees_size c.parts.ensures in
    let below : 8 * trees_size (forest_of c.parts.result.now) + 3 < 8 * trees_size c.args.dictionary.now.children + 4 = omega (arith, f) in
    search (rules, below)

pub walk_dictionary-returns-in-Some-true-clause-walks : goal.walk_dictionary-returns-in-Some-true-clause-walks
walk_dictionary-returns-in-Some-true-clause-walks t c =
    let key = to_z w64 (of_z w64 c.args.id) in
    let e : key ≡ c.args.id = to_z-of_z w64 c.args.id c.ranges.id in
    let o = options_of c.args.tracker.now in
    let p = c.args.progress.now in
    let s = sending_of c.args.tracker.now p in
    let d = c.args.dictionary.now in
    let below = ids_of c.args.fields.now in
    let start = c.delta_start-start.result in
    let step = ap (λ z. array_sent o (nested (indexed d.head) d.children) (Some z) below s) (sym e) ∙ stands_so o d.head d.children key below s c.standing-standing.result c.is_fixed-is_fixed.result (Some true) c.standing-standing.ensures c.is_fixed-is_fixed.ensures (ap Some (sym c.in-Some-true.field-0-test) ∙ sym c.in-Some-true.is ∙ c.allowed.ensures) in
    walked_as c.send_dictionary.result _ _ _
    (ap (λ f. dictionary_sent o (Some true) start key f s (parts_sent o (used_by p.used) key below (is_some start) (unwrap_or start 0) f s)) c.parts.ensures
    ∙ ap (λ n. dictionary_sent o (Some true) n key d.children s (parts_sent o (used_by p.used) key below (is_some n) (unwrap_or n 0) d.children s)) c.delta_start-start.ensures ∙ sym step) c.send_dictionary.ensures.walks

pub send_dictionary-returns-then-lack_deltas-clause-walks : goal.send_dictionary-returns-then-lack_deltas-clause-walks
send_dictionary-returns-then-lack_deltas-clause-walks t c =
    inr (dictionary_refused (options_of c.args.tracker.now) c.args.start c.args.id (forest_of c.args.parts.now) (sending_of c.args.tracker.now c.args.progress.now) _ (sym c.lack_deltas.ensures ∙ c.if-lack_deltas.true))

pub send_dictionary-returns-then-lack_deltas-clause-keeps : goal.send_dictionary-returns-then-lack_deltas-clause-keeps
send_dictionary-returns-then-lack_deltas-clause-keeps t c = keeps_none c.args.tracker.now c.args.progress.now

pub send_dictionary-returns-in_err-send_parts-clause-walks : goal.send_dictionary-returns-in_err-send_parts-clause-walks
send_dictionary-returns-in_err-send_parts-clause-walks t c =
    let key = to_z w64 (of_z w64 c.args.id) in
    let e : key ≡ c.args.id = to_z-of_z w64 c.args.id c.ranges.id in
    let p = c.args.progress.now in
    let o = options_of c.args.tracker.now in
    let s = sending_of c.args.tracker.now p in
    let parts = forest_of c.args.parts.now in
    let sent = λ (z : ℤ). dictionary_sent o (Some true) c.args.start z parts s (parts_sent o (used_by p.used) z (ids_of c.args.fields.now) (is_some c.args.start) (unwrap_or c.args.start 0) parts s) in
    walked_as _ (sent key) _ _ (ap sent e) (refused_as _ _ _ _ c.from_residual.ensures.1 (dictionary_stopped o c.args.start key parts s _ _ (sym c.lack_deltas.ensures ∙ c.if-lack_deltas.false) c.in_err-send_parts.ensures.walks))

pub send_dictionary-returns-in_err-replace-clause-walks : goal.send_dictionary-returns-in_err-replace-clause-walks
send_dictionary-returns-in_err-replace-clause-walks t c = refused_as _ _ _ _ c.from_residual-in_err-replace.ensures.1 (inl c.in_err-replace.ensures.memory)

pub send_dictionary-returns-in_err-replace-clause-keeps : goal.send_dictionary-returns-in_err-replace-clause-keeps
send_dictionary-returns-in_err-replace-clause-keeps t c =
    keeps_more c.args.tracker.now c.args.progress.now c.send_parts.new.tracker c.send_parts.new.progress _ _ c.in_ok-send_parts.ensures.keeps refl c.in_err-replace.ensures.restores

pub send_dictionary-put_back-requires : goal.send_dictionary-put_back-requires
send_dictionary-put_back-requires t c =
    let walked = c.in_ok-send_parts.ensures.walks in
    let rel = walked.2 in
    omega (arith, c.count-count.ensures, ap length rel.trail, length-append c.args.progress.now.used.trail.items walked.0)

pub send_dictionary-returns-in_err-put_back-clause-walks : goal.send_dictionary-returns-in_err-put_back-clause-walks
send_dictionary-returns-in_err-put_back-clause-walks t c = refused_as _ _ _ _ c.from_residual-in_err-put_back.ensures.1 (inl c.in_err-put_back.ensures.memory)

pub send_dictionary-returns-in_err-put_back-clause-keeps : goal.send_dictionary-returns-in_err-put_back-clause-keeps
send_dictionary-returns-in_err-put_back-clause-keeps t c =
    keeps_more c.args.tracker.now c.args.progress.now c.send_parts.new.tracker c.send_parts.new.progress _ _ c.in_ok-send_parts.ensures.keeps refl c.in_ok-replace.ensures.restores

pub send_dictionary-returns-clause-walks : goal.send_dictionary-returns-clause-walks
send_dictionary-returns-clause-walks t c =
    let key = to_z w64 (of_z w64 c.args.id) in
    let e : key ≡ c.args.id = to_z-of_z w64 c.args.id c.ranges.id in
    let walked = c.in_ok-send_parts.ensures.walks in
    let rel = walked.2 in
    let p = c.args.progress.now in
    let q = c.send_parts.new.progress in
    let u = c.send_parts.new.tracker in
    let o = options_of c.args.tracker.now in
    let s = sending_of c.args.tracker.now p in
    let parts = forest_of c.args.parts.now in
    let sent = λ (z : ℤ). dictionary_sent o (Some true) c.args.start z parts s (parts_sent o (used_by p.used) z (ids_of c.args.fields.now) (is_some c.args.start) (unwrap_or c.args.start 0) parts s) in
    let back = used_again p.used q.used c.put_back.new.self c.count-count.result walked.0 rel.trail rel.used c.count-count.ensures c.in_ok-put_back.ensures.used in
    let step = dictionary_whole o c.args.start key parts s _ _ _ (sym c.lack_deltas.ensures ∙ c.if-lack_deltas.false) walked.1 refl in
    walked_as c.add.result (sent key) _ _ (ap sent e)
    (id_is_fixed c.add.result _ _ _ step (held_as_fixed c.add.result key parts (held_by u) (held_in c.replace.new.dictionaries) (used_by p.used) (used_by c.put_back.new.self) (used_by c.add.new.self) walked.0 (map to_send q.messages.items) c.in_ok-replace.ensures.held back c.add.ensures.used) c.add.ensures.memory)

pub send_dictionary-returns-clause-adds : goal.send_dictionary-returns-clause-adds
send_dictionary-returns-clause-adds t c =
    let walked = c.in_ok-send_parts.ensures.walks in
    let rel = walked.2 in
    let back = put_back c.args.progress.now.used c.send_parts.new.progress.used c.put_back.new.self c.count-count.result walked.0 rel.trail rel.used rel.fresh c.count-count.ensures c.in_ok-put_back.ensures.trail c.in_ok-put_back.ensures.used in
    adds_then c.add.result c.args.progress.now.used c.put_back.new.self c.add.new.self back c.add.ensures.adds

pub send_dictionary-returns-clause-keeps : goal.send_dictionary-returns-clause-keeps
send_dictionary-returns-clause-keeps t c =
    keeps_more c.args.tracker.now c.args.progress.now c.send_parts.new.tracker c.send_parts.new.progress _ _ c.in_ok-send_parts.ensures.keeps refl c.in_ok-replace.ensures.restores

-- ── its parts ──

pub send_parts-loop-part-init : goal.send_parts-loop-part-init
send_parts-loop-part-init t c = record {
  left = parts_begin (options_of c.args.tracker.now) (to_z w64 (of_z w64 c.args.id)) (ids_of c.args.fields.now) c.is_some-is_delta.result c.unwrap_or-rest.result c.args.start c.args.parts.now c.args.tracker.now c.args.progress.now c.is_some-is_delta.ensures c.unwrap_or-rest.ensures;
  whole = begins_whole c.is_some-is_delta.result c.unwrap_or-rest.result c.args.start c.is_some-is_delta.ensures c.unwrap_or-rest.ensures;
  keeps = keeps_none c.args.tracker.now c.args.progress.now;
}

pub send_parts-overflow_sub-rest : goal.send_parts-overflow_sub-rest
send_parts-overflow_sub-rest t c =
    let both = passed c.loop-part.is_delta c.len-rows.result c.loop-part.rest (sym c.is_passed.ensures ∙ c.if-is_passed.true) in
    omega (arith, both.1)

pub send_parts-overflow_cast-row : goal.send_parts-overflow_cast-row
send_parts-overflow_cast-row t c =
    let inside = begins_inside c.loop-part.is_delta c.len-rows.result c.loop-part.rest (sym c.is_passed.ensures ∙ c.if-is_passed.false) c.loop-part.invariant.whole in
    omega (arith, inside)

pub send_parts-send_part-requires : goal.send_parts-send_part-requires
send_parts-send_part-requires t c =
    let xs = c.args.parts.now in
    let x = c.part-item.result in
    let lt : c.loop-part.part-index < length xs = omega (arith, c.loop-part-test.true) in
    let m = size_at xs c.loop-part.part-index x lt in
    let e = ap (λ y. tree_size (parts_of y)) c.part-item.is in
    let inside = begins_inside c.loop-part.is_delta c.len-rows.result c.loop-part.rest (sym c.is_passed.ensures ∙ c.if-is_passed.false) c.loop-part.invariant.whole in
    let below : 8 * tree_size (parts_of x) + 1 < 8 * trees_size (forest_of xs) + 2 = omega (arith, m, e) in
    let row : c.loop-part.rest ≤ rows_in (parts_of x) = omega (arith, inside, c.len-rows.ensures.rows) in
    search (rules, below, row)

pub send_parts-loop-part-preserved-then-is_passed : goal.send_parts-loop-part-preserved-then-is_passed
send_parts-loop-part-preserved-then-is_passed t c =
    let xs = c.args.parts.now in
    let i = c.loop-part.part-index in
    let x = c.part-item.result in
    let inv = c.loop-part.invariant in
    let lt : i < length xs = omega (arith, c.loop-part-test.true) in
    let both = passed c.loop-part.is_delta c.len-rows.result c.loop-part.rest (sym c.is_passed.ensures ∙ c.if-is_passed.true) in
    record {
      left = part_is_passed (options_of c.args.tracker.now) (to_z w64 (of_z w64 c.args.id)) (ids_of c.args.fields.now) c.loop-part.is_delta c.loop-part.rest (c.loop-part.rest - c.len-rows.result) xs i x c.loop-part.tracker c.args.progress.now c.loop-part.progress _ lt c.part-item.is both.0 (omega (arith, both.1, c.len-rows.ensures.rows)) (omega (arith, both.1, c.len-rows.ensures.rows)) inv.left;
      whole = λ e. absurd (true≢false (sym both.0 ∙ e));
      keeps = inv.keeps;
    }

pub send_parts-loop-part-preserved : goal.send_parts-loop-part-preserved
send_parts-loop-part-preserved t c =
    let key = to_z w64 (of_z w64 c.args.id) in
    let xs = c.args.parts.now in
    let i = c.loop-part.part-index in
    let x = c.part-item.result in
    let inv = c.loop-part.invariant in
    let lt : i < length xs = omega (arith, c.loop-part-test.true) in
    let rows : rows_in (parts_of x) ≡ c.len-rows.result = sym c.len-rows.ensures.rows in
    let not_passed = ap (λ n. c.loop-part.is_delta && nat_le n c.loop-part.rest) rows ∙ sym c.is_passed.ensures ∙ c.if-is_passed.false in
    record {
      left = part_is_sent (options_of c.args.tracker.now) key (ids_of c.args.fields.now) c.loop-part.is_delta c.loop-part.rest c.loop-part.rest xs i x c.loop-part.tracker c.send_part.new.tracker c.args.progress.now c.loop-part.progress c.send_part.new.progress _ lt c.part-item.is not_passed refl inv.keeps.options inv.left c.in_ok-send_part.ensures.walks;
      whole = λ e. refl;
      keeps = keeps_both _ _ _ _ _ _ inv.keeps c.in_ok-send_part.ensures.keeps;
    }

pub send_parts-returns-in_err-send_part-clause-walks : goal.send_parts-returns-in_err-send_part-clause-walks
send_parts-returns-in_err-send_part-clause-walks t c =
    let key = to_z w64 (of_z w64 c.args.id) in
    let e : key ≡ c.args.id = to_z-of_z w64 c.args.id c.ranges.id in
    let xs = c.args.parts.now in
    let i = c.loop-part.part-index in
    let x = c.part-item.result in
    let p = c.args.progress.now in
    let o = options_of c.args.tracker.now in
    let below = ids_of c.args.fields.now in
    let inv = c.loop-part.invariant in
    let lt : i < length xs = omega (arith, c.loop-part-test.true) in
    let rows : rows_in (parts_of x) ≡ c.len-rows.result = sym c.len-rows.ensures.rows in
    let not_passed = ap (λ n. c.loop-part.is_delta && nat_le n c.loop-part.rest) rows ∙ sym c.is_passed.ensures ∙ c.if-is_passed.false in
    let sent = λ (z : ℤ). parts_sent o (used_by p.used) z below (is_some c.args.start) (unwrap_or c.args.start 0) (forest_of xs) (sending_of c.args.tracker.now p) in
    parts_refused_as c.from_residual.result c.in_err-send_part.field-0.0 (sent key) (sent c.args.id) c.send_part.new.tracker p c.send_part.new.progress (ap sent e) c.from_residual.ensures.1
    (part_is_refused o key below c.loop-part.is_delta c.loop-part.rest xs i x c.loop-part.tracker p c.loop-part.progress c.in_err-send_part.field-0.0 (sent key) lt c.part-item.is not_passed inv.keeps.options inv.left c.in_err-send_part.ensures.walks)

pub send_parts-returns-in_err-send_part-clause-keeps : goal.send_parts-returns-in_err-send_part-clause-keeps
send_parts-returns-in_err-send_part-clause-keeps t c = keeps_both _ _ _ _ _ _ c.loop-part.invariant.keeps c.in_err-send_part.ensures.keeps

pub send_parts-returns-clause-walks : goal.send_parts-returns-clause-walks
send_parts-returns-clause-walks t c =
    let key = to_z w64 (of_z w64 c.args.id) in
    let e : key ≡ c.args.id = to_z-of_z w64 c.args.id c.ranges.id in
    let xs = c.args.parts.now in
    let p = c.args.progress.now in
    let o = options_of c.args.tracker.now in
    let below = ids_of c.args.fields.now in
    let le : length xs ≤ c.loop-part.part-index = omega (arith, c.loop-part-test.false) in
    let sent = λ (z : ℤ). parts_sent o (used_by p.used) z below (is_some c.args.start) (unwrap_or c.args.start 0) (forest_of xs) (sending_of c.args.tracker.now p) in
    subst (λ z. PartsSent (Ok tt) c.loop-part.tracker p c.loop-part.progress (sent z)) e
    (parts_are_done o key below c.loop-part.is_delta c.loop-part.rest xs c.loop-part.part-index c.loop-part.tracker p c.loop-part.progress (sent key) le c.loop-part.invariant.left)

pub send_parts-returns-clause-keeps : goal.send_parts-returns-clause-keeps
send_parts-returns-clause-keeps t c = c.loop-part.invariant.keeps

-- ── one part ──

pub send_part-walk_array-requires : goal.send_part-walk_array-requires
send_part-walk_array-requires t c =
    let below : 8 * tree_size (parts_of c.args.part.now) < 8 * tree_size (parts_of c.args.part.now) + 1 = omega arith in
    search (rules, below)

pub send_part-take_off-requires : goal.send_part-take_off-requires
send_part-take_off-requires t c =
    let a = c.in_ok-walk_array.ensures.adds in
    omega (arith, c.count-count.ensures, ap length a.trail, length-append c.args.progress.now.used.trail.items a.added)

pub send_part-returns-clause-walks : goal.send_part-returns-clause-walks
send_part-returns-clause-walks t c =
    let key = to_z w64 (of_z w64 c.args.id) in
    let e : key ≡ c.args.id = to_z-of_z w64 c.args.id c.ranges.id in
    let p = c.args.progress.now in
    let q = c.walk_array.new.progress in
    let u = c.walk_array.new.tracker in
    let a = c.in_ok-walk_array.ensures.adds in
    let sent = map to_send q.messages.items in
    let step = c.in_ok-walk_array.ensures.walks ∙ ap (λ (v : ℤ → Bool). Ok (record { held = held_by u; used = v; sent = sent })) (fun_ext a.used) in (
      a.added,
      sent,
      step,
      ap (map to_send) c.in_ok-push.ensures.items ∙ map-append to_send q.messages.items _ ∙ ap (λ y. sent ++ message_of key c.args.is_delta y ∷ []) c.in_ok-values.ensures ∙ ap (λ z. sent ++ message_of z c.args.is_delta (rows_from c.args.row (parts_of c.args.part.now)) ∷ []) e,
      record {
        trail = c.take_off.ensures.trail ∙ a.trail;
        used = taken_off p.used q.used c.take_off.new.self c.count-count.result a c.count-count.ensures c.take_off.ensures.used;
        fresh = a.fresh;
      },
    )

pub send_part-returns-clause-keeps : goal.send_part-returns-clause-keeps
send_part-returns-clause-keeps t c =
    keeps_more c.args.tracker.now c.args.progress.now c.walk_array.new.tracker c.walk_array.new.progress _ _ c.in_ok-walk_array.ensures.keeps refl (λ before r. r)
