use Rattle.std.proofs.Common.{◌≡◌, ◌∙◌, ◌<◌, sym, ap, arith, Some, length, get_or}
use Rattle.std.proofs.lemmas.Option.{slice_get-get_or, get_or_from_slice_get, same_Some}
use Rattle.ipc_projection.proofs.Stood.{all_stood, next_left, one_taken, one_more}
use Rattle.ipc_projection.proofs.items.items_at.Goals as goal

pub index_mut-requires : goal.index_mut-requires
index_mut-requires g c =
    let place = get_or c.args.places.now c.loop-i.i 0 in
    let e = slice_get-get_or c.args.places.now c.loop-i.i 0 c.loop-i-test.true in
    let l : place < length c.args.items.items = c.requires.places.below c.loop-i.i place e in
    let n : length c.loop-i.slots.items ≡ length c.args.items.items = c.loop-i.invariant.left.count in
    omega arith

pub unreachable-requires : goal.unreachable-requires
unreachable-requires g c =
    let place = get_or c.args.places.now c.loop-i.i 0 in
    let e = slice_get-get_or c.args.places.now c.loop-i.i 0 c.loop-i-test.true in
    let x = next_left c.args.items.items c.args.places.now c.loop-i.i c.loop-i.slots.items c.requires.places c.loop-i.invariant.left place e in
    c.in_default.not-Some x.0 (c.take.ensures.value ∙ c.index_mut.ensures.value ∙ get_or_from_slice_get c.loop-i.slots.items place (Some x.0) c.index_mut.result.now x.2)

pub loop-i-preserved : goal.loop-i-preserved
loop-i-preserved g c =
    let place = get_or c.args.places.now c.loop-i.i 0 in
    let e = slice_get-get_or c.args.places.now c.loop-i.i 0 c.loop-i-test.true in
    let x = next_left c.args.items.items c.args.places.now c.loop-i.i c.loop-i.slots.items c.requires.places c.loop-i.invariant.left place e in
    let is : c.in-Some.item ≡ x.0 = same_Some _ _ (c.in-Some.ensures.value ∙ c.index_mut.ensures.value ∙ get_or_from_slice_get c.loop-i.slots.items place (Some x.0) c.index_mut.result.now x.2) in
    record {
      moved = one_more c.args.items.items c.args.places.now c.loop-i.i c.loop-i.moved.items c.loop-i.invariant.moved place c.in-Some.item e (x.1 ∙ ap Some (sym is)) c.push.new.self.items c.in_ok-push.ensures.items;
      left = one_taken c.args.items.items c.args.places.now c.loop-i.i c.loop-i.slots.items c.loop-i.invariant.left place e c.take.new.self;
    }

pub returns-clause-items : goal.returns-clause-items
returns-clause-items g c = all_stood c.args.items.items c.args.places.now c.loop-i.i c.loop-i.moved.items c.loop-i.invariant.moved (omega arith)
