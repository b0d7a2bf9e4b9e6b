use borrow.Author.Count.{below_more, below_none}
use Rattle.std.proofs.Common.{◌≡◌, ◌∙◌, ap, arith, refl, sym, subst, true≢false, length, slice_get, ◌≤◌, ℕ}
use Rattle.std.specs.Option.{option_map}
use Rattle.arrow_types.specs.Schemas.{entry_of}
use Rattle.same_fields.specs.Bare.{AreOfOneKind, bare_entry}
use Rattle.same_fields.proofs.BareKinds.{entries_at, entries_count, entries_more, entries_whole}
use Rattle.same_fields.proofs.OneKind.{all_of_one_kind}
use Rattle.same_fields.proofs.bare.have_same_fields.Goals as goal

pub returns-then-len-clause-same : goal.returns-then-len-clause-same
returns-then-len-clause-same c = (λ h. absurd (true≢false (sym h)), λ h. absurd (c.if-len.true (c.len.ensures.count ∙ entries_count c.args.a.now c.args.b.now h ∙ sym c.len-2.ensures.count)))

pub returns-then-not-is_same_entry-clause-same : goal.returns-then-not-is_same_entry-clause-same
returns-then-not-is_same_entry-clause-same c = (
  λ h. absurd (true≢false (sym h)),
  λ h. c.if-not-is_same_entry.ensures.same.1 (ap (option_map bare_entry) c.get_at_index.ensures ∙ entries_at c.args.a.now c.args.b.now c.loop-i.i h ∙ ap (option_map bare_entry) (sym c.get_at_index-in-loop-i.ensures)),
)

pub loop-i-init : goal.loop-i-init
loop-i-init c = (refl, below_none (λ k. AreOfOneKind (slice_get c.args.a.now k) (slice_get c.args.b.now k)))

pub loop-i-preserved : goal.loop-i-preserved
loop-i-preserved c =
    let a = slice_get c.args.a.now c.loop-i.i in
    let b = slice_get c.args.b.now c.loop-i.i in
    let one : AreOfOneKind a b = subst (λ o. AreOfOneKind o b) c.get_at_index.ensures (subst (λ o. AreOfOneKind (option_map entry_of c.get_at_index.result) o) c.get_at_index-in-loop-i.ensures (c.if-not-is_same_entry.ensures.kinds refl)) in (
      entries_more c.args.a.now c.args.b.now c.loop-i.i c.loop-i.invariant.0 (ap (option_map bare_entry) (sym c.get_at_index.ensures) ∙ c.if-not-is_same_entry.ensures.same.0 refl ∙ ap (option_map bare_entry) c.get_at_index-in-loop-i.ensures),
      below_more (λ (k : ℕ). AreOfOneKind (slice_get c.args.a.now k) (slice_get c.args.b.now k)) c.loop-i.i c.loop-i.invariant.1 one,
    )

pub returns-clause-same : goal.returns-clause-same
returns-clause-same c =
    let x : length c.args.a.now ≤ c.loop-i.i = omega arith in
    let y : length c.args.b.now ≤ c.loop-i.i = omega arith in
    (λ h. entries_whole c.args.a.now c.args.b.now c.loop-i.i x y c.loop-i.invariant.0, λ h. refl)

pub returns-clause-kinds : goal.returns-clause-kinds
returns-clause-kinds c =
    let x : length c.args.a.now ≤ c.loop-i.i = omega arith in
    let y : length c.args.b.now ≤ c.loop-i.i = omega arith in
    λ h. all_of_one_kind c.args.a.now c.args.b.now c.loop-i.i x y c.loop-i.invariant.1
