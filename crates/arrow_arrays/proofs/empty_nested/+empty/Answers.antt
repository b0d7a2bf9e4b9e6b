use Rattle.std.proofs.Common.{◌≡◌, ◌+◌, ◌<◌, ◌≤◌, ◌∷◌, ◌++◌, [], suc, Some, None, IfOk, sym, ap, ◌∙◌, subst, length, arith, rules}
use Rattle.arrow_types.specs.KindOf.{kind_of, fields_of}
use Rattle.arrow_arrays.specs.Carried.{is_carried, are_carried}
use Rattle.arrow_arrays.specs.EmptyParts.{empty_forest, empty_parts}
use Rattle.arrow_arrays.specs.EmptyTops.{values_in}
use Rattle.arrow_arrays.specs.Heads.{child_fields}
use Rattle.arrow_arrays.specs.Parts.{also, none}
use Rattle.arrow_arrays.specs.PartsOf.{forest_of}
use Rattle.arrow_arrays.proofs.EmptyTops.{kind_size, fields_size, size_over, size_of_values, values_carried, child_size, child_carried, fields_carried, below_values, below_fields, one_more, all_empty, FirstEmpty, kind_told, rows_told}
use Rattle.arrow_arrays.proofs.empty_nested.+empty.Goals as goal

pub new_empty_array-returns-in-Ok-clause-kind : goal.new_empty_array-returns-in-Ok-clause-kind
new_empty_array-returns-in-Ok-clause-kind t c = kind_told c.empty_over.result (kind_of c.args.dtype) c.empty_over.ensures

pub new_empty_array-returns-in-Ok-clause-rows : goal.new_empty_array-returns-in-Ok-clause-rows
new_empty_array-returns-in-Ok-clause-rows t c = rows_told c.empty_over.result (kind_of c.args.dtype) c.empty_over.ensures

pub empty_under-new_empty_array-requires : goal.empty_under-new_empty_array-requires
empty_under-new_empty_array-requires t c =
    let k = kind_of c.args.dtype.now in
    let v = kind_of c.in-Some.values.now in
    let is : values_in k ≡ Some v = sym c.in-Some.ensures in
    let e : kind_of c.in_ok-try_clone-in-Some.field-0 ≡ v = c.in_ok-try_clone-in-Some.ensures in
    let z : suc (kind_size v) ≤ kind_size k = size_of_values k v is in
    let s : kind_size (kind_of c.in_ok-try_clone-in-Some.field-0) ≡ kind_size v = ap kind_size e in
    (search (rules, z, s), ap is_carried e ∙ values_carried k v is c.requires)

pub empty_under-empty_children-requires : goal.empty_under-empty_children-requires
empty_under-empty_children-requires t c =
    let k = kind_of c.args.dtype.now in
    let under : fields_size (fields_of c.fields_under.result.now) ≡ fields_size (child_fields k) = ap fields_size c.fields_under.ensures in
    (search (rules, size_over k, under), ap are_carried c.fields_under.ensures ∙ fields_carried k c.requires)

pub empty_under-returns-in_ok-push-in-Some : goal.empty_under-returns-in_ok-push-in-Some
empty_under-returns-in_ok-push-in-Some t c =
    let k = kind_of c.args.dtype.now in
    let v = kind_of c.in-Some.values.now in
    let a = c.in_ok-new_empty_array-in-Some.field-0 in
    let is : values_in k ≡ Some v = sym c.in-Some.ensures in
    let p : c.push.new.self.items ≡ a ∷ [] = search rules in
    ap forest_of p
    ∙ ap (λ y. also y none) (c.in_ok-new_empty_array-in-Some.ensures.parts ∙ ap empty_parts c.in_ok-try_clone-in-Some.ensures)
    ∙ sym (below_values k v is)

pub empty_under-returns-in-None : goal.empty_under-returns-in-None
empty_under-returns-in-None t c =
    let k = kind_of c.args.dtype.now in
    let is : values_in k ≡ None = sym c.in-None.ensures in
    subst (λ f. IfOk c.empty_children.result (λ v. forest_of v.items ≡ f)) (ap empty_forest c.fields_under.ensures ∙ sym (below_fields k is)) c.empty_children.ensures

pub empty_children-new_empty_array-requires : goal.empty_children-new_empty_array-requires
empty_children-new_empty_array-requires t c =
    let below : c.loop-field.field-index < length c.args.fields.now = omega arith in
    let fs = c.args.fields.now in
    let x = c.field-item.result in
    let z : kind_size (kind_of x.dtype) ≤ fields_size (fields_of fs) = child_size fs c.loop-field.field-index x below c.field-item.is in
    let e : kind_of c.in_ok-dtype.dtype ≡ kind_of x.dtype = c.in_ok-dtype.ensures in
    let s : kind_size (kind_of c.in_ok-dtype.dtype) ≡ kind_size (kind_of x.dtype) = ap kind_size e in
    (search (rules, z, s), ap is_carried e ∙ child_carried fs c.loop-field.field-index x below c.field-item.is c.requires)

pub empty_children-loop-field-preserved : goal.empty_children-loop-field-preserved
empty_children-loop-field-preserved t c =
    let fs = c.args.fields.now in
    let i = c.loop-field.field-index in
    let a = c.in_ok-new_empty_array.field-0 in
    let xs = c.loop-field.children.items in
    let below : i < length fs = omega arith in
    let p : c.push.new.self.items ≡ xs ++ a ∷ [] = search rules in
    subst (λ ys. FirstEmpty fs (i + 1) ys) (sym p) (one_more fs i xs c.field-item.result a (kind_of c.in_ok-dtype.dtype) below c.field-item.is c.in_ok-dtype.ensures c.in_ok-new_empty_array.ensures.parts c.loop-field.invariant)

pub empty_children-returns : goal.empty_children-returns
empty_children-returns t c = all_empty c.args.fields.now c.loop-field.field-index c.loop-field.children.items (omega arith) c.loop-field.invariant
