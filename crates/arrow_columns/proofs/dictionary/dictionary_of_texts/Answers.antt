use Rattle.std.proofs.Common.{◌≡◌, ℕ, ◌<◌, ◌≤◌, length, pos, get_or, [], ◌∷◌, ◌++◌, w32, SFits, rules, None, true, false, ap, ◌∙◌, arith}
use Rattle.std.proofs.lemmas.Int.{to_z-of_z}
use Rattle.arrow_arrays.specs.LeafParts.{text}
use Rattle.arrow_arrays.specs.Parts.{leaf, none, also}
use Rattle.arrow_columns.specs.Strings.{strings, bytes_each}
use Rattle.arrow_columns.specs.Dictionary.{distinct_texts, keyed_by, SaysText}
use Rattle.arrow_columns.proofs.Keyed.{next_key_refused, next_came, next_keyed, values_refused, lent_distinct, lent_keys_fit, all_keyed, key_at, key_count, holds_of}
use Rattle.arrow_columns.proofs.dictionary.dictionary_of_texts.Goals as goal

pub returns-in_err-key-clause-err : goal.returns-in_err-key-clause-err
returns-in_err-key-clause-err c =
    let below : c.loop-row.row-index < length c.args.rows.now = omega arith in
    next_key_refused c.args.rows.now c.loop-row.row-index _ c.loop-row.came.keys c.from_residual.result c.in_err-key.field-0.0 below c.loop-row.invariant.came c.in_err-key.ensures.err c.from_residual.ensures.1

pub loop-row-preserved : goal.loop-row-preserved
loop-row-preserved c =
    let below : c.loop-row.row-index < length c.args.rows.now = omega arith in
    let fits : SFits w32 c.in_ok-key.key = search rules in
    let pushed = c.in_ok-push.ensures.items ∙ ap (λ k. c.loop-row.keys.items ++ k ∷ []) (to_z-of_z w32 c.in_ok-key.key fits) in
    record {
      came = next_came c.loop-row.came.keys c.key_of.new.came.keys c.args.rows.now c.loop-row.row-index _ below c.in_ok-key.ensures.came c.loop-row.invariant.came;
      keyed = next_keyed c.loop-row.came.keys c.key_of.new.came.keys c.args.rows.now c.loop-row.row-index _ c.loop-row.keys.items c.push.new.self.items c.in_ok-key.key below c.in_ok-key.ensures.came pushed c.loop-row.invariant.keyed c.in_ok-key.ensures.key;
    }

pub returns-in_err-values-clause-err : goal.returns-in_err-values-clause-err
returns-in_err-values-clause-err c =
    let all : length c.args.rows.now ≤ c.loop-row.row-index = omega arith in
    values_refused c.as_slice.result.now (distinct_texts c.args.rows.now) c.from_residual-in_err-values.result c.in_err-values.field-0.0 (lent_distinct c.loop-row.came.keys c.as_slice.result.now c.args.rows.now c.loop-row.row-index all c.as_slice.ensures.keys c.loop-row.invariant.came)
    c.in_err-values.ensures.err c.from_residual-in_err-values.ensures.1

pub keyed-requires-clause-keys : goal.keyed-requires-clause-keys
keyed-requires-clause-keys c =
    lent_keys_fit c.loop-row.came.keys c.as_slice.result.now _ c.loop-row.keys.items c.as_slice-2.result.now c.in_ok-values.values c.as_slice.ensures.keys c.as_slice-2.ensures.value c.in_ok-values.ensures.ok c.loop-row.invariant.keyed

pub returns-clause-parts : goal.returns-clause-parts
returns-clause-parts c =
    let all : length c.args.rows.now ≤ c.loop-row.row-index = omega arith in
    let made = c.in_ok-values.ensures.ok ∙ ap (λ d. strings true false (bytes_each d) None) (lent_distinct c.loop-row.came.keys c.as_slice.result.now c.args.rows.now c.loop-row.row-index all c.as_slice.ensures.keys c.loop-row.invariant.came) in
    holds_of (λ a. a ≡ record { head = keyed_by a.head.keys; children = also (leaf (text (strings true false (bytes_each (distinct_texts c.args.rows.now)) None))) none }) _ c.keyed.result c.keyed.ensures.ok
    (ap (λ v. record { head = keyed_by c.as_slice-2.result.now; children = also (leaf (text v)) none }) made)

pub returns-clause-rows : goal.returns-clause-rows
returns-clause-rows c =
    let all : length c.args.rows.now ≤ c.loop-row.row-index = omega arith in
    let keyed = all_keyed c.loop-row.came.keys c.args.rows.now c.loop-row.row-index c.loop-row.keys.items c.as_slice-2.result.now all c.loop-row.invariant.came c.as_slice-2.ensures.value c.loop-row.invariant.keyed in
    holds_of (λ a. length a.head.keys ≡ length c.args.rows.now) _ c.keyed.result c.keyed.ensures.ok (key_count (distinct_texts c.args.rows.now) c.args.rows.now c.as_slice-2.result.now keyed)

pub returns-clause-each : goal.returns-clause-each
returns-clause-each c =
    let all : length c.args.rows.now ≤ c.loop-row.row-index = omega arith in
    let keyed = all_keyed c.loop-row.came.keys c.args.rows.now c.loop-row.row-index c.loop-row.keys.items c.as_slice-2.result.now all c.loop-row.invariant.came c.as_slice-2.ensures.value c.loop-row.invariant.keyed in
    holds_of (λ a. (i : ℕ) → i < length c.args.rows.now → SaysText (distinct_texts c.args.rows.now) (get_or a.head.keys i (pos 0)) (get_or (bytes_each c.args.rows.now) i [])) _ c.keyed.result c.keyed.ensures.ok
    (key_at (distinct_texts c.args.rows.now) c.args.rows.now c.as_slice-2.result.now keyed)
