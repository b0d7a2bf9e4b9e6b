use Rattle.std.proofs.Common.{◌≡◌, ◌+◌, ◌*◌, ◌<◌, ◌++◌, ◌∷◌, [], None, true, length, map, take, get_or, refl, sym, ap, ◌∙◌, subst, arith, length-append}
use Rattle.std.specs.Prelude.{pos}
use Rattle.std.specs.List.{list_all}
use Rattle.std.specs.Str.{is_utf8}
use Rattle.std.proofs.lemmas.List.{take_all}
use Rattle.arrow_buffers.specs.Variable.{are_offsets, has_bad_text}
use Rattle.arrow_columns.proofs.Laid.{laid_rise, laid_texts, next_laid, next_text}
use Rattle.arrow_arrays.specs.PartsOf.{parts_of}
use Rattle.ipc_generate.specs.Arrays.{digits_of}
use Rattle.ipc_generate.proofs.EachRow.{as_pos, digits_text, gives_as, map_same, texts_are}
use Rattle.ipc_generate.proofs.columns.digits.Goals as goal

pub loop-x-preserved : goal.loop-x-preserved
loop-x-preserved c =
    let xs = c.args.states.now in
    let i = c.loop-x.x-index in
    let below : i < length xs = omega arith in
    let made = c.in_ok-extend_from_slice.ensures.items ∙ ap (λ d. c.loop-x.values.items ++ d) c.digits_of.ensures.digits in
    let row = digits_of (get_or xs i 0) in
    let size : length c.extend_from_slice.new.self.items ≡ 4 * (i + 1) =
    ap length made ∙ length-append c.loop-x.values.items row ∙ ap (λ n. n + 4) c.loop-x.invariant.size ∙ (let e : 4 * i + 4 ≡ 4 * (i + 1) = omega arith in e) in
    let few : length (c.loop-x.values.items ++ row) < 2147483648 = omega (arith, size, ap length made, c.requires.few) in
    let pushed = c.in_ok-push.ensures.items ∙ ap (λ z. c.loop-x.offsets.items ++ z ∷ [])
    (as_pos c.len.result (omega (arith, c.len.ensures, size, c.requires.few)) ∙ ap pos (let e : c.len.result ≡ length (c.loop-x.values.items ++ row) = omega (arith, c.len.ensures, ap length made) in e)) in
    record {
      laid = next_laid digits_of 2147483648 xs i 0 c.loop-x.offsets.items c.push.new.self.items c.loop-x.values.items c.extend_from_slice.new.self.items below c.loop-x.invariant.laid made pushed few;
      texts = next_text digits_of xs i 0 below c.loop-x.invariant.texts (digits_text (get_or xs i 0));
      size = size;
    }

pub texts_of-requires-clause-rise : goal.texts_of-requires-clause-rise
texts_of-requires-clause-rise c =
    ap (λ o. are_offsets o (length c.loop-x.values.items)) (map_same c.loop-x.offsets.items)
    ∙ laid_rise 2147483648 (map digits_of (take c.loop-x.x-index c.args.states.now)) c.loop-x.offsets.items c.loop-x.values.items c.loop-x.invariant.laid

pub texts_of-requires-clause-texts : goal.texts_of-requires-clause-texts
texts_of-requires-clause-texts c =
    ap (λ o. has_bad_text o c.loop-x.values.items None) (map_same c.loop-x.offsets.items)
    ∙ laid_texts 2147483648 (map digits_of (take c.loop-x.x-index c.args.states.now)) c.loop-x.offsets.items c.loop-x.values.items None c.loop-x.invariant.laid c.loop-x.invariant.texts

pub returns-clause-parts : goal.returns-clause-parts
returns-clause-parts c =
    gives_as parts_of c.texts_of.result _ _ (texts_are 2147483648 c.args.states.now c.loop-x.x-index c.loop-x.offsets.items c.loop-x.values.items (omega arith) c.loop-x.invariant.laid)
    c.texts_of.ensures.parts
