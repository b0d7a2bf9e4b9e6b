-- Arrays of texts that are not refused: the bytes of a row that is not null are UTF-8.
use Rattle.std.proofs.Common.{◌≡◌, ℕ, ◌<◌, ◌&&◌, List, Bool, true, false, Option, None, nat_lt, refl}
use Rattle.std.specs.Prelude.{not}
use Rattle.std.specs.Str.{IsUtf8, is_utf8}
use Rattle.std.proofs.lemmas.Bool.{and_parts, ltb-true}
use Rattle.std.proofs.lemmas.Str.{IsUtf8-from_is_utf8}
use Rattle.arrow_buffers.specs.Rows.{holds_row, is_valid}
use Rattle.arrow_buffers.specs.Variable.{Variable, variable_rows, row_bytes, has_bad_text, variable_fault}
use Rattle.arrow_buffers.specs.Views.{Views, view_rows, view_at, view_bytes, has_bad_view_text, is_no_text_view, view_fault}
use Rattle.arrow_buffers.proofs.Rows.{none_below}
use Rattle.arrow_buffers.proofs.VariableParts.{variable_sound}
use Rattle.arrow_buffers.proofs.ViewParts.{view_sound, good_row}

not_bad : (valid good : Bool) → (valid && not good) ≡ false → valid ≡ true → good ≡ true
not_bad true true e f = refl
not_bad true false e f = cc
not_bad false good e f = cc

pub row_is_text : (s : Bool) (p : Variable) (row : ℕ) → variable_fault true s p ≡ None → holds_row p.validity (variable_rows p.offsets) row ≡ true → IsUtf8 (row_bytes p.offsets p.values row)
unfolding has_bad_text
row_is_text s p row e h =
    let here = and_parts (nat_lt row (variable_rows p.offsets)) (is_valid p.validity row) h in
    let bad : ℕ → Bool = λ k. is_valid p.validity k && not (is_utf8 (row_bytes p.offsets p.values k)) in
    let fine = none_below bad (variable_rows p.offsets) (variable_sound true s p e).texts row (ltb-true row (variable_rows p.offsets) here.0) in
    IsUtf8-from_is_utf8 _ (not_bad (is_valid p.validity row) (is_utf8 (row_bytes p.offsets p.values row)) fine here.1)

pub view_is_text : (s : Bool) (p : Views) (row : ℕ) → view_fault true s p ≡ None → holds_row p.validity (view_rows p.views) row ≡ true → IsUtf8 (view_bytes p.buffers (view_at p.views row))
unfolding has_bad_view_text
view_is_text s p row e h =
    let here = and_parts (nat_lt row (view_rows p.views)) (is_valid p.validity row) h in
    let inside = ltb-true row (view_rows p.views) here.0 in
    let sound = view_sound true s p e in
    let bad : ℕ → Bool = λ k. is_valid p.validity k && is_no_text_view p.buffers (view_at p.views k) in
    let fine = none_below bad (view_rows p.views) sound.texts row inside in
    let good = good_row p row sound.seen inside here.1 in
    IsUtf8-from_is_utf8 _ (text_of (is_valid p.validity row) _ (is_utf8 (view_bytes p.buffers (view_at p.views row))) fine here.1 good)
  where
    text_of : (valid good text : Bool) → (valid && (good && not text)) ≡ false → valid ≡ true → good ≡ true → text ≡ true
    text_of true true true e f g = refl
    text_of true true false e f g = cc
    text_of true false text e f g = cc
    text_of false good text e f g = cc

pub ruleset texts_asked = (row_is_text, view_is_text)
