-- Rows of views that pass both tests: each is good, and text.
use Rattle.std.proofs.Common.{◌≡◌, ℕ, zero, suc, ◌&&◌, ◌||◌, Bool, true, false, refl, sym, ap, ◌∙◌}
use Rattle.std.specs.Prelude.{not}
use Rattle.std.specs.Str.{is_utf8}
use Rattle.arrow_spec.specs.Faults.{some_row}
use Rattle.arrow_buffers.specs.Views.{is_good_view, is_text_view, view_bytes}
use Rattle.view_types.specs.Views.{Top, bits_in, is_set, view_in}
use Rattle.ipc_view.specs.Layouts.{buffers_in, is_bad_text_view, is_bad_view}

-- the view of a row that is not null is no good one of a text
abbrev pub is_no_good_text : Top → ℕ → Bool
is_no_good_text t row = is_set (bits_in t.input t.validity) row && not (is_text_view (buffers_in t) (view_in t row))

four_or : (a b c d : Bool) → ((a || b) || (c || d)) ≡ ((a || c) || (b || d))
four_or true b c d = refl
four_or false true true d = refl
four_or false true false d = refl
four_or false false c d = refl

some_either : (bad p q : ℕ → Bool) (n : ℕ) → ((row : ℕ) → bad row ≡ (p row || q row)) → some_row bad n ≡ (some_row p n || some_row q n)
some_either bad p q zero h = refl
some_either bad p q (suc n) h = rw (some_either bad p q n h, h n) (four_or (some_row p n) (some_row q n) (p n) (q n))

no_text_or_bad : (valid good text : Bool) → (valid && not (good && text)) ≡ ((valid && not good) || (valid && (good && not text)))
no_text_or_bad false good text = refl
no_text_or_bad true false text = refl
no_text_or_bad true true text = refl

not_either : (a b : Bool) → not (a || b) ≡ (not a && not b)
not_either true b = refl
not_either false b = refl

-- one test at each row tells what two do
pub both_tests : (t : Top) (found : Bool) → some_row (is_no_good_text t) t.rows ≡ found → not found ≡ (not (some_row (is_bad_view t) t.rows) && not (some_row (is_bad_text_view t) t.rows))
both_tests t found e =
    let here : (row : ℕ) → is_no_good_text t row ≡ (is_bad_view t row || is_bad_text_view t row)
    = λ row. no_text_or_bad (is_set (bits_in t.input t.validity) row) (is_good_view (buffers_in t) (view_in t row)) (is_utf8 (view_bytes (buffers_in t) (view_in t row))) in
    ap not (sym e ∙ some_either (is_no_good_text t) (is_bad_view t) (is_bad_text_view t) t.rows here) ∙ not_either (some_row (is_bad_view t) t.rows) (some_row (is_bad_text_view t) t.rows)
