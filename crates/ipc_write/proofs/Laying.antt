-- One row more is laid.
use Rattle.std.proofs.Common.{◌≡◌, ℕ, inl, inr, Result, Ok, Err, OnOk, IfOk, is_ok, Vec, Global, suc, ◌+◌, ◌-◌, ◌≤◌, ◌<◌, ◌^◌, ◌++◌, List, [], ◌∷◌, Bool, true, false, Some, None, length, drop, nat_le, refl, sym, ap, ◌∙◌, arith, append_assoc, append-nil, add-one, length-append, length-take, length-drop}
use Rattle.std.specs.Prelude.{if◌then◌else◌}
use Rattle.std.proofs.lemmas.Bool.{lt-leb, cases_Bool}
use Rattle.arrow_spec.specs.Layout.{zeros}
use Rattle.arrow_spec.specs.Arrays.{u32_of}
use Rattle.arrow_buffers.specs.Rows.{is_valid}
use Rattle.arrow_buffers.specs.Views.{Views, view_rows, view_at, view_fault, buffer_at}
use Rattle.arrow_buffers.proofs.ViewParts.{view_sound, good_row}
use Rattle.arrow_buffers.proofs.Views.{leads, long_view as long_is}
use Rattle.ipc_write.specs.Compaction.{Laid, laid_from, value_at, long_view, has_room, begun_buffer, laid_anew}
use Rattle.ipc_write.specs.Laying.{all_laid}

-- what is laid before a row, behind some views and buffers
abbrev pub behind : List ℕ → List (List ℕ) → Laid → Laid
behind views buffers rest = record { views = views ++ rest.views; buffers = buffers ++ rest.buffers }

-- a null row
pub null_laid : (p : Views) (row n : ℕ) (views : List ℕ) (buffers : List (List ℕ)) (begun : List ℕ) → is_valid p.validity row ≡ false → all_laid p (row + 1) n (views ++ zeros 16) buffers begun ≡ all_laid p row (suc n) views buffers begun
null_laid p row n views buffers begun h =
    let rest = laid_from p (suc row) (length buffers) begun n in
    rw (add-one, h) (ap (λ v. behind v buffers rest) refl ∙ ap (λ v. record { views = v; buffers = buffers ++ rest.buffers }) (append_assoc views (zeros 16) rest.views))

-- a longer one, in the buffer that is begun or in a new one
long_same : (p : Views) (row n : ℕ) (views : List ℕ) (buffers : List (List ℕ)) (begun : List ℕ) → is_valid p.validity row ≡ true → 12 < u32_of (view_at p.views row) 0 → has_room (length begun) (u32_of (view_at p.views row) 0) ≡ true
    → all_laid p (suc row) n (views ++ long_view (value_at p row) (length buffers) (length begun)) buffers (begun ++ value_at p row) ≡ all_laid p row (suc n) views buffers begun
long_same p row n views buffers begun h k f =
    let rest = laid_from p (suc row) (length buffers) (begun ++ value_at p row) n in
    let gt : nat_le (u32_of (view_at p.views row) 0) 12 ≡ false = lt-leb _ 12 k in
    rw (h, gt, f) (ap (λ v. record { views = v; buffers = buffers ++ rest.buffers }) (append_assoc views (long_view (value_at p row) (length buffers) (length begun)) rest.views))

long_new : (p : Views) (row n : ℕ) (views : List ℕ) (buffers : List (List ℕ)) (begun : List ℕ) → is_valid p.validity row ≡ true → 12 < u32_of (view_at p.views row) 0 → has_room (length begun) (u32_of (view_at p.views row) 0) ≡ false
    → all_laid p (suc row) n (views ++ long_view (value_at p row) (length (buffers ++ begun ∷ [])) 0) (buffers ++ begun ∷ []) (value_at p row) ≡ all_laid p row (suc n) views buffers begun
long_new p row n views buffers begun h k f =
    let number : length (buffers ++ begun ∷ []) ≡ suc (length buffers) = omega (arith, length-append buffers (begun ∷ [])) in
    let rest = laid_from p (suc row) (suc (length buffers)) (value_at p row) n in
    let gt : nat_le (u32_of (view_at p.views row) 0) 12 ≡ false = lt-leb _ 12 k in
    let view = long_view (value_at p row) (suc (length buffers)) 0 in
    rw (h, gt, f) (
    ap (λ m. record { views = (views ++ long_view (value_at p row) m 0) ++ (laid_from p (suc row) m (value_at p row) n).views; buffers = (buffers ++ begun ∷ []) ++ (laid_from p (suc row) m (value_at p row) n).buffers }) number
    ∙ ap (λ v. record { views = v; buffers = (buffers ++ begun ∷ []) ++ rest.buffers }) (append_assoc views view rest.views)
    ∙ ap (λ b. record { views = views ++ (view ++ rest.views); buffers = b }) (append_assoc buffers (begun ∷ []) rest.buffers))

pub long_laid : (p : Views) (row n : ℕ) (views bytes new_views begun new_begun end_begun : List ℕ) (buffers new_buffers : List (List ℕ)) (count : ℕ) → is_valid p.validity row ≡ true → 12 < count → count ≡ u32_of (view_at p.views row) 0 → bytes ≡ value_at p row
    → new_buffers ≡ (if has_room (length begun) count then buffers else buffers ++ begun ∷ []) → new_begun ≡ (if has_room (length begun) count then begun else [])
    → new_views ≡ views ++ long_view bytes (length new_buffers) (length new_begun) → end_begun ≡ new_begun ++ bytes
    → all_laid p (row + 1) n new_views new_buffers end_begun ≡ all_laid p row (suc n) views buffers begun
long_laid p row n views bytes new_views begun new_begun end_begun buffers new_buffers count h k hc hb hn hg hv he =
    let k2 : 12 < u32_of (view_at p.views row) 0 = rw (← hc) k in
    elim (cases_Bool (has_room (length begun) count)) [
      | inl t ↦
          let f : has_room (length begun) (u32_of (view_at p.views row) 0) ≡ true = ap (has_room (length begun)) (sym hc) ∙ t in
          let hn2 : new_buffers ≡ buffers = hn ∙ ap (λ b. if b then buffers else buffers ++ begun ∷ []) t in
          let hg2 : new_begun ≡ begun = hg ∙ ap (λ b. if b then begun else []) t in
          rw (he, hv, hn2, hg2, hb, add-one) (long_same p row n views buffers begun h k2 f)
      | inr t ↦
          let f : has_room (length begun) (u32_of (view_at p.views row) 0) ≡ false = ap (has_room (length begun)) (sym hc) ∙ t in
          let hn2 : new_buffers ≡ buffers ++ begun ∷ [] = hn ∙ ap (λ b. if b then buffers else buffers ++ begun ∷ []) t in
          let hg2 : new_begun ≡ [] = hg ∙ ap (λ b. if b then begun else []) t in
          rw (he, hv, hn2, hg2, hb, add-one) (long_new p row n views buffers begun h k2 f)
    ]

-- what a value that is given or not says of its row
pub some_value : (valid : Bool) (x y : List ℕ) → Some x ≡ (if valid then Some y else None) → (valid ≡ true) × (x ≡ y)
some_value true x y e = (refl, cc)
some_value false x y e = absurd (cc)

pub no_value : (valid : Bool) (y : List ℕ) → None ≡ (if valid then Some y else None) → valid ≡ false
no_value true y e = absurd (cc)
no_value false y e = refl

-- a long value is as long as its view says
pub value_size : (is_text s : Bool) (p : Views) (row : ℕ) → view_fault is_text s p ≡ None → row < view_rows p.views → is_valid p.validity row ≡ true → 12 < u32_of (view_at p.views row) 0 → length (value_at p row) ≡ u32_of (view_at p.views row) 0
value_size is_text s p row e h v k =
    let view = view_at p.views row in
    let good = good_row p row (view_sound is_text s p e).seen h v in
    let led = leads p.buffers view good k in
    let buffer = buffer_at p.buffers (u32_of view 8) in
    rw (long_is p.buffers view k) (omega (arith, length-take (u32_of view 0) (drop (u32_of view 12) buffer), length-drop (u32_of view 12) buffer, led.inside))

-- the same of a call that may fail
pub null_put : {T E : Type 0} → (r : Result T E) (p : Views) (row : ℕ) (views new : List ℕ) (buffers : List (List ℕ)) (begun : List ℕ) → is_valid p.validity row ≡ false → new ≡ (if is_ok r then views ++ zeros 16 else views)
    → OnOk r ((n : ℕ) → all_laid p (row + 1) n new buffers begun ≡ all_laid p row (suc n) views buffers begun)
null_put (Ok t) p row views new buffers begun h e = λ n. rw e (null_laid p row n views buffers begun h)
null_put (Err t) p row views new buffers begun h e = tt

pub long_put : {T E : Type 0} → (r : Result T E) (p : Views) (row : ℕ) (views same bytes new_views begun new_begun end_begun : List ℕ) (buffers new_buffers end_buffers : List (List ℕ)) (count : ℕ) → is_valid p.validity row ≡ true → 12 < count → count ≡ u32_of (view_at p.views row) 0 → bytes ≡ value_at p row
    → same ≡ views → new_buffers ≡ (if has_room (length begun) count then buffers else buffers ++ begun ∷ []) → new_begun ≡ (if has_room (length begun) count then begun else [])
    → OnOk r (new_views ≡ same ++ long_view bytes (length new_buffers) (length new_begun)) → end_buffers ≡ new_buffers → OnOk r (end_begun ≡ new_begun ++ bytes)
    → OnOk r ((n : ℕ) → all_laid p (row + 1) n new_views end_buffers end_begun ≡ all_laid p row (suc n) views buffers begun)
long_put (Ok t) p row views same bytes new_views begun new_begun end_begun buffers new_buffers end_buffers count h k hc hb hs hn hg hv hm he = λ n. rw hm (long_laid p row n views bytes new_views begun new_begun end_begun buffers new_buffers count h k hc hb hn hg (rw hs at hv) he)
long_put (Err t) p row views same bytes new_views begun new_begun end_begun buffers new_buffers end_buffers count h k hc hb hs hn hg hv hm he = tt

-- no row yet
pub none_laid : (p : Views) (views begun : List ℕ) (buffers : List (List ℕ)) → views ≡ [] → buffers ≡ [] → begun ≡ [] → all_laid p 0 (view_rows p.views - 0) views buffers begun ≡ laid_anew p
unfolding laid_anew
none_laid p views begun buffers hv hb hg =
    let left : view_rows p.views - 0 ≡ view_rows p.views = omega arith in
    rw (hv, hb, hg, left) refl

-- every row
pub ends_laid : {E : Type 0} → (r : Result (List ℕ × Vec (List ℕ) Global) E) (p : Views) (row : ℕ) (views begun : List ℕ) (buffers : List (List ℕ)) → row ≡ view_rows p.views → all_laid p row (view_rows p.views - row) views buffers begun ≡ laid_anew p
    → IfOk r (λ x. x.0 ≡ views) → IfOk r (λ x. x.1.items ≡ buffers ++ begun_buffer begun) → IfOk r (λ x. laid_anew p ≡ record { views = x.0; buffers = x.1.items })
ends_laid (Ok x) p row views begun buffers hr h hv hb =
    let left : view_rows p.views - row ≡ 0 = omega arith in
    let whole : all_laid p row 0 views buffers begun ≡ laid_anew p = rw left at h in
    sym whole ∙ ap (λ v. record { views = v; buffers = buffers ++ begun_buffer begun }) (append-nil views) ∙ rw (hv, hb) refl
ends_laid (Err e) p row views begun buffers hr h hv hb = tt

-- ── how many buffers ──

pub same_few : {T E : Type 0} → (r : Result T E) (a : ℕ) → OnOk r (a < 2 ^ 32 → a < 2 ^ 32)
same_few (Ok t) a = λ h. h
same_few (Err e) a = tt

pub few_on : {T E : Type 0} → (r : Result T E) (a b : ℕ) → OnOk r (b < 2 ^ 32) → OnOk r (a < 2 ^ 32 → b < 2 ^ 32)
few_on (Ok t) a b h = λ k. h
few_on (Err e) a b h = tt

-- the one that is begun is one more
pub few_ended : {E : Type 0} → (r : Result (List ℕ × Vec (List ℕ) Global) E) (begun : List ℕ) (buffers : List (List ℕ)) → length buffers < 2 ^ 32 → IfOk r (λ x. x.1.items ≡ buffers ++ begun_buffer begun) → IfOk r (λ x. length x.1.items ≤ 2 ^ 32)
few_ended (Ok x) [] buffers h e = omega (arith, ap length e, length-append buffers [])
few_ended (Ok x) (b ∷ bs) buffers h e = omega (arith, ap length e, length-append buffers ((b ∷ bs) ∷ []))
few_ended (Err e) begun buffers h f = tt
