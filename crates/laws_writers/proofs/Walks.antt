-- What is sent of arrays tells what is held behind them: by the arrays' trees.
use Rattle.std.proofs.Common.{◌≡◌, inl, inr, ℕ, ℤ, ◌||◌, Bool, List, [], ◌∷◌, true, false, Option, Some, None, Ok, take, refl, ap, subst, ◌∙◌}
use Rattle.std.specs.Prelude.{is_some}
use Rattle.std.specs.List.{AllByRecursion}
use Rattle.std.specs.Option.{unwrap_or}
use Rattle.std.proofs.lemmas.Bool.{and_parts, or_parts}
use Rattle.std.proofs.lemmas.List.{take-append-drop}
use Rattle.arrow_spec.specs.Kinds as kind
use Rattle.arrow_spec.specs.Kinds.{Kind, Fields, Use, uses_in, uses_of}
use Rattle.arrow_spec.specs.Cells.{Cell}
use Rattle.ipc_messages.specs.Below.{Indexed, are_of, child_fields, each_of, indexed, is_dictionary, joined, listed, mapped, sized, structured, suits, tagged, values_kind, Parts, Forest, leaf, nested, none, also, cells_each, fault_in, fault_each, kind_in, kinds_each, Ids, fields_with, kind_with, id_under, first_id, first_ids, other_ids, use_as, allowed, delta_start, standing, Options, Sending, array_sent, arrays_sent, parts_sent, scoped}
use Rattle.ipc_messages.proofs.Below.{neither, top_sound, same_by_form}
use Rattle.arrow_spec.proofs.Forms.{form}
use Rattle.laws_columns.proofs.Below.{split}
use Rattle.laws_writers.specs.Heard.{AreApart, IsAmong, IsApart, PartsAreApart, cells_held, heard, stands_in, stands_in_each, stands_in_parts}
use Rattle.laws_writers.specs.StreamLaws.{WhatIsSentIsKnown}
use Rattle.laws_writers.proofs.Apart.{PartsUnder, Under, agreeing_are_apart, children_under, columns_of_kinds, dictionary_uses, fields_hold, first_used, same_dictionary, values_under_them}
use Rattle.laws_writers.proofs.Fixed.{array_fixes}
use Rattle.laws_writers.proofs.Stands.{begun_longer, longer_begins}
use Rattle.laws_writers.proofs.Steps.{stepped}
use Rattle.laws_writers.proofs.Told.{Adds, Becomes, PartsWalked, Replaces, Walked, delta_walked, dictionary_walked, first_walked, none_walked, walked_both, walked_same, with_here}

-- the parts of a dictionary, from where they are new
parts_become : (o : Options) (us : List Use) (d : Indexed) (parts : Forest) (id : ℤ) (below : Ids) (s u : Sending) (start : Option ℕ) → delta_start o.deltas (standing (s.held id) (values_kind d.kind) parts) ≡ start
    → parts_sent o s.used id below (is_some start) (unwrap_or start 0) parts s ≡ Ok u
    → (parts_sent o s.used id below false 0 parts s ≡ Ok u → PartsWalked o us id s u (λ q. stands_in_parts q parts below) (Replaces id parts))
    → ((n : ℕ) → parts_sent o s.used id below true n parts s ≡ Ok u → PartsWalked o us id s u (λ q. stands_in_parts q parts below) (Adds id n parts))
    → PartsWalked o us id s u (λ q. stands_in_parts q parts below) (Becomes id s parts)
parts_become o us d parts id below s u None g e all deltas =
    with_here o us id s u (λ q. stands_in_parts q parts below) (Replaces id parts) (Becomes id s parts) (λ more h. h (cells_held (s.held id))) (all e)
parts_become o us d parts id below s u (Some n) g e all deltas =
    let new = joined (cells_each parts) in
    let begins : cells_held (s.held id) ≡ Some (take n new) = longer_begins (s.held id) (values_kind d.kind) parts n (begun_longer o.deltas (standing (s.held id) (values_kind d.kind) parts) n g) in
    with_here o us id s u (λ q. stands_in_parts q parts below) (Adds id n parts) (Becomes id s parts)
    (λ more h. ap (heard id more) begins ∙ h (take n new) ∙ ap (λ (z : List Cell). Some z) (take-append-drop n new)) (deltas n e)

-- uses that are among some
abbrev AllAmong : List Use → List Use → Type 0
AllAmong us vs = AllByRecursion (λ u. IsAmong u vs) us

all_among : (us vs : List Use) → ((u : Use) → IsAmong u us → IsAmong u vs) → AllAmong us vs
all_among [] vs f = tt
all_among (u ∷ us) vs f = (f u (inl refl), all_among us vs (λ v h. f v (inr h)))

mutual
  array_walked : (o : Options) (us : List Use) (p : Parts) (k : Kind) (id : Option ℤ) (below : Ids) (s t : Sending) → array_sent o p id below s ≡ Ok t → fault_in p ≡ None → IsApart p id below
      → form k ≡ form (kind_in p) → AllAmong (uses_of (kind_with k id below)) us → Walked o us s t (λ q. stands_in q p id below)
  array_walked o us (leaf l) k id below s t e f a g all = walked_same o us s t (λ q. stands_in q (leaf l) id below) (Ok s) refl e
  array_walked o us (nested (listed l) cs) k id below s t e f a g all =
      let sound = top_sound (listed l) cs f in
      arrays_walked o us cs (child_fields k) below s t e sound.1 a (children_under k l.kind cs g (and_parts (suits (listed l)) (are_of (child_fields l.kind) (kinds_each cs)) sound.0.suits).1) (fields_hold (λ u. IsAmong u us) k id below all)
  array_walked o us (nested (mapped l) cs) k id below s t e f a g all =
      let sound = top_sound (mapped l) cs f in
      arrays_walked o us cs (child_fields k) below s t e sound.1 a (children_under k l.kind cs g (and_parts (suits (mapped l)) (are_of (child_fields l.kind) (kinds_each cs)) sound.0.suits).1) (fields_hold (λ u. IsAmong u us) k id below all)
  array_walked o us (nested (sized l) cs) k id below s t e f a g all =
      let sound = top_sound (sized l) cs f in
      arrays_walked o us cs (child_fields k) below s t e sound.1 a (children_under k l.kind cs g (and_parts (suits (sized l)) (are_of (child_fields l.kind) (kinds_each cs)) sound.0.suits).1) (fields_hold (λ u. IsAmong u us) k id below all)
  array_walked o us (nested (structured l) cs) k id below s t e f a g all =
      let sound = top_sound (structured l) cs f in
      arrays_walked o us cs (child_fields k) below s t e sound.1 a (children_under k l.kind cs g (and_parts (suits (structured l)) (are_of (child_fields l.kind) (kinds_each cs)) sound.0.suits).1) (fields_hold (λ u. IsAmong u us) k id below all)
  array_walked o us (nested (tagged l) cs) k id below s t e f a g all =
      let sound = top_sound (tagged l) cs f in
      arrays_walked o us cs (child_fields k) below s t e sound.1 a (children_under k l.kind cs g (and_parts (suits (tagged l)) (are_of (child_fields l.kind) (kinds_each cs)) sound.0.suits).1) (fields_hold (λ u. IsAmong u us) k id below all)
  array_walked o us (nested (indexed d) parts) k id below s t e f a g all =
      let q = id_under id in
      let st = standing (s.held q) (values_kind d.kind) parts in
      let start = delta_start o.deltas st in
      let sound = top_sound (indexed d) parts f in
      let both = and_parts (is_dictionary d.index d.kind) (each_of (values_kind d.kind) (kinds_each parts)) sound.0.suits in
      let v = values_kind k in
      let among : AllAmong (use_as q (kind_with v None below) ∷ uses_of (kind_with v None below)) us = subst (λ z. AllAmong z us) (dictionary_uses d.index k id below (same_dictionary d.index k d.kind g both.0)) all in
      let there = values_under_them k d.kind parts g both.1 in
      dictionary_walked o us (allowed (o.cannot_replace || s.used q) o.deltas st) start q parts s t (parts_sent o s.used q below (is_some start) (unwrap_or start 0) parts s) (λ z. stands_in_parts z parts below) e
      (λ u h. parts_become o us d parts q below s u start refl h (λ i. all_walked o us s.used q (values_kind d.kind) v below parts s u i both.1 sound.1 a.0 a.1 there among) (λ n i. deltas_walked o us s.used q v below n parts s u i sound.1 a.0 a.1 there among))

  arrays_walked : (o : Options) (us : List Use) (ps : Forest) (fs : Fields) (below : Ids) (s t : Sending) → arrays_sent o ps below s ≡ Ok t → fault_each ps ≡ None → AreApart ps below → Under fs ps
      → AllAmong (uses_in (fields_with fs below)) us → Walked o us s t (λ q. stands_in_each q ps below)
  arrays_walked o us none fs below s t e f a g all = walked_same o us s t (λ q. stands_in_each q none below) (Ok s) refl e
  arrays_walked o us (also p ps) kind.none below s t e f a g all = absurd g
  arrays_walked o us (also p ps) (kind.field name nullable metadata k fs) below s t e f a g all =
      let st = stepped (array_sent o p (first_id below) (first_ids below) s) (arrays_sent o ps (other_ids below)) t e in
      let sound = neither (fault_in p) (fault_each ps) f in
      let both = split (λ u. IsAmong u us) (uses_of (kind_with k (first_id below) (first_ids below))) (uses_in (fields_with fs (other_ids below))) (subst (λ z. AllAmong z us) (first_used name nullable metadata k fs below) all) in
      walked_both o us s st.0 t (λ q. stands_in q p (first_id below) (first_ids below)) (λ q. stands_in_each q ps (other_ids below)) (array_walked o us p k (first_id below) (first_ids below) s st.0 st.1 sound.0 a.0 g.0 both.0)
      (arrays_walked o us ps fs (other_ids below) st.0 t st.2 sound.1 a.1 g.1 both.1)

  deltas_walked : (o : Options) (us : List Use) (used : ℤ → Bool) (id : ℤ) (k : Kind) (below : Ids) (n : ℕ) (ps : Forest) (s t : Sending) → parts_sent o used id below true n ps s ≡ Ok t → fault_each ps ≡ None → stands_in_parts id ps below ≡ false
      → PartsAreApart ps below → PartsUnder k ps → AllAmong (use_as id (kind_with k None below) ∷ uses_of (kind_with k None below)) us → PartsWalked o us id s t (λ q. stands_in_parts q ps below) (Adds id n ps)
  deltas_walked o us used id k below n none s t e f apart a g all = none_walked o us id n s t (λ q. stands_in_parts q none below) (Ok s) refl e
  deltas_walked o us used id k below n (also p ps) s t e f apart a g all =
      let sound = neither (fault_in p) (fault_each ps) f in
      let both = or_parts (stands_in id p None below) (stands_in_parts id ps below) apart in
      delta_walked o us used id k below n p ps s t e sound.0 both.0 all.0 (same_by_form k (kind_in p) g.0)
      (λ u h. (array_walked o us p k None below (scoped used s) u h sound.0 a.0 g.0 all.1, (array_fixes o p None below (scoped used s) u h).fixed)) (λ m u h. deltas_walked o us used id k below m ps u t h sound.1 both.1 a.1 g.1 all)

  all_walked : (o : Options) (us : List Use) (used : ℤ → Bool) (id : ℤ) (l k : Kind) (below : Ids) (ps : Forest) (s t : Sending) → parts_sent o used id below false 0 ps s ≡ Ok t → each_of l (kinds_each ps) ≡ true → fault_each ps ≡ None
      → stands_in_parts id ps below ≡ false → PartsAreApart ps below → PartsUnder k ps → AllAmong (use_as id (kind_with k None below) ∷ uses_of (kind_with k None below)) us → PartsWalked o us id s t (λ q. stands_in_parts q ps below) (Replaces id ps)
  all_walked o us used id l k below none s t e some f apart a g all = absurd (let no : false ≡ true = some in cc)
  all_walked o us used id l k below (also p ps) s t e some f apart a g all =
      let sound = neither (fault_in p) (fault_each ps) f in
      let both = or_parts (stands_in id p None below) (stands_in_parts id ps below) apart in
      first_walked o us used id k below p ps s t e sound.0 both.0 all.0 (same_by_form k (kind_in p) g.0)
      (λ u h. (array_walked o us p k None below (scoped used s) u h sound.0 a.0 g.0 all.1, (array_fixes o p None below (scoped used s) u h).fixed)) (λ u h. deltas_walked o us used id k below 0 ps u t h sound.1 both.1 a.1 g.1 all)

pub sent_is_known : WhatIsSentIsKnown
sent_is_known o fs ps below s t e f same agree =
    let us = uses_in (fields_with fs below) in
    let u = columns_of_kinds ps fs same in
    let w = arrays_walked o us ps fs below s t e f (agreeing_are_apart ps fs below f u agree) u (all_among us us (λ v h. h)) in
    record { more = w.more; sent = w.sent; known = w.known; stand = λ c h. w.stand c (λ q g. h q) }
