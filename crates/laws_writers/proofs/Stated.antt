-- What is known under the ids of IPC fields is known under those that the stream's fields state.
use Rattle.std.proofs.Common.{◌≡◌, inl, inr, ℕ, ℤ, Bool, List, [], ◌∷◌, true, Option, Some, None, refl, sym, ap, subst, ◌∙◌}
use Rattle.std.specs.List.{AllByRecursion}
use Rattle.std.proofs.lemmas.Bool.{and_parts}
use Rattle.std.proofs.lemmas.List.{append_cancel_left}
use Rattle.arrow_spec.specs.declared.types.IntegerType.{IntegerType}
use Rattle.arrow_spec.specs.Kinds as kind
use Rattle.arrow_spec.specs.Kinds.{Kind, Fields, Use, uses_in}
use Rattle.arrow_spec.specs.Cells.{Cell}
use Rattle.ipc_messages.specs.Below.{are_of, child_fields, each_of, indexed, is_dictionary, joined, listed, mapped, sized, structured, suits, tagged, values_kind, Parts, Forest, leaf, nested, none, also, cells_each, fault_each, fault_in, kind_in, kinds_each, Ids, fields_with, ids, kind_with, no_fields, first_id, first_ids, id_under, other_ids, use_as, ToSend}
use Rattle.ipc_messages.proofs.Below.{neither, top_sound, form_is_same, same_by_form}
use Rattle.arrow_spec.proofs.Forms.{form, forms}
use Rattle.laws_columns.specs.Below.{plain_kind, dictionary_id, first_kind, other_fields}
use Rattle.laws_columns.proofs.Below.{plain_with, Agrees, plain_same, uses_one}
use Rattle.laws_writers.specs.Heard.{AllHaveValues, AllHaveValuesAt, AllMayStand, AllStand, GoesOn, HasValues, HasValuesAt, IsAmong, MayStand, Stands, heard, with_part}
use Rattle.laws_writers.specs.StreamLaws.{WhatIsSentMayStand}
use Rattle.laws_writers.proofs.Apart.{Under, children_under, columns_of_kinds, fields_form, same_dictionary}
use Rattle.laws_writers.proofs.Fixed.{sent_is_fixed}
use Rattle.laws_writers.proofs.Values.{all_known}
use Rattle.laws_writers.proofs.Walks.{sent_is_known}

-- ── the ids that kinds state ──

-- names, nullability and metadata aside a kind states the same id
id_form : (k : Kind) → dictionary_id (form k) ≡ dictionary_id k
id_form (kind.extension name metadata k) = id_form k
id_form k = refl

first_form : (fs : Fields) → first_kind (forms fs) ≡ form (first_kind fs)
first_form kind.none = refl
first_form (kind.field name nullable metadata k fs) = refl

others_form : (fs : Fields) → other_fields (forms fs) ≡ forms (other_fields fs)
others_form kind.none = refl
others_form (kind.field name nullable metadata k fs) = refl

-- a dictionary with the id of its IPC field states it
id_with : (i : IntegerType) (k : Kind) (id : Option ℤ) (below : Ids) → is_dictionary i k ≡ true → dictionary_id (kind_with k id below) ≡ id_under id
id_with i (kind.dictionary t ordered old k) id below h = refl
id_with i (kind.extension name metadata k) id below h = id_with i k id below h
id_with i k id below h = cc

-- the fields of a kind have the ids below it
fields_below : (k : Kind) (id : Option ℤ) (below : Ids) → child_fields (kind_with k id below) ≡ fields_with (child_fields k) below
fields_below (kind.extension name metadata k) id below = fields_below k id below
fields_below k id below = refl

first_with : (name : List ℕ) (nullable : Bool) (metadata : kind.Metadata) (k : Kind) (fs : Fields) (below : Ids) → first_kind (fields_with (kind.field name nullable metadata k fs) below) ≡ kind_with k (first_id below) (first_ids below)
first_with name nullable metadata k fs no_fields = refl
first_with name nullable metadata k fs (ids id below others) = refl

others_with : (name : List ℕ) (nullable : Bool) (metadata : kind.Metadata) (k : Kind) (fs : Fields) (below : Ids) → other_fields (fields_with (kind.field name nullable metadata k fs) below) ≡ fields_with fs (other_ids below)
others_with name nullable metadata k fs no_fields = refl
others_with name nullable metadata k fs (ids id below others) = refl

-- fields of one form have children of one form
below_one : (l k : Kind) (id : Option ℤ) (below : Ids) → form l ≡ form (kind_with k id below) → forms (child_fields l) ≡ forms (fields_with (child_fields k) below)
below_one l k id below e = sym (fields_form l) ∙ ap child_fields e ∙ fields_form (kind_with k id below) ∙ ap forms (fields_below k id below)

first_one : (gs fs : Fields) → forms gs ≡ forms fs → form (first_kind gs) ≡ form (first_kind fs)
first_one gs fs e = sym (first_form gs) ∙ ap first_kind e ∙ first_form fs

others_one : (gs fs : Fields) → forms gs ≡ forms fs → forms (other_fields gs) ≡ forms (other_fields fs)
others_one gs fs e = sym (others_form gs) ∙ ap other_fields e ∙ others_form fs

-- ── arrays ──

module _ (deltas : Bool) (c : ℤ → Option (List Cell)) where
  mutual
    array_stated : (p : Parts) (k l : Kind) (id : Option ℤ) (below : Ids) → form k ≡ form (kind_in p) → fault_in p ≡ None → form l ≡ form (kind_with k id below) → HasValues deltas c p id below → HasValuesAt deltas c l p
    array_stated (leaf x) k l id below g f e h = tt
    array_stated (nested (listed x) cs) k l id below g f e h =
        let s = top_sound (listed x) cs f in
        each_stated cs (child_fields k) (child_fields l) below (children_under k x.kind cs g (and_parts (suits (listed x)) (are_of (child_fields x.kind) (kinds_each cs)) s.0.suits).1) s.1 (below_one l k id below e) h
    array_stated (nested (mapped x) cs) k l id below g f e h =
        let s = top_sound (mapped x) cs f in
        each_stated cs (child_fields k) (child_fields l) below (children_under k x.kind cs g (and_parts (suits (mapped x)) (are_of (child_fields x.kind) (kinds_each cs)) s.0.suits).1) s.1 (below_one l k id below e) h
    array_stated (nested (sized x) cs) k l id below g f e h =
        let s = top_sound (sized x) cs f in
        each_stated cs (child_fields k) (child_fields l) below (children_under k x.kind cs g (and_parts (suits (sized x)) (are_of (child_fields x.kind) (kinds_each cs)) s.0.suits).1) s.1 (below_one l k id below e) h
    array_stated (nested (structured x) cs) k l id below g f e h =
        let s = top_sound (structured x) cs f in
        each_stated cs (child_fields k) (child_fields l) below (children_under k x.kind cs g (and_parts (suits (structured x)) (are_of (child_fields x.kind) (kinds_each cs)) s.0.suits).1) s.1 (below_one l k id below e) h
    array_stated (nested (tagged x) cs) k l id below g f e h =
        let s = top_sound (tagged x) cs f in
        each_stated cs (child_fields k) (child_fields l) below (children_under k x.kind cs g (and_parts (suits (tagged x)) (are_of (child_fields x.kind) (kinds_each cs)) s.0.suits).1) s.1 (below_one l k id below e) h
    array_stated (nested (indexed x) cs) k l id below g f e h =
        let s = top_sound (indexed x) cs f in
        let both = and_parts (is_dictionary x.index x.kind) (each_of (values_kind x.kind) (kinds_each cs)) s.0.suits in
        let own : dictionary_id l ≡ id_under id = sym (id_form l) ∙ ap dictionary_id e ∙ id_form (kind_with k id below) ∙ id_with x.index k id below (same_dictionary x.index k x.kind g both.0) in
        subst (λ q. GoesOn (Some (joined (cells_each cs))) deltas (c q)) (sym own) h

    each_stated : (ps : Forest) (fs gs : Fields) (below : Ids) → Under fs ps → fault_each ps ≡ None → forms gs ≡ forms (fields_with fs below) → AllHaveValues deltas c ps below → AllHaveValuesAt deltas c gs ps
    each_stated none fs gs below u f e h = tt
    each_stated (also p ps) kind.none gs below u f e h = absurd u
    each_stated (also p ps) (kind.field name nullable metadata k fs) gs below u f e h =
        let all = kind.field name nullable metadata k fs in
        let sound = neither (fault_in p) (fault_each ps) f in
        let first : form (first_kind gs) ≡ form (kind_with k (first_id below) (first_ids below)) = first_one gs (fields_with all below) e ∙ ap form (first_with name nullable metadata k fs below) in
        let others : forms (other_fields gs) ≡ forms (fields_with fs (other_ids below)) = others_one gs (fields_with all below) e ∙ ap forms (others_with name nullable metadata k fs below) in
        (array_stated p k (first_kind gs) (first_id below) (first_ids below) u.0 sound.0 first h.0, each_stated ps fs (other_fields gs) (other_ids below) u.1 sound.1 others h.1)

-- ── messages ──

-- one of some uses has what all of them have
of_all : (P : Use → Type 0) (u : Use) (us : List Use) → IsAmong u us → AllByRecursion P us → P u
of_all P u [] none_here all = absurd none_here
of_all P u (v ∷ us) (inl e) all = subst P (sym e) all.0
of_all P u (v ∷ us) (inr i) all = of_all P u us i all.1

message_stated : (deltas : Bool) (fs : Fields) (c : ℤ → Option (List Cell)) (m : ToSend) → AllByRecursion (Agrees (uses_in fs)) (uses_in fs) → Stands deltas (uses_in fs) c m → MayStand deltas fs c m
message_stated deltas fs c m all w =
    let k = kind_with w.kind None w.below in
    let a : Agrees (uses_in fs) (use_as m.id k) = of_all (Agrees (uses_in fs)) (use_as m.id k) (uses_in fs) w.among all in
    let one : form a.values ≡ form k = form_is_same a.values k a.one in
    let plain : form (plain_kind (kind_in m.part)) ≡ form (plain_kind a.values) = sym (form_is_same (plain_kind w.kind) (plain_kind (kind_in m.part)) (plain_same w.kind (kind_in m.part) w.alike))
    ∙ ap form (sym (plain_with w.kind None w.below)) ∙ sym (form_is_same (plain_kind a.values) (plain_kind k) (plain_same a.values k a.one)) in
    record {
      kind = a.values;
      under = a.first;
      alike = same_by_form (plain_kind (kind_in m.part)) (plain_kind a.values) plain;
      sound = w.sound;
      values = array_stated deltas c m.part w.kind a.values None w.below (form_is_same w.kind (kind_in m.part) w.alike) w.sound one w.values;
    }

messages_stated : (deltas : Bool) (fs : Fields) (c : ℤ → Option (List Cell)) (ms : List ToSend) → AllByRecursion (Agrees (uses_in fs)) (uses_in fs) → AllStand deltas (uses_in fs) c ms → AllMayStand deltas fs c ms
messages_stated deltas fs c [] all h = tt
messages_stated deltas fs c (m ∷ ms) all h = (message_stated deltas fs c m all h.0, messages_stated deltas fs (λ q. with_part q m (c q)) ms all h.1)

pub sent_may_stand : WhatIsSentMayStand
sent_may_stand o fs ps below s t more c e sent known f same agree =
    let told = sent_is_known o fs ps below s t e f same agree in
    let is : told.more ≡ more = append_cancel_left s.sent told.more more (sym told.sent ∙ sent) in
    let now = λ (q : ℤ). heard q more (c q) in (
      messages_stated o.deltas (fields_with fs below) c more (uses_one (fields_with fs below) agree) (subst (AllStand o.deltas (uses_in (fields_with fs below)) c) is (told.stand c known)),
      each_stated o.deltas now ps fs (fields_with fs below) below (columns_of_kinds ps fs same) f refl
          (all_known o.deltas t now ps below (sent_is_fixed o ps below s t e) (λ q h. ap (λ ms. heard q ms (c q)) (sym is) ∙ ap (heard q told.more) (known q) ∙ told.known q)),
    )
