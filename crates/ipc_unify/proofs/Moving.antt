-- A dictionary whose keys are moved to its place in a list.
use Rattle.std.proofs.Common.{◌≡◌, ◌∙◌, sym, refl, ap, ℕ, suc, ◌+◌, ◌<◌, ◌≤◌, ◌^◌, List, length, Bool, true, false, Option, None, Some, option_map, ℤ, arith, inl, inr, ◌⊎◌}
use Rattle.std.specs.Prelude.{nat_le}
use Rattle.std.proofs.lemmas.Bool.{and_parts}
use Rattle.std.proofs.lemmas.Bool.Decides.{leb_tells}
use Rattle.arrow_spec.specs.declared.types.IntegerType.{IntegerType}
use Rattle.arrow_spec.specs.Arrays.{from_on}
use Rattle.arrow_spec.specs.Faults.{some_row}
use Rattle.arrow_arrays.specs.Heads.{Indexed, each_of, indexed, is_dictionary, values_kind}
use Rattle.arrow_arrays.specs.KeysOf.{index_in, indexed_by, key_validity_in, keys_in}
use Rattle.arrow_arrays.specs.Parts.{Forest, nested, none, fault_in, kinds_each}
use Rattle.arrow_arrays.specs.declared.keys.DictionaryKeys.{DictionaryKeys}
use Rattle.arrow_arrays.proofs.Sliced.{top_sound}
use Rattle.laws_unify.specs.Over.{Lists, has_large_key, is_large_at, moved, moved_at, over, place_in, values_of}
use Rattle.laws_unify.specs.Stands.{StandsIn}
use Rattle.laws_unify.proofs.Goes.{covers}
use Rattle.dictionary_keys.specs.Keys.{HaveRoom, Moves}
use Rattle.dictionary_places.specs.declared.list.DictionaryList.{DictionaryList}
use Rattle.ipc_unify.specs.Steps.{lists_of}
use Rattle.ipc_unify.proofs.ListSteps.{no_list}

-- the list has parts, so there is one of the number
some_parts : (us : Lists) (h : Indexed) (cs : Forest) (id : ℕ) → fault_in (over us (nested (indexed h) cs) id) ≡ None → us id ≡ none → ⊥
some_parts us h cs id f e =
    let t = top_sound (indexed (moved (place_in (us id) cs) h)) (us id) f in
    let s = (and_parts (is_dictionary h.index h.kind) (each_of (values_kind h.kind) (kinds_each (us id))) t.0.suits).1 in
    let none_there : each_of (values_kind h.kind) (kinds_each none) ≡ true = ap (λ ps. each_of (values_kind h.kind) (kinds_each ps)) (sym e) ∙ s in
    cc

pub list_there : (ls : List DictionaryList) (h : Indexed) (cs : Forest) (id : ℕ) → fault_in (over (lists_of ls) (nested (indexed h) cs) id) ≡ None → id < length ls
list_there ls h cs id f = by (leb_tells (suc id) (length ls))
  where
    by : ((nat_le (suc id) (length ls) ≡ true) × (suc id ≤ length ls)) ⊎ ((nat_le (suc id) (length ls) ≡ false) × (length ls < suc id)) → id < length ls
    by (inl t) = t.1
    by (inr g) = let past = g.1 in absurd (some_parts (lists_of ls) h cs id f (no_list ls id (omega (arith, past))))

-- the keys have room behind the place
pub keys_have_room : (us : Lists) (h : Indexed) (cs : Forest) (id place : ℕ) (keys : List ℤ) (validity : Option (List Bool)) → fault_in (nested (indexed h) cs) ≡ None → StandsIn us (nested (indexed h) cs) id → keys ≡ h.keys → validity ≡ h.validity → place + length (values_of cs) < 2 ^ 64
    → HaveRoom place keys validity
keys_have_room us h cs id place keys validity f s e g room = rw (e, g) (record { held = length (values_of cs); keyed = (covers us (nested (indexed h) cs) id f s).1; room = room })

-- what is said of the keys of a dictionary
pub record AreKeys (held : DictionaryKeys) (h : Indexed) : Type 0 where
  pub index : index_in held ≡ h.index
  pub keys : keys_in held ≡ h.keys
  pub validity : key_validity_in held ≡ h.validity

-- a key that passes its type
pub keys_large : (keys : DictionaryKeys) (h : Indexed) (n o : ℕ) → AreKeys keys h → n ≡ o → Moves (index_in keys) n (keys_in keys) (key_validity_in keys) None → has_large_key o h ≡ true
keys_large keys h n o a e m =
    let large : IntegerType → ℕ → List ℤ → Option (List Bool) → Bool = λ t place ks v. some_row (is_large_at t place ks v) (length ks) in
    sym (ap (λ t. large t n (keys_in keys) (key_validity_in keys)) a.index ∙ ap (λ p. large h.index p (keys_in keys) (key_validity_in keys)) e ∙ ap (λ ks. large h.index o ks (key_validity_in keys)) a.keys ∙ ap (large h.index o h.keys) a.validity) ∙ m

-- keys that do not
pub record AreMoved (new : DictionaryKeys) (h : Indexed) (o : ℕ) : Type 0 where
  pub head : indexed_by h.kind new ≡ moved o h
  pub small : has_large_key o h ≡ false

pub keys_moved : (keys new : DictionaryKeys) (h : Indexed) (n o : ℕ) → AreKeys keys h → n ≡ o → Moves (index_in keys) n (keys_in keys) (key_validity_in keys) (Some (keys_in new)) → index_in new ≡ index_in keys → key_validity_in new ≡ key_validity_in keys → AreMoved new h o
keys_moved keys new h n o a e m index validity =
    let large : IntegerType → ℕ → List ℤ → Option (List Bool) → Bool = λ t place ks v. some_row (is_large_at t place ks v) (length ks) in
    let fresh : ℕ → List ℤ → Option (List Bool) → List ℤ = λ place ks v. from_on (moved_at place ks v) 0 (length ks) in
    let ks : keys_in new ≡ fresh o h.keys h.validity = m.0 ∙ ap (λ p. fresh p (keys_in keys) (key_validity_in keys)) e ∙ ap (λ xs. fresh o xs (key_validity_in keys)) a.keys ∙ ap (fresh o h.keys) a.validity in
    record {
      head = ap (λ t. record { kind = h.kind; index = t; keys = keys_in new; validity = key_validity_in new }) (index ∙ a.index) ∙ ap (λ xs. record { kind = h.kind; index = h.index; keys = xs; validity = key_validity_in new }) ks
          ∙ ap (λ v. record { kind = h.kind; index = h.index; keys = fresh o h.keys h.validity; validity = v }) (validity ∙ a.validity);
      small = sym (ap (λ t. large t n (keys_in keys) (key_validity_in keys)) a.index ∙ ap (λ p. large h.index p (keys_in keys) (key_validity_in keys)) e ∙ ap (λ xs. large h.index o xs (key_validity_in keys)) a.keys ∙ ap (large h.index o h.keys) a.validity) ∙ m.1;
    }
