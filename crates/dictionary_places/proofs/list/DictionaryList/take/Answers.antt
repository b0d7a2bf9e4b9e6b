use Rattle.std.proofs.Common.{◌≡◌, ◌∙◌, ◌-◌, length, ap}
use Rattle.arrow_arrays.specs.PartsOf.{forest_of}
use Rattle.laws_unify.specs.Over.{values_of}
use Rattle.laws_unify.specs.United.{behind, held_in, parts_from, with_parts}
use Rattle.dictionary_places.specs.Lists.{parts_in}
use Rattle.dictionary_places.proofs.Appended.{stood_now}
use Rattle.dictionary_places.proofs.Places.{rows_count}
use Rattle.dictionary_places.proofs.list.DictionaryList.take.Goals as goal

held : (c : goal.After-drop-places-2) → c.len.result - c.in_ok-at.at ≡ held_in (parts_in c.args.self.now) (forest_of c.args.parts.now)
held c =
    let l = c.args.self.now in
    let count : c.len.result ≡ length (values_of (parts_in l)) = c.len.ensures ∙ l.places.ok.0 ∙ rows_count l.parts.items l.places.items c.requires.rows in
    ap (λ n. n - c.in_ok-at.at) count ∙ ap (λ n. length (values_of (parts_in l)) - n) c.in_ok-at.ensures.place

grown : (c : goal.After-drop-places-2) → parts_in c.append.new.self ≡ with_parts (parts_in c.args.self.now) (forest_of c.args.parts.now)
grown c = c.in_ok-append.ensures.parts ∙ ap (λ n. behind (parts_in c.args.self.now) (parts_from n (forest_of c.args.parts.now))) (held c)

pub returns-clause-held : goal.returns-clause-held
returns-clause-held c = held c

pub returns-clause-parts : goal.returns-clause-parts
returns-clause-parts c = grown c

pub returns-clause-kept : goal.returns-clause-kept
returns-clause-kept c =
    let l = c.args.self.now in
    let count : c.len-self.result ≡ length (values_of (forest_of c.args.parts.now)) = c.len-self.ensures ∙ c.in_ok-places.places.ok.0 ∙ rows_count c.args.parts.now c.in_ok-places.places.items c.in_ok-places.ensures in
    record {
      rows = c.in_ok-append.ensures.rows;
      last = stood_now (parts_in l) (forest_of c.args.parts.now) (parts_in c.append.new.self) c.in_ok-at.at c.len-self.result (grown c) c.in_ok-places.ensures.sound c.in_ok-at.ensures.place count;
    }
