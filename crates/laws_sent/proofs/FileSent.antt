-- All that is to be sent of a file's dictionaries is sent by a walk over its columns.
use Rattle.std.proofs.Common.{◌≡◌, List, [], ◌∷◌, ◌^◌, ◌<◌, length, map, take, sym, ap, subst, ◌∙◌, arith, true, None, Some, Option, pos}
use Rattle.std.specs.List.{AllByRecursion}
use Rattle.std.proofs.Math.Seq.{take-length}
use Rattle.std.proofs.lemmas.Bool.{and_parts}
use Rattle.arrow_spec.specs.Kinds as kind
use Rattle.arrow_spec.specs.Kinds.{Kind, Fields, Use, uses_in, uses_of}
use Rattle.arrow_spec.specs.Arrays.{Dictionaries}
use Rattle.arrow_spec.specs.Sent.{dictionary_messages, nothing_sent, send_fields}
use Rattle.ipc_files.specs.Below.{is_carried, are_carried, Forest, rows_in}
use Rattle.ipc_fields.specs.IpcFields.{Ids}
use Rattle.laws_writers.specs.Below.{ToSend, plain_fields}
use Rattle.laws_sent.specs.Parts.{PartTree}
use Rattle.laws_writers.proofs.Apart.{columns_of_kinds}
use Rattle.laws_sent.specs.DictionaryLaws.{AreFileColumns, FileDictionariesAreSent, sent_message}
use Rattle.laws_sent.specs.ReadUnder.{AreReadUnder, held_of}
use Rattle.laws_sent.proofs.Again.{fields_same}
use Rattle.laws_sent.proofs.EmptyArrays.{all_as_read}
use Rattle.laws_sent.proofs.Lists.{all_both}
use Rattle.laws_sent.proofs.Pieces.{IsReadAs, all_read}
use Rattle.laws_sent.proofs.Visited.{IsBefore, none_visited, state}
use Rattle.laws_sent.proofs.Walks.{AreArrays, IsUse, fields_sent}

-- ── the uses in fields ──

mutual
  carried_uses : (k : Kind) → is_carried k ≡ true → AllByRecursion (λ u. is_carried u.values ≡ true) (uses_of k)
  carried_uses (kind.«list» o fs) c = all_carried_uses fs (and_parts _ _ c).1
  carried_uses (kind.fixed_size_list n fs) c = all_carried_uses fs (and_parts _ _ c).1
  carried_uses (kind.struct fs) c = all_carried_uses fs c
  carried_uses (kind.map sorted fs) c = all_carried_uses fs (and_parts _ _ c).1
  carried_uses (kind.union mode stated ids fs) c = all_carried_uses fs (and_parts _ _ c).1
  carried_uses (kind.dictionary t ordered id k) c = (c, carried_uses k c)
  carried_uses (kind.extension name metadata k) c = carried_uses k c
  carried_uses k c = tt

  all_carried_uses : (fs : Fields) → are_carried fs ≡ true → AllByRecursion (λ u. is_carried u.values ≡ true) (uses_in fs)
  all_carried_uses kind.none c = tt
  all_carried_uses (kind.field name nullable metadata k others) c =
      let both = and_parts (is_carried k) (are_carried others) c in
      all_both (λ (u : Use). is_carried u.values ≡ true) (uses_of k) (uses_in others) (carried_uses k both.0) (all_carried_uses others both.1)

all_uses : (ps : List PartTree) (us : List Use) → AllByRecursion (λ u. is_carried u.values ≡ true) us → AllByRecursion (IsReadAs ps) us → AllByRecursion (IsUse ps) us
all_uses ps [] c r = tt
all_uses ps (u ∷ us) c r = ((c.0, r.0), all_uses ps us c.1 r.1)

-- ── the law ──

columns_are : (fs : Fields) (d : Dictionaries) (ps : List PartTree) (below : Ids) (columns : Forest) → AreFileColumns fs d ps below columns → AreArrays fs ps fs d columns
columns_are fs d ps below columns a =
    let all : take (length d) ps ≡ ps = ap (λ n. take n ps) (sym a.parts.count) ∙ take-length ps in
    record {
      some = record { each = a.parts.each; few = omega (arith, a.parts.count); unreplaced = a.parts.unreplaced };
      held = all_as_read (held_of (take (length d) ps)) fs columns (subst (λ l. AreReadUnder (held_of l) fs columns) (sym all) a.read);
      under = columns_of_kinds columns (plain_fields fs) a.kinds;
      sound = a.sound;
    }

pub file_sent : FileDictionariesAreSent
unfolding dictionary_messages
file_sent o fs d ps below columns s deltas a none_held none_sent =
    let start : map sent_message s.sent ≡ [] = ap (map sent_message) none_sent in
    let few = subst (AllByRecursion (λ (m : ToSend). rows_in m.part < 2 ^ 63)) (sym none_sent) tt in
    let before = none_visited ps (IsBefore (Some d)) (λ q. tt) fs 0 (state s nothing_sent) (λ j. ap (λ (h : Option Forest). (h, None)) (none_held (pos j))) in
    let uses = all_uses ps (uses_in fs) (all_carried_uses fs a.carried) (all_read fs ps a.order) in
    let e = fields_sent fs ps o deltas fs 0 d columns below s nothing_sent uses a.ids (columns_are fs d ps below columns a) (start, few) before in
    record {
      behind = e.behind;
      is = e.is;
      sent = e.fits.0;
      few = e.fits.1;
      no_more = λ o' others now deltas' b held.
          let r = fields_same fs ps o' deltas' fs 0 d others below now (state e.behind (send_fields d fs 0 nothing_sent)) b.ids (columns_are fs d ps below others b) e.seen (λ j. held (pos j)) in
          (r.behind, r.is, r.sent, r.held);
    }
