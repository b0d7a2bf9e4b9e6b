-- What is held and was sent of each dictionary of a kind, by the messages that were read when it was last visited.
use Rattle.std.proofs.Common.{◌≡◌, ℕ, suc, ◌+◌, ◌<◌, ◌≤◌, List, Option, Some, None, sym, subst, arith, ℤ, pos}
use Rattle.arrow_spec.specs.Kinds as kind
use Rattle.arrow_spec.specs.Kinds.{Kind, Fields, none, field, dictionary_count, dictionary_counts}
use Rattle.arrow_spec.specs.Arrays.{Dictionaries}
use Rattle.arrow_spec.specs.Sent.{sent_under}
use Rattle.arrow_spec.specs.Sent as sent
use Rattle.ipc_files.specs.Below.{Forest}
use Rattle.arrow_spec.proofs.Forms.{form}
use Rattle.laws_writers.specs.Below.{Sending}
use Rattle.laws_transcode.proofs.Histories.{IsBehind, Precedes}
use Rattle.laws_sent.specs.Parts.{PartTree}
use Rattle.laws_sent.proofs.Forms.{bare_form}
use Rattle.laws_sent.proofs.Pieces.{shown, trees}
use Rattle.laws_sent.proofs.Standings.{total}

-- the parts that are held under a new id, and how many cells were sent
abbrev pub Place : Type 0
Place = Option Forest × Option ℕ

abbrev pub State : Type 0
State = ℕ → Place

abbrev pub state : Sending → sent.Sending → State
state s v i = (s.held (pos i), sent_under v.counts i)

-- what is said of a visit of the dictionary under a file's id
abbrev pub OfVisit : Type 1
OfVisit = ℤ → Option Dictionaries → Type 0

-- it was not after another
abbrev pub IsBefore : Option Dictionaries → OfVisit
IsBefore o q u = Precedes u o

-- it saw all cells of some messages
abbrev pub HasSeen : Dictionaries → OfVisit
HasSeen e q u = (c : Dictionaries) × (u ≡ Some c) × IsBehind c e × (total c q ≡ total e q)

pub seen_before : (e : Dictionaries) (q : ℤ) (u : Option Dictionaries) → HasSeen e q u → Precedes u (Some e)
seen_before e q u h = subst (λ o. Precedes o (Some e)) (sym h.1) h.2

module _ (ps : List PartTree) where
  -- behind a visit under some messages, or none: the parts of an id, the empty one of a kind alike
  abbrev pub SeenAt : Option Dictionaries → ℤ → Kind → Place → Type 0
  SeenAt None q k x = x ≡ (None, None)
  SeenAt (Some e) q k x = (l : Kind) × (bare_form k ≡ form l) × (x ≡ (Some (trees ps l (shown e q)), Some (total e q)))

  -- Under the ids that count from a number on, each dictionary of a kind had a last visit, or none, of which something holds; those inside its values before that.
  abbrev mutual
    pub Visited : OfVisit → Kind → ℕ → State → Type 0
    Visited R (kind.«list» o fs) i f = AllVisited R fs i f
    Visited R (kind.fixed_size_list n fs) i f = AllVisited R fs i f
    Visited R (kind.struct fs) i f = AllVisited R fs i f
    Visited R (kind.map sorted fs) i f = AllVisited R fs i f
    Visited R (kind.union mode stated ids fs) i f = AllVisited R fs i f
    Visited R (kind.dictionary t ordered q k) i f = (u : Option Dictionaries) × R q u × SeenAt u q k (f i) × Visited (IsBefore u) k (suc i) f
    Visited R (kind.extension name metadata k) i f = Visited R k i f
    Visited R k i f = Unit {0}

    pub AllVisited : OfVisit → Fields → ℕ → State → Type 0
    AllVisited R none i f = Unit {0}
    AllVisited R (field name nullable metadata k others) i f = Visited R k i f × AllVisited R others (i + dictionary_count k) f

  abbrev AgreeFrom : ℕ → ℕ → State → State → Type 0
  AgreeFrom i n f g = (j : ℕ) → i ≤ j → j < i + n → f j ≡ g j

  -- a weaker thing holds of the visits, in a state that says the same of these ids
  mutual
    pub visited_as : (R S : OfVisit) → ((q : ℤ) (u : Option Dictionaries) → R q u → S q u) → (k : Kind) (i : ℕ) (f g : State) → AgreeFrom i (dictionary_count k) f g → Visited R k i f → Visited S k i g
    visited_as R S h (kind.«list» o fs) i f g e v = all_visited_as R S h fs i f g e v
    visited_as R S h (kind.fixed_size_list n fs) i f g e v = all_visited_as R S h fs i f g e v
    visited_as R S h (kind.struct fs) i f g e v = all_visited_as R S h fs i f g e v
    visited_as R S h (kind.map sorted fs) i f g e v = all_visited_as R S h fs i f g e v
    visited_as R S h (kind.union mode stated ids fs) i f g e v = all_visited_as R S h fs i f g e v
    visited_as R S h (kind.dictionary t ordered q k) i f g e v = (
      v.0,
      h q v.0 v.1,
      subst (SeenAt v.0 q k) (e i (omega arith) (omega arith)) v.2,
      visited_as (IsBefore v.0) (IsBefore v.0) (λ p u z. z) k (suc i) f g (λ j low high. e j (omega (arith, low)) (omega (arith, high))) v.3,
    )
    visited_as R S h (kind.extension name metadata k) i f g e v = visited_as R S h k i f g e v
    visited_as R S h k i f g e v = tt

    pub all_visited_as : (R S : OfVisit) → ((q : ℤ) (u : Option Dictionaries) → R q u → S q u) → (fs : Fields) (i : ℕ) (f g : State) → AgreeFrom i (dictionary_counts fs) f g → AllVisited R fs i f → AllVisited S fs i g
    all_visited_as R S h none i f g e v = tt
    all_visited_as R S h (field name nullable metadata k others) i f g e v = (
      visited_as R S h k i f g (λ j low high. e j low (omega (arith, high))) v.0,
      all_visited_as R S h others (i + dictionary_count k) f g (λ j low high. e j (omega (arith, low)) (omega (arith, high))) v.1,
    )

  -- before anything is held and sent, nothing was visited
  mutual
    never_visited : (R : OfVisit) → ((q : ℤ) → R q None) → (k : Kind) (i : ℕ) (f : State) → ((j : ℕ) → f j ≡ (None, None)) → Visited R k i f
    never_visited R r (kind.«list» o fs) i f e = none_visited R r fs i f e
    never_visited R r (kind.fixed_size_list n fs) i f e = none_visited R r fs i f e
    never_visited R r (kind.struct fs) i f e = none_visited R r fs i f e
    never_visited R r (kind.map sorted fs) i f e = none_visited R r fs i f e
    never_visited R r (kind.union mode stated ids fs) i f e = none_visited R r fs i f e
    never_visited R r (kind.dictionary t ordered q k) i f e = (None, r q, e i, never_visited (IsBefore None) (λ p. tt) k (suc i) f e)
    never_visited R r (kind.extension name metadata k) i f e = never_visited R r k i f e
    never_visited R r k i f e = tt

    pub none_visited : (R : OfVisit) → ((q : ℤ) → R q None) → (fs : Fields) (i : ℕ) (f : State) → ((j : ℕ) → f j ≡ (None, None)) → AllVisited R fs i f
    none_visited R r none i f e = tt
    none_visited R r (field name nullable metadata k others) i f e = (never_visited R r k i f e, none_visited R r others (i + dictionary_count k) f e)
