-- The messages of a stream, passed over one after another.
use Rattle.std.proofs.Common.{◌≡◌, ℕ, zero, suc, ◌+◌, ◌-◌, ◌≤◌, List, [], ◌∷◌, ◌++◌, length, take, drop, Bool, true, false, nat_eq, nat_le, Option, Some, None, Ok, Err, refl, sym, ◌∙◌, ap, subst, arith, drop-drop, length-drop, take-append-drop}
use Rattle.std.proofs.lemmas.Bool.{leb-true}
use Rattle.std.proofs.lemmas.List.{length-take-le}
use Rattle.arrow_spec.specs.declared.error.IpcError.{IpcError}
use Rattle.arrow_spec.specs.declared.error.IpcError.TheVariants as errors
use Rattle.arrow_spec.specs.declared.error.OutOfSpecKind.{OutOfSpecKind}
use Rattle.arrow_spec.specs.Readings.{◌>>=◌, Reading, bind, only_if, refusals}
use Rattle.arrow_spec.specs.Messages.{Message, message_of}
use Rattle.arrow_spec.specs.Streams.{Framed, behind_messages, body_in, next_message}
use Rattle.arrow_spec.proofs.ReadPairs.{same_read, through}
use Rattle.arrow_spec.proofs.WholeMessages.{body_told, passed_over}
use Rattle.ipc_fields.specs.Causes.{RefusesBytes}
use Rattle.laws_logs.specs.Tables.{Passed, counted_in, dictionaries_from, next_pass, pass_if_any, pass_of}
use Rattle.ipc_log_records.specs.Passes.{passed_in}
use Rattle.ipc_log_records.specs.declared.passes.Pass.{Pass}

-- ── one message ──

pub record Found (b : List ℕ) (p : Passed) : Type 0 where
  pub frame : Framed
  pub next : next_message b ≡ Ok (Some frame)
  pub message : Message
  pub read : message_of frame.metadata (λ tag. nat_le tag 3) ≡ Ok message
  pub inside : message.body ≤ length frame.behind
  pub rest : p.rest ≡ drop message.body frame.behind
  pub kind : p.is_dictionary ≡ nat_eq message.tag 2

pub in_full : (x : Bool) (kind : OutOfSpecKind) (u : Unit {0}) → only_if x kind ≡ Ok u → x ≡ true
in_full true kind u h = refl
in_full false kind u h = cc

found_in : (b : List ℕ) (p : Passed) (f : Framed) → next_message b ≡ Ok (Some f) → pass_of f ≡ Ok p → Found b p
unfolding pass_of body_in
found_in b p f next h =
    through _ _ p h λ m read h1. through _ _ p h1 λ body whole h2. through _ _ body whole λ u inside h3.
    let same = same_read _ p h2 in
    record {
      frame = f;
      next = next;
      message = m;
      read = read;
      inside = leb-true m.body (length f.behind) (in_full _ _ u inside);
      rest = sym (ap (λ (q : Passed). q.rest) same);
      kind = sym (ap (λ (q : Passed). q.is_dictionary) same);
    }

found_if : (b : List ℕ) (p : Passed) (next : Option Framed) → next_message b ≡ Ok next → pass_if_any next ≡ Ok (Some p) → Found b p
found_if b p None next h = cc
found_if b p (Some f) next h = through (pass_of f) (λ q. Ok (Some q)) (Some p) h λ q is h1. found_in b p f next (is ∙ (let same : q ≡ p = cc in ap (λ (x : Passed). Ok x) same))

pub found : (b : List ℕ) (p : Passed) → next_pass b ≡ Ok (Some p) → Found b p
unfolding next_pass
found b p h = through (next_message b) pass_if_any (Some p) h λ next is h1. found_if b p next is h1

pub passes_one : (most : ℕ) (b : List ℕ) (p : Passed) → next_pass b ≡ Ok (Some p) → behind_messages (suc most) b ≡ behind_messages most p.rest
passes_one most b p h =
    let f = found b p h in
    let n = f.message.body in
    let parts = sym (take-append-drop n f.frame.behind) in
    let next : next_message b ≡ Ok (Some (record { metadata = f.frame.metadata; behind = take n f.frame.behind ++ drop n f.frame.behind })) = f.next ∙ ap (λ (l : List ℕ). Ok (Some (record { metadata = f.frame.metadata; behind = l }))) parts in
    let long : n ≡ length (take n f.frame.behind) = sym (length-take-le n f.frame.behind f.inside) in
    passed_over most b f.frame.metadata (take n f.frame.behind) (drop n f.frame.behind) next (body_told _ f.frame.metadata f.message f.read ∙ ap (λ (k : ℕ). Ok k) long) ∙ ap (behind_messages most) (sym f.rest)

pub counts_one : (most : ℕ) (b : List ℕ) (p : Passed) → next_pass b ≡ Ok (Some p) → dictionaries_from (suc most) b ≡ (dictionaries_from most p.rest >>= λ n. Ok (counted_in p.is_dictionary n))
unfolding dictionaries_from bind
counts_one most b p h = rw (dictionaries_from, h) refl

-- ── the end ──

none_next : (b : List ℕ) (next : Option Framed) → next_message b ≡ Ok next → pass_if_any next ≡ Ok None → next_message b ≡ Ok None
none_next b None is h = is
none_next b (Some f) is h = through (pass_of f) (λ q. Ok (Some q)) None h λ q is h1. cc

pub none_left : (b : List ℕ) → next_pass b ≡ Ok None → next_message b ≡ Ok None
unfolding next_pass
none_left b h = through (next_message b) pass_if_any None h λ next is h1. none_next b next is h1

ends_messages : (most : ℕ) (b : List ℕ) → next_pass b ≡ Ok None → behind_messages most b ≡ Ok b
unfolding behind_messages bind
ends_messages zero b h = refl
ends_messages (suc most) b h = rw (behind_messages, none_left b h) refl

pub ends_count : (most : ℕ) (b : List ℕ) → next_pass b ≡ Ok None → dictionaries_from most b ≡ Ok 0
unfolding dictionaries_from bind
ends_count zero b h = refl
ends_count (suc most) b h = rw (dictionaries_from, h) refl

-- ── a walk ──

-- so many more
abbrev pub more : ℕ → Reading ℕ → Reading ℕ
more k r = r >>= λ n. Ok (k + n)

more_none : (r : Reading ℕ) → more 0 r ≡ r
unfolding bind
more_none (Ok n) = let same : 0 + n ≡ n = omega arith in ap (λ (i : ℕ). Ok i) same
more_none (Err es) = refl

more_one : (d : Bool) (k : ℕ) (r : Reading ℕ) → more k (r >>= λ n. Ok (counted_in d n)) ≡ more (counted_in d k) r
unfolding bind
more_one true k (Ok n) = ap (λ (i : ℕ). Ok i) (omega arith)
more_one true k (Err es) = refl
more_one false k (Ok n) = refl
more_one false k (Err es) = refl

-- What was passed over of bytes so far: so many dictionaries, and the rest is left.
pub record SoFar (b rest : List ℕ) (count : ℕ) : Type 0 where
  pub left : ℕ
  pub enough : length rest ≤ left
  pub ends : rest ≡ drop (length b - length rest) b
  pub few : count + length rest ≤ length b
  pub counted : dictionaries_from (length b) b ≡ more count (dictionaries_from left rest)
  pub passed : behind_messages (length b) b ≡ behind_messages left rest

pub none_so_far : (b : List ℕ) → SoFar b b 0
none_so_far b = let none : 0 ≡ length b - length b = omega arith in record {
  left = length b;
  enough = omega arith;
  ends = ap (λ (n : ℕ). drop n b) none;
  few = omega arith;
  counted = sym (more_none (dictionaries_from (length b) b));
  passed = refl;
}

one_more_left : (b rest : List ℕ) (count end : ℕ) (d : Bool) (left : ℕ) → length rest ≤ left → 4 ≤ end → end ≤ length rest → rest ≡ drop (length b - length rest) b → count + length rest ≤ length b
    → dictionaries_from (length b) b ≡ more count (dictionaries_from left rest) → behind_messages (length b) b ≡ behind_messages left rest
    → next_pass rest ≡ Ok (Some (record { rest = drop end rest; is_dictionary = d })) → SoFar b (drop end rest) (counted_in d count)
one_more_left b rest count end d zero enough four inside ends few counted passed h = absurd (omega arith)
one_more_left b rest count end d (suc left) enough four inside ends few counted passed h =
    let p : Passed = record { rest = drop end rest; is_dictionary = d } in
    let long = length-drop end rest in
    record {
      left = left;
      enough = omega (arith, long);
      ends = ap (λ (l : List ℕ). drop end l) ends ∙ drop-drop end (length b - length rest) b ∙ ap (λ (n : ℕ). drop n b) (omega (arith, long));
      few = few_more d (omega (arith, long));
      counted = counted ∙ ap (more count) (counts_one left rest p h) ∙ more_one d count (dictionaries_from left (drop end rest));
      passed = passed ∙ passes_one left rest p h;
    }
  where
    few_more : (x : Bool) → count + 1 + length (drop end rest) ≤ length b → counted_in x count + length (drop end rest) ≤ length b
    few_more true le = omega (arith, le)
    few_more false le = omega (arith, le)

pub one_more : (b rest : List ℕ) (count : ℕ) (p : Pass) → SoFar b rest count → 4 ≤ p.end → p.end ≤ length rest → next_pass rest ≡ Ok (Some (passed_in rest p)) → SoFar b (drop p.end rest) (counted_in p.is_dictionary count)
one_more b rest count p s four inside h = one_more_left b rest count p.end p.is_dictionary s.left s.enough four inside s.ends s.few s.counted s.passed h

pub all_counted : (b rest : List ℕ) (count : ℕ) → SoFar b rest count → next_pass rest ≡ Ok None → dictionaries_from (length b) b ≡ Ok count
unfolding bind
all_counted b rest count s h = s.counted ∙ ap (more count) (ends_count s.left rest h) ∙ ap (λ (n : ℕ). Ok n) (omega arith)

pub all_passed : (b rest : List ℕ) (count : ℕ) → SoFar b rest count → next_pass rest ≡ Ok None → behind_messages (length b) b ≡ Ok (drop (length b - length rest) b)
all_passed b rest count s h = s.passed ∙ ends_messages s.left rest h ∙ ap (λ (l : List ℕ). Ok l) s.ends

-- ── what is refused ──

refused_on : {A B : Type 0} (r : Reading A) (f : A → Reading B) (e : IpcError) → RefusesBytes e (refusals r) → RefusesBytes e (refusals (r >>= f))
unfolding bind
refused_on (Err es) f e h = h
refused_on (Ok x) f errors.Memory h = tt
refused_on (Ok x) f (errors.OutOfSpec kind) h = absurd h
refused_on (Ok x) f (errors.Unsupported feature) h = absurd h
refused_on (Ok x) f (errors.TooMany counted) h = absurd h
refused_on (Ok x) f errors.TooDeep h = absurd h
refused_on (Ok x) f (errors.Projection index) h = absurd h
refused_on (Ok x) f errors.TooLarge h = absurd h
refused_on (Ok x) f errors.SchemaMismatch h = absurd h
refused_on (Ok x) f (errors.DictionaryReplaced id) h = absurd h
refused_on (Ok x) f errors.NotRepresentable h = absurd h
refused_on (Ok x) f errors.State h = absurd h
refused_on (Ok x) f errors.ReadFault h = absurd h
refused_on (Ok x) f errors.WriteFault h = absurd h

refused_next : (most : ℕ) (b : List ℕ) (e : IpcError) → RefusesBytes e (refusals (next_pass b)) → RefusesBytes e (refusals (dictionaries_from (suc most) b))
unfolding dictionaries_from
refused_next most b e h = refused_on (next_pass b) _ e h

refused_left : (left : ℕ) (rest : List ℕ) (e : IpcError) → length rest ≤ left → RefusesBytes e (refusals (next_pass rest)) → RefusesBytes e (refusals (dictionaries_from left rest))
unfolding dictionaries_from next_pass next_message bind
refused_left zero [] e le h = h
refused_left zero (x ∷ xs) e le h = absurd (omega arith)
refused_left (suc most) rest e le h = refused_next most rest e h

pub refused_walk : (b rest : List ℕ) (count : ℕ) (e : IpcError) → SoFar b rest count → RefusesBytes e (refusals (next_pass rest)) → RefusesBytes e (refusals (dictionaries_from (length b) b))
refused_walk b rest count e s h =
    let there = refused_on (dictionaries_from s.left rest) (λ n. Ok (count + n)) e (refused_left s.left rest e s.enough h) in
    subst (λ (r : Reading ℕ). RefusesBytes e (refusals r)) (sym s.counted) there
