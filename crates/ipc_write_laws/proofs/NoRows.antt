-- An array of which nothing is wrong where it is read for some rows is right where it is read for none.
use Rattle.std.proofs.Common.{◌≡◌, ℕ, zero, suc, ◌+◌, ◌*◌, List, [], ◌∷◌, ◌++◌, Option, Some, None, refl, ap, arith, inl, inr, slice_get}
use Rattle.std.proofs.lemmas.Bool.{le-ltb, cases_Bool}
use Rattle.arrow_spec.specs.declared.error.IpcError.{IpcError}
use Rattle.arrow_spec.specs.declared.message.FieldNode.{FieldNode}
use Rattle.arrow_spec.specs.declared.types.UnionMode.TheVariants.{Dense, Sparse}
use Rattle.arrow_spec.specs.Kinds.{Kind, Fields, none, field, null, boolean, integer, float, date32, date64, time32, time64, timestamp, duration, interval, decimal, decimal256, binary, utf8, binary_view, utf8_view, fixed_size_binary, «list», fixed_size_list, struct, map, union, dictionary, extension, small}
use Rattle.arrow_spec.specs.Counts.{RecordBatch, Place, magnitude, is_negative, inside, after, union_buffers}
use Rattle.arrow_spec.specs.Arrays.{Dictionaries, offset, node_of}
use Rattle.arrow_spec.specs.Faults.{node_causes, node_faults, validity_faults, flat_faults, array_faults, child_faults, view_count_faults, offsets_buffer_faults, end_of, offsets_faults, union_faults, if_sound}
use Rattle.ipc_write_laws.proofs.Children.{no_first, no_second}

none_causes : (o : Option FieldNode) (r : ℕ) → node_causes o r ≡ [] → node_causes o 0 ≡ []
none_causes None r e = cc
none_causes (Some node) r e =
    elim (cases_Bool (is_negative node.length)) [
      | inl t ↦ let h = rw t at e in cc
      | inr f ↦ rw (f, le-ltb (magnitude node.length) 0 (omega arith)) refl
    ]

node_none : (m : RecordBatch) (p : Place) (r : ℕ) → node_faults m p r ≡ [] → node_faults m p 0 ≡ []
unfolding node_faults
node_none m p r e = none_causes (slice_get m.nodes p.node) r e

no_validity : (m : RecordBatch) (p : Place) → validity_faults m p 0 ≡ []
unfolding validity_faults
no_validity m p = refl

sound_first : (xs ys : List IpcError) → if_sound xs ys ≡ [] → xs ≡ []
sound_first [] ys e = refl
sound_first (x ∷ xs) ys e = cc

sound_second : (xs ys : List IpcError) → if_sound xs ys ≡ [] → ys ≡ []
sound_second [] ys e = e
sound_second (x ∷ xs) ys e = cc

leaf_none : (m : RecordBatch) (p : Place) (r : ℕ) (xs : List IpcError) → node_faults m p r ++ xs ≡ [] → node_faults m p 0 ++ [] ≡ []
leaf_none m p r xs e = ap (λ l. l ++ []) (node_none m p r (no_first (node_faults m p r) xs e))

mutual
  pub array_none : (m : RecordBatch) (d : Dictionaries) (k : Kind) (p : Place) (r : ℕ) → array_faults m d k p r ≡ [] → array_faults m d k p 0 ≡ []
  array_none m d (extension name metadata k) p r e = array_none m d k p r e
  array_none m d («list» o fs) p zero e = e
  array_none m d («list» o fs) p (suc n) e =
      let front = node_faults m p (suc n) ++ validity_faults m p (suc n) in
      let buffer = offsets_buffer_faults m o (p.buffer + 1) (suc n) in
      let places = offsets_faults m o (p.buffer + 1) (suc n) (end_of m (suc p.node)) in
      let read : Place → ℕ = λ q. offset m o (p.buffer + 1) (suc n) in
      let below = child_faults m d fs (inside 2 p) read in
      let rest = no_second places below (sound_second buffer (places ++ below) (no_second front (if_sound buffer (places ++ below)) e)) in
      let own = no_first (node_faults m p (suc n)) (validity_faults m p (suc n)) (no_first front (if_sound buffer (places ++ below)) e) in
      rw (node_none m p (suc n) own, children_none m d fs (inside 2 p) read (λ q. 0) (λ q. refl) rest) refl
  array_none m d (map sorted fs) p zero e = e
  array_none m d (map sorted fs) p (suc n) e =
      let front = node_faults m p (suc n) ++ validity_faults m p (suc n) in
      let buffer = offsets_buffer_faults m small (p.buffer + 1) (suc n) in
      let places = offsets_faults m small (p.buffer + 1) (suc n) (end_of m (suc p.node)) in
      let read : Place → ℕ = λ q. offset m small (p.buffer + 1) (suc n) in
      let below = child_faults m d fs (inside 2 p) read in
      let rest = no_second places below (sound_second buffer (places ++ below) (no_second front (if_sound buffer (places ++ below)) e)) in
      let own = no_first (node_faults m p (suc n)) (validity_faults m p (suc n)) (no_first front (if_sound buffer (places ++ below)) e) in
      rw (node_none m p (suc n) own, children_none m d fs (inside 2 p) read (λ q. 0) (λ q. refl) rest) refl
  array_none m d (fixed_size_list size fs) p r e =
      let front = node_faults m p r ++ validity_faults m p r in
      let below = child_faults m d fs (inside 1 p) (λ q. size * r) in
      let own = no_first (node_faults m p r) (validity_faults m p r) (no_first front below e) in
      rw (node_none m p r own, no_validity m p, children_none m d fs (inside 1 p) (λ q. size * r) (λ q. size * 0) (λ q. omega arith) (no_second front below e)) refl
  array_none m d (struct fs) p r e =
      let front = node_faults m p r ++ validity_faults m p r in
      let below = child_faults m d fs (inside 1 p) (λ q. r) in
      let own = no_first (node_faults m p r) (validity_faults m p r) (no_first front below e) in
      rw (node_none m p r own, no_validity m p, children_none m d fs (inside 1 p) (λ q. r) (λ q. 0) (λ q. refl) (no_second front below e)) refl
  array_none m d (union mode stated ids fs) p zero e = e
  array_none m d (union Sparse stated ids fs) p (suc n) e =
      let front = node_faults m p (suc n) ++ union_faults m Sparse ids fs p (suc n) in
      let at = inside (union_buffers m.version Sparse) p in
      let below = child_faults m d fs at (λ q. suc n) in
      let own = no_first (node_faults m p (suc n)) (union_faults m Sparse ids fs p (suc n)) (no_first front below e) in
      rw (node_none m p (suc n) own, children_none m d fs at (λ q. suc n) (λ q. 0) (λ q. refl) (no_second front below e)) refl
  array_none m d (union Dense stated ids fs) p (suc n) e =
      let front = node_faults m p (suc n) ++ union_faults m Dense ids fs p (suc n) in
      let at = inside (union_buffers m.version Dense) p in
      let below = child_faults m d fs at (λ q. magnitude (node_of m q.node).length) in
      let own = no_first (node_faults m p (suc n)) (union_faults m Dense ids fs p (suc n)) (no_first front below e) in
      rw (node_none m p (suc n) own, children_none m d fs at (λ q. magnitude (node_of m q.node).length) (λ q. 0) (λ q. refl) (no_second front below e)) refl
  array_none m d k p r e = leaf_none m p r (flat_faults m d k p r) e

  pub children_none : (m : RecordBatch) (d : Dictionaries) (fs : Fields) (p : Place) (read less : Place → ℕ) → ((q : Place) → less q ≡ 0) → child_faults m d fs p read ≡ [] → child_faults m d fs p less ≡ []
  children_none m d none p read less z e = refl
  children_none m d (field name nullable metadata k others) p read less z e =
      let here = array_faults m d k p (read p) in
      let counts = view_count_faults m k p in
      let below = child_faults m d others (after m k p) read in
      let rest = no_second here (if_sound counts below) e in
      rw (z p, array_none m d k p (read p) (no_first here (if_sound counts below) e), sound_first counts below rest, children_none m d others (after m k p) read less z (sound_second counts below rest)) refl
