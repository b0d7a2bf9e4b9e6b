-- The arrays of a stream are told by its bytes, and by what is held before them.
use Rattle.std.proofs.Common.{◌≡◌, ◌∙◌, ℕ, List, [], ◌∷◌, Option, Some, None, Ok, refl, sym, ap, subst}
use Rattle.arrow_spec.specs.Readings.{Reading}
use Rattle.arrow_spec.specs.Streams.{Framed, Reader, next_message}
use Rattle.arrow_spec.proofs.ReadPairs.{same_read}
use Rattle.arrow_arrays.specs.Parts.{Parts}
use Rattle.ipc_files.specs.Below.{AreAsked, ArePicked, Held}
use Rattle.ipc_streams.specs.Arrays.{BatchArrays, Left, MessageLeaves, NextArrays, StreamArrays, a_batch, a_dictionary, message_leaves, no_message, none_left, one_more}

-- ── what is asked for ──

picked_once : {A : Type 0} (all : List A) (cs : List ℕ) (xs ys : List A) → ArePicked all cs xs → ArePicked all cs ys → xs ≡ ys
picked_once all [] [] [] h k = refl
picked_once all [] [] (y ∷ ys) h k = absurd k
picked_once all [] (x ∷ xs) ys h k = absurd h
picked_once all (c ∷ cs) [] ys h k = absurd h
picked_once all (c ∷ cs) (x ∷ xs) [] h k = absurd k
picked_once all (c ∷ cs) (x ∷ xs) (y ∷ ys) h k =
    let same : Some x ≡ Some y = sym h.0 ∙ k.0 in
    let first : x ≡ y = cc in
    let others : xs ≡ ys = picked_once all cs xs ys h.1 k.1 in
    cc

asked_once : {A : Type 0} (all : List A) (columns : Option (List ℕ)) (xs ys : List A) → AreAsked all columns xs → AreAsked all columns ys → xs ≡ ys
asked_once all None xs ys h k = h ∙ sym k
asked_once all (Some cs) xs ys h k = picked_once all cs xs ys h k

-- ── a message ──

record SameLeft (h h' : Held) (o o' : Option (List Parts)) (rest rest' : List ℕ) : Type 0 where
  held : h ≡ h'
  arrays : o ≡ o'
  rest_is : rest ≡ rest'

left_once : (r : Reading Left) (x y : Left) → r ≡ Ok x → r ≡ Ok y → x ≡ y
left_once r x y h k = same_read x y (sym h ∙ k)

message_once : (s : Reader) (h h1 h2 : Held) (f : Framed) (o p : Option (List Parts)) (rest1 rest2 : List ℕ) → MessageLeaves s h f h1 o rest1 → MessageLeaves s h f h2 p rest2 → SameLeft h1 h2 o p rest1 rest2
message_once s h h1 h2 f None None rest1 rest2 l k =
    let same = left_once (message_leaves s.schema h f) (record { held = h1; arrays = None; rest = rest1 }) (record { held = h2; arrays = None; rest = rest2 }) l k in
    record { held = ap (λ (x : Left). x.held) same; arrays = refl; rest_is = ap (λ (x : Left). x.rest) same }
message_once s h h1 h2 f None (Some ys) rest1 rest2 l k =
    let same = left_once (message_leaves s.schema h f) (record { held = h1; arrays = None; rest = rest1 }) (record { held = h2; arrays = Some k.0; rest = rest2 }) l k.1 in
    let no : None ≡ Some k.0 = ap (λ (x : Left). x.arrays) same in
    cc
message_once s h h1 h2 f (Some xs) None rest1 rest2 l k =
    let same = left_once (message_leaves s.schema h f) (record { held = h1; arrays = Some l.0; rest = rest1 }) (record { held = h2; arrays = None; rest = rest2 }) l.1 k in
    let no : Some l.0 ≡ None = ap (λ (x : Left). x.arrays) same in
    cc
message_once s h h1 h2 f (Some xs) (Some ys) rest1 rest2 l k =
    let same = left_once (message_leaves s.schema h f) (record { held = h1; arrays = Some l.0; rest = rest1 }) (record { held = h2; arrays = Some k.0; rest = rest2 }) l.1 k.1 in
    let both : Some l.0 ≡ Some k.0 = ap (λ (x : Left). x.arrays) same in
    let all : l.0 ≡ k.0 = cc in
    record {
      held = ap (λ (x : Left). x.held) same;
      arrays = ap Some (asked_once k.0 s.columns xs ys (subst (λ c. AreAsked c s.columns xs) all l.2) k.2);
      rest_is = ap (λ (x : Left). x.rest) same;
    }

-- ── what stands next ──

record SameNext (h h' : Held) (o o' : Option BatchArrays) : Type 0 where
  held : h ≡ h'
  arrays : o ≡ o'

one_framed : (b : List ℕ) (f g : Framed) → next_message b ≡ Ok (Some f) → next_message b ≡ Ok (Some g) → g ≡ f
one_framed b f g h k = let same : Some f ≡ Some g = same_read (Some f) (Some g) (sym h ∙ k) in cc

none_framed : {A : Type 0} (b : List ℕ) (f : Framed) → next_message b ≡ Ok None → next_message b ≡ Ok (Some f) → A
none_framed b f h k = let same : None ≡ Some f = same_read None (Some f) (sym h ∙ k) in cc

leaves_by : (s : Reader) (h h' : Held) (b rest : List ℕ) (f g : Framed) (o : Option (List Parts)) → next_message b ≡ Ok (Some f) → next_message b ≡ Ok (Some g) → MessageLeaves s h g h' o rest → MessageLeaves s h f h' o rest
leaves_by s h h' b rest f g o is other l = subst (λ x. MessageLeaves s h x h' o rest) (one_framed b f g is other) l

none_first : {s : Reader} {h h' : Held} {b : List ℕ} {o : Option BatchArrays} → next_message b ≡ Ok None → NextArrays s h b h' o → SameNext h h' None o
none_first is (no_message other) = record { held = refl; arrays = refl }
none_first {b = b} is (a_batch {f = f} other l) = none_framed b f is other
none_first {b = b} is (a_dictionary {f = f} other l n) = none_framed b f is other

batch_first : {s : Reader} {h h' h'' : Held} {b : List ℕ} {f : Framed} {x : BatchArrays} {o : Option BatchArrays} → next_message b ≡ Ok (Some f) → MessageLeaves s h f h' (Some x.arrays) x.rest → NextArrays s h b h'' o → SameNext h' h'' (Some x) o
batch_first {b = b} {f = f} is l (no_message other) = none_framed b f other is
batch_first {s = s} {h = h} {h' = h'} {h'' = h''} {b = b} {f = f} {x = x} is l (a_batch {f = g} {x = y} other k) =
    let same = message_once s h h' h'' f (Some x.arrays) (Some y.arrays) x.rest y.rest l (leaves_by s h h'' b y.rest f g (Some y.arrays) is other k) in
    let both : Some x.arrays ≡ Some y.arrays = same.arrays in
    let arrays : x.arrays ≡ y.arrays = cc in
    record { held = same.held; arrays = ap (λ xs. Some (record { arrays = xs; rest = x.rest })) arrays ∙ ap (λ (r : List ℕ). Some (record { arrays = y.arrays; rest = r })) same.rest_is }
batch_first {s = s} {h = h} {h' = h'} {b = b} {f = f} {x = x} is l (a_dictionary {h' = k'} {rest = rest} {f = g} other k n) =
    let same = message_once s h h' k' f (Some x.arrays) None x.rest rest l (leaves_by s h k' b rest f g None is other k) in
    let no : Some x.arrays ≡ None = same.arrays in
    cc

dictionary_first : {s : Reader} {h h' h'' : Held} {b rest : List ℕ} {f : Framed} {o : Option BatchArrays} → next_message b ≡ Ok (Some f) → MessageLeaves s h f h' None rest → NextArrays s h b h'' o → NextArrays s h' rest h'' o
dictionary_first {b = b} {f = f} is l (no_message other) = none_framed b f other is
dictionary_first {s = s} {h = h} {h' = h'} {h'' = h''} {b = b} {rest = rest} {f = f} is l (a_batch {f = g} {x = y} other k) =
    let same = message_once s h h' h'' f None (Some y.arrays) rest y.rest l (leaves_by s h h'' b y.rest f g (Some y.arrays) is other k) in
    let no : None ≡ Some y.arrays = same.arrays in
    cc
dictionary_first {s = s} {h = h} {h' = h'} {h'' = h''} {b = b} {rest = rest} {f = f} {o = o} is l (a_dictionary {h' = k'} {rest = rest'} {f = g} other k n) =
    let same = message_once s h h' k' f None None rest rest' l (leaves_by s h k' b rest' f g None is other k) in
    subst (λ q. NextArrays s q rest h'' o) (sym same.held) (subst (λ r. NextArrays s k' r h'' o) (sym same.rest_is) n)

next_once : {s : Reader} {h h' h'' : Held} {b : List ℕ} {o p : Option BatchArrays} → NextArrays s h b h' o → NextArrays s h b h'' p → SameNext h' h'' o p
next_once (no_message is) other = none_first is other
next_once (a_batch is l) other = batch_first is l other
next_once (a_dictionary is l n) other = next_once n (dictionary_first is l other)

-- ── the whole stream ──

none_behind : {s : Reader} {h h' : Held} {b : List ℕ} {xs : List (List Parts)} → NextArrays s h b h' None → StreamArrays s h b xs → [] ≡ xs
none_behind n (none_left other) = refl
none_behind n (one_more {rest = rest} {x = x} other k) =
    let same = next_once n other in
    let found : BatchArrays = record { arrays = x; rest = rest } in
    let no : None ≡ Some found = same.arrays in
    cc

-- the arrays behind a batch, where all are told
record AreBehind (s : Reader) (h : Held) (rest : List ℕ) (x : List Parts) (xs : List (List Parts)) : Type 0 where
  others : List (List Parts)
  is : xs ≡ x ∷ others
  behind : StreamArrays s h rest others

one_behind : {s : Reader} {h h' : Held} {b rest : List ℕ} {x : List Parts} {xs : List (List Parts)} → NextArrays s h b h' (Some (record { arrays = x; rest = rest })) → StreamArrays s h b xs → AreBehind s h' rest x xs
one_behind {rest = rest} {x = x} n (none_left other) =
    let same = next_once n other in
    let found : BatchArrays = record { arrays = x; rest = rest } in
    let no : Some found ≡ None = same.arrays in
    cc
one_behind {s = s} {h' = h'} {rest = rest} {x = x} n (one_more {h' = k'} {rest = rest'} {x = y} {xs = ys} other k) =
    let same = next_once n other in
    let found : BatchArrays = record { arrays = x; rest = rest } in
    let other_found : BatchArrays = record { arrays = y; rest = rest' } in
    let both : Some found ≡ Some other_found = same.arrays in
    let one : found ≡ other_found = cc in
    record {
      others = ys;
      is = ap (λ (z : BatchArrays). z.arrays ∷ ys) (sym one);
      behind = subst (λ q. StreamArrays s q rest ys) (sym same.held) (subst (λ r. StreamArrays s k' r ys) (ap (λ (z : BatchArrays). z.rest) (sym one)) k);
    }

pub stream_once : {s : Reader} {h : Held} {b : List ℕ} {xs ys : List (List Parts)} → StreamArrays s h b xs → StreamArrays s h b ys → xs ≡ ys
stream_once (none_left n) other = none_behind n other
stream_once (one_more {x = x} n k) other = let o = one_behind n other in ap (λ zs. x ∷ zs) (stream_once k o.behind) ∙ sym o.is
