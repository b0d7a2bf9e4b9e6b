-- What is put behind others, one after another.
use Rattle.std.proofs.Common.{◌≡◌, ℕ, ◌+◌, ◌<◌, List, [], ◌∷◌, ◌++◌, length, map, pos, ℤ, refl, sym, ap, subst, ◌∙◌, append_assoc, append-nil, get_or, drop, Result, Ok, Err}
use Rattle.std.specs.Prelude.{IfOk, IfErr}
use Rattle.std.proofs.lemmas.List.{map-append, drop_more}
use Rattle.arrow_spec.specs.declared.message.FieldNode.{FieldNode}
use Rattle.arrow_spec.specs.Flat.{Order}
use Rattle.arrow_arrays.specs.declared.array.Array.{Array}
use Rattle.arrow_arrays.specs.PartsOf.{parts_of, forest_of}
use Rattle.arrow_arrays.specs.Heads.{Head}
use Rattle.arrow_arrays.specs.Parts.{Parts, Forest, nested, none, also}
use Rattle.arrow_arrays.specs.Nodes.{node_in, counts_in, counts_each}
use Rattle.ipc_bodies.specs.Adding.{Kept, Appends}
use Rattle.ipc_bodies.proofs.Adding.{kept_behind, kept_same, kept_then}
use Rattle.ipc_write_arrays.specs.Pieces.{head_pieces, tree_nodes, trees_nodes, tree_pieces, trees_pieces}
use Rattle.ipc_write_arrays.specs.Outputs.{Outputs, outputs, KeptAll, put_behind, top_behind, laid_behind, each_behind}

pub three : {a b : List FieldNode} {c d : List (List ℕ)} {e f : List ℤ} → a ≡ b → c ≡ d → e ≡ f → outputs a c e ≡ outputs b d f
three p q r = rw (p, q, r) refl

pub put_twice : (ns ms : List FieldNode) (ps qs : List (List ℕ)) (cs ds : List ℕ) (o : Outputs) → put_behind ms qs ds (put_behind ns ps cs o) ≡ put_behind (ns ++ ms) (ps ++ qs) (cs ++ ds) o
put_twice ns ms ps qs cs ds o =
    three (append_assoc o.nodes ns ms) (append_assoc o.pieces ps qs) (append_assoc o.views (map pos cs) (map pos ds) ∙ ap (λ l. o.views ++ l) (sym (map-append pos cs ds)))

pub put_none : (o : Outputs) → put_behind [] [] [] o ≡ o
put_none o = three (append-nil o.nodes) (append-nil o.pieces) (append-nil o.views)

-- ── trees ──

-- a child before others
pub also_behind : (order : Order) (q : Parts) (cs : Forest) (o : Outputs) → each_behind order cs (laid_behind order q o) ≡ each_behind order (also q cs) o
also_behind order q cs o = put_twice (tree_nodes q) (trees_nodes cs) (tree_pieces order q) (trees_pieces order cs) (counts_in q) (counts_each cs) o

-- an only child
pub only_behind : (order : Order) (q : Parts) (o : Outputs) → laid_behind order q o ≡ each_behind order (also q none) o
only_behind order q o = sym (put_none (laid_behind order q o)) ∙ also_behind order q none o

-- the node and the own buffers of an array with children, before those
pub top_then : (order : Order) (h : Head) (cs : Forest) (o top new : Outputs) → top ≡ top_behind order h o → new ≡ each_behind order cs top → new ≡ laid_behind order (nested h cs) o
top_then order h cs o top new p q = q ∙ ap (each_behind order cs) p ∙ put_twice (node_in (nested h none) ∷ []) (trees_nodes cs) (head_pieces order h) (trees_pieces order cs) [] (counts_each cs) o

-- ── what is kept ──

pub kept_more : (a b c : Outputs) → KeptAll a b → KeptAll b c → KeptAll a c
kept_more a b c p q = record {
  nodes = kept_then a.nodes b.nodes c.nodes p.nodes q.nodes;
  pieces = kept_then a.pieces b.pieces c.pieces p.pieces q.pieces;
  views = kept_then a.views b.views c.views p.views q.views;
}

pub put_kept : (ns : List FieldNode) (ps : List (List ℕ)) (cs : List ℕ) (a b : Outputs) → b ≡ put_behind ns ps cs a → KeptAll a b
put_kept ns ps cs a b e = subst (KeptAll a) (sym e) (record {
  nodes = record { more = ns; whole = refl };
  pieces = record { more = ps; whole = refl };
  views = record { more = map pos cs; whole = refl };
})

-- all as it was
pub kept_as : (a b : Outputs) → b ≡ a → KeptAll a b
kept_as a b e = put_kept [] [] [] a b (e ∙ sym (put_none a))

-- ── steps ──

-- nodes and view counts, and then buffers or a failure
pub put_ok : {T E : Type 0} (r : Result T E) (ns : List FieldNode) (ps : List (List ℕ)) (cs : List ℕ) (n m : List FieldNode) (p q : List (List ℕ)) (v w : List ℤ) → m ≡ n ++ ns → Appends r p q ps → w ≡ v ++ map pos cs
    → IfOk r (λ _. outputs m q w ≡ put_behind ns ps cs (outputs n p v))
put_ok (Ok t) ns ps cs n m p q v w e h f = three e h f
put_ok (Err t) ns ps cs n m p q v w e h f = tt

pub put_err : {T E : Type 0} (r : Result T E) (ns : List FieldNode) (ps : List (List ℕ)) (cs : List ℕ) (n m : List FieldNode) (p q : List (List ℕ)) (v w : List ℤ) → m ≡ n ++ ns → Appends r p q ps → w ≡ v ++ map pos cs
    → IfErr r (λ _. KeptAll (outputs n p v) (outputs m q w))
put_err (Ok t) ns ps cs n m p q v w e h f = tt
put_err (Err t) ns ps cs n m p q v w e h f = record { nodes = kept_behind n m ns e; pieces = h; views = kept_behind v w (map pos cs) f }

-- more buffers behind those that were put
pub more_pieces : (ns : List FieldNode) (ps qs : List (List ℕ)) (cs : List ℕ) (o : Outputs) (n : List FieldNode) (p q : List (List ℕ)) (v : List ℤ) → outputs n p v ≡ put_behind ns ps cs o → q ≡ p ++ qs → outputs n q v ≡ put_behind ns (ps ++ qs) cs o
more_pieces ns ps qs cs o n p q v e h = three (ap (λ x. x.nodes) e) (h ∙ ap (λ x. x.pieces ++ qs) e ∙ append_assoc o.pieces ps qs) (ap (λ x. x.views) e)

pub more_ok : {T E : Type 0} (r : Result T E) (ns : List FieldNode) (ps qs : List (List ℕ)) (cs : List ℕ) (o : Outputs) (n : List FieldNode) (p q : List (List ℕ)) (v : List ℤ) → outputs n p v ≡ put_behind ns ps cs o → Appends r p q qs
    → IfOk r (λ _. outputs n q v ≡ put_behind ns (ps ++ qs) cs o)
more_ok (Ok t) ns ps qs cs o n p q v e h = more_pieces ns ps qs cs o n p q v e h
more_ok (Err t) ns ps qs cs o n p q v e h = tt

-- buffers that were put behind others, or a part of them
pub kept_pieces : (ns : List FieldNode) (ps : List (List ℕ)) (cs : List ℕ) (o : Outputs) (n : List FieldNode) (p q : List (List ℕ)) (v : List ℤ) → outputs n p v ≡ put_behind ns ps cs o → Kept p q → KeptAll o (outputs n q v)
kept_pieces ns ps cs o n p q v e h =
    kept_more o (outputs n p v) (outputs n q v) (put_kept ns ps cs o (outputs n p v) e) (record { nodes = kept_same n n refl; pieces = h; views = kept_same v v refl })

pub more_err : {T E : Type 0} (r : Result T E) (ns : List FieldNode) (ps qs : List (List ℕ)) (cs : List ℕ) (o : Outputs) (n : List FieldNode) (p q : List (List ℕ)) (v : List ℤ) → outputs n p v ≡ put_behind ns ps cs o → Appends r p q qs
    → IfErr r (λ _. KeptAll o (outputs n q v))
more_err (Ok t) ns ps qs cs o n p q v e h = tt
more_err (Err t) ns ps qs cs o n p q v e h = kept_pieces ns ps cs o n p q v e h

-- ── several arrays ──

-- one array, and those behind it
pub next_forest : (xs : List Array) (i : ℕ) (x : Array) → x ≡ get_or xs i x → i < length xs → forest_of (drop i xs) ≡ also (parts_of x) (forest_of (drop (i + 1) xs))
next_forest xs i x e h = ap forest_of (drop_more xs i x h ∙ ap (λ y. y ∷ drop (i + 1) xs) (sym e))
