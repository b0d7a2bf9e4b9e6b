-- An array that is added behind others, by what `write` says of each part.
use Rattle.std.proofs.Common.{◌≡◌, List, [], ◌∷◌, ◌++◌, length, map, pos, None, Some, Result, Ok, Err, true, sym, ap, ◌∙◌}
use Rattle.std.specs.Prelude.{IfOk, IfErr, slice_get}
use Rattle.arrow_spec.specs.declared.error.IpcError.{IpcError}
use Rattle.arrow_spec.specs.declared.error.IpcError.TheVariants.{Memory}
use Rattle.arrow_spec.specs.Flat.{Order}
use Rattle.arrow_spec.specs.Framing.{body_bytes}
use Rattle.arrow_spec.specs.Sent.{placed}
use Rattle.arrow_arrays.specs.Nodes.{counts_in}
use Rattle.arrow_arrays.specs.Parts.{Parts, Forest}
use Rattle.arrow_arrays.specs.PartsOf.{forest_of, parts_of}
use Rattle.arrow_arrays.specs.declared.array.Array.{Array}
use Rattle.ipc_write_arrays.specs.Pieces.{nodes_in, pieces_in}
use Rattle.ipc_write_arrays.specs.Trims.{sent}
use Rattle.ipc_write.specs.Additions.{Adds, Target, first_or, has_one}

pub written : (r : Result (Unit {0}) IpcError) (order : Order) (p : Parts) (t u : Target)
    → IfOk r (λ _. u.nodes ≡ t.nodes ++ nodes_in p) → IfOk r (λ _. u.buffers ≡ t.buffers ++ placed (length t.body) (map length (pieces_in order p)))
    → IfOk r (λ _. u.body ≡ t.body ++ body_bytes (length t.body) (pieces_in order p)) → IfOk r (λ _. u.views ≡ t.views ++ map pos (counts_in (sent p))) → IfOk r (λ _. u.offset ≡ pos (length u.body))
    → IfErr r (λ e. e ≡ Memory) → IfErr r (λ _. u.nodes ≡ t.nodes) → IfErr r (λ _. u.buffers ≡ t.buffers) → IfErr r (λ _. u.body ≡ t.body) → IfErr r (λ _. u.views ≡ t.views) → IfErr r (λ _. u.offset ≡ t.offset)
    → Adds r order p t u
written (Ok x) order p t u nodes buffers body views offset memory a b c d e = record { nodes = nodes; buffers = buffers; body = body; views = views; offset = offset }
written (Err x) order p t u nodes buffers body views offset memory a b c d e = (memory, record { nodes = a; buffers = b; body = c; views = d; offset = e })

-- the first of some arrays
pub first_part : (other : Parts) (xs : List Array) (x : Array) → slice_get xs 0 ≡ Some x → parts_of x ≡ first_or other (forest_of xs)
first_part other [] x h = cc
first_part other (y ∷ ys) x h = let e : y ≡ x = cc in ap parts_of (sym e)

-- where there is one, there is a first
pub not_none : (xs : List Array) (cs : Forest) → slice_get xs 0 ≡ None → forest_of xs ≡ cs → has_one cs ≡ true → ⊥
not_none [] cs e f h = let never : has_one (forest_of []) ≡ true = ap has_one f ∙ h in cc
not_none (x ∷ xs) cs e f h = cc
