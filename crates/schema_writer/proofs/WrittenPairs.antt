-- Pairs one after another.
use Rattle.std.proofs.Common.{◌≡◌, ℕ, List, [], length, Bool, true, false, cond, not, nat_eq, true≢false, ◌∷◌, ◌++◌, map, Option, Some, None, String, Global, string_cmp, append-nil, refl, sym, ap, ◌∙◌, append_assoc, arith}
use Rattle.std.specs.Prelude.{◌||◌}
use Rattle.std.specs.List.Sorted.{IsStrictlySortedBy}
use Rattle.std.specs.Str.{bytes_eq}
use Rattle.std.proofs.lemmas.Bool.{eqb-true}
use Rattle.std.proofs.lemmas.List.{map-append}
use Rattle.std.proofs.lemmas.Slice.Eq.{bytes_eq-Decides}
use Rattle.arrow_spec.specs.Kinds as kind
use Rattle.arrow_spec.specs.Kinds.{Kind, Metadata}
use Rattle.arrow_spec.specs.Layout as layout
use Rattle.arrow_spec.specs.Layout.{Node}
use Rattle.arrow_spec.specs.Sent.{custom_slot, pair_nodes, field_pairs}
use Rattle.arrow_spec.specs.WrittenSchemas.{extension_first, pairs_for}
use Rattle.arrow_spec.proofs.ExtensionPairs.{pairs_written}
use Rattle.arrow_spec.specs.Schema.{extension_name, extension_metadata, own_pairs, is_reserved}
use Rattle.arrow_types.specs.KindOf.{texts_of}
use Rattle.ipc_fields.proofs.TextOrder.{sorted_texts}
use Rattle.arrow_types.proofs.UnionIds.{same_test}
use Rattle.arrow_flat.specs.Nodes.{SlotValue, leads_to, node_of, nodes_of, nodes_from}
use Rattle.arrow_flat.specs.declared.node.Node.{Node as Built}
use Rattle.arrow_spec.proofs.OwnPairs.{own_filtered}
use Rattle.schema_writer.specs.Nodes.{last_slot, pair_table, unreserved, extension_pairs, pairs_value}

pub nodes_of_pairs : (ps : Metadata) → nodes_from (map pair_table ps) ≡ pair_nodes ps
nodes_of_pairs [] = refl
nodes_of_pairs (p ∷ ps) = ap (layout.also (pair_table p)) (nodes_of_pairs ps)

split : (k : Kind) (own : Metadata) → pairs_for k own ≡ extension_pairs k ++ own_pairs own
split (kind.extension name None k) own = refl
split (kind.extension name (Some m) k) own = refl
split (kind.dictionary t ordered id (kind.extension name None k)) own = refl
split (kind.dictionary t ordered id (kind.extension name (Some m) k)) own = refl
split k own = refl

pub own_nodes : (ns xs : List Node) (k : Kind) (own : Metadata) → ns ≡ xs ++ map pair_table (own_pairs own) → xs ≡ map pair_table (extension_pairs k) → nodes_from ns ≡ field_pairs k own
own_nodes ns xs k own h g =
    ap nodes_from (h ∙ ap (λ zs. zs ++ map pair_table (own_pairs own)) g ∙ sym (map-append pair_table (extension_pairs k) (own_pairs own)) ∙ ap (map pair_table) (sym (split k own))) ∙ nodes_of_pairs (pairs_for k own) ∙ sym (pairs_written k own)

-- an extension's name behind its metadata
pub name_behind : (xs ys zs : List Node) (m : Option (List ℕ)) (name : List ℕ) → zs ≡ ys ++ pair_table (extension_name, name) ∷ [] → ys ≡ xs ++ map pair_table (extension_first m []) → zs ≡ xs ++ map pair_table (extension_first m ((extension_name, name) ∷ []))
name_behind xs ys zs None name h g = h ∙ ap (λ w. w ++ pair_table (extension_name, name) ∷ []) g ∙ append_assoc xs [] (pair_table (extension_name, name) ∷ [])
name_behind xs ys zs (Some v) name h g = h ∙ ap (λ w. w ++ pair_table (extension_name, name) ∷ []) g ∙ append_assoc xs (map pair_table (extension_first (Some v) [])) (pair_table (extension_name, name) ∷ [])

pub some_pairs : (s : SlotValue) (ns : List Built) (n : ℕ) → n ≡ length ns → s ≡ leads_to (layout.tables (nodes_of ns)) → false ≡ nat_eq n 0 → s ≡ pairs_value (nodes_of ns)
some_pairs s [] n e h k = absurd (true≢false (sym (k ∙ ap (λ x. nat_eq x 0) e)))
some_pairs s (x ∷ ns) n e h k = h

pub put_step : (old new : List Node) (n : Node) (p : List ℕ × List ℕ) (left : Metadata) (whole : List Node) → new ≡ old ++ n ∷ [] → n ≡ pair_table p → old ++ map pair_table (p ∷ left) ≡ whole → new ++ map pair_table left ≡ whole
put_step old new n p left whole h g w = ap (λ z. z ++ map pair_table left) (h ∙ ap (λ x. old ++ x ∷ []) g) ∙ append_assoc old (pair_table p ∷ []) (map pair_table left) ∙ w

-- one pair of a field, and those behind it
pub own_step : (old new : List Node) (p : List ℕ × List ℕ) (left : Metadata) (whole : List Node) → new ≡ old ++ map pair_table (unreserved (p ∷ [])) → old ++ map pair_table (unreserved (p ∷ left)) ≡ whole → new ++ map pair_table (unreserved left) ≡ whole
own_step old new p left whole h w = ap (λ z. z ++ map pair_table (unreserved left)) h ∙ append_assoc old (map pair_table (unreserved (p ∷ []))) (map pair_table (unreserved left)) ∙ ap (λ z. old ++ z) (joined (not (is_reserved p.0))) ∙ w
  where
    joined : (b : Bool) → map pair_table (cond b (p ∷ []) []) ++ map pair_table (unreserved left) ≡ map pair_table (cond b (p ∷ unreserved left) (unreserved left))
    joined true = refl
    joined false = refl

bytes_turned : (xs ys : List ℕ) → bytes_eq xs ys ≡ bytes_eq ys xs
bytes_turned xs ys = same_test _ _ (λ e. (bytes_eq-Decides ys xs).1 (sym ((bytes_eq-Decides xs ys).0 e))) (λ e. (bytes_eq-Decides xs ys).1 (sym ((bytes_eq-Decides ys xs).0 e)))

pub reserved_test : (key : List ℕ) (a b : Bool) → a ≡ bytes_eq key extension_name → b ≡ bytes_eq key extension_metadata → a ≡ false → b ≡ is_reserved key
reserved_test key a b first second other = second ∙ bytes_turned key extension_metadata ∙ ap (λ x. x || bytes_eq extension_metadata key) (sym (sym (bytes_turned key extension_name) ∙ sym first ∙ other))

-- the pairs that are left are none: those put are the field's own
pub own_done : (es : List (String Global × String Global)) (new old : List Node) → IsStrictlySortedBy string_cmp (map (λ e. e.0) es) → new ++ map pair_table (unreserved []) ≡ old ++ map pair_table (unreserved (texts_of es)) → new ≡ old ++ map pair_table (own_pairs (texts_of es))
own_done es new old up h = sym (append-nil new) ∙ h ∙ ap (λ m. old ++ map pair_table m) (sym (own_filtered (texts_of es) (sorted_texts es up)))

-- ── the pairs of a footer or of a message ──

-- there are none
pub no_custom : (ns : List Built) (ps : Metadata) → map node_of ns ≡ map pair_table ps → true ≡ nat_eq (length ns) 0 → custom_slot ps ≡ last_slot None
no_custom [] [] h k = refl
no_custom [] (p ∷ ps) h k = cc
no_custom (x ∷ ns) ps h k = let n : length (x ∷ ns) ≡ 0 = eqb-true (length (x ∷ ns)) 0 (sym k) in absurd (omega (arith, n))

pub some_custom : (ns : List Built) (ps : Metadata) → map node_of ns ≡ map pair_table ps → false ≡ nat_eq (length ns) 0 → custom_slot ps ≡ last_slot (Some (layout.tables (nodes_of ns)))
some_custom [] ps h k = absurd (true≢false (sym k))
some_custom (x ∷ ns) [] h k = cc
some_custom (x ∷ ns) (p ∷ ps) h k = ap (λ m. layout.child (layout.tables m) layout.no_more) (sym (nodes_of_pairs (p ∷ ps)) ∙ ap nodes_from (sym h))
