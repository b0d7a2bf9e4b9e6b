-- Fields before their children.
use Rattle.std.proofs.Common.{◌≡◌, ℕ, List, Option, Some, None, Ok, refl, sym, ◌∙◌, ap}
use Rattle.arrow_spec.specs.Kinds.{Kind, Fields, Metadata}
use Rattle.arrow_spec.specs.Schema.{Encoding, Tag, encoding_at, children_at, pairs_of, type_at, without_key, value_of, extension_name, extension_metadata, with_encoding}
use Rattle.arrow_spec.specs.Kinds as kind
use Rattle.arrow_types.specs.Extensions.{extension_in}
use Rattle.schema_reader.specs.ReadViews.{extended, Named, shape_kind}
use Rattle.schema_reader.specs.Parts.{Form, form_at}
use Rattle.schema_reader.specs.declared.data_type.Shape.{Shape}
use Rattle.arrow_spec.specs.Flat.{Table, Vector}
use Rattle.arrow_spec.specs.Readings.{bind, Reading}

abbrev by_pairs : Option Encoding → Option (List ℕ) → Option (List ℕ) → (Fields → Kind) → Fields → Kind
by_pairs e name parameters k fs = with_encoding e (elim name [ None ↦ k fs | Some n ↦ kind.extension n parameters (k fs) ])

abbrev by_named : Option Encoding → Option Named → (Fields → Kind) → Fields → Kind
by_named e x k fs = with_encoding e (extended x (k fs))

same_kinds : (e : Option Encoding) (name parameters : Option (List ℕ)) (k : Fields → Kind) → by_pairs e name parameters k ≡ by_named e (elim name [ None ↦ None | Some n ↦ Some (n, parameters) ]) k
same_kinds e None parameters k = refl
same_kinds e (Some n) parameters k = refl

abbrev form_of : (Fields → Kind) → Metadata → Vector → ℕ → Reading Form
form_of k m children pairs = Ok (record { of_children = k; metadata = m; children = children; pairs = pairs })

-- the kind that the pairs make is that under their extension
pub extended_same : (e : Option Encoding) (pairs : Metadata) (k : Fields → Kind) → by_pairs e (value_of extension_name pairs) (value_of extension_metadata pairs) k ≡ by_named e (extension_in pairs) k
extended_same e pairs k = same_kinds e (value_of extension_name pairs) (value_of extension_metadata pairs) k

pub form_made : (b : List ℕ) (t type : Table) (tag : Tag) (before : ℕ) (e : Option Encoding) (children : Vector) (pairs : Metadata × ℕ) (s : Shape) (extension : Option Named) (left : Metadata)
    → encoding_at b t ≡ Ok e → children_at b t tag ≡ Ok children → pairs_of b t 6 before ≡ Ok pairs → type_at b type children.count tag ≡ Ok (shape_kind children.count s)
    → extension ≡ extension_in pairs.0 → left ≡ without_key extension_name (without_key extension_metadata pairs.0)
    → form_at b t tag type before ≡ Ok (record { of_children = by_named e extension (shape_kind children.count s); metadata = left; children = children; pairs = pairs.1 })
unfolding form_at bind
form_made b t type tag before e children pairs s extension left h1 h2 h3 h4 x l =
    let k : by_pairs e (value_of extension_name pairs.0) (value_of extension_metadata pairs.0) (shape_kind children.count s) ≡ by_named e extension (shape_kind children.count s) = extended_same e pairs.0 (shape_kind children.count s) ∙ ap (λ y. by_named e y (shape_kind children.count s)) (sym x) in
    rw (h1, h2, h3, h4) (ap (λ f. form_of f (without_key extension_name (without_key extension_metadata pairs.0)) children pairs.1) k ∙ ap (λ m. form_of (by_named e extension (shape_kind children.count s)) m children pairs.1) (sym l))
