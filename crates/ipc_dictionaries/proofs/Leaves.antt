-- An array without children, by its variant.
use Rattle.std.proofs.Common.{◌≡◌, ℤ, Option, Ok, refl}
use Rattle.arrow_arrays.specs.declared.array.Array.{Array}
use Rattle.arrow_arrays.specs.declared.array.Array.TheVariants as arrays
use Rattle.arrow_arrays.specs.declared.array.ListArray.{ListArray}
use Rattle.arrow_arrays.specs.declared.array.FixedSizeListArray.{FixedSizeListArray}
use Rattle.arrow_arrays.specs.declared.array.MapArray.{MapArray}
use Rattle.arrow_arrays.specs.declared.array.StructArray.{StructArray}
use Rattle.arrow_arrays.specs.declared.array.UnionArray.{UnionArray}
use Rattle.arrow_arrays.specs.declared.array.DictionaryArray.{DictionaryArray}
use Rattle.arrow_arrays.specs.PartsOf.{parts_of}
use Rattle.ipc_fields.specs.IpcFields.{Ids}
use Rattle.ipc_dictionaries.specs.NewDictionaries.{Options, Sending, array_sent}

-- it has no dictionary
pub nothing_sent : (o : Options) (a : Array) (id : Option ℤ) (below : Ids) (s : Sending)
    → ((x : ListArray) → a ≡ arrays.List x → ⊥) → ((x : FixedSizeListArray) → a ≡ arrays.FixedSizeList x → ⊥) → ((x : MapArray) → a ≡ arrays.Map x → ⊥) → ((x : StructArray) → a ≡ arrays.Struct x → ⊥) → ((x : UnionArray) → a ≡ arrays.Union x → ⊥) → ((x : DictionaryArray) → a ≡ arrays.Dictionary x → ⊥)
    → array_sent o (parts_of a) id below s ≡ Ok s
nothing_sent o (arrays.List x) id below s nl nf nm ns nu nd = absurd (nl x refl)
nothing_sent o (arrays.FixedSizeList x) id below s nl nf nm ns nu nd = absurd (nf x refl)
nothing_sent o (arrays.Map x) id below s nl nf nm ns nu nd = absurd (nm x refl)
nothing_sent o (arrays.Struct x) id below s nl nf nm ns nu nd = absurd (ns x refl)
nothing_sent o (arrays.Union x) id below s nl nf nm ns nu nd = absurd (nu x refl)
nothing_sent o (arrays.Dictionary x) id below s nl nf nm ns nu nd = absurd (nd x refl)
nothing_sent o a id below s nl nf nm ns nu nd = refl
