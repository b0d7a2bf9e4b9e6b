-- What a command asks for, by its name.
use Rattle.std.proofs.Common.{◌≡◌, ◌∙◌, Bool, true, false, List, [], ◌∷◌, Option, Some, None, Result, Ok, Err, IfOk, IfErr, ap, find, option_and_then, refl}
use Rattle.std.specs.Str.{bytes_eq}
use Rattle.std.proofs.lemmas.Slice.Eq.{bytes_eq-Decides}
use Rattle.clap.specs.Walk.{Row, Text}
use Rattle.ipc_words.specs.Views.{request_view}
use Rattle.ipc_words.specs.declared.requests.Request.{Request as Given}
use Rattle.ipc_words.specs.declared.words_error.WordsError.{WordsError}
use Rattle.ipc_words.specs.declared.words_error.WordsError.TheVariants.{NoRequest}
use Rattle.ipc_words.specs.Requests.{Entry, Request, asked_by, commands}

-- a name is that of none of these
abbrev pub IsUnknown : Text → List Entry → Type 0
IsUnknown name [] = Unit
IsUnknown name (e ∷ es) = (name ≡ e.name → ⊥) × IsUnknown name es

differs : (name word : Text) → (name ≡ word → ⊥) → bytes_eq name word ≡ false
differs name word h = by_test (bytes_eq name word) refl
  where
    by_test : (b : Bool) → bytes_eq name word ≡ b → bytes_eq name word ≡ false
    by_test true e = absurd (h ((bytes_eq-Decides name word).0 e))
    by_test false e = e

no_entry : (name : Text) (es : List Entry) → IsUnknown name es → find (λ (e : Entry). bytes_eq name e.name) es ≡ None
no_entry name [] h = refl
no_entry name (e ∷ es) h = rw (differs name e.name h.0) (no_entry name es h.1)

-- a name of no command asks for nothing
pub unknown : (name : Text) (found : List Row) → IsUnknown name commands → asked_by name found ≡ None
unfolding asked_by
unknown name found h = ap (λ o. option_and_then (λ (e : Entry). e.asks found) o) (no_entry name commands h)

-- what is asked under another name of it
pub asked_at : (o p : Option Request) (r : Result Given WordsError) → o ≡ p → IfOk r (λ x. p ≡ Some (request_view x)) → IfOk r (λ x. o ≡ Some (request_view x))
asked_at o p (Ok x) e h = e ∙ h
asked_at o p (Err x) e h = tt

pub refused_at : (o p : Option Request) (r : Result Given WordsError) → o ≡ p → IfErr r (λ x. x ≡ NoRequest → p ≡ None) → IfErr r (λ x. x ≡ NoRequest → o ≡ None)
refused_at o p (Ok x) e h = tt
refused_at o p (Err x) e h = λ is. e ∙ h is
