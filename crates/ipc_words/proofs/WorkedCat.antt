-- Words of the command `cat` and what they ask for.
use Rattle.std.proofs.Common.{◌≡◌, [], ◌∷◌, Some, None, codes, refl, true, false}
use Rattle.clap.proofs.OnLiterals.{clap_on_literals}
use Rattle.ipc_words.specs.Requests.{cat, request_of}
use Rattle.ipc_words.proofs.WorkedWords.{line}

two_files : request_of (codes "cat" ∷ codes "F1" ∷ codes "F4" ∷ []) ≡ Some (cat (record { raw = false; names = codes "F1" ∷ codes "F4" ∷ [] }))
unfolding clap_on_literals line
two_files = refl

one_file : request_of (codes "cat" ∷ codes "F1" ∷ []) ≡ Some (cat (record { raw = false; names = codes "F1" ∷ [] }))
unfolding clap_on_literals line
one_file = refl

one_file_twice : request_of (codes "cat" ∷ codes "F1" ∷ codes "--raw" ∷ codes "F1" ∷ []) ≡ Some (cat (record { raw = true; names = codes "F1" ∷ codes "F1" ∷ [] }))
unfolding clap_on_literals line
one_file_twice = refl

raw_before_names : request_of (codes "cat" ∷ codes "--raw" ∷ codes "F1" ∷ codes "F2" ∷ codes "F3" ∷ []) ≡ Some (cat (record { raw = true; names = codes "F1" ∷ codes "F2" ∷ codes "F3" ∷ [] }))
unfolding clap_on_literals line
raw_before_names = refl

hyphen_is_a_name : request_of (codes "cat" ∷ codes "-" ∷ codes "F1" ∷ []) ≡ Some (cat (record { raw = false; names = codes "-" ∷ codes "F1" ∷ [] }))
unfolding clap_on_literals line
hyphen_is_a_name = refl

option_behind_hyphens : request_of (codes "cat" ∷ codes "F1" ∷ codes "--" ∷ codes "--raw" ∷ []) ≡ Some (cat (record { raw = false; names = codes "F1" ∷ codes "--raw" ∷ [] }))
unfolding clap_on_literals line
option_behind_hyphens = refl

no_name : request_of (codes "cat" ∷ []) ≡ None
unfolding clap_on_literals line
no_name = refl

raw_without_names : request_of (codes "cat" ∷ codes "--raw" ∷ []) ≡ None
unfolding clap_on_literals line
raw_without_names = refl

raw_twice : request_of (codes "cat" ∷ codes "--raw" ∷ codes "F1" ∷ codes "--raw" ∷ []) ≡ None
unfolding clap_on_literals line
raw_twice = refl

with_limit : request_of (codes "cat" ∷ codes "--limit" ∷ codes "1" ∷ codes "F1" ∷ []) ≡ None
unfolding clap_on_literals line
with_limit = refl
