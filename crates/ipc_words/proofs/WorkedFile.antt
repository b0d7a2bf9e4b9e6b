-- Words of the command `file` and what they ask for.
use Rattle.std.proofs.Common.{◌≡◌, [], ◌∷◌, Some, None, codes, refl, true, false}
use Rattle.clap.proofs.OnLiterals.{clap_on_literals}
use Rattle.ipc_words.specs.Requests.{file, request_of}
use Rattle.ipc_words.proofs.WorkedWords.{line}

from_a_name : request_of (codes "file" ∷ codes "S1" ∷ []) ≡ Some (file (record { raw = false; name = Some (codes "S1") }))
unfolding clap_on_literals line
from_a_name = refl

from_the_input : request_of (codes "file" ∷ []) ≡ Some (file (record { raw = false; name = None }))
unfolding clap_on_literals line
from_the_input = refl

hyphen_is_input : request_of (codes "file" ∷ codes "-" ∷ codes "--raw" ∷ []) ≡ Some (file (record { raw = true; name = None }))
unfolding clap_on_literals line
hyphen_is_input = refl

raw_of_a_name : request_of (codes "file" ∷ codes "--raw" ∷ codes "S1" ∷ []) ≡ Some (file (record { raw = true; name = Some (codes "S1") }))
unfolding clap_on_literals line
raw_of_a_name = refl

two_names : request_of (codes "file" ∷ codes "S1" ∷ codes "S2" ∷ []) ≡ None
unfolding clap_on_literals line
two_names = refl

with_columns : request_of (codes "file" ∷ codes "--columns" ∷ codes "0" ∷ codes "S1" ∷ []) ≡ None
unfolding clap_on_literals line
with_columns = refl

raw_twice : request_of (codes "file" ∷ codes "--raw" ∷ codes "--raw" ∷ []) ≡ None
unfolding clap_on_literals line
raw_twice = refl
