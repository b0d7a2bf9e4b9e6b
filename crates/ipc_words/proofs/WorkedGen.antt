-- Words of the command `gen` and what they ask for.
use Rattle.std.proofs.Common.{◌≡◌, [], ◌∷◌, Some, None, codes, refl}
use Rattle.clap.proofs.OnLiterals.{clap_on_literals}
use Rattle.ipc_words.specs.Requests.{gen, request_of}
use Rattle.ipc_words.proofs.WorkedWords.{line}

from_zero : request_of (codes "gen" ∷ codes "0" ∷ []) ≡ Some (gen 0)
unfolding clap_on_literals line
from_zero = refl

leading_zeros : request_of (codes "gen" ∷ codes "007" ∷ []) ≡ Some (gen 7)
unfolding clap_on_literals line
leading_zeros = refl

greatest : request_of (codes "gen" ∷ codes "18446744073709551615" ∷ []) ≡ Some (gen 18446744073709551615)
unfolding clap_on_literals line
greatest = refl

behind_hyphens : request_of (codes "gen" ∷ codes "--" ∷ codes "5" ∷ []) ≡ Some (gen 5)
unfolding clap_on_literals line
behind_hyphens = refl

too_great : request_of (codes "gen" ∷ codes "18446744073709551616" ∷ []) ≡ None
unfolding clap_on_literals line
too_great = refl

below_zero : request_of (codes "gen" ∷ codes "-1" ∷ []) ≡ None
unfolding clap_on_literals line
below_zero = refl

below_zero_behind_hyphens : request_of (codes "gen" ∷ codes "--" ∷ codes "-1" ∷ []) ≡ None
unfolding clap_on_literals line
below_zero_behind_hyphens = refl

no_number : request_of (codes "gen" ∷ codes "x" ∷ []) ≡ None
unfolding clap_on_literals line
no_number = refl

with_plus : request_of (codes "gen" ∷ codes "+5" ∷ []) ≡ None
unfolding clap_on_literals line
with_plus = refl

empty : request_of (codes "gen" ∷ [] ∷ []) ≡ None
unfolding clap_on_literals line
empty = refl

alone : request_of (codes "gen" ∷ []) ≡ None
unfolding clap_on_literals line
alone = refl

two_numbers : request_of (codes "gen" ∷ codes "1" ∷ codes "2" ∷ []) ≡ None
unfolding clap_on_literals line
two_numbers = refl

raw : request_of (codes "gen" ∷ codes "--raw" ∷ codes "1" ∷ []) ≡ None
unfolding clap_on_literals line
raw = refl
