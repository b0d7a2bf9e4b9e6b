-- Words of the command `csv` and what they ask for.
use Rattle.std.proofs.Common.{◌≡◌, [], ◌∷◌, Some, None, codes, refl}
use Rattle.clap.proofs.OnLiterals.{clap_on_literals}
use Rattle.ipc_words.specs.Requests.{csv, request_of}
use Rattle.ipc_words.proofs.WorkedWords.{line}

all_options : request_of (codes "csv" ∷ codes "--columns" ∷ codes "2,0" ∷ codes "--limit=1" ∷ codes "F3" ∷ []) ≡ Some (csv (record { columns = Some (2 ∷ 0 ∷ []); limit = Some 1; name = Some (codes "F3") }))
unfolding clap_on_literals line
all_options = refl

alone : request_of (codes "csv" ∷ []) ≡ Some (csv (record { columns = None; limit = None; name = None }))
unfolding clap_on_literals line
alone = refl

hyphen_is_input : request_of (codes "csv" ∷ codes "-" ∷ []) ≡ Some (csv (record { columns = None; limit = None; name = None }))
unfolding clap_on_literals line
hyphen_is_input = refl

no_columns : request_of (codes "csv" ∷ codes "F3" ∷ codes "--columns=" ∷ []) ≡ Some (csv (record { columns = Some []; limit = None; name = Some (codes "F3") }))
unfolding clap_on_literals line
no_columns = refl

never_raw : request_of (codes "csv" ∷ codes "--raw" ∷ []) ≡ None
unfolding clap_on_literals line
never_raw = refl

two_names : request_of (codes "csv" ∷ codes "F1" ∷ codes "F2" ∷ []) ≡ None
unfolding clap_on_literals line
two_names = refl

no_number : request_of (codes "csv" ∷ codes "--limit" ∷ codes "x" ∷ codes "F1" ∷ []) ≡ None
unfolding clap_on_literals line
no_number = refl

limit_twice : request_of (codes "csv" ∷ codes "--limit=1" ∷ codes "--limit=2" ∷ []) ≡ None
unfolding clap_on_literals line
limit_twice = refl
