-- Words of the command `log` and what they ask for.
use Rattle.std.proofs.Common.{◌≡◌, [], ◌∷◌, Some, None, codes, refl, true, false}
use Rattle.clap.proofs.OnLiterals.{clap_on_literals}
use Rattle.ipc_words.specs.Requests.{log, request_of}
use Rattle.ipc_words.proofs.WorkedWords.{line}

written : request_of (codes "log" ∷ codes "T" ∷ []) ≡ Some (log (record { appends = false; raw = false; target = codes "T" }))
unfolding clap_on_literals line
written = refl

appended_to : request_of (codes "log" ∷ codes "--append" ∷ codes "T" ∷ []) ≡ Some (log (record { appends = true; raw = false; target = codes "T" }))
unfolding clap_on_literals line
appended_to = refl

raw : request_of (codes "log" ∷ codes "T" ∷ codes "--raw" ∷ []) ≡ Some (log (record { appends = false; raw = true; target = codes "T" }))
unfolding clap_on_literals line
raw = refl

both : request_of (codes "log" ∷ codes "--raw" ∷ codes "--append" ∷ codes "T" ∷ []) ≡ Some (log (record { appends = true; raw = true; target = codes "T" }))
unfolding clap_on_literals line
both = refl

hyphen_is_a_name : request_of (codes "log" ∷ codes "-" ∷ []) ≡ Some (log (record { appends = false; raw = false; target = codes "-" }))
unfolding clap_on_literals line
hyphen_is_a_name = refl

name_of_option : request_of (codes "log" ∷ codes "--" ∷ codes "--append" ∷ []) ≡ Some (log (record { appends = false; raw = false; target = codes "--append" }))
unfolding clap_on_literals line
name_of_option = refl

no_target : request_of (codes "log" ∷ codes "--append" ∷ []) ≡ None
unfolding clap_on_literals line
no_target = refl

two_targets : request_of (codes "log" ∷ codes "T" ∷ codes "U" ∷ []) ≡ None
unfolding clap_on_literals line
two_targets = refl

append_twice : request_of (codes "log" ∷ codes "--append" ∷ codes "--append" ∷ codes "T" ∷ []) ≡ None
unfolding clap_on_literals line
append_twice = refl

append_with_value : request_of (codes "log" ∷ codes "--append=T" ∷ []) ≡ None
unfolding clap_on_literals line
append_with_value = refl
