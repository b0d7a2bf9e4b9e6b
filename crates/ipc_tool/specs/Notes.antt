-- What is noted of a refusal.
use Rattle.std.specs.Prelude.{◌≡◌, ℕ, List, Option}
use Rattle.std.specs.Io.KnownBytes.{Appends}
use Rattle.ipc_io.specs.Outside.{AppendsPrefix, Stands}
use Rattle.ipc_tool.specs.Refusal.{line_of, number_of}
use Rattle.ipc_tool.specs.declared.refusal.Refusal.{Refusal}

-- what is seen of the notes: what was written, and how often they failed and wanted memory
pub record Noted : Type 0 where
  pub written : Option (List ℕ)
  pub faults : ℕ
  pub wants : ℕ

-- by the members of their bound
abbrev pub noted_of : {N : Type 0} → (N → Option (List ℕ)) → (N → ℕ) → (N → ℕ) → N → Noted
noted_of written faults wants notes = record { written = written notes; faults = faults notes; wants = wants notes }

-- the line of a refusal was noted, or a part of it where the notes failed or wanted memory
pub record IsNoted (e : Refusal) (old new : Option (List ℕ)) (faults faults' wants wants' : ℕ) : Type 0 where
  pub part : AppendsPrefix old new (line_of e)
  pub whole : Stands faults faults' → Stands wants wants' → Appends old new (line_of e)

-- a refusal was noted, with its status
abbrev pub IsNotedAs : ℕ → Refusal → Noted → Noted → Type 0
IsNotedAs status e noted noted' = (status ≡ number_of e) × IsNoted e noted.written noted'.written noted.faults noted'.faults noted.wants noted'.wants
