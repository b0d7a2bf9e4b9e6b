-- What calls one after another keep of a source and of a sink.
use Rattle.std.proofs.Common.{ℕ, List, Option, ◌∙◌, arith}
use Rattle.ipc_io.specs.Outside.{SourceKept, SinkKept}

pub source_kept_on : {S : Type 0} {content_of : S → Option (List ℕ)} {faults_of : S → ℕ} {references_of : S → List ℕ} {s s' s'' : S}
    → SourceKept content_of faults_of references_of s s' → SourceKept content_of faults_of references_of s' s'' → SourceKept content_of faults_of references_of s s''
source_kept_on h k = record {
  content = k.content ∙ h.content;
  faults = omega (arith, h.faults, k.faults);
  references = k.references ∙ h.references;
}

pub sink_kept_on : {W : Type 0} {faults_of wants_of : W → ℕ} {references_of : W → List ℕ} {w w' w'' : W}
    → SinkKept faults_of wants_of references_of w w' → SinkKept faults_of wants_of references_of w' w'' → SinkKept faults_of wants_of references_of w w''
sink_kept_on h k = record {
  faults = omega (arith, h.faults, k.faults);
  wants = omega (arith, h.wants, k.wants);
  references = k.references ∙ h.references;
}
