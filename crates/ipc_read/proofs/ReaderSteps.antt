-- What one step of a reader leaves to the next.
use Rattle.std.proofs.Common.{◌≡◌, ℕ, suc, ◌+◌, ◌≤◌, List, Option, Bool, ℤ, Result, Ok, Err, IfOk, IfErr, [], refl, sym, ap, ◌∙◌, arith, subst}
use Rattle.arrow_spec.specs.declared.error.IpcError.{IpcError}
use Rattle.arrow_spec.specs.declared.error.IpcError.TheVariants.{Memory}
use Rattle.arrow_spec.specs.declared.message.FieldNode.{FieldNode}
use Rattle.arrow_spec.specs.declared.message.IpcBuffer.{IpcBuffer}
use Rattle.arrow_spec.specs.Flat.{order_by}
use Rattle.arrow_spec.specs.Counts.{RecordBatch, Place}
use Rattle.ipc_read.specs.declared.readers.BufferReader.{BufferReader}
use Rattle.ipc_read.specs.declared.readers.ColumnReader.{ColumnReader}
use Rattle.arrow_spec.specs.Kinds.{Kind, Fields}
use Rattle.arrow_spec.specs.declared.message.MetadataVersion.{MetadataVersion}
use Rattle.ipc_read.specs.Queues.{Left, AllAt, BatchAt, ShortenedBy}
use Rattle.ipc_read.specs.Sources.{Answers, Told, Known, variable_parts}
use Rattle.ipc_read.specs.Readers.{Readable, KeepsSource, KeepsQueues, BufferTaken, HeadTaken, ShortenedByAll}
use Rattle.ipc_read.proofs.Refusals.{memory_refuses}
use Rattle.ipc_read.proofs.Counted.{left_next}

-- ── the source ──

pub told_on : {S : Type 0} {content_of : S → Option (List ℕ)} {faults_of : S → ℕ} {references_of : S → List ℕ} {r r' : BufferReader S} → KeepsSource content_of faults_of references_of r r' → (bytes : List ℕ) → Told (content_of r.source.now) r.body bytes → Told (content_of r'.source.now) r'.body bytes
told_on {content_of = content_of} {r = r} {r' = r'} k bytes t = subst (λ x. Told x r'.body bytes) (sym k.same.content) (subst (λ b. Told (content_of r.source.now) b bytes) (sym k.body) t)

pub known_on : {S : Type 0} {content_of : S → Option (List ℕ)} {faults_of : S → ℕ} {references_of : S → List ℕ} {r r' : BufferReader S} {m : RecordBatch} → KeepsSource content_of faults_of references_of r r' → Known (content_of r.source.now) r.body r.is_little_endian m → Known (content_of r'.source.now) r'.body r'.is_little_endian m
known_on {m = m} k t = record { told = told_on k m.body t.told; order = t.order ∙ ap order_by (sym k.order) }

pub readable_on : {S : Type 0} {content_of : S → Option (List ℕ)} {faults_of : S → ℕ} {references_of : S → List ℕ} {r r' : BufferReader S} → KeepsSource content_of faults_of references_of r r' → Readable (content_of r.source.now) r.body → Readable (content_of r'.source.now) r'.body
readable_on {content_of = content_of} {r = r} {r' = r'} k t = subst (λ x. Readable x r'.body) (sym k.same.content) (subst (λ b. Readable (content_of r.source.now) b) (sym k.body) t)

pub keeps_then : {S : Type 0} {content_of : S → Option (List ℕ)} {faults_of : S → ℕ} {references_of : S → List ℕ} {r r' r'' : BufferReader S} → KeepsSource content_of faults_of references_of r r' → KeepsSource content_of faults_of references_of r' r'' → KeepsSource content_of faults_of references_of r r''
keeps_then k l = record {
  same = record { content = l.same.content ∙ k.same.content; faults = omega (arith, k.same.faults, l.same.faults); references = l.same.references ∙ k.same.references };
  body = l.body ∙ k.body;
  order = l.order ∙ k.order;
  queue = l.queue ∙ k.queue;
  source = l.source ∙ k.source;
}

pub queues_then : {S : Type 0} {content_of : S → Option (List ℕ)} {faults_of : S → ℕ} {references_of : S → List ℕ} {r r' r'' : ColumnReader S} → KeepsQueues content_of faults_of references_of r r' → KeepsQueues content_of faults_of references_of r' r'' → KeepsQueues content_of faults_of references_of r r''
queues_then k l = record { nodes = l.nodes ∙ k.nodes; variadic = l.variadic ∙ k.variadic; version = l.version ∙ k.version; buffers = keeps_then k.buffers l.buffers }

-- ── the version ──

pub batch_on : {S : Type 0} {content_of : S → Option (List ℕ)} {faults_of : S → ℕ} {references_of : S → List ℕ} {r r' : ColumnReader S} {m : RecordBatch} {p : Place} {ns : List FieldNode} {bs : List IpcBuffer} {vs : List ℤ} → KeepsQueues content_of faults_of references_of r r' → m.version ≡ r.version → AllAt m p ns bs vs → BatchAt r'.version m p ns bs vs
batch_on k v a = record { version = v ∙ sym k.version; all = a }

pub shortened_on : {k : Kind} {v v' : MetadataVersion} {ns ns' : List FieldNode} {bs bs' : List IpcBuffer} {vs vs' : List ℤ} → v' ≡ v → ShortenedBy k v' ns ns' bs bs' vs vs' → ShortenedBy k v ns ns' bs bs' vs vs'
shortened_on {k = k} {ns = ns} {ns' = ns'} {bs = bs} {bs' = bs'} {vs = vs} {vs' = vs'} e s = subst (λ z. ShortenedBy k z ns ns' bs bs' vs vs') e s

pub all_shortened_on : {fs : Fields} {v v' : MetadataVersion} {ns ns' : List FieldNode} {bs bs' : List IpcBuffer} {vs vs' : List ℤ} → v' ≡ v → ShortenedByAll fs v' ns ns' bs bs' vs vs' → ShortenedByAll fs v ns ns' bs bs' vs vs'
all_shortened_on {fs = fs} {ns = ns} {ns' = ns'} {bs = bs} {bs' = bs'} {vs = vs} {vs' = vs'} e s = subst (λ z. ShortenedByAll fs z ns ns' bs bs' vs vs') e s

-- ── the queues ──

pub head_taken : {X : Type 0} → (r : Result X IpcError) (ns ns' : List FieldNode) (bs bs' : List IpcBuffer) → ((m : RecordBatch) (p : Place) → Left m.nodes p.node ns → Left m.nodes (suc p.node) ns') → BufferTaken bs bs' r → HeadTaken ns ns' bs bs' r
head_taken (Err e) ns ns' bs bs' n b = tt
head_taken (Ok x) ns ns' bs bs' n b = λ m p a. (n m p a.nodes, left_next m.buffers (suc p.buffer) (p.buffer + 1) bs' (omega arith) (b m p.buffer a.buffers))

-- ── what is fetched ──

pub fetched_on : (new old at most few : ℕ) → new ≡ at → at ≤ old + few → few ≡ most → new ≤ old + most
fetched_on new old at most few e h f = omega (arith, e, h, f)

-- ── what is made of what was read ──

-- an array of parts that are all well, which is refused for want of memory alone
pub made : {X Y : Type 0} → (view : X → Y) (r : Result X IpcError) (es : List IpcError) (v y : Y) → IfOk r (λ x. view x ≡ v) → IfErr r (λ e. e ≡ Memory) → es ≡ [] → v ≡ y → Answers view r es y
made view (Ok x) es v y p q h e = record { ok = (h, p ∙ e); err = tt }
made view (Err f) es v y p q h e = record { ok = tt; err = memory_refuses f es q }

pub if_ok : {X E : Type 0} → (r : Result X E) (P Q : X → Type 0) → IfOk r P → ((x : X) → P x → Q x) → IfOk r Q
if_ok (Ok x) P Q p h = h x p
if_ok (Err e) P Q p h = tt

pub if_err : {X E : Type 0} → (r : Result X E) (P Q : E → Type 0) → IfErr r P → ((e : E) → P e → Q e) → IfErr r Q
if_err (Ok x) P Q p h = tt
if_err (Err e) P Q p h = h e p

pub parts_same : {a a' : List ℤ} {b b' : List ℕ} {c c' : Option (List Bool)} → a ≡ a' → b ≡ b' → c ≡ c' → variable_parts a b c ≡ variable_parts a' b' c'
parts_same x y z = rw (x, y, z) refl
