-- A file that is looked at, read and cut, one step after another.
use Rattle.std.proofs.Common.{◌≡◌, ◌⊎◌, inl, inr, ℕ, ◌≤◌, ℤ, List, [], ◌∷◌, Option, None, Some, Result, Ok, Err, sym, ap, ◌∙◌, subst, arith}
use Rattle.std.specs.Result.{IsErrAnd}
use Rattle.std.specs.Prelude.{IfErr, IfOk, IfSome}
use Rattle.std.specs.BTreeMap.{BTreeMap}
use Rattle.std.specs.declared.alloc.Global.{Global}
use Rattle.std.specs.declared.vec.Vec.{Vec}
use Rattle.arrow_spec.specs.declared.error.IpcError.{IpcError}
use Rattle.arrow_spec.specs.declared.error.IpcError.TheVariants.{Memory, OutOfSpec, Unsupported, WriteFault}
use Rattle.arrow_spec.specs.Files.{dictionaries_of}
use Rattle.arrow_spec.specs.Layout.{up_to}
use Rattle.arrow_spec.specs.Readings.{IsAmong, Refuses, free_of, refusals}
use Rattle.arrow_arrays.specs.declared.array.Array.{Array}
use Rattle.ipc_disk.specs.Disks.{IsWithin, below}
use Rattle.ipc_disk.specs.Tails.{IsOfDisk}
use Rattle.ipc_file_writer.specs.Begun.{GoesOn, MayEnd}
use Rattle.ipc_file_writer.specs.declared.begun.BegunFile.{BegunFile}
use Rattle.ipc_file_writer.specs.declared.file.FileCore.{FileCore}
use Rattle.ipc_streams.specs.Below.{HoldsUses, ReadsDictionaries, FileCause, meta_view, FileMetadata, held_in, Answers, IsRefusal, HoldsCells, WriteOptions}
use Rattle.ipc_io.specs.Outside.{IsSize, Rose}
use Rattle.ipc_append.specs.Appends.{Continues, DoesNotAppend, HoldsFile, IsContinued, StopsBefore, cut_place}
use Rattle.ipc_append.specs.Places.{Tells}
use Rattle.ipc_append.proofs.Cutting.{may_cut}
use Rattle.ipc_append.proofs.Places.{has_end}
use Rattle.ipc_streams.proofs.Below.{refused_in_file}

-- ── columns ──

among : (e : IpcError) (es : List IpcError) → IsRefusal e → Refuses e es → IsAmong (refusals (free_of es)) e
among (OutOfSpec k) [] h r = absurd r
among (OutOfSpec k) (x ∷ xs) h r = r
among (Unsupported f) [] h r = absurd r
among (Unsupported f) (x ∷ xs) h r = r
among e es h r = absurd h

pub kinds_told : (r : Result (Unit {0}) IpcError) (es : List IpcError) → Answers (λ u. u) r es tt → IfErr r IsRefusal → Tells r (free_of es)
kinds_told (Ok u) es a h = ap free_of a.ok.0
kinds_told (Err e) es a h = among e es h a.err

-- ── the writer ──

abbrev pub begun_of : FileMetadata → BTreeMap ℤ (Vec Array Global) → BegunFile
begun_of m dictionaries = record {
  schema = m.schema;
  ipc_fields = m.ipc_schema.fields;
  custom_schema_metadata = m.custom_schema_metadata;
  custom_metadata = m.custom_metadata;
  dictionaries = dictionaries;
  dictionary_blocks = m.dictionaries;
  record_blocks = m.blocks;
}

pub core_continues : (r : Result FileCore IpcError) (asked : WriteOptions) (m : FileMetadata) (dictionaries : BTreeMap ℤ (Vec Array Global)) (place end : ℕ) → end ≡ up_to 8 place → IfOk r (λ c. GoesOn asked (begun_of m dictionaries) end c)
    → IfOk r (λ c. Continues asked m place c)
core_continues (Ok c) asked m dictionaries place end e g = record {
  options = g.options;
  state = g.state;
  schema = g.schema;
  ids = g.ids;
  pairs = g.pairs;
  dictionaries = g.dictionaries;
  records = g.records;
  end = g.end ∙ e;
  unwritten = g.unwritten;
}
core_continues (Err x) asked m dictionaries place end e g = tt

pub core_held : (r : Result FileCore IpcError) (asked : WriteOptions) (m : FileMetadata) (dictionaries : BTreeMap ℤ (Vec Array Global)) (end : ℕ) → IfOk r (λ c. GoesOn asked (begun_of m dictionaries) end c)
    → IfOk r (λ c. c.tracker.dictionaries ≡ dictionaries)
core_held (Ok c) asked m dictionaries end g = g.held
core_held (Err x) asked m dictionaries end g = tt

-- ── dictionaries ──

pub dictionaries_stop : (content : Option (List ℕ)) (e : IpcError) (asked : WriteOptions) (m : FileMetadata) (place faults faults' : ℕ) → cut_place asked m ≡ Ok place
    → IfSome content (λ b. ReadsDictionaries b (meta_view m) m.dictionaries.items (Err e)) → FileCause e faults faults' → StopsBefore content e asked m faults faults'
dictionaries_stop content e asked m place faults faults' p h k = inr (inr (inl (record { place = place; is_cut = p; cause = k; refused = by content h })))
  where
    by : (o : Option (List ℕ)) → IfSome o (λ b. ReadsDictionaries b (meta_view m) m.dictionaries.items (Err e)) → IfSome o (λ b. Refuses e (refusals (dictionaries_of b (meta_view m) [] (meta_view m).dictionaries)))
    by None q = tt
    by (Some b) q = refused_in_file b (meta_view m) [] m.dictionaries.items e (has_end m place (may_cut asked m place p).end).dictionaries q.err

pub dictionaries_refusal : {A : Type 0} (r : Result A IpcError) (e : IpcError) (content : Option (List ℕ)) (asked : WriteOptions) (m : FileMetadata) (place faults faults' : ℕ) → IsErrAnd r (λ x. x ≡ e) → cut_place asked m ≡ Ok place
    → IfSome content (λ b. ReadsDictionaries b (meta_view m) m.dictionaries.items (Err e)) → FileCause e faults faults' → IfErr r (λ x. StopsBefore content x asked m faults faults')
dictionaries_refusal (Ok a) e content asked m place faults faults' n p h k = tt
dictionaries_refusal (Err x) e content asked m place faults faults' n p h k = subst (λ y. StopsBefore content y asked m faults faults') (sym n) (dictionaries_stop content e asked m place faults faults' p h k)

pub holds_file : (content : Option (List ℕ)) (m : FileMetadata) (c : FileCore) (held : BTreeMap ℤ (Vec Array Global)) → c.tracker.dictionaries ≡ held
    → IfSome content (λ b. ReadsDictionaries b (meta_view m) m.dictionaries.items (Ok held)) → HoldsFile content m c
holds_file None m c held e h = tt
holds_file (Some b) m c held e h = (h.said.0, h.said.1, subst (λ x. HoldsCells h.said.0 (held_in x)) (sym e) h.said.2)

pub holds_uses : (m : FileMetadata) (c : FileCore) (held : BTreeMap ℤ (Vec Array Global)) → c.tracker.dictionaries ≡ held → HoldsUses (meta_view m) (held_in held) → HoldsUses (meta_view m) (held_in c.tracker.dictionaries)
holds_uses m c held e h = subst (λ x. HoldsUses (meta_view m) (held_in x)) (sym e) h

-- ── the end ──

pub end_stops : (content : Option (List ℕ)) (e : IpcError) (asked : WriteOptions) (m : FileMetadata) (place faults faults' : ℕ) (c : FileCore) → cut_place asked m ≡ Ok place → Continues asked m place c → HoldsFile content m c
    → MayEnd (Err e) c → StopsBefore content e asked m faults faults'
end_stops content e asked m place faults faults' c p k h (inl q) = inl q
end_stops content e asked m place faults faults' c p k h (inr q) = inr (inr (inr (record { place = place; is_cut = p; core = c; continues = k; held = h; refused = q })))

pub end_refusal : {A : Type 0} (r : Result A IpcError) (e : IpcError) (content : Option (List ℕ)) (asked : WriteOptions) (m : FileMetadata) (place faults faults' : ℕ) (c : FileCore) → IsErrAnd r (λ x. x ≡ e) → cut_place asked m ≡ Ok place
    → Continues asked m place c → HoldsFile content m c → MayEnd (Err e) c → IfErr r (λ x. StopsBefore content x asked m faults faults')
end_refusal (Ok a) e content asked m place faults faults' c n p k h q = tt
end_refusal (Err x) e content asked m place faults faults' c n p k h q = subst (λ y. StopsBefore content y asked m faults faults') (sym n) (end_stops content e asked m place faults faults' c p k h q)

pub may_go_on : (content : Option (List ℕ)) (asked : WriteOptions) (m : FileMetadata) (place : ℕ) (c : FileCore) → cut_place asked m ≡ Ok place → Continues asked m place c → HoldsFile content m c
    → HoldsUses (meta_view m) (held_in c.tracker.dictionaries) → MayEnd (Ok tt) c → IsContinued content asked m place c
may_go_on content asked m place c p k h u q = record { is_cut = p; continues = k; held = h; uses = u; bytes = q.0; may_end = q.1 }

-- ── the cut ──

pub of_disk : (e : IpcError) (faults faults' wants wants' : ℕ) → IsOfDisk e faults faults' wants wants' → ((e ≡ WriteFault) × Rose faults faults') ⊎ (e ≡ Memory)
of_disk e faults faults' wants wants' (inl h) = inl h
of_disk e faults faults' wants wants' (inr h) = inr h.0

-- what is cut lies in the file
pub lies_within : (content : Option (List ℕ)) (asked : WriteOptions) (m : FileMetadata) (place : ℕ) → IsSize content m.size → cut_place asked m ≡ Ok place → IsWithin content place
lies_within None asked m place s p = tt
lies_within (Some b) asked m place s p = let inside : place ≤ m.size = (has_end m place (may_cut asked m place p).end).inside in omega (arith, inside, s)

rose_before : (f g h : ℕ) → f ≤ g → Rose g h → Rose f h
rose_before f g h k r = omega (arith, k, r)

pub cut_fails : (old middle new : Option (List ℕ)) (e : IpcError) (asked : WriteOptions) (m : FileMetadata) (f g h place : ℕ) (c : FileCore) → IsContinued old asked m place c → middle ≡ old → f ≤ g → below place new ≡ below place middle
    → ((e ≡ WriteFault) × Rose g h) ⊎ (e ≡ Memory) → DoesNotAppend old new e asked m f h
cut_fails old middle new e asked m f g h place c k s l b r = inr (record { place = place; core = c; continued = k; kept = b ∙ ap (below place) s; cause = by r })
  where
    by : ((e ≡ WriteFault) × Rose g h) ⊎ (e ≡ Memory) → ((e ≡ WriteFault) × Rose f h) ⊎ (e ≡ Memory)
    by (inl q) = inl (q.0, rose_before f g h l q.1)
    by (inr q) = inr q

pub all_fail : {W E : Type 0} (r : Result W E) (content_of : E → Option (List ℕ)) (faults_of : E → ℕ) (error_of : E → IpcError) (old middle : Option (List ℕ)) (asked : WriteOptions) (m : FileMetadata) (f g place : ℕ) (c : FileCore)
    → IsContinued old asked m place c → middle ≡ old → f ≤ g → IfErr r (λ e. below place (content_of e) ≡ below place middle) → IfErr r (λ e. ((error_of e ≡ WriteFault) × Rose g (faults_of e)) ⊎ (error_of e ≡ Memory))
    → IfErr r (λ e. DoesNotAppend old (content_of e) (error_of e) asked m f (faults_of e))
all_fail (Ok w) content_of faults_of error_of old middle asked m f g place c k s l b q = tt
all_fail (Err e) content_of faults_of error_of old middle asked m f g place c k s l b q = cut_fails old middle (content_of e) (error_of e) asked m f g (faults_of e) place c k s l b q
