-- A disk that is cut, written behind the cut, and cut off there.
use Rattle.std.proofs.Common.{◌≡◌, ◌∙◌, ◌⊎◌, inl, inr, ℕ, ◌+◌, ◌-◌, ◌≤◌, List, ◌++◌, length, take, Option, Some, None, Result, Ok, Err, IfErr, IfOk, IfSome, MatchResult, option_map, sym, ap, subst, arith, length-append, length-take, length-take-le, take-take}
use Rattle.std.proofs.Math.Seq.{take-append_seam}
use Rattle.std.proofs.lemmas.List.{take-append-le, take_all}
use Rattle.std.specs.List.{flat_map}
use Rattle.std.specs.Io.KnownBytes.{Appends}
use Rattle.arrow_spec.specs.declared.error.IpcError.{IpcError}
use Rattle.arrow_spec.specs.declared.error.IpcError.TheVariants as errors
use Rattle.arrow_spec.specs.Layout.{up_to, zeros}
use Rattle.arrow_spec.proofs.Lengths.{length-gap}
use Rattle.ipc_append.specs.Appends.{DoesNotAppend, IsAppending, StopsBefore}
use Rattle.ipc_append.proofs.Appending.{lies_within}
use Rattle.ipc_disk.specs.Disks.{IsWithin, below}
use Rattle.ipc_disk.specs.Tails.{cut_and_padded}
use Rattle.ipc_file_writer.specs.declared.file.FileCore.{FileCore}
use Rattle.ipc_streams.specs.Below.{FileMetadata, WriteOptions}
use Rattle.ipc_io.specs.Outside.{IsSize, Rose}
use Rattle.ipc_streams.proofs.TakenCalls.{cause_since}
use Rattle.ipc_append.specs.Appended.{EndsDisk, IsAppended, IsNotAppended, IsPrepared, IsWritten, KeepsBelow, StopsOnDisk, WritesNot}
use Rattle.ipc_append.specs.Puts.{AreGiven, EndsFile, IsEnded, NotEnded, OneNotGiven, PutCause, chunk_bytes}
use Rattle.ipc_append.specs.declared.encode.EncodedChunk.{EncodedChunk}
use Rattle.ipc_append.specs.declared.stream.WholeStream.{WholeStream}
use Rattle.ipc_append.proofs.AppendMeaning.{appended_means}
use Rattle.ipc_append.proofs.PutSteps.{cause_later}
use Rattle.laws_sent.specs.Below.{Moved, moved}

-- ── behind what a disk has ──

-- what was put behind all bytes of a disk, which is cut off there
pub put_on_disk : (old mid new : Option (List ℕ)) (end end' : ℕ) (bytes : List ℕ) → IsSize old end → Appends (below end old) (below end' mid) bytes → new ≡ below end' mid → IfSome old (λ b. new ≡ Some (b ++ bytes))
put_on_disk None mid new end end' bytes s p is = tt
put_on_disk (Some b) None new end end' bytes s p is = absurd p
put_on_disk (Some b) (Some x) new end end' bytes s p is = is ∙ ap (λ y. Some y) (p ∙ ap (λ y. y ++ bytes) (take_all end b (omega (arith, s))))

pub front_of : (b x added : List ℕ) (end' : ℕ) → take end' x ≡ b ++ added → take (length b) x ≡ b
front_of b x added end' p =
    let n : length b + length added ≡ length (take end' x) = sym (length-append b added) ∙ ap length (sym p) in
    let less : length b ≤ end' = omega (arith, n, length-take end' x) in
    sym (take-take (length b) end' x less) ∙ ap (take (length b)) p ∙ take-append_seam b added

-- the bytes of the disk are at the front
pub kept_on_disk : (old mid : Option (List ℕ)) (end end' : ℕ) (added : List ℕ) → IsSize old end → Appends (below end old) (below end' mid) added → IfSome old (λ b. below (length b) mid ≡ Some b)
kept_on_disk None mid end end' added s p = tt
kept_on_disk (Some b) None end end' added s p = absurd p
kept_on_disk (Some b) (Some x) end end' added s p = ap (λ y. Some y) (front_of b x added end' (p ∙ ap (λ y. y ++ added) (take_all end b (omega (arith, s)))))

-- ── a file that was ended there ──

module _ (old mid : Option (List ℕ)) (end end' : ℕ) (f g u v : ℕ) (c d : FileCore) (chunks : List EncodedChunk) (s : IsSize old end) where
  pub ends_disk : {X E : Type 0} (r : Result X E) (content_of : X → Option (List ℕ)) (w : Result (Unit {0}) IpcError) (there : Option (List ℕ)) → w ≡ Ok tt → EndsFile (moved (below end old) (below end' mid) f g u v) w c d chunks → there ≡ below end' mid
      → IfOk r (λ x. content_of x ≡ there) → IfOk r (λ x. EndsDisk old (content_of x) c chunks)
  ends_disk (Err x) content_of w there is k same h = tt
  ends_disk (Ok x) content_of w there is k same h =
      let e : IsEnded (moved (below end old) (below end' mid) f g u v) c chunks = subst (λ y. EndsFile (moved (below end old) (below end' mid) f g u v) y c d chunks) is k in
      record { last = e.last; given = e.given; ending = e.ending; ends = e.ends; means = e.means; content = put_on_disk old mid (content_of x) end end' (flat_map chunk_bytes chunks ++ e.ending) s e.appended (h ∙ same) }

  pub not_cut_off : {X E : Type 0} (r : Result X E) (content_of : E → Option (List ℕ)) (faults_of : E → ℕ) (error_of : E → IpcError) (w : Result (Unit {0}) IpcError) (there : Option (List ℕ)) (n : ℕ) → w ≡ Ok tt → EndsFile (moved (below end old) (below end' mid) f g u v) w c d chunks
      → there ≡ mid → n ≡ g → IfErr r (λ x. content_of x ≡ there) → IfErr r (λ x. error_of x ≡ errors.WriteFault) → IfErr r (λ x. Rose n (faults_of x)) → IfErr r (λ x. StopsOnDisk old (content_of x) (error_of x) c chunks f (faults_of x))
  not_cut_off (Ok x) content_of faults_of error_of w there n is k same count h q z = tt
  not_cut_off (Err x) content_of faults_of error_of w there n is k same count h q z =
      let e : IsEnded (moved (below end old) (below end' mid) f g u v) c chunks = subst (λ y. EndsFile (moved (below end old) (below end' mid) f g u v) y c d chunks) is k in
      let rose : Rose f (faults_of x) = omega (arith, z, count, e.counts.faults) in
      record {
        stops = (e.last, inr (inr (q, e.given)));
        kept = subst (λ o. IfSome old (λ b. below (length b) o ≡ Some b)) (sym (h ∙ same)) (kept_on_disk old mid end end' (flat_map chunk_bytes chunks ++ e.ending) s e.appended);
        cause = subst (λ y. PutCause y f (faults_of x)) (sym q) rose;
      }

  pub stops_on_disk : (e : IpcError) (w : Result (Unit {0}) IpcError) (there : Option (List ℕ)) (n : ℕ) → w ≡ Err e → EndsFile (moved (below end old) (below end' mid) f g u v) w c d chunks → there ≡ mid → n ≡ g → StopsOnDisk old there e c chunks f n
  stops_on_disk e w there n is k same count =
      let h = subst (λ y. EndsFile (moved (below end old) (below end' mid) f g u v) y c d chunks) is k in
      record {
        stops = (d, by h.0);
        kept = subst (λ o. IfSome old (λ b. below (length b) o ≡ Some b)) (sym same) (kept_on_disk old mid end end' h.1.added s h.1.appended);
        cause = subst (λ m. PutCause e f m) (sym count) h.1.cause;
      }
    where
      by : OneNotGiven e c d chunks ⊎ NotEnded e c d chunks → OneNotGiven e c d chunks ⊎ (NotEnded e c d chunks ⊎ ((e ≡ errors.WriteFault) × AreGiven c d chunks))
      by (inl h) = inl h
      by (inr h) = inr (inl h)

-- ── where a disk was cut ──

pub padded_length : (b : List ℕ) (place : ℕ) → place ≤ length b → length (cut_and_padded place b) ≡ up_to 8 place
padded_length b place h =
    let gap : place + length (zeros (up_to 8 place - place)) ≡ up_to 8 place = length-gap place (up_to 8 place) (omega arith) in
    omega (arith, length-append (take place b) (zeros (up_to 8 place - place)), length-take-le place b h, gap)

padded_size : (old new : Option (List ℕ)) (place end : ℕ) → IsWithin old place → new ≡ option_map (cut_and_padded place) old → end ≡ up_to 8 place → IsSize new end
padded_size None new place end w is e = subst (λ o. IsSize o end) (sym is) tt
padded_size (Some b) new place end w is e = subst (λ o. IsSize o end) (sym is) (e ∙ sym (padded_length b place w))

-- a tail stands at the end of a disk that was cut
pub stands_at_end : (old new : Option (List ℕ)) (end : ℕ) (asked : WriteOptions) (m : FileMetadata) (c : FileCore) → IsSize old m.size → IsAppending old new end asked m c → IsSize new end
stands_at_end old new end asked m c s a = padded_size old new a.place end (lies_within old asked m a.place s a.continued.is_cut) a.cut a.behind

below_padded : (b y : List ℕ) (place : ℕ) → place ≤ length b → take (length (cut_and_padded place b)) y ≡ cut_and_padded place b → take place y ≡ take place b
below_padded b y place h p =
    let n : length (cut_and_padded place b) ≡ up_to 8 place = padded_length b place h in
    let less : place ≤ length (cut_and_padded place b) = omega (arith, n) in
    let first : place ≤ length (take place b) = omega (arith, length-take-le place b h) in
    sym (take-take place (length (cut_and_padded place b)) y less) ∙ ap (take place) p ∙ take-append-le place (take place b) (zeros (up_to 8 place - place)) first ∙ take-take place place b (omega arith)

kept_below : (old mid new : Option (List ℕ)) (place : ℕ) → IsWithin old place → mid ≡ option_map (cut_and_padded place) old → IfSome mid (λ b. below (length b) new ≡ Some b) → KeepsBelow place old new
kept_below None mid new place w is h = tt
kept_below (Some b) mid new place w is h = by new (subst (λ o. IfSome o (λ x. below (length x) new ≡ Some x)) is h)
  where
    by : (o : Option (List ℕ)) → below (length (cut_and_padded place b)) o ≡ Some (cut_and_padded place b) → below place o ≡ Some (take place b)
    by None k = cc
    by (Some y) k = let same : take (length (cut_and_padded place b)) y ≡ cut_and_padded place b = cc in ap (λ z. Some z) (below_padded b y place w same)

written_behind : (old mid new : Option (List ℕ)) (place : ℕ) (bytes : List ℕ) → mid ≡ option_map (cut_and_padded place) old → IfSome mid (λ b. new ≡ Some (b ++ bytes)) → IfSome old (λ b. new ≡ Some (cut_and_padded place b ++ bytes))
written_behind None mid new place bytes is h = tt
written_behind (Some b) mid new place bytes is h = subst (λ o. IfSome o (λ x. new ≡ Some (x ++ bytes))) is h

pub is_written : (old mid new : Option (List ℕ)) (end : ℕ) (asked : WriteOptions) (m : FileMetadata) (c : FileCore) (chunks : List EncodedChunk) → IsAppending old mid end asked m c → EndsDisk mid new c chunks → IsWritten old new asked m chunks
is_written old mid new end asked m c chunks a e = record {
  place = a.place;
  core = c;
  continued = a.continued;
  goes_on = a.means;
  last = e.last;
  given = e.given;
  ending = e.ending;
  ends = e.ends;
  means = e.means;
  content = written_behind old mid new a.place (flat_map chunk_bytes chunks ++ e.ending) a.cut e.content;
}

pub stops_writing : (old mid new : Option (List ℕ)) (end : ℕ) (e : IpcError) (asked : WriteOptions) (m : FileMetadata) (c : FileCore) (chunks : List EncodedChunk) (f g h : ℕ) → IsSize old m.size → f ≤ g → IsAppending old mid end asked m c → StopsOnDisk mid new e c chunks g h
    → WritesNot old new e asked m chunks f h
stops_writing old mid new end e asked m c chunks f g h s less a k = inr (inr (record {
  place = a.place;
  core = c;
  continued = a.continued;
  stops = k.stops;
  kept = kept_below old mid new a.place (lies_within old asked m a.place s a.continued.is_cut) a.cut k.kept;
  cause = cause_later e f g h less k.cause;
}))

pub does_not_go_on : (old new : Option (List ℕ)) (e : IpcError) (asked : WriteOptions) (m : FileMetadata) (chunks : List EncodedChunk) (f h : ℕ) → DoesNotAppend old new e asked m f h → WritesNot old new e asked m chunks f h
does_not_go_on old new e asked m chunks f h (inl k) = inl k
does_not_go_on old new e asked m chunks f h (inr k) = inr (inl k)

-- ── since an earlier count of faults ──

stops_since : (content : Option (List ℕ)) (e : IpcError) (asked : WriteOptions) (m : FileMetadata) (f g h : ℕ) → f ≤ g → StopsBefore content e asked m g h → StopsBefore content e asked m f h
stops_since content e asked m f g h less (inl k) = inl k
stops_since content e asked m f g h less (inr (inl k)) = inr (inl k)
stops_since content e asked m f g h less (inr (inr (inl k))) = inr (inr (inl (record { place = k.place; is_cut = k.is_cut; cause = cause_since e f g h less k.cause; refused = k.refused })))
stops_since content e asked m f g h less (inr (inr (inr k))) = inr (inr (inr k))

cut_since : (e : IpcError) (f g h : ℕ) → f ≤ g → ((e ≡ errors.WriteFault) × Rose g h) ⊎ (e ≡ errors.Memory) → ((e ≡ errors.WriteFault) × Rose f h) ⊎ (e ≡ errors.Memory)
cut_since e f g h less (inl k) = inl (k.0, omega (arith, less, k.1))
cut_since e f g h less (inr k) = inr k

-- ── a stream ──

module _ (old mid new : Option (List ℕ)) (asked : WriteOptions) (s : WholeStream) (m : FileMetadata) (chunks : List EncodedChunk) (same : mid ≡ old) (p : IsPrepared old asked s m chunks) where
  pub is_appended : IsWritten mid new asked m chunks → IsAppended old new asked s
  is_appended w =
      let written = subst (λ o. IsWritten o new asked m chunks) same w in
      record { file = m; chunks = chunks; prepared = p; written = written; means = λ b t is before. appended_means old new asked s m chunks p written b t is before }

  pub not_appended : (e : IpcError) (f g h : ℕ) → f ≤ g → WritesNot mid new e asked m chunks g h → IsNotAppended old new e asked s f h
  not_appended e f g h less w = by (subst (λ o. WritesNot o new e asked m chunks g h) same w)
    where
      by : WritesNot old new e asked m chunks g h → IsNotAppended old new e asked s f h
      by (inl k) = inl (inr (record { file = m; chunks = chunks; prepared = p; stops = stops_since old e asked m f g h less k.0 }), k.1)
      by (inr (inl k)) = inr (inl (record { file = m; chunks = chunks; prepared = p; fails = record { place = k.place; core = k.core; continued = k.continued; kept = k.kept; cause = cut_since e f g h less k.cause } }))
      by (inr (inr k)) = inr (inr (record { file = m; chunks = chunks; prepared = p; stops = record { place = k.place; core = k.core; continued = k.continued; stops = k.stops; kept = k.kept; cause = cause_later e f g h less k.cause } }))

pub stops_all : {X E : Type 0} (r : Result X E) (content_of : E → Option (List ℕ)) (faults_of : E → ℕ) (error_of : E → IpcError) (old mid : Option (List ℕ)) (end : ℕ) (asked : WriteOptions) (m : FileMetadata) (c : FileCore) (xs chunks : List EncodedChunk) (f g : ℕ) → xs ≡ chunks → IsSize old m.size → f ≤ g
    → IsAppending old mid end asked m c → IfErr r (λ x. StopsOnDisk mid (content_of x) (error_of x) c xs g (faults_of x)) → IfErr r (λ x. WritesNot old (content_of x) (error_of x) asked m chunks f (faults_of x))
stops_all (Ok x) content_of faults_of error_of old mid end asked m c xs chunks f g are s less a k = tt
stops_all (Err x) content_of faults_of error_of old mid end asked m c xs chunks f g are s less a k =
    stops_writing old mid (content_of x) end (error_of x) asked m c chunks f g (faults_of x) s less a (subst (λ ys. StopsOnDisk mid (content_of x) (error_of x) c ys g (faults_of x)) are k)

pub written_all : {X E : Type 0} (r : Result X E) (content_of : X → Option (List ℕ)) (old mid : Option (List ℕ)) (end : ℕ) (asked : WriteOptions) (m : FileMetadata) (c : FileCore) (xs chunks : List EncodedChunk) → xs ≡ chunks → IsAppending old mid end asked m c → IfOk r (λ x. EndsDisk mid (content_of x) c xs)
    → IfOk r (λ x. IsWritten old (content_of x) asked m chunks)
written_all (Ok x) content_of old mid end asked m c xs chunks are a k = is_written old mid (content_of x) end asked m c chunks a (subst (EndsDisk mid (content_of x) c) are k)
written_all (Err x) content_of old mid end asked m c xs chunks are a k = tt

pub faults_since : {X E : Type 0} (r : Result X E) (of_ok : X → ℕ) (of_err : E → ℕ) (f n g : ℕ) → f ≤ g → n ≡ g → MatchResult r (λ x. n ≤ of_ok x) (λ x. n ≤ of_err x) → MatchResult r (λ x. f ≤ of_ok x) (λ x. f ≤ of_err x)
faults_since (Ok x) of_ok of_err f n g less same h = omega (arith, less, same, h)
faults_since (Err x) of_ok of_err f n g less same h = omega (arith, less, same, h)

pub counts_of : (m : Moved) (w : Result (Unit {0}) IpcError) (c d : FileCore) (chunks : List EncodedChunk) → EndsFile m w c d chunks → m.faults ≤ m.faults_now
counts_of m (Ok tt) c d chunks h = h.counts.faults
counts_of m (Err e) c d chunks h = h.1.counts.faults

pub appended_at : (old mid new there : Option (List ℕ)) (asked : WriteOptions) (s : WholeStream) (m : FileMetadata) (chunks : List EncodedChunk) → mid ≡ old → IsPrepared old asked s m chunks → there ≡ new → IsWritten mid new asked m chunks → IsAppended old there asked s
appended_at old mid new there asked s m chunks same p at w = subst (λ o. IsAppended old o asked s) (sym at) (is_appended old mid new asked s m chunks same p w)

pub not_appended_at : (old mid new there : Option (List ℕ)) (asked : WriteOptions) (s : WholeStream) (m : FileMetadata) (chunks : List EncodedChunk) (e : IpcError) (f g h k : ℕ) → mid ≡ old → IsPrepared old asked s m chunks → there ≡ new → k ≡ h → f ≤ g → WritesNot mid new e asked m chunks g h
    → IsNotAppended old there e asked s f k
not_appended_at old mid new there asked s m chunks e f g h k same p at count less w =
    subst (λ n. IsNotAppended old there e asked s f n) (sym count) (subst (λ o. IsNotAppended old o e asked s f h) (sym at) (not_appended old mid new asked s m chunks same p e f g h less w))
