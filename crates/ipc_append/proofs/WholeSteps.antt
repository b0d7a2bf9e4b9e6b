-- A stream that is read to its end, one batch after another.
use Rattle.std.proofs.Common.{◌≡◌, ◌∙◌, ◌⊎◌, inl, inr, ℕ, List, [], ◌∷◌, ◌++◌, map, All, true, false, Option, Some, None, Result, Ok, Err, IfErr, IfOk, IfSome, refl, sym, ap, subst, append-nil, arith, Vec, Global}
use Rattle.std.proofs.lemmas.List.Elements.{All-push}
use Rattle.std.specs.Rc.{rc_value}
use Rattle.std.specs.Result.{IsErrAnd}
use Rattle.arrow_spec.specs.declared.error.IpcError.{IpcError}
use Rattle.arrow_spec.specs.declared.error.IpcError.TheVariants.{Memory}
use Rattle.arrow_spec.specs.Arrays.{Dictionaries}
use Rattle.arrow_spec.specs.Files.{TableBatch, columns_right}
use Rattle.arrow_spec.specs.Kinds.{bare}
use Rattle.arrow_spec.specs.Readings.{Refuses, refusals}
use Rattle.arrow_spec.specs.Schema.{Schema}
use Rattle.arrow_spec.specs.Streams.{Reader, stream_reading}
use Rattle.arrow_arrays.specs.Batches.{Batch}
use Rattle.arrow_arrays.specs.Parts.{Parts}
use Rattle.arrow_types.specs.Schemas.{Keyed, fields_in}
use Rattle.ipc_append.proofs.Handed.{handed}
use Rattle.ipc_streams.specs.Below.{FileCause, HasFields, schema_shown, MayProject, ProjectionInfo, table_of, Held, held_in, HoldsCells, none_held}
use Rattle.ipc_streams.proofs.Below.{holds_none}
use Rattle.ipc_streams.specs.Arrays.{NextArrays, StreamArrays, arrays_of}
use Rattle.ipc_streams.specs.Arrays as steps
use Rattle.ipc_streams.specs.Feeds.{FeedKept}
use Rattle.ipc_streams.specs.Nexts.{GivesNext, NextState, answer_of}
use Rattle.ipc_streams.specs.Readers.{IsReader, fields_shown}
use Rattle.ipc_streams.specs.Starts.{GivesStart, Start, start_view, stream_schema}
use Rattle.ipc_streams.specs.Steps.{Nexts, most_dictionaries, next_in, none_left, none_yet, one_more}
use Rattle.ipc_streams.specs.declared.columns.StreamColumns.{StreamColumns}
use Rattle.ipc_streams.specs.declared.cursor.StreamCursor.{StreamCursor}
use Rattle.ipc_streams.specs.declared.metadata.StreamMetadata.{StreamMetadata}
use Rattle.ipc_streams.specs.declared.state.StreamState.{StreamState}
use Rattle.ipc_streams.specs.declared.state.StreamState.TheVariants as states
use Rattle.ipc_streams.proofs.StreamLaws.{nexts_are_the_stream}
use Rattle.ipc_streams.proofs.TakenCalls.{cause_since}
use Rattle.ipc_append.specs.Wholes.{AllOf, ArraysGiven, EachGiven, FailsBehind, GivesEach, GivesMore, IsWhole, NextGiven, RefusesStream, StopsBehind, all_columns, batch_found, reader_of, stops_here, stops_later}
use Rattle.ipc_append.specs.Columns.{are_of}
use Rattle.same_fields.proofs.BareKinds.{fields_with_bare}
use Rattle.ipc_append.proofs.StreamKinds.{batches_of}
use Rattle.ipc_append.proofs.StreamRefusals.{start_refuses, stream_stops}

-- ── the next batch ──

module _ {F : Type 0} (rest_of : F → Option (List ℕ)) (faults_of : F → ℕ) (references_of : F → List ℕ) (f f' : F) (c c' : StreamCursor) (going : c.is_finished ≡ false) (all : IsReader c.columns (all_columns c.columns)) where
  told : (answer : Option (Result StreamState IpcError)) (o : Option (List ℕ)) (result : Result (Option Batch) IpcError) (d : Dictionaries)
      → ((b : List ℕ) → GivesNext (rest_of f') (held_in c'.dictionaries) (answer_of answer) (next_in most_dictionaries (all_columns c.columns) d b) → NextGiven (all_columns c.columns) d b (rest_of f') c' result)
      → IfSome o (λ b. GivesNext (rest_of f') (held_in c'.dictionaries) (answer_of answer) (next_in most_dictionaries (all_columns c.columns) d b)) → IfSome o (λ b. NextGiven (all_columns c.columns) d b (rest_of f') c' result)
  told answer None result d k h = tt
  told answer (Some b) result d k h = k b h

  pub next_ends : NextState rest_of faults_of references_of f f' c c' None → GivesMore (rest_of f) (rest_of f') c c' (Ok None)
  next_ends n = record {
    gives = λ d h. told None (rest_of f) (Ok None) d (λ b g. none_left g.2) (n.gives going (all_columns c.columns) d all h);
    arrays = λ d h. n.arrays going (all_columns c.columns) d all h;
    fields = tt;
    more = tt;
    columns = n.columns;
  }

  pub next_state : (state : StreamState) → NextState rest_of faults_of references_of f f' c c' (Some (Ok state)) → GivesMore (rest_of f) (rest_of f') c c' (Ok (batch_found state))
  next_state states.Waiting n = record {
    gives = λ d h. told (Some (Ok states.Waiting)) (rest_of f) (Ok None) d (λ b g. none_yet g.2) (n.gives going (all_columns c.columns) d all h);
    arrays = λ d h. n.arrays going (all_columns c.columns) d all h;
    fields = tt;
    more = tt;
    columns = n.columns;
  }
  next_state (states.Some x) n = record {
    gives = λ d h. told (Some (Ok (states.Some x))) (rest_of f) (Ok (Some x)) d (λ b g. g) (n.gives going (all_columns c.columns) d all h);
    arrays = λ d h. n.arrays going (all_columns c.columns) d all h;
    fields = n.schema (all_columns c.columns) all;
    more = n.is_finished;
    columns = n.columns;
  }

  pub next_refused : (e : IpcError) → NextState rest_of faults_of references_of f f' c c' (Some (Err e)) → GivesMore (rest_of f) (rest_of f') c c' (Err e)
  next_refused e n = record {
    gives = λ d h. told (Some (Err e)) (rest_of f) (Err e) d (λ b g. g) (n.gives going (all_columns c.columns) d all h);
    arrays = λ d h. tt;
    fields = tt;
    more = tt;
    columns = n.columns;
  }

  pub state_is : (answer : Result StreamState IpcError) (state : StreamState) (found : Option Batch) → answer ≡ Ok state → found ≡ batch_found state → NextState rest_of faults_of references_of f f' c c' (Some answer) → GivesMore (rest_of f) (rest_of f') c c' (Ok found)
  state_is answer state found was is n = subst (λ o. GivesMore (rest_of f) (rest_of f') c c' (Ok o)) (sym is) (next_state state (subst (λ a. NextState rest_of faults_of references_of f f' c c' (Some a)) was n))

  pub error_is : (answer : Result StreamState IpcError) (e : IpcError) (r : Result (Option Batch) IpcError) → answer ≡ Err e → IsErrAnd r (λ x. x ≡ e) → NextState rest_of faults_of references_of f f' c c' (Some answer) → GivesMore (rest_of f) (rest_of f') c c' r
  error_is answer e r was is n = handed (λ x. GivesMore (rest_of f) (rest_of f') c c' x) r e is (next_refused e (subst (λ a. NextState rest_of faults_of references_of f f' c c' (Some a)) was n))

-- ── the batches so far ──

-- the batches that were read stand in front, and the others behind them
pub record IsBehind (s : Reader) (d : Dictionaries) (h : Held) (b : List ℕ) (rest' : Option (List ℕ)) (c' : StreamCursor) (xs : List Batch) : Type 0 where
  pub dictionaries : Dictionaries
  pub bytes : List ℕ
  pub told : rest' ≡ Some bytes
  pub holds : HoldsCells dictionaries (held_in c'.dictionaries)
  pub nexts : (ys : List TableBatch) → Nexts s dictionaries bytes ys → Nexts s d b (map table_of xs ++ ys)
  pub stops : (e : IpcError) (ys : List TableBatch) → StopsBehind s e dictionaries bytes ys → StopsBehind s e d b (map table_of xs ++ ys)
  pub arrays : (ys : List (List Parts)) → StreamArrays s (held_in c'.dictionaries) bytes ys → StreamArrays s h b (arrays_of xs ++ ys)

pub record AreFront (rest rest' : Option (List ℕ)) (c c' : StreamCursor) (xs : List Batch) : Type 0 where
  pub reached : (d : Dictionaries) → HoldsCells d (held_in c.dictionaries) → IfSome rest (λ b. IsBehind (all_columns c.columns) d (held_in c.dictionaries) b rest' c' xs)
  pub fields : All (λ (x : Batch). HasFields x (fields_shown c.columns)) xs
  pub columns : c'.columns ≡ c.columns
  pub more : c'.is_finished ≡ false

pub none_read : (rest : Option (List ℕ)) (c : StreamCursor) → c.is_finished ≡ false → AreFront rest rest c c []
none_read rest c going = record { reached = by rest; fields = λ k x h. absurd (omega arith); columns = refl; more = going }
  where
    by : (o : Option (List ℕ)) (d : Dictionaries) → HoldsCells d (held_in c.dictionaries) → IfSome o (λ b. IsBehind (all_columns c.columns) d (held_in c.dictionaries) b o c [])
    by None d h = tt
    by (Some b) d h = record { dictionaries = d; bytes = b; told = refl; holds = h; nexts = λ ys n. n; stops = λ e ys n. n; arrays = λ ys n. n }

front_more : (xs : List Batch) (x : Batch) (ys : List TableBatch) → map table_of xs ++ (table_of x ∷ ys) ≡ map table_of (xs ++ x ∷ []) ++ ys
front_more [] x ys = refl
front_more (z ∷ zs) x ys = ap (λ (t : List TableBatch). table_of z ∷ t) (front_more zs x ys)

arrays_more : (xs : List Batch) (x : Batch) (ys : List (List Parts)) → arrays_of xs ++ (x.arrays ∷ ys) ≡ arrays_of (xs ++ x ∷ []) ++ ys
arrays_more [] x ys = refl
arrays_more (z ∷ zs) x ys = ap (λ (t : List (List Parts)). z.arrays ∷ t) (arrays_more zs x ys)

-- one batch more
behind_more : (s : Reader) (d : Dictionaries) (h : Held) (b : List ℕ) (mid : Option (List ℕ)) (c' c'' : StreamCursor) (rest' : Option (List ℕ)) (xs : List Batch) (x : Batch) → IsBehind s d h b mid c' xs
    → ((e : Dictionaries) → HoldsCells e (held_in c'.dictionaries) → IfSome mid (λ bytes. NextGiven s e bytes rest' c'' (Ok (Some x))))
    → ((e : Dictionaries) → HoldsCells e (held_in c'.dictionaries) → IfSome mid (λ bytes. ArraysGiven s (held_in c'.dictionaries) bytes rest' (held_in c''.dictionaries) (Some x))) → IsBehind s d h b rest' c'' (xs ++ x ∷ [])
behind_more s d h b mid c' c'' rest' xs x i next arrays =
    let here : NextGiven s i.dictionaries i.bytes rest' c'' (Ok (Some x)) = subst (λ o. IfSome o (λ bytes. NextGiven s i.dictionaries bytes rest' c'' (Ok (Some x)))) i.told (next i.dictionaries i.holds) in
    let parts : ArraysGiven s (held_in c'.dictionaries) i.bytes rest' (held_in c''.dictionaries) (Some x) = subst (λ o. IfSome o (λ bytes. ArraysGiven s (held_in c'.dictionaries) bytes rest' (held_in c''.dictionaries) (Some x))) i.told (arrays i.dictionaries i.holds) in
    let both : Some parts.0 ≡ Some here.1 = sym parts.1 ∙ here.3 in
    let one : parts.0 ≡ here.1 = cc in
    record {
      dictionaries = here.0;
      bytes = here.1;
      told = here.3;
      holds = here.4;
      nexts = λ ys n. subst (Nexts s d b) (front_more xs x ys) (i.nexts (table_of x ∷ ys) (one_more here.2 n));
      stops = λ e ys n. subst (StopsBehind s e d b) (front_more xs x ys) (i.stops e (table_of x ∷ ys) (stops_later here.2 n));
      arrays = λ ys n. subst (StreamArrays s h b) (arrays_more xs x ys) (i.arrays (x.arrays ∷ ys) (steps.one_more parts.2 (subst (λ r. StreamArrays s (held_in c''.dictionaries) r ys) (sym one) n)));
    }

pub one_read : (rest mid rest' : Option (List ℕ)) (c c' c'' : StreamCursor) (xs : List Batch) (x : Batch) → AreFront rest mid c c' xs → GivesMore mid rest' c' c'' (Ok (Some x)) → AreFront rest rest' c c'' (xs ++ x ∷ [])
one_read rest mid rest' c c' c'' xs x a g = record {
  reached = λ d h. by rest d (a.reached d h);
  fields = All-push (λ (y : Batch). HasFields y (fields_shown c.columns)) xs x a.fields (subst (λ (s : StreamColumns). HasFields x (fields_shown s)) a.columns g.fields);
  columns = g.columns ∙ a.columns;
  more = g.more;
}
  where
    by : (o : Option (List ℕ)) (d : Dictionaries) → IfSome o (λ b. IsBehind (all_columns c.columns) d (held_in c.dictionaries) b mid c' xs) → IfSome o (λ b. IsBehind (all_columns c.columns) d (held_in c.dictionaries) b rest' c'' (xs ++ x ∷ []))
    by None d i = tt
    by (Some b) d i = behind_more (all_columns c.columns) d (held_in c.dictionaries) b mid c' c'' rest' xs x i (λ e k. subst (λ (s : StreamColumns). IfSome mid (λ bytes. NextGiven (all_columns s) e bytes rest' c'' (Ok (Some x)))) a.columns (g.gives e k))
        (λ e k. subst (λ (s : StreamColumns). IfSome mid (λ bytes. ArraysGiven (all_columns s) (held_in c'.dictionaries) bytes rest' (held_in c''.dictionaries) (Some x))) a.columns (g.arrays e k))

-- nothing more
pub all_read : (rest mid rest' : Option (List ℕ)) (c c' c'' : StreamCursor) (v : Vec Batch Global) → AreFront rest mid c c' v.items → GivesMore mid rest' c' c'' (Ok None) → GivesEach rest c (Ok v)
all_read rest mid rest' c c' c'' v a g = record { gives = λ d h. by rest d (a.reached d h); arrays = λ d h. arrays_by rest d (a.reached d h); fields = a.fields }
  where
    arrays_by : (o : Option (List ℕ)) (d : Dictionaries) → IfSome o (λ b. IsBehind (all_columns c.columns) d (held_in c.dictionaries) b mid c' v.items) → IfSome o (λ b. StreamArrays (all_columns c.columns) (held_in c.dictionaries) b (arrays_of v.items))
    arrays_by None d i = tt
    arrays_by (Some b) d i =
        let next : IfSome mid (λ bytes. NextArrays (all_columns c.columns) (held_in c'.dictionaries) bytes (held_in c''.dictionaries) None) = subst (λ (s : StreamColumns). IfSome mid (λ bytes. NextArrays (all_columns s) (held_in c'.dictionaries) bytes (held_in c''.dictionaries) None)) a.columns (g.arrays i.dictionaries i.holds) in
        let here : NextArrays (all_columns c.columns) (held_in c'.dictionaries) i.bytes (held_in c''.dictionaries) None = subst (λ o. IfSome o (λ bytes. NextArrays (all_columns c.columns) (held_in c'.dictionaries) bytes (held_in c''.dictionaries) None)) i.told next in
        subst (StreamArrays (all_columns c.columns) (held_in c.dictionaries) b) (append-nil (arrays_of v.items)) (i.arrays [] (steps.none_left here))

    by : (o : Option (List ℕ)) (d : Dictionaries) → IfSome o (λ b. IsBehind (all_columns c.columns) d (held_in c.dictionaries) b mid c' v.items) → IfSome o (λ b. EachGiven (all_columns c.columns) d b (Ok v))
    by None d i = tt
    by (Some b) d i =
        let next : IfSome mid (λ bytes. Nexts (all_columns c.columns) i.dictionaries bytes []) = subst (λ (s : StreamColumns). IfSome mid (λ bytes. Nexts (all_columns s) i.dictionaries bytes [])) a.columns (g.gives i.dictionaries i.holds) in
        let here : Nexts (all_columns c.columns) i.dictionaries i.bytes [] = subst (λ o. IfSome o (λ bytes. Nexts (all_columns c.columns) i.dictionaries bytes [])) i.told next in
        subst (Nexts (all_columns c.columns) d b) (append-nil (map table_of v.items)) (i.nexts [] here)

-- or a refusal
pub read_stops : (rest mid rest' : Option (List ℕ)) (c c' c'' : StreamCursor) (xs : List Batch) (e : IpcError) → AreFront rest mid c c' xs → GivesMore mid rest' c' c'' (Err e) → GivesEach rest c (Err e)
read_stops rest mid rest' c c' c'' xs e a g = record { gives = λ d h. by rest d (a.reached d h); arrays = λ d h. tt; fields = tt }
  where
    by : (o : Option (List ℕ)) (d : Dictionaries) → IfSome o (λ b. IsBehind (all_columns c.columns) d (held_in c.dictionaries) b mid c' xs) → IfSome o (λ b. EachGiven (all_columns c.columns) d b (Err e))
    by None d i = tt
    by (Some b) d i =
        let next : IfSome mid (λ bytes. Refuses e (refusals (next_in most_dictionaries (all_columns c.columns) i.dictionaries bytes))) =
        subst (λ (s : StreamColumns). IfSome mid (λ bytes. Refuses e (refusals (next_in most_dictionaries (all_columns s) i.dictionaries bytes)))) a.columns (g.gives i.dictionaries i.holds) in
        let here : Refuses e (refusals (next_in most_dictionaries (all_columns c.columns) i.dictionaries i.bytes)) = subst (λ o. IfSome o (λ bytes. Refuses e (refusals (next_in most_dictionaries (all_columns c.columns) i.dictionaries bytes)))) i.told next in
        (map table_of xs ++ [], i.stops e [] (stops_here here))

pub read_refused : (rest mid rest' : Option (List ℕ)) (c c' c'' : StreamCursor) (xs : List Batch) (e : IpcError) (r : Result (Vec Batch Global) IpcError) → IsErrAnd r (λ x. x ≡ e) → AreFront rest mid c c' xs → GivesMore mid rest' c' c'' (Err e) → GivesEach rest c r
read_refused rest mid rest' c c' c'' xs e r is a g = handed (λ x. GivesEach rest c x) r e is (read_stops rest mid rest' c c' c'' xs e a g)

-- want of memory comes anywhere
pub memory_wanted : (rest : Option (List ℕ)) (c : StreamCursor) → GivesEach rest c (Err Memory)
memory_wanted rest c = record { gives = λ d h. by rest d; arrays = λ d h. tt; fields = tt }
  where
    by : (o : Option (List ℕ)) (d : Dictionaries) → IfSome o (λ b. EachGiven (all_columns c.columns) d b (Err Memory))
    by None d = tt
    by (Some b) d = ([], stops_here tt)

pub memory_handed : (rest : Option (List ℕ)) (c : StreamCursor) (e : IpcError) (r : Result (Vec Batch Global) IpcError) → IsErrAnd r (λ x. x ≡ e) → e ≡ Memory → GivesEach rest c r
memory_handed rest c e r is memory = handed (λ x. GivesEach rest c x) r e is (subst (λ x. GivesEach rest c (Err x)) (sym memory) (memory_wanted rest c))

-- ── a reader that was made ──

pub reads_all : (m : StreamMetadata) (c : StreamColumns) → c.metadata ≡ m → MayProject (rc_value m.schema) None c.projection → IsReader c (all_columns c)
reads_all m c is p = record { schema = refl; columns = subst (λ (x : StreamMetadata). MayProject (rc_value x.schema) None c.projection) (sym is) p }

shown : (s : List Keyed) (p : Option ProjectionInfo) → MayProject s None p → schema_shown s p ≡ s
shown s None h = refl
shown s (Some p) h = absurd h

pub all_of : (rest : Option (List ℕ)) (m : StreamMetadata) (c : StreamCursor) (result : Result (Vec Batch Global) IpcError) → c.columns.metadata ≡ m → MayProject (rc_value m.schema) None c.columns.projection → held_in c.dictionaries ≡ none_held
    → GivesEach rest c result → AllOf rest (stream_schema m) (rc_value m.schema) result
all_of rest m c result is p none g = record {
  gives = subst (λ (x : StreamMetadata). IfSome rest (λ b. EachGiven (reader_of (stream_schema x)) [] b result)) is (g.gives [] (subst (HoldsCells []) (sym none) holds_none));
  arrays = subst (λ (x : StreamMetadata). IfOk result (λ v. IfSome rest (λ b. StreamArrays (reader_of (stream_schema x)) none_held b (arrays_of v.items)))) is
      (subst (λ (h : Held). IfOk result (λ v. IfSome rest (λ b. StreamArrays (all_columns c.columns) h b (arrays_of v.items)))) none (g.arrays [] (subst (HoldsCells []) (sym none) holds_none)));
  fields = subst (λ (s : List Keyed). IfOk result (λ v. All (λ (x : Batch). HasFields x s) v.items)) (shown_is ∙ ap (λ (x : StreamMetadata). rc_value x.schema) is) g.fields;
}
  where
    shown_is : fields_shown c.columns ≡ rc_value c.columns.metadata.schema
    shown_is = shown (rc_value c.columns.metadata.schema) c.columns.projection (subst (λ (x : StreamMetadata). MayProject (rc_value x.schema) None c.columns.projection) (sym is) p)

-- no numbers are refused
pub not_refused : (e : IpcError) (n : ℕ) → (e ≡ Memory) ⊎ (columns_right None n ≡ Err (e ∷ [])) → e ≡ Memory
not_refused e n (inl h) = h
not_refused e n (inr h) = cc

pub wanted_of : (rest : Option (List ℕ)) (schema : Schema) (s : List Keyed) (e : IpcError) → e ≡ Memory → AllOf rest schema s (Err e)
wanted_of rest schema s e is = record { gives = by rest; arrays = tt; fields = tt }
  where
    by : (o : Option (List ℕ)) → IfSome o (λ b. EachGiven (reader_of schema) [] b (Err e))
    by None = tt
    by (Some b) = ([], stops_here (subst (λ x. Refuses x (refusals (next_in most_dictionaries (reader_of schema) [] b))) (sym is) tt))

-- ── the whole stream ──

-- the columns of its batches are of the kinds of its fields
pub has_kinds : (rest : Option (List ℕ)) (schema : Schema) (m copy : StreamMetadata) (v : Vec Batch Global) → rc_value copy.schema ≡ rc_value m.schema → AllOf rest schema (rc_value copy.schema) (Ok v) → are_of (fields_in (rc_value m.schema)) v.items ≡ true
has_kinds rest schema m copy v same a = subst (λ (s : List Keyed). are_of (fields_in s) v.items ≡ true) same (batches_of (rc_value copy.schema) v.items a.fields)

pub is_whole : (rest mid : Option (List ℕ)) (m copy : StreamMetadata) (s : List Keyed) (v : Vec Batch Global) (kinds : are_of (fields_in (rc_value m.schema)) v.items ≡ true) → GivesStart rest mid (Ok m) → start_view copy ≡ start_view m → AllOf mid (stream_schema copy) s (Ok v)
    → IfSome rest (λ b. IsWhole b (record { metadata = m; batches = v; kinds = kinds }))
is_whole None mid m copy s v kinds start same a = tt
is_whole (Some b) mid m copy s v kinds start same a =
    let schema : stream_schema copy ≡ stream_schema m = ap (λ (x : Start). x.schema) same in
    let behind : IfSome mid (λ bytes. Nexts (reader_of (stream_schema m)) [] bytes (map table_of v.items)) = subst (λ (x : Schema). IfSome mid (λ bytes. Nexts (reader_of x) [] bytes (map table_of v.items))) schema a.gives in
    let nexts : Nexts (reader_of (stream_schema m)) [] start.0 (map table_of v.items) = subst (λ o. IfSome o (λ bytes. Nexts (reader_of (stream_schema m)) [] bytes (map table_of v.items))) start.2 behind in
    let parts : IfSome mid (λ bytes. StreamArrays (reader_of (stream_schema m)) none_held bytes (arrays_of v.items)) = subst (λ (x : Schema). IfSome mid (λ bytes. StreamArrays (reader_of x) none_held bytes (arrays_of v.items))) schema a.arrays in
    record {
      rest = start.0;
      begun = start.1;
      nexts = nexts;
      table = nexts_are_the_stream b None (start_view m) start.0 (map table_of v.items) start.1 refl nexts;
      arrays = subst (λ o. IfSome o (λ bytes. StreamArrays (reader_of (stream_schema m)) none_held bytes (arrays_of v.items))) start.2 parts;
    }

pub has_fields : (m copy : StreamMetadata) (rest : Option (List ℕ)) (schema : Schema) (v : Vec Batch Global) → start_view copy ≡ start_view m → AllOf rest schema (rc_value copy.schema) (Ok v) → All (λ (x : Batch). bare (fields_in x.schema) ≡ bare (stream_schema m).fields) v.items
has_fields m copy rest schema v same a k d h =
    ap (λ (s : List Keyed). bare (fields_in s)) (a.fields k d h).schema ∙ sym (fields_with_bare (fields_in (rc_value copy.schema)) _) ∙ ap (λ (x : Start). bare x.schema.fields) same

pub start_stops : (rest mid : Option (List ℕ)) (e : IpcError) → GivesStart rest mid (Err e) → IfSome rest (λ b. RefusesStream e b)
start_stops None mid e h = tt
start_stops (Some b) mid e h = inl (start_refuses e b h)

pub memory_stops : (rest : Option (List ℕ)) (e : IpcError) → e ≡ Memory → IfSome rest (λ b. RefusesStream e b)
memory_stops None e is = tt
memory_stops (Some b) e is = inl (subst (λ x. Refuses x (refusals (stream_reading b None))) (sym is) tt)

pub batches_stop : (rest mid : Option (List ℕ)) (m copy : StreamMetadata) (s : List Keyed) (e : IpcError) → GivesStart rest mid (Ok m) → start_view copy ≡ start_view m → AllOf mid (stream_schema copy) s (Err e) → IfSome rest (λ b. RefusesStream e b)
batches_stop None mid m copy s e start same a = tt
batches_stop (Some b) mid m copy s e start same a =
    let schema : stream_schema copy ≡ stream_schema m = ap (λ (x : Start). x.schema) same in
    let behind : IfSome mid (λ bytes. (xs : List TableBatch) × StopsBehind (reader_of (stream_schema m)) e [] bytes xs) = subst (λ (x : Schema). IfSome mid (λ bytes. (xs : List TableBatch) × StopsBehind (reader_of x) e [] bytes xs)) schema a.gives in
    let here : (xs : List TableBatch) × StopsBehind (reader_of (stream_schema m)) e [] start.0 xs = subst (λ o. IfSome o (λ bytes. (xs : List TableBatch) × StopsBehind (reader_of (stream_schema m)) e [] bytes xs)) start.2 behind in
    stream_stops e b (start_view m) start.0 here.0 start.1 here.1

-- ── as the calls say it ──

pub none_read_of : (rest : Option (List ℕ)) (c : StreamCursor) (xs : List Batch) → xs ≡ [] → c.is_finished ≡ false → AreFront rest rest c c xs
none_read_of rest c xs is going = subst (AreFront rest rest c c) (sym is) (none_read rest c going)

pub one_read_of : (rest mid rest' : Option (List ℕ)) (c c' c'' : StreamCursor) (xs xs' : List Batch) (o : Option Batch) (x : Batch) → o ≡ Some x → xs' ≡ xs ++ x ∷ [] → AreFront rest mid c c' xs → GivesMore mid rest' c' c'' (Ok o) → AreFront rest rest' c c'' xs'
one_read_of rest mid rest' c c' c'' xs xs' o x is grown a g = subst (AreFront rest rest' c c'') (sym grown) (one_read rest mid rest' c c' c'' xs x a (subst (λ p. GivesMore mid rest' c' c'' (Ok p)) is g))

pub all_read_of : (rest mid rest' : Option (List ℕ)) (c c' c'' : StreamCursor) (v : Vec Batch Global) (o : Option Batch) → o ≡ None → AreFront rest mid c c' v.items → GivesMore mid rest' c' c'' (Ok o) → GivesEach rest c (Ok v)
all_read_of rest mid rest' c c' c'' v o is a g = all_read rest mid rest' c c' c'' v a (subst (λ p. GivesMore mid rest' c' c'' (Ok p)) is g)

pub none_kept : {F : Type 0} (faults_of : F → ℕ) (references_of : F → List ℕ) (f : F) → FeedKept faults_of references_of f f
none_kept faults_of references_of f = record { faults = omega arith; references = refl }

pub kept_since : {F : Type 0} (faults_of : F → ℕ) (references_of : F → List ℕ) (f g h : F) → FeedKept faults_of references_of f g → FeedKept faults_of references_of g h → FeedKept faults_of references_of f h
kept_since faults_of references_of f g h k l = record { faults = omega (arith, k.faults, l.faults); references = l.references ∙ k.references }

pub all_behind : (rest rest' : Option (List ℕ)) (m : StreamMetadata) (c : StreamCursor) (result : Result (Vec Batch Global) IpcError) → rest' ≡ rest → c.columns.metadata ≡ m → MayProject (rc_value m.schema) None c.columns.projection → held_in c.dictionaries ≡ none_held
    → GivesEach rest' c result → AllOf rest (stream_schema m) (rc_value m.schema) result
all_behind rest rest' m c result same is p none g = all_of rest m c result is p none (subst (λ o. GivesEach o c result) same g)

-- ── causes ──

pub fails_of : {F : Type 0} (faults_of : F → ℕ) (references_of : F → List ℕ) (f g h : F) (result : Result (Vec Batch Global) IpcError) → g ≡ f → FeedKept faults_of references_of g h → IfErr result (λ e. FileCause e (faults_of g) (faults_of h))
    → IfErr result (λ e. FailsBehind faults_of references_of f e)
fails_of faults_of references_of f g h (Ok v) same k c = tt
fails_of faults_of references_of f g h (Err e) same k c = subst (λ x. FailsBehind faults_of references_of x e) same (record { behind = h; kept = k; cause = c })

pub wants_memory : {F : Type 0} (faults_of : F → ℕ) (references_of : F → List ℕ) (f : F) (e : IpcError) → e ≡ Memory → FailsBehind faults_of references_of f e
wants_memory faults_of references_of f e is = subst (λ x. FailsBehind faults_of references_of f x) (sym is) (record { behind = f; kept = none_kept faults_of references_of f; cause = tt })

pub fails_later : {F : Type 0} (faults_of : F → ℕ) (references_of : F → List ℕ) (f g : F) (e : IpcError) → FeedKept faults_of references_of f g → FailsBehind faults_of references_of g e → FailsBehind faults_of references_of f e
fails_later faults_of references_of f g e k h =
    record { behind = h.behind; kept = kept_since faults_of references_of f g h.behind k h.kept; cause = cause_since e (faults_of f) (faults_of g) (faults_of h.behind) k.faults h.cause }
