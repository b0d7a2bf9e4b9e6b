-- What a stream begins with: its first message, what that says, and its body.
use Rattle.std.proofs.Common.{◌≡◌, ◌∙◌, ℕ, ◌<◌, ◌≤◌, List, length, drop, false, Option, Some, None, Result, Ok, Err, refl, sym, ap, subst, arith, inl, length-take, Vec, Global}
use Rattle.std.specs.Prelude.{nat_le}
use Rattle.std.proofs.lemmas.Bool.{le-leb, lt-leb}
use Rattle.arrow_spec.specs.declared.error.IpcError.{IpcError}
use Rattle.arrow_spec.specs.declared.error.IpcError.TheVariants.{OutOfSpec}
use Rattle.arrow_spec.specs.declared.error.OutOfSpecKind.TheVariants as kinds
use Rattle.arrow_spec.specs.Readings.{Reading, Refuses, bind, ◌>>=◌, only_if, refusals}
use Rattle.arrow_spec.specs.Streams.{body_in, first_message, next_message}
use Rattle.arrow_spec.proofs.Projection.{on}
use Rattle.ipc_fields.specs.Causes.{RefusesBytes}
use Rattle.ipc_fields.proofs.Steps.{refuses}
use Rattle.ipc_files.proofs.BlockMessages.{bind_ok, bind_twice, refused_first}
use Rattle.ipc_streams.specs.Bodies.{GivesBody}
use Rattle.ipc_streams.specs.Feeds.{Takes}
use Rattle.ipc_streams.specs.Frames.{GivesFront}
use Rattle.ipc_streams.specs.Starts.{GivesFirst, GivesStart, Start, head_in, head_view, start_in, start_view}
use Rattle.ipc_streams.specs.declared.body.HeldBody.{HeldBody}
use Rattle.ipc_streams.specs.declared.frame.Frame.{Frame}
use Rattle.ipc_streams.specs.declared.frame.Frame.TheVariants as frames
use Rattle.ipc_streams.specs.declared.metadata.Beginning.{Beginning}
use Rattle.ipc_streams.specs.declared.metadata.StreamMetadata.{StreamMetadata}

-- ── bodies ──

pub body_whole : (rest rest' : Option (List ℕ)) (n : ℕ) (body : HeldBody) → Takes rest rest' n body.bytes.items → n ≤ length body.bytes.items → GivesBody rest rest' n (Ok body)
body_whole None rest' n body took whole = tt
body_whole (Some b) rest' n body took whole = (le-leb _ _ (omega (arith, whole, ap length took.1, length-take n b)), took.1, took.0)

pub body_cut : (rest rest' : Option (List ℕ)) (n : ℕ) (items : List ℕ) → Takes rest rest' n items → length items < n → GivesBody rest rest' n (Err (OutOfSpec kinds.Truncated))
body_cut None rest' n items took short = tt
body_cut (Some b) rest' n items took short =
    let cut : nat_le n (length b) ≡ false = lt-leb _ _ (omega (arith, short, ap length took.1, length-take n b)) in
    subst (λ t. Refuses (OutOfSpec kinds.Truncated) (refusals (only_if t kinds.Truncated))) (sym cut) (inl refl)

pub body_not_read : (rest rest' : Option (List ℕ)) (n : ℕ) (r : Result HeldBody IpcError) (e : IpcError) → r ≡ Err e → ((es : List IpcError) → Refuses e es) → GivesBody rest rest' n r
body_not_read None rest' n r e is any = tt
body_not_read (Some b) rest' n r e is any = subst (GivesBody (Some b) rest' n) (sym is) (any (refusals (only_if (nat_le n (length b)) kinds.Truncated)))

-- ── the first message ──

pub first_found : (rest rest' : Option (List ℕ)) (frame : Frame) (v : Vec ℕ Global) → frame ≡ frames.Message v → GivesFront rest rest' (Ok frame) → GivesFirst rest rest' (Ok v)
unfolding first_message
first_found None rest' frame v is g = tt
first_found (Some b) rest' frame v is g = let h = subst (λ f. GivesFront (Some b) rest' (Ok f)) is g in (h.0, on (next_message b) first_message (Some (record { metadata = v.items; behind = h.0 })) h.1, h.2)

missing : (b : List ℕ) → next_message b ≡ Ok None → Refuses (OutOfSpec kinds.MissingSchema) (refusals (next_message b >>= first_message))
unfolding first_message
missing b h = subst (λ r. Refuses (OutOfSpec kinds.MissingSchema) (refusals r)) (sym (on (next_message b) first_message None h)) (inl refl)

pub first_awaited : (rest rest' : Option (List ℕ)) (frame : Frame) → frame ≡ frames.Waiting → GivesFront rest rest' (Ok frame) → GivesFirst rest rest' (Err (OutOfSpec kinds.MissingSchema))
first_awaited None rest' frame is g = tt
first_awaited (Some b) rest' frame is g = missing b (subst (λ f. GivesFront (Some b) rest' (Ok f)) is g).0

pub first_ended : (rest rest' : Option (List ℕ)) (frame : Frame) → frame ≡ frames.Ended → GivesFront rest rest' (Ok frame) → GivesFirst rest rest' (Err (OutOfSpec kinds.MissingSchema))
first_ended None rest' frame is g = tt
first_ended (Some b) rest' frame is g = missing b (subst (λ f. GivesFront (Some b) rest' (Ok f)) is g).0

pub first_refused : (rest rest' : Option (List ℕ)) (r : Result (Vec ℕ Global) IpcError) (e : IpcError) → r ≡ Err e → GivesFront rest rest' (Err e) → GivesFirst rest rest' r
first_refused None rest' r e is h = tt
first_refused (Some b) rest' r e is h = subst (GivesFirst (Some b) rest') (sym is) (refused_first e (next_message b) first_message h)

-- ── what it says ──

start_by : (b : List ℕ) → start_in b ≡ bind (next_message b >>= first_message) (λ f. bind (head_in f.metadata) (λ h. bind (only_if (nat_le h.1 (length f.behind)) kinds.Truncated) (λ whole. Ok (h.0, drop h.1 f.behind))))
unfolding start_in head_in body_in
start_by b = simp (bind_twice, bind_ok)

abbrev behind_first : List ℕ → List ℕ → Reading (Start × List ℕ)
behind_first metadata behind = bind (head_in metadata) (λ h. bind (only_if (nat_le h.1 (length behind)) kinds.Truncated) (λ whole. Ok (h.0, drop h.1 behind)))

start_behind : (b metadata behind : List ℕ) → (next_message b >>= first_message) ≡ Ok (record { metadata = metadata; behind = behind }) → start_in b ≡ behind_first metadata behind
start_behind b metadata behind h = start_by b ∙ on (next_message b >>= first_message) (λ f. behind_first f.metadata f.behind) (record { metadata = metadata; behind = behind }) h

pub start_not_found : (rest mid rest' : Option (List ℕ)) (r : Result StreamMetadata IpcError) (e : IpcError) → r ≡ Err e → GivesFirst rest mid (Err e) → GivesStart rest rest' r
start_not_found None mid rest' r e is h = tt
start_not_found (Some b) mid rest' r e is h =
    subst (GivesStart (Some b) rest') (sym is) (subst (λ w. Refuses e (refusals w)) (sym (start_by b)) (refused_first e (next_message b >>= first_message) (λ f. behind_first f.metadata f.behind) h))

pub start_refused : (rest mid rest' : Option (List ℕ)) (v : Vec ℕ Global) (text : List ℕ) (r : Result StreamMetadata IpcError) (e : IpcError) → r ≡ Err e → GivesFirst rest mid (Ok v) → text ≡ v.items → RefusesBytes e (refusals (head_in text)) → GivesStart rest rest' r
start_refused None mid rest' v text r e is h same refused = tt
start_refused (Some b) mid rest' v text r e is h same refused =
    let here : Refuses e (refusals (head_in v.items)) = subst (λ t. Refuses e (refusals (head_in t))) same (refuses e (refusals (head_in text)) refused) in
    subst (GivesStart (Some b) rest') (sym is) (subst (λ w. Refuses e (refusals w)) (sym (start_behind b v.items h.0 h.1)) (refused_first e (head_in v.items) (λ x. bind (only_if (nat_le x.1 (length h.0)) kinds.Truncated) (λ whole. Ok (x.0, drop x.1 h.0))) here))

pub start_cut : (rest mid rest' : Option (List ℕ)) (v : Vec ℕ Global) (text : List ℕ) (x : Beginning) (r : Result StreamMetadata IpcError) (e : IpcError) → r ≡ Err e → GivesFirst rest mid (Ok v) → text ≡ v.items → head_in text ≡ Ok (head_view x) → GivesBody mid rest' x.body (Err e) → GivesStart rest rest' r
start_cut None mid rest' v text x r e is h same said cut = tt
start_cut (Some b) mid rest' v text x r e is h same said cut =
    let here : Refuses e (refusals (only_if (nat_le x.body (length h.0)) kinds.Truncated)) = subst (λ o. GivesBody o rest' x.body (Err e)) h.2 cut in
    let begun = start_behind b v.items h.0 h.1 ∙ on (head_in v.items) (λ y. bind (only_if (nat_le y.1 (length h.0)) kinds.Truncated) (λ whole. Ok (y.0, drop y.1 h.0))) (head_view x) (ap head_in (sym same) ∙ said) in
    subst (GivesStart (Some b) rest') (sym is) (subst (λ w. Refuses e (refusals w)) (sym begun) (refused_first e (only_if (nat_le x.body (length h.0)) kinds.Truncated) (λ whole. Ok (start_view x.metadata, drop x.body h.0)) here))

pub start_read : (rest mid rest' : Option (List ℕ)) (v : Vec ℕ Global) (text : List ℕ) (x : Beginning) (body : HeldBody) → GivesFirst rest mid (Ok v) → text ≡ v.items → head_in text ≡ Ok (head_view x) → GivesBody mid rest' x.body (Ok body) → GivesStart rest rest' (Ok x.metadata)
start_read None mid rest' v text x body h same said whole = tt
start_read (Some b) mid rest' v text x body h same said whole =
    let here : GivesBody (Some h.0) rest' x.body (Ok body) = subst (λ o. GivesBody o rest' x.body (Ok body)) h.2 whole in
    let begun = start_behind b v.items h.0 h.1 ∙ on (head_in v.items) (λ y. bind (only_if (nat_le y.1 (length h.0)) kinds.Truncated) (λ w. Ok (y.0, drop y.1 h.0))) (head_view x) (ap head_in (sym same) ∙ said) in
    (drop x.body h.0, begun ∙ ap (λ t. bind (only_if t kinds.Truncated) (λ w. Ok (start_view x.metadata, drop x.body h.0))) here.0 ∙ bind_ok _ _, here.2)
