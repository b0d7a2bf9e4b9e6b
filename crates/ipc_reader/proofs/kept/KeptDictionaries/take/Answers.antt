use Rattle.std.proofs.Common.{◌≡◌, ◌∙◌, refl, rules, sym}
use Rattle.ipc_files.specs.FileViews.{meta_view}
use Rattle.ipc_reader.specs.declared.kept.KeptDictionaries.TheVariants.{Held, NotRead}
use Rattle.ipc_reader.proofs.HeldDictionaries.{held_uses, is_not_read, not_held_uses, not_read_left}
use Rattle.ipc_reader.proofs.kept.KeptDictionaries.take.Goals as goal

pub returns-in-Held : goal.returns-in-Held
returns-in-Held g c =
    let meta = meta_view c.args.metadata.now in
    let old : c.args.self.now ≡ Held c.in-Held.held = sym c.replace.ensures.value ∙ c.in-Held.is in
    record {
      held = λ m is. let e : Held c.in-Held.held ≡ Held m = sym old ∙ is in cc;
      gives = λ columns is may. let e : Held c.in-Held.held ≡ NotRead = sym old ∙ is in cc;
      first = λ is. let e : Held c.in-Held.held ≡ NotRead = sym old ∙ is in cc;
      left = λ m is. not_read_left _ m c.replace.ensures.after is;
      behind = λ columns is may. tt;
      uses = held_uses meta c.args.self.now c.in-Held.held old c.requires.uses;
      keeps = not_held_uses meta _ c.replace.ensures.after;
      cause = tt;
      faults_stay = refl;
      fetched = λ is. let e : Held c.in-Held.held ≡ NotRead = sym old ∙ is in cc;
      stays = λ m is. refl;
      kept = search rules;
    }

pub returns-in_default : goal.returns-in_default
returns-in_default g c =
    let old : c.args.self.now ≡ NotRead = is_not_read c.args.self.now c.requires.not_refused (λ m is. c.in_default.not-Held m (c.replace.ensures.value ∙ is)) in
    let read = c.read.ensures in
    record {
      held = λ m is. let e : NotRead ≡ Held m = sym old ∙ is in cc;
      gives = λ columns is may. read.gives columns may;
      first = λ is. read.held;
      left = read.left;
      behind = λ columns is may. read.behind columns may;
      uses = read.uses;
      keeps = read.keeps;
      cause = read.cause;
      faults_stay = read.faults_stay;
      fetched = λ is. read.fetched;
      stays = λ m is. let e : NotRead ≡ Held m = sym old ∙ is in cc;
      kept = read.kept;
    }
