use Rattle.std.proofs.Common.{◌≡◌, rules, ◌∙◌, ap, length}
use Rattle.ipc_disk.specs.Shelves.{with_bytes}
use Rattle.ipc_disk.proofs.Shelves.{stored_replaces, written_back}
use Rattle.ipc_disk.proofs.shelf.MemoryShelfPlaceShelf.close_place.Goals.{then-has_failed, else-has_failed}
use Rattle.ipc_disk.proofs.shelf.MemoryShelfPlaceShelf.close_place.Goals as goal

pub returns-clause-entries : goal.returns-clause-entries
returns-clause-entries c =
    let same : c.if-has_failed.self-inside.entries.items ≡ c.args.self.now.entries = elim c.if-has_failed.branch [ then-has_failed w ↦ search rules | else-has_failed w ↦ search rules ] in
    let long : length c.store.new.entries ≡ length c.if-has_failed.self-inside.entries.items = c.store.ensures.length ∙ ap length c.deref_mut.ensures.value in
    let len : c.if-has_failed.self-inside.entries.len ≡ length c.if-has_failed.self-inside.entries.items = search rules in
    record {
      bytes = c.into_bytes.result;
      are = c.into_bytes.ensures;
      stored = written_back c.if-has_failed.self-inside.entries.items c.store.new.entries c.if-has_failed.self-inside.entries.len long len ∙ c.store.ensures.stored ∙ ap (λ es. with_bytes es c.args.name.now c.into_bytes.result) (c.deref_mut.ensures.value ∙ same);
    }

pub returns-clause-held : goal.returns-clause-held
returns-clause-held c = stored_replaces _ _ _ _ c.requires.name (returns-clause-entries c)
