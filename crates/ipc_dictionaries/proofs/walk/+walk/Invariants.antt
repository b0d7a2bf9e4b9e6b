use Rattle.std.proofs.Common.{◌≡◌, ◌+◌, ◌*◌, false, drop, is_some}
use Rattle.std.specs.Option.{unwrap_or}
use Rattle.arrow_arrays.specs.Parts.{tree_size, trees_size}
use Rattle.arrow_arrays.specs.PartsOf.{parts_of, forest_of}
use Rattle.ipc_fields.specs.IpcFields.{ids_of}
use Rattle.ipc_dictionaries.specs.NewDictionaries.{arrays_sent, parts_sent}
use Rattle.ipc_dictionaries.specs.Used.{used_by, Adds}
use Rattle.ipc_dictionaries.specs.Walks.{options_of, sending_of, Keeps, PartsLeft}
use Rattle.ipc_dictionaries.proofs.walk.+walk.Given as goal

abbrev pub decreases-walk_array : goal.decreases-walk_array
decreases-walk_array l = 8 * tree_size (parts_of l.array.now)

abbrev pub decreases-walk_arrays : goal.decreases-walk_arrays
decreases-walk_arrays l = 8 * trees_size (forest_of l.arrays.now) + 1

abbrev pub decreases-walk_dictionary : goal.decreases-walk_dictionary
decreases-walk_dictionary l = 8 * trees_size l.dictionary.now.children + 4

abbrev pub decreases-send_dictionary : goal.decreases-send_dictionary
decreases-send_dictionary l = 8 * trees_size (forest_of l.parts.now) + 3

abbrev pub decreases-send_parts : goal.decreases-send_parts
decreases-send_parts l = 8 * trees_size (forest_of l.parts.now) + 2

abbrev pub decreases-send_part : goal.decreases-send_part
decreases-send_part l = 8 * tree_size (parts_of l.part.now) + 1

abbrev pub invariant-walk_arrays-loop-i : goal.invariant-walk_arrays-loop-i
invariant-walk_arrays-loop-i l = record {
  walks : arrays_sent (options_of l.tracker) (forest_of (drop l.i l.arrays)) (ids_of (drop l.i l.fields)) (sending_of l.tracker l.progress)
      ≡ arrays_sent (options_of l.fn.tracker) (forest_of l.arrays) (ids_of l.fields) (sending_of l.fn.tracker l.fn.progress);
  adds : Adds l.fn.progress.used l.progress.used;
  keeps : Keeps l.fn.tracker l.fn.progress l.tracker l.progress;
}

abbrev pub invariant-send_parts-loop-part : goal.invariant-send_parts-loop-part
invariant-send_parts-loop-part l = record {
  left : PartsLeft l.tracker l.fn.progress l.progress
      (λ s. parts_sent (options_of l.fn.tracker) (used_by l.fn.progress.used) l.id (ids_of l.fields) l.is_delta l.rest (forest_of (drop l.part-index l.parts)) s)
      (parts_sent (options_of l.fn.tracker) (used_by l.fn.progress.used) l.id (ids_of l.fields) (is_some l.fn.start) (unwrap_or l.fn.start 0) (forest_of l.parts) (sending_of l.fn.tracker l.fn.progress));
  whole : l.is_delta ≡ false → l.rest ≡ 0;
  keeps : Keeps l.fn.tracker l.fn.progress l.tracker l.progress;
}
