-- The blocks of a file, read one after another: what they mean, and what a refusal of one refuses.
use Rattle.std.proofs.Common.{◌≡◌, ◌∙◌, sym, refl, ap, subst, ℕ, suc, ◌≤◌, List, [], length, Option, Some, None, Ok}
use Rattle.arrow_spec.specs.declared.error.IpcError.{IpcError}
use Rattle.arrow_spec.specs.Features.{chosen_floats}
use Rattle.arrow_spec.specs.Files.{TableBatch, «all», file_reading, to_read}
use Rattle.arrow_spec.specs.Readings.{Refuses, refusals}
use Rattle.laws_walk.specs.Below.{IsOpened, MayProject, file_custom, meta_view, FileCursor}
use Rattle.std.specs.Rc.{rc_value}
use Rattle.laws_walk.specs.Places.{place_of, table_sent, walking}
use Rattle.laws_walk.specs.Walks.{IsOpenFor, walk_reading, within}
use Rattle.laws_walk.proofs.Begins.{none_so_far}
use Rattle.laws_walk.proofs.Places.{AreRefused, first_mean, front_count, open_within, whole_mean}
use Rattle.laws_walk.proofs.Requests.{file_refused}
use Rattle.laws_walk.proofs.Walks.{walk_is_file}
use Rattle.ipc_concat.specs.Files.{HasReadBlocks, IsUnread, part_of, whole_file}

module _ (b : List ℕ) (c : FileCursor) (xs : List TableBatch) (h : HasReadBlocks b c xs) where
  pub opened : IsOpenFor to_read b (within «all») (meta_view c.metadata) (file_custom c.metadata)
  opened = open_within b «all» (meta_view c.metadata) (file_custom c.metadata) h.by.file

  mean : walk_reading to_read b (within «all») (Some c.block) ≡ Ok (part_of c.metadata xs)
  unfolding opened
  mean = first_mean to_read (walking (whole_file b c.metadata)) opened (place_of c) xs h.walked.read h.walked.none h.walked.kept h.walked.within

  -- one batch a block
  pub count_of : length xs ≡ c.block
  unfolding mean
  count_of = front_count b «all» (meta_view c.metadata) c.block (part_of c.metadata xs) h.by.file.read h.walked.within mean

  -- the first blocks mean their batches
  pub part_read : file_reading to_read b «all» (Some (length xs)) ≡ Ok (part_of c.metadata xs)
  unfolding mean count_of
  part_read = ap (λ n. file_reading to_read b «all» (Some n)) count_of ∙ sym (walk_is_file to_read b «all» (Some c.block)) ∙ mean

  -- all blocks mean the table
  pub whole_read : length (meta_view c.metadata).blocks ≤ c.block → file_reading to_read b «all» None ≡ Ok (part_of c.metadata xs)
  unfolding opened
  whole_read done = sym (walk_is_file to_read b «all» None) ∙ whole_mean to_read (walking (whole_file b c.metadata)) opened (place_of c) xs h.walked.read h.walked.none h.walked.kept done

  -- a call that is refused
  abbrev pub Stop : IpcError → Type 0
  Stop e = Refuses e (refusals (file_reading to_read b «all» None)) × Refuses e (refusals (file_reading to_read b «all» (Some (suc (length xs)))))

  pub call_stops : (e : IpcError) → AreRefused to_read (walking (whole_file b c.metadata)) opened e c.block → Stop e
  unfolding count_of
  call_stops e stops = (file_refused to_read e b «all» None stops.0, subst (λ n. Refuses e (refusals (file_reading to_read b «all» (Some (suc n))))) (sym count_of) (file_refused to_read e b «all» (Some (suc c.block)) stops.1))

-- all columns are read
pub may_all : (c : FileCursor) → c.projection ≡ None → MayProject (rc_value c.metadata.schema) None c.projection
may_all c none = subst (MayProject (rc_value c.metadata.schema) None) (sym none) tt

-- none of an unread file was
pub none_of : (b : List ℕ) (c : FileCursor) (o : Option (List ℕ)) → IsUnread o c → IsOpened b «all» (meta_view c.metadata) (file_custom c.metadata) → HasReadBlocks b c []
none_of b c o u file = record {
  by = record { metadata = refl; columns = may_all c u.projection; file = file; read = u.read };
  walked = none_so_far to_read (walking (whole_file b c.metadata)) (place_of c) u.block u.dictionaries u.left;
}

pub none_read : (b : List ℕ) (c : FileCursor) → IsUnread (Some b) c → chosen_floats None (meta_view c.metadata).schema.fields 0 ≡ [] → HasReadBlocks b c []
none_read b c u readable = none_of b c (Some b) u (record { read = u.says.read; pairs = u.says.pairs; columns = refl; readable = readable })
