use Rattle.std.proofs.Common.{◌∙◌, ◌+◌, Some, arith, ap, sym}
use Rattle.ipc_reader.specs.Cursors.{left_after}
use Rattle.ipc_reader.proofs.cursor.FileCursor.next.Goals as goal

pub returns : goal.returns
returns g c =
    let read = c.read_current-read in
    record {
      ended = (omega arith, sym c.is_refused.ensures ∙ c.if-is_refused.false);
      gives = read.ensures.gives;
      read = read.ensures.read;
      first = read.ensures.first;
      dictionaries = read.ensures.dictionaries;
      stopped = read.ensures.stopped;
      schema = read.ensures.schema;
      left = c.left_behind-self.ensures ∙ ap (λ n. left_after n (Some read.result)) read.ensures.left;
      block = ap (λ n. n + 1) read.ensures.block;
      projection = read.ensures.projection;
      metadata = read.ensures.metadata;
      cause = read.ensures.cause;
      faults_stay = read.ensures.faults_stay;
      fetched = read.ensures.fetched;
      stays = λ is. cc;
      kept = read.ensures.kept;
    }
