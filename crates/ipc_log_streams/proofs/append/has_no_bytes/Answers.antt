use Rattle.ipc_log_streams.proofs.append.has_no_bytes.Goals as goal

pub returns-in_err-size-clause-kept : goal.returns-in_err-size-clause-kept
returns-in_err-size-clause-kept g c = record {
  content = c.size.ensures.content;
  images = c.size.ensures.images;
  since = c.size.ensures.since;
  time = c.size.ensures.time;
  faults = c.size.ensures.cause.later;
  wants = c.size.ensures.wants;
  references = c.size.ensures.same_references;
}

pub returns-clause-kept : goal.returns-clause-kept
returns-clause-kept g c = record {
  content = c.size.ensures.content;
  images = c.size.ensures.images;
  since = c.size.ensures.since;
  time = c.size.ensures.time;
  faults = c.size.ensures.cause.later;
  wants = c.size.ensures.wants;
  references = c.size.ensures.same_references;
}
