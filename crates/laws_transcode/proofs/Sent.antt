-- What is sent of a file that means a table.
use Rattle.std.proofs.Common.{None}
use Rattle.arrow_spec.specs.Meaning.{file_table}
use Rattle.arrow_spec.proofs.Purposes as purposes
use Rattle.laws_transcode.specs.Laws.{SentMeans, SentOrTooLarge}

pub sent_or_too_large : SentOrTooLarge
unfolding file_table
sent_or_too_large b r t h = purposes.sent_or_too_large b r None t h

pub sent_means : SentMeans
unfolding file_table
sent_means b r t h = purposes.sent_means b r None t h
