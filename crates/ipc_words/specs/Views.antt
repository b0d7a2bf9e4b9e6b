-- The requests that the program reads, as those of the definition.
use Rattle.std.specs.Prelude.{ℕ, List, Vec, map, option_map}
use Rattle.std.specs.declared.alloc.Global.{Global}
use Rattle.std.specs.Borrow.{Bor}
use Rattle.clap.specs.Walk.{Text}
use Rattle.ipc_words.specs.Requests.{Cat, Csv, File, Log, Request, Scan, Stream, append, cat, csv, file, gen, log, rows, scan, schema, stream}
use Rattle.ipc_words.specs.declared.requests.Cat.{Cat as GivenCat}
use Rattle.ipc_words.specs.declared.requests.Csv.{Csv as GivenCsv}
use Rattle.ipc_words.specs.declared.requests.File.{File as GivenFile}
use Rattle.ipc_words.specs.declared.requests.Log.{Log as GivenLog}
use Rattle.ipc_words.specs.declared.requests.Scan.{Scan as GivenScan}
use Rattle.ipc_words.specs.declared.requests.Stream.{Stream as GivenStream}
use Rattle.ipc_words.specs.declared.requests.Request.{Request as Given}
use Rattle.ipc_words.specs.declared.requests.Request.TheVariants as given

abbrev pub text : Bor Text → Text
text t = t.now

abbrev pub texts : List (Bor Text) → List Text
texts words = map text words

abbrev pub lent_texts : Bor (List (Bor Text)) → List Text
lent_texts words = texts words.now

abbrev pub numbers : Vec ℕ Global → List ℕ
numbers v = v.items

abbrev pub stream_view : GivenStream → Stream
stream_view s = record { columns = option_map numbers s.columns; limit = s.limit; raw = s.raw; name = option_map text s.name }

abbrev pub cat_view : GivenCat → Cat
cat_view c = record { raw = c.raw; names = texts c.names.items }

abbrev pub file_view : GivenFile → File
file_view f = record { raw = f.raw; name = option_map text f.name }

abbrev pub scan_view : GivenScan → Scan
scan_view s = record { filter = s.filter; columns = option_map numbers s.columns; raw = s.raw; name = option_map text s.name }

abbrev pub csv_view : GivenCsv → Csv
csv_view c = record { columns = option_map numbers c.columns; limit = c.limit; name = option_map text c.name }

abbrev pub log_view : GivenLog → Log
log_view l = record { appends = l.appends; raw = l.raw; target = text l.target }

abbrev pub request_view : Given → Request
request_view (given.Stream s) = stream (stream_view s)
request_view (given.Schema name) = schema (option_map text name)
request_view (given.Rows name) = rows (option_map text name)
request_view (given.Append target) = append (text target)
request_view (given.Gen number) = gen number
request_view (given.Cat c) = cat (cat_view c)
request_view (given.File f) = file (file_view f)
request_view (given.Scan s) = scan (scan_view s)
request_view (given.Csv c) = csv (csv_view c)
request_view (given.Log l) = log (log_view l)
