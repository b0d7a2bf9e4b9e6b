use Rattle.std.proofs.Common.{map, string_bytes}
use Rattle.std.specs.Option.{option_map}
use Rattle.arrow_flat.specs.Nodes.{node_of}
use Rattle.schema_writer.proofs.WrittenPairs.{name_behind}
use Rattle.schema_writer.proofs.write.pairs.put_extension.Goals as goal

pub returns : goal.returns
returns c = name_behind (map node_of c.args.out.now.items) (map node_of c.put_extension_metadata.new.out.items) (map node_of c.put_text.new.out.items) (option_map string_bytes c.args.metadata.now) (string_bytes c.args.name.now) c.in_ok-put_text.ensures c.in_ok-put_extension_metadata.ensures
