-- The parts of a view as they are seen.
use Rattle.view_types.specs.declared.parts.ViewParts.{ViewParts}
use Rattle.view_types.specs.Views.{Top}

abbrev pub top_in : ViewParts → Top
top_in p = record {
  input = p.input.now;
  is_big = p.is_big_endian;
  layout = p.layout;
  rows = p.rows;
  ids = p.ids.items;
  validity = p.validity;
  first = p.first;
  second = p.second;
  buffers = p.buffers.items;
}
