-- What arrays are added to, as it stands.
use Rattle.ipc_write_arrays.specs.Outputs as specs
use Rattle.ipc_write_arrays.specs.Outputs.{outputs}
use Rattle.ipc_write_arrays.specs.declared.outputs.Outputs.{Outputs}

abbrev pub outputs_of : Outputs → specs.Outputs
outputs_of o = outputs o.nodes.items o.buffers.items o.views.items
