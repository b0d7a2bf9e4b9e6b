-- The error of this library that a device's error becomes.
use Rattle.arrow_spec.specs.declared.error.IpcError.{IpcError}
use Rattle.arrow_spec.specs.declared.error.IpcError.TheVariants.{WriteFault, Memory}
use Rattle.ipc_io.specs.declared.outside.PutError.{PutError}
use Rattle.ipc_io.specs.declared.outside.PutError.TheVariants as put

abbrev pub put_error : PutError → IpcError
put_error put.Failed = WriteFault
put_error put.Memory = Memory
