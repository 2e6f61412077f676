-- The answer of the program that an error of its parts becomes. This project's own.
use Rattle.sm_ports.specs.declared.failed.ReadError.{ReadError}
use Rattle.sm_ports.specs.declared.failed.ReadError.TheVariants as read
use Rattle.reader_answers.specs.declared.errors.FileError.{FileError}
use Rattle.reader_answers.specs.declared.errors.FileError.TheVariants as file
use Rattle.image_read.specs.declared.fault.ImageFault.{ImageFault}
use Rattle.script_read.specs.declared.fault.ScriptFault.{ScriptFault}
use Rattle.rv_asm.specs.declared.fault.AsmError.{AsmError}
use Rattle.rv_asm.specs.declared.fault.AsmError.TheVariants as asm
use Rattle.llc.specs.declared.fault.TraceFault.{TraceFault}
use Rattle.sanctum.specs.declared.status.Status.{Status}
use Rattle.sanctum.specs.declared.status.Status.TheVariants as answers

-- where a file was not read
abbrev pub refused_read : ReadError → Status
refused_read read.Failed = answers.ReadFault
refused_read read.Memory = answers.OutOfMemory

-- where no image was read
abbrev pub refused_image : FileError ImageFault → Status
refused_image (file.Fault fault) = answers.ImageRefused fault
refused_image (file.Read failed) = answers.ReadFault
refused_image file.Memory = answers.OutOfMemory

-- where no script was read
abbrev pub refused_script : FileError ScriptFault → Status
refused_script (file.Fault fault) = answers.ScriptRefused fault
refused_script (file.Read failed) = answers.ReadFault
refused_script file.Memory = answers.OutOfMemory

-- where no text was assembled
abbrev pub refused_asm : AsmError → Status
refused_asm (asm.Fault fault) = answers.AsmRefused fault
refused_asm asm.Memory = answers.OutOfMemory

-- where no trace was read
abbrev pub refused_trace : FileError TraceFault → Status
refused_trace (file.Fault fault) = answers.TraceRefused fault
refused_trace (file.Read failed) = answers.ReadFault
refused_trace file.Memory = answers.OutOfMemory
