-- What a reader of an executable answers.
use Rattle.std.specs.Prelude.{◌≡◌, Option, Some, None, Result, Ok, Err}
use Rattle.om_elf.specs.declared.elf.Elf.{Elf}
use Rattle.om_elf.specs.declared.fault.ElfFault.{ElfFault}
use Rattle.om_elf.specs.declared.fault.ElfFault.TheVariants.{NoMemory}

-- the answer is the wanted executable where the file has no fault, else the file's fault, or want of memory
abbrev pub Gives : Option ElfFault → Elf → Result Elf ElfFault → Type 0
Gives fault wanted (Ok elf) = (fault ≡ None) × (elf ≡ wanted)
Gives fault wanted (Err NoMemory) = Unit {0}
Gives fault wanted (Err told) = fault ≡ Some told
