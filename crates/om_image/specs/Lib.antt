pub mod Dwarf
pub mod DwarfNumbers
pub mod ElfFile
pub mod Found
pub mod Growing
pub mod Programs
