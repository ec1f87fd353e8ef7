-- The file below a metered one, which it is for contracts.
use Rattle.host_files.specs.declared.metered_file.MeteredFile.{MeteredFile}

-- the file whose reads are told
abbrev pub file_in : {F M : Type 0} → MeteredFile F M → F
file_in metered = metered.file
