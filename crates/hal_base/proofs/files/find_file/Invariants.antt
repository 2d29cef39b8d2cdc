use Rattle.std.proofs.Common.{◌≡◌, drop}
use Rattle.hal_base.specs.Files.{file_named, files_in}
use Rattle.hal_base.proofs.files.find_file.Given as goal

-- no file that was passed has the name
abbrev pub invariant-loop-file : goal.invariant-loop-file
invariant-loop-file l =
    file_named (files_in l.files) l.name ≡ file_named (files_in (drop l.file-index l.files)) l.name
