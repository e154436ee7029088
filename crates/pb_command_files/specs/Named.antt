-- What the files of the system remember: whether one of them couldn't be read.
use Rattle.std.specs.Prelude.{Bool}
use Rattle.pb_command_files.specs.declared.named.SystemFiles.{SystemFiles}

abbrev pub has_lost_file : {R : Type 0} → SystemFiles R → Bool
has_lost_file s = s.failed
