use Rattle.std.proofs.Common.{sym, subst}
use Rattle.std.specs.Str.{IsUtf8}
use Rattle.iasl_options.proofs.Directories.{directory_text}
use Rattle.iasl_options.proofs.names.name_beside.Goals as goal

pub text_of-requires : goal.text_of-requires
text_of-requires c = subst IsUtf8 (sym c.directory_of.ensures) (directory_text c.args.file.now c.requires.file)

pub text_of-requires-2 : goal.text_of-requires-2
text_of-requires-2 c = c.requires.own
