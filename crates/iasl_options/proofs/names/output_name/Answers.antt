use Rattle.std.proofs.Common.{sym, subst}
use Rattle.std.specs.Str.{IsUtf8}
use Rattle.iasl_options.proofs.Extensions.{stem_utf8}
use Rattle.iasl_options.proofs.names.output_name.Goals as goal

pub text_of-requires : goal.text_of-requires
text_of-requires c = subst IsUtf8 (sym c.output_stem.ensures) (stem_utf8 c.args.options.now c.requires)
