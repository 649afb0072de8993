use Rattle.std.proofs.Common.{sym, subst, ap}
use Rattle.std.specs.Str.{IsUtf8}
use Rattle.std.proofs.lemmas.Str.{IsUtf8-from_ascii}
use Rattle.iasl_options.specs.Names.{stem_of}
use Rattle.iasl_options.proofs.Extensions.{stem_text}
use Rattle.iasl_options.proofs.names.further_name.Goals as goal

pub name_beside-requires-clause-own : goal.name_beside-requires-clause-own
name_beside-requires-clause-own c = subst IsUtf8 (sym c.stem_of.ensures) (stem_text c.as_bytes.result.now (subst IsUtf8 (sym c.as_bytes.ensures) (IsUtf8-from_ascii c.args.own.now c.requires.own)))
