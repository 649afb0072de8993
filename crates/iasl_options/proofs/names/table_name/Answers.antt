use Rattle.std.proofs.Common.{sym, subst}
use Rattle.std.specs.Str.{IsUtf8}
use Rattle.std.proofs.lemmas.Str.{IsUtf8-from_ascii}
use Rattle.iasl_options.proofs.names.table_name.Goals as goal

pub name_beside-requires-clause-own : goal.name_beside-requires-clause-own
name_beside-requires-clause-own c = subst IsUtf8 (sym c.as_bytes.ensures) (IsUtf8-from_ascii c.args.own.now c.requires.own)
