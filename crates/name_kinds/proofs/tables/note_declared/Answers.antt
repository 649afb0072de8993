use Rattle.acpi_state.specs.Objects.{lookup}
use Rattle.asl_meaning.specs.Declarations.{declared_kinds}
use Rattle.name_kinds.specs.Kinds.{kind_as}
use Rattle.name_kinds.proofs.Noting.{look_set}
use Rattle.name_kinds.proofs.tables.note_declared.Goals as goal

pub returns-clause-noted : goal.returns-clause-noted
returns-clause-noted c has calls d as' e notes = record {
  kinds = look_set (kind_as c.args.index.now.paths) c.args.index.now.paths c.args.tables.now.kinds.items c.args.number c.args.kind _ (lookup (declared_kinds has d.declared)) c.len-count.ensures.distinct c.requires.within c.requires.sized.kinds e notes.kinds;
  externals = notes.externals;
  first = notes.first;
}
