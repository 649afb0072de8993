use Rattle.named_sessions.specs.Shaped.{AreNamed}
use Rattle.asl_formats.proofs.Declared.{same_declarations}
use Rattle.form_shapes.proofs.Names.{same_calls, same_externals, same_known, no_name_errors, no_type_errors}
use Rattle.form_shapes.proofs.laws.same_names.Goals as goal

pub returns-clause-declared : goal.returns-clause-declared
returns-clause-declared c = same_declarations

pub returns-clause-called : goal.returns-clause-called
returns-clause-called c = same_calls AreNamed (Unit {0}) (Unit {0})

pub returns-clause-external : goal.returns-clause-external
returns-clause-external c = same_externals AreNamed (Unit {0}) (Unit {0})

pub returns-clause-known : goal.returns-clause-known
returns-clause-known c = same_known AreNamed (Unit {0}) (Unit {0})

pub returns-clause-names : goal.returns-clause-names
returns-clause-names c = no_name_errors AreNamed (Unit {0}) (Unit {0})

pub returns-clause-types : goal.returns-clause-types
returns-clause-types c = no_type_errors AreNamed (Unit {0}) (Unit {0})
