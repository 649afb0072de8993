use Rattle.wrapped_externals.proofs.Declared.{same_declarations, same_externals, same_known, same_whole}
use Rattle.wrapped_externals.proofs.Errors.{same_name_errors, same_type_errors}
use Rattle.wrapped_externals.proofs.laws.same_names.Goals as goal

pub returns-clause-declared : goal.returns-clause-declared
returns-clause-declared c = same_declarations

pub returns-clause-external : goal.returns-clause-external
returns-clause-external c = same_externals

pub returns-clause-known : goal.returns-clause-known
returns-clause-known c = same_known

pub returns-clause-whole : goal.returns-clause-whole
returns-clause-whole c = same_whole

pub returns-clause-names : goal.returns-clause-names
returns-clause-names c = same_name_errors

pub returns-clause-types : goal.returns-clause-types
returns-clause-types c = same_type_errors
