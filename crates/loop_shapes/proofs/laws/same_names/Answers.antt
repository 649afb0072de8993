use Rattle.aml_sessions.specs.Ready.{AreItems}
use Rattle.loop_shapes.proofs.Names.{same_declarations, same_calls, same_externals, same_known, same_whole, same_name_errors, same_type_errors}
use Rattle.loop_shapes.proofs.laws.same_names.Goals as goal

pub returns-clause-declared : goal.returns-clause-declared
returns-clause-declared c = same_declarations (AreItems 0) ⊥ (Unit {0})

pub returns-clause-called : goal.returns-clause-called
returns-clause-called c = same_calls (AreItems 0) ⊥ (Unit {0})

pub returns-clause-external : goal.returns-clause-external
returns-clause-external c = same_externals (AreItems 0) ⊥ (Unit {0})

pub returns-clause-known : goal.returns-clause-known
returns-clause-known c = same_known (AreItems 0) ⊥ (Unit {0})

pub returns-clause-whole : goal.returns-clause-whole
returns-clause-whole c = same_whole (AreItems 0) ⊥ (Unit {0})

pub returns-clause-names : goal.returns-clause-names
returns-clause-names c = same_name_errors (AreItems 0) ⊥ (Unit {0})

pub returns-clause-types : goal.returns-clause-types
returns-clause-types c = same_type_errors (AreItems 0) ⊥ (Unit {0})
