use Rattle.aml_sessions.specs.Ready.{AreItems}
use Rattle.named_sessions.specs.Shaped.{AreNamed}
use Rattle.form_shapes.proofs.Formed.{forms_formed}
use Rattle.form_shapes.proofs.laws.forms_are_formed.Goals as goal

pub returns-clause-named : goal.returns-clause-named
returns-clause-named c = forms_formed AreNamed (Unit {0}) (Unit {0})

pub returns-clause-laid : goal.returns-clause-laid
returns-clause-laid c = forms_formed (AreItems 0) (Unit {0}) (Unit {0})
