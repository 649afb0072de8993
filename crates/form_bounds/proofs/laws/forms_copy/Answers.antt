use Rattle.named_sessions.specs.Shaped.{AreNamed}
use Rattle.form_bounds.proofs.Copies.{all_copies}
use Rattle.form_bounds.proofs.laws.forms_copy.Goals as goal

pub returns : goal.returns
returns c = λ integer. all_copies integer AreNamed (Unit {0}) (Unit {0})
