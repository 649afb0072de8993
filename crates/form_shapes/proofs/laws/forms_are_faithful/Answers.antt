use Rattle.named_sessions.specs.Shaped.{AreNamed}
use Rattle.form_shapes.proofs.Faithful.{does_formed}
use Rattle.form_shapes.proofs.laws.forms_are_faithful.Goals as goal

pub returns : goal.returns
returns c = λ width program bytes h near names counts faithful. does_formed AreNamed (Unit {0}) (Unit {0}) program h near names counts width bytes faithful
