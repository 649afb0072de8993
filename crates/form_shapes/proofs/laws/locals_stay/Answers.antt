use Rattle.named_sessions.specs.Shaped.{AreNamed}
use Rattle.named_sessions.proofs.Terms.{formed_terms}
use Rattle.form_shapes.proofs.Locals.{forms_have_locals}
use Rattle.form_shapes.proofs.laws.locals_stay.Goals as goal

pub returns : goal.returns
returns c = λ program h enough. forms_have_locals program (formed_terms (Unit {0}) AreNamed (Unit {0}) (Unit {0}) program h) enough
