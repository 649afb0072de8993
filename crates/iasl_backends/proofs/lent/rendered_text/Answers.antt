use Rattle.iasl_backends.proofs.KindLaws.{not_missing}
use Rattle.iasl_backends.proofs.lent.rendered_text.Goals as goal

pub unreachable-requires : goal.unreachable-requires
unreachable-requires g c = not_missing (λ b. (goal.Backend-dyn g (b.vtable, b.value)).kind_of b.value) c.args.kind c.args.backends.now.items c.in-None.ensures.none c.requires.there
