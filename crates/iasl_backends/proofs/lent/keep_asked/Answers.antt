use Rattle.std.proofs.Common.{rules, ap, sym}
use Rattle.std.proofs.lemmas.Fn.{filter_same}
use Rattle.iasl_backends.proofs.lent.keep_asked.Goals as goal

pub returns : goal.returns
returns g c = filter_same _ _ _ (λ x b f' k. search rules) _ _ c.retain.ensures.filtered
