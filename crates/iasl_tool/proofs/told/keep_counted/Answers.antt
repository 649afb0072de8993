use Rattle.std.proofs.Common.{rules, ap, sym}
use Rattle.std.proofs.lemmas.Fn.{filter_same}
use Rattle.iasl_tool.proofs.told.keep_counted.Goals as goal

pub returns : goal.returns
returns c = filter_same _ _ _ (λ x b f' k. search rules) _ _ c.retain.ensures.filtered
