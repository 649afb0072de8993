use Rattle.std.proofs.Common.{◌∙◌, length, sym, ap}
use Rattle.aml_sizes.specs.Capped.{capped}
use Rattle.aml_sizes.proofs.TermLists.{alone_is}
use Rattle.aml_sizes.proofs.measure.alone_size.Goals as goal

pub returns : goal.returns
returns c = λ rest. c.term_size.ensures.size ∙ ap (λ bs. capped (length bs)) (sym (alone_is c.args.style rest c.args.term.now c.requires))
