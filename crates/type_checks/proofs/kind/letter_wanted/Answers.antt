use Rattle.std.proofs.Common.{ap, ◌∙◌}
use Rattle.std.specs.Prelude.{slice_get}
use Rattle.type_checks.specs.Kinds.{by_code, by_letter}
use Rattle.type_checks.proofs.Lettering.{code_wanted}
use Rattle.type_checks.proofs.kind.letter_wanted.Goals as goal

pub returns : goal.returns
returns c = c.by_letter.ensures ∙ ap by_code c.letter_in.ensures ∙ code_wanted c.letters.result.now c.args.place ∙ ap (λ row. by_letter (slice_get row c.args.place)) c.letters.ensures
