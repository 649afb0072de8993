use Rattle.std.proofs.Common.{◌≡◌, arith, ◌∷◌, ◌+◌, ◌∙◌, sym, take, drop}
use Rattle.std.proofs.lemmas.Grind.{common_steps}
use Rattle.iasl_messages.specs.Cut.{lines_of, without_cr}
use Rattle.iasl_messages.proofs.Cutting.{lines_whole, lines_first}
use Rattle.iasl_messages.proofs.cut.cut_line.Goals as goal

pub returns-in-Some : goal.returns-in-Some
returns-in-Some c =
    let text = c.args.text.now in
    let first : lines_of text ≡ without_cr (take c.in-Some.end text) ∷ lines_of (drop (c.in-Some.end + 1) text) = lines_first text c.in-Some.end (sym c.line_end.ensures ∙ c.in-Some.is) in
    grind (arith, common_steps, first)

pub returns-in-None : goal.returns-in-None
returns-in-None c = lines_whole c.args.text.now (sym c.line_end.ensures ∙ c.in-None.is)
