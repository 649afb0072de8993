use Rattle.std.proofs.Common.{ℕ, ◌+◌, ap, sym, subst, ◌∙◌}
use Rattle.asl_directives.specs.Forms.{include_line}
use Rattle.asl_preprocess.specs.State.{at}
use Rattle.asl_preprocess.specs.Told.{LacksFile}
use Rattle.asl_preprocess.proofs.Asked.{lacks_name}
use Rattle.asl_preprocess.proofs.lines.asked_in.Goals as goal

pub returns-in-Err : goal.returns-in-Err
returns-in-Err c =
    let asked = include_line c.args.blanked.now in
    let P : ℕ → Type 0 = λ k. LacksFile c.in-Err.stop (at c.args.line.now.file c.args.line.now.number k) asked in
    subst P (c.in-Ok.ensures.column ∙ ap (λ b. b + 1) c.blanks_before.ensures.count)
    (lacks_name c.in-Err.stop (at c.args.line.now.file c.args.line.now.number c.in-Ok.column) c.in-Some.name.now asked (sym c.in-Some.ensures) c.in-Err.ensures)
