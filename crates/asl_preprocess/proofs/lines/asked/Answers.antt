use Rattle.std.proofs.Common.{ℕ, ◌+◌, List, Option, sym, subst, ◌∙◌}
use Rattle.asl_directives.specs.Words.{blanks_before}
use Rattle.asl_directives.specs.Forms.{include_line}
use Rattle.asl_preprocess.specs.State.{at}
use Rattle.asl_preprocess.specs.Lines.{word_place}
use Rattle.asl_preprocess.specs.Told.{AsksByLine}
use Rattle.asl_preprocess.proofs.lines.asked.Goals as goal

pub returns : goal.returns
returns c =
    let line = c.args.line.now in
    let P : List ℕ → Type 0 = λ b. AsksByLine c.asked_in.result (at line.file line.number (blanks_before b + 1)) (include_line b) in
    let Q : Option (List ℕ) → Type 0 = λ a. AsksByLine c.asked_in.result (word_place line.file line.number line.text.whole.now) a in
    subst Q (sym (c.may_ask.ensures.yes c.if-not-may_ask.false)) (subst P (c.deref.ensures.value ∙ c.in_ok-blanked.ensures) c.asked_in.ensures)
