use Rattle.std.proofs.Common.{List, IfOk, refl, ap, ◌∙◌, subst}
use Rattle.std.proofs.lemmas.Result.{IfOk-weaker}
use Rattle.iasl_messages.specs.Console.{devices_line}
use Rattle.iasl_messages.specs.declared.place.Piece.{Piece}
use Rattle.table_outputs.specs.Decision.{end_of, IsMadeOf}
use Rattle.iasl_tool.specs.Due.{pieces_of_lines}
use Rattle.iasl_tool.proofs.Devices.{is_due}
use Rattle.iasl_tool.proofs.generated.answer_to_generated.Goals as goal

pub returns-clause-due : goal.returns-clause-due
returns-clause-due c =
    IfOk-weaker c.make_compiled.result _ _
    (λ decision due. is_due _ _ _ _ _ _ c.args.count (end_of decision) c.in_ok-options.ensures.asked refl c.in_ok-lines.ensures.files c.new-notes.ensures (c.in_ok-more.ensures ∙ ap devices_line c.from.ensures) (c.in_ok-lines.ensures.list ∙ c.in_ok-generated.ensures.lines) due)
    c.make_compiled.ensures.due

pub returns-clause-made : goal.returns-clause-made
returns-clause-made c =
    let lines = c.in_ok-lines.ensures.list ∙ c.in_ok-generated.ensures.lines in
    subst (λ (all : List Piece). IfOk c.make_compiled.result (IsMadeOf all)) (λ i. pieces_of_lines (c.in_ok-options.ensures.asked i) (lines i)) c.make_compiled.ensures.made
