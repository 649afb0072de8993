use Rattle.std.proofs.Common.{◌++◌, ◌∷◌, [], List, refl, ap, ◌∙◌}
use Rattle.std.specs.Prelude.{string_bytes}
use Rattle.iasl_backends.specs.Lines.{piece_lines}
use Rattle.table_outputs.specs.declared.decision.TableOutputs.{TableOutputs}
use Rattle.table_outputs.specs.Decision.{all_files}
use Rattle.iasl_ports.specs.Delivery.{Answer}
use Rattle.iasl_tool.proofs.TemplateLaws.{pieces_are, due_is}
use Rattle.iasl_tool.proofs.template.answer_to_template.Goals as goal

pub returns-clause-due : goal.returns-clause-due
returns-clause-due c =
    ap {B = Answer} (λ (ts : List TableOutputs). record { status = 0; text = c.in_ok-template_text.field-0; due = all_files ts ++ (string_bytes c.in_ok-name.name, piece_lines c.in_ok-pieces.pieces) ∷ [] }) c.new.ensures
    ∙ due_is c.args.table c.signature_of.result.now c.in_ok-template_text.field-0 (string_bytes c.in_ok-name.name) c.in_ok-pieces.pieces c.signature_of.ensures c.in_ok-template_text.ensures (c.in_ok-name.ensures.ok ∙ c.template_name.ensures) c.in_ok-pieces.ensures.exact

pub returns-clause-decided : goal.returns-clause-decided
returns-clause-decided c = (refl, c.new.ensures)

pub returns-clause-made : goal.returns-clause-made
returns-clause-made c = pieces_are c.args.table c.signature_of.result.now c.in_ok-pieces.pieces c.signature_of.ensures c.in_ok-pieces.ensures.exact
