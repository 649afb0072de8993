use Rattle.std.proofs.Common.{ap, sym, ◌∙◌}
use Rattle.asl_syntax.specs.Nodes.{raw_in}
use Rattle.asl_terms.specs.AtRaw.{is_type_at}
use Rattle.asl_terms.proofs.Types.{type_comma, type_semicolon, type_number, type_text, type_apply, type_list, type_empty}
use Rattle.asl_terms.proofs.leaf.is_type.Goals as goal

pub returns-in-Comma : goal.returns-in-Comma
returns-in-Comma c = sym (ap is_type_at (sym c.raw.view_is ∙ ap raw_in c.in-Comma.is) ∙ type_comma)

pub returns-in-Semicolon : goal.returns-in-Semicolon
returns-in-Semicolon c = sym (ap is_type_at (sym c.raw.view_is ∙ ap raw_in c.in-Semicolon.is) ∙ type_semicolon)

pub returns-in-Number : goal.returns-in-Number
returns-in-Number c = sym (ap is_type_at (sym c.raw.view_is ∙ ap raw_in c.in-Number.is) ∙ type_number _ _)

pub returns-in-Text : goal.returns-in-Text
returns-in-Text c = sym (ap is_type_at (sym c.raw.view_is ∙ ap raw_in c.in-Text.is) ∙ type_text _ _)

pub returns-in-Apply : goal.returns-in-Apply
returns-in-Apply c = sym (ap is_type_at (sym c.raw.view_is ∙ ap raw_in c.in-Apply.is) ∙ type_apply _ _ _)

pub returns-in-List : goal.returns-in-List
returns-in-List c = sym (ap is_type_at (sym c.raw.view_is ∙ ap raw_in c.in-List.is) ∙ type_list _ _)

pub returns-in-Empty : goal.returns-in-Empty
returns-in-Empty c = sym (ap is_type_at (sym c.raw.view_is ∙ ap raw_in c.in-Empty.is) ∙ type_empty)
