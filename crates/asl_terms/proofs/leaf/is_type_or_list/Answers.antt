use Rattle.std.proofs.Common.{ap, sym, ◌∙◌}
use Rattle.asl_syntax.specs.Nodes.{raw_in}
use Rattle.asl_terms.specs.AtRaw.{is_type_or_list_at}
use Rattle.asl_terms.proofs.Types.{no_comma, no_semicolon, no_number, no_text, no_apply, no_empty}
use Rattle.asl_terms.proofs.leaf.is_type_or_list.Goals as goal

pub returns-in-Comma : goal.returns-in-Comma
returns-in-Comma c = sym (ap is_type_or_list_at (sym c.raw.view_is ∙ ap raw_in c.in-Comma.is) ∙ no_comma)

pub returns-in-Semicolon : goal.returns-in-Semicolon
returns-in-Semicolon c = sym (ap is_type_or_list_at (sym c.raw.view_is ∙ ap raw_in c.in-Semicolon.is) ∙ no_semicolon)

pub returns-in-Number : goal.returns-in-Number
returns-in-Number c = sym (ap is_type_or_list_at (sym c.raw.view_is ∙ ap raw_in c.in-Number.is) ∙ no_number _ _)

pub returns-in-Text : goal.returns-in-Text
returns-in-Text c = sym (ap is_type_or_list_at (sym c.raw.view_is ∙ ap raw_in c.in-Text.is) ∙ no_text _ _)

pub returns-in-Apply : goal.returns-in-Apply
returns-in-Apply c = sym (ap is_type_or_list_at (sym c.raw.view_is ∙ ap raw_in c.in-Apply.is) ∙ no_apply _ _ _)

pub returns-in-Empty : goal.returns-in-Empty
returns-in-Empty c = sym (ap is_type_or_list_at (sym c.raw.view_is ∙ ap raw_in c.in-Empty.is) ∙ no_empty)
