use Rattle.std.proofs.Common.{ap, sym, ◌∙◌}
use Rattle.asl_syntax.specs.Nodes.{raw_in}
use Rattle.asl_shape.specs.AtRaw.{is_separator_at}
use Rattle.asl_shape.proofs.Braces.{separator_comma, separator_semicolon, separator_number, separator_text, separator_item, separator_apply, separator_list, separator_empty}
use Rattle.asl_shape.proofs.lists.is_separator.Goals as goal

pub returns-in-Comma : goal.returns-in-Comma
returns-in-Comma c = sym (ap is_separator_at (sym c.raw.view_is ∙ ap raw_in c.in-Comma.is) ∙ separator_comma)

pub returns-in-Semicolon : goal.returns-in-Semicolon
returns-in-Semicolon c = sym (ap is_separator_at (sym c.raw.view_is ∙ ap raw_in c.in-Semicolon.is) ∙ separator_semicolon)

pub returns-in-Number : goal.returns-in-Number
returns-in-Number c = sym (ap is_separator_at (sym c.raw.view_is ∙ ap raw_in c.in-Number.is) ∙ separator_number _ _)

pub returns-in-Text : goal.returns-in-Text
returns-in-Text c = sym (ap is_separator_at (sym c.raw.view_is ∙ ap raw_in c.in-Text.is) ∙ separator_text _ _)

pub returns-in-Item : goal.returns-in-Item
returns-in-Item c = sym (ap is_separator_at (sym c.raw.view_is ∙ ap raw_in c.in-Item.is) ∙ separator_item _ _ _ _)

pub returns-in-Apply : goal.returns-in-Apply
returns-in-Apply c = sym (ap is_separator_at (sym c.raw.view_is ∙ ap raw_in c.in-Apply.is) ∙ separator_apply _ _ _)

pub returns-in-List : goal.returns-in-List
returns-in-List c = sym (ap is_separator_at (sym c.raw.view_is ∙ ap raw_in c.in-List.is) ∙ separator_list _ _)

pub returns-in-Empty : goal.returns-in-Empty
returns-in-Empty c = sym (ap is_separator_at (sym c.raw.view_is ∙ ap raw_in c.in-Empty.is) ∙ separator_empty)
