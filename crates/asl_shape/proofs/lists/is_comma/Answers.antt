use Rattle.std.proofs.Common.{ap, sym, ◌∙◌}
use Rattle.asl_syntax.specs.Nodes.{raw_in}
use Rattle.asl_shape.specs.AtRaw.{is_comma_at}
use Rattle.asl_shape.proofs.Braces.{comma_comma, comma_semicolon, comma_number, comma_text, comma_item, comma_apply, comma_list, comma_empty}
use Rattle.asl_shape.proofs.lists.is_comma.Goals as goal

pub returns-in-Comma : goal.returns-in-Comma
returns-in-Comma c = sym (ap is_comma_at (sym c.raw.view_is ∙ ap raw_in c.in-Comma.is) ∙ comma_comma)

pub returns-in-Semicolon : goal.returns-in-Semicolon
returns-in-Semicolon c = sym (ap is_comma_at (sym c.raw.view_is ∙ ap raw_in c.in-Semicolon.is) ∙ comma_semicolon)

pub returns-in-Number : goal.returns-in-Number
returns-in-Number c = sym (ap is_comma_at (sym c.raw.view_is ∙ ap raw_in c.in-Number.is) ∙ comma_number _ _)

pub returns-in-Text : goal.returns-in-Text
returns-in-Text c = sym (ap is_comma_at (sym c.raw.view_is ∙ ap raw_in c.in-Text.is) ∙ comma_text _ _)

pub returns-in-Item : goal.returns-in-Item
returns-in-Item c = sym (ap is_comma_at (sym c.raw.view_is ∙ ap raw_in c.in-Item.is) ∙ comma_item _ _ _ _)

pub returns-in-Apply : goal.returns-in-Apply
returns-in-Apply c = sym (ap is_comma_at (sym c.raw.view_is ∙ ap raw_in c.in-Apply.is) ∙ comma_apply _ _ _)

pub returns-in-List : goal.returns-in-List
returns-in-List c = sym (ap is_comma_at (sym c.raw.view_is ∙ ap raw_in c.in-List.is) ∙ comma_list _ _)

pub returns-in-Empty : goal.returns-in-Empty
returns-in-Empty c = sym (ap is_comma_at (sym c.raw.view_is ∙ ap raw_in c.in-Empty.is) ∙ comma_empty)
