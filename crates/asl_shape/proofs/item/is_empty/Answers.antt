use Rattle.std.proofs.Common.{ap, sym, ◌∙◌}
use Rattle.asl_syntax.specs.Written.{written}
use Rattle.asl_syntax.specs.Views.{written_number, written_text, written_item, written_apply, written_list, written_comma, written_semicolon, written_empty}
use Rattle.asl_syntax.specs.Nodes.{raw_in}
use Rattle.asl_shape.specs.Shapes.{is_empty}
use Rattle.asl_shape.proofs.item.is_empty.Goals as goal

pub returns-in-Empty : goal.returns-in-Empty
returns-in-Empty c = sym (ap is_empty (ap written (sym c.raw.view_is ∙ ap raw_in c.in-Empty.is) ∙ written_empty))

pub returns-in-Number : goal.returns-in-Number
returns-in-Number c = sym (ap is_empty (ap written (sym c.raw.view_is ∙ ap raw_in c.in-Number.is) ∙ written_number _ _))

pub returns-in-Text : goal.returns-in-Text
returns-in-Text c = sym (ap is_empty (ap written (sym c.raw.view_is ∙ ap raw_in c.in-Text.is) ∙ written_text _ _))

pub returns-in-Item : goal.returns-in-Item
returns-in-Item c = sym (ap is_empty (ap written (sym c.raw.view_is ∙ ap raw_in c.in-Item.is) ∙ written_item _ _ _ _))

pub returns-in-Apply : goal.returns-in-Apply
returns-in-Apply c = sym (ap is_empty (ap written (sym c.raw.view_is ∙ ap raw_in c.in-Apply.is) ∙ written_apply _ _ _))

pub returns-in-List : goal.returns-in-List
returns-in-List c = sym (ap is_empty (ap written (sym c.raw.view_is ∙ ap raw_in c.in-List.is) ∙ written_list _ _))

pub returns-in-Comma : goal.returns-in-Comma
returns-in-Comma c = sym (ap is_empty (ap written (sym c.raw.view_is ∙ ap raw_in c.in-Comma.is) ∙ written_comma))

pub returns-in-Semicolon : goal.returns-in-Semicolon
returns-in-Semicolon c = sym (ap is_empty (ap written (sym c.raw.view_is ∙ ap raw_in c.in-Semicolon.is) ∙ written_semicolon))
