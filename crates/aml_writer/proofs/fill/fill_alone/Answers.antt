use Rattle.std.proofs.Common.{◌+◌, ◌∙◌, length, sym, ap, subst}
use Rattle.aml_sizes.proofs.TermLists.{alone_is}
use Rattle.aml_writer.specs.Fills.{EndsIn, Fills}
use Rattle.aml_writer.proofs.Parts.{whole_parts}
use Rattle.aml_writer.proofs.fill.fill_alone.Goals as goal

pub fill_whole-requires : goal.fill_whole-requires
fill_whole-requires c = subst (EndsIn c.args.filling.now.spaces.items) (whole_parts c.args.style c.args.later c.args.node.now.place c.args.node.now.term c.requires.alone) c.requires.ends

pub returns-clause-fills : goal.returns-clause-fills
returns-clause-fills c =
    subst (λ parts. Fills parts c.args.filling.now.spaces.items c.fill_whole.new.filling.spaces.items c.args.filling.now.pieces.items c.fill_whole.new.filling.pieces.items) (sym (whole_parts c.args.style c.args.later c.args.node.now.place c.args.node.now.term c.requires.alone)) c.fill_whole.ensures.fills

pub returns-clause-size : goal.returns-clause-size
returns-clause-size c = c.fill_whole.ensures.size ∙ ap (λ bs. c.args.filling.now.size + length bs) (sym (alone_is c.args.style c.args.later c.args.node.now.term c.requires.alone))
