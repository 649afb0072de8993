use Rattle.std.proofs.Common.{sym, ap, ◌∙◌}
use Rattle.asl_syntax.specs.Nodes.{raw_in}
use Rattle.asl_shape.proofs.Units.{alone_formed, alone_refused}
use Rattle.asl_shape.proofs.unit.block_in.Goals as goal

pub returns-clause-formed : goal.returns-clause-formed
returns-clause-formed c = alone_formed c.args.raw.now c.in-Item.place c.in-Item.word c.in-Item.args c.in-Item.body c.block.result (sym c.raw.view_is ∙ ap raw_in c.in-Item.is) c.requires c.block.ensures.formed

pub returns-clause-refused : goal.returns-clause-refused
returns-clause-refused c = alone_refused c.args.raw.now c.in-Item.place c.in-Item.word c.in-Item.args c.in-Item.body c.block.result (sym c.raw.view_is ∙ ap raw_in c.in-Item.is) c.requires c.block.ensures.refused
