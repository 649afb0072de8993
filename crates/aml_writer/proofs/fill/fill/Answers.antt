use Rattle.std.proofs.Common.{sym, ap, ◌∙◌}
use Rattle.std.specs.Option.{option_copied}
use Rattle.aml_writer.proofs.Tables.{block_there}
use Rattle.aml_writer.proofs.fill.fill.Goals as goal

pub fill_block-requires : goal.fill_block-requires
fill_block-requires c = c.requires.room c.in-Some.block.now (sym c.get.ensures ∙ ap option_copied c.in-Some.is)

pub unreachable-requires : goal.unreachable-requires
unreachable-requires c = block_there _ c.args.block (sym c.get.ensures ∙ ap option_copied c.in-None.is) c.requires.block
