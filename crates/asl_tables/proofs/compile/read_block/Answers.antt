use Rattle.std.proofs.Common.{ap, ◌∙◌}
use Rattle.literal_checks.specs.Literals.{cut_literals_at}
use Rattle.asl_shape.specs.Forms.{alone}
use Rattle.asl_tables.proofs.Programs.{same_width}
use Rattle.asl_tables.proofs.compile.read_block.Goals as goal

pub returns : goal.returns
returns c = record {
  block = c.requires;
  literals = c.in_ok-literals.ensures ∙ ap (λ w. cut_literals_at w (alone c.args.raw.now)) (c.of_revision.ensures ∙ same_width (alone c.args.raw.now) c.args.block c.requires);
}
