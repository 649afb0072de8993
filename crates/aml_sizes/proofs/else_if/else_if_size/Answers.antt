use Rattle.std.proofs.Common.{◌+◌, ◌∷◌, [], length, arith}
use Rattle.asl_tree.specs.declared.term.Control.TheVariants as Control
use Rattle.asl_tree.specs.declared.term.Op.{Op}
use Rattle.aml_sizes.specs.TermBytes.{head_bytes, nodes_bytes}
use Rattle.aml_sizes.specs.PackageLengths.{package_length, nodes_lengths}
use Rattle.aml_sizes.proofs.NotedLengths.{noted_both}
use Rattle.aml_sizes.proofs.else_if.else_if_size.Goals as goal

pub returns-clause-lengths : goal.returns-clause-lengths
returns-clause-lengths c =
    let front = nodes_bytes c.args.style [] c.args.args.now in
    let content = length (head_bytes (Op.Control Control.If) front c.args.body) + c.args.body + c.args.later in
    noted_both (package_length content ∷ []) (package_length (length front + c.args.body) ∷ nodes_lengths c.args.style [] c.args.args.now) c.args.notes.now c.headed_size-first.new.notes c.else_size.new.notes
    (c.headed_size-first.ensures.lengths c.args.body (omega arith))
    (c.else_size.ensures.lengths content (omega (arith, c.saturating_add.ensures, c.headed_size-first.ensures.size)))
