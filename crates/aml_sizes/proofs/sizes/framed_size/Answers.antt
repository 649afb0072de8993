use Rattle.std.proofs.Common.{[], ◌∷◌, arith}
use Rattle.aml_sizes.specs.PackageLengths.{package_length}
use Rattle.aml_sizes.proofs.NotedLengths.{noted_few, noted_where, none_where, package_noted}
use Rattle.aml_sizes.proofs.sizes.framed_size.Goals as goal

pub returns-then-packed-clause-lengths : goal.returns-then-packed-clause-lengths
returns-then-packed-clause-lengths c = λ content e.
    noted_where c.args.packed (package_length content ∷ []) _ _ c.if-packed.true
    (noted_few c.saturating_add-whole.result (package_length content) _ _ c.put.ensures.noted c.put.ensures.few (λ few. package_noted c.saturating_add-content.result content c.length_size.result c.saturating_add-whole.result (omega (arith, c.saturating_add-content.ensures, e)) c.length_size.ensures.size (omega (arith, c.saturating_add-whole.ensures)) few))

pub returns-else-packed-clause-lengths : goal.returns-else-packed-clause-lengths
returns-else-packed-clause-lengths c = λ content e. none_where c.args.packed (package_length content ∷ []) _ c.if-packed.false
