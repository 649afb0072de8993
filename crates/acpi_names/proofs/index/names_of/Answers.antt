use Rattle.std.proofs.Common.{ap, ◌∙◌, refl, arith, [], ◌++◌, get_or}
use Rattle.asl_tree.specs.View.{trees_of}
use Rattle.asl_meaning.specs.Declarations.{is_named, declare_all, nothing_declared}
use Rattle.acpi_names.specs.Mentions.{block_mentions}
use Rattle.acpi_names.specs.Shown.{all_shown}
use Rattle.acpi_names.proofs.index.names_of.Goals as goal

pub returns-clause-names : goal.returns-clause-names
returns-clause-names c path =
    c.in_ok-fold.ensures.names nothing_declared c.in_ok-index.ensures.names path
    ∙ ap (λ s. is_named (declare_all (trees_of c.args.nodes.now) s nothing_declared) path) c.in_ok-index.ensures.root

pub returns-clause-told : goal.returns-clause-told
returns-clause-told c =
    c.in_ok-fold.ensures.told nothing_declared c.in_ok-index.ensures.names c.fold.new.index.paths (record { longer = omega arith; same = λ n lt. refl })
    ∙ ap (λ ms. all_shown c.fold.new.index.paths ms ++ block_mentions (trees_of c.args.nodes.now) (get_or c.in_ok-index.index.paths 0 []) nothing_declared) c.new-mentions.ensures.items
    ∙ ap (λ s. block_mentions (trees_of c.args.nodes.now) s nothing_declared) c.in_ok-index.ensures.root
