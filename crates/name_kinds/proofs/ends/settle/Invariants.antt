use Rattle.std.proofs.Common.{◌≡◌, ◌<◌, ℕ, List, [], get_or, length}
use Rattle.std.specs.Prelude.{All}
use Rattle.acpi_values.specs.Paths.{AbsolutePath}
use Rattle.asl_tree.specs.Names.{Known}
use Rattle.acpi_names.specs.Errors.{final}
use Rattle.name_kinds.specs.Ends.{AreMarked, IsMarked, ended}
use Rattle.name_kinds.proofs.ends.settle.Given as goal

abbrev pub invariant-loop-number : goal.invariant-loop-number
invariant-loop-number l = record {
  size : length l.walks.ends.items ≡ length l.walks.marks.items;
  inside : All (λ n. n < length l.walks.marks.items) l.walks.chain.items;
  marked : (paths : List AbsolutePath) (known : Known) → AreMarked paths known l.initial.walks → All (λ n. final known (get_or paths n []) ≡ ended paths l.end) l.initial.walks.chain.items → (AreMarked paths known l.walks × All (λ n. final known (get_or paths n []) ≡ ended paths l.end) l.walks.chain.items);
  others : (n : ℕ) → IsMarked l.initial.walks.marks.items n → IsMarked l.walks.marks.items n;
}

abbrev pub decreases-loop-number : goal.decreases-loop-number
decreases-loop-number l = length l.walks.chain.items
