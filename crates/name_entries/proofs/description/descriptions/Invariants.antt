use Rattle.std.proofs.Common.{◌≡◌, ◌<◌, ℕ, List, [], None, length, get_or}
use Rattle.name_entries.specs.Descriptors.{AreFlagged}
use Rattle.name_entries.specs.Entries.{described_by}
use Rattle.name_entries.specs.Placed.{Places, ArePlaced}
use Rattle.name_entries.proofs.description.descriptions.Given as goal

abbrev pub ghost-describe : goal.ghost-describe
ghost-describe g a = g.whole

abbrev pub invariant-loop-number : goal.invariant-loop-number
invariant-loop-number g l = record {
  size : length l.said.items ≡ l.number;
  each : (p : Places) → ArePlaced l.facts.index.paths l.places p → (nodes : List ℕ) → AreFlagged l.flags nodes → (n : ℕ) → n < l.number → get_or l.said.items n None ≡ described_by nodes g.whole p (get_or l.facts.index.paths n []);
}
