-- What is told of too many copies before one is made.
use Rattle.std.specs.Prelude.{◌≡◌, ◌<◌, ◌≤◌, ◌^◌, ℕ, Bool, List, []}
use Rattle.iasl_messages.specs.declared.place.Place.{Place}
use Rattle.iasl_messages.specs.declared.message.Message.{Message}
use Rattle.acpi_values.specs.declared.width.Width.{Width}
use Rattle.asl_tree.specs.Tree.{Trees}
use Rattle.term_plans.specs.Plans.{Plans}
use Rattle.asl_numbers.specs.Numbers.{nodes}
use Rattle.asl_prints.specs.Forms.{formed_all}
use Rattle.hidden_locals.specs.Switches.{without_switches}
use Rattle.asl_lower.specs.Nodes.{named_all}
use Rattle.asl_fold.specs.Folds.{folded_where}
use Rattle.core_nodes.specs.Weights.{integer_weight, copied_in}
use Rattle.copy_checks.specs.Copies.{too_many_copies}

-- no more than the copies of the steps of Fors weigh, where constants are folded or not
abbrev pub WeighsNoMore : (fold : Bool) → ℕ → Trees → Type 0
WeighsNoMore fold weight terms = weight ≤ copied_in (integer_weight fold) 0 terms

-- nothing, where the nodes of the program have numbers, or else what is told of its core
pub record IsToldEarly (fold : Bool) (block : Place) (terms : Trees) (ps : Plans) (told : List Message) : Type 0 where
  pub numbers : told ≡ [] → nodes ps < 2 ^ 32
  pub core : (told ≡ [] → ⊥) → (width : Width) →
      told ≡ too_many_copies block ps (folded_where fold width (named_all (without_switches (formed_all terms))))
