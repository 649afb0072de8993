-- The used names of a block, by the numbers of their nodes (ACPI Specification 6.4, 5.3).
use Rattle.std.specs.Prelude.{◌≡◌, ℕ, Bool, nat_eq, List, [], ◌∷◌, ◌++◌, get_or, Option, Some, None, if◌then◌else◌}
use Rattle.acpi_values.specs.Paths.{AbsolutePath}
use Rattle.acpi_state.specs.Outcomes.{choose}
use Rattle.asl_tree.specs.declared.path.Path.{Path}
use Rattle.asl_tree.specs.Names.{denoted}
use Rattle.asl_tree.specs.Tree.{Trees}
use Rattle.asl_meaning.specs.Declarations.{declarations, nothing_declared, is_named}
use Rattle.acpi_names.specs.Mentions.{Mention, Used', Sought, Called, Opens, block_mentions}
use Rattle.acpi_names.specs.Paths.{path_with}

-- a used name, with the number of its node and the scope in which it stands
pub record Use : Type 0 where
  pub node : ℕ
  pub name : Path
  pub scope : AbsolutePath

-- the name that a mention uses: an operand, the source of an Alias, a place that may lead nowhere, the name of a call or
-- that of a Scope
abbrev pub used_by : Mention → List Use
used_by (Used' asked at name scope) = record { node = at.id; name = name; scope = scope } ∷ []
used_by (Sought at name scope) = record { node = at.id; name = name; scope = scope } ∷ []
used_by (Called asked at name args scope) = record { node = at.id; name = name; scope = scope } ∷ []
used_by (Opens here at name scope inner) = record { node = at.id; name = name; scope = scope } ∷ []
used_by _ = []

-- the uses of mentions, the last first
abbrev pub uses_after : List Mention → List Use → List Use
uses_after [] uses = uses
uses_after (m ∷ ms) uses = uses_after ms (used_by m ++ uses)

abbrev pub use_at : List Use → ℕ → Option Use
use_at [] node = None
use_at (use' ∷ uses) node = if nat_eq use'.node node then Some use' else use_at uses node

-- what the name at a node denotes, where the node is a use and its name has a candidate
abbrev pub denoted_at : (AbsolutePath → Bool) → List Use → ℕ → Option AbsolutePath
denoted_at has uses node = choose (use_at uses node) None (λ u. denoted has u.name u.scope)

-- the same in a block
abbrev pub denoted_in : Trees → ℕ → Option AbsolutePath
denoted_in program node = denoted_at (is_named (declarations program)) (uses_after (block_mentions program [] nothing_declared) []) node

-- a table of the numbers of paths says what the names at nodes denote
abbrev pub Denotes : List AbsolutePath → (AbsolutePath → Bool) → List (Option ℕ) → List Use → Type 0
Denotes paths has table uses = (node : ℕ) → path_with paths (get_or table node None) ≡ denoted_at has uses node
