-- Where paths end, by their numbers.
use Rattle.std.specs.Prelude.{◌≡◌, ◌<◌, ℕ, List, [], length, get_or, All, Contains, Option, Some, None}
use Rattle.acpi_values.specs.Paths.{AbsolutePath}
use Rattle.acpi_state.specs.Objects.{Object}
use Rattle.asl_tree.specs.Names.{Known, AliasTo, kind_at}
use Rattle.acpi_names.specs.Errors.{final}
use Rattle.name_kinds.specs.Kinds.{object_as}
use Rattle.name_kinds.specs.declared.kind.End.{End}
use Rattle.name_kinds.specs.declared.ends.WalkState.{WalkState}
use Rattle.name_kinds.specs.declared.ends.Step.{Step}
use Rattle.name_kinds.specs.declared.ends.Walks.{Walks}

-- an end, as the definitions say it
abbrev pub ended : List AbsolutePath → Option End → Option (AbsolutePath × Object)
ended paths None = None
ended paths (Some end) = Some (get_or paths end.path [], object_as end.object)

-- the end of each path
pub record AreEnds (paths : List AbsolutePath) (ends : List (Option End)) (known : Known) : Type 0 where
  pub size : length ends ≡ length paths
  pub each : (n : ℕ) → n < length paths → ended paths (get_or ends n None) ≡ final known (get_or paths n [])

-- what follows a path: its end, or the path of which it is an alias
abbrev pub Follows : List AbsolutePath → Known → AbsolutePath → Step → Type 0
Follows paths known path (Step.Ends end) = ended paths end ≡ final known path
Follows paths known path (Step.Leads source) = (source < length paths)
    × (kind_at known path ≡ Some (AliasTo (Some (get_or paths source []))))

-- a path has been followed
abbrev pub IsMarked : List WalkState → ℕ → Type 0
IsMarked marks n = get_or marks n WalkState.New ≡ WalkState.New → ⊥

-- the marks say which paths have an end in the table, and which are on the walk
pub record AreMarked (paths : List AbsolutePath) (known : Known) (walks : Walks) : Type 0 where
  pub marks : length walks.marks.items ≡ length paths
  pub ends : length walks.ends.items ≡ length paths
  pub reached : (n : ℕ) → get_or walks.marks.items n WalkState.New ≡ WalkState.Ended
      → ended paths (get_or walks.ends.items n None) ≡ final known (get_or paths n [])
  pub walking : (n : ℕ) → get_or walks.marks.items n WalkState.New ≡ WalkState.OnWalk → Contains walks.chain.items n
  pub inside : All (λ n. n < length paths) walks.chain.items
