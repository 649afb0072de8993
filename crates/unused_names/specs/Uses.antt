-- Mentions that use none of some paths, and that declare nothing directly below one.
use Rattle.std.specs.Prelude.{◌≡◌, Bool, false, List, [], ◌∷◌}
use Rattle.acpi_values.specs.Paths.{AbsolutePath}
use Rattle.asl_tree.specs.Names.{declared_path}
use Rattle.acpi_names.specs.Mentions.{Mention, Used', Called, Declares, Opens}
use Rattle.unused_names.specs.Unused.{Spares, is_below}

module _ (gone has : AbsolutePath → Bool) where
  -- an object, a method or a scope that is used is none of these paths
  abbrev pub UsesOther : Mention → Type 0
  UsesOther (Used' asked at name scope) = Spares gone has name scope
  UsesOther (Called asked at name args scope) = Spares gone has name scope
  UsesOther (Opens here at name scope inner) = Spares gone has name scope
  UsesOther _ = Unit {0}

  abbrev pub UseOthers : List Mention → Type 0
  UseOthers [] = Unit {0}
  UseOthers (m ∷ ms) = UsesOther m × UseOthers ms

  abbrev pub IsNotBelow : Mention → Type 0
  IsNotBelow (Declares at name as' scope) = is_below gone has (declared_path name scope) ≡ false
  IsNotBelow _ = Unit {0}

  abbrev pub AreNotBelow : List Mention → Type 0
  AreNotBelow [] = Unit {0}
  AreNotBelow (m ∷ ms) = IsNotBelow m × AreNotBelow ms
