-- The path of a name that is one segment.
use Rattle.std.proofs.Common.{◌≡◌, ℕ, zero, suc, Bool, true, false, List, [], ◌∷◌, Some, ap}
use Rattle.std.specs.Prelude.{drop, if◌then◌else◌}
use Rattle.acpi_values.specs.Paths.{NameSeg, AbsolutePath}
use Rattle.asl_tree.specs.Names.{below, declared_path, single_in, single_segment}
use Rattle.asl_tree.specs.declared.path.Path.{Path}

some_is : {A : Type 0} (a b : A) → Some a ≡ Some b → a ≡ b
some_is a b e = cc

-- the path of a name that is one segment without a prefix
pub one_segment : (name : Path) (segment : NameSeg) (scope : AbsolutePath) → single_segment name ≡ Some segment → declared_path name scope ≡ segment ∷ scope
one_segment name segment scope e = by_parts name.root name.up name.segs e
  where
    by_parts : (root : Bool) (up : ℕ) (segs : List NameSeg) → single_in root up segs ≡ Some segment → below (if root then [] else drop up scope) segs ≡ segment ∷ scope
    by_parts true up segs e = absurd (cc)
    by_parts false (suc up) segs e = absurd (cc)
    by_parts false zero [] e = absurd (cc)
    by_parts false zero (seg ∷ []) e = ap (λ s. s ∷ scope) (some_is seg segment e)
    by_parts false zero (seg ∷ more ∷ segs) e = absurd (cc)
