-- The room that is kept for the bytes of a piece.
use Rattle.std.specs.Prelude.{ℕ, ◌≤◌, length}
use Rattle.aml_sizes.specs.declared.space.Store.{Store}
use Rattle.aml_sizes.specs.declared.space.Store.TheVariants.{Few, Many}

-- how many bytes there is room for
abbrev pub spare_of : Store → ℕ
spare_of (Few count) = count
spare_of (Many shell bytes) = length bytes.items

-- few bytes stand in the text itself
abbrev pub IsStore : Store → Type 0
IsStore (Few count) = count ≤ 14
IsStore (Many shell bytes) = Unit {0}
