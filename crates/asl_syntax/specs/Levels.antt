-- The first tokens of levels.
use Rattle.std.specs.Prelude.{ℕ, List, take}
use Rattle.asl_syntax.specs.declared.levels.Firsts.{Firsts}
use Rattle.asl_syntax.specs.declared.levels.Firsts.TheVariants.{Few, Many}

-- the first so many of their own, or those of their vector
abbrev pub firsts_of : Firsts → List ℕ
firsts_of (Few count firsts alloc) = take count firsts
firsts_of (Many firsts) = firsts.value.items
