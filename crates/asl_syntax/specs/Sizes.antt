-- How much of a source a part of its tree is.
use Rattle.std.specs.Prelude.{ℕ, suc, ◌+◌, ◌*◌, List, Option}
use Rattle.asl_syntax.specs.declared.raw.Raw.{Raw}
use Rattle.asl_syntax.specs.Written.{Written, item, apply, listed, Writtens, none, more, WrittenGroup, absent, given, written, writtens}
use Rattle.asl_syntax.specs.Written.{written_in}

-- how many parts there are
abbrev mutual
  pub size : Written → ℕ
  size (item place word args body) = suc (size_in args + size_in body)
  size (apply place op args) = suc (sizes args)
  size (listed place items) = suc (sizes items)
  size _ = 1

  pub sizes : Writtens → ℕ
  sizes none = 0
  sizes (more w ws) = size w + sizes ws

  pub size_in : WrittenGroup → ℕ
  size_in absent = 0
  size_in (given ws) = sizes ws

unfoldable pub size_at : Raw → ℕ
size_at raw = size (written raw)

unfoldable pub sizes_at : List Raw → ℕ
sizes_at raws = sizes (writtens raws)

unfoldable pub size_in_at : Option (List Raw) → ℕ
size_in_at raws = size_in (written_in raws)

-- as the code keeps them: each list of a node is less than it, and each node of a list less than that
abbrev pub extent : Raw → ℕ
extent raw = 2 * size_at raw

abbrev pub extent_in : List Raw → ℕ
extent_in raws = 2 * sizes_at raws + 1
