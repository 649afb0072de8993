-- Where the parts of a tree stand.
use Rattle.std.specs.Prelude.{ℕ, ◌<◌}
use Rattle.iasl_messages.specs.declared.place.Place.{Place}
use Rattle.asl_syntax.specs.Written.{Written, Writtens, WrittenGroup, number, text, item, apply, listed, none, more, absent, given}

-- in one of so many files
abbrev pub IsIn : ℕ → Place → Type 0
IsIn files place = place.file < files

abbrev mutual
  -- each part stands in one of so many files
  pub IsWithin : ℕ → Written → Type 0
  IsWithin files (number place value) = IsIn files place
  IsWithin files (text place bytes) = IsIn files place
  IsWithin files (item place word args body) = IsIn files place × IsGroupWithin files args × IsGroupWithin files body
  IsWithin files (apply place op args) = IsIn files place × AreWithin files args
  IsWithin files (listed place items) = IsIn files place × AreWithin files items
  IsWithin files _ = Unit {0}

  pub AreWithin : ℕ → Writtens → Type 0
  AreWithin files none = Unit {0}
  AreWithin files (more w ws) = IsWithin files w × AreWithin files ws

  pub IsGroupWithin : ℕ → WrittenGroup → Type 0
  IsGroupWithin files absent = Unit {0}
  IsGroupWithin files (given ws) = AreWithin files ws
