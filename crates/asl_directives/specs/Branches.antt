-- The branches that enclose a line, the innermost first.
use Rattle.std.specs.Prelude.{ℕ, ◌&&◌, ◌||◌, Bool, true, false, not, cond, List, [], ◌∷◌, reverse, count_by, slice_get, Some, None}
use Rattle.std.specs.declared.option.Option.{Option}
use Rattle.std.specs.List.{list_all}
use Rattle.asl_directives.specs.declared.branches.Branch.{Branch}

-- a line is read where each branch around it is
abbrev pub is_read : List Branch → Bool
is_read branches = list_all (λ b. b.now) branches

-- An `#if` at this line and column, whose condition has this value. Where it is not read itself, none of its
-- branches will be.
abbrev pub opened : ℕ → ℕ → Bool → List Branch → List Branch
opened line column value branches =
    record { line = line; column = column; taken = not (is_read branches) || value; now = is_read branches && value; last = false } ∷
    branches

-- Whether an `#elif` asks for the value of its condition: where no earlier branch was taken. None where no `#if` is
-- open, or its `#else` has come.
abbrev pub asks : List Branch → Option Bool
asks [] = None
asks (b ∷ bs) = cond b.last None (Some (not b.taken))

-- behind an `#elif` whose condition has this value
abbrev pub at_else_if : Bool → List Branch → List Branch
at_else_if value [] = []
at_else_if value (b ∷ bs) =
    record { line = b.line; column = b.column; taken = b.taken || value; now = not b.taken && value; last = b.last } ∷ bs

-- behind an `#else`: its branch is read where none was taken. None where no `#if` is open, or its `#else` has come.
abbrev pub at_else : List Branch → Option (List Branch)
at_else [] = None
at_else (b ∷ bs) = cond b.last None (Some (record { line = b.line; column = b.column; taken = true; now = not b.taken; last = true } ∷ bs))

-- behind an `#endif`; none where no `#if` is open
abbrev pub at_end_if : List Branch → Option (List Branch)
at_end_if [] = None
at_end_if (b ∷ bs) = Some bs

-- the outermost `#if` that is open
abbrev pub outermost : List Branch → Option Branch
outermost branches = slice_get (reverse branches) 0

-- how many branches are not read
abbrev pub unread_count : List Branch → ℕ
unread_count branches = count_by (λ b. not b.now) branches
