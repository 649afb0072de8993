-- A step through a file's name.
use Rattle.std.specs.Prelude.{ℕ, ◌+◌, ◌==◌, if◌then◌else◌, cond, Some, None}
use Rattle.std.specs.declared.option.Option.{Option}

-- where the last dot behind the last slash is, with one more byte
abbrev pub found_with : Option ℕ → ℕ → ℕ → Option ℕ
found_with found at c = cond (c == 46) (Some at) (cond (c == 47) None found)

-- how many bytes stand up to the last slash and with it, with one more byte
abbrev pub length_with : ℕ → ℕ → ℕ → ℕ
length_with length at c = if c == 47 then at + 1 else length
