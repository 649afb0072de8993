-- Where an included file is looked for.
use Rattle.std.specs.Prelude.{ℕ, ◌==◌, Bool, true, false, cond, nat_lt, List, [], ◌∷◌, ◌++◌, length, map, reverse, drop, Some, None}
use Rattle.std.specs.declared.option.Option.{Option}
use Rattle.std.specs.List.{position_or_len}
use Rattle.std.specs.Str.{is_utf8}
use Rattle.iasl_ports.specs.Gained.{Named}
use Rattle.iasl_ports.specs.Fetched.{find_file, most_bytes}
use Rattle.asl_directives.specs.Forms.{IncludedFile}

abbrev pub is_slash : ℕ → Bool
is_slash c = c == 47

-- the directory of a file: its name through the last `/`
abbrev pub directory_of : List ℕ → List ℕ
directory_of name = reverse (drop (position_or_len is_slash (reverse name)) (reverse name))

abbrev pub begins_with_slash : List ℕ → Bool
begins_with_slash [] = false
begins_with_slash (c ∷ cs) = is_slash c

-- a directory that is empty or ends in `/` needs no further one
abbrev pub is_joined : List ℕ → Bool
is_joined [] = true
is_joined (c ∷ cs) = begins_with_slash (reverse (c ∷ cs))

-- a file's name in a further directory
abbrev pub in_directory : List ℕ → List ℕ → List ℕ
in_directory name directory = cond (is_joined directory) (directory ++ name) (directory ++ 47 ∷ name)

-- the names to be tried for a file that is asked for in the file of this name, where these are the further directories
abbrev pub names_for : List (List ℕ) → List ℕ → IncludedFile → List (List ℕ)
names_for directories own asked =
    cond (begins_with_slash asked.name) (asked.name ∷ []) (
    cond asked.quoted ((directory_of own ++ asked.name) ∷ map (in_directory asked.name) directories) (
    map (in_directory asked.name) directories))

-- what a search comes to: no file; one of more than 16 MiB; or one with its name and its bytes
pub data SearchResult : Type 0 where
  Missing : SearchResult
  Large : SearchResult
  Whole : List ℕ → List ℕ → SearchResult

-- a file, or what the names behind come to
abbrev pub found_or : List ℕ → Option (List ℕ) → SearchResult → SearchResult
found_or name None rest = rest
found_or name (Some bytes) rest = cond (nat_lt most_bytes (length bytes)) Large (Whole name bytes)

abbrev pub search_first : List Named → List ℕ → SearchResult → SearchResult
search_first told name rest = cond (is_utf8 name) (found_or name (find_file told name) rest) rest

-- the first of the names that there is a file of; a name that is not UTF-8 is passed over
abbrev pub search : List Named → List (List ℕ) → SearchResult
search told [] = Missing
search told (name ∷ names) = search_first told name (search told names)
