-- Paths as they are written (ACPI Specification 6.4, 19.2.2).
use Rattle.std.specs.Prelude.{ℕ, zero, suc, ◌==◌, nat_le, nat_lt, not, Bool, true, false, ◌&&◌, ◌||◌, if◌then◌else◌, List, [], ◌∷◌, drop}
use Rattle.std.specs.Prelude.{Option, Some, None}
use Rattle.std.specs.List.{list_any, position_or_len}
use Rattle.acpi_state.specs.Outcomes.{choose}
use Rattle.acpi_values.specs.Paths.{NameSeg}
use Rattle.asl_tree.specs.declared.path.Path.{Path}

-- a path that is no word has `\`, `^` or `.` in it
abbrev pub is_path_byte : ℕ → Bool
is_path_byte b = (b == 92) || ((b == 94) || (b == 46))

abbrev pub is_path : List ℕ → Bool
is_path text = list_any is_path_byte text

abbrev pub is_lead : ℕ → Bool
is_lead b = (nat_le 65 b && nat_le b 90) || (b == 95)

abbrev pub is_name_byte : ℕ → Bool
is_name_byte b = is_lead b || (nat_le 48 b && nat_le b 57)

-- four characters, of which the first is no digit
abbrev pub segment_with : ℕ → ℕ → ℕ → ℕ → Option NameSeg
segment_with a b c d = if is_lead a && (is_name_byte b && (is_name_byte c && is_name_byte d)) then Some (a ∷ b ∷ c ∷ d ∷ []) else None

-- a segment of at most four characters, filled with `_`
abbrev pub segment_of : List ℕ → Option NameSeg
segment_of (a ∷ []) = segment_with a 95 95 95
segment_of (a ∷ b ∷ []) = segment_with a b 95 95
segment_of (a ∷ b ∷ c ∷ []) = segment_with a b c 95
segment_of (a ∷ b ∷ c ∷ d ∷ []) = segment_with a b c d
segment_of _ = None

-- the words between the dots
abbrev pub with_first : ℕ → List (List ℕ) → List (List ℕ)
with_first b [] = (b ∷ []) ∷ []
with_first b (word ∷ words) = (b ∷ word) ∷ words

abbrev pub is_dot : ℕ → Bool
is_dot b = b == 46

abbrev pub words_of : List ℕ → List (List ℕ)
words_of [] = [] ∷ []
words_of (b ∷ bytes) = if is_dot b then [] ∷ words_of bytes else with_first b (words_of bytes)

abbrev pub behind_segment : NameSeg → Option (List NameSeg) → Option (List NameSeg)
behind_segment segment others = choose others None (λ segments. Some (segment ∷ segments))

abbrev pub one_segment : List ℕ → Option (List NameSeg)
one_segment text = choose (segment_of text) None (λ segment. Some (segment ∷ []))

-- the segments of words, where there are at most so many
abbrev pub segments_of : List (List ℕ) → ℕ → Option (List NameSeg)
segments_of [] n = Some []
segments_of (word ∷ words) zero = None
segments_of (word ∷ words) (suc n) = choose (segment_of word) None (λ segment. behind_segment segment (segments_of words n))

unfoldable pub segments_in : ℕ → List ℕ → Option (List NameSeg)
segments_in most text = segments_of (words_of text) most

-- what stands behind a prefix: nothing, or at most 255 segments
abbrev pub rest_segments : List ℕ → Option (List NameSeg)
rest_segments [] = Some []
rest_segments (b ∷ bytes) = segments_in 255 (b ∷ bytes)

abbrev pub path_with : Bool → ℕ → Option (List NameSeg) → Option Path
path_with root up segments = choose segments None (λ segments. Some (record { root = root; up = up; segs = segments }))

abbrev pub is_no_caret : ℕ → Bool
is_no_caret b = not (b == 94)

-- so many `^`, and what stands behind them
abbrev pub carets : List ℕ → ℕ
carets text = position_or_len is_no_caret text

abbrev pub relative_path : List ℕ → Option Path
relative_path text = if nat_lt (carets text) 4294967296 then path_with false (carets text) (rest_segments (drop (carets text) text)) else
    None

-- a path: from the root, from so many scopes up, or from where it stands
abbrev pub path_of : List ℕ → Option Path
path_of [] = None
path_of (b ∷ bytes) = if b == 92 then path_with true 0 (rest_segments bytes) else relative_path (b ∷ bytes)
