-- Flags by the numbers of paths, one mention after another.
use Rattle.std.proofs.Common.{◌≡◌, ℕ, zero, suc, ◌+◌, ◌<◌, ◌≤◌, ◌++◌, Bool, true, false, List, [], ◌∷◌, length, get_or, map, take, Option, Some, refl, sym, ap, ◌∙◌, arith}
use Rattle.std.specs.Prelude.{◌||◌}
use Rattle.std.specs.List.{list_any}
use Rattle.std.proofs.lemmas.List.{take_all, length-map}
use Rattle.std.proofs.lemmas.List.Folds.{list_any-append}
use Rattle.acpi_values.specs.Paths.{AbsolutePath, is_same_path}
use Rattle.acpi_names.specs.Mentions.{Mention}
use Rattle.acpi_names.specs.Paths.{is_flagged, AreDistinct}
use Rattle.acpi_names.specs.Shown.{shown, all_shown}
use Rattle.acpi_names.specs.declared.mention.Mention.{Mention as CodeMention}
use Rattle.acpi_names.proofs.Closed.{own_number}
use Rattle.name_kinds.proofs.Places.{next_taken}
use Rattle.name_notes.specs.Marks.{Marked, IsMarked}
use Rattle.name_notes.specs.Notes.{is_at, is_among}

-- the path with a number
abbrev pub at_number : List AbsolutePath → ℕ → AbsolutePath
at_number paths n = get_or paths n []

-- the flag of the path with a number
pub flag_is : (paths : List AbsolutePath) (flags : List Bool) (n : ℕ) (test : AbsolutePath → Bool) → AreDistinct paths → n < length paths → Marked paths flags test → get_or flags n false ≡ test (get_or paths n [])
flag_is paths flags n test distinct lt marked = sym (ap (is_flagged flags) (own_number paths n distinct lt)) ∙ marked (get_or paths n [])

or_turned : (a b : Bool) → (a || b) ≡ (b || (a || false))
or_turned true true = refl
or_turned true false = refl
or_turned false true = refl
or_turned false false = refl

or_moved : (a b t : Bool) → (a || (b || t)) ≡ ((b || (a || false)) || t)
or_moved true true t = refl
or_moved true false t = refl
or_moved false true t = refl
or_moved false false t = refl

taken_more : (paths : List AbsolutePath) (numbers : List ℕ) (i : ℕ) → i < length numbers → map (at_number paths) (take (i + 1) numbers) ≡ map (at_number paths) (take i numbers) ++ at_number paths (get_or numbers i 0) ∷ []
taken_more paths numbers i lt = ap (λ k. map (at_number paths) (take k numbers)) (let s : i + 1 ≡ suc i = omega arith in s) ∙ by_suc numbers i lt
  where
    by_suc : (ns : List ℕ) (i : ℕ) → i < length ns → map (at_number paths) (take (suc i) ns) ≡ map (at_number paths) (take i ns) ++ at_number paths (get_or ns i 0) ∷ []
    by_suc [] i lt = absurd (omega (arith, lt))
    by_suc (x ∷ ns) zero lt = refl
    by_suc (x ∷ ns) (suc i) lt = ap (λ ps. at_number paths x ∷ ps) (by_suc ns i (omega (arith, lt)))

-- one number more
pub marked_also : (paths : List AbsolutePath) (old new : List Bool) (numbers : List ℕ) (i at : ℕ) (test : AbsolutePath → Bool) → i < length numbers → get_or paths at [] ≡ get_or paths (get_or numbers i 0) [] → IsMarked paths old new (Some (get_or paths at [])) → Marked paths old (λ path. list_any (is_same_path path) (map (at_number paths) (take i numbers)) || test path)
    → Marked paths new (λ path. list_any (is_same_path path) (map (at_number paths) (take (i + 1) numbers)) || test path)
marked_also paths old new numbers i at test lt same marks before path =
    let taken = map (at_number paths) (take i numbers) in
    marks (λ q. list_any (is_same_path q) taken || test q) before path
    ∙ ap (λ p. is_same_path path p || (list_any (is_same_path path) taken || test path)) same
    ∙ or_moved (is_same_path path (at_number paths (get_or numbers i 0))) (list_any (is_same_path path) taken) (test path)
    ∙ ap (λ b. b || test path) (sym (list_any-append (is_same_path path) taken (at_number paths (get_or numbers i 0) ∷ [])) ∙ ap (list_any (is_same_path path)) (sym (taken_more paths numbers i lt)))

-- all numbers
pub marked_each : (paths : List AbsolutePath) (flags : List Bool) (numbers : List ℕ) (i : ℕ) (test : AbsolutePath → Bool) → length numbers ≤ i → Marked paths flags (λ path. list_any (is_same_path path) (map (at_number paths) (take i numbers)) || test path) → Marked paths flags (λ path. list_any (is_same_path path) (map (at_number paths) numbers) || test path)
marked_each paths flags numbers i test le marked path = marked path ∙ ap (λ ns. list_any (is_same_path path) (map (at_number paths) ns) || test path) (take_all i numbers le)

-- one mention more
pub marked_next : (paths : List AbsolutePath) (old new : List Bool) (path_of : Mention → Option AbsolutePath) (mentions : List CodeMention) (i : ℕ) (m : CodeMention) → i < length mentions → m ≡ get_or mentions i m → IsMarked paths old new (path_of (shown paths m))
    → Marked paths old (is_among path_of (take i (all_shown paths mentions))) → Marked paths new (is_among path_of (take (i + 1) (all_shown paths mentions)))
marked_next paths old new path_of mentions i m lt e marks before path =
    let taken = take i (all_shown paths mentions) in
    let test = λ (x : Mention). is_at path (path_of x) in
    marks (is_among path_of taken) before path ∙ or_turned (is_at path (path_of (shown paths m))) (list_any test taken)
    ∙ sym (list_any-append test taken (shown paths m ∷ [])) ∙ ap (list_any test) (sym (next_taken paths mentions i m lt e))

-- all mentions
pub marked_all : (paths : List AbsolutePath) (flags : List Bool) (path_of : Mention → Option AbsolutePath) (mentions : List CodeMention) (i : ℕ) → length mentions ≤ i → Marked paths flags (is_among path_of (take i (all_shown paths mentions))) → Marked paths flags (is_among path_of (all_shown paths mentions))
marked_all paths flags path_of mentions i le marked path =
    marked path ∙ ap (λ ms. is_among path_of ms path) (take_all i (all_shown paths mentions) (omega (arith, le, length-map mentions (shown paths))))
