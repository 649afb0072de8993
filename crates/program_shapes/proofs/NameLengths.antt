-- How many bytes a name has.
use Rattle.std.proofs.Common.{◌≡◌, refl, sym, ap, ◌∙◌, ℕ, ◌+◌, ◌*◌, Bool, true, false, if◌then◌else◌, List, [], ◌∷◌, length, arith}
use Rattle.std.specs.List.{All}
use Rattle.std.proofs.lemmas.List.Elements.{All-head, All-tail}
use Rattle.std.proofs.lemmas.List.{length-append, length-replicate}
use Rattle.acpi_values.specs.Paths.{NameSeg}
use Rattle.asl_tree.specs.declared.path.Path.{Path}
use Rattle.aml_code.specs.Encoding.{joined_segments, prefix_bytes, name_path_bytes, name_bytes}
use Rattle.acpi_names.specs.Shortest.{segments_length, name_length}

abbrev HasFour : NameSeg → Type 0
HasFour seg = length seg ≡ 4

abbrev HaveFour : List NameSeg → Type 0
HaveFour segs = All HasFour segs

joined_length : (segs : List NameSeg) → HaveFour segs → length (joined_segments segs) ≡ 4 * length segs
joined_length [] four = refl
joined_length (seg ∷ segs) four = let rest = joined_length segs (All-tail HasFour seg segs four) in let first = All-head HasFour seg segs four in omega (arith, length-append seg (joined_segments segs), first, rest)

path_length : (segs : List NameSeg) → HaveFour segs → length (name_path_bytes segs) ≡ segments_length (length segs)
path_length [] four = refl
path_length (a ∷ []) four = All-head HasFour a [] four
path_length (a ∷ b ∷ []) four = let joined = joined_length (a ∷ b ∷ []) four in omega (arith, joined)
path_length (a ∷ b ∷ c ∷ segs) four = let joined = joined_length (a ∷ b ∷ c ∷ segs) four in omega (arith, joined)

prefix_length : (root : Bool) (up : ℕ) (segs : List NameSeg) → length (prefix_bytes (record { root = root; up = up; segs = segs })) ≡ (if root then 1 else up)
prefix_length true up segs = refl
prefix_length false up segs = length-replicate up 0x5E

-- a name takes as many bytes as are counted where the shortest one is chosen
pub bytes_counted : (name : Path) → HaveFour name.segs → name_length name ≡ length (name_bytes name)
bytes_counted name four =
    let prefix = prefix_length name.root name.up name.segs in
    let rest = path_length name.segs four in
    sym (length-append (prefix_bytes name) (name_path_bytes name.segs) ∙ ap (λ n. n + length (name_path_bytes name.segs)) prefix ∙ ap (λ n. (if name.root then 1 else name.up) + n) rest)
