-- One more table of a dump that is gone through from the front.
use Rattle.std.proofs.Common.{◌≡◌, ℕ, ◌+◌, cond, List, [], ◌∷◌, ◌++◌, sym, ap, ◌∙◌, arith, append-nil, append_assoc}
use Rattle.std.proofs.lemmas.Grind.{common_steps, flat_map-append}
use Rattle.std.specs.List.{flat_map}
use Rattle.std.specs.Str.{bytes_eq}
use Rattle.acpi_extract.specs.Dump.{Dumped, stem_of}
use Rattle.acpi_extract.specs.Due.{count_of, numbered}

pub count_next : (stem : List ℕ) (before after : List Dumped) (table : Dumped) → after ≡ before ++ table ∷ [] → count_of stem after ≡ count_of stem before + cond (bytes_eq stem (stem_of table.0)) 1 0
count_next stem before after table e =
    ap (count_of stem) e ∙ grind (arith, common_steps)

-- the last table has the number that those before it leave
numbered-last : (front before : List Dumped) (table : Dumped) → numbered front (before ++ table ∷ []) ≡ numbered front before ++ (count_of (stem_of table.0) (front ++ before) + 1, table) ∷ []
numbered-last front [] table = ap (λ (tables : List Dumped). (count_of (stem_of table.0) tables + 1, table) ∷ []) (sym (append-nil front))
numbered-last front (first ∷ rest) table =
    let head : ℕ × Dumped = (count_of (stem_of first.0) front + 1, first) in
    ap (λ (more : List (ℕ × Dumped)). head ∷ more) (numbered-last (front ++ first ∷ []) rest table)
    ∙ ap (λ (tables : List Dumped). head ∷ (numbered (front ++ first ∷ []) rest ++ (count_of (stem_of table.0) tables + 1, table) ∷ [])) (append_assoc front (first ∷ []) rest)

-- the part of a table is behind those that stand already
pub part_next : {X : Type 0} (part : ℕ × Dumped → List X) (done more : List X) (before after : List Dumped) (number : ℕ) (table : Dumped) → after ≡ before ++ table ∷ [] → number ≡ count_of (stem_of table.0) before + 1 → more ≡ done ++ part (number, table) → done ≡ flat_map part (numbered [] before) → more ≡ flat_map part (numbered [] after)
part_next part done more before after number table f g h k =
    let last : List (ℕ × Dumped) = (number, table) ∷ [] in
    let here : numbered [] before ++ last ≡ numbered [] after =
    ap (λ (n : ℕ). numbered [] before ++ (n, table) ∷ []) g ∙ sym (ap (numbered []) f ∙ numbered-last [] before table) in
    h ∙ ap (λ (d : List _). d ++ part (number, table)) k ∙ ap (λ (p : List _). flat_map part (numbered [] before) ++ p) (sym (append-nil (part (number, table)))) ∙ sym (flat_map-append part (numbered [] before) last) ∙ ap (flat_map part) here
