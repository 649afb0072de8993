-- What stands where names lead, by lists.
use Rattle.std.proofs.Common.{◌≡◌, ℕ, ◌+◌, ◌<◌, ◌≤◌, Bool, true, false, List, [], ◌∷◌, ◌++◌, length, get_or, Option, None, refl, sym, ap, ◌∙◌, arith}
use Rattle.std.specs.Prelude.{nat_lt}
use Rattle.std.proofs.lemmas.Bool.Decides.{nat_tests}
use Rattle.std.proofs.Math.Seq.{get_or-append_seam}
use Rattle.std.proofs.lemmas.List.{get_or_past, get_or_append_left}
use Rattle.acpi_values.specs.Paths.{AbsolutePath}
use Rattle.acpi_state.specs.Outcomes.{choose}
use Rattle.acpi_names.specs.Paths.{path_with}
use Rattle.name_entries.specs.declared.kind.ObjectType.{ObjectType as Named}
use Rattle.name_entries.specs.declared.kind.ObjectType.TheVariants as N

-- one node more
pub named_more : (all : List Named) (here : Named) (i : ℕ) (look : ℕ → Named) → length all ≡ i → ((n : ℕ) → n < i → get_or all n N.Data ≡ look n) → here ≡ look i → (n : ℕ) → n < i + 1 → get_or (all ++ here ∷ []) n N.Data ≡ look n
named_more all here i look size each e n lt = by_place (nat_lt n i) refl
  where
    by_place : (c : Bool) → nat_lt n i ≡ c → get_or (all ++ here ∷ []) n N.Data ≡ look n
    by_place true c =
        let l : n < i = grind (arith, nat_tests, c) in
        get_or_append_left all (here ∷ []) N.Data n (omega (arith, l, size)) ∙ each n l
    by_place false c =
        let at : n ≡ i = grind (arith, nat_tests, c, lt) in
        ap (λ k. get_or (all ++ here ∷ []) k N.Data) (at ∙ sym size) ∙ get_or-append_seam all here [] N.Data ∙ e ∙ ap look (sym at)

-- what stands where the names at nodes lead that denote the paths with these numbers
abbrev pub led : List AbsolutePath → (AbsolutePath → Named) → List (Option ℕ) → ℕ → Named
led paths kind uses node = choose (path_with paths (get_or uses node None)) N.Data kind

-- behind the last use no node is a used name
pub named_all : (paths : List AbsolutePath) (kind : AbsolutePath → Named) (uses : List (Option ℕ)) (all : List Named) (i : ℕ) → length all ≡ i → length uses ≤ i → ((n : ℕ) → n < i → get_or all n N.Data ≡ led paths kind uses n) → (n : ℕ) → get_or all n N.Data ≡ led paths kind uses n
named_all paths kind uses all i size le each n = by_place (nat_lt n i) refl
  where
    by_place : (c : Bool) → nat_lt n i ≡ c → get_or all n N.Data ≡ led paths kind uses n
    by_place true c = each n (grind (arith, nat_tests, c))
    by_place false c =
        let past : i ≤ n = grind (arith, nat_tests, c) in
        get_or_past all n N.Data (omega (arith, size, past))
        ∙ ap (λ o. choose (path_with paths o) N.Data kind) (sym (get_or_past uses n None (omega (arith, le, past))))
