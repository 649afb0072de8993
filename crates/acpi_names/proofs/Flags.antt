-- Which paths the flags name.
use Rattle.std.proofs.Common.{◌≡◌, ℕ, zero, ◌<◌, ◌≤◌, Bool, true, false, List, [], ◌∷◌, length, get_or, set, Option, Some, None, refl, sym, ap, ◌∙◌, arith}
use Rattle.std.specs.Prelude.{nat_eq, nat_lt, ◌||◌, if◌then◌else◌}
use Rattle.std.proofs.lemmas.Bool.{eqb-true}
use Rattle.std.proofs.lemmas.Bool.Decides.{nat_tests}
use Rattle.std.proofs.lemmas.List.{get_or_past, get_or-set_same, get_or-set_other}
use Rattle.acpi_values.specs.Paths.{NameSeg, AbsolutePath, is_same_path}
use Rattle.acpi_state.proofs.Lookups.{is_same_path-true}
use Rattle.acpi_state.specs.Outcomes.{choose}
use Rattle.asl_tree.specs.declared.path.Path.{Path as Name}
use Rattle.asl_tree.specs.Names.{declared_path, search_path, candidates, first_of, denoted}
use Rattle.asl_meaning.specs.Declarations.{Declarations, is_named, scope_path}
use Rattle.acpi_names.specs.Paths.{number_in, is_flagged, is_named_in, AreDistinct, Extends}
use Rattle.acpi_names.specs.Parts.{Agrees, Marks, Keeps}
use Rattle.acpi_names.proofs.Numbers.{same_path_refl, same_places, number_at}
use Rattle.acpi_names.proofs.Closed.{own_number, number_within}

pub kept : (old new : List AbsolutePath) (named flags : List Bool) → AreDistinct old → AreDistinct new → Extends old new → length named ≡ length old → ((n : ℕ) → get_or flags n false ≡ get_or named n false) → Keeps old named new flags
kept old new named flags od nd more size same path = by_new (number_in new path) refl
  where
    in_new : (k : ℕ) → number_in old path ≡ Some k → number_in new path ≡ Some k
    in_new k e =
        let lt = number_within old path k e in
        let here : get_or new k [] ≡ path = more.same k lt ∙ number_at old path k e in
        ap (number_in new) (sym here) ∙ own_number new k nd (omega (arith, lt, more.longer))

    none_old : (o : Option ℕ) → number_in old path ≡ o → number_in new path ≡ None → is_flagged flags None ≡ is_flagged named o
    none_old None e h = refl
    none_old (Some k) e h = absurd (let x = sym (in_new k e) ∙ h in grind arith)

    past : (m : ℕ) (o : Option ℕ) → number_in old path ≡ o → number_in new path ≡ Some m → length old ≤ m → is_flagged flags (Some m) ≡ is_flagged named o
    past m None e h le = same m ∙ get_or_past named m false (omega (arith, size, le))
    past m (Some k) e h le =
        let lt = number_within old path k e in
        let same_number : Some k ≡ Some m = sym (in_new k e) ∙ h in
        absurd (let x : k ≡ m = ap or_zero same_number in omega (arith, x, lt, le))
      where
        or_zero : Option ℕ → ℕ
        or_zero None = 0
        or_zero (Some k) = k

    by_less : (m : ℕ) (c : Bool) → nat_lt m (length old) ≡ c → number_in new path ≡ Some m → is_flagged flags (Some m) ≡ is_flagged named (number_in old path)
    by_less m true c h =
        let lt : m < length old = grind (arith, nat_tests, c) in
        let here : get_or old m [] ≡ path = sym (more.same m lt) ∙ number_at new path m h in
        let number : number_in old path ≡ Some m = ap (number_in old) (sym here) ∙ own_number old m od lt in
        same m ∙ sym (ap (is_flagged named) number)
    by_less m false c h = past m (number_in old path) refl h (let le : length old ≤ m = grind (arith, nat_tests, c) in le)

    by_new : (o : Option ℕ) → number_in new path ≡ o → is_named_in new flags path ≡ is_named_in old named path
    by_new None h = ap (is_flagged flags) h ∙ none_old (number_in old path) refl h
    by_new (Some m) h = ap (is_flagged flags) h ∙ by_less m (nat_lt m (length old)) refl h

pub marked : (paths : List AbsolutePath) (named : List Bool) (n : ℕ) → AreDistinct paths → n < length paths → length named ≡ length paths → Marks paths named paths (set named n true) (get_or paths n [])
marked paths named n distinct lt size path = by_number (number_in paths path) refl
  where
    by_place : (m : ℕ) (c : Bool) → nat_eq m n ≡ c → number_in paths path ≡ Some m → get_or (set named n true) m false ≡ (is_same_path path (get_or paths n []) || get_or named m false)
    by_place m true c h =
        let e : m ≡ n = eqb-true m n c in
        let here : path ≡ get_or paths n [] = sym (number_at paths path m h) ∙ ap (λ k. get_or paths k []) e in
        ap (λ k. get_or (set named n true) k false) e ∙ get_or-set_same named n true false (omega (arith, lt, size))
        ∙ sym (ap (λ b. b || get_or named m false) (ap (λ p. is_same_path p (get_or paths n [])) here ∙ same_path_refl (get_or paths n [])))
    by_place m false c h =
        let other : is_same_path path (get_or paths n []) ≡ false =
        ap (λ p. is_same_path p (get_or paths n [])) (sym (number_at paths path m h)) ∙ same_places paths m n distinct (number_within paths path m h) lt ∙ c in
        get_or-set_other named n m true false (grind (arith, nat_tests, c))
        ∙ sym (ap (λ b. b || get_or named m false) other)

    none_same : (c : Bool) → is_same_path path (get_or paths n []) ≡ c → number_in paths path ≡ None → false ≡ (is_same_path path (get_or paths n []) || false)
    none_same false c h = sym (ap (λ b. b || false) c)
    none_same true c h =
        absurd (let x = sym (own_number paths n distinct lt) ∙ ap (number_in paths) (sym (is_same_path-true path (get_or paths n []) c)) ∙ h in grind arith)

    by_number : (o : Option ℕ) → number_in paths path ≡ o → is_named_in paths (set named n true) path ≡ (is_same_path path (get_or paths n []) || is_named_in paths named path)
    by_number None h =
        ap (is_flagged (set named n true)) h ∙ none_same (is_same_path path (get_or paths n [])) refl h
        ∙ sym (ap (λ o. is_same_path path (get_or paths n []) || is_flagged named o) h)
    by_number (Some m) h =
        ap (is_flagged (set named n true)) h ∙ by_place m (nat_eq m n) refl h
        ∙ sym (ap (λ o. is_same_path path (get_or paths n []) || is_flagged named o) h)

pub candidates_same : (has other : AbsolutePath → Bool) → ((path : AbsolutePath) → has path ≡ other path) → (paths : List AbsolutePath) → candidates has paths ≡ candidates other paths
candidates_same has other h [] = refl
candidates_same has other h (path ∷ paths) =
    ap (λ c. if c then path ∷ candidates has paths else candidates has paths) (h path)
    ∙ ap (λ ps. if other path then path ∷ ps else ps) (candidates_same has other h paths)

pub denoted_same : (has other : AbsolutePath → Bool) → ((path : AbsolutePath) → has path ≡ other path) → (name : Name) (scope : AbsolutePath) → denoted has name scope ≡ denoted other name scope
denoted_same has other h name scope = ap first_of (candidates_same has other h (search_path name scope))

first_place : (root : Bool) (up : ℕ) (segs : List NameSeg) (scope : AbsolutePath) → choose (first_of (search_path (record { root = root; up = up; segs = segs }) scope)) [] (λ path. path) ≡ declared_path (record { root = root; up = up; segs = segs }) scope
first_place false zero (seg ∷ []) [] = refl
first_place false zero (seg ∷ []) (outer ∷ scope) = refl
first_place root up segs scope = refl

-- the path of a Scope
pub scope_is : (paths : List AbsolutePath) (named : List Bool) (name : Name) (scope : AbsolutePath) (d : Declarations) → Agrees paths named d → scope_path d name scope ≡ choose (denoted (is_named_in paths named) name scope) (declared_path name scope) (λ path. path)
scope_is paths named name scope d h =
    ap (λ o. choose o (choose (first_of (search_path name scope)) [] (λ path. path)) (λ path. path)) (sym (denoted_same (is_named_in paths named) (is_named d) h name scope))
    ∙ ap (λ p. choose (denoted (is_named_in paths named) name scope) p (λ path. path)) (first_place name.root name.up name.segs scope)
